use Rattle.std.proofs.Common.{refl}
use Rattle.std.specs.Str.{chars, is_utf8}
use Rattle.serde_json.proofs.OnLiterals.{serde_json_on_literals}
use Rattle.json_code.specs.Steps.{json_reading_of}
use Rattle.json_code.proofs.laws.worked_texts.Goals as goal

-- each text is read by computing
pub returns : goal.returns
unfolding json_reading_of chars is_utf8 serde_json_on_literals
returns c = record {
  trefoil = refl;
  empty = refl;
  no_arc = refl;
  missing = refl;
  no_number = refl;
  fifth = refl;
  no_crossing = refl;
  too_many = refl;
  no_array = refl;
  cut_off = refl;
  nothing = refl;
}
