use Rattle.std.proofs.Common.{Err, refl}
use Rattle.undo_stack.specs.declared.stop.ScriptStop.TheVariants as stops
use Rattle.kh_work.proofs.CaseAnswers.{IsAnswer-edited, IsAnswer-scheduled}
use Rattle.kh_work.proofs.laws.cases.refused_scripts_are_answered_by_their_line.Goals as goal

pub returns : goal.returns
returns c = record {
  schedule = λ words bytes command code line meant is few read is_accepted script.
      IsAnswer-scheduled words bytes command code (Err (stops.Line line)) _ meant is few read is_accepted script refl;
  schedule_limit = λ words bytes command code count meant is few read is_accepted script.
      IsAnswer-scheduled words bytes command code (Err (stops.LineLimit count)) _ meant is few read is_accepted script refl;
  edit = λ words bytes command code line meant is few read is_accepted script.
      IsAnswer-edited words bytes command code (Err (stops.Line line)) _ meant is few read is_accepted script refl;
  edit_limit = λ words bytes command code count meant is few read is_accepted script.
      IsAnswer-edited words bytes command code (Err (stops.LineLimit count)) _ meant is few read is_accepted script refl;
}
