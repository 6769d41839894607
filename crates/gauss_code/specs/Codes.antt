-- The code that the body of a text and signs stand for (Knot Atlas, "Gauss Codes").
use Rattle.std.specs.Prelude.{List, map, ℤ}
use Rattle.std.specs.List.{range_with_len}
use Rattle.kh_types.specs.Code.{Code}
use Rattle.code_passes.specs.Passes.{all_passes, slots_by_passes}
use Rattle.gauss_code.specs.Listings.{Body, groups_of, crossing_count, loop_group_count}

-- the code of a body and signs: its crossings by their numbers, and its loops
abbrev pub listed_code : Body → List ℤ → Code
listed_code body signs = record {
  crossings = map (slots_by_passes (all_passes 1 (groups_of body)) signs) (range_with_len 0 (crossing_count body));
  loops = loop_group_count body;
}
