use Rattle.std.proofs.Common.{◌≡◌, take, true, slice_index}
use Rattle.std.specs.Prelude.{nat_eq}
use Rattle.std.specs.List.{list_all}
use Rattle.tangle_maps.proofs.choices.is_done.Given as goal

abbrev pub invariant-names : goal.invariant-names
invariant-names l = list_all (λ k. nat_eq (slice_index l.left k) 0) (take l.name-index l.names) ≡ true
