use Rattle.std.proofs.Common.{◌≡◌, take}
use Rattle.std.specs.List.{list_all}
use Rattle.orient_arcs.specs.Pairing.{is_paired_at}
use Rattle.orient_arcs.proofs.pairing.all_are_paired.Given as goal

abbrev pub invariant-passes : goal.invariant-passes
invariant-passes l = l.are_paired ≡ list_all (is_paired_at l.passes) (take l.pass-index l.passes)
