use Rattle.std.proofs.Common.{◌≡◌, ◌≤◌, take}
use Rattle.orient_arcs.specs.Renumbered.{bound_of}
use Rattle.orient_arcs.proofs.renumbering.bound_of.Given as goal

abbrev pub invariant-passes : goal.invariant-passes
invariant-passes l = record {
  bound : l.bound ≡ bound_of (take l.pass-index l.passes);
  few : l.bound ≤ 256;
}
