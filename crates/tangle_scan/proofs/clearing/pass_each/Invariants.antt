use Rattle.tangle_scan.specs.Eliminations.{IsRowedFrom}
use Rattle.tangle_scan.proofs.clearing.pass_each.Given as goal

abbrev pub invariant-passes : goal.invariant-passes
invariant-passes g l = IsRowedFrom g.F.PrimeField.P l.front l.initial.rowed.complex l.rowed
