use Rattle.tangle_scan.specs.Eliminations.{IsRowedFrom}
use Rattle.tangle_scan.proofs.clearing.pass_all.Given as goal

abbrev pub invariant-places : goal.invariant-places
invariant-places g l = IsRowedFrom g.F.PrimeField.P l.front l.initial.rowed.complex l.rowed
