use Rattle.tangle_scan.specs.Eliminations.{IsRowedFrom}
use Rattle.tangle_scan.proofs.Passes.{alive_count}
use Rattle.tangle_scan.proofs.clearing.finish.Given as goal

abbrev pub invariant-pivots : goal.invariant-pivots
invariant-pivots g l = IsRowedFrom g.F.PrimeField.P l.front l.initial.rowed.complex l.rowed

abbrev pub decreases-pivots : goal.decreases-pivots
decreases-pivots g l = alive_count l.rowed.complex
