use Rattle.std.proofs.Common.{List, ℕ, sym, subst}
use Rattle.scan_laws.specs.Steps.{IsReached}
use Rattle.tangle_scan.specs.Held.{IsComplexBehind, IsOpenAt, scan_behind}
use Rattle.tangle_scan.proofs.FirstLemmas.{first-complex, first-opened, first-reached}
use Rattle.tangle_scan.proofs.scan.Scan.new.Goals as goal

pub invariant_of-result : goal.invariant_of-result
invariant_of-result g c =
    let p = g.F.PrimeField.P in
    let code = c.args.diagram.now in
    let complex = c.in_ok-complex.complex in
    let first = c.in_ok-complex.ensures in
    record {
      front = subst (λ (opened : List ℕ). IsOpenAt code 0 opened) (sym c.new.ensures) (first-opened code c.diagram_laws.ensures.accepted
          c.diagram_laws.ensures.few);
      complex = subst (λ (opened : List ℕ). IsComplexBehind p 0 opened complex) (sym c.new.ensures) (first-complex complex first p);
      reached = subst (λ (opened : List ℕ). IsReached p 0 0 code (scan_behind 0 opened complex)) (sym c.new.ensures)
          (first-reached complex first p code);
    }
