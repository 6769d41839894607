use Rattle.std.proofs.Common.{◌∙◌, ℕ, List, subst, sym}
use Rattle.std.specs.Prelude.{IfOk}
use Rattle.scan_laws.specs.Adding.{IsAdding}
use Rattle.tangle_scan.specs.Held.{IsComplexBehind, scan_at, scan_behind}
use Rattle.tangle_scan.proofs.ReadySites.{place-of, ready-made}
use Rattle.tangle_scan.proofs.adding.add_crossing.Goals as goal

pub add_at-requires-clause-ready : goal.add_at-requires-clause-ready
add_at-requires-clause-ready g c =
    let front = c.args.front.now in
    ready-made g.F.PrimeField.P _ c.args.next.now c.requires.front c.requires.more c.requires.next c.requires.complex c.deref-2.ensures.0
    (c.deref-3.ensures.0
    ∙ c.near_arcs-near.ensures front.diagram front.done (place-of front c.requires.front c.requires.more)
    (c.deref.ensures.0 ∙ c.requires.front.open_arcs) c.crossing-crossing.ensures)
    c.deref-4.ensures.0 c.crossing-crossing.ensures

pub returns-clause-complex : goal.returns-clause-complex
returns-clause-complex g c =
    let next = c.args.next.now in
    subst (λ (xs : List ℕ). IfOk c.add_at.result (λ made. IsComplexBehind g.F.PrimeField.P next.done xs made)) c.deref-4.ensures.0
    (subst (λ n. IfOk c.add_at.result (λ made. IsComplexBehind g.F.PrimeField.P n c.deref-4.result.now made)) (sym c.requires.next.done)
    c.add_at.ensures.complex)

pub returns-clause-adding : goal.returns-clause-adding
returns-clause-adding g c =
    let front = c.args.front.now in
    let next = c.args.next.now in
    let scan = scan_at front c.args.complex.now in
    subst (λ (xs : List ℕ). IfOk c.add_at.result (λ made. IsAdding g.F.PrimeField.P 0 0 front.diagram scan (scan_behind next.done xs made)))
    c.deref-4.ensures.0
    (subst
    (λ n. IfOk c.add_at.result (λ made. IsAdding g.F.PrimeField.P 0 0 front.diagram scan (scan_behind n c.deref-4.result.now made)))
    (sym c.requires.next.done) c.add_at.ensures.adding)
