use Rattle.std.proofs.Common.{◌≡◌, List, [], subst, sym}
use Rattle.std.proofs.lemmas.Result.{on_ok_weaker}
use Rattle.dotted_maps.specs.declared.term.Term.{Term}
use Rattle.tangle_maps.specs.Sums.{AreReduced}
use Rattle.tangle_maps.specs.Ways.{IsCancelledAlong}
use Rattle.tangle_scan.proofs.Cancels.{changed-new, reduced-none}
use Rattle.tangle_scan.proofs.clearing.ways.cancel_new.Goals as goal

pub take_off-requires-clause-entry : goal.take_off-requires-clause-entry
take_off-requires-clause-entry g c =
    let p = g.F.PrimeField.P in
    let empty : c.new-terms.result.items ≡ [] = cc in
    subst (AreReduced p) (sym empty) (reduced-none p)

pub returns-clause-changed : goal.returns-clause-changed
returns-clause-changed g c =
    let p = g.F.PrimeField.P in
    let is_less = IsCancelledAlong p (g.F.PrimeField.value_of c.args.number) c.args.way.now in
    let terms = c.take_off.new.terms.items in
    let empty : c.new-terms.result.items ≡ [] = cc in
    on_ok_weaker c.add_map.result
    (λ added.
    changed-new is_less p c.args.head c.args.column.now.items c.add_map.new.column.items terms c.requires.new
    (subst (λ (old : List Term). is_less old terms) empty c.in_ok-take_off.ensures.entry) (added p c.take_off.ensures.reduced))
    c.add_map.ensures.changed
