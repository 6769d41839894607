use Rattle.std.proofs.Common.{◌≡◌, ◌∙◌, ℕ, ◌<◌, List, [], ◌∷◌, ◌++◌, map, get_or, ap, ap₂, sym, subst, arith}
use Rattle.std.proofs.lemmas.List.{take_all}
use Rattle.kh_types.specs.Complex.{cancel}
use Rattle.prime_field.specs.Residues.{inverse_mod, product_mod}
use Rattle.sparse_block.specs.Entries.{Entry, AreEntries, entries_of, value_at}
use Rattle.cancel_step.specs.Copies.{line_across}
use Rattle.cancel_step.specs.Sides.{line_on, other_side, place_on}
use Rattle.cancel_step.specs.declared.side.Side.{Side}
use Rattle.cancel_step.proofs.AcrossLemmas.{entry-below, line_more}
use Rattle.sparse_block.proofs.EntryValues.{value-below}
use Rattle.cancel_step.proofs.SideLemmas.{entries-on, pivot-on, size_on}
use Rattle.cancel_step.proofs.applying.lines_after.Given.{Over}
use Rattle.cancel_step.proofs.applying.lines_after.Goals.{After-place_on}
use Rattle.cancel_step.proofs.applying.lines_after.Goals as goal

are_own : (g : Over) (c : After-place_on g)
    → AreEntries g.F.PrimeField.P (size_on c.args.side c.args.complex.now.complex c.args.pivot.degree) c.own_entries-own.result.now
are_own g c =
    let p = g.F.PrimeField.P in
    let complex = c.args.complex.now.complex in
    let pivot = c.args.pivot in
    let side = c.args.side in
    subst (AreEntries p (size_on side complex pivot.degree)) (sym c.own_entries-own.ensures)
    (entries-on side p complex pivot.degree (place_on side pivot) c.complex_laws.ensures.complex)

is_across : (g : Over) (c : After-place_on g)
    → c.own_entries-across.result.now
    ≡ entries_of (line_on (other_side c.args.side) c.args.complex.now.complex c.args.pivot.degree
    (place_on (other_side c.args.side) c.args.pivot))
is_across g c =
    let complex = c.args.complex.now.complex in
    let pivot = c.args.pivot in
    c.own_entries-across.ensures
    ∙ ap (λ (side : Side). entries_of (line_on side complex pivot.degree (place_on side pivot))) c.other_side.ensures

is_place : (g : Over) (c : After-place_on g) → c.place_on.result ≡ place_on (other_side c.args.side) c.args.pivot
is_place g c = c.place_on.ensures ∙ ap (λ (side : Side). place_on side c.args.pivot) c.other_side-2.ensures

pub of-value-requires : goal.of-value-requires
of-value-requires g c =
    let at = (goal.at.of-value-requires g c).After-place_on in
    omega (
      arith,
      c.value_at.ensures,
      value-below g.F.PrimeField.P (size_on c.args.side c.args.complex.now.complex c.args.pivot.degree) c.place_on.result
          c.own_entries-own.result.now c.element_laws.ensures.field (are_own g at),
    )

pub of-requires : goal.of-requires
of-requires g c =
    let at = (goal.at.of-requires g c).After-place_on in
    let p = g.F.PrimeField.P in
    let complex = c.args.complex.now.complex in
    let pivot = c.args.pivot in
    let side = other_side c.args.side in
    let size = size_on side complex pivot.degree in
    let across = c.own_entries-across.result.now in
    let are : AreEntries p size across =
    subst (AreEntries p size) (sym (is_across g at))
    (entries-on side p complex pivot.degree (place_on side pivot) c.complex_laws.ensures.complex) in
    subst (λ (value : ℕ). value < p) (sym (c.value.ensures.value ∙ ap (λ (entry : Entry). entry.value) c.entry-item.is))
    (entry-below p size c.entries.entry-index across c.entry-item.result are c.entries-test.true)

pub quotient-factor-requires : goal.quotient-factor-requires
quotient-factor-requires g c none =
    let at = (goal.at.quotient-factor-requires g c).After-place_on in
    let pivot = c.args.pivot in
    let side = c.args.side in
    c.requires
    (sym (pivot-on side c.args.complex.now.complex pivot)
    ∙ ap (λ (es : List Entry). value_at es (place_on (other_side side) pivot)) (sym c.own_entries-own.ensures)
    ∙ ap (value_at c.own_entries-own.result.now) (sym (is_place g at)) ∙ sym c.value_at.ensures ∙ sym c.of-value.ensures ∙ none)

pub subtract_into-requires-clause-line : goal.subtract_into-requires-clause-line
subtract_into-requires-clause-line g c =
    let p = g.F.PrimeField.P in
    let complex = c.args.complex.now.complex in
    let degree = c.args.pivot.degree in
    let side = c.args.side in
    let place = c.place-place.result in
    let are : AreEntries p (size_on side complex degree) c.entries_beside-line.result.now =
    subst (AreEntries p (size_on side complex degree)) (sym c.entries_beside-line.ensures)
    (entries-on side p complex degree place c.complex_laws.ensures.complex) in
    (size_on side complex degree, are)

pub subtract_into-requires-clause-other : goal.subtract_into-requires-clause-other
subtract_into-requires-clause-other g c =
    let at = (goal.at.subtract_into-requires-clause-other g c).After-place_on in
    (size_on c.args.side c.args.complex.now.complex c.args.pivot.degree, are_own g at)

pub entries-preserved : goal.entries-preserved
entries-preserved g c =
    let at = (goal.at.entries-preserved g c).After-place_on in
    let entry = c.entry-item.result in
    let is_entry = c.entry-item.is in
    let complex = c.args.complex.now.complex in
    let at_place = c.place-place.ensures.place ∙ ap (λ (entry : Entry). entry.place) is_entry in
    let line : c.entries_beside-line.result.now
    ≡ entries_of (line_on c.args.side complex c.args.pivot.degree (get_or c.own_entries-across.result.now c.entries.entry-index entry).place) =
    c.entries_beside-line.ensures ∙ ap (λ (place : ℕ). entries_of (line_on c.args.side complex c.args.pivot.degree place)) at_place in
    let pushed =
    subst
    (λ (place : ℕ).
    c.push.new.self.items ≡ c.entries.lines.items ++ record { place = place; entries = c.in_ok-entries.entries.items } ∷ [])
    at_place c.in_ok-push.ensures.items in
    line_more g.F.PrimeField.P complex c.args.pivot c.element_laws.ensures.field
    c.complex_laws.ensures.complex c.requires c.args.side c.own_entries-across.result.now c.entries_beside-line.result.now
    c.own_entries-own.result.now c.in_ok-entries.entries.items c.entries.entry-index
    (g.F.PrimeField.value_of c.quotient-factor.result) c.value_at.result entry c.entries.lines.items c.push.new.self.items
    (is_across g at) c.entries-test.true line c.own_entries-own.ensures
    (c.value_at.ensures ∙ ap (value_at c.own_entries-own.result.now) (is_place g at))
    (c.quotient-factor.ensures.value
    ∙ ap₂ (λ x y. product_mod g.F.PrimeField.P x (inverse_mod g.F.PrimeField.P y)) (c.of.ensures ∙ c.value.ensures.value ∙ ap (λ (entry : Entry). entry.value) is_entry) c.of-value.ensures)
    (λ size are are_own. c.in_ok-entries.ensures.ok ∙ c.deref.ensures.value ∙ c.in_ok-subtract_into.ensures size are are_own)
    c.entries.invariant pushed

pub returns : goal.returns
returns g c =
    let at = (goal.at.returns g c).After-place_on in
    let complex = c.args.complex.now.complex in
    let pivot = c.args.pivot in
    c.entries.invariant
    ∙ ap
    (λ (across : List Entry). map (line_across (line_on c.args.side (cancel g.F.PrimeField.P complex pivot) pivot.degree)) across)
    (take_all c.entries.entry-index c.own_entries-across.result.now c.entries-test.false ∙ is_across g at)
