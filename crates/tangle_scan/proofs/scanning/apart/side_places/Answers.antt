use Rattle.std.proofs.Common.{◌≡◌, ◌∙◌, ◌<◌, ◌++◌, [], ◌∷◌, ℕ, List, length, Bool, cond, ap, ap₂, arith, subst, sym}
use Rattle.std.specs.List.{All, filter, range_with_len}
use Rattle.kh_types.proofs.Ranges.{filter-range_more}
use Rattle.tangle_scan.specs.Sides.{is_on_side}
use Rattle.tangle_scan.proofs.PieceLemmas.{kept-few, kept-within}
use Rattle.tangle_scan.proofs.scanning.apart.side_places.Goals as goal

pub push_if-requires : goal.push_if-requires
push_if-requires c =
    let keep = is_on_side c.args.is_first c.args.diagram.now.crossings in
    omega (arith, ap length c.places.invariant, kept-few keep c.places.place, c.count-place-end.ensures.fits)

pub places-preserved : goal.places-preserved
places-preserved c =
    let place = c.places.place in
    let keep = is_on_side c.args.is_first c.args.diagram.now.crossings in
    c.push_if.ensures
    ∙ ap₂ (λ (places : List ℕ) (b : Bool). places ++ cond b (place ∷ []) []) c.places.invariant c.is_on_side.ensures
    ∙ sym (filter-range_more keep 0 place place (omega arith))

pub returns-clause-places : goal.returns-clause-places
returns-clause-places c =
    let keep = is_on_side c.args.is_first c.args.diagram.now.crossings in
    let all : c.places.place ≡ length c.args.diagram.now.crossings =
    omega (arith, c.places-test.false, c.places.auto.place-end, c.count-place-end.ensures.count) in
    c.places.invariant ∙ ap (λ (n : ℕ). filter keep (range_with_len 0 n)) all

pub returns-clause-within : goal.returns-clause-within
returns-clause-within c =
    let crossings = c.args.diagram.now.crossings in
    subst (λ (places : List ℕ). All (λ place. place < length crossings) places) (sym (returns-clause-places c))
    (kept-within (is_on_side c.args.is_first crossings) crossings)
