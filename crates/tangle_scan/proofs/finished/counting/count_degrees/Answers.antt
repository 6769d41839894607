use Rattle.std.proofs.Common.{◌≡◌, ◌∙◌, ◌++◌, [], ◌∷◌, List, ℤ, ap₂, subst, sym, arith, to_z, of_z}
use mir.Syntax.{w16}
use Rattle.std.specs.Prelude.{Some}
use Rattle.std.specs.List.{position}
use Rattle.std.proofs.lemmas.Int.{ints}
use Rattle.std.proofs.lemmas.List.Quantifiers.{position-Some}
use Rattle.tangle_scan.specs.declared.finished.counting.Tally.{Tally}
use Rattle.tangle_scan.specs.Tallies.{IsTallied, is_tally_of, tally_of}
use Rattle.tangle_scan.proofs.TallyLemmas.{no_tally, tallied-new, tallied-raised}
use Rattle.tangle_scan.proofs.finished.counting.count_degrees.Goals as goal

pub returns-in-Some : goal.returns-in-Some
returns-in-Some c =
    let degree = c.args.degree in
    let items = c.args.tallies.now.items in
    let same : to_z w16 (of_z w16 c.args.shift) ≡ c.args.shift = omega (arith, ints) in
    let is : position (is_tally_of degree c.args.shift) items ≡ Some c.in-Some.place =
    ap₂ (λ (shift : ℤ) (tallies : List Tally). position (is_tally_of degree shift) tallies) (sym same) (sym c.deref.ensures.value)
    ∙ sym c.in-Some.ensures in
    let found = position-Some (is_tally_of degree c.args.shift) items c.in-Some.place no_tally is in
    subst (λ (new : List Tally). IsTallied degree c.args.shift items new) (sym c.raise.ensures)
    (tallied-raised degree c.args.shift items c.in-Some.place found.0 found.1)

pub returns-in_ok-push-in-None : goal.returns-in_ok-push-in-None
returns-in_ok-push-in-None c =
    let degree = c.args.degree in
    let items = c.args.tallies.now.items in
    let same : to_z w16 (of_z w16 c.args.shift) ≡ c.args.shift = omega (arith, ints) in
    subst (λ (new : List Tally). IsTallied degree c.args.shift items new) (sym c.in_ok-push-in-None.ensures.items)
    (subst (λ (shift : ℤ). IsTallied degree c.args.shift items (items ++ tally_of degree shift 1 ∷ [])) (sym same)
    (tallied-new degree c.args.shift items))
