-- Before the first crossing and after the last nothing is open.
use Rattle.std.proofs.Common.{◌≡◌, ℕ, inl, inr, ◌+◌, ◌-◌, ◌/◌, ◌%◌, ◌<◌, ◌∙◌, List, [], refl, sym, ap, subst, length, arith, Bool, true, false, not, ◌&&◌}
use Rattle.std.proofs.lemmas.Bool.{cases_Bool}
use Rattle.kh_types.specs.Bits.{bit}
use Rattle.kh_types.specs.Code.{IsArc}
use Rattle.kh_types.specs.Colours.{IsColoured, colour}
use Rattle.kh_types.specs.Darts.{arc_of, dart_at, dart_place}
use Rattle.kh_types.proofs.DartPairs.{dart_at-place, dart_place-below}
use Rattle.kh_types.proofs.CircleCycles.{arc-at_place}
use Rattle.genus_laws.specs.Surfaces.{Lead}
use Rattle.genus_laws.specs.CutCodes.{colour_at, is_inside, opens, ends_there, starts_there}
use Rattle.genus_laws.proofs.CutCodes.{is_inside-at, inside-found}
use Rattle.genus_laws.proofs.LeadLemmas.{Lead-none}

colour-at : (choice place : ℕ) → colour choice (dart_at place) ≡ colour_at choice place
colour-at choice place =
    let e : place / 4 + 1 - 1 ≡ place / 4 = omega arith in ap (λ k. (bit choice k + place % 4) % 2) e

pub Lead-first : (crossings : List (List ℕ)) (choice n : ℕ) → Lead n (ends_there crossings choice 0) (starts_there crossings choice 0) []
Lead-first crossings choice n = Lead-none n (λ x. false)

-- where the dart of one colour is inside, there is an arc, and its other dart is inside all crossings
pub opens-last : (crossings : List (List ℕ)) (choice side other x : ℕ) → IsColoured crossings choice → other < 2
    → opens crossings choice (length crossings) side other x ≡ false
opens-last crossings choice side other x coloured below =
    let k = length crossings in
    let inside = is_inside crossings choice k side x in
    elim (cases_Bool inside) [
      | inr none ↦ ap (λ b. b && not (is_inside crossings choice k other x)) none
      | inl some ↦
          let found = inside-found crossings choice k side x some in
          let arc : IsArc crossings x =
          subst (λ (y : ℕ). IsArc crossings y) found.2 (arc-at_place crossings choice found.0 coloured found.1) in
          let dart = coloured.both x other arc below in
          let place = dart_place dart.0 in
          let back = dart_at-place crossings dart.0 dart.1.within in
          let there : is_inside crossings choice k other x ≡ true =
          is_inside-at crossings choice k other x place (dart_place-below crossings dart.0 dart.1.within)
          (ap (arc_of crossings) back ∙ dart.1.on_arc) (sym (colour-at choice place) ∙ ap (colour choice) back ∙ dart.2) in
          ap (λ b. inside && not b) there ∙ none inside
    ]
  where
    none : (b : Bool) → (b && false) ≡ false
    none true = refl
    none false = refl
