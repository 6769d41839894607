-- The components of a code that is cut in two: each is on one side, and the order of the crossings does not matter to them.
use Rattle.std.proofs.Common.{◌≡◌, ℕ, suc, inl, inr, ◌+◌, ◌-◌, ◌<◌, ◌≤◌, ◌∙◌, List, [], ◌∷◌, ◌++◌, length, refl, sym, subst, arith, Bool, true, not, IsTrue}
use Rattle.std.specs.Prelude.{nat_lt}
use Rattle.std.specs.List.{flat_map}
use Rattle.std.proofs.lemmas.Bool.{cases_eq}
use Rattle.std.proofs.lemmas.Bool.Decides.{nat_tests}
use Rattle.kh_types.specs.Acceptance.{accepted}
use Rattle.kh_types.specs.Bits.{one_if}
use Rattle.kh_types.specs.Classes.{Respects}
use Rattle.kh_types.specs.Code.{Code, IsArc, IsCrossing, arc_count}
use Rattle.kh_types.specs.Components.{component_of, components_of, passes_of}
use Rattle.kh_types.proofs.AcceptedLemmas.{HasArcsTwice-accepted}
use Rattle.kh_types.proofs.ClassLemmas.{classes-finest}
use Rattle.kh_types.proofs.Heads.{HasNoSingleArcs-accepted}
use Rattle.gluing_laws.specs.Arcs.{arc_by_place}
use Rattle.code_passes.specs.Parts.{Parts, head_count}
use Rattle.orient_arcs.proofs.PairedCodes.{some-head}
use Rattle.order_laws.proofs.ExchangedBits.{exchanged, moved}
use Rattle.order_laws.proofs.Orders.{reordered}
use Rattle.order_laws.proofs.Shuffled.{IsShuffled-exchanged, components-shuffled}
use Rattle.link_algebra.proofs.UnitedCircles.{HoldsNames-accepted}
use Rattle.link_algebra.proofs.UnitedComponents.{passes-small}
use Rattle.union_laws.specs.Pieces.{IsCut, kept_first, kept_parts}
use Rattle.union_laws.proofs.KeptParts.{ends-both, enters-same, head-place}
use Rattle.union_laws.proofs.KeptPlaces.{reordered-kept}

-- the order of crossings does not matter to components
pub components-kept : (keep : ℕ → Bool) (crossings : List (List ℕ)) → components_of (kept_first keep crossings) ≡ components_of crossings
components-kept keep crossings =
    reordered (λ others. components_of others ≡ components_of crossings)
    (λ front back a b same.
    components-shuffled (front ++ a ∷ b ∷ back) (front ++ b ∷ a ∷ back) (moved (length front)) (exchanged (length front))
    (IsShuffled-exchanged front back a b)
    ∙ same) [] crossings (kept_first keep crossings) (reordered-kept keep crossings) refl

-- what both arcs of each pass have in common all passes respect
passes-respect : (g : ℕ → ℕ) (crossings : List (List ℕ))
    → ((place : ℕ) → place < length crossings
    → (g (arc_by_place crossings place 0) ≡ g (arc_by_place crossings place 2))
    × (g (arc_by_place crossings place 1) ≡ g (arc_by_place crossings place 3)))
    → Respects g (flat_map passes_of crossings)
passes-respect g [] each = tt
passes-respect g (slots ∷ crossings) each =
    let here = each 0 (omega arith) in
    (here.0, (here.1, passes-respect g crossings (λ place below. each (suc place) (omega (arith, below)))))

module _ (keep : ℕ → Bool) (code : Code) (holds : IsTrue (accepted code)) (cut : IsCut keep code.crossings) where
  abbrev crossings : List (List ℕ)
  crossings = code.crossings

  abbrev parts : Parts
  parts = kept_parts keep code 0

  abbrev rest : Parts
  rest = kept_parts (λ place. not (keep place)) code 0

  pub is-arc : (place slot : ℕ) → place < length crossings → slot < 4 → IsArc crossings (arc_by_place crossings place slot)
  is-arc place slot below slot_below =
      let e : place + 1 - 1 ≡ place = omega arith in
      let is : IsCrossing crossings (place + 1) = record { positive = omega arith; within = omega (arith, below) } in
      subst (λ (k : ℕ). IsArc crossings (arc_by_place crossings k slot)) e
      ((HasArcsTwice-accepted code holds).slots (record { crossing = place + 1; slot = slot })
      (record { crossing = is; slot = slot_below }))

  -- the side of an arc, by its head: 1 where it is kept
  abbrev side : ℕ → ℕ
  side arc = one_if (nat_lt 0 (head_count parts arc))

  side-at : (place slot : ℕ) → place < length crossings → slot < 4 → side (arc_by_place crossings place slot) ≡ one_if (keep place)
  side-at place slot below slot_below =
      let arc = arc_by_place crossings place slot in
      let is = HasNoSingleArcs-accepted code holds in
      let some = some-head code is.0 is.1 arc (is-arc place slot below slot_below) in
      elim (cases_eq (head_count parts arc) 0) [
        | inl none ↦
            let both = ends-both (λ pass. pass.enters) enters-same keep code 0 0 arc in
            let found = head-place (λ other. not (keep other)) code 0 arc (omega (arith, some, none, both)) in
            let at = found.3 in
            dropped (head_count parts arc) (keep place) (keep found.0) none found.2
            (cut place found.0 slot at.0 below found.1 slot_below at.1 (sym at.2))
        | inr here ↦
            let found = head-place keep code 0 arc (omega (arith, here)) in
            let at = found.3 in
            kept (head_count parts arc) (keep place) (keep found.0) (omega (arith, here)) found.2
            (cut place found.0 slot at.0 below found.1 slot_below at.1 (sym at.2))
      ]
    where
      dropped : (heads : ℕ) (b c : Bool) → heads ≡ 0 → not c ≡ true → b ≡ c → one_if (nat_lt 0 heads) ≡ one_if b
      dropped heads b c none is same = grind (arith, nat_tests)

      kept : (heads : ℕ) (b c : Bool) → 1 ≤ heads → c ≡ true → b ≡ c → one_if (nat_lt 0 heads) ≡ one_if b
      kept heads b c some is same = grind (arith, nat_tests)

  -- so crossings that one component meets are on one side
  pub one-side : (place other slot other_slot : ℕ) → place < length crossings → other < length crossings → slot < 4 → other_slot < 4
      → component_of (components_of crossings) (arc_by_place crossings place slot)
      ≡ component_of (components_of crossings) (arc_by_place crossings other other_slot) → keep place ≡ keep other
  one-side place other slot other_slot below other_below slot_below other_slot_below same =
      let first = is-arc place slot below slot_below in
      let second = is-arc other other_slot other_below other_slot_below in
      let respects : Respects side (flat_map passes_of crossings) =
      passes-respect side crossings
      (λ k inside. (
        side-at k 0 inside (omega arith) ∙ sym (side-at k 2 inside (omega arith)),
        side-at k 1 inside (omega arith) ∙ sym (side-at k 3 inside (omega arith)),
      )) in
      as_one (keep place) (keep other)
      (sym (side-at place slot below slot_below)
      ∙ classes-finest side (arc_count crossings + 1) (flat_map passes_of crossings) respects
      (passes-small (arc_count crossings + 1) crossings (HoldsNames-accepted code holds))
      (arc_by_place crossings place slot) (arc_by_place crossings other other_slot) (omega (arith, first.within))
      (omega (arith, second.within)) same
      ∙ side-at other other_slot other_below other_slot_below)
    where
      as_one : (b c : Bool) → one_if b ≡ one_if c → b ≡ c
      as_one b c same = grind (arith, nat_tests)
