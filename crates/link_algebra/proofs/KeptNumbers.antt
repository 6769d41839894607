-- The mirror keeps the numbers of arcs where circles of two arcs that lie under others enter their crossings in order; then the mirror of
-- the mirror is the code.
use Rattle.std.proofs.Common.{◌≡◌, ℕ, zero, suc, inl, inr, ◌+◌, ◌-◌, ◌<◌, ◌≤◌, ◌∙◌, List, [], ◌∷◌, length, map, get_or, refl, sym, ap, ap₂, arith, Bool, true, false, not, ◌&&◌, pos, IsTrue}
use Rattle.std.specs.Prelude.{int_lt}
use Rattle.std.specs.List.{range_with_len, AllByRecursion}
use Rattle.std.proofs.lemmas.Bool.{and_parts}
use Rattle.std.proofs.lemmas.Bool.Decides.{nat_tests}
use Rattle.std.proofs.lemmas.Int.{ints}
use Rattle.std.proofs.lemmas.List.Elements.{All-from_recursion, All-get_or}
use Rattle.std.proofs.lemmas.List.FromFn.{fill_by_all, length-range_with_len}
use Rattle.kh_types.specs.Acceptance.{accepted}
use Rattle.kh_types.specs.Accepted.{IsDirected}
use Rattle.kh_types.specs.Code.{Code, IsArc, IsCrossing, arc_in, slots_of}
use Rattle.kh_types.specs.Directions.{head_of, is_positive}
use Rattle.kh_types.proofs.Heads.{HasNoSingleArcs-accepted}
use Rattle.kh_types.proofs.RangeImages.{all-map_range}
use Rattle.code_passes.specs.Passes.{Pass, is_over}
use Rattle.code_passes.proofs.CutArcs.{IsFirst, end-within, size}
use Rattle.code_passes.specs.Parts.{Parts, passes_through, slots_in}
use Rattle.orient_arcs.specs.Renumbered.{label_entered, number_in, order_of, renumber, turned_names}
use Rattle.orient_arcs.proofs.Bridge.{slot-head}
use Rattle.orient_arcs.proofs.Labels.{turned-cases}
use Rattle.orient_arcs.proofs.NamedLists.{own-again}
use Rattle.orient_arcs.proofs.OwnNumbers.{kept-number, own-renumbered}
use Rattle.orient_arcs.proofs.NumberedBlocks.{turned-test}
use Rattle.link_algebra.specs.Mirrors.{EntersInOrder, mirror_of, mirror_parts, mirror_slots, over_slot, slots_from}
use Rattle.link_algebra.proofs.MirrorParts.{IsTurnOf-mirror, listed}
use Rattle.link_algebra.proofs.MirrorPasses.{arc-there, follows-next, label-mirrored, paired_parts, there-arc, under-of}
use Rattle.link_algebra.proofs.PartLemmas.{map-numbered}
use Rattle.link_algebra.proofs.TurnedCodes.{mirror-rotated, mirror-signs}
use Rattle.kh_types.proofs.Tests.{twice-not}

less-of : (a b : ℕ) → int_lt (pos b) (pos a) ≡ true → b < a
less-of a b less = grind (arith, ints, nat_tests)

module _ (code : Code) (holds : IsTrue (accepted code)) (in_order : EntersInOrder code.crossings) where
  abbrev cs : List (List ℕ)
  cs = code.crossings

  abbrev directed : IsDirected code.crossings
  directed = (HasNoSingleArcs-accepted code holds).0

  abbrev passes : List Pass
  passes = passes_through (mirror_parts code)

  -- no component is turned
  turned-kept : (first : ℕ) → IsFirst cs first
      → turned_names (label_entered passes) (range_with_len first (size cs first)) ≡ range_with_len first (size cs first)
  turned-kept first is =
      let names = range_with_len first (size cs first) in
      let end = end-within cs directed first is in
      elim (turned-cases (label_entered passes) names) [
        | inl stays ↦ stays
        | inr two ↦
            let long : size cs first ≡ 2 = sym (length-range_with_len first (size cs first)) ∙ ap length two.2 in
            let pair : range_with_len first (size cs first) ≡ first ∷ (first + 1) ∷ [] = ap (λ n. range_with_len first n) long in
            let a_is : two.0 ≡ first = ap (λ xs. get_or xs 0 0) (sym two.2 ∙ pair) in
            let b_is : two.1 ≡ first + 1 = ap (λ xs. get_or xs 1 0) (sym two.2 ∙ pair) in
            let turned : turned_names (label_entered passes) (first ∷ (first + 1) ∷ []) ≡ (first + 1) ∷ first ∷ [] =
            ap (turned_names (label_entered passes)) (sym pair) ∙ two.3 ∙ ap₂ (λ x y. x ∷ y ∷ []) b_is a_is in
            let test = turned-test (label_entered passes) first (first + 1) (λ same. absurd (omega (arith, same))) turned in
            let both = and_parts (is_over (label_entered passes first) && is_over (label_entered passes (first + 1)))
            (int_lt (label_entered passes (first + 1)) (label_entered passes first)) test in
            let each = and_parts (is_over (label_entered passes first)) (is_over (label_entered passes (first + 1))) both.0 in
            let second_is : IsArc cs (first + 1) = record { positive = omega arith; within = omega (arith, end, long) } in
            let first_label = (label-mirrored code holds) first is.is_arc in
            let second_label = (label-mirrored code holds) (first + 1) second_is in
            let first_under = under-of (head_of cs first) (ap is_over (sym first_label) ∙ each.0) in
            let second_under = under-of (head_of cs (first + 1)) (ap is_over (sym second_label) ∙ each.1) in
            let ordered = in_order first is.is_arc is.own
            (record { two = long; first_under = first_under.0; second_under = second_under.0 }) in
            let less = less-of (head_of cs first).crossing (head_of cs (first + 1)).crossing
            (ap₂ int_lt (sym (second_label ∙ second_under.1)) (sym (first_label ∙ first_under.1)) ∙ both.1) in
            absurd (omega (arith, ordered, less))
      ]

  -- so the crossings of the mirror are those of its parts
  pub mirror-kept : (mirror_of code).crossings ≡ (mirror_parts code).crossings
  mirror-kept =
      own-again (number_in (order_of passes)) (mirror_parts code).crossings (mirror_parts code).crossings refl
      (all-map_range (λ (slots : List ℕ). length slots ≡ 4) (mirror_slots cs) 1 (length cs) (λ k below. refl))
      (λ place slot below slot_below.
      kept-number code directed (mirror_parts code) (paired_parts code holds) (arc-there code holds) (there-arc code holds)
      (follows-next code holds) (IsTurnOf-mirror code holds).size turned-kept (arc_in (slots_in (mirror_parts code).crossings place) slot)
      ((there-arc code holds) (arc_in (slots_in (mirror_parts code).crossings place) slot)
      (slot-head (mirror_parts code) (paired_parts code holds) place slot below slot_below)))

  slots-back : (crossing : ℕ) → IsCrossing cs crossing → length (slots_of cs crossing) ≡ 4
      → mirror_slots (mirror_of code).crossings crossing ≡ slots_of cs crossing
  slots-back crossing is four =
      let place = crossing - 1 in
      let within : place < length cs = omega (arith, is.positive, is.within) in
      let e : place + 1 ≡ crossing = omega (arith, is.positive) in
      ap₂ (λ b (slots : List ℕ). slots_from (over_slot b) slots) (mirror-signs code holds crossing is)
      (ap (λ crossings. slots_of crossings crossing) mirror-kept ∙ listed code (mirror_slots cs) place within ∙ ap (mirror_slots cs) e)
      ∙ back (is_positive cs crossing) (slots_of cs crossing) four
    where
      back : (b : Bool) (slots : List ℕ) → length slots ≡ 4 → slots_from (over_slot (not b)) (slots_from (over_slot b) slots) ≡ slots
      back b [] four = absurd (omega (arith, four))
      back b (i ∷ []) four = absurd (omega (arith, four))
      back b (i ∷ j ∷ []) four = absurd (omega (arith, four))
      back b (i ∷ j ∷ k ∷ []) four = absurd (omega (arith, four))
      back true (i ∷ j ∷ k ∷ l ∷ []) four = refl
      back false (i ∷ j ∷ k ∷ l ∷ []) four = refl
      back b (i ∷ j ∷ k ∷ l ∷ m ∷ more) four = absurd (omega (arith, four))

  -- and the mirror of the mirror is the code
  pub mirror-twice : AllByRecursion (λ (slots : List ℕ). length slots ≡ 4) cs → mirror_of (mirror_of code) ≡ code
  mirror-twice four =
      let size = (mirror-rotated code holds).size in
      let made : List (List ℕ) → List Bool → Parts =
      λ crossings positive. record { crossings = crossings; positive = positive; loops = code.loops } in
      let all : (k : ℕ) → k < length cs → length (get_or cs k []) ≡ 4 =
      λ k below. All-get_or (λ (slots : List ℕ). length slots ≡ 4) cs k [] below
      (All-from_recursion (λ (slots : List ℕ). length slots ≡ 4) cs four) in
      let crossings : map (mirror_slots (mirror_of code).crossings) (range_with_len 1 (length (mirror_of code).crossings)) ≡ cs =
      ap (λ n. map (mirror_slots (mirror_of code).crossings) (range_with_len 1 n)) size
      ∙ sym (map-numbered (mirror_slots (mirror_of code).crossings) 0 (length cs))
      ∙ sym (fill_by_all (λ k. mirror_slots (mirror_of code).crossings (k + 1)) cs (length cs) [] refl
      (λ k below.
      let e : k + 1 - 1 ≡ k = omega arith in
      sym (slots-back (k + 1) (record { positive = omega arith; within = omega (arith, below) })
      (ap (λ j. length (get_or cs j [])) e ∙ all k below) ∙ ap (λ j. get_or cs j []) e))) in
      let signs : map not (map (is_positive (mirror_of code).crossings) (range_with_len 1 (length (mirror_of code).crossings)))
      ≡ map (is_positive cs) (range_with_len 1 (length cs)) =
      ap (λ n. map not (map (is_positive (mirror_of code).crossings) (range_with_len 1 n))) size
      ∙ both (is_positive (mirror_of code).crossings) (is_positive cs) 1 (length cs)
      (λ k from below.
      ap not (mirror-signs code holds k (record { positive = from; within = omega (arith, below) })) ∙ twice-not (is_positive cs k)) in
      ap renumber (ap₂ made crossings signs) ∙ own-renumbered code directed (HasNoSingleArcs-accepted code holds).1 four
    where
      both : (p q : ℕ → Bool) (a n : ℕ) → ((k : ℕ) → a ≤ k → k < a + n → not (p k) ≡ q k)
          → map not (map p (range_with_len a n)) ≡ map q (range_with_len a n)
      both p q a zero each = refl
      both p q a (suc n) each =
          grind (arith, nat_tests, both p q (a + 1) n (λ k from below. each k (omega (arith, from)) (omega (arith, below))))
