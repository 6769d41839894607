-- The passes of the two crossings of a bigon follow one another.
use Rattle.std.proofs.lemmas.Bool.Decides.{nat_tests}
use Rattle.std.proofs.Common.{subst, ◌≡◌, ℕ, ◌⊎◌, inl, inr, ◌+◌, ◌*◌, ◌%◌, ◌<◌, ◌∙◌, List, length, sym, ap, arith, Bool, true, false, not, IsTrue, ◌-◌, ◌/◌, ap₂}
use Rattle.std.specs.Prelude.{if◌then◌else◌}
use Rattle.kh_types.specs.Acceptance.{accepted}
use Rattle.kh_types.specs.Code.{Code, IsCrossing, arc_in, place_of}
use Rattle.kh_types.specs.Darts.{partner_at}
use Rattle.kh_types.specs.Directions.{is_positive, positive_at}
use Rattle.kh_types.proofs.AcceptedLemmas.{HasArcsTwice-accepted}
use Rattle.kh_types.proofs.Heads.{HasNoSingleArcs-accepted}
use Rattle.kh_types.proofs.BitLemmas.{parity}
use Rattle.code_passes.specs.Parts.{slots_in}
use Rattle.gluing_laws.specs.Codes.{arc_of_dart}
use Rattle.gluing_laws.specs.Arcs.{enters}
use Rattle.kink_and_finger_laws.specs.Dropping.{HasBigonAt}
use Rattle.kink_and_finger_laws.specs.Pulls.{dart_in}
use Rattle.kink_and_finger_laws.proofs.DroppedDarts.{is_code_head}
use Rattle.kink_and_finger_laws.proofs.OldDarts.{arc_of_dart-in, arc_of_dart-partner, dart_in-slot, heads-partner}
use Rattle.diagram_moves.specs.DropPasses.{AreNeighbours, over_pass_of, under_pass_of}

-- a slot is that where a pass enters, or that where it leaves
record IsEnd (head tail slot : ℕ) (enters_there : Bool) : Type 0 where
  kinds : ((slot ≡ head) × (enters_there ≡ true)) ⊎ ((slot ≡ tail) × (enters_there ≡ false))

under-end : (b : Bool) (p : ℕ) → p < 4 → p % 2 ≡ 0 → IsEnd 0 2 p (enters b p)
under-end b p below even = grind (arith, nat_tests)

over-end : (b : Bool) (p : ℕ) → p < 4 → p % 2 ≡ 1 → IsEnd (if b then 3 else 1) (if b then 1 else 3) p (enters b p)
over-end b p below odd = grind (arith, nat_tests)

-- where one arc is at an end of each of two passes, and one of these is its head, the passes follow one another
joined-ends : (slots others : List ℕ) (head tail other_head other_tail p r : ℕ) (here there : Bool) → IsEnd head tail p here
    → IsEnd other_head other_tail r there → there ≡ not here → arc_in others r ≡ arc_in slots p
    → (arc_in slots tail ≡ arc_in others other_head) ⊎ (arc_in others other_tail ≡ arc_in slots head)
joined-ends slots others head tail other_head other_tail p r here there one two apart same = grind (arith, nat_tests)

-- what is so of the two slots of a side
record IsSide (code : Code) (c d p r : ℕ) : Type 0 where
  same : arc_in (slots_in code.crossings d) (r % 4) ≡ arc_in (slots_in code.crossings c) (p % 4)
  apart : enters (positive_at code.crossings d) (r % 4) ≡ not (enters (positive_at code.crossings c) (p % 4))

side-is : (code : Code) (c d p r : ℕ) → IsTrue (accepted code) → c < length code.crossings
    → partner_at code.crossings (dart_in c p) ≡ dart_in d r → IsSide code c d p r
side-is code c d p r holds below side =
    let directed = HasNoSingleArcs-accepted code holds in
    let x_below : dart_in c p < 4 * length code.crossings = omega (arith, below) in
    record {
      same = sym (arc-in d r) ∙ ap (arc_of_dart code.crossings) (sym side)
          ∙ arc_of_dart-partner code.crossings (HasArcsTwice-accepted code holds) (dart_in c p) x_below
          ∙ arc-in c p;
      apart = sym (head-in d r) ∙ ap (is_code_head code.crossings) (sym side)
          ∙ heads-partner code.crossings directed.0 directed.1 (dart_in c p) x_below
          ∙ ap not (head-in c p);
    }
  where
    place-in : (z s : ℕ) → dart_in z s / 4 ≡ z
    place-in z s = omega arith

    arc-in : (z s : ℕ) → arc_of_dart code.crossings (dart_in z s) ≡ arc_in (slots_in code.crossings z) (s % 4)
    arc-in z s = arc_of_dart-in code.crossings z s

    head-in : (z s : ℕ) → is_code_head code.crossings (dart_in z s) ≡ enters (positive_at code.crossings z) (s % 4)
    head-in z s = ap₂ (λ k l. enters (positive_at code.crossings k) l) (place-in z s) (dart_in-slot z s)

-- a side of even slots joins under passes, one of odd slots over passes
under-side : (code : Code) (c d p r : ℕ) → IsSide code c d p r → p % 2 ≡ 0 → r % 2 ≡ 0
    → (arc_in (slots_in code.crossings c) 2 ≡ arc_in (slots_in code.crossings d) 0)
    ⊎ (arc_in (slots_in code.crossings d) 2 ≡ arc_in (slots_in code.crossings c) 0)
under-side code c d p r side p_even r_even = grind (arith, nat_tests, joined-ends, under-end)

-- the over passes of the crossings at two places follow one another, by their signs
abbrev OverFollow : List (List ℕ) → ℕ → ℕ → Bool → Bool → Type 0
OverFollow crossings c d b e =
    (arc_in (slots_in crossings c) (if b then 1 else 3) ≡ arc_in (slots_in crossings d) (if e then 3 else 1))
    ⊎ (arc_in (slots_in crossings d) (if e then 1 else 3) ≡ arc_in (slots_in crossings c) (if b then 3 else 1))

over-side : (code : Code) (c d p r : ℕ) → IsSide code c d p r → p % 2 ≡ 1 → r % 2 ≡ 1
    → OverFollow code.crossings c d (positive_at code.crossings c) (positive_at code.crossings d)
over-side code c d p r side p_odd r_odd = grind (arith, nat_tests, joined-ends, over-end)

swapped : {A B : Type 0} → A ⊎ B → B ⊎ A
swapped has0 = grind (arith, nat_tests)

pub bigon-passes : (code : Code) (first second p q : ℕ) → IsTrue (accepted code) → IsCrossing code.crossings first → IsCrossing code.crossings second
    → HasBigonAt code.crossings (place_of first) (place_of second) p q
    → AreNeighbours (over_pass_of code.crossings first) (over_pass_of code.crossings second)
    × AreNeighbours (under_pass_of code.crossings first) (under_pass_of code.crossings second)
bigon-passes code first second p q holds is other_is bigon =
    let c = first - 1 in
    let d = second - 1 in
    let first_is : first - 1 + 1 ≡ first = omega (arith, is.positive) in
    let second_is : second - 1 + 1 ≡ second = omega (arith, other_is.positive) in
    let side = side-is code (first - 1) (second - 1) p (q + 1) holds bigon.first_below bigon.first_side in
    let other_side = side-is code (second - 1) (first - 1) q (p + 1) holds bigon.second_below bigon.second_side in
    let over : OverFollow code.crossings c d (positive_at code.crossings c) (positive_at code.crossings d) = elim (parity p) [
      | inl even ↦ swapped (over-side code (second - 1) (first - 1) q (p + 1) other_side (omega (arith, bigon.odd, even)) (omega (arith, even)))
      | inr odd ↦ over-side code (first - 1) (second - 1) p (q + 1) side odd (omega (arith, bigon.odd, odd))
    ] in
    let under : AreNeighbours (under_pass_of code.crossings first) (under_pass_of code.crossings second) = elim (parity p) [
      | inl even ↦ under-side code (first - 1) (second - 1) p (q + 1) side even (omega (arith, bigon.odd, even))
      | inr odd ↦ swapped (under-side code (second - 1) (first - 1) q (p + 1) other_side (omega (arith, bigon.odd, odd)) (omega (arith, odd)))
    ] in (
      subst (λ (b : Bool). OverFollow code.crossings c d b (is_positive code.crossings second)) (ap (is_positive code.crossings) first_is)
          (subst (λ (e : Bool). OverFollow code.crossings c d (positive_at code.crossings c) e) (ap (is_positive code.crossings) second_is) over),
      under,
    )
