-- One crossing brought to the front: its circles are those of the code before, at a state with the same bits.
use Rattle.std.proofs.lemmas.Bool.Decides.{nat_tests}
use Rattle.std.proofs.Common.{◌≡◌, ℕ, zero, suc, ◌⊎◌, inl, inr, ◌+◌, ◌*◌, ◌/◌, ◌%◌, ◌^◌, ◌<◌, ◌≤◌, ◌∙◌, List, [], ◌∷◌, ◌++◌, length, refl, sym, ap, ap₂, subst, arith}
use Rattle.std.proofs.lemmas.Nat.Bits.{bit_at-suc, bit_at_lowest}
use Rattle.std.proofs.Math.Nat.{pow-suc}
use Rattle.kh_types.specs.Bits.{bit}
use Rattle.kh_types.specs.Circles.{circles_of, smoothing_of, smoothings_of}
use Rattle.kh_types.specs.Classes.{AreBelow, Respects, classes_of}
use Rattle.kh_types.specs.Code.{Code, arc_count}
use Rattle.kh_types.specs.Darts.{HasArcsTwice}
use Rattle.kh_types.proofs.JoinedClasses.{classes_of-same}
use Rattle.order_laws.specs.Orders.{listed_by}
use Rattle.code_passes.specs.Parts.{slots_in}
use Rattle.kink_and_finger_laws.specs.DropCircles.{joined_at}
use Rattle.kink_and_finger_laws.specs.Pulls.{early}
use Rattle.kink_and_finger_laws.proofs.InsertedBits.{with_bit}
use Rattle.kink_and_finger_laws.proofs.Insertions.{HasBit-with_bit}
use Rattle.kink_and_finger_laws.proofs.SmoothingPairs.{joined-below, smoothings-all, smoothings-each}
use Rattle.view_laws.specs.Fronts.{first_to, place_behind}
use Rattle.drop_view_laws.proofs.CircleMaps.{circles-below}
use Rattle.view_laws.proofs.Fronts.{past, past-is, home, first-at, length-first, home-zero, home-suc, home-behind, home-below, behind-below}

-- crossings listed in another order, and a state whose bits go with them: the circles are the same
pub circles-listed : (code other : Code) (to back : ℕ → ℕ) (state other_state : ℕ) → HasArcsTwice code.crossings
    → length other.crossings ≡ length code.crossings → other.loops ≡ code.loops
    → ((m : ℕ) → m < length code.crossings → (to m < length code.crossings) × (slots_in other.crossings m ≡ slots_in code.crossings (to m))
    × (bit other_state m ≡ bit state (to m)))
    → ((l : ℕ) → l < length code.crossings → (back l < length code.crossings) × (to (back l) ≡ l))
    → circles_of other other_state ≡ circles_of code state
circles-listed code other to back state other_state twice size loops onward home =
    let n = arc_count code.crossings + code.loops + 1 in
    let same : (m : ℕ) → m < length code.crossings → joined_at other.crossings other_state m ≡ joined_at code.crossings state (to m) =
    λ m below. let at = onward m below in ap₂ (λ b slots. smoothing_of b slots) at.2 at.1 in
    let sizes : arc_count other.crossings + other.loops + 1 ≡ arc_count code.crossings + code.loops + 1 =
    ap₂ (λ m l. 2 * m + l + 1) size loops in
    ap (λ m. classes_of m (smoothings_of other.crossings other_state)) sizes
    ∙ classes_of-same (arc_count code.crossings + code.loops + 1) (smoothings_of other.crossings other_state)
    (smoothings_of code.crossings state)
    (smoothings-all (λ pair. (pair.0 < arc_count code.crossings + code.loops + 1) × (pair.1 < arc_count code.crossings + code.loops + 1))
    other.crossings other_state
    (λ m below.
    let small : m < length code.crossings = omega (arith, below, size) in
    subst (λ (pairs : List (ℕ × ℕ)). AreBelow (arc_count code.crossings + code.loops + 1) pairs) (sym (same m small))
    (joined-below code.crossings (arc_count code.crossings + code.loops + 1) state (to m) twice (omega arith) (onward m small).0)))
    (circles-below code state twice)
    (λ f respects.
    smoothings-all (λ pair. f pair.0 ≡ f pair.1) code.crossings state
    (λ l below.
    let there = home l below in
    subst (λ (q : ℕ). Respects f (joined_at code.crossings state q)) there.1
    (subst (λ (pairs : List (ℕ × ℕ)). Respects f pairs) (same (back l) there.0)
    (smoothings-each (λ pair. f pair.0 ≡ f pair.1) other.crossings other_state (back l) respects (omega (arith, there.0, size))))))
    (λ f respects.
    smoothings-all (λ pair. f pair.0 ≡ f pair.1) other.crossings other_state
    (λ m below.
    let small : m < length code.crossings = omega (arith, below, size) in
    subst (λ (pairs : List (ℕ × ℕ)). Respects f pairs) (sym (same m small))
    (smoothings-each (λ pair. f pair.0 ≡ f pair.1) code.crossings state (to m) respects (onward m small).0)))

pub bit-suc : (s i : ℕ) → bit s (suc i) ≡ bit (s / 2) i
bit-suc s i = bit_at-suc s i

pub early-low : (c k i : ℕ) → i < c → early c k i ≡ i
early-low c k i low = grind (arith, nat_tests)

pub past-early : (c k i : ℕ) → i < k → early c k i ≡ past c i
past-early c k i below = elim (past-is c i) [
  | inl low ↦ early-low c k i low.0 ∙ sym low.1
  | inr high ↦ early-high c k i high.0 below ∙ sym high.1
]
  where
    early-high : (c k i : ℕ) → c ≤ i → i < k → early c k i ≡ i + 1
    early-high c k i high below = grind (arith, nat_tests)

half-below : (k s : ℕ) → s < 2 ^ suc k → s / 2 < 2 ^ k
half-below k s below = let e = pow-suc 2 k in omega (arith, below, e)

-- the state of a code before one of its crossings was brought to the front: its bits are those of the state behind
abbrev pub state_home : ℕ → ℕ → ℕ → ℕ
state_home k c state = with_bit k c (state % 2) (state / 2)

pub bit-home : (k c state m : ℕ) → c ≤ k → state < 2 ^ suc k → m < suc k → bit (state_home k c state) (home c m) ≡ bit state m
bit-home k c state zero within below m_below =
    let has = HasBit-with_bit k c (state % 2) (state / 2) within (omega arith) (half-below k state below) in
    ap (bit (state_home k c state)) (home-zero c) ∙ has.there ∙ sym (bit_at_lowest state)
bit-home k c state (suc i) within below m_below =
    let has = HasBit-with_bit k c (state % 2) (state / 2) within (omega arith) (half-below k state below) in
    let small : i < k = omega (arith, m_below) in
    ap (bit (state_home k c state)) (home-suc c i ∙ sym (past-early c k i small)) ∙ has.others i small ∙ sym (bit-suc state i)

pub state_home-below : (k c state : ℕ) → c ≤ k → state < 2 ^ suc k → state_home k c state < 2 ^ suc k
state_home-below k c state within below =
    (HasBit-with_bit k c (state % 2) (state / 2) within (omega arith) (half-below k state below)).below

-- the circles of a code with one crossing brought to the front
pub circles-first : (code : Code) (c k state : ℕ) → HasArcsTwice code.crossings → length code.crossings ≡ suc k → c ≤ k → state < 2 ^ suc k
    → circles_of (listed_by code (first_to c code.crossings)) state ≡ circles_of code (state_home k c state)
circles-first code c k state twice size within below =
    let c_below : c < length code.crossings = omega (arith, size, within) in
    circles-listed code (listed_by code (first_to c code.crossings)) (home c) (place_behind c) (state_home k c state) state twice
    (length-first c code.crossings c_below) refl
    (λ m m_below. (
      home-below c m (length code.crossings) c_below m_below,
      first-at c code.crossings m c_below,
      sym (bit-home k c state m within below (omega (arith, m_below, size))),
    ))
    (λ l l_below. (behind-below c l (length code.crossings) c_below l_below, home-behind c l))
