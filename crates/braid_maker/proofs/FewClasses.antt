-- Classes of arcs, each of which has the arc at a representative of some position of a braid.
use Rattle.std.proofs.Common.{◌≡◌, ℕ, zero, suc, inl, inr, ◌+◌, ◌*◌, ◌<◌, ◌≤◌, ◌∙◌, List, length, refl, sym, ap, subst, arith, Bool, true, false, cond}
use Rattle.std.specs.Prelude.{nat_eq, not, slice_index, unwrap_or}
use Rattle.std.specs.List.{count_by, range_with_len, list_any}
use Rattle.std.specs.Option.{option_or}
use Rattle.std.proofs.lemmas.Bool.{cases_eq, eqb-true, ne_eqb}
use Rattle.std.proofs.lemmas.List.Sums.{length-filter, sum_by-cons}
use Rattle.kh_types.specs.Code.{IsArc}
use Rattle.kh_types.specs.Classes.{class_count, is_least, IsNamed}
use Rattle.kh_types.specs.Darts.{arc_of, dart_at, dart_place, first_dart, HasArcsTwice}
use Rattle.kh_types.proofs.DartPairs.{dart_at-place, dart_place-below, IsDartOf-first_dart}
use Rattle.gluing_laws.specs.Alike.{AreAlike}
use Rattle.braid_maker.specs.Words.{touches, last_below, previous, closed_crossings}
use Rattle.braid_maker.proofs.Counts.{count-images}
use Rattle.braid_maker.proofs.Nearest.{found, none, Last-is, IsNearest-previous, nearest-only}
use Rattle.braid_maker.proofs.Corners.{corner_place, length-crossings}
use Rattle.braid_maker.proofs.Strands.{IsStrand, strand_below, lower_corner}
use Rattle.braid_maker.proofs.Partners.{arc_at_lower, arc_at_upper, place-below}

-- the last place at a position
abbrev pub last_at : ℕ → (ℕ → ℕ) → ℕ → ℕ
last_at n left position = unwrap_or (last_below (touches left position) n) 0

-- what stays along each strand of a position is the same at all its places
pub chain : (n : ℕ) (left : ℕ → ℕ) (position : ℕ) (value : ℕ → ℕ)
    → ((place from lower upper : ℕ) → IsStrand n left position place from lower upper → value place ≡ value from)
    → (fuel place lower : ℕ) → place < fuel → place < n → lower < 2 → left place + lower ≡ position
    → value place ≡ value (last_at n left position)
chain n left position value stays zero place lower within below small at = absurd (omega (arith, within))
chain n left position value stays (suc fuel) place lower within below small at =
    let test = touches left position in
    let some = strand_below n left place lower below small in
    let strand = subst (λ (q : ℕ). IsStrand n left q place some.0 lower some.1) at some.2 in
    let before = IsNearest-previous n test 0 place some.0 below strand.from_below strand.nearest.passes in
    let from_is : some.0 ≡ previous n test 0 place = nearest-only n test place some.0 (previous n test 0 place) below strand.nearest before in
    let step : value place ≡ value (previous n test 0 place) =
    stays place some.0 lower some.1 strand ∙ ap value from_is in
    elim (Last-is test place) [
      | found x x_below passes last is ↦
          let corner = lower_corner left position x passes in
          step ∙ ap (λ o. value (unwrap_or (option_or o (last_below test n)) 0)) is
          ∙ chain n left position value stays fuel x corner.0 (omega (arith, within, x_below)) (omega (arith, x_below, below)) corner.1
          corner.2
      | none all is ↦ step ∙ ap (λ o. value (unwrap_or (option_or o (last_below test n)) 0)) is
    ]

-- the two ends of a strand hold one arc
pub ends-alike : (n : ℕ) (left : ℕ → ℕ) (is_over : ℕ → Bool) (others : List (List ℕ)) (q place from lower upper : ℕ)
    → AreAlike (closed_crossings n left is_over) others → IsStrand n left q place from lower upper
    → arc_of others (dart_at (corner_place is_over place lower)) ≡ arc_of others (dart_at (corner_place is_over from upper))
ends-alike n left is_over others q place from lower upper alike is =
    let size = length-crossings n left is_over in
    alike.onward (corner_place is_over place lower) (corner_place is_over from upper)
    (omega (arith, size, place-below n is_over place lower is.place_below))
    (omega (arith, size, place-below n is_over from upper is.from_below))
    (arc_at_lower n left is_over q place from lower upper is ∙ sym (arc_at_upper n left is_over q place from lower upper is))

-- each arc stands at a dart
pub arc-dart : (others : List (List ℕ)) (arc : ℕ) → HasArcsTwice others → IsArc others arc
    → (dart : ℕ) × (dart < 4 * length others) × (arc_of others (dart_at dart) ≡ arc)
arc-dart others arc twice is =
    let dart = first_dart others arc in
    let of = IsDartOf-first_dart others arc twice is in (
      dart_place dart,
      dart_place-below others dart of.within,
      ap (λ d. arc_of others d) (dart_at-place others dart of.within) ∙ of.on_arc,
    )

-- whether a position has a crossing
abbrev pub is_touched : ℕ → (ℕ → ℕ) → ℕ → Bool
is_touched n left position = list_any (touches left position) (range_with_len 0 n)

abbrev counted : Bool → ℕ
counted passes = cond passes 1 0

both_kinds : (b : Bool) → counted b + counted (not b) ≡ 1
both_kinds true = refl
both_kinds false = refl

count-both : (p : ℕ → Bool) (a n : ℕ) → count_by p (range_with_len a n) + count_by (λ x. not (p x)) (range_with_len a n) ≡ n
count-both p a zero = refl
count-both p a (suc n) =
    omega (
      arith,
      sum_by-cons (λ x. counted (p x)) a (range_with_len (a + 1) n),
      sum_by-cons (λ x. counted (not (p x))) a (range_with_len (a + 1) n),
      both_kinds (p a),
      count-both p (a + 1) n,
    )

-- there are at most as many classes as touched positions, and one more for the number 0
pub few-classes : (n : ℕ) (left : ℕ → ℕ) (strands size : ℕ) (classes : List ℕ) (named_by : ℕ → ℕ) → IsNamed size classes
    → ((x : ℕ) → 1 ≤ x → x < size → (q : ℕ) × (1 ≤ q) × (q ≤ strands) × (is_touched n left q ≡ true)
    × (slice_index classes (named_by q) ≡ slice_index classes x))
    → class_count classes + count_by (λ q. not (is_touched n left q)) (range_with_len 1 strands) ≤ strands + 1
few-classes n left strands size classes named_by named comes =
    let touched = is_touched n left in
    let test : ℕ → Bool = λ q. cond (nat_eq q 0) true (touched q) in
    let images : ℕ → ℕ = λ q. cond (nat_eq q 0) (slice_index classes 0) (slice_index classes (named_by q)) in
    let count : class_count classes ≡ count_by (is_least classes) (range_with_len 0 size) =
    length-filter (is_least classes) (range_with_len 0 (length classes))
    ∙ ap (λ k. count_by (is_least classes) (range_with_len 0 k)) named.size in
    let few = count-images (is_least classes) test images size (suc strands)
    (λ x below passes. elim (cases_eq x 0) [
      | inl zero_is ↦ (0, omega arith, refl, ap (λ k. slice_index classes k) (sym zero_is) ∙ eqb-true (slice_index classes x) x passes)
      | inr positive ↦
          let from = comes x (omega (arith, positive)) below in
          let other : nat_eq from.0 0 ≡ false = ne_eqb from.0 0 (λ same. omega (arith, same, from.1)) in (
            from.0,
            omega (arith, from.2),
            ap (λ b. cond b true (touched from.0)) other ∙ from.3,
            ap (λ b. cond b (slice_index classes 0) (slice_index classes (named_by from.0))) other ∙ from.4
                ∙ eqb-true (slice_index classes x) x passes,
          )
    ]) in
    let first : count_by test (range_with_len 0 (suc strands)) ≡ 1 + count_by test (range_with_len 1 strands) =
    sum_by-cons (λ x. counted (test x)) 0 (range_with_len 1 strands) in
    omega (arith, count, few, first, same_later strands 1 (omega arith), count-both touched 1 strands)
  where
    same_later : (k a : ℕ) → 1 ≤ a
        → count_by (λ q. cond (nat_eq q 0) true (is_touched n left q)) (range_with_len a k)
        ≡ count_by (is_touched n left) (range_with_len a k)
    same_later zero a positive = refl
    same_later (suc k) a positive =
        let test : ℕ → Bool = λ q. cond (nat_eq q 0) true (is_touched n left q) in
        let other : counted (test a) ≡ counted (is_touched n left a) =
        ap (λ b. counted (cond b true (is_touched n left a))) (ne_eqb a 0 (λ same. omega (arith, same, positive))) in
        omega (
          arith,
          sum_by-cons (λ x. counted (test x)) a (range_with_len (a + 1) k),
          sum_by-cons (λ x. counted (is_touched n left x)) a (range_with_len (a + 1) k),
          other,
          same_later k (a + 1) (omega arith),
        )
