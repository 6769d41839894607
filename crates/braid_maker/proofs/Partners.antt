-- The two darts of each strand: each arc of a closed braid stands twice, and the ends of a strand are partners.
--
-- A strand goes from the upper corner of a crossing to a lower corner of the next crossing that touches its position. So each corner is the
-- end of one strand, upper or lower, the two ends hold the same name, and no other corner does: they are partners, and each arc stands
-- twice.
use Rattle.std.proofs.Common.{◌≡◌, ◌≢◌, ℕ, ◌⊎◌, inl, inr, ◌+◌, ◌-◌, ◌*◌, ◌/◌, ◌%◌, ◌<◌, ◌≤◌, ◌∙◌, length, sym, ap, subst, arith, Bool, true}
use Rattle.std.specs.Prelude.{nat_eq, not}
use Rattle.std.specs.List.{count_by, range_with_len}
use Rattle.std.proofs.lemmas.Bool.{cases_eq, cases_lt, eq-eqb, eqb-true, ne_eqb, and_parts, not-true, and_from, both_ways}
use Rattle.std.proofs.lemmas.List.Sums.{length-filter}
use Rattle.kh_types.specs.declared.dart.Dart.{Dart}
use Rattle.kh_types.specs.Code.{IsArc}
use Rattle.kh_types.specs.Darts.{arc_of, dart_at, dart_place, times, partner_at, HasArcsTwice}
use Rattle.kh_types.proofs.DartLemmas.{is_dart_of, times_by_places}
use Rattle.kh_types.proofs.DartPairs.{dart_at-place, dart_place-below, partner_at-only, partner_at-partner_at}
use Rattle.kh_types.proofs.RangeCounts.{but, count_by-but, found-counted}
use Rattle.braid_maker.specs.Words.{closed_crossings}
use Rattle.braid_maker.proofs.Corners.{corner_place, corner_of, corner_place-of, corner_of-place, arc-corner, length-crossings}
use Rattle.braid_maker.proofs.Strands.{IsStrand, strand_below, strand_above, strand_arc, strand-only, upper_arc}

-- each dart is the end of a strand
pub data IsEnd (n : ℕ) (left : ℕ → ℕ) (is_over : ℕ → Bool) (dart : ℕ) : Type 0 where
  at_lower : (q place from lower upper : ℕ) → IsStrand n left q place from lower upper → dart ≡ corner_place is_over place lower
      → IsEnd n left is_over dart
  at_upper : (q place from lower upper : ℕ) → IsStrand n left q place from lower upper → dart ≡ corner_place is_over from upper
      → IsEnd n left is_over dart

pub IsEnd-dart : (n : ℕ) (left : ℕ → ℕ) (is_over : ℕ → Bool) (dart : ℕ) → dart < 4 * n → IsEnd n left is_over dart
IsEnd-dart n left is_over dart below =
    let place = dart / 4 in
    let corner = corner_of is_over dart in
    let small : place < n = omega (arith, below) in
    let is : dart ≡ corner_place is_over place corner = sym (corner_place-of is_over dart) in
    elim (cases_lt corner 2) [
      | inl lower ↦
          let strand = strand_below n left place corner small lower in
          at_lower (left place + corner) place strand.0 corner strand.1 strand.2 is
      | inr upper ↦
          let strand = strand_above n left place corner small upper (omega arith) in
          at_upper strand.2 strand.0 place strand.1 corner strand.3 is
    ]

-- the arc of a strand stands at its two ends
pub arc_at_lower : (n : ℕ) (left : ℕ → ℕ) (is_over : ℕ → Bool) (q place from lower upper : ℕ) → IsStrand n left q place from lower upper
    → arc_of (closed_crossings n left is_over) (dart_at (corner_place is_over place lower)) ≡ 2 * from + 4 - upper
arc_at_lower n left is_over q place from lower upper is =
    arc-corner n left is_over place lower is.place_below (omega (arith, is.lower_below))
    ∙ strand_arc n left q place from lower upper is

pub arc_at_upper : (n : ℕ) (left : ℕ → ℕ) (is_over : ℕ → Bool) (q place from lower upper : ℕ) → IsStrand n left q place from lower upper
    → arc_of (closed_crossings n left is_over) (dart_at (corner_place is_over from upper)) ≡ 2 * from + 4 - upper
arc_at_upper n left is_over q place from lower upper is =
    arc-corner n left is_over from upper is.from_below is.upper_below
    ∙ upper_arc n left from upper is.upper_from is.upper_below

-- and at no others
pub end-of : (n : ℕ) (left : ℕ → ℕ) (is_over : ℕ → Bool) (q place from lower upper dart : ℕ) → IsStrand n left q place from lower upper
    → dart < 4 * n → arc_of (closed_crossings n left is_over) (dart_at dart) ≡ 2 * from + 4 - upper
    → (dart ≡ corner_place is_over place lower) ⊎ (dart ≡ corner_place is_over from upper)
end-of n left is_over q place from lower upper dart is below same =
    let crossings = closed_crossings n left is_over in
    elim (IsEnd-dart n left is_over dart below) [
      | at_lower q' place' from' lower' upper' other at ↦
          let one = strand-only n left q' place' from' lower' upper' q place from lower upper other is
          (sym (ap (λ d. arc_of crossings (dart_at d)) at ∙ arc_at_lower n left is_over q' place' from' lower' upper' other) ∙ same) in
          inl (at ∙ ap (λ k. corner_place is_over k lower') one.0 ∙ ap (λ c. corner_place is_over place c) one.1)
      | at_upper q' place' from' lower' upper' other at ↦
          let one = strand-only n left q' place' from' lower' upper' q place from lower upper other is
          (sym (ap (λ d. arc_of crossings (dart_at d)) at ∙ arc_at_upper n left is_over q' place' from' lower' upper' other) ∙ same) in
          inr (at ∙ ap (λ k. corner_place is_over k upper') one.2 ∙ ap (λ c. corner_place is_over from c) one.3)
    ]

ends-apart : (is_over : ℕ → Bool) (place from lower upper : ℕ) → lower < 2 → 2 ≤ upper → upper < 4
    → corner_place is_over place lower ≢ corner_place is_over from upper
ends-apart is_over place from lower upper small great upper_small same =
    omega (
      arith,
      small,
      great,
      corner_of-place is_over place lower (omega (arith, small)),
      corner_of-place is_over from upper upper_small,
      ap (corner_of is_over) same,
    )

pub place-below : (n : ℕ) (is_over : ℕ → Bool) (place corner : ℕ) → place < n → corner_place is_over place corner < 4 * n
place-below n is_over place corner below = omega (arith, below)

times-arc : (n : ℕ) (left : ℕ → ℕ) (is_over : ℕ → Bool) (q place from lower upper : ℕ) → IsStrand n left q place from lower upper
    → times (closed_crossings n left is_over) (2 * from + 4 - upper) ≡ 2
times-arc n left is_over q place from lower upper is =
    let crossings = closed_crossings n left is_over in
    let size : 4 * length crossings ≡ 4 * n = ap (λ k. 4 * k) (length-crossings n left is_over) in
    let arc = 2 * from + 4 - upper in
    let low = corner_place is_over place lower in
    let high = corner_place is_over from upper in
    let test = is_dart_of crossings arc in
    let apart = ends-apart is_over place from lower upper is.lower_below is.upper_from is.upper_below in
    let at_low : test low ≡ true =
    eq-eqb (arc_of crossings (dart_at low)) arc (arc_at_lower n left is_over q place from lower upper is) in
    let at_high : test high ≡ true =
    eq-eqb (arc_of crossings (dart_at high)) arc (arc_at_upper n left is_over q place from lower upper is) in
    let high_but : but test low high ≡ true =
    and_from (test high) (not (nat_eq high low)) at_high (ap not (ne_eqb high low (λ same. apart (sym same)))) in
    let first = count_by-but test 0 (4 * n) low (omega arith) (omega (arith, place-below n is_over place lower is.place_below)) at_low in
    let second = count_by-but (but test low) 0 (4 * n) high (omega arith)
    (omega (arith, place-below n is_over from upper is.from_below)) high_but in
    let rest = count_by (but (but test low) high) (range_with_len 0 (4 * n)) in
    let none : rest ≡ 0 = elim (cases_eq rest 0) [
      | inl zero_is ↦ zero_is
      | inr some ↦
          let found = found-counted (but (but test low) high) 0 (4 * n) (omega (arith, some)) in
          let k = found.0 in
          let outer = and_parts (but test low k) (not (nat_eq k high)) found.1.passes in
          let inner = and_parts (test k) (not (nat_eq k low)) outer.0 in
          absurd (elim (end-of n left is_over q place from lower upper k is (omega (arith, found.1.below))
          (eqb-true (arc_of crossings (dart_at k)) arc inner.0)) [
            | inl same ↦ both_ways (nat_eq k low) (not-true (nat_eq k low) inner.1) (eq-eqb k low same)
            | inr same ↦ both_ways (nat_eq k high) (not-true (nat_eq k high) outer.1) (eq-eqb k high same)
          ])
    ] in
    sym (times_by_places crossings arc) ∙ length-filter test (range_with_len 0 (4 * length crossings))
    ∙ ap (λ m. count_by test (range_with_len 0 m)) size ∙ omega (arith, first, second, none)

-- each arc of a closed braid stands twice
pub HasArcsTwice-braid : (n : ℕ) (left : ℕ → ℕ) (is_over : ℕ → Bool) → HasArcsTwice (closed_crossings n left is_over)
HasArcsTwice-braid n left is_over =
    let crossings = closed_crossings n left is_over in
    let size = length-crossings n left is_over in
    let arc_is : (q place from lower upper : ℕ) → IsStrand n left q place from lower upper → IsArc crossings (2 * from + 4 - upper) =
    λ q place from lower upper is. record {
      positive = omega (arith, is.upper_below);
      within = omega (arith, is.from_below, is.upper_from, is.upper_below, size);
    } in
    record {
      slots = λ dart is.
          let place = dart_place dart in
          let below : place < 4 * n = omega (arith, dart_place-below crossings dart is, size) in
          subst (λ (d : Dart). IsArc crossings (arc_of crossings d)) (dart_at-place crossings dart is)
          (elim (IsEnd-dart n left is_over place below) [
            | at_lower q place' from lower upper strand at ↦
                subst (λ (a : ℕ). IsArc crossings a)
                (sym (ap (λ d. arc_of crossings (dart_at d)) at ∙ arc_at_lower n left is_over q place' from lower upper strand))
                (arc_is q place' from lower upper strand)
            | at_upper q place' from lower upper strand at ↦
                subst (λ (a : ℕ). IsArc crossings a)
                (sym (ap (λ d. arc_of crossings (dart_at d)) at ∙ arc_at_upper n left is_over q place' from lower upper strand))
                (arc_is q place' from lower upper strand)
          ]);
      twice = λ arc is.
          let from = (arc - 1) / 2 in
          let upper = 3 - (arc - 1) % 2 in
          let below : from < n = omega (arith, is.positive, is.within, size) in
          let strand = strand_above n left from upper below (omega arith) (omega arith) in
          let same : 2 * from + 4 - upper ≡ arc = omega (arith, is.positive) in
          ap (λ a. times crossings a) (sym same) ∙ times-arc n left is_over strand.2 strand.0 from strand.1 upper strand.3;
    }

-- the two ends of a strand are partners
pub partner-lower : (n : ℕ) (left : ℕ → ℕ) (is_over : ℕ → Bool) (q place from lower upper : ℕ) → IsStrand n left q place from lower upper
    → partner_at (closed_crossings n left is_over) (corner_place is_over place lower) ≡ corner_place is_over from upper
partner-lower n left is_over q place from lower upper is =
    let crossings = closed_crossings n left is_over in
    let size = length-crossings n left is_over in
    sym (partner_at-only crossings (corner_place is_over place lower) (corner_place is_over from upper)
    (HasArcsTwice-braid n left is_over) (omega (arith, size, place-below n is_over place lower is.place_below))
    (record {
      below = omega (arith, size, place-below n is_over from upper is.from_below);
      differs = λ same. ends-apart is_over place from lower upper is.lower_below is.upper_from is.upper_below (sym same);
      same_arc = arc_at_upper n left is_over q place from lower upper is ∙ sym (arc_at_lower n left is_over q place from lower upper is);
    }))

pub partner-upper : (n : ℕ) (left : ℕ → ℕ) (is_over : ℕ → Bool) (q place from lower upper : ℕ) → IsStrand n left q place from lower upper
    → partner_at (closed_crossings n left is_over) (corner_place is_over from upper) ≡ corner_place is_over place lower
partner-upper n left is_over q place from lower upper is =
    let crossings = closed_crossings n left is_over in
    ap (partner_at crossings) (sym (partner-lower n left is_over q place from lower upper is))
    ∙ partner_at-partner_at crossings (corner_place is_over place lower) (HasArcsTwice-braid n left is_over)
    (omega (arith, length-crossings n left is_over, place-below n is_over place lower is.place_below))
