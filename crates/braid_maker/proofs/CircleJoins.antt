-- A state of a closed braid has at most as many circles as strands, and one more for each crossing that is not smoothed along the
-- strands. One more pair at each of these, between opposite slots, joins all that the strands join.
--
-- By the slots of a crossing, the smoothing with that pair joins each lower corner with the upper one on its side (`joined-at`). So a class
-- of arcs goes on along a strand from crossing to crossing, up to the last crossing of its position (`arc-class`), and there are at most as
-- many classes as positions with crossings; the strands without are loops. A pair more joins two classes at most, so that without the pairs
-- there are at most as many more as pairs. With a label on each circle this makes twice as many generators for each pair (`power-pairs`).
use Rattle.std.proofs.Common.{◌≡◌, ℕ, zero, suc, inl, inr, ◌+◌, ◌-◌, ◌*◌, ◌/◌, ◌%◌, ◌^◌, ◌<◌, ◌≤◌, ◌∙◌, List, [], ◌∷◌, ◌++◌, length, get_or, refl, sym, ap, ap₂, subst, arith, Bool, true, false, cond}
use Rattle.std.specs.Prelude.{nat_eq, not, slice_index}
use Rattle.std.specs.List.{count_by, enumerate_from, flat_map, range_with_len, sum_by}
use Rattle.std.proofs.lemmas.Bool.{cases_eq}
use Rattle.std.proofs.lemmas.List.{length-append}
use Rattle.std.proofs.lemmas.Nat.{pow-add}
use Rattle.std.proofs.Math.Pow.{pow_mono}
use Rattle.kh_types.specs.Bits.{bit}
use Rattle.kh_types.specs.Classes.{AreBelow, Respects, class_count, classes_of}
use Rattle.kh_types.specs.Code.{Code, IsArc, arc_in}
use Rattle.kh_types.specs.Circles.{circle_count, smoothing_of, smoothings_of}
use Rattle.kh_types.specs.Darts.{HasArcsTwice, arc_of, dart_at}
use Rattle.kh_types.proofs.CircleBound.{ArcsBelow-slots, smoothings_of-below}
use Rattle.kh_types.proofs.ClassCounts.{class_count-append, class_count-circles, class_count-wider}
use Rattle.kh_types.proofs.ClassLemmas.{classes-together}
use Rattle.kh_types.proofs.ListSums.{sum_by-times}
use Rattle.kh_types.proofs.DartPairs.{IsDart-at}
use Rattle.kh_types.proofs.Ranges.{list_any-below}
use Rattle.kh_types.proofs.JoinedClasses.{IsNamed-classes_of}
use Rattle.kh_types.proofs.Lists.{AllByRecursion-append, AllByRecursion-first, AllByRecursion-second}
use Rattle.circle_smoothing.specs.GeneratorCounts.{generator_count}
use Rattle.gluing_laws.specs.Alike.{AreAlike}
use Rattle.braid_maker.specs.Words.{closed_crossings, touches}
use Rattle.braid_maker.proofs.Corners.{corner_place, length-crossings}
use Rattle.braid_maker.proofs.FewClasses.{arc-dart, chain, ends-alike, few-classes, is_touched, last_at}
use Rattle.braid_maker.proofs.Partners.{at_lower, at_upper, IsEnd-dart}
use Rattle.braid_maker.proofs.Strands.{IsStrand}
use Rattle.braid_maker.proofs.Weights.{goes_along, sum-le, sum-weights, weight}

-- the arc at a dart, by its place
abbrev pub arc_at : List (List ℕ) → ℕ → ℕ
arc_at others dart = arc_of others (dart_at dart)

-- one more pair for a crossing that is not smoothed along its strands
abbrev pair_of : List (List ℕ) → Bool → ℕ → ℕ → List (ℕ × ℕ)
pair_of others is_over bit place =
    cond (goes_along is_over bit) [] ((arc_at others (4 * place), arc_at others (4 * place + 2)) ∷ [])

abbrev pairs_of : List (List ℕ) → (ℕ → Bool) → ℕ → ℕ → List (ℕ × ℕ)
pairs_of others is_over state zero = []
pairs_of others is_over state (suc n) = pair_of others (is_over n) (bit state n) n ++ pairs_of others is_over state n

power-pair : (b : Bool) (pair : ℕ × ℕ) → 2 ^ length (cond b [] (pair ∷ [])) ≡ cond b 1 2
power-pair true pair = refl
power-pair false pair = refl

power-pairs : (others : List (List ℕ)) (is_over : ℕ → Bool) (state n : ℕ) → 2 ^ length (pairs_of others is_over state n) ≡ weight is_over n state
power-pairs others is_over state zero = refl
power-pairs others is_over state (suc n) =
    let here = pair_of others (is_over n) (bit state n) n in
    let rest = pairs_of others is_over state n in
    ap (λ k. 2 ^ k) (length-append here rest)
    ∙ pow-add 2 (length here) (length rest)
    ∙ ap₂ (λ a b. a * b) (power-pair (goes_along (is_over n) (bit state n)) (arc_at others (4 * n), arc_at others (4 * n + 2)))
    (power-pairs others is_over state n)

-- the smoothing at a place
smoothing-at : (f : ℕ → ℕ) (state from : ℕ) (crossings : List (List ℕ)) (place : ℕ) → place < length crossings
    → Respects f (flat_map (λ at. smoothing_of (bit state at.0) at.1) (enumerate_from from crossings))
    → Respects f (smoothing_of (bit state (from + place)) (get_or crossings place []))
smoothing-at f state from [] place below all = absurd (omega (arith, below))
smoothing-at f state from (slots ∷ crossings) zero below all =
    let Same : ℕ × ℕ → Type 0 = λ pair. f pair.0 ≡ f pair.1 in
    let e : from ≡ from + 0 = omega arith in
    subst (λ (k : ℕ). Respects f (smoothing_of (bit state k) slots)) e
    (AllByRecursion-first Same (smoothing_of (bit state from) slots)
    (flat_map (λ at. smoothing_of (bit state at.0) at.1) (enumerate_from (from + 1) crossings)) all)
smoothing-at f state from (slots ∷ crossings) (suc place) below all =
    let Same : ℕ × ℕ → Type 0 = λ pair. f pair.0 ≡ f pair.1 in
    let e : from + 1 + place ≡ from + suc place = omega arith in
    subst (λ (k : ℕ). Respects f (smoothing_of (bit state k) (get_or crossings place []))) e
    (smoothing-at f state (from + 1) crossings place (omega (arith, below))
    (AllByRecursion-second Same (smoothing_of (bit state from) slots)
    (flat_map (λ at. smoothing_of (bit state at.0) at.1) (enumerate_from (from + 1) crossings)) all))

pair-at : (f : ℕ → ℕ) (others : List (List ℕ)) (is_over : ℕ → Bool) (state n place : ℕ) → place < n
    → Respects f (pairs_of others is_over state n) → Respects f (pair_of others (is_over place) (bit state place) place)
pair-at f others is_over state zero place below all = absurd (omega (arith, below))
pair-at f others is_over state (suc n) place below all =
    let Same : ℕ × ℕ → Type 0 = λ pair. f pair.0 ≡ f pair.1 in
    let here = pair_of others (is_over n) (bit state n) n in
    let rest = pairs_of others is_over state n in
    elim (cases_eq place n) [
      | inl same ↦ subst (λ (k : ℕ). Respects f (pair_of others (is_over k) (bit state k) k)) (sym same)
          (AllByRecursion-first Same here rest all)
      | inr apart ↦ pair-at f others is_over state n place (omega (arith, below, apart)) (AllByRecursion-second Same here rest all)
    ]

-- by the slots of a crossing: what a smoothing joins, with the pair more, is joined along the strands
record IsAlong (g : ℕ → ℕ) (shift : ℕ) : Type 0 where
  pub at_left : g ((0 + shift) % 4) ≡ g ((3 + shift) % 4)
  pub at_right : g ((1 + shift) % 4) ≡ g ((2 + shift) % 4)

abbrev Smoothed : (ℕ → ℕ) → Bool → Type 0
Smoothed g true = (g 0 ≡ g 1) × (g 2 ≡ g 3)
Smoothed g false = (g 0 ≡ g 3) × (g 1 ≡ g 2)

abbrev Paired : (ℕ → ℕ) → Bool → Type 0
Paired g true = Unit {0}
Paired g false = g 0 ≡ g 2

along : (g : ℕ → ℕ) (is_over is_zero : Bool) → Smoothed g is_zero → Paired g (cond is_over is_zero (not is_zero))
    → IsAlong g (cond is_over 3 0)
along g true true smoothed paired = record { at_left = sym smoothed.1; at_right = smoothed.0 }
along g true false smoothed paired = record {
  at_left = sym smoothed.0 ∙ paired;
  at_right = paired ∙ sym smoothed.1;
}
along g false true smoothed paired = record {
  at_left = paired ∙ smoothed.1;
  at_right = sym smoothed.0 ∙ paired;
}
along g false false smoothed paired = record { at_left = smoothed.0; at_right = smoothed.1 }

smoothed-from : (f : ℕ → ℕ) (b : Bool) (slots : List ℕ)
    → Respects f (cond b ((arc_in slots 0, arc_in slots 1) ∷ (arc_in slots 2, arc_in slots 3) ∷ [])
    ((arc_in slots 0, arc_in slots 3) ∷ (arc_in slots 1, arc_in slots 2) ∷ []))
    → Smoothed (λ s. f (arc_in slots s)) b
smoothed-from f true slots all = (all.0, all.1.0)
smoothed-from f false slots all = (all.0, all.1.0)

paired-from : (f g : ℕ → ℕ) (b : Bool) (x y : ℕ) → f x ≡ g 0 → f y ≡ g 2 → Respects f (cond b [] ((x, y) ∷ [])) → Paired g b
paired-from f g true x y first second all = tt
paired-from f g false x y first second all = sym first ∙ all.0 ∙ second

-- a slot by its place
pub arc_at-slot : (others : List (List ℕ)) (place slot : ℕ) → slot < 4 → arc_at others (4 * place + slot) ≡ arc_in (get_or others place []) slot
arc_at-slot others place slot below =
    let first : (4 * place + slot) / 4 + 1 - 1 ≡ place = omega (arith, below) in
    let second : (4 * place + slot) % 4 ≡ slot = omega (arith, below) in
    ap₂ (λ k s. arc_in (get_or others k []) s) first second

record IsJoined (f : ℕ → ℕ) (is_over : ℕ → Bool) (others : List (List ℕ)) (place : ℕ) : Type 0 where
  pub at_left : f (arc_at others (corner_place is_over place 0)) ≡ f (arc_at others (corner_place is_over place 3))
  pub at_right : f (arc_at others (corner_place is_over place 1)) ≡ f (arc_at others (corner_place is_over place 2))

joined-at : (f : ℕ → ℕ) (others : List (List ℕ)) (is_over : ℕ → Bool) (state n place : ℕ) → place < n → length others ≡ n
    → Respects f (smoothings_of others state ++ pairs_of others is_over state n) → IsJoined f is_over others place
joined-at f others is_over state n place below size all =
    let Same : ℕ × ℕ → Type 0 = λ pair. f pair.0 ≡ f pair.1 in
    let smoothings = smoothings_of others state in
    let pairs = pairs_of others is_over state n in
    let slots = get_or others place [] in
    let g : ℕ → ℕ = λ s. f (arc_in slots s) in
    let is_zero = nat_eq (bit state place) 0 in
    let e : 0 + place ≡ place = omega arith in
    let smoothing = subst (λ (k : ℕ). Respects f (smoothing_of (bit state k) slots)) e
    (smoothing-at f state 0 others place (omega (arith, below, size)) (AllByRecursion-first Same smoothings pairs all)) in
    let pair = pair-at f others is_over state n place below (AllByRecursion-second Same smoothings pairs all) in
    let zero_place : 4 * place ≡ 4 * place + 0 = omega arith in
    let is = along g (is_over place) is_zero (smoothed-from f is_zero slots smoothing)
    (paired-from f g (goes_along (is_over place) (bit state place)) (arc_at others (4 * place)) (arc_at others (4 * place + 2))
    (ap (λ d. f (arc_at others d)) zero_place ∙ ap f (arc_at-slot others place 0 (omega arith)))
    (ap f (arc_at-slot others place 2 (omega arith))) pair) in
    let at : (c : ℕ) → f (arc_at others (corner_place is_over place c)) ≡ g ((c + cond (is_over place) 3 0) % 4) =
    λ c. ap f (arc_at-slot others place ((c + cond (is_over place) 3 0) % 4) (omega arith)) in
    record {
      at_left = at 0 ∙ is.at_left ∙ sym (at 3);
      at_right = at 1 ∙ is.at_right ∙ sym (at 2);
    }

-- the lower corner of a place at a position
abbrev low_corner : (ℕ → ℕ) → ℕ → ℕ → ℕ
low_corner left position place = position - left place

abbrev low_arc : (ℕ → ℕ) → (ℕ → Bool) → List (List ℕ) → ℕ → ℕ → ℕ
low_arc left is_over others position place = arc_at others (corner_place is_over place (low_corner left position place))

same_side : (f : ℕ → ℕ) (others : List (List ℕ)) (is_over : ℕ → Bool) (left : ℕ → ℕ) (position from upper : ℕ)
    → IsJoined f is_over others from → 2 ≤ upper → upper < 4 → left from + 3 ≡ position + upper
    → f (arc_at others (corner_place is_over from upper)) ≡ f (low_arc left is_over others position from)
same_side f others is_over left position from zero joined two below at = absurd (omega (arith, two))
same_side f others is_over left position from (suc zero) joined two below at = absurd (omega (arith, two))
same_side f others is_over left position from (suc (suc zero)) joined two below at =
    let e : 1 ≡ position - left from = omega (arith, at) in
    sym joined.at_right ∙ ap (λ c. f (arc_at others (corner_place is_over from c))) e
same_side f others is_over left position from (suc (suc (suc zero))) joined two below at =
    let e : 0 ≡ position - left from = omega (arith, at) in
    sym joined.at_left ∙ ap (λ c. f (arc_at others (corner_place is_over from c))) e
same_side f others is_over left position from (suc (suc (suc (suc c)))) joined two below at = absurd (omega (arith, below))

-- the conditions on a code: it is alike to the closed braid, each arc stands twice, its loops are the strands without crossings, and the
-- positions are 1 to the number of strands
pub record IsBraidCode (n : ℕ) (left : ℕ → ℕ) (is_over : ℕ → Bool) (strands : ℕ) (code : Code) : Type 0 where
  pub alike : AreAlike (closed_crossings n left is_over) code.crossings
  pub twice : HasArcsTwice code.crossings
  pub first : (place : ℕ) → place < n → 1 ≤ left place
  pub last : (place : ℕ) → place < n → left place < strands
  pub loops : code.loops ≡ count_by (λ q. not (is_touched n left q)) (range_with_len 1 strands)

pub code-size : (n : ℕ) (left : ℕ → ℕ) (is_over : ℕ → Bool) (strands : ℕ) (code : Code) → IsBraidCode n left is_over strands code
    → length code.crossings ≡ n
code-size n left is_over strands code is = is.alike.size ∙ length-crossings n left is_over

-- a dart of an arc is at a place with a position
pub record IsAtPosition (n : ℕ) (left : ℕ → ℕ) (strands q : ℕ) : Type 0 where
  pub first : 1 ≤ q
  pub last : q ≤ strands
  pub touched : is_touched n left q ≡ true

pub at-position : (n : ℕ) (left : ℕ → ℕ) (is_over : ℕ → Bool) (strands : ℕ) (code : Code) (q place from lower upper : ℕ)
    → IsBraidCode n left is_over strands code → IsStrand n left q place from lower upper → IsAtPosition n left strands q
at-position n left is_over strands code q place from lower upper is strand = record {
  first = omega (arith, strand.at_place, is.first place strand.place_below);
  last = omega (arith, strand.at_place, strand.lower_below, is.last place strand.place_below);
  touched = list_any-below (touches left q) n from strand.from_below strand.nearest.passes;
}

pairs-below : (others : List (List ℕ)) (is_over : ℕ → Bool) (state n m : ℕ) → ((d : ℕ) → d < 4 * n → arc_at others d < m)
    → AreBelow m (pairs_of others is_over state n)
pairs-below others is_over state zero m below = tt
pairs-below others is_over state (suc n) m below =
    AllByRecursion-append (λ (pair : ℕ × ℕ). (pair.0 < m) × (pair.1 < m)) (pair_of others (is_over n) (bit state n) n)
    (pairs_of others is_over state n)
    (one (goes_along (is_over n) (bit state n)) (arc_at others (4 * n)) (arc_at others (4 * n + 2)) (below (4 * n) (omega arith))
    (below (4 * n + 2) (omega arith)))
    (pairs-below others is_over state n m (λ d d_below. below d (omega (arith, d_below))))
  where
    one : (b : Bool) (x y : ℕ) → x < m → y < m → AreBelow m (cond b [] ((x, y) ∷ []))
    one true x y first second = tt
    one false x y first second = ((first, second), tt)

-- each arc is in the class of the arc at the last crossing of its position
arc-class : (n : ℕ) (left : ℕ → ℕ) (is_over : ℕ → Bool) (strands : ℕ) (code : Code) (f : ℕ → ℕ) (x : ℕ)
    → IsBraidCode n left is_over strands code → ((place : ℕ) → place < n → IsJoined f is_over code.crossings place)
    → IsArc code.crossings x
    → (q : ℕ) × (1 ≤ q) × (q ≤ strands) × (is_touched n left q ≡ true)
    × (f (low_arc left is_over code.crossings q (last_at n left q)) ≡ f x)
arc-class n left is_over strands code f x is joined is_arc =
    let others = code.crossings in
    let some = arc-dart others x is.twice is_arc in
    let dart = some.0 in
    let below : dart < 4 * n = omega (arith, some.1, code-size n left is_over strands code is) in
    let low : (q place from lower upper : ℕ) → IsStrand n left q place from lower upper
    → f (low_arc left is_over others q place) ≡ f (arc_at others (corner_place is_over place lower)) =
    λ q place from lower upper strand.
    let e : q - left place ≡ lower = omega (arith, strand.at_place) in ap (λ c. f (arc_at others (corner_place is_over place c))) e in
    let stays : (q place from lower upper : ℕ) → IsStrand n left q place from lower upper
    → f (low_arc left is_over others q place) ≡ f (low_arc left is_over others q from) =
    λ q place from lower upper strand.
    low q place from lower upper strand
    ∙ ap f (ends-alike n left is_over others q place from lower upper is.alike strand)
    ∙ same_side f others is_over left q from upper (joined from strand.from_below) strand.upper_from strand.upper_below strand.at_from in
    let last : (q place from lower upper : ℕ) → IsStrand n left q place from lower upper
    → f (low_arc left is_over others q (last_at n left q)) ≡ f (arc_at others (corner_place is_over place lower)) =
    λ q place from lower upper strand.
    sym (chain n left q (low_arc_of q) (stays q) (place + 1) place lower (omega arith) strand.place_below strand.lower_below strand.at_place)
    ∙ low q place from lower upper strand in
    let class : (q place from lower upper : ℕ) → IsStrand n left q place from lower upper
    → f (arc_at others (corner_place is_over place lower)) ≡ f x
    → (q : ℕ) × (1 ≤ q) × (q ≤ strands) × (is_touched n left q ≡ true) × (f (low_arc left is_over others q (last_at n left q)) ≡ f x) =
    λ q place from lower upper strand same.
    let there = at-position n left is_over strands code q place from lower upper is strand in
    (q, there.first, there.last, there.touched, last q place from lower upper strand ∙ same) in
    elim (IsEnd-dart n left is_over dart below) [
      | at_lower q place from lower upper strand at ↦
          class q place from lower upper strand (sym (ap (λ d. f (arc_at others d)) at) ∙ ap f some.2)
      | at_upper q place from lower upper strand at ↦
          class q place from lower upper strand
          (ap f (ends-alike n left is_over others q place from lower upper is.alike strand)
          ∙ sym (ap (λ d. f (arc_at others d)) at) ∙ ap f some.2)
    ]
  where
    low_arc_of : ℕ → ℕ → ℕ
    low_arc_of q place = f (low_arc left is_over code.crossings q place)

pub circle_count-braid : (n : ℕ) (left : ℕ → ℕ) (is_over : ℕ → Bool) (strands : ℕ) (code : Code) (state : ℕ)
    → IsBraidCode n left is_over strands code
    → circle_count code state ≤ strands + length (pairs_of code.crossings is_over state n)
circle_count-braid n left is_over strands code state is =
    let others = code.crossings in
    let size = code-size n left is_over strands code is in
    let m = 2 * length others + 1 in
    let smoothings = smoothings_of others state in
    let pairs = pairs_of others is_over state n in
    let arcs = is.twice.slots in
    let narrow = smoothings_of-below m state others (ArcsBelow-slots m others arcs (omega arith)) in
    let wide = smoothings_of-below (2 * length others + code.loops + 1) state others
    (ArcsBelow-slots (2 * length others + code.loops + 1) others arcs (omega arith)) in
    let more = pairs-below others is_over state n m
    (λ d below. omega (arith, (arcs (dart_at d) (IsDart-at others d (omega (arith, below, size)))).within)) in
    let all = smoothings ++ pairs in
    let all_below = AllByRecursion-append (λ (pair : ℕ × ℕ). (pair.0 < m) × (pair.1 < m)) smoothings pairs narrow more in
    let classes = classes_of m all in
    let f : ℕ → ℕ = λ x. slice_index classes x in
    let together = classes-together m all all_below in
    let few = few-classes n left strands m classes (λ q. low_arc left is_over others q (last_at n left q)) (IsNamed-classes_of m all all_below)
    (λ x positive below.
    arc-class n left is_over strands code f x is (λ place place_below. joined-at f others is_over state n place place_below size together)
    (record { positive = positive; within = omega (arith, below) })) in
    let same : 2 * length others + code.loops + 1 ≡ m + code.loops = omega arith in
    omega (
      arith,
      few,
      is.loops,
      class_count-circles code state wide,
      ap (λ k. class_count (classes_of k smoothings)) same,
      class_count-wider m code.loops smoothings narrow,
      (class_count-append m smoothings pairs narrow more).1,
    )

-- so the generators are at most 2 to the number of strands, times 3 to the number of letters
pub generator_count-braid : (n : ℕ) (left : ℕ → ℕ) (is_over : ℕ → Bool) (strands : ℕ) (code : Code)
    → IsBraidCode n left is_over strands code → generator_count code ≤ 2 ^ strands * 3 ^ n
generator_count-braid n left is_over strands code is =
    let others = code.crossings in
    let size = code-size n left is_over strands code is in
    let f : ℕ → ℕ = λ s. 2 ^ circle_count code s in
    let g : ℕ → ℕ = λ s. 2 ^ strands * weight is_over n s in
    let few = sum-le f g (2 ^ n)
    (λ s below.
    omega (
      arith,
      pow_mono (circle_count-braid n left is_over strands code s is),
      pow-add 2 strands (length (pairs_of others is_over s n)),
      ap (λ k. 2 ^ strands * k) (power-pairs others is_over s n),
    )) in
    omega (
      arith,
      ap (λ k. sum_by f (range_with_len 0 (2 ^ k))) size,
      few,
      sum_by-times (weight is_over n) (2 ^ strands) (range_with_len 0 (2 ^ n)),
      ap (λ k. 2 ^ strands * k) (sum-weights is_over n),
    )
