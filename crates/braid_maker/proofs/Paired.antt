-- In the parts of a closed braid each name that stands at all stands once as a head and once as a tail.
--
-- Names are given to corners, two corners of a strand having one name. A pass enters at the lower corners of its crossing and leaves at the
-- upper ones, whichever is over. So a name is a head as often as it stands at lower corners, once, and a tail as often as at upper ones,
-- once.
use Rattle.std.proofs.Common.{◌≡◌, ◌≢◌, ℕ, zero, suc, ◌⊎◌, inl, inr, ◌+◌, ◌*◌, ◌/◌, ◌%◌, ◌<◌, ◌≤◌, ◌∙◌, List, [], ◌∷◌, length, refl, sym, ap, ap₂, arith, Bool, true, false, cond}
use Rattle.std.specs.Prelude.{nat_eq, if◌then◌else◌}
use Rattle.std.specs.List.{count_by, range_with_len, sum_by}
use Rattle.std.proofs.lemmas.Bool.{eqb-true}
use Rattle.std.proofs.lemmas.Bool.Decides.{nat_tests}
use Rattle.std.proofs.lemmas.List.Sums.{sum_by-cons}
use Rattle.std.proofs.lemmas.List.FromFn.{get_or-map-range_with_len}
use Rattle.kh_types.specs.Code.{arc_in}
use Rattle.kh_types.proofs.ListSums.{sum_by-flat_map, sum_by-none, sum_by-range_alike, sum_by-single}
use Rattle.code_passes.specs.Passes.{Pass}
use Rattle.code_passes.specs.Parts.{ArePaired, Parts, head_count, is_positive_at, passes_at, over_pass, slots_in, tail_count, under_pass, passes_through}
use Rattle.braid_maker.specs.Closures.{named_parts}
use Rattle.braid_maker.proofs.CircleJoins.{arc_at, arc_at-slot}
use Rattle.braid_maker.proofs.Corners.{corner_of, corner_of-place, corner_place, corner_place-crossing, length-crossings}
use Rattle.braid_maker.proofs.FewClasses.{ends-alike}
use Rattle.braid_maker.proofs.Names.{AreAlike-named}
use Rattle.braid_maker.proofs.Nearest.{Last-is, found, none}
use Rattle.braid_maker.proofs.Partners.{IsEnd-dart, at_lower, at_upper, arc_at_lower, end-of, place-below}
use Rattle.braid_maker.proofs.Strands.{IsStrand}

abbrev counted : Bool → ℕ
counted passes = cond passes 1 0

sum-two : {X : Type 0} (f : X → ℕ) (x y : X) → sum_by f (x ∷ y ∷ []) ≡ f x + f y
sum-two f x y = omega (arith, sum_by-cons f x (y ∷ []), sum_by-cons f y [])

-- whether a corner has a name
abbrev holds : List (List ℕ) → (ℕ → Bool) → ℕ → ℕ → ℕ → Bool
holds others is_over name place corner = nat_eq (arc_at others (corner_place is_over place corner)) name

-- the passes at a place enter at its lower corners and leave at its upper ones
entered : (b : Bool) (name : ℕ) (at : ℕ → ℕ)
    → counted (nat_eq (at 0) name) + counted (nat_eq (at (if b then 3 else 1)) name)
    ≡ counted (nat_eq (at ((0 + cond b 3 0) % 4)) name) + counted (nat_eq (at ((1 + cond b 3 0) % 4)) name)
entered true name at = omega arith
entered false name at = refl

left_again : (b : Bool) (name : ℕ) (at : ℕ → ℕ)
    → counted (nat_eq (at 2) name) + counted (nat_eq (at (if b then 1 else 3)) name)
    ≡ counted (nat_eq (at ((2 + cond b 3 0) % 4)) name) + counted (nat_eq (at ((3 + cond b 3 0) % 4)) name)
left_again true name at = omega arith
left_again false name at = refl

-- how often a name is one end of a pass, summed over the places, where the end is at two corners of each
ends-sum : (f : Pass → ℕ) (under : ℕ) (over : Bool → ℕ) (first second : ℕ)
    → ((slots : List ℕ) (place : ℕ) → f (under_pass slots place) ≡ arc_in slots under)
    → ((slots : List ℕ) (b : Bool) (place : ℕ) → f (over_pass slots b place) ≡ arc_in slots (over b))
    → ((b : Bool) (name : ℕ) (at : ℕ → ℕ) → counted (nat_eq (at under) name) + counted (nat_eq (at (over b)) name)
    ≡ counted (nat_eq (at ((first + cond b 3 0) % 4)) name) + counted (nat_eq (at ((second + cond b 3 0) % 4)) name))
    → (strands n : ℕ) (left : ℕ → ℕ) (is_over : ℕ → Bool) (loops name : ℕ)
    → count_by (λ (pass : Pass). nat_eq (f pass) name) (passes_through (named_parts strands n left is_over loops))
    ≡ sum_by (λ i. counted (holds (named_parts strands n left is_over loops).crossings is_over name i first)
    + counted (holds (named_parts strands n left is_over loops).crossings is_over name i second)) (range_with_len 0 n)
ends-sum f under over first second under_is over_is corners strands n left is_over loops name =
    let parts : Parts = named_parts strands n left is_over loops in
    let size : length parts.crossings ≡ n = (AreAlike-named strands n left is_over loops).size ∙ length-crossings n left is_over in
    sum_by-flat_map (λ (pass : Pass). counted (nat_eq (f pass) name)) (passes_at parts) (range_with_len 0 (length parts.crossings))
    ∙ ap (λ k. sum_by (λ i. count_by (λ (pass : Pass). nat_eq (f pass) name) (passes_at parts i)) (range_with_len 0 k)) size
    ∙ sum_by-range_alike (λ i. count_by (λ (pass : Pass). nat_eq (f pass) name) (passes_at parts i))
    (λ i. counted (holds parts.crossings is_over name i first) + counted (holds parts.crossings is_over name i second)) 0 n
    (λ place from below.
    let slots = slots_in parts.crossings place in
    let at : ℕ → ℕ = λ s. arc_in (slots_in parts.crossings place) s in
    let slot : (c : ℕ) → at ((c + cond (is_over place) 3 0) % 4) ≡ arc_at parts.crossings (corner_place is_over place c) =
    λ c. sym (arc_at-slot parts.crossings place ((c + cond (is_over place) 3 0) % 4) (omega arith)) in
    let sign : is_positive_at parts.positive place ≡ is_over place = get_or-map-range_with_len is_over 0 n place place false (omega (arith, below)) (omega arith) in
    sum-two (λ (pass : Pass). counted (nat_eq (f pass) name)) (under_pass (slots_in parts.crossings place) place)
    (over_pass (slots_in parts.crossings place) (is_positive_at parts.positive place) place)
    ∙ ap₂ (λ x y. counted (nat_eq x name) + counted (nat_eq y name)) (under_is slots place)
    (over_is slots (is_positive_at parts.positive place) place)
    ∙ ap (λ b. counted (nat_eq (at under) name) + counted (nat_eq (at (over b)) name)) sign
    ∙ corners (is_over place) name at
    ∙ ap₂ (λ x y. counted (nat_eq x name) + counted (nat_eq y name)) (slot first) (slot second))

heads-sum : (strands n : ℕ) (left : ℕ → ℕ) (is_over : ℕ → Bool) (loops name : ℕ)
    → head_count (named_parts strands n left is_over loops) name
    ≡ sum_by (λ i. counted (holds (named_parts strands n left is_over loops).crossings is_over name i 0)
    + counted (holds (named_parts strands n left is_over loops).crossings is_over name i 1)) (range_with_len 0 n)
heads-sum =
    ends-sum (λ (pass : Pass). pass.enters) 0 (λ b. if b then 3 else 1) 0 1 (λ slots place. refl) (λ slots b place. refl) entered

tails-sum : (strands n : ℕ) (left : ℕ → ℕ) (is_over : ℕ → Bool) (loops name : ℕ)
    → tail_count (named_parts strands n left is_over loops) name
    ≡ sum_by (λ i. counted (holds (named_parts strands n left is_over loops).crossings is_over name i 2)
    + counted (holds (named_parts strands n left is_over loops).crossings is_over name i 3)) (range_with_len 0 n)
tails-sum =
    ends-sum (λ (pass : Pass). pass.leaves) 2 (λ b. if b then 1 else 3) 2 3 (λ slots place. refl) (λ slots b place. refl) left_again

-- a name stands at the two ends of one strand
record IsName (strands n : ℕ) (left : ℕ → ℕ) (is_over : ℕ → Bool) (loops name q place from lower upper : ℕ) : Type 0 where
  pub strand : IsStrand n left q place from lower upper
  pub same : arc_at (named_parts strands n left is_over loops).crossings (corner_place is_over place lower) ≡ name

-- so at no other corner
name-at : (strands n : ℕ) (left : ℕ → ℕ) (is_over : ℕ → Bool) (loops name q place from lower upper i corner : ℕ)
    → IsName strands n left is_over loops name q place from lower upper → i < n → corner < 4
    → arc_at (named_parts strands n left is_over loops).crossings (corner_place is_over i corner) ≡ name
    → ((i ≡ place) × (corner ≡ lower)) ⊎ ((i ≡ from) × (corner ≡ upper))
name-at strands n left is_over loops name q place from lower upper i corner is below small same =
    let alike = AreAlike-named strands n left is_over loops in
    let size = length-crossings n left is_over in
    let strand = is.strand in
    let dart = corner_place is_over i corner in
    let low = corner_place is_over place lower in
    let dart_below = place-below n is_over i corner below in
    let low_below = place-below n is_over place lower strand.place_below in
    let arc = alike.back dart low (omega (arith, size, dart_below)) (omega (arith, size, low_below)) (same ∙ sym is.same)
    ∙ arc_at_lower n left is_over q place from lower upper strand in
    let parts : (k c : ℕ) → c < 4 → dart ≡ corner_place is_over k c → (i ≡ k) × (corner ≡ c) =
    λ k c c_below at. (
      sym (corner_place-crossing is_over i corner) ∙ ap (λ d. d / 4) at ∙ corner_place-crossing is_over k c,
      sym (corner_of-place is_over i corner small) ∙ ap (corner_of is_over) at ∙ corner_of-place is_over k c c_below,
    ) in
    elim (end-of n left is_over q place from lower upper dart strand dart_below arc) [
      | inl at ↦ inl (parts place lower (omega (arith, strand.lower_below)) at)
      | inr at ↦ inr (parts from upper strand.upper_below at)
    ]

two_cases : (x y name : ℕ) → ((x ≡ name) ⊎ (y ≡ name)) → (x ≡ name → y ≡ name → ⊥) → counted (nat_eq x name) + counted (nat_eq y name) ≡ 1
two_cases x y name either both = grind (arith, nat_tests)

no_cases : (x y name : ℕ) → x ≢ name → y ≢ name → counted (nat_eq x name) + counted (nat_eq y name) ≡ 0
no_cases x y name first second = grind (arith, nat_tests)

low_either : (others : List (List ℕ)) (is_over : ℕ → Bool) (place lower name : ℕ) → lower < 2
    → arc_at others (corner_place is_over place lower) ≡ name
    → (arc_at others (corner_place is_over place 0) ≡ name) ⊎ (arc_at others (corner_place is_over place 1) ≡ name)
low_either others is_over place zero name below same = inl same
low_either others is_over place (suc zero) name below same = inr same
low_either others is_over place (suc (suc lower)) name below same = absurd (omega (arith, below))

high_either : (others : List (List ℕ)) (is_over : ℕ → Bool) (place upper name : ℕ) → 2 ≤ upper → upper < 4
    → arc_at others (corner_place is_over place upper) ≡ name
    → (arc_at others (corner_place is_over place 2) ≡ name) ⊎ (arc_at others (corner_place is_over place 3) ≡ name)
high_either others is_over place zero name two below same = absurd (omega (arith, two))
high_either others is_over place (suc zero) name two below same = absurd (omega (arith, two))
high_either others is_over place (suc (suc zero)) name two below same = inl same
high_either others is_over place (suc (suc (suc zero))) name two below same = inr same
high_either others is_over place (suc (suc (suc (suc c)))) name two below same = absurd (omega (arith, below))

-- a name that stands at one place, at one of two corners, counts once
name-once : (others : List (List ℕ)) (is_over : ℕ → Bool) (n name first second place corner : ℕ) → first ≢ second → place < n
    → (arc_at others (corner_place is_over place first) ≡ name) ⊎ (arc_at others (corner_place is_over place second) ≡ name)
    → ((i c : ℕ) → i < n → (c ≡ first) ⊎ (c ≡ second) → arc_at others (corner_place is_over i c) ≡ name → (i ≡ place) × (c ≡ corner))
    → sum_by (λ i. counted (holds others is_over name i first) + counted (holds others is_over name i second)) (range_with_len 0 n) ≡ 1
name-once others is_over n name first second place corner apart below either only =
    sum_by-single (λ i. counted (holds others is_over name i first) + counted (holds others is_over name i second)) 0 n place (omega arith)
    (omega (arith, below))
    (λ i from i_below elsewhere.
    no_cases (arc_at others (corner_place is_over i first)) (arc_at others (corner_place is_over i second)) name
    (λ one. elsewhere (only i first (omega (arith, i_below)) (inl refl) one).0)
    (λ other. elsewhere (only i second (omega (arith, i_below)) (inr refl) other).0))
    ∙ two_cases (arc_at others (corner_place is_over place first)) (arc_at others (corner_place is_over place second)) name either
    (λ one other. apart ((only place first below (inl refl) one).1 ∙ sym (only place second below (inr refl) other).1))

heads-name : (strands n : ℕ) (left : ℕ → ℕ) (is_over : ℕ → Bool) (loops name q place from lower upper : ℕ)
    → IsName strands n left is_over loops name q place from lower upper → head_count (named_parts strands n left is_over loops) name ≡ 1
heads-name strands n left is_over loops name q place from lower upper is =
    let others = (named_parts strands n left is_over loops).crossings in
    let strand = is.strand in
    heads-sum strands n left is_over loops name
    ∙ name-once others is_over n name 0 1 place lower (λ same. absurd (omega (arith, same))) strand.place_below
    (low_either others is_over place lower name strand.lower_below is.same)
    (λ i c below corner same.
    let small : c < 2 = elim corner [ inl is ↦ omega (arith, is) | inr is ↦ omega (arith, is) ] in
    elim (name-at strands n left is_over loops name q place from lower upper i c is below (omega (arith, small)) same) [
      | inl this ↦ this
      | inr other ↦ absurd (omega (arith, other.1, small, strand.upper_from))
    ])

tails-name : (strands n : ℕ) (left : ℕ → ℕ) (is_over : ℕ → Bool) (loops name q place from lower upper : ℕ)
    → IsName strands n left is_over loops name q place from lower upper → tail_count (named_parts strands n left is_over loops) name ≡ 1
tails-name strands n left is_over loops name q place from lower upper is =
    let others = (named_parts strands n left is_over loops).crossings in
    let strand = is.strand in
    let top : arc_at others (corner_place is_over from upper) ≡ name =
    sym (ends-alike n left is_over others q place from lower upper (AreAlike-named strands n left is_over loops) strand) ∙ is.same in
    tails-sum strands n left is_over loops name
    ∙ name-once others is_over n name 2 3 from upper (λ same. absurd (omega (arith, same))) strand.from_below
    (high_either others is_over from upper name strand.upper_from strand.upper_below top)
    (λ i c below corner same.
    let two : 2 ≤ c = elim corner [ inl is ↦ omega (arith, is) | inr is ↦ omega (arith, is) ] in
    let small : c < 4 = elim corner [ inl is ↦ omega (arith, is) | inr is ↦ omega (arith, is) ] in
    elim (name-at strands n left is_over loops name q place from lower upper i c is below small same) [
      | inl other ↦ absurd (omega (arith, other.1, two, strand.lower_below))
      | inr this ↦ this
    ])

pub ArePaired-named : (strands n : ℕ) (left : ℕ → ℕ) (is_over : ℕ → Bool) (loops : ℕ) → ArePaired (named_parts strands n left is_over loops)
ArePaired-named strands n left is_over loops =
    let parts : Parts = named_parts strands n left is_over loops in
    let both : (name : ℕ) → (head_count parts name ≤ 1) × (tail_count parts name ≡ head_count parts name) = both_counts in
    record { heads = λ name. (both name).0; tails = λ name. (both name).1 }
  where
    of_strand : (name q place from lower upper : ℕ) → IsName strands n left is_over loops name q place from lower upper
        → (head_count (named_parts strands n left is_over loops) name ≤ 1)
        × (tail_count (named_parts strands n left is_over loops) name ≡ head_count (named_parts strands n left is_over loops) name)
    of_strand name q place from lower upper is =
        let heads = heads-name strands n left is_over loops name q place from lower upper is in
        let tails = tails-name strands n left is_over loops name q place from lower upper is in
        (omega (arith, heads), tails ∙ sym heads)

    both_counts : (name : ℕ) → (head_count (named_parts strands n left is_over loops) name ≤ 1)
        × (tail_count (named_parts strands n left is_over loops) name ≡ head_count (named_parts strands n left is_over loops) name)
    both_counts name =
        let others = (named_parts strands n left is_over loops).crossings in
        let test : ℕ → Bool = λ d. nat_eq (arc_at others d) name in
        elim (Last-is test (4 * n)) [
          | found d below passes last is ↦
              let same = eqb-true (arc_at others d) name passes in
              elim (IsEnd-dart n left is_over d below) [
                | at_lower q place from lower upper strand at ↦
                    of_strand name q place from lower upper
                    (record { strand = strand; same = sym (ap (λ k. arc_at others k) at) ∙ same })
                | at_upper q place from lower upper strand at ↦
                    of_strand name q place from lower upper
                    (record {
                      strand = strand;
                      same = ends-alike n left is_over others q place from lower upper (AreAlike-named strands n left is_over loops) strand
                          ∙ sym (ap (λ k. arc_at others k) at) ∙ same;
                    })
              ]
          | none all is ↦
              let fails : (i c : ℕ) → i < n → counted (holds others is_over name i c) ≡ 0 =
              λ i c i_below. ap counted (all (corner_place is_over i c) (place-below n is_over i c i_below)) in
              let heads : head_count (named_parts strands n left is_over loops) name ≡ 0 =
              heads-sum strands n left is_over loops name
              ∙ sum_by-none (λ i. counted (holds others is_over name i 0) + counted (holds others is_over name i 1)) 0 n
              (λ i from i_below. omega (arith, fails i 0 (omega (arith, i_below)), fails i 1 (omega (arith, i_below)))) in
              let tails : tail_count (named_parts strands n left is_over loops) name ≡ 0 =
              tails-sum strands n left is_over loops name
              ∙ sum_by-none (λ i. counted (holds others is_over name i 2) + counted (holds others is_over name i 3)) 0 n
              (λ i from i_below. omega (arith, fails i 2 (omega (arith, i_below)), fails i 3 (omega (arith, i_below)))) in
              (omega (arith, heads), tails ∙ sym heads)
        ]
