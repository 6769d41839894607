-- The coefficient along an edge, by points: some arcs and loops such that each circle has one of them on it. Where two circles become one,
-- a circle stays just where it has the same points before and behind. So a label fits another along the edge just where circles with the
-- same points keep their labels, and as many labels are v- behind as before, or one more where there is a circle more.
use Rattle.std.proofs.lemmas.Bool.Decides.{nat_tests}
use Rattle.std.proofs.Common.{◌≡◌, ◌≢◌, ℕ, ◌⊎◌, inl, inr, ◌+◌, ◌<◌, ◌≤◌, ◌∙◌, List, [], ◌∷◌, map, refl, sym, subst, ap, ap₂, arith, Bool, true, false, not, ◌&&◌, ◌||◌}
use Rattle.std.specs.Prelude.{nat_eq, nat_lt}
use Rattle.std.specs.List.{Contains, filter, list_all, sum_by}
use Rattle.std.proofs.lemmas.Bool.{and_from, and_parts, both_ways, cases_Bool, cases_eq, eq-eqb, eqb-true, false_from_ne_true, le-ltb, lt-ltb, ne_eqb, or_cases, or_left, or_right}
use Rattle.kh_types.specs.Bits.{one_if, ones}
use Rattle.kh_types.specs.Circles.{circle_count, circle_names}
use Rattle.kh_types.specs.CircleNumbers.{IsName}
use Rattle.kh_types.specs.Code.{Code}
use Rattle.kh_types.specs.Differential.{changes_labels, is_merge, is_split, is_touched, keeps_labels, label_of}
use Rattle.kh_types.specs.Edges.{TwoBecomeOne, is_other}
use Rattle.kh_types.specs.Generators.{generator_of}
use Rattle.kh_types.proofs.Lists.{Contains-filter}
use Rattle.kh_types.proofs.Tests.{agree, other-passes, other-differs, unless-forth}
use Rattle.cell_laws.proofs.Members.{Contains-first, Contains-kept, Contains-later, sum_by-members}
use Rattle.square_laws.proofs.TouchedCircles.{fits, one_in, two_in}
use Rattle.view_laws.specs.Partitions.{is_kept}
use Rattle.view_laws.specs.Views.{HasCircles, circle_at}
use Rattle.view_laws.proofs.CircleNames.{circle-name, label-circle, label-small, name-from, name-of, names-once, ones-labels}
use Rattle.view_laws.proofs.Tests.{all-agree, all-at, all-from, and-same, sum-taken}

-- two points are on one circle
abbrev pub same_at : Code → ℕ → ℕ → ℕ → Bool
same_at code state x y = nat_eq (circle_at code state x) (circle_at code state y)

-- the tests of labels by points
abbrev pub keeps_point : Code → List ℕ → ℕ → ℕ → ℕ → ℕ → ℕ → Bool
keeps_point code points before behind label other x =
    not (is_kept (same_at code before) (same_at code behind) points x)
    || nat_eq (label_of code (generator_of before label) x) (label_of code (generator_of behind other) x)

abbrev pub keeps_points : Code → List ℕ → ℕ → ℕ → ℕ → ℕ → Bool
keeps_points code points before behind label other = list_all (keeps_point code points before behind label other) points

abbrev pub counts_all : Code → ℕ → ℕ → ℕ → ℕ → Bool
counts_all code before behind label other =
    nat_eq (ones (circle_count code behind) other)
    (ones (circle_count code before) label + one_if (nat_lt (circle_count code before) (circle_count code behind)))

-- a point on a circle that changes has the label l, before and behind
abbrev pub has_point : Code → List ℕ → ℕ → ℕ → ℕ → ℕ → ℕ → ℕ → Bool
has_point code points before behind label other l x =
    is_kept (same_at code before) (same_at code behind) points x
    || (nat_eq (label_of code (generator_of before label) x) l && nat_eq (label_of code (generator_of behind other) x) l)

abbrev pub has_points : Code → List ℕ → ℕ → ℕ → ℕ → ℕ → ℕ → Bool
has_points code points before behind label other l = list_all (has_point code points before behind label other l) points

-- the points of a code: arcs and loops, of which one is on each circle of a state
pub record ArePoints (code : Code) (points : List ℕ) (state : ℕ) : Type 0 where
  pub named : (x : ℕ) → Contains points x → IsName code x
  pub shows : (arc : ℕ) → IsName code arc → (x : ℕ) × Contains points x × (circle_at code state x ≡ circle_at code state arc)

-- what tests say
one-same : (a b : Bool) → nat_eq (one_if a) (one_if b) ≡ true → a ≡ b
one-same true true passes = refl
one-same false false passes = refl
one-same true false passes = sym passes
one-same false true passes = passes

pub kept-forth : (r s : ℕ → ℕ → Bool) (xs : List ℕ) (x : ℕ) → is_kept r s xs x ≡ true → (y : ℕ) → Contains xs y → r x y ≡ s x y
kept-forth r s xs x passes y has = one-same (r x y) (s x y) (all-at (λ z. nat_eq (one_if (r x z)) (one_if (s x z))) xs y passes has)

pub kept-back : (r s : ℕ → ℕ → Bool) (xs : List ℕ) (x : ℕ) → ((y : ℕ) → Contains xs y → r x y ≡ s x y) → is_kept r s xs x ≡ true
kept-back r s xs x same =
    all-from (λ z. nat_eq (one_if (r x z)) (one_if (s x z))) xs
    (λ y has. eq-eqb (one_if (r x y)) (one_if (s x y)) (ap one_if (same y has)))

pub unless-back : (k e : Bool) → (k ≡ true → e ≡ true) → (not k || e) ≡ true
unless-back true e passes = passes refl
unless-back false e passes = refl

-- the rows of the tables
row-two : (a b c : ℕ) → a < 2 → b < 2 → c < 2
    → (is_merge (a ∷ b ∷ []) (c ∷ []) || is_split (a ∷ b ∷ []) (c ∷ [])) ≡ nat_eq c (a + b)
row-two a b c a_bit b_bit c_bit = grind (arith, nat_tests, a_bit, b_bit, c_bit)

row-one : (a b c : ℕ) → a < 2 → b < 2 → c < 2
    → (is_merge (c ∷ []) (a ∷ b ∷ []) || is_split (c ∷ []) (a ∷ b ∷ [])) ≡ nat_eq (a + b) (c + 1)
row-one a b c a_bit b_bit c_bit = grind (arith, nat_tests, a_bit, b_bit, c_bit)

module _ (code : Code) (big small crossing kept gone : ℕ) (circles : HasCircles code)
    (two : TwoBecomeOne code big small crossing kept gone) where
  abbrev pub at_big : ℕ → ℕ
  at_big = circle_at code big

  abbrev pub at_small : ℕ → ℕ
  at_small = circle_at code small

  abbrev rest : List ℕ
  rest = filter (is_other kept) (circle_names code small)

  kept-big : Contains (circle_names code big) kept × (is_touched code big crossing kept ≡ true)
  kept-big =
      Contains-kept (is_touched code big crossing) (circle_names code big) kept
      (subst (λ (xs : List ℕ). Contains xs kept) (sym two.touched_before) (Contains-first kept (gone ∷ [])))

  gone-big : Contains (circle_names code big) gone × (is_touched code big crossing gone ≡ true)
  gone-big =
      Contains-kept (is_touched code big crossing) (circle_names code big) gone
      (subst (λ (xs : List ℕ). Contains xs gone) (sym two.touched_before)
      (Contains-later kept gone (gone ∷ []) (Contains-first gone [])))

  kept-small : Contains (circle_names code small) kept × (is_touched code small crossing kept ≡ true)
  kept-small =
      Contains-kept (is_touched code small crossing) (circle_names code small) kept
      (subst (λ (xs : List ℕ). Contains xs kept) (sym two.touched_after) (Contains-first kept []))

  -- the circles that stay
  record IsRest (c : ℕ) : Type 0 where
    name : IsName code c
    big_own : at_big c ≡ c
    small_own : at_small c ≡ c
    not_kept : c ≢ kept
    not_gone : c ≢ gone

  rest-from : (c : ℕ) → Contains rest c → IsRest c
  rest-from c has =
      let in_small = Contains-kept (is_other kept) (circle_names code small) c has in
      let in_big = Contains-kept (is_other gone) (circle_names code big) c
      (subst (λ (xs : List ℕ). Contains xs c) two.names in_small.0) in
      let name_small = name-from code small c in_small.0 in
      let name_big = name-from code big c in_big.0 in
      record {
        name = name_small.name;
        big_own = name_big.own;
        small_own = name_small.own;
        not_kept = other-differs kept c in_small.1;
        not_gone = other-differs gone c in_big.1;
      }

  rest-of : (c : ℕ) → IsRest c → Contains rest c
  rest-of c is =
      Contains-filter (is_other kept) (circle_names code small) c (other-passes kept c is.not_kept)
      (name-of code small c (record { name = is.name; own = is.small_own }))

  -- a circle of the many that is neither of the two stays, and one of the few that is not the one
  stays-big : (c : ℕ) → IsName code c → at_big c ≡ c → c ≢ kept → c ≢ gone → IsRest c
  stays-big c name own not_kept not_gone =
      record {
        name = name;
        big_own = own;
        small_own = two.others c (λ is. not_gone (sym own ∙ is)) ∙ own;
        not_kept = not_kept;
        not_gone = not_gone;
      }

  untouched-big : (c : ℕ) → IsRest c → is_touched code big crossing c ≡ false
  untouched-big c is =
      false_from_ne_true (is_touched code big crossing c)
      (λ touches. elim (two_in c kept gone (subst (λ (xs : List ℕ). Contains xs c) two.touched_before
      (Contains-filter (is_touched code big crossing) (circle_names code big) c touches
      (name-of code big c (record { name = is.name; own = is.big_own }))))) [
        | inl is_kept_one ↦ is.not_kept is_kept_one
        | inr is_gone_one ↦ is.not_gone is_gone_one
      ])

  untouched-small : (c : ℕ) → IsRest c → is_touched code small crossing c ≡ false
  untouched-small c is =
      false_from_ne_true (is_touched code small crossing c)
      (λ touches. is.not_kept (one_in c kept (subst (λ (xs : List ℕ). Contains xs c) two.touched_after
      (Contains-filter (is_touched code small crossing) (circle_names code small) c touches
      (name-of code small c (record { name = is.name; own = is.small_own }))))))

  -- sums over circles
  sum-small : (f : ℕ → ℕ) → sum_by f (circle_names code small) ≡ f kept + sum_by f rest
  sum-small f = sum-taken f (circle_names code small) kept (names-once code small) kept-small.0

  sum-big : (f : ℕ → ℕ) → sum_by f (circle_names code big) ≡ f gone + (f kept + sum_by f rest)
  sum-big f =
      sum-taken f (circle_names code big) gone (names-once code big) gone-big.0
      ∙ ap (λ (xs : List ℕ). f gone + sum_by f xs) (sym two.names)
      ∙ ap (λ n. f gone + n) (sum-small f)

  module _ (b s : ℕ) where
    abbrev pub label_big : ℕ → ℕ
    label_big = label_of code (generator_of big b)

    abbrev pub label_small : ℕ → ℕ
    label_small = label_of code (generator_of small s)

    abbrev SameRest : Type 0
    SameRest = (c : ℕ) → Contains rest c → label_big c ≡ label_small c

    -- the definition's test of the circles that stay, forwards and backwards
    merge-forth : keeps_labels code (generator_of big b) (generator_of small s) crossing ≡ true → SameRest
    merge-forth passes c has =
        let is = rest-from c has in
        let here = all-at (λ z. is_touched code big crossing z || nat_eq (label_big z) (label_small z)) (circle_names code big) c passes
        (name-of code big c (record { name = is.name; own = is.big_own })) in
        elim (or_cases (is_touched code big crossing c) (nat_eq (label_big c) (label_small c)) here) [
          | inl touches ↦ absurd (both_ways (is_touched code big crossing c) (untouched-big c is) touches)
          | inr same ↦ eqb-true (label_big c) (label_small c) same
        ]

    merge-back : SameRest → keeps_labels code (generator_of big b) (generator_of small s) crossing ≡ true
    merge-back same =
        all-from (λ z. is_touched code big crossing z || nat_eq (label_big z) (label_small z)) (circle_names code big)
        (λ c has. elim (cases_Bool (is_touched code big crossing c)) [
          | inl touches ↦ or_left (is_touched code big crossing c) (nat_eq (label_big c) (label_small c)) touches
          | inr fails ↦
              let is = name-from code big c has in
              let stays = stays-big c is.name is.own
              (λ one. both_ways (is_touched code big crossing c) fails (ap (is_touched code big crossing) one ∙ kept-big.1))
              (λ one. both_ways (is_touched code big crossing c) fails (ap (is_touched code big crossing) one ∙ gone-big.1)) in
              or_right (is_touched code big crossing c) (nat_eq (label_big c) (label_small c))
              (eq-eqb (label_big c) (label_small c) (same c (rest-of c stays)))
        ])

    split-forth : keeps_labels code (generator_of small s) (generator_of big b) crossing ≡ true → SameRest
    split-forth passes c has =
        let is = rest-from c has in
        let here = all-at (λ z. is_touched code small crossing z || nat_eq (label_small z) (label_big z)) (circle_names code small) c passes
        (name-of code small c (record { name = is.name; own = is.small_own })) in
        elim (or_cases (is_touched code small crossing c) (nat_eq (label_small c) (label_big c)) here) [
          | inl touches ↦ absurd (both_ways (is_touched code small crossing c) (untouched-small c is) touches)
          | inr same ↦ sym (eqb-true (label_small c) (label_big c) same)
        ]

    split-back : SameRest → keeps_labels code (generator_of small s) (generator_of big b) crossing ≡ true
    split-back same =
        all-from (λ z. is_touched code small crossing z || nat_eq (label_small z) (label_big z)) (circle_names code small)
        (λ c has. elim (cases_Bool (is_touched code small crossing c)) [
          | inl touches ↦ or_left (is_touched code small crossing c) (nat_eq (label_small c) (label_big c)) touches
          | inr fails ↦
              or_right (is_touched code small crossing c) (nat_eq (label_small c) (label_big c))
              (eq-eqb (label_small c) (label_big c)
              (sym (same c (Contains-filter (is_other kept) (circle_names code small) c
              (other-passes kept c
              (λ one. both_ways (is_touched code small crossing c) fails (ap (is_touched code small crossing) one ∙ kept-small.1)))
              has))))
        ])

    -- the counts of labels
    rests-same : SameRest → sum_by label_big rest ≡ sum_by label_small rest
    rests-same same = sum_by-members label_big label_small rest same

    below-two : (n : ℕ) → n ≤ 1 → n < 2
    below-two n small_one = omega (arith, small_one)

    merge-counts : SameRest
        → changes_labels code (generator_of big b) (generator_of small s) crossing ≡ counts_all code big small b s
    merge-counts same =
        let x = label_big kept in
        let y = label_big gone in
        let z = label_small kept in
        let m = sum_by label_big rest in
        let n = sum_by label_small rest in
        let all_big : ones (circle_count code big) b ≡ y + (x + m) = ones-labels code big b ∙ sum-big label_big in
        let all_small : ones (circle_count code small) s ≡ z + n = ones-labels code small s ∙ sum-small label_small in
        let fewer : nat_lt (circle_count code big) (circle_count code small) ≡ false =
        le-ltb (circle_count code big) (circle_count code small) (omega (arith, two.count)) in
        let more : one_if (nat_lt (circle_count code big) (circle_count code small)) ≡ 0 = ap one_if fewer in
        let rests = rests-same same in
        ap₂ (λ (us vs : List ℕ). is_merge (map label_big us) (map label_small vs) || is_split (map label_big us) (map label_small vs))
        two.touched_before two.touched_after
        ∙ row-two x y z (below-two x (label-small code big b kept)) (below-two y (label-small code big b gone))
        (below-two z (label-small code small s kept))
        ∙ agree (nat_eq z (x + y)) (counts_all code big small b s)
        (λ passes.
        let e = eqb-true z (x + y) passes in
        eq-eqb (ones (circle_count code small) s)
        (ones (circle_count code big) b + one_if (nat_lt (circle_count code big) (circle_count code small)))
        (omega (arith, all_big, all_small, more, rests, e)))
        (λ passes.
        let e = eqb-true (ones (circle_count code small) s)
        (ones (circle_count code big) b + one_if (nat_lt (circle_count code big) (circle_count code small))) passes in
        eq-eqb z (x + y) (omega (arith, all_big, all_small, more, rests, e)))

    split-counts : SameRest
        → changes_labels code (generator_of small s) (generator_of big b) crossing ≡ counts_all code small big s b
    split-counts same =
        let x = label_big kept in
        let y = label_big gone in
        let z = label_small kept in
        let m = sum_by label_big rest in
        let n = sum_by label_small rest in
        let all_big : ones (circle_count code big) b ≡ y + (x + m) = ones-labels code big b ∙ sum-big label_big in
        let all_small : ones (circle_count code small) s ≡ z + n = ones-labels code small s ∙ sum-small label_small in
        let fewer : nat_lt (circle_count code small) (circle_count code big) ≡ true =
        lt-ltb (circle_count code small) (circle_count code big) (omega (arith, two.count)) in
        let more : one_if (nat_lt (circle_count code small) (circle_count code big)) ≡ 1 = ap one_if fewer in
        let rests = rests-same same in
        ap₂ (λ (us vs : List ℕ). is_merge (map label_small us) (map label_big vs) || is_split (map label_small us) (map label_big vs))
        two.touched_after two.touched_before
        ∙ row-one x y z (below-two x (label-small code big b kept)) (below-two y (label-small code big b gone))
        (below-two z (label-small code small s kept))
        ∙ agree (nat_eq (x + y) (z + 1)) (counts_all code small big s b)
        (λ passes.
        let e = eqb-true (x + y) (z + 1) passes in
        eq-eqb (ones (circle_count code big) b)
        (ones (circle_count code small) s + one_if (nat_lt (circle_count code small) (circle_count code big)))
        (omega (arith, all_big, all_small, more, rests, e)))
        (λ passes.
        let e = eqb-true (ones (circle_count code big) b)
        (ones (circle_count code small) s + one_if (nat_lt (circle_count code small) (circle_count code big))) passes in
        eq-eqb (x + y) (z + 1) (omega (arith, all_big, all_small, more, rests, e)))

    -- by points
    module _ (points : List ℕ) (are : ArePoints code points big) where
      abbrev KeptAt : ℕ → Type 0
      KeptAt x = (y : ℕ) → Contains points y → same_at code big x y ≡ same_at code small x y

      abbrev SamePoints : Type 0
      SamePoints = (x : ℕ) → Contains points x → KeptAt x → label_big x ≡ label_small x

      -- a point on a circle that stays has the same points with it
      kept-there : (x : ℕ) → IsRest (at_big x) → KeptAt x
      kept-there x is y has =
          let c = at_big x in
          let x_small : at_small x ≡ c = two.others x (λ one. is.not_gone one) in
          elim (cases_eq (at_big y) gone) [
            | inl y_gone ↦
                ne_eqb c (at_big y) (λ one. is.not_gone (one ∙ y_gone))
                ∙ sym (ne_eqb (at_small x) (at_small y) (λ one. is.not_kept (sym x_small ∙ one ∙ two.one y y_gone)))
            | inr y_other ↦ ap₂ nat_eq (sym x_small) (sym (two.others y y_other))
          ]

      -- a point that has the same points with it is on a circle that stays
      stays-there : (x : ℕ) → IsName code x → KeptAt x → IsRest (at_big x)
      stays-there x name kept_at =
          let circle = circle-name code big x circles name in
          let kept_name = name-from code big kept kept-big.0 in
          let gone_name = name-from code big gone gone-big.0 in
          let kept_point = are.shows kept kept_name.name in
          let gone_point = are.shows gone gone_name.name in
          let kept_big : at_big kept_point.0 ≡ kept = kept_point.2 ∙ kept_name.own in
          let gone_big : at_big gone_point.0 ≡ gone = gone_point.2 ∙ gone_name.own in
          let differ : kept ≢ gone = λ one. omega (arith, two.order, one) in
          let kept_small : at_small kept_point.0 ≡ kept = two.others kept_point.0 (λ one. differ (sym kept_big ∙ one)) ∙ kept_big in
          let gone_small : at_small gone_point.0 ≡ kept = two.one gone_point.0 gone_big in
          stays-big (at_big x) circle.name circle.own
          (λ one.
          let x_small : at_small x ≡ kept = two.others x (λ other. differ (sym one ∙ other)) ∙ one in
          both_ways (same_at code big x gone_point.0)
          (ne_eqb (at_big x) (at_big gone_point.0) (λ same. differ (sym one ∙ same ∙ gone_big)))
          (kept_at gone_point.0 gone_point.1 ∙ eq-eqb (at_small x) (at_small gone_point.0) (x_small ∙ sym gone_small)))
          (λ one.
          both_ways (same_at code big x kept_point.0)
          (ne_eqb (at_big x) (at_big kept_point.0) (λ same. differ (sym kept_big ∙ sym same ∙ one)))
          (kept_at kept_point.0 kept_point.1 ∙ eq-eqb (at_small x) (at_small kept_point.0) (two.one x one ∙ sym kept_small)))

      points-forth : SamePoints → SameRest
      points-forth same c has =
          let is = rest-from c has in
          let point = are.shows c is.name in
          let there : at_big point.0 ≡ c = point.2 ∙ is.big_own in
          let x_small : at_small point.0 ≡ at_small c =
          two.others point.0 (λ one. is.not_gone (sym there ∙ one)) ∙ there ∙ sym is.small_own in
          label-circle code big b c point.0 (sym point.2)
          ∙ same point.0 point.1 (kept-there point.0 (subst IsRest (sym there) is))
          ∙ label-circle code small s point.0 c x_small

      points-back : SameRest → SamePoints
      points-back same x has kept_at =
          let name = are.named x has in
          let is = stays-there x name kept_at in
          let c = at_big x in
          let x_small : at_small x ≡ at_small c = two.others x is.not_gone ∙ sym is.small_own in
          label-circle code big b x c (sym (circles.own big x name)) ∙ same c (rest-of c is) ∙ label-circle code small s c x (sym x_small)

      -- the tests by points
      merge-test_forth : keeps_points code points big small b s ≡ true → SamePoints
      merge-test_forth passes x has kept_at =
          eqb-true (label_big x) (label_small x)
          (unless-forth (is_kept (same_at code big) (same_at code small) points x) (nat_eq (label_big x) (label_small x))
          (all-at (keeps_point code points big small b s) points x passes has)
          (kept-back (same_at code big) (same_at code small) points x kept_at))

      merge-test_back : SamePoints → keeps_points code points big small b s ≡ true
      merge-test_back same =
          all-from (keeps_point code points big small b s) points
          (λ x has. unless-back (is_kept (same_at code big) (same_at code small) points x) (nat_eq (label_big x) (label_small x))
          (λ passes. eq-eqb (label_big x) (label_small x)
          (same x has (kept-forth (same_at code big) (same_at code small) points x passes))))

      split-test_forth : keeps_points code points small big s b ≡ true → SamePoints
      split-test_forth passes x has kept_at =
          sym (eqb-true (label_small x) (label_big x)
          (unless-forth (is_kept (same_at code small) (same_at code big) points x) (nat_eq (label_small x) (label_big x))
          (all-at (keeps_point code points small big s b) points x passes has)
          (kept-back (same_at code small) (same_at code big) points x (λ y y_has. sym (kept_at y y_has)))))

      split-test_back : SamePoints → keeps_points code points small big s b ≡ true
      split-test_back same =
          all-from (keeps_point code points small big s b) points
          (λ x has. unless-back (is_kept (same_at code small) (same_at code big) points x) (nat_eq (label_small x) (label_big x))
          (λ passes. eq-eqb (label_small x) (label_big x)
          (sym (same x has (λ y y_has. sym (kept-forth (same_at code small) (same_at code big) points x passes y y_has))))))

      pub merge-keeps : keeps_labels code (generator_of big b) (generator_of small s) crossing ≡ keeps_points code points big small b s
      merge-keeps =
          agree (keeps_labels code (generator_of big b) (generator_of small s) crossing) (keeps_points code points big small b s)
          (λ passes. merge-test_back (points-back (merge-forth passes))) (λ passes. merge-back (points-forth (merge-test_forth passes)))

      pub split-keeps : keeps_labels code (generator_of small s) (generator_of big b) crossing ≡ keeps_points code points small big s b
      split-keeps =
          agree (keeps_labels code (generator_of small s) (generator_of big b) crossing) (keeps_points code points small big s b)
          (λ passes. split-test_back (points-back (split-forth passes))) (λ passes. split-back (points-forth (split-test_forth passes)))

      -- the circles that change have the label l where their points have
      abbrev pub ChangesHave : ℕ → Type 0
      ChangesHave l = (label_big kept ≡ l) × (label_big gone ≡ l) × (label_small kept ≡ l)

      abbrev has_there : ℕ → ℕ → Bool
      has_there l x = nat_eq (label_big x) l && nat_eq (label_small x) l

      kept-own : at_big kept ≡ kept
      kept-own = (name-from code big kept kept-big.0).own

      gone-own : at_big gone ≡ gone
      gone-own = (name-from code big gone gone-big.0).own

      kept-own_small : at_small kept ≡ kept
      kept-own_small = (name-from code small kept kept-small.0).own

      pub has-back : (l : ℕ) → ChangesHave l → has_points code points big small b s l ≡ true
      has-back l have =
          all-from (has_point code points big small b s l) points
          (λ x has.
          let test = is_kept (same_at code big) (same_at code small) points x in
          let name = are.named x has in
          let circle = circle-name code big x circles name in
          elim (cases_eq (at_big x) gone) [
            | inl on_gone ↦
                or_right test (has_there l x)
                (and_from (nat_eq (label_big x) l) (nat_eq (label_small x) l)
                (eq-eqb (label_big x) l (label-circle code big b x gone (on_gone ∙ sym gone-own) ∙ have.1))
                (eq-eqb (label_small x) l (label-circle code small s x kept (two.one x on_gone ∙ sym kept-own_small) ∙ have.2)))
            | inr off_gone ↦ elim (cases_eq (at_big x) kept) [
              | inl on_kept ↦
                  or_right test (has_there l x)
                  (and_from (nat_eq (label_big x) l) (nat_eq (label_small x) l)
                  (eq-eqb (label_big x) l (label-circle code big b x kept (on_kept ∙ sym kept-own) ∙ have.0))
                  (eq-eqb (label_small x) l
                  (label-circle code small s x kept (two.others x off_gone ∙ on_kept ∙ sym kept-own_small) ∙ have.2)))
              | inr off_kept ↦
                  or_left test (has_there l x)
                  (kept-back (same_at code big) (same_at code small) points x
                  (kept-there x (stays-big (at_big x) circle.name circle.own off_kept off_gone)))
            ]
          ])

      -- a point on one of the two is not kept
      labels-there : (l x : ℕ) → has_points code points big small b s l ≡ true → Contains points x → (IsRest (at_big x) → ⊥)
          → (label_big x ≡ l) × (label_small x ≡ l)
      labels-there l x passes has changed = elim (or_cases (is_kept (same_at code big) (same_at code small) points x) (has_there l x)
          (all-at (has_point code points big small b s l) points x passes has)) [
            | inl stays ↦
                absurd (changed (stays-there x (are.named x has) (kept-forth (same_at code big) (same_at code small) points x stays)))
            | inr there ↦
                let both = and_parts (nat_eq (label_big x) l) (nat_eq (label_small x) l) there in
                (eqb-true (label_big x) l both.0, eqb-true (label_small x) l both.1)
          ]

      pub has-forth : (l : ℕ) → has_points code points big small b s l ≡ true → ChangesHave l
      has-forth l passes =
          let kept_name = name-from code big kept kept-big.0 in
          let gone_name = name-from code big gone gone-big.0 in
          let x = are.shows kept kept_name.name in
          let y = are.shows gone gone_name.name in
          let x_big : at_big x.0 ≡ kept = x.2 ∙ kept-own in
          let y_big : at_big y.0 ≡ gone = y.2 ∙ gone-own in
          let differ : kept ≢ gone = λ one. omega (arith, two.order, one) in
          let x_labels = labels-there l x.0 passes x.1 (λ rest. rest.not_kept x_big) in
          let y_labels = labels-there l y.0 passes y.1 (λ rest. rest.not_gone y_big) in (
            label-circle code big b kept x.0 (sym x.2) ∙ x_labels.0,
            label-circle code big b gone y.0 (sym y.2) ∙ y_labels.0,
            label-circle code small s kept x.0
                (kept-own_small ∙ sym (two.others x.0 (λ one. differ (sym x_big ∙ one)) ∙ x_big)) ∙ x_labels.1,
          )

      pub merge-fits : fits code (generator_of big b) (generator_of small s) crossing
          ≡ (keeps_points code points big small b s && counts_all code big small b s)
      merge-fits =
          and-same (keeps_labels code (generator_of big b) (generator_of small s) crossing)
          (changes_labels code (generator_of big b) (generator_of small s) crossing) (counts_all code big small b s)
          (λ passes. merge-counts (merge-forth passes))
          ∙ ap (λ t. t && counts_all code big small b s) merge-keeps

      pub split-fits : fits code (generator_of small s) (generator_of big b) crossing
          ≡ (keeps_points code points small big s b && counts_all code small big s b)
      split-fits =
          and-same (keeps_labels code (generator_of small s) (generator_of big b) crossing)
          (changes_labels code (generator_of small s) (generator_of big b) crossing) (counts_all code small big s b)
          (λ passes. split-counts (split-forth passes))
          ∙ ap (λ t. t && counts_all code small big s b) split-keeps

-- it does not matter which comes first
one_if-turned : (a b : Bool) → nat_eq (one_if a) (one_if b) ≡ nat_eq (one_if b) (one_if a)
one_if-turned true true = refl
one_if-turned true false = refl
one_if-turned false true = refl
one_if-turned false false = refl

either-turned : (k l a b : Bool) → k ≡ l → (k || (a && b)) ≡ (l || (b && a))
either-turned k l a b same = grind (arith, same)

pub has-turned : (code : Code) (points : List ℕ) (before behind label other l : ℕ)
    → has_points code points behind before other label l ≡ has_points code points before behind label other l
has-turned code points before behind label other l =
    all-agree (has_point code points behind before other label l) (has_point code points before behind label other l) points
    (λ x has.
    either-turned (is_kept (same_at code behind) (same_at code before) points x)
    (is_kept (same_at code before) (same_at code behind) points x)
    (nat_eq (label_of code (generator_of behind other) x) l) (nat_eq (label_of code (generator_of before label) x) l)
    (all-agree (λ y. nat_eq (one_if (same_at code behind x y)) (one_if (same_at code before x y)))
    (λ y. nat_eq (one_if (same_at code before x y)) (one_if (same_at code behind x y))) points
    (λ y has_y. one_if-turned (same_at code behind x y) (same_at code before x y))))

-- the theorem, of an edge
pub fits-points : (code : Code) (before behind crossing : ℕ) (points : List ℕ) (label other : ℕ) → HasCircles code
    → (kept : ℕ) × (gone : ℕ) × (TwoBecomeOne code before behind crossing kept gone ⊎ TwoBecomeOne code behind before crossing kept gone)
    → ArePoints code points before → ArePoints code points behind
    → fits code (generator_of before label) (generator_of behind other) crossing
    ≡ (keeps_points code points before behind label other && counts_all code before behind label other)
fits-points code before behind crossing points label other circles (kept, gone, either) first second = elim either [
  | inl two ↦ merge-fits code before behind crossing kept gone circles two label other points first
  | inr two ↦ split-fits code behind before crossing kept gone circles two other label points second
]
