-- The pairs of darts that have found each other are at most two for each crossing, when each is counted at its first dart. A dart
-- is not both the first of a pair and the second of another, nor the second of two. So if each first dart is counted for itself
-- and once more for its second, no dart is counted twice: twice the number of pairs is at most the number of darts, four for each
-- crossing. The sum over first darts is turned into one over second darts for this. So before the pair of a dart is added, there
-- are fewer than two pairs for each crossing. At the end: the list of pairs before the next dart has one pair more if this dart
-- has found a later one, and else is the same.
use Rattle.std.proofs.Common.{◌≡◌, ℕ, zero, suc, ◌⊎◌, inl, inr, ◌+◌, ◌-◌, ◌*◌, ◌<◌, ◌≤◌, ◌∙◌, List, [], ◌∷◌, ◌++◌, length, map, sym, ap, refl, arith, Bool, true, false, cond}
use Rattle.std.specs.Prelude.{◌&&◌, nat_eq, nat_lt, unwrap_or, Option, Some, None}
use Rattle.std.specs.List.{count_by, filter, range_with_len, sum_by}
use Rattle.std.proofs.lemmas.Bool.Decides.{nat_tests}
use Rattle.std.proofs.lemmas.Bool.{both_ways, cases_Bool, eq-eqb, eqb-true, ne_eqb, and_from, ltb-true, lt-ltb}
use Rattle.std.proofs.lemmas.List.{append-nil, length-map, map-append}
use Rattle.std.proofs.lemmas.List.Sums.{length-filter, sum_by-append, sum_by-cons}
use Rattle.kh_types.proofs.ListSums.{sum_by-none, sum_by-plus, sum_by-range_alike, sum_by-single, sum_by-turned}
use Rattle.kh_types.proofs.Ranges.{filter-range_more, range_around}
use Rattle.kh_types.specs.Bits.{one_if}
use Rattle.morse_drawing.specs.OpenEnds.{ArePaired, found_ends, has_later, is_later, other_of, pairs_before}
use Rattle.morse_drawing.proofs.Pairs.{and_first, and_second}

-- a sum of ones at most
few-sum : (f : ℕ → ℕ) (a n : ℕ) → ((x : ℕ) → a ≤ x → x < a + n → f x ≤ 1) → sum_by f (range_with_len a n) ≤ n
few-sum f a zero few = omega arith
few-sum f a (suc n) few =
    omega (
      arith,
      sum_by-cons f a (range_with_len (a + 1) n),
      few a (omega arith) (omega arith),
      few-sum f (a + 1) n (λ x from below. few x (omega (arith, from)) (omega (arith, below))),
    )

both-no : (b : Bool) → one_if (b && false) ≡ 0
both-no b = grind (arith, nat_tests)

one-few : (b : Bool) → one_if b ≤ 1
one-few b = grind (arith, nat_tests)

-- a number comes before its image, which is below n
abbrev comes_first : ℕ → (ℕ → ℕ) → ℕ → Bool
comes_first n image x = nat_lt x (image x) && nat_lt (image x) n

-- each first number has its second, and each second one first at most
later-few : (n : ℕ) (image : ℕ → ℕ) → ((x : ℕ) → x < n → image x < n → image (image x) ≡ x)
    → 2 * count_by (comes_first n image) (range_with_len 0 n) ≤ n
later-few n image is =
    omega (
      arith,
      by_second,
      sum_by-turned meets (range_with_len 0 n) (range_with_len 0 n),
      sum_by-plus (λ x. one_if (comes_first n image x)) (λ y. sum_by (λ x. meets x y) (range_with_len 0 n)) (range_with_len 0 n),
      few-sum (λ y. one_if (comes_first n image y) + sum_by (λ x. meets x y) (range_with_len 0 n)) 0 n
          (λ y from below. one_way y (omega (arith, below))),
    )
  where
    meets : ℕ → ℕ → ℕ
    meets x y = one_if (comes_first n image x && nat_eq (image x) y)

    by_second : sum_by (λ x. one_if (comes_first n image x)) (range_with_len 0 n)
        ≡ sum_by (λ x. sum_by (meets x) (range_with_len 0 n)) (range_with_len 0 n)
    by_second =
        sum_by-range_alike (λ x. one_if (comes_first n image x)) (λ x. sum_by (meets x) (range_with_len 0 n)) 0 n
        (λ x from below. second x (cases_Bool (comes_first n image x)))
      where
        second : (x : ℕ) → (comes_first n image x ≡ true) ⊎ (comes_first n image x ≡ false)
            → one_if (comes_first n image x) ≡ sum_by (meets x) (range_with_len 0 n)
        second x (inl later) =
            let y = image x in
            let below = ltb-true y n (and_second (nat_lt x y) (nat_lt y n) later) in
            ap one_if later
            ∙ sym (sum_by-single (meets x) 0 n y (omega arith) (omega (arith, below))
            (λ z from z_below other.
            ap (λ b. one_if (comes_first n image x && b)) (ne_eqb y z (λ same. other (sym same))) ∙ both-no (comes_first n image x))
            ∙ ap one_if (and_from (comes_first n image x) (nat_eq y y) later (eq-eqb y y refl)))
        second x (inr never) =
            ap one_if never
            ∙ sym (sum_by-none (meets x) 0 n (λ y from below. ap (λ b. one_if (b && nat_eq (image x) y)) never))

    -- what a second dart's first is
    first : (x y : ℕ) → x < n → y < n → (comes_first n image x && nat_eq (image x) y) ≡ true
        → (image y ≡ x) × (x < y)
    first x y below y_below holds =
        let later = and_first (comes_first n image x) (nat_eq (image x) y) holds in
        let same = eqb-true (image x) y (and_second (comes_first n image x) (nat_eq (image x) y) holds) in
        let less = ltb-true x (image x) (and_first (nat_lt x (image x)) (nat_lt (image x) n) later) in (
          ap image (sym same) ∙ is x below (omega (arith, same, y_below)),
          omega (arith, less, same),
        )

    none : (x y : ℕ) → ((comes_first n image x && nat_eq (image x) y) ≡ true → ⊥) → meets x y ≡ 0
    none x y never = elim (cases_Bool (comes_first n image x && nat_eq (image x) y)) [
      | inl holds ↦ absurd (never holds)
      | inr fails ↦ ap one_if fails
    ]

    one_way : (y : ℕ) → y < n → one_if (comes_first n image y) + sum_by (λ x. meets x y) (range_with_len 0 n) ≤ 1
    one_way y below = elim (cases_Bool (nat_lt (image y) y)) [
      | inl less ↦
          let w = image y in
          let w_below = ltb-true w y less in
          let never : comes_first n image y ≡ false = not-later y w_below in
          omega (
            arith,
            ap one_if never,
            one-few (comes_first n image w && nat_eq (image w) y),
            sum_by-single (λ x. meets x y) 0 n w (omega arith) (omega (arith, w_below, below))
                (λ x from x_below other. none x y (λ holds. other (sym (first x y (omega (arith, x_below)) below holds).0))),
          )
      | inr more ↦
          omega (
            arith,
            one-few (comes_first n image y),
            sum_by-none (λ x. meets x y) 0 n
                (λ x from x_below.
                none x y (λ holds.
                let it = first x y (omega (arith, x_below)) below holds in
                both_ways (nat_lt (image y) y) more (lt-ltb (image y) y (omega (arith, it.0, it.1))))),
          )
    ]
      where
        not-later : (x : ℕ) → image x < x → comes_first n image x ≡ false
        not-later x less = grind (arith, nat_tests)

-- darts that have found each other, as numbers
abbrev other_in : ℕ → List (Option ℕ) → ℕ → ℕ
other_in n others x = unwrap_or (other_of others x) n

other_in-back : (limit : ℕ) (others : List (Option ℕ)) (x : ℕ) → ArePaired limit others → x < 4 * limit
    → other_in (4 * limit) others x < 4 * limit → other_in (4 * limit) others (other_in (4 * limit) others x) ≡ x
other_in-back limit others x is below known = grind (arith, nat_tests)

later-first : (limit : ℕ) (others : List (Option ℕ)) (x : ℕ) → ArePaired limit others → x < 4 * limit
    → has_later others x ≡ comes_first (4 * limit) (other_in (4 * limit) others) x
later-first limit others x is below = by_case (other_of others x) refl
  where
    n : ℕ
    n = 4 * limit

    by_case : (o : Option ℕ) → other_of others x ≡ o → is_later x o ≡ (nat_lt x (unwrap_or o n) && nat_lt (unwrap_or o n) n)
    by_case None none = grind (arith, nat_tests)
    by_case (Some y) some = let small = (is x y below some).0 in grind (arith, nat_tests, small)

pub pairs_room : (limit : ℕ) (others : List (Option ℕ)) (x : ℕ) → ArePaired limit others → x < 4 * limit → has_later others x ≡ true
    → length (pairs_before others x) < 2 * limit
pairs_room limit others x is below later =
    let p = has_later others in
    let n = 4 * limit in
    let behind = range_with_len (x + 1) (n - (x + 1)) in
    omega (
      arith,
      later-few n (other_in n others) (λ y y_below. other_in-back limit others y is y_below),
      sum_by-range_alike (λ k. one_if (p k)) (λ k. one_if (comes_first n (other_in n others) k)) 0 n
          (λ k from k_below. ap one_if (later-first limit others k is (omega (arith, k_below)))),
      ap (λ xs. count_by p xs) (range_around 0 n x x below (omega arith)),
      sum_by-append (λ k. one_if (p k)) (range_with_len 0 x) (x ∷ behind),
      sum_by-cons (λ k. one_if (p k)) x behind,
      ap one_if later,
      length-map (filter p (range_with_len 0 x)) (found_ends others),
      length-filter p (range_with_len 0 x),
    )

pairs-more : (others : List (Option ℕ)) (x : ℕ) → pairs_before others (x + 1)
    ≡ pairs_before others x ++ map (found_ends others) (cond (has_later others x) (x ∷ []) [])
pairs-more others x =
    ap (map (found_ends others)) (filter-range_more (has_later others) 0 x x (omega arith))
    ∙ map-append (found_ends others) (filter (has_later others) (range_with_len 0 x)) (cond (has_later others x) (x ∷ []) [])

pub pair_found : (others : List (Option ℕ)) (x : ℕ) → has_later others x ≡ true
    → pairs_before others x ++ found_ends others x ∷ [] ≡ pairs_before others (x + 1)
pair_found others x later = grind (arith, nat_tests, pairs-more others x)

pub no_pair_found : (others : List (Option ℕ)) (x : ℕ) → has_later others x ≡ false
    → pairs_before others x ≡ pairs_before others (x + 1)
no_pair_found others x never = grind (arith, nat_tests, pairs-more others x, append-nil (pairs_before others x))
