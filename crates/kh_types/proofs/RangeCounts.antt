-- Which numbers of a range pass a test, how many, and what a search for one of them finds.
--
-- Definitions search and count over ranges of numbers; here is what such a test says of single numbers, and back. Counts are compared by
-- taking one number away (`but`): where one number passes it is the only one, and a map that takes what passes one to one to what passes
-- another test bounds the one count by the other (`count_by-into`).
use Rattle.std.proofs.Common.{◌≡◌, ◌≢◌, ℕ, zero, suc, inl, inr, ◌+◌, ◌<◌, ◌≤◌, ◌∙◌, List, ◌∷◌, get_or, length, ◌-◌, refl, sym, ap, arith, Bool, true, false, not, ◌&&◌, cond}
use Rattle.std.specs.Prelude.{nat_eq, Some}
use Rattle.std.specs.List.{count_by, find, list_all, list_any, range_with_len}
use Rattle.std.proofs.lemmas.Bool.{cases_Bool, cases_eq}
use Rattle.std.proofs.lemmas.Bool.Decides.{nat_tests}
use Rattle.std.proofs.lemmas.List.Sums.{sum_by-cons, AllPass-from_list_all, list_all-from_AllPass}
use Rattle.std.proofs.lemmas.List.Folds.{Any-from_list_any, list_any_at}
use Rattle.std.proofs.lemmas.List.FromFn.{length-range_with_len, get_or-range_with_len}
use Rattle.kh_types.proofs.Ranges.{count_by-range_more}

-- the number at a place of a range
get_or-range : (a n x d : ℕ) → a ≤ x → x < a + n → get_or (range_with_len a n) (x - a) d ≡ x
get_or-range a n x d from below = get_or-range_with_len a n (x - a) d (omega arith) ∙ omega arith

place-within : (a n x : ℕ) → a ≤ x → x < a + n → x - a < length (range_with_len a n)
place-within a n x from below = omega (arith, length-range_with_len a n, from, below)

-- all numbers of a range pass exactly where each does
pub list_all-at : (p : ℕ → Bool) (a n x : ℕ) → list_all p (range_with_len a n) ≡ true → a ≤ x → x < a + n → p x ≡ true
list_all-at p a n x holds from below =
    ap p (sym (get_or-range a n x 0 from below))
    ∙ AllPass-from_list_all p (range_with_len a n) holds (x - a) 0 (place-within a n x from below)

pub list_all-each : (p : ℕ → Bool) (a n : ℕ) → ((x : ℕ) → a ≤ x → x < a + n → p x ≡ true) → list_all p (range_with_len a n) ≡ true
list_all-each p a n each =
    list_all-from_AllPass p (range_with_len a n)
    (λ k d below.
    let within : k < n = omega (arith, below, length-range_with_len a n) in
    ap p (get_or-range_with_len a n k d within) ∙ each (a + k) (omega arith) (omega arith))

-- some number of a range passes exactly where one does
pub list_any-at : (p : ℕ → Bool) (a n x : ℕ) → a ≤ x → x < a + n → p x ≡ true → list_any p (range_with_len a n) ≡ true
list_any-at p a n x from below passes =
    list_any_at p (range_with_len a n) (x - a) 0 (place-within a n x from below)
    (ap p (get_or-range a n x 0 from below) ∙ passes)

pub list_any-one : (p : ℕ → Bool) (a n : ℕ) → list_any p (range_with_len a n) ≡ true
    → (x : ℕ) × (a ≤ x) × (x < a + n) × (p x ≡ true)
list_any-one p a n passes = grind (arith, nat_tests, passes, Any-from_list_any, length-range_with_len, get_or-range_with_len)

-- what one number adds to a count
abbrev pub counted : Bool → ℕ
counted passes = cond passes 1 0

-- one number more in front
count_by-cons : (p : ℕ → Bool) (x : ℕ) (xs : List ℕ) → count_by p (x ∷ xs) ≡ counted (p x) + count_by p xs
count_by-cons p x xs = sum_by-cons (λ y. cond (p y) 1 0) x xs

-- tests that agree on a range
pub count_by-alike : (p q : ℕ → Bool) (a n : ℕ) → ((k : ℕ) → a ≤ k → k < a + n → p k ≡ q k)
    → count_by p (range_with_len a n) ≡ count_by q (range_with_len a n)
count_by-alike p q a zero alike = refl
count_by-alike p q a (suc n) alike =
    count_by-cons p a (range_with_len (a + 1) n)
    ∙ ap (λ b. counted b + count_by p (range_with_len (a + 1) n)) (alike a (omega arith) (omega arith))
    ∙ ap (λ c. counted (q a) + c)
    (count_by-alike p q (a + 1) n (λ k from below. alike k (omega (arith, from)) (omega (arith, below))))
    ∙ sym (count_by-cons q a (range_with_len (a + 1) n))

-- two tests that differ at one number of a range, which passes the first
pub count_by-one_more : (p q : ℕ → Bool) (a n m : ℕ) → a ≤ m → m < a + n → p m ≡ true → q m ≡ false
    → ((k : ℕ) → k ≢ m → p k ≡ q k) → count_by p (range_with_len a n) ≡ count_by q (range_with_len a n) + 1
count_by-one_more p q a zero m from below passes fails alike = absurd (omega (arith, from, below))
count_by-one_more p q a (suc n) m from below passes fails alike = elim (cases_eq a m) [
  | inl first ↦
      let rest = count_by-alike p q (a + 1) n (λ k after k_below. alike k (λ same. absurd (omega (arith, first, same, after)))) in
      let one : counted (p a) ≡ 1 = ap (λ k. counted (p k)) first ∙ ap counted passes in
      let none : counted (q a) ≡ 0 = ap (λ k. counted (q k)) first ∙ ap counted fails in
      omega (
        arith,
        rest,
        one,
        none,
        count_by-cons p a (range_with_len (a + 1) n),
        count_by-cons q a (range_with_len (a + 1) n),
      )
  | inr later ↦
      let rest = count_by-one_more p q (a + 1) n m (omega (arith, from, later)) (omega (arith, below)) passes fails alike in
      let here : counted (p a) ≡ counted (q a) = ap counted (alike a later) in
      omega (
        arith,
        rest,
        here,
        count_by-cons p a (range_with_len (a + 1) n),
        count_by-cons q a (range_with_len (a + 1) n),
      )
]

-- a search in a range finds a number, which passes
pub record Finds (p : ℕ → Bool) (a n found : ℕ) : Type 0 where
  pub from : a ≤ found
  pub below : found < a + n
  pub passes : p found ≡ true
  pub first : find p (range_with_len a n) ≡ Some found

-- where some number passes, a search finds one
pub found-counted : (p : ℕ → Bool) (a n : ℕ) → 0 < count_by p (range_with_len a n) → (found : ℕ) × Finds p a n found
found-counted p a zero some = absurd (omega (arith, some))
found-counted p a (suc n) some = elim (cases_Bool (p a)) [
  | inl passes ↦ (
    a,
    record {
      from = omega arith;
      below = omega arith;
      passes = passes;
      first = ap (λ b. cond b (Some a) (find p (range_with_len (a + 1) n))) passes;
    },
  )
  | inr fails ↦
      let none : counted (p a) ≡ 0 = ap counted fails in
      let later = found-counted p (a + 1) n (omega (arith, some, none, count_by-cons p a (range_with_len (a + 1) n))) in (
        later.0,
        record {
          from = omega (arith, later.1.from);
          below = omega (arith, later.1.below);
          passes = later.1.passes;
          first = ap (λ b. cond b (Some a) (find p (range_with_len (a + 1) n))) fails ∙ later.1.first;
        },
      )
]

-- a test that one number more fails
abbrev pub but : (ℕ → Bool) → ℕ → ℕ → Bool
but p m k = p k && not (nat_eq k m)

but-same : (b : Bool) (m : ℕ) → (b && not (nat_eq m m)) ≡ false
but-same b m = grind (arith, nat_tests)

but-other : (b : Bool) (m k : ℕ) → k ≢ m → b ≡ (b && not (nat_eq k m))
but-other b m k other = grind (arith, nat_tests)

pub count_by-but : (p : ℕ → Bool) (a n m : ℕ) → a ≤ m → m < a + n → p m ≡ true
    → count_by p (range_with_len a n) ≡ count_by (but p m) (range_with_len a n) + 1
count_by-but p a n m from below passes =
    count_by-one_more p (but p m) a n m from below passes (but-same (p m) m) (λ k other. but-other (p k) m k other)

-- where one number passes, it is the only one
pub only-counted : (p : ℕ → Bool) (a n k m : ℕ) → count_by p (range_with_len a n) ≡ 1 → a ≤ k → k < a + n → p k ≡ true
    → a ≤ m → m < a + n → p m ≡ true → k ≡ m
only-counted p a n k m one k_from k_below k_passes m_from m_below m_passes = elim (cases_eq k m) [
  | inl same ↦ same
  | inr other ↦
      let k_but = count_by-but p a n m m_from m_below m_passes in
      let both = count_by-but (but p m) a n k k_from k_below (sym (but-other (p k) m k other) ∙ k_passes) in
      absurd (omega (arith, one, k_but, both))
]

-- numbers that pass are no more than those to which they are taken, each to another
pub count_by-into : (p q : ℕ → Bool) (g : ℕ → ℕ) (n m : ℕ) → ((x : ℕ) → x < n → p x ≡ true → (g x < m) × (q (g x) ≡ true))
    → ((x y : ℕ) → x < n → y < n → p x ≡ true → p y ≡ true → g x ≡ g y → x ≡ y)
    → count_by p (range_with_len 0 n) ≤ count_by q (range_with_len 0 m)
count_by-into p q g zero m into apart = omega (arith, (let e : count_by p (range_with_len 0 0) ≡ 0 = refl in e))
count_by-into p q g (suc n) m into apart =
    let more : count_by p (range_with_len 0 (n + 1)) ≡ count_by p (range_with_len 0 n) + counted (p n) =
    count_by-range_more p 0 n n (omega arith) in
    let whole : count_by p (range_with_len 0 (suc n)) ≡ count_by p (range_with_len 0 (n + 1)) =
    ap (λ k. count_by p (range_with_len 0 k)) (let e : suc n ≡ n + 1 = omega arith in e) in
    elim (cases_Bool (p n)) [
      | inl passes ↦
          let here = into n (omega arith) passes in
          let image = g n in
          let rest = count_by-into p (but q image) g n m
          (λ x below x_passes.
          let there = into x (omega (arith, below)) x_passes in (
            there.0,
            sym (but-other (q (g x)) image (g x)
                (λ same. absurd (omega (arith, below, apart x n (omega (arith, below)) (omega arith) x_passes passes same)))) ∙ there.1,
          ))
          (λ x y x_below y_below. apart x y (omega (arith, x_below)) (omega (arith, y_below))) in
          let fewer = count_by-but q 0 m image (omega arith) (omega (arith, here.0)) here.1 in
          let one : counted (p n) ≡ 1 = ap counted passes in
          omega (arith, more, whole, rest, fewer, one)
      | inr fails ↦
          let rest = count_by-into p q g n m
          (λ x below. into x (omega (arith, below)))
          (λ x y x_below y_below. apart x y (omega (arith, x_below)) (omega (arith, y_below))) in
          let none : counted (p n) ≡ 0 = ap counted fails in
          omega (arith, more, whole, rest, none)
    ]
