-- The place that comes last before another, going round.
--
-- A closed braid goes round: behind the last crossing comes the first. The place last before k that passes a test is searched below k, and
-- if there is none from the end on. It is found where any passes, and it is the only one with none between; and each place is the nearest
-- before one other, the first that follows, which the same search from the other end finds.
use Rattle.std.proofs.Common.{◌≡◌, ◌≢◌, ℕ, zero, suc, inl, inr, ◌+◌, ◌-◌, ◌<◌, ◌≤◌, ◌∙◌, refl, sym, ap, subst, arith, Bool, true, false, cond}
use Rattle.std.specs.Prelude.{nat_lt, Some, None, unwrap_or}
use Rattle.std.specs.Option.{option_or}
use Rattle.std.proofs.lemmas.Bool.{cases_Bool, cases_eq, cases_lt, both_ways}
use Rattle.std.proofs.lemmas.Bool.Decides.{nat_tests}
use Rattle.braid_maker.specs.Words.{last_below, previous}

-- what a search below k says
pub data Last (test : ℕ → Bool) (k : ℕ) : Type 0 where
  found : (x : ℕ) → x < k → test x ≡ true → ((y : ℕ) → y < k → test y ≡ true → y ≤ x) → last_below test k ≡ Some x → Last test k
  none : ((y : ℕ) → y < k → test y ≡ false) → last_below test k ≡ None → Last test k

pub Last-is : (test : ℕ → Bool) (k : ℕ) → Last test k
Last-is test zero = none (λ y below. absurd (omega (arith, below))) refl
Last-is test (suc k) = elim (cases_Bool (test k)) [
  | inl passes ↦
      found k (omega arith) passes (λ y below other. omega (arith, below))
      (ap (λ b. cond b (Some k) (last_below test k)) passes)
  | inr fails ↦
      let step : last_below test (suc k) ≡ last_below test k = ap (λ b. cond b (Some k) (last_below test k)) fails in
      elim (Last-is test k) [
        | found x below passes last is ↦
            found x (omega arith) passes
            (λ y y_below y_passes. elim (cases_eq y k) [
              | inl same ↦ absurd (both_ways (test k) fails (ap test (sym same) ∙ y_passes))
              | inr apart ↦ last y (omega (arith, y_below, apart)) y_passes
            ])
            (step ∙ is)
        | none all is ↦
            none
            (λ y y_below. elim (cases_eq y k) [
              | inl same ↦ ap test same ∙ fails
              | inr apart ↦ all y (omega (arith, y_below, apart))
            ])
            (step ∙ is)
      ]
]

-- how many places a place comes before another, going round n places: from 1 to n
abbrev pub before : ℕ → ℕ → ℕ → ℕ
before n x k = cond (nat_lt x k) (k - x) (k + n - x)

-- a place passes a test, and no other one comes later before k
pub record IsNearest (n : ℕ) (test : ℕ → Bool) (k x : ℕ) : Type 0 where
  pub below : x < n
  pub passes : test x ≡ true
  pub nearest : (y : ℕ) → y < n → test y ≡ true → before n x k ≤ before n y k

before-less : (n x k : ℕ) → x < k → before n x k ≡ k - x
before-less n x k less = grind (arith, nat_tests)

pub before-more : (n x k : ℕ) → k ≤ x → before n x k ≡ k + n - x
before-more n x k more = grind (arith, nat_tests)

-- the place is found, where one passes
pub IsNearest-previous : (n : ℕ) (test : ℕ → Bool) (other k y : ℕ) → k < n → y < n → test y ≡ true
    → IsNearest n test k (previous n test other k)
IsNearest-previous n test other k y k_below y_below y_passes = elim (Last-is test k) [
  | found x below passes last is ↦
      let same : previous n test other k ≡ x = ap (λ o. unwrap_or (option_or o (last_below test n)) other) is in
      subst (λ (w : ℕ). IsNearest n test k w) (sym same)
      (record {
        below = omega (arith, below, k_below);
        passes = passes;
        nearest = λ z z_below z_passes. elim (cases_lt z k) [
          | inl less ↦ omega (arith, before-less n x k below, before-less n z k less, last z less z_passes)
          | inr more ↦ omega (arith, before-less n x k below, before-more n z k more, z_below)
        ];
      })
  | none all is ↦ elim (Last-is test n) [
    | found x below passes last is_too ↦
        let same : previous n test other k ≡ x =
        ap (λ o. unwrap_or (option_or o (last_below test n)) other) is ∙ ap (λ o. unwrap_or o other) is_too in
        let after : (z : ℕ) → test z ≡ true → k ≤ z =
        λ z z_passes. elim (cases_lt z k) [ inl less ↦ absurd (both_ways (test z) (all z less) z_passes) | inr more ↦ more ] in
        subst (λ (w : ℕ). IsNearest n test k w) (sym same)
        (record {
          below = below;
          passes = passes;
          nearest = λ z z_below z_passes.
              omega (arith, before-more n x k (after x passes), before-more n z k (after z z_passes), last z z_below z_passes);
        })
    | none all_too is_too ↦ absurd (both_ways (test y) (all_too y y_below) y_passes)
  ]
]

-- there is another number where none passes
pub previous-none : (n : ℕ) (test : ℕ → Bool) (other k : ℕ) → k < n → ((y : ℕ) → y < n → test y ≡ false)
    → previous n test other k ≡ other
previous-none n test other k k_below fails = elim (Last-is test k) [
  | found x below passes last is ↦ absurd (both_ways (test x) (fails x (omega (arith, below, k_below))) passes)
  | none all is ↦ elim (Last-is test n) [
    | found x below passes last is_too ↦ absurd (both_ways (test x) (fails x below) passes)
    | none all_too is_too ↦ ap (λ o. unwrap_or (option_or o (last_below test n)) other) is ∙ ap (λ o. unwrap_or o other) is_too
  ]
]

-- it is the only one
before-only : (n k x y : ℕ) → x < n → y < n → k < n → before n x k ≡ before n y k → x ≡ y
before-only n k x y x_below y_below k_below same = elim (cases_lt x k) [
  | inl x_less ↦ elim (cases_lt y k) [
    | inl y_less ↦ omega (arith, same, before-less n x k x_less, before-less n y k y_less)
    | inr y_more ↦ absurd (omega (arith, same, before-less n x k x_less, before-more n y k y_more))
  ]
  | inr x_more ↦ elim (cases_lt y k) [
    | inl y_less ↦ absurd (omega (arith, same, before-more n x k x_more, before-less n y k y_less))
    | inr y_more ↦ omega (arith, same, before-more n x k x_more, before-more n y k y_more)
  ]
]

pub nearest-only : (n : ℕ) (test : ℕ → Bool) (k x y : ℕ) → k < n → IsNearest n test k x → IsNearest n test k y → x ≡ y
nearest-only n test k x y k_below is is_too =
    before-only n k x y is.below is_too.below k_below
    (omega (arith, is.nearest y is_too.below is_too.passes, is_too.nearest x is.below is.passes))

-- a place that passes may be past x, where it is not the nearest

before-through : (n i j x k : ℕ) → i < n → j < n → x < n → k < n → x ≢ i → j ≢ i → before n i k ≤ before n x k
    → before n i k ≤ before n j k → before n j i ≤ before n x i → before n j k ≤ before n x k
before-through n i j x k i_below j_below x_below k_below x_apart j_apart first second third = grind (arith, nat_tests)

-- what passes a test passes that of the strand; so the nearest before k is at the strand's nearest i, or the nearest before that
pub previous-through : (n : ℕ) (test strand : ℕ → Bool) (other k i : ℕ) → k < n
    → ((x : ℕ) → x < n → test x ≡ true → strand x ≡ true) → IsNearest n strand k i
    → cond (test i) i (previous n test other i) ≡ previous n test other k
previous-through n test strand other k i k_below within is = elim (Last-is test n) [
  | none all missing ↦
      ap (λ b. cond b i (previous n test other i)) (all i is.below) ∙ previous-none n test other i is.below all
      ∙ sym (previous-none n test other k k_below all)
  | found y below passes last there_is ↦
      let here = IsNearest-previous n test other k y k_below below passes in
      elim (cases_Bool (test i)) [
        | inl at ↦
            ap (λ b. cond b i (previous n test other i)) at
            ∙ nearest-only n test k i (previous n test other k) k_below
            (record { below = is.below; passes = at; nearest = λ z z_below z_passes. is.nearest z z_below (within z z_below z_passes) })
            here
        | inr past ↦
            let j = previous n test other i in
            let there = IsNearest-previous n test other i y is.below below passes in
            let apart : (z : ℕ) → test z ≡ true → z ≢ i = λ z z_passes same. both_ways (test i) past (ap test (sym same) ∙ z_passes) in
            ap (λ b. cond b i (previous n test other i)) past
            ∙ nearest-only n test k j (previous n test other k) k_below
            (record {
              below = there.below;
              passes = there.passes;
              nearest = λ z z_below z_passes.
                  before-through n i j z k is.below there.below z_below k_below (apart z z_passes) (apart j there.passes)
                  (is.nearest z z_below (within z z_below z_passes))
                  (is.nearest j there.below (within j there.below there.passes)) (there.nearest z z_below z_passes);
            })
            here
      ]
]

-- the strand goes on from a place to one other
before-unlike : (n i k m : ℕ) → i < n → k < n → m < n → before n i k ≤ before n m k → before n i m ≤ before n k m → k ≡ m
before-unlike n i k m i_below k_below m_below first second = grind (arith, nat_tests)

pub next-only : (n : ℕ) (test : ℕ → Bool) (i k m : ℕ) → k < n → m < n → test k ≡ true → test m ≡ true
    → IsNearest n test k i → IsNearest n test m i → k ≡ m
next-only n test i k m k_below m_below k_passes m_passes is is_too =
    before-unlike n i k m is.below k_below m_below (is.nearest m m_below m_passes) (is_too.nearest k k_below k_passes)

-- and there is one: the first that follows, which is found from the other end
before-turned : (n x k : ℕ) → x < n → k < n → before n (n - 1 - x) (n - 1 - k) ≡ before n k x
before-turned n x k x_below k_below = grind (arith, nat_tests)

before-first : (n i k x : ℕ) → i < n → k < n → x < n → before n i k ≤ before n i x → before n i k ≤ before n x k
before-first n i k x i_below k_below x_below first = grind (arith, nat_tests)

pub next-is : (n : ℕ) (test : ℕ → Bool) (i : ℕ) → i < n → test i ≡ true
    → (k : ℕ) × (k < n) × (test k ≡ true) × IsNearest n test k i
next-is n test i below passes =
    let turned : ℕ → Bool = λ x. test (n - 1 - x) in
    let back : (x : ℕ) → x < n → n - 1 - (n - 1 - x) ≡ x = λ x x_below. omega (arith, x_below) in
    let small : (x : ℕ) → n - 1 - x < n = λ x. omega (arith, below) in
    let found = IsNearest-previous n turned 0 (n - 1 - i) (n - 1 - i) (small i) (small i) (ap test (back i below) ∙ passes) in
    let y = previous n turned 0 (n - 1 - i) in
    let k = n - 1 - y in
    let k_is = back y found.below in (
      k,
      small y,
      found.passes,
      record {
        below = below;
        passes = passes;
        nearest = λ x x_below x_passes.
            before-first n i k x below (small y) x_below
            (omega (
              arith,
              found.nearest (n - 1 - x) (small x) (ap test (back x x_below) ∙ x_passes),
              before-turned n x i x_below below,
              before-turned n k i (small y) below,
              ap (λ z. before n z (n - 1 - i)) k_is,
            ));
      },
    )
