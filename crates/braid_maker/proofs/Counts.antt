-- Counts of numbers that pass tests.
use Rattle.std.proofs.Common.{◌≡◌, ◌≢◌, ℕ, zero, suc, inl, inr, ◌+◌, ◌<◌, ◌≤◌, ◌∙◌, refl, sym, ap, arith, Bool, true, cond}
use Rattle.std.specs.Prelude.{nat_eq, not}
use Rattle.std.specs.List.{count_by, range_with_len}
use Rattle.std.proofs.lemmas.Bool.{cases_Bool, and_from, ne_eqb}
use Rattle.kh_types.proofs.Ranges.{count_by-range_more}
use Rattle.kh_types.proofs.RangeCounts.{but, count_by-but}

abbrev counted : Bool → ℕ
counted passes = cond passes 1 0

-- where each number that passes one test comes from one that passes another, there are at most as many
pub count-images : (p q : ℕ → Bool) (g : ℕ → ℕ) (n m : ℕ)
    → ((x : ℕ) → x < n → p x ≡ true → (y : ℕ) × (y < m) × (q y ≡ true) × (g y ≡ x))
    → count_by p (range_with_len 0 n) ≤ count_by q (range_with_len 0 m)
count-images p q g zero m comes = omega arith
count-images p q g (suc n) m comes =
    let more = count_by-range_more p 0 n n (omega arith) in
    let e : n + 1 ≡ suc n = omega arith in
    let all : count_by p (range_with_len 0 (suc n)) ≡ count_by p (range_with_len 0 n) + cond (p n) 1 0 =
    ap (λ k. count_by p (range_with_len 0 k)) (sym e) ∙ more in
    elim (cases_Bool (p n)) [
      | inr fails ↦
          omega (
            arith,
            all,
            ap counted fails,
            count-images p q g n m (λ x below passes. comes x (omega (arith, below)) passes),
          )
      | inl passes ↦
          let from = comes n (omega arith) passes in
          let y = from.0 in
          omega (
            arith,
            all,
            ap counted passes,
            count_by-but q 0 m y (omega arith) (omega (arith, from.1)) from.2,
            count-images p (but q y) g n m
                (λ x below x_passes.
                let other = comes x (omega (arith, below)) x_passes in
                let apart : other.0 ≢ y = λ same. omega (arith, ap g same, other.3, from.3, below) in (
                  other.0,
                  other.1,
                  and_from (q other.0) (not (nat_eq other.0 y)) other.2 (ap not (ne_eqb other.0 y apart)),
                  other.3,
                )),
          )
    ]

-- a count in two parts
pub count-parts : (p : ℕ → Bool) (a b : ℕ)
    → count_by p (range_with_len 0 (a + b)) ≡ count_by p (range_with_len 0 a) + count_by (λ x. p (a + x)) (range_with_len 0 b)
count-parts p a zero =
    let e : a + 0 ≡ a = omega arith in ap (λ k. count_by p (range_with_len 0 k)) e ∙ omega arith
count-parts p a (suc b) =
    let e : a + suc b ≡ a + b + 1 = omega arith in
    let f : suc b ≡ b + 1 = omega arith in
    omega (
      arith,
      ap (λ k. count_by p (range_with_len 0 k)) e,
      ap (λ k. count_by (λ x. p (a + x)) (range_with_len 0 k)) f,
      count_by-range_more p 0 (a + b) (a + b) (omega arith),
      count_by-range_more (λ x. p (a + x)) 0 b b (omega arith),
      count-parts p a b,
    )

pub count-whole : (p : ℕ → Bool) (n : ℕ) → ((x : ℕ) → x < n → p x ≡ true) → count_by p (range_with_len 0 n) ≡ n
count-whole p zero all = refl
count-whole p (suc n) all =
    let e : suc n ≡ n + 1 = omega arith in
    omega (
      arith,
      ap (λ k. count_by p (range_with_len 0 k)) e,
      count_by-range_more p 0 n n (omega arith),
      ap counted (all n (omega arith)),
      count-whole p n (λ x below. all x (omega (arith, below))),
    )
