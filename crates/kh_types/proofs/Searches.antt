-- Searches in ranges: the first number that passes a test, or none.
use Rattle.std.proofs.Common.{◌≡◌, ℕ, zero, suc, inl, inr, ◌+◌, ◌<◌, ◌≤◌, ◌∙◌, refl, ap, arith, Bool, true, false, cond}
use Rattle.std.specs.Prelude.{Some, None}
use Rattle.std.specs.List.{find, range_with_len}
use Rattle.std.proofs.lemmas.Bool.{cases_Bool, cases_eq}
use Rattle.std.proofs.lemmas.Bool.Decides.{nat_tests}

-- what a search in a range says
pub data Search (test : ℕ → Bool) (a n : ℕ) : Type 0 where
  some : (x : ℕ) → a ≤ x → x < a + n → test x ≡ true → find test (range_with_len a n) ≡ Some x → Search test a n
  missing : ((x : ℕ) → a ≤ x → x < a + n → test x ≡ false) → find test (range_with_len a n) ≡ None → Search test a n

pub Search-is : (test : ℕ → Bool) (a n : ℕ) → Search test a n
Search-is test a zero = missing (λ x from below. absurd (omega (arith, from, below))) refl
Search-is test a (suc n) = elim (cases_Bool (test a)) [
  | inl passes ↦
      some a (omega arith) (omega arith) passes (ap (λ b. cond b (Some a) (find test (range_with_len (a + 1) n))) passes)
  | inr fails ↦
      let later : find test (range_with_len a (suc n)) ≡ find test (range_with_len (a + 1) n) =
      ap (λ b. cond b (Some a) (find test (range_with_len (a + 1) n))) fails in
      elim (Search-is test (a + 1) n) [
        | some x from below passes is ↦ some x (omega (arith, from)) (omega (arith, below)) passes (later ∙ is)
        | missing all is ↦
            missing
            (λ x from below. elim (cases_eq x a) [
              | inl same ↦ ap test same ∙ fails
              | inr apart ↦ all x (omega (arith, from, apart)) (omega (arith, below))
            ])
            (later ∙ is)
      ]
]

-- tests that agree on a range find the same of its numbers
pub find-range_agree : (p q : ℕ → Bool) (a n : ℕ) → ((x : ℕ) → a ≤ x → x < a + n → p x ≡ q x)
    → find p (range_with_len a n) ≡ find q (range_with_len a n)
find-range_agree p q a zero same = refl
find-range_agree p q a (suc n) same =
    grind (arith, nat_tests, find-range_agree p q (a + 1) n (λ x from below. same x (omega (arith, from)) (omega (arith, below))))
