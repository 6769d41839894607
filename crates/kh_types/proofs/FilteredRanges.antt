-- The numbers of a range that pass a test, where they are one or two, and the place of one among them.
use Rattle.std.proofs.lemmas.Bool.Decides.{nat_tests}
use Rattle.std.proofs.Common.{◌≡◌, ◌≢◌, ℕ, zero, suc, ◌+◌, ◌-◌, ◌<◌, ◌≤◌, ◌∙◌, List, [], ◌∷◌, ◌++◌, length, refl, ap, arith, Bool, true, false, cond, not, ◌&&◌}
use Rattle.std.specs.Prelude.{nat_eq}
use Rattle.std.specs.List.{filter, position_or_len, range_with_len}
use Rattle.std.proofs.lemmas.Bool.{eq-eqb, eqb-true, false_from_ne_true}
use Rattle.std.proofs.lemmas.List.Elements.{filter-append}
use Rattle.kh_types.proofs.Ranges.{range_around}

pub filter-none : (p : ℕ → Bool) (a n : ℕ) → ((k : ℕ) → a ≤ k → k < a + n → p k ≡ false) → filter p (range_with_len a n) ≡ []
filter-none p a zero fails = refl
filter-none p a (suc n) fails =
    grind (arith, nat_tests, filter-none p (a + 1) n (λ k from below. fails k (omega (arith, from)) (omega (arith, below))))

-- the first that passes
filter-at : (p : ℕ → Bool) (a n k : ℕ) → a ≤ k → k < a + n → p k ≡ true → ((j : ℕ) → a ≤ j → j < k → p j ≡ false)
    → filter p (range_with_len a n) ≡ k ∷ filter p (range_with_len (k + 1) (n - (k - a + 1)))
filter-at p a n k from below passes before =
    let rest = range_with_len (k + 1) (n - (k - a + 1)) in
    ap (λ xs. filter p xs) (range_around a n (k - a) k (omega (arith, from, below)) (omega (arith, from)))
    ∙ filter-append p (range_with_len a (k - a)) (k ∷ rest)
    ∙ ap (λ xs. xs ++ filter p (k ∷ rest)) (filter-none p a (k - a) (λ j j_from j_below. before j j_from (omega (arith, j_below))))
    ∙ ap (λ b. cond b (k ∷ filter p rest) (filter p rest)) passes

pub filter-one : (p : ℕ → Bool) (a n k : ℕ) → a ≤ k → k < a + n → p k ≡ true
    → ((j : ℕ) → a ≤ j → j < a + n → j ≢ k → p j ≡ false) → filter p (range_with_len a n) ≡ k ∷ []
filter-one p a n k from below passes fails =
    filter-at p a n k from below passes (λ j j_from j_below. fails j j_from (omega (arith, j_below, below)) (omega (arith, j_below)))
    ∙ ap (λ xs. k ∷ xs)
    (filter-none p (k + 1) (n - (k - a + 1))
    (λ j j_from j_below. fails j (omega (arith, from, j_from)) (omega (arith, j_below, from, below, j_from)) (omega (arith, j_from))))

pub filter-two : (p : ℕ → Bool) (a n k g : ℕ) → a ≤ k → k < g → g < a + n → p k ≡ true → p g ≡ true
    → ((j : ℕ) → a ≤ j → j < a + n → j ≢ k → j ≢ g → p j ≡ false) → filter p (range_with_len a n) ≡ k ∷ g ∷ []
filter-two p a n k g from order below k_passes g_passes fails =
    filter-at p a n k from (omega (arith, order, below)) k_passes
    (λ j j_from j_below. fails j j_from (omega (arith, j_below, order, below)) (omega (arith, j_below)) (omega (arith, j_below, order)))
    ∙ ap (λ xs. k ∷ xs)
    (filter-one p (k + 1) (n - (k - a + 1)) g (omega (arith, order)) (omega (arith, from, order, below)) g_passes
    (λ j j_from j_below other.
    fails j (omega (arith, from, j_from)) (omega (arith, j_below, from, order, below)) (omega (arith, j_from)) other))

-- what passes two tests, one after the other
filter-both : (a b : Bool) (x : ℕ) (rest both : List ℕ) (p : ℕ → Bool) → p x ≡ b → filter p rest ≡ both
    → filter p (cond a (x ∷ rest) rest) ≡ cond (a && b) (x ∷ both) both
filter-both a b x rest both p is_b same = grind (arith, nat_tests)

pub filter-filter : (p q : ℕ → Bool) (xs : List ℕ) → filter q (filter p xs) ≡ filter (λ x. p x && q x) xs
filter-filter p q [] = refl
filter-filter p q (x ∷ xs) = grind (arith, nat_tests, filter-both, filter-filter p q xs)

-- the place of a number behind the lesser ones that pass a test is how many those are
pub position-behind : (p : ℕ → Bool) (a k c : ℕ) (rest : List ℕ) → a + k ≡ c
    → position_or_len (nat_eq c) (filter p (range_with_len a k) ++ c ∷ rest) ≡ length (filter p (range_with_len a k))
position-behind p a zero c rest is = ap (λ b. cond (not b) (1 + position_or_len (nat_eq c) rest) 0) (eq-eqb c c refl)
position-behind p a (suc k) c rest is =
    grind (arith, nat_tests, false_from_ne_true, eqb-true, position-behind p (a + 1) k c rest (omega (arith, is)))
