-- The numbers of rows by sums of labels, and what they do to powers of h.
use Rattle.std.proofs.lemmas.Bool.Decides.{nat_tests}
use Rattle.std.proofs.Common.{◌≡◌, ℕ, suc, ◌+◌, ◌-◌, ◌*◌, ◌%◌, ◌^◌, ◌≤◌, ◌<◌, ◌∙◌, refl, sym, ap, arith, cond, ◌&&◌, Bool, true, false, [], ◌∷◌}
use Rattle.std.specs.Prelude.{nat_eq, min}
use Rattle.std.proofs.Math.Nat.{pow-succ', pow-zero}
use Rattle.kh_types.specs.Residues.{Same}
use Rattle.kh_types.proofs.Reduced.{minus_mod-added}
use Rattle.kh_types.proofs.Residues.{same-add, same-equal, same-scaled}
use Rattle.square_laws.specs.Deformed.{opposite, row_number}

-- a merge of circles with s labels v- to one with r, and a split of a circle with l to two with s
abbrev pub merging : ℕ → ℕ → ℕ → ℕ
merging h s r = cond (nat_eq r (min 1 s)) (h ^ (s - r)) 0

abbrev pub splitting : ℕ → ℕ → ℕ → ℕ
splitting k l s = cond (nat_eq s (l + 1)) 1 (cond (nat_eq (l + s) 0) k 0)

pub merge_rows : (h k p q r : ℕ) → p ≤ 1 → q ≤ 1 → r ≤ 1
    → row_number h k (p ∷ q ∷ []) (r ∷ []) ≡ merging h (p + q) r
merge_rows h k p q r p_small q_small r_small = grind (arith, nat_tests, pow-zero, power_one)
  where
    power_one : (h : ℕ) → h ^ 1 ≡ h
    power_one h = pow-succ' h 0 ∙ ap (λ x. h * x) (pow-zero h) ∙ omega arith

pub split_rows : (h k p q r : ℕ) → p ≤ 1 → q ≤ 1 → r ≤ 1
    → row_number h k (p ∷ []) (q ∷ r ∷ []) ≡ splitting k p (q + r)
split_rows h k p q r p_small q_small r_small = grind (arith, nat_tests)

pub opposite-sum : (p h : ℕ) → 0 < p → Same p (h + opposite p h) 0
opposite-sum p h positive = minus_mod-added p 0 h positive

-- what a split makes of a power of h, as a sum of numbers that is exact but for a multiple of h + k: l, q and r are the labels before and
-- behind, a and b are 1 where there are marks on either circle, and x, y and z are powers of h
split_exact : (h k l q r a b x y z : ℕ) → q ≤ 1 → r ≤ 1 → a ≤ 1 → b ≤ 1 → l ≡ cond (nat_eq (a + b) 0) 0 1
    → (q + r ≡ l + 1 → x ≡ y) → (q + r ≡ l → z ≡ y) → (nat_eq q a && (nat_eq r b && nat_eq l 1) ≡ true → x ≡ h * z)
    → cond (nat_eq q 1 && nat_eq r b) x 0 + cond (nat_eq q a && nat_eq r 1) x 0 + k * cond (nat_eq q a && nat_eq r b) z 0
    ≡ splitting k l (q + r) * y + cond (nat_eq q a && (nat_eq r b && nat_eq l 1)) z 0 * (h + k)
split_exact h k l q r a b x y z q_small r_small a_small b_small is_l same same_less next = grind (arith, nat_tests)

-- what a split makes of a power of h: hx and hy are the marks of either circle, n is the number of all marks, and t and o are the numbers of
-- labels v- before and behind
pub split-sum : (p h k : ℕ) (keeps : Bool) (l q r hx hy n t o : ℕ) → Same p (h + k) 0 → l ≡ min 1 (hx + hy) → q ≤ 1 → r ≤ 1 → t ≤ n
    → (keeps ≡ true → o + l ≡ t + (q + r))
    → ((keeps && (nat_eq q (min 1 hx) && nat_eq r (min 1 hy))) ≡ true → o ≤ n)
    → Same p (cond keeps (splitting k l (q + r)) 0 * h ^ (n - t))
    (cond (keeps && (nat_eq q 1 && nat_eq r (min 1 hy))) (h ^ (suc n - o)) 0
    + cond (keeps && (nat_eq q (min 1 hx) && nat_eq r 1)) (h ^ (suc n - o)) 0
    + k * cond (keeps && (nat_eq q (min 1 hx) && nat_eq r (min 1 hy))) (h ^ (n - o)) 0)
split-sum p h k false l q r hx hy n t o none is_l q_small r_small within total bound = ap (λ x. x % p) (omega arith)
split-sum p h k true l q r hx hy n t o none is_l q_small r_small within total bound =
    let a = min 1 hx in
    let b = min 1 hy in
    let more = cond (nat_eq q a && (nat_eq r b && nat_eq l 1)) (h ^ (n - o)) 0 in
    let sum = total refl in
    without (splitting k l (q + r) * h ^ (n - t)) more
    ∙ same-equal p _ _ (sym (split_exact h k l q r a b (h ^ (suc n - o)) (h ^ (n - t)) (h ^ (n - o)) q_small r_small (omega arith) (omega arith)
    (is_l ∙ either hx hy)
    (λ up. ap (λ m. h ^ m) (omega (arith, sum, up)))
    (λ level. ap (λ m. h ^ m) (omega (arith, sum, level)))
    (λ shown. power-next (n - o) (suc n - o) (omega (arith, bound (first_two (nat_eq q a) (nat_eq r b) (nat_eq l 1) shown))))))
  where
    without : (x y : ℕ) → Same p x (x + y * (h + k))
    without x y =
        same-equal p x (x + y * 0) (omega arith)
        ∙ same-add p x x (y * 0) (y * (h + k)) refl (sym (same-scaled p y (h + k) 0 none))

    power-next : (a b : ℕ) → b ≡ suc a → h ^ b ≡ h * h ^ a
    power-next a b is = ap (λ m. h ^ m) is ∙ pow-succ' h a

    either : (hx hy : ℕ) → min 1 (hx + hy) ≡ cond (nat_eq (min 1 hx + min 1 hy) 0) 0 1
    either hx hy = grind (arith, nat_tests)

    first_two : (a b c : Bool) → (a && (b && c)) ≡ true → (a && b) ≡ true
    first_two a b c all = grind arith
