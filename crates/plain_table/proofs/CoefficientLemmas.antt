-- The coefficient between two generators is below p, since at most one edge leads from a state to another.
use Rattle.std.proofs.Common.{◌≡◌, ◌≢◌, ℕ, zero, suc, refl, ◌+◌, ◌-◌, ◌%◌, ◌^◌, ◌<◌, ◌≤◌, ◌∙◌, ap, sym, arith, Bool, true, false, cond, ◌&&◌}
use Rattle.std.specs.Prelude.{nat_eq}
use Rattle.std.specs.List.{sum_by, range_with_len}
use Rattle.std.proofs.Math.Nat.{mod-eq_of_lt}
use Rattle.std.proofs.Math.Pow.{pow-lt}
use Rattle.std.proofs.lemmas.Bool.{and_parts, eqb-true, false_from_ne_true}
use Rattle.std.proofs.lemmas.List.Sums.{sum_by-cons}
use Rattle.kh_types.specs.Bits.{bit}
use Rattle.kh_types.specs.Code.{Code}
use Rattle.kh_types.specs.Generators.{Generator}
use Rattle.kh_types.specs.Differential.{is_edge, edge_sign, coefficient_at}
use Rattle.kh_types.proofs.Ranges.{sum_from_one}
use Rattle.prime_field.specs.Residues.{sum_mod, negative_mod}

-- a sum of terms that are all 0
sum_by-zeros : (f : ℕ → ℕ) (a n : ℕ) → ((k : ℕ) → a ≤ k → f k ≡ 0) → sum_by f (range_with_len a n) ≡ 0
sum_by-zeros f a zero zeros = refl
sum_by-zeros f a (suc n) zeros =
    let rest : sum_by f (range_with_len (a + 1) n) ≡ 0 = sum_by-zeros f (a + 1) n (λ k from. zeros k (omega (arith, from))) in
    omega (arith, sum_by-cons f a (range_with_len (a + 1) n), zeros a (omega arith), rest)

-- a number and a rest, of which one is 0
sum-one : (x rest m : ℕ) → x < m → rest < m → (x ≢ 0 → rest ≡ 0) → x + rest < m
sum-one zero rest m x_below rest_below alone = omega arith
sum-one (suc x) rest m x_below rest_below alone =
    let none : rest ≡ 0 = alone (λ same. absurd (cc)) in omega arith

-- a sum of terms below m, of which at most one is not 0, is below m
sum_by-one : (f : ℕ → ℕ) (m a n : ℕ) → 0 < m → ((k : ℕ) → f k < m) → ((j k : ℕ) → a ≤ j → j < k → f j ≢ 0 → f k ≡ 0)
    → sum_by f (range_with_len a n) < m
sum_by-one f m a zero positive below alone = positive
sum_by-one f m a (suc n) positive below alone =
    let rest : sum_by f (range_with_len (a + 1) n) < m =
    sum_by-one f m (a + 1) n positive below (λ j k from later. alone j k (omega (arith, from)) later) in
    let one : f a + sum_by f (range_with_len (a + 1) n) < m =
    sum-one (f a) (sum_by f (range_with_len (a + 1) n)) m (below a) rest
    (λ other. sum_by-zeros f (a + 1) n (λ k from. alone a k (omega arith) (omega (arith, from)) other)) in
    omega (arith, sum_by-cons f a (range_with_len (a + 1) n), one)

-- the sign of an edge, and so the coefficient at a crossing, is below p
choice-below : (b : Bool) (x y p : ℕ) → x < p → y < p → cond b x y < p
choice-below true x y p x_below y_below = x_below
choice-below false x y p x_below y_below = y_below

coefficient_at-below : (p : ℕ) (code : Code) (tail head : Generator) (crossing : ℕ) → 1 < p
    → coefficient_at p code tail head crossing < p
coefficient_at-below p code tail head crossing above =
    choice-below _ (edge_sign p tail.state crossing) 0 p (choice-below _ 1 (p - 1) p above (omega (arith, above))) (omega (arith, above))

-- where there is no edge, the coefficient at a crossing is 0
no_choice : (edge other : Bool) (x : ℕ) → cond (edge && other) x 0 ≢ 0 → edge ≡ true
no_choice true other x is_other = refl
no_choice false other x is_other = absurd (is_other refl)

zero-choice : (edge other : Bool) (x : ℕ) → edge ≡ false → cond (edge && other) x 0 ≡ 0
zero-choice edge other x no_edge = rw no_edge refl

-- an edge leads to the state with one bit more
edge-state : (tail head : Generator) (crossing : ℕ) → is_edge tail head crossing ≡ true
    → head.state ≡ tail.state + 2 ^ (crossing - 1)
edge-state tail head crossing edge =
    eqb-true head.state (tail.state + 2 ^ (crossing - 1))
    (and_parts (nat_eq (bit tail.state (crossing - 1)) 0) (nat_eq head.state (tail.state + 2 ^ (crossing - 1))) edge).1

-- so no two crossings have an edge between the same states
edge-alone : (tail head : Generator) (j k : ℕ) → 1 ≤ j → j < k → is_edge tail head j ≡ true → is_edge tail head k ≡ false
edge-alone tail head j k from later edge =
    let power : 2 ^ (j - 1) < 2 ^ (k - 1) = pow-lt (omega (arith, from, later)) in
    false_from_ne_true (is_edge tail head k)
    (λ other. omega (arith, edge-state tail head j edge, edge-state tail head k other, power))

-- the sum of the coefficients at crossings is below p
coefficients-below : (p : ℕ) (code : Code) (tail head : Generator) (n : ℕ) → 1 < p
    → sum_by (coefficient_at p code tail head) (range_with_len 1 n) < p
coefficients-below p code tail head n above =
    sum_by-one (coefficient_at p code tail head) p 1 n (omega (arith, above))
    (λ crossing. coefficient_at-below p code tail head crossing above)
    (λ j k from later other.
    zero-choice (is_edge tail head k) _ (edge_sign p tail.state k)
    (edge-alone tail head j k from later (no_choice (is_edge tail head j) _ (edge_sign p tail.state j) other)))

-- the sum over one crossing more, which is the sum modulo p
pub coefficient_more : (p : ℕ) (code : Code) (tail head : Generator) (n sum one next : ℕ) → 1 < p
    → sum ≡ sum_by (coefficient_at p code tail head) (range_with_len 1 n) → one ≡ coefficient_at p code tail head (n + 1)
    → next ≡ sum_mod p sum one → next ≡ sum_by (coefficient_at p code tail head) (range_with_len 1 (n + 1))
coefficient_more p code tail head n sum one next above is_sum is_one is_next =
    let f : ℕ → ℕ = coefficient_at p code tail head in
    let whole : sum + one ≡ sum_by f (range_with_len 1 (n + 1)) =
    ap (λ s. s + one) is_sum ∙ ap (λ x. sum_by f (range_with_len 1 n) + x) is_one
    ∙ sym (sum_from_one f n) in
    is_next ∙ ap (λ s. s % p) whole ∙ mod-eq_of_lt (coefficients-below p code tail head (n + 1) above)

-- -1 modulo p
pub negative_mod-one : (p : ℕ) → 1 < p → negative_mod p 1 ≡ p - 1
negative_mod-one p above =
    let one : 1 % p ≡ 1 = mod-eq_of_lt above in
    let below : p - 1 < p = omega (arith, above) in
    ap (λ x. (p - x) % p) one ∙ mod-eq_of_lt below

pub ruleset signs = (negative_mod-one)
