-- The terms of the eight states of a triangle, with the rest of the diagram.
use Rattle.std.proofs.Common.{◌≡◌, ℕ, zero, suc, ◌+◌, ◌*◌, ◌%◌, ◌<◌, ◌∙◌, List, [], ◌∷◌, ℤ, pos, neg_ℤ, ◌+ℤ◌, ◌-ℤ◌, sym, refl, map, ap, ap₂, arith, Bool, true, false, cond}
use Rattle.std.specs.Prelude.{nat_eq}
use Rattle.std.specs.List.{range_with_len, flat_map}
use Rattle.std.proofs.lemmas.Bool.Decides.{nat_tests}
use Rattle.std.proofs.lemmas.Int.{ints}
use Rattle.std.proofs.lemmas.List.{map-append}
use Rattle.kh_types.specs.Bits.{ones}
use Rattle.kh_types.specs.StateSum.{int_sum, circle_coefficient}
use Rattle.gluing_laws.proofs.Terms.{term_at, signed_by_count}
use Rattle.gluing_laws.specs.Slides.{inside_sum, terms_of_state, term_exponents, ends_joined, closed_inside, is_slidable, triangle_before, triangle_after}
use Rattle.gluing_laws.proofs.KinkSums.{signed_by-add}
use Rattle.gluing_laws.proofs.SlideSums.{inside_sum-append, inside_sum-slide}
use Rattle.kh_types.proofs.IntSums.{int_sum-alike, int_sum-append}

-- what the rest of a diagram is worth, where the state of its other crossings has some ones, and its circles are told by how the
-- ends are joined
abbrev pub rest_value : ℕ → ℕ → ℤ → ℕ → (List ℕ → ℕ) → List ℕ → ℤ → ℤ
rest_value plus minus exponent ones circles joined shift =
    signed_by_count (ones + minus)
    (circle_coefficient (circles joined) (((exponent -ℤ pos (ones + plus)) +ℤ pos (2 * minus)) -ℤ shift))

-- a term with some circles more, written out
int_sum-spread : (m k : ℕ) (x : ℤ) (c : ℕ) (z : ℤ)
    → int_sum (map (λ shift. signed_by_count m (circle_coefficient k (x -ℤ shift))) (term_exponents c z))
    ≡ signed_by_count m (circle_coefficient (c + k) (x -ℤ z))
int_sum-spread m k x zero z =
    let e : k ≡ zero + k = omega arith in
    plus_zero (signed_by_count m (circle_coefficient k (x -ℤ z))) ∙ ap (λ j. signed_by_count m (circle_coefficient j (x -ℤ z))) e
  where
    plus_zero : (x : ℤ) → x +ℤ pos 0 ≡ x
    plus_zero x = omega (arith, ints)
int_sum-spread m k x (suc c) z =
    let g : ℤ → ℤ = λ shift. signed_by_count m (circle_coefficient k (x -ℤ shift)) in
    let e : suc (c + k) ≡ suc c + k = omega arith in
    let low : x -ℤ (z +ℤ pos 1) ≡ (x -ℤ z) -ℤ pos 1 = omega (arith, ints) in
    let high : x -ℤ (z -ℤ pos 1) ≡ (x -ℤ z) +ℤ pos 1 = omega (arith, ints) in
    ap int_sum (map-append g (term_exponents c (z +ℤ pos 1)) (term_exponents c (z -ℤ pos 1)))
    ∙ int_sum-append (map g (term_exponents c (z +ℤ pos 1))) (map g (term_exponents c (z -ℤ pos 1)))
    ∙ ap₂ (λ s t. s +ℤ t) (int_sum-spread m k x c (z +ℤ pos 1)) (int_sum-spread m k x c (z -ℤ pos 1))
    ∙ ap₂ (λ s t. signed_by_count m (circle_coefficient (c + k) s) +ℤ signed_by_count m (circle_coefficient (c + k) t)) low high
    ∙ sym (signed_by-add m (circle_coefficient (c + k) ((x -ℤ z) -ℤ pos 1)) (circle_coefficient (c + k) ((x -ℤ z) +ℤ pos 1)))
    ∙ ap (λ j. signed_by_count m (circle_coefficient j (x -ℤ z))) e

-- terms of one sign
inside_sum-signed : (rest : List ℕ → ℤ → ℤ) (is_minus : Bool) (joined : List ℕ) (shifts : List ℤ)
    → inside_sum rest (map (λ shift. record { is_minus = is_minus; joined = joined; shift = shift }) shifts)
    ≡ cond is_minus (neg_ℤ (int_sum (map (rest joined) shifts))) (int_sum (map (rest joined) shifts))
inside_sum-signed rest true joined [] = omega (arith, ints)
inside_sum-signed rest false joined [] = refl
inside_sum-signed rest true joined (shift ∷ shifts) =
    ap (λ s. neg_ℤ (rest joined shift) +ℤ s) (inside_sum-signed rest true joined shifts)
    ∙ negated (rest joined shift) (int_sum (map (rest joined) shifts))
  where
    negated : (x y : ℤ) → neg_ℤ x +ℤ neg_ℤ y ≡ neg_ℤ (x +ℤ y)
    negated x y = omega (arith, ints)
inside_sum-signed rest false joined (shift ∷ shifts) = grind (arith, nat_tests, inside_sum-signed rest false joined shifts)

-- more ones turn the sign round where their number is odd
signed_by-more : (k r x : ℕ) → cond (nat_eq (r % 2) 1) (neg_ℤ (signed_by_count k x)) (signed_by_count k x) ≡ signed_by_count (k + r) x
signed_by-more k r x = grind (arith, nat_tests)

-- the term of a state of the whole diagram is what the terms of the state inside add
pub term_of-spread : (plus minus : ℕ) (exponent : ℤ) (r : ℕ) (circles : List ℕ → ℕ) (joined : List ℕ) (closed inner : ℕ)
    → inside_sum (rest_value plus minus exponent r circles)
    (map (λ shift. record { is_minus = nat_eq (inner % 2) 1; joined = joined; shift = shift }) (term_exponents closed (pos inner)))
    ≡ term_at plus minus exponent (r + inner) (closed + circles joined)
term_of-spread plus minus exponent r circles joined closed inner =
    let k = circles joined in
    let x = (exponent -ℤ pos (r + plus)) +ℤ pos (2 * minus) in
    let e : r + minus + inner ≡ r + inner + minus = omega arith in
    let shifted : x -ℤ pos inner ≡ (exponent -ℤ pos (r + inner + plus)) +ℤ pos (2 * minus) = omega (arith, ints) in
    inside_sum-signed (rest_value plus minus exponent r circles) (nat_eq (inner % 2) 1) joined (term_exponents closed (pos inner))
    ∙ ap (λ s. cond (nat_eq (inner % 2) 1) (neg_ℤ s) s) (int_sum-spread (r + minus) k x closed (pos inner))
    ∙ signed_by-more (r + minus) inner (circle_coefficient (closed + k) (x -ℤ pos inner))
    ∙ ap₂ (λ m z. signed_by_count m (circle_coefficient (closed + k) z)) e shifted

term_of-inside : (plus minus : ℕ) (exponent : ℤ) (r : ℕ) (circles : List ℕ → ℕ) (crossings : List (List ℕ)) (state : ℕ)
    → inside_sum (rest_value plus minus exponent r circles) (terms_of_state crossings state)
    ≡ term_at plus minus exponent (r + ones 3 state) (closed_inside crossings state + circles (ends_joined crossings state))
term_of-inside plus minus exponent r circles crossings state =
    term_of-spread plus minus exponent r circles (ends_joined crossings state) (closed_inside crossings state) (ones 3 state)

-- the sum over some states
inside_sum-states : (rest : List ℕ → ℤ → ℤ) (crossings : List (List ℕ)) (states : List ℕ)
    → inside_sum rest (flat_map (terms_of_state crossings) states)
    ≡ int_sum (map (λ state. inside_sum rest (terms_of_state crossings state)) states)
inside_sum-states rest crossings [] = refl
inside_sum-states rest crossings (state ∷ states) = grind (arith, nat_tests, inside_sum-append, inside_sum-states rest crossings states)

-- what the eight states of a triangle add to the state sum, with one state of the rest
abbrev pub inside_term : ℕ → ℕ → ℤ → ℕ → (List ℕ → ℕ) → List (List ℕ) → ℕ → ℤ
inside_term plus minus exponent r circles crossings state =
    term_at plus minus exponent (r + ones 3 state) (closed_inside crossings state + circles (ends_joined crossings state))

-- the same before and after a third Reidemeister move
pub int_sum-slide : (p q r : ℕ) → p < 4 → q < 4 → r < 4 → is_slidable p q r ≡ true
    → (plus minus : ℕ) (exponent : ℤ) (ones : ℕ) (circles : List ℕ → ℕ)
    → int_sum (map (inside_term plus minus exponent ones circles (triangle_before p q r)) (range_with_len 0 8))
    ≡ int_sum (map (inside_term plus minus exponent ones circles (triangle_after p q r)) (range_with_len 0 8))
int_sum-slide p q r p_below q_below r_below slidable plus minus exponent ones circles =
    let rest = rest_value plus minus exponent ones circles in
    let before = triangle_before p q r in
    let after = triangle_after p q r in
    sym (int_sum-alike (λ state. inside_sum rest (terms_of_state before state)) (inside_term plus minus exponent ones circles before)
    (term_of-inside plus minus exponent ones circles before) (range_with_len 0 8))
    ∙ sym (inside_sum-states rest before (range_with_len 0 8))
    ∙ inside_sum-slide p q r p_below q_below r_below slidable rest
    ∙ inside_sum-states rest after (range_with_len 0 8)
    ∙ int_sum-alike (λ state. inside_sum rest (terms_of_state after state)) (inside_term plus minus exponent ones circles after)
    (term_of-inside plus minus exponent ones circles after) (range_with_len 0 8)
