-- The order of crossings does not matter to the state sum: where two neighbours are exchanged, so are two bits of each state.
use Rattle.std.proofs.Common.{◌≡◌, ℕ, suc, ◌+◌, ◌^◌, ◌<◌, ◌∙◌, ℤ, pos, negsuc, ◌+ℤ◌, ◌-ℤ◌, List, [], ◌∷◌, ◌++◌, length, map, refl, sym, ap, ap₂, arith}
use Rattle.std.specs.List.{range_with_len, sum_by}
use Rattle.std.proofs.Math.Path.{fun_ext}
use Rattle.std.proofs.lemmas.Int.{ints}
use Rattle.std.proofs.lemmas.List.Sums.{sum_by-cons}
use Rattle.kh_types.specs.Bits.{ones}
use Rattle.kh_types.specs.Code.{Code}
use Rattle.kh_types.specs.StateSum.{int_sum, sum_with, term_of, term_with}
use Rattle.order_laws.specs.Orders.{IsReordered}
use Rattle.order_laws.proofs.ExchangedBits.{exchanged, exchanged-below, exchanged-twice, ones-high}
use Rattle.order_laws.proofs.ExchangedCodes.{circle_count-exchanged, code_with, length-with}
use Rattle.cell_laws.proofs.Matched.{sum_by-paired}
use Rattle.order_laws.proofs.Orders.{reordered}

-- an integer as the difference of two numbers
abbrev upper : ℤ → ℕ
upper (pos n) = n
upper (negsuc n) = 0

abbrev lower : ℤ → ℕ
lower (pos n) = 0
lower (negsuc n) = suc n

parts : (x : ℤ) → x ≡ pos (upper x) -ℤ pos (lower x)
parts (pos n) = omega (arith, ints)
parts (negsuc n) = omega (arith, ints)

int_sum-parts : (f : ℕ → ℤ) (xs : List ℕ)
    → int_sum (map f xs) ≡ pos (sum_by (λ x. upper (f x)) xs) -ℤ pos (sum_by (λ x. lower (f x)) xs)
int_sum-parts f [] = omega (arith, ints)
int_sum-parts f (x ∷ xs) =
    ap₂ (λ (a b : ℤ). a +ℤ b) (parts (f x)) (int_sum-parts f xs)
    ∙ joined (upper (f x)) (lower (f x)) (sum_by (λ y. upper (f y)) xs) (sum_by (λ y. lower (f y)) xs)
    ∙ ap₂ (λ (m n : ℕ). pos m -ℤ pos n) (sym (sum_by-cons (λ y. upper (f y)) x xs)) (sym (sum_by-cons (λ y. lower (f y)) x xs))
  where
    joined : (u l us ls : ℕ) → (pos u -ℤ pos l) +ℤ (pos us -ℤ pos ls) ≡ pos (u + us) -ℤ pos (l + ls)
    joined u l us ls = omega (arith, ints)

-- sums over numbers that are exchanged
int_sum-exchanged : (n : ℕ) (to : ℕ → ℕ) (f g : ℕ → ℤ) → ((s : ℕ) → s < n → to s < n) → ((s : ℕ) → to (to s) ≡ s)
    → ((s : ℕ) → f (to s) ≡ g s) → int_sum (map f (range_with_len 0 n)) ≡ int_sum (map g (range_with_len 0 n))
int_sum-exchanged n to f g below twice same =
    int_sum-parts f (range_with_len 0 n)
    ∙ ap₂ (λ (k l : ℕ). pos k -ℤ pos l) (turned upper) (turned lower)
    ∙ ap (λ (h : ℕ → ℤ). pos (sum_by (λ s. upper (h s)) (range_with_len 0 n)) -ℤ pos (sum_by (λ s. lower (h s)) (range_with_len 0 n)))
    (fun_ext same)
    ∙ sym (int_sum-parts g (range_with_len 0 n))
  where
    turned : (part : ℤ → ℕ) → sum_by (λ s. part (f s)) (range_with_len 0 n) ≡ sum_by (λ s. part (f (to s))) (range_with_len 0 n)
    turned part =
        sum_by-paired n n to to (λ s. part (f s))
        (record {
          there_below = below;
          back_below = below;
          back_there = λ s s_below. twice s;
          there_back = λ s s_below. twice s;
        })

module _ (front back : List (List ℕ)) (loops plus minus : ℕ) (e : ℤ) where
  term-exchanged : (a b : List ℕ) (s : ℕ) → term_with plus minus (code_with front back loops b a) e (exchanged (length front) s)
      ≡ term_with plus minus (code_with front back loops a b) e s
  term-exchanged a b s =
      ap₂ (λ (r c : ℕ). term_of plus minus e r c)
      (ones-high (length front) s (length (front ++ b ∷ a ∷ back)) (omega (arith, length-with front back loops b a))
      ∙ ap (λ (n : ℕ). ones n s) (length-with front back loops b a ∙ sym (length-with front back loops a b)))
      (circle_count-exchanged front back loops a b s)

  sum-exchanged : (a b : List ℕ) → sum_with plus minus (code_with front back loops b a) e
      ≡ sum_with plus minus (code_with front back loops a b) e
  sum-exchanged a b =
      let old = term_with plus minus (code_with front back loops a b) e in
      let new = term_with plus minus (code_with front back loops b a) e in
      ap (λ (n : ℕ). int_sum (map new (range_with_len 0 (2 ^ n)))) (length-with front back loops b a)
      ∙ int_sum-exchanged (2 ^ (length front + (2 + length back))) (exchanged (length front)) new old
      (λ s below. exchanged-below (length front) (length back) s below) (λ s. exchanged-twice (length front) s) (term-exchanged a b)
      ∙ ap (λ (n : ℕ). int_sum (map old (range_with_len 0 (2 ^ n)))) (sym (length-with front back loops a b))

pub sum-reordered : (loops plus minus : ℕ) (e : ℤ) (xs ys : List (List ℕ)) → IsReordered xs ys
    → sum_with plus minus (record { crossings = ys; loops = loops }) e ≡ sum_with plus minus (record { crossings = xs; loops = loops }) e
sum-reordered loops plus minus e xs ys is =
    let sum_of : List (List ℕ) → ℤ = λ zs. let code : Code = record { crossings = zs; loops = loops } in sum_with plus minus code e in
    reordered (λ zs. sum_of zs ≡ sum_of xs) (λ front back a b same. sum-exchanged front back loops plus minus e a b ∙ same) [] xs ys is refl
