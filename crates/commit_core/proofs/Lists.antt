-- A search in a list, and a list with one element replaced.
use Rattle.std.proofs.Common.{take, ◌++◌, ◌≡◌, ℕ, zero, suc, ◌<◌, ◌∙◌, List, [], ◌∷◌, length, get_or, set, map, replicate, refl, sym, ap, arith, subst, Bool, true, cond, Some, inl, inr}
use Rattle.std.specs.List.{All, find}
use Rattle.std.specs.Option.{option_map}
use Rattle.std.proofs.Math.Seq.{take-append_seam}
use Rattle.std.proofs.lemmas.Bool.{cases_Bool, cases_lt}
use Rattle.std.proofs.lemmas.List.{get_or_past}

module _ {X : Type 0} where
  pub set-set : (xs : List X) (i : ℕ) (a b : X) → set (set xs i a) i b ≡ set xs i b
  set-set [] i a b = refl
  set-set (x ∷ xs) zero a b = refl
  set-set (x ∷ xs) (suc i) a b = ap (λ (ys : List X). x ∷ ys) (set-set xs i a b)

  -- an element is replaced by itself, or by the default past the end
  pub set-same : (xs : List X) (i : ℕ) (d : X) → get_or xs i d ≡ d → set xs i d ≡ xs
  set-same [] i d same = refl
  set-same (x ∷ xs) zero d same = ap (λ (y : X). y ∷ xs) (sym same)
  set-same (x ∷ xs) (suc i) d same = ap (λ (ys : List X). x ∷ ys) (set-same xs i d same)

  -- a list that is written over another of its length
  pub take-whole : (n : ℕ) (xs rest : List X) → length xs ≡ n → take n (xs ++ rest) ≡ xs
  take-whole n xs rest size = ap (λ (m : ℕ). take m (xs ++ rest)) (sym size) ∙ take-append_seam xs rest

  -- what holds of all elements, and of the default, holds at each place
  pub All-or_default : (P : X → Type 0) (xs : List X) (i : ℕ) (d : X) → P d → All P xs → P (get_or xs i d)
  All-or_default P xs i d default all = elim (cases_lt i (length xs)) [
    | inl below ↦ all i d below
    | inr past ↦ subst P (sym (get_or_past xs i d past)) default
  ]

  -- the first element that passes has a place, and passes
  pub record IsFound (test : X → Bool) (xs : List X) (x : X) (place : ℕ) : Type 0 where
    pub below : place < length xs
    pub is : (d : X) → get_or xs place d ≡ x
    pub passes : test x ≡ true

  pub found-place : (test : X → Bool) (xs : List X) (x : X) → find test xs ≡ Some x → (place : ℕ) × IsFound test xs x place
  found-place test [] x none = absurd (cc)
  found-place test (y ∷ ys) x found = elim (cases_Bool (test y)) [
    | inl passes ↦
        let same : y ≡ x = cc (found, ap (λ b. cond b (Some y) (find test ys)) passes) in
        (0, record { below = omega arith; is = λ d. same; passes = ap test (sym same) ∙ passes })
    | inr fails ↦
        let later = found-place test ys x (sym (ap (λ b. cond b (Some y) (find test ys)) fails) ∙ found) in
        (suc later.0, record { below = omega (arith, later.1.below); is = later.1.is; passes = later.1.passes })
  ]

module _ {X Y : Type 0} where
  pub map-replicate : (f : X → Y) (n : ℕ) (x : X) → map f (replicate n x) ≡ replicate n (f x)
  map-replicate f zero x = refl
  map-replicate f (suc n) x = ap (λ (ys : List Y). f x ∷ ys) (map-replicate f n x)

  -- a search among images
  pub find-map : (test : Y → Bool) (f : X → Y) (xs : List X) → find test (map f xs) ≡ option_map f (find (λ x. test (f x)) xs)
  find-map test f [] = refl
  find-map test f (x ∷ xs) = elim (cases_Bool (test (f x))) [
    | inl passes ↦
        ap (λ b. cond b (Some (f x)) (find test (map f xs))) passes
        ∙ ap (λ b. option_map f (cond b (Some x) (find (λ y. test (f y)) xs))) (sym passes)
    | inr fails ↦
        ap (λ b. cond b (Some (f x)) (find test (map f xs))) fails ∙ find-map test f xs
        ∙ ap (λ b. option_map f (cond b (Some x) (find (λ y. test (f y)) xs))) (sym fails)
  ]
