-- Lists without doubles, put together; and sums over them.
use Rattle.std.proofs.lemmas.Bool.Decides.{nat_tests}
use Rattle.std.proofs.Common.{◌≡◌, ◌≢◌, ℕ, inl, inr, zero, suc, ◌+◌, ◌<◌, ◌^◌, ◌∙◌, List, [], ◌∷◌, ◌++◌, length, map, get_or, refl, sym, subst, ap, arith, Bool, true, false, cond}
use Rattle.std.specs.List.{Contains, filter, flat_map, range_with_len, sum_by}
use Rattle.std.proofs.lemmas.List.{get_or_default, get_or-map, length-map, map-append}
use Rattle.std.proofs.lemmas.List.Elements.{Contains-append_cases}
use Rattle.std.proofs.lemmas.List.FromFn.{get_or-range_with_len, length-range_with_len}
use Rattle.kh_types.specs.Circles.{circle_count}
use Rattle.kh_types.specs.Code.{Code}
use Rattle.kh_types.specs.Generators.{Generator, generator_of, generators, generators_of, states}
use Rattle.kh_types.proofs.Lists.{Contains-first, Contains-later}
use Rattle.kh_types.proofs.ListSums.{sum_by-places, sum_by-single}
use Rattle.cell_laws.specs.Alike.{HasNoDoubles}
use Rattle.cell_laws.proofs.Matched.{place-once}
use Rattle.cell_laws.proofs.Members.{Contains-flattened, Contains-kept, Contains-made}
pub use Rattle.std.proofs.lemmas.Simd.{map-map}

stands : {A : Type 0} (xs : List A) (k : ℕ) (d : A) → k < length xs → Contains xs (get_or xs k d)
stands xs k d within = (k, within, get_or_default xs k (get_or xs k d) d within)

pub once-first : {A : Type 0} (x : A) (xs : List A) → (Contains xs x → ⊥) → HasNoDoubles xs → HasNoDoubles (x ∷ xs)
once-first x xs new once k zero d less within = absurd (omega (arith, less))
once-first {A} x xs new once zero (suc l) d less within = grind (arith, nat_tests, get_or_default xs l x d (omega (arith, within)))
once-first x xs new once (suc k) (suc l) d less within = once k l d (omega (arith, less)) (omega (arith, within))

pub once-later : {A : Type 0} (x : A) (xs : List A) → HasNoDoubles (x ∷ xs) → HasNoDoubles xs
once-later x xs once k l d less within = once (suc k) (suc l) d (omega (arith, less)) (omega (arith, within))

pub first-new : {A : Type 0} (x : A) (xs : List A) → HasNoDoubles (x ∷ xs) → Contains xs x → ⊥
first-new x xs once has = once 0 (suc has.0) x (omega arith) (omega (arith, has.1)) (sym has.2)

pub once-range : (a n : ℕ) → HasNoDoubles (range_with_len a n)
once-range a n = grind (arith, nat_tests, length-range_with_len, get_or-range_with_len)

pub once-map : {A B : Type 0} (f : A → B) (xs : List A) → ((x y : A) → f x ≡ f y → x ≡ y) → HasNoDoubles xs → HasNoDoubles (map f xs)
once-map f [] apart once k l d less within = absurd (omega (arith, within))
once-map f (x ∷ xs) apart once k l d less within =
    let l_below : l < length (x ∷ xs) = omega (arith, within, length-map (x ∷ xs) f) in
    let k_below : k < length (x ∷ xs) = omega (arith, less, l_below) in
    λ same. once k l x less l_below
    (apart (get_or (x ∷ xs) k x) (get_or (x ∷ xs) l x)
    (sym (get_or-map f (x ∷ xs) k x d k_below) ∙ same ∙ get_or-map f (x ∷ xs) l x d l_below))

pub once-append : {A : Type 0} (xs ys : List A) → HasNoDoubles xs → HasNoDoubles ys
    → ((x : A) → Contains xs x → Contains ys x → ⊥) → HasNoDoubles (xs ++ ys)
once-append [] ys first second apart = second
once-append (x ∷ xs) ys first second apart =
    once-first x (xs ++ ys)
    (λ has. elim (Contains-append_cases xs ys x has) [
      | inl left ↦ first-new x xs first left
      | inr right ↦ apart x (Contains-first x xs) right
    ])
    (once-append xs ys (once-later x xs first) second (λ y left right. apart y (Contains-later x y xs left) right))

pub once-flat : {A B : Type 0} (f : A → List B) (xs : List A) → HasNoDoubles xs → ((x : A) → HasNoDoubles (f x))
    → ((x y : A) (b : B) → Contains (f x) b → Contains (f y) b → x ≡ y) → HasNoDoubles (flat_map f xs)
once-flat f [] once each apart = λ k l d less within. absurd (omega (arith, within))
once-flat f (x ∷ xs) once each apart =
    once-append (f x) (flat_map f xs) (each x) (once-flat f xs (once-later x xs once) each apart)
    (λ b here later.
    let found = Contains-flattened f xs b later in
    first-new x xs once (subst (λ y. Contains xs y) (sym (apart x found.0 b here found.2)) found.1))

pub once-filter : {A : Type 0} (test : A → Bool) (xs : List A) → HasNoDoubles xs → HasNoDoubles (filter test xs)
once-filter test [] once = once
once-filter {A} test (x ∷ xs) once = step (test x) (once-filter test xs (once-later x xs once))
  where
    step : (b : Bool) → HasNoDoubles (filter test xs) → HasNoDoubles (cond b (x ∷ filter test xs) (filter test xs))
    step true rest = once-first x (filter test xs) (λ has. first-new x xs once (Contains-kept test xs x has).0) rest
    step false rest = rest

pub once-generators : (code : Code) → HasNoDoubles (generators code)
once-generators code =
    once-flat (generators_of code) (states code) (once-range 0 (2 ^ length code.crossings))
    (λ s. once-map (generator_of s) (range_with_len 0 (2 ^ circle_count code s)) (λ k l same. ap (λ (x : Generator). x.label) same)
    (once-range 0 (2 ^ circle_count code s)))
    (λ s t x in_s in_t.
    let one = Contains-made (generator_of s) (range_with_len 0 (2 ^ circle_count code s)) x in_s in
    let other = Contains-made (generator_of t) (range_with_len 0 (2 ^ circle_count code t)) x in_t in
    ap (λ (y : Generator). y.state) (one.2 ∙ sym other.2))

-- a sum of which one term counts
pub sum_by-only : {A : Type 0} (f : A → ℕ) (xs : List A) (x : A) → HasNoDoubles xs → Contains xs x
    → ((y : A) → Contains xs y → y ≢ x → f y ≡ 0) → sum_by f xs ≡ f x
sum_by-only f xs x once has none =
    sum_by-places f xs x
    ∙ sum_by-single (λ i. f (get_or xs i x)) 0 (length xs) has.0 (omega arith) (omega (arith, has.1))
    (λ i from below other.
    let within : i < length xs = omega (arith, below) in
    none (get_or xs i x) (i, within, get_or_default xs i (get_or xs i x) x within)
    (λ same. other (place-once xs i has.0 x once within has.1 (same ∙ sym has.2))))
    ∙ ap f (get_or_default xs has.0 x x has.1 ∙ has.2)

pub map-flat_map : {A B C : Type 0} (g : B → C) (f : A → List B) (xs : List A) → map g (flat_map f xs) ≡ flat_map (λ x. map g (f x)) xs
map-flat_map g f [] = refl
map-flat_map g f (x ∷ xs) = map-append g (f x) (flat_map f xs) ∙ ap (λ zs. map g (f x) ++ zs) (map-flat_map g f xs)

pub flat_map-range : {B : Type 0} (f g : ℕ → List B) (a n : ℕ) → ((t : ℕ) → t < a + n → f t ≡ g t)
    → flat_map f (range_with_len a n) ≡ flat_map g (range_with_len a n)
flat_map-range f g a zero same = refl
flat_map-range f g a (suc n) same = grind (arith, nat_tests, flat_map-range f g (a + 1) n (λ t below. same t (omega (arith, below))))
