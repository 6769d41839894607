-- Lists of which a part alone passes a test.
use Rattle.std.proofs.lemmas.Bool.Decides.{nat_tests}
use Rattle.std.proofs.Common.{◌≡◌, ℕ, suc, ◌<◌, ◌∙◌, List, [], ◌∷◌, length, get_or, refl, ap, arith, Bool, false, cond}
use Rattle.std.specs.List.{filter, flat_map, list_any}
use Rattle.std.proofs.lemmas.Bool.{cases_Bool, or_parts}

-- no element passes
pub filter-none : {X : Type 0} (p : X → Bool) (xs : List X) (d : X) → ((k : ℕ) → k < length xs → p (get_or xs k d) ≡ false)
    → filter p xs ≡ []
filter-none p [] d fails = refl
filter-none p (x ∷ xs) d fails =
    ap (λ b. cond b (x ∷ filter p xs) (filter p xs)) (fails 0 (omega arith))
    ∙ filter-none p xs d (λ k below. fails (suc k) (omega (arith, below)))

-- of all lists that a test gives from the elements, those of the elements that fail another are empty
pub flat_map-filter : {X Y : Type 0} (p : X → Bool) (f : X → List Y) (xs : List X) → ((x : X) → p x ≡ false → f x ≡ [])
    → flat_map f (filter p xs) ≡ flat_map f xs
flat_map-filter p f [] none = refl
flat_map-filter {X} {Y} p f (x ∷ xs) none = grind (arith, nat_tests, cases_Bool, flat_map-filter p f xs none)

-- what fails where another test does, which no element passes
pub filter-unless_any : {X : Type 0} (p q : X → Bool) (xs : List X) → ((x : X) → p x ≡ false → q x ≡ false)
    → list_any p xs ≡ false → filter q xs ≡ []
filter-unless_any p q [] weaker none = refl
filter-unless_any {X} p q (x ∷ xs) weaker none =
    let parts = or_parts (p x) (list_any p xs) none in
    ap (λ b. cond b (x ∷ filter q xs) (filter q xs)) (weaker x parts.0) ∙ filter-unless_any p q xs weaker parts.1
