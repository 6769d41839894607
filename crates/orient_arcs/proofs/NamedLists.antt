-- Lists of numbers under names.
use Rattle.std.proofs.Common.{◌≡◌, ◌≢◌, ℕ, suc, inl, inr, ◌<◌, List, [], ◌∷◌, length, map, refl, ap, ap₂, arith, true, false, ℤ}
use Rattle.std.specs.Prelude.{slice_index_or, int_lt}
use Rattle.std.specs.List.{AllByRecursion}
use Rattle.std.proofs.lemmas.Bool.Decides.{nat_tests}
use Rattle.kh_types.specs.Code.{arc_in}
use Rattle.code_passes.specs.Passes.{is_over}
use Rattle.orient_arcs.specs.Renumbered.{turned_names, renamed_crossing}
use Rattle.orient_arcs.proofs.Members.{IsIn}

-- members of images
pub IsIn-map : (f : ℕ → ℕ) (x : ℕ) (xs : List ℕ) → IsIn x xs → IsIn (f x) (map f xs)
IsIn-map f x [] is = absurd is
IsIn-map f x (y ∷ ys) (inl same) = inl (ap f same)
IsIn-map f x (y ∷ ys) (inr later) = inr (IsIn-map f x ys later)

pub map-IsIn : (f : ℕ → ℕ) (z : ℕ) (xs : List ℕ) → IsIn z (map f xs) → (x : ℕ) × IsIn x xs × (z ≡ f x)
map-IsIn f z [] is = absurd is
map-IsIn f z (y ∷ ys) (inl same) = (y, inl refl, same)
map-IsIn f z (y ∷ ys) (inr later) = let found = map-IsIn f z ys later in (found.0, inr found.1, found.2)

-- labels of two over passes, of which the second is not less than the first
pub rising : (x y : ℤ) → is_over x ≡ true → is_over y ≡ true → int_lt y x ≡ false → x ≢ y → int_lt x y ≡ true
rising x y x_over y_over not_less differ = grind (arith, nat_tests)

-- names are turned as arcs are, where their labels are those of the arcs
pub turned-map : (f : ℕ → ℕ) (label own : ℕ → ℤ) (names : List ℕ) → ((x : ℕ) → IsIn x names → label (f x) ≡ own x)
    → turned_names label (map f names) ≡ map f (turned_names own names)
turned-map f label own names same = grind (arith, nat_tests)

-- a list under names that are its own again
pub own-again : (number : ℕ → ℕ) (xs ys : List (List ℕ)) → length xs ≡ length ys → AllByRecursion (λ (slots : List ℕ). length slots ≡ 4) ys
    → ((k slot : ℕ) → k < length ys → slot < 4 → number (arc_in (slice_index_or xs k []) slot) ≡ arc_in (slice_index_or ys k []) slot)
    → map (renamed_crossing number) xs ≡ ys
own-again number [] [] alike four each = refl
own-again number [] (y ∷ ys) alike four each = absurd (omega (arith, alike))
own-again number (x ∷ xs) [] alike four each = absurd (omega (arith, alike))
own-again number (x ∷ xs) (y ∷ ys) alike four each =
    ap₂ (λ z zs. z ∷ zs) (quad number x y four.0 (λ slot below. each 0 slot (omega arith) below))
    (own-again number xs ys (omega (arith, alike)) four.1 (λ k slot below slot_below. each (suc k) slot (omega (arith, below)) slot_below))
  where
    quad : (number : ℕ → ℕ) (old new : List ℕ) → length new ≡ 4 → ((slot : ℕ) → slot < 4 → number (arc_in old slot) ≡ arc_in new slot)
        → renamed_crossing number old ≡ new
    quad number old [] four each = absurd (omega (arith, four))
    quad number old (i ∷ []) four each = absurd (omega (arith, four))
    quad number old (i ∷ j ∷ []) four each = absurd (omega (arith, four))
    quad number old (i ∷ j ∷ k ∷ []) four each = absurd (omega (arith, four))
    quad number old (i ∷ j ∷ k ∷ l ∷ []) four each = grind (arith, nat_tests)
    quad number old (i ∷ j ∷ k ∷ l ∷ m ∷ more) four each = absurd (omega (arith, four))
