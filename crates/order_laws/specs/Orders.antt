-- The crossings of a code in another order.
use Rattle.std.specs.Prelude.{◌≡◌, ℕ, List, [], ◌∷◌, ◌++◌}
use Rattle.kh_types.specs.Code.{Code}

-- the second list has the elements of the first, in another order: its first element stands somewhere in the first list, and its
-- others are the others there, in another order
abbrev pub IsReordered : {A : Type 0} → List A → List A → Type 0
IsReordered {A} xs [] = xs ≡ []
IsReordered {A} xs (y ∷ ys) =
    (before : List A) × (after : List A) × (xs ≡ before ++ (y ∷ after)) × IsReordered (before ++ after) ys

-- a code with its crossings in another order
abbrev pub listed_by : Code → List (List ℕ) → Code
listed_by code crossings = record { crossings = crossings; loops = code.loops }
