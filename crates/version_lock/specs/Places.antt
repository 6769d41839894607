-- Lists of places in a history, counted from 0, and sums over lists.
use Rattle.std.specs.Prelude.{ℕ, ◌+◌, ◌<◌, List, [], ◌∷◌, length, if◌then◌else◌, nat_eq, nat_lt, nat_le}
use Rattle.kh_types.specs.Bits.{one_if}

-- the sum of the number f of each
abbrev pub total : {A : Type 0} → (A → ℕ) → List A → ℕ
total f [] = 0
total f (x ∷ xs) = f x + total f xs

-- P holds of each
abbrev pub Each : {A : Type 0} → (A → Type 0) → List A → Type 0
Each P [] = Unit {0}
Each P (x ∷ xs) = P x × Each P xs

-- each place is below all that follow it
abbrev pub IsAscending : List ℕ → Type 0
IsAscending [] = Unit {0}
IsAscending (x ∷ xs) = Each (λ y. x < y) xs × IsAscending xs

-- how often the place stands in the list
abbrev pub copies : ℕ → List ℕ → ℕ
copies place places = total (λ x. one_if (nat_eq x place)) places

-- an ascending list with one place more, before the first that is above it
abbrev pub inserted : ℕ → List ℕ → List ℕ
inserted place [] = place ∷ []
inserted place (x ∷ xs) = if nat_lt place x then place ∷ x ∷ xs else x ∷ inserted place xs

-- the places of two ascending lists in one
abbrev pub merged_places : List ℕ → List ℕ → List ℕ
merged_places [] ys = ys
merged_places (x ∷ xs) ys = inserted x (merged_places xs ys)

-- the longer of two lists, or the first of two that are as long
abbrev pub longer : {E : Type 0} → List E → List E → List E
longer xs ys = if nat_le (length ys) (length xs) then xs else ys

-- the places ascend, and each is below the version
pub record AreOwn (version : ℕ) (places : List ℕ) : Type 0 where
  pub ascending : IsAscending places
  pub below : Each (λ place. place < version) places
