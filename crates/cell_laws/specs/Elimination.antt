-- The elimination of a family of pivots, all at once.
use Rattle.std.specs.Prelude.{◌≡◌, ◌≢◌, ℕ, ◌*◌, List, [], ◌∷◌, ◌++◌, map}
use Rattle.std.specs.List.{AllByRecursion, sum_by}
use Rattle.kh_types.specs.Rank.{inverse, minus_mod}
use Rattle.cell_laws.specs.Cells.{Cells}

-- a family of pivots: pairs of a tail and a head, from the one to the other of which the coefficient is not 0, while it is 0 from a
-- pair's tail to any other pair's head
abbrev pub ArePivots : {A : Type 0} → (A → A → ℕ) → List (A × A) → Type 0
ArePivots coefficient [] = Unit {0}
ArePivots coefficient (pair ∷ pairs) =
    (coefficient pair.0 pair.1 ≢ 0)
    × AllByRecursion (λ other. (coefficient pair.0 other.1 ≡ 0) × (coefficient other.0 pair.1 ≡ 0)) pairs
    × ArePivots coefficient pairs

-- the way from a tail to a head that goes back through a pivot: d(b, tail) c^-1 d(head, a), where the pivot is c from a to b
abbrev pub way_back : {A : Type 0} → ℕ → (A → A → ℕ) → A → A → A × A → ℕ
way_back p coefficient tail head pair =
    coefficient tail pair.1 * (inverse p (coefficient pair.0 pair.1) * coefficient pair.0 head)

-- a coefficient less the ways back through all pivots
abbrev pub eliminated : {A : Type 0} → ℕ → (A → A → ℕ) → List (A × A) → A → A → ℕ
eliminated p coefficient pairs tail head =
    minus_mod p (coefficient tail head) (sum_by (way_back p coefficient tail head) pairs)

-- the tails of some pairs, their heads, and others
abbrev pub all_of : {A : Type 0} → List (A × A) → List A → List A
all_of pairs rest = map (λ pair. pair.0) pairs ++ (map (λ pair. pair.1) pairs ++ rest)

-- the cells that are left, with the coefficients that are left
abbrev pub cells_left : {A : Type 0} → ℕ → Cells A → List (A × A) → List A → Cells A
cells_left p cells pairs rest =
    record {
      list = rest;
      homological = cells.homological;
      quantum = cells.quantum;
      coefficient = eliminated p cells.coefficient pairs;
    }
