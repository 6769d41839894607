-- Maps between two pairings are sums of terms, modulo p; their matrices, and their composition.
use Rattle.std.specs.Prelude.{ℕ, ◌*◌, ◌%◌, ◌^◌, ◌<◌, List, [], ◌∷◌, length, map, nat_eq, if◌then◌else◌}
use Rattle.std.specs.List.{sum_by, range_with_len, AllByRecursion}
use Rattle.kh_types.specs.Residues.{Same}
use Rattle.surface_laws.specs.Points.{Points, discs}
use Rattle.dotted_maps.specs.Terms.{entry}
use Rattle.dotted_maps.specs.Composition.{composed}
use Rattle.dotted_maps.specs.declared.term.Term.{Term}

-- the coefficient of a dot set in a sum of terms
abbrev pub coefficient_in : List Term → ℕ → ℕ
coefficient_in terms dots = sum_by (λ term. if nat_eq term.dots dots then term.coefficient else 0) terms

-- the matrix of a map from m to n at what w joins outside: a row for the labels of the circles of n, a column for those of m
abbrev pub matrix_of : ℕ → ℕ → ℕ → Points → List (ℕ × ℕ) → List (ℕ × ℕ) → List (ℕ × ℕ) → List Term → ℕ → ℕ → ℕ
matrix_of p h k points m n w terms row column =
    sum_by (λ term. term.coefficient * entry h k points m n w term.dots column row) terms % p

-- a map times a number
abbrev pub scaled : ℕ → List Term → List Term
scaled factor terms = map (λ term. record { dots = term.dots; coefficient = factor * term.coefficient }) terms

-- the dots of each term are dots of discs
abbrev pub AreDotted : Points → List (ℕ × ℕ) → List (ℕ × ℕ) → List Term → Type 0
AreDotted points m n terms = AllByRecursion (λ term. term.dots < 2 ^ length (discs points m n)) terms

-- two sums of terms are one map where each dot set has one coefficient in them, modulo p
pub record AreOneMap (p : ℕ) (points : Points) (m n : List (ℕ × ℕ)) (terms others : List Term) : Type 0 where
  pub dots : AreDotted points m n terms
  pub other_dots : AreDotted points m n others
  pub coefficients : (dots : ℕ) → dots < 2 ^ length (discs points m n) → Same p (coefficient_in terms dots) (coefficient_in others dots)

-- the coefficient of a dot set in the composition of two maps, the first of them first
abbrev pub composed_in : ℕ → ℕ → Points → List (ℕ × ℕ) → List (ℕ × ℕ) → List (ℕ × ℕ) → List Term → List Term → ℕ → ℕ
composed_in h k points m n o first second kept =
    sum_by (λ term. sum_by (λ other. term.coefficient * other.coefficient * composed h k points m n o term.dots other.dots kept) second) first

-- a map is the composition of two maps where its dot sets are sets of discs and have these coefficients modulo p
pub record IsComposition (p h k : ℕ) (points : Points) (m n o : List (ℕ × ℕ)) (first second whole : List Term) : Type 0 where
  pub dots : AreDotted points m o whole
  pub coefficients : (kept : ℕ) → kept < 2 ^ length (discs points m o)
      → Same p (coefficient_in whole kept) (composed_in h k points m n o first second kept)

-- the composition with a term for each dot set
abbrev pub composition : ℕ → ℕ → ℕ → Points → List (ℕ × ℕ) → List (ℕ × ℕ) → List (ℕ × ℕ) → List Term → List Term → List Term
composition p h k points m n o first second =
    map (λ kept. record { dots = kept; coefficient = composed_in h k points m n o first second kept % p })
    (range_with_len 0 (2 ^ length (discs points m o)))

-- the identity of a pairing has one term, without dots
abbrev pub identity : List Term
identity = record { dots = 0; coefficient = 1 } ∷ []
