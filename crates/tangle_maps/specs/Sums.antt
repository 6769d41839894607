-- Sums of terms modulo p, and what adding to them makes.
use Rattle.std.specs.Prelude.{ℕ, ◌<◌, ◌≤◌, List, [], ◌∷◌, ◌++◌, nat_eq, Bool, All, Option, Some, None, if◌then◌else◌}
use Rattle.std.specs.List.{count_by, AllByRecursion}
use Rattle.kh_types.specs.Residues.{Same}
use Rattle.dotted_maps.specs.declared.term.Term.{Term}
use Rattle.dotted_maps.specs.Maps.{coefficient_in}

-- the term with these dots and this coefficient
abbrev pub dotted_term : ℕ → ℕ → Term
dotted_term dots coefficient = record { dots = dots; coefficient = coefficient }

-- the same, for lists of dots that have one coefficient
abbrev pub dotted_times : ℕ → ℕ → Term
dotted_times coefficient dots = dotted_term dots coefficient

-- whether a term has these dots
abbrev pub has_dots : ℕ → Term → Bool
has_dots dots term = nat_eq term.dots dots

-- no two terms have the same dots, and each coefficient is from 1 to p - 1
pub record AreReduced (p : ℕ) (terms : List Term) : Type 0 where
  pub some : All (λ term. 0 < term.coefficient) terms
  pub below : All (λ term. term.coefficient < p) terms
  pub once : (dots : ℕ) → count_by (has_dots dots) terms ≤ 1

-- the dots of each term are a number below a limit
abbrev pub HaveDotsBelow : ℕ → List Term → Type 0
HaveDotsBelow limit terms = AllByRecursion (λ term. term.dots < limit) terms

-- sum is terms and more together, modulo p: each dot set has the coefficient that it has in both together, and dots that are below a limit
-- in both are below it in sum
pub record IsSum (p : ℕ) (terms more sum : List Term) : Type 0 where
  pub coefficients : (dots : ℕ) → Same p (coefficient_in sum dots) (coefficient_in (terms ++ more) dots)
  pub dots : (limit : ℕ) → HaveDotsBelow limit terms → HaveDotsBelow limit more → HaveDotsBelow limit sum

-- the number that a sum is, times the identity, where it is one: it has one term, without dots
abbrev pub number_in : List Term → Option ℕ
number_in [] = None
number_in (term ∷ []) = if nat_eq term.dots 0 then Some term.coefficient else None
number_in (term ∷ other ∷ terms) = None
