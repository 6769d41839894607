-- Disjoint unions of codes, what refuses them, and products of Laurent polynomials (any textbook of knots; the order of the
-- crossings and the refusals are this project's rule).
use Rattle.std.specs.Prelude.{◌≡◌, ℕ, ◌+◌, ◌<◌, ◌≤◌, ℤ, ◌-ℤ◌, ◌*ℤ◌, List, [], ◌∷◌, ◌++◌, length, map}
use Rattle.kh_types.specs.Code.{Code, arc_count, arc_in}
use Rattle.kh_types.specs.StateSum.{int_sum}
use Rattle.kh_types.specs.Table.{from_minus}
use Rattle.kh_types.specs.declared.limits.TheConstants.{CROSSINGS, LOOPS}
use Rattle.link_algebra.specs.declared.fault.UnionFault.{UnionFault}
use Rattle.link_algebra.specs.declared.fault.UnionFault.TheVariants.{Crossings, Loops}

-- the arcs at a crossing, each number raised
abbrev pub raised_slots : ℕ → List ℕ → List ℕ
raised_slots by slots = (arc_in slots 0 + by) ∷ (arc_in slots 1 + by) ∷ (arc_in slots 2 + by) ∷ (arc_in slots 3 + by) ∷ []

-- the disjoint union: the crossings of the first code, then those of the second, whose arcs follow the arcs of the first; the loops
-- of both
abbrev pub union_of : Code → Code → Code
union_of first second = record {
  crossings = first.crossings ++ map (raised_slots (arc_count first.crossings)) second.crossings;
  loops = first.loops + second.loops;
}

-- how many crossings two codes have together
abbrev pub crossings_together : Code → Code → ℕ
crossings_together first second = length first.crossings + length second.crossings

-- how many loops they have together
abbrev pub loops_together : Code → Code → ℕ
loops_together first second = first.loops + second.loops

-- what refuses a union: there are more crossings together than a diagram has; or not, and there are more loops together than a text
-- has. It carries how many there are
abbrev pub IsUnionFault : Code → Code → UnionFault → Type 0
IsUnionFault first second (Crossings count) = (count ≡ crossings_together first second) × (CROSSINGS < count)
IsUnionFault first second (Loops count) =
    (count ≡ loops_together first second) × ((crossings_together first second ≤ CROSSINGS) × (LOOPS < count))

-- the coefficient of q ^ e in the product of two Laurent polynomials, the first of which has exponents from -most to most alone: the
-- sum over these of the coefficient of the first times that of the second at what is left of e
abbrev pub product_coefficient : ℕ → (ℤ → ℤ) → (ℤ → ℤ) → ℤ → ℤ
product_coefficient most first second exponent = int_sum (map (λ a. first a *ℤ second (exponent -ℤ a)) (from_minus most))
