-- Histories of pivots, and the block of the cube as a complex.
use Rattle.std.specs.Prelude.{ℕ, ◌-◌, ℤ, pos, List, [], ◌∷◌, length, map, take, drop, Bool, true, false, not}
use Rattle.std.specs.List.{fold, position_or_len, suffix_len}
use Rattle.kh_types.specs.Code.{Code}
use Rattle.kh_types.specs.Generators.{generators_at}
use Rattle.kh_types.specs.Differential.{differential}
use Rattle.kh_types.specs.Table.{from_minus}
use Rattle.kh_types.specs.Complex.{Complex, Pivot, IsPivot, cancel}

-- whether a list has no element
abbrev pub is_empty : {X : Type 0} → List X → Bool
is_empty [] = true
is_empty (x ∷ xs) = false

-- a history is a list of pivots. It is legal where each pivot is an entry other than 0 of the complex that the pivots before
-- it leave
abbrev pub IsLegal : ℕ → Complex → List Pivot → Type 0
IsLegal p complex [] = Unit {0}
IsLegal p complex (pivot ∷ later) = IsPivot complex pivot × IsLegal p (cancel p complex pivot) later

-- the complex at the end of a history
abbrev pub replay : ℕ → Complex → List Pivot → Complex
replay p complex history = fold (cancel p) complex history

-- the part of a list from the first element that passes a test to the last
abbrev pub first_to_last : {X : Type 0} → (X → Bool) → List X → List X
first_to_last test xs =
    drop (position_or_len test xs) (take (length xs - suffix_len (λ x. not (test x)) xs) xs)

-- the homological degrees of the block at j: those from the first that has a generator at j to the last
abbrev pub homological_degrees : Code → ℤ → List ℤ
homological_degrees code j = first_to_last (λ i. not (is_empty (generators_at code i j))) (from_minus (length code.crossings))

-- the first of some integers, and 0 where there are none
abbrev pub first_or_zero : List ℤ → ℤ
first_or_zero [] = pos 0
first_or_zero (i ∷ is) = i

-- the block at the quantum degree j, as a complex over the field of p elements with all places alive: its degrees go from the
-- first that has a generator there to the last, with a place for each generator (Bar-Natan 2002, section 3)
abbrev pub block : ℕ → Code → ℤ → Complex
block p code j =
    record {
      low = first_or_zero (homological_degrees code j);
      degrees = map (λ i. record { alive = map (λ generator. true) (generators_at code i j); matrix = differential p code i j })
          (homological_degrees code j);
    }
