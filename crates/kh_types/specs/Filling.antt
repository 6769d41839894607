-- Crossings that stand first in an array, the rest of which is blank.
use Rattle.std.specs.Prelude.{◌≡◌, ℕ, ◌-◌, ◌≤◌, List, [], ◌∷◌, ◌++◌, length, take, drop, replicate}
use Rattle.std.proofs.Common.{sym, ◌∙◌, ap, arith}
use Rattle.std.proofs.lemmas.List.{take-append-drop, length-take-le}
use Rattle.kh_types.specs.declared.limits.TheConstants.{CROSSINGS}

-- what stands in the array behind the last crossing
abbrev pub blank : List ℕ
blank = 0 ∷ 0 ∷ 0 ∷ 0 ∷ []

-- the array of some crossings: they stand first, and the rest is blank
abbrev pub filled : List (List ℕ) → List (List ℕ)
filled crossings = crossings ++ replicate (CROSSINGS - length crossings) blank

-- an array has as many places as a diagram may have crossings, and they are blank from the place `count` on
pub record IsFilled (table : List (List ℕ)) (count : ℕ) : Type 0 where
  pub size : length table ≡ CROSSINGS
  pub fits : count ≤ CROSSINGS
  pub rest : drop count table ≡ replicate (CROSSINGS - count) blank

-- such an array begins with `count` crossings
pub length-take_filled : (table : List (List ℕ)) (count : ℕ) → IsFilled table count → length (take count table) ≡ count
length-take_filled table count h = length-take-le count table (omega (arith, h.size, h.fits))

-- such an array is the array of the crossings that it begins with
pub filled-take : (table : List (List ℕ)) (count : ℕ) → IsFilled table count → filled (take count table) ≡ table
filled-take table count h =
    ap (λ n. take count table ++ replicate (CROSSINGS - n) blank) (length-take_filled table count h)
    ∙ ap (λ rest. take count table ++ rest) (sym h.rest)
    ∙ take-append-drop count table
