-- What the terms of a map become after a crossing, as lists: a term for each dot set.
use Rattle.std.specs.Prelude.{ℕ, ◌*◌, ◌^◌, ◌<◌, List, length, map}
use Rattle.std.specs.List.{flat_map, range_with_len, sum_by}
use Rattle.kh_types.specs.Code.{Code}
use Rattle.kh_types.specs.Residues.{Same}
use Rattle.surface_laws.specs.Surfaces.{value}
use Rattle.dotted_maps.specs.declared.term.Term.{Term}
use Rattle.dotted_maps.specs.Maps.{coefficient_in}
use Rattle.added_crossing_laws.specs.Codes.{discs_behind}
use Rattle.added_crossing_laws.specs.Entries.{added_surface, saddle_surface}
use Rattle.tangle_maps.specs.Sums.{HaveDotsBelow, dotted_term}

-- a term for each dot set below a count, with its coefficient
abbrev pub all_terms : ℕ → (ℕ → ℕ) → List Term
all_terms count coefficient = map (λ kept. dotted_term kept (coefficient kept)) (range_with_len 0 count)

-- how many dot sets there are after a crossing, which has a smoothing on either side
abbrev pub sets_behind : Code → ℕ → ℕ → ℕ → List (ℕ × ℕ) → List (ℕ × ℕ) → ℕ
sets_behind code k first second m n = 2 ^ length (discs_behind code k first second m n)

-- what a term from m to n becomes, from labels of the circles that are closed on one side to labels of those on the other
abbrev pub new_terms : Code → ℕ → ℕ → List (ℕ × ℕ) → List (ℕ × ℕ) → ℕ → ℕ → Term → List Term
new_terms code k smoothing m n label other term =
    all_terms (sets_behind code k smoothing smoothing m n)
    (λ kept. term.coefficient * value 0 0 (added_surface code k smoothing m n term.dots label other kept))

-- what a map becomes
abbrev pub new_map : Code → ℕ → ℕ → List (ℕ × ℕ) → List (ℕ × ℕ) → ℕ → ℕ → List Term → List Term
new_map code k smoothing m n label other terms = flat_map (new_terms code k smoothing m n label other) terms

-- the saddle of a pairing
abbrev pub saddle_map : Code → ℕ → List (ℕ × ℕ) → ℕ → ℕ → List Term
saddle_map code k m label other =
    all_terms (sets_behind code k 0 1 m m) (λ kept. value 0 0 (saddle_surface code k m label other kept))

-- the arc at which a pair's disc is
abbrev pub first_end : ℕ × ℕ → ℕ
first_end pair = pair.0

-- terms are what a map becomes after a crossing that has one smoothing on either side, modulo p: their dots are dots of the new discs, and
-- the coefficient of a dot set is that of each old term, times the number of the surface that the crossing adds to it
pub record AreAddedTerms (p : ℕ) (code : Code) (k smoothing : ℕ) (m n : List (ℕ × ℕ)) (label other : ℕ) (old new : List Term) : Type 0 where
  pub dots : HaveDotsBelow (sets_behind code k smoothing smoothing m n) new
  pub coefficients : (kept : ℕ) → kept < sets_behind code k smoothing smoothing m n
      → Same p (coefficient_in new kept)
      (sum_by (λ term. term.coefficient * value 0 0 (added_surface code k smoothing m n term.dots label other kept)) old)

-- terms are a multiple of the saddle of a pairing, modulo p: the coefficient of a dot set is that of the number of the saddle's surface
pub record AreSaddleTerms (p factor : ℕ) (code : Code) (k : ℕ) (m : List (ℕ × ℕ)) (label other : ℕ) (new : List Term) : Type 0 where
  pub dots : HaveDotsBelow (sets_behind code k 0 1 m m) new
  pub coefficients : (kept : ℕ) → kept < sets_behind code k 0 1 m m
      → Same p (coefficient_in new kept) (factor * value 0 0 (saddle_surface code k m label other kept))
