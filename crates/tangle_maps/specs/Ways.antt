-- Ways from a pairing over a second one to a third: two maps that follow one another, and what these compose to.
use Rattle.std.specs.Prelude.{◌≡◌, ℕ, ◌+◌, ◌*◌, ◌^◌, ◌<◌, List, length, Some}
use Rattle.kh_types.specs.Rank.{inverse}
use Rattle.kh_types.specs.Residues.{Same}
use Rattle.surface_laws.specs.Points.{Points, discs}
use Rattle.dotted_maps.specs.declared.term.Term.{Term}
use Rattle.dotted_maps.specs.Choices.{listed}
use Rattle.dotted_maps.specs.Maps.{AreDotted, IsComposition, coefficient_in, composed_in}
use Rattle.tangle_maps.specs.Pairings.{joins_of, opened_points, paired_arcs}
use Rattle.tangle_maps.specs.Sums.{AreReduced, number_in}
use Rattle.tangle_maps.specs.declared.way.Way.{Way}

-- the opened arcs of a way, as points
abbrev pub points_on : Way → Points
points_on way = opened_points way.opened.now

-- the pairs of its three pairings
abbrev pub joins_from : Way → List (ℕ × ℕ)
joins_from way = joins_of way.from.now.partners way.opened.now

abbrev pub joins_over : Way → List (ℕ × ℕ)
joins_over way = joins_of way.over.now.partners way.opened.now

abbrev pub joins_to : Way → List (ℕ × ℕ)
joins_to way = joins_of way.to.now.partners way.opened.now

-- the opened arcs of a way are those that each of its three pairings pairs
pub record IsWay (way : Way) : Type 0 where
  pub source : way.opened.now ≡ paired_arcs way.from.now.partners
  pub middle : way.opened.now ≡ paired_arcs way.over.now.partners
  pub target : way.opened.now ≡ paired_arcs way.to.now.partners

-- both maps of a way are reduced modulo p
pub record HasReducedMaps (p : ℕ) (way : Way) : Type 0 where
  pub front : AreReduced p way.first.now
  pub back : AreReduced p way.second.now

-- the composition of the maps of a way, as a list
abbrev pub listed_along : Way → List Term
listed_along way = listed (points_on way) (joins_from way) (joins_over way) (joins_to way) way.first.now way.second.now

-- a sum of terms is the composition of the maps of a way, modulo p
abbrev pub IsComposedAlong : ℕ → Way → List Term → Type 0
IsComposedAlong p way terms =
    IsComposition p 0 0 (points_on way) (joins_from way) (joins_over way) (joins_to way) way.first.now way.second.now terms

-- the coefficient of a dot set in that composition
abbrev pub composed_along : Way → ℕ → ℕ
composed_along way kept =
    composed_in 0 0 (points_on way) (joins_from way) (joins_over way) (joins_to way) way.first.now way.second.now kept

-- the dots of each term are dots of discs of the first pairing and the third
abbrev pub AreDottedAlong : Way → List Term → Type 0
AreDottedAlong way terms = AreDotted (points_on way) (joins_from way) (joins_to way) terms

-- the map new is old less the way through a pivot: modulo p its coefficients, and the pivot's inverse times those of the composition, are
-- together those of old
pub record IsCancelledAlong (p pivot : ℕ) (way : Way) (old new : List Term) : Type 0 where
  pub coefficients : (kept : ℕ) → kept < 2 ^ length (discs (points_on way) (joins_from way) (joins_to way))
      → Same p (coefficient_in new kept + inverse p pivot * composed_along way kept) (coefficient_in old kept)
  pub dots : AreDottedAlong way old → AreDottedAlong way new

-- the first map of a way is a number times the identity, and the dots of the second are dots of discs
pub record IsMultiple (number : ℕ) (way : Way) : Type 0 where
  pub same : way.from.now.partners ≡ way.over.now.partners
  pub told : number_in way.first.now ≡ Some number
  pub dots : AreDotted (points_on way) (joins_over way) (joins_to way) way.second.now
