-- Faces, strips and marks of a component, as lists of components.
use Rattle.std.specs.Prelude.{ℕ, ◌+◌, ◌-◌, ◌*◌, ◌/◌, List, ◌++◌, map, nat_eq, if◌then◌else◌}
use Rattle.std.specs.List.{count_by, enumerate_from, sum_by}
use Rattle.kh_types.specs.Bits.{bit}
use Rattle.surface_laws.specs.Surfaces.{Surface}
use Rattle.surface_laws.specs.Sheets.{marked, marked_else}
use Rattle.tangle_maps.specs.Seams.{dots_on}

-- what a surface is glued of, at its places or on its components: the discs after a crossing and before it, the circles that are closed on
-- either side, and the half strips that lower and raise the Euler count
pub record Places : Type 0 where
  pub rims : List ℕ
  pub discs : List ℕ
  pub closed : List ℕ
  pub others : List ℕ
  pub lowers : List ℕ
  pub raises : List ℕ

-- the components of places
abbrev pub on : (ℕ → ℕ) → Places → Places
on component at = record {
  rims = map component at.rims;
  discs = map component at.discs;
  closed = map component at.closed;
  others = map component at.others;
  lowers = map component at.lowers;
  raises = map component at.raises;
}

-- a surface with discs after and before, and circles that are closed on either side
abbrev pub surface_of : ℕ → List ℕ → List (ℕ × ℕ) → List ℕ → List ℕ → List ℕ → List ℕ → List ℕ → List ℕ → ℕ → ℕ → ℕ → ℕ → Surface
surface_of size places joins rims discs closed others lowers raises kept dots label other = record {
  size = size;
  places = places;
  joins = joins;
  faces = marked_else kept rims ++ (marked dots discs ++ (marked label closed ++ marked_else other others));
  lowers = lowers;
  raises = raises;
}

abbrev pub among : ℕ → List ℕ → ℕ
among component places = count_by (λ x. nat_eq x component) places

-- the genus of a component, where these are the components of the discs, the closed circles and the half strips
abbrev pub genus_among : ℕ → List ℕ → List ℕ → List ℕ → List ℕ → List ℕ → List ℕ → ℕ
genus_among component rims discs closed others lowers raises =
    (among component lowers + 4
    - (2 * (among component rims + (among component discs + (among component closed + among component others)))
    + among component raises))
    / 4

-- how many discs of a component have no dot, where these are the discs' components
abbrev pub blanks_on : ℕ → ℕ → List ℕ → ℕ
blanks_on component dots places =
    sum_by (λ at. if nat_eq at.1 component then 1 - bit dots at.0 else 0) (enumerate_from 0 places)

-- the marks on a component
abbrev pub marks_by : ℕ → List ℕ → List ℕ → List ℕ → List ℕ → ℕ → ℕ → ℕ → ℕ → ℕ
marks_by component rims discs closed others kept dots label other =
    blanks_on component kept rims
    + (dots_on component dots discs + (dots_on component label closed + blanks_on component other others))

-- the surface at its places, and the genus of a component, from the components of its places
abbrev pub surface_at : ℕ → List ℕ → List (ℕ × ℕ) → Places → ℕ → ℕ → ℕ → ℕ → Surface
surface_at size places joins at kept dots label other =
    surface_of size places joins at.rims at.discs at.closed at.others at.lowers at.raises kept dots label other

abbrev pub genus_at : Places → ℕ → ℕ
genus_at at component = genus_among component at.rims at.discs at.closed at.others at.lowers at.raises

-- the marks on a component that are not on discs after the crossing, and with its genus its load
abbrev pub rest_at : Places → ℕ → ℕ → ℕ → ℕ → ℕ
rest_at at dots label other component =
    dots_on component dots at.discs + (dots_on component label at.closed + blanks_on component other at.others)

abbrev pub load_at : Places → ℕ → ℕ → ℕ → ℕ → ℕ
load_at at dots label other component = rest_at at dots label other component + genus_at at component
