-- The blocks of the cube before any cancellation, as they are held while their columns are made: by their names.
use Rattle.std.specs.Prelude.{◌≡◌, ℕ, ◌+◌, ◌*◌, ◌<◌, ℤ, pos, neg_ℤ, List, length, map, Bool, All}
use Rattle.kh_types.specs.Code.{Code}
use Rattle.kh_types.specs.Generators.{Generator, generators_at, states}
use Rattle.kh_types.specs.History.{first_or_zero, homological_degrees}
use Rattle.sparse_block.specs.Inside.{lists_in}
use Rattle.sparse_block.specs.Opening.{IsOpening}
use Rattle.cube_signs.specs.declared.around.Around.{Around}
use Rattle.cube_signs.specs.declared.block_places.BlockPlaces.{BlockPlaces}
use Rattle.cube_signs.specs.declared.limits.TheConstants.{PLACES}
use Rattle.cube_signs.specs.Blocks.{named_block}
use Rattle.cube_signs.specs.Chosen.{chosen_block, IsClosed}
use Rattle.cube_signs.specs.ChosenParts.{all_places_to, chosen_to}
use Rattle.cube_signs.specs.Columns.{AreFound}
use Rattle.cube_signs.specs.Tables.{own_base}

-- what is held of the block at j: its least degree, its names, and the places of the first generators of states
pub record AreBlockPlaces (p : ℕ) (code : Code) (j : ℤ) (places : BlockPlaces) : Type 0 where
  pub opening : IsOpening p (named_block p code j)
  pub is_degree : places.least.j ≡ j
  pub is_low : places.least.i ≡ first_or_zero (homological_degrees code j)
  pub are_names : lists_in places.names.items ≡ map (λ i. generators_at code i j) (homological_degrees code j)
  pub are_bases : places.bases.items ≡ map (own_base code j) (states code)
  pub small : All (λ base. base < PLACES) places.bases.items

-- the edges that were found last are those out of their state, at the places of the block at j
abbrev pub IsAround : ℕ → Code → ℤ → Around → Type 0
IsAround p code j around = AreFound p code (map (own_base code j) (states code)) around.state around.outs.items

-- these places, with edges that were found for last entries (`around`) and for whole columns (`beside`)
pub record IsOpeningBlock (p : ℕ) (code : Code) (places : BlockPlaces) (around beside : Around) : Type 0 where
  pub places_are : AreBlockPlaces p code places.least.j places
  pub around_is : AreFound p code places.bases.items around.state around.outs.items
  pub beside_is : AreFound p code places.bases.items beside.state beside.outs.items

-- the same by places that are borrowed, with other edges that were found before
pub record IsBorrowedBlock (p : ℕ) (code : Code) (places : BlockPlaces) (near around beside : Around) : Type 0 where
  pub block_is : IsOpeningBlock p code places around beside
  pub near_is : AreFound p code places.bases.items near.state near.outs.items

-- the same of the block at j over chosen generators; and how many generators before each are chosen
pub record IsChosenBlock (p : ℕ) (choice : Generator → Bool) (code : Code) (low j : ℤ) (names : List (List Generator))
    (before : List (List ℕ)) (bases : List ℕ) (around beside : Around) : Type 0 where
  pub opening : IsOpening p (chosen_block choice p code j)
  pub closed : IsClosed choice p code
  pub is_low : low ≡ neg_ℤ (pos (length code.crossings))
  pub are_names : names ≡ chosen_to choice code j (2 * length code.crossings + 1)
  pub are_places : before ≡ all_places_to choice code j (2 * length code.crossings + 1)
  pub are_bases : bases ≡ map (own_base code j) (states code)
  pub small : All (λ base. base < PLACES) bases
  pub around_is : AreFound p code bases around.state around.outs.items
  pub beside_is : AreFound p code bases beside.state beside.outs.items
