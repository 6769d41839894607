-- Blocks whose columns are being reduced, and the columns that looks find.
use Rattle.std.specs.Prelude.{◌≡◌, ℕ, ◌<◌, ◌^◌, ℤ, length, IsTrue}
use Rattle.kh_types.specs.Acceptance.{accepted}
use Rattle.kh_types.specs.Code.{Code}
use Rattle.kh_types.specs.Complex.{IsPivot, Pivot}
use Rattle.kh_types.specs.History.{block}
use Rattle.cube_signs.specs.OpeningBlocks.{AreBlockPlaces, IsAround}
use Rattle.cube_signs.specs.declared.around.Around.{Around}
use Rattle.cube_signs.specs.declared.block_places.BlockPlaces.{BlockPlaces}
use Rattle.column_reduction.specs.UnderWay.{IsFound, IsReductionOf, pivot_of}
use Rattle.column_reduction.specs.declared.under_way.ColumnReduction.{ColumnReduction}
use Rattle.shared_block.specs.BlockHistories.{BlockHistory, complex_of, opening_of}
use Rattle.shared_block.specs.declared.column_look.ColumnLook.{ColumnLook}

-- the version at which a look was made
abbrev pub version_seen : ColumnLook → ℕ
version_seen look = look.version

-- the pivot of a look
abbrev pub pivot_seen : ColumnLook → Pivot
pivot_seen look = pivot_of look.found

-- a look is one at a block as it stands: at its version, which is the length of its history and less than 2^63, of the next column of
-- which something is left, whose pivot is an entry other than 0 of what the history leaves, with edges of the cube at the block's places
pub record IsLookAt (p : ℕ) (held : BlockHistory) (look : ColumnLook) : Type 0 where
  pub version : version_seen look ≡ length held.history
  pub short : length held.history < 2 ^ 63
  pub pivot : IsPivot (complex_of p held) (pivot_seen look)
  pub found : IsFound p (opening_of p held) held.history look.found
  pub near : IsAround p held.diagram held.degree look.near

-- what a block holds whose columns are being reduced: the places of the block of an accepted code, edges of its cube, and the reduction
pub record IsColumnBlock (p : ℕ) (code : Code) (j : ℤ) (places : BlockPlaces) (near : Around) (reduction : ColumnReduction) : Type 0 where
  pub accepted : IsTrue (accepted code)
  pub are_places : AreBlockPlaces p code j places
  pub near_is : IsAround p code j near
  pub reduction_is : IsReductionOf p (block p code j) reduction
