-- Blocks of the cube with the pivots that were cancelled in them, and copies of them.
use Rattle.std.specs.Prelude.{◌≡◌, ℕ, ◌+◌, ◌/◌, ◌<◌, ◌≤◌, ◌^◌, ℤ, List, length, IsTrue}
use Rattle.kh_types.specs.Acceptance.{accepted}
use Rattle.kh_types.specs.Code.{Code}
use Rattle.kh_types.specs.Complex.{Complex, IsPivot, Pivot}
use Rattle.kh_types.specs.History.{IsLegal, block, replay}
use Rattle.cancel_step.specs.Copies.{Copied, copied}
use Rattle.sparse_block.specs.Complexes.{live_places}

-- a diagram, a quantum degree, and the pivots that were cancelled in its block there, the first at place 0
pub record BlockHistory : Type 0 where
  pub diagram : Code
  pub degree : ℤ
  pub history : List Pivot

-- these three
abbrev pub block_with : Code → ℤ → List Pivot → BlockHistory
block_with code j history = record { diagram = code; degree = j; history = history }

-- the block of the cube at this degree, before any cancellation
abbrev pub opening_of : ℕ → BlockHistory → Complex
opening_of p held = block p held.diagram held.degree

-- the complex that the history leaves of the block
abbrev pub complex_of : ℕ → BlockHistory → Complex
complex_of p held = replay p (block p held.diagram held.degree) held.history

-- the history is legal from the block
abbrev pub HasLegalHistory : ℕ → BlockHistory → Type 0
HasLegalHistory p held = IsLegal p (block p held.diagram held.degree) held.history

-- columns and rows that were copied for a pivot, and the version of the block then
pub record BlockCopy : Type 0 where
  pub version : ℕ
  pub parts : Copied

-- these two
abbrev pub copy_with : ℕ → Copied → BlockCopy
copy_with version parts = record { version = version; parts = parts }

-- a copy is one of the block as it stands: at its version, which is the length of its history, for a pivot of its complex, and
-- with the columns and rows of the pivot's own matrix that its cancellation reads and changes
pub record IsCopyOf (p : ℕ) (held : BlockHistory) (copy : BlockCopy) : Type 0 where
  pub version : copy.version ≡ length held.history
  pub pivot : IsPivot (complex_of p held) copy.parts.pivot
  pub parts : copy.parts ≡ copied (complex_of p held) copy.parts.pivot

-- a copy fits a diagram, a degree and a history: the history is legal and shorter than 2^63, and the copy is one of that block
pub record Fits (p : ℕ) (held : BlockHistory) (copy : BlockCopy) : Type 0 where
  pub legal : HasLegalHistory p held
  pub short : length held.history < 2 ^ 63
  pub copy_is : IsCopyOf p held copy

-- what a block in memory keeps: its diagram is accepted, its history is legal, its complex is what the history leaves, and the
-- history has room for half as many pivots more as places are alive, rounded down, in all for fewer than 2^63
pub record IsKeptBlock (p : ℕ) (held : BlockHistory) (room : ℕ) (complex : Complex) : Type 0 where
  pub accepted : IsTrue (accepted held.diagram)
  pub legal : HasLegalHistory p held
  pub replayed : complex ≡ complex_of p held
  pub spare : length held.history + live_places complex / 2 ≤ room
  pub short : room < 2 ^ 63
