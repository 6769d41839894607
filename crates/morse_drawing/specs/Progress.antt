-- What the pages of a drawing keep.
use Rattle.std.specs.Prelude.{◌≡◌, ℕ, ◌+◌, ◌*◌, ◌≤◌, List, length, not, IsTrue, None}
use Rattle.std.specs.List.{count_by, range_with_len}
use Rattle.kh_types.specs.Acceptance.{accepted}
use Rattle.kh_types.specs.Code.{Code}
use Rattle.kh_types.specs.Darts.{partner_at}
use Rattle.kh_types.specs.declared.limits.TheConstants.{CROSSINGS}
use Rattle.face_walk.specs.AddedArcs.{open_piece_count}
use Rattle.morse_drawing.specs.Sketches.{IsSketched, no_sketch, sketch_of}
use Rattle.morse_drawing.specs.Joins.{first_slice_fault}
use Rattle.morse_drawing.specs.ReadBack.{is_cross}
use Rattle.morse_drawing.specs.DartRows.{IsDrawing}
use Rattle.morse_drawing.specs.Pages.{Page, is_in}

-- how many crossings are not drawn
abbrev pub undrawn_count : ℕ → List ℕ → ℕ
undrawn_count n drawn = count_by (λ c. not (is_in drawn c)) (range_with_len 0 n)

-- a page of a whole: a drawing under way with some part of the arcs
pub record IsPage (n : ℕ) (whole : ℕ → ℕ) (page : Page) : Type 0 where
  pub part : ℕ → ℕ
  pub drawing : IsDrawing n part whole page.drawn page.row
  pub reading : IsSketched n part whole page.drawn page.row (sketch_of page.slices)
  pub counted : 2 * length page.slices + length page.row + 10 * undrawn_count n page.drawn ≡ 6 * n + 4 * open_piece_count n part
  pub crosses : count_by is_cross page.slices + undrawn_count n page.drawn ≡ n
  pub sizes : length page.drawn + undrawn_count n page.drawn ≡ n
  pub few : length page.row + 2 * undrawn_count n page.drawn ≤ 2 * n + 2
  pub faultless : (limit : ℕ) → n ≤ limit → n ≤ 31 → first_slice_fault limit no_sketch 1 page.slices ≡ None

-- a page of an accepted code within the limits
pub record IsPageOf (code : Code) (page : Page) : Type 0 where
  pub is_accepted : IsTrue (accepted code)
  pub within : length code.crossings ≤ CROSSINGS
  pub is_page : IsPage (length code.crossings) (partner_at code.crossings) page
