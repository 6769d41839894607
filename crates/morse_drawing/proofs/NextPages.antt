-- What the steps from page to page keep, and where they end.
use Rattle.std.specs.Prelude.{◌≡◌, ◌≢◌, ℕ, ◌⊎◌, ◌+◌, ◌*◌, ◌<◌, ◌≤◌, [], length, None}
use Rattle.std.specs.List.{count_by}
use Rattle.kh_types.specs.Code.{Code}
use Rattle.kh_types.specs.Darts.{IsPairing, partner_at}
use Rattle.face_walk.specs.AddedArcs.{IsPlanar, open_piece_count}
use Rattle.morse_drawing.specs.Sketches.{IsSketched, no_sketch, sketch_of}
use Rattle.morse_drawing.specs.Joins.{first_slice_fault}
use Rattle.morse_drawing.specs.ReadBack.{is_cross}
use Rattle.morse_drawing.specs.DartRows.{IsDrawing}
use Rattle.morse_drawing.specs.PageRules.{IsLastPage}
use Rattle.morse_drawing.specs.Pages.{Page, blank_page, pages_on}
use Rattle.morse_drawing.specs.Progress.{undrawn_count, IsPage, IsPageOf}

-- how much is left to draw
abbrev pub left_over : ℕ → Page → ℕ
left_over n page = 5 * undrawn_count n page.drawn + length page.row

-- the whole: each dart has a partner, and there are as many faces as on the sphere
pub record IsWholeSphere (n : ℕ) (whole : ℕ → ℕ) : Type 0 where
  pub pairing : IsPairing (4 * n) whole
  pub planar : IsPlanar n whole
  pub full : (x : ℕ) → x < 4 * n → whole x ≢ x

-- a step leads from page to page, and on, or the page is finished
pub record IsNextPage (n : ℕ) (whole : ℕ → ℕ) (page next : Page) : Type 0 where
  pub is_page : IsPage n whole next
  pub goes_on : IsLastPage n page ⊎ (left_over n next < left_over n page)

-- the drawing of a whole is finished, and its part is the whole
pub record IsDrawn (n : ℕ) (whole : ℕ → ℕ) (page : Page) : Type 0 where
  pub finished : IsLastPage n page
  pub part : ℕ → ℕ
  pub drawing : IsDrawing n part whole page.drawn []
  pub same : (x : ℕ) → x < 4 * n → part x ≡ whole x
  pub reading : IsSketched n whole whole page.drawn [] (sketch_of page.slices)
  pub crosses : count_by is_cross page.slices ≡ n
  pub counted : length page.slices ≡ 3 * n + 2 * open_piece_count n whole
  pub faultless : (limit : ℕ) → n ≤ limit → n ≤ 31 → first_slice_fault limit no_sketch 1 page.slices ≡ None

-- the page after some steps from the blank page
pub record IsPageAfter (code : Code) (count : ℕ) (page : Page) : Type 0 where
  pub same : page ≡ pages_on (length code.crossings) (partner_at code.crossings) count blank_page
  pub is_page : IsPageOf code page
