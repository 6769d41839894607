-- The entries of terms by numbers, and the coefficients of the terms after one crossing more.
use Rattle.std.specs.Prelude.{map, ℕ, ◌+◌, ◌<◌, List, ◌++◌, length}
use Rattle.kh_types.specs.Code.{Code}
use Rattle.kh_types.specs.Darts.{HasArcsTwice}
use Rattle.surface_laws.specs.Surfaces.{Surface, IsClosed, value}
use Rattle.surface_laws.specs.Points.{AreAmong, discs, circles}
use Rattle.surface_laws.specs.Sheets.{sheet, marked, marked_else}
use Rattle.genus_laws.specs.CutCodes.{outer_smoothings}
use Rattle.added_crossing_laws.specs.Steps.{near}
use Rattle.added_crossing_laws.specs.Codes.{points_at, step_at, smoothing_at, circles_behind, closed_at, discs_behind, disc_of, saddle_strips}
use Rattle.added_crossing_laws.specs.Labels.{label_at, number_of}

-- the surface of a set of dotted discs from labels of the circles of m to labels of those of n, at a state after the first k crossings.
-- Dots and labels are numbers, by their bits: a dotted disc and a circle of m with v- (1) have a dot, a circle of n with v+ (0) has a hollow
-- dot
abbrev pub entry_sheet : Code → ℕ → ℕ → List (ℕ × ℕ) → List (ℕ × ℕ) → ℕ → ℕ → ℕ → Surface
entry_sheet code k state m n dots label other =
    let points = points_at code k in
    let w = outer_smoothings code.crossings state k in
    sheet points m n w (marked dots (discs points m n) ++ (marked label (circles points m w) ++ marked_else other (circles points n w)))

-- and the number of this surface: the entry of the dotted discs from the one generator to the other
abbrev pub entry_at : ℕ → ℕ → Code → ℕ → ℕ → List (ℕ × ℕ) → List (ℕ × ℕ) → ℕ → ℕ → ℕ → ℕ
entry_at h minus code k state m n dots label other = value h minus (entry_sheet code k state m n dots label other)

-- what the crossing adds, from labels of the circles that it closes on one side to labels of those on the other: some faces, and the
-- discs of the new pairings, with hollow dots where no dots are kept
abbrev pub coefficient_sheet : Code → ℕ → ℕ → ℕ → List (ℕ × ℕ) → List (ℕ × ℕ) → List (ℕ × ℕ) → List ℕ → ℕ → ℕ → ℕ → Surface
coefficient_sheet code k first second m n faces lowers closed other_closed kept = record {
  size = (points_at code k).size;
  places = near (step_at code k);
  joins = (m ++ smoothing_at code k first) ++ (n ++ smoothing_at code k second);
  faces = marked_else kept (discs_behind code k first second m n)
      ++ (faces ++ (marked closed (closed_at code k first m) ++ marked_else other_closed (closed_at code k second n)));
  lowers = lowers;
  raises = (points_at code (k + 1)).opened;
}

-- the coefficient of a dot set in the term after the crossing, where it has one smoothing
abbrev pub added_surface : Code → ℕ → ℕ → List (ℕ × ℕ) → List (ℕ × ℕ) → ℕ → ℕ → ℕ → ℕ → Surface
added_surface code k smoothing m n dots closed other_closed kept =
    coefficient_sheet code k smoothing smoothing m n (marked dots (discs (points_at code k) m n)) (points_at code k).opened closed
    other_closed kept

-- and in the saddle, from the 0-smoothing of the crossing to its 1-smoothing
abbrev pub saddle_surface : Code → ℕ → List (ℕ × ℕ) → ℕ → ℕ → ℕ → Surface
saddle_surface code k m closed other_closed kept =
    coefficient_sheet code k 0 1 m m (map disc_of m) (saddle_strips code k) closed other_closed kept

-- labels of the circles of a pairing, a smoothing of the crossing and what a state joins after it, from a number to a function of arcs
abbrev pub label_before : Code → ℕ → ℕ → ℕ → List (ℕ × ℕ) → ℕ → ℕ → ℕ
label_before code k smoothing state m number =
    label_at (points_at code k).size (points_at code k).alive
    ((m ++ smoothing_at code k smoothing) ++ outer_smoothings code.crossings state (k + 1)) number

-- the labels that it gives to the circles that the crossing closes, as a number
abbrev pub closed_label : Code → ℕ → ℕ → ℕ → List (ℕ × ℕ) → ℕ → ℕ
closed_label code k smoothing state m number = number_of (label_before code k smoothing state m number) (closed_at code k smoothing m)

-- and those that it gives to the circles after the crossing
abbrev pub label_behind : Code → ℕ → ℕ → ℕ → List (ℕ × ℕ) → ℕ → ℕ
label_behind code k smoothing state m number =
    number_of (label_before code k smoothing state m number) (circles_behind code k smoothing state m)

-- two pairings of the open arcs where another crossing comes
pub record ArePairedAt (code : Code) (k : ℕ) (m n : List (ℕ × ℕ)) : Type 0 where
  pub twice : HasArcsTwice code.crossings
  pub crossing : k < length code.crossings
  pub first : AreAmong (points_at code k).opened m
  pub second : AreAmong (points_at code k).opened n

-- both parts of a sum are closed: the surface outside, and what the crossing adds
pub record AreEntriesClosed (far close : Surface) : Type 0 where
  pub far_closed : IsClosed far
  pub close_closed : IsClosed close
