-- The drawing of a code: slices made from the top of the page to the bottom, by three rules. Strands stand in a row, from left to right,
-- and a strand of a drawing under way is named by the dart that it ends at. Crossings and darts are given by their places.
use Rattle.std.specs.Prelude.{ℕ, zero, suc, ◌+◌, ◌-◌, ◌*◌, ◌/◌, ◌%◌, List, [], ◌∷◌, ◌++◌, length, get_or, take, drop, nat_eq, Bool, not, Option, Some, None}
use Rattle.std.specs.List.{find, list_any, range_with_len}
use Rattle.kh_types.specs.Code.{Code}
use Rattle.kh_types.specs.Darts.{partner_at}
use Rattle.morse_drawing.specs.DartRows.{other_three}
use Rattle.morse_drawing.specs.declared.slice.Slice.{Slice}
use Rattle.morse_drawing.specs.declared.slice.Slice.TheVariants.{Cap, Cup, Cross}

-- a drawing under way: the crossings that are drawn, the last one first, the row of darts whose arcs are still open, and the slices
pub record Page : Type 0 where
  pub drawn : List ℕ
  pub row : List ℕ
  pub slices : List Slice

-- a number stands in a list
abbrev pub is_in : List ℕ → ℕ → Bool
is_in xs x = list_any (nat_eq x) xs

-- the least of n crossings that is not drawn
abbrev pub undrawn : ℕ → List ℕ → Option ℕ
undrawn n drawn = find (λ c. not (is_in drawn c)) (range_with_len 0 n)

-- the strand at a place leads on: its dart's partner is at a crossing that is not drawn
abbrev pub leads_on : (ℕ → ℕ) → List ℕ → List ℕ → ℕ → Bool
leads_on partner drawn row place = not (is_in drawn (partner (get_or row place 0) / 4))

-- the place of the leftmost strand that leads on
abbrev pub leading : (ℕ → ℕ) → List ℕ → List ℕ → Option ℕ
leading partner drawn row = find (leads_on partner drawn row) (range_with_len 0 (length row))

-- the strand at a place and the next one are partners
abbrev pub are_paired : (ℕ → ℕ) → List ℕ → ℕ → Bool
are_paired partner row place = nat_eq (partner (get_or row place 0)) (get_or row (place + 1) 0)

-- the leftmost place of two neighbours that are partners
abbrev pub paired : (ℕ → ℕ) → List ℕ → Option ℕ
paired partner row = find (are_paired partner row) (range_with_len 0 (length row - 1))

-- where the row is empty, the least crossing that is not drawn begins anew, with its slot 0 at the upper left
abbrev pub begun : Page → ℕ → Page
begun page crossing = record {
  drawn = crossing ∷ page.drawn;
  row = 4 * crossing ∷ other_three (4 * crossing);
  slices = page.slices ++ Cap 1 ∷ Cap 3 ∷ Cross 2 (crossing + 1) 0 ∷ [];
}

-- the strand at a place meets a dart, whose slot is at the upper left; the other three darts of its crossing take the strand's place
abbrev pub crossed_by : Page → ℕ → ℕ → Page
crossed_by page place dart = record {
  drawn = dart / 4 ∷ page.drawn;
  row = take place page.row ++ other_three dart ++ drop (place + 1) page.row;
  slices = page.slices ++ Cap (place + 2) ∷ Cross (place + 1) (dart / 4 + 1) (dart % 4) ∷ [];
}

-- the strand at a place meets its partner
abbrev pub crossed : (ℕ → ℕ) → Page → ℕ → Page
crossed partner page place = crossed_by page place (partner (get_or page.row place 0))

-- two neighbours end
abbrev pub closed : Page → ℕ → Page
closed page place = record {
  drawn = page.drawn;
  row = take place page.row ++ drop (place + 2) page.row;
  slices = page.slices ++ Cup (place + 1) ∷ [];
}

-- two neighbours that are partners end
abbrev pub by_pair : Page → Option ℕ → Page
by_pair page None = page
by_pair page (Some place) = closed page place

-- the leftmost strand that leads on meets its crossing; where none does, two neighbours end
abbrev pub by_row : (ℕ → ℕ) → Page → Option ℕ → Page
by_row partner page None = by_pair page (paired partner page.row)
by_row partner page (Some place) = crossed partner page place

-- a crossing that is not drawn begins
abbrev pub by_crossing : Page → Option ℕ → Page
by_crossing page None = page
by_crossing page (Some crossing) = begun page crossing

-- the page after the first rule that applies; a finished page stays as it is
abbrev pub next_page_by : ℕ → (ℕ → ℕ) → Page → List ℕ → Page
next_page_by n partner page [] = by_crossing page (undrawn n page.drawn)
next_page_by n partner page (dart ∷ darts) = by_row partner page (leading partner page.drawn page.row)

-- the page behind the next slices
abbrev pub next_page : ℕ → (ℕ → ℕ) → Page → Page
next_page n partner page = next_page_by n partner page page.row

-- the page after some steps
abbrev pub pages_on : ℕ → (ℕ → ℕ) → ℕ → Page → Page
pages_on n partner zero page = page
pages_on n partner (suc count) page = pages_on n partner count (next_page n partner page)

-- nothing is drawn
abbrev pub blank_page : Page
blank_page = record { drawn = []; row = []; slices = [] }

-- the page at the end: a step draws a crossing, which adds up to four strands, or takes two strands away, so 5n steps are enough
abbrev pub page_of : ℕ → (ℕ → ℕ) → Page
page_of n partner = pages_on n partner (5 * n) blank_page

-- each loop is a cap and a cup
abbrev pub loop_slices : ℕ → List Slice
loop_slices zero = []
loop_slices (suc loops) = Cap 1 ∷ Cup 1 ∷ loop_slices loops

-- the slices of n crossings whose darts have these partners, and then of some loops
abbrev pub slices_with : ℕ → (ℕ → ℕ) → ℕ → List Slice
slices_with n partner loops = (page_of n partner).slices ++ loop_slices loops

-- the slices of a code
abbrev pub slices_of : Code → List Slice
slices_of code = slices_with (length code.crossings) (partner_at code.crossings) code.loops
