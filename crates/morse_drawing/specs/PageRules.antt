-- The rules by which a page of a drawing follows the one before it, and all pages of a drawing in order.
use Rattle.std.specs.Prelude.{◌≡◌, ◌⊎◌, ℕ, ◌+◌, ◌/◌, ◌<◌, List, [], ◌∷◌, length, get_or}
use Rattle.kh_types.specs.Code.{Code}
use Rattle.kh_types.specs.Darts.{partner_at}
use Rattle.morse_drawing.specs.DartRows.{IsIn}
use Rattle.morse_drawing.specs.Pages.{Page, begun, blank_page, closed, crossed}

-- the least of n crossings that is not drawn
pub record IsLeastUndrawn (n : ℕ) (page : Page) (crossing : ℕ) : Type 0 where
  pub below : crossing < n
  pub not_drawn : ¬ IsIn crossing page.drawn
  pub least : (other : ℕ) → other < crossing → IsIn other page.drawn

-- the strand at a place of the row leads on: its dart's partner is at a crossing that is not drawn
abbrev pub LeadsOn : (ℕ → ℕ) → Page → ℕ → Type 0
LeadsOn partner page place = ¬ IsIn (partner (get_or page.row place 0) / 4) page.drawn

-- the leftmost strand that leads on is at a place
pub record IsLeftmostLeading (partner : ℕ → ℕ) (page : Page) (place : ℕ) : Type 0 where
  pub within : place < length page.row
  pub leads : LeadsOn partner page place
  pub leftmost : (left : ℕ) → left < place → ¬ LeadsOn partner page left

-- the strands at a place and at the next are partners
abbrev pub ArePartners : (ℕ → ℕ) → Page → ℕ → Type 0
ArePartners partner page place = partner (get_or page.row place 0) ≡ get_or page.row (place + 1) 0

-- the leftmost two neighbours that are partners begin at a place
pub record IsLeftmostPair (partner : ℕ → ℕ) (page : Page) (place : ℕ) : Type 0 where
  pub within : place + 1 < length page.row
  pub partners : ArePartners partner page place
  pub leftmost : (left : ℕ) → left < place → ¬ ArePartners partner page left

-- the first rule: where the row is empty, the least crossing that is not drawn begins
pub record BeginsCrossing (n : ℕ) (page next : Page) : Type 0 where
  pub crossing : ℕ
  pub row : page.row ≡ []
  pub least : IsLeastUndrawn n page crossing
  pub made : next ≡ begun page crossing

-- the second: the leftmost strand that leads on meets its crossing
pub record MeetsCrossing (partner : ℕ → ℕ) (page next : Page) : Type 0 where
  pub place : ℕ
  pub leading : IsLeftmostLeading partner page place
  pub made : next ≡ crossed partner page place

-- the third: where no strand leads on, the leftmost two neighbours that are partners end
pub record EndsPair (partner : ℕ → ℕ) (page next : Page) : Type 0 where
  pub place : ℕ
  pub none_leads : (other : ℕ) → other < length page.row → ¬ LeadsOn partner page other
  pub pair : IsLeftmostPair partner page place
  pub made : next ≡ closed page place

-- a page follows a page by one of the three
abbrev pub Follows : ℕ → (ℕ → ℕ) → Page → Page → Type 0
Follows n partner page next = BeginsCrossing n page next ⊎ (MeetsCrossing partner page next ⊎ EndsPair partner page next)

-- a page is the last: its row is empty, and all crossings are drawn
pub record IsLastPage (n : ℕ) (page : Page) : Type 0 where
  pub row : page.row ≡ []
  pub all : (c : ℕ) → c < n → IsIn c page.drawn

-- all pages behind a page, in order: each follows the one before it, and the last one is the last page
abbrev pub ArePagesBehind : ℕ → (ℕ → ℕ) → Page → List Page → Type 0
ArePagesBehind n partner page [] = IsLastPage n page
ArePagesBehind n partner page (next ∷ later) = Follows n partner page next × ArePagesBehind n partner next later

-- all pages of the drawing of a code, behind the blank one
abbrev pub ArePages : Code → List Page → Type 0
ArePages code pages = ArePagesBehind (length code.crossings) (partner_at code.crossings) blank_page pages

-- the last of a page and those behind it
abbrev pub last_page : Page → List Page → Page
last_page page [] = page
last_page page (next ∷ later) = last_page next later
