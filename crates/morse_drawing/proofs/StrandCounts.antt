-- Between any two slices of a drawing there are few strands.
use Rattle.std.proofs.Common.{◌≡◌, ◌∙◌, ℕ, zero, suc, ◌+◌, ◌-◌, ◌*◌, ◌/◌, ◌%◌, ◌<◌, ◌≤◌, List, [], ◌∷◌, ◌++◌, length, get_or, take, drop, refl, sym, ap, subst, arith}
use Rattle.std.specs.Prelude.{not, Option}
use Rattle.std.specs.List.{fold}
use Rattle.std.proofs.lemmas.List.Sums.{fold-append}
use Rattle.morse_drawing.specs.DartRows.{other_three}
use Rattle.morse_drawing.specs.Pages.{Page, are_paired, begun, blank_page, by_crossing, by_pair, by_row, closed, crossed_by, is_in, leads_on, loop_slices, next_page, next_page_by, page_of, pages_on, paired, slices_with}
use Rattle.morse_drawing.specs.Progress.{IsPage}
use Rattle.morse_drawing.proofs.NextPages.{IsWholeSphere}
use Rattle.morse_drawing.specs.Texts.{strands_after, strands_behind}
use Rattle.morse_drawing.specs.declared.slice.Slice.{Slice}
use Rattle.morse_drawing.specs.declared.slice.Slice.TheVariants.{Cap, Cross, Cup}
use Rattle.morse_drawing.proofs.PageEnds.{IsDrawn-page_of, IsPage-blank_page}
use Rattle.morse_drawing.proofs.PageLemmas.{length-closed, length-crossed, undrawn-fewer}
use Rattle.kh_types.proofs.Searches.Search.{missing, some}
use Rattle.morse_drawing.proofs.PageSteps.{IsNextPage-next_page}
use Rattle.morse_drawing.proofs.StepLemmas.{row-below}
use Rattle.kh_types.proofs.Searches.{Search-is}

-- before, between and behind slices there are so many strands at most, below a row of some strands
abbrev AreFew : ℕ → ℕ → List Slice → Type 0
AreFew most strands [] = strands ≤ most
AreFew most strands (slice ∷ slices) = (strands ≤ most) × AreFew most (strands_after strands slice) slices

AreFew-append : (most strands : ℕ) (xs ys : List Slice) → AreFew most strands xs → AreFew most (fold strands_after strands xs) ys
    → AreFew most strands (xs ++ ys)
AreFew-append most strands [] ys few more = more
AreFew-append most strands (x ∷ xs) ys few more = (few.0, AreFew-append most (strands_after strands x) xs ys few.1 more)

few-take : (most strands place : ℕ) (xs : List Slice) → AreFew most strands xs → fold strands_after strands (take place xs) ≤ most
few-take most strands zero [] few = few
few-take most strands zero (x ∷ xs) few = few.0
few-take most strands (suc place) [] few = few
few-take most strands (suc place) (x ∷ xs) few = few-take most (strands_after strands x) place xs few.1

-- behind a page's slices there are the strands of its row, and between them there are few
record IsCounted (n : ℕ) (page : Page) : Type 0 where
  strands : strands_behind page.slices ≡ length page.row
  few : AreFew (2 * n + 2) 0 page.slices

IsCounted-more : (n : ℕ) (page : Page) (drawn row : List ℕ) (more : List Slice) → IsCounted n page
    → fold strands_after (length page.row) more ≡ length row → AreFew (2 * n + 2) (length page.row) more
    → IsCounted n (record { drawn = drawn; row = row; slices = page.slices ++ more })
IsCounted-more n page drawn row more is same few = record {
  strands = fold-append strands_after 0 page.slices more ∙ ap (λ m. fold strands_after m more) is.strands ∙ same;
  few = AreFew-append (2 * n + 2) 0 page.slices more is.few (subst (λ (m : ℕ). AreFew (2 * n + 2) m more) (sym is.strands) few);
}

IsCounted-begun : (n : ℕ) (page : Page) (c : ℕ) → c < n → page.row ≡ [] → IsCounted n page → IsCounted n (begun page c)
IsCounted-begun n page c below empty is =
    let none : length page.row ≡ 0 = ap (λ xs. length xs) empty in
    IsCounted-more n page (c ∷ page.drawn) (4 * c ∷ other_three (4 * c)) (Cap 1 ∷ Cap 3 ∷ Cross 2 (c + 1) 0 ∷ []) is (omega (arith, none))
    (omega (arith, none), (omega (arith, none), (omega (arith, none, below), omega (arith, none, below))))

IsCounted-crossed : (n : ℕ) (page : Page) (k dart : ℕ) → k < length page.row → length page.row + 2 ≤ 2 * n + 2 → IsCounted n page
    → IsCounted n (crossed_by page k dart)
IsCounted-crossed n page k dart within room is =
    let row = page.row in
    IsCounted-more n page (dart / 4 ∷ page.drawn) (take k row ++ other_three dart ++ drop (k + 1) row)
    (Cap (k + 2) ∷ Cross (k + 1) (dart / 4 + 1) (dart % 4) ∷ []) is
    (omega (arith, length-crossed k dart row within))
    (omega (arith, room), (omega (arith, room), omega (arith, room)))

IsCounted-closed : (n : ℕ) (page : Page) (k : ℕ) → k + 1 < length page.row → length page.row ≤ 2 * n + 2 → IsCounted n page
    → IsCounted n (closed page k)
IsCounted-closed n page k within room is =
    let row = page.row in
    IsCounted-more n page page.drawn (take k row ++ drop (k + 2) row) (Cup (k + 1) ∷ []) is
    (omega (arith, length-closed k row within))
    (omega (arith, room), omega (arith, room))

IsCounted-by_pair : (n : ℕ) (whole : ℕ → ℕ) (page : Page) → IsPage n whole page → IsCounted n page
    → IsCounted n (by_pair page (paired whole page.row))
IsCounted-by_pair n whole page is_page is = elim (Search-is (are_paired whole page.row) 0 (length page.row - 1)) [
  | some k from below passes found ↦
      subst (λ (o : Option ℕ). IsCounted n (by_pair page o)) (sym found)
      (IsCounted-closed n page k (omega (arith, below)) (omega (arith, is_page.few)) is)
  | missing all found ↦ subst (λ (o : Option ℕ). IsCounted n (by_pair page o)) (sym found) is
]

IsCounted-next_page : (n : ℕ) (whole : ℕ → ℕ) (page : Page) → IsWholeSphere n whole → IsPage n whole page → IsCounted n page
    → IsCounted n (next_page n whole page)
IsCounted-next_page n whole page is_whole is_page is = by_cases page.row refl
  where
    by_cases : (row : List ℕ) → page.row ≡ row → IsCounted n (next_page_by n whole page row)
    by_cases [] empty = elim (Search-is (λ c. not (is_in page.drawn c)) 0 n) [
      | some c from below passes found ↦
          subst (λ (o : Option ℕ). IsCounted n (by_crossing page o)) (sym found) (IsCounted-begun n page c (omega (arith, below)) empty is)
      | missing all found ↦ subst (λ (o : Option ℕ). IsCounted n (by_crossing page o)) (sym found) is
    ]
    by_cases (dart ∷ darts) same = elim (Search-is (leads_on whole page.drawn page.row) 0 (length page.row)) [
      | some k from below passes found ↦
          let within : k < length page.row = omega (arith, below) in
          let other = whole (get_or page.row k 0) in
          let other_below : other / 4 < n =
          omega (arith, is_whole.pairing.below (get_or page.row k 0) (row-below n whole page k is_page within)) in
          let fewer = undrawn-fewer n (other / 4) page.drawn other_below passes in
          subst (λ (o : Option ℕ). IsCounted n (by_row whole page o)) (sym found)
          (IsCounted-crossed n page k other within (omega (arith, is_page.few, fewer)) is)
      | missing all found ↦
          subst (λ (o : Option ℕ). IsCounted n (by_row whole page o)) (sym found) (IsCounted-by_pair n whole page is_page is)
    ]

IsCounted-pages_on : (n : ℕ) (whole : ℕ → ℕ) (count : ℕ) (page : Page) → IsWholeSphere n whole → IsPage n whole page → IsCounted n page
    → IsCounted n (pages_on n whole count page)
IsCounted-pages_on n whole zero page is_whole is_page is = is
IsCounted-pages_on n whole (suc count) page is_whole is_page is =
    IsCounted-pages_on n whole count (next_page n whole page) is_whole (IsNextPage-next_page n whole page is_whole is_page).is_page
    (IsCounted-next_page n whole page is_whole is_page is)

few-loops : (most loops : ℕ) → 2 ≤ most → AreFew most 0 (loop_slices loops)
few-loops most zero room = omega arith
few-loops most (suc loops) room = (omega arith, (room, few-loops most loops room))

pub few-slices : (n : ℕ) (whole : ℕ → ℕ) (loops place : ℕ) → IsWholeSphere n whole
    → strands_behind (take place (slices_with n whole loops)) ≤ 2 * n + 2
few-slices n whole loops place is_whole =
    let page = page_of n whole in
    let is = IsCounted-pages_on n whole (5 * n) blank_page is_whole (IsPage-blank_page n whole) (record { strands = refl; few = omega arith }) in
    let ended : strands_behind page.slices ≡ 0 =
    is.strands ∙ ap (λ xs. length xs) (IsDrawn-page_of n whole is_whole).finished.row in
    few-take (2 * n + 2) 0 place (slices_with n whole loops)
    (AreFew-append (2 * n + 2) 0 page.slices (loop_slices loops) is.few
    (subst (λ (m : ℕ). AreFew (2 * n + 2) m (loop_slices loops)) (sym ended) (few-loops (2 * n + 2) loops (omega arith))))
