-- What a step of a drawing finds, and the room that it has. A search in which the numbers below k fail finds k if it passes, and
-- else goes on. What a search finds is in range and passes: so on a page of an accepted code within the limits there is room for
-- a crossing that is not drawn, and for two strands more where a strand leads on, and two neighbours stand in the row. The reason
-- is that a page bounds its crossings and its strands by the number of crossings that are left, and one is left. The blank page
-- is the page after no steps, the next page that after one step more, and one loop more is a cap and a cup behind. Last, for the
-- page after any number of steps: it has at most 2n + 2 strands, there is a pair where no strand leads on, and more than 5n steps
-- change nothing.
use Rattle.std.proofs.lemmas.Bool.Decides.{nat_tests}
use Rattle.std.proofs.Common.{◌≡◌, ◌≢◌, ◌∙◌, ℕ, zero, suc, ◌+◌, ◌-◌, ◌*◌, ◌<◌, ◌≤◌, List, [], ◌∷◌, ◌++◌, length, get_or, sym, ap, subst, refl, arith, Bool, true, false, cond}
use Rattle.std.specs.Prelude.{IsTrue, not, unwrap_or, Option, Some, None}
use Rattle.std.specs.List.{find, range_with_len}
use Rattle.std.specs.Option.{IsSome, option_or}
use Rattle.std.proofs.lemmas.List.{append_assoc}
use Rattle.std.proofs.lemmas.List.Folds.{find-append}
use Rattle.kh_types.specs.Acceptance.{accepted}
use Rattle.kh_types.specs.Code.{Code}
use Rattle.kh_types.specs.Darts.{partner_at}
use Rattle.kh_types.specs.declared.limits.TheConstants.{CROSSINGS}
use Rattle.kh_types.proofs.Ranges.{range_around, range_more}
use Rattle.kh_types.proofs.Searches.{Search-is}
use Rattle.morse_drawing.specs.DartRows.{IsIn}
use Rattle.morse_drawing.specs.Pages.{Page, are_paired, blank_page, is_in, leading, leads_on, loop_slices, next_page, page_of, pages_on, paired, undrawn}
use Rattle.morse_drawing.specs.Progress.{IsPage, IsPageOf}
use Rattle.morse_drawing.proofs.NextPages.{IsPageAfter, IsWholeSphere}
use Rattle.morse_drawing.specs.declared.limits.TheConstants.{DRAWN_STRANDS}
use Rattle.morse_drawing.specs.declared.slice.Slice.{Slice}
use Rattle.morse_drawing.specs.declared.slice.Slice.TheVariants.{Cap, Cup}
use Rattle.morse_drawing.proofs.Neighbours.{all_in}
use Rattle.morse_drawing.proofs.Parts.{parts-one}
use Rattle.kh_types.proofs.Searches.Search.{missing, some}
use Rattle.morse_drawing.proofs.PageSteps.{IsNextPage-next_page, is_some, paired-found}
use Rattle.morse_drawing.proofs.PageEnds.{IsDrawn-page_of, IsPage-blank_page, IsPage-pages_on, IsWholeSphere-accepted, finished-pages_on}
use Rattle.morse_drawing.proofs.PageLemmas.{in_middle, undrawn-fewer}

-- the first number below n that passes a test, where those before it do not
pub found_first : (test : ℕ → Bool) (n k : ℕ) → k < n → find test (range_with_len 0 k) ≡ None → test k ≡ true
    → find test (range_with_len 0 n) ≡ Some k
found_first test n k below none passes =
    let later = range_with_len (k + 1) (n - (k + 1)) in
    ap (λ xs. find test xs) (range_around 0 n k k below (omega arith)) ∙ find-append test (range_with_len 0 k) (k ∷ later)
    ∙ ap (λ o. option_or o (find test (k ∷ later))) none ∙ ap (λ b. cond b (Some k) (find test later)) passes

-- none passes, where one more does not
pub found_none : (test : ℕ → Bool) (k : ℕ) → find test (range_with_len 0 k) ≡ None → test k ≡ false
    → find test (range_with_len 0 (k + 1)) ≡ None
found_none test k none fails = grind (arith, nat_tests, range_more 0 k k (omega arith), find-append test (range_with_len 0 k) (k ∷ []))

-- what is found is below n and passes
record IsFound (test : ℕ → Bool) (n k : ℕ) : Type 0 where
  below : k < n
  passes : test k ≡ true

IsFound-find : (test : ℕ → Bool) (n k : ℕ) → find test (range_with_len 0 n) ≡ Some k → IsFound test n k
IsFound-find test n k found = elim (Search-is test 0 n) [
  | some x from below passes is ↦
      let same : x ≡ k = ap (λ (o : Option ℕ). unwrap_or o 0) (sym is ∙ found) in
      record { below = omega (arith, below, same); passes = ap test (sym same) ∙ passes }
  | missing all is ↦ absurd (none_some (sym is ∙ found))
]
  where
    none_some : None ≡ Some k → ⊥
    none_some same = absurd (omega (arith, ap is_some same))

-- a dart of the row is one of the whole
pub row-below : (n : ℕ) (whole : ℕ → ℕ) (page : Page) (k : ℕ) → IsPage n whole page → k < length page.row → get_or page.row k 0 < 4 * n
row-below n whole page k is within =
    (all_in (λ z. (z < 4 * n) × (is.part z ≡ z)) page.row (get_or page.row k 0) is.drawing.is_row.are_open
    (subst (λ (zs : List ℕ). IsIn (get_or page.row k 0) zs) (sym (parts-one k page.row within)) (in_middle _ _ _))).0

pub row_below : (code : Code) (page : Page) (k : ℕ) → IsPageOf code page → k < length page.row
    → get_or page.row k 0 < 4 * length code.crossings
row_below code page k is within = row-below (length code.crossings) (partner_at code.crossings) page k is.is_page within

-- where a crossing is not drawn, there is room for it
pub undrawn_room : (code : Code) (page : Page) (c : ℕ) → IsPageOf code page → undrawn (length code.crossings) page.drawn ≡ Some c
    → (c < CROSSINGS) × (length page.drawn < CROSSINGS)
undrawn_room code page c is found =
    let n = length code.crossings in
    let it = IsFound-find (λ k. not (is_in page.drawn k)) n c found in
    let fewer = undrawn-fewer n c page.drawn it.below it.passes in
    (omega (arith, it.below, is.within), omega (arith, is.is_page.sizes, is.within, fewer))

-- so where a strand leads on, and two strands more have room in the row
pub leading_room : (code : Code) (page : Page) (k : ℕ) → IsPageOf code page
    → leading (partner_at code.crossings) page.drawn page.row ≡ Some k
    → (k < length page.row) × (length page.row + 2 ≤ DRAWN_STRANDS) × (length page.drawn < CROSSINGS)
leading_room code page k is found =
    let n = length code.crossings in
    let whole = partner_at code.crossings in
    let it = IsFound-find (leads_on whole page.drawn page.row) (length page.row) k found in
    let below = (IsWholeSphere-accepted code is.is_accepted).pairing.below (get_or page.row k 0)
    (row-below n whole page k is.is_page it.below) in
    let fewer = undrawn-fewer n _ page.drawn (omega (arith, below)) it.passes in
    (it.below, omega (arith, is.is_page.few, is.within, fewer), omega (arith, is.is_page.sizes, is.within, fewer))

-- two neighbours stand in the row
pub paired_room : (code : Code) (page : Page) (k : ℕ) → IsPageOf code page → paired (partner_at code.crossings) page.row ≡ Some k
    → (k + 1 < length page.row) × (length page.row ≤ DRAWN_STRANDS)
paired_room code page k is found =
    grind (arith, nat_tests, IsFound-find (are_paired (partner_at code.crossings) page.row) (length page.row - 1) k found)

-- the page after one step more
pages_on-more : (n : ℕ) (whole : ℕ → ℕ) (count : ℕ) (page : Page)
    → pages_on n whole (count + 1) page ≡ next_page n whole (pages_on n whole count page)
pages_on-more n whole zero page = refl
pages_on-more n whole (suc count) page = grind (arith, nat_tests, pages_on-more n whole count (next_page n whole page))

pub page_begins : (code : Code) (page : Page) → IsTrue (accepted code) → length code.crossings ≤ CROSSINGS → page ≡ blank_page
    → IsPageAfter code 0 page
page_begins code page is_accepted within same =
    grind (arith, nat_tests, IsPage-blank_page (length code.crossings) (partner_at code.crossings))

pub page_goes_on : (code : Code) (count : ℕ) (page next : Page) → IsPageAfter code count page
    → next ≡ next_page (length code.crossings) (partner_at code.crossings) page → IsPageAfter code (count + 1) next
page_goes_on code count page next is step =
    let n = length code.crossings in
    let whole = partner_at code.crossings in
    record {
      same = step ∙ ap (next_page n whole) is.same ∙ sym (pages_on-more n whole count blank_page);
      is_page = record {
        is_accepted = is.is_page.is_accepted;
        within = is.is_page.within;
        is_page = subst (λ (p : Page). IsPage n whole p) (sym step)
            (IsNextPage-next_page n whole page (IsWholeSphere-accepted code is.is_page.is_accepted) is.is_page.is_page).is_page;
      };
    }

-- one loop more
loops-more : (loops : ℕ) → loop_slices (loops + 1) ≡ loop_slices loops ++ Cap 1 ∷ Cup 1 ∷ []
loops-more zero = refl
loops-more (suc loops) = grind (arith, nat_tests, loops-more loops)

pub loops_pushed : (xs start : List Slice) (loops : ℕ) → xs ≡ start ++ loop_slices loops
    → (xs ++ Cap 1 ∷ []) ++ Cup 1 ∷ [] ≡ start ++ loop_slices (loops + 1)
loops_pushed xs start loops same =
    append_assoc xs (Cap 1 ∷ []) (Cup 1 ∷ []) ∙ ap (λ (ys : List Slice). ys ++ Cap 1 ∷ Cup 1 ∷ []) same
    ∙ append_assoc start (loop_slices loops) (Cap 1 ∷ Cup 1 ∷ []) ∙ ap (λ (ys : List Slice). start ++ ys) (sym (loops-more loops))

IsPage-after : (n : ℕ) (whole : ℕ → ℕ) (count : ℕ) → IsWholeSphere n whole → IsPage n whole (pages_on n whole count blank_page)
IsPage-after n whole count is_whole = IsPage-pages_on n whole count blank_page is_whole (IsPage-blank_page n whole)

pub few-strands : (n : ℕ) (whole : ℕ → ℕ) (count : ℕ) → IsWholeSphere n whole
    → length (pages_on n whole count blank_page).row ≤ 2 * n + 2
few-strands n whole count is_whole = omega (arith, (IsPage-after n whole count is_whole).few)

pub pair-on_pages : (n : ℕ) (whole : ℕ → ℕ) (count : ℕ) → IsWholeSphere n whole
    → (pages_on n whole count blank_page).row ≢ []
    → leading whole (pages_on n whole count blank_page).drawn (pages_on n whole count blank_page).row ≡ None
    → IsSome (paired whole (pages_on n whole count blank_page).row)
pair-on_pages n whole count is_whole =
    paired-found n whole (pages_on n whole count blank_page) is_whole (IsPage-after n whole count is_whole)

pages_on-add : (n : ℕ) (whole : ℕ → ℕ) (first more : ℕ) (page : Page)
    → pages_on n whole (first + more) page ≡ pages_on n whole more (pages_on n whole first page)
pages_on-add n whole zero more page =
    let e : zero + more ≡ more = omega arith in
    ap (λ k. pages_on n whole k page) e
pages_on-add n whole (suc first) more page =
    let e : suc first + more ≡ suc (first + more) = omega arith in
    ap (λ k. pages_on n whole k page) e ∙ pages_on-add n whole first more (next_page n whole page)

-- more steps than are needed
pub page_of-later : (n : ℕ) (whole : ℕ → ℕ) (count : ℕ) → IsWholeSphere n whole → 5 * n ≤ count
    → pages_on n whole count blank_page ≡ page_of n whole
page_of-later n whole count is_whole enough =
    let e : count ≡ 5 * n + (count - 5 * n) = omega (arith, enough) in
    ap (λ k. pages_on n whole k blank_page) e ∙ pages_on-add n whole (5 * n) (count - 5 * n) blank_page
    ∙ finished-pages_on n whole (count - 5 * n) (page_of n whole) (IsDrawn-page_of n whole is_whole).finished
