-- The steps of a drawing come to an end, where all crossings are drawn and all arcs are closed. Each step keeps what a page is,
-- and unless the page is finished it leaves less over: five for each crossing that is not drawn, and one for each strand of the
-- row. A finished page stays as it is. On the blank page five for each crossing are left over, so five steps for each crossing
-- are enough. Then the row is empty and all crossings are drawn, hence all arcs are closed, and what is read of the slices is
-- that of the whole. There are as many crosses as crossings, no fault, and three slices for each crossing and two for each piece.
-- All this holds for the partners in an accepted code, which are on the sphere.
use Rattle.std.proofs.lemmas.Bool.Decides.{nat_tests}
use Rattle.std.proofs.Common.{◌≡◌, ℕ, zero, suc, ◌⊎◌, inl, inr, ◌*◌, ◌/◌, ◌<◌, ◌≤◌, ◌∙◌, List, [], ◌∷◌, length, refl, sym, ap, subst, arith, Bool, true, false, cond}
use Rattle.std.specs.Prelude.{min, not, None, IsTrue}
use Rattle.std.specs.List.{count_by, range_with_len}
use Rattle.std.proofs.lemmas.Bool.{both_ways}
use Rattle.std.proofs.lemmas.List.Sums.{sum_by-cons}
use Rattle.std.proofs.lemmas.List.FromFn.{length-range_with_len}
use Rattle.kh_types.specs.Acceptance.{accepted}
use Rattle.kh_types.specs.Code.{Code}
use Rattle.kh_types.specs.Darts.{partner_at}
use Rattle.kh_types.proofs.AcceptedLemmas.{HasArcsTwice-accepted}
use Rattle.kh_types.proofs.DartPairs.{IsOtherPlace-partner_at, IsPairing-partner_at}
use Rattle.kh_types.proofs.Searches.{Search-is}
use Rattle.face_walk.proofs.FewFaces.{IsPlanar-accepted}
use Rattle.face_walk.specs.AddedArcs.{bare}
use Rattle.morse_drawing.specs.DartRows.{IsDrawing, IsIn}
use Rattle.morse_drawing.specs.Pages.{Page, blank_page, is_in, page_of, next_page, pages_on, undrawn}
use Rattle.morse_drawing.specs.Sketches.{IsSketched, segment_met, sketch_of}
use Rattle.morse_drawing.specs.Progress.{IsPage, undrawn_count}
use Rattle.morse_drawing.specs.PageRules.{IsLastPage}
use Rattle.morse_drawing.proofs.NextPages.{IsDrawn, IsWholeSphere, left_over}
use Rattle.morse_drawing.proofs.RowRules.{IsDrawing-none, IsDrawing-whole}
use Rattle.morse_drawing.proofs.PieceCounts.{pieces-same}
use Rattle.morse_drawing.proofs.Faults.{in-range, none-counted}
use Rattle.face_walk.proofs.BareCrossings.{open_piece_count-bare}
use Rattle.morse_drawing.proofs.PageLemmas.{true-in, not-in, count-le}
use Rattle.kh_types.proofs.Searches.Search.{missing, some}
use Rattle.morse_drawing.proofs.PageSteps.{IsNextPage-next_page}

-- the page after some steps
pub IsPage-pages_on : (n : ℕ) (whole : ℕ → ℕ) (count : ℕ) (page : Page) → IsWholeSphere n whole → IsPage n whole page
    → IsPage n whole (pages_on n whole count page)
IsPage-pages_on n whole zero page is_whole is = is
IsPage-pages_on n whole (suc count) page is_whole is =
    IsPage-pages_on n whole count (next_page n whole page) is_whole (IsNextPage-next_page n whole page is_whole is).is_page

-- a finished page stays as it is
none-undrawn : (n : ℕ) (drawn : List ℕ) → ((c : ℕ) → c < n → IsIn c drawn) → undrawn n drawn ≡ None
none-undrawn n drawn all = elim (Search-is (λ c. not (is_in drawn c)) 0 n) [
  | some c from below passes found ↦ absurd (not-in c drawn passes (all c (omega (arith, below))))
  | missing fails found ↦ found
]

pub finished-next_page : (n : ℕ) (whole : ℕ → ℕ) (page : Page) → IsLastPage n page → next_page n whole page ≡ page
finished-next_page n whole page is = grind (arith, nat_tests, none-undrawn n page.drawn is.all)

pub finished-pages_on : (n : ℕ) (whole : ℕ → ℕ) (count : ℕ) (page : Page) → IsLastPage n page → pages_on n whole count page ≡ page
finished-pages_on n whole zero page is = refl
finished-pages_on n whole (suc count) page is =
    ap (pages_on n whole count) (finished-next_page n whole page is) ∙ finished-pages_on n whole count page is

-- where there are enough steps they finish
IsLastPage-pages_on : (n : ℕ) (whole : ℕ → ℕ) (count : ℕ) (page : Page) → IsWholeSphere n whole → IsPage n whole page
    → left_over n page ≤ count → IsLastPage n (pages_on n whole count page)
IsLastPage-pages_on n whole zero page is_whole is enough = grind (arith, nat_tests, IsNextPage-next_page n whole page is_whole is)
IsLastPage-pages_on n whole (suc count) page is_whole is enough =
    let next = IsNextPage-next_page n whole page is_whole is in
    elim next.goes_on [
      | inl finished ↦
          subst (λ (end : Page). IsLastPage n end) (sym (finished-pages_on n whole (suc count) page finished)) finished
      | inr less ↦ IsLastPage-pages_on n whole count (next_page n whole page) is_whole next.is_page (omega (arith, enough, less))
    ]

all-undrawn : (n : ℕ) → undrawn_count n [] ≡ n
all-undrawn n = count_by-all (λ c. not (is_in [] c)) (range_with_len 0 n) (λ c. refl) ∙ length-range_with_len 0 n
  where
    count_by-all : (p : ℕ → Bool) (xs : List ℕ) → ((x : ℕ) → p x ≡ true) → count_by p xs ≡ length xs
    count_by-all p [] holds = refl
    count_by-all p (x ∷ xs) holds = grind (arith, nat_tests, sum_by-cons (λ y. cond (p y) 1 0) x xs, count_by-all p xs holds)

pub IsPage-blank_page : (n : ℕ) (whole : ℕ → ℕ) → IsPage n whole blank_page
IsPage-blank_page n whole = record {
  part = bare;
  drawing = IsDrawing-none n whole;
  reading = record {
    zipped = [];
    segments = refl;
    darts = refl;
    joins_below = tt;
    segments_below = tt;
    met_below = λ x below stands. absurd stands;
    along = λ f holds. tt;
    closed = λ f holds x below stands. absurd stands;
    known = λ x holds. absurd (both_ways false refl holds);
    all_met = λ x below stands. absurd stands;
    reached = λ q below. absurd (omega (arith, below));
    colour = λ z. z;
    respects = tt;
    named = λ x below stands. absurd stands;
  };
  counted = omega (arith, open_piece_count-bare n, all-undrawn n);
  crosses = omega (arith, all-undrawn n);
  sizes = omega (arith, all-undrawn n);
  few = omega (arith, count-le (λ c. not (is_in [] c)) n);
  faultless = λ limit small most. refl;
}

pub IsDrawn-page_of : (n : ℕ) (whole : ℕ → ℕ) → IsWholeSphere n whole → IsDrawn n whole (page_of n whole)
IsDrawn-page_of n whole is_whole =
    let finished = IsLastPage-pages_on n whole (5 * n) blank_page is_whole (IsPage-blank_page n whole)
    (omega (arith, count-le (λ c. not (is_in [] c)) n)) in
    let page = IsPage-pages_on n whole (5 * n) blank_page is_whole (IsPage-blank_page n whole) in
    let end = page_of n whole in
    let drawing = subst (λ (row : List ℕ). IsDrawing n page.part whole end.drawn row) finished.row page.drawing in
    let same = IsDrawing-whole n page.part whole end.drawn drawing (λ x below. finished.all (x / 4) (omega (arith, below))) in
    let r = sketch_of end.slices in
    let reading = subst (λ (row : List ℕ). IsSketched n page.part whole end.drawn row r) finished.row page.reading in
    record {
      finished = finished;
      part = page.part;
      drawing = drawing;
      same = same;
      reading = record {
        zipped = reading.zipped;
        segments = reading.segments;
        darts = reading.darts;
        joins_below = reading.joins_below;
        segments_below = reading.segments_below;
        met_below = reading.met_below;
        along = reading.along;
        closed = λ f holds x below stands. reading.closed f holds x below stands ∙ ap (λ w. f (segment_met r.met w)) (same x below);
        known = reading.known;
        all_met = reading.all_met;
        reached = reading.reached;
        colour = reading.colour;
        respects = reading.respects;
        named = reading.named;
      };
      crosses = omega (
        arith,
        page.crosses,
        none-counted (λ c. not (is_in end.drawn c)) (range_with_len 0 n)
            (λ c is_c. drawn-false c end.drawn (finished.all c (omega (arith, (in-range 0 n c is_c).1)))),
      );
      counted = omega (
        arith,
        page.counted,
        ap (λ xs. length xs) finished.row,
        none-counted (λ c. not (is_in end.drawn c)) (range_with_len 0 n)
            (λ c is_c. drawn-false c end.drawn (finished.all c (omega (arith, (in-range 0 n c is_c).1)))),
        pieces-same n page.part whole same,
      );
      faultless = page.faultless;
    }
  where
    drawn-false : (c : ℕ) (drawn : List ℕ) → IsIn c drawn → not (is_in drawn c) ≡ false
    drawn-false c drawn stands = ap not (true-in c drawn stands)

-- an accepted code
pub IsWholeSphere-accepted : (code : Code) → IsTrue (accepted code) → IsWholeSphere (length code.crossings) (partner_at code.crossings)
IsWholeSphere-accepted code is =
    let twice = HasArcsTwice-accepted code is in
    record {
      pairing = IsPairing-partner_at code.crossings twice;
      planar = IsPlanar-accepted code is;
      full = λ x below. (IsOtherPlace-partner_at code.crossings x twice below).differs;
    }

-- two darts meet segments of one class exactly where they are one dart, or partners
pub least_same : (x wx y wy : ℕ) → min x wx ≡ min y wy → ((y ≡ x) ⊎ (x ≡ wy)) ⊎ ((y ≡ wx) ⊎ (wx ≡ wy))
least_same x wx y wy same = grind arith
