-- Each step of the drawing keeps what a page is, and leaves less over, or the page is finished. Where the row is empty, the least
-- crossing that is not drawn begins, or all are drawn and the page is finished. Where no strand leads on, the partners of all
-- darts of the row are at drawn crossings, so two neighbours are partners: the search finds them, and they end in a cup. Where a
-- strand leads on, it meets its crossing. For each rule, what a page has to keep is put together from the lemmas on that rule:
-- the row of open darts, what is read of the slices, the numbers of slices, crosses and strands, and that there is no fault. Left
-- over are five for each crossing that is not drawn and one for each strand: a crossing takes five away and adds at most four
-- strands, a cup takes two strands away.
use Rattle.std.proofs.Common.{◌≡◌, ◌≢◌, ℕ, suc, inl, inr, ◌+◌, ◌-◌, ◌*◌, ◌/◌, ◌%◌, ◌<◌, ◌∙◌, List, [], ◌∷◌, ◌++◌, length, get_or, take, drop, refl, sym, ap, subst, arith, false}
use Rattle.std.specs.Prelude.{not, Option, Some, None}
use Rattle.std.specs.Option.{IsSome}
use Rattle.std.specs.List.{AllByRecursion}
use Rattle.std.proofs.Math.Seq.{get_or-append_seam}
use Rattle.std.proofs.lemmas.Bool.{both_ways, eq-eqb, eqb-true}
use Rattle.std.proofs.lemmas.List.{get_or-append-add, length-append, length-take-le}
use Rattle.face_walk.specs.AddedArcs.{with_arc}
use Rattle.morse_drawing.specs.DartRows.{IsDrawing, IsIn, other_three}
use Rattle.morse_drawing.specs.Pages.{Page, are_paired, by_crossing, by_row, by_pair, is_in, leading, leads_on, paired, next_page, next_page_by, undrawn}
use Rattle.std.proofs.lemmas.List.Sums.{fold-append}
use Rattle.morse_drawing.specs.Sketches.{IsSketched, Sketch, no_sketch, sketched, sketch_of}
use Rattle.morse_drawing.specs.declared.slice.Slice.TheVariants.{Cap, Cup, Cross}
use Rattle.morse_drawing.proofs.BegunSketches.{sketched-begun}
use Rattle.morse_drawing.proofs.CupSketches.{sketched-closed}
use Rattle.morse_drawing.proofs.CrossSketches.{sketched-crossed}
use Rattle.morse_drawing.specs.Progress.{IsPage, undrawn_count}
use Rattle.morse_drawing.proofs.NextPages.{IsNextPage, IsWholeSphere}
use Rattle.morse_drawing.proofs.RowRules.{HasNeighbours-drawing, IsDrawing-closed, IsDrawing-crossed, IsDrawing-first}
use Rattle.morse_drawing.proofs.Parts.{parts-one, parts-two}
use Rattle.morse_drawing.proofs.Neighbours.{all_in}
use Rattle.morse_drawing.proofs.PieceCounts.{pieces-closed, pieces-crossed}
use Rattle.morse_drawing.proofs.Faults.{faults-begun, faults-closed, faults-crossed, first_slice_fault-none}
use Rattle.morse_drawing.proofs.PageLemmas.{not-in, is-in, in_middle, in_next, undrawn-fewer, length-closed, length-crossed, crosses-append, begun-crosses, crossed-crosses, closed-crosses, count-le}
use Rattle.kh_types.proofs.Searches.Search.{missing, some}
use Rattle.kh_types.proofs.Searches.{Search-is}

pub next_page-empty : (n : ℕ) (whole : ℕ → ℕ) (page : Page) → IsPage n whole page → page.row ≡ []
    → IsNextPage n whole page (by_crossing page (undrawn n page.drawn))
next_page-empty n whole page is empty = elim (Search-is (λ c. not (is_in page.drawn c)) 0 n) [
  | some c from below passes found ↦
      let small : c < n = omega (arith, below) in
      let drawing = subst (λ (row : List ℕ). IsDrawing n is.part whole page.drawn row) empty is.drawing in
      let e : 4 * c / 4 ≡ c = omega arith in
      let new : IsIn (4 * c / 4) page.drawn → ⊥ = λ stands. not-in c page.drawn passes (subst (λ (k : ℕ). IsIn k page.drawn) e stands) in
      let next = IsDrawing-first n is.part whole page.drawn (4 * c) drawing (omega (arith, small)) new in
      subst (λ (o : Option ℕ). IsNextPage n whole page (by_crossing page o)) (sym found)
      (record {
        is_page = record {
          part = is.part;
          drawing = subst (λ (k : ℕ). IsDrawing n is.part whole (k ∷ page.drawn) (4 * c ∷ other_three (4 * c))) e next;
          reading = subst (λ (w : Sketch). IsSketched n is.part whole (c ∷ page.drawn) (4 * c ∷ other_three (4 * c)) w)
              (sym (fold-append sketched no_sketch page.slices (Cap 1 ∷ Cap 3 ∷ Cross 2 (c + 1) 0 ∷ [])))
              (sketched-begun n is.part whole page.drawn c (sketch_of page.slices)
              (subst (λ (row : List ℕ). IsSketched n is.part whole page.drawn row (sketch_of page.slices)) empty is.reading) drawing small
              (not-in c page.drawn passes));
          counted = omega (
            arith,
            is.counted,
            length-append page.slices (Cap 1 ∷ Cap 3 ∷ Cross 2 (c + 1) 0 ∷ []),
            undrawn-fewer n c page.drawn small passes,
            ap (λ xs. length xs) empty,
          );
          crosses = omega (
            arith,
            is.crosses,
            crosses-append page.slices (Cap 1 ∷ Cap 3 ∷ Cross 2 (c + 1) 0 ∷ []),
            begun-crosses c,
            undrawn-fewer n c page.drawn small passes,
          );
          sizes = omega (arith, is.sizes, undrawn-fewer n c page.drawn small passes);
          few = omega (arith, undrawn-fewer n c page.drawn small passes, count-le (λ k. not (is_in page.drawn k)) n);
          faultless = λ limit within most.
              first_slice_fault-none limit no_sketch 1 page.slices (Cap 1 ∷ Cap 3 ∷ Cross 2 (c + 1) 0 ∷ []) (is.faultless limit within most)
              (λ k. faults-begun limit n is.part whole page.drawn (sketch_of page.slices) c k within
              (subst (λ (row : List ℕ). IsSketched n is.part whole page.drawn row (sketch_of page.slices)) empty is.reading) small
              (not-in c page.drawn passes));
        };
        goes_on = inr (omega (arith, undrawn-fewer n c page.drawn small passes, ap (λ xs. length xs) empty));
      })
  | missing all found ↦
      subst (λ (o : Option ℕ). IsNextPage n whole page (by_crossing page o)) (sym found)
      (record {
        is_page = is;
        goes_on = inl (record { row = empty; all = λ c below. is-in c page.drawn (all c (omega arith) (omega (arith, below))) });
      })
]

-- where the row is not empty and no strand leads on, two neighbours are partners
pub paired-some : (n : ℕ) (whole : ℕ → ℕ) (page : Page) (dart : ℕ) (darts : List ℕ) → IsWholeSphere n whole → IsPage n whole page
    → page.row ≡ dart ∷ darts → AllByRecursion (λ z. IsIn (whole z / 4) page.drawn) page.row
    → ((k : ℕ) → k + 1 < length page.row → are_paired whole page.row k ≡ false) → ⊥
paired-some n whole page dart darts is_whole is same_row at_drawn all =
    let neighbours = HasNeighbours-drawing n is.part whole page.drawn dart darts is_whole.pairing is_whole.planar is_whole.full
    (subst (λ (zs : List ℕ). IsDrawing n is.part whole page.drawn zs) same_row is.drawing)
    (subst (λ (zs : List ℕ). AllByRecursion (λ z. IsIn (whole z / 4) page.drawn) zs) same_row at_drawn) in
    let front = neighbours.front in
    let k = length front in
    let row_is : page.row ≡ front ++ neighbours.dart ∷ neighbours.other ∷ neighbours.back = same_row ∙ neighbours.is_row in
    let first : get_or page.row k 0 ≡ neighbours.dart =
    ap (λ zs. get_or zs k 0) row_is ∙ get_or-append_seam front neighbours.dart (neighbours.other ∷ neighbours.back) 0 in
    let second : get_or page.row (k + 1) 0 ≡ neighbours.other =
    ap (λ zs. get_or zs (k + 1) 0) row_is ∙ get_or-append-add front (neighbours.dart ∷ neighbours.other ∷ neighbours.back) 1 0 in
    let size : length page.row ≡ k + (2 + length neighbours.back) =
    ap (λ zs. length zs) row_is ∙ length-append front (neighbours.dart ∷ neighbours.other ∷ neighbours.back) ∙ omega arith in
    both_ways (are_paired whole page.row k) (all k (omega (arith, size)))
    (eq-eqb (whole (get_or page.row k 0)) (get_or page.row (k + 1) 0) (ap whole first ∙ neighbours.are_partners ∙ sym second))

pub next_page-pair : (n : ℕ) (whole : ℕ → ℕ) (page : Page) (dart : ℕ) (darts : List ℕ) → IsWholeSphere n whole → IsPage n whole page
    → page.row ≡ dart ∷ darts → AllByRecursion (λ z. IsIn (whole z / 4) page.drawn) page.row
    → IsNextPage n whole page (by_pair page (paired whole page.row))
next_page-pair n whole page dart darts is_whole is same_row at_drawn = elim (Search-is (are_paired whole page.row) 0 (length page.row - 1)) [
  | some k from below passes found ↦
      let row = page.row in
      let within : k + 1 < length row = omega (arith, below) in
      let x = get_or row k 0 in
      let y = get_or row (k + 1) 0 in
      let drawing = subst (λ (zs : List ℕ). IsDrawing n is.part whole page.drawn zs) (parts-two k row within) is.drawing in
      let is_arc = eqb-true (whole x) y passes in
      let x_in = subst (λ (zs : List ℕ). IsIn x zs) (sym (parts-two k row within)) (in_middle x (take k row) (y ∷ drop (k + 2) row)) in
      let y_in = subst (λ (zs : List ℕ). IsIn y zs) (sym (parts-two k row within)) (in_next x y (take k row) (drop (k + 2) row)) in
      let x_open = all_in (λ z. (z < 4 * n) × (is.part z ≡ z)) row x is.drawing.is_row.are_open x_in in
      let y_open = all_in (λ z. (z < 4 * n) × (is.part z ≡ z)) row y is.drawing.is_row.are_open y_in in
      let x_drawn = all_in (λ z. IsIn (z / 4) page.drawn) row x is.drawing.at_drawn x_in in
      let y_drawn = all_in (λ z. IsIn (z / 4) page.drawn) row y is.drawing.at_drawn y_in in
      let size : length (take k row) ≡ k = length-take-le k row (omega (arith, within)) in
      let now_read : IsSketched n (with_arc is.part x y) whole page.drawn (take k row ++ drop (k + 2) row)
      (sketched (sketch_of page.slices) (Cup (k + 1))) =
      subst (λ (w : Sketch). IsSketched n (with_arc is.part x y) whole page.drawn (take k row ++ drop (k + 2) row) w)
      (ap (λ j. sketched (sketch_of page.slices) (Cup (j + 1))) size)
      (sketched-closed n is.part whole page.drawn (take k row) (drop (k + 2) row) x y (sketch_of page.slices)
      (subst (λ (zs : List ℕ). IsSketched n is.part whole page.drawn zs (sketch_of page.slices)) (parts-two k row within) is.reading)
      is_arc (ap whole (sym is_arc) ∙ is_whole.pairing.back x x_open.0)
      (λ same. is_whole.full x x_open.0 (is_arc ∙ same)) x_open.0 y_open.0 x_drawn y_drawn) in
      let shorter = length-closed k row within in
      subst (λ (o : Option ℕ). IsNextPage n whole page (by_pair page o)) (sym found)
      (record {
        is_page = record {
          part = with_arc is.part x y;
          drawing = IsDrawing-closed n is.part whole page.drawn (take k row) (drop (k + 2) row) x y is_whole.pairing drawing
              is_arc;
          reading = subst (λ (w : Sketch). IsSketched n (with_arc is.part x y) whole page.drawn (take k row ++ drop (k + 2) row) w)
              (sym (fold-append sketched no_sketch page.slices (Cup (k + 1) ∷ []))) now_read;
          counted = omega (
            arith,
            is.counted,
            length-append page.slices (Cup (k + 1) ∷ []),
            shorter,
            pieces-closed n is.part whole page.drawn (take k row) (drop (k + 2) row) x y drawing,
          );
          crosses = omega (arith, is.crosses, crosses-append page.slices (Cup (k + 1) ∷ []), closed-crosses (k + 1));
          sizes = is.sizes;
          few = omega (arith, is.few, shorter);
          faultless = λ limit small most.
              first_slice_fault-none limit no_sketch 1 page.slices (Cup (k + 1) ∷ []) (is.faultless limit small most)
              (λ j. faults-closed limit n is.part (with_arc is.part x y) whole page.drawn row (take k row ++ drop (k + 2) row)
              (sketch_of page.slices) k j small is.reading within now_read);
        };
        goes_on = inr (omega (arith, shorter));
      })
  | missing all found ↦
      absurd (paired-some n whole page dart darts is_whole is same_row at_drawn (λ k below. all k (omega arith) (omega (arith, below))))
]

-- nothing is not something
abbrev pub is_some : Option ℕ → ℕ
is_some None = 0
is_some (Some k) = 1

pub all_by_places : (xs : List ℕ) (P : ℕ → Type 0) → ((k : ℕ) → k < length xs → P (get_or xs k 0)) → AllByRecursion P xs
all_by_places [] P holds = tt
all_by_places (x ∷ xs) P holds =
    (holds 0 (omega arith), all_by_places xs P (λ k below. holds (suc k) (omega (arith, below))))

pub paired-found : (n : ℕ) (whole : ℕ → ℕ) (page : Page) → IsWholeSphere n whole → IsPage n whole page → page.row ≢ []
    → leading whole page.drawn page.row ≡ None → IsSome (paired whole page.row)
paired-found n whole page is_whole is filled none = by_row_of page.row refl
  where
    some_none : (k : ℕ) → Some k ≡ None → ⊥
    some_none k same = absurd (omega (arith, ap is_some same))

    at_drawn : AllByRecursion (λ z. IsIn (whole z / 4) page.drawn) page.row
    at_drawn = elim (Search-is (leads_on whole page.drawn page.row) 0 (length page.row)) [
      | some k from below passes found ↦ absurd (some_none k (sym found ∙ none))
      | missing all found ↦ all_by_places page.row (λ z. IsIn (whole z / 4) page.drawn)
          (λ k below. is-in (whole (get_or page.row k 0) / 4) page.drawn (all k (omega arith) (omega (arith, below))))
    ]

    by_row_of : (row : List ℕ) → page.row ≡ row → IsSome (paired whole page.row)
    by_row_of [] same = absurd (filled same)
    by_row_of (dart ∷ darts) same = elim (Search-is (are_paired whole page.row) 0 (length page.row - 1)) [
      | some k from below passes found ↦ subst (λ (o : Option ℕ). IsSome o) (sym found) refl
      | missing all found ↦
          absurd (paired-some n whole page dart darts is_whole is same at_drawn (λ k below. all k (omega arith) (omega (arith, below))))
    ]

pub next_page-row : (n : ℕ) (whole : ℕ → ℕ) (page : Page) (dart : ℕ) (darts : List ℕ) → IsWholeSphere n whole → IsPage n whole page
    → page.row ≡ dart ∷ darts → IsNextPage n whole page (by_row whole page (leading whole page.drawn page.row))
next_page-row n whole page dart darts is_whole is same_row = elim (Search-is (leads_on whole page.drawn page.row) 0 (length page.row)) [
  | some k from below passes found ↦
      let row = page.row in
      let within : k < length row = omega (arith, below) in
      let x = get_or row k 0 in
      let other = whole x in
      let row_is = parts-one k row within in
      let drawing = subst (λ (zs : List ℕ). IsDrawing n is.part whole page.drawn zs) row_is is.drawing in
      let x_open = all_in (λ z. (z < 4 * n) × (is.part z ≡ z)) row x is.drawing.is_row.are_open
      (subst (λ (zs : List ℕ). IsIn x zs) (sym row_is) (in_middle x (take k row) (drop (k + 1) row))) in
      let other_below : other / 4 < n = omega (arith, is_whole.pairing.below x x_open.0) in
      let one_fewer = undrawn-fewer n (other / 4) page.drawn other_below passes in
      let longer = length-crossed k other row within in
      subst (λ (o : Option ℕ). IsNextPage n whole page (by_row whole page o)) (sym found)
      (record {
        is_page = record {
          part = with_arc is.part x other;
          drawing = IsDrawing-crossed n is.part whole page.drawn (take k row) (drop (k + 1) row) x is_whole.pairing drawing
              (not-in (other / 4) page.drawn passes);
          reading = subst (λ (w : Sketch). IsSketched n (with_arc is.part x other) whole (other / 4 ∷ page.drawn)
              (take k row ++ other_three other ++ drop (k + 1) row) w)
              (ap (λ j. sketched (sketched (sketch_of page.slices) (Cap (j + 2))) (Cross (j + 1) (other / 4 + 1) (other % 4)))
              (length-take-le k row (omega (arith, within)))
              ∙ sym (fold-append sketched no_sketch page.slices (Cap (k + 2) ∷ Cross (k + 1) (other / 4 + 1) (other % 4) ∷ [])))
              (sketched-crossed n is.part whole page.drawn (take k row) (drop (k + 1) row) x (sketch_of page.slices)
              (subst (λ (zs : List ℕ). IsSketched n is.part whole page.drawn zs (sketch_of page.slices)) row_is is.reading)
              is_whole.pairing drawing x_open.0
              (all_in (λ z. IsIn (z / 4) page.drawn) row x is.drawing.at_drawn
              (subst (λ (zs : List ℕ). IsIn x zs) (sym row_is) (in_middle x (take k row) (drop (k + 1) row))))
              (not-in (other / 4) page.drawn passes));
          counted = omega (
            arith,
            is.counted,
            length-append page.slices (Cap (k + 2) ∷ Cross (k + 1) (other / 4 + 1) (other % 4) ∷ []),
            longer,
            one_fewer,
            pieces-crossed n is.part whole page.drawn (take k row) (drop (k + 1) row) x is_whole.pairing drawing
                (not-in (other / 4) page.drawn passes),
          );
          crosses = omega (
            arith,
            is.crosses,
            crosses-append page.slices (Cap (k + 2) ∷ Cross (k + 1) (other / 4 + 1) (other % 4) ∷ []),
            crossed-crosses (k + 2) (k + 1) (other / 4 + 1) (other % 4),
            one_fewer,
          );
          sizes = omega (arith, is.sizes, one_fewer);
          few = omega (arith, is.few, longer, one_fewer);
          faultless = λ limit small most.
              first_slice_fault-none limit no_sketch 1 page.slices (Cap (k + 2) ∷ Cross (k + 1) (other / 4 + 1) (other % 4) ∷ [])
              (is.faultless limit small most)
              (λ j. faults-crossed limit n is.part whole page.drawn row (sketch_of page.slices) k other j small is.reading within
              (omega (arith, is.few, one_fewer, most)) other_below (not-in (other / 4) page.drawn passes));
        };
        goes_on = inr (fewer (undrawn_count n page.drawn) (undrawn_count n (other / 4 ∷ page.drawn)) (length row)
            (length (take k row ++ other_three other ++ drop (k + 1) row)) one_fewer longer);
      })
  | missing all found ↦
      subst (λ (o : Option ℕ). IsNextPage n whole page (by_row whole page o)) (sym found)
      (next_page-pair n whole page dart darts is_whole is same_row
      (all_by_places page.row (λ z. IsIn (whole z / 4) page.drawn)
      (λ k below. is-in (whole (get_or page.row k 0) / 4) page.drawn (all k (omega arith) (omega (arith, below))))))
]
  where
    fewer : (u v l m : ℕ) → u ≡ v + 1 → m ≡ l + 2 → 5 * v + m < 5 * u + l
    fewer u v l m one two = omega (arith, one, two)

-- each step
pub IsNextPage-next_page : (n : ℕ) (whole : ℕ → ℕ) (page : Page) → IsWholeSphere n whole → IsPage n whole page → IsNextPage n whole page (next_page n whole page)
IsNextPage-next_page n whole page is_whole is = by_cases page.row refl
  where
    by_cases : (row : List ℕ) → page.row ≡ row → IsNextPage n whole page (next_page_by n whole page row)
    by_cases [] same = next_page-empty n whole page is same
    by_cases (dart ∷ darts) same = next_page-row n whole page dart darts is_whole is same
