-- The row of open ends by numbers fits what is read of the slices if segments can be labelled so that the row has their labels,
-- open ends know its pairs and loops by these, and it tells which crossings are drawn. This is kept at a cap and at a cup. A cap
-- needs a label that no strand has: there are 64 for lines, and a row beside which a cap stands has at most 62 strands. Then two
-- segments begin under it, and come to their place. At a cup the two neighbours are taken to the front, and tied: if they have
-- one label, a loop is closed, and that label is gone from the row; if not, one label gives way to the other, or two darts find
-- each other. The row by numbers is edited in the same way. Two neighbours and the rest of a row are for a cross too.
use Rattle.std.proofs.Common.{◌≡◌, ℕ, inl, inr, ◌+◌, ◌-◌, ◌*◌, ◌/◌, ◌<◌, ◌≤◌, ◌∙◌, List, [], ◌∷◌, ◌++◌, length, map, get_or, take, drop, sym, ap, ap₂, subst, refl, arith, false, cond}
use Rattle.std.specs.Prelude.{not, unwrap_or, Option}
use Rattle.std.specs.List.{AllByRecursion, insert, remove}
use Rattle.std.proofs.Math.Seq.{get_or-append_seam}
use Rattle.std.proofs.lemmas.Bool.{cases_eq, eq-eqb, ne_eqb}
use Rattle.std.proofs.lemmas.List.{get_or-append-add, length-map, length-take-le, map-append, take-append-drop}
use Rattle.kh_types.proofs.Lists.{AllByRecursion-append, AllByRecursion-first, AllByRecursion-second}
use Rattle.kh_types.proofs.Searches.{Search-is}
use Rattle.morse_drawing.proofs.NumberedEnds.{NumberedEnds, after_slice, cup_tied, one_loop_more, relabelled, tied, unused}
use Rattle.morse_drawing.specs.Pages.{is_in}
use Rattle.morse_drawing.specs.Sketches.{Sketch, is_met, sketched}
use Rattle.morse_drawing.specs.declared.slice.Slice.TheVariants.{Cap, Cup}
use Rattle.morse_drawing.proofs.EndAnswers.{EndsOf}
use Rattle.morse_drawing.proofs.EndMoves.{Ends-capped, Ends-moved, fresh, fresh-new, map-fresh, wider}
use Rattle.morse_drawing.proofs.EndTimes.{few-labels, map-relabelled_none, times, times-append, times-in, times-out}
use Rattle.morse_drawing.proofs.Ends.{Ends, Ends-tied, map-after, name_after}
use Rattle.morse_drawing.proofs.MetEnds.{Ends-two, given_way, kept_label, tied-is, with_row}
use Rattle.morse_drawing.proofs.PageLemmas.{is-in, not-in}
use Rattle.kh_types.proofs.Searches.Search.{missing, some}
use Rattle.morse_drawing.proofs.Parts.{parts-two}
use Rattle.morse_drawing.proofs.RowEdits.{insert-here, remove-here}
use Rattle.morse_drawing.proofs.TiedEnds.{TwoEnds, dart-left, loop-left, tied-loop, two-ends}

-- the row by numbers is one of what is read of the slices so far
pub record IsHeld (limit : ℕ) (r : Sketch) (s : NumberedEnds) : Type 0 where
  pub name : ℕ → ℕ
  pub ends : EndsOf limit name r s.others s.loops
  pub labels : s.row ≡ map name r.row
  pub crossings : length s.drawn ≡ limit
  pub drawn : (c : ℕ) → c < limit → get_or s.drawn c false ≡ is_met r.met (4 * c)
  pub whole : (x : ℕ) → is_met r.met x ≡ is_met r.met (4 * (x / 4))

pub map-append_times : (name : ℕ → ℕ) (n : ℕ) (xs ys : List ℕ) → times n (map name (xs ++ ys)) ≡ times n (map name xs) + times n (map name ys)
map-append_times name n xs ys = ap (times n) (map-append name xs ys) ∙ times-append n (map name xs) (map name ys)

-- two more between the parts of a row
pub times-between : (name : ℕ → ℕ) (n k a b : ℕ) (xs : List ℕ)
    → times n (map name (take k xs ++ a ∷ b ∷ drop k xs)) ≡ times n (map name (a ∷ b ∷ xs))
times-between name n k a b xs =
    omega (
      arith,
      map-append_times name n (take k xs) (a ∷ b ∷ drop k xs),
      map-append_times name n (take k xs) (drop k xs),
      ap (λ ys. times n (map name ys)) (take-append-drop k xs),
    )

-- and two out of the middle to the front
pub times-middle : (name : ℕ → ℕ) (n a b : ℕ) (front back : List ℕ)
    → times n (map name (a ∷ b ∷ (front ++ back))) ≡ times n (map name (front ++ a ∷ b ∷ back))
times-middle name n a b front back =
    omega (arith, map-append_times name n front back, map-append_times name n front (a ∷ b ∷ back))

pub parts-below : (next k : ℕ) (xs : List ℕ) → AllByRecursion (λ p. p < next) xs
    → AllByRecursion (λ p. p < next) (take k xs) × AllByRecursion (λ p. p < next) (drop k xs)
parts-below next k xs below =
    let both = subst (λ (ys : List ℕ). AllByRecursion (λ p. p < next) ys) (sym (take-append-drop k xs)) below in
    (AllByRecursion-first (λ p. p < next) (take k xs) (drop k xs) both, AllByRecursion-second (λ p. p < next) (take k xs) (drop k xs) both)

-- a label that no strand has
record IsUnused (limit l : ℕ) (row : List ℕ) : Type 0 where
  from : 4 * limit ≤ l
  below : l < 4 * limit + 64
  none : times l row ≡ 0

IsUnused-unused : (limit : ℕ) (row : List ℕ) → length row ≤ 62 → IsUnused limit (unused limit row) row
IsUnused-unused limit row few = elim (Search-is (λ line. not (is_in row (4 * limit + line))) 0 64) [
  | some x from below passes is ↦
      let same : unused limit row ≡ 4 * limit + x = ap (λ (o : Option ℕ). 4 * limit + unwrap_or o 0) is in
      record {
        from = omega (arith, same);
        below = omega (arith, below, same);
        none = ap (λ l. times l row) same ∙ times-out (4 * limit + x) row (not-in (4 * limit + x) row passes);
      }
  | missing all is ↦
      absurd (omega (
        arith,
        few,
        few-labels (4 * limit) 64 row (λ x from below.
            let e : 4 * limit + (x - 4 * limit) ≡ x = omega (arith, from) in
            times-in x row (is-in x row (ap (λ l. not (is_in row l)) (sym e) ∙ all (x - 4 * limit) (omega arith) (omega (arith, from, below))))),
      ))
]

pub Held-cap : (limit : ℕ) (r : Sketch) (s : NumberedEnds) (at : ℕ) → 1 ≤ at → at ≤ length r.row + 1 → length r.row ≤ 62 → IsHeld limit r s
    → IsHeld limit (sketched r (Cap at)) (after_slice limit s (Cap at))
Held-cap limit r s at first last few is =
    let place = at - 1 in
    let front = take place r.row in
    let back = drop place r.row in
    let next = r.next in
    let l = unused limit s.row in
    let size : length s.row ≤ 62 = omega (arith, few, ap (λ xs. length xs) is.labels, length-map r.row is.name) in
    let it = IsUnused-unused limit s.row size in
    let new = fresh next l is.name in
    let parts = parts-below next place r.row is.ends.segments_below in
    let capped = Ends-capped limit is.name next r.joins r.met r.row s.others s.loops l is.ends it.from it.below
    (ap (times l) (sym is.labels) ∙ it.none) in
    let moved = Ends-moved limit new (next + 2) (r.joins ++ (next, next + 1) ∷ []) r.met r.met (next ∷ (next + 1) ∷ r.row)
    (front ++ next ∷ (next + 1) ∷ back) s.others s.loops capped (λ y. refl) (λ y met_y. refl)
    (AllByRecursion-append (λ p. p < next + 2) front (next ∷ (next + 1) ∷ back) (wider next (next + 2) front (omega arith) parts.0)
    (omega arith, (omega arith, wider next (next + 2) back (omega arith) parts.1)))
    (λ n. times-between new n place next (next + 1) r.row) in
    let shape : s.row ≡ map is.name front ++ map is.name back =
    is.labels ∙ ap (map is.name) (sym (take-append-drop place r.row)) ∙ map-append is.name front back in
    let at_place : length (map is.name front) ≡ place =
    omega (arith, length-map front is.name, length-take-le place r.row (omega (arith, last))) in
    record {
      name = new;
      ends = moved;
      labels = ap (λ xs. insert (insert xs place l) place l) shape
          ∙ ap (λ xs. insert xs place l) (insert-here (map is.name front) l (map is.name back) place at_place)
          ∙ insert-here (map is.name front) l (l ∷ map is.name back) place at_place
          ∙ sym (map-append new front (next ∷ (next + 1) ∷ back)
          ∙ ap₂ (λ xs ys. xs ++ new next ∷ new (next + 1) ∷ ys) (map-fresh next l is.name front parts.0)
          (map-fresh next l is.name back parts.1)
          ∙ ap₂ (λ x y. map is.name front ++ x ∷ y ∷ map is.name back) (fresh-new next l is.name next (omega arith))
          (fresh-new next l is.name (next + 1) (omega arith)));
      crossings = is.crossings;
      drawn = is.drawn;
      whole = is.whole;
    }

-- the labels at a place and the next, and the row without them
pub row-at : (front back : List ℕ) (u v place : ℕ) → length front ≡ place → get_or (front ++ u ∷ v ∷ back) place 0 ≡ u
row-at front back u v place size =
    ap (λ k. get_or (front ++ u ∷ v ∷ back) k 0) (sym size) ∙ get_or-append_seam front u (v ∷ back) 0

pub row-after : (front back : List ℕ) (u v place : ℕ) → length front ≡ place → get_or (front ++ u ∷ v ∷ back) (place + 1) 0 ≡ v
row-after front back u v place size =
    ap (λ k. get_or (front ++ u ∷ v ∷ back) (k + 1) 0) (sym size) ∙ get_or-append-add front (u ∷ v ∷ back) 1 0

row-without : (front back : List ℕ) (u v place : ℕ) → length front ≡ place
    → remove (remove (front ++ u ∷ v ∷ back) place) place ≡ front ++ back
row-without front back u v place size =
    ap (λ xs. remove xs place) (remove-here front u (v ∷ back) place size) ∙ remove-here front v back place size

-- two neighbours of the row, with the rest
pub record Middle (limit : ℕ) (r : Sketch) (s : NumberedEnds) (name : ℕ → ℕ) (place a b : ℕ) : Type 0 where
  pub ends : Ends limit name r.next r.joins r.met (a ∷ b ∷ (take place r.row ++ drop (place + 2) r.row)) s.others s.loops
  pub front_below : AllByRecursion (λ p. p < r.next) (take place r.row)
  pub back_below : AllByRecursion (λ p. p < r.next) (drop (place + 2) r.row)
  pub size : length (map name (take place r.row)) ≡ place
  pub shape : s.row ≡ map name (take place r.row) ++ name a ∷ name b ∷ map name (drop (place + 2) r.row)

pub middle : (limit : ℕ) (r : Sketch) (s : NumberedEnds) (place : ℕ) → place + 1 < length r.row → (is : IsHeld limit r s)
    → Middle limit r s is.name place (get_or r.row place 0) (get_or r.row (place + 1) 0)
middle limit r s place within is =
    let front = take place r.row in
    let back = drop (place + 2) r.row in
    let a = get_or r.row place 0 in
    let b = get_or r.row (place + 1) 0 in
    let row_is : r.row ≡ front ++ a ∷ b ∷ back = parts-two place r.row within in
    let below = subst (λ (xs : List ℕ). AllByRecursion (λ p. p < r.next) xs) row_is is.ends.segments_below in
    let front_below = AllByRecursion-first (λ p. p < r.next) front (a ∷ b ∷ back) below in
    let rest = AllByRecursion-second (λ p. p < r.next) front (a ∷ b ∷ back) below in
    record {
      ends = Ends-moved limit is.name r.next r.joins r.met r.met r.row (a ∷ b ∷ (front ++ back)) s.others s.loops is.ends (λ y. refl)
          (λ y met_y. refl) (rest.0, (rest.1.0, AllByRecursion-append (λ p. p < r.next) front back front_below rest.1.1))
          (λ n. times-middle is.name n a b front back ∙ sym (ap (λ xs. times n (map is.name xs)) row_is));
      front_below = front_below;
      back_below = rest.1.1;
      size = omega (arith, length-map front is.name, length-take-le place r.row (omega (arith, within)));
      shape = is.labels ∙ ap (map is.name) row_is ∙ map-append is.name front (a ∷ b ∷ back);
    }

pub Held-cup : (limit : ℕ) (r : Sketch) (s : NumberedEnds) (at : ℕ) → 1 ≤ at → at ≤ length r.row - 1 → IsHeld limit r s
    → IsHeld limit (sketched r (Cup at)) (after_slice limit s (Cup at))
Held-cup limit r s at first last is =
    subst (λ (t : NumberedEnds). IsHeld limit (sketched r (Cup at)) t) (sym after)
    (elim (cases_eq u v) [
      | inl same ↦
          subst (λ (t : NumberedEnds). IsHeld limit (sketched r (Cup at)) t)
          (sym (ap (λ c. cond c (one_loop_more short) (tied limit short u v)) (eq-eqb u v same)))
          (record {
            name = name_after u (4 * limit + 64 + s.loops) is.name;
            ends = Ends-tied limit is.name r.next r.joins r.met a b (front ++ back) s.others s.others s.loops (s.loops + 1) u
                (4 * limit + 64 + s.loops) it.ends
                (tied-loop limit is.name r.next r.joins r.met a b (front ++ back) s.others s.loops two same);
            labels = sym (map-after u (4 * limit + 64 + s.loops) is.name (front ++ back)
                ∙ map-relabelled_none u (4 * limit + 64 + s.loops) (map is.name (front ++ back))
                (loop-left limit is.name r.next r.joins r.met a b (front ++ back) s.others s.loops two same)
                ∙ map-append is.name front back);
            crossings = is.crossings;
            drawn = is.drawn;
            whole = is.whole;
          })
      | inr apart ↦
          subst (λ (t : NumberedEnds). IsHeld limit (sketched r (Cup at)) t)
          (sym (ap (λ c. cond c (one_loop_more short) (tied limit short u v)) (ne_eqb u v apart)
          ∙ tied-is limit short u v (λ u_below v_below.
          ap (times v) (sym (map-append is.name front back))
          ∙ dart-left limit is.name r.next r.joins r.met a b (front ++ back) s.others s.loops two v_below)))
          (record {
            name = name_after (given_way limit u v) (kept_label limit u v) is.name;
            ends = Ends-two limit is.name r.next r.joins r.met a b (front ++ back) s.others s.loops u v it.ends refl refl apart;
            labels = sym (map-after (given_way limit u v) (kept_label limit u v) is.name (front ++ back)
                ∙ ap (map (relabelled (given_way limit u v) (kept_label limit u v))) (map-append is.name front back));
            crossings = is.crossings;
            drawn = is.drawn;
            whole = is.whole;
          })
    ])
  where
    place : ℕ
    place = at - 1

    within : place + 1 < length r.row
    within = omega (arith, first, last)

    a : ℕ
    a = get_or r.row place 0

    b : ℕ
    b = get_or r.row (place + 1) 0

    u : ℕ
    u = is.name a

    v : ℕ
    v = is.name b

    front : List ℕ
    front = take place r.row

    back : List ℕ
    back = drop (place + 2) r.row

    it : Middle limit r s is.name place a b
    it = middle limit r s place within is

    two : TwoEnds limit is.name r.next r.joins r.met a b (front ++ back) s.others s.loops
    two = two-ends limit is.name r.next r.joins r.met a b (front ++ back) s.others s.loops it.ends

    short : NumberedEnds
    short = with_row s (map is.name front ++ map is.name back) s.others

    after : after_slice limit s (Cup at) ≡ cup_tied limit short u v
    after =
        ap (λ row. cup_tied limit (with_row s (remove (remove row place) place) s.others) (get_or row place 0) (get_or row (place + 1) 0)) it.shape
        ∙ ap (λ row. cup_tied limit (with_row s row s.others)
        (get_or (map is.name front ++ u ∷ v ∷ map is.name back) place 0) (get_or (map is.name front ++ u ∷ v ∷ map is.name back) (place + 1) 0))
        (row-without (map is.name front) (map is.name back) u v place it.size)
        ∙ ap₂ (cup_tied limit short) (row-at (map is.name front) (map is.name back) u v place it.size)
        (row-after (map is.name front) (map is.name back) u v place it.size)
