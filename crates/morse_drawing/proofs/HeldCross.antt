-- The row of open ends by numbers: if it fits what is read of the slices, it still does after a cross. The two neighbours that
-- cross are taken to the front. Then the first meets the upper left dart, the second meets the upper right one, and two segments
-- begin at the lower darts; the lemmas on open ends say that each of these four steps keeps what is known. At last the row is put
-- in its order again, and the four darts in the order in which the cross lists them. By numbers the same labels are renamed, and
-- then the lower darts are set in the two places: both ways give one row. The crossing was not drawn, so none of its darts stands
-- in the row before. The crossings that are drawn are those before and this one.
use Rattle.std.proofs.Common.{◌≡◌, ◌≢◌, ℕ, inl, inr, ◌+◌, ◌-◌, ◌*◌, ◌/◌, ◌%◌, ◌<◌, ◌≤◌, ◌∙◌, List, [], ◌∷◌, ◌++◌, length, map, get_or, set, take, drop, sym, ap, ap₂, subst, refl, arith, Bool, true, false, cond}
use Rattle.std.specs.Prelude.{◌||◌, nat_eq}
use Rattle.std.specs.List.{AllByRecursion}
use Rattle.std.proofs.lemmas.Bool.{cases_eq}
use Rattle.std.proofs.lemmas.Bool.Decides.{nat_tests}
use Rattle.std.proofs.lemmas.List.{get_or-set_other, get_or-set_same, length-map, length-set, map-append, set-append_right}
use Rattle.kh_types.proofs.Lists.{AllByRecursion-append}
use Rattle.morse_drawing.proofs.NumberedEnds.{NumberedEnds, after_slice, relabelled, tied}
use Rattle.morse_drawing.specs.Sketches.{Sketch, dart_after, is_met, segment_met, sketched}
use Rattle.morse_drawing.specs.declared.slice.Slice.TheVariants.{Cross}
use Rattle.morse_drawing.proofs.EndMoves.{Ends-moved, Ends-started, fresh, fresh-new, fresh-old, map-fresh, met-rest, wider}
use Rattle.morse_drawing.proofs.EndTimes.{hit-same, times, times-other}
use Rattle.morse_drawing.proofs.Ends.{Ends}
use Rattle.morse_drawing.proofs.HeldEnds.{IsHeld, Middle, map-append_times, middle, row-after, row-at}
use Rattle.morse_drawing.proofs.MetEnds.{Ends-meets, bare-none, given_way, kept_label, map-met, met_name, others_found, tied-is, with_row}
use Rattle.morse_drawing.proofs.SketchParts.{chain, cross_met, met-here, met-other}

-- four darts may come in another order
perm-or : (p q r s t : Bool) → (p || (q || (r || (s || t)))) ≡ (r || (q || (s || (p || t))))
perm-or p q r s t = grind (arith, nat_tests)

perm-chain : (d0 d1 d2 d3 a p q b w z : ℕ) → d0 ≢ d1 → d0 ≢ d2 → d0 ≢ d3 → d1 ≢ d2 → d1 ≢ d3 → d2 ≢ d3
    → chain d0 d1 d2 d3 a p q b w z ≡ chain d2 d1 d3 d0 q p b a w z
perm-chain d0 d1 d2 d3 a p q b w z d01 d02 d03 d12 d13 d23 = grind (arith, nat_tests)

-- two neighbours of a row are put in place
set-two : (front back : List ℕ) (u v x y place : ℕ) → length front ≡ place
    → set (set (front ++ u ∷ v ∷ back) place x) (place + 1) y ≡ front ++ x ∷ y ∷ back
set-two front back u v x y place size =
    let none : place - place ≡ 0 = omega arith in
    let one : place + 1 - place ≡ 1 = omega arith in
    ap (λ xs. set xs (place + 1) y)
    (set-append_right front (u ∷ v ∷ back) place place x size (omega arith) ∙ ap (λ k. front ++ set (u ∷ v ∷ back) k x) none)
    ∙ set-append_right front (x ∷ v ∷ back) place (place + 1) y size (omega arith) ∙ ap (λ k. front ++ set (x ∷ v ∷ back) k y) one

-- a dart that stands nowhere, after another has met an end
none-after : (limit u d e : ℕ) (row : List ℕ) → times e row ≡ 0 → 1 ≤ times u row → d ≢ e
    → times e (map (relabelled (given_way limit u d) (kept_label limit u d)) row) ≡ 0
none-after limit u d e row none stands apart =
    times-other (given_way limit u d) (kept_label limit u d) e row
    (λ same. by_case _ same) (λ same. by_other _ same) ∙ none
  where
    not_u : e ≢ u
    not_u = λ same. absurd (omega (arith, none, stands, ap (λ n. times n row) same))

    by_case : (c : Bool) → e ≡ cond c u d → ⊥
    by_case true same = not_u same
    by_case false same = apart (sym same)

    by_other : (c : Bool) → e ≡ cond c d u → ⊥
    by_other true same = apart (sym same)
    by_other false same = not_u same

-- a cross is read, whose upper left dart is o
cross-held : (limit : ℕ) (r : Sketch) (s : NumberedEnds) (at o : ℕ) → 1 ≤ at → at ≤ length r.row - 1 → o < 4 * limit
    → get_or s.drawn (o / 4) false ≡ false → IsHeld limit r s
    → IsHeld limit (sketched r (Cross at (o / 4 + 1) (o % 4))) (after_slice limit s (Cross at (o / 4 + 1) (o % 4)))
cross-held limit r s at o first last o_below fresh_crossing is = record {
  name = name5;
  ends = ends5;
  labels = ap (λ row. set (set row place d1) (place + 1) d2) both_row ∙ set-two front2 back2 _ _ d1 d2 place size2 ∙ sym final;
  crossings = length-set (both.drawn) (o / 4 + 1 - 1) true ∙ ap (λ xs. length xs) both_drawn ∙ is.crossings;
  drawn = λ c below. elim (cases_eq c (o / 4)) [
    | inl same ↦
        ap (λ xs. get_or (set xs (o / 4 + 1 - 1) true) c false) both_drawn ∙ ap (λ k. get_or (set s.drawn k true) c false) one_less
        ∙ ap (λ k. get_or (set s.drawn (o / 4) true) k false) same
        ∙ get_or-set_same s.drawn (o / 4) true false (omega (arith, o_below, is.crossings))
        ∙ sym (met-here o a b next (4 * c) r.met (omega (arith, same)))
    | inr other ↦
        ap (λ xs. get_or (set xs (o / 4 + 1 - 1) true) c false) both_drawn ∙ ap (λ k. get_or (set s.drawn k true) c false) one_less
        ∙ get_or-set_other s.drawn (o / 4) c true false other ∙ is.drawn c below
        ∙ sym (met-other o a b next (4 * c) r.met (λ e. other (omega (arith, e))))
  ];
  whole = λ x. elim (cases_eq (x / 4) (o / 4)) [
    | inl same ↦
        met-here o a b next x r.met same ∙ sym (met-here o a b next (4 * (x / 4)) r.met (omega (arith, same)))
    | inr other ↦
        met-other o a b next x r.met other ∙ is.whole x
        ∙ sym (met-other o a b next (4 * (x / 4)) r.met (λ e. other (omega (arith, e))))
  ];
}
  where
    place : ℕ
    place = at - 1

    next : ℕ
    next = r.next

    a : ℕ
    a = get_or r.row place 0

    b : ℕ
    b = get_or r.row (place + 1) 0

    front : List ℕ
    front = take place r.row

    back : List ℕ
    back = drop (place + 2) r.row

    d0 : ℕ
    d0 = dart_after (o / 4 + 1) (o % 4) 0

    d1 : ℕ
    d1 = dart_after (o / 4 + 1) (o % 4) 1

    d2 : ℕ
    d2 = dart_after (o / 4 + 1) (o % 4) 2

    d3 : ℕ
    d3 = dart_after (o / 4 + 1) (o % 4) 3

    it : Middle limit r s is.name place a b
    it = middle limit r s place (omega (arith, first, last)) is

    one_less : o / 4 + 1 - 1 ≡ o / 4
    one_less = omega arith

    unmet : (more : ℕ) → is_met r.met (dart_after (o / 4 + 1) (o % 4) more) ≡ false
    unmet more =
        let here : dart_after (o / 4 + 1) (o % 4) more / 4 ≡ o / 4 = omega arith in
        is.whole (dart_after (o / 4 + 1) (o % 4) more) ∙ ap (λ c. is_met r.met (4 * c)) here
        ∙ sym (is.drawn (o / 4) (omega (arith, o_below))) ∙ fresh_crossing

    there : (more : ℕ) → dart_after (o / 4 + 1) (o % 4) more < 4 * limit
    there more = omega (arith, o_below)

    -- the first end meets its dart, and then the second
    name1 : ℕ → ℕ
    name1 = met_name limit is.name next a d0

    others1 : List ℕ
    others1 = others_found limit (is.name a) d0 s.others

    ends1 : Ends limit name1 next r.joins ((d0, a) ∷ r.met) (b ∷ (front ++ back)) others1 s.loops
    ends1 =
        Ends-meets limit is.name next r.joins r.met a (b ∷ (front ++ back)) s.others s.loops d0 it.ends (there 0)
        (unmet 0)

    name2 : ℕ → ℕ
    name2 = met_name limit name1 next b d3

    others2 : List ℕ
    others2 = others_found limit (name1 b) d3 others1

    met2 : List (ℕ × ℕ)
    met2 = (d3, b) ∷ (d0, a) ∷ r.met

    ends2 : Ends limit name2 next r.joins met2 (front ++ back) others2 s.loops
    ends2 =
        Ends-meets limit name1 next r.joins ((d0, a) ∷ r.met) b (front ++ back) others1 s.loops d3 ends1 (there 3)
        (met-rest d0 a d3 r.met (λ e. omega (arith, e)) ∙ unmet 3)

    -- and two segments begin
    name3 : ℕ → ℕ
    name3 = fresh next d1 name2

    ends3 : Ends limit name3 (next + 1) r.joins ((d1, next) ∷ met2) (next ∷ (front ++ back)) others2 s.loops
    ends3 =
        Ends-started limit name2 next r.joins met2 (front ++ back) others2 s.loops d1 ends2 (there 1)
        (met-rest d3 b d1 ((d0, a) ∷ r.met) (λ e. omega (arith, e)) ∙ met-rest d0 a d1 r.met (λ e. omega (arith, e)) ∙ unmet 1)

    name5 : ℕ → ℕ
    name5 = fresh (next + 1) d2 name3

    ends4 : Ends limit name5 (next + 1 + 1) r.joins ((d2, next + 1) ∷ (d1, next) ∷ met2) ((next + 1) ∷ next ∷ (front ++ back)) others2 s.loops
    ends4 =
        Ends-started limit name3 (next + 1) r.joins ((d1, next) ∷ met2) (next ∷ (front ++ back)) others2 s.loops d2 ends3
        (there 2)
        (met-rest d1 next d2 met2 (λ e. omega (arith, e)) ∙ met-rest d3 b d2 ((d0, a) ∷ r.met) (λ e. omega (arith, e))
        ∙ met-rest d0 a d2 r.met (λ e. omega (arith, e)) ∙ unmet 2)

    two_more : next + 1 + 1 ≡ next + 2
    two_more = omega arith

    moved_below : AllByRecursion (λ p. p < next + 1 + 1) (front ++ next ∷ (next + 1) ∷ back)
    moved_below =
        AllByRecursion-append (λ p. p < next + 1 + 1) front (next ∷ (next + 1) ∷ back)
        (wider next (next + 1 + 1) front (omega arith) it.front_below)
        (omega arith, (omega arith, wider next (next + 1 + 1) back (omega arith) it.back_below))

    same_times : (n : ℕ) → times n (map name5 (front ++ next ∷ (next + 1) ∷ back)) ≡ times n (map name5 ((next + 1) ∷ next ∷ (front ++ back)))
    same_times n =
        omega (arith, map-append_times name5 n front (next ∷ (next + 1) ∷ back), map-append_times name5 n front back)

    -- the row by numbers
    first_turn : ℕ → ℕ
    first_turn = relabelled (given_way limit (is.name a) d0) (kept_label limit (is.name a) d0)

    second_turn : ℕ → ℕ
    second_turn = relabelled (given_way limit (name1 b) d3) (kept_label limit (name1 b) d3)

    row1 : List ℕ
    row1 = map first_turn s.row

    row2 : List ℕ
    row2 = map second_turn row1

    left : NumberedEnds
    left = tied limit s (get_or s.row place 0) d0

    both : NumberedEnds
    both = tied limit left (get_or left.row (place + 1) 0) d3

    none_of : (more : ℕ) → times (dart_after (o / 4 + 1) (o % 4) more) s.row ≡ 0
    none_of more =
        ap (times (dart_after (o / 4 + 1) (o % 4) more)) is.labels
        ∙ bare-none limit is.name next r.joins r.met r.row s.others s.loops (dart_after (o / 4 + 1) (o % 4) more)
        is.ends (there more) (unmet more)

    left_is : left ≡ with_row s row1 others1
    left_is =
        ap (λ u. tied limit s u d0)
        (ap (λ row. get_or row place 0) it.shape ∙ row-at (map is.name front) (map is.name back) (is.name a) (is.name b) place it.size)
        ∙ tied-is limit s (is.name a) d0 (λ u_below d_below. none_of 0)

    front1 : List ℕ
    front1 = map name1 front

    shape1 : row1 ≡ front1 ++ first_turn (is.name a) ∷ name1 b ∷ map name1 back
    shape1 =
        ap (map first_turn) it.shape ∙ map-append first_turn (map is.name front) (is.name a ∷ is.name b ∷ map is.name back)
        ∙ ap₂ (λ xs ys. xs ++ first_turn (is.name a) ∷ ys) (sym (map-met limit is.name next a d0 front it.front_below))
        (ap₂ (λ x xs. first_turn x ∷ xs) (sym (fresh-old next d0 is.name b it.ends.segments_below.1.0))
        (sym (map-met limit is.name next a d0 back it.back_below)))

    size1 : length front1 ≡ place
    size1 = omega (arith, length-map front name1, length-map front is.name, it.size)

    both_is : both ≡ with_row s row2 others2
    both_is =
        ap (λ (t : NumberedEnds). tied limit t (get_or t.row (place + 1) 0) d3) left_is
        ∙ ap (λ v. tied limit (with_row s row1 others1) v d3)
        (ap (λ row. get_or row (place + 1) 0) shape1 ∙ row-after front1 (map name1 back) _ (name1 b) place size1)
        ∙ tied-is limit (with_row s row1 others1) (name1 b) d3
        (λ v_below d_below. none-after limit (is.name a) d0 d3 s.row (none_of 3) first_stands (λ e. omega (arith, e)))
      where
        first_stands : 1 ≤ times (is.name a) s.row
        first_stands =
            omega (arith, ap (times (is.name a)) it.shape, map-append-stands (map is.name front) (map is.name back) (is.name a) (is.name b))
          where
            map-append-stands : (xs ys : List ℕ) (x y : ℕ) → 1 ≤ times x (xs ++ x ∷ y ∷ ys)
            map-append-stands [] ys x y = omega (arith, hit-same x x refl)
            map-append-stands (z ∷ zs) ys x y = omega (arith, map-append-stands zs ys x y)

    ends5 : Ends limit name5 (next + 2) r.joins (cross_met o a b next r.met) (front ++ next ∷ (next + 1) ∷ back) both.others both.loops
    ends5 =
        subst (λ (t : NumberedEnds). Ends limit name5 (next + 2) r.joins (cross_met o a b next r.met) (front ++ next ∷ (next + 1) ∷ back) t.others t.loops)
        (sym both_is)
        (subst (λ (m : ℕ). Ends limit name5 m r.joins (cross_met o a b next r.met) (front ++ next ∷ (next + 1) ∷ back) others2 s.loops) two_more
        (Ends-moved limit name5 (next + 1 + 1) r.joins ((d2, next + 1) ∷ (d1, next) ∷ met2) (cross_met o a b next r.met)
        ((next + 1) ∷ next ∷ (front ++ back)) (front ++ next ∷ (next + 1) ∷ back) others2 s.loops ends4
        (λ y. perm-or (nat_eq d0 y) (nat_eq d1 y) (nat_eq d2 y) (nat_eq d3 y) (is_met r.met y))
        (λ y met_y. perm-chain d0 d1 d2 d3 a next (next + 1) b (segment_met r.met y) y (λ e. omega (arith, e)) (λ e. omega (arith, e))
        (λ e. omega (arith, e)) (λ e. omega (arith, e)) (λ e. omega (arith, e)) (λ e. omega (arith, e)))
        moved_below same_times))

    both_drawn : both.drawn ≡ s.drawn
    both_drawn = ap (λ (t : NumberedEnds). t.drawn) both_is

    front2 : List ℕ
    front2 = map name2 front

    back2 : List ℕ
    back2 = map name2 back

    size2 : length front2 ≡ place
    size2 = omega (arith, length-map front name2, length-map front is.name, it.size)

    both_row : both.row ≡ front2 ++ second_turn (first_turn (is.name a)) ∷ second_turn (name1 b) ∷ back2
    both_row =
        ap (λ (t : NumberedEnds). t.row) both_is ∙ ap (map second_turn) shape1
        ∙ map-append second_turn front1 (_ ∷ name1 b ∷ map name1 back)
        ∙ ap₂ (λ xs ys. xs ++ second_turn (first_turn (is.name a)) ∷ second_turn (name1 b) ∷ ys)
        (sym (map-met limit name1 next b d3 front it.front_below)) (sym (map-met limit name1 next b d3 back it.back_below))

    same_old : (xs : List ℕ) → AllByRecursion (λ p. p < next) xs → map name5 xs ≡ map name2 xs
    same_old xs below =
        map-fresh (next + 1) d2 name3 xs (wider next (next + 1) xs (omega arith) below) ∙ map-fresh next d1 name2 xs below

    final : map name5 (front ++ next ∷ (next + 1) ∷ back) ≡ front2 ++ d1 ∷ d2 ∷ back2
    final =
        map-append name5 front (next ∷ (next + 1) ∷ back)
        ∙ ap₂ (λ xs ys. xs ++ name5 next ∷ name5 (next + 1) ∷ ys) (same_old front it.front_below) (same_old back it.back_below)
        ∙ ap₂ (λ x y. front2 ++ x ∷ y ∷ back2)
        (fresh-old (next + 1) d2 name3 next (omega arith) ∙ fresh-new next d1 name2 next (omega arith))
        (fresh-new (next + 1) d2 name3 (next + 1) (omega arith))

pub Held-cross : (limit : ℕ) (r : Sketch) (s : NumberedEnds) (at crossing slot : ℕ) → 1 ≤ at → at ≤ length r.row - 1 → 1 ≤ crossing
    → crossing ≤ limit → slot < 4 → get_or s.drawn (crossing - 1) false ≡ false → IsHeld limit r s
    → IsHeld limit (sketched r (Cross at crossing slot)) (after_slice limit s (Cross at crossing slot))
Held-cross limit r s at crossing slot first last one most small unseen is =
    let o = 4 * (crossing - 1) + slot in
    let crossing_is : o / 4 + 1 ≡ crossing = omega (arith, one, small) in
    let slot_is : o % 4 ≡ slot = omega (arith, small) in
    let before : o / 4 ≡ crossing - 1 = omega (arith, small) in
    subst (λ (c : ℕ). IsHeld limit (sketched r (Cross at c slot)) (after_slice limit s (Cross at c slot))) crossing_is
    (subst (λ (p : ℕ). IsHeld limit (sketched r (Cross at (o / 4 + 1) p)) (after_slice limit s (Cross at (o / 4 + 1) p))) slot_is
    (cross-held limit r s at o first last (omega (arith, one, most, small)) (ap (λ c. get_or s.drawn c false) before ∙ unseen) is))
