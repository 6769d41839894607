-- What is read of a finished drawing and of loops after it. The drawing has the segments before some number, and each loop has
-- the next two. Behind the drawing alone, each of its segments is joined with one that a dart meets, partners meet joined
-- segments, and a colour tells different arcs apart. A loop more, which is a cap and a cup, joins two new segments with each
-- other only, and keeps all this. A value for each side, one for the drawing and one for each loop, is kept by all joins: so
-- loops are joined neither with each other nor with the drawing. So the first segment of each loop names a class that no dart
-- meets, no other segment does, and as many loops are counted as were drawn. If they are at most 255, their slices have no fault.
use Rattle.std.proofs.Common.{◌≡◌, ℕ, zero, suc, ◌⊎◌, inl, inr, ◌+◌, ◌-◌, ◌*◌, ◌/◌, ◌<◌, ◌≤◌, ◌∙◌, List, [], ◌∷◌, ◌++◌, length, min, refl, sym, ap, subst, arith, Bool, true, false, cond}
use Rattle.std.specs.Prelude.{◌&&◌, nat_eq, nat_lt, not, slice_index, None}
use Rattle.std.specs.List.{count_by, fold, list_any, range_with_len}
use Rattle.std.specs.Option.{option_or}
use Rattle.std.proofs.lemmas.Bool.{cases_Bool, cases_eq, eq-eqb, ne_eqb, cases_lt}
use Rattle.std.proofs.lemmas.Bool.Decides.{nat_tests}
use Rattle.kh_types.specs.Classes.{AreBelow, Respects}
use Rattle.kh_types.proofs.ClassCounts.{AreBelow-wider}
use Rattle.kh_types.proofs.ClassLemmas.{classes-finest, classes-together}
use Rattle.kh_types.proofs.JoinedClasses.{IsNamed-classes_of}
use Rattle.kh_types.proofs.Lists.{AllByRecursion-append, AllByRecursion-first, AllByRecursion-second}
use Rattle.kh_types.proofs.Ranges.{count_by-range_more, list_any-below_none}
use Rattle.morse_drawing.specs.Sketches.{IsSketched, Sketch, is_met, segment_met, sketched}
use Rattle.morse_drawing.specs.Joins.{class_met, first_slice_fault, is_loop, loop_count, meets_class, segment_classes, slice_fault}
use Rattle.morse_drawing.specs.DartRows.{IsIn}
use Rattle.morse_drawing.specs.Pages.{loop_slices}
use Rattle.morse_drawing.specs.declared.slice.Slice.TheVariants.{Cap, Cup}
use Rattle.morse_drawing.proofs.Faults.{cap-right, cup-right, in-range, met-no_loop, none-counted, row-empty}
use Rattle.morse_drawing.proofs.SketchParts.{respects-old}
use Rattle.morse_drawing.proofs.EndMoves.{fresh, fresh-new, fresh-old}

-- the segments before k are of one side, and those from k on are of sides of two segments each
abbrev pub side : ℕ → ℕ → ℕ
side k z = cond (nat_lt z k) 0 (suc ((z - k) / 2))

side-early : (k z : ℕ) → z < k → side k z ≡ 0
side-early k z below = grind (arith, nat_tests)

side-late : (k z : ℕ) → k ≤ z → side k z ≡ suc ((z - k) / 2)
side-late k z from = grind (arith, nat_tests)

side-from : (k z j : ℕ) → side k z ≡ suc j → k + 2 * j ≤ z
side-from k z j same = grind (arith, nat_tests)

-- after a drawing with k segments and some loops
pub record IsEnded (n : ℕ) (whole : ℕ → ℕ) (k loops : ℕ) (r : Sketch) : Type 0 where
  pub row : r.row ≡ []
  pub next_is : r.next ≡ k + 2 * loops
  pub joins_below : AreBelow r.next r.joins
  pub met_below : (x : ℕ) → x < 4 * n → segment_met r.met x < k
  pub known : (x : ℕ) → is_met r.met x ≡ true → x < 4 * n
  pub all_met : (x : ℕ) → x < 4 * n → is_met r.met x ≡ true
  pub dart_of : ℕ → ℕ
  pub dart_below : (segment : ℕ) → segment < k → dart_of segment < 4 * n
  pub reached : (f : ℕ → ℕ) → Respects f r.joins → (segment : ℕ) → segment < k → f segment ≡ f (segment_met r.met (dart_of segment))
  pub closed : (f : ℕ → ℕ) → Respects f r.joins → (x : ℕ) → x < 4 * n → f (segment_met r.met x) ≡ f (segment_met r.met (whole x))
  pub colour : ℕ → ℕ
  pub respects : Respects colour r.joins
  pub named : (x : ℕ) → x < 4 * n → colour (segment_met r.met x) ≡ min x (whole x)
  pub are_loops : (f : ℕ → ℕ) → Respects f r.joins → (j : ℕ) → j < loops → f (k + 2 * j) ≡ f (k + 2 * j + 1)
  pub sides : Respects (side k) r.joins

-- a finished drawing
pub IsEnded-sketched : (n : ℕ) (whole : ℕ → ℕ) (drawn : List ℕ) (r : Sketch) → IsSketched n whole whole drawn [] r
    → ((c : ℕ) → c < n → IsIn c drawn) → IsEnded n whole r.next 0 r
IsEnded-sketched n whole drawn r is all =
    let there : (x : ℕ) → x < 4 * n → IsIn (x / 4) drawn = λ x below. all (x / 4) (omega (arith, below)) in
    let early : (x : ℕ) → x < r.next → side r.next x ≡ 0 = λ x below. side-early r.next x below in
    record {
      row = row-empty n whole whole drawn r is;
      next_is = omega arith;
      joins_below = is.joins_below;
      met_below = λ x below. is.met_below x below (there x below);
      known = λ x met. (is.known x met).0;
      all_met = λ x below. is.all_met x below (there x below);
      dart_of = dart_from;
      dart_below = λ segment below. (from segment below).0;
      reached = λ f holds segment below. (from segment below).1 f holds;
      closed = λ f holds x below. is.closed f holds x below (there x below);
      colour = is.colour;
      respects = is.respects;
      named = λ x below. is.named x below (there x below);
      are_loops = λ f holds j below. absurd (omega (arith, below));
      sides = respects-old (λ x. 0) (side r.next) r.next r.joins early is.joins_below (constant r.joins);
    }
  where
    constant : (joins : List (ℕ × ℕ)) → Respects (λ x. 0) joins
    constant [] = tt
    constant (pair ∷ joins) = (refl, constant joins)

    by_case : (segment : ℕ) → (segment < r.next) ⊎ (r.next ≤ segment) → ℕ
    by_case segment (inl below) = (is.reached segment below).dart
    by_case segment (inr late) = 0

    dart_from : ℕ → ℕ
    dart_from segment = by_case segment (cases_lt segment r.next)

    from_case : (segment : ℕ) (which : (segment < r.next) ⊎ (r.next ≤ segment)) → segment < r.next → (by_case segment which < 4 * n)
        × ((f : ℕ → ℕ) → Respects f r.joins → f segment ≡ f (segment_met r.met (by_case segment which)))
    from_case segment (inl below) also = ((is.reached segment below).below, (is.reached segment below).same)
    from_case segment (inr late) also = absurd (omega (arith, late, also))

    from : (segment : ℕ) → segment < r.next → (dart_from segment < 4 * n)
        × ((f : ℕ → ℕ) → Respects f r.joins → f segment ≡ f (segment_met r.met (dart_from segment)))
    from segment below = from_case segment (cases_lt segment r.next) below

abbrev looped : Sketch → Sketch
looped r = record {
  row = [];
  next = r.next + 2;
  joins = (r.joins ++ (r.next, r.next + 1) ∷ []) ++ (r.next, r.next + 1) ∷ [];
  met = r.met;
}

looped-is : (r : Sketch) → r.row ≡ [] → sketched (sketched r (Cap 1)) (Cup 1) ≡ looped r
looped-is r empty = ap (λ row. sketched (sketched (record { row = row; next = r.next; joins = r.joins; met = r.met }) (Cap 1)) (Cup 1)) empty

IsEnded-looped : (n : ℕ) (whole : ℕ → ℕ) (k loops : ℕ) (r : Sketch) → IsEnded n whole k loops r → IsEnded n whole k (loops + 1) (looped r)
IsEnded-looped n whole k loops r is =
    let next = r.next in
    let first_joins = r.joins ++ (next, next + 1) ∷ [] in
    let joins = first_joins ++ (next, next + 1) ∷ [] in
    let later : (f : ℕ → ℕ) → Respects f joins → Respects f first_joins =
    λ f holds. AllByRecursion-first (λ (pair : ℕ × ℕ). f pair.0 ≡ f pair.1) first_joins ((next, next + 1) ∷ []) holds in
    let old : (f : ℕ → ℕ) → Respects f joins → Respects f r.joins =
    λ f holds. AllByRecursion-first (λ (pair : ℕ × ℕ). f pair.0 ≡ f pair.1) r.joins ((next, next + 1) ∷ []) (later f holds) in
    let pair_same : (f : ℕ → ℕ) → Respects f joins → f next ≡ f (next + 1) =
    λ f holds. (AllByRecursion-second (λ (pair : ℕ × ℕ). f pair.0 ≡ f pair.1) first_joins ((next, next + 1) ∷ []) holds).0 in
    let both : (f : ℕ → ℕ) → Respects f r.joins → f next ≡ f (next + 1) → Respects f joins =
    λ f holds same.
    AllByRecursion-append (λ (pair : ℕ × ℕ). f pair.0 ≡ f pair.1) first_joins ((next, next + 1) ∷ [])
    (AllByRecursion-append (λ (pair : ℕ × ℕ). f pair.0 ≡ f pair.1) r.joins ((next, next + 1) ∷ []) holds (same, tt)) (same, tt) in
    let paint = fresh next 0 is.colour in
    let next_is = is.next_is in
    record {
      row = refl;
      next_is = omega (arith, is.next_is);
      joins_below = AllByRecursion-append (λ (pair : ℕ × ℕ). (pair.0 < next + 2) × (pair.1 < next + 2)) first_joins ((next, next + 1) ∷ [])
          (AllByRecursion-append (λ (pair : ℕ × ℕ). (pair.0 < next + 2) × (pair.1 < next + 2)) r.joins ((next, next + 1) ∷ [])
          (AreBelow-wider next (next + 2) r.joins (omega arith) is.joins_below) ((omega arith, omega arith), tt))
          ((omega arith, omega arith), tt);
      met_below = is.met_below;
      known = is.known;
      all_met = is.all_met;
      dart_of = is.dart_of;
      dart_below = is.dart_below;
      reached = λ f holds. is.reached f (old f holds);
      closed = λ f holds. is.closed f (old f holds);
      colour = paint;
      respects = both paint
          (respects-old is.colour paint next r.joins (fresh-old next 0 is.colour) is.joins_below is.respects)
          (fresh-new next 0 is.colour next (omega arith) ∙ sym (fresh-new next 0 is.colour (next + 1) (omega arith)));
      named = λ x below. fresh-old next 0 is.colour (segment_met r.met x) (omega (arith, is.met_below x below, is.next_is))
          ∙ is.named x below;
      are_loops = λ f holds j below. elim (cases_eq j loops) [
        | inl same ↦
            let here : k + 2 * j ≡ next = omega (arith, same, next_is) in
            ap f here ∙ pair_same f holds ∙ ap (λ z. f (z + 1)) (sym here)
        | inr apart ↦ is.are_loops f (old f holds) j (omega (arith, below, apart))
      ];
      sides = both (side k) is.sides
          (side-late k next (omega (arith, next_is))
          ∙ ap suc (halves k loops next next_is)
          ∙ sym (side-late k (next + 1) (omega (arith, next_is))));
    }
  where
    halves : (k loops next : ℕ) → next ≡ k + 2 * loops → (next - k) / 2 ≡ (next + 1 - k) / 2
    halves k loops next is_next = omega (arith, is_next)

-- the loops are counted
count-pages_on : (p : ℕ → Bool) (k loops : ℕ) → ((c : ℕ) → c < k → p c ≡ false) → ((j : ℕ) → j < loops → p (k + 2 * j) ≡ true)
    → ((j : ℕ) → j < loops → p (k + 2 * j + 1) ≡ false) → count_by p (range_with_len 0 (k + 2 * loops)) ≡ loops
count-pages_on p k zero early first second =
    let e : k + 2 * 0 ≡ k = omega arith in
    ap (λ m. count_by p (range_with_len 0 m)) e
    ∙ none-counted p (range_with_len 0 k) (λ c is_in. early c (omega (arith, (in-range 0 k c is_in).1)))
count-pages_on p k (suc loops) early first second =
    let m = k + 2 * loops in
    let e : k + 2 * suc loops ≡ m + 1 + 1 = omega arith in
    omega (
      arith,
      ap (λ z. count_by p (range_with_len 0 z)) e,
      count_by-range_more p 0 (m + 1) (m + 1) (omega arith),
      count_by-range_more p 0 m m (omega arith),
      count-pages_on p k loops early (λ j below. first j (omega (arith, below))) (λ j below. second j (omega (arith, below))),
      ap {B = ℕ} (λ b. cond b 1 0) (first loops (omega arith)),
      ap {B = ℕ} (λ b. cond b 1 0) (second loops (omega arith)),
    )

pub loops-counted : (limit n : ℕ) (whole : ℕ → ℕ) (k loops : ℕ) (r : Sketch) → n ≤ limit → IsEnded n whole k loops r
    → loop_count limit r ≡ loops
loops-counted limit n whole k loops r small is =
    let class : ℕ → ℕ = λ z. slice_index (segment_classes r) z in
    let together = classes-together r.next r.joins is.joins_below in
    let names = IsNamed-classes_of r.next r.joins is.joins_below in
    let within : (j : ℕ) → j < loops → k + 2 * j + 1 < r.next = λ j below. omega (arith, below, is.next_is) in
    let least : (j : ℕ) → j < loops → class (k + 2 * j) ≡ k + 2 * j =
    λ j below.
    let c = k + 2 * j in
    let c_below : c < r.next = omega (arith, within j below) in
    let at_most = names.least c c_below in
    let side_same = classes-finest (side k) r.next r.joins is.sides is.joins_below (class c) c (omega (arith, at_most, c_below)) c_below
    (names.own c c_below) in
    let half : (k + 2 * j - k) / 2 ≡ j = omega arith in
    omega (arith, at_most, side-from k (class c) j (side_same ∙ side-late k c (omega arith) ∙ ap suc half)) in
    ap (λ m. count_by (is_loop limit r) (range_with_len 0 m)) is.next_is
    ∙ count-pages_on (is_loop limit r) k loops
    (λ c below. met-no_loop limit r c (is.dart_of c) (omega (arith, is.dart_below c below, small))
    (is.all_met (is.dart_of c) (is.dart_below c below)) (is.reached class together c below))
    (λ j below.
    let c = k + 2 * j in
    let unmet : (dart : ℕ) → dart < 4 * limit → meets_class r c dart ≡ false =
    λ dart dart_below. elim (cases_Bool (is_met r.met dart)) [
      | inr fails ↦ ap (λ t. t && nat_eq (class_met r dart) c) fails
      | inl met ↦
          let segment_below = is.met_below dart (is.known dart met) in
          let class_low = names.least (segment_met r.met dart) (omega (arith, segment_below, is.next_is)) in
          ap (λ t. t && nat_eq (class_met r dart) c) met ∙ ne_eqb (class_met r dart) c (λ same. omega (arith, same, class_low, segment_below))
    ] in
    ap (λ t. t && (not (list_any (meets_class r c) (range_with_len 0 (4 * limit)))
    && not (list_any (λ end. nat_eq (slice_index (segment_classes r) end) c) r.row))) (eq-eqb (class c) c (least j below))
    ∙ ap (λ t. not t && not (list_any (λ end. nat_eq (slice_index (segment_classes r) end) c) r.row))
    (list_any-below_none (meets_class r c) (4 * limit) unmet)
    ∙ ap (λ row. not (list_any (λ end. nat_eq (slice_index (segment_classes r) end) c) row)) is.row)
    (λ j below.
    let c = k + 2 * j + 1 in
    let class_is : class c ≡ k + 2 * j = sym (is.are_loops class together j below) ∙ least j below in
    ap (λ t. t && (not (list_any (meets_class r c) (range_with_len 0 (4 * limit)))
    && not (list_any (λ end. nat_eq (slice_index (segment_classes r) end) c) r.row))) (ne_eqb (class c) c (λ same. omega (arith, same, class_is))))

-- the loops of a drawing have no fault
pub IsEnded-loops : (n : ℕ) (whole : ℕ → ℕ) (k before loops : ℕ) (r : Sketch) → IsEnded n whole k before r
    → IsEnded n whole k (before + loops) (fold sketched r (loop_slices loops))
IsEnded-loops n whole k before zero r is =
    let e : before ≡ before + 0 = omega arith in subst (λ (m : ℕ). IsEnded n whole k m r) e is
IsEnded-loops n whole k before (suc loops) r is =
    let e : before + 1 + loops ≡ before + suc loops = omega arith in
    subst (λ (m : ℕ). IsEnded n whole k m (fold sketched (sketched (sketched r (Cap 1)) (Cup 1)) (loop_slices loops))) e
    (IsEnded-loops n whole k (before + 1) loops (sketched (sketched r (Cap 1)) (Cup 1))
    (subst (λ (w : Sketch). IsEnded n whole k (before + 1) w) (sym (looped-is r is.row)) (IsEnded-looped n whole k before r is)))

pub loops-faultless : (limit n : ℕ) (whole : ℕ → ℕ) (k before loops : ℕ) (r : Sketch) (number : ℕ) → n ≤ limit → before + loops ≤ 255
    → IsEnded n whole k before r → first_slice_fault limit r number (loop_slices loops) ≡ None
loops-faultless limit n whole k before zero r number small few is = refl
loops-faultless limit n whole k before (suc loops) r number small few is =
    let next = subst (λ (w : Sketch). IsEnded n whole k (before + 1) w) (sym (looped-is r is.row)) (IsEnded-looped n whole k before r is) in
    let opened = sketched r (Cap 1) in
    let size : length r.row ≡ 0 = ap (λ zs. length zs) is.row in
    let two : length opened.row ≡ 2 =
    ap (λ row. length (sketched (record { row = row; next = r.next; joins = r.joins; met = r.met }) (Cap 1)).row) is.row in
    let cap = cap-right limit number 1 r (omega arith) (omega (arith, size)) (omega (arith, size)) in
    let cup = cup-right limit (number + 1) 1 opened (omega arith) (omega (arith, two))
    (omega (arith, loops-counted limit n whole k (before + 1) (sketched opened (Cup 1)) small next, few)) in
    ap (λ t. option_or t (option_or (slice_fault limit opened (number + 1) (Cup 1))
    (first_slice_fault limit (sketched opened (Cup 1)) (number + 1 + 1) (loop_slices loops)))) cap
    ∙ ap (λ t. option_or t (first_slice_fault limit (sketched opened (Cup 1)) (number + 1 + 1) (loop_slices loops))) cup
    ∙ loops-faultless limit n whole k (before + 1) loops (sketched opened (Cup 1)) (number + 1 + 1) small (omega (arith, few)) next

pub IsEnded-next : (n : ℕ) (whole : ℕ → ℕ) (k loops : ℕ) (r : Sketch) → IsEnded n whole k loops r
    → IsEnded n whole k (loops + 1) (sketched (sketched r (Cap 1)) (Cup 1))
IsEnded-next n whole k loops r is = grind (arith, nat_tests, looped-is r is.row, IsEnded-looped n whole k loops r is)
