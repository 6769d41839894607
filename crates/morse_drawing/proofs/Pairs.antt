-- The pairs of darts that are read of a finished drawing are its arcs; so its slices join its arcs and loops. Two darts meet one
-- class of segments exactly where they are one or partners: partners meet joined segments, and the colour of a class is the
-- lesser dart of its arc. So each dart that comes before its partner gives one pair, and no other dart gives any. From this
-- follow the laws on drawings: the slices join the arcs and loops without a fault, there are three for each crossing and two for
-- each piece and loop, there are as many crosses as crossings, and the code that is read back is the drawn one up to the numbers
-- of arcs. Loops alone are a drawing without crossings: up to 255 are joined, and of more the slice 512, which closes one loop
-- too many, has the fault. At the top stand tests and lists that other files use too.
use Rattle.std.proofs.Common.{◌≡◌, ℕ, zero, suc, ◌⊎◌, inl, inr, ◌+◌, ◌-◌, ◌*◌, ◌<◌, ◌≤◌, ◌∙◌, List, [], ◌∷◌, ◌++◌, length, map, min, refl, sym, ap, subst, arith, Bool, true, false, cond}
use Rattle.std.specs.Prelude.{◌&&◌, nat_eq, nat_lt, slice_index, Some, None, Ok, Err, Result, IsTrue}
use Rattle.std.specs.List.{count_by, filter, flat_map, fold, range_with_len}
use Rattle.std.specs.Option.{option_or}
use Rattle.std.proofs.lemmas.Bool.{cases_Bool, cases_eq, eq-eqb, eqb-true, and_from, ltb-true, lt-ltb}
use Rattle.std.proofs.lemmas.Bool.Decides.{nat_tests}
use Rattle.std.proofs.lemmas.Grind.{flat_map-append}
use Rattle.std.proofs.lemmas.List.{append-nil, length-append, length-map}
use Rattle.std.proofs.lemmas.List.FromFn.{length-range_with_len}
use Rattle.std.proofs.lemmas.List.Concat.{flat_map-cons}
use Rattle.std.proofs.lemmas.List.Sums.{fold-append, sum_by-cons}
use Rattle.kh_types.specs.Acceptance.{accepted}
use Rattle.kh_types.specs.Code.{Code}
use Rattle.kh_types.specs.Darts.{partner_at}
use Rattle.kh_types.specs.declared.limits.TheConstants.{COMPONENTS}
use Rattle.kh_types.proofs.AcceptedCodes.{accepted_loops}
use Rattle.kh_types.proofs.AcceptedLemmas.{HasArcsTwice-accepted}
use Rattle.kh_types.proofs.ClassLemmas.{classes-finest, classes-together}
use Rattle.kh_types.proofs.FilteredRanges.{filter-one, filter-none}
use Rattle.kh_types.proofs.Ranges.{range-append}
use Rattle.kh_types.proofs.Tests.{agree}
use Rattle.face_walk.specs.AddedArcs.{open_piece_count}
use Rattle.morse_drawing.specs.Sketches.{Sketch, is_met, no_sketch, segment_met, sketched, sketch_of}
use Rattle.morse_drawing.specs.declared.fault.SliceFault.{SliceFault}
use Rattle.morse_drawing.specs.Joins.{JoinedDarts, answer_by, arc_from, arc_pairs, are_ends, class_met, ends_fault, ends_of, fault_where, first_slice_fault, is_first, is_outside, joined_in, joined_within, loop_count, slice_fault, pair_with, pairs_from, pairs_of, segment_classes}
use Rattle.morse_drawing.specs.declared.fault.SliceFault.TheVariants.{Ends, Loops, Place}
use Rattle.morse_drawing.proofs.NextPages.{IsWholeSphere}
use Rattle.morse_drawing.specs.ReadBack.{AreAlikeCodes, code_read, crossing_read, is_cross}
use Rattle.morse_drawing.proofs.ReadBack.{arcs-sketched}
use Rattle.morse_drawing.specs.Pages.{loop_slices, page_of, slices_with}
use Rattle.morse_drawing.specs.declared.slice.Slice.TheVariants.{Cap, Cup}
use Rattle.morse_drawing.proofs.Faults.{cap-right, cup-right, first_slice_fault-none}
use Rattle.morse_drawing.proofs.Loops.{IsEnded, IsEnded-loops, IsEnded-next, IsEnded-sketched, loops-counted, loops-faultless}
use Rattle.morse_drawing.proofs.PageEnds.{IsDrawn-page_of, IsWholeSphere-accepted, least_same}
use Rattle.morse_drawing.proofs.PageLemmas.{crosses-append}

-- tests
pub and_first : (a b : Bool) → (a && b) ≡ true → a ≡ true
and_first a b holds = grind (arith, nat_tests)

pub and_second : (a b : Bool) → (a && b) ≡ true → b ≡ true
and_second a b holds = grind (arith, nat_tests)

-- what four tests say that all hold
pub and_four : (a b c d : Bool) → (a && (b && (c && d))) ≡ true → (a ≡ true) × (b ≡ true) × (c ≡ true) × (d ≡ true)
and_four a b c d holds = grind (arith, nat_tests)

-- lists of at most one, one after another
pub flat-range : {X : Type 0} (f : ℕ → List X) (p : ℕ → Bool) (h : ℕ → X) (a n : ℕ)
    → ((k : ℕ) → a ≤ k → k < a + n → f k ≡ cond (p k) (h k ∷ []) []) → flat_map f (range_with_len a n) ≡ map h (filter p (range_with_len a n))
flat-range {X} f p h a zero same = refl
flat-range {X} f p h a (suc n) same =
    let rest = range_with_len (a + 1) n in
    flat_map-cons f a rest
    ∙ ap (λ (zs : List X). zs ++ flat_map f rest) (same a (omega arith) (omega arith))
    ∙ ap (λ (zs : List X). cond (p a) (h a ∷ []) [] ++ zs)
    (flat-range f p h (a + 1) n (λ k from below. same k (omega (arith, from)) (omega (arith, below))))
    ∙ by_case (p a) (filter p rest)
  where
    by_case : (b : Bool) (zs : List ℕ) → cond b (h a ∷ []) [] ++ map h zs ≡ map h (cond b (a ∷ zs) zs)
    by_case b zs = grind (arith, nat_tests)

flat-none : {X : Type 0} (f : ℕ → List X) (a n : ℕ) → ((k : ℕ) → a ≤ k → k < a + n → f k ≡ []) → flat_map f (range_with_len a n) ≡ []
flat-none {X} f a zero none = refl
flat-none {X} f a (suc n) none =
    let rest = range_with_len (a + 1) n in
    flat_map-cons f a rest ∙ ap (λ (zs : List X). zs ++ flat_map f rest) (none a (omega arith) (omega arith))
    ∙ flat-none f (a + 1) n (λ k from below. none k (omega (arith, from)) (omega (arith, below)))

-- two darts meet one class of segments exactly where they are partners
partners-joined : (n : ℕ) (whole : ℕ → ℕ) (k loops : ℕ) (r : Sketch) (x y : ℕ) → IsWholeSphere n whole → IsEnded n whole k loops r
    → x < 4 * n → y < 4 * n → class_met r x ≡ class_met r y → (y ≡ x) ⊎ (y ≡ whole x)
partners-joined n whole k loops r x y is_whole is x_below y_below joined =
    let back = is_whole.pairing.back in
    let within : (z : ℕ) → z < 4 * n → segment_met r.met z < r.next = λ z below. omega (arith, is.met_below z below, is.next_is) in
    let same : min x (whole x) ≡ min y (whole y) =
    sym (is.named x x_below)
    ∙ classes-finest is.colour r.next r.joins is.respects is.joins_below (segment_met r.met x) (segment_met r.met y)
    (within x x_below) (within y y_below) joined
    ∙ is.named y y_below in
    elim (least_same x (whole x) y (whole y) same) [
      | inl first ↦ elim first [
        | inl one ↦ inl one
        | inr other ↦ inr (sym (back y y_below) ∙ ap whole (sym other))
      ]
      | inr second ↦ elim second [
        | inl partner ↦ inr partner
        | inr both ↦ inl (sym (back y y_below) ∙ ap whole (sym both) ∙ back x x_below)
      ]
    ]

ends-are : (n : ℕ) (whole : ℕ → ℕ) (k loops : ℕ) (r : Sketch) (x y : ℕ) → IsWholeSphere n whole → IsEnded n whole k loops r
    → x < 4 * n → are_ends r x y ≡ (is_first whole x && nat_eq y (whole x))
ends-are n whole k loops r x y is_whole is x_below =
    let one = nat_lt x y in
    let two = is_met r.met x in
    let three = is_met r.met y in
    let four = nat_eq (class_met r x) (class_met r y) in
    agree (are_ends r x y) (is_first whole x && nat_eq y (whole x))
    (λ holds.
    let parts = and_four one two three four holds in
    let less = ltb-true x y parts.0 in
    let y_below = is.known y parts.2 in
    let joined = eqb-true (class_met r x) (class_met r y) parts.3 in
    elim (partners-joined n whole k loops r x y is_whole is x_below y_below joined) [
      | inl same ↦ absurd (omega (arith, less, same))
      | inr partner ↦
          and_from (is_first whole x) (nat_eq y (whole x)) (lt-ltb x (whole x) (omega (arith, less, partner))) (eq-eqb y (whole x) partner)
    ])
    (λ holds.
    let less = ltb-true x (whole x) (and_first (is_first whole x) (nat_eq y (whole x)) holds) in
    let partner = eqb-true y (whole x) (and_second (is_first whole x) (nat_eq y (whole x)) holds) in
    let y_below : y < 4 * n = omega (arith, partner, is_whole.pairing.below x x_below) in
    let joined : class_met r x ≡ class_met r y =
    is.closed (λ z. slice_index (segment_classes r) z) (classes-together r.next r.joins is.joins_below) x x_below
    ∙ ap (λ z. class_met r z) (sym partner) in
    and_from one (two && (three && four)) (lt-ltb x y (omega (arith, less, partner)))
    (and_from two (three && four) (is.all_met x x_below)
    (and_from three four (is.all_met y y_below) (eq-eqb (class_met r x) (class_met r y) joined))))

pub pairs-are : (limit n : ℕ) (whole : ℕ → ℕ) (k loops : ℕ) (r : Sketch) → n ≤ limit → IsWholeSphere n whole → IsEnded n whole k loops r
    → pairs_of limit r ≡ arc_pairs n whole
pairs-are limit n whole k loops r small is_whole is =
    let rest = 4 * limit - 4 * n in
    let e : 4 * limit ≡ 4 * n + rest = omega (arith, small) in
    let zero_e : 0 + 4 * n ≡ 4 * n = omega arith in
    ap (λ m. flat_map (pairs_from limit r) (range_with_len 0 m)) e
    ∙ ap (flat_map (pairs_from limit r)) (range-append 0 (4 * n) rest)
    ∙ flat_map-append (pairs_from limit r) (range_with_len 0 (4 * n)) (range_with_len (0 + 4 * n) rest)
    ∙ ap (λ zs. flat_map (pairs_from limit r) (range_with_len 0 (4 * n)) ++ zs)
    (flat-none (pairs_from limit r) (0 + 4 * n) rest
    (λ x from below. ap (map (pair_with x)) (filter-none (are_ends r x) 0 (4 * limit) (λ y y_from y_below. no_ends x y (omega (arith, from))))))
    ∙ append-nil (flat_map (pairs_from limit r) (range_with_len 0 (4 * n)))
    ∙ flat-range (pairs_from limit r) (is_first whole) (arc_from whole) 0 (4 * n)
    (λ x from below. one_pair x (omega (arith, below)))
  where
    no_ends : (x y : ℕ) → 4 * n ≤ x → are_ends r x y ≡ false
    no_ends x y from = elim (cases_Bool (are_ends r x y)) [
      | inr fails ↦ fails
      | inl holds ↦
          let parts = and_four (nat_lt x y) (is_met r.met x) (is_met r.met y) (nat_eq (class_met r x) (class_met r y)) holds in
          absurd (omega (arith, from, is.known x parts.1))
    ]

    one_pair : (x : ℕ) → x < 4 * n → pairs_from limit r x ≡ cond (is_first whole x) (arc_from whole x ∷ []) []
    one_pair x below = elim (cases_Bool (is_first whole x)) [
      | inl holds ↦
          ap (map (pair_with x))
          (filter-one (are_ends r x) 0 (4 * limit) (whole x) (omega arith) (omega (arith, small, is_whole.pairing.below x below))
          (ends-are n whole k loops r x (whole x) is_whole is below
          ∙ and_from (is_first whole x) (nat_eq (whole x) (whole x)) holds (eq-eqb (whole x) (whole x) refl))
          (λ y from y_below apart. elim (cases_Bool (are_ends r x y)) [
            | inr fails ↦ fails
            | inl ends ↦
                absurd (apart (eqb-true y (whole x)
                (and_second (is_first whole x) (nat_eq y (whole x)) (sym (ends-are n whole k loops r x y is_whole is below) ∙ ends))))
          ]))
          ∙ sym (ap (λ b. cond b (arc_from whole x ∷ []) []) holds)
      | inr fails ↦
          ap (map (pair_with x))
          (filter-none (are_ends r x) 0 (4 * limit)
          (λ y y_from y_below. ends-are n whole k loops r x y is_whole is below ∙ ap (λ b. b && nat_eq y (whole x)) fails))
          ∙ sym (ap (λ b. cond b (arc_from whole x ∷ []) []) fails)
    ]

-- the joins of the slices of a whole are its arcs and loops
abbrev joins_with : List (ℕ × ℕ) → ℕ → JoinedDarts
joins_with pairs loops = record { pairs = map ends_of pairs; loops = loops }

pub joins-drawn : (limit n : ℕ) (whole : ℕ → ℕ) (loops : ℕ) → n ≤ limit → n ≤ 31 → loops ≤ 255 → IsWholeSphere n whole
    → joined_within limit (slices_with n whole loops) ≡ Ok (record { pairs = map ends_of (arc_pairs n whole); loops = loops })
joins-drawn limit n whole loops small most few is_whole =
    let drawn = IsDrawn-page_of n whole is_whole in
    let page = page_of n whole in
    let r = sketch_of page.slices in
    let all = slices_with n whole loops in
    let begun : IsEnded n whole r.next 0 r = IsEnded-sketched n whole page.drawn r drawn.reading drawn.finished.all in
    let ended : IsEnded n whole r.next (0 + loops) (fold sketched r (loop_slices loops)) = IsEnded-loops n whole r.next 0 loops r begun in
    let read_is : sketch_of all ≡ fold sketched r (loop_slices loops) = fold-append sketched no_sketch page.slices (loop_slices loops) in
    let is : IsEnded n whole r.next (0 + loops) (sketch_of all) =
    subst (λ (w : Sketch). IsEnded n whole r.next (0 + loops) w) (sym read_is) ended in
    let faultless : first_slice_fault limit no_sketch 1 all ≡ None =
    first_slice_fault-none limit no_sketch 1 page.slices (loop_slices loops) (drawn.faultless limit small most)
    (λ k. loops-faultless limit n whole r.next 0 loops r k small (omega (arith, few)) begun) in
    let e : 0 + loops ≡ loops = omega arith in
    let no_ends : ends_fault (sketch_of all) ≡ None =
    ap (λ (row : List ℕ). fault_where (nat_lt 0 (length row)) (Ends (length row))) is.row in
    ap (λ o. answer_by (option_or o (ends_fault (sketch_of all))) (joined_in limit (sketch_of all))) faultless
    ∙ ap (λ o. answer_by o (joined_in limit (sketch_of all))) no_ends
    ∙ ap (λ pairs. Ok (joins_with pairs (loop_count limit (sketch_of all))))
    (pairs-are limit n whole r.next (0 + loops) (sketch_of all) small is_whole is)
    ∙ ap (λ count. Ok (joins_with (arc_pairs n whole) count))
    (loops-counted limit n whole r.next (0 + loops) (sketch_of all) small is ∙ e)

length-loop_slices : (loops : ℕ) → length (loop_slices loops) ≡ 2 * loops
length-loop_slices zero = refl
length-loop_slices (suc loops) = omega (arith, length-loop_slices loops)

pub length-slices : (n : ℕ) (whole : ℕ → ℕ) (loops : ℕ) → IsWholeSphere n whole
    → length (slices_with n whole loops) ≡ 3 * n + 2 * (open_piece_count n whole + loops)
length-slices n whole loops is_whole =
    omega (
      arith,
      length-append (page_of n whole).slices (loop_slices loops),
      length-loop_slices loops,
      (IsDrawn-page_of n whole is_whole).counted,
    )

no-crosses : (loops : ℕ) → count_by is_cross (loop_slices loops) ≡ 0
no-crosses zero = refl
no-crosses (suc loops) =
    omega (
      arith,
      sum_by-cons (λ s. cond (is_cross s) 1 0) (Cap 1) (Cup 1 ∷ loop_slices loops),
      sum_by-cons (λ s. cond (is_cross s) 1 0) (Cup 1) (loop_slices loops),
      no-crosses loops,
    )

-- the slices have each crossing once
pub crosses-slices : (n : ℕ) (whole : ℕ → ℕ) (loops : ℕ) → IsWholeSphere n whole → count_by is_cross (slices_with n whole loops) ≡ n
crosses-slices n whole loops is_whole =
    omega (
      arith,
      crosses-append (page_of n whole).slices (loop_slices loops),
      no-crosses loops,
      (IsDrawn-page_of n whole is_whole).crosses,
    )

-- the code that is read back
joins-one : (r : Result JoinedDarts SliceFault) (one two : JoinedDarts) → r ≡ Ok one → r ≡ Ok two → two ≡ one
joins-one r one two first second = cc

pub AreAlikeCodes-sketched : (limit : ℕ) (code : Code) (joins : JoinedDarts) → limit ≤ 31 → length code.crossings ≤ limit → IsTrue (accepted code)
    → joined_within limit (slices_with (length code.crossings) (partner_at code.crossings) code.loops) ≡ Ok joins
    → AreAlikeCodes code (code_read (slices_with (length code.crossings) (partner_at code.crossings) code.loops) joins)
AreAlikeCodes-sketched limit code joins most small is gives =
    let n = length code.crossings in
    let whole = partner_at code.crossings in
    let is_whole = IsWholeSphere-accepted code is in
    let slices = slices_with n whole code.loops in
    let drawn : JoinedDarts = record { pairs = map ends_of (arc_pairs n whole); loops = code.loops } in
    let same : joins ≡ drawn =
    joins-one (joined_within limit slices) drawn joins
    (joins-drawn limit n whole code.loops small (omega (arith, most, small)) (few code.loops (accepted_loops code is)) is_whole) gives in
    let made : AreAlikeCodes code (record { crossings = map (crossing_read drawn.pairs) (range_with_len 0 n); loops = code.loops }) =
    record {
      crossings = record {
        size = length-map (range_with_len 0 n) (crossing_read drawn.pairs) ∙ length-range_with_len 0 n;
        onward = λ x y x_below y_below. (arcs-sketched code.crossings x y (HasArcsTwice-accepted code is) is_whole x_below y_below).1;
        back = λ x y x_below y_below. (arcs-sketched code.crossings x y (HasArcsTwice-accepted code is) is_whole x_below y_below).0;
      };
      loops = refl;
    } in
    subst (λ (j : JoinedDarts). AreAlikeCodes code (code_read slices j)) (sym same)
    (subst (λ (m : ℕ). AreAlikeCodes code (record { crossings = map (crossing_read drawn.pairs) (range_with_len 0 m); loops = code.loops }))
    (sym (crosses-slices n whole code.loops is_whole)) made)
  where
    few : (loops : ℕ) → loops ≤ COMPONENTS → loops ≤ 255
    few loops below = omega (arith, below)

-- loops alone

whole_of_none : IsWholeSphere 0 (λ x. x)
whole_of_none = omega arith

pub joins-loops : (limit loops : ℕ) → loops ≤ 255 → joined_within limit (loop_slices loops) ≡ Ok (record { pairs = []; loops = loops })
joins-loops limit loops few = joins-drawn limit 0 (λ x. x) loops (omega arith) (omega arith) few whole_of_none

loops-fault : (limit n : ℕ) (whole : ℕ → ℕ) (k before left : ℕ) (r : Sketch) (number : ℕ) → n ≤ limit → before ≤ 255 → 255 < before + left
    → number ≡ 1 + 2 * before → IsEnded n whole k before r → first_slice_fault limit r number (loop_slices left) ≡ Some (Loops 512)
loops-fault limit n whole k before zero r number small some many at is = absurd (omega (arith, some, many))
loops-fault limit n whole k before (suc left) r number small some many at is =
    let next = IsEnded-next n whole k before r is in
    let opened = sketched r (Cap 1) in
    let later = sketched opened (Cup 1) in
    let size : length r.row ≡ 0 = ap (λ zs. length zs) is.row in
    let two : length opened.row ≡ 2 =
    ap (λ row. length (sketched (record { row = row; next = r.next; joins = r.joins; met = r.met }) (Cap 1)).row) is.row in
    let count : loop_count limit later ≡ before + 1 = loops-counted limit n whole k (before + 1) later small next in
    let rest = first_slice_fault limit later (number + 1 + 1) (loop_slices left) in
    let cap = cap-right limit number 1 r (omega arith) (omega (arith, size)) (omega (arith, size)) in
    let start = ap (λ t. option_or t (option_or (slice_fault limit opened (number + 1) (Cup 1)) rest)) cap in
    elim (cases_eq before 255) [
      | inl last ↦
          let too_many : nat_lt 255 (loop_count limit later) ≡ true = lt-ltb 255 (loop_count limit later) (omega (arith, last, count)) in
          let here : number + 1 ≡ 512 = omega (arith, at, last) in
          let place : is_outside (length opened.row - 1) 1 ≡ false = ap (λ m. is_outside (m - 1) 1) two in
          start
          ∙ ap (λ b. option_or (option_or (fault_where b (Place (number + 1))) (fault_where (nat_lt 255 (loop_count limit later)) (Loops (number + 1)))) rest)
          place
          ∙ ap (λ b. option_or (fault_where b (Loops (number + 1))) rest) too_many
          ∙ ap (λ m. Some (Loops m)) here
      | inr apart ↦
          let cup = cup-right limit (number + 1) 1 opened (omega arith) (omega (arith, two)) (omega (arith, count, some, apart)) in
          start ∙ ap (λ t. option_or t rest) cup
          ∙ loops-fault limit n whole k (before + 1) left later (number + 1 + 1) small (omega (arith, some, apart)) (omega (arith, many))
          (omega (arith, at)) next
    ]

pub joins-many_loops : (limit loops : ℕ) → 255 < loops → joined_within limit (loop_slices loops) ≡ Err (Loops 512)
joins-many_loops limit loops many =
    let drawn = IsDrawn-page_of 0 (λ x. x) whole_of_none in
    let begun : IsEnded 0 (λ x. x) 0 0 no_sketch =
    IsEnded-sketched 0 (λ x. x) [] no_sketch drawn.reading (λ c below. absurd (omega (arith, below))) in
    ap (λ o. answer_by (option_or o (ends_fault (sketch_of (loop_slices loops)))) (joined_in limit (sketch_of (loop_slices loops))))
    (loops-fault limit 0 (λ x. x) 0 0 loops no_sketch 1 (omega arith) (omega arith) (omega (arith, many)) refl begun)
