-- What open ends know is what the classes of segments tell: the pairs of darts that have found each other are the pairs of darts
-- that meet one class, and the number of loops is that of the classes that are loops. Two segments have one label exactly where
-- they are in one class. So two darts that meet one class have one label, and by the state of each, bare, open or paired, they
-- have found each other; and darts that have found each other have one label. Both lists of pairs go through the darts in order,
-- so they are equal. A class is a loop where no dart meets it and it has no end in the row: that is, where its label is the
-- number of a loop. Counted by labels, each number of a loop has exactly one class.
use Rattle.std.proofs.Common.{◌≡◌, ℕ, zero, suc, inl, inr, ◌+◌, ◌-◌, ◌*◌, ◌<◌, ◌≤◌, ◌∙◌, List, [], ◌∷◌, map, get_or, sym, ap, refl, arith, Bool, true, false, cond}
use Rattle.std.specs.Prelude.{◌&&◌, ◌||◌, nat_eq, nat_lt, not, slice_index}
use Rattle.std.specs.List.{AllByRecursion, filter, list_any, range_with_len, sum_by}
use Rattle.std.proofs.lemmas.Bool.{both_ways, cases_Bool, cases_eq, eq-eqb, eqb-true, ne_eqb, not-true, and_from, ltb-true, lt-ltb}
use Rattle.std.proofs.lemmas.List.Sums.{sum_by-cons}
use Rattle.std.proofs.Math.Bool.{or-true}
use Rattle.kh_types.proofs.ClassLemmas.{classes-finest, classes-together}
use Rattle.kh_types.proofs.FilteredRanges.{filter-none, filter-one}
use Rattle.kh_types.proofs.JoinedClasses.{IsNamed-classes_of}
use Rattle.kh_types.proofs.ListSums.{sum_by-none, sum_by-range_alike, sum_by-single, sum_by-turned}
use Rattle.kh_types.proofs.RangeCounts.{list_any-at}
use Rattle.kh_types.proofs.Ranges.{list_any-below_none}
use Rattle.kh_types.specs.Bits.{one_if}
use Rattle.morse_drawing.specs.Joins.{are_ends, class_met, is_loop, loop_count, meets_class, pair_with, pairs_from, pairs_of, segment_classes}
use Rattle.morse_drawing.proofs.NumberedEnds.{found_pair, has_later}
use Rattle.morse_drawing.specs.Sketches.{Sketch, is_met, segment_met}
use Rattle.morse_drawing.proofs.EndTimes.{hit-apart, hit-same, times}
use Rattle.morse_drawing.proofs.Ends.{Ends}
use Rattle.morse_drawing.proofs.Ends.DartEnd.{bare, opened, paired_with}
use Rattle.morse_drawing.proofs.Ends.SegmentEnd.{at_dart, in_row, on_loop}
use Rattle.morse_drawing.proofs.Pairs.{and_first, and_four, and_second, flat-range}

-- the ends of what is read of slices
abbrev pub EndsOf : ℕ → (ℕ → ℕ) → Sketch → List ℕ → ℕ → Type 0
EndsOf limit name r others loops = Ends limit name r.next r.joins r.met r.row others loops

class-name : (limit : ℕ) (name : ℕ → ℕ) (r : Sketch) (others : List ℕ) (loops p q : ℕ) → EndsOf limit name r others loops
    → p < r.next → q < r.next → slice_index (segment_classes r) p ≡ slice_index (segment_classes r) q → name p ≡ name q
class-name limit name r others loops p q is p_below q_below same =
    classes-finest name r.next r.joins is.respects is.joins_below p q p_below q_below same

name-class : (limit : ℕ) (name : ℕ → ℕ) (r : Sketch) (others : List ℕ) (loops p q : ℕ) → EndsOf limit name r others loops
    → p < r.next → q < r.next → name p ≡ name q → slice_index (segment_classes r) p ≡ slice_index (segment_classes r) q
name-class limit name r others loops p q is p_below q_below same =
    is.apart (λ z. slice_index (segment_classes r) z) (classes-together r.next r.joins is.joins_below) p q p_below q_below same

-- the ends of a class have found each other
ends-found : (limit : ℕ) (name : ℕ → ℕ) (r : Sketch) (others : List ℕ) (loops x y : ℕ) → EndsOf limit name r others loops
    → are_ends r x y ≡ true → (x < y) × (y < 4 * limit) × (get_or others x 0 ≡ y)
ends-found limit name r others loops x y is holds = (less, (is.met_below y met_y).1, there)
  where
    parts : (nat_lt x y ≡ true) × (is_met r.met x ≡ true) × (is_met r.met y ≡ true) × (nat_eq (class_met r x) (class_met r y) ≡ true)
    parts = and_four (nat_lt x y) (is_met r.met x) (is_met r.met y) (nat_eq (class_met r x) (class_met r y)) holds

    less : x < y
    less = ltb-true x y parts.0

    met_x : is_met r.met x ≡ true
    met_x = parts.1

    met_y : is_met r.met y ≡ true
    met_y = parts.2

    same : name (segment_met r.met x) ≡ name (segment_met r.met y)
    same =
        class-name limit name r others loops (segment_met r.met x) (segment_met r.met y) is (is.met_below x met_x).0 (is.met_below y met_y).0
        (eqb-true (class_met r x) (class_met r y) parts.3)

    there : get_or others x 0 ≡ y
    there = elim (is.darts x (is.met_below x met_x).1) [
      | bare unmet none alone ↦ absurd (both_ways (is_met r.met x) unmet met_x)
      | opened met at once alone ↦ elim (is.darts y (is.met_below y met_y).1) [
        | bare unmet none other ↦ absurd (both_ways (is_met r.met y) unmet met_y)
        | opened also at_y once_y other ↦ absurd (omega (arith, less, at, at_y, same))
        | paired_with z also met_z z_below differs to back none none_z one at_y ↦ elim at_y [
          | inl e ↦ absurd (omega (arith, less, at, e, same))
          | inr e ↦
              let x_is : x ≡ z = omega (arith, at, e, same) in
              absurd (omega (arith, once, none_z, ap (λ n. times n (map name r.row)) x_is))
        ]
      ]
      | paired_with w met met_w w_below differs to back none none_w one at ↦ elim (is.darts y (is.met_below y met_y).1) [
        | bare unmet none_y other ↦ absurd (both_ways (is_met r.met y) unmet met_y)
        | opened also at_y once_y other ↦ elim at [
          | inl e ↦ absurd (omega (arith, less, at_y, e, same))
          | inr e ↦ omega (arith, to, at_y, e, same)
        ]
        | paired_with z also met_z z_below differs_y to_y back_y none_y none_z one_y at_y ↦ elim at [
          | inl e ↦ elim at_y [
            | inl e_y ↦ absurd (omega (arith, less, e, e_y, same))
            | inr e_y ↦
                let x_is : x ≡ z = omega (arith, e, e_y, same) in
                ap (λ n. get_or others n 0) x_is ∙ back_y
          ]
          | inr e ↦ elim at_y [
            | inl e_y ↦ omega (arith, to, e, e_y, same)
            | inr e_y ↦
                let w_is : w ≡ z = omega (arith, e, e_y, same) in
                absurd (omega (arith, less, back, back_y, ap (λ n. get_or others n 0) w_is))
          ]
        ]
      ]
    ]

-- and those that have found each other are ends of one class
found-ends : (limit : ℕ) (name : ℕ → ℕ) (r : Sketch) (others : List ℕ) (loops x y : ℕ) → EndsOf limit name r others loops
    → x < 4 * limit → x < y → y < 4 * limit → get_or others x 0 ≡ y → are_ends r x y ≡ true
found-ends limit name r others loops x y is below less y_below there = elim (is.darts x below) [
  | bare unmet none alone ↦ absurd (omega (arith, alone, there, y_below))
  | opened met at once alone ↦ absurd (omega (arith, alone, there, y_below))
  | paired_with w met_x met_w w_below differs to back none none_w one at ↦
      let same : w ≡ y = omega (arith, to, there) in
      let met_y : is_met r.met y ≡ true = ap (is_met r.met) (sym same) ∙ met_w in
      let classes : class_met r x ≡ class_met r y =
      name-class limit name r others loops (segment_met r.met x) (segment_met r.met y) is (is.met_below x met_x).0 (is.met_below y met_y).0
      (one ∙ ap (λ n. name (segment_met r.met n)) same) in
      and_from (nat_lt x y) (is_met r.met x && (is_met r.met y && nat_eq (class_met r x) (class_met r y))) (lt-ltb x y less)
      (and_from (is_met r.met x) (is_met r.met y && nat_eq (class_met r x) (class_met r y)) met_x
      (and_from (is_met r.met y) (nat_eq (class_met r x) (class_met r y)) met_y (eq-eqb (class_met r x) (class_met r y) classes)))
]

pub pairs-found : (limit : ℕ) (name : ℕ → ℕ) (r : Sketch) (others : List ℕ) (loops : ℕ) → EndsOf limit name r others loops
    → pairs_of limit r ≡ map (found_pair others) (filter (has_later limit others) (range_with_len 0 (4 * limit)))
pairs-found limit name r others loops is =
    flat-range (pairs_from limit r) (has_later limit others) (found_pair others) 0 (4 * limit)
    (λ x from below. one x (omega (arith, below)))
  where
    one : (x : ℕ) → x < 4 * limit → pairs_from limit r x ≡ cond (has_later limit others x) (found_pair others x ∷ []) []
    one x below = elim (cases_Bool (has_later limit others x)) [
      | inl later ↦
          let y = get_or others x 0 in
          let less = ltb-true x y (and_first (nat_lt x y) (nat_lt y (4 * limit)) later) in
          let y_below = ltb-true y (4 * limit) (and_second (nat_lt x y) (nat_lt y (4 * limit)) later) in
          ap (map (pair_with x))
          (filter-one (are_ends r x) 0 (4 * limit) y (omega arith) (omega (arith, y_below))
          (found-ends limit name r others loops x y is below less y_below refl)
          (λ k from k_below other. elim (cases_Bool (are_ends r x k)) [
            | inr fails ↦ fails
            | inl holds ↦ absurd (other (sym (ends-found limit name r others loops x k is holds).2))
          ]))
          ∙ sym (ap (λ b. cond b (found_pair others x ∷ []) []) later)
      | inr never ↦
          ap (map (pair_with x))
          (filter-none (are_ends r x) 0 (4 * limit) (λ k from k_below. elim (cases_Bool (are_ends r x k)) [
            | inr fails ↦ fails
            | inl holds ↦
                let found = ends-found limit name r others loops x k is holds in
                absurd (both_ways (has_later limit others x) never
                (and_from (nat_lt x (get_or others x 0)) (nat_lt (get_or others x 0) (4 * limit))
                (lt-ltb x (get_or others x 0) (omega (arith, found.0, found.2)))
                (lt-ltb (get_or others x 0) (4 * limit) (omega (arith, found.1, found.2)))))
          ]))
          ∙ sym (ap (λ b. cond b (found_pair others x ∷ []) []) never)
    ]

-- a loop is a class with the name of one
row-any : (name : ℕ → ℕ) (next n : ℕ) (test : ℕ → Bool) (segments : List ℕ) → AllByRecursion (λ p. p < next) segments
    → ((e : ℕ) → e < next → name e ≡ n → test e ≡ true) → 1 ≤ times n (map name segments) → list_any test segments ≡ true
row-any name next n test [] below holds stands = absurd (omega (arith, stands))
row-any name next n test (p ∷ ps) below holds stands = elim (cases_eq (name p) n) [
  | inl same ↦ ap (λ b. b || list_any test ps) (holds p below.0 same)
  | inr other ↦
      ap (λ b. test p || b) (row-any name next n test ps below.1 holds (omega (arith, stands, hit-apart (name p) n other)))
      ∙ or-true (test p)
]

row-none : (name : ℕ → ℕ) (next bound : ℕ) (test : ℕ → Bool) (segments : List ℕ) → AllByRecursion (λ p. p < next) segments
    → ((e : ℕ) → e < next → test e ≡ true → bound ≤ name e) → ((n : ℕ) → bound ≤ n → times n (map name segments) ≡ 0)
    → list_any test segments ≡ false
row-none name next bound test [] below above none = refl
row-none name next bound test (p ∷ ps) below above none = elim (cases_Bool (test p)) [
  | inl passes ↦ absurd (omega (arith, none (name p) (above p below.0 passes), hit-same (name p) (name p) refl))
  | inr fails ↦
      ap (λ b. b || list_any test ps) fails
      ∙ row-none name next bound test ps below.1 above (λ n from. omega (arith, none n from))
]

loop-named : (limit : ℕ) (name : ℕ → ℕ) (r : Sketch) (others : List ℕ) (loops p : ℕ) → EndsOf limit name r others loops → p < r.next
    → is_loop limit r p ≡ true → (slice_index (segment_classes r) p ≡ p) × (4 * limit + 64 ≤ name p) × (name p < 4 * limit + 64 + loops)
loop-named limit name r others loops p is below holds = elim (is.named p below) [
  | on_loop from n_below ↦ (least, from, n_below)
  | at_dart n_below met_n at ↦
      absurd (both_ways (list_any (meets_class r p) (range_with_len 0 (4 * limit))) no_dart
      (list_any-at (meets_class r p) 0 (4 * limit) (name p) (omega arith) (omega (arith, n_below))
      (and_from (is_met r.met (name p)) (nat_eq (class_met r (name p)) p) met_n
      (eq-eqb (class_met r (name p)) p
      (name-class limit name r others loops (segment_met r.met (name p)) p is (is.met_below (name p) met_n).0 below at ∙ least)))))
  | in_row from n_below stands ↦
      absurd (both_ways (list_any in_class r.row) no_end
      (row-any name r.next (name p) in_class r.row is.segments_below
      (λ e e_below same. eq-eqb (slice_index (segment_classes r) e) p (name-class limit name r others loops e p is e_below below same ∙ least))
      stands))
]
  where
    in_class : ℕ → Bool
    in_class = λ end. nat_eq (slice_index (segment_classes r) end) p

    dart_test : Bool
    dart_test = list_any (meets_class r p) (range_with_len 0 (4 * limit))

    least : slice_index (segment_classes r) p ≡ p
    least =
        eqb-true (slice_index (segment_classes r) p) p
        (and_first (nat_eq (slice_index (segment_classes r) p) p) (not dart_test && not (list_any in_class r.row)) holds)

    no_dart : dart_test ≡ false
    no_dart =
        not-true dart_test (and_first (not dart_test) (not (list_any in_class r.row))
        (and_second (nat_eq (slice_index (segment_classes r) p) p) (not dart_test && not (list_any in_class r.row)) holds))

    no_end : list_any in_class r.row ≡ false
    no_end =
        not-true (list_any in_class r.row) (and_second (not dart_test) (not (list_any in_class r.row))
        (and_second (nat_eq (slice_index (segment_classes r) p) p) (not dart_test && not (list_any in_class r.row)) holds))

named-loop : (limit : ℕ) (name : ℕ → ℕ) (r : Sketch) (others : List ℕ) (loops p : ℕ) → EndsOf limit name r others loops → p < r.next
    → slice_index (segment_classes r) p ≡ p → 4 * limit + 64 ≤ name p → is_loop limit r p ≡ true
named-loop limit name r others loops p is below least from =
    and_from (nat_eq (slice_index (segment_classes r) p) p) (not dart_test && not (list_any in_class r.row))
    (eq-eqb (slice_index (segment_classes r) p) p least)
    (and_from (not dart_test) (not (list_any in_class r.row)) (ap not no_dart) (ap not no_end))
  where
    in_class : ℕ → Bool
    in_class = λ end. nat_eq (slice_index (segment_classes r) end) p

    dart_test : Bool
    dart_test = list_any (meets_class r p) (range_with_len 0 (4 * limit))

    no_end : list_any in_class r.row ≡ false
    no_end =
        row-none name r.next (4 * limit + 64) in_class r.row is.segments_below
        (λ e e_below passes.
        let same = class-name limit name r others loops e p is e_below below
        (eqb-true (slice_index (segment_classes r) e) p passes ∙ sym least) in
        omega (arith, same, from)) is.no_loops

    not-met : (x : ℕ) → x < 4 * limit → meets_class r p x ≡ false
    not-met x x_below = elim (cases_Bool (meets_class r p x)) [
      | inr fails ↦ fails
      | inl passes ↦
          let met_x = and_first (is_met r.met x) (nat_eq (class_met r x) p) passes in
          let same : name (segment_met r.met x) ≡ name p =
          class-name limit name r others loops (segment_met r.met x) p is (is.met_below x met_x).0 below
          (eqb-true (class_met r x) p (and_second (is_met r.met x) (nat_eq (class_met r x) p) passes) ∙ sym least) in
          absurd (elim (is.darts x x_below) [
            | bare unmet none alone ↦ both_ways (is_met r.met x) unmet met_x
            | opened met at once alone ↦ omega (arith, at, same, from, x_below)
            | paired_with y met met_y y_below differs to back none none_y one at ↦ elim at [
              | inl e ↦ omega (arith, e, same, from, x_below)
              | inr e ↦ omega (arith, e, same, from, y_below)
            ]
          ])
    ]

    no_dart : dart_test ≡ false
    no_dart = list_any-below_none (meets_class r p) (4 * limit) not-met

pub loops-counted_ends : (limit : ℕ) (name : ℕ → ℕ) (r : Sketch) (others : List ℕ) (loops : ℕ) → EndsOf limit name r others loops
    → loop_count limit r ≡ loops
loops-counted_ends limit name r others loops is =
    sum_by-range_alike (λ p. cond (is_loop limit r p) 1 0) (λ p. sum_by (λ k. counts p k) (range_with_len 0 loops)) 0 r.next
    (λ p from below. by_name p (omega (arith, below)))
    ∙ sum_by-turned counts (range_with_len 0 r.next) (range_with_len 0 loops)
    ∙ sum_by-range_alike (λ k. sum_by (λ p. counts p k) (range_with_len 0 r.next)) (λ k. 1) 0 loops
    (λ k from below. one_each k (omega (arith, below)))
    ∙ ones 0 loops
  where
    classes : List ℕ
    classes = segment_classes r

    counts : ℕ → ℕ → ℕ
    counts p k = cond (is_loop limit r p && nat_eq (name p) (4 * limit + 64 + k)) 1 0

    by_name : (p : ℕ) → p < r.next → cond (is_loop limit r p) 1 0 ≡ sum_by (λ k. counts p k) (range_with_len 0 loops)
    by_name p below = elim (cases_Bool (is_loop limit r p)) [
      | inl holds ↦
          let it = loop-named limit name r others loops p is below holds in
          let k = name p - (4 * limit + 64) in
          let at : name p ≡ 4 * limit + 64 + k = omega (arith, it.1) in
          ap (λ b. cond b 1 0) holds
          ∙ sym (sum_by-single (counts p) 0 loops k (omega arith) (omega (arith, it.1, it.2))
          (λ x from x_below other.
          ap (λ b. cond (is_loop limit r p && b) 1 0) (ne_eqb (name p) (4 * limit + 64 + x) (λ e. other (omega (arith, e, at))))
          ∙ both-no (is_loop limit r p))
          ∙ ap (λ b. cond b 1 0) (and_from (is_loop limit r p) (nat_eq (name p) (4 * limit + 64 + k)) holds (eq-eqb (name p) (4 * limit + 64 + k) at)))
      | inr fails ↦
          ap (λ b. cond b 1 0) fails
          ∙ sym (sum_by-none (counts p) 0 loops (λ x from x_below. ap (λ b. cond (b && nat_eq (name p) (4 * limit + 64 + x)) 1 0) fails))
    ]
      where
        both-no : (b : Bool) → one_if (b && false) ≡ 0
        both-no true = refl
        both-no false = refl

    one_each : (k : ℕ) → k < loops → sum_by (λ p. counts p k) (range_with_len 0 r.next) ≡ 1
    one_each k below =
        let loop = is.looped k below in
        let named = IsNamed-classes_of r.next r.joins is.joins_below in
        let p = slice_index classes loop.segment in
        let p_below : p < r.next = omega (arith, named.least loop.segment loop.below, loop.below) in
        let own = named.own loop.segment loop.below in
        let at : name p ≡ 4 * limit + 64 + k = class-name limit name r others loops p loop.segment is p_below loop.below own ∙ loop.named in
        sum_by-single (λ q. counts q k) 0 r.next p (omega arith) (omega (arith, p_below))
        (λ x from x_below other. elim (cases_Bool (is_loop limit r x && nat_eq (name x) (4 * limit + 64 + k))) [
          | inr fails ↦ ap (λ b. cond b 1 0) fails
          | inl holds ↦
              let x_in : x < r.next = omega (arith, x_below) in
              let it = loop-named limit name r others loops x is x_in
              (and_first (is_loop limit r x) (nat_eq (name x) (4 * limit + 64 + k)) holds) in
              let x_at = eqb-true (name x) (4 * limit + 64 + k) (and_second (is_loop limit r x) (nat_eq (name x) (4 * limit + 64 + k)) holds) in
              absurd (other (sym it.0
              ∙ name-class limit name r others loops x loop.segment is x_in loop.below (x_at ∙ sym loop.named)))
        ])
        ∙ ap (λ b. cond b 1 0)
        (and_from (is_loop limit r p) (nat_eq (name p) (4 * limit + 64 + k))
        (named-loop limit name r others loops p is p_below own (omega (arith, at)))
        (eq-eqb (name p) (4 * limit + 64 + k) at))

    ones : (a n : ℕ) → sum_by (λ (k : ℕ). 1) (range_with_len a n) ≡ n
    ones a zero = refl
    ones a (suc n) = omega (arith, sum_by-cons (λ (k : ℕ). 1) a (range_with_len (a + 1) n), ones (a + 1) n)
