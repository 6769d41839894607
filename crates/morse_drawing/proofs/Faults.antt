-- The slices of a drawing have no fault. The first fault of two lists of slices is that of the first list, or else that of the
-- second behind it; so slices without a fault may be added one rule after another. A cap, a cup or a cross has no fault where its
-- place, its label and its counts are in range. What is read of the slices tells that they are: the row of segments is as long as
-- the row of darts, a crossing that is not drawn is not met, and there is no loop, since each segment is of the class of one that
-- a dart meets. So there is no fault in the slices of any of the three rules: where a crossing begins, where a strand meets its
-- crossing, and where two neighbours end.
use Rattle.std.proofs.Common.{◌≡◌, ℕ, zero, suc, inl, inr, ◌+◌, ◌-◌, ◌*◌, ◌/◌, ◌%◌, ◌<◌, ◌≤◌, ◌∙◌, List, [], ◌∷◌, ◌++◌, length, take, drop, refl, sym, ap, arith, Bool, true, false, cond}
use Rattle.std.specs.Prelude.{◌&&◌, nat_eq, not, slice_index, Option, None}
use Rattle.std.specs.List.{count_by, fold, list_any, range_with_len}
use Rattle.std.specs.Option.{option_or}
use Rattle.std.proofs.lemmas.Bool.{cases_Bool, eq-eqb, eqb-true}
use Rattle.std.proofs.lemmas.Bool.Decides.{nat_tests}
use Rattle.std.proofs.lemmas.List.Sums.{sum_by-cons}
use Rattle.std.proofs.lemmas.List.{length-append, length-drop, length-map, length-take-le}
use Rattle.kh_types.specs.Classes.{is_least}
use Rattle.kh_types.proofs.ClassLemmas.{classes-together}
use Rattle.kh_types.proofs.RangeCounts.{list_any-at}
use Rattle.morse_drawing.specs.Sketches.{IsSketched, Sketch, is_met, segment_met, sketched}
use Rattle.morse_drawing.specs.declared.fault.SliceFault.{SliceFault}
use Rattle.morse_drawing.specs.Joins.{first_slice_fault, fault_where, is_loop, loop_count, meets_class, segment_classes, slice_fault}
use Rattle.morse_drawing.specs.DartRows.{IsIn}
use Rattle.morse_drawing.specs.declared.slice.Slice.{Slice}
use Rattle.morse_drawing.specs.declared.slice.Slice.TheVariants.{Cap, Cup, Cross}

-- faults of slices read one after another
or-assoc : (a b c : Option SliceFault) → option_or (option_or a b) c ≡ option_or a (option_or b c)
or-assoc a b c = grind (arith, nat_tests)

pub first_slice_fault-append : (limit : ℕ) (r : Sketch) (number : ℕ) (xs ys : List Slice)
    → first_slice_fault limit r number (xs ++ ys)
    ≡ option_or (first_slice_fault limit r number xs) (first_slice_fault limit (fold sketched r xs) (number + length xs) ys)
first_slice_fault-append limit r number [] ys =
    let e : number ≡ number + 0 = omega arith in
    ap (λ k. first_slice_fault limit r k ys) e
first_slice_fault-append limit r number (x ∷ xs) ys =
    let e : number + 1 + length xs ≡ number + suc (length xs) = omega arith in
    ap (λ o. option_or (slice_fault limit r number x) o)
    (first_slice_fault-append limit (sketched r x) (number + 1) xs ys
    ∙ ap (λ k. option_or (first_slice_fault limit (sketched r x) (number + 1) xs) (first_slice_fault limit (fold sketched (sketched r x) xs) k ys)) e)
    ∙ sym (or-assoc (slice_fault limit r number x) (first_slice_fault limit (sketched r x) (number + 1) xs)
    (first_slice_fault limit (fold sketched (sketched r x) xs) (number + suc (length xs)) ys))

pub first_slice_fault-none : (limit : ℕ) (r : Sketch) (number : ℕ) (xs ys : List Slice) → first_slice_fault limit r number xs ≡ None
    → ((k : ℕ) → first_slice_fault limit (fold sketched r xs) k ys ≡ None) → first_slice_fault limit r number (xs ++ ys) ≡ None
first_slice_fault-none limit r number xs ys before after = grind (arith, nat_tests, first_slice_fault-append limit r number xs ys)

where-none : (b : Bool) (fault : SliceFault) → b ≡ false → fault_where b fault ≡ None
where-none b fault fails = ap (λ t. fault_where t fault) fails

pub cap-right : (limit number at : ℕ) (r : Sketch) → 1 ≤ at → at ≤ length r.row + 1 → length r.row ≤ 62
    → slice_fault limit r number (Cap at) ≡ None
cap-right limit number at r from within few = grind (arith, nat_tests)

pub cup-right : (limit number at : ℕ) (r : Sketch) → 1 ≤ at → at ≤ length r.row - 1 → loop_count limit (sketched r (Cup at)) ≤ 255
    → slice_fault limit r number (Cup at) ≡ None
cup-right limit number at r from within few = grind (arith, nat_tests)

pub cross-right : (limit number at crossing slot : ℕ) (r : Sketch) → 1 ≤ at → at ≤ length r.row - 1 → 1 ≤ crossing → crossing ≤ limit
    → is_met r.met (4 * (crossing - 1)) ≡ false → slot < 4 → slice_fault limit r number (Cross at crossing slot) ≡ None
cross-right limit number at crossing slot r from within positive least unmet below = grind (arith, nat_tests)

-- the row that is read is as long as the row of darts
pub row-length : (n : ℕ) (part whole : ℕ → ℕ) (drawn row : List ℕ) (r : Sketch) → IsSketched n part whole drawn row r
    → length r.row ≡ length row
row-length n part whole drawn row r is =
    grind (arith, nat_tests, length-map is.zipped (λ (e : ℕ × ℕ). e.0), length-map is.zipped (λ (e : ℕ × ℕ). e.1))

pub row-empty : (n : ℕ) (part whole : ℕ → ℕ) (drawn : List ℕ) (r : Sketch) → IsSketched n part whole drawn [] r → r.row ≡ []
row-empty n part whole drawn r is = none r.row (row-length n part whole drawn [] r is)
  where
    none : (zs : List ℕ) → length zs ≡ 0 → zs ≡ []
    none [] same = refl
    none (z ∷ zs) same = absurd (omega (arith, same))

-- a crossing that is not drawn is not met
pub not-met : (n : ℕ) (part whole : ℕ → ℕ) (drawn row : List ℕ) (r : Sketch) (c : ℕ) → IsSketched n part whole drawn row r
    → (IsIn c drawn → ⊥) → is_met r.met (4 * c) ≡ false
not-met n part whole drawn row r c is new = grind (arith, nat_tests)

-- no class of segments is a loop
pub none-counted : (p : ℕ → Bool) (xs : List ℕ) → ((x : ℕ) → IsIn x xs → p x ≡ false) → count_by p xs ≡ 0
none-counted p [] fails = refl
none-counted p (x ∷ xs) fails =
    grind (arith, nat_tests, sum_by-cons (λ y. cond (p y) 1 0) x xs, none-counted p xs (λ y is_in. fails y (inr is_in)))

pub in-range : (a n x : ℕ) → IsIn x (range_with_len a n) → (a ≤ x) × (x < a + n)
in-range a zero x is_in = absurd is_in
in-range a (suc n) x is_in = elim is_in [
  | inl same ↦ (omega (arith, same), omega (arith, same))
  | inr later ↦ let rest = in-range (a + 1) n x later in (omega (arith, rest.0), omega (arith, rest.1))
]

pub met-no_loop : (limit : ℕ) (r : Sketch) (segment dart : ℕ) → dart < 4 * limit → is_met r.met dart ≡ true
    → slice_index (segment_classes r) segment ≡ slice_index (segment_classes r) (segment_met r.met dart) → is_loop limit r segment ≡ false
met-no_loop limit r segment dart below met same = elim (cases_Bool (is_least (segment_classes r) segment)) [
  | inr fails ↦
      ap (λ t. t && (not (list_any (meets_class r segment) (range_with_len 0 (4 * limit)))
      && not (list_any (λ end. nat_eq (slice_index (segment_classes r) end) segment) r.row))) fails
  | inl least ↦
      let class_is = eqb-true (slice_index (segment_classes r) segment) segment least in
      let meets : meets_class r segment dart ≡ true =
      ap (λ t. t && nat_eq (slice_index (segment_classes r) (segment_met r.met dart)) segment) met
      ∙ eq-eqb (slice_index (segment_classes r) (segment_met r.met dart)) segment (sym same ∙ class_is) in
      let found = list_any-at (meets_class r segment) 0 (4 * limit) dart (omega arith) (omega (arith, below)) meets in
      ap (λ t. is_least (segment_classes r) segment && (not t
      && not (list_any (λ end. nat_eq (slice_index (segment_classes r) end) segment) r.row))) found
      ∙ and_false (is_least (segment_classes r) segment)
]
  where
    and_false : (b : Bool) → (b && false) ≡ false
    and_false true = refl
    and_false false = refl

pub no-loops : (limit n : ℕ) (part whole : ℕ → ℕ) (drawn row : List ℕ) (r : Sketch) → n ≤ limit → IsSketched n part whole drawn row r
    → loop_count limit r ≡ 0
no-loops limit n part whole drawn row r small is =
    none-counted (is_loop limit r) (range_with_len 0 r.next)
    (λ segment is_in.
    let below : segment < r.next = omega (arith, (in-range 0 r.next segment is_in).1) in
    let reached = is.reached segment below in
    met-no_loop limit r segment reached.dart (omega (arith, small, reached.below))
    (is.all_met reached.dart reached.below reached.is_drawn)
    (reached.same (λ z. slice_index (segment_classes r) z) (classes-together r.next r.joins is.joins_below)))

-- the slices of the three rules

pub faults-begun : (limit n : ℕ) (part whole : ℕ → ℕ) (drawn : List ℕ) (r : Sketch) (c number : ℕ) → n ≤ limit
    → IsSketched n part whole drawn [] r → c < n → (IsIn c drawn → ⊥)
    → first_slice_fault limit r number (Cap 1 ∷ Cap 3 ∷ Cross 2 (c + 1) 0 ∷ []) ≡ None
faults-begun limit n part whole drawn r c number small is below new =
    let empty = row-empty n part whole drawn r is in
    let unmet = not-met n part whole drawn [] r c is new in
    let e : c ≡ c + 1 - 1 = omega arith in
    let start : Sketch = record { row = []; next = r.next; joins = r.joins; met = r.met } in
    let last = sketched (sketched start (Cap 1)) (Cap 3) in
    ap (λ row. first_slice_fault limit (record { row = row; next = r.next; joins = r.joins; met = r.met }) number
    (Cap 1 ∷ Cap 3 ∷ Cross 2 (c + 1) 0 ∷ [])) empty
    ∙ ap (λ o. option_or o None)
    (cross-right limit (number + 1 + 1) 2 (c + 1) 0 last (omega arith) (omega arith) (omega arith) (omega (arith, below, small))
    (ap (λ k. is_met r.met (4 * k)) (sym e) ∙ unmet) (omega arith))

length-cap : (row : List ℕ) (place x y : ℕ) → place ≤ length row → length (take place row ++ x ∷ y ∷ drop place row) ≡ length row + 2
length-cap row place x y within = omega (
  arith,
  length-append (take place row) (x ∷ y ∷ drop place row),
  length-take-le place row within,
  length-drop place row,
  within,
)

pub faults-crossed : (limit n : ℕ) (part whole : ℕ → ℕ) (drawn row : List ℕ) (r : Sketch) (place o number : ℕ) → n ≤ limit
    → IsSketched n part whole drawn row r → place < length row → length row ≤ 62 → o / 4 < n → (IsIn (o / 4) drawn → ⊥)
    → first_slice_fault limit r number (Cap (place + 2) ∷ Cross (place + 1) (o / 4 + 1) (o % 4) ∷ []) ≡ None
faults-crossed limit n part whole drawn row r place o number small is within few below new =
    let size = row-length n part whole drawn row r is in
    let unmet = not-met n part whole drawn row r (o / 4) is new in
    let e : o / 4 ≡ o / 4 + 1 - 1 = omega arith in
    let last = sketched r (Cap (place + 2)) in
    let longer : length last.row ≡ length r.row + 2 =
    length-cap r.row (place + 2 - 1) r.next (r.next + 1) (omega (arith, size, within)) in
    let cap = cap-right limit number (place + 2) r (omega arith) (omega (arith, size, within)) (omega (arith, size, few)) in
    let cross = cross-right limit (number + 1) (place + 1) (o / 4 + 1) (o % 4) last (omega arith) (omega (arith, longer, size, within))
    (omega arith) (omega (arith, below, small)) (ap (λ k. is_met r.met (4 * k)) (sym e) ∙ unmet) (omega arith) in
    ap (λ t. option_or t (option_or (slice_fault limit last (number + 1) (Cross (place + 1) (o / 4 + 1) (o % 4))) None)) cap
    ∙ ap (λ t. option_or t None) cross

pub faults-closed : (limit n : ℕ) (part after whole : ℕ → ℕ) (drawn row later : List ℕ) (r : Sketch) (place number : ℕ) → n ≤ limit
    → IsSketched n part whole drawn row r → place + 1 < length row → IsSketched n after whole drawn later (sketched r (Cup (place + 1)))
    → first_slice_fault limit r number (Cup (place + 1) ∷ []) ≡ None
faults-closed limit n part after whole drawn row later r place number small is within then =
    let size = row-length n part whole drawn row r is in
    let none = no-loops limit n after whole drawn later (sketched r (Cup (place + 1))) small then in
    ap (λ t. option_or t None)
    (cup-right limit number (place + 1) r (omega arith) (omega (arith, size, within)) (omega (arith, none)))
