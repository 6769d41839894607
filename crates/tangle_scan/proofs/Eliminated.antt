-- A turn that is done is an elimination of the theorem, and what a complex has to keep is kept.
-- A column that was named is cleared. One that was not did not lead to the pivot's head, since the rows name all that do: it is cleared as
-- it is. So each map that is left is the old one less the way through the pivot, over the numbers of a program, and these are those of the
-- code.
use Rattle.std.proofs.Common.{◌≡◌, ◌≢◌, ℕ, ◌⊎◌, zero, suc, inl, inr, ◌+◌, ◌*◌, ◌%◌, ◌^◌, ◌<◌, ◌≤◌, ◌∙◌, pos, ◌+ℤ◌, ◌≤ℤ◌, List, [], ◌∷◌, get_or, length, map, refl, sym, subst, subst₂, ap, ap₂, arith, true, cond, None, Some}
use Rattle.std.specs.Prelude.{nat_eq, All}
use Rattle.std.specs.List.{AllByRecursion, Contains}
use Rattle.std.specs.Global.{Vec}
use Rattle.std.proofs.lemmas.Bool.{cases_eq}
use Rattle.std.proofs.lemmas.List.{get_or-map}
use Rattle.std.proofs.lemmas.List.Elements.{All-head, All-nil, All-tail}
use Rattle.kh_types.specs.Code.{Code}
use Rattle.kh_types.specs.Rank.{inverse}
use Rattle.kh_types.specs.Residues.{Same}
use Rattle.kh_types.proofs.Residues.{same-equal}
use Rattle.surface_laws.specs.Points.{discs}
use Rattle.dotted_maps.specs.declared.term.Term.{Term}
use Rattle.dotted_maps.specs.Maps.{AreDotted, coefficient_in, composed_in, identity, scaled}
use Rattle.added_crossing_laws.specs.Codes.{points_at}
use Rattle.cell_laws.specs.Alike.{AreListed}
use Rattle.scan_laws.specs.Scans.{HasDots, Scan, dot_sets, first_object, pairs_of}
use Rattle.scan_laws.specs.Scans as scans
use Rattle.scan_laws.specs.Eliminating.{IsEliminating, IsNumber, way_coefficient}
use Rattle.scan_laws.proofs.Possible.{no-head, no-tail, others, others-listed}
use Rattle.tangle_maps.specs.Pairings.{joins_of, opened_points, paired_arcs}
use Rattle.tangle_maps.specs.Sums.{AreReduced, number_in}
use Rattle.tangle_maps.proofs.LawLemmas.{number-told}
use Rattle.tangle_scan.specs.declared.clearing.turns.Turn.{Turn}
use Rattle.tangle_scan.specs.declared.complex.Entry.{Entry}
use Rattle.tangle_scan.specs.declared.complex.TangleComplex.{TangleComplex}
use Rattle.tangle_scan.specs.declared.clearing.turns.Taken.{Taken}
use Rattle.tangle_scan.specs.declared.complex.Front.{Front}
use Rattle.tangle_scan.specs.declared.complex.Object.{Object}
use Rattle.tangle_scan.specs.declared.clearing.pivots.Pivot.{Pivot}
use Rattle.tangle_scan.specs.declared.clearing.rows.Rowed.{Rowed}
use Rattle.tangle_scan.specs.Held.{AreObjects, IsColumn, IsComplexAt, IsFront, IsOpenAt, IsPivot, alive_places, column_at, degree_at, is_alive_at, object_at, object_of, partners_at, scan_at, terms_between, terms_to}
use Rattle.tangle_scan.specs.Eliminations.{AreCleared, AreColumns, HasHead, HasRows, IsCleared, IsDottedTo, IsKilled, IsLess, IsNoted, IsRowed, IsTakenOut, IsTurn, IsTurnOf, column_in, head_at, killed}
use Rattle.tangle_scan.proofs.Columns.{terms-at, terms-first, terms-later, terms-some}
use Rattle.tangle_scan.proofs.Killed.{TwoKilled, alive-place, alive-within, all-heads, heads-all, is-left, killed-all, killed-map, killed-size, place-alive, places-left, places-once, two-killed}
use Rattle.tangle_scan.proofs.OpenSizes.{ArePairs, discs-open, dotted-open, less-open, pairs-at}
use Rattle.tangle_scan.proofs.Turns.{column-at}
use Rattle.tangle_scan.proofs.Ways.{cleared-none}

-- the terms of a map are reduced
pub reduced-to : (p : ℕ) (column : List Entry) (y : ℕ) → All (λ (e : Entry). AreReduced p e.terms.items) column
    → AreReduced p (terms_to column y)
reduced-to p [] y all = record { some = All-nil (λ (t : Term). 0 < t.coefficient); below = All-nil (λ (t : Term). t.coefficient < p); once = λ dots. omega arith }
reduced-to p (e ∷ column) y all = elim (cases_eq e.head y) [
  | inl same ↦
      subst (AreReduced p) (sym (terms-first e column y same))
      (All-head (λ (f : Entry). AreReduced p f.terms.items) e column all)
  | inr other ↦
      subst (AreReduced p) (sym (terms-later e column y other))
      (reduced-to p column y (All-tail (λ (f : Entry). AreReduced p f.terms.items) e column all))
]

-- what a pivot's number is
pub record IsSmall (p c : ℕ) : Type 0 where
  pub some : 0 < c
  pub below : c < p

small-number : (p c : ℕ) (terms : List Term) → AreReduced p terms → terms ≡ scaled c identity → IsSmall p c
small-number p c terms reduced is =
    let single = subst (AreReduced p) is reduced in
    let term : Term = record { dots = 0; coefficient = c * 1 } in
    let some : 0 < c * 1 = single.some 0 term (omega arith) in
    let below : c * 1 < p = single.below 0 term (omega arith) in
    record { some = omega (arith, some); below = omega (arith, below) }

-- the object at a place, as one of the theorem
pub pairs-there : (opened : List ℕ) (objects : List Object) (x : ℕ) → x < length objects
    → (object_at opened objects x).pairs ≡ joins_of (partners_at objects x) opened
pairs-there opened [] x within = absurd (omega (arith, within))
pairs-there opened (object ∷ objects) zero within = refl
pairs-there opened (object ∷ objects) (suc x) within = pairs-there opened objects x (omega (arith, within))

-- all that a turn begins with: its pivot is one of a complex at a front, with its rows, and was taken out
pub record IsBegun (p : ℕ) (front : Front) (start left : Rowed) (taken : Taken) (turn : Turn) : Type 0 where
  pub at : IsFront front
  pub rowed : IsRowed p front start
  pub pivot : IsPivot start.complex turn.pivot.tail turn.pivot.head turn.pivot.number
  pub out : IsTakenOut turn.pivot start left taken
  pub of : IsTurnOf front left.complex.objects.items turn.pivot taken turn

pub begun : (p : ℕ) (front : Front) (start left : Rowed) (pivot : Pivot) (taken : Taken) (turn : Turn) → IsFront front
    → IsRowed p front start → IsPivot start.complex pivot.tail pivot.head pivot.number → IsTakenOut pivot start left taken
    → IsTurnOf front left.complex.objects.items pivot taken turn → IsBegun p front start left taken turn
begun p front start left pivot taken turn at rowed is out of = record {
  at = at;
  rowed = rowed;
  pivot = subst (λ (q : Pivot). IsPivot start.complex q.tail q.head q.number) (sym of.pivot_is) is;
  out = subst (λ (q : Pivot). IsTakenOut q start left taken) (sym of.pivot_is) out;
  of = subst (λ (q : Pivot). IsTurnOf front left.complex.objects.items q taken turn) (sym of.pivot_is) of;
}

module _ (p : ℕ) (front : Front) (start left : Rowed) (taken : Taken) (turn : Turn) (is : IsBegun p front start left taken turn) where
  abbrev before : TangleComplex
  before = start.complex

  abbrev columns : List (Vec Entry)
  columns = left.complex.columns.items

  abbrev tail : ℕ
  tail = turn.pivot.tail

  abbrev head : ℕ
  head = turn.pivot.head

  abbrev old : List Object
  old = before.objects.items

  abbrev middle : List Object
  middle = is.out.between

  abbrev new : List Object
  new = turn.objects.now

  no-head-there : IsKilled head middle new
  no-head-there = subst (λ (objects : List Object). IsKilled head middle objects) (sym is.of.objects_are) is.out.no_head

  column-read : turn.column.now ≡ column_at before tail
  column-read = is.of.column ∙ is.out.column

  tail-within : tail < length old
  tail-within = alive-within old tail is.pivot.is_there

  head-within : head < length old
  head-within = alive-within old head is.pivot.leads_there

  leads : HasHead (column_at before tail) head
  leads = terms-some (column_at before tail) head (λ none. no_number (ap number_in (sym none) ∙ is.pivot.told))
    where
      no_number : None ≡ Some turn.pivot.number → ⊥
      no_number same = cc

  differ : tail ≢ head
  differ same =
      let raised = all-heads (λ y. degree_at old y ≡ degree_at old tail + 1) (column_at before tail) head
      (is.rowed.complex.raises tail tail-within) leads in
      omega (arith, raised, ap (degree_at old) same)

  middle-within : head < length middle
  middle-within = omega (arith, head-within, killed-size tail old middle tail-within is.out.no_tail)

  pub two : TwoKilled tail head old new
  two = two-killed tail head old middle new tail-within head-within differ is.out.no_tail no-head-there

  -- all but being there stays
  stays : {B : Type 0} (f : Object → B) → ((object : Object) → f (killed object) ≡ f object) → map f new ≡ map f old
  stays f same =
      killed-map f same head middle new middle-within no-head-there ∙ killed-map f same tail old middle tail-within is.out.no_tail

  all-stay : (P : Object → Type 0) → ((object : Object) → P object → P (killed object)) → All P old → All P new
  all-stay P keeps all =
      killed-all P keeps head middle new middle-within no-head-there (killed-all P keeps tail old middle tail-within is.out.no_tail all)

  objects-stay : map (object_of front.opened.items) new ≡ map (object_of front.opened.items) old
  objects-stay = stays (object_of front.opened.items) (λ object. refl)

  degree-stays : (x : ℕ) → degree_at new x ≡ degree_at old x
  degree-stays x = ap (λ (ds : List ℕ). get_or ds x 0) (stays (λ (object : Object). object.degree) (λ object. refl))

  partners-stay : (x : ℕ) → partners_at new x ≡ partners_at old x
  partners-stay x =
      ap (λ (ps : List (List ℕ)). get_or ps x []) (stays (λ (object : Object). object.pairing.partners) (λ object. refl))

  pub objects-are : AreObjects front.done front.opened.items new
  objects-are = record {
    pairs = all-stay (λ (object : Object). front.opened.items ≡ paired_arcs object.pairing.partners) (λ object is. is)
        is.rowed.complex.objects.pairs;
    degrees = all-stay (λ (object : Object). object.degree ≤ front.done) (λ object is. is) is.rowed.complex.objects.degrees;
    least = all-stay (λ (object : Object). pos 0 ≤ℤ (object.shift +ℤ pos (2 * front.done))) (λ object is. is)
        is.rowed.complex.objects.least;
    most = all-stay (λ (object : Object). object.shift ≤ℤ pos (2 * front.done)) (λ object is. is) is.rowed.complex.objects.most;
  }

  column-is : (x : ℕ) → x < length old → IsColumn p (length old) (column_at before x)
  column-is x below =
      let within : x < length before.columns.items = omega (arith, below, is.rowed.complex.size) in
      all-columns before.columns.items x within is.rowed.complex.columns
    where
      all-columns : (columns : List (Vec Entry)) (x : ℕ) → x < length columns
          → All (λ (column : Vec Entry). IsColumn p (length old) column.items) columns → IsColumn p (length old) (column_in columns x)
      all-columns [] x within all = absurd (omega (arith, within))
      all-columns (column ∷ columns) zero within all =
          All-head (λ (c : Vec Entry). IsColumn p (length old) c.items) column columns all
      all-columns (column ∷ columns) (suc x) within all =
          all-columns columns x (omega (arith, within))
          (All-tail (λ (c : Vec Entry). IsColumn p (length old) c.items) column columns all)

  number-is : IsSmall p turn.pivot.number
  number-is =
      small-number p turn.pivot.number (terms_between before tail head)
      (reduced-to p (column_at before tail) head (column-is tail tail-within).reduced)
      (number-told turn.pivot.number (terms_between before tail head) is.pivot.told)

  pairs-are : All (λ (object : Object). turn.opened.now ≡ paired_arcs object.pairing.partners) new
  pairs-are =
      subst (λ (opened : List ℕ). All (λ (object : Object). opened ≡ paired_arcs object.pairing.partners) new) (sym is.of.opened)
      objects-are.pairs

  at-front : IsOpenAt front.diagram front.done turn.opened.now
  at-front = subst (IsOpenAt front.diagram front.done) (sym is.of.opened) is.at

  paired-there : (z : ℕ) → z < length old → ArePairs turn.opened.now (partners_at new z)
  paired-there z below = pairs-at turn.opened.now new z pairs-are (omega (arith, below, two.size))

  pairs-scan : (z : ℕ) → z < length old → pairs_of (scan_at front before) z ≡ joins_of (partners_at new z) turn.opened.now
  pairs-scan z below =
      pairs-there front.opened.items old z below
      ∙ ap (λ (ps : List ℕ). joins_of ps front.opened.items) (sym (partners-stay z))
      ∙ ap (joins_of (partners_at new z)) (sym is.of.opened)

  -- the maps out of the tail have dots of discs, over the numbers of a program
  dotted-to : (z : ℕ) → is_alive_at new z ≡ true
      → AreDotted (opened_points turn.opened.now) (joins_of (partners_at new tail) turn.opened.now)
      (joins_of (partners_at new z) turn.opened.now) (terms_between before tail z)
  dotted-to z alive =
      let there = is-left tail head old new z two alive in
      let below = alive-within old z there.alive in
      let points = points_at front.diagram front.done in
      let same = discs-open front.diagram front.done turn.opened.now at-front (joins_of (partners_at new tail) turn.opened.now)
      (joins_of (partners_at new z) turn.opened.now) (paired-there tail tail-within).among (paired-there z below).among in
      subst (λ ds. AllByRecursion (λ (term : Term). term.dots < 2 ^ length ds) (terms_between before tail z))
      (ap₂ (discs points) (pairs-scan tail tail-within) (pairs-scan z below) ∙ sym same)
      (is.rowed.dots tail z (place-alive old tail is.pivot.is_there) (place-alive old z there.alive))

  entries-dotted : All (IsDottedTo turn) (column_at before tail)
  entries-dotted k d within alive =
      let column = column_at before tail in
      let entry = get_or column k d in
      let once = (column-is tail tail-within).once in
      let here : head_at column k ≡ entry.head = get_or-map (λ (e : Entry). e.head) column k d 0 within in
      subst
      (λ (ts : List Term).
      AreDotted (opened_points turn.opened.now) (joins_of (partners_at new tail) turn.opened.now)
      (joins_of (partners_at new entry.head) turn.opened.now) ts)
      (ap (terms_to column) (sym here) ∙ terms-at column k d within once) (dotted-to entry.head alive)

  pub turn-is : IsTurn p turn
  turn-is = record {
    pairs = pairs-are;
    tail = omega (arith, tail-within, two.size);
    tail_dead = two.tail_gone;
    dead = two.head_gone;
    some = number-is.some;
    below = number-is.below;
    column = subst₂ (λ (n : ℕ) (column : List Entry). IsColumn p n column) (sym two.size) (sym column-read) (column-is tail tail-within);
    dots = subst (λ (column : List Entry). All (IsDottedTo turn) column) (sym column-read) entries-dotted;
  }

  column-left : (x : ℕ) → x < length old → IsColumn p (length old) (column_in columns x)
  column-left x below = elim (cases_eq x tail) [
    | inl same ↦
        subst (λ (z : ℕ). IsColumn p (length old) (column_in columns z)) (sym same)
        (subst (IsColumn p (length old)) (sym is.out.none)
        (record {
          heads = All-nil (λ (e : Entry). e.head < length old);
          once = λ y. omega arith;
          reduced = All-nil (λ (e : Entry). AreReduced p e.terms.items);
        }))
    | inr other ↦ subst (IsColumn p (length old)) (sym (is.out.others x other)) (column-is x below)
  ]

  heads-left : (x y : ℕ) → HasHead (column_in columns x) y → HasHead (column_at before x) y
  heads-left x y has = elim (cases_eq x tail) [
    | inl same ↦
        let none = subst (λ (column : List Entry). HasHead column y) (ap (column_in columns) same ∙ is.out.none) has in
        absurd (omega (arith, none.1))
    | inr other ↦ subst (λ (column : List Entry). HasHead column y) (is.out.others x other) has
  ]

  pub columns-begun : AreColumns p new columns left.rows.items
  columns-begun = record {
    size = is.out.size ∙ is.rowed.complex.size ∙ sym two.size;
    rows_size = is.out.rows_size ∙ is.rowed.rows.size ∙ sym two.size;
    each = λ x below.
        subst (λ (n : ℕ). IsColumn p n (column_in columns x)) (sym two.size) (column-left x (omega (arith, below, two.size)));
    noted = λ x below y alive has.
        let there = is-left tail head old new y two alive in
        subst (λ (names : List ℕ). Contains names x) (sym (is.out.rows_left y there.no_head))
        (is.rowed.rows.noted x (omega (arith, below, two.size)) y there.alive (heads-left x y has));
  }

  module _ (named : List ℕ) (next_rowed : Rowed) (names : named ≡ taken.named.items)
      (same_objects : next_rowed.complex.objects ≡ left.complex.objects)
      (cleared : AreCleared p turn named columns next_rowed.complex.columns.items)
      (are : AreColumns p new next_rowed.complex.columns.items next_rowed.rows.items) where
    abbrev next : TangleComplex
    next = next_rowed.complex

    abbrev after : List (Vec Entry)
    after = next.columns.items

    objects-next : next.objects.items ≡ new
    objects-next = ap (λ (objects : Vec Object). objects.items) same_objects ∙ sym is.of.objects_are

    heads-after : (x y : ℕ) → x < length old → HasHead (column_in after x) y
        → HasHead (column_at before x) y ⊎ (HasHead (column_at before x) head × HasHead (column_at before tail) y)
    heads-after x y below has = elim (cleared x (omega (arith, below, two.size))) [
      | inl by ↦ elim (by.heads y has) [
        | inl there ↦ inl (heads-left x y there)
        | inr two_steps ↦
            inr (heads-left x head two_steps.0, subst (λ (column : List Entry). HasHead column y) column-read two_steps.1)
      ]
      | inr kept ↦ inl (heads-left x y (subst (λ (column : List Entry). HasHead column y) kept.0 has))
    ]

    raises-after : (x y : ℕ) → x < length old → HasHead (column_in after x) y → degree_at new y ≡ degree_at new x + 1
    raises-after x y below has =
        let by = λ (z w : ℕ) (z_below : z < length old) (there : HasHead (column_at before z) w).
        all-heads (λ v. degree_at old v ≡ degree_at old z + 1) (column_at before z) w (is.rowed.complex.raises z z_below) there in
        elim (heads-after x y below has) [
          | inl there ↦ omega (arith, by x y below there, degree-stays x, degree-stays y)
          | inr steps ↦
              omega (
                arith,
                by x head below steps.0,
                by tail y tail-within steps.1,
                by tail head tail-within leads,
                degree-stays x,
                degree-stays y,
              )
        ]

    cleared-at : (x : ℕ) → x < length old → x ≢ tail → IsCleared p turn x (column_at before x) (column_in after x)
    cleared-at x below other = elim (cleared x (omega (arith, below, two.size))) [
      | inl by ↦ subst (λ (column : List Entry). IsCleared p turn x column (column_in after x)) (is.out.others x other) by
      | inr kept ↦
          subst (IsCleared p turn x (column_at before x)) (sym (kept.0 ∙ is.out.others x other))
          (cleared-none p turn x (column_at before x)
          (λ has.
          kept.1
          (subst (λ (names : List ℕ). Contains names x) (sym (names ∙ is.out.names))
          (is.rowed.rows.noted x below head is.pivot.leads_there has))))
    ]

    complex-after : IsComplexAt p front next
    complex-after =
        record {
          objects = subst (AreObjects front.done front.opened.items) (sym objects-next) objects-are;
          size = are.size ∙ sym (ap length objects-next);
          columns = λ k d within.
              subst₂ (λ (n : ℕ) (column : List Entry). IsColumn p n column) (sym (ap length objects-next))
              (column-at after k d within) (are.each k (omega (arith, within, are.size)));
          raises = λ x below.
              heads-all (λ y. degree_at next.objects.items y ≡ degree_at next.objects.items x + 1) (column_at next x)
              (λ y has.
              subst (λ (objects : List Object). degree_at objects y ≡ degree_at objects x + 1) (sym objects-next)
              (raises-after x y (omega (arith, below, ap length objects-next, two.size)) has));
        }

    rows-after : HasRows next next_rowed.rows.items
    rows-after = record {
      size = are.rows_size ∙ sym (ap length objects-next);
      noted = λ x below.
          subst (λ (objects : List Object). IsNoted objects next_rowed.rows.items x (column_in after x)) (sym objects-next)
          (are.noted x (omega (arith, below, ap length objects-next)));
    }

    abbrev code : Code
    code = front.diagram

    abbrev scan : Scan
    scan = scan_at front before

    abbrev next_scan : Scan
    next_scan = scan_at front next

    same-object : (z : ℕ) → next_scan.object z ≡ scan.object z
    same-object z =
        ap (λ (objects : List Object). get_or (map (object_of front.opened.items) objects) z first_object) objects-next
        ∙ ap (λ (xs : List scans.Object). get_or xs z first_object) objects-stay

    pairs-next : (z : ℕ) → z < length old → pairs_of next_scan z ≡ joins_of (partners_at new z) turn.opened.now
    pairs-next z below = ap (λ (object : scans.Object). object.pairs) (same-object z) ∙ pairs-scan z below

    number-there : IsNumber p 0 0 code scan tail head turn.pivot.number
    number-there =
        record {
          pairs = pairs-there front.opened.items old head head-within
              ∙ ap (λ (ps : List ℕ). joins_of ps front.opened.items) is.pivot.partners
              ∙ sym (pairs-there front.opened.items old tail tail-within);
          some = λ none. omega (arith, none, number-is.some);
          below = number-is.below;
          terms = λ kept below.
              same-equal p (coefficient_in (terms_between before tail head) kept) (cond (nat_eq 0 kept) turn.pivot.number 0)
              (ap (λ (ts : List Term). coefficient_in ts kept)
              (number-told turn.pivot.number (terms_between before tail head) is.pivot.told)
              ∙ ap (λ n. 0 + cond (nat_eq 0 kept) n 0) (once turn.pivot.number)
              ∙ plain (cond (nat_eq 0 kept) turn.pivot.number 0));
        }
      where
        once : (n : ℕ) → n * 1 ≡ n
        once n = omega arith

        plain : (n : ℕ) → 0 + n ≡ n
        plain n = omega arith

    -- what is left
    alive-next : (x : ℕ) → Contains next_scan.numbers x → is_alive_at new x ≡ true
    alive-next x has =
        subst (λ (objects : List Object). is_alive_at objects x ≡ true) objects-next (alive-place next.objects.items x has)

    numbers-next : next_scan.numbers ≡ others (alive_places old) tail head
    numbers-next = ap alive_places objects-next ∙ places-left tail head old new two

    less-at : (x y : ℕ) → Contains next_scan.numbers x → Contains next_scan.numbers y
        → IsLess p turn x y (terms_between before x head) (terms_between before tail y) (terms_between before x y)
        (terms_between next x y)
    less-at x y has_x has_y =
        let there = is-left tail head old new x two (alive-next x has_x) in
        let by = (cleared-at x (alive-within old x there.alive) there.no_tail).less y (alive-next y has_y) in
        subst
        (λ (column : List Entry).
        IsLess p turn x y (terms_between before x head) (terms_to column y) (terms_between before x y) (terms_between next x y))
        column-read by

    within-next : (x : ℕ) → Contains next_scan.numbers x → x < length old
    within-next x has = alive-within old x (is-left tail head old new x two (alive-next x has)).alive

    was-there : (x : ℕ) → Contains next_scan.numbers x → Contains scan.numbers x
    was-there x has = place-alive old x (is-left tail head old new x two (alive-next x has)).alive

    dots-next : (x y : ℕ) → Contains next_scan.numbers x → Contains next_scan.numbers y → HasDots code next_scan x y
    dots-next x y has_x has_y =
        let points = points_at code front.done in
        let below_x = within-next x has_x in
        let below_y = within-next y has_y in
        subst₂ (λ (m o : List (ℕ × ℕ)). AreDotted points m o (terms_between next x y)) (sym (pairs-next x below_x))
        (sym (pairs-next y below_y))
        (dotted-open code front.done turn.opened.now at-front p turn.pivot.number (partners_at new x) (partners_at new tail)
        (partners_at new y) (terms_between before x head) (terms_between before tail y) (terms_between before x y)
        (terms_between next x y) (paired-there x below_x) (paired-there y below_y) (less-at x y has_x has_y)
        (subst₂ (λ (m o : List (ℕ × ℕ)). AreDotted points m o (terms_between before x y)) (pairs-scan x below_x)
        (pairs-scan y below_y) (is.rowed.dots x y (was-there x has_x) (was-there y has_y))))

    terms-next : (x y kept : ℕ) → Contains next_scan.numbers x → Contains next_scan.numbers y → kept < dot_sets code next_scan x y
        → Same p
        (coefficient_in (terms_between next x y) kept
        + way_coefficient p 0 0 code scan tail head turn.pivot.number x y kept)
        (coefficient_in (terms_between before x y) kept)
    terms-next x y kept has_x has_y kept_below =
        let points = points_at code front.done in
        let below_x = within-next x has_x in
        let below_y = within-next y has_y in
        let sets = ap (λ (xs : List ℕ). 2 ^ length xs)
        (ap (λ (m : List (ℕ × ℕ)). discs points m (pairs_of next_scan y)) (pairs-next x below_x)
        ∙ ap (discs points (joins_of (partners_at new x) turn.opened.now)) (pairs-next y below_y)) in
        let by = less-open code front.done turn.opened.now at-front p turn.pivot.number (partners_at new x) (partners_at new tail)
        (partners_at new y) (terms_between before x head) (terms_between before tail y) (terms_between before x y)
        (terms_between next x y) (paired-there x below_x) (paired-there tail tail-within) (paired-there y below_y)
        (less-at x y has_x has_y) kept (omega (arith, kept_below, sets)) in
        let way = λ (m h o : List (ℕ × ℕ)).
        composed_in 0 0 points m h o (terms_between before x head) (terms_between before tail y) kept in
        let moved : way (pairs_of scan x) (pairs_of scan tail) (pairs_of scan y)
        ≡ way (joins_of (partners_at new x) turn.opened.now) (joins_of (partners_at new tail) turn.opened.now)
        (joins_of (partners_at new y) turn.opened.now) =
        ap (λ (m : List (ℕ × ℕ)). way m (pairs_of scan tail) (pairs_of scan y)) (pairs-scan x below_x)
        ∙ ap (λ (h : List (ℕ × ℕ)). way (joins_of (partners_at new x) turn.opened.now) h (pairs_of scan y))
        (pairs-scan tail tail-within)
        ∙ ap (way (joins_of (partners_at new x) turn.opened.now) (joins_of (partners_at new tail) turn.opened.now))
        (pairs-scan y below_y) in
        ap (λ n. (coefficient_in (terms_between next x y) kept + inverse p turn.pivot.number * n) % p) moved ∙ by

    pub eliminated : (step : IsEliminating p 0 0 code scan next_scan) × ((step.tail ≡ tail) × (step.head ≡ head))
    eliminated = (
      record {
        done = refl;
        tail = tail;
        head = head;
        c = turn.pivot.number;
        differ = differ;
        has_tail = place-alive old tail is.pivot.is_there;
        has_head = place-alive old head is.pivot.leads_there;
        number = number-there;
        listed = subst (λ (xs : List ℕ). AreListed (λ (x : ℕ). x) scan.numbers (tail ∷ head ∷ xs)) (sym numbers-next)
            (others-listed scan.numbers (places-once old) tail head differ (place-alive old tail is.pivot.is_there)
            (place-alive old head is.pivot.leads_there));
        no_tail = λ has. no-tail scan.numbers tail head (subst (λ (xs : List ℕ). Contains xs tail) numbers-next has);
        no_head = λ has. no-head scan.numbers tail head (subst (λ (xs : List ℕ). Contains xs head) numbers-next has);
        object = λ x has. same-object x;
        dots = dots-next;
        terms = terms-next;
      },
      (refl, refl),
    )

    pub rowed-after : IsRowed p front next_rowed
    rowed-after = record { complex = complex-after; dots = dots-next; rows = rows-after }
