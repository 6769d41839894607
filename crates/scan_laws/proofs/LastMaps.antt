-- Behind all crossings no arc is open: each map is one number, its amount, times the identity, and none other than 0 leads from an object
-- to itself, by degrees. A coefficient other than 0 joins equal labels of objects between which the amount is not 0, so that it rises as
-- their levels do.
use Rattle.std.proofs.Common.{◌≡◌, ◌≢◌, ℕ, inl, inr, ◌+◌, ◌*◌, ◌%◌, ◌^◌, ◌<◌, ◌∙◌, ℤ, pos, ◌+ℤ◌, ◌-ℤ◌, List, [], length, refl, sym, subst, ap, ap₂, arith, IsTrue}
use Rattle.std.specs.Prelude.{nat_eq, ◌++◌, ◌≤ℤ◌, if◌then◌else◌}
use Rattle.std.specs.List.{Contains, filter}
use Rattle.std.proofs.Math.Nat.{zero-mod, mod-mod}
use Rattle.std.proofs.lemmas.Bool.{cases_eq}
use Rattle.std.proofs.lemmas.Int.{ints}
use Rattle.std.proofs.lemmas.Nat.{mod_below, pow_pos}
use Rattle.kh_types.specs.Acceptance.{accepted}
use Rattle.kh_types.specs.Classes.{classes_of, is_least}
use Rattle.kh_types.specs.Code.{Code}
use Rattle.kh_types.specs.Products.{sum_below}
use Rattle.kh_types.specs.Residues.{HasInverses, Same}
use Rattle.kh_types.proofs.Residues.{same-equal}
use Rattle.dotted_maps.specs.Maps.{coefficient_in, matrix_of}
use Rattle.dotted_maps.specs.Terms.{entry}
use Rattle.dotted_maps.proofs.Identities.{entry-identity}
use Rattle.dotted_maps.proofs.MapProducts.{matrix-same}
use Rattle.added_crossing_laws.specs.Codes.{points_at}
use Rattle.cell_laws.specs.Cells.{Cells, dimension_at}
use Rattle.cell_laws.specs.Filtered.{AreFiltered}
use Rattle.cell_laws.specs.Layers.{IsTimesIdentity, Layer, Layers, layer_coefficient, layer_of}
use Rattle.cell_laws.specs.LevelParts.{level_coefficient, level_part}
use Rattle.cell_laws.specs.Shortest.{HaveGap}
use Rattle.cell_laws.proofs.CellLists.{cell-from, cell-of}
use Rattle.cell_laws.proofs.LastCells.{dimension-nothing}
use Rattle.cell_laws.proofs.LayerCells.{inside-state}
use Rattle.cell_laws.proofs.LevelParts.{complex-level, dimension-level, level-some}
use Rattle.scan_laws.specs.Made.{joined_outside}
use Rattle.scan_laws.specs.Scans.{IsScanOf, Scan, circle_count_at, count_behind, dot_sets, pairs_of}
use Rattle.scan_laws.specs.Complexes.{complex_of, layers_of}
use Rattle.scan_laws.specs.Counts.{counted_with}
use Rattle.scan_laws.specs.Eliminating.{IsNumber}
use Rattle.scan_laws.specs.LevelSteps.{IsLevelLast, level_of}
use Rattle.scan_laws.proofs.Eliminating.{times-number}
use Rattle.scan_laws.proofs.End.{cells-last, state-zero}
use Rattle.scan_laws.proofs.LastPoints.{nothing-open, pairs-last}
use Rattle.scan_laws.proofs.Levels.{quantum-levels}
use Rattle.scan_laws.proofs.Matrices.{matrix-sets}
use Rattle.scan_laws.proofs.Objects.{object-pairing, objects-glued}
use Rattle.scan_laws.proofs.Points.{placed-behind}

-- what holds at 0 holds below 1
at-zero : (P : ℕ → Type 0) (n : ℕ) → n < 1 → P 0 → P n
at-zero P n below zero_has = subst P (let g : 0 ≡ n = omega (arith, below) in g) zero_has

-- the objects as cells, with the amounts
abbrev pub objects_of : ℕ → Scan → Cells ℕ
objects_of p scan = record {
  list = scan.numbers;
  homological = λ x. pos 0;
  quantum = λ x. level_of (scan.object x);
  coefficient = λ x y. coefficient_in (scan.terms x y) 0 % p;
}

module _ (p hd hh : ℕ) (code : Code) (plus minus : ℕ) (field : HasInverses p) (cancels : Same p (hd + hh) 0) (is : IsTrue (accepted code))
    (scan : Scan) (of : IsScanOf code scan) (filtered : AreFiltered p (complex_of p hd hh code plus minus scan))
    (done : scan.done ≡ length code.crossings) where
  abbrev cells : Cells Layer
  cells = complex_of p hd hh code plus minus scan

  abbrev layers : Layers
  layers = layers_of p hd hh code plus minus scan

  abbrev amount : ℕ → ℕ → ℕ
  amount x y = (objects_of p scan).coefficient x y

  -- there is one set of dots
  one-set : (x y : ℕ) → dot_sets code scan x y ≡ 1
  one-set x y =
      ap (λ (points : List ℕ). 2 ^ length (filter (is_least (classes_of (points_at code 0).size (pairs_of scan x ++ pairs_of scan y)))
      points)) (nothing-open code is scan of done)

  pub zero-terms : (x y : ℕ) → (objects_of p scan).coefficient x y ≡ 0 → (kept : ℕ) → kept < dot_sets code scan x y
      → Same p (coefficient_in (scan.terms x y) kept) 0
  zero-terms x y none kept below =
      at-zero (λ n. Same p (coefficient_in (scan.terms x y) n) 0) kept (omega (arith, below, one-set x y)) (none ∙ sym (zero-mod p))

  -- no map leads from an object to itself
  pub no-loop : (x : ℕ) → Contains scan.numbers x → (objects_of p scan).coefficient x x ≢ 0 → ⊥
  no-loop x has some =
      let a = layer_of x 0 0 in
      let m = pairs_of scan x in
      let w = joined_outside code scan.done 0 in
      let points = points_at code scan.done in
      let e = λ (kept : ℕ). entry hd hh points m m w kept 0 0 in
      let label = pow_pos (circle_count_at code scan x 0) in
      let in_list = cell-of layers a (record { object = has; state = pow_pos (count_behind code scan.done); label = label }) in
      let one : e 0 ≡ 1 =
      entry-identity hd hh points m w 0 0
      (record {
        placed = placed-behind code scan.done;
        pairing = object-pairing code is scan of x has;
        glued = objects-glued code is scan of x x 0 has has;
      }) label label in
      let same : Same p (layer_coefficient layers a a) (coefficient_in (scan.terms x x) 0) =
      same-equal p (layer_coefficient layers a a) (matrix_of p hd hh points m m w (scan.terms x x) 0 0) (inside-state layers a a refl)
      ∙ matrix-sets p hd hh points m m w (scan.terms x x) 0 0 (of.dots x x has has)
      ∙ same-equal p (sum_below (dot_sets code scan x x) (λ kept. coefficient_in (scan.terms x x) kept * e kept))
      (coefficient_in (scan.terms x x) 0)
      (ap (λ n. sum_below n (λ kept. coefficient_in (scan.terms x x) kept * e kept)) (one-set x x)
      ∙ alone (coefficient_in (scan.terms x x) 0) (e 0) one) in
      never (layers.homological a)
      (filtered.homological a a in_list in_list (λ none. some (sym same ∙ ap (λ n. n % p) none ∙ zero-mod p)))
    where
      alone : (c n : ℕ) → n ≡ 1 → c * n + 0 ≡ c
      alone c n one = ap (λ k. c * k + 0) one ∙ omega arith

      never : (d : ℤ) → d ≡ d +ℤ pos 1 → ⊥
      never d same = omega (arith, ints, same)

  pub is-number : (x y : ℕ) → Contains scan.numbers x → Contains scan.numbers y → (objects_of p scan).coefficient x y ≢ 0
      → IsNumber p hd hh code scan x y ((objects_of p scan).coefficient x y)
  is-number x y has_x has_y some =
      record {
        pairs = pairs-last code is scan of done y has_y ∙ sym (pairs-last code is scan of done x has_x);
        some = some;
        below = mod_below (coefficient_in (scan.terms x y) 0) p (omega (arith, field.above_one));
        terms = λ kept below.
            at-zero
            (λ n. Same p (coefficient_in (scan.terms x y) n) (if nat_eq 0 n then coefficient_in (scan.terms x y) 0 % p else 0)) kept
            (omega (arith, below, one-set x y)) (sym (mod-mod (coefficient_in (scan.terms x y) 0) p));
      }

  pub differ-of : (x y : ℕ) → Contains scan.numbers x → (objects_of p scan).coefficient x y ≢ 0 → x ≢ y
  differ-of x y has_x some same = no-loop x has_x (subst (λ z. amount x z ≢ 0) (sym same) some)

  -- where the amount is 0, so are all coefficients
  nothing-there : (x y : Layer) → Contains scan.numbers x.object → Contains scan.numbers y.object → x.state ≡ y.state
      → amount x.object y.object ≡ 0 → layer_coefficient layers x y ≡ 0
  nothing-there x y has_x has_y same none =
      inside-state layers x y same
      ∙ matrix-same p hd hh (points_at code scan.done) (pairs_of scan x.object) (pairs_of scan y.object)
      (joined_outside code scan.done x.state)
      (scan.terms x.object y.object) [] y.label x.label
      (record {
        dots = of.dots x.object y.object has_x has_y;
        other_dots = tt;
        coefficients = λ kept below. zero-terms x.object y.object none kept below;
      })
      ∙ zero-mod p

  -- what a coefficient other than 0 joins
  rises-last : (x y : Layer) → Contains cells.list x → Contains cells.list y → layer_coefficient layers x y ≢ 0
      → (amount x.object y.object ≢ 0)
      × (layers.quantum y -ℤ layers.quantum x ≡ level_of (scan.object y.object) -ℤ level_of (scan.object x.object))
  rises-last x y has_x has_y some =
      let o = cell-from layers x has_x in
      let t = cell-from layers y has_y in
      let at = state-zero p hd hh code is scan of done plus minus in
      let same : x.state ≡ y.state = at x has_x ∙ sym (at y has_y) in
      let there : amount x.object y.object ≢ 0 = λ none. some (nothing-there x y o.object t.object same none) in
      let number = is-number x.object y.object o.object t.object there in
      let times : IsTimesIdentity layers x.object y.object (amount x.object y.object) =
      times-number p hd hh code plus minus scan field cancels is of x.object y.object (amount x.object y.object)
      (differ-of x.object y.object o.object there) o.object t.object number in
      let below : y.label < layers.labels x.object x.state =
      subst (λ n. y.label < n) (ap (λ s. layers.labels y.object s) (sym same) ∙ times.labels x.state o.state) t.label in
      elim (cases_eq x.label y.label) [
        | inl labels_same ↦ (
          there,
          ap (λ (q : ℤ). q -ℤ layers.quantum x)
              (ap₂ (λ s l. layers.quantum (layer_of y.object s l)) (sym same) (sym labels_same))
              ∙ quantum-levels code plus minus scan x.object y.object number.pairs x.state x.label,
        )
        | inr apart ↦ absurd (some (inside-state layers x y same ∙ times.others x.state x.label y.label o.state o.label below apart))
      ]

  pub gap-last : (gap : ℤ) → HaveGap (objects_of p scan) gap → HaveGap (complex_of p hd hh code plus minus scan) gap
  gap-last gap least x y has_x has_y some =
      let rises = rises-last x y has_x has_y some in
      subst (λ (d : ℤ). gap ≤ℤ d) (sym rises.1)
      (least x.object y.object (cell-from layers x has_x).object (cell-from layers y has_y).object rises.0)

  -- where no map is left between objects of one level, no coefficient is between equal quantum degrees, and the cells are the dimensions
  module _ (last : IsLevelLast p code scan) where
    level-none : (x y : Layer) → Contains cells.list x → Contains cells.list y → level_coefficient cells x y ≡ 0
    level-none x y has_x has_y = elim (cases_eq (level_coefficient cells x y) 0) [
      | inl none ↦ none
      | inr some ↦
          let at = level-some cells x y some in
          let rises = rises-last x y has_x has_y at.1 in
          absurd (rises.0 (last.terms x.object y.object 0 (cell-from layers x has_x).object (cell-from layers y has_y).object
          (level (layers.quantum y) (layers.quantum x) (level_of (scan.object y.object)) (level_of (scan.object x.object)) rises.1
          (sym at.0))
          (omega (arith, one-set x.object y.object)) ∙ zero-mod p))
    ]
      where
        level : (q r g h : ℤ) → q -ℤ r ≡ g -ℤ h → q ≡ r → g ≡ h
        level q r g h rise same = omega (arith, ints, rise, same)

    pub dimension-last : (i j : ℤ)
        → dimension_at p (complex_of p hd hh code plus minus scan) i j ≡ counted_with code.loops plus minus scan i j
    dimension-last i j =
        sym (dimension-level p cells i j)
        ∙ dimension-nothing p (level_part cells) field (complex-level p cells filtered).below level-none i j
        ∙ cells-last p hd hh code is scan of done plus minus i j
