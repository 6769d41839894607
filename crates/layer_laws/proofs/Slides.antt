-- A slide: what two eliminations leave before and after is the same, where the state opposite the closing one and a neighbour of the
-- closing one change their places.
use Rattle.std.proofs.Common.{◌≡◌, ◌≢◌, ℕ, ◌+◌, ◌*◌, ◌%◌, ◌<◌, ◌∙◌, ℤ, map, refl, sym, subst, ap, ap₂, arith, Bool, true, false, not, ◌&&◌}
use Rattle.std.specs.Prelude.{nat_eq, if◌then◌else◌}
use Rattle.std.specs.List.{Contains, range_with_len}
use Rattle.std.proofs.lemmas.Bool.{and_parts, eq-eqb, not-true}
use Rattle.kh_types.specs.Bits.{ones}
use Rattle.kh_types.specs.Residues.{HasInverses, Same}
use Rattle.kh_types.proofs.Lists.{range-contains}
use Rattle.kh_types.proofs.Residues.{same-equal, same-mul, same-scaled}
use Rattle.cell_laws.specs.Alike.{AreListed}
use Rattle.cell_laws.specs.Cells.{dimension_at}
use Rattle.cell_laws.specs.Layers.{Layers, cells_of}
use Rattle.cell_laws.proofs.Listings.{listed-later, listed-named}
use Rattle.cell_laws.proofs.Members.{Contains-kept}
use Rattle.layer_laws.specs.Renamed.{AreRenamed}
use Rattle.layer_laws.specs.Cuts.{IsCut}
use Rattle.cell_laws.specs.Signs.{sign_of_power}
use Rattle.layer_laws.specs.Slid.{AreFiveLeft, IsMeasured, above_of, below_of, is_near, kind_after, kind_before, left_number}
use Rattle.layer_laws.proofs.RenamedLayers.{dimension-renamed}
use Rattle.layer_laws.proofs.Reorderings.{listed-reordered}
use Rattle.layer_laws.proofs.Signs.{sign-parity, sign-squared, sign-sum}
use Rattle.layer_laws.proofs.SlideTables.{IsExchanged, exchanged, exchanged-is, is_last, joined_at, last_objects, listed-exchanged, near-after, near-before, pairs-at, power_at, signed-is, turn_of}
use Rattle.layer_laws.proofs.TwoPairs.{ArePairs, complex-left, dimension-left, entry-left, left}

-- a number for an entry or 0, up to the signs of both ends
signed-number : (p a b c d : ℕ) (joined other : Bool) → 0 < p → joined ≡ other → (joined ≡ true → (a + (b + (c + d))) % 2 ≡ 0)
    → Same p (if joined then sign_of_power p a else 0) (sign_of_power p b * (sign_of_power p c * (if other then sign_of_power p d else 0)))
signed-number p a b c d true true positive same even =
    same-equal p (sign_of_power p a) (sign_of_power p (b + (c + d)))
    (sign-parity p a (b + (c + d)) (one_parity a (b + (c + d)) (even refl)))
    ∙ sym (same-scaled p (sign_of_power p b) (sign_of_power p c * sign_of_power p d) (sign_of_power p (c + d)) (sign-sum p c d positive)
    ∙ sign-sum p b (c + d) positive)
  where
    one_parity : (x y : ℕ) → (x + y) % 2 ≡ 0 → x % 2 ≡ y % 2
    one_parity x y even = omega (arith, even)
signed-number p a b c d false false positive same even = same-equal p 0 (sign_of_power p b * (sign_of_power p c * 0))
    (none (sign_of_power p b) (sign_of_power p c))
  where
    none : (x y : ℕ) → 0 ≡ x * (y * 0)
    none x y = omega arith
signed-number p a b c d true false positive same even = let e : true ≡ false = same in cc
signed-number p a b c d false true positive same even = let e : false ≡ true = same in cc

-- the objects that are left
pub record IsLast (o x : ℕ) : Type 0 where
  pub within : x < 8
  pub last : is_last o x ≡ true
  pub other : x ≢ o

pub last-is : (o x : ℕ) → Contains (last_objects o) x → IsLast o x
last-is o x has =
    let kept = Contains-kept (is_last o) (range_with_len 0 8) x has in
    record {
      within = range-contains 8 x kept.0;
      last = kept.1;
      other = λ same. contradiction (nat_eq x o) (eq-eqb x o same)
          (not-true (nat_eq x o) (and_parts (not (nat_eq x o)) (not (nat_eq x (above_of o)) && not (nat_eq x (below_of o))) kept.1).0);
    }
  where
    contradiction : (b : Bool) → b ≡ true → b ≡ false → ⊥
    contradiction b passes fails = let e : true ≡ false = sym passes ∙ fails in cc

-- five objects are left
pub five-left : (p o : ℕ) (kind : ℕ → ℕ) (count : ℕ → ℕ → ℕ) (saddle : ℕ → ℕ → ℕ → ℕ → ℕ → ℕ) (layers : Layers) → HasInverses p → 0 < o
    → o < 7 → ((t : ℕ) → t < 8 → is_near o t ≡ true → kind t ≡ kind o) → IsCut p 3 o kind count saddle layers
    → (last : Layers) × AreFiveLeft p o kind saddle layers last
five-left p o kind count saddle layers field above below near cut =
    let pairs = pairs-at o kind above below near in (
      left p 3 o (above_of o) (below_of o) kind count saddle layers field cut pairs,
      record {
        complex = complex-left p 3 o (above_of o) (below_of o) kind count saddle layers field cut pairs;
        objects = refl;
        states = refl;
        labels = refl;
        homological = refl;
        quantum = refl;
        outer = refl;
        entries = λ x y has_x has_y.
            let x_is = last-is o x has_x in
            let y_is = last-is o y has_y in
            entry-left p 3 o (above_of o) (below_of o) kind count saddle layers field cut pairs x y x_is.within y_is.within x_is.last
            y_is.last;
        dimensions = λ i j. dimension-left p 3 o (above_of o) (below_of o) kind count saddle layers field cut pairs i j;
      },
    )

module _ (p o : ℕ) (count : ℕ → ℕ → ℕ) (saddle : ℕ → ℕ → ℕ → ℕ → ℕ → ℕ) (height : ℕ → ℕ → ℤ) (weight : ℕ → ℕ → ℕ → ℕ → ℤ)
    (between : ℕ → ℕ → ℕ → ℕ → ℕ → ℕ → ℕ) (first second : Layers) (field : HasInverses p) (above : 0 < o) (below : o < 7)
    (states : second.states ≡ first.states) (cut_first : IsCut p 3 o (kind_before o) count saddle first)
    (measured_first : IsMeasured p o (kind_before o) height weight between first)
    (cut_second : IsCut p 3 o (kind_after o) count saddle second)
    (measured_second : IsMeasured p o (kind_after o) height weight between second) where
  positive : 0 < p
  positive = omega (arith, field.above_one)

  pub pairs_first : ArePairs 3 o (above_of o) (below_of o) (kind_before o)
  pairs_first = pairs-at o (kind_before o) above below (near-before o above below)

  pub pairs_second : ArePairs 3 o (above_of o) (below_of o) (kind_after o)
  pairs_second = pairs-at o (kind_after o) above below (near-after o above below)

  abbrev pub left_first : Layers
  left_first = left p 3 o (above_of o) (below_of o) (kind_before o) count saddle first field cut_first pairs_first

  abbrev pub left_second : Layers
  left_second = left p 3 o (above_of o) (below_of o) (kind_after o) count saddle second field cut_second pairs_second

  abbrev to : ℕ → ℕ
  to = exchanged o

  there : (x : ℕ) → IsLast o x → IsExchanged o x
  there x is = exchanged-is o x above below is.within is.last

  pub other-there : (x : ℕ) → IsLast o x → IsLast o (to x)
  other-there x is =
      let e = there x is in
      record {
        within = e.within;
        last = e.last;
        other = λ same. contradiction (nat_eq (to x) o) (eq-eqb (to x) o same)
            (not-true (nat_eq (to x) o)
            (and_parts (not (nat_eq (to x) o)) (not (nat_eq (to x) (above_of o)) && not (nat_eq (to x) (below_of o))) e.last).0);
      }
    where
      contradiction : (b : Bool) → b ≡ true → b ≡ false → ⊥
      contradiction b passes fails = let e : true ≡ false = sym passes ∙ fails in cc

  labels-first : (x state : ℕ) → IsLast o x → state < first.states → first.labels x state ≡ count (kind_before o x) state
  labels-first x state is below_states = cut_first.labels x state is.within below_states

  labels-second : (x state : ℕ) → IsLast o x → state < first.states → second.labels (to x) state ≡ first.labels x state
  labels-second x state is below_states =
      cut_second.labels (to x) state (there x is).within (subst (λ (n : ℕ). state < n) (sym states) below_states)
      ∙ ap (λ (n : ℕ). count n state) (there x is).kind ∙ sym (labels-first x state is below_states)

  pub there-below : (x state label : ℕ) → IsLast o x → state < first.states → label < first.labels x state → label < second.labels (to x) state
  there-below x state label is below_states label_below =
      subst (λ (n : ℕ). label < n) (sym (labels-second x state is below_states)) label_below

  there-state : (state : ℕ) → state < first.states → state < second.states
  there-state state below_states = subst (λ (n : ℕ). state < n) (sym states) below_states

  inner-exchanged : (x y state label other : ℕ) → IsLast o x → IsLast o y → state < first.states → label < first.labels x state
      → other < first.labels y state
      → Same p (left_first.inner x y state label other)
      (sign_of_power p (turn_of o x) * (sign_of_power p (turn_of o y) * left_second.inner (to x) (to y) state label other))
  inner-exchanged x y state label other x_is y_is below_states label_below other_below =
      let n = left_number p 3 o (above_of o) (below_of o) x y in
      let m = left_number p 3 o (above_of o) (below_of o) (to x) (to y) in
      let a = sign_of_power p (turn_of o x) in
      let b = sign_of_power p (turn_of o y) in
      let g = saddle (kind_before o x) (kind_before o y) state label other in
      let h = saddle (kind_after o (to x)) (kind_after o (to y)) state label other in
      let signs = signed-is o x y above below x_is.within y_is.within x_is.last y_is.last in
      let x_to = other-there x x_is in
      let y_to = other-there y y_is in
      (entry-left p 3 o (above_of o) (below_of o) (kind_before o) count saddle first field cut_first pairs_first x y
      x_is.within y_is.within x_is.last y_is.last).is state label other below_states label_below other_below
      ∙ same-mul p n (a * (b * m)) g g
      (signed-number p (power_at o x y) (turn_of o x) (turn_of o y) (power_at o (to x) (to y)) (joined_at o x y) (joined_at o (to x) (to y))
      positive signs.joined signs.even) refl
      ∙ same-equal p (a * (b * m) * g) (a * (b * (m * h)))
      (regrouped a b m g ∙ ap (λ (n : ℕ). a * (b * (m * n)))
      (ap₂ (λ (u v : ℕ). saddle u v state label other) (sym (there x x_is).kind) (sym (there y y_is).kind)))
      ∙ same-scaled p a (b * (m * h)) (b * left_second.inner (to x) (to y) state label other)
      (same-scaled p b (m * h) (left_second.inner (to x) (to y) state label other)
      (sym ((entry-left p 3 o (above_of o) (below_of o) (kind_after o) count saddle second field cut_second pairs_second
      (to x) (to y) x_to.within y_to.within x_to.last y_to.last).is state label other (there-state state below_states)
      (there-below x state label x_is below_states label_below) (there-below y state other y_is below_states other_below))))
    where
      regrouped : (a b m g : ℕ) → a * (b * m) * g ≡ a * (b * (m * g))
      regrouped a b m g = omega arith

  outer-exchanged : (x state next label other : ℕ) → IsLast o x → state < first.states → next < first.states → state ≢ next
      → label < first.labels x state → other < first.labels x next
      → Same p (first.outer x state next label other)
      (sign_of_power p (turn_of o x) * (sign_of_power p (turn_of o x) * second.outer (to x) state next label other))
  outer-exchanged x state next label other is below_states next_below differ label_below other_below =
      let a = sign_of_power p (turn_of o x) in
      let e = there x is in
      let d = second.outer (to x) state next label other in
      measured_first.outer x state next label other is.within is.other below_states next_below differ label_below other_below
      ∙ same-equal p (between (ones 3 x) (kind_before o x) state next label other)
      (between (ones 3 (to x)) (kind_after o (to x)) state next label other)
      (ap₂ (λ (u v : ℕ). between u v state next label other) (sym e.ones) (sym e.kind))
      ∙ sym (measured_second.outer (to x) state next label other e.within (other-there x is).other (there-state state below_states)
      (there-state next next_below) differ (there-below x state label is below_states label_below)
      (there-below x next other is next_below other_below))
      ∙ same-equal p d (1 * d) (once d)
      ∙ same-mul p 1 (a * a) d d (sym (sign-squared p (turn_of o x) positive)) refl
      ∙ same-equal p (a * a * d) (a * (a * d)) (regrouped a d)
    where
      once : (d : ℕ) → d ≡ 1 * d
      once d = omega arith

      regrouped : (a d : ℕ) → a * a * d ≡ a * (a * d)
      regrouped a d = omega arith

  listed-to : AreListed to (last_objects o) (last_objects o)
  listed-to =
      listed-later to (λ (x : ℕ). x) (last_objects o) (map to (last_objects o)) (last_objects o) (listed-named to (last_objects o))
      (listed-reordered (map to (last_objects o)) (last_objects o) (listed-exchanged o above below))

  pub renamed-slide : AreRenamed p to (λ x state. sign_of_power p (turn_of o x)) left_first left_second
  renamed-slide =
      record {
        listed = listed-to;
        apart = λ x y has_x has_y same.
            sym (there x (last-is o x has_x)).back ∙ ap to same ∙ (there y (last-is o y has_y)).back;
        states = states;
        labels = λ x state has below_states. labels-second x state (last-is o x has) below_states;
        homological = λ x state label has below_states label_below.
            let is = last-is o x has in
            let e = there x is in
            measured_second.homological (to x) state label e.within (other-there x is).other (there-state state below_states)
            (there-below x state label is below_states label_below)
            ∙ ap (λ (n : ℕ). height n state) e.ones
            ∙ sym (measured_first.homological x state label is.within is.other below_states label_below);
        quantum = λ x state label has below_states label_below.
            let is = last-is o x has in
            let e = there x is in
            measured_second.quantum (to x) state label e.within (other-there x is).other (there-state state below_states)
            (there-below x state label is below_states label_below)
            ∙ ap₂ (λ (n m : ℕ). weight n m state label) e.ones e.kind
            ∙ sym (measured_first.quantum x state label is.within is.other below_states label_below);
        squares = λ x state has below_states. sign-squared p (turn_of o x) positive;
        inner = λ x y state label other has_x has_y below_states label_below other_below.
            inner-exchanged x y state label other (last-is o x has_x) (last-is o y has_y) below_states label_below other_below;
        outer = λ x state next label other has below_states next_below differ label_below other_below.
            outer-exchanged x state next label other (last-is o x has) below_states next_below differ label_below other_below;
      }

  pub dimension-slide : (i j : ℤ) → dimension_at p (cells_of second) i j ≡ dimension_at p (cells_of first) i j
  dimension-slide i j =
      sym (dimension-left p 3 o (above_of o) (below_of o) (kind_after o) count saddle second field cut_second pairs_second i j)
      ∙ dimension-renamed p to (λ x state. sign_of_power p (turn_of o x)) left_first left_second renamed-slide field
      (complex-left p 3 o (above_of o) (below_of o) (kind_before o) count saddle first field cut_first pairs_first)
      (complex-left p 3 o (above_of o) (below_of o) (kind_after o) count saddle second field cut_second pairs_second) i j
      ∙ dimension-left p 3 o (above_of o) (below_of o) (kind_before o) count saddle first field cut_first pairs_first i j
