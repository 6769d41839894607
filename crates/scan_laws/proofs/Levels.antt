-- Between objects whose levels differ by a gap the pairs of generators that are cancelled lead up by it; so they are shortest where no
-- coefficient falls short of the gap.
use Rattle.std.proofs.Common.{◌≡◌, ℕ, ◌+◌, ◌*◌, ◌<◌, ◌∙◌, ℤ, pos, ◌+ℤ◌, ◌-ℤ◌, List, length, refl, sym, subst, ap, arith}
use Rattle.std.specs.List.{Contains}
use Rattle.std.proofs.lemmas.Int.{ints}
use Rattle.std.proofs.lemmas.Nat.{pow_pos}
use Rattle.kh_types.specs.Bits.{ones}
use Rattle.kh_types.specs.Code.{Code}
use Rattle.cell_laws.specs.Cells.{AreComplex}
use Rattle.cell_laws.specs.Layers.{IsTimesIdentity, Layer, Layers, layer_of}
use Rattle.cell_laws.proofs.CellLists.{cell-of}
use Rattle.cell_laws.proofs.LayerCells.{inside-state, pair-at}
use Rattle.cell_laws.specs.Filtered.{AreFiltered}
use Rattle.cell_laws.specs.Shortest.{HaveGap, IsShortest}
use Rattle.cell_laws.proofs.LeftFiltered.{shortest-gap}
use Rattle.scan_laws.specs.Scans.{Object, Scan, circle_count_at, circles_at, count_behind, pairs_of}
use Rattle.scan_laws.specs.Complexes.{complex_of, degree_of_labels, layers_of, quantum_at}
use Rattle.scan_laws.specs.Eliminating.{IsEliminated, IsEliminating, cancelled_pairs}
use Rattle.scan_laws.proofs.Eliminating.{times-identity}
use Rattle.scan_laws.proofs.Kept.{coefficients-below}
use Rattle.scan_laws.specs.LevelSteps.{level_of}

-- from one object to another with the same pairs
pub quantum-levels : (code : Code) (plus minus : ℕ) (scan : Scan) (x y : ℕ) → pairs_of scan y ≡ pairs_of scan x → (state label : ℕ)
    → quantum_at code plus minus scan (layer_of y state label) -ℤ quantum_at code plus minus scan (layer_of x state label)
    ≡ level_of (scan.object y) -ℤ level_of (scan.object x)
quantum-levels code plus minus scan x y same state label =
    by (scan.object y).shift (scan.object x).shift (degree_of_labels (circle_count_at code scan y state) label)
    (degree_of_labels (circle_count_at code scan x state) label) (scan.object y).degree (scan.object x).degree
    (ones (count_behind code scan.done) state)
    (ap (λ (m : List (ℕ × ℕ)). degree_of_labels (length (circles_at code scan.done m state)) label) same)
  where
    by : (q s d e : ℤ) (m n z : ℕ) → d ≡ e
        → ((q +ℤ d) +ℤ (pos (m + z + plus) -ℤ pos (2 * minus))) -ℤ ((s +ℤ e) +ℤ (pos (n + z + plus) -ℤ pos (2 * minus)))
        ≡ (q +ℤ pos m) -ℤ (s +ℤ pos n)
    by q s d e m n z same = omega (arith, ints, same)

module _ (p hd hh : ℕ) (code : Code) (plus minus : ℕ) (scan next : Scan) (out : IsEliminated p hd hh code plus minus scan next) where
  abbrev less : IsEliminating p hd hh code scan next
  less = out.less

  abbrev layers : Layers
  layers = layers_of p hd hh code plus minus scan

  abbrev tail : Object
  tail = scan.object less.tail

  abbrev head : Object
  head = scan.object less.head

  times : IsTimesIdentity layers less.tail less.head less.c
  times = times-identity p hd hh code plus minus scan next out.field out.cancels out.accepted_is out.of less

  rises : (state label : ℕ)
      → layers.quantum (layer_of less.head state label) -ℤ layers.quantum (layer_of less.tail state label)
      ≡ level_of head -ℤ level_of tail
  rises state label = quantum-levels code plus minus scan less.tail less.head less.number.pairs state label

  pub each-rises : (pair : Layer × Layer) → Contains (cancelled_pairs code scan less.tail less.head) pair
      → layers.quantum pair.1 -ℤ layers.quantum pair.0 ≡ level_of head -ℤ level_of tail
  each-rises pair has =
      let at = pair-at p layers less.tail less.head less.c next.numbers out.field
      (coefficients-below p hd hh code plus minus scan out.field.above_one) less.listed less.no_tail less.no_head times pair has in
      subst (λ (q : Layer × Layer). layers.quantum q.1 -ℤ layers.quantum q.0 ≡ level_of head -ℤ level_of tail) (sym at.is)
      (rises at.state at.label)

  pub each-level : level_of head ≡ level_of tail → (pair : Layer × Layer) → Contains (cancelled_pairs code scan less.tail less.head) pair
      → layers.quantum pair.1 ≡ layers.quantum pair.0
  each-level same pair has =
      by (layers.quantum pair.1) (layers.quantum pair.0) (level_of head) (level_of tail) (each-rises pair has) same
    where
      by : (q r g h : ℤ) → q -ℤ r ≡ g -ℤ h → g ≡ h → q ≡ r
      by q r g h rise level = omega (arith, ints, rise, level)

  pub shortest-levels : (gap : ℤ) → HaveGap (complex_of p hd hh code plus minus scan) gap → level_of head -ℤ level_of tail ≡ gap
      → (pair : Layer × Layer) → Contains (cancelled_pairs code scan less.tail less.head) pair
      → IsShortest (complex_of p hd hh code plus minus scan) pair
  shortest-levels gap least same pair has =
      let at = pair-at p layers less.tail less.head less.c next.numbers out.field
      (coefficients-below p hd hh code plus minus scan out.field.above_one) less.listed less.no_tail less.no_head times pair has in
      subst (λ (q : Layer × Layer). IsShortest (complex_of p hd hh code plus minus scan) q) (sym at.is)
      (shortest-gap (complex_of p hd hh code plus minus scan) gap
      (layer_of less.tail at.state at.label, layer_of less.head at.state at.label) least
      (cell-of layers (layer_of less.tail at.state at.label)
      (record { object = less.has_tail; state = at.state_below; label = at.label_below }))
      (cell-of layers (layer_of less.head at.state at.label)
      (record {
        object = less.has_head;
        state = at.state_below;
        label = subst (λ n. at.label < n) (sym (times.labels at.state at.state_below)) at.label_below;
      }))
      (rises at.state at.label ∙ same))

  pub shortest-level : AreFiltered p (complex_of p hd hh code plus minus scan) → level_of head ≡ level_of tail
      → (pair : Layer × Layer) → Contains (cancelled_pairs code scan less.tail less.head) pair
      → IsShortest (complex_of p hd hh code plus minus scan) pair
  shortest-level filtered same =
      shortest-levels (pos 0) (λ x y has_x has_y some. omega (arith, ints, filtered.quantum x y has_x has_y some))
      (none (level_of head) (level_of tail) same)
    where
      none : (a b : ℤ) → a ≡ b → a -ℤ b ≡ pos 0
      none a b same = omega (arith, ints, same)

  -- in a complex the levels are the same
  pub level-complex : AreComplex p (complex_of p hd hh code plus minus scan) → level_of head ≡ level_of tail
  level-complex complex =
      let a = layer_of less.tail 0 0 in
      let b = layer_of less.head 0 0 in
      let state = pow_pos (count_behind code scan.done) in
      let label = pow_pos (circle_count_at code scan less.tail 0) in
      let has_a = cell-of layers a (record { object = less.has_tail; state = state; label = label }) in
      let has_b = cell-of layers b
      (record { object = less.has_head; state = state; label = subst (λ n. 0 < n) (sym (times.labels 0 state)) label }) in
      same (level_of head) (level_of tail) (layers.quantum b) (layers.quantum a) (rises 0 0)
      (complex.quantum a b has_a has_b
      (λ none. times.some (sym (times.equal 0 0 state label) ∙ sym (inside-state layers a b refl) ∙ none)))
    where
      same : (g h q r : ℤ) → q -ℤ r ≡ g -ℤ h → q ≡ r → g ≡ h
      same g h q r rise level = omega (arith, ints, rise, level)
