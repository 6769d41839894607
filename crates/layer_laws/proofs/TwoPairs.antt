-- Two eliminations in layers that are cut: the closing object with v+ goes with a state above it, and a state below it with the closing
-- object with v-. What is left, and with which coefficients.
use Rattle.std.proofs.Common.{◌≡◌, ◌≢◌, ℕ, ◌⊎◌, inl, inr, ◌+◌, ◌-◌, ◌*◌, ◌%◌, ◌^◌, ◌<◌, ◌∙◌, ℤ, List, ◌∷◌, refl, sym, subst, ap, arith, Bool, true, false, not, ◌&&◌, ◌||◌}
use Rattle.std.specs.Prelude.{nat_eq, if◌then◌else◌}
use Rattle.std.proofs.lemmas.Bool.{and_cases, and_parts, eq-eqb}
use Rattle.kh_types.specs.Rank.{inverse}
use Rattle.kh_types.specs.Residues.{HasInverses}
use Rattle.cell_laws.specs.Alike.{AreListed}
use Rattle.cell_laws.specs.Cells.{AreComplex, dimension_at}
use Rattle.cell_laws.specs.Layers.{IsTimesIdentity, Layers, cells_of, layers_left}
use Rattle.cell_laws.proofs.LayerCells.{complex-layers, dimension-layers}
use Rattle.cell_laws.proofs.Listings.{listed-same}
use Rattle.layer_laws.specs.Cuts.{IsCut, IsNothing, IsTimes, cut_objects, is_step, ones_before, same_label, step_sign}
use Rattle.cell_laws.specs.Signs.{sign_of_power}
use Rattle.layer_laws.specs.Slid.{goes_above, goes_below, is_left, left_number, left_objects}
use Rattle.layer_laws.proofs.Entries.{nothing-kept, times-begins, times-ends, times-identity, times-kept, times-none, times-same}
use Rattle.layer_laws.proofs.Reorderings.{gone-from, is_in, is_reordered, listed-reordered, at_odds}
use Rattle.layer_laws.proofs.Signs.{sign-squared, way-sign}

-- no two of an edge, a way above and a way below lead from one state to another
abbrev pub is_alone : ℕ → ℕ → ℕ → ℕ → ℕ → ℕ → Bool
is_alone k closing above below tail head =
    not (is_step k tail head && (goes_above k closing above tail head || goes_below k closing below tail head))
    && not (goes_above k closing above tail head && goes_below k closing below tail head)

-- the objects of the two pairs, before the others
abbrev pub behind_first : ℕ → ℕ → ℕ → ℕ → List ℕ
behind_first k closing above below = below ∷ (closing + 2 ^ k) ∷ left_objects k closing above below

-- what the closing state, the one above and the one below are to one another, and to the others
pub record ArePairs (k closing above below : ℕ) (kind : ℕ → ℕ) : Type 0 where
  pub closing_within : closing < 2 ^ k
  pub above_within : above < 2 ^ k
  pub below_within : below < 2 ^ k
  pub up : is_step k closing above ≡ true
  pub down : is_step k below closing ≡ true
  pub not_through : is_step k below above ≡ false
  pub not_itself : is_step k closing closing ≡ false
  pub closing_above : closing ≢ above
  pub closing_below : closing ≢ below
  pub near_above : (t : ℕ) → t < 2 ^ k → is_step k closing t ≡ true → kind t ≡ kind closing
  pub near_below : (t : ℕ) → t < 2 ^ k → is_step k t closing ≡ true → kind t ≡ kind closing
  pub listed : is_reordered (cut_objects k closing) (closing ∷ above ∷ behind_first k closing above below) ≡ true
  pub no_tail : is_in closing (behind_first k closing above below) ≡ false
  pub no_head : is_in above (behind_first k closing above below) ≡ false
  pub no_second_tail : is_in below (left_objects k closing above below) ≡ false
  pub no_second_head : is_in (closing + 2 ^ k) (left_objects k closing above below) ≡ false
  pub alone : (x y : ℕ) → x < 2 ^ k → y < 2 ^ k → is_left closing above below x ≡ true → is_left closing above below y ≡ true
      → is_alone k closing above below x y ≡ true

module _ (p k closing above below : ℕ) (kind : ℕ → ℕ) (count : ℕ → ℕ → ℕ) (saddle : ℕ → ℕ → ℕ → ℕ → ℕ → ℕ) (layers : Layers)
    (field : HasInverses p) (cut : IsCut p k closing kind count saddle layers) (are : ArePairs k closing above below kind) where
  abbrev pub closed : ℕ
  closed = closing + 2 ^ k

  abbrev others : List ℕ
  others = left_objects k closing above below

  abbrev rest : List ℕ
  rest = behind_first k closing above below

  positive : 0 < p
  positive = omega (arith, field.above_one)

  labels-kind : (t u state : ℕ) → t < 2 ^ k → u < 2 ^ k → kind t ≡ kind u → state < layers.states
      → layers.labels t state ≡ layers.labels u state
  labels-kind t u state t_within u_within same below =
      cut.labels t state t_within below ∙ ap (λ (n : ℕ). count n state) same ∙ sym (cut.labels u state u_within below)

  -- the first
  abbrev pub first_number : ℕ
  first_number = step_sign p k closing above % p

  first-labels : (state : ℕ) → state < layers.states → layers.labels above state ≡ layers.labels closing state
  first-labels state below_states =
      labels-kind above closing state are.above_within are.closing_within (are.near_above above are.above_within are.up) below_states

  pub first-times : IsTimesIdentity layers closing above first_number
  first-times =
      times-identity p layers closing above (step_sign p k closing above) field cut.complex.below are.closing_above first-labels
      (sign-squared p (ones_before k closing above) positive) (cut.merged above are.above_within are.up)

  pub first-listed : AreListed (λ (o : ℕ). o) layers.objects (closing ∷ above ∷ rest)
  first-listed =
      subst (λ (xs : List ℕ). AreListed (λ (o : ℕ). o) xs (closing ∷ above ∷ rest)) (sym cut.objects)
      (listed-reordered (cut_objects k closing) (closing ∷ above ∷ rest) are.listed)

  abbrev between : Layers
  between = layers_left p layers closing above first_number rest

  complex-between : AreComplex p (cells_of between)
  complex-between =
      complex-layers p layers closing above first_number rest field cut.complex first-listed (gone-from closing rest are.no_tail)
      (gone-from above rest are.no_head) first-times

  dimension-between : (i j : ℤ) → dimension_at p (cells_of between) i j ≡ dimension_at p (cells_of layers) i j
  dimension-between i j =
      dimension-layers p layers closing above first_number rest field cut.complex first-listed (gone-from closing rest are.no_tail)
      (gone-from above rest are.no_head) first-times i j

  -- what it keeps
  nothing-between : (x y : ℕ) → IsNothing p layers x above ⊎ IsNothing p layers closing y → IsNothing p layers x y
      → IsNothing p between x y
  nothing-between x y no_way nothing =
      nothing-kept p layers closing above first_number rest x y positive first-labels no_way nothing

  times-between : (x y n : ℕ) (given : ℕ → ℕ → ℕ → ℕ) → IsNothing p layers x above ⊎ IsNothing p layers closing y
      → IsTimes p layers x y n given → IsTimes p between x y n given
  times-between x y n given no_way times =
      times-kept p layers closing above first_number rest x y positive first-labels n given no_way times

  no-way-closed : IsNothing p layers closing closed
  no-way-closed = cut.apart_closed closing are.closing_within are.not_itself

  -- the second
  abbrev pub second_number : ℕ
  second_number = step_sign p k below closing % p

  second-labels : (state : ℕ) → state < layers.states → layers.labels closed state ≡ layers.labels below state
  second-labels state below_states =
      cut.closed_labels state below_states
      ∙ ap (λ (n : ℕ). count n state) (sym (are.near_below below are.below_within are.down))
      ∙ sym (cut.labels below state are.below_within below_states)

  pub second-times : IsTimesIdentity between below closed second_number
  second-times =
      times-identity p between below closed (step_sign p k below closing) field complex-between.below
      (λ same. apart below (2 ^ k) closing are.below_within same)
      second-labels (sign-squared p (ones_before k below closing) positive)
      (times-between below closed (step_sign p k below closing) same_label (inr no-way-closed)
      (cut.split_off below are.below_within are.down))
    where
      apart : (a n c : ℕ) → a < n → a ≡ c + n → ⊥
      apart a n c within same = omega (arith, within, same)

  abbrev pub left : Layers
  left = layers_left p between below closed second_number others

  pub complex-left : AreComplex p (cells_of left)
  complex-left =
      complex-layers p between below closed second_number others field complex-between (listed-same rest)
      (gone-from below others are.no_second_tail) (gone-from closed others are.no_second_head) second-times

  pub dimension-left : (i j : ℤ) → dimension_at p (cells_of left) i j ≡ dimension_at p (cells_of layers) i j
  dimension-left i j =
      dimension-layers p between below closed second_number others field complex-between (listed-same rest)
      (gone-from below others are.no_second_tail) (gone-from closed others are.no_second_head) second-times i j
      ∙ dimension-between i j

  times-left : (x y n : ℕ) (given : ℕ → ℕ → ℕ → ℕ) → IsNothing p between x closed ⊎ IsNothing p between below y
      → IsTimes p between x y n given → IsTimes p left x y n given
  times-left x y n given no_way times =
      times-kept p between below closed second_number others x y positive second-labels n given no_way times

  -- the coefficients between two that are left
  module _ (x y : ℕ) (x_within : x < 2 ^ k) (y_within : y < 2 ^ k) (x_left : is_left closing above below x ≡ true)
      (y_left : is_left closing above below y ≡ true) where
    abbrev by_step : Bool
    by_step = is_step k x y

    abbrev by_above : Bool
    by_above = goes_above k closing above x y

    abbrev by_below : Bool
    by_below = goes_below k closing below x y

    other-than : (t : ℕ) → is_left closing above below t ≡ true → t ≢ closing
    other-than t is same =
        at_odds (nat_eq t closing) (eq-eqb t closing same)
        (turned (nat_eq t closing) (and_parts (not (nat_eq t closing)) (not (nat_eq t above) && not (nat_eq t below)) is).0)
      where
        turned : (b : Bool) → not b ≡ true → b ≡ false
        turned true fails = at_odds false fails refl
        turned false passes = refl

    abbrev given : ℕ → ℕ → ℕ → ℕ
    given = saddle (kind x) (kind y)

    abbrev Has : ℕ → Type 0
    Has n = IsTimes p left x y n given

    no-way-first : by_above ≡ false → IsNothing p layers x above ⊎ IsNothing p layers closing y
    no-way-first none = elim (and_cases (is_step k x above) (is_step k closing y) none) [
      | inl apart ↦ inl (cut.apart x above x_within are.above_within apart)
      | inr apart ↦ inr (cut.apart closing y are.closing_within y_within apart)
    ]

    no-way-second : by_below ≡ false → IsNothing p between x closed ⊎ IsNothing p between below y
    no-way-second none = elim (and_cases (is_step k x closing) (is_step k below y) none) [
      | inl apart ↦ inl (nothing-between x closed (inr no-way-closed) (cut.apart_closed x x_within apart))
      | inr apart ↦
          inr (nothing-between below y (inl (cut.apart below above are.below_within are.above_within are.not_through))
          (cut.apart below y are.below_within y_within apart))
    ]

    along-edge : by_step ≡ true → by_above ≡ false → by_below ≡ false → Has (sign_of_power p (ones_before k x y))
    along-edge edge none none_below =
        times-left x y (step_sign p k x y) given (no-way-second none_below)
        (times-between x y (step_sign p k x y) given (no-way-first none)
        (cut.saddles x y x_within y_within (other-than x x_left) (other-than y y_left) edge))

    not-joined : by_step ≡ false → by_above ≡ false → by_below ≡ false → Has 0
    not-joined no_edge none none_below =
        times-left x y 0 given (no-way-second none_below)
        (times-between x y 0 given (no-way-first none)
        (times-none p layers x y given (cut.apart x y x_within y_within no_edge)))

    along-above : by_step ≡ false → by_above ≡ true → by_below ≡ false
        → Has (sign_of_power p (1 + (ones_before k x above + (ones_before k closing above + ones_before k closing y))))
    along-above no_edge way none_below =
        let steps = and_parts (is_step k x above) (is_step k closing y) way in
        let y_kind = are.near_above y y_within steps.1 in
        let above_kind = are.near_above above are.above_within are.up in
        let n = step_sign p k x above in
        let e = step_sign p k closing y in
        let n_left = (p - 1) * (n * (inverse p first_number * e)) in
        let n_last = sign_of_power p (1 + (ones_before k x above + (ones_before k closing above + ones_before k closing y))) in
        times-left x y n_last given (no-way-second none_below)
        (times-same p between x y n_left n_last given
        (way-sign p (ones_before k x above) (ones_before k closing above) (ones_before k closing y) field)
        (subst (λ (m : ℕ). IsTimes p between x y n_left (saddle (kind x) m)) (above_kind ∙ sym y_kind)
        (times-ends p layers closing above first_number rest x y positive first-labels n e (saddle (kind x) (kind above))
        (cut.apart x y x_within y_within no_edge)
        (cut.saddles x above x_within are.above_within (other-than x x_left) (λ same. are.closing_above (sym same)) steps.0)
        (cut.merged y y_within steps.1)
        (λ state below_states. labels-kind y closing state y_within are.closing_within y_kind below_states))))

    along-below : by_step ≡ false → by_above ≡ false → by_below ≡ true
        → Has (sign_of_power p (1 + (ones_before k x closing + (ones_before k below closing + ones_before k below y))))
    along-below no_edge none way =
        let steps = and_parts (is_step k x closing) (is_step k below y) way in
        let x_kind = are.near_below x x_within steps.0 in
        let below_kind = are.near_below below are.below_within are.down in
        let e = step_sign p k x closing in
        let n = step_sign p k below y in
        let n_left = (p - 1) * (e * (inverse p second_number * n)) in
        times-same p left x y n_left (sign_of_power p
        (1 + (ones_before k x closing + (ones_before k below closing + ones_before k below y))))
        given
        (way-sign p (ones_before k x closing) (ones_before k below closing) (ones_before k below y) field)
        (subst (λ (m : ℕ). IsTimes p left x y n_left (saddle m (kind y))) (below_kind ∙ sym x_kind)
        (times-begins p between below closed second_number others x y positive second-labels n e (saddle (kind below) (kind y))
        (nothing-between x y (no-way-first none) (cut.apart x y x_within y_within no_edge))
        (times-between x closed e same_label (inr no-way-closed) (cut.split_off x x_within steps.0))
        (times-between below y n (saddle (kind below) (kind y))
        (inl (cut.apart below above are.below_within are.above_within are.not_through))
        (cut.saddles below y are.below_within y_within (λ same. are.closing_below (sym same)) (other-than y y_left) steps.1))
        (λ state below_states. labels-kind x below state x_within are.below_within (x_kind ∙ sym below_kind) below_states)))

    -- the number, by which of the three leads there
    abbrev number_by : Bool → Bool → Bool → ℕ
    number_by edge way way_below =
        if edge || (way || way_below)
        then sign_of_power p (if edge then ones_before k x y
        else if way then 1 + (ones_before k x above + (ones_before k closing above + ones_before k closing y))
        else 1 + (ones_before k x closing + (ones_before k below closing + ones_before k below y)))
        else 0

    by-cases : (edge way way_below : Bool) → by_step ≡ edge → by_above ≡ way → by_below ≡ way_below
        → (not (edge && (way || way_below)) && not (way && way_below)) ≡ true → Has (number_by edge way way_below)
    by-cases true false false e w b alone = along-edge e w b
    by-cases false true false e w b alone = along-above e w b
    by-cases false false true e w b alone = along-below e w b
    by-cases false false false e w b alone = not-joined e w b
    by-cases true true way_below e w b alone = at_odds false alone refl
    by-cases true false true e w b alone = at_odds false alone refl
    by-cases false true true e w b alone = at_odds false alone refl

    pub entry-left : IsTimes p left x y (left_number p k closing above below x y) given
    entry-left =
        by-cases by_step by_above by_below refl refl refl (are.alone x y x_within y_within x_left y_left)
