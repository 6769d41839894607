-- What the elimination of an entry between objects leaves of the coefficients within a state: those that no way back changes are kept, and
-- a way back of which one part is a number times the identity takes a product off.
use Rattle.std.proofs.Common.{◌≡◌, ◌≢◌, ℕ, ◌⊎◌, inl, inr, ◌-◌, ◌*◌, ◌%◌, ◌<◌, ◌∙◌, List, refl, sym, subst, ap, arith, Bool}
use Rattle.std.specs.Prelude.{if◌then◌else◌}
use Rattle.std.specs.List.{range_with_len, sum_by}
use Rattle.std.proofs.Math.Nat.{mod-mod}
use Rattle.std.proofs.lemmas.Bool.{eq-eqb, ne_eqb}
use Rattle.std.proofs.lemmas.Nat.{mod_below}
use Rattle.kh_types.specs.Rank.{inverse}
use Rattle.kh_types.specs.Residues.{HasInverses, Same}
use Rattle.kh_types.proofs.Lists.{range-contains}
use Rattle.kh_types.proofs.ListSums.{sum_by-single}
use Rattle.kh_types.proofs.Residues.{same-equal, same-mul, same-scaled}
use Rattle.cell_laws.specs.Layers.{IsTimesIdentity, Layer, Layers, inner_left, layer_coefficient, layer_of, layers_left}
use Rattle.cell_laws.proofs.Members.{sum_by-nothing, sum_by-same}
use Rattle.layer_laws.specs.Cuts.{IsNothing, IsTimes, same_label}
use Rattle.cell_laws.proofs.LayerCells.{inside-state}
use Rattle.layer_laws.proofs.Signs.{equal-below, less-nothing, less-something, nothing-times, times-nothing}

same_label-itself : (state label : ℕ) → same_label state label label ≡ 1
same_label-itself state label =
    ap (λ (b : Bool). let one : ℕ = if b then 1 else 0 in one) (eq-eqb label label refl)

same_label-other : (state label other : ℕ) → label ≢ other → same_label state label other ≡ 0
same_label-other state label other differ =
    ap (λ (b : Bool). let one : ℕ = if b then 1 else 0 in one) (ne_eqb label other differ)

-- an entry that is a number of square 1 times the identity of labels can be eliminated
pub times-identity : (p : ℕ) (layers : Layers) (tail head n : ℕ) → HasInverses p
    → ((x y : Layer) → layer_coefficient layers x y < p) → tail ≢ head
    → ((state : ℕ) → state < layers.states → layers.labels head state ≡ layers.labels tail state)
    → Same p (n * n) 1 → IsTimes p layers tail head n same_label → IsTimesIdentity layers tail head (n % p)
times-identity p layers tail head n field below differ labels square times =
    let positive : 0 < p = omega (arith, field.above_one) in
    let inner_below : (state label other : ℕ) → layers.inner tail head state label other < p =
    λ state label other.
    subst (λ (m : ℕ). m < p) (inside-state layers (layer_of tail state label) (layer_of head state other) refl)
    (below (layer_of tail state label) (layer_of head state other)) in
    record {
      objects_differ = differ;
      some = λ none.
          let no : 0 ≡ 1 = equal-below p 0 1 (sym (nothing-times p n n (sym (mod-mod n p) ∙ same-equal p (n % p) 0 none)) ∙ square)
          positive field.above_one in
          omega (arith, no);
      labels = labels;
      equal = λ state label state_below label_below.
          equal-below p (layers.inner tail head state label label) (n % p)
          (times.is state label label state_below label_below (subst (λ (m : ℕ). label < m) (sym (labels state state_below)) label_below)
          ∙ same-equal p (n * same_label state label label) n
          (ap (λ (m : ℕ). n * m) (same_label-itself state label) ∙ once n)
          ∙ sym (mod-mod n p))
          (inner_below state label label) (mod_below n p positive);
      others = λ state label other state_below label_below other_below apart.
          equal-below p (layers.inner tail head state label other) 0
          (times.is state label other state_below label_below (subst (λ (m : ℕ). other < m) (sym (labels state state_below)) other_below)
          ∙ same-equal p (n * same_label state label other) 0
          (ap (λ (m : ℕ). n * m) (same_label-other state label other apart) ∙ never n))
          (inner_below state label other) positive;
    }
  where
    once : (n : ℕ) → n * 1 ≡ n
    once n = omega arith

    never : (n : ℕ) → n * 0 ≡ 0
    never n = omega arith

module _ (p : ℕ) (layers : Layers) (tail head c x y : ℕ) (positive : 0 < p)
    (labels : (state : ℕ) → state < layers.states → layers.labels head state ≡ layers.labels tail state) where
  abbrev Way : ℕ → ℕ → ℕ → ℕ → ℕ
  Way state label other middle = layers.inner x head state label middle * (inverse p c * layers.inner tail y state middle other)

  abbrev ways : ℕ → ℕ → ℕ → ℕ
  ways state label other = sum_by (Way state label other) (range_with_len 0 (layers.labels tail state))

  -- no way back
  ways-nothing : IsNothing p layers x head ⊎ IsNothing p layers tail y → (state label other : ℕ) → state < layers.states
      → label < layers.labels x state → other < layers.labels y state → Same p (ways state label other) 0
  ways-nothing no_way state label other state_below label_below other_below =
      sum_by-nothing p (Way state label other) (range_with_len 0 (layers.labels tail state))
      (λ middle has.
      let middle_below = range-contains (layers.labels tail state) middle has in
      elim no_way [
        | inl first ↦
            nothing-times p (layers.inner x head state label middle) (inverse p c * layers.inner tail y state middle other)
            (first.none state label middle state_below label_below
            (subst (λ (m : ℕ). middle < m) (sym (labels state state_below)) middle_below))
        | inr second ↦
            times-nothing p (layers.inner x head state label middle) (inverse p c * layers.inner tail y state middle other)
            (times-nothing p (inverse p c) (layers.inner tail y state middle other)
            (second.none state middle other state_below middle_below other_below))
      ])

  pub kept : IsNothing p layers x head ⊎ IsNothing p layers tail y → (state label other : ℕ) → state < layers.states
      → label < layers.labels x state → other < layers.labels y state
      → Same p (inner_left p layers tail head c x y state label other) (layers.inner x y state label other)
  kept no_way state label other state_below label_below other_below =
      less-nothing p (layers.inner x y state label other) (ways state label other) positive
      (ways-nothing no_way state label other state_below label_below other_below)

  -- a way back that ends with a number times the identity
  pub way-ends : (n e : ℕ) (given : ℕ → ℕ → ℕ → ℕ) → IsNothing p layers x y → IsTimes p layers x head n given
      → IsTimes p layers tail y e same_label
      → ((state : ℕ) → state < layers.states → layers.labels y state ≡ layers.labels tail state)
      → (state label other : ℕ) → state < layers.states → label < layers.labels x state → other < layers.labels y state
      → Same p (inner_left p layers tail head c x y state label other)
      ((p - 1) * (n * (inverse p c * e)) * given state label other)
  way-ends n e given nothing first second y_labels state label other state_below label_below other_below =
      let inv = inverse p c in
      let count = layers.labels tail state in
      let g = λ (middle : ℕ). n * given state label middle * (inv * (e * same_label state middle other)) in
      let there : other < count = subst (λ (m : ℕ). other < m) (y_labels state state_below) other_below in
      less-something p (layers.inner x y state label other) (ways state label other) positive
      (nothing.none state label other state_below label_below other_below)
      ∙ same-scaled p (p - 1) (ways state label other) (n * given state label other * (inv * (e * 1)))
      (sum_by-same p (Way state label other) g (range_with_len 0 count)
      (λ middle has.
      let middle_below = range-contains count middle has in
      same-mul p (layers.inner x head state label middle) (n * given state label middle)
      (inv * layers.inner tail y state middle other) (inv * (e * same_label state middle other))
      (first.is state label middle state_below label_below
      (subst (λ (m : ℕ). middle < m) (sym (labels state state_below)) middle_below))
      (same-scaled p inv (layers.inner tail y state middle other) (e * same_label state middle other)
      (second.is state middle other state_below middle_below other_below)))
      ∙ same-equal p (sum_by g (range_with_len 0 count)) (n * given state label other * (inv * (e * 1)))
      (sum_by-single g 0 count other (omega arith) (omega (arith, there))
      (λ middle from below differ.
      ap (λ (m : ℕ). n * given state label middle * (inv * (e * m))) (same_label-other state middle other differ)
      ∙ never (n * given state label middle) inv e)
      ∙ ap (λ (m : ℕ). n * given state label other * (inv * (e * m))) (same_label-itself state other)))
      ∙ same-equal p ((p - 1) * (n * given state label other * (inv * (e * 1)))) ((p - 1) * (n * (inv * e)) * given state label other)
      (regrouped (p - 1) n (given state label other) inv e)
    where
      never : (a b c : ℕ) → a * (b * (c * 0)) ≡ 0
      never a b c = omega arith

      regrouped : (q n g i e : ℕ) → q * (n * g * (i * (e * 1))) ≡ q * (n * (i * e)) * g
      regrouped q n g i e = omega arith

  -- a way back that begins with one
  pub way-begins : (n e : ℕ) (given : ℕ → ℕ → ℕ → ℕ) → IsNothing p layers x y → IsTimes p layers x head e same_label
      → IsTimes p layers tail y n given
      → ((state : ℕ) → state < layers.states → layers.labels x state ≡ layers.labels tail state)
      → (state label other : ℕ) → state < layers.states → label < layers.labels x state → other < layers.labels y state
      → Same p (inner_left p layers tail head c x y state label other)
      ((p - 1) * (e * (inverse p c * n)) * given state label other)
  way-begins n e given nothing first second x_labels state label other state_below label_below other_below =
      let inv = inverse p c in
      let count = layers.labels tail state in
      let g = λ (middle : ℕ). e * same_label state label middle * (inv * (n * given state middle other)) in
      let there : label < count = subst (λ (m : ℕ). label < m) (x_labels state state_below) label_below in
      less-something p (layers.inner x y state label other) (ways state label other) positive
      (nothing.none state label other state_below label_below other_below)
      ∙ same-scaled p (p - 1) (ways state label other) (e * 1 * (inv * (n * given state label other)))
      (sum_by-same p (Way state label other) g (range_with_len 0 count)
      (λ middle has.
      let middle_below = range-contains count middle has in
      same-mul p (layers.inner x head state label middle) (e * same_label state label middle)
      (inv * layers.inner tail y state middle other) (inv * (n * given state middle other))
      (first.is state label middle state_below label_below
      (subst (λ (m : ℕ). middle < m) (sym (labels state state_below)) middle_below))
      (same-scaled p inv (layers.inner tail y state middle other) (n * given state middle other)
      (second.is state middle other state_below middle_below other_below)))
      ∙ same-equal p (sum_by g (range_with_len 0 count)) (e * 1 * (inv * (n * given state label other)))
      (sum_by-single g 0 count label (omega arith) (omega (arith, there))
      (λ middle from below differ.
      ap (λ (m : ℕ). e * m * (inv * (n * given state middle other))) (same_label-other state label middle (λ is. differ (sym is)))
      ∙ never e (inv * (n * given state middle other)))
      ∙ ap (λ (m : ℕ). e * m * (inv * (n * given state label other))) (same_label-itself state label)))
      ∙ same-equal p ((p - 1) * (e * 1 * (inv * (n * given state label other)))) ((p - 1) * (e * (inv * n)) * given state label other)
      (regrouped (p - 1) n (given state label other) inv e)
    where
      never : (a b : ℕ) → a * 0 * b ≡ 0
      never a b = omega arith

      regrouped : (q n g i e : ℕ) → q * (e * 1 * (i * (n * g))) ≡ q * (e * (i * n)) * g
      regrouped q n g i e = omega arith

-- an entry of a number is one of each number that is the same modulo p; and no entry is 0 times any
pub times-same : (p : ℕ) (layers : Layers) (x y n m : ℕ) (given : ℕ → ℕ → ℕ → ℕ) → Same p n m → IsTimes p layers x y n given
    → IsTimes p layers x y m given
times-same p layers x y n m given same times =
    record {
      is = λ state label other state_below label_below other_below.
          times.is state label other state_below label_below other_below
          ∙ same-mul p n m (given state label other) (given state label other) same refl;
    }

pub times-none : (p : ℕ) (layers : Layers) (x y : ℕ) (given : ℕ → ℕ → ℕ → ℕ) → IsNothing p layers x y → IsTimes p layers x y 0 given
times-none p layers x y given nothing =
    record {
      is = λ state label other state_below label_below other_below.
          nothing.none state label other state_below label_below other_below
          ∙ same-equal p 0 (0 * given state label other) (never (given state label other));
    }
  where
    never : (a : ℕ) → 0 ≡ 0 * a
    never a = omega arith

-- entries between the objects that are left
module _ (p : ℕ) (layers : Layers) (tail head c : ℕ) (rest : List ℕ) (x y : ℕ) (positive : 0 < p)
    (labels : (state : ℕ) → state < layers.states → layers.labels head state ≡ layers.labels tail state) where
  pub nothing-kept : IsNothing p layers x head ⊎ IsNothing p layers tail y → IsNothing p layers x y
      → IsNothing p (layers_left p layers tail head c rest) x y
  nothing-kept no_way nothing =
      record {
        none = λ state label other state_below label_below other_below.
            kept p layers tail head c x y positive labels no_way state label other state_below label_below other_below
            ∙ nothing.none state label other state_below label_below other_below;
      }

  pub times-kept : (n : ℕ) (given : ℕ → ℕ → ℕ → ℕ) → IsNothing p layers x head ⊎ IsNothing p layers tail y → IsTimes p layers x y n given
      → IsTimes p (layers_left p layers tail head c rest) x y n given
  times-kept n given no_way times =
      record {
        is = λ state label other state_below label_below other_below.
            kept p layers tail head c x y positive labels no_way state label other state_below label_below other_below
            ∙ times.is state label other state_below label_below other_below;
      }

  pub times-ends : (n e : ℕ) (given : ℕ → ℕ → ℕ → ℕ) → IsNothing p layers x y → IsTimes p layers x head n given
      → IsTimes p layers tail y e same_label
      → ((state : ℕ) → state < layers.states → layers.labels y state ≡ layers.labels tail state)
      → IsTimes p (layers_left p layers tail head c rest) x y ((p - 1) * (n * (inverse p c * e))) given
  times-ends n e given nothing first second y_labels =
      record { is = way-ends p layers tail head c x y positive labels n e given nothing first second y_labels }

  pub times-begins : (n e : ℕ) (given : ℕ → ℕ → ℕ → ℕ) → IsNothing p layers x y → IsTimes p layers x head e same_label
      → IsTimes p layers tail y n given
      → ((state : ℕ) → state < layers.states → layers.labels x state ≡ layers.labels tail state)
      → IsTimes p (layers_left p layers tail head c rest) x y ((p - 1) * (e * (inverse p c * n))) given
  times-begins n e given nothing first second x_labels =
      record { is = way-begins p layers tail head c x y positive labels n e given nothing first second x_labels }
