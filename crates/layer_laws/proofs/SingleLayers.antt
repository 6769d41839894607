-- Layers of which one object is left are like layers of one object, with a sign for each outer state: they have the same survivors and the
-- same dimensions.
use Rattle.std.proofs.Common.{◌≡◌, ◌≢◌, ℕ, inl, inr, ◌+◌, ◌*◌, ◌%◌, ◌<◌, ◌∙◌, ℤ, List, [], ◌∷◌, refl, sym, subst, ap, arith}
use Rattle.std.specs.List.{Contains}
use Rattle.kh_types.specs.Residues.{HasInverses, Same}
use Rattle.kh_types.proofs.Residues.{same-equal, same-mul}
use Rattle.square_laws.proofs.TouchedCircles.{one_in}
use Rattle.cell_laws.specs.Alike.{AreListed}
use Rattle.cell_laws.specs.Cells.{AreComplex, dimension_at}
use Rattle.cell_laws.specs.Layers.{Layers, cells_of, layer_of}
use Rattle.cell_laws.proofs.Listings.{listed-named}
use Rattle.layer_laws.specs.Renamed.{AreRenamed}
use Rattle.layer_laws.specs.Cuts.{IsLikeOne, IsNothing}
use Rattle.cell_laws.specs.Signs.{sign_of_power}
use Rattle.layer_laws.proofs.RenamedLayers.{dimension-renamed, renamed-filtered, survivors-renamed}
use Rattle.layer_laws.proofs.Signs.{sign-parity, sign-squared, sign-sum, times-nothing}
use Rattle.cell_laws.specs.Filtered.{AreFiltered, survivors}
use Rattle.layer_laws.specs.FilteredCuts.{IsFilteredLike, unfiltered_layers}
use Rattle.layer_laws.proofs.LevelEntries.{complex-unfiltered_layers}

-- one object of layers, with other coefficients within a state
abbrev pub one_object : ℕ → (ℕ → ℕ → ℕ → ℕ → ℕ → ℕ) → Layers → Layers
one_object object inner layers = record {
  objects = object ∷ [];
  states = layers.states;
  labels = layers.labels;
  homological = layers.homological;
  quantum = layers.quantum;
  inner = inner;
  outer = layers.outer;
}

module _ (p object r : ℕ) (level : ℕ → ℕ) (layers single : Layers) (inner : ℕ → ℕ → ℕ → ℕ → ℕ → ℕ) (field : HasInverses p)
    (like : IsLikeOne p object r level layers single) (nothing : IsNothing p (one_object object inner layers) object object)
    (complex : AreComplex p (cells_of (one_object object inner layers))) where
  abbrev pub after : Layers
  after = one_object object inner layers

  positive : 0 < p
  positive = omega (arith, field.above_one)

  abbrev pub sign_there : ℕ → ℕ → ℕ
  sign_there x state = sign_of_power p (r * level state)

  at-object : (P : ℕ → Type 0) → P object → (x : ℕ) → Contains (object ∷ []) x → P x
  at-object P here x has = subst P (sym (one_in x object has)) here

  next-level : (a b : ℕ) → b ≡ a + 1 → (r * a + r * b) % 2 ≡ r % 2
  next-level a b next =
      ap (λ (n : ℕ). (r * a + r * n) % 2) next ∙ ap (λ (n : ℕ). n % 2) (twice r a) ∙ odd r (r * a)
    where
      twice : (r a : ℕ) → r * a + r * (a + 1) ≡ r + 2 * (r * a)
      twice r a = omega arith

      odd : (r m : ℕ) → (r + 2 * m) % 2 ≡ r % 2
      odd r m = omega arith

  outer-signed : (state next label other : ℕ) → state < layers.states → next < layers.states → state ≢ next
      → label < layers.labels object state → other < layers.labels object next
      → Same p (layers.outer object state next label other)
      (sign_of_power p (r * level state) * (sign_of_power p (r * level next) * single.outer 0 state next label other))
  outer-signed state next label other state_below next_below differ label_below other_below =
      let d = single.outer 0 state next label other in
      let a = sign_of_power p (r * level state) in
      let b = sign_of_power p (r * level next) in
      like.outer state next label other state_below next_below differ label_below other_below
      ∙ (elim (like.steps state next label other state_below next_below differ label_below other_below) as
      (λ either. Same p (sign_of_power p r * d) (a * (b * d))) [
        | inl none ↦ times-nothing p (sign_of_power p r) d none ∙ sym (times-nothing p a (b * d) (times-nothing p b d none))
        | inr up ↦
            same-mul p (sign_of_power p r) (a * b) d d
            (same-equal p (sign_of_power p r) (sign_of_power p (r * level state + r * level next))
            (sign-parity p r (r * level state + r * level next) (sym (next-level (level state) (level next) up)))
            ∙ sym (sign-sum p (r * level state) (r * level next) positive)) refl
            ∙ same-equal p (a * b * d) (a * (b * d)) (regrouped a b d)
      ])
    where
      regrouped : (a b d : ℕ) → a * b * d ≡ a * (b * d)
      regrouped a b d = omega arith

  pub renamed-one : AreRenamed p (λ x. 0) sign_there after single
  renamed-one =
      record {
        listed = subst (λ (xs : List ℕ). AreListed (λ (x : ℕ). 0) (object ∷ []) xs) (sym like.objects)
            (listed-named (λ (x : ℕ). 0) (object ∷ []));
        apart = λ x y has_x has_y same. one_in x object has_x ∙ sym (one_in y object has_y);
        states = like.states;
        labels = λ x state has below.
            at-object (λ x. single.labels 0 state ≡ layers.labels x state) (like.labels state below) x has;
        homological = λ x state label has below.
            at-object (λ x. label < layers.labels x state → single.homological (layer_of 0 state label)
            ≡ layers.homological (layer_of x state label))
            (λ label_below. like.homological state label below label_below) x has;
        quantum = λ x state label has below.
            at-object (λ x. label < layers.labels x state → single.quantum (layer_of 0 state label)
            ≡ layers.quantum (layer_of x state label))
            (λ label_below. like.quantum state label below label_below) x has;
        squares = λ x state has below. sign-squared p (r * level state) positive;
        inner = λ x y state label other has_x has_y below label_below other_below.
            let here : label < layers.labels object state =
            subst (λ (o : ℕ). label < layers.labels o state) (one_in x object has_x) label_below in
            let there : other < layers.labels object state =
            subst (λ (o : ℕ). other < layers.labels o state) (one_in y object has_y) other_below in
            let d = single.inner 0 0 state label other in
            same-equal p (inner x y state label other) (inner object object state label other)
            (ap (λ (o : ℕ). inner o y state label other) (one_in x object has_x)
            ∙ ap (λ (o : ℕ). inner object o state label other) (one_in y object has_y))
            ∙ nothing.none state label other below here there
            ∙ sym (times-nothing p (sign_there x state) (sign_there y state * d)
            (times-nothing p (sign_there y state) d
            (like.inner.none state label other (subst (λ (n : ℕ). state < n) (sym like.states) below)
            (subst (λ (n : ℕ). label < n) (sym (like.labels state below)) here)
            (subst (λ (n : ℕ). other < n) (sym (like.labels state below)) there))));
        outer = λ x state next label other has below next_below differ.
            at-object (λ x. label < layers.labels x state → other < layers.labels x next
            → Same p (layers.outer x state next label other)
            (sign_of_power p (r * level state) * (sign_of_power p (r * level next) * single.outer 0 state next label other)))
            (λ label_below other_below. outer-signed state next label other below next_below differ label_below other_below) x has;
      }

  pub dimension-one : (i j : ℤ) → dimension_at p (cells_of single) i j ≡ dimension_at p (cells_of after) i j
  dimension-one i j = dimension-renamed p (λ x. 0) sign_there after single renamed-one field complex like.complex i j

-- filtered layers, which are so without their quantum degrees
module _ (p object r : ℕ) (level : ℕ → ℕ) (layers single : Layers) (inner : ℕ → ℕ → ℕ → ℕ → ℕ → ℕ) (field : HasInverses p)
    (like : IsFilteredLike p object r level layers single)
    (nothing : IsNothing p (one_object object inner (unfiltered_layers layers)) object object)
    (filtered : AreFiltered p (cells_of (one_object object inner layers))) where
  abbrev sign_of : ℕ → ℕ → ℕ
  sign_of = sign_there p object r level (unfiltered_layers layers) (unfiltered_layers single) inner field like.like nothing
      (complex-unfiltered_layers p (one_object object inner layers) filtered)

  quantum-one : (x state label : ℕ) → Contains (object ∷ []) x → state < layers.states → label < layers.labels x state
      → single.quantum (layer_of 0 state label) ≡ layers.quantum (layer_of x state label)
  quantum-one x state label has below =
      subst (λ (x : ℕ). label < layers.labels x state → single.quantum (layer_of 0 state label) ≡ layers.quantum (layer_of x state label))
      (sym (one_in x object has)) (λ label_below. like.quantum state label below label_below)

  pub survivors-one : (i t : ℤ) → survivors p (cells_of single) i t ≡ survivors p (cells_of (one_object object inner layers)) i t
  survivors-one i t =
      survivors-renamed p (λ x. 0) sign_of (one_object object inner layers) single
      (renamed-filtered p (λ x. 0) sign_of (one_object object inner layers) single
      (renamed-one p object r level (unfiltered_layers layers) (unfiltered_layers single) inner field like.like nothing
      (complex-unfiltered_layers p (one_object object inner layers) filtered))
      quantum-one)
      field filtered like.filtered i t
