-- Layers under other numbers of objects, and up to signs, have the same survivors and the same dimensions.
use Rattle.std.proofs.Common.{◌≡◌, ◌≢◌, ℕ, inl, inr, ◌*◌, ◌<◌, ◌∙◌, ℤ, List, map, refl, sym, subst, ap, arith}
use Rattle.std.specs.List.{Contains, flat_map, range_with_len}
use Rattle.std.proofs.lemmas.Bool.{cases_eq}
use Rattle.kh_types.specs.Residues.{HasInverses, Same}
use Rattle.kh_types.proofs.Residues.{same-equal}
use Rattle.cell_laws.specs.Alike.{AreAlike, AreListed}
use Rattle.cell_laws.specs.Cells.{AreComplex, dimension_at}
use Rattle.cell_laws.specs.Layers.{Layer, Layers, cells_of, layer_coefficient, layer_of, object_cells}
use Rattle.cell_laws.proofs.AlikeCells.{dimension-alike}
use Rattle.cell_laws.proofs.Listings.{listed-flat, listed-named}
use Rattle.cell_laws.proofs.NoDoubles.{flat_map-range, map-flat_map, map-map}
use Rattle.layer_laws.specs.Renamed.{AreRenamed}
use Rattle.layer_laws.proofs.LayerFacts.{IsCellIn, between-states, cell-in}
use Rattle.cell_laws.proofs.LayerCells.{inside-state, nowhere}
use Rattle.cell_laws.specs.Filtered.{AreFiltered, survivors}
use Rattle.cell_laws.proofs.AlikeSurvivors.{survivors-alike}
use Rattle.layer_laws.specs.FilteredCuts.{unfiltered_layers}

module _ (p : ℕ) (to : ℕ → ℕ) (sign : ℕ → ℕ → ℕ) (first second : Layers) (are : AreRenamed p to sign first second) where
  abbrev pub renamed : Layer → Layer
  renamed x = layer_of (to x.object) x.state x.label

  abbrev pub sign_at : Layer → ℕ
  sign_at x = sign x.object x.state

  cells-renamed : (x : ℕ) → Contains first.objects x → map renamed (object_cells first x) ≡ object_cells second (to x)
  cells-renamed x has =
      map-flat_map renamed (λ state. map (layer_of x state) (range_with_len 0 (first.labels x state))) (range_with_len 0 first.states)
      ∙ flat_map-range (λ state. map renamed (map (layer_of x state) (range_with_len 0 (first.labels x state))))
      (λ state. map (layer_of (to x) state) (range_with_len 0 (second.labels (to x) state))) 0 first.states
      (λ state below.
      map-map renamed (layer_of x state) (range_with_len 0 (first.labels x state))
      ∙ ap (λ n. map (layer_of (to x) state) (range_with_len 0 n)) (sym (are.labels x state has (omega (arith, below)))))
      ∙ ap (λ n. flat_map (λ state. map (layer_of (to x) state) (range_with_len 0 (second.labels (to x) state))) (range_with_len 0 n))
      (sym are.states)

  list-renamed : AreListed renamed (cells_of first).list (cells_of second).list
  list-renamed =
      listed-flat to renamed (object_cells first) (object_cells second) first.objects second.objects are.listed
      (λ x has.
      subst (λ (cells : List Layer). AreListed renamed (object_cells first x) cells) (cells-renamed x has)
      (listed-named renamed (object_cells first x)))

  abbrev Agrees : Layer → Layer → Type 0
  Agrees x y =
      Same p (layer_coefficient first x y) (sign_at x * (sign_at y * layer_coefficient second (renamed x) (renamed y)))

  agrees-inside : (x : Layer) (object label : ℕ) → IsCellIn first x → Contains first.objects object → label < first.labels object x.state
      → Agrees x (layer_of object x.state label)
  agrees-inside x object label x_is has below =
      let y = layer_of object x.state label in
      same-equal p (layer_coefficient first x y) (first.inner x.object object x.state x.label label) (inside-state first x y refl)
      ∙ are.inner x.object object x.state x.label label x_is.object has x_is.state x_is.label below
      ∙ same-equal p (sign_at x * (sign_at y * second.inner (to x.object) (to object) x.state x.label label))
      (sign_at x * (sign_at y * layer_coefficient second (renamed x) (renamed y)))
      (ap (λ n. sign_at x * (sign_at y * n)) (sym (inside-state second (renamed x) (renamed y) refl)))

  agrees-between : (x : Layer) (state label : ℕ) → IsCellIn first x → state < first.states → label < first.labels x.object state
      → x.state ≢ state → Agrees x (layer_of x.object state label)
  agrees-between x state label x_is state_below below differ =
      let y = layer_of x.object state label in
      same-equal p (layer_coefficient first x y) (first.outer x.object x.state state x.label label) (between-states first x y differ refl)
      ∙ are.outer x.object x.state state x.label label x_is.object x_is.state state_below differ x_is.label below
      ∙ same-equal p (sign_at x * (sign_at y * second.outer (to x.object) x.state state x.label label))
      (sign_at x * (sign_at y * layer_coefficient second (renamed x) (renamed y)))
      (ap (λ n. sign_at x * (sign_at y * n)) (sym (between-states second (renamed x) (renamed y) differ refl)))

  agrees : (x y : Layer) → IsCellIn first x → IsCellIn first y → Agrees x y
  agrees x y x_is y_is = elim (cases_eq x.state y.state) [
    | inl one_state ↦
        subst (λ (y : Layer). Agrees x y) (ap (λ (s : ℕ). layer_of y.object s y.label) one_state)
        (agrees-inside x y.object y.label x_is y_is.object
        (subst (λ (s : ℕ). y.label < first.labels y.object s) (sym one_state) y_is.label))
    | inr states_differ ↦ elim (cases_eq x.object y.object) [
      | inl one_object ↦
          subst (λ (y : Layer). Agrees x y) (ap (λ (o : ℕ). layer_of o y.state y.label) one_object)
          (agrees-between x y.state y.label x_is y_is.state
          (subst (λ (o : ℕ). y.label < first.labels o y.state) (sym one_object) y_is.label) states_differ)
      | inr objects_differ ↦
          same-equal p (layer_coefficient first x y) (sign_at x * (sign_at y * layer_coefficient second (renamed x) (renamed y)))
          (nowhere first x y states_differ objects_differ ∙ nothing (sign_at x) (sign_at y)
          ∙ ap (λ n. sign_at x * (sign_at y * n))
          (sym (nowhere second (renamed x) (renamed y) states_differ
          (λ same. objects_differ (are.apart x.object y.object x_is.object y_is.object same)))))
    ]
  ]
    where
      nothing : (a b : ℕ) → 0 ≡ a * (b * 0)
      nothing a b = omega arith

  pub alike-renamed : AreAlike p renamed sign_at (cells_of first) (cells_of second)
  alike-renamed =
      record {
        listed = list-renamed;
        squares = λ x has.
            let is = cell-in first x has in
            are.squares x.object x.state is.object is.state;
        homological = λ x has.
            let is = cell-in first x has in
            are.homological x.object x.state x.label is.object is.state is.label;
        quantum = λ x has.
            let is = cell-in first x has in
            are.quantum x.object x.state x.label is.object is.state is.label;
        coefficient = λ x y has_x has_y. agrees x y (cell-in first x has_x) (cell-in first y has_y);
      }

  pub dimension-renamed : HasInverses p → AreComplex p (cells_of first) → AreComplex p (cells_of second) → (i j : ℤ)
      → dimension_at p (cells_of second) i j ≡ dimension_at p (cells_of first) i j
  dimension-renamed field complex other_complex i j =
      dimension-alike p renamed sign_at (cells_of first) (cells_of second) alike-renamed field complex.below other_complex.below i j

-- layers that correspond without their quantum degrees, and have the same ones, correspond
pub renamed-filtered : (p : ℕ) (to : ℕ → ℕ) (sign : ℕ → ℕ → ℕ) (first second : Layers)
    → AreRenamed p to sign (unfiltered_layers first) (unfiltered_layers second)
    → ((x state label : ℕ) → Contains first.objects x → state < first.states → label < first.labels x state
    → second.quantum (layer_of (to x) state label) ≡ first.quantum (layer_of x state label))
    → AreRenamed p to sign first second
renamed-filtered p to sign first second are quantum =
    record {
      listed = are.listed;
      apart = are.apart;
      states = are.states;
      labels = are.labels;
      homological = are.homological;
      quantum = quantum;
      squares = are.squares;
      inner = are.inner;
      outer = are.outer;
    }

pub survivors-renamed : (p : ℕ) (to : ℕ → ℕ) (sign : ℕ → ℕ → ℕ) (first second : Layers) → AreRenamed p to sign first second
    → HasInverses p → AreFiltered p (cells_of first) → AreFiltered p (cells_of second) → (i t : ℤ)
    → survivors p (cells_of second) i t ≡ survivors p (cells_of first) i t
survivors-renamed p to sign first second are field filtered other_filtered i t =
    survivors-alike p (renamed p to sign first second are) (sign_at p to sign first second are) (cells_of first) (cells_of second)
    (alike-renamed p to sign first second are) field filtered.below other_filtered.below i t
