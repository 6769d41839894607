-- Degrees and outer coefficients of a view's layers with three inner crossings: they are known by ones and kinds.
use Rattle.std.proofs.Common.{◌≡◌, ℕ, ◌+◌, ◌*◌, ◌%◌, ◌^◌, ◌<◌, ◌∙◌, ℤ, pos, ◌+ℤ◌, ◌-ℤ◌, List, length, sym, subst, ap, ap₂, Bool}
use Rattle.kh_types.specs.Bits.{ones}
use Rattle.kh_types.specs.Code.{Code}
use Rattle.kh_types.proofs.Residues.{same-equal}
use Rattle.cell_laws.specs.Filtered.{AreFiltered}
use Rattle.cell_laws.specs.Layers.{Layers, cells_of}
use Rattle.view_laws.specs.ViewLayers.{view_layers, outer_number}
use Rattle.view_laws.specs.Partitions.{seen_count}
use Rattle.view_laws.specs.ViewLayers.{degree_of_labels, inside_of, outer_count, relation_of, seen_at}
use Rattle.view_laws.specs.Views.{HasCircles, View}
use Rattle.view_laws.proofs.Steps.{outer-alike}
use Rattle.layer_laws.specs.Slid.{IsMeasured}
use Rattle.link_laws.specs.SeenBy.{IsSeenBy}
use Rattle.link_laws.proofs.CutViews.{closed-open, count-inside, inside-open, seen-inside}

-- a homological degree, by the number of outer crossings, the ones inside and the outer state
abbrev pub height_by : ℕ → ℕ → ℕ → ℕ → ℤ
height_by minus n ones_inside s = pos (ones_inside + ones n s) -ℤ pos minus

abbrev pub weight_by : ℕ → ℕ → (ℕ → ℕ → ℕ → ℕ → Bool) → List ℕ → ℕ → ℕ → ℕ → ℕ → ℕ → ℤ
weight_by plus minus relation names n ones_inside i s label =
    (degree_of_labels 0 0 +ℤ degree_of_labels (seen_count (relation i s) names) label)
    +ℤ (pos (ones_inside + ones n s + plus) -ℤ pos (2 * minus))

abbrev pub between_by : ℕ → ℕ → (ℕ → ℕ → ℕ → ℕ → Bool) → List ℕ → ℕ → ℕ → ℕ → ℕ → ℕ → ℕ → ℕ → ℕ
between_by p h relation names n ones_inside i s next label other = outer_number p h n ones_inside (relation i) names s next label other

module _ (p h : ℕ) (code : Code) (plus minus : ℕ) (view : View) (closing : ℕ) (kind : ℕ → ℕ) (relation : ℕ → ℕ → ℕ → ℕ → Bool)
    (seen : IsSeenBy code view closing kind relation) (circles : HasCircles code) (above : 1 < p)
    (filtered : AreFiltered p (cells_of (view_layers p h code plus minus view))) (three : view.inner ≡ 3) where
  abbrev layers : Layers
  layers = view_layers p h code plus minus view

  abbrev n : ℕ
  n = outer_count code view

  inner-below : (t : ℕ) → t < 8 → t < 2 ^ view.inner
  inner-below t below = subst (λ (k : ℕ). t < 2 ^ k) (sym three) below

  inside-is : (t : ℕ) → t < 8 → inside_of view t ≡ t
  inside-is t below = inside-open p h code plus minus view closing kind relation seen circles above filtered t (inner-below t below)

  ones-inside : (t : ℕ) → t < 8 → ones view.inner (inside_of view t) ≡ ones 3 t
  ones-inside t below = ap (ones view.inner) (inside-is t below) ∙ ap (λ (k : ℕ). ones k t) three

  pub measured-view : IsMeasured p closing kind (height_by minus n) (weight_by plus minus relation view.names n)
      (between_by p h relation view.names n) layers
  measured-view =
      record {
        homological = λ t s label below other s_below label_below.
            ap (λ (m : ℕ). pos (m + ones n s) -ℤ pos minus) (ones-inside t below);
        quantum = λ t s label below other s_below label_below.
            let within = inner-below t below in
            let count = count-inside p h code plus minus view closing kind relation seen circles above filtered t t s (inside-is t below)
            within
            s_below in
            ap₂ (λ (c d : ℕ). (degree_of_labels c d +ℤ degree_of_labels (seen_at code view t s) label)
            +ℤ (pos (ones view.inner (inside_of view t) + ones n s + plus) -ℤ pos (2 * minus)))
            (ap (λ (a : ℕ). length (view.closed a)) (inside-is t below) ∙ seen.others t within other)
            (closed-open p h code plus minus view closing kind relation seen circles above filtered t within)
            ∙ ap₂ (λ (c m : ℕ). (degree_of_labels 0 0 +ℤ degree_of_labels c label)
            +ℤ (pos (m + ones n s + plus) -ℤ pos (2 * minus))) count (ones-inside t below);
        outer = λ t s next label other below differs s_below next_below states_differ label_below other_below.
            let within = inner-below t below in
            let see = seen-inside p h code plus minus view closing kind relation seen circles above filtered t t in
            same-equal p (layers.outer t s next label other) (between_by p h relation view.names n (ones 3 t) (kind t) s next label other)
            (outer-alike p h n (ones view.inner (inside_of view t)) (ones 3 t) (relation_of code view t) (relation (kind t)) view.names s
            next label
            other (ap (λ (m : ℕ). m % 2) (ones-inside t below)) (see s (inside-is t below) within s_below)
            (see next (inside-is t below) within next_below));
      }
