-- The plain layers of a view are cut: they are the deformed ones with h = 0.
use Rattle.std.proofs.Common.{◌≡◌, ℕ, ◌*◌, ◌^◌, ◌<◌, ◌∙◌, Bool, refl, ap}
use Rattle.kh_types.specs.Code.{Code}
use Rattle.kh_types.proofs.Residues.{same-equal}
use Rattle.square_laws.specs.Deformed.{opposite}
use Rattle.kh_types.proofs.Reduced.{minus_mod-nothing}
use Rattle.cell_laws.specs.Cells.{AreComplex}
use Rattle.cell_laws.specs.Layers.{cells_of}
use Rattle.cell_laws.proofs.LevelSurvivors.{filtered-level}
use Rattle.view_laws.specs.Partitions.{deformed_saddle_number, saddle_number, seen_count}
use Rattle.view_laws.specs.ViewLayers.{view_layers}
use Rattle.view_laws.specs.Views.{HasCircles, View}
use Rattle.view_laws.proofs.Seen.{saddle-plain}
use Rattle.layer_laws.specs.Cuts.{IsCut, step_sign}
use Rattle.link_laws.specs.SeenBy.{IsSeenBy}
use Rattle.link_laws.proofs.CutViews.{cut-view}

pub cut-plain : (p : ℕ) (code : Code) (plus minus : ℕ) (view : View) (closing : ℕ) (kind : ℕ → ℕ) (relation : ℕ → ℕ → ℕ → ℕ → Bool)
    → IsSeenBy code view closing kind relation → HasCircles code → 1 < p
    → AreComplex p (cells_of (view_layers p 0 code plus minus view))
    → IsCut p view.inner closing kind (λ i s. 2 ^ seen_count (relation i s) view.names)
    (λ i j s label other. saddle_number (relation i s) (relation j s) view.names label other) (view_layers p 0 code plus minus view)
cut-plain p code plus minus view closing kind relation seen circles above complex =
    let layers = view_layers p 0 code plus minus view in
    let cut = (cut-view p 0 code plus minus view closing kind relation seen circles above (filtered-level p (cells_of layers) complex)).cut in
    record {
      complex = complex;
      objects = cut.objects;
      labels = cut.labels;
      closed_labels = cut.closed_labels;
      apart = λ t u below next step. record { none = (cut.apart t u below next step).none };
      apart_closed = λ t below step. record { none = (cut.apart_closed t below step).none };
      apart_within = record { none = cut.apart_within.none };
      split_off = λ t below step. record { is = (cut.split_off t below step).is };
      merged = λ t below step. record { is = (cut.merged t below step).is };
      saddles = λ t u below next first second step. record {
        is = λ state label other state_below label_below other_below.
            (cut.saddles t u below next first second step).is state label other state_below label_below other_below
            ∙ same-equal p
            (step_sign p view.inner t u * deformed_saddle_number 0 (opposite p 0) (relation (kind t) state) (relation (kind u) state) view.names
            label other)
            (step_sign p view.inner t u * saddle_number (relation (kind t) state) (relation (kind u) state) view.names label other)
            (ap (λ n. step_sign p view.inner t u * n) (saddle-at_zero (relation (kind t) state) (relation (kind u) state) label other));
      };
    }
  where
    saddle-at_zero : (before behind : ℕ → ℕ → Bool) (label other : ℕ)
        → deformed_saddle_number 0 (opposite p 0) before behind view.names label other ≡ saddle_number before behind view.names label other
    saddle-at_zero before behind label other =
        ap (λ k. deformed_saddle_number 0 k before behind view.names label other) (minus_mod-nothing p 0 refl)
        ∙ saddle-plain before behind view.names label other
