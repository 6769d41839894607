-- A slide: what two eliminations leave before and after has the same survivors.
use Rattle.std.proofs.Common.{◌≡◌, ℕ, ◌<◌, ◌∙◌, ℤ, pos, refl, sym, subst, ap₂}
use Rattle.std.specs.List.{Contains}
use Rattle.kh_types.specs.Residues.{HasInverses}
use Rattle.cell_laws.specs.Layers.{Layers, cells_of, layer_of}
use Rattle.cell_laws.specs.Signs.{sign_of_power}
use Rattle.cell_laws.specs.Filtered.{survivors}
use Rattle.layer_laws.specs.Slid.{IsMeasured, above_of, below_of, kind_after, kind_before}
use Rattle.layer_laws.proofs.SlideTables.{exchanged, exchanged-is, last_objects, near-after, near-before, pairs-at, turn_of}
use Rattle.layer_laws.proofs.TwoPairs.{ArePairs}
use Rattle.layer_laws.proofs.Slides.{last-is, other-there, renamed-slide, there-below}
use Rattle.layer_laws.specs.FilteredCuts.{IsFilteredCut, unfiltered_layers}
use Rattle.layer_laws.proofs.FilteredPairs.{filtered-pairs, filtered_left, survivors-pairs}
use Rattle.layer_laws.proofs.RenamedLayers.{renamed-filtered, survivors-renamed}

-- layers that are measured are so without their quantum degrees
measured-unfiltered : (p o : ℕ) (kind : ℕ → ℕ) (height : ℕ → ℕ → ℤ) (weight : ℕ → ℕ → ℕ → ℕ → ℤ)
    (between : ℕ → ℕ → ℕ → ℕ → ℕ → ℕ → ℕ) (layers : Layers) → IsMeasured p o kind height weight between layers
    → IsMeasured p o kind height (λ r n state label. pos 0) between (unfiltered_layers layers)
measured-unfiltered p o kind height weight between layers measured =
    record {
      homological = measured.homological;
      quantum = λ t state label within other below label_below. refl;
      outer = measured.outer;
    }

module _ (p o : ℕ) (count : ℕ → ℕ → ℕ) (saddle : ℕ → ℕ → ℕ → ℕ → ℕ → ℕ) (height : ℕ → ℕ → ℤ) (weight : ℕ → ℕ → ℕ → ℕ → ℤ)
    (between : ℕ → ℕ → ℕ → ℕ → ℕ → ℕ → ℕ) (first second : Layers) (field : HasInverses p) (above : 0 < o) (below : o < 7)
    (states : second.states ≡ first.states) (is_first : IsFilteredCut p 3 o (kind_before o) count saddle first)
    (measured_first : IsMeasured p o (kind_before o) height weight between first)
    (is_second : IsFilteredCut p 3 o (kind_after o) count saddle second)
    (measured_second : IsMeasured p o (kind_after o) height weight between second) where
  abbrev level : ℕ → ℕ → ℕ → ℕ → ℤ
  level = λ r n state label. pos 0

  first-level : IsMeasured p o (kind_before o) height (λ r n state label. pos 0) between (unfiltered_layers first)
  first-level = measured-unfiltered p o (kind_before o) height weight between first measured_first

  second-level : IsMeasured p o (kind_after o) height (λ r n state label. pos 0) between (unfiltered_layers second)
  second-level = measured-unfiltered p o (kind_after o) height weight between second measured_second

  first-pairs : ArePairs 3 o (above_of o) (below_of o) (kind_before o)
  first-pairs = pairs-at o (kind_before o) above below (near-before o above below)

  second-pairs : ArePairs 3 o (above_of o) (below_of o) (kind_after o)
  second-pairs = pairs-at o (kind_after o) above below (near-after o above below)

  abbrev last_first : Layers
  last_first = filtered_left p 3 o (above_of o) (below_of o) (kind_before o) count saddle first field is_first first-pairs

  abbrev last_second : Layers
  last_second = filtered_left p 3 o (above_of o) (below_of o) (kind_after o) count saddle second field is_second second-pairs

  quantum-exchanged : (x state label : ℕ) → Contains (last_objects o) x → state < first.states → label < first.labels x state
      → second.quantum (layer_of (exchanged o x) state label) ≡ first.quantum (layer_of x state label)
  quantum-exchanged x state label has below_states label_below =
      let is = last-is o x has in
      let e = exchanged-is o x above below is.within is.last in
      measured_second.quantum (exchanged o x) state label e.within
      (other-there p o count saddle height level between (unfiltered_layers first) (unfiltered_layers second) field above below states
      is_first.cut first-level is_second.cut second-level x is).other
      (subst (λ (n : ℕ). state < n) (sym states) below_states)
      (there-below p o count saddle height level between (unfiltered_layers first) (unfiltered_layers second) field above below states
      is_first.cut first-level is_second.cut second-level x state label is below_states label_below)
      ∙ ap₂ (λ (n m : ℕ). weight n m state label) e.ones e.kind
      ∙ sym (measured_first.quantum x state label is.within is.other below_states label_below)

  pub survivors-slide : (i t : ℤ) → survivors p (cells_of second) i t ≡ survivors p (cells_of first) i t
  survivors-slide i t =
      sym (survivors-pairs p 3 o (above_of o) (below_of o) (kind_after o) count saddle second field is_second second-pairs i t)
      ∙ survivors-renamed p (exchanged o) (λ x state. sign_of_power p (turn_of o x)) last_first last_second
      (renamed-filtered p (exchanged o) (λ x state. sign_of_power p (turn_of o x)) last_first last_second
      (renamed-slide p o count saddle height level between (unfiltered_layers first) (unfiltered_layers second) field above below states
      is_first.cut first-level is_second.cut second-level)
      quantum-exchanged) field
      (filtered-pairs p 3 o (above_of o) (below_of o) (kind_before o) count saddle first field is_first first-pairs)
      (filtered-pairs p 3 o (above_of o) (below_of o) (kind_after o) count saddle second field is_second second-pairs) i t
      ∙ survivors-pairs p 3 o (above_of o) (below_of o) (kind_before o) count saddle first field is_first first-pairs i t
