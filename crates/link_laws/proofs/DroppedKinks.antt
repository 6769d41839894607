-- A kink that is dropped keeps the survivors: the code with the kink's crossing first, seen through all arcs and loops but the kink's arc,
-- is cut, and what is left of it is the code without the kink.
use Rattle.std.proofs.Common.{◌≡◌, ℕ, ◌⊎◌, inl, inr, ◌+◌, ◌*◌, ◌%◌, ◌^◌, ◌<◌, ◌∙◌, ℤ, pos, ◌+ℤ◌, ◌-ℤ◌, List, length, refl, sym, subst, ap, arith, Bool, true, false, IsTrue}
use Rattle.std.specs.Prelude.{nat_eq, if◌then◌else◌}
use Rattle.std.proofs.lemmas.Int.{ints}
use Rattle.kh_types.specs.Acceptance.{accepted}
use Rattle.kh_types.specs.Bits.{ones}
use Rattle.kh_types.specs.Code.{Code}
use Rattle.kh_types.specs.Directions.{minus_count, plus_count}
use Rattle.kh_types.specs.Residues.{HasInverses}
use Rattle.kink_and_finger_laws.specs.DropCircles.{closing_at, through_at}
use Rattle.cell_laws.specs.Filtered.{AreFiltered, survivors}
use Rattle.cell_laws.specs.Layers.{Layers, cells_of}
use Rattle.cell_laws.proofs.FilteredCubes.{AreFiltered-cube}
use Rattle.order_laws.proofs.Orders.{survivors-reordered}
use Rattle.order_laws.proofs.Reordered.{reordered-length}
use Rattle.view_laws.specs.ViewLayers.{view_layers}
use Rattle.view_laws.specs.Fronts.{first_to}
use Rattle.view_laws.specs.ViewLayers.{degree_of_labels, outer_count}
use Rattle.view_laws.specs.Views.{HasCircles, View, joint_state, together}
use Rattle.view_laws.proofs.CircleNames.{HasCircles-accepted}
use Rattle.view_laws.proofs.ClosedOne.{closes-there, closes-elsewhere}
use Rattle.view_laws.proofs.Cut.{filtered-cut, survivors-cut}
use Rattle.layer_laws.specs.FilteredCuts.{IsFilteredCut}
use Rattle.layer_laws.proofs.Kinks.{kink-keeps_first, kink-keeps_second}
use Rattle.drop_view_laws.specs.DropSigns.{AreKinkSigns}
use Rattle.drop_view_laws.specs.DroppedCubes.{IsKinkCut, kink_first, kink_left, kink_view}
use Rattle.drop_view_laws.specs.NamesLeft.{number_left}
use Rattle.link_laws.specs.CodeSurvivors.{code_survivors}
use Rattle.link_laws.specs.SeenBy.{IsSeenBy}
use Rattle.link_laws.proofs.CutViews.{count_by, cut-view, saddle_by}
use Rattle.link_laws.proofs.OneObject.{like-one}

-- one circle closes at one inner state
-- which smoothing closes
which : (slot : ℕ) → ((closing_at slot ≡ 0) × (through_at slot ≡ 1)) ⊎ ((closing_at slot ≡ 1) × (through_at slot ≡ 0))
which slot = by (nat_eq (slot % 2) 0)
  where
    by : (b : Bool) → (((let n : ℕ = if b then 0 else 1 in n) ≡ 0) × ((let n : ℕ = if b then 1 else 0 in n) ≡ 1))
        ⊎ (((let n : ℕ = if b then 0 else 1 in n) ≡ 1) × ((let n : ℕ = if b then 1 else 0 in n) ≡ 0))
    by true = inl (refl, refl)
    by false = inr (refl, refl)

module _ (p h : ℕ) (code new : Code) (c slot : ℕ) (field : HasInverses p) (holds : IsTrue (accepted code)) (cut : IsKinkCut code new c slot)
    (signs : AreKinkSigns code new slot) where
  abbrev first : Code
  first = kink_first code c

  abbrev view : View
  view = kink_view code c slot

  abbrev plain : View
  plain = kink_left code c slot

  abbrev plus : ℕ
  plus = plus_count code.crossings

  abbrev minus : ℕ
  minus = minus_count code.crossings

  abbrev new_plus : ℕ
  new_plus = plus_count new.crossings

  abbrev new_minus : ℕ
  new_minus = minus_count new.crossings

  abbrev closing : ℕ
  closing = closing_at slot

  abbrev relation : ℕ → ℕ → ℕ → ℕ → Bool
  relation kind s = together new plain (joint_state plain 0 s)

  above : 1 < p
  above = field.above_one

  circles : HasCircles first
  circles = HasCircles-accepted first cut.first_accepted

  new_circles : HasCircles new
  new_circles = HasCircles-accepted new signs.accepted_too

  abbrev layers : Layers
  layers = view_layers p h first plus minus view

  abbrev single : Layers
  single = view_layers p h new new_plus new_minus plain

  positive : 0 < p
  positive = omega (arith, above)

  filtered : AreFiltered p (cells_of layers)
  filtered = filtered-cut p h first view plus minus positive circles cut.view
      (AreFiltered-cube p h first plus minus positive cut.first_accepted)

  new_filtered : AreFiltered p (cells_of single)
  new_filtered = filtered-cut p h new plain new_plus new_minus positive new_circles cut.left
      (AreFiltered-cube p h new new_plus new_minus positive signs.accepted_too)

  size : outer_count first view ≡ length new.crossings
  size = omega (arith, reordered-length code.crossings first.crossings cut.order, cut.size)

  closing-below : closing < 2
  closing-below = elim (which slot) [
    | inl zero ↦ omega (arith, zero.0)
    | inr one ↦ omega (arith, one.0)
  ]

  seen : IsSeenBy first view closing (λ t. 0) relation
  seen =
      record {
        is = cut.view;
        within = closing-below;
        closes = ap (λ (xs : List ℕ). length xs) (closes-there _ closing);
        others = λ t within differ. ap (λ (xs : List ℕ). length xs) (closes-elsewhere _ closing t differ);
        near = λ t within step. refl;
        seen = λ t s within below. cut.alike t s within (subst (λ (n : ℕ). s < 2 ^ n) size below);
      }

  is-cut : IsFilteredCut p 1 closing (λ t. 0) (count_by relation view.names) (saddle_by p h relation view.names) layers
  is-cut = cut-view p h first plus minus view closing (λ t. 0) relation seen circles above filtered

  ends : (i t : ℤ) → survivors p (cells_of single) i t ≡ survivors p (cells_of layers) i t
      → code_survivors p h new i t ≡ code_survivors p h code i t
  ends i t same =
      sym (survivors-cut p h new plain new_plus new_minus field new_circles cut.left i t) ∙ same
      ∙ survivors-cut p h first view plus minus field circles cut.view i t
      ∙ survivors-reordered p h code.loops plus minus field i t code.crossings (first_to c code.crossings) cut.order

  pub survivors-dropped_kink : (i t : ℤ) → code_survivors p h new i t ≡ code_survivors p h code i t
  survivors-dropped_kink i t = elim (which slot) [
    | inl zero ↦
        let here : length (view.closed 0) ≡ 1 =
        ap (λ (n : ℕ). length (view.closed n)) (sym zero.0) ∙ ap (λ (xs : List ℕ). length xs) (closes-there _ closing) in
        ends i t
        (kink-keeps_first p (count_by relation view.names) (saddle_by p h relation view.names) (ones (length new.crossings)) layers single
        field
        (subst (λ (n : ℕ). IsFilteredCut p 1 n (λ t. 0) (count_by relation view.names) (saddle_by p h relation view.names)
        layers) zero.0 is-cut)
        (like-one p h first new plus minus new_plus new_minus view (number_left code (nat_eq c)) 0 1 (omega arith) (omega (arith, above))
        cut.left new_circles new_filtered size (λ s below. cut.alike 0 s (omega arith) below) (omega (arith, signs.minus, zero.0))
        (ap (λ (n : ℕ). degree_of_labels n 1 +ℤ (pos (0 + plus) -ℤ pos (2 * minus))) here
        ∙ omega (arith, ints, signs.minus, signs.plus, zero.0, zero.1))) i t)
    | inr one ↦
        let here : length (view.closed 1) ≡ 1 =
        ap (λ (n : ℕ). length (view.closed n)) (sym one.0) ∙ ap (λ (xs : List ℕ). length xs) (closes-there _ closing) in
        ends i t
        (kink-keeps_second p (count_by relation view.names) (saddle_by p h relation view.names) (ones (length new.crossings)) layers single
        field
        (subst (λ (n : ℕ). IsFilteredCut p 1 n (λ t. 0) (count_by relation view.names) (saddle_by p h relation view.names)
        layers) one.0 is-cut)
        (like-one p h first new plus minus new_plus new_minus view (number_left code (nat_eq c)) 1 0 (omega arith) (omega (arith, above))
        cut.left new_circles new_filtered size (λ s below. cut.alike 1 s (omega arith) below) (omega (arith, signs.minus, one.0))
        (ap (λ (n : ℕ). degree_of_labels n 0 +ℤ (pos (1 + plus) -ℤ pos (2 * minus))) here
        ∙ omega (arith, ints, signs.minus, signs.plus, one.0, one.1))) i t)
  ]
