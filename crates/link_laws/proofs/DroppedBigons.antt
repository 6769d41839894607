-- Two crossings of a bigon that are dropped keep the survivors.
use Rattle.std.proofs.Common.{◌≡◌, ◌≢◌, ℕ, ◌⊎◌, inl, inr, ◌+◌, ◌-◌, ◌*◌, ◌^◌, ◌<◌, ◌∙◌, ℤ, pos, ◌+ℤ◌, ◌-ℤ◌, List, length, refl, sym, subst, ap, arith, Bool, true, false, ◌||◌, IsTrue}
use Rattle.std.specs.List.{Contains, list_all, range_with_len}
use Rattle.std.specs.Prelude.{nat_eq, if◌then◌else◌}
use Rattle.std.proofs.lemmas.Bool.{cases_eq, eq-eqb, ne_eqb}
use Rattle.std.proofs.lemmas.Int.{ints}
use Rattle.kh_types.specs.Acceptance.{accepted}
use Rattle.kh_types.specs.Bits.{ones}
use Rattle.kh_types.specs.Code.{Code}
use Rattle.kh_types.specs.Directions.{minus_count, plus_count}
use Rattle.kh_types.specs.Residues.{HasInverses}
use Rattle.kink_and_finger_laws.specs.Drops.{is_of_two}
use Rattle.cell_laws.specs.Filtered.{AreFiltered, survivors}
use Rattle.cell_laws.specs.Layers.{Layers, cells_of}
use Rattle.cell_laws.proofs.FilteredCubes.{AreFiltered-cube}
use Rattle.order_laws.proofs.Orders.{survivors-reordered}
use Rattle.order_laws.proofs.Reordered.{reordered-length}
use Rattle.view_laws.specs.ViewLayers.{view_layers}
use Rattle.view_laws.specs.Fronts.{first_to}
use Rattle.view_laws.specs.Partitions.{AgreeOn}
use Rattle.view_laws.specs.ViewLayers.{degree_of_labels, outer_count}
use Rattle.view_laws.specs.Views.{HasCircles, SeeAlike, View, joint_state, together}
use Rattle.view_laws.proofs.CircleNames.{HasCircles-accepted}
use Rattle.view_laws.proofs.ClosedOne.{closes-elsewhere, closes-there}
use Rattle.view_laws.proofs.Cut.{filtered-cut, survivors-cut}
use Rattle.layer_laws.specs.Cuts.{is_step}
use Rattle.layer_laws.specs.FilteredCuts.{IsFilteredCut}
use Rattle.layer_laws.specs.Slid.{kind_of_bigon}
use Rattle.layer_laws.proofs.Bigons.{has_kind, near-bigon}
use Rattle.layer_laws.proofs.Bigons.{bigon-keeps_first, bigon-keeps_second}
use Rattle.drop_view_laws.specs.DropSigns.{AreBigonSigns}
use Rattle.drop_view_laws.specs.DroppedCubes.{IsBigonCut, bigon_closing, bigon_first, bigon_left, bigon_through, bigon_view}
use Rattle.drop_view_laws.specs.DroppedFirst.{two_first}
use Rattle.drop_view_laws.specs.NamesLeft.{number_left}
use Rattle.link_laws.specs.CodeSurvivors.{code_survivors}
use Rattle.link_laws.specs.SeenBy.{IsSeenBy}
use Rattle.link_laws.proofs.CutViews.{count_by, cut-view, saddle_by}
use Rattle.link_laws.proofs.OneObject.{like-one}

module _ (p h : ℕ) (code new : Code) (c d slot other_slot : ℕ) (field : HasInverses p) (holds : IsTrue (accepted code))
    (cut : IsBigonCut code new c d slot other_slot) (signs : AreBigonSigns code new) where
  abbrev first : Code
  first = bigon_first code c d

  abbrev view : View
  view = bigon_view code c d slot other_slot

  abbrev plain : View
  plain = bigon_left code c d slot other_slot

  abbrev plus : ℕ
  plus = plus_count code.crossings

  abbrev minus : ℕ
  minus = minus_count code.crossings

  abbrev new_plus : ℕ
  new_plus = plus_count new.crossings

  abbrev new_minus : ℕ
  new_minus = minus_count new.crossings

  abbrev closing : ℕ
  closing = bigon_closing slot other_slot

  -- the kind 1 sees what is left, and the other what the closing state sees
  abbrev relation : ℕ → ℕ → ℕ → ℕ → Bool
  relation kind s x y =
      if nat_eq kind 1 then together new plain (joint_state plain 0 s) x y else together first view (joint_state view closing s) x y

  above : 1 < p
  above = field.above_one

  circles : HasCircles first
  circles = HasCircles-accepted first cut.first_accepted

  new_circles : HasCircles new
  new_circles = HasCircles-accepted new signs.accepted_too

  abbrev layers : Layers
  layers = view_layers p h first plus minus view

  abbrev single : Layers
  single = view_layers p h new new_plus new_minus plain

  positive : 0 < p
  positive = omega (arith, above)

  filtered : AreFiltered p (cells_of layers)
  filtered = filtered-cut p h first view plus minus positive circles cut.view
      (AreFiltered-cube p h first plus minus positive cut.first_accepted)

  new_filtered : AreFiltered p (cells_of single)
  new_filtered = filtered-cut p h new plain new_plus new_minus positive new_circles cut.left
      (AreFiltered-cube p h new new_plus new_minus positive signs.accepted_too)

  size : outer_count first view ≡ length new.crossings
  size =
      omega (
        arith,
        reordered-length code.crossings (first_to c code.crossings) cut.order.0,
        reordered-length (first_to c code.crossings) first.crossings cut.order.1,
        cut.size,
      )

  through-is : bigon_through slot other_slot ≡ 3 - closing
  through-is = cut.other_bit

  closing-below : closing < 4
  closing-below = elim cut.one_bit [
    | inl one ↦ omega (arith, one)
    | inr two ↦ omega (arith, two)
  ]

  near : (t : ℕ) → t < 4 → (is_step 2 t closing || is_step 2 closing t) ≡ true → kind_of_bigon closing t ≡ kind_of_bigon closing closing
  near = elim cut.one_bit [
    | inl one ↦ near-at 1 one refl
    | inr two ↦ near-at 2 two refl
  ]
    where
      near-at : (n : ℕ) → closing ≡ n → list_all (has_kind n) (range_with_len 0 4) ≡ true → (t : ℕ) → t < 4
          → (is_step 2 t closing || is_step 2 closing t) ≡ true → kind_of_bigon closing t ≡ kind_of_bigon closing closing
      near-at n is all =
          subst (λ (m : ℕ). (t : ℕ) → t < 4 → (is_step 2 t m || is_step 2 m t) ≡ true → kind_of_bigon m t ≡ kind_of_bigon m m) (sym is)
          (near-bigon n all)

  abbrev Sees : ℕ → ℕ → Type 0
  Sees t s = AgreeOn view.names (together first view (joint_state view t s)) (relation (kind_of_bigon closing t) s)

  sees : (t s : ℕ) → t < 4 → s < 2 ^ length new.crossings → Sees t s
  sees t s within below = elim (cases_eq t (3 - closing)) [
    | inl fourth ↦
        λ x y has_x has_y.
        ap (λ (a : ℕ). together first view (joint_state view a s) x y) (fourth ∙ sym through-is)
        ∙ cut.fourth_alike s below x y has_x has_y
        ∙ ap (λ (b : Bool). if b then together new plain (joint_state plain 0 s) x y else together first view (joint_state view closing s)
        x y)
        (sym (kind-one t fourth))
    | inr other ↦
        λ x y has_x has_y.
        as-closing t s x y within below other has_x has_y
        ∙ ap (λ (b : Bool). if b then together new plain (joint_state plain 0 s) x y else together first view (joint_state view closing s)
        x y)
        (sym (kind-zero t other))
  ]
    where
      kind-one : (t : ℕ) → t ≡ 3 - closing → nat_eq (kind_of_bigon closing t) 1 ≡ true
      kind-one t is = ap (λ (b : Bool). nat_eq (if b then 1 else 0) 1) (eq-eqb t (3 - closing) is)

      kind-zero : (t : ℕ) → t ≢ 3 - closing → nat_eq (kind_of_bigon closing t) 1 ≡ false
      kind-zero t differ = ap (λ (b : Bool). nat_eq (if b then 1 else 0) 1) (ne_eqb t (3 - closing) differ)

      three-left : (t : ℕ) → t < 4 → t ≢ 3 - closing → (t ≡ 0) ⊎ ((t ≡ 3) ⊎ (t ≡ closing))
      three-left t within other = elim (cases_eq t 0) [
        | inl none ↦ inl none
        | inr some ↦ elim (cases_eq t 3) [
          | inl three ↦ inr (inl three)
          | inr not_three ↦ inr (inr (elim cut.one_bit [
            | inl one ↦ omega (arith, within, other, some, not_three, one)
            | inr two ↦ omega (arith, within, other, some, not_three, two)
          ]))
        ]
      ]

      as-closing : (t s x y : ℕ) → t < 4 → s < 2 ^ length new.crossings → t ≢ 3 - closing → Contains view.names x → Contains view.names y
          → together first view (joint_state view t s) x y ≡ together first view (joint_state view closing s) x y
      as-closing t s x y within below other has_x has_y = elim (three-left t within other) [
        | inl none ↦ ap (λ (a : ℕ). together first view (joint_state view a s) x y) none ∙ sym (cut.zero_alike s below x y has_x has_y)
        | inr more ↦ elim more [
          | inl three ↦ ap (λ (a : ℕ). together first view (joint_state view a s) x y) three ∙ sym (cut.three_alike s below x y has_x has_y)
          | inr itself ↦ ap (λ (a : ℕ). together first view (joint_state view a s) x y) itself
        ]
      ]

  seen : IsSeenBy first view closing (kind_of_bigon closing) relation
  seen =
      record {
        is = cut.view;
        within = closing-below;
        closes = ap (λ (xs : List ℕ). length xs) (closes-there _ closing);
        others = λ t within differ. ap (λ (xs : List ℕ). length xs) (closes-elsewhere _ closing t differ);
        near = near;
        seen = λ t s within below. sees t s within (subst (λ (n : ℕ). s < 2 ^ n) size below);
      }

  is-cut : IsFilteredCut p 2 closing (kind_of_bigon closing) (count_by relation view.names) (saddle_by p h relation view.names) layers
  is-cut = cut-view p h first plus minus view closing (kind_of_bigon closing) relation seen circles above filtered

  ends : (i t : ℤ) → survivors p (cells_of single) i t ≡ survivors p (cells_of layers) i t
      → code_survivors p h new i t ≡ code_survivors p h code i t
  ends i t same =
      sym (survivors-cut p h new plain new_plus new_minus field new_circles cut.left i t) ∙ same
      ∙ survivors-cut p h first view plus minus field circles cut.view i t
      ∙ survivors-reordered p h code.loops plus minus field i t (first_to c code.crossings) (two_first c d code.crossings) cut.order.1
      ∙ survivors-reordered p h code.loops plus minus field i t code.crossings (first_to c code.crossings) cut.order.0

  left-alike : (t : ℕ) → t ≡ 3 - closing → (s : ℕ) → s < 2 ^ length new.crossings
      → SeeAlike first view (joint_state view t s) new plain (joint_state plain 0 s)
  left-alike t is s below =
      subst (λ (a : ℕ). SeeAlike first view (joint_state view a s) new plain (joint_state plain 0 s)) (through-is ∙ sym is)
      (cut.fourth_alike s below)

  pub survivors-dropped_bigon : (i t : ℤ) → code_survivors p h new i t ≡ code_survivors p h code i t
  survivors-dropped_bigon i t = elim cut.one_bit [
    | inl one ↦
        let here : length (view.closed 2) ≡ 0 =
        ap (λ (xs : List ℕ). length xs) (closes-elsewhere _ closing 2 (λ same. omega (arith, same, one))) in
        ends i t
        (bigon-keeps_first p (count_by relation view.names) (saddle_by p h relation view.names) (ones (length new.crossings)) layers single
        field
        (subst (λ (n : ℕ). IsFilteredCut p 2 n (kind_of_bigon n) (count_by relation view.names) (saddle_by p h relation view.names)
        layers) one is-cut)
        (like-one p h first new plus minus new_plus new_minus view (number_left code (is_of_two c d)) 2 0 (omega arith)
        (omega (arith, above))
        cut.left new_circles new_filtered size (left-alike 2 (omega (arith, one))) (omega (arith, signs.minus))
        (ap (λ (n : ℕ). degree_of_labels n 0 +ℤ (pos (1 + plus) -ℤ pos (2 * minus))) here
        ∙ omega (arith, ints, signs.minus, signs.plus))) i t)
    | inr two ↦
        let here : length (view.closed 1) ≡ 0 =
        ap (λ (xs : List ℕ). length xs) (closes-elsewhere _ closing 1 (λ same. omega (arith, same, two))) in
        ends i t
        (bigon-keeps_second p (count_by relation view.names) (saddle_by p h relation view.names) (ones (length new.crossings)) layers single
        field
        (subst (λ (n : ℕ). IsFilteredCut p 2 n (kind_of_bigon n) (count_by relation view.names) (saddle_by p h relation view.names)
        layers) two is-cut)
        (like-one p h first new plus minus new_plus new_minus view (number_left code (is_of_two c d)) 1 0 (omega arith)
        (omega (arith, above))
        cut.left new_circles new_filtered size (left-alike 1 (omega (arith, two))) (omega (arith, signs.minus))
        (ap (λ (n : ℕ). degree_of_labels n 0 +ℤ (pos (1 + plus) -ℤ pos (2 * minus))) here
        ∙ omega (arith, ints, signs.minus, signs.plus))) i t)
  ]
