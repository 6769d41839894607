-- A slide keeps the survivors: both codes with the three crossings first, seen through all arcs and loops but the sides, are cut.
use Rattle.std.proofs.Common.{◌≡◌, ℕ, ◌+◌, ◌-◌, ◌*◌, ◌^◌, ◌<◌, ◌∙◌, ℤ, List, length, refl, sym, subst, ap, ap₂, arith, Bool, true, ◌||◌, IsTrue}
use Rattle.std.specs.List.{Contains}
use Rattle.std.specs.Prelude.{nat_eq, if◌then◌else◌}
use Rattle.std.proofs.lemmas.Bool.{eq-eqb, ne_eqb, or_right}
use Rattle.kh_types.specs.Acceptance.{accepted}
use Rattle.kh_types.specs.Code.{Code}
use Rattle.kh_types.specs.Directions.{minus_count, plus_count}
use Rattle.kh_types.specs.Residues.{HasInverses}
use Rattle.cell_laws.specs.DeformedCubes.{deformed_cube_of}
use Rattle.cell_laws.specs.Filtered.{AreFiltered, survivors}
use Rattle.cell_laws.specs.Layers.{Layers, cells_of}
use Rattle.cell_laws.proofs.FilteredCubes.{AreFiltered-cube}
use Rattle.order_laws.proofs.Orders.{survivors-reordered}
use Rattle.view_laws.specs.ViewLayers.{view_layers}
use Rattle.view_laws.specs.Partitions.{AgreeOn}
use Rattle.view_laws.specs.ViewLayers.{outer_count}
use Rattle.view_laws.specs.Views.{HasCircles, IsView, View, together}
use Rattle.view_laws.proofs.CircleNames.{HasCircles-accepted}
use Rattle.view_laws.proofs.Cut.{filtered-cut, survivors-cut}
use Rattle.layer_laws.specs.Cuts.{is_step}
use Rattle.layer_laws.specs.FilteredCuts.{IsFilteredCut}
use Rattle.layer_laws.specs.Slid.{IsMeasured, is_near, kind_after, kind_before}
use Rattle.layer_laws.proofs.FilteredSlides.{survivors-slide}
use Rattle.layer_laws.proofs.SlideTables.{near-after, near-before}
use Rattle.slide_view_laws.specs.SeenSlides.{HasSeenSlide, IsInOrder, IsSeenSlide}
use Rattle.link_laws.specs.CodeSurvivors.{code_survivors}
use Rattle.link_laws.specs.SeenBy.{IsSeenBy}
use Rattle.link_laws.proofs.CutViews.{count_by, cut-view, saddle_by}
use Rattle.link_laws.proofs.Measured.{between_by, height_by, measured-view, weight_by}

-- a view of three inner crossings, of which one state closes a circle, is seen by kinds
pub by-kinds : (code : Code) (view : View) (closing : ℕ) (kind : ℕ → ℕ) (relation : ℕ → ℕ → ℕ → ℕ → Bool) → IsView code view
    → view.inner ≡ 3 → closing < 7 → ((inner : ℕ) → length (view.closed inner) ≡ (if nat_eq inner closing then 1 else 0))
    → ((t : ℕ) → t < 8 → is_near closing t ≡ true → kind t ≡ kind closing)
    → ((t s : ℕ) → t < 8 → AgreeOn view.names (together code view (t + 8 * s)) (relation (kind t) s))
    → IsSeenBy code view closing kind relation
by-kinds code view closing kind relation is three below closed near sees =
    let eight : (t : ℕ) → t < 2 ^ view.inner → t < 8 = λ t within. subst (λ (k : ℕ). t < 2 ^ k) three within in
    record {
      is = is;
      within = subst (λ (k : ℕ). closing < 2 ^ k) (sym three) (omega (arith, below));
      closes = closed closing ∙ ap (λ (b : Bool). let n : ℕ = if b then 1 else 0 in n) (eq-eqb closing closing refl);
      others = λ t within differ. closed t ∙ ap (λ (b : Bool). let n : ℕ = if b then 1 else 0 in n) (ne_eqb t closing differ);
      near = λ t within step.
          near t (eight t within)
          (or_right (nat_eq t closing) (is_step 3 t closing || is_step 3 closing t)
          (subst (λ (k : ℕ). (is_step k t closing || is_step k closing t) ≡ true) three step));
      seen = λ t s within below_states.
          subst (λ (k : ℕ). AgreeOn view.names (together code view (t + 2 ^ k * s)) (relation (kind t) s)) (sym three)
          (sees t s (eight t within));
    }

module _ (p h : ℕ) (first second : Code) (first_view second_view : View) (closing plus minus : ℕ) (field : HasInverses p)
    (seen : IsSeenSlide first second first_view second_view closing) (holds : IsTrue (accepted first))
    (holds_second : IsTrue (accepted second))
  where
    abbrev relation : ℕ → ℕ → ℕ → ℕ → Bool
    relation kind s = together first first_view (kind + 8 * s)

    above : 1 < p
    above = field.above_one

    circles : HasCircles first
    circles = HasCircles-accepted first holds

    circles_second : HasCircles second
    circles_second = HasCircles-accepted second holds_second

    abbrev layers : Layers
    layers = view_layers p h first plus minus first_view

    abbrev layers_second : Layers
    layers_second = view_layers p h second plus minus second_view

    positive : 0 < p
    positive = omega (arith, above)

    filtered : AreFiltered p (cells_of layers)
    filtered = filtered-cut p h first first_view plus minus positive circles seen.first_is
        (AreFiltered-cube p h first plus minus positive holds)

    filtered_second : AreFiltered p (cells_of layers_second)
    filtered_second =
        filtered-cut p h second second_view plus minus positive circles_second seen.second_is
        (AreFiltered-cube p h second plus minus positive holds_second)

    before : IsSeenBy first first_view closing (kind_before closing) relation
    before =
        by-kinds first first_view closing (kind_before closing) relation seen.first_is seen.first_inner seen.not_all seen.first_closed
        (near-before closing seen.some seen.not_all) (λ t s within. seen.kinds_before s t within)

    after : IsSeenBy second second_view closing (kind_after closing) relation
    after =
        by-kinds second second_view closing (kind_after closing) relation seen.second_is seen.second_inner seen.not_all seen.second_closed
        (near-after closing seen.some seen.not_all)
        (λ t s within x y has_x has_y.
        sym (seen.kinds_after s t within x y (subst (λ (names : List ℕ). Contains names x) seen.names has_x)
        (subst (λ (names : List ℕ). Contains names y) seen.names has_y)))

    abbrev names : List ℕ
    names = first_view.names

    abbrev n : ℕ
    n = outer_count first first_view

    same-outer : outer_count second second_view ≡ n
    same-outer = ap₂ (λ (a b : ℕ). a - b) seen.size (seen.second_inner ∙ sym seen.first_inner)

    -- both are cut
    cut : IsFilteredCut p 3 closing (kind_before closing) (count_by relation names) (saddle_by p h relation names) layers
    cut =
        subst (λ (k : ℕ). IsFilteredCut p k closing (kind_before closing) (count_by relation names) (saddle_by p h relation names) layers)
        seen.first_inner
        (cut-view p h first plus minus first_view closing (kind_before closing) relation before circles above filtered)

    cut-second : IsFilteredCut p 3 closing (kind_after closing) (count_by relation names) (saddle_by p h relation names) layers_second
    cut-second =
        subst (λ (xs : List ℕ). IsFilteredCut p 3 closing (kind_after closing) (count_by relation xs) (saddle_by p h relation xs)
        layers_second)
        seen.names
        (subst (λ (k : ℕ). IsFilteredCut p k closing (kind_after closing) (count_by relation second_view.names)
        (saddle_by p h relation second_view.names)
        layers_second) seen.second_inner
        (cut-view p h second plus minus second_view closing (kind_after closing) relation after circles_second above filtered_second))

    measured : IsMeasured p closing (kind_before closing) (height_by minus n) (weight_by plus minus relation names n)
        (between_by p h relation names n) layers
    measured = measured-view p h first plus minus first_view closing (kind_before closing) relation before circles above filtered
        seen.first_inner

    measured-second : IsMeasured p closing (kind_after closing) (height_by minus n) (weight_by plus minus relation names n)
        (between_by p h relation names n) layers_second
    measured-second =
        subst (λ (xs : List ℕ). IsMeasured p closing (kind_after closing) (height_by minus n) (weight_by plus minus relation xs n)
        (between_by p h relation xs n) layers_second) seen.names
        (subst (λ (m : ℕ). IsMeasured p closing (kind_after closing) (height_by minus m) (weight_by plus minus relation second_view.names m)
        (between_by p h relation second_view.names m) layers_second) same-outer
        (measured-view p h second plus minus second_view closing (kind_after closing) relation after circles_second above filtered_second
        seen.second_inner))

    pub survivors-seen_slide : (i t : ℤ) → survivors p (deformed_cube_of p h second plus minus) i t
        ≡ survivors p (deformed_cube_of p h first plus minus) i t
    survivors-seen_slide i t =
        sym (survivors-cut p h second second_view plus minus field circles_second seen.second_is i t)
        ∙ survivors-slide p closing (count_by relation names) (saddle_by p h relation names) (height_by minus n)
        (weight_by plus minus relation names n)
        (between_by p h relation names n) layers layers_second field seen.some seen.not_all (ap (λ (m : ℕ). 2 ^ m) same-outer) cut measured
        cut-second measured-second i t
        ∙ survivors-cut p h first first_view plus minus field circles seen.first_is i t

-- what is in order has the same survivors
in-order : (p h : ℕ) (code other : Code) (plus minus : ℕ) → HasInverses p → IsInOrder code other → (i t : ℤ)
    → survivors p (deformed_cube_of p h other plus minus) i t ≡ survivors p (deformed_cube_of p h code plus minus) i t
in-order p h code other plus minus field order i t =
    ap (λ (l : ℕ). survivors p (deformed_cube_of p h (record { crossings = other.crossings; loops = l }) plus minus) i t) order.loops
    ∙ survivors-reordered p h code.loops plus minus field i t order.twice other.crossings order.orders.2
    ∙ survivors-reordered p h code.loops plus minus field i t order.once order.twice order.orders.1
    ∙ survivors-reordered p h code.loops plus minus field i t code.crossings order.once order.orders.0

pub survivors-slid : (p h : ℕ) (code new : Code) → HasInverses p → HasSeenSlide code new → (i t : ℤ)
    → code_survivors p h new i t ≡ code_survivors p h code i t
survivors-slid p h code new field slide i t =
    let plus = plus_count code.crossings in
    let minus = minus_count code.crossings in
    ap₂ (λ (a b : ℕ). survivors p (deformed_cube_of p h new a b) i t) slide.plus slide.minus
    ∙ sym (in-order p h new slide.second plus minus field slide.second_order i t)
    ∙ survivors-seen_slide p h slide.first slide.second slide.first_view slide.second_view slide.closing plus minus field slide.seen
    slide.first_order.accepted_too slide.second_order.accepted_too i t
    ∙ in-order p h code slide.first plus minus field slide.first_order i t
