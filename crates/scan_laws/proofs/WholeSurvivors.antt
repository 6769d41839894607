-- What steps reach has the survivors of the deformed cube, and before the last stage its dimensions too, which are those of the cube. So
-- the end of a scan counts survivors, and what it counts before its last stage are dimensions.
use Rattle.std.proofs.Common.{◌≡◌, ℕ, ◌+◌, ◌-◌, ◌∙◌, ◌<◌, ℤ, pos, ◌+ℤ◌, List, sym, subst, ap₂, arith, IsTrue}
use Rattle.std.proofs.lemmas.Int.{ints}
use Rattle.kh_types.specs.Acceptance.{accepted}
use Rattle.kh_types.specs.Code.{Code}
use Rattle.kh_types.specs.Differential.{coefficient}
use Rattle.kh_types.specs.Directions.{minus_count, plus_count}
use Rattle.kh_types.specs.Generators.{Generator, quantum_degree}
use Rattle.kh_types.specs.Residues.{HasInverses, Same}
use Rattle.kh_types.specs.Table.{dimension}
use Rattle.square_laws.specs.Deformed.{opposite}
use Rattle.square_laws.proofs.Numbers.{opposite-sum}
use Rattle.square_laws.proofs.RaisedDegrees.{deformed-equal}
use Rattle.cell_laws.specs.Alike.{AreAlike}
use Rattle.cell_laws.specs.Cells.{Cells, dimension_at}
use Rattle.cell_laws.specs.Cubes.{cube_of}
use Rattle.cell_laws.specs.DeformedCubes.{deformed_cube_of}
use Rattle.cell_laws.specs.Filtered.{AreFiltered, lasting, survivors}
use Rattle.cell_laws.specs.Layers.{Layer, layer_of}
use Rattle.cell_laws.proofs.AlikeCells.{dimension-alike}
use Rattle.cell_laws.proofs.AlikeSurvivors.{filtered-alike, survivors-alike}
use Rattle.cell_laws.proofs.FilteredCubes.{AreFiltered-cube}
use Rattle.cell_laws.proofs.LevelParts.{dimension-equal}
use Rattle.order_laws.specs.Orders.{listed_by}
use Rattle.order_laws.proofs.AnyOrder.{accepted-reordered}
use Rattle.order_laws.proofs.Orders.{survivors-reordered}
use Rattle.order_laws.proofs.Orders.{dimension-reordered}
use Rattle.scan_laws.specs.Scans.{Scan, first_scan}
use Rattle.scan_laws.specs.Complexes.{complex_of}
use Rattle.scan_laws.specs.Counts.{counted, counted_with}
use Rattle.scan_laws.specs.EndCounts.{counted_from}
use Rattle.scan_laws.specs.LevelSteps.{IsEndOfLevelScan, IsEndOfFilteredScan, IsLevelLast, IsLevelStep, IsLevelReached, IsFilteredReached, IsFilteredStep}
use Rattle.scan_laws.specs.Steps.{IsLast}
use Rattle.scan_laws.proofs.Base.{alike-deformed}
use Rattle.scan_laws.proofs.End.{lasting-counted, survivors-counted}
use Rattle.scan_laws.proofs.Ending.{level-ends, filtered-ends}
use Rattle.scan_laws.proofs.Kept.{coefficients-below}
use Rattle.scan_laws.proofs.KeptSteps.{Stays, dimension-step, stays-step}
use Rattle.scan_laws.proofs.LastMaps.{dimension-last}
use Rattle.scan_laws.proofs.Leading.{HasEnd, leads-kept, leads-more, leads-none}
use Rattle.scan_laws.proofs.ScansOf.{scan-first}

-- dimensions of the deformed cube are those of the cube
cube-dimension : (p h : ℕ) (code : Code) (plus minus : ℕ) → 1 < p → IsTrue (accepted code) → (i j : ℤ)
    → dimension_at p (deformed_cube_of p h code plus minus) i j ≡ dimension_at p (cube_of p code plus minus) i j
cube-dimension p h code plus minus above is i j =
    sym (dimension-equal (deformed_cube_of p h code plus minus) (coefficient p code)
    (λ x y has_x has_y same. sym (deformed-equal p h code x y above is
    (let e : quantum_degree code y ≡ quantum_degree code x = omega (arith, ints, same) in e))) p i j)

-- each scan that is reached by_levels is reached
pub reached-level : (p hd hh : ℕ) (code : Code) (plus minus : ℕ) (scan : Scan) → IsLevelReached p hd hh code scan
    → IsFilteredReached p hd hh code plus minus scan
reached-level p hd hh code plus minus scan reached =
    leads-kept (IsLevelStep p hd hh code) (IsFilteredReached p hd hh code plus minus)
    (λ at next leads step. leads-more (IsFilteredStep p hd hh code plus minus) first_scan at next leads (IsFilteredStep.level_step step))
    first_scan scan (leads-none (IsFilteredStep p hd hh code plus minus) first_scan) reached

module _ (p h k : ℕ) (opposed : opposite p h ≡ k) (code : Code) (plus minus : ℕ) (field : HasInverses p) (is : IsTrue (accepted code)) where
  positive : 0 < p
  positive = omega (arith, field.above_one)

  pub cancels-opposed : Same p (h + k) 0
  cancels-opposed = subst (λ n. Same p (h + n) 0) opposed (opposite-sum p h positive)

  abbrev cube : Cells Generator
  cube = deformed_cube_of p h code plus minus

  abbrev name : Generator → Layer
  name x = layer_of 0 x.state x.label

  abbrev one : Generator → ℕ
  one x = 1

  cube-filtered : AreFiltered p cube
  cube-filtered = AreFiltered-cube p h code plus minus positive is

  first-alike : AreAlike p name one cube (complex_of p h k code plus minus first_scan)
  first-alike =
      subst (λ n. AreAlike p name one cube (complex_of p h n code plus minus first_scan)) opposed (alike-deformed p h plus minus code)

  first-below : (x y : Layer) → (complex_of p h k code plus minus first_scan).coefficient x y < p
  first-below = coefficients-below p h k code plus minus first_scan field.above_one

  abbrev Stands : Scan → Type 0
  Stands scan = Stays p h k code plus minus (deformed_cube_of p h code plus minus) scan

  stands-first : Stands first_scan
  stands-first =
      record {
        of = scan-first code;
        filtered = filtered-alike p name one cube (complex_of p h k code plus minus first_scan) first-below first-alike cube-filtered;
        count = λ i t. survivors-alike p name one cube (complex_of p h k code plus minus first_scan) first-alike field cube-filtered.below
            first-below i t;
      }

  stands-step : (scan next : Scan) → Stands scan → IsFilteredStep p h k code plus minus scan next → Stands next
  stands-step scan next stands step =
      let stays = stays-step p h k code plus minus field cancels-opposed is scan next stands.of stands.filtered step in
      record { of = stays.of; filtered = stays.filtered; count = λ i t. stays.count i t ∙ stands.count i t }

  pub stands-reached : (scan : Scan) → IsFilteredReached p h k code plus minus scan → Stands scan
  stands-reached scan reached = leads-kept (IsFilteredStep p h k code plus minus) Stands stands-step first_scan scan stands-first reached

  -- before the last stage
  abbrev StandsLevel : Scan → Type 0
  StandsLevel scan =
      Stays p h k code plus minus (deformed_cube_of p h code plus minus) scan
      × ((i j : ℤ) → dimension_at p (complex_of p h k code plus minus scan) i j ≡ dimension_at p (deformed_cube_of p h code plus minus) i j)

  level-reached : (scan : Scan) → IsLevelReached p h k code scan → StandsLevel scan
  level-reached scan reached =
      leads-kept (IsLevelStep p h k code) StandsLevel
      (λ at next stands step. (
        stands-step at next stands.0 (IsFilteredStep.level_step step),
        λ i j. dimension-step p h k code plus minus field cancels-opposed is at next stands.0.of stands.0.filtered step i j ∙ stands.1 i j,
      ))
      first_scan scan (
        stands-first,
        λ i j. dimension-alike p name one cube (complex_of p h k code plus minus first_scan) first-alike field cube-filtered.below
            first-below i j,
      )
      reached

  pub dimension-level : (scan : Scan) → IsLevelReached p h k code scan → IsLevelLast p code scan → (i j : ℤ)
      → counted_with code.loops plus minus scan i j ≡ dimension_at p (cube_of p code plus minus) i j
  dimension-level scan reached last i j =
      let stands = level-reached scan reached in
      sym (dimension-last p h k code plus minus field cancels-opposed is scan stands.0.of stands.0.filtered last.done last i j)
      ∙ stands.1 i j ∙ cube-dimension p h code plus minus field.above_one is i j

  -- from each that is reached there are steps to an end, and to one before the last stage
  pub filtered-end : (scan : Scan) → IsFilteredReached p h k code plus minus scan
      → HasEnd (IsFilteredStep p h k code plus minus) (IsLast p h k code) scan
  filtered-end scan reached =
      let stands = stands-reached scan reached in filtered-ends p h k code plus minus field cancels-opposed is scan stands.of stands.filtered

  pub level-end : (scan : Scan) → IsLevelReached p h k code scan → HasEnd (IsLevelStep p h k code) (IsLevelLast p code) scan
  level-end scan reached =
      let stands = level-reached scan reached in
      level-ends p h k code plus minus field cancels-opposed is scan stands.0.of stands.0.filtered

  module _ (scan : Scan) (reached : IsFilteredReached p h k code plus minus scan) (last : IsLast p h k code scan) (i t : ℤ) where
    pub survivors-reached : counted_from code.loops plus minus scan i t ≡ survivors p (deformed_cube_of p h code plus minus) i t
    survivors-reached =
        let stands = stands-reached scan reached in
        survivors-counted p h k code is scan stands.of last.done plus minus last field stands.filtered i t ∙ stands.count i t

    pub lasting-reached : counted_with code.loops plus minus scan i t ≡ lasting p (deformed_cube_of p h code plus minus) i t
    lasting-reached =
        let stands = stands-reached scan reached in
        lasting-counted p h k code is scan stands.of last.done plus minus last field stands.filtered i t
        ∙ ap₂ (λ m n. m - n) (stands.count i t) (stands.count i (t +ℤ pos 1))

-- with the crossings in any order
module _ (p h k : ℕ) (opposed : opposite p h ≡ k) (code : Code) (crossings : List (List ℕ)) (scan : Scan) (field : HasInverses p)
    (is : IsTrue (accepted code)) where
  abbrev plus : ℕ
  plus = plus_count code.crossings

  abbrev minus : ℕ
  minus = minus_count code.crossings

  module _ (end : IsEndOfFilteredScan p h k code crossings scan) (i t : ℤ) where
    same : (t : ℤ) → survivors p (deformed_cube_of p h (listed_by code crossings) plus minus) i t
        ≡ survivors p (deformed_cube_of p h code plus minus) i t
    same t = survivors-reordered p h code.loops plus minus field i t code.crossings crossings end.order

    listed_is : IsTrue (accepted (listed_by code crossings))
    listed_is = accepted-reordered code.loops code.crossings crossings end.order is

    pub survivors-whole : counted_from code.loops (plus_count code.crossings) (minus_count code.crossings) scan i t
        ≡ survivors p (deformed_cube_of p h code (plus_count code.crossings) (minus_count code.crossings)) i t
    survivors-whole =
        survivors-reached p h k opposed (listed_by code crossings) plus minus field listed_is scan end.reached end.last i t ∙ same t

    pub lasting-whole : counted code scan i t
        ≡ lasting p (deformed_cube_of p h code (plus_count code.crossings) (minus_count code.crossings)) i t
    lasting-whole =
        lasting-reached p h k opposed (listed_by code crossings) plus minus field listed_is scan end.reached end.last i t
        ∙ ap₂ (λ m n. m - n) (same t) (same (t +ℤ pos 1))

  pub dimension-whole : IsEndOfLevelScan p h k code crossings scan → (i j : ℤ) → counted code scan i j ≡ dimension p code i j
  dimension-whole end i j =
      dimension-level p h k opposed (listed_by code crossings) plus minus field
      (accepted-reordered code.loops code.crossings crossings end.order is) scan end.reached end.last i j
      ∙ dimension-reordered p code.loops plus minus field i j code.crossings crossings end.order
