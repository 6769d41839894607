-- Each step of a scan keeps what its complex has. A step gives the cells other names, behind the elimination of a family of pivots where an
-- entry is eliminated. So the laws of names and of eliminations say that the complex stays one, that it stays filtered, and that it keeps
-- its survivors where the pivots are shortest and its dimensions where they lead to equal quantum degrees.
use Rattle.std.proofs.Common.{◌≡◌, ℕ, ◌+◌, ◌-◌, ◌*◌, ◌%◌, ◌<◌, ◌∙◌, ℤ, ◌-ℤ◌, List, [], sym, arith, refl, IsTrue}
use Rattle.std.specs.List.{Contains, sum_by}
use Rattle.std.proofs.lemmas.Int.{ints}
use Rattle.std.proofs.lemmas.Nat.{mod_below}
use Rattle.kh_types.specs.Acceptance.{accepted}
use Rattle.kh_types.specs.Code.{Code}
use Rattle.kh_types.specs.Rank.{minus_mod}
use Rattle.kh_types.specs.Residues.{HasInverses, Same}
use Rattle.kh_types.proofs.Reduced.{minus_mod-added}
use Rattle.kh_types.proofs.Residues.{same-equal}
use Rattle.cell_laws.specs.Alike.{AreAlike, AreListed}
use Rattle.cell_laws.specs.Cells.{AreComplex, Cells, dimension_at}
use Rattle.cell_laws.specs.Elimination.{ArePivots, all_of, cells_left, eliminated, way_back}
use Rattle.cell_laws.specs.Filtered.{AreFiltered, survivors}
use Rattle.cell_laws.specs.Layers.{Layer}
use Rattle.cell_laws.specs.Shortest.{HaveGap, IsShortest}
use Rattle.cell_laws.proofs.AlikeCells.{dimension-alike}
use Rattle.cell_laws.proofs.AlikeComplexes.{complex-alike, complex-left_any}
use Rattle.cell_laws.proofs.AlikeSurvivors.{filtered-alike, survivors-alike}
use Rattle.cell_laws.proofs.LeftFiltered.{filtered-left, gap-left, survivors-left_any}
use Rattle.cell_laws.proofs.LevelParts.{dimension-left_level}
use Rattle.cell_laws.proofs.LevelSurvivors.{filtered-level}
use Rattle.cell_laws.proofs.Listings.{listed-same}
use Rattle.scan_laws.specs.Scans.{IsScanOf, Scan}
use Rattle.scan_laws.specs.Complexes.{complex_of}
use Rattle.scan_laws.specs.Eliminating.{IsEliminated, IsEliminating, cancelled_pairs}
use Rattle.scan_laws.specs.LevelSteps.{IsLevelStep, IsLevel, IsFilteredStep, level_of}
use Rattle.scan_laws.specs.NextGenerators.{IsAdded}
use Rattle.scan_laws.specs.Steps.{IsScanStep}
use Rattle.scan_laws.proofs.AddedCells.{to}
use Rattle.scan_laws.proofs.AddedEdges.{alike-adding}
use Rattle.scan_laws.proofs.Kept.{alike-renumbering, coefficients-below}
use Rattle.scan_laws.proofs.LeftGenerators.{coefficients-cancelled, degrees-cancelled, listed-cancelled, pivots-cancelled}
use Rattle.scan_laws.proofs.Levels.{each-level, each-rises, level-complex, shortest-level}
use Rattle.scan_laws.proofs.ScansOf.{scan-adding, scan-eliminating, scan-renumbering}

-- what a step makes of the complex: pivots of some kind are eliminated, and what is left gets other names
pub record IsMade (Q : Layer × Layer → Type 0) (p hd hh : ℕ) (code : Code) (plus minus : ℕ) (scan next : Scan) : Type 0 where
  pub of : IsScanOf code next
  pub pairs : List (Layer × Layer)
  pub rest : List Layer
  pub listed : AreListed (λ (x : Layer). x) (complex_of p hd hh code plus minus scan).list (all_of pairs rest)
  pub are : ArePivots (complex_of p hd hh code plus minus scan).coefficient pairs
  pub each : (pair : Layer × Layer) → Contains pairs pair → Q pair
  pub name : Layer → Layer
  pub alike : AreAlike p name (λ (x : Layer). 1) (cells_left p (complex_of p hd hh code plus minus scan) pairs rest)
      (complex_of p hd hh code plus minus next)

-- what is kept by what a step makes
module _ (Q : Layer × Layer → Type 0) (p hd hh : ℕ) (code : Code) (plus minus : ℕ) (scan next : Scan) (field : HasInverses p)
    (made : IsMade Q p hd hh code plus minus scan next) where
  abbrev before : Cells Layer
  before = complex_of p hd hh code plus minus scan

  abbrev behind : Cells Layer
  behind = complex_of p hd hh code plus minus next

  abbrev left : Cells Layer
  left = cells_left p before made.pairs made.rest

  abbrev one : Layer → ℕ
  one x = 1

  small : (x y : Layer) → left.coefficient x y < p
  small x y =
      mod_below (before.coefficient x y + (p - sum_by (way_back p before.coefficient x y) made.pairs % p)) p
      (omega (arith, field.above_one))

  below : (x y : Layer) → behind.coefficient x y < p
  below = coefficients-below p hd hh code plus minus next field.above_one

  pub complex-made : AreComplex p (complex_of p hd hh code plus minus scan) → AreComplex p (complex_of p hd hh code plus minus next)
  complex-made complex =
      complex-alike p made.name one left behind made.alike below
      (complex-left_any p before made.pairs made.rest field complex made.listed made.are)

  module _ (filtered : AreFiltered p (complex_of p hd hh code plus minus scan)) where
    pub filtered-made : ((pair : Layer × Layer) → Contains made.pairs pair → IsShortest (complex_of p hd hh code plus minus scan) pair)
        → AreFiltered p (complex_of p hd hh code plus minus next)
    filtered-made shortest =
        filtered-alike p made.name one left behind below made.alike
        (filtered-left p before made.pairs made.rest made.listed field filtered made.are shortest)

    pub survivors-made : ((pair : Layer × Layer) → Contains made.pairs pair → IsShortest (complex_of p hd hh code plus minus scan) pair)
        → (i t : ℤ) → survivors p (complex_of p hd hh code plus minus next) i t ≡ survivors p (complex_of p hd hh code plus minus scan) i t
    survivors-made shortest i t =
        survivors-alike p made.name one left behind made.alike field small below i t
        ∙ survivors-left_any p before made.pairs made.rest made.listed field filtered made.are shortest i t

    pub dimension-made : ((pair : Layer × Layer) → Contains made.pairs pair
        → (complex_of p hd hh code plus minus scan).quantum pair.1 ≡ (complex_of p hd hh code plus minus scan).quantum pair.0)
        → (i j : ℤ)
        → dimension_at p (complex_of p hd hh code plus minus next) i j ≡ dimension_at p (complex_of p hd hh code plus minus scan) i j
    dimension-made level i j =
        dimension-alike p made.name one left behind made.alike field small below i j
        ∙ dimension-left_level p before filtered made.pairs made.rest made.listed level field made.are i j

-- the elimination of an entry of the least gap leaves no smaller one
pub gap-kept : (p hd hh : ℕ) (code : Code) (plus minus : ℕ) (scan next : Scan) (out : IsEliminated p hd hh code plus minus scan next)
    (gap : ℤ) → HaveGap (complex_of p hd hh code plus minus scan) gap
    → level_of (scan.object out.less.head) -ℤ level_of (scan.object out.less.tail) ≡ gap
    → HaveGap (complex_of p hd hh code plus minus next) gap
gap-kept p hd hh code plus minus scan next out gap least is x y has_x has_y some =
    let before = complex_of p hd hh code plus minus scan in
    let behind = complex_of p hd hh code plus minus next in
    let pairs = cancelled_pairs code scan out.less.tail out.less.head in
    let rises = gap-left p before pairs behind.list (listed-cancelled p hd hh code plus minus scan next out) gap least
    (λ pair has. each-rises p hd hh code plus minus scan next out pair has ∙ is) x y has_x has_y
    (λ none. some (coefficients-cancelled p hd hh code plus minus scan next out x y has_x has_y ∙ none)) in
    omega (
      arith,
      ints,
      rises,
      (degrees-cancelled p hd hh code plus minus scan next out x has_x).1,
      (degrees-cancelled p hd hh code plus minus scan next out y has_y).1,
    )

-- what each scan on the way has, beside the cells that it comes from
pub record Stays {A : Type 0} (p hd hh : ℕ) (code : Code) (plus minus : ℕ) (cells : Cells A) (next : Scan) : Type 0 where
  pub of : IsScanOf code next
  pub filtered : AreFiltered p (complex_of p hd hh code plus minus next)
  pub count : (i t : ℤ) → survivors p (complex_of p hd hh code plus minus next) i t ≡ survivors p cells i t

-- and where it is a complex
pub record Keeps {A : Type 0} (p hd hh : ℕ) (code : Code) (plus minus : ℕ) (cells : Cells A) (next : Scan) : Type 0 where
  pub of : IsScanOf code next
  pub complex : AreComplex p (complex_of p hd hh code plus minus next)
  pub dimension : (i j : ℤ) → dimension_at p (complex_of p hd hh code plus minus next) i j ≡ dimension_at p cells i j

-- the steps
module _ (p hd hh : ℕ) (code : Code) (plus minus : ℕ) (field : HasInverses p) (cancels : Same p (hd + hh) 0) (is : IsTrue (accepted code))
    (scan next : Scan) (of : IsScanOf code scan) where
  abbrev cells : Cells Layer
  cells = complex_of p hd hh code plus minus scan

  abbrev out_of : IsEliminating p hd hh code scan next → IsEliminated p hd hh code plus minus scan next
  out_of less = record { field = field; cancels = cancels; accepted_is = is; of = of; less = less }

  module _ (Q : Layer × Layer → Type 0) where
    made-named : IsScanOf code next
        → (name : Layer → Layer) × AreAlike p name (λ (x : Layer). 1) cells (complex_of p hd hh code plus minus next)
        → IsMade Q p hd hh code plus minus scan next
    made-named of_next names =
        record {
          of = of_next;
          pairs = [];
          rest = cells.list;
          listed = listed-same cells.list;
          are = tt;
          each = λ pair has. absurd (omega (arith, has.1));
          name = names.0;
          alike = record {
            listed = names.1.listed;
            squares = names.1.squares;
            homological = names.1.homological;
            quantum = names.1.quantum;
            coefficient = λ x y has_x has_y. nothing_taken (cells.coefficient x y) ∙ names.1.coefficient x y has_x has_y;
          };
        }
      where
        nothing_taken : (n : ℕ) → Same p (minus_mod p n 0) n
        nothing_taken n =
            same-equal p (minus_mod p n 0) (0 + minus_mod p n 0) (omega arith) ∙ minus_mod-added p n 0 (omega (arith, field.above_one))

    made-eliminating : (less : IsEliminating p hd hh code scan next)
        → ((pair : Layer × Layer) → Contains (cancelled_pairs code scan less.tail less.head) pair → Q pair)
        → IsMade Q p hd hh code plus minus scan next
    made-eliminating less each =
        let behind = complex_of p hd hh code plus minus next in
        let pairs = cancelled_pairs code scan less.tail less.head in
        record {
          of = scan-eliminating p hd hh code scan next of less;
          pairs = pairs;
          rest = behind.list;
          listed = listed-cancelled p hd hh code plus minus scan next (out_of less);
          are = pivots-cancelled p hd hh code plus minus scan next (out_of less);
          each = each;
          name = λ x. x;
          alike = record {
            listed = listed-same behind.list;
            squares = λ x has. refl;
            homological = λ x has. (degrees-cancelled p hd hh code plus minus scan next (out_of less) x has).0;
            quantum = λ x has. (degrees-cancelled p hd hh code plus minus scan next (out_of less) x has).1;
            coefficient = λ x y has_x has_y.
                same-equal p (eliminated p cells.coefficient pairs x y) (1 * (1 * behind.coefficient x y))
                (sym (coefficients-cancelled p hd hh code plus minus scan next (out_of less) x y has_x has_y)
                ∙ once (behind.coefficient x y));
          };
        }
      where
        once : (n : ℕ) → n ≡ 1 * (1 * n)
        once n = omega arith

    made-level : ((even : IsLevel p hd hh code scan next) (pair : Layer × Layer)
        → Contains (cancelled_pairs code scan even.less.tail even.less.head) pair → Q pair)
        → IsLevelStep p hd hh code scan next → IsMade Q p hd hh code plus minus scan next
    made-level each step = elim step [
      | IsLevelStep.added more ↦
          let added : IsAdded p hd hh code scan next = record { cancels = cancels; accepted_is = is; of = of; more = more } in
          made-named (scan-adding p hd hh code scan next of more)
          (to p hd hh code plus minus scan next added, alike-adding p hd hh code plus minus scan next added)
      | IsLevelStep.level even ↦ made-eliminating even.less (each even)
      | IsLevelStep.renumbered other ↦
          made-named (scan-renumbering p hd hh code scan next of other)
          (alike-renumbering p hd hh code plus minus field cancels is scan next of other)
    ]

  -- in a filtered complex
  module _ (filtered : AreFiltered p (complex_of p hd hh code plus minus scan)) where
    made-filtered : IsFilteredStep p hd hh code plus minus scan next → IsMade (IsShortest cells) p hd hh code plus minus scan next
    made-filtered step = elim step [
      | IsFilteredStep.level_step same ↦
          made-level (IsShortest cells)
          (λ even. shortest-level p hd hh code plus minus scan next (out_of even.less) filtered even.level) same
      | IsFilteredStep.short least ↦ made-eliminating (IsShortest cells) least.less least.shortest
    ]

    pub stays-step : IsFilteredStep p hd hh code plus minus scan next
        → Stays p hd hh code plus minus (complex_of p hd hh code plus minus scan) next
    stays-step step =
        let made = made-filtered step in
        record {
          of = made.of;
          filtered = filtered-made (IsShortest cells) p hd hh code plus minus scan next field made filtered made.each;
          count = survivors-made (IsShortest cells) p hd hh code plus minus scan next field made filtered made.each;
        }

    pub dimension-step : IsLevelStep p hd hh code scan next → (i j : ℤ)
        → dimension_at p (complex_of p hd hh code plus minus next) i j ≡ dimension_at p (complex_of p hd hh code plus minus scan) i j
    dimension-step step =
        let IsAlong : Layer × Layer → Type 0 = λ pair. cells.quantum pair.1 ≡ cells.quantum pair.0 in
        let made = made-level IsAlong (λ even. each-level p hd hh code plus minus scan next (out_of even.less) even.level) step in
        dimension-made IsAlong p hd hh code plus minus scan next field made filtered made.each

  -- in a complex each step is between objects of one level
  module _ (complex : AreComplex p (complex_of p hd hh code plus minus scan)) where
    pub level-step : IsScanStep p hd hh code scan next → IsLevelStep p hd hh code scan next
    level-step step = elim step [
      | IsScanStep.added more ↦ IsLevelStep.added more
      | IsScanStep.eliminated less ↦
          IsLevelStep.level (record { less = less; level = level-complex p hd hh code plus minus scan next (out_of less) complex })
      | IsScanStep.renumbered other ↦ IsLevelStep.renumbered other
    ]

    pub keeps-step : IsScanStep p hd hh code scan next → Keeps p hd hh code plus minus (complex_of p hd hh code plus minus scan) next
    keeps-step step =
        let any : Layer × Layer → Type 0 = λ pair. Unit {0} in
        let made = made-level any (λ even pair has. tt) (level-step step) in
        record {
          of = made.of;
          complex = complex-made any p hd hh code plus minus scan next field made complex;
          dimension = dimension-step (filtered-level p cells complex) (level-step step);
        }
