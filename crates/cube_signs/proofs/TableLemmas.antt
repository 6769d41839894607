-- The tables of a cube: how many circles a state has within the limit on generators.
use Rattle.std.proofs.Common.{◌≡◌, ℕ, ◌+◌, ◌^◌, ◌<◌, ◌≤◌, ◌∙◌, inl, inr, List, length, get_or, map, take, ap, sym, subst, arith}
use Rattle.std.specs.Prelude.{max}
use Rattle.std.specs.List.{All}
use Rattle.std.proofs.Math.Pow.{pow_mono}
use Rattle.std.proofs.lemmas.Bool.{cases_lt}
use Rattle.std.proofs.lemmas.List.Elements.{All-more, All-weaker, All-map}
use Rattle.std.proofs.lemmas.List.FromFn.{get_or-map-range_with_len, get_or-range_with_len, length-map-range_with_len, length-range_with_len}
use Rattle.std.proofs.lemmas.List.Sums.{get_or-le-sum_by}
use Rattle.kh_types.specs.Circles.{circle_count}
use Rattle.kh_types.specs.Code.{Code}
use Rattle.kh_types.specs.Generators.{states}
use Rattle.circle_smoothing.specs.GeneratorCounts.{generator_count, label_count}
use Rattle.circle_smoothing.specs.declared.limits.TheConstants.{GENERATORS}
use Rattle.cube_signs.specs.Shapes.{shape_of}
use Rattle.cube_signs.specs.declared.shape.Shape.{Shape}

-- one more state
pub most-more : (shapes : List Shape) (state most next : ℕ) → state < length shapes
    → All (λ shape. shape.circles ≤ most) (take state shapes) → (d : Shape) → next ≡ max (get_or shapes state d).circles most
    → All (λ shape. shape.circles ≤ next) (take (state + 1) shapes)
most-more shapes state most next below are d is =
    let weaker : (shape : Shape) → shape.circles ≤ most → shape.circles ≤ next = λ shape few. omega arith in
    All-more (λ shape. shape.circles ≤ next) shapes state d below
    (All-weaker (λ shape. shape.circles ≤ most) (λ shape. shape.circles ≤ next) weaker (take state shapes) are) (omega arith)

pub ruleset most = (most-more)

-- a state has no more labels than the code has generators
pub label_count-le : (code : Code) (state : ℕ) → state < 2 ^ length code.crossings → label_count code state ≤ generator_count code
label_count-le code state below =
    let inside : state < length (states code) = omega (arith, length-range_with_len 0 (2 ^ length code.crossings)) in
    let at : get_or (states code) state 0 ≡ state = get_or-range_with_len 0 (2 ^ length code.crossings) state 0 below ∙ omega arith in
    omega (arith, ap (label_count code) at, get_or-le-sum_by (label_count code) (states code) state 0 inside)

pub circles-few : (code : Code) (state : ℕ) → state < 2 ^ length code.crossings → generator_count code ≤ GENERATORS
    → circle_count code state ≤ 22
circles-few code state below size = elim (cases_lt 22 (circle_count code state)) [
  | inr few ↦ few
  | inl many ↦
      let power : 2 ^ 23 ≤ 2 ^ circle_count code state = pow_mono many in
      absurd (omega (arith, power, label_count-le code state below, size))
]

pub shapes-few : (code : Code) (shapes : List Shape) → shapes ≡ map (shape_of code) (states code) → generator_count code ≤ GENERATORS
    → All (λ shape. shape.circles ≤ 22) shapes
shapes-few code shapes is size =
    subst (λ (shapes : List Shape). All (λ shape. shape.circles ≤ 22) shapes) (sym is)
    (All-map (λ shape. shape.circles ≤ 22) (shape_of code) (states code)
    (λ k d within.
    let below : k < 2 ^ length code.crossings = omega (arith, within, length-range_with_len 0 (2 ^ length code.crossings)) in
    let at : get_or (states code) k d ≡ k = get_or-range_with_len 0 (2 ^ length code.crossings) k d below ∙ omega arith in
    omega (arith, ap (circle_count code) at, circles-few code k below size)))

-- no state has more circles than the most
pub circles-most : (code : Code) (shapes : List Shape) (most state : ℕ) → shapes ≡ map (shape_of code) (states code)
    → All (λ shape. shape.circles ≤ most) shapes → state < 2 ^ length code.crossings → circle_count code state ≤ most
circles-most code shapes most state is are below =
    let d = shape_of code 0 in
    let at : get_or shapes state d ≡ shape_of code state =
    ap (λ (xs : List Shape). get_or xs state d) is
    ∙ get_or-map-range_with_len (shape_of code) 0 (2 ^ length code.crossings) state state d below (omega arith) in
    let inside : state < length shapes =
    omega (arith, below, ap length is, length-map-range_with_len (shape_of code) 0 (2 ^ length code.crossings)) in
    omega (arith, are state d inside, ap (λ (s : Shape). s.circles) at)

-- the shape of a state in the table
pub length-shapes : (code : Code) (shapes : List Shape) → shapes ≡ map (shape_of code) (states code)
    → length shapes ≡ 2 ^ length code.crossings
length-shapes code shapes is = ap length is ∙ length-map-range_with_len (shape_of code) 0 (2 ^ length code.crossings)

pub shape-at : (code : Code) (shapes : List Shape) (state : ℕ) (one : Shape) → shapes ≡ map (shape_of code) (states code)
    → state < 2 ^ length code.crossings → one ≡ get_or shapes state one → one ≡ shape_of code state
shape-at code shapes state one are below is =
    is ∙ ap (λ (xs : List Shape). get_or xs state one) are
    ∙ get_or-map-range_with_len (shape_of code) 0 (2 ^ length code.crossings) state state one below (omega arith)
