-- The shapes of the kinds of states give the same quantum degrees as the shapes of all states.
use Rattle.std.proofs.lemmas.Bool.Decides.{nat_tests}
use Rattle.std.proofs.Common.{◌≡◌, ℕ, ◌+◌, ◌^◌, ◌≤◌, ◌∙◌, ℤ, List, [], ◌∷◌, ◌++◌, map, length, refl, sym, ap, ap₂, arith, Bool, true, cond, IsTrue}
use Rattle.std.specs.Prelude.{nat_eq, not, ◌&&◌, ◌||◌}
use Rattle.std.specs.List.{count_by, filter, list_any, range_with_len}
use Rattle.std.proofs.Math.Path.{fun_ext}
use Rattle.std.proofs.lemmas.Bool.{eq-eqb, eqb-true, and_parts}
use Rattle.std.proofs.lemmas.List.Sums.{sum_by-cons}
use Rattle.kh_types.specs.declared.limits.TheConstants.{CROSSINGS, EXPONENT}
use Rattle.kh_types.specs.Acceptance.{accepted}
use Rattle.kh_types.specs.Accepted.{IsAccepted}
use Rattle.kh_types.specs.Circles.{circle_count}
use Rattle.kh_types.specs.Code.{Code}
use Rattle.kh_types.specs.Directions.{minus_count, plus_count}
use Rattle.kh_types.specs.Generators.{one_count, states}
use Rattle.kh_types.specs.Table.{from_minus}
use Rattle.kh_types.proofs.AcceptedLemmas.{IsAccepted-is}
use Rattle.kh_types.proofs.CircleBound.{circle_count-within}
use Rattle.kh_types.proofs.Ranges.{flat_map-range_more, list_any-below, list_any-found}
use Rattle.circle_smoothing.specs.Kinds.{kind_circles, kind_ones, state_kind}
use Rattle.circle_smoothing.specs.declared.kinds.TheConstants.{KINDS}
use Rattle.circle_smoothing.proofs.GeneratorLemmas.{state_kind-below}
use Rattle.circle_smoothing.proofs.KindLemmas.{kind_circles-kind_of, kind_count-states, kind_ones-kind_of}
use Rattle.cube_signs.specs.Blocks.{block_degrees}
use Rattle.cube_signs.specs.KindShapes.{all_kind_shapes, has_kind, kind_shape, kind_shapes, shapes_of_kind}
use Rattle.cube_signs.specs.Shapes.{degrees_of, has_degree, have_degree, shape_of}
use Rattle.cube_signs.specs.declared.shape.Shape.{Shape}
use Rattle.cube_signs.proofs.ShapeLemmas.{have_degree-states, list_any-flat_map, shape-made}
use Rattle.kh_types.proofs.MappedLists.{list_any-map}
use Rattle.kh_types.proofs.Tests.{agree}

-- a list has elements that pass where their number is not 0
any-one : (b any : Bool) (count : ℕ) → any ≡ not (nat_eq count 0) → (b || any) ≡ not (nat_eq (cond b 1 0 + count) 0)
any-one b any count is = grind (arith, nat_tests)

list_any-count : (p : ℕ → Bool) (xs : List ℕ) → list_any p xs ≡ not (nat_eq (count_by p xs) 0)
list_any-count p [] = refl
list_any-count p (x ∷ xs) =
    any-one (p x) (list_any p xs) (count_by p xs) (list_any-count p xs)
    ∙ ap (λ n. not (nat_eq n 0)) (sym (sum_by-cons (λ y. cond (p y) 1 0) x xs))

list_any-cond : (p : Shape → Bool) (b : Bool) (shape : Shape) → list_any p (cond b (shape ∷ []) []) ≡ (b && p shape)
list_any-cond p b shape = grind (arith, nat_tests)

-- a code has a state of a kind where one of its states is of it
has_kind-states : (code : Code) (kind : ℕ) → IsAccepted code → length code.crossings ≤ CROSSINGS
    → list_any (λ state. nat_eq (state_kind code state) kind) (states code) ≡ has_kind code kind
has_kind-states code kind is few =
    list_any-count (λ state. nat_eq (state_kind code state) kind) (states code)
    ∙ ap (λ n. not (nat_eq n 0)) (kind_count-states code kind is few)

-- the states of a kind have its shape
shape_of-kind : (code : Code) (state kind : ℕ) → IsAccepted code → length code.crossings ≤ CROSSINGS
    → state_kind code state ≡ kind → kind_shape code kind ≡ shape_of code state
shape_of-kind code state kind is few same =
    let within = circle_count-within code state is few in
    shape-made code state (kind_circles kind) (kind_ones kind) (plus_count code.crossings) (minus_count code.crossings)
    (kind_shape code kind).top
    (ap kind_circles (sym same) ∙ kind_circles-kind_of (one_count code state) (circle_count code state) within)
    (ap kind_ones (sym same) ∙ kind_ones-kind_of (one_count code state) (circle_count code state) within) refl refl refl

-- so what some state's shape passes, that of some kind which has states does
pub any-kinds : (test : Shape → Bool) (code : Code) → IsAccepted code → length code.crossings ≤ CROSSINGS
    → list_any test (all_kind_shapes code) ≡ list_any test (map (shape_of code) (states code))
unfolding all_kind_shapes
any-kinds test code is few =
    let of_kind : ℕ → Bool = λ kind. has_kind code kind && test (kind_shape code kind) in
    let of_state : ℕ → Bool = λ state. test (shape_of code state) in
    let count = 2 ^ length code.crossings in
    list_any-flat_map test (shapes_of_kind code) (range_with_len 0 KINDS)
    ∙ ap (λ (p : ℕ → Bool). list_any p (range_with_len 0 KINDS))
    (fun_ext (λ kind. list_any-cond test (has_kind code kind) (kind_shape code kind)))
    ∙ agree (list_any of_kind (range_with_len 0 KINDS)) (list_any of_state (states code))
    (λ passes.
    let found = list_any-found of_kind KINDS passes in
    let kind = found.0 in
    let both = and_parts (has_kind code kind) (test (kind_shape code kind)) found.2 in
    let of = list_any-found (λ state. nat_eq (state_kind code state) kind) count (has_kind-states code kind is few ∙ both.0) in
    list_any-below of_state count of.0 of.1
    (ap test (sym (shape_of-kind code of.0 kind is few (eqb-true (state_kind code of.0) kind of.2))) ∙ both.1))
    (λ passes.
    let found = list_any-found of_state count passes in
    let state = found.0 in
    let kind = state_kind code state in
    let has : has_kind code kind ≡ true =
    sym (has_kind-states code kind is few)
    ∙ list_any-below (λ other. nat_eq (state_kind code other) kind) count state found.1 (eq-eqb kind kind refl) in
    list_any-below of_kind KINDS kind (state_kind-below code state is few)
    (ap₂ (λ a b. a && b) has (ap test (shape_of-kind code state kind is few refl) ∙ found.2)))
    ∙ sym (list_any-map test (shape_of code) (states code))

pub degrees-kinds : (code : Code) (shapes : List Shape) (made : List ℤ) → IsTrue (accepted code)
    → length code.crossings ≤ CROSSINGS → shapes ≡ all_kind_shapes code → made ≡ degrees_of shapes → made ≡ block_degrees code
unfolding degrees_of block_degrees
degrees-kinds code shapes made ok few is is_made =
    is_made ∙ ap (λ (s : List Shape). filter (have_degree s) (from_minus EXPONENT)) is
    ∙ ap (λ (p : ℤ → Bool). filter p (from_minus EXPONENT))
    (fun_ext (λ j. any-kinds (λ shape. has_degree shape j) code ((IsAccepted-is code).0 ok) few ∙ have_degree-states code j))

-- one kind more, and all of them
pub kind_shapes-more : (code : Code) (made next : List Shape) (kind : ℕ) → made ≡ kind_shapes code kind
    → next ≡ made ++ shapes_of_kind code kind → next ≡ kind_shapes code (kind + 1)
kind_shapes-more code made next kind is_made is_next =
    is_next ∙ ap (λ (xs : List Shape). xs ++ shapes_of_kind code kind) is_made
    ∙ sym (flat_map-range_more (shapes_of_kind code) 0 kind kind (omega arith))

pub kind_shapes-all : (code : Code) (made : List Shape) (kind : ℕ) → made ≡ kind_shapes code kind → kind ≡ KINDS
    → made ≡ all_kind_shapes code
unfolding all_kind_shapes
kind_shapes-all code made kind is_made is_all = is_made ∙ ap (kind_shapes code) is_all
