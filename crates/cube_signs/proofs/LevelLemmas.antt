-- The states by the number of their 1-smoothings, and the generators of a degree over its states alone.
use Rattle.std.proofs.lemmas.Bool.Decides.{nat_tests}
use Rattle.std.proofs.Common.{◌≡◌, ◌≢◌, ℕ, ◌+◌, ◌^◌, ◌<◌, ◌≤◌, ◌∙◌, inl, inr, ℤ, pos, ◌-ℤ◌, List, [], ◌∷◌, ◌++◌, length, get_or, set, map, take, refl, sym, ap, subst, arith, Bool, true, false, cond}
use Rattle.std.specs.Prelude.{nat_eq, slice_index, slice_index_or}
use Rattle.std.specs.Global.{Vec}
use Rattle.std.specs.List.{All, filter, flat_map, range_with_len}
use Rattle.std.specs.Ordering.{int_eq}
use Rattle.std.proofs.Math.Path.{fun_ext}
use Rattle.std.proofs.lemmas.Bool.{eq-eqb, eqb-true}
use Rattle.std.proofs.lemmas.Bool.Decides.{Decides-int_eq, eqb_tells}
use Rattle.std.proofs.lemmas.Int.{ints}
use Rattle.std.proofs.lemmas.List.{append-nil, get_or-set_other, get_or-set_same, length-map, length-set, take_all, take_more}
use Rattle.std.proofs.lemmas.List.Concat.{flat_map-append}
use Rattle.std.proofs.lemmas.List.Elements.{All-filter, All-get_or}
use Rattle.std.proofs.lemmas.List.FromFn.{get_or-map-range_with_len, get_or-range_with_len, length-map-range_with_len, length-range_with_len}
use Rattle.kh_types.specs.Code.{Code}
use Rattle.kh_types.specs.Directions.{minus_count}
use Rattle.kh_types.specs.Generators.{Generator, generators_at, one_count, states}
use Rattle.kh_types.specs.declared.limits.TheConstants.{CROSSINGS}
use Rattle.kh_types.proofs.QuantumDegrees.{one_count-le}
use Rattle.kh_types.proofs.Ranges.{filter-range_more}
use Rattle.kh_types.proofs.Tests.{agree}
use Rattle.kh_types.proofs.Integers.{int_eq-other}
use Rattle.sparse_block.specs.Inside.{lists_in}
use Rattle.sparse_block.proofs.ClearingLemmas.{list-same}
use Rattle.sparse_block.proofs.LineLemmas.{list-lists_in}
use Rattle.cube_signs.specs.Shapes.{shape_of}
use Rattle.cube_signs.specs.Tables.{all_levels, levels_to, own_degree, state_generators, states_at, states_with}
use Rattle.cube_signs.specs.declared.shape.Shape.{Shape}
use Rattle.cube_signs.proofs.GeneratorPlaces.{generators_at-below}
use Rattle.cube_signs.proofs.LabelPlaces.{is_label-none, state_generators-none}

pub length-levels_to : (code : Code) (count : ℕ) → length (levels_to code count) ≡ CROSSINGS + 1
length-levels_to code count =
    length-map-range_with_len (λ level. filter (λ state. nat_eq (one_count code state) level) (range_with_len 0 count)) 0 (CROSSINGS + 1)

-- one state more: it is added to its own level
pub levels-more : (code : Code) (shapes : List Shape) (lists next : List (List ℕ)) (state : ℕ) (shape d : Shape)
    → lists ≡ levels_to code state → shapes ≡ map (shape_of code) (states code) → state < 2 ^ length code.crossings
    → length code.crossings ≤ CROSSINGS → shape ≡ get_or shapes state d
    → next ≡ set lists shape.ones (slice_index_or lists shape.ones [] ++ state ∷ []) → next ≡ levels_to code (state + 1)
levels-more code shapes lists next state shape d is_lists are below few is is_next =
    list-same next (levels_to code (state + 1)) []
    (ap length is_next ∙ length-set lists shape.ones (slice_index_or lists shape.ones [] ++ state ∷ []) ∙ ap length is_lists ∙ length-levels_to code state
    ∙ sym (length-levels_to code (state + 1)))
    (λ level within.
    let there : level < CROSSINGS + 1 = omega (arith, within, length-levels_to code (state + 1)) in
    let before : get_or lists level [] ≡ filter (of_level level) (range_with_len 0 state) =
    ap (λ (lists : List (List ℕ)). get_or lists level []) is_lists ∙ at state level there in
    let after : get_or (levels_to code (state + 1)) level []
    ≡ filter (of_level level) (range_with_len 0 state) ++ cond (of_level level state) (state ∷ []) [] =
    at (state + 1) level there ∙ filter-range_more (of_level level) 0 state state (omega arith) in
    elim (eqb_tells (one_count code state) level) [
      | inl same ↦
          let place : shape.ones ≡ level = ones ∙ same.1 in
          ap (λ (lists : List (List ℕ)). get_or lists level []) is_next
          ∙ ap (λ (n : ℕ). get_or (set lists n (slice_index_or lists n [] ++ state ∷ [])) level []) place
          ∙ get_or-set_same lists level (slice_index_or lists level [] ++ state ∷ []) [] (omega (arith, there, ap length is_lists, length-levels_to code state))
          ∙ ap (λ (xs : List ℕ). xs ++ state ∷ []) before
          ∙ sym (after ∙ ap (λ (b : Bool). filter (of_level level) (range_with_len 0 state) ++ cond b (state ∷ []) []) same.0)
      | inr other ↦
          ap (λ (lists : List (List ℕ)). get_or lists level []) is_next
          ∙ get_or-set_other lists shape.ones level (slice_index_or lists shape.ones [] ++ state ∷ []) []
          (λ same. other.1 (sym ones ∙ sym same)) ∙ before
          ∙ sym (after ∙ ap (λ (b : Bool). filter (of_level level) (range_with_len 0 state) ++ cond b (state ∷ []) []) other.0
          ∙ append-nil (filter (of_level level) (range_with_len 0 state)))
    ])
  where
    of_level : ℕ → ℕ → Bool
    of_level level other = nat_eq (one_count code other) level

    at : (count level : ℕ) → level < CROSSINGS + 1
        → get_or (levels_to code count) level [] ≡ filter (λ state. nat_eq (one_count code state) level) (range_with_len 0 count)
    at count level there =
        get_or-map-range_with_len (λ level. filter (λ state. nat_eq (one_count code state) level) (range_with_len 0 count)) 0 (CROSSINGS + 1)
        level level [] there (omega arith)

    ones : shape.ones ≡ one_count code state
    ones =
        ap (λ (shape : Shape). shape.ones) (is ∙ ap (λ (xs : List Shape). get_or xs state d) are
        ∙ get_or-map-range_with_len (shape_of code) 0 (2 ^ length code.crossings) state state d below (omega arith))

-- and all
pub levels-all : (code : Code) (lists : List (List ℕ)) (state : ℕ) → lists ≡ levels_to code state → state ≡ 2 ^ length code.crossings
    → lists ≡ all_levels code
unfolding all_levels
levels-all code lists state is_lists all = is_lists ∙ ap (levels_to code) all

-- a state has fewer 1-smoothings than there are levels
pub shape-level : (code : Code) (shapes : List Shape) (state : ℕ) (shape d : Shape) → shapes ≡ map (shape_of code) (states code)
    → state < 2 ^ length code.crossings → length code.crossings ≤ CROSSINGS → shape ≡ get_or shapes state d
    → shape.ones < CROSSINGS + 1
shape-level code shapes state shape d are below few is =
    let of : shape.ones ≡ one_count code state =
    ap (λ (shape : Shape). shape.ones) (is ∙ ap (λ (xs : List Shape). get_or xs state d) are
    ∙ get_or-map-range_with_len (shape_of code) 0 (2 ^ length code.crossings) state state d below (omega arith)) in
    omega (arith, of, few, one_count-le code state)

pub levels-length : (code : Code) (levels : List (Vec ℕ)) → lists_in levels ≡ all_levels code → length levels ≡ CROSSINGS + 1
unfolding all_levels
levels-length code levels are =
    sym (length-map levels (λ (level : Vec ℕ). level.items)) ∙ ap length are ∙ length-map-range_with_len (states_with code) 0 (CROSSINGS + 1)

-- the states of a homological degree are those of a level, or there are none
pub states_at-level : (code : Code) (levels : List (Vec ℕ)) (one : Vec ℕ) (level : ℕ) (i : ℤ) → lists_in levels ≡ all_levels code
    → level ≤ CROSSINGS → level < length levels → one ≡ get_or levels level one → pos level -ℤ pos (minus_count code.crossings) ≡ i
    → one.items ≡ states_at code i
unfolding all_levels
states_at-level code levels one level i are few within is is_i =
    let there : one.items ≡ states_with code level =
    sym (list-lists_in levels level one within is) ∙ ap (λ (xs : List (List ℕ)). slice_index_or xs level []) are
    ∙ get_or-map-range_with_len (states_with code) 0 (CROSSINGS + 1) level level [] (omega (arith, few)) (omega arith) in
    there ∙ ap (λ (p : ℕ → Bool). filter p (states code)) (fun_ext (λ state.
    agree (nat_eq (one_count code state) level) (int_eq (own_degree code state) i)
    (λ same. same-int (own_degree code state) i (omega (arith, ints, is_i, eqb-true (one_count code state) level same)))
    (λ same. eq-eqb (one_count code state) level (omega (arith, ints, is_i, int-same (own_degree code state) i same)))))
  where
    same-int : (x y : ℤ) → x ≡ y → int_eq x y ≡ true
    same-int x y same = (Decides-int_eq x y).1 same

    int-same : (x y : ℤ) → int_eq x y ≡ true → x ≡ y
    int-same x y same = (Decides-int_eq x y).0 same

pub states_at-none : (code : Code) (i : ℤ) → length code.crossings ≤ CROSSINGS
    → ((level : ℕ) → level ≤ CROSSINGS → pos level -ℤ pos (minus_count code.crossings) ≢ i) → [] ≡ states_at code i
states_at-none code i few none =
    sym (nothing (states code))
  where
    nothing : (xs : List ℕ) → filter (λ state. int_eq (own_degree code state) i) xs ≡ []
    nothing [] = refl
    nothing (x ∷ xs) =
        ap (λ b. cond b (x ∷ filter (λ state. int_eq (own_degree code state) i) xs)
        (filter (λ state. int_eq (own_degree code state) i) xs))
        (int_eq-other (own_degree code x) i (none (one_count code x) (omega (arith, few, one_count-le code x))))
        ∙ nothing xs

-- states are numbers below that of all states
pub states_at-below : (code : Code) (i : ℤ) (listed : List ℕ) (k state : ℕ) → listed ≡ states_at code i → k < length listed
    → state ≡ slice_index listed k → state < 2 ^ length code.crossings
states_at-below code i listed k state are within is =
    let all : All (λ state. state < 2 ^ length code.crossings) (states code) =
    λ n d inside.
    let below : n < 2 ^ length code.crossings = omega (arith, inside, length-range_with_len 0 (2 ^ length code.crossings)) in
    let at : get_or (states code) n d ≡ n = get_or-range_with_len 0 (2 ^ length code.crossings) n d below ∙ omega arith in
    omega (arith, at, below) in
    let each : All (λ state. state < 2 ^ length code.crossings) listed =
    subst (λ (xs : List ℕ). All (λ state. state < 2 ^ length code.crossings) xs) (sym are)
    (All-filter (λ state. int_eq (own_degree code state) i) (λ state. state < 2 ^ length code.crossings) (states code) all) in
    omega (arith, is, All-get_or (λ state. state < 2 ^ length code.crossings) listed k 0 within each)

-- the generators of the first states of a degree, and of all of them
pub names-more_states : (code : Code) (i j : ℤ) (listed : List ℕ) (k state : ℕ) (made next : List Generator)
    → made ≡ flat_map (state_generators code i j) (take k listed) → k < length listed → state ≡ slice_index listed k
    → next ≡ made ++ state_generators code i j state → next ≡ flat_map (state_generators code i j) (take (k + 1) listed)
names-more_states code i j listed k state made next is_made within is is_next =
    let f = state_generators code i j in
    is_next ∙ ap (λ (xs : List Generator). xs ++ f state) is_made
    ∙ ap (λ s. flat_map f (take k listed) ++ f s) is
    ∙ ap (λ (ys : List Generator). flat_map f (take k listed) ++ ys) (sym (append-nil (f (get_or listed k 0))))
    ∙ sym (flat_map-append f (take k listed) (get_or listed k 0 ∷ []))
    ∙ ap (flat_map f) (sym (take_more listed k 0 within))

skipped : (f : ℕ → List Generator) (q : ℕ → Bool) (xs : List ℕ) → ((x : ℕ) → q x ≡ false → f x ≡ [])
    → flat_map f (filter q xs) ≡ flat_map f xs
skipped f q [] none = refl
skipped f q (x ∷ xs) none = step (q x) refl (skipped f q xs none)
  where
    step : (b : Bool) → q x ≡ b → flat_map f (filter q xs) ≡ flat_map f xs
        → flat_map f (cond (q x) (x ∷ filter q xs) (filter q xs)) ≡ f x ++ flat_map f xs
    step b is rest = grind (arith, nat_tests)

pub names-all_states : (code : Code) (i j : ℤ) (listed : List ℕ) (k : ℕ) (made : List Generator)
    → made ≡ flat_map (state_generators code i j) (take k listed) → length listed ≤ k → listed ≡ states_at code i
    → made ≡ generators_at code i j
names-all_states code i j listed k made is_made all are =
    grind (arith, nat_tests, take_all, skipped, state_generators-none, is_label-none, generators_at-below)
