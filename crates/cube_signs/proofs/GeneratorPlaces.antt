-- Where the generators of two degrees stand: those of a state stand together, after those of the states before it. The list of
-- all is that of each state, one after another; so the first place of a state is how many generators the states before it have,
-- which grows with the state and is within the limit. Each place belongs to one state, by induction on the states. Among the
-- numbers that pass a test, one stands at the place that counts the lesser ones, and each place is that of such a number. With
-- the labels of a state for numbers: a generator stands at the first place of its state plus the count of lesser labels, and each
-- place is that of one generator.
use Rattle.std.proofs.lemmas.Bool.Decides.{nat_tests}
use Rattle.std.proofs.Common.{◌≡◌, ℕ, zero, suc, ◌+◌, ◌-◌, ◌^◌, ◌<◌, ◌≤◌, ◌∙◌, inl, inr, ℤ, List, [], ◌∷◌, ◌++◌, length, get_or, map, refl, sym, ap, subst, arith, Bool, true, cond}
use Rattle.std.specs.List.{filter, flat_map, range_with_len}
use Rattle.std.proofs.lemmas.Bool.{cases_lt}
use Rattle.std.proofs.lemmas.List.{get_or-map, get_or_append_left, get_or-append-add, get_or_push, length-append, length-map, length_push}
use Rattle.std.proofs.lemmas.List.Concat.{flat_map-append}
use Rattle.std.proofs.lemmas.List.Elements.{filter-append}
use Rattle.std.proofs.lemmas.List.Sums.{count_by-le-length, length-filter}
use Rattle.kh_types.specs.Circles.{circle_count}
use Rattle.kh_types.specs.Code.{Code}
use Rattle.kh_types.specs.Generators.{Generator, generator_of, generators_at, generators_of, has_degrees, states}
use Rattle.kh_types.proofs.Lists.{filter-map}
use Rattle.kh_types.proofs.Ranges.{filter-range_more, flat_map-range_more, range-append, range_around}
use Rattle.circle_smoothing.specs.GeneratorCounts.{generator_count}
use Rattle.circle_smoothing.specs.declared.limits.TheConstants.{GENERATORS}
use Rattle.circle_smoothing.proofs.GeneratorLemmas.{length-generators}
use Rattle.cube_signs.specs.Tables.{base_of, generators_below, state_generators}

-- what a test passes of lists put together
filter-flat_map : {X Y : Type 0} (p : Y → Bool) (f : X → List Y) (xs : List X)
    → filter p (flat_map f xs) ≡ flat_map (λ x. filter p (f x)) xs
filter-flat_map p f [] = refl
filter-flat_map {X} {Y} p f (x ∷ xs) =
    filter-append p (f x) (flat_map f xs) ∙ ap (λ (ys : List Y). filter p (f x) ++ ys) (filter-flat_map p f xs)

pub generators_at-below : (code : Code) (i j : ℤ) → generators_at code i j ≡ generators_below code i j (2 ^ length code.crossings)
unfolding state_generators
generators_at-below code i j = filter-flat_map (has_degrees code i j) (generators_of code) (states code)

-- how many generators there are in the states below one
pub base-more : (code : Code) (i j : ℤ) (state : ℕ)
    → base_of code i j (state + 1) ≡ base_of code i j state + length (state_generators code i j state)
base-more code i j state =
    ap length (flat_map-range_more (state_generators code i j) 0 state state (omega arith))
    ∙ length-append (generators_below code i j state) (state_generators code i j state)

pub base-le : (code : Code) (i j : ℤ) (state later : ℕ) → state ≤ later → base_of code i j state ≤ base_of code i j later
base-le code i j state later before =
    let e : later ≡ state + (later - state) = omega arith in
    let rest = flat_map (state_generators code i j) (range_with_len (0 + state) (later - state)) in
    omega (
      arith,
      ap (base_of code i j) e,
      ap (λ xs. length (flat_map (state_generators code i j) xs)) (range-append 0 state (later - state)),
      ap length (flat_map-append (state_generators code i j) (range_with_len 0 state) (range_with_len (0 + state) (later - state))),
      length-append (generators_below code i j state) rest,
    )

pub base-all : (code : Code) (i j : ℤ) (state : ℕ) → state ≤ 2 ^ length code.crossings
    → base_of code i j state ≤ length (generators_at code i j)
base-all code i j state within =
    omega (arith, base-le code i j state (2 ^ length code.crossings) within, ap length (generators_at-below code i j))

pub length-generators_at : (code : Code) (i j : ℤ) → generator_count code ≤ GENERATORS → length (generators_at code i j) ≤ GENERATORS
length-generators_at code i j size = grind (arith, nat_tests, length-filter, count_by-le-length, length-generators)

pub base-small : (code : Code) (i j : ℤ) (state : ℕ) → state ≤ 2 ^ length code.crossings → generator_count code ≤ GENERATORS
    → base_of code i j state ≤ GENERATORS
base-small code i j state within size = grind (arith, nat_tests, base-all, length-generators_at)

-- so the generators of a state begin there
pub generator-from_base : (code : Code) (i j : ℤ) (state k : ℕ) (d : Generator) → state < 2 ^ length code.crossings
    → k < length (state_generators code i j state)
    → get_or (generators_at code i j) (base_of code i j state + k) d ≡ get_or (state_generators code i j state) k d
generator-from_base code i j state k d below within =
    let f = state_generators code i j in
    let front = range_with_len 0 state in
    let back = range_with_len (state + 1) (2 ^ length code.crossings - (state + 1)) in
    ap (λ xs. get_or xs (base_of code i j state + k) d)
    (generators_at-below code i j
    ∙ ap (flat_map f) (range_around 0 (2 ^ length code.crossings) state state below (omega arith))
    ∙ flat_map-append f front (state ∷ back))
    ∙ get_or-append-add (flat_map f front) (f state ++ flat_map f back) k d
    ∙ get_or_append_left (f state) (flat_map f back) d k within

-- and each place is one of a state
pub record IsFrom (code : Code) (i j : ℤ) (count place : ℕ) : Type 0 where
  pub state : ℕ
  pub k : ℕ
  pub below : state < count
  pub within : k < length (state_generators code i j state)
  pub is : place ≡ base_of code i j state + k

pub IsFrom-below : (code : Code) (i j : ℤ) (count place : ℕ) → place < base_of code i j count → IsFrom code i j count place
IsFrom-below code i j zero place within = absurd (omega (arith, within))
IsFrom-below code i j (suc count) place within =
    let e : suc count ≡ count + 1 = omega arith in
    let more = ap (base_of code i j) e ∙ base-more code i j count in
    elim (cases_lt place (base_of code i j count)) [
      | inl before ↦
          let from = IsFrom-below code i j count place before in
          record { state = from.state; k = from.k; below = omega (arith, from.below); within = from.within; is = from.is }
      | inr behind ↦ record {
        state = count;
        k = place - base_of code i j count;
        below = omega arith;
        within = omega (arith, within, more, behind);
        is = omega (arith, behind);
      }
    ]

-- the numbers below one that pass a test: where one stands, and which stands at a place

pub place-passing : (p : ℕ → Bool) (n x d : ℕ) → x < n → p x ≡ true
    → get_or (filter p (range_with_len 0 n)) (length (filter p (range_with_len 0 x))) d ≡ x
place-passing p n x d below passes =
    let front = filter p (range_with_len 0 x) in
    let back = filter p (range_with_len (x + 1) (n - (x + 1))) in
    let all : filter p (range_with_len 0 n) ≡ front ++ x ∷ back =
    ap (filter p) (range_around 0 n x x below (omega arith))
    ∙ filter-append p (range_with_len 0 x) (x ∷ range_with_len (x + 1) (n - (x + 1)))
    ∙ ap (λ b. front ++ cond b (x ∷ back) back) passes in
    ap (λ xs. get_or xs (length front) d) all
    ∙ ap (λ k. get_or (front ++ x ∷ back) k d) (let e : length front ≡ length front + 0 = omega arith in e)
    ∙ get_or-append-add front (x ∷ back) 0 d

pub passing-more : (p : ℕ → Bool) (x : ℕ) → p x ≡ true
    → length (filter p (range_with_len 0 (x + 1))) ≡ length (filter p (range_with_len 0 x)) + 1
passing-more p x passes =
    ap length (filter-range_more p 0 x x (omega arith))
    ∙ ap (λ b. length (filter p (range_with_len 0 x) ++ cond b (x ∷ []) [])) passes ∙ length_push (filter p (range_with_len 0 x)) x

pub passing-le : (p : ℕ → Bool) (x n : ℕ) → x ≤ n → length (filter p (range_with_len 0 x)) ≤ length (filter p (range_with_len 0 n))
passing-le p x n before =
    let e : n ≡ x + (n - x) = omega arith in
    omega (
      arith,
      ap (λ m. length (filter p (range_with_len 0 m))) e,
      ap (λ xs. length (filter p xs)) (range-append 0 x (n - x)),
      ap length (filter-append p (range_with_len 0 x) (range_with_len (0 + x) (n - x))),
      length-append (filter p (range_with_len 0 x)) (filter p (range_with_len (0 + x) (n - x))),
    )

pub passing-lt : (p : ℕ → Bool) (x n : ℕ) → x < n → p x ≡ true
    → length (filter p (range_with_len 0 x)) < length (filter p (range_with_len 0 n))
passing-lt p x n before passes = omega (arith, passing-more p x passes, passing-le p (x + 1) n (omega arith))

pub record IsPassing (p : ℕ → Bool) (n k x : ℕ) : Type 0 where
  pub below : x < n
  pub passes : p x ≡ true
  pub place : length (filter p (range_with_len 0 x)) ≡ k

pub passing-at : (p : ℕ → Bool) (n k d : ℕ) → k < length (filter p (range_with_len 0 n))
    → IsPassing p n k (get_or (filter p (range_with_len 0 n)) k d)
passing-at p zero k d within = absurd (omega arith)
passing-at p (suc n) k d within =
    let e : suc n ≡ n + 1 = omega arith in
    let front = filter p (range_with_len 0 n) in
    let all : filter p (range_with_len 0 (suc n)) ≡ front ++ cond (p n) (n ∷ []) [] =
    ap (λ m. filter p (range_with_len 0 m)) e ∙ filter-range_more p 0 n n (omega arith) in
    subst (λ (xs : List ℕ). IsPassing p (suc n) k (get_or xs k d)) (sym all) (elim (cases_lt k (length front)) [
      | inl before ↦
          let at = passing-at p n k d before in
          subst (IsPassing p (suc n) k) (sym (get_or_append_left front (cond (p n) (n ∷ []) []) d k before))
          (record { below = omega (arith, at.below); passes = at.passes; place = at.place })
      | inr behind ↦ last (p n) refl (omega (arith, within, ap length all, length-append front (cond (p n) (n ∷ []) []))) behind
    ])
  where
    last : (b : Bool) → p n ≡ b → k < length (filter p (range_with_len 0 n)) + length (cond (p n) (n ∷ []) [])
        → length (filter p (range_with_len 0 n)) ≤ k
        → IsPassing p (suc n) k (get_or (filter p (range_with_len 0 n) ++ cond (p n) (n ∷ []) []) k d)
    last b passes inside behind = grind (arith, nat_tests, get_or_push)

-- the generators of a state, by their labels
abbrev pub is_label : Code → ℤ → ℤ → ℕ → ℕ → Bool
is_label code i j state label = has_degrees code i j (generator_of state label)

abbrev pub labels_at : Code → ℤ → ℤ → ℕ → List ℕ
labels_at code i j state = filter (is_label code i j state) (range_with_len 0 (2 ^ circle_count code state))

pub state_generators-labels : (code : Code) (i j : ℤ) (state : ℕ)
    → state_generators code i j state ≡ map (generator_of state) (labels_at code i j state)
unfolding state_generators
state_generators-labels code i j state =
    filter-map (has_degrees code i j) (generator_of state) (range_with_len 0 (2 ^ circle_count code state))

-- the place of a generator of these degrees: after those of the states before it, and those with a lesser label
abbrev pub place_from : Code → ℤ → ℤ → ℕ → ℕ → ℕ
place_from code i j state label = base_of code i j state + length (filter (is_label code i j state) (range_with_len 0 label))

pub record IsPlaced (code : Code) (i j : ℤ) (state label : ℕ) : Type 0 where
  pub within : place_from code i j state label < base_of code i j (state + 1)
  pub is : (d : Generator) → get_or (generators_at code i j) (place_from code i j state label) d ≡ generator_of state label

pub IsPlaced-label : (code : Code) (i j : ℤ) (state label : ℕ) → state < 2 ^ length code.crossings → label < 2 ^ circle_count code state
    → is_label code i j state label ≡ true → IsPlaced code i j state label
IsPlaced-label code i j state label state_below label_below passes =
    let p = is_label code i j state in
    let rank = length (filter p (range_with_len 0 label)) in
    let size : length (state_generators code i j state) ≡ length (labels_at code i j state) =
    ap length (state_generators-labels code i j state) ∙ length-map (labels_at code i j state) (generator_of state) in
    let inside = passing-lt p label (2 ^ circle_count code state) label_below passes in
    record {
      within = omega (arith, base-more code i j state, size, inside);
      is = λ d.
          generator-from_base code i j state rank d state_below (omega (arith, size, inside))
          ∙ ap (λ (xs : List Generator). get_or xs rank d) (state_generators-labels code i j state)
          ∙ get_or-map (generator_of state) (labels_at code i j state) rank 0 d inside
          ∙ ap (generator_of state) (place-passing p (2 ^ circle_count code state) label 0 label_below passes);
    }

-- each place is one of such a generator
pub record HasPlace (code : Code) (i j : ℤ) (place : ℕ) : Type 0 where
  pub state : ℕ
  pub label : ℕ
  pub state_below : state < 2 ^ length code.crossings
  pub label_below : label < 2 ^ circle_count code state
  pub passes : is_label code i j state label ≡ true
  pub is : place ≡ place_from code i j state label

pub HasPlace-within : (code : Code) (i j : ℤ) (place : ℕ) → place < length (generators_at code i j) → HasPlace code i j place
HasPlace-within code i j place within =
    let from = IsFrom-below code i j (2 ^ length code.crossings) place (omega (arith, within, ap length (generators_at-below code i j))) in
    let size : length (state_generators code i j from.state) ≡ length (labels_at code i j from.state) =
    ap length (state_generators-labels code i j from.state) ∙ length-map (labels_at code i j from.state) (generator_of from.state) in
    let at = passing-at (is_label code i j from.state) (2 ^ circle_count code from.state) from.k 0 (omega (arith, from.within, size)) in
    record {
      state = from.state;
      label = get_or (labels_at code i j from.state) from.k 0;
      state_below = from.below;
      label_below = at.below;
      passes = at.passes;
      is = omega (arith, from.is, at.place);
    }

-- so the generator at a place is the one that has it
pub generator-at : (code : Code) (i j : ℤ) (place : ℕ) (d : Generator) (has : HasPlace code i j place)
    → get_or (generators_at code i j) place d ≡ generator_of has.state has.label
generator-at code i j place d has = grind (arith, nat_tests, IsPlaced-label)
