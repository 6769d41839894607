-- What the entries of a column denote: the coefficients of the differential. Along each edge out of a generator's state there is
-- an entry for each label behind it, at the place of the state's first generator plus the rank of the label. The generator of
-- such a label has the next degrees, as the coefficient to it is the sign of the edge and not 0; so it stands at this place, and
-- its entry is right. The entries along an edge ascend and stay among the places of the state behind it, and a later crossing
-- leads to a greater state: so all entries ascend. A coefficient other than 0 goes along some edge to a label behind it, so it
-- has an entry. Together: the entries are the column.
use Rattle.std.proofs.lemmas.Bool.Decides.{nat_tests}
use Rattle.std.proofs.Common.{◌≡◌, ◌≢◌, ℕ, zero, suc, ◌+◌, ◌^◌, ◌<◌, ◌≤◌, ◌∙◌, ℤ, pos, ◌+ℤ◌, List, ◌++◌, length, map, refl, sym, ap, ap₂, subst, arith, Bool, true, false, cond, Option, None, Some, IsTrue}
use Rattle.std.specs.Prelude.{nat_eq, slice_index, slice_index_or}
use Rattle.std.specs.List.{All, Contains, filter, flat_map, list_any, range_with_len}
use Rattle.std.specs.Ordering.{int_eq}
use Rattle.std.proofs.lemmas.Bool.{and_parts}
use Rattle.std.proofs.lemmas.Bool.Decides.{Decides-int_eq}
use Rattle.std.proofs.lemmas.List.Elements.{All-contains, All-map, All-nil, All-weaker}
use Rattle.std.proofs.lemmas.List.FromFn.{get_or-map-range_with_len}
use Rattle.std.proofs.lemmas.Nat.{pow_pos}
use Rattle.kh_types.specs.Acceptance.{accepted}
use Rattle.kh_types.specs.Bits.{bit}
use Rattle.kh_types.specs.Circles.{circle_count}
use Rattle.kh_types.specs.Code.{Code, place_of}
use Rattle.kh_types.specs.Differential.{coefficient, edge_sign}
use Rattle.kh_types.specs.Generators.{Generator, generator_of, generators_at, homological_degree, quantum_degree, states}
use Rattle.kh_types.proofs.Lists.{Contains-map}
use Rattle.circle_smoothing.specs.Edges.{IsEdge}
use Rattle.kh_types.specs.Edges.{state_behind}
use Rattle.circle_smoothing.specs.declared.change.Edge.{Edge}
use Rattle.kh_types.proofs.EdgeBits.{set-within}
use Rattle.sparse_block.specs.Entries.{Entry}
use Rattle.sparse_block.proofs.AscendingLemmas.{Ascend, ascend-earlier, entries-from_ascend}
use Rattle.cube_signs.specs.Columns.{head_entry, edge_sign_at, IsColumn}
use Rattle.cube_signs.proofs.EdgeEntries.{column_to, edge_entries, step_entries}
use Rattle.cube_signs.specs.Heads.{labels_behind}
use Rattle.cube_signs.specs.Steps.{HasSteps, IsStep}
use Rattle.cube_signs.specs.Tables.{base_of, own_base, own_degree}
use Rattle.cube_signs.proofs.ColumnLemmas.{All-elements, All-flat_map-range, Contains-images, ascend-append, ascend-map, value_at-is}
use Rattle.square_laws.proofs.Degrees.{coefficient-next}
use Rattle.cube_signs.proofs.EdgeHeads.{coefficient-along, coefficient-elsewhere, labels_behind-ascend, labels_behind-below, list_any-decides}
use Rattle.cube_signs.proofs.GeneratorPlaces.{base-all, base-le, generator-at, is_label, passing-lt, place_from, HasPlace-within, IsPlaced-label}
use Rattle.cube_signs.proofs.SignLemmas.{sign-below, sign-positive}
use Rattle.cube_signs.proofs.StepLemmas.{IsCrossing-place, bit-place, state_behind-place}

-- a generator of the degrees i and j with the edges out of its state, the bases of the next degree, and ranks of labels
pub record AreAround (p : ℕ) (code : Code) (i j : ℤ) (tail : Generator) (steps : List (Option Edge)) (bases ranks : List ℕ) : Type 0 where
  pub prime : 1 < p
  pub is_code : IsTrue (accepted code)
  pub tail_below : tail.state < 2 ^ length code.crossings
  pub label_below : tail.label < 2 ^ circle_count code tail.state
  pub passes : is_label code i j tail.state tail.label ≡ true
  pub of_steps : HasSteps code tail.state (length code.crossings) steps
  pub of_bases : bases ≡ map (own_base code j) (states code)
  pub of_ranks : (state label : ℕ) → state < 2 ^ length code.crossings → label < 2 ^ circle_count code state
      → is_label code (i +ℤ pos 1) j state label ≡ true
      → slice_index ranks label ≡ length (filter (is_label code (i +ℤ pos 1) j state) (range_with_len 0 label))

-- a generator behind an edge: it has the next degrees, it stands at its place, and the coefficient to it is the sign
record IsHead (p : ℕ) (code : Code) (i j : ℤ) (tail : Generator) (bases ranks : List ℕ) (place label : ℕ) : Type 0 where
  behind : tail.state + 2 ^ place < 2 ^ length code.crossings
  small : label < 2 ^ circle_count code (tail.state + 2 ^ place)
  passes : is_label code (i +ℤ pos 1) j (tail.state + 2 ^ place) label ≡ true
  is : slice_index bases (tail.state + 2 ^ place) + slice_index ranks label
      ≡ place_from code (i +ℤ pos 1) j (tail.state + 2 ^ place) label
  coefficient : coefficient p code tail (generator_of (tail.state + 2 ^ place) label) ≡ edge_sign_at p tail.state place

sign-crossing : (p state place : ℕ) → edge_sign p state (place + 1) ≡ edge_sign_at p state place
sign-crossing p state place = grind (arith, nat_tests)

-- the degrees of what a coefficient leads to
next-degrees : (p : ℕ) (code : Code) (i j : ℤ) (tail head : Generator) → IsTrue (accepted code)
    → is_label code i j tail.state tail.label ≡ true → coefficient p code tail head ≢ 0
    → is_label code (i +ℤ pos 1) j head.state head.label ≡ true
next-degrees p code i j tail head is passes some = grind (arith, nat_tests, coefficient-next, and_parts, Decides-int_eq)

-- the coefficient along the edge at a place
along-place : (p : ℕ) (code : Code) (tail : Generator) (place label : ℕ) (change : Edge) → IsTrue (accepted code)
    → place < length code.crossings → bit tail.state place ≡ 0 → IsEdge code tail.state (place + 1) change
    → tail.label < 2 ^ circle_count code tail.state → label < 2 ^ circle_count code (tail.state + 2 ^ place)
    → coefficient p code tail (generator_of (tail.state + 2 ^ place) label)
    ≡ cond (list_any (nat_eq label) (labels_behind change tail.label)) (edge_sign_at p tail.state place) 0
along-place p code tail place label change is below zero_bit does tail_small small =
    let e = state_behind-place tail.state place in
    let there = subst (λ (s : ℕ). label < 2 ^ circle_count code s) (sym e) small in
    ap (λ s. coefficient p code tail (generator_of s label)) (sym e)
    ∙ coefficient-along p code tail.state (place + 1) change tail.label label is (IsCrossing-place code.crossings place below)
    (bit-place tail.state place zero_bit) does tail_small there
    ∙ ap (λ s. cond (list_any (nat_eq label) (labels_behind change tail.label)) s 0) (sign-crossing p tail.state place)

labels-small : (code : Code) (tail : Generator) (place label : ℕ) (change : Edge) → IsTrue (accepted code)
    → place < length code.crossings → bit tail.state place ≡ 0 → IsEdge code tail.state (place + 1) change
    → tail.label < 2 ^ circle_count code tail.state → Contains (labels_behind change tail.label) label
    → label < 2 ^ circle_count code (tail.state + 2 ^ place)
labels-small code tail place label change is below zero_bit does tail_small has =
    subst (λ (s : ℕ). label < 2 ^ circle_count code s) (state_behind-place tail.state place)
    (All-contains (λ (b : ℕ). b < 2 ^ circle_count code (state_behind tail.state (place + 1))) (labels_behind change tail.label) label
    (labels_behind-below code tail.state (place + 1) change tail.label is (IsCrossing-place code.crossings place below)
    (bit-place tail.state place zero_bit) does tail_small)
    has)

heads-at : (p : ℕ) (code : Code) (i j : ℤ) (tail : Generator) (steps : List (Option Edge)) (bases ranks : List ℕ)
    → AreAround p code i j tail steps bases ranks → (place label : ℕ) (change : Edge) → place < length code.crossings
    → bit tail.state place ≡ 0 → IsEdge code tail.state (place + 1) change → Contains (labels_behind change tail.label) label
    → IsHead p code i j tail bases ranks place label
heads-at p code i j tail steps bases ranks around place label change below zero_bit does has =
    let n = length code.crossings in
    let behind = tail.state + 2 ^ place in
    let behind_below = set-within tail.state place n below around.tail_below zero_bit in
    let small = labels-small code tail place label change around.is_code below zero_bit does around.label_below has in
    let found = (list_any-decides (labels_behind change tail.label) label).1 has in
    let is_sign : coefficient p code tail (generator_of behind label) ≡ edge_sign_at p tail.state place =
    along-place p code tail place label change around.is_code below zero_bit does around.label_below small
    ∙ ap (λ b. cond b (edge_sign_at p tail.state place) 0) found in
    let positive = sign-positive p tail.state place around.prime in
    let passes = next-degrees p code i j tail (generator_of behind label) around.is_code around.passes (omega arith) in
    let first = int_eq (homological_degree code (generator_of behind label)) (i +ℤ pos 1) in
    let both = and_parts first (int_eq (quantum_degree code (generator_of behind label)) j) passes in
    let is_own : own_degree code behind ≡ i +ℤ pos 1 = (Decides-int_eq (own_degree code behind) (i +ℤ pos 1)).0 both.0 in
    record {
      behind = behind_below;
      small = small;
      passes = passes;
      is = ap₂ (λ x y. x + y)
          (ap (λ xs. slice_index xs behind) around.of_bases
          ∙ get_or-map-range_with_len (own_base code j) 0 (2 ^ n) behind behind 0 behind_below (omega arith)
          ∙ ap (λ (d : ℤ). base_of code d j behind) is_own)
          (around.of_ranks behind label behind_below small passes);
      coefficient = is_sign;
    }

-- the entries along an edge have the coefficients to the generators at their places
abbrev IsRight : ℕ → Code → ℤ → ℤ → Generator → Entry → Type 0
IsRight p code i j tail e =
    e.value ≡ coefficient p code tail (slice_index_or (generators_at code (i +ℤ pos 1) j) e.place (generator_of 0 0))

step-right : (p : ℕ) (code : Code) (i j : ℤ) (tail : Generator) (steps : List (Option Edge)) (bases ranks : List ℕ)
    → AreAround p code i j tail steps bases ranks → (place : ℕ) → place < length code.crossings → (step : Option Edge)
    → IsStep code tail.state place step
    → All (IsRight p code i j tail) (step_entries (edge_sign_at p tail.state place) bases ranks tail place step)
step-right p code i j tail steps bases ranks around place below None is = All-nil (IsRight p code i j tail)
step-right p code i j tail steps bases ranks around place below (Some change) is =
    let behind = tail.state + 2 ^ place in
    let entry = head_entry (slice_index bases behind) ranks (edge_sign_at p tail.state place) in
    let labels = labels_behind change tail.label in
    All-map (IsRight p code i j tail) entry labels
    (All-elements (λ label. IsRight p code i j tail (entry label)) labels
    (λ label has.
    let head = heads-at p code i j tail steps bases ranks around place label change below is.0 is.1 has in
    let d = generator_of 0 0 in
    let placed = (IsPlaced-label code (i +ℤ pos 1) j behind label head.behind head.small head.passes).is d in
    sym head.coefficient
    ∙ ap (coefficient p code tail) (sym placed)
    ∙ ap (λ k. coefficient p code tail (slice_index_or (generators_at code (i +ℤ pos 1) j) k d)) (sym head.is)))

-- they ascend, from the first place of the state behind the edge to the first of the next state
step-ascend : (p : ℕ) (code : Code) (i j : ℤ) (tail : Generator) (steps : List (Option Edge)) (bases ranks : List ℕ)
    → AreAround p code i j tail steps bases ranks → (place : ℕ) → place < length code.crossings → (step : Option Edge)
    → IsStep code tail.state place step
    → Ascend p (base_of code (i +ℤ pos 1) j (tail.state + 2 ^ place)) (base_of code (i +ℤ pos 1) j (tail.state + 2 ^ place + 1))
    (step_entries (edge_sign_at p tail.state place) bases ranks tail place step)
step-ascend p code i j tail steps bases ranks around place below None is = tt
step-ascend p code i j tail steps bases ranks around place below (Some change) is =
    let next = i +ℤ pos 1 in
    let behind = tail.state + 2 ^ place in
    let sign = edge_sign_at p tail.state place in
    let entry = head_entry (slice_index bases behind) ranks sign in
    let labels = labels_behind change tail.label in
    let at = λ (label : ℕ) (has : Contains labels label).
    heads-at p code i j tail steps bases ranks around place label change below is.0 is.1 has in
    ascend-map p (base_of code next j (behind + 1)) (base_of code next j behind) entry labels
    (labels_behind-ascend code tail.state (place + 1) change tail.label is.1)
    (λ label has. (
      let head = at label has in
          let within = (IsPlaced-label code next j behind label head.behind head.small head.passes).within in
          omega (arith, head.is, within),
      sign-positive p tail.state place around.prime,
      sign-below p tail.state place around.prime,
    ))
    (λ x y has_x has_y less.
    let first = at x has_x in
    let second = at y has_y in
    omega (arith, first.is, second.is, passing-lt (is_label code next j behind) x y less first.passes))
    (λ label has. let head = at label has in omega (arith, head.is))

-- the entries along an edge, where the edge leads to a generator
step-has : (p : ℕ) (code : Code) (i j : ℤ) (tail : Generator) (steps : List (Option Edge)) (bases ranks : List ℕ)
    → AreAround p code i j tail steps bases ranks → (place label : ℕ) → place < length code.crossings → (step : Option Edge)
    → IsStep code tail.state place step → bit tail.state place ≡ 0 → label < 2 ^ circle_count code (tail.state + 2 ^ place)
    → coefficient p code tail (generator_of (tail.state + 2 ^ place) label) ≢ 0
    → Contains (map (λ (e : Entry). e.place) (step_entries (edge_sign_at p tail.state place) bases ranks tail place step))
    (place_from code (i +ℤ pos 1) j (tail.state + 2 ^ place) label)
step-has p code i j tail steps bases ranks around place label below None is zero_bit small some = absurd (omega (arith, is, zero_bit))
step-has p code i j tail steps bases ranks around place label below (Some change) is zero_bit small some =
    let behind = tail.state + 2 ^ place in
    let sign = edge_sign_at p tail.state place in
    let entry = head_entry (slice_index bases behind) ranks sign in
    let labels = labels_behind change tail.label in
    let is_sign = along-place p code tail place label change around.is_code below zero_bit is.1 around.label_below small in
    let found = found_where (list_any (nat_eq label) labels) sign (λ none. some (is_sign ∙ none)) in
    let has = (list_any-decides labels label).0 found in
    let head = heads-at p code i j tail steps bases ranks around place label change below zero_bit is.1 has in
    subst (Contains (map (λ (e : Entry). e.place) (map entry labels))) head.is
    (Contains-map (λ (e : Entry). e.place) (map entry labels) (entry label) (Contains-map entry labels label has))
  where
    found_where : (b : Bool) (sign : ℕ) → cond b sign 0 ≢ 0 → b ≡ true
    found_where true sign some = refl
    found_where false sign some = absurd (some refl)

-- all entries of the column ascend
column-ascend : (p : ℕ) (code : Code) (i j : ℤ) (tail : Generator) (steps : List (Option Edge)) (bases ranks : List ℕ)
    → AreAround p code i j tail steps bases ranks → (count place : ℕ) → place + count ≡ length code.crossings
    → Ascend p (base_of code (i +ℤ pos 1) j (tail.state + 2 ^ place)) (length (generators_at code (i +ℤ pos 1) j))
    (flat_map (edge_entries p steps bases ranks tail) (range_with_len place count))
unfolding edge_entries
column-ascend p code i j tail steps bases ranks around zero place all = tt
column-ascend p code i j tail steps bases ranks around (suc count) place all =
    let next = i +ℤ pos 1 in
    let step = slice_index_or steps place None in
    let rest = flat_map (edge_entries p steps bases ranks tail) (range_with_len (place + 1) count) in
    let later = column-ascend p code i j tail steps bases ranks around count (place + 1) (omega (arith, all)) in
    joined step (around.of_steps.each place (omega (arith, all))) rest later
  where
    power : (place : ℕ) → 2 ^ place + 1 ≤ 2 ^ (place + 1)
    power place =
        let e : place + 1 ≡ suc place = omega arith in
        omega (arith, pow_pos place, ap (λ k. 2 ^ k) e)

    joined : (step : Option Edge) → IsStep code tail.state place step → (rest : List Entry)
        → Ascend p (base_of code (i +ℤ pos 1) j (tail.state + 2 ^ (place + 1))) (length (generators_at code (i +ℤ pos 1) j)) rest
        → Ascend p (base_of code (i +ℤ pos 1) j (tail.state + 2 ^ place)) (length (generators_at code (i +ℤ pos 1) j))
        (step_entries (edge_sign_at p tail.state place) bases ranks tail place step ++ rest)
    joined None is rest later =
        ascend-earlier p (base_of code (i +ℤ pos 1) j (tail.state + 2 ^ place))
        (base_of code (i +ℤ pos 1) j (tail.state + 2 ^ (place + 1))) (length (generators_at code (i +ℤ pos 1) j)) rest
        (base-le code (i +ℤ pos 1) j (tail.state + 2 ^ place) (tail.state + 2 ^ (place + 1)) (omega (arith, power place))) later
    joined (Some change) is rest later =
        let next = i +ℤ pos 1 in
        let behind = tail.state + 2 ^ place in
        let size = length (generators_at code next j) in
        let below = set-within tail.state place (length code.crossings) (omega (arith, all)) around.tail_below is.0 in
        ascend-append p (base_of code next j behind) (base_of code next j (behind + 1)) size
        (step_entries (edge_sign_at p tail.state place) bases ranks tail place (Some change)) rest
        (step-ascend p code i j tail steps bases ranks around place (omega (arith, all)) (Some change) is)
        (ascend-earlier p (base_of code next j (behind + 1)) (base_of code next j (tail.state + 2 ^ (place + 1))) size rest
        (base-le code next j (behind + 1) (tail.state + 2 ^ (place + 1)) (omega (arith, power place))) later)
        (base-le code next j behind (behind + 1) (omega arith)) (base-all code next j (behind + 1) (omega (arith, below)))

-- so they are the column
pub IsColumn-entries : (p : ℕ) (code : Code) (i j : ℤ) (tail : Generator) (steps : List (Option Edge)) (bases ranks : List ℕ)
    → AreAround p code i j tail steps bases ranks
    → IsColumn p code i j tail (column_to p steps bases ranks tail (length code.crossings))
unfolding edge_entries
IsColumn-entries p code i j tail steps bases ranks around =
    let n = length code.crossings in
    let next = i +ℤ pos 1 in
    let heads = generators_at code next j in
    let d = generator_of 0 0 in
    let entries = column_to p steps bases ranks tail n in
    let right : All (IsRight p code i j tail) entries =
    All-flat_map-range (IsRight p code i j tail) (edge_entries p steps bases ranks tail) 0 n
    (λ place from below.
    step-right p code i j tail steps bases ranks around place (omega (arith, below)) (slice_index_or steps place None)
    (around.of_steps.each place (omega (arith, below)))) in
    record {
      are = entries-from_ascend p 0 (length heads) entries
          (ascend-earlier p 0 (base_of code next j (tail.state + 2 ^ 0)) (length heads) entries (omega arith)
          (column-ascend p code i j tail steps bases ranks around n 0 (omega arith)));
      values = λ row within.
          let at = HasPlace-within code next j row within in
          let is = generator-at code next j row d at in
          value_at-is entries row (coefficient p code tail (slice_index_or heads row d))
          (All-weaker (IsRight p code i j tail)
          (λ (e : Entry). e.place ≡ row → e.value ≡ coefficient p code tail (slice_index_or heads row d))
          (λ (e : Entry) is_right same. is_right ∙ ap (λ k. coefficient p code tail (slice_index_or heads k d)) same) entries right)
          (λ some.
          let goes : coefficient p code tail (generator_of at.state at.label) ≢ 0 =
          λ none. some (ap (coefficient p code tail) is ∙ none) in
          let step = coefficient-elsewhere p code tail (generator_of at.state at.label) goes in
          let place = place_of step.0 in
          let below : place < n = omega (arith, step.1.positive, step.1.within) in
          let behind : at.state ≡ tail.state + 2 ^ place = step.3 in
          let small : at.label < 2 ^ circle_count code (tail.state + 2 ^ place) =
          subst (λ (s : ℕ). at.label < 2 ^ circle_count code s) behind at.label_below in
          let goes_there : coefficient p code tail (generator_of (tail.state + 2 ^ place) at.label) ≢ 0 =
          λ none. goes (ap (λ s. coefficient p code tail (generator_of s at.label)) behind ∙ none) in
          let there : place_from code next j (tail.state + 2 ^ place) at.label ≡ row =
          ap (λ s. place_from code next j s at.label) (sym behind) ∙ sym at.is in
          subst (Contains (map (λ (e : Entry). e.place) entries)) there
          (Contains-images (λ (e : Entry). e.place) (edge_entries p steps bases ranks tail) n place
          (place_from code next j (tail.state + 2 ^ place) at.label) below
          (step-has p code i j tail steps bases ranks around place at.label below (slice_index_or steps place None)
          (around.of_steps.each place below) step.2 small goes_there)));
    }
