-- The columns of the generators of two degrees.
use Rattle.std.proofs.lemmas.Bool.Decides.{nat_tests}
use Rattle.std.proofs.Common.{◌≡◌, ℕ, ◌+◌, ◌^◌, ◌<◌, ◌≤◌, ◌∙◌, ℤ, pos, ◌+ℤ◌, List, [], ◌∷◌, ◌++◌, length, get_or, map, sym, ap, subst, arith, IsTrue}
use Rattle.std.specs.Global.{Vec}
use Rattle.std.proofs.Math.Pow.{pow_mono}
use Rattle.std.proofs.lemmas.List.{get_or_default, length_push}
use Rattle.std.specs.List.{All}
use Rattle.std.proofs.lemmas.List.Elements.{All-from_get_or}
use Rattle.std.proofs.lemmas.List.FromFn.{get_or-map-range_with_len}
use Rattle.kh_types.specs.declared.limits.TheConstants.{CIRCLES, CROSSINGS}
use Rattle.kh_types.specs.Acceptance.{accepted}
use Rattle.kh_types.specs.Circles.{circle_count}
use Rattle.kh_types.specs.Code.{Code}
use Rattle.kh_types.specs.Generators.{Generator, generator_of, generators_at, states}
use Rattle.circle_smoothing.proofs.KeptNumbers.{count-within}
use Rattle.sparse_block.specs.Entries.{Entry}
use Rattle.sparse_block.specs.Inside.{lists_in}
use Rattle.sparse_block.proofs.LineLemmas.{list-lists_in}
use Rattle.cube_signs.specs.Columns.{column_along, generators_from, AreAllColumns, AreColumns, AreFound, AreOuts, AreWholeColumns, IsColumn, IsTail}
use Rattle.cube_signs.specs.declared.outs.Out.{Out}
use Rattle.cube_signs.proofs.EdgeEntries.{column-along, column_to}
use Rattle.cube_signs.specs.Tables.{own_base, AreRanks}
use Rattle.cube_signs.proofs.ColumnHeads.{AreAround, IsColumn-entries}
use Rattle.cube_signs.proofs.GeneratorPlaces.{generator-at, HasPlace-within}
use Rattle.cube_signs.proofs.StateLists.{images-more}
use Rattle.cube_signs.proofs.StepLemmas.{each-more}

-- (a generator of two degrees is one of their names)
pub are-tails : (code : Code) (i j : ℤ) (names : List Generator) → names ≡ generators_at code i j → All (IsTail code i j) names
are-tails code i j names is_names =
    subst (λ (xs : List Generator). All (IsTail code i j) xs) (sym is_names)
    (All-from_get_or (IsTail code i j) (generators_at code i j) (generator_of 0 0)
    (λ k below.
    let at = HasPlace-within code i j k below in
    subst (IsTail code i j) (sym (generator-at code i j k (generator_of 0 0) at))
    (record { state_below = at.state_below; label_below = at.label_below; passes = at.passes })))

pub IsTail-at : (code : Code) (i j : ℤ) (names : List Generator) (k : ℕ) (tail : Generator) → All (IsTail code i j) names
    → k < length names → tail ≡ get_or names k tail → IsTail code i j tail
IsTail-at code i j names k tail are below is = subst (IsTail code i j) (sym is) (are k tail below)

pub label-small : (code : Code) (i j : ℤ) (tail : Generator) → IsTrue (accepted code) → length code.crossings ≤ CROSSINGS
    → IsTail code i j tail → tail.label < 2 ^ CIRCLES
label-small code i j tail is few tails =
    let power : 2 ^ circle_count code tail.state ≤ 2 ^ CIRCLES = pow_mono (count-within code tail.state is few) in
    omega (arith, tails.label_below, power)

-- no state has the greatest number of 32 bits
pub found-nowhere : (p : ℕ) (code : Code) (bases : List ℕ) (state : ℕ) (outs : List Out) → state + 1 ≡ 2 ^ 32
    → length code.crossings ≤ CROSSINGS → AreFound p code bases state outs
found-nowhere p code bases state outs is few = grind (arith, nat_tests, pow_mono)

-- the entries along the edges out of a generator's state are its column
pub column-around : (p : ℕ) (code : Code) (i j : ℤ) (tail : Generator) (outs : List Out) (bases ranks : List ℕ) (column : List Entry)
    → 1 < p → IsTrue (accepted code) → IsTail code i j tail → AreOuts p code bases tail.state outs
    → bases ≡ map (own_base code j) (states code) → AreRanks code ranks → column ≡ column_along ranks tail.label outs
    → IsColumn p code i j tail column
column-around p code i j tail outs bases ranks column prime is tails are_outs is_bases are_ranks is_column =
    let steps = are_outs.steps in
    let has_steps = are_outs.of_steps in
    let around : AreAround p code i j tail steps bases ranks =
    record {
      prime = prime;
      is_code = is;
      tail_below = tails.state_below;
      label_below = tails.label_below;
      passes = tails.passes;
      of_steps = has_steps;
      of_bases = is_bases;
      of_ranks = are_ranks.each (i +ℤ pos 1) j;
    } in
    subst (IsColumn p code i j tail) (sym (is_column ∙ ap (column_along ranks tail.label) are_outs.are ∙ column-along p steps bases ranks tail (length steps)
    ∙ ap (column_to p steps bases ranks tail) has_steps.size))
    (IsColumn-entries p code i j tail steps bases ranks around)

-- one column more
pub columns-more : (p : ℕ) (code : Code) (i j : ℤ) (names : List Generator) (k : ℕ) (tail : Generator) (column : List Entry)
    (made next : List (List Entry)) → k < length names → tail ≡ get_or names k tail → IsColumn p code i j tail column
    → AreColumns p code i j names k made → next ≡ made ++ column ∷ [] → AreColumns p code i j names (k + 1) next
columns-more p code i j names k tail column made next below is_tail is_column are is_next =
    let d = generator_of 0 0 in
    let at : tail ≡ get_or names k d = is_tail ∙ get_or_default names k tail d below in
    let more : IsColumn p code i j (get_or names k d) column = subst (λ (g : Generator). IsColumn p code i j g column) at is_column in
    subst (AreColumns p code i j names (k + 1)) (sym is_next) (record {
      size = length_push made column ∙ ap (λ n. n + 1) are.size;
      each = each-more (λ k entries. IsColumn p code i j (get_or names k d) entries) made column [] k are.size are.each more;
    })

pub columns-none : (p : ℕ) (code : Code) (i j : ℤ) (names : List Generator) (made : List (List Entry)) → made ≡ []
    → AreColumns p code i j names 0 made
columns-none p code i j names made none = grind (arith, nat_tests)

-- one degree more
pub names-at : (code : Code) (low j : ℤ) (count k : ℕ) (names : List (Vec Generator)) (degree : Vec Generator)
    → lists_in names ≡ generators_from code low j count → k < count → k < length names → degree ≡ get_or names k degree
    → degree.items ≡ generators_at code (low +ℤ pos k) j
names-at code low j count k names degree are below within is = grind (arith, nat_tests, list-lists_in, get_or-map-range_with_len)

pub all_columns-more : (p : ℕ) (code : Code) (low i j other : ℤ) (k : ℕ) (names : List Generator) (columns : List (List Entry))
    (made next : List (List (List Entry))) → AreAllColumns p code low j k made → i ≡ low +ℤ pos k → other ≡ j
    → names ≡ generators_at code i other → AreColumns p code i other names (length names) columns → next ≡ made ++ columns ∷ []
    → AreAllColumns p code low j (k + 1) next
all_columns-more p code low i j other k names columns made next are is_i is_j is_names more is_next =
    let all : AreWholeColumns p code i other columns =
    subst (λ (xs : List Generator). AreColumns p code i other xs (length xs) columns) is_names more in
    let at_i : AreWholeColumns p code (low +ℤ pos k) other columns =
    subst (λ (i : ℤ). AreWholeColumns p code i other columns) is_i all in
    let at_j : AreWholeColumns p code (low +ℤ pos k) j columns =
    subst (λ (j : ℤ). AreWholeColumns p code (low +ℤ pos k) j columns) is_j at_i in
    subst (AreAllColumns p code low j (k + 1)) (sym is_next) (record {
      size = length_push made columns ∙ ap (λ n. n + 1) are.size;
      each = each-more (λ k columns. AreWholeColumns p code (low +ℤ pos k) j columns) made columns [] k are.size are.each at_j;
    })

pub all_names-more : (code : Code) (low i j other : ℤ) (k : ℕ) (names : List Generator) (made next : List (List Generator))
    → made ≡ generators_from code low j k → i ≡ low +ℤ pos k → other ≡ j → names ≡ generators_at code i other
    → next ≡ made ++ names ∷ [] → next ≡ generators_from code low j (k + 1)
all_names-more code low i j other k names made next is_made is_i is_j is is_next = grind (arith, nat_tests, images-more)
