-- The pieces of a diagram apart: they are diagrams, the others have fewer crossings, and their tables have small products.
use Rattle.std.proofs.Common.{◌≡◌, ℕ, zero, suc, ◌<◌, ◌≤◌, ◌^◌, ◌∙◌, List, [], ◌∷◌, ℤ, length, map, sym, ap, ap₂, arith, Bool, true, false, not, cond, IsTrue}
use Rattle.std.specs.List.{All, filter, range_with_len}
use Rattle.std.proofs.Math.Path.{fun_ext}
use Rattle.std.proofs.lemmas.List.{length-map}
use Rattle.std.proofs.lemmas.List.Elements.{All-filter}
use Rattle.std.proofs.lemmas.List.FromFn.{get_or-range_with_len, length-range_with_len}
use Rattle.std.proofs.lemmas.List.Sums.{count_by-le-length, length-filter}
use Rattle.kh_types.specs.Acceptance.{accepted}
use Rattle.kh_types.specs.Code.{Code}
use Rattle.kh_types.specs.Directions.{positive_at}
use Rattle.kh_types.specs.Faces.{piece_count}
use Rattle.kh_types.specs.Generators.{generators, generators_at, has_degrees}
use Rattle.kh_types.specs.Table.{Row, Table, dimension, table}
use Rattle.kh_types.specs.declared.limits.TheConstants.{CROSSINGS}
use Rattle.kh_types.proofs.AcceptedLemmas.{IsAccepted-is}
use Rattle.circle_smoothing.proofs.GeneratorLemmas.{generator_count-le, length-generators}
use Rattle.code_passes.specs.Parts.{Parts, passes_through, slots_in}
use Rattle.orient_arcs.specs.Renumbered.{number_in, order_of, renamed_crossing}
use Rattle.union_laws.specs.Pieces.{IsCut, is_in_first_piece, kept_crossings, kept_parts, kept_places, other_pieces, part_of}
use Rattle.union_laws.specs.UnitedRows.{rows_product}
use Rattle.union_laws.proofs.KeptParts.{IsCut-rest}
use Rattle.tangle_scan.specs.CountedRows.{all_rows_by}
use Rattle.tangle_scan.specs.Sides.{is_on_side}

-- a number of elements with rows
abbrev pub table_with : ℕ → List Row → Table
table_with field rows = record { field = field; rows = rows }

-- no arc joins the first piece to the others
pub side-cut : (is_first : Bool) (crossings : List (List ℕ)) → IsCut (is_in_first_piece crossings) crossings
    → IsCut (is_on_side is_first crossings) crossings
side-cut true crossings cut = cut
side-cut false crossings cut = IsCut-rest (is_in_first_piece crossings) crossings cut

-- the crossings and the signs at the places that are kept are the parts of a side
abbrev parts_by : List (List ℕ) → List Bool → ℕ → Parts
parts_by crossings positive loops = record { crossings = crossings; positive = positive; loops = loops }

pub parts-kept : (keep : ℕ → Bool) (code : Code) (loops : ℕ) (places others : List ℕ) (crossings : List (List ℕ)) (positive : List Bool)
    → crossings ≡ map (slots_in code.crossings) places → positive ≡ map (positive_at code.crossings) others
    → places ≡ kept_places keep code.crossings → others ≡ kept_places keep code.crossings
    → parts_by crossings positive loops ≡ kept_parts keep code loops
parts-kept keep code loops places others crossings positive crossings_are positive_are places_are others_are =
    ap₂ (λ (c : List (List ℕ)) (p : List Bool). parts_by c p loops)
    (crossings_are ∙ ap (map (slots_in code.crossings)) places_are) (positive_are ∙ ap (map (positive_at code.crossings)) others_are)

-- the places that are kept
pub kept-few : (keep : ℕ → Bool) (n : ℕ) → length (filter keep (range_with_len 0 n)) ≤ n
kept-few keep n =
    let all = range_with_len 0 n in
    omega (arith, length-filter keep all, count_by-le-length keep all, length-range_with_len 0 n)

pub kept-within : (keep : ℕ → Bool) (crossings : List (List ℕ)) → All (λ place. place < length crossings) (kept_places keep crossings)
kept-within keep crossings =
    let n = length crossings in
    All-filter keep (λ place. place < n) (range_with_len 0 n)
    (λ k d below.
    let inside : k < n = omega (arith, below, length-range_with_len 0 n) in
    omega (arith, inside, get_or-range_with_len 0 n k d inside))

-- the others have fewer crossings
length-kept : (keep : ℕ → Bool) (code : Code) (loops : ℕ)
    → length (part_of keep code loops).crossings ≡ length (kept_places keep code.crossings)
length-kept keep code loops =
    length-map (kept_crossings keep code.crossings) (renamed_crossing (number_in (order_of (passes_through (kept_parts keep code loops)))))
    ∙ length-map (kept_places keep code.crossings) (slots_in code.crossings)

fewer-places : (keep : ℕ → Bool) (n : ℕ) → keep 0 ≡ false → 0 < n → length (filter keep (range_with_len 0 n)) < n
fewer-places keep zero out some = omega (arith, some)
fewer-places keep (suc m) out some =
    let rest = range_with_len 1 m in
    let without : length (filter keep (0 ∷ rest)) ≡ length (filter keep rest) =
    ap (λ (b : Bool). length (cond b (0 ∷ filter keep rest) (filter keep rest))) out in
    omega (arith, without, length-filter keep rest, count_by-le-length keep rest, length-range_with_len 1 m)

pieces-some : (crossings : List (List ℕ)) → 0 < piece_count crossings → 0 < length crossings
pieces-some [] some = some
pieces-some (slots ∷ crossings) some = omega arith

pub others-fewer : (code : Code) → (0 < length code.crossings → is_in_first_piece code.crossings 0 ≡ true)
    → 0 < piece_count code.crossings → length (other_pieces code).crossings < length code.crossings
others-fewer code first some =
    let keep = λ (place : ℕ). not (is_in_first_piece code.crossings place) in
    let inside = pieces-some code.crossings some in
    omega (
      arith,
      length-kept keep code code.loops,
      fewer-places keep (length code.crossings) (ap not (first inside)) inside,
    )

-- a dimension is at most the number of generators
dimension-le : (p : ℕ) (code : Code) (i j : ℤ) → dimension p code i j ≤ length (generators_at code i j)
dimension-le p code i j = omega arith

pub dimension-small : (p : ℕ) (code : Code) (i j : ℤ) → IsTrue (accepted code) → length code.crossings ≤ CROSSINGS
    → dimension p code i j < 2 ^ 128
dimension-small p code i j is few =
    omega (
      arith,
      dimension-le p code i j,
      length-filter (has_degrees code i j) (generators code),
      count_by-le-length (has_degrees code i j) (generators code),
      length-generators code,
      generator_count-le code ((IsAccepted-is code).0 is) few,
    )

-- where the rows of two tables multiply to dimensions, their product has the rows of the table
pub table-multiplied : (p : ℕ) (code : Code) (rows first second : List Row)
    → ((i j : ℤ) → dimension p code i j ≡ rows_product first second i j)
    → rows ≡ all_rows_by (rows_product first second) (length code.crossings) → table_with p rows ≡ table p code
table-multiplied p code rows first second multiply are =
    ap (table_with p)
    (are
    ∙ ap (λ (dims : ℤ → ℤ → ℕ). all_rows_by dims (length code.crossings)) (fun_ext (λ i. fun_ext (λ j. sym (multiply i j)))))
