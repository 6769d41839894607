-- The entries of a column by the places of edges.
use Rattle.std.proofs.lemmas.Bool.Decides.{nat_tests}
use Rattle.std.proofs.Common.{arith}
use Rattle.std.proofs.Common.{◌≡◌, ℕ, zero, suc, ◌+◌, ◌^◌, ◌∙◌, List, [], ◌++◌, map, refl, ap₂, Option, None, Some}
use Rattle.std.specs.Prelude.{slice_index, slice_index_or}
use Rattle.std.specs.List.{flat_map, range_with_len}
use Rattle.std.proofs.lemmas.Grind.{flat_map-append}
use Rattle.kh_types.specs.Generators.{Generator}
use Rattle.circle_smoothing.specs.declared.change.Edge.{Edge}
use Rattle.sparse_block.specs.Entries.{Entry}
use Rattle.cube_signs.specs.Columns.{column_along, head_entry, out_along, out_entries, outs_at, outs_to, edge_sign_at}
use Rattle.cube_signs.specs.Heads.{labels_behind}

-- the entries along the edge at a place, if one begins there
abbrev pub step_entries : ℕ → List ℕ → List ℕ → Generator → ℕ → Option Edge → List Entry
step_entries sign bases ranks tail place None = []
step_entries sign bases ranks tail place (Some change) =
    map (head_entry (slice_index bases (tail.state + 2 ^ place)) ranks sign) (labels_behind change tail.label)

-- the same, of the edges in a list
unfoldable pub edge_entries : ℕ → List (Option Edge) → List ℕ → List ℕ → Generator → ℕ → List Entry
edge_entries p steps bases ranks tail place =
    step_entries (edge_sign_at p tail.state place) bases ranks tail place (slice_index_or steps place None)

-- the entries along all edges before a place
abbrev pub column_to : ℕ → List (Option Edge) → List ℕ → List ℕ → Generator → ℕ → List Entry
column_to p steps bases ranks tail count = flat_map (edge_entries p steps bases ranks tail) (range_with_len 0 count)

-- they are the entries along the edges that begin there
along : (sign : ℕ) (bases ranks : List ℕ) (tail : Generator) (place : ℕ) (step : Option Edge)
    → column_along ranks tail.label (out_along sign bases tail.state place step) ≡ step_entries sign bases ranks tail place step
along sign bases ranks tail place step = grind (arith, nat_tests)

along-range : (p : ℕ) (steps : List (Option Edge)) (bases ranks : List ℕ) (tail : Generator) (a n : ℕ)
    → column_along ranks tail.label (flat_map (outs_at p steps bases tail.state) (range_with_len a n))
    ≡ flat_map (edge_entries p steps bases ranks tail) (range_with_len a n)
unfolding edge_entries outs_at
along-range p steps bases ranks tail a zero = refl
along-range p steps bases ranks tail a (suc n) =
    flat_map-append (out_entries ranks tail.label) (outs_at p steps bases tail.state a)
    (flat_map (outs_at p steps bases tail.state) (range_with_len (a + 1) n))
    ∙ ap₂ (λ (x y : List Entry). x ++ y) (along (edge_sign_at p tail.state a) bases ranks tail a (slice_index_or steps a None))
    (along-range p steps bases ranks tail (a + 1) n)

pub column-along : (p : ℕ) (steps : List (Option Edge)) (bases ranks : List ℕ) (tail : Generator) (count : ℕ)
    → column_along ranks tail.label (outs_to p steps bases tail.state count) ≡ column_to p steps bases ranks tail count
column-along p steps bases ranks tail count = along-range p steps bases ranks tail 0 count
