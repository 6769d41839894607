-- The entries of what a step of the elimination leaves.
use Rattle.std.proofs.lemmas.Bool.Decides.{nat_tests}
use Rattle.std.proofs.Common.{◌≡◌, ℕ, zero, suc, ◌+◌, ◌-◌, ◌*◌, ◌%◌, ◌<◌, ◌∙◌, ◌⊎◌, List, [], ◌∷◌, length, map, get_or, refl, ap, ap₂, sym, subst, arith, min}
use Rattle.std.specs.Prelude.{slice_index, slice_index_or}
use Rattle.std.specs.List.{remove, zip}
use Rattle.std.proofs.Math.Nat.{mod-mod}
use Rattle.std.proofs.lemmas.Nat.{mod_below}
use Rattle.std.proofs.lemmas.Bool.Decides.{leb_tells}
use Rattle.std.proofs.lemmas.List.{length-map, get_or_past}
use Rattle.std.proofs.lemmas.List.Edits.{length-remove}
use Rattle.std.proofs.lemmas.Slice.Zip.{length-zip}
use Rattle.kh_types.specs.Rank.{inverse, minus_mod, cleared, reduced_by, lead_of}
use Rattle.kh_types.specs.Complex.{entry_in}
use Rattle.kh_types.specs.Residues.{HasInverses, Same}
use Rattle.kh_types.specs.MatrixRanks.{IsMatrix, Leaves}
use Rattle.kh_types.proofs.Residues.{same-inverse, same-add, same-multiple}
use Rattle.kh_types.proofs.Removed.{place_before, place_before-below, get_or-remove, without}

-- 0 - 0 is 0
pub minus_mod-nothing : (p z : ℕ) → z ≡ 0 → minus_mod p 0 z ≡ 0
minus_mod-nothing p z is_zero = grind (arith, nat_tests)

-- z and x - z are x together
pub minus_mod-added : (p x z : ℕ) → 0 < p → Same p (z + minus_mod p x z) x
minus_mod-added p x z positive =
    let rest = p - z % p in
    let below : z % p < p = mod_below z p positive in
    let whole : z % p + (x + rest) ≡ x + p * 1 = omega arith in
    same-add p z (z % p) ((x + rest) % p) (x + rest) (sym (again z)) (again (x + rest))
    ∙ ap (λ n. n % p) whole ∙ same-multiple p x 1
  where
    again : (n : ℕ) → n % p % p ≡ n % p
    again n = mod-mod n p

-- an entry less its way back through a pivot
abbrev pub entry_left : ℕ → ℕ → ℕ → (ℕ → ℕ → ℕ) → ℕ → ℕ → ℕ
entry_left p a b matrix row column =
    minus_mod p (matrix row column) (matrix row b * inverse p (matrix a b) * matrix a column)

-- such entries are what the pivot leaves
pub leaves-entry_left : (p a b : ℕ) (M : ℕ → ℕ → ℕ) → HasInverses p → ¬ Same p (M a b) 0 → Leaves p M (entry_left p a b M) a b
leaves-entry_left p a b M field other =
    record {
      inverse = inverse p (M a b);
      inverts = same-inverse p (M a b) field other;
      others = λ i j.
          let turned : M i b * (inverse p (M a b) * M a j) ≡ M i b * inverse p (M a b) * M a j = omega arith in
          ap (λ z. (z + entry_left p a b M i j) % p) turned
          ∙ minus_mod-added p (M i j) (M i b * inverse p (M a b) * M a j) (omega (arith, field.above_one));
    }

-- an entry of a row that is cleared
slice_index-cleared : (p factor k : ℕ) (row pivot : List ℕ) → length row ≡ length pivot
    → slice_index (map (λ pair. minus_mod p pair.0 (factor * pair.1)) (zip row pivot)) k
    ≡ minus_mod p (slice_index row k) (factor * slice_index pivot k)
slice_index-cleared p factor k [] [] size = sym (minus_mod-nothing p (factor * 0) (omega arith))
slice_index-cleared p factor k [] (y ∷ pivot) size = absurd (omega arith)
slice_index-cleared p factor k (x ∷ row) [] size = absurd (omega arith)
slice_index-cleared p factor zero (x ∷ row) (y ∷ pivot) size = refl
slice_index-cleared p factor (suc k) (x ∷ row) (y ∷ pivot) size = slice_index-cleared p factor k row pivot (omega arith)

-- a function of the rows that keeps the empty row
get_or-map_rows : (f : List ℕ → List ℕ) (rows : List (List ℕ)) (i : ℕ) → f [] ≡ [] → get_or (map f rows) i [] ≡ f (get_or rows i [])
get_or-map_rows f [] i keeps = sym keeps
get_or-map_rows f (row ∷ rows) zero keeps = refl
get_or-map_rows f (row ∷ rows) (suc i) keeps = get_or-map_rows f rows i keeps

remove-nil : {X : Type 0} (a : ℕ) → remove {X = X} [] a ≡ []
remove-nil a = grind (arith, nat_tests)

-- a row after a step, by the row that it was
abbrev row_after : ℕ → List ℕ → List ℕ → List ℕ
row_after p pivot row = remove (cleared p pivot (lead_of pivot) row) (lead_of pivot)

-- the row at a place after a step
row-reduced : (p at i : ℕ) (rows : List (List ℕ))
    → slice_index_or (reduced_by p (slice_index_or rows at []) (remove rows at)) i []
    ≡ row_after p (slice_index_or rows at []) (slice_index_or rows (place_before at i) [])
row-reduced p at i rows = grind (arith, nat_tests, get_or-map_rows, remove-nil, get_or-remove)

-- its entries, where it is a row of the matrix or none
slice_index-after : (p j : ℕ) (row pivot : List ℕ) → (row ≡ []) ⊎ (length row ≡ length pivot)
    → slice_index (row_after p pivot row) j
    ≡ minus_mod p (slice_index row (place_before (lead_of pivot) j))
    (slice_index row (lead_of pivot) * inverse p (slice_index pivot (lead_of pivot))
    * slice_index pivot (place_before (lead_of pivot) j))
slice_index-after p j row pivot has4 =
    grind (arith, nat_tests, remove-nil, minus_mod-nothing, place_before, get_or-remove, slice_index-cleared)

row-sized : (p n at i : ℕ) (rows : List (List ℕ)) → IsMatrix p n rows → at < length rows
    → (slice_index_or rows i [] ≡ []) ⊎ (length (slice_index_or rows i []) ≡ length (slice_index_or rows at []))
row-sized p n at i rows is within = grind (arith, nat_tests, leb_tells, get_or_past)

-- the entries after a step are what the pivot leaves, without the pivot's row and column
pub entry-reduced : (p n at : ℕ) (rows : List (List ℕ)) → IsMatrix p n rows → at < length rows → (i j : ℕ)
    → entry_in (reduced_by p (slice_index_or rows at []) (remove rows at)) i j
    ≡ without at (lead_of (slice_index_or rows at []))
    (entry_left p at (lead_of (slice_index_or rows at [])) (entry_in rows)) i j
entry-reduced p n at rows is within i j = grind (arith, nat_tests, row-reduced, slice_index-after, place_before, row-sized)

-- the number of rows after a step
pub length-reduced : (p at : ℕ) (rows : List (List ℕ)) → at < length rows
    → length (reduced_by p (slice_index_or rows at []) (remove rows at)) + 1 ≡ length rows
length-reduced p at rows within = grind (arith, nat_tests, length-map, length-remove)

-- a step leaves a matrix, with a column less
pub matrix-reduced : (p n at : ℕ) (rows : List (List ℕ)) → 0 < p → IsMatrix p n rows → at < length rows
    → lead_of (slice_index_or rows at []) < n → IsMatrix p (n - 1) (reduced_by p (slice_index_or rows at []) (remove rows at))
matrix-reduced p n at rows positive is within lead_within =
    let pivot = slice_index_or rows at [] in
    let b = lead_of pivot in
    record {
      width = λ i below.
          let i_within : place_before at i < length rows =
          place_before-below at i (length rows) (omega (arith, length-reduced p at rows within)) in
          let row = slice_index_or rows (place_before at i) [] in
          let factor = slice_index row b * inverse p (slice_index pivot b) in
          let size : length (cleared p pivot b row) ≡ n =
          length-map (zip row pivot) (λ pair. minus_mod p pair.0 (factor * pair.1)) ∙ length-zip row pivot
          ∙ ap₂ (λ x y. min x y) (is.width (place_before at i) i_within) (is.width at within) ∙ omega arith in
          let removed : length (row_after p pivot row) + 1 ≡ length (cleared p pivot b row) =
          length-remove (cleared p pivot b row) b (omega arith) in
          ap length (row-reduced p at i rows) ∙ omega arith;
      below = λ i j.
          let entry = entry-reduced p n at rows is within i j in
          subst (λ e. e < p) (sym entry) (mod_below _ p positive);
    }
