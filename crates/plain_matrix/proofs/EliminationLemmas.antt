-- Turns of the elimination, over the rows in memory.
use Rattle.std.proofs.Common.{true, Bool, ◌≡◌, ℕ, suc, ◌+◌, ◌<◌, Some, None, List, [], ◌∷◌, length, map, get_or, refl, ap, sym, ◌∙◌, arith}
use Rattle.std.specs.List.{remove, position}
use Rattle.std.specs.Global.{Vec}
use Rattle.std.proofs.lemmas.List.{length-map, get_or-map}
use Rattle.std.proofs.lemmas.List.Edits.{length-remove}
use Rattle.std.proofs.lemmas.List.Quantifiers.{position-Some}
use Rattle.kh_types.specs.Rank.{has_entry, reduced_by, rank}
use Rattle.plain_matrix.specs.Inside.{values_of}
use Rattle.kh_types.proofs.Lists.{map-remove, position-map}

-- no row has an entry
rank-no_row : (p : ℕ) (rows : List (List ℕ)) → position has_entry rows ≡ None → rank p rows ≡ 0
rank-no_row p [] none = refl
rank-no_row p (row ∷ rows) none = rw none

-- a row has an entry
rank-row : (p : ℕ) (rows : List (List ℕ)) (at : ℕ) → position has_entry rows ≡ Some at
    → rank p rows ≡ suc (rank p (reduced_by p (get_or rows at []) (remove rows at)))
rank-row p [] at found = absurd (cc)
rank-row p (row ∷ rows) at found =
    let within : at < length (row ∷ rows) = (position-Some has_entry (row ∷ rows) at [] found).0 in
    let left : length (remove (row ∷ rows) at) + 1 ≡ suc (length rows) = length-remove (row ∷ rows) at within in
    let size : length (reduced_by p (get_or (row ∷ rows) at []) (remove (row ∷ rows) at)) ≡ length rows =
    length-map (remove (row ∷ rows) at) _ ∙ (omega (arith, left)) in
    rw (found, size)

-- one turn of the elimination
pub rank-turn : {F : Type 0} (value_of : F → ℕ) (p : ℕ) (rows left next : List (Vec F)) (at : ℕ) (pivot : Vec F)
    → position (λ (row : Vec F). has_entry (map value_of row.items)) rows ≡ Some at → pivot ≡ get_or rows at pivot
    → left ≡ remove rows at → values_of value_of next ≡ reduced_by p (map value_of pivot.items) (values_of value_of left)
    → rank p (values_of value_of rows) ≡ suc (rank p (values_of value_of next))
rank-turn {F} value_of p rows left next at pivot found is_pivot is_left is_next =
    let values : Vec F → List ℕ = λ row. map value_of row.items in
    let within : at < length rows = (position-Some (λ (row : Vec F). has_entry (values row)) rows at pivot found).0 in
    let row : get_or (values_of value_of rows) at [] ≡ values pivot = get_or-map values rows at pivot [] within ∙ ap values (sym is_pivot) in
    let others : remove (values_of value_of rows) at ≡ values_of value_of left =
    sym (map-remove values rows at) ∙ ap (values_of value_of) (sym is_left) in
    let reduced : reduced_by p (get_or (values_of value_of rows) at []) (remove (values_of value_of rows) at) ≡ values_of value_of next =
    rw (row, others) (sym is_next) in
    rank-row p (values_of value_of rows) at (position-map has_entry values rows ∙ found)
    ∙ ap (λ (made : List (List ℕ)). suc (rank p made)) reduced

-- the elimination ends where no row has an entry
pub rank-end : {F : Type 0} (value_of : F → ℕ) (p : ℕ) (rows seen : List (Vec F)) → seen ≡ rows
    → None ≡ position (λ (row : Vec F). has_entry (map value_of row.items)) seen → rank p (values_of value_of rows) ≡ 0
rank-end {F} value_of p rows seen same none =
    let values : Vec F → List ℕ = λ row. map value_of row.items in
    let test : Vec F → Bool = λ row. has_entry (values row) in
    rank-no_row p (values_of value_of rows) (position-map has_entry values rows ∙ ap (position test) (sym same) ∙ sym none)

-- the row that is found has an entry
pub has_entry-found : {F : Type 0} (value_of : F → ℕ) (rows seen : List (Vec F)) (at : ℕ) (pivot : Vec F) (row : List F)
    → seen ≡ rows → Some at ≡ position (λ (row : Vec F). has_entry (map value_of row.items)) seen → pivot ≡ get_or rows at pivot
    → row ≡ pivot.items → has_entry (map value_of row) ≡ true
has_entry-found {F} value_of rows seen at pivot row same found is_pivot is_row =
    let test : Vec F → Bool = λ row. has_entry (map value_of row.items) in
    ap (λ row. has_entry (map value_of row)) is_row ∙ ap test is_pivot
    ∙ (position-Some test rows at pivot (sym (found ∙ ap (position test) same))).1

pub ruleset turns = (rank-turn)
