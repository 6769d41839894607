-- Columns and rows in memory.
use Rattle.std.proofs.lemmas.Bool.Decides.{nat_tests}
use Rattle.std.proofs.Common.{◌≡◌, ℕ, ◌<◌, ◌∙◌, List, [], ◌∷◌, ◌++◌, length, get_or, set, ap, sym, subst, arith}
use Rattle.std.specs.Prelude.{slice_index_or, All}
use Rattle.std.proofs.Math.ListN as plain
use Rattle.std.proofs.lemmas.List.{map-set, get_or-map, length-map}
use Rattle.smallvec.specs.SmallVec.{SmallVec}
use Rattle.std.specs.Global.{Vec}
use Rattle.sparse_block.specs.Entries.{Entry, AreEntries}
use Rattle.sparse_block.specs.Inside.{entries_in, lists_in, lines_in}

abbrev pub items : SmallVec Entry → List Entry
items line = line.items

pub line-entries_in : (lines : List (SmallVec Entry)) (k : ℕ) (line : SmallVec Entry) → k < length lines → line ≡ get_or lines k line
    → slice_index_or (entries_in lines) k [] ≡ line.items
line-entries_in lines k line within is_line = get_or-map items lines k line [] within ∙ ap items (sym is_line)

pub line-got : (lines : List (SmallVec Entry)) (k : ℕ) (d : SmallVec Entry) → k < length lines
    → (get_or lines k d).items ≡ slice_index_or (entries_in lines) k []
line-got lines k d within = sym (get_or-map items lines k d [] within)

-- a line in memory changes
pub entries_in-set : (lines : List (SmallVec Entry)) (k : ℕ) (line : SmallVec Entry) (entries : List Entry)
    → line.items ≡ entries → entries_in (set lines k line) ≡ set (entries_in lines) k entries
entries_in-set lines k line entries are = map-set items lines k line ∙ ap (set (entries_in lines) k) are

-- an entry is pushed onto a line
pub entries_in-pushed : (lines : List (SmallVec Entry)) (k : ℕ) (old new : SmallVec Entry) (e : Entry) → k < length lines
    → old ≡ get_or lines k old → new.items ≡ old.items ++ e ∷ []
    → entries_in (set lines k new) ≡ set (entries_in lines) k (slice_index_or (entries_in lines) k [] ++ e ∷ [])
entries_in-pushed lines k old new e within is_old pushed = grind (arith, nat_tests, map-set, line-entries_in)

-- what holds of the entries of all lines
pub entries-at-height : (p height k rows : ℕ) (lines : List (SmallVec Entry)) (line : SmallVec Entry) (entries : List Entry)
    → k < length lines → line ≡ get_or lines k line → entries ≡ line.items → rows ≡ height
    → All (AreEntries p height) (entries_in lines) → AreEntries p rows entries
entries-at-height p height k rows lines line entries within is_line is_entries is_height are =
    let at : AreEntries p height line.items =
    subst (AreEntries p height) (plain.get_or-map items lines k line ∙ ap items (sym is_line))
    (are k line.items (omega (arith, within, length-map lines items))) in
    subst (λ (height : ℕ). AreEntries p height entries) (sym is_height) (subst (AreEntries p height) (sym is_entries) at)

-- lists in memory, and their lengths

pub list-lists_in : {X : Type 0} (vectors : List (Vec X)) (k : ℕ) (vector : Vec X) → k < length vectors
    → vector ≡ get_or vectors k vector → slice_index_or (lists_in vectors) k [] ≡ vector.items
list-lists_in {X} vectors k vector within is_vector = grind (arith, nat_tests, get_or-map)

pub count-at : {X : Type 0} (limit : ℕ) (vectors : List (Vec X)) (k : ℕ) (vector : Vec X) → k < length vectors
    → vector ≡ get_or vectors k vector → All (λ list. length list < limit) (lists_in vectors) → length vector.items < limit
count-at {X} limit vectors k vector within is_vector few = grind (arith, nat_tests, list-lists_in, length-map)

pub entries-height : (p : ℕ) (rows : List (SmallVec Entry)) (entries : List Entry) → AreEntries p (length rows) entries
    → AreEntries p (length (entries_in rows)) entries
entries-height p rows entries are = grind (arith, nat_tests, length-map)

-- the lines of a degree in memory

pub lines-lines_in : (degrees : List (Vec (SmallVec Entry))) (k : ℕ) (degree : Vec (SmallVec Entry)) → k < length degrees
    → degree ≡ get_or degrees k degree → slice_index_or (lines_in degrees) k [] ≡ entries_in degree.items
lines-lines_in degrees k degree within is_degree = grind (arith, nat_tests, get_or-map)

pub within-names : {X : Type 0} (vectors : List (Vec X)) (k : ℕ) → k < length (lists_in vectors) → k < length vectors
within-names {X} vectors k within = omega (arith, within, length-map vectors (λ (vector : Vec X). vector.items))
