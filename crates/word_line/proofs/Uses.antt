-- The texts that the parts of a line give for each option. The texts for a slot, out of all that were given, are those with its
-- name; those of two lists are put one behind the other. There are none where `clap` has no row for the slot, and else the first
-- text of its row is the first of them. Where no slot has two texts, a slot has none before its text comes, and one more text for
-- a slot without any keeps this. Then the texts of a line, part by part, as no two options and no option and the positional have
-- one name: for an option they are the values that the parts give it, and for the positional the positionals among the parts and
-- all words behind `--`.
use Rattle.std.proofs.lemmas.Bool.Decides.{nat_tests}
use Rattle.std.proofs.Common.{◌≡◌, ◌+◌, ◌≤◌, ◌||◌, Bool, true, false, List, [], ◌∷◌, ◌++◌, length, map, Some, None, refl, sym, ap, cond, ◌∙◌, arith, append-nil}
use Rattle.std.proofs.lemmas.List.{length-append}
use Rattle.std.proofs.lemmas.Slice.Eq.{bytes_eq-Decides}
use Rattle.std.specs.Prelude.{codes, slice_get}
use Rattle.std.specs.List.{find}
use Rattle.std.specs.Option.{option_and_then}
use Rattle.std.specs.Str.{bytes_eq}
use Rattle.clap.specs.Walk.{Row, Text, first_of, has_row}
use Rattle.word_line.specs.Pieces.{Key, Piece, apart, joined, key_name, positional, positionals}
use Rattle.word_line.specs.Values.{same_key, values_in}
use Rattle.word_line.proofs.Rules.{Slot, id_of}
use Rattle.word_line.proofs.Rows.{Use, has, row_at, rows_at, same_id}
use Rattle.word_line.proofs.Agreement.{key_differs}

-- ---- the texts that are given for a slot

abbrev pub values_of : Slot → List Use → List Text
values_of slot [] = []
values_of slot (given ∷ uses) = cond (bytes_eq (id_of given.0) (id_of slot)) (given.1 ∷ values_of slot uses) (values_of slot uses)

pub values_of-append : (slot : Slot) (first second : List Use) → values_of slot (first ++ second) ≡ values_of slot first ++ values_of slot second
values_of-append slot [] second = refl
values_of-append slot (given ∷ first) second = go (bytes_eq (id_of given.0) (id_of slot)) (values_of-append slot first second)
  where
    go : (b : Bool) → values_of slot (first ++ second) ≡ values_of slot first ++ values_of slot second
        → cond b (given.1 ∷ values_of slot (first ++ second)) (values_of slot (first ++ second))
        ≡ cond b (given.1 ∷ values_of slot first) (values_of slot first) ++ values_of slot second
    go b rest = grind (arith, nat_tests)

has-none : (slot : Slot) (uses : List Use) → length (values_of slot uses) ≡ 0 → has slot uses ≡ false
has-none slot [] none = refl
has-none slot (given ∷ uses) none = go (bytes_eq (id_of given.0) (id_of slot)) none (has-none slot uses)
  where
    go : (b : Bool) → length (cond b (given.1 ∷ values_of slot uses) (values_of slot uses)) ≡ 0
        → (length (values_of slot uses) ≡ 0 → has slot uses ≡ false) → (b || has slot uses) ≡ false
    go b none rest = grind (arith, nat_tests)

none-has : (slot : Slot) (uses : List Use) → has slot uses ≡ false → values_of slot uses ≡ []
none-has slot [] none = refl
none-has slot (given ∷ uses) none = go (bytes_eq (id_of given.0) (id_of slot)) none (none-has slot uses)
  where
    go : (b : Bool) → (b || has slot uses) ≡ false → (has slot uses ≡ false → values_of slot uses ≡ [])
        → cond b (given.1 ∷ values_of slot uses) (values_of slot uses) ≡ []
    go b none rest = grind (arith, nat_tests)

pub has-some : (slot : Slot) (uses : List Use) (value : Text) → values_of slot uses ≡ value ∷ [] → has slot uses ≡ true
has-some slot uses value some = go (has slot uses) refl
  where
    go : (b : Bool) → has slot uses ≡ b → b ≡ true
    go b is = grind (arith, nat_tests, none-has)

-- the first row of a slot has its first text
pub first_of-values : (slot : Slot) (uses : List Use) → first_of (id_of slot) (rows_at uses) ≡ slice_get (values_of slot uses) 0
first_of-values slot [] = refl
first_of-values slot (given ∷ uses) = go (bytes_eq (id_of given.0) (id_of slot)) (first_of-values slot uses)
  where
    go : (b : Bool) → first_of (id_of slot) (rows_at uses) ≡ slice_get (values_of slot uses) 0
        → option_and_then (λ (r : Row). slice_get r.values 0) (cond b (Some (row_at given)) (find (λ r. bytes_eq r.id (id_of slot)) (rows_at uses)))
        ≡ slice_get (cond b (given.1 ∷ values_of slot uses) (values_of slot uses)) 0
    go b rest = grind (arith, nat_tests)

-- no slot has two texts
abbrev pub Distinct : List Use → Type 0
Distinct uses = (slot : Slot) → length (values_of slot uses) ≤ 1

pub fresh : (before after : List Use) (given : Use) → Distinct (before ++ given ∷ after) → has given.0 before ≡ false
fresh before after given distinct =
    let split : values_of given.0 (before ++ given ∷ after) ≡ values_of given.0 before ++ (given.1 ∷ values_of given.0 after) =
    values_of-append given.0 before (given ∷ after)
    ∙ ap (λ b. values_of given.0 before ++ cond b (given.1 ∷ values_of given.0 after) (values_of given.0 after)) (same_id given.0) in
    let sizes : length (values_of given.0 (before ++ given ∷ after)) ≡ length (values_of given.0 before) + length (given.1 ∷ values_of given.0 after) =
    ap length split ∙ length-append (values_of given.0 before) (given.1 ∷ values_of given.0 after) in
    has-none given.0 before (omega (arith, sizes, distinct given.0))

pub distinct_push : (uses : List Use) (given : Use) → Distinct uses → has given.0 uses ≡ false → Distinct (uses ++ given ∷ [])
distinct_push uses given distinct none slot =
    go (bytes_eq (id_of given.0) (id_of slot)) refl
  where
    sizes : (b : Bool) → bytes_eq (id_of given.0) (id_of slot) ≡ b
        → length (values_of slot (uses ++ given ∷ [])) ≡ length (values_of slot uses) + length (cond b (given.1 ∷ []) [])
    sizes b is = grind (arith, nat_tests, values_of-append, length-append)

    go : (b : Bool) → bytes_eq (id_of given.0) (id_of slot) ≡ b → length (values_of slot (uses ++ given ∷ [])) ≤ 1
    go false is = omega (arith, sizes false is, distinct slot)
    go true is =
        let same : id_of given.0 ≡ id_of slot = (bytes_eq-Decides (id_of given.0) (id_of slot)).0 is in
        let none_here : has slot uses ≡ false = ap (λ id. has_row id (rows_at uses)) (sym same) ∙ none in
        let empty : length (values_of slot uses) ≡ 0 = ap length (none-has slot uses none_here) in
        omega (arith, sizes true is, empty)

-- ---- the texts of parts

abbrev pub use_of : Piece → Use
use_of (positional word) = (None, word)
use_of (apart key value) = (Some key, value)
use_of (joined key value) = (Some key, value)

abbrev pub uses_of : List Piece → List Use
uses_of pieces = map use_of pieces

abbrev pub uses_behind : List Text → List Use
uses_behind words = map (λ word. (None, word)) words

key_task : (key : Key) → bytes_eq (codes "task") (key_name key) ≡ false
key_task key = grind (arith, nat_tests)

pub key_key : (key other : Key) → bytes_eq (key_name other) (key_name key) ≡ same_key key other
key_key key other = grind (arith, nat_tests)

values_of-pieces : (key : Key) (pieces : List Piece) → values_of (Some key) (uses_of pieces) ≡ values_in key pieces
values_of-pieces key [] = refl
values_of-pieces key (positional word ∷ pieces) = rw (key_task key) (values_of-pieces key pieces)
values_of-pieces key (apart other value ∷ pieces) = grind (arith, nat_tests, key_key, values_of-pieces key pieces)
values_of-pieces key (joined other value ∷ pieces) = grind (arith, nat_tests, key_key, values_of-pieces key pieces)

values_of-behind : (key : Key) (words : List Text) → values_of (Some key) (uses_behind words) ≡ []
values_of-behind key [] = refl
values_of-behind key (word ∷ words) = rw (key_task key) (values_of-behind key words)

pub values_of-line : (key : Key) (pieces : List Piece) (behind : List Text) → values_of (Some key) (uses_of pieces ++ uses_behind behind) ≡ values_in key pieces
values_of-line key pieces behind = grind (arith, nat_tests, values_of-append, values_of-pieces, values_of-behind, append-nil)

tasks_of-pieces : (pieces : List Piece) → values_of None (uses_of pieces) ≡ positionals pieces
tasks_of-pieces [] = refl
tasks_of-pieces (positional word ∷ pieces) = ap (λ more. word ∷ more) (tasks_of-pieces pieces)
tasks_of-pieces (apart key value ∷ pieces) = rw (key_differs key) (tasks_of-pieces pieces)
tasks_of-pieces (joined key value ∷ pieces) = rw (key_differs key) (tasks_of-pieces pieces)

tasks_of-behind : (words : List Text) → values_of None (uses_behind words) ≡ words
tasks_of-behind [] = refl
tasks_of-behind (word ∷ words) = ap (λ more. word ∷ more) (tasks_of-behind words)

pub tasks_of-line : (pieces : List Piece) (behind : List Text) → values_of None (uses_of pieces ++ uses_behind behind) ≡ positionals pieces ++ behind
tasks_of-line pieces behind = grind (arith, nat_tests, values_of-append, tasks_of-pieces, tasks_of-behind)
