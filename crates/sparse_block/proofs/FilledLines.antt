-- Lines in memory that are counted where they have an entry, and empty ones behind them. The count is 0 exactly where no line has
-- an entry; where one line gets another length it changes by whether that line was empty before and is now. Empty lines behind
-- change neither what stands at a place nor whether there are entries. All lines of a degree are in memory or none is. So an
-- empty line may be written where none is in memory; where the count is 0 all lines may be let go, as they are all empty; and
-- where some line has an entry all are in memory, so to exchange lines there is to exchange them. A number other than 0 in a line
-- means an entry.
use Rattle.std.proofs.lemmas.Bool.Decides.{nat_tests}
use Rattle.std.proofs.Common.{◌≡◌, ◌≢◌, ℕ, zero, suc, ◌+◌, ◌-◌, ◌<◌, ◌≤◌, ◌∙◌, inl, inr, List, [], ◌∷◌, ◌++◌, length, get_or, set, replicate, refl, ap, ap₂, sym, subst, arith, append-nil, Bool, true, false, cond, not}
use Rattle.std.specs.Prelude.{slice_index_or, nat_eq, min, ◌&&◌}
use Rattle.std.specs.List.{list_all}
use Rattle.std.proofs.lemmas.Bool.{false≢true}
use Rattle.std.proofs.lemmas.Bool.Decides.{eqb_tells}
use Rattle.std.proofs.lemmas.List.{get_or_past, length-map, set-get_or}
use Rattle.std.proofs.lemmas.List.Folds.{list_all-append, sum_by-zero}
use Rattle.std.proofs.lemmas.List.Sums.{sum_by-set}
use Rattle.smallvec.specs.SmallVec.{SmallVec}
use Rattle.sparse_block.specs.Changes.{PlacedLine}
use Rattle.sparse_block.specs.Clearing.{AreExchanged}
use Rattle.sparse_block.specs.Entries.{Entry, value_at}
use Rattle.sparse_block.specs.Held.{AreHeld, filled_count, no_entries, padded}
use Rattle.sparse_block.specs.Inside.{entries_in}
use Rattle.sparse_block.proofs.LineLemmas.{entries_in-set, items, line-got}

-- counts

abbrev has_entries : List Entry → Bool
has_entries line = not (nat_eq (length line) 0)

abbrev one : List Entry → ℕ
one line = cond (has_entries line) 1 0

one-length : (line : List Entry) → one line ≡ min (length line) 1
one-length line = grind (arith, nat_tests)

not_one : (line : List Entry) → nat_eq (one line) 0 ≡ nat_eq (length line) 0
not_one line = grind (arith, nat_tests)

all-alike : (f g : List Entry → Bool) (lines : List (List Entry)) → ((line : List Entry) → f line ≡ g line)
    → list_all f lines ≡ list_all g lines
all-alike f g [] same = refl
all-alike f g (line ∷ lines) same = ap₂ (λ (a b : Bool). a && b) (same line) (all-alike f g lines same)

pub no_entries-counted : (lines : List (List Entry)) → nat_eq (filled_count lines) 0 ≡ no_entries lines
no_entries-counted lines = grind (arith, nat_tests, sum_by-zero, all-alike, not_one)

-- one line has another length
pub recounted : (lines : List (List Entry)) (place count result before after : ℕ) (line : List Entry) → place < length lines
    → count ≡ filled_count lines → before ≡ length (slice_index_or lines place []) → after ≡ length line
    → result + min before 1 ≡ count + min after 1 → result ≡ filled_count (set lines place line)
recounted lines place count result before after line within is_count is_before is_after is_result =
    grind (arith, nat_tests, sum_by-set, one-length)

-- the count has the line in it
pub filled-counted : (lines : List (List Entry)) (place count before : ℕ) → place < length lines → count ≡ filled_count lines
    → before ≡ length (slice_index_or lines place []) → min before 1 ≤ count
filled-counted lines place count before within is_count is_before =
    let old = slice_index_or lines place [] in
    let change : filled_count (set lines place []) + one old ≡ filled_count lines + one [] =
    sum_by-set one lines place [] [] within in
    omega (arith, is_count, change, one-length old ∙ ap (λ (n : ℕ). min n 1) (sym is_before), one-length [])

-- the same of lines in memory

pub length-line : (lines : List (SmallVec Entry)) (k n : ℕ) (d : SmallVec Entry) → k < length lines
    → n ≡ length (get_or lines k d).items → n ≡ length (slice_index_or (entries_in lines) k [])
length-line lines k n d within is_length = is_length ∙ ap length (line-got lines k d within)

pub within-entries : (lines : List (SmallVec Entry)) (k : ℕ) → k < length lines → k < length (entries_in lines)
within-entries lines k within = omega (arith, within, length-map lines items)

pub recounted-set : (lines : List (SmallVec Entry)) (k count result before after : ℕ) (line : SmallVec Entry) (entries : List Entry)
    → k < length lines → line.items ≡ entries → count ≡ filled_count (entries_in lines)
    → before ≡ length (slice_index_or (entries_in lines) k []) → after ≡ length entries
    → result + min before 1 ≡ count + min after 1 → result ≡ filled_count (entries_in (set lines k line))
recounted-set lines k count result before after line entries within are is_count is_before is_after is_result =
    recounted (entries_in lines) k count result before after entries (within-entries lines k within) is_count is_before is_after is_result
    ∙ ap filled_count (sym (entries_in-set lines k line entries are))

-- empty lines behind

no_entries-empty : (n : ℕ) → no_entries (replicate n []) ≡ true
no_entries-empty zero = refl
no_entries-empty (suc n) = no_entries-empty n

line-empty : (n place : ℕ) → slice_index_or {A = List Entry} (replicate n []) place [] ≡ []
line-empty zero place = refl
line-empty (suc n) zero = refl
line-empty (suc n) (suc place) = line-empty n place

and_true : (b : Bool) → (b && true) ≡ b
and_true b = grind (arith, nat_tests)

pub no_entries-padded : (size : ℕ) (lines : List (List Entry)) → no_entries (padded size lines) ≡ no_entries lines
no_entries-padded size lines = grind (arith, nat_tests, list_all-append, no_entries-empty, and_true)

line-appended : (lines : List (List Entry)) (n place : ℕ)
    → slice_index_or (lines ++ replicate n []) place [] ≡ slice_index_or lines place []
line-appended [] n place = line-empty n place
line-appended (line ∷ lines) n zero = refl
line-appended (line ∷ lines) n (suc place) = line-appended lines n place

pub line-padded : (size : ℕ) (lines : List (List Entry)) (place : ℕ)
    → slice_index_or (padded size lines) place [] ≡ slice_index_or lines place []
line-padded size lines place = line-appended lines (size - length lines) place

pub padded-whole : (size : ℕ) (lines : List (List Entry)) → length lines ≡ size → padded size lines ≡ lines
padded-whole size lines whole = grind (arith, nat_tests, append-nil)

-- an empty line is written where no line is in memory
pub padded-unset : {size count : ℕ} (lines : List (List Entry)) (place : ℕ) (line : List Entry) → AreHeld size lines count
    → length lines ≤ place → line ≡ [] → padded size lines ≡ set (padded size lines) place line
padded-unset {size} {count} lines place line held past is_empty =
    let there : slice_index_or (padded size lines) place [] ≡ [] = line-padded size lines place ∙ get_or_past lines place [] past in
    sym (ap (set (padded size lines) place) (is_empty ∙ sym there) ∙ set-get_or (padded size lines) place [])

-- all lines are let go

all-empty : (lines : List (List Entry)) → no_entries lines ≡ true → lines ≡ replicate (length lines) []
all-empty [] none = refl
all-empty ([] ∷ lines) none = ap (λ (lines : List (List Entry)). [] ∷ lines) (all-empty lines none)
all-empty ((e ∷ es) ∷ lines) none = grind (arith, nat_tests, eqb_tells, false≢true)

pub padded-let_go : {size count : ℕ} (lines : List (List Entry)) → AreHeld size lines count → count ≡ 0
    → padded size [] ≡ padded size lines
padded-let_go {size} {count} lines held none =
    elim held.whole [
      | inl whole ↦
          sym (
          padded-whole size lines whole
          ∙ all-empty lines (sym (no_entries-counted lines) ∙ ap (λ (n : ℕ). nat_eq n 0) (sym held.counted ∙ none))
          ∙ ap (λ (n : ℕ). replicate n []) (omega (arith, whole))
          )
      | inr let_go ↦ ap (padded size) (sym let_go)
    ]

-- some line has an entry, so all are in memory
pub held-whole : {size count : ℕ} (lines : List (List Entry)) → AreHeld size lines count → no_entries (padded size lines) ≡ false
    → length lines ≡ size
held-whole {size} {count} lines held some = grind (arith, nat_tests, false≢true, no_entries-padded)

-- lines in memory are exchanged
pub padded-exchanged : {size count : ℕ} (named : List PlacedLine) (lines after : List (List Entry)) → AreHeld size lines count
    → no_entries (padded size lines) ≡ false → AreExchanged named lines after
    → AreExchanged named (padded size lines) (padded size after)
padded-exchanged {size} {count} named lines after held some exchanged =
    let whole = held-whole lines held some in
    subst (λ (before : List (List Entry)). AreExchanged named before (padded size after)) (sym (padded-whole size lines whole))
    (subst (AreExchanged named lines) (sym (padded-whole size after (exchanged.size ∙ whole))) exchanged)

-- no line has an entry, so each is empty
pub line-none : (lines : List (List Entry)) (place : ℕ) → no_entries lines ≡ true → slice_index_or lines place [] ≡ []
line-none lines place none =
    ap (λ (lines : List (List Entry)). slice_index_or lines place []) (all-empty lines none) ∙ line-empty (length lines) place

-- a line has a number other than 0
pub some-entries : (lines : List (List Entry)) (place at : ℕ) → value_at (slice_index_or lines place []) at ≢ 0
    → no_entries lines ≡ false
some-entries lines place at some = decided (no_entries lines) refl
  where
    decided : (b : Bool) → no_entries lines ≡ b → no_entries lines ≡ false
    decided b is = grind (arith, nat_tests, line-none)
