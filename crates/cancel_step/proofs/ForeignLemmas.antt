-- The least number at which a difference shows, and lists of entries that are the same or not. Equality of entries, of their
-- lists and of numbers can be decided, so what can not differ is the same. If something shows exactly where one of two things
-- does, its least number is the lesser of the least numbers of both, or the only one that was found. So the least number of the
-- first lines and that of one line more give that of all these lines, which is the step of a loop. A copied row with the entries
-- of the complex's row shows no difference, and any copied row shows it where the values of both lists differ. Columns and rows
-- together give the least column that shows a difference.
use Rattle.std.proofs.lemmas.Bool.Decides.{nat_tests, eqb_tells, leb_tells, not_from_Decides}
use Rattle.std.proofs.Common.{◌≡◌, ◌≢◌, ℕ, ◌+◌, ◌<◌, ◌∙◌, ◌⊎◌, inl, inr, List, [], ◌∷◌, ◌++◌, length, get_or, take, ap, sym, subst, refl, arith, None, Option}
use Rattle.std.specs.Prelude.{ℤ}
use Rattle.std.specs.Bool.{Decides}
use Rattle.std.specs.Cmp.Lexicographic.{pointwise}
use Rattle.std.specs.List.{Any}
use Rattle.std.proofs.lemmas.Bool.{cases_Bool}
use Rattle.std.proofs.lemmas.List.{get_or_append_left, get_or-append_right, get_or_default, length-append, take_more}
use Rattle.std.proofs.lemmas.List.Quantifiers.{Any-push}
use Rattle.std.proofs.lemmas.Slice.Eq.{slice_eq-Decides}
use Rattle.kh_types.specs.Complex.{Complex}
use Rattle.sparse_block.specs.Changes.{PlacedLine}
use Rattle.sparse_block.specs.Complexes.{row_of}
use Rattle.sparse_block.specs.Entries.{Entry, are_alike, entries_of, value_at}
use Rattle.sparse_block.proofs.EntryLemmas.{value_at-entries_of}
use Rattle.sparse_block.specs.Least.{FindsLeast}
use Rattle.cancel_step.specs.Foreign.{IsOtherColumn, IsOtherRowAt, ShowsBetween, ShowsIn, lesser_of}

-- entries are compared by both parts, and lists of them one by one

pub entry-decides : (a b : Entry) → Decides (are_alike a b) (a ≡ b)
entry-decides a b = grind (arith, nat_tests)

pub same_or_other : (xs ys : List Entry) → (xs ≡ ys) ⊎ (xs ≢ ys)
same_or_other xs ys =
    let test = pointwise are_alike xs ys in
    let decides : Decides test (xs ≡ ys) = slice_eq-Decides entry-decides xs ys test refl in
    elim (cases_Bool test) [ inl alike ↦ inl (decides.0 alike) | inr unlike ↦ inr (not_from_Decides test decides unlike) ]

pub same-unless_other : (xs ys : List Entry) → (xs ≢ ys → ⊥) → xs ≡ ys
same-unless_other xs ys never = elim (same_or_other xs ys) [ inl same ↦ same | inr other ↦ absurd (never other) ]

pub number-unless_other : (m n : ℕ) → (m ≢ n → ⊥) → m ≡ n
number-unless_other m n never = elim (eqb_tells m n) [ inl same ↦ same.1 | inr other ↦ absurd (never other.1) ]

-- the least of two that were found

module _ (P Q R : ℕ → Type 0) (parts : (n : ℕ) → R n → P n ⊎ Q n) (left : (n : ℕ) → P n → R n) (right : (n : ℕ) → Q n → R n) where
  pub finds-both : (a b : Option ℕ) → FindsLeast P a → FindsLeast Q b → FindsLeast R (lesser_of a b)
  finds-both a b in_p in_q = grind (arith, nat_tests)

-- the least of one that shows otherwise the same
pub finds-like : (P Q : ℕ → Type 0) (found : Option ℕ) → ((n : ℕ) → P n → Q n) → ((n : ℕ) → Q n → P n) → FindsLeast P found
    → FindsLeast Q found
finds-like P Q found to back none = grind (arith, nat_tests)

-- the least of the first lines, and of one more

any-push_cases : (P : PlacedLine → Type 0) (lines : List PlacedLine) (line : PlacedLine) → Any P (lines ++ line ∷ [])
    → Any P lines ⊎ P line
any-push_cases P lines line any = grind (arith, nat_tests, leb_tells, get_or-append_right, length-append, get_or_append_left)

any-push_left : (P : PlacedLine → Type 0) (lines : List PlacedLine) (line : PlacedLine) → Any P lines
    → Any P (lines ++ line ∷ [])
any-push_left P lines line any = grind (arith, nat_tests, length-append, get_or_append_left)

pub finds-more : (Shows : PlacedLine → ℕ → Type 0) (lines : List PlacedLine) (k : ℕ) (line d : PlacedLine) (least found : Option ℕ)
    → k < length lines → line ≡ get_or lines k d → FindsLeast (ShowsIn Shows (take k lines)) least → FindsLeast (Shows line) found
    → FindsLeast (ShowsIn Shows (take (k + 1) lines)) (lesser_of least found)
finds-more Shows lines k line d least found within is_line so_far in_line =
    let first = take k lines in
    subst (λ (lines : List PlacedLine). FindsLeast (ShowsIn Shows lines) (lesser_of least found))
    (ap (λ (line : PlacedLine). first ++ line ∷ []) is_line ∙ sym (take_more lines k d within))
    (finds-both (ShowsIn Shows first) (Shows line) (ShowsIn Shows (first ++ line ∷ []))
    (λ n any. any-push_cases (λ (line : PlacedLine). Shows line n) first line any)
    (λ n any. any-push_left (λ (line : PlacedLine). Shows line n) first line any)
    (λ n shows. Any-push (λ (line : PlacedLine). Shows line n) first line shows) least found so_far in_line)

-- where nothing shows, it shows at no line
pub none-shows : (Shows : PlacedLine → ℕ → Type 0) (lines : List PlacedLine) (k n : ℕ) (d : PlacedLine)
    → (ShowsIn Shows lines n → ⊥) → k < length lines → Shows (get_or lines k d) n → ⊥
none-shows Shows lines k n d none within shows = grind (arith, nat_tests, get_or_default)

-- a row that is that of the complex, and one that differs

pub row-alike : (complex : Complex) (i : ℤ) (line : PlacedLine) → line.entries ≡ entries_of (row_of complex i line.place)
    → FindsLeast (IsOtherRowAt complex i line) None
row-alike complex i line same = grind (arith, nat_tests, value_at-entries_of)

pub row-unlike : (complex : Complex) (i : ℤ) (line : PlacedLine) (left right : List Entry) (found : Option ℕ) → left ≡ line.entries
    → right ≡ entries_of (row_of complex i line.place) → FindsLeast (λ place. value_at left place ≢ value_at right place) found
    → FindsLeast (IsOtherRowAt complex i line) found
row-unlike complex i line left right found is_left is_right least = grind (arith, nat_tests, value_at-entries_of, finds-like)

-- the least in columns and in rows together
pub finds-between : (complex : Complex) (i : ℤ) (columns rows : List PlacedLine) (a b : Option ℕ)
    → FindsLeast (ShowsIn (IsOtherColumn complex i) columns) a → FindsLeast (ShowsIn (IsOtherRowAt complex i) rows) b
    → FindsLeast (ShowsBetween complex i columns rows) (lesser_of a b)
finds-between complex i columns rows a b in_columns in_rows = grind (arith, nat_tests, finds-both)
