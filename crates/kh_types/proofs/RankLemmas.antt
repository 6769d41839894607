-- Steps that are not needed, and rows without an entry, do not change a rank.
use Rattle.std.proofs.Common.{◌≡◌, ℕ, zero, suc, ◌+◌, ◌*◌, ◌≤◌, ◌∙◌, List, [], ◌∷◌, length, map, refl, ap, arith, Bool, false, cond, not}
use Rattle.std.specs.Prelude.{Option, Some, None, nat_eq, slice_index, slice_index_or}
use Rattle.std.specs.List.{position, remove, zip, All}
use Rattle.std.specs.Option.{option_map, option_map_or}
use Rattle.std.proofs.lemmas.List.Folds.{list_any_none}
use Rattle.std.proofs.lemmas.List.{length-map}
use Rattle.std.proofs.lemmas.List.Edits.{length-remove}
use Rattle.std.proofs.lemmas.List.Quantifiers.{position-Some}
use Rattle.std.proofs.lemmas.Bool.Decides.{nat_tests}
use Rattle.kh_types.specs.Rank.{has_entry, lead_of, minus_mod, cleared, reduced_by, rank_within, rank}

-- a place counted from one later
place_later : (b : Bool) (at : ℕ) → cond b (Some (suc at)) None ≡ option_map suc (cond b (Some at) None)
place_later b at = grind (arith, nat_tests)

-- the first place that passes, behind an element that does not
position-cons_no : {X : Type 0} (test : X → Bool) (x : X) (xs : List X) → test x ≡ false
    → position test (x ∷ xs) ≡ option_map suc (position test xs)
position-cons_no test x xs fails = grind (arith, nat_tests)

-- what a turn gives, at the place of the row that it takes
abbrev pub after_turn : ℕ → ℕ → List (List ℕ) → Option ℕ → ℕ
after_turn steps p rows place =
    option_map_or (λ at. suc (rank_within steps p (reduced_by p (slice_index_or rows at []) (remove rows at)))) place 0

-- 0 - 0 is 0
minus_mod-zero : (p x factor y : ℕ) → x ≡ 0 → factor ≡ 0 → minus_mod p x (factor * y) ≡ 0
minus_mod-zero p x factor y x_zero factor_zero = grind (arith, nat_tests)

-- a row without an entry begins with 0, and its rest has none
first_zero : (x : ℕ) (row : List ℕ) → has_entry (x ∷ row) ≡ false → x ≡ 0
first_zero x row none = grind (arith, nat_tests)

rest_none : (x : ℕ) (row : List ℕ) → has_entry (x ∷ row) ≡ false → has_entry row ≡ false
rest_none x row none = grind (arith, nat_tests)

none_again : (x : ℕ) (row : List ℕ) → x ≡ 0 → has_entry row ≡ false → has_entry (x ∷ row) ≡ false
none_again x row x_zero none = grind (arith, nat_tests)

pub slice_index-none : (row : List ℕ) (column : ℕ) → has_entry row ≡ false → slice_index row column ≡ 0
slice_index-none [] column none = refl
slice_index-none (x ∷ row) zero none = first_zero x row none
slice_index-none (x ∷ row) (suc column) none = slice_index-none row column (rest_none x row none)

-- a list without an entry keeps none where an element is removed
has_entry-remove : (row : List ℕ) (column : ℕ) → has_entry row ≡ false → has_entry (remove row column) ≡ false
has_entry-remove [] zero none = refl
has_entry-remove [] (suc column) none = refl
has_entry-remove (x ∷ row) zero none = rest_none x row none
has_entry-remove (x ∷ row) (suc column) none =
    none_again x (remove row column) (first_zero x row none) (has_entry-remove row column (rest_none x row none))

-- nor does it get one where no multiple of the pivot is subtracted
has_entry-minus : (p factor : ℕ) (row pivot : List ℕ) → factor ≡ 0 → has_entry row ≡ false
    → has_entry (map (λ pair. minus_mod p pair.0 (factor * pair.1)) (zip row pivot)) ≡ false
has_entry-minus p factor [] pivot factor_zero none = refl
has_entry-minus p factor (x ∷ row) [] factor_zero none = refl
has_entry-minus p factor (x ∷ row) (y ∷ pivot) factor_zero none =
    grind (arith, nat_tests, none_again, minus_mod-zero, first_zero, rest_none, has_entry-minus p factor row pivot factor_zero (rest_none x row none))

-- so a turn leaves a row without an entry without one
has_entry-reduced : (p : ℕ) (pivot row : List ℕ) → has_entry row ≡ false
    → has_entry (remove (cleared p pivot (lead_of pivot) row) (lead_of pivot)) ≡ false
has_entry-reduced p pivot row none = grind (arith, nat_tests, slice_index-none, has_entry-remove, has_entry-minus)

-- what a turn gives is the same where a row without an entry is put before the others
after_turn-none : (steps p : ℕ) (row : List ℕ) (rows : List (List ℕ)) (place : Option ℕ)
    → ((first : List ℕ) (others : List (List ℕ)) → has_entry first ≡ false
    → rank_within steps p (first ∷ others) ≡ rank_within steps p others)
    → has_entry row ≡ false → after_turn steps p (row ∷ rows) (option_map suc place) ≡ after_turn steps p rows place
after_turn-none steps p row rows place same none = grind (arith, nat_tests, has_entry-reduced)

-- a first row without an entry does not change the rank, for any number of steps
rank_within-none : (steps p : ℕ) (row : List ℕ) (rows : List (List ℕ)) → has_entry row ≡ false
    → rank_within steps p (row ∷ rows) ≡ rank_within steps p rows
rank_within-none zero p row rows none = refl
rank_within-none (suc steps) p row rows none =
    ap (λ place. after_turn steps p (row ∷ rows) place) (position-cons_no has_entry row rows none)
    ∙ after_turn-none steps p row rows (position has_entry rows) (λ first others. rank_within-none steps p first others) none

-- what a turn gives does not depend on the number of steps that are left, where that is enough for the rows that are left
after_turn-enough : (n m p : ℕ) (rows : List (List ℕ)) (place : Option ℕ) → position has_entry rows ≡ place
    → ((others : List (List ℕ)) → length others + 1 ≡ length rows → rank_within n p others ≡ rank_within m p others)
    → after_turn n p rows place ≡ after_turn m p rows place
after_turn-enough n m p rows place is_place same = grind (arith, nat_tests, position-Some, length-map, length-remove)

-- the rank is the same for all numbers of steps from the number of rows on
pub rank_within-enough : (n m p : ℕ) (rows : List (List ℕ)) → length rows ≤ n → length rows ≤ m
    → rank_within n p rows ≡ rank_within m p rows
rank_within-enough zero zero p rows fits_n fits_m = refl
rank_within-enough zero (suc m) p [] fits_n fits_m = refl
rank_within-enough zero (suc m) p (row ∷ rows) fits_n fits_m = absurd (omega arith)
rank_within-enough (suc n) zero p [] fits_n fits_m = refl
rank_within-enough (suc n) zero p (row ∷ rows) fits_n fits_m = absurd (omega arith)
rank_within-enough (suc n) (suc m) p rows fits_n fits_m =
    after_turn-enough n m p rows (position has_entry rows) refl
    (λ others fewer. rank_within-enough n m p others (omega arith) (omega arith))

-- a row without an entry does not count
pub rank-none : (p : ℕ) (row : List ℕ) (rows : List (List ℕ)) → has_entry row ≡ false → rank p (row ∷ rows) ≡ rank p rows
rank-none p row rows none =
    rank_within-none (suc (length rows)) p row rows none
    ∙ rank_within-enough (suc (length rows)) (length rows) p rows (omega arith) (omega arith)

-- a row of zeros has no entry
pub has_entry-zeros : (row : List ℕ) → All (λ x. x ≡ 0) row → has_entry row ≡ false
has_entry-zeros row zeros = list_any_none (λ x. not (nat_eq x 0)) row (λ k d below. grind (arith, nat_tests, zeros k d below))

-- rows of zeros do not count
pub rank-zeros : (p : ℕ) (zeros : List ℕ) (rows : List (List ℕ)) → All (λ x. x ≡ 0) zeros → rank p (zeros ∷ rows) ≡ rank p rows
rank-zeros p zeros rows are_zero = rank-none p zeros rows (has_entry-zeros zeros are_zero)
