-- The plain rank of a matrix is its rank as the least middle size of a product.
use Rattle.std.proofs.Common.{◌≡◌, ℕ, zero, suc, ◌+◌, ◌-◌, ◌≤◌, ◌<◌, ◌≢◌, ◌∙◌, inl, inr, List, [], length, refl, ap, sym, arith, Bool, true, false, cond, not}
use Rattle.std.specs.Prelude.{Option, Some, None, nat_eq, nat_lt, slice_index, slice_index_or}
use Rattle.std.specs.List.{position, position_or_len, remove}
use Rattle.std.proofs.Math.Nat.{mod-eq_of_lt, zero-mod}
use Rattle.std.proofs.lemmas.Bool.Decides.{nat_tests, leb_tells}
use Rattle.std.proofs.lemmas.List.{get_or_past}
use Rattle.std.proofs.lemmas.List.Folds.{Any-from_list_any}
use Rattle.std.proofs.lemmas.List.Quantifiers.{position-Some}
use Rattle.std.proofs.lemmas.List.Sums.{passes_at_first, fails_before_first}
use Rattle.kh_types.specs.Rank.{has_entry, lead_of, reduced_by, rank_within, rank}
use Rattle.kh_types.specs.Complex.{entry_in}
use Rattle.kh_types.specs.Residues.{HasInverses, Same}
use Rattle.kh_types.specs.MatrixRanks.{IsMatrix, HasRank, Leaves}
use Rattle.kh_types.proofs.Residues.{same-equal}
use Rattle.kh_types.proofs.PivotLemmas.{rank-same, rank-pivot, rank-zeros, leaves-row, leaves-column}
use Rattle.kh_types.proofs.Removed.{without, rank-without}
use Rattle.kh_types.proofs.Reduced.{entry_left, leaves-entry_left, entry-reduced, length-reduced, matrix-reduced}
use Rattle.kh_types.proofs.RankLemmas.{slice_index-none, after_turn}

-- a row with an entry leads with one
pub record Leads (row : List ℕ) : Type 0 where
  pub within : lead_of row < length row
  pub other : slice_index row (lead_of row) ≢ 0

pub leads-from_entry : (row : List ℕ) → has_entry row ≡ true → Leads row
leads-from_entry row found =
    let test : ℕ → Bool = λ x. not (nat_eq x 0) in
    let some = Any-from_list_any test row found in
    let within : lead_of row < length row =
    elim (leb_tells (length row) (lead_of row)) [
      | inl past ↦ absurd (at_odds (test some.1) some.4
          (ap test (sym some.3) ∙ fails_before_first test row some.0 some.1 (omega (arith, past.1, some.2))))
      | inr below ↦ below.1
    ] in
    record { within = within; other = differs (slice_index row (lead_of row)) (passes_at_first test row 0 within) }
  where
    at_odds : (b : Bool) → b ≡ true → b ≡ false → ⊥
    at_odds b is_true is_false = cc

    differs : (x : ℕ) → not (nat_eq x 0) ≡ true → x ≢ 0
    differs x passes = λ is_zero. grind (arith, nat_tests)

-- where no row has an entry, each row has none
no_row : (rows : List (List ℕ)) → position has_entry rows ≡ None → (i : ℕ) → has_entry (slice_index_or rows i []) ≡ false
no_row rows none i =
    let at = position_or_len has_entry rows in
    let past_all : length rows ≤ at = all_fail at (length rows) none in
    elim (leb_tells (length rows) i) [
      | inl past ↦ ap has_entry (get_or_past rows i [] past.1)
      | inr below ↦ fails_before_first has_entry rows i [] (omega (arith, past_all, below.1))
    ]
  where
    all_fail : (at n : ℕ) → cond (nat_lt at n) (Some at) None ≡ None → n ≤ at
    all_fail at n none = grind (arith, nat_tests)

-- an entry below p that is not 0 is not 0 modulo p
pub other-below : (p x : ℕ) → x < p → x ≢ 0 → ¬ Same p x 0
other-below p x below other same = other (omega (arith, mod-eq_of_lt below, zero-mod p, same))

rank-turn : (p n steps : ℕ) (rows : List (List ℕ)) (place : Option ℕ) → HasInverses p → IsMatrix p n rows
    → position has_entry rows ≡ place
    → ((others : List (List ℕ)) (width : ℕ) → IsMatrix p width others → length others + 1 ≡ length rows
    → HasRank p (entry_in others) (rank_within steps p others))
    → HasRank p (entry_in rows) (after_turn steps p rows place)
rank-turn p n steps rows None field is is_place before = grind (arith, nat_tests, rank-zeros, same-equal, slice_index-none, no_row)
rank-turn p n steps rows (Some at) field is is_place before =
    let positive : 0 < p = omega (arith, field.above_one) in
    let found = position-Some has_entry rows at [] is_place in
    let pivot = slice_index_or rows at [] in
    let b = lead_of pivot in
    let leads = leads-from_entry pivot found.1 in
    let left = entry_left p at b (entry_in rows) in
    let leaves : Leaves p (entry_in rows) left at b =
    leaves-entry_left p at b (entry_in rows) field
    (other-below p (entry_in rows at b) (is.below at b) leads.other) in
    let next = reduced_by p pivot (remove rows at) in
    let r = rank_within steps p next in
    let next_is : IsMatrix p (n - 1) next =
    matrix-reduced p n at rows positive is found.0 (omega (arith, is.width at found.0, leads.within)) in
    rank-pivot p r (entry_in rows) left at b field leaves
    (rank-without p r at b left (leaves-row p (entry_in rows) left at b positive leaves)
    (leaves-column p (entry_in rows) left at b positive leaves)
    (rank-same p r (entry_in next) (without at b left)
    (λ i j. same-equal p (entry_in next i j) (without at b left i j) (entry-reduced p n at rows is found.0 i j))
    (before next (n - 1) next_is (length-reduced p at rows found.0))))

rank_within-least : (p n steps : ℕ) (rows : List (List ℕ)) → HasInverses p → IsMatrix p n rows → length rows ≤ steps
    → HasRank p (entry_in rows) (rank_within steps p rows)
rank_within-least p n zero rows field is fits = grind (arith, nat_tests, rank-zeros, same-equal, get_or_past)
rank_within-least p n (suc steps) rows field is fits =
    rank-turn p n steps rows (position has_entry rows) field is refl
    (λ others width others_is fewer. rank_within-least p width steps others field others_is (omega arith))

-- the plain rank is the rank
pub rank-least : (p n : ℕ) (rows : List (List ℕ)) → HasInverses p → IsMatrix p n rows → HasRank p (entry_in rows) (rank p rows)
rank-least p n rows field is = rank_within-least p n (length rows) rows field is (omega arith)
