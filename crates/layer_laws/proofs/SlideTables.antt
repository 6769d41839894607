-- Three inner crossings: the states that two eliminations take, for each closing state that is neither 0 nor 7; which of the others
-- correspond before and after; and the sign of each. All of it is a table, and computes.
use Rattle.std.proofs.Common.{◌≡◌, ℕ, ◌+◌, ◌-◌, ◌%◌, ◌<◌, List, [], ◌∷◌, map, refl, arith, Bool, true, false, not, ◌&&◌, ◌||◌}
use Rattle.std.specs.Prelude.{nat_eq, nat_lt, slice_index, if◌then◌else◌}
use Rattle.std.specs.List.{list_all, range_with_len}
use Rattle.std.proofs.lemmas.Bool.{and_parts, eqb-true, ltb-true, or_right, and_from}
use Rattle.kh_types.specs.Bits.{one_if, ones}
use Rattle.kh_types.proofs.RangeCounts.{list_all-at}
use Rattle.layer_laws.specs.Cuts.{is_step}
use Rattle.layer_laws.specs.Slid.{above_of, below_of, is_joined, is_left, is_near, kind_after, kind_before, left_objects, left_power}
use Rattle.layer_laws.proofs.PairTests.{are_pairs, pairs-from, same-if}
use Rattle.layer_laws.proofs.Reorderings.{is_reordered}
use Rattle.layer_laws.proofs.TwoPairs.{ArePairs}
use Rattle.kh_types.proofs.Tests.{unless-forth}

-- another state that is next to the closing one
abbrev pub third_of : ℕ → ℕ
third_of closing = slice_index (0 ∷ 5 ∷ 6 ∷ 2 ∷ 6 ∷ 4 ∷ 4 ∷ []) closing

-- this one and the state opposite the closing one change their places, and the others stay
abbrev pub exchanged : ℕ → ℕ → ℕ
exchanged closing t = if nat_eq t (third_of closing) then 7 - closing else if nat_eq t (7 - closing) then third_of closing else t

abbrev pub is_last : ℕ → ℕ → Bool
is_last closing t = is_left closing (above_of closing) (below_of closing) t

abbrev pub last_objects : ℕ → List ℕ
last_objects closing = left_objects 3 closing (above_of closing) (below_of closing)

abbrev pub joined_at : ℕ → ℕ → ℕ → Bool
joined_at closing x y = is_joined 3 closing (above_of closing) (below_of closing) x y

abbrev pub power_at : ℕ → ℕ → ℕ → ℕ
power_at closing x y = left_power 3 closing (above_of closing) (below_of closing) x y

-- the sign of a state, as a power of -1: 0 for the two that change their places, and for another that of its edges with both together
abbrev pub turn_of : ℕ → ℕ → ℕ
turn_of closing t =
    let third = third_of closing in
    let opposite = 7 - closing in
    if nat_eq t third || nat_eq t opposite then 0
    else if joined_at closing third t then power_at closing third t + power_at closing opposite t
    else power_at closing t third + power_at closing t opposite

-- what the exchange keeps
abbrev pub is_exchanged : ℕ → ℕ → Bool
is_exchanged closing t =
    let other = exchanged closing t in
    not (is_last closing t)
    || (is_last closing other && (nat_lt other 8 && (nat_eq (kind_after closing other) (kind_before closing t)
    && (nat_eq (ones 3 other) (ones 3 t) && nat_eq (exchanged closing other) t))))

abbrev pub is_signed : ℕ → ℕ → ℕ → Bool
is_signed closing x y =
    let x_other = exchanged closing x in
    let y_other = exchanged closing y in
    not (is_last closing x && is_last closing y)
    || (nat_eq (one_if (joined_at closing x y)) (one_if (joined_at closing x_other y_other))
    && (not (joined_at closing x y)
    || nat_eq ((power_at closing x y + (turn_of closing x + (turn_of closing y + power_at closing x_other y_other))) % 2) 0))

-- the tables
all-pairs : list_all (λ o. are_pairs 3 o (above_of o) (below_of o)) (range_with_len 1 6) ≡ true
all-pairs = refl

all-near : list_all (λ o. list_all (λ t. not (is_near o t) || (nat_eq (kind_before o t) (kind_before o o)
    && nat_eq (kind_after o t) (kind_after o o))) (range_with_len 0 8)) (range_with_len 1 6) ≡ true
all-near = refl

all-exchanged : list_all (λ o. list_all (is_exchanged o) (range_with_len 0 8)) (range_with_len 1 6) ≡ true
all-exchanged = refl

all-signed : list_all (λ o. list_all (λ x. list_all (is_signed o x) (range_with_len 0 8)) (range_with_len 0 8)) (range_with_len 1 6) ≡ true
all-signed = refl

all-listed : list_all (λ o. is_reordered (map (exchanged o) (last_objects o)) (last_objects o)) (range_with_len 1 6) ≡ true
all-listed = refl

at : (test : ℕ → Bool) (o : ℕ) → list_all test (range_with_len 1 6) ≡ true → 0 < o → o < 7 → test o ≡ true
at test o all above below = list_all-at test 1 6 o all (omega (arith, above)) (omega (arith, below))

pub pairs-at : (o : ℕ) (kind : ℕ → ℕ) → 0 < o → o < 7 → ((t : ℕ) → t < 8 → is_near o t ≡ true → kind t ≡ kind o)
    → ArePairs 3 o (above_of o) (below_of o) kind
pairs-at o kind above below near =
    pairs-from 3 o (above_of o) (below_of o) kind (at (λ o. are_pairs 3 o (above_of o) (below_of o)) o all-pairs above below)
    (λ t within step. near t within (or_right (nat_eq t o) (is_step 3 t o || is_step 3 o t) step))

-- both kinds are those of the closing state near it
record HasNearKinds (o t : ℕ) : Type 0 where
  before : kind_before o t ≡ kind_before o o
  after : kind_after o t ≡ kind_after o o

near-kinds : (o t : ℕ) → 0 < o → o < 7 → t < 8 → is_near o t ≡ true → HasNearKinds o t
near-kinds o t above below within near =
    let one = nat_eq (kind_before o t) (kind_before o o) in
    let other = nat_eq (kind_after o t) (kind_after o o) in
    let all =
    unless-forth (is_near o t) (one && other)
    (list_all-at (λ t. not (is_near o t) || (nat_eq (kind_before o t) (kind_before o o) && nat_eq (kind_after o t) (kind_after o o))) 0 8 t
    (at (λ o. list_all (λ t. not (is_near o t) || (nat_eq (kind_before o t) (kind_before o o)
    && nat_eq (kind_after o t) (kind_after o o))) (range_with_len 0 8)) o all-near above below)
    (omega arith) (omega (arith, within))) near in
    let parts = and_parts one other all in
    record {
      before = eqb-true (kind_before o t) (kind_before o o) parts.0;
      after = eqb-true (kind_after o t) (kind_after o o) parts.1;
    }

pub near-before : (o : ℕ) → 0 < o → o < 7 → (t : ℕ) → t < 8 → is_near o t ≡ true → kind_before o t ≡ kind_before o o
near-before o above below t within near = (near-kinds o t above below within near).before

pub near-after : (o : ℕ) → 0 < o → o < 7 → (t : ℕ) → t < 8 → is_near o t ≡ true → kind_after o t ≡ kind_after o o
near-after o above below t within near = (near-kinds o t above below within near).after

pub listed-exchanged : (o : ℕ) → 0 < o → o < 7 → is_reordered (map (exchanged o) (last_objects o)) (last_objects o) ≡ true
listed-exchanged o above below = at (λ o. is_reordered (map (exchanged o) (last_objects o)) (last_objects o)) o all-listed above below

pub record IsExchanged (closing t : ℕ) : Type 0 where
  pub last : is_last closing (exchanged closing t) ≡ true
  pub within : exchanged closing t < 8
  pub kind : kind_after closing (exchanged closing t) ≡ kind_before closing t
  pub ones : ones 3 (exchanged closing t) ≡ ones 3 t
  pub back : exchanged closing (exchanged closing t) ≡ t

pub exchanged-is : (o t : ℕ) → 0 < o → o < 7 → t < 8 → is_last o t ≡ true → IsExchanged o t
exchanged-is o t above below within last =
    let other = exchanged o t in
    let kinds = nat_eq (kind_after o other) (kind_before o t) in
    let counts = nat_eq (ones 3 other) (ones 3 t) in
    let back = nat_eq (exchanged o other) t in
    let all =
    unless-forth (is_last o t) (is_last o other && (nat_lt other 8 && (kinds && (counts && back))))
    (list_all-at (is_exchanged o) 0 8 t (at (λ o. list_all (is_exchanged o) (range_with_len 0 8)) o all-exchanged above below)
    (omega arith) (omega (arith, within))) last in
    let first = and_parts (is_last o other) (nat_lt other 8 && (kinds && (counts && back))) all in
    let second = and_parts (nat_lt other 8) (kinds && (counts && back)) first.1 in
    let third = and_parts kinds (counts && back) second.1 in
    let fourth = and_parts counts back third.1 in
    record {
      last = first.0;
      within = ltb-true other 8 second.0;
      kind = eqb-true (kind_after o other) (kind_before o t) third.0;
      ones = eqb-true (ones 3 other) (ones 3 t) fourth.0;
      back = eqb-true (exchanged o other) t fourth.1;
    }

pub record IsSigned (closing x y : ℕ) : Type 0 where
  pub joined : joined_at closing x y ≡ joined_at closing (exchanged closing x) (exchanged closing y)
  pub even : joined_at closing x y ≡ true
      → (power_at closing x y
      + (turn_of closing x + (turn_of closing y + power_at closing (exchanged closing x) (exchanged closing y)))) % 2 ≡ 0

same_test : (a b : Bool) → one_if a ≡ one_if b → a ≡ b
same_test true true same = refl
same_test false false same = refl
same_test true false same = absurd (omega (arith, same))
same_test false true same = absurd (omega (arith, same))

pub signed-is : (o x y : ℕ) → 0 < o → o < 7 → x < 8 → y < 8 → is_last o x ≡ true → is_last o y ≡ true → IsSigned o x y
signed-is o x y above below x_within y_within x_last y_last =
    let joined = joined_at o x y in
    let joined_other = joined_at o (exchanged o x) (exchanged o y) in
    let sum = power_at o x y + (turn_of o x + (turn_of o y + power_at o (exchanged o x) (exchanged o y))) in
    let all =
    unless-forth (is_last o x && is_last o y)
    (nat_eq (one_if joined) (one_if joined_other) && (not joined || nat_eq (sum % 2) 0))
    (list_all-at (is_signed o x) 0 8 y
    (list_all-at (λ x. list_all (is_signed o x) (range_with_len 0 8)) 0 8 x
    (at (λ o. list_all (λ x. list_all (is_signed o x) (range_with_len 0 8)) (range_with_len 0 8)) o all-signed above below)
    (omega arith) (omega (arith, x_within)))
    (omega arith) (omega (arith, y_within)))
    (and_from (is_last o x) (is_last o y) x_last y_last) in
    let parts = and_parts (nat_eq (one_if joined) (one_if joined_other)) (not joined || nat_eq (sum % 2) 0) all in
    record {
      joined = same_test joined joined_other (eqb-true (one_if joined) (one_if joined_other) parts.0);
      even = λ is. same-if joined (sum % 2) 0 is parts.1;
    }
