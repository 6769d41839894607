-- Two lists of entries that are read side by side, place by place: what is left of them. The first place of both is the lesser of
-- their two first places. What is left of a list from a bound on ascends, and has the values of the whole list at all places from
-- the bound on. This holds of the whole list at first; it stays as the bound goes up to the first place of both lists, and as it
-- goes on by one and an entry at it is read. So the value in front is that of the whole list at the bound, and in between all
-- values are 0. While one of the lists has an entry left, a step leaves fewer entries in both together, also by the indices of
-- both lists: so the loops end.
use Rattle.std.proofs.Common.{◌≡◌, ℕ, ◌+◌, ◌<◌, ◌≤◌, ◌∙◌, ◌⊎◌, List, length, drop, refl, ap, sym, subst, arith, ◌-◌}
use Rattle.std.proofs.lemmas.Bool.Decides.{eqb_tells, nat_tests}
use Rattle.std.proofs.lemmas.List.{length-drop}
use Rattle.sparse_block.specs.Entries.{Entry, AreEntries, value_at}
use Rattle.sparse_block.proofs.AscendingLemmas.{Ascend, entries-ascend}
use Rattle.sparse_block.proofs.EntryLemmas.{value_at-here, value_at-later, value_at-before}
use Rattle.sparse_block.specs.LinePairs.{first_place_of, rest_after, value_first}

-- the first place of both

-- there is an entry left
abbrev pub HasMore : List Entry → List Entry → Type 0
HasMore xs ys = (0 < length xs) ⊎ (0 < length ys)

pub bound-first : (p q a b c : ℕ) (xs ys : List Entry) → HasMore xs ys → Ascend p a b xs → Ascend q a c ys → a ≤ first_place_of xs ys
bound-first p q a b c xs ys more left right = grind (arith, nat_tests)

-- the value at a place that no entry comes before, and what is left behind it

value_first-value : (p a b : ℕ) (xs : List Entry) → Ascend p a b xs → value_first xs a ≡ value_at xs a
value_first-value p a b xs ascend = grind (arith, nat_tests, eqb_tells, value_at-here, value_at-later, value_at-before)

pub shorter-rests : (xs ys : List Entry) → HasMore xs ys
    → length (rest_after xs (first_place_of xs ys)) + length (rest_after ys (first_place_of xs ys)) < length xs + length ys
shorter-rests xs ys more = grind (arith, nat_tests)

-- what is left of a list, of which the entries before a place are read

pub record RestOf (p bound : ℕ) (es rest : List Entry) : Type 0 where
  pub end : ℕ
  pub ascend : Ascend p bound end rest
  pub values : (place : ℕ) → bound ≤ place → value_at rest place ≡ value_at es place

pub rest-whole : (p size : ℕ) (es : List Entry) → AreEntries p size es → RestOf p 0 es es
rest-whole p size es are =
    record { end = size; ascend = entries-ascend p size es are; values = λ place from. refl }

pub rest-after : (p bound : ℕ) (es rest : List Entry) → RestOf p bound es rest → RestOf p (bound + 1) es (rest_after rest bound)
rest-after p bound es rest of = grind (arith, nat_tests)

pub rest-left : (p bound : ℕ) (es xs ys : List Entry) → bound ≤ first_place_of xs ys → RestOf p bound es xs → RestOf p (first_place_of xs ys) es xs
rest-left p bound es xs ys later of = grind (arith, nat_tests)

pub rest-right : (p bound : ℕ) (es xs ys : List Entry) → bound ≤ first_place_of xs ys → RestOf p bound es ys
    → RestOf p (first_place_of xs ys) es ys
rest-right p bound es xs ys later of = grind (arith, nat_tests)

-- before the first entry that is left there is nothing
pub value-between : (p bound first place : ℕ) (es rest : List Entry) → RestOf p bound es rest → RestOf p first es rest
    → bound ≤ place → place < first → value_at es place ≡ 0
value-between p bound first place es rest of later from before = grind (arith, nat_tests, value_at-before)

pub value-first : (p bound : ℕ) (es rest : List Entry) → RestOf p bound es rest → value_first rest bound ≡ value_at es bound
value-first p bound es rest of = value_first-value p bound of.end rest of.ascend ∙ of.values bound (omega arith)

-- the steps of the two loops, by the indices of both lists

pub more-from_indices : (xs ys : List Entry) (i j : ℕ) → (i < length xs) ⊎ (j < length ys) → HasMore (drop i xs) (drop j ys)
more-from_indices xs ys i j has4 = grind (arith, nat_tests, length-drop)

pub shorter_steps : (xs ys : List Entry) (i j i_next j_next place : ℕ) → HasMore (drop i xs) (drop j ys)
    → place ≡ first_place_of (drop i xs) (drop j ys) → drop i_next xs ≡ rest_after (drop i xs) place
    → drop j_next ys ≡ rest_after (drop j ys) place → i_next ≤ length xs → j_next ≤ length ys
    → (length xs - i_next) + (length ys - j_next) < (length xs - i) + (length ys - j)
shorter_steps xs ys i j i_next j_next place more is_first rest rest_right within within_right =
    omega (
      arith,
      length-drop i xs,
      length-drop j ys,
      length-drop i_next xs,
      length-drop j_next ys,
      ap length rest,
      ap length rest_right,
      subst
          (λ (n : ℕ). length (rest_after (drop i xs) n) + length (rest_after (drop j ys) n) < length (drop i xs) + length (drop j ys))
          (sym is_first) (shorter-rests (drop i xs) (drop j ys) more),
    )
