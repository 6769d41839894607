-- A line less a multiple of another, place by place.
use Rattle.std.proofs.lemmas.Bool.Decides.{nat_tests, leb_tells}
use Rattle.std.proofs.Common.{◌≡◌, ℕ, ◌+◌, ◌*◌, ◌<◌, ◌≤◌, ◌∙◌, inl, inr, List, [], ◌∷◌, ◌++◌, length, map, refl, ap, sym, subst, subst₂, arith}
use Rattle.std.specs.Prelude.{slice_index}
use Rattle.std.specs.List.{range_with_len}
use Rattle.std.proofs.lemmas.List.{get_or_past}
use Rattle.std.proofs.lemmas.List.FromFn.{length-map-range_with_len, get_or-map-range_with_len}
use Rattle.kh_types.specs.Rank.{minus_mod}
use Rattle.kh_types.proofs.Ranges.{map_from_zero}
use Rattle.kh_types.proofs.Reduced.{minus_mod-nothing}
use Rattle.sparse_block.specs.Entries.{Entry, AreEntries, entries_from, entries_of, value_at}
use Rattle.sparse_block.proofs.AscendingLemmas.{entries-ascend}
use Rattle.sparse_block.proofs.EntryLemmas.{entries_from-push}
use Rattle.sparse_block.specs.LinePairs.{line_less, first_place_of, rest_after, value_first}
use Rattle.sparse_block.proofs.EntryValues.{entries-agree, value_at-past}
use Rattle.sparse_block.proofs.RestLemmas.{HasMore, RestOf, bound-first, rest-after, rest-left, rest-right, rest-whole, value-between, value-first}

-- the numbers of a line less a multiple of another
pub number-line_less : (p size : ℕ) (entries others : List Entry) (factor k : ℕ) → AreEntries p size entries
    → AreEntries p size others
    → slice_index (line_less p size entries factor others) k ≡ minus_mod p (value_at entries k) (factor * value_at others k)
number-line_less p size entries others factor k are are_others =
    let number : ℕ → ℕ = λ place. minus_mod p (value_at entries place) (factor * value_at others place) in
    elim (leb_tells size k) [
      | inl past ↦
          let none : value_at entries k ≡ 0 = value_at-past p 0 size k entries (entries-ascend p size entries are) past.1 in
          let none_other : value_at others k ≡ 0 =
          value_at-past p 0 size k others (entries-ascend p size others are_others) past.1 in
          let nothing : factor * 0 ≡ 0 = omega arith in
          get_or_past (line_less p size entries factor others) k 0
          (omega (arith, past.1, length-map-range_with_len number 0 size))
          ∙ sym (ap (λ (value : ℕ). minus_mod p value (factor * value_at others k)) none
          ∙ minus_mod-nothing p (factor * value_at others k) (ap (λ (value : ℕ). factor * value) none_other ∙ nothing))
      | inr within ↦ get_or-map-range_with_len number 0 size k k 0 within.1 (omega arith)
    ]

-- a line less a multiple of another, as far as both lists are read

abbrev number_less : ℕ → List Entry → ℕ → List Entry → ℕ → ℕ
number_less p line factor other place = minus_mod p (value_at line place) (factor * value_at other place)

number_less-none : (p factor place : ℕ) (line other : List Entry) → value_at line place ≡ 0 → value_at other place ≡ 0
    → number_less p line factor other place ≡ 0
number_less-none p factor place line other none none_other = grind (arith, nat_tests)

-- two lengths give the same entries, where the numbers between are 0
lines-agree : (f : ℕ → ℕ) (m n : ℕ) → ((k : ℕ) → m ≤ k → k < n → f k ≡ 0) → ((k : ℕ) → n ≤ k → k < m → f k ≡ 0)
    → entries_of (map f (range_with_len 0 m)) ≡ entries_of (map f (range_with_len 0 n))
lines-agree f m n above below = entries-agree (numbers m) (numbers n) same
  where
    numbers : ℕ → List ℕ
    numbers n = map f (range_with_len 0 n)

    within : (n k : ℕ) → k < n → slice_index (numbers n) k ≡ f k
    within n k inside = get_or-map-range_with_len f 0 n k k 0 inside (omega arith)

    past : (n k : ℕ) → n ≤ k → slice_index (numbers n) k ≡ 0
    past n k outside = get_or_past (numbers n) k 0 (omega (arith, outside, length-map-range_with_len f 0 n))

    same : (k : ℕ) → slice_index (numbers m) k ≡ slice_index (numbers n) k
    same k = grind (arith, nat_tests, leb_tells, past, within)

pub record Merged (p factor : ℕ) (line other made rest_line rest_other : List Entry) : Type 0 where
  pub bound : ℕ
  pub in_line : RestOf p bound line rest_line
  pub in_other : RestOf p bound other rest_other
  pub are_made : made ≡ entries_of (line_less p bound line factor other)

pub merged_none : (p factor size other_size : ℕ) (line other : List Entry) → AreEntries p size line → AreEntries p other_size other
    → Merged p factor line other [] line other
merged_none p factor size other_size line other are are_other =
    record {
      bound = 0;
      in_line = rest-whole p size line are;
      in_other = rest-whole p other_size other are_other;
      are_made = refl;
    }

pub merged_more : (p factor place : ℕ) (line other made made_more rest_line rest_other : List Entry)
    → Merged p factor line other made rest_line rest_other → HasMore rest_line rest_other → place ≡ first_place_of rest_line rest_other
    → made_more ≡ made
    ++ entries_from place (minus_mod p (value_first rest_line place) (factor * value_first rest_other place) ∷ [])
    → Merged p factor line other made_more (rest_after rest_line place) (rest_after rest_other place)
merged_more p factor place line other made made_more rest_line rest_other merged more is_first is_more =
    let bound = merged.bound in
    let number : ℕ → ℕ = number_less p line factor other in
    let later : bound ≤ first_place_of rest_line rest_other =
    bound-first p p bound merged.in_line.end merged.in_other.end rest_line rest_other more merged.in_line.ascend
    merged.in_other.ascend in
    let at_line : RestOf p place line rest_line =
    subst (λ (n : ℕ). RestOf p n line rest_line) (sym is_first) (rest-left p bound line rest_line rest_other later merged.in_line) in
    let at_other : RestOf p place other rest_other =
    subst (λ (n : ℕ). RestOf p n other rest_other) (sym is_first)
    (rest-right p bound other rest_line rest_other later merged.in_other) in
    let longer : entries_of (map number (range_with_len 0 bound)) ≡ entries_of (map number (range_with_len 0 place)) =
    lines-agree number bound place
    (λ k from before.
    number_less-none p factor k line other (value-between p bound place k line rest_line merged.in_line at_line from before)
    (value-between p bound place k other rest_other merged.in_other at_other from before))
    (λ k from before. absurd (omega (arith, from, before, later, is_first))) in
    let is_number : minus_mod p (value_first rest_line place) (factor * value_first rest_other place) ≡ number place =
    ap (λ (value : ℕ). minus_mod p value (factor * value_first rest_other place)) (value-first p place line rest_line at_line)
    ∙ ap (λ (value : ℕ). minus_mod p (value_at line place) (factor * value))
    (value-first p place other rest_other at_other) in
    let size : place ≡ 0 + length (map number (range_with_len 0 place)) =
    omega (arith, length-map-range_with_len number 0 place) in
    record {
      bound = place + 1;
      in_line = rest-after p place line rest_line at_line;
      in_other = rest-after p place other rest_other at_other;
      are_made = is_more
          ∙ ap (λ (es : List Entry). es ++ entries_from place (minus_mod p (value_first rest_line place)
          (factor * value_first rest_other place) ∷ []))
          (merged.are_made ∙ longer)
          ∙ ap (λ (v : ℕ). entries_of (map number (range_with_len 0 place)) ++ entries_from place (v ∷ [])) is_number
          ∙ ap (λ (n : ℕ). entries_of (map number (range_with_len 0 place)) ++ entries_from n (number place ∷ [])) size
          ∙ sym (entries_from-push 0 (number place) (map number (range_with_len 0 place)))
          ∙ ap entries_of (sym (map_from_zero number place));
    }

-- at the end of both lists it is the whole line
pub merged_all : (p factor size : ℕ) (line other made rest_line rest_other : List Entry)
    → Merged p factor line other made rest_line rest_other → rest_line ≡ [] → rest_other ≡ [] → AreEntries p size line
    → AreEntries p size other → made ≡ entries_of (line_less p size line factor other)
merged_all p factor size line other made rest_line rest_other merged none none_other are are_other =
    let bound = merged.bound in
    merged.are_made
    ∙ lines-agree (number_less p line factor other) bound size
    (λ k from before.
    number_less-none p factor k line other
    (sym (merged.in_line.values k from) ∙ ap (λ (es : List Entry). value_at es k) none)
    (sym (merged.in_other.values k from) ∙ ap (λ (es : List Entry). value_at es k) none_other))
    (λ k from before.
    number_less-none p factor k line other (value_at-past p 0 size k line (entries-ascend p size line are) from)
    (value_at-past p 0 size k other (entries-ascend p size other are_other) from))

pub merged_step : (p factor place value here there : ℕ)
    (line other made made_more rest_line rest_other next_line next_other : List Entry)
    → Merged p factor line other made rest_line rest_other → HasMore rest_line rest_other → place ≡ first_place_of rest_line rest_other
    → here ≡ value_first rest_line place → there ≡ value_first rest_other place → value ≡ minus_mod p here (factor * there)
    → made_more ≡ made ++ entries_from place (value ∷ []) → next_line ≡ rest_after rest_line place
    → next_other ≡ rest_after rest_other place → Merged p factor line other made_more next_line next_other
merged_step p factor place value here there line other made made_more rest_line rest_other next_line next_other merged more is_first
    is_here is_there is_value is_more is_line is_other =
    subst₂ (Merged p factor line other made_more) (sym is_line) (sym is_other)
    (merged_more p factor place line other made made_more rest_line rest_other merged more is_first
    (is_more
    ∙ ap (λ (v : ℕ). made ++ entries_from place (v ∷ []))
    (is_value ∙ ap (λ (v : ℕ). minus_mod p v (factor * there)) is_here
    ∙ ap (λ (v : ℕ). minus_mod p (value_first rest_line place) (factor * v)) is_there)))
