-- The columns between chosen generators: those of all generators, with the rows numbered anew. The new number of a row is how
-- many chosen generators stand before it. The entries of a chosen generator's column stand at chosen generators, since they are
-- not 0 and the differential is taken to lead to no others. For such rows the new numbers rise, so the moved entries still
-- ascend, and no two rows get one number, so the value at a new row is that at the old one. Each row among the chosen comes from
-- a row among all: so a moved column has the coefficients to the chosen generators, and this holds of all columns of the chosen
-- generators of two degrees.
use Rattle.std.proofs.Common.{◌≡◌, ℕ, inl, inr, ◌+◌, ◌<◌, ◌∙◌, ℤ, pos, ◌+ℤ◌, List, [], ◌∷◌, length, get_or, map, refl, sym, ap, subst, arith, Bool, true, ◌-ℤ◌}
use Rattle.std.specs.Prelude.{slice_index, slice_index_or}
use Rattle.std.specs.List.{All, filter}
use Rattle.std.proofs.lemmas.Bool.{cases_Bool, cases_eq}
use Rattle.std.proofs.lemmas.List.{get_or-map, length-map}
use Rattle.std.proofs.lemmas.List.Elements.{All-filter, All-head, All-tail, filter_passes}
use Rattle.kh_types.specs.Code.{Code}
use Rattle.kh_types.specs.Differential.{coefficient}
use Rattle.kh_types.specs.Generators.{Generator, generator_of, generators_at}
use Rattle.sparse_block.specs.Entries.{Entry, value_at, AreEntries}
use Rattle.sparse_block.proofs.AscendingLemmas.{Ascend, ascend-earlier, entries-ascend, entries-from_ascend}
use Rattle.sparse_block.proofs.EntryLemmas.{value_at-here, value_at-later}
use Rattle.cube_signs.specs.Chosen.{chosen_at, chosen_before, IsClosed}
use Rattle.cube_signs.specs.ChosenParts.{all_places, moved_entry, AreMovedColumns}
use Rattle.cube_signs.specs.Columns.{IsColumn, IsTail}
use Rattle.cube_signs.proofs.BlockLemmas.{are-tails}
use Rattle.cube_signs.proofs.ChosenPlaces.{before-all, before-le, before-next, before-one, kept-at, origin, places-at, IsChosen}
use Rattle.sparse_block.proofs.EntryValues.{value_at-place}

-- entries are the column of a tail: those of its coefficients to the heads
pub record IsColumnTo (p : ℕ) (code : Code) (heads : List Generator) (tail : Generator) (entries : List Entry) : Type 0 where
  pub are : AreEntries p (length heads) entries
  pub values : (row : ℕ) → row < length heads → value_at entries row ≡ coefficient p code tail (slice_index_or heads row (generator_of 0 0))

-- columns are those of tails to heads
pub record AreColumnsTo (p : ℕ) (code : Code) (tails heads : List Generator) (columns : List (List Entry)) : Type 0 where
  pub size : length columns ≡ length tails
  pub each : (k : ℕ) → k < length tails
      → IsColumnTo p code heads (slice_index_or tails k (generator_of 0 0)) (slice_index_or columns k [])

-- lists of columns are those between the chosen generators of the first homological degrees
pub record AreChosenColumns (choice : Generator → Bool) (p : ℕ) (code : Code) (j : ℤ) (count : ℕ) (columns : List (List (List Entry))) : Type 0 where
  pub size : length columns ≡ count
  pub each : (k : ℕ) → k < count
      → AreColumnsTo p code (chosen_at choice code (pos k -ℤ pos (length code.crossings)) j)
      (chosen_at choice code (pos k -ℤ pos (length code.crossings) +ℤ pos 1) j) (slice_index_or columns k [])

-- an entry stands at the place of a generator that is chosen
abbrev IsAtChosen : (Generator → Bool) → List Generator → Entry → Type 0
IsAtChosen q heads e = IsChosen q heads e.place

moved-ascend : (q : Generator → Bool) (heads : List Generator) (p a : ℕ) (es : List Entry) → Ascend p a (length heads) es
    → All (IsAtChosen q heads) es
    → Ascend p (chosen_before q heads a) (length (filter q heads)) (map (moved_entry (all_places q heads)) es)
moved-ascend q heads p a [] ascend kept = tt
moved-ascend q heads p a (e ∷ es) ascend kept =
    let here = All-head (IsAtChosen q heads) e es kept in
    let place = places-at q heads e.place here.below in
    let next = before-next q heads e.place here in
    let from = before-le q heads a e.place ascend.0 (omega (arith, here.below)) in
    let up = before-le q heads (e.place + 1) (length heads) (omega (arith, here.below)) (omega arith) in
    let start : chosen_before q heads (e.place + 1) ≡ slice_index (all_places q heads) e.place + 1 = omega (arith, next, place) in (
      omega (arith, from, place),
      omega (arith, next, up, place, before-all q heads),
      ascend.2,
      ascend.3,
      subst (λ (n : ℕ). Ascend p n (length (filter q heads)) (map (moved_entry (all_places q heads)) es)) start
          (moved-ascend q heads p (e.place + 1) es ascend.4 (All-tail (IsAtChosen q heads) e es kept)),
    )

value_at-moved : (q : Generator → Bool) (heads : List Generator) (es : List Entry) (k : ℕ) → All (IsAtChosen q heads) es
    → IsChosen q heads k
    → value_at (map (moved_entry (all_places q heads)) es) (chosen_before q heads k) ≡ value_at es k
value_at-moved q heads [] k kept is = refl
value_at-moved q heads (e ∷ es) k kept is =
    let moved = moved_entry (all_places q heads) in
    let here = All-head (IsAtChosen q heads) e es kept in
    let place = places-at q heads e.place here.below in
    elim (cases_eq e.place k) [
      | inl same ↦
          value_at-here (moved e) (map moved es) (chosen_before q heads k) (place ∙ ap (chosen_before q heads) same)
          ∙ sym (value_at-here e es k same)
      | inr other ↦
          value_at-later (moved e) (map moved es) (chosen_before q heads k)
          (λ same. other (before-one q heads e.place k here is (sym place ∙ same)))
          ∙ value_at-moved q heads es k (All-tail (IsAtChosen q heads) e es kept) is
          ∙ sym (value_at-later e es k other)
    ]

-- the entries of a chosen generator's column stand at chosen generators
entries-kept : (choice : Generator → Bool) (p : ℕ) (code : Code) (i j : ℤ) (tail : Generator) (entries : List Entry)
    → IsClosed choice p code → IsTail code i j tail → choice tail ≡ true → IsColumn p code i j tail entries
    → All (IsAtChosen choice (generators_at code (i +ℤ pos 1) j)) entries
entries-kept choice p code i j tail entries closed tails chosen column k d below =
    let heads = generators_at code (i +ℤ pos 1) j in
    let e = get_or entries k d in
    let within : e.place < length heads = column.are.places k d below in
    let positive = column.are.values k d below in
    let value : e.value ≡ coefficient p code tail (get_or heads e.place (generator_of 0 0)) =
    sym (value_at-place p 0 (length heads) k entries d (entries-ascend p (length heads) entries column.are) below)
    ∙ column.values e.place within in
    elim (cases_Bool (choice (get_or heads e.place (generator_of 0 0)))) [
      | inl passes ↦ record { below = within; passes = passes }
      | inr lost ↦
          let head = are-tails code (i +ℤ pos 1) j heads refl e.place (generator_of 0 0) within in
          absurd (omega (
            arith,
            positive.0,
            value,
            closed.each tail (get_or heads e.place (generator_of 0 0)) tails.state_below head.state_below chosen lost,
          ))
    ]

pub column-moved : (choice : Generator → Bool) (p : ℕ) (code : Code) (i j : ℤ) (tail : Generator) (entries : List Entry)
    → IsClosed choice p code → IsTail code i j tail → choice tail ≡ true → IsColumn p code i j tail entries
    → IsColumnTo p code (chosen_at choice code (i +ℤ pos 1) j) tail
    (map (moved_entry (all_places choice (generators_at code (i +ℤ pos 1) j))) entries)
column-moved choice p code i j tail entries closed tails chosen column =
    let heads = generators_at code (i +ℤ pos 1) j in
    let d = generator_of 0 0 in
    let moved = map (moved_entry (all_places choice heads)) entries in
    let kept = entries-kept choice p code i j tail entries closed tails chosen column in
    record {
      are = entries-from_ascend p 0 (length (filter choice heads)) moved
          (ascend-earlier p 0 (chosen_before choice heads 0) (length (filter choice heads)) moved (omega arith)
          (moved-ascend choice heads p 0 entries (entries-ascend p (length heads) entries column.are) kept));
      values = λ row within.
          let at = origin choice heads row d within in
          let is : IsChosen choice heads at.k = record { below = at.below; passes = at.passes } in
          let there = kept-at choice heads at.k d at.below at.passes in
          ap (value_at moved) (sym at.is) ∙ value_at-moved choice heads entries at.k kept is ∙ column.values at.k at.below
          ∙ ap (coefficient p code tail) (sym there.there ∙ ap (λ n. get_or (filter choice heads) n d) at.is);
    }

-- the columns of the chosen generators of two degrees
pub AreColumnsTo-moved : (choice : Generator → Bool) (p : ℕ) (code : Code) (i j : ℤ) (tails : List Generator) (rows : List ℕ)
    (columns : List (List Entry)) → IsClosed choice p code → tails ≡ chosen_at choice code i j
    → rows ≡ all_places choice (generators_at code (i +ℤ pos 1) j) → AreMovedColumns p code i j tails rows columns
    → AreColumnsTo p code (chosen_at choice code i j) (chosen_at choice code (i +ℤ pos 1) j) columns
AreColumnsTo-moved choice p code i j tails rows columns closed is_tails is_rows are =
    let d = generator_of 0 0 in
    let gens = generators_at code i j in
    let heads = generators_at code (i +ℤ pos 1) j in
    let whole = are.whole in
    let move : List Entry → List Entry = map (moved_entry (all_places choice heads)) in
    let is : columns ≡ map move whole = are.are ∙ ap (λ (rs : List ℕ). map (map (moved_entry rs)) whole) is_rows in
    let count = ap length is_tails in
    record {
      size = ap length is ∙ length-map whole move ∙ are.of_tails.size ∙ count;
      each = λ k below.
          let within : k < length whole = omega (arith, below, are.of_tails.size, count) in
          let tail = get_or (chosen_at choice code i j) k d in
          let column : IsColumn p code i j tail (get_or whole k []) =
          subst (λ (xs : List Generator). IsColumn p code i j (get_or xs k d) (get_or whole k [])) is_tails
          (are.of_tails.each k (omega (arith, below, count))) in
          subst (IsColumnTo p code (chosen_at choice code (i +ℤ pos 1) j) tail)
          (sym (ap (λ (xs : List (List Entry)). get_or xs k []) is ∙ get_or-map move whole k [] [] within))
          (column-moved choice p code i j tail (get_or whole k []) closed
          (All-filter choice (IsTail code i j) gens (are-tails code i j gens refl) k d below) (filter_passes choice gens k d below) column);
    }
