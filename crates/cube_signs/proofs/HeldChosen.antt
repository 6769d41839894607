-- A column of the block over chosen generators that is held, and its last entry, from those of the generator that stands at its place.
use Rattle.std.proofs.Common.{◌≡◌, ◌∙◌, ◌<◌, ◌≤◌, ◌+◌, ◌*◌, ℕ, ℤ, pos, ◌+ℤ◌, ◌-ℤ◌, List, [], length, map, get_or, ap, sym, subst, arith, Bool, true, None}
use Rattle.std.specs.Global.{Vec}
use Rattle.std.specs.List.{All, last_or}
use Rattle.std.specs.Prelude.{slice_index_or, Option}
use Rattle.std.proofs.lemmas.Int.{ints}
use Rattle.kh_types.specs.Code.{Code}
use Rattle.kh_types.specs.Generators.{Generator, generator_of, generators_at, states}
use Rattle.circle_smoothing.specs.GeneratorCounts.{generator_count}
use Rattle.circle_smoothing.specs.declared.limits.TheConstants.{GENERATORS}
use Rattle.sparse_block.specs.Complexes.{NamedComplex}
use Rattle.sparse_block.specs.Entries.{Entry}
use Rattle.sparse_block.specs.Inside.{lists_in}
use Rattle.sparse_block.specs.Opening.{IsColumnOf, IsLastEntry}
use Rattle.sparse_block.proofs.LineLemmas.{list-lists_in, within-names}
use Rattle.cube_signs.specs.Chosen.{chosen_at, chosen_block}
use Rattle.cube_signs.specs.ChosenParts.{all_places, moved_entry}
use Rattle.cube_signs.specs.Columns.{IsColumn, IsLastOf, IsTail}
use Rattle.cube_signs.specs.OpeningBlocks.{IsChosenBlock}
use Rattle.cube_signs.specs.Tables.{own_base}
use Rattle.cube_signs.specs.declared.chosen.AllChosen.{AllChosen}
use Rattle.cube_signs.specs.declared.limits.TheConstants.{PLACES}
use Rattle.cube_signs.specs.declared.around.Around.{Around}
use Rattle.cube_signs.proofs.BlockSources.{IsAtPlace, column-chosen, names-chosen, place-chosen}
use Rattle.cube_signs.proofs.ChosenBlocks.{places-behind}
use Rattle.cube_signs.proofs.ChosenColumns.{column-moved}
use Rattle.cube_signs.proofs.ChosenPlaces.{places-small}
use Rattle.cube_signs.proofs.GeneratorPlaces.{length-generators_at}

module _ {choice : Generator → Bool} {p : ℕ} {code : Code} {low j : ℤ} {bases : List ℕ} {around beside : Around}
    (chosen : AllChosen)
    (held : IsChosenBlock p choice code low j (lists_in chosen.names.items) (lists_in chosen.before.items) bases around beside)
    {named : NamedComplex} (seen : chosen_block choice p code j ≡ named) (k place : ℕ) (degree : Vec Generator)
    (within : k < length named.names) (there : place < length (slice_index_or named.names k []))
    (at : degree ≡ get_or chosen.names.items k degree) where
  abbrev i : ℤ
  i = pos k -ℤ pos (length code.crossings)

  names : lists_in chosen.names.items ≡ named.names
  names = held.are_names ∙ names-chosen choice p code j ∙ ap (λ (named : NamedComplex). named.names) seen

  inside : k < length (lists_in chosen.names.items)
  inside = omega (arith, within, ap length names)

  below : place < length (slice_index_or (lists_in chosen.names.items) k [])
  below = omega (arith, there, ap (λ (lists : List (List Generator)). length (slice_index_or lists k [])) names)

  pub place-held : place < length degree.items
  place-held = omega (arith, below, ap length (list-lists_in chosen.names.items k degree (within-names chosen.names.items k inside) at))

  module _ (tail : Generator) (is : tail ≡ get_or degree.items place tail) where
    here : (degree.items ≡ chosen_at choice code i j) × (k < 2 * length code.crossings + 1) × (choice tail ≡ true)
        × IsAtPlace code i j degree.items place tail
    here = place-chosen code j chosen.names.items k place degree tail inside below at is choice held.are_names

    pub tail-held : IsTail code (pos k -ℤ pos (length code.crossings)) j tail
    tail-held = here.3.tails

    -- with the new numbers of the rows
    module _ (lists : List (Vec ℕ)) (heads : List ℕ) (are_heads : heads ≡ slice_index_or (lists_in lists) (k + 1) [])
        (are_lists : lists ≡ chosen.before.items) where
      rows : heads ≡ all_places choice (generators_at code (i +ℤ pos 1) j)
      rows =
          are_heads ∙ ap (λ (lists : List (Vec ℕ)). slice_index_or (lists_in lists) (k + 1) []) are_lists
          ∙ places-behind choice code j k (lists_in chosen.before.items) held.are_places here.1

      pub heads-held : generator_count code ≤ GENERATORS → All (λ (head : ℕ). head < PLACES) heads
      heads-held size =
          let all = generators_at code (i +ℤ pos 1) j in
          subst (All (λ (head : ℕ). head < PLACES)) (sym rows)
          (places-small choice all PLACES (omega (arith, length-generators_at code (i +ℤ pos 1) j size)))

      column-at : (entries : List Entry) → IsColumn p code i j tail entries
          → IsColumnOf p named.complex (named.complex.low +ℤ pos k) place (map (moved_entry heads) entries)
      column-at entries column =
          let whole = (chosen_block choice p code j).complex in
          let moved : List ℕ → List Entry = λ heads. map (moved_entry heads) entries in
          let first : place < length (chosen_at choice code i j) = omega (arith, here.3.within, ap length here.0) in
          let is_tail : tail ≡ get_or (chosen_at choice code i j) place (generator_of 0 0) =
          here.3.is ∙ ap (λ (names : List Generator). get_or names place (generator_of 0 0)) here.0 in
          let from_low : i ≡ whole.low +ℤ pos k = omega (arith, ints) in
          subst (λ (named : NamedComplex). IsColumnOf p named.complex (named.complex.low +ℤ pos k) place (moved heads)) seen
          (subst (λ (i : ℤ). IsColumnOf p whole i place (moved heads)) from_low
          (subst (λ (heads : List ℕ). IsColumnOf p whole i place (moved heads)) (sym rows)
          (column-chosen choice p code j i place tail (moved (all_places choice (generators_at code (i +ℤ pos 1) j))) first is_tail
          (column-moved choice p code i j tail entries held.closed tail-held here.2 column))))

      pub column-held : (entries : List Entry)
          → ((i j : ℤ) → bases ≡ map (own_base code j) (states code) → IsTail code i j tail → IsColumn p code i j tail entries)
          → IsColumnOf p named.complex (named.complex.low +ℤ pos k) place (map (moved_entry heads) entries)
      column-held entries columns = column-at entries (columns i j held.are_bases tail-held)

      -- the same of its last entry
      pub last-held : (last made : Option Entry)
          → ((i j : ℤ) → bases ≡ map (own_base code j) (states code) → IsTail code i j tail → IsLastOf p code i j tail last)
          → ((entries : List Entry) → last ≡ last_or None entries → made ≡ last_or None (map (moved_entry heads) entries))
          → IsLastEntry p named.complex (named.complex.low +ℤ pos k) place made
      last-held last made lasts moved =
          let own = lasts i j held.are_bases tail-held in
          record {
            entries = map (moved_entry heads) own.entries;
            are = column-at own.entries own.are;
            is = moved own.entries own.is;
          }
