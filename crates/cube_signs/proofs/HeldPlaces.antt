-- A column of the block whose places are held, and its last entry, from those of the generator that stands at its place.
use Rattle.std.proofs.Common.{◌≡◌, ◌∙◌, ◌<◌, ◌^◌, ℕ, ℤ, pos, ◌+ℤ◌, List, [], length, map, get_or, ap, sym, subst, arith}
use Rattle.std.specs.Global.{Vec}
use Rattle.std.specs.Prelude.{slice_index_or, Option}
use Rattle.kh_types.specs.Code.{Code}
use Rattle.kh_types.specs.Generators.{Generator, generator_of, generators_at, states}
use Rattle.kh_types.specs.History.{block, first_or_zero, homological_degrees}
use Rattle.sparse_block.specs.Entries.{Entry}
use Rattle.sparse_block.specs.Inside.{lists_in}
use Rattle.sparse_block.specs.Opening.{IsColumnOf, IsLastEntry}
use Rattle.cube_signs.specs.Columns.{AreFound, AreOuts, IsColumn, IsLastOf, IsTail}
use Rattle.cube_signs.specs.OpeningBlocks.{AreBlockPlaces}
use Rattle.cube_signs.specs.Tables.{own_base}
use Rattle.cube_signs.specs.declared.outs.Out.{Out}
use Rattle.cube_signs.specs.declared.block_places.BlockPlaces.{BlockPlaces}
use Rattle.cube_signs.proofs.BlockSources.{column-block, place-block}

module _ (p : ℕ) (code : Code) (places : BlockPlaces) (are : AreBlockPlaces p code places.least.j places) (k place : ℕ)
    (degree : Vec Generator) (tail : Generator) (within : k < length (lists_in places.names.items))
    (there : place < length (slice_index_or (lists_in places.names.items) k [])) (at : degree ≡ get_or places.names.items k degree)
    (is : tail ≡ get_or degree.items place tail) where
  abbrev j : ℤ
  j = places.least.j

  abbrev i : ℤ
  i = first_or_zero (homological_degrees code j) +ℤ pos k

  pub tail-held : IsTail code (first_or_zero (homological_degrees code places.least.j) +ℤ pos k) places.least.j tail
  tail-held = (place-block code j places.names.items k place degree tail within there at is are.are_names).1.tails

  column-at : (entries : List Entry) → IsColumn p code i j tail entries → IsColumnOf p (block p code j) i place entries
  column-at entries column =
      let here = place-block code j places.names.items k place degree tail within there at is are.are_names in
      let d = generator_of 0 0 in
      let inside : place < length (generators_at code i j) = omega (arith, here.1.within, ap length here.0) in
      let is_tail : tail ≡ get_or (generators_at code i j) place d =
      here.1.is ∙ ap (λ (names : List Generator). get_or names place d) here.0 in
      column-block p code j i place tail entries inside is_tail column

  pub column-held : (entries : List Entry)
      → ((i j : ℤ) → places.bases.items ≡ map (own_base code j) (states code) → IsTail code i j tail → IsColumn p code i j tail entries)
      → IsColumnOf p (block p code places.least.j) (first_or_zero (homological_degrees code places.least.j) +ℤ pos k) place entries
  column-held entries columns = column-at entries (columns i j are.are_bases tail-held)

  -- the same of its last entry
  pub last-held : (last : Option Entry)
      → ((i j : ℤ) → places.bases.items ≡ map (own_base code j) (states code) → IsTail code i j tail → IsLastOf p code i j tail last)
      → IsLastEntry p (block p code places.least.j) (first_or_zero (homological_degrees code places.least.j) +ℤ pos k) place last
  last-held last lasts =
      let own = lasts i j are.are_bases tail-held in
      record { entries = own.entries; are = column-at own.entries own.are; is = own.is }

-- edges that were found before serve where they are out of a generator's state
pub outs-near : (p : ℕ) (code : Code) (bases : List ℕ) (i j : ℤ) (tail : Generator) (state : ℕ) (outs : List Out) → tail.state ≡ state
    → IsTail code i j tail → AreFound p code bases state outs → AreOuts p code bases tail.state outs
outs-near p code bases i j tail state outs same tails found =
    subst (λ (state : ℕ). AreOuts p code bases state outs) (sym same)
    (found (subst (λ (state : ℕ). state < 2 ^ length code.crossings) same tails.state_below))
