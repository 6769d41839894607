use Rattle.std.proofs.Common.{◌≡◌, ℕ, List, [], subst, sym, take}
use Rattle.std.specs.Prelude.{slice_index_or, slice_set}
use Rattle.std.proofs.lemmas.List.{take_all}
use Rattle.sparse_block.specs.Clearing.{without}
use Rattle.sparse_block.specs.Entries.{AreEntries, Entry}
use Rattle.sparse_block.proofs.ClearingLemmas.{AreRemoved, next-entries, removed-more, removed-all}
use Rattle.sparse_block.proofs.clearing.remove_from_each.Goals as goal

pub remove-requires : goal.remove-requires
remove-requires c =
    let entries = c.args.entries.now in
    let k = c.entries.entry-index in
    let e = c.entry-item.result in (
      c.requires.lines.0,
      c.requires.lines.1,
      subst (λ (place : ℕ). AreEntries c.requires.lines.0 c.requires.lines.1 (slice_index_or c.entries.lines place []))
          (sym c.place.ensures.place)
          (next-entries c.requires.entries.0 c.args.place k entries e e c.args.lines.now c.entries.lines
          c.requires.entries.1 c.entries-test.true c.entry-item.is c.entries.invariant
          c.requires.lines.0 c.requires.lines.1 c.requires.lines.2),
    )

pub entries-preserved : goal.entries-preserved
entries-preserved c =
    let k = c.entries.entry-index in
    let entries = c.args.entries.now in
    let e = c.entry-item.result in
    removed-more c.requires.entries.0 c.args.place k entries e e c.args.lines.now c.entries.lines
    c.requires.entries.1 c.entries-test.true c.entry-item.is c.entries.invariant c.remove.new.self
    (subst
    (λ (at : ℕ). c.remove.new.self ≡ slice_set c.entries.lines at (without c.args.place (slice_index_or c.entries.lines at [])))
    c.place.ensures.place c.remove.ensures)

pub returns : goal.returns
returns c =
    let entries = c.args.entries.now in
    let all : take c.entries.entry-index entries ≡ entries = take_all c.entries.entry-index entries c.entries-test.false in
    removed-all c.requires.lines.0 c.requires.lines.1 c.args.place entries c.args.lines.now c.entries.lines
    (subst (λ (es : List Entry). AreRemoved c.args.place es c.args.lines.now c.entries.lines) all c.entries.invariant)
    c.requires.lines.2 c.requires.others
