use Rattle.std.proofs.Common.{◌≡◌, ◌∙◌, ℕ, [], ◌∷◌, ◌++◌, ap, subst}
use Rattle.std.specs.Prelude.{slice_index_or, slice_set}
use Rattle.sparse_block.specs.Entries.{Entry, entry_at}
use Rattle.sparse_block.specs.Inside.{entries_in}
use Rattle.sparse_block.proofs.LineLemmas.{entries-height}
use Rattle.sparse_block.proofs.MatrixLemmas.{column-more}
use Rattle.sparse_block.proofs.lines.push_column.Goals as goal

pub entries-preserved : goal.entries-preserved
entries-preserved c =
    let p = c.requires.entries.0 in
    let rows = c.args.rows.now.items in
    let k = c.entries.entry-index in
    let entries = c.args.entries.now in
    let entry = c.entry-item.result in
    let before = entries_in c.entries.rows.items in
    let after = entries_in c.push_entry.new.rows.items in
    let IsPut : ℕ → Entry → Type 0 =
    λ place entry. after ≡ slice_set before place (slice_index_or before place [] ++ entry ∷ []) in
    let made = c.new.ensures ∙ ap (λ (value : ℕ). entry_at (c.args.column, value)) c.value.ensures.value in
    let put =
    subst (λ (place : ℕ). IsPut place (entry_at (c.args.column, entry.value))) c.place.ensures.place
    (subst (IsPut c.place.result) made c.in_ok-push_entry.ensures) in
    column-more p c.args.column k entries entry entry (entries_in rows) before after
    (entries-height p rows entries c.requires.entries.1) c.entries-test.true c.entry-item.is c.entries.invariant put
