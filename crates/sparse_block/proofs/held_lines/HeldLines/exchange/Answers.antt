use Rattle.std.proofs.Common.{◌≡◌, ◌∙◌, List, ap, arith, length, subst, sym}
use Rattle.std.specs.Vec.{with_items}
use Rattle.std.proofs.lemmas.List.{length-map, with_items_is}
use Rattle.smallvec.specs.SmallVec.{SmallVec}
use Rattle.sparse_block.specs.Entries.{Entry}
use Rattle.sparse_block.specs.Clearing.{AreExchanged}
use Rattle.sparse_block.specs.Held.{no_entries, padded}
use Rattle.sparse_block.specs.Inside.{entries_in}
use Rattle.sparse_block.proofs.FilledLines.{held-whole, padded-exchanged, padded-whole}
use Rattle.sparse_block.proofs.LineLemmas.{items}
use Rattle.sparse_block.proofs.held_lines.HeldLines.exchange.Goals as goal

pub exchange_lines-self-inside-requires-clause-places : goal.exchange_lines-self-inside-requires-clause-places
exchange_lines-self-inside-requires-clause-places c k d within =
    let held = c.self.inside.lines.items in
    let size = c.self.inside.size in
    let whole = held-whole (entries_in held) c.self.invariant (ap no_entries c.self.view_is ∙ c.requires.some) in
    omega (
      arith,
      c.requires.places k d within,
      ap length (sym c.self.view_is ∙ padded-whole size (entries_in held) whole),
      length-map held items,
      ap length c.deref_mut.ensures.value,
    )

pub returns : goal.returns
returns c =
    let held = c.self.inside.lines.items in
    let size = c.self.inside.size in
    let named = c.args.named.items in
    let after = c.exchange_lines-self-inside.new.lines in
    let some = ap no_entries c.self.view_is ∙ c.requires.some in
    let same : length after ≡ c.self.inside.lines.len =
    omega (arith, c.exchange_lines-self-inside.auto.lines, c.deref_mut.ensures.len) in
    subst (λ (lines : List (List Entry)). AreExchanged named lines (padded size (entries_in (with_items c.self.inside.lines after).items)))
    c.self.view_is
    (subst (λ (lines : List (SmallVec Entry)). AreExchanged named (padded size (entries_in held)) (padded size (entries_in lines)))
    (sym (with_items_is c.self.inside.lines after same))
    (padded-exchanged named (entries_in held) (entries_in after) c.self.invariant some
    (subst (λ (lines : List (SmallVec Entry)). AreExchanged named (entries_in lines) (entries_in after)) c.deref_mut.ensures.value
    c.exchange_lines-self-inside.ensures.lines)))
