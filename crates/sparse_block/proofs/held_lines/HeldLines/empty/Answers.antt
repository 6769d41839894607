use Rattle.std.proofs.Common.{◌≡◌, List, [], arith, refl, set, subst}
use Rattle.std.proofs.lemmas.List.{length-map}
use Rattle.sparse_block.specs.Entries.{Entry}
use Rattle.sparse_block.specs.Inside.{entries_in}
use Rattle.sparse_block.proofs.FilledLines.{padded-unset}
use Rattle.sparse_block.proofs.LineLemmas.{items}
use Rattle.sparse_block.proofs.held_lines.HeldLines.empty.Goals as goal

pub returns-else-place-len : goal.returns-else-place-len
returns-else-place-len c =
    let held = c.self.inside.lines.items in
    subst (λ (lines : List (List Entry)). lines ≡ set lines c.args.place []) c.self.view_is
    (padded-unset (entries_in held) c.args.place [] c.self.invariant
    (omega (arith, c.if-place-len.false, c.len.ensures, c.self.inside.lines.ok.0, length-map held items)) refl)
