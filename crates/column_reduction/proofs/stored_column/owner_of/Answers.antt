use Rattle.std.proofs.Common.{◌∙◌, List, ap, sym, ℕ}
use Rattle.std.specs.Prelude.{Option, None, slice_index_or}
use Rattle.column_reduction.proofs.Storing.{owner-at}
use Rattle.column_reduction.proofs.stored_column.owner_of.Goals as goal

pub returns-in-Some : goal.returns-in-Some
returns-in-Some c =
    let owners = c.args.stored.now.owners.items in
    c.owner_at.ensures ∙ ap (λ (owners : List (Option ℕ)). slice_index_or owners c.in-Some.row None) c.deref.ensures.value
    ∙ ap (λ (row : ℕ). slice_index_or owners row None) c.in-Some.ensures.some.1
    ∙ sym (owner-at owners c.args.line.now c.in-Some.ensures.some.0)
