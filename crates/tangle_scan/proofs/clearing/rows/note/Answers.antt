use Rattle.std.proofs.Common.{◌∙◌, ℕ, List, [], ◌∷◌, ◌++◌, ap, sym}
use Rattle.tangle_scan.proofs.NotedRows.{more-noted, named-at, names, noted-there}
use Rattle.tangle_scan.proofs.clearing.rows.note.Goals as goal

pub returns-clause-noted : goal.returns-clause-noted
returns-clause-noted c =
    let rows = c.args.rows.now.items in
    let row = c.index_mut.result.now in
    noted-there rows c.args.row c.args.column c.push.new.self c.requires
    (c.in_ok-push.ensures.items
    ∙ ap (λ (xs : List ℕ). xs ++ c.args.column ∷ [])
    (ap names c.index_mut.ensures.value ∙ sym (named-at rows c.args.row row c.requires)))

pub returns-clause-kept : goal.returns-clause-kept
returns-clause-kept c =
    let rows = c.args.rows.now.items in
    let row = c.index_mut.result.now in
    more-noted rows c.args.row c.args.column c.push.new.self c.requires
    (c.in_ok-push.ensures.items
    ∙ ap (λ (xs : List ℕ). xs ++ c.args.column ∷ [])
    (ap names c.index_mut.ensures.value ∙ sym (named-at rows c.args.row row c.requires)))
