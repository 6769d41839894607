use Rattle.table_text.proofs.RowOrder.{All-before_last}
use Rattle.table_text.proofs.lines.follows.Goals as goal

pub returns-in-Some : goal.returns-in-Some
returns-in-Some c =
    let both = All-before_last c.args.rows.now c.in-Some.last.now c.args.row c.requires c.in-Some.ensures.item.3.0
    c.in-Some.ensures.item.3.1 in (
      (λ is. both.0 (c.is_before.ensures.0 is)),
      (λ all. c.is_before.ensures.1 (both.1 all)),
    )
