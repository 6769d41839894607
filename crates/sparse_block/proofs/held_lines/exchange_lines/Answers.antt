use Rattle.sparse_block.specs.Inside.{entries_in}
use Rattle.sparse_block.proofs.ClearingLemmas.{exchanged-step, exchanged-within}
use Rattle.sparse_block.proofs.held_lines.exchange_lines.Goals as goal

pub put_at-counted-requires-clause-place : goal.put_at-counted-requires-clause-place
put_at-counted-requires-clause-place c =
    exchanged-within c.args.named.items c.lines.left.items c.pop.new.self.items c.lines.invariant.1 c.in-Some.line c.args.lines.now
    c.lines.lines c.line.inside.place c.line.inside.entries c.requires.places c.lines.auto.lines c.lines.invariant.2
    c.in-Some.ensures.items c.line.view_is

pub lines-preserved : goal.lines-preserved
lines-preserved c =
    let step =
    exchanged-step c.args.named.items c.lines.left.items c.pop.new.self.items c.lines.invariant.1 c.in-Some.line c.args.lines.now
    c.lines.lines c.line.inside.place c.line.inside.entries c.requires.places c.lines.auto.lines c.lines.invariant.2
    c.in-Some.ensures.items c.line.view_is (entries_in c.put_at-counted.new.lines) c.lines.invariant.3
    c.put_at-counted.ensures.lines in (c.put_at-counted.ensures.count, step.0, step.1, step.2)
