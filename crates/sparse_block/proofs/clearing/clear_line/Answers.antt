use Rattle.std.proofs.Common.{[], length, subst, sym}
use Rattle.sparse_block.specs.Entries.{AreEntries}
use Rattle.sparse_block.proofs.clearing.clear_line.Goals as goal

pub remove_from_each-requires-clause-entries : goal.remove_from_each-requires-clause-entries
remove_from_each-requires-clause-entries c = (
  c.requires.crossed.0,
  subst (AreEntries c.requires.crossed.0 (length c.args.across.now)) (sym c.line.ensures)
      (c.requires.crossed.1.in_lines c.args.place [] c.requires.place),
)
