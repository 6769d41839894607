use Rattle.std.proofs.lemmas.Slice.Eq.{slice_eq-Decides}
use Rattle.cancel_step.proofs.ForeignLemmas.{entry-decides}
use Rattle.cancel_step.proofs.comparing.are_same.Goals as goal

pub returns : goal.returns
returns c = slice_eq-Decides entry-decides c.args.left.now c.args.right.now c.eq.result c.eq.ensures
