use Rattle.std.proofs.lemmas.Bool.Decides.{Decides-eqb}
use Rattle.std.proofs.lemmas.Slice.Eq.{strip_prefix_is}
use Rattle.cancel_log.proofs.LineTexts.{stripped-none, stripped-some}
use Rattle.cancel_log.proofs.saying.behind.Goals as goal

pub returns-clause-some : goal.returns-clause-some
returns-clause-some c =
    stripped-some c.args.line.now c.args.front.now c.strip_prefix.result
    (strip_prefix_is Decides-eqb c.args.line.now c.args.front.now c.strip_prefix.result c.strip_prefix.ensures.cases)

pub returns-clause-none : goal.returns-clause-none
returns-clause-none c =
    stripped-none c.args.line.now c.args.front.now c.strip_prefix.result
    (strip_prefix_is Decides-eqb c.args.line.now c.args.front.now c.strip_prefix.result c.strip_prefix.ensures.cases)
