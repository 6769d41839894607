use Rattle.braid_maker.proofs.LetterTests.{letters-tested}
use Rattle.braid_maker.proofs.letters.are_letters.Goals as goal

pub returns : goal.returns
returns c = letters-tested c.args.strands c.args.letters.now c.pass_all.result c.pass_all.ensures
