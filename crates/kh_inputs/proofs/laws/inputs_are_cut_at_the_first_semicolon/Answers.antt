use Rattle.kh_inputs.proofs.PartLemmas.{cut-at_semicolon, whole-without}
use Rattle.kh_inputs.proofs.laws.inputs_are_cut_at_the_first_semicolon.Goals as goal

pub returns-clause-behind : goal.returns-clause-behind
returns-clause-behind c = cut-at_semicolon

pub returns-clause-whole : goal.returns-clause-whole
returns-clause-whole c = whole-without
