use Rattle.kh_lex.proofs.CutReads.{tokens_of-cut, Cuts-one, tokens_of-stop, Stops-uncut}
use Rattle.kh_lex.proofs.laws.tokens_cut_the_text.Goals as goal

pub returns : goal.returns
returns c = record { cut = tokens_of-cut; fault = tokens_of-stop; one = Cuts-one; uncut = Stops-uncut }
