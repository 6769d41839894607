use Rattle.std.proofs.Common.{subst, sym}
use Rattle.kh_lex.specs.Lines.{CutsLines}
use Rattle.kh_lex.specs.LineWords.{CutsWords}
use Rattle.kh_lex.proofs.LineCuts.{CutsLines-lines_of, lines_of-CutsLines}
use Rattle.kh_lex.proofs.WordCuts.{CutsWords-words_of, words_of-CutsWords}
use Rattle.kh_lex.proofs.laws.each_text_is_cut_in_one_way.Goals as goal

pub returns : goal.returns
returns c = record {
  lines = λ text lines. (λ same. subst (CutsLines text) same (CutsLines-lines_of text), λ cut. sym (lines_of-CutsLines text lines cut));
  words = λ line words. (λ same. subst (CutsWords line) same (CutsWords-words_of line), λ cut. sym (words_of-CutsWords line words cut));
}
