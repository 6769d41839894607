use Rattle.std.proofs.Common.{[], ◌∷◌, refl}
use Rattle.std.specs.Prelude.{codes}
use Rattle.kh_lex.specs.declared.stop.LexStop.TheVariants.{Bad, Number}
use Rattle.kh_lex.proofs.CutReads.{tokens_of-cut, tokens_of-stop}
use Rattle.kh_lex.proofs.laws.worked_tokens.Goals as goal

-- each text is cut by computing
pub returns : goal.returns
returns c = record {
  some = (tokens_of-cut (codes "Xy,\t-007") _).0 refl;
  minus = (tokens_of-stop (codes " - 2") (Bad 1)).0 refl;
  two_minus = (tokens_of-stop (codes "--2") (Bad 0)).0 refl;
  number = (tokens_of-stop (codes "PD]65536") (Number 3)).0 refl;
  form_feed = (tokens_of-stop (32 ∷ 12 ∷ []) (Bad 1)).0 refl;
  first = (tokens_of-stop (codes "70000 ?") (Number 0)).0 refl;
  other_first = (tokens_of-stop (codes "? 70000") (Bad 0)).0 refl;
}
