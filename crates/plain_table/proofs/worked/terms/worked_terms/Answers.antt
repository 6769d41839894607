use Rattle.std.proofs.Common.{refl}
use Rattle.std.specs.Fmt.{digits}
use Rattle.plain_table.proofs.worked.terms.worked_terms.Goals as goal

pub returns-clause-Term : goal.returns-clause-Term
unfolding digits
returns-clause-Term c = refl

pub returns-clause-term_text : goal.returns-clause-term_text
unfolding digits
returns-clause-term_text c = refl

pub returns-clause-terms_text : goal.returns-clause-terms_text
unfolding digits
returns-clause-terms_text c = refl

pub returns-clause-polynomial_text : goal.returns-clause-polynomial_text
unfolding digits
returns-clause-polynomial_text c = refl
