use Rattle.kh_types.specs.declared.limits.TheConstants.{CROSSINGS}
use Rattle.std.proofs.Common.{arith}
use Rattle.morse_drawing.proofs.Pairs.{AreAlikeCodes-sketched}
use Rattle.morse_drawing.proofs.laws.drawings_tell_codes.Goals as goal

pub returns : goal.returns
returns c = λ code joins is small joined. AreAlikeCodes-sketched CROSSINGS code joins (omega arith) small is joined
