use Rattle.std.proofs.Common.{refl}
use Rattle.link_laws.proofs.worked.known_survivors.Goals as goal

pub returns : goal.returns
returns c = record { code_survivors_trefoil = refl; code_survivors_curl = refl }
