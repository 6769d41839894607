use Rattle.std.proofs.Common.{refl}
use Rattle.link_laws.proofs.worked.known_s.Goals as goal

pub returns : goal.returns
returns c = record { s_unknot = (refl, refl); s_curl = (refl, refl); s_left = (refl, refl); s_right = (refl, refl) }
