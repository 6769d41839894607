use Rattle.std.proofs.Common.{refl}
use Rattle.link_laws.proofs.worked.known_deformed_counts.Goals as goal

pub returns : goal.returns
returns c = record { deformed_count_trefoil = (refl, refl); deformed_count_hopf_link = (refl, refl) }
