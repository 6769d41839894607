use Rattle.link_laws.proofs.Paths.{link-accepted, link-back, link-onward, link-own}
use Rattle.link_laws.proofs.laws.one_link_is_an_equivalence.Goals as goal

pub returns : goal.returns
returns c = record { own = link-own; back = link-back; onward = link-onward; accepted = link-accepted }
