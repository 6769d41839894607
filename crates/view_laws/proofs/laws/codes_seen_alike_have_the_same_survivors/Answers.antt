use Rattle.view_laws.proofs.PlainViews.{survivors-plain}
use Rattle.view_laws.proofs.laws.codes_seen_alike_have_the_same_survivors.Goals as goal

pub returns : goal.returns
returns c =
    λ p h old new plus minus names arc new_arc field circles new_circles is new_is size alike i t.
    survivors-plain p h old new plus minus names arc new_arc field circles new_circles is new_is size alike i t
