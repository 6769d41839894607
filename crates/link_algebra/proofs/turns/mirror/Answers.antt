use Rattle.std.proofs.Common.{◌∙◌, neg_ℤ, IsTrue, ap, subst, sym}
use Rattle.kh_types.specs.Acceptance.{accepted}
use Rattle.kh_types.specs.Code.{Code}
use Rattle.kh_types.specs.Directions.{is_positive}
use Rattle.kh_types.specs.StateSum.{state_sum}
use Rattle.kh_types.specs.Table.{dimension}
use Rattle.code_passes.specs.Parts.{ArePaired, Parts}
use Rattle.orient_arcs.specs.Renumbered.{renumber}
use Rattle.link_algebra.specs.Mirrors.{mirror_parts}
use Rattle.link_algebra.proofs.MirrorParts.{IsTurnOf-mirror, mirror_turn}
use Rattle.link_algebra.proofs.TurnedCodes.{mirror-accepted, mirror-dimension, mirror-sum, small_prime-inverses}
use Rattle.link_algebra.proofs.TurnedParts.{paired}
use Rattle.link_algebra.proofs.turns.mirror.Goals as goal

pub renumber-requires : goal.renumber-requires
renumber-requires c =
    subst (λ (parts : Parts). ArePaired parts) (sym c.mirror_parts.ensures)
    (paired (λ crossing. mirror_turn (is_positive c.args.diagram.now.crossings crossing)) c.args.diagram.now c.diagram_laws.ensures.accepted
    (mirror_parts c.args.diagram.now) (IsTurnOf-mirror c.args.diagram.now c.diagram_laws.ensures.accepted))

pub of_accepted-requires : goal.of_accepted-requires
of_accepted-requires c =
    subst (λ (code : Code). IsTrue (accepted code)) (sym (c.renumber.ensures.code ∙ ap renumber c.mirror_parts.ensures))
    (mirror-accepted c.args.diagram.now c.diagram_laws.ensures.accepted)

pub returns-clause-code : goal.returns-clause-code
returns-clause-code c = c.of_accepted.ensures ∙ c.renumber.ensures.code ∙ ap renumber c.mirror_parts.ensures

pub returns-clause-dimensions : goal.returns-clause-dimensions
returns-clause-dimensions c = λ p prime i j.
    ap (λ (code : Code). dimension p code (neg_ℤ i) (neg_ℤ j)) (returns-clause-code c)
    ∙ mirror-dimension c.args.diagram.now c.diagram_laws.ensures.accepted p i j (small_prime-inverses p prime)

pub returns-clause-sum : goal.returns-clause-sum
returns-clause-sum c = λ exponent.
    ap (λ (code : Code). state_sum code (neg_ℤ exponent)) (returns-clause-code c)
    ∙ mirror-sum c.args.diagram.now c.diagram_laws.ensures.accepted exponent
