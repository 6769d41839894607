use Rattle.std.proofs.Common.{◌∙◌, ap, sym, subst, arith}
use Rattle.std.specs.Prelude.{IsTrue}
use Rattle.kh_types.specs.Acceptance.{accepted}
use Rattle.kh_types.specs.Code.{Code}
use Rattle.code_passes.specs.Parts.{ArePaired, Parts}
use Rattle.orient_arcs.specs.Renumbered.{renumber}
use Rattle.braid_maker.proofs.Accepted.{ArePaired-closure, closure-is_accepted}
use Rattle.braid_maker.proofs.closing.closure.Goals as goal

pub renumber-requires : goal.renumber-requires
renumber-requires c =
    subst (λ (parts : Parts). ArePaired parts) (sym c.closure_parts.ensures) (ArePaired-closure c.args.strands c.args.letters.now)

pub returns-clause-code : goal.returns-clause-code
returns-clause-code c = c.renumber.ensures.code ∙ ap renumber c.closure_parts.ensures

pub returns-clause-accepted : goal.returns-clause-accepted
returns-clause-accepted c =
    subst (λ (code : Code). IsTrue (accepted code)) (sym (returns-clause-code c))
    (closure-is_accepted c.args.strands c.args.letters.now c.requires.letters (omega (arith, c.requires.strands)))
