use Rattle.std.proofs.lemmas.Bool.Decides.{nat_tests}
use Rattle.std.proofs.Common.{◌≢◌, ◌∙◌, sym, arith}
use Rattle.std.specs.Prelude.{slice_index}
use Rattle.kh_types.proofs.JoinedClasses.{class_count-joined, class_count-joined_together}
use Rattle.circle_smoothing.specs.declared.branches.TheConstants.{MEMBERS}
use Rattle.circle_smoothing.proofs.branches.fewer.Goals as goal

pub returns-then-class_of-clause-fewer : goal.returns-then-class_of-clause-fewer
returns-then-class_of-clause-fewer = grind (arith, nat_tests, class_count-joined_together)

pub returns-else-class_of-clause-fewer : goal.returns-else-class_of-clause-fewer
returns-else-class_of-clause-fewer c =
    let apart : slice_index c.args.classes.now c.args.pair.0 ≢ slice_index c.args.classes.now c.args.pair.1 =
    λ same. c.if-class_of.false (c.class_of.ensures ∙ same ∙ sym c.class_of-2.ensures) in
    omega (
      arith,
      class_count-joined MEMBERS c.args.classes.now c.args.pair c.requires.named c.requires.first c.requires.second apart,
    )
