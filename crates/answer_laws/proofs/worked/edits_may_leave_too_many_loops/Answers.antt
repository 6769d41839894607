use Rattle.std.proofs.Common.{refl, arith}
use Rattle.std.proofs.lemmas.List.Elements.{All-cons, All-nil}
use Rattle.std.specs.Prelude.{[]}
use Rattle.kh_types.specs.Acceptance.{accepted, first_fault}
use Rattle.kh_types.specs.WorkedCodes.{curl, empty_link, slots_with}
use Rattle.diagram_moves.specs.Moved.{moved}
use Rattle.kh_inputs.proofs.TextFaults.{few_loops-read}
use Rattle.answer_laws.proofs.PrintedCodes.{IsDiagramText-planar}
use Rattle.answer_laws.proofs.SmallCodes.{AreFour}
use Rattle.answer_laws.proofs.worked.edits_may_leave_too_many_loops.Goals as goal

pub returns-clause-read : goal.returns-clause-read
unfolding accepted first_fault
returns-clause-read c =
    IsDiagramText-planar (record curl { loops = 8 }) refl
    (record { four = All-cons AreFour (slots_with 1 1 2 2) [] refl (All-nil AreFour); few = omega arith }) (omega arith)

pub returns-clause-after : goal.returns-clause-after
unfolding moved
returns-clause-after c = refl

pub returns-clause-unread : goal.returns-clause-unread
returns-clause-unread c = λ bytes text.
    let few = few_loops-read bytes (record empty_link { loops = 9 }) text.read in omega (arith, few)
