use Rattle.scan_laws.proofs.KeptSteps.{dimension-step, stays-step}
use Rattle.scan_laws.proofs.survivors.steps_keep_survivors.Goals as goal

pub returns : goal.returns
returns c =
    record {
      of = λ p hd hh code plus minus scan next field cancels is of filtered step.
          (stays-step p hd hh code plus minus field cancels is scan next of filtered step).of;
      filtered = λ p hd hh code plus minus scan next field cancels is of filtered step.
          (stays-step p hd hh code plus minus field cancels is scan next of filtered step).filtered;
      survivors = λ p hd hh code plus minus scan next field cancels is of filtered step.
          (stays-step p hd hh code plus minus field cancels is scan next of filtered step).count;
      dimensions = λ p hd hh code plus minus scan next field cancels is of filtered step.
          dimension-step p hd hh code plus minus field cancels is scan next of filtered step;
    }
