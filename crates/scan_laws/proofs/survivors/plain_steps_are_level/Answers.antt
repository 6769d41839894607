use Rattle.scan_laws.specs.LevelSteps.{IsFilteredStep}
use Rattle.scan_laws.proofs.KeptSteps.{level-step}
use Rattle.scan_laws.proofs.survivors.plain_steps_are_level.Goals as goal

pub returns : goal.returns
returns c =
    record {
      filtered = λ p hd hh code plus minus scan next field cancels is of complex step.
          IsFilteredStep.level_step (level-step p hd hh code plus minus field cancels is scan next of complex step);
      level = λ p hd hh code plus minus scan next field cancels is of complex step.
          level-step p hd hh code plus minus field cancels is scan next of complex step;
    }
