use Rattle.view_laws.proofs.Seen.{label-alike, saddle-alike, saddle-plain, seen-alike}
use Rattle.view_laws.proofs.Steps.{outer-alike}
use Rattle.view_laws.proofs.laws.partitions_are_seen_alike.Goals as goal

pub returns : goal.returns
returns c =
    record {
      seen = seen-alike;
      labels = λ first second names label x same has. label-alike first second names same label x has;
      saddles = λ before behind other_before other_behind names label other first second h k.
          saddle-alike before behind other_before other_behind names label other first second h k;
      plain = saddle-plain;
      outer = outer-alike;
    }
