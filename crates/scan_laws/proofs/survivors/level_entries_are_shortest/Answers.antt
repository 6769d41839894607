use Rattle.scan_laws.proofs.Levels.{shortest-level, shortest-levels}
use Rattle.scan_laws.proofs.survivors.level_entries_are_shortest.Goals as goal

pub returns : goal.returns
returns c =
    record {
      level = λ p hd hh code plus minus scan next field cancels is of filtered less same.
          shortest-level p hd hh code plus minus scan next
          (record { field = field; cancels = cancels; accepted_is = is; of = of; less = less }) filtered same;
      gap = λ p hd hh code plus minus scan next gap field cancels is of least less same.
          shortest-levels p hd hh code plus minus scan next
          (record { field = field; cancels = cancels; accepted_is = is; of = of; less = less }) gap least same;
    }
