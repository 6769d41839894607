use Rattle.mark_laws.proofs.TwoElements.{dimension-any_mark, table-any_mark}
use Rattle.mark_laws.proofs.laws.marks.marks_do_not_matter_over_two_elements.Goals as goal

pub returns : goal.returns
returns c =
    record {
      dimensions = λ code first second is first_name second_name i j.
          dimension-any_mark code first second is first_name second_name i j;
      tables = table-any_mark;
    }
