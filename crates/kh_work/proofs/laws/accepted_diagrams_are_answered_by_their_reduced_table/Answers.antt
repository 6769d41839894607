use Rattle.prime_field.specs.SmallFields.{field-small_prime}
use Rattle.kh_work.proofs.ReducedAnswers.{IsAnswer-reduced, IsAnswer-unmarked}
use Rattle.kh_work.proofs.laws.accepted_diagrams_are_answered_by_their_reduced_table.Goals as goal

pub returns : goal.returns
returns c = record {
  answer = IsAnswer-reduced;
  refused = IsAnswer-unmarked;
  sum = λ field code mark exponent is_field is_accepted few marked.
      c.reduced_euler_characteristic.ensures field code mark exponent (field-small_prime field is_field) is_accepted few
      ((c.known_marks.ensures.names code mark).0 marked);
}
