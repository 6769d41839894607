use Rattle.kh_work.specs.Orders.{order_of}
use Rattle.kh_work.proofs.CaseAnswers.{IsAnswer-many_bytes, byte_limit-two}
use Rattle.kh_work.proofs.laws.cases.too_many_bytes_are_answered_by_their_limit.Goals as goal

pub returns : goal.returns
returns c = record { answer = IsAnswer-many_bytes; limits = λ command. byte_limit-two (order_of command) }
