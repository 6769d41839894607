-- What a run answers: a relation between words, the bytes of an input, and a reply. A law says that words and bytes have exactly one
-- reply, unless the words mean `certify`: an input that this does not refuse is answered by any log of its diagram that can be verified.
use Rattle.std.specs.Prelude.{◌≡◌, ◌≢◌, ◌⊎◌, ℕ, List, Some, None}
use Rattle.kh_types.specs.Code.{Code}
use Rattle.word_line.specs.declared.command.Task.TheVariants as tasks
use Rattle.word_line.specs.declared.command.Command.{Command}
use Rattle.word_line.specs.Commands.{IsCommand, IsUsage}
use Rattle.kh_runs.specs.Replies.{Reply}
use Rattle.kh_runs.specs.Refusals.{usage}
use Rattle.kh_runs.specs.LimitedReplies.{IsLimitedReply}
use Rattle.kh_inputs.specs.Parts.{code_part, part_behind}
use Rattle.kh_inputs.specs.DiagramReplies.{IsDiagramReply}
use Rattle.kh_replies.specs.Convert.{convert_reply}
use Rattle.kh_replies.specs.Check.{check_reply}
use Rattle.kh_replies.specs.Draw.{draw_reply}
use Rattle.kh_replies.specs.Jones.{jones_reply}
use Rattle.kh_replies.specs.Turns.{mirror_reply, reverse_reply}
use Rattle.kh_work.specs.Union.{IsUnionReply}
use Rattle.kh_work.specs.ByteLimits.{byte_limit}
use Rattle.kh_work.specs.Certify.{IsCertifyReply}
use Rattle.kh_work.specs.Homology.{homology_reply}
use Rattle.kh_work.specs.Reduced.{reduced_reply}
use Rattle.kh_work.specs.Schedule.{IsScheduleReply}
use Rattle.kh_work.specs.Edit.{IsEditReply}
use Rattle.kh_work.specs.Bench.{bench_reply}
use Rattle.kh_work.specs.Verify.{IsVerifyReply}
use Rattle.kh_work.specs.Orders.{order_of}
use Rattle.kh_work.specs.declared.order.Order.{Order}
use Rattle.kh_work.specs.declared.order.Order.TheVariants as orders
use Rattle.kh_work.specs.declared.order.CodeOrder.{CodeOrder}
use Rattle.kh_work.specs.declared.order.CodeOrder.TheVariants.{Certify, Check, Convert, Draw, Homology, Jones, Mirror, Reduced, Reverse}
use Rattle.kh_work.specs.declared.order.ScriptOrder.{ScriptOrder}
use Rattle.kh_work.specs.declared.order.ScriptOrder.TheVariants.{Edit, Schedule}

-- the reply of an order to the code of a diagram
abbrev pub IsCodeReply : CodeOrder → Code → Reply → Type 0
IsCodeReply (Homology field workers) code reply = reply ≡ homology_reply field code
IsCodeReply Jones code reply = reply ≡ jones_reply code
IsCodeReply Check code reply = reply ≡ check_reply code
IsCodeReply (Convert to) code reply = reply ≡ convert_reply to code
IsCodeReply Draw code reply = reply ≡ draw_reply code
IsCodeReply (Certify field) code reply = IsCertifyReply field code reply
IsCodeReply (Reduced field mark) code reply = reply ≡ reduced_reply field mark code
IsCodeReply Mirror code reply = reply ≡ mirror_reply code
IsCodeReply Reverse code reply = reply ≡ reverse_reply code

-- the reply of an order to the text of a script and the code of a diagram
abbrev pub IsScriptedReply : ScriptOrder → List ℕ → Code → Reply → Type 0
IsScriptedReply Edit script code reply = IsEditReply code script reply
IsScriptedReply (Schedule field) script code reply = IsScheduleReply field code script reply

-- the reply of an order to the bytes of an input, which hold what it reads
abbrev pub IsOrderReply : Order → List ℕ → Reply → Type 0
IsOrderReply (orders.Code order) bytes reply = IsDiagramReply (IsCodeReply order) bytes reply
IsOrderReply (orders.Script order) bytes reply = IsDiagramReply (IsScriptedReply order (part_behind bytes)) (code_part bytes) reply
IsOrderReply orders.Pair bytes reply = IsDiagramReply (λ code. IsUnionReply code (part_behind bytes)) (code_part bytes) reply
IsOrderReply orders.Log bytes reply = IsVerifyReply bytes reply
IsOrderReply (orders.Bench field workers number) bytes reply = reply ≡ bench_reply field number

-- the reply of an order to the bytes of an input, which may be more than it reads
abbrev pub IsInputReply : Order → List ℕ → Reply → Type 0
IsInputReply order bytes reply = IsLimitedReply (byte_limit order) bytes (IsOrderReply order bytes) reply

-- the reply of a command to the bytes of an input: that of what it orders
abbrev pub IsCommandReply : Command → List ℕ → Reply → Type 0
IsCommandReply command bytes reply = IsInputReply (order_of command) bytes reply

-- a reply is that of an order, whatever the bytes of the input are
abbrev pub IsBlindReply : Order → Reply → Type 0
IsBlindReply order reply = (bytes : List ℕ) → IsInputReply order bytes reply

-- the answer to words and to the bytes of an input: the reply of the command that the words mean, and the usage line where they
-- mean none
unfoldable pub IsAnswer : List (List ℕ) → List ℕ → Reply → Type 0
IsAnswer words bytes reply =
    ((command : Command) × IsCommand words command × IsCommandReply command bytes reply) ⊎ (IsUsage words × (reply ≡ usage))

-- words mean no command whose reply is one of many
abbrev pub HaveOneReply : List (List ℕ) → Type 0
HaveOneReply words = (command : Command) → IsCommand words command → command.task ≢ tasks.Certify

-- words read nothing: they mean no command, or one whose order reads nothing
abbrev pub ReadsNothing : List (List ℕ) → Type 0
ReadsNothing words = (command : Command) → IsCommand words command → byte_limit (order_of command) ≡ None

-- words read bytes up to a limit: the order of the command that they mean does
pub record ReadsUpTo (words : List (List ℕ)) (limit : ℕ) : Type 0 where
  pub command : Command
  pub meant : IsCommand words command
  pub limited : byte_limit (order_of command) ≡ Some limit
