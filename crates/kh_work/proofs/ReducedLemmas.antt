-- What answers a diagram at a mark.
use Rattle.std.proofs.Common.{◌≡◌, ◌++◌, ◌∙◌, ℕ, Bool, true, false, ap, sym, IfOk, Result, Ok, Err, Some, nat_lt, cond}
use Rattle.std.specs.Prelude.{Option, unwrap_or}
use Rattle.kh_types.specs.Code.{Code}
use Rattle.kh_types.specs.Table.{Table, table_text}
use Rattle.circle_smoothing.specs.GeneratorCounts.{generator_count}
use Rattle.circle_smoothing.specs.declared.limits.TheConstants.{GENERATORS}
use Rattle.reduced_cube.specs.Reduced.{is_mark, reduced_table}
use Rattle.word_line.specs.declared.command.Command.{Command}
use Rattle.word_line.specs.declared.command.Task.{Task}
use Rattle.word_line.specs.declared.command.Task.TheVariants as tasks
use Rattle.kh_runs.specs.declared.status.Status.TheVariants.{Done}
use Rattle.kh_runs.specs.Homology.{jones_line}
use Rattle.kh_runs.specs.Replies.{Reply, reply_of}
use Rattle.kh_runs.specs.Refusals.{refused_mark}
use Rattle.kh_replies.specs.Limits.{too_many_generators}
use Rattle.kh_work.specs.declared.order.Order.TheVariants as orders
use Rattle.kh_work.specs.declared.order.CodeOrder.TheVariants.{Reduced}
use Rattle.kh_work.specs.Orders.{order_for, order_of}
use Rattle.kh_work.specs.Reduced.{mark_line, reduced_reply, reduced_text}

-- the reply where the number is a mark, and where it is none
abbrev marked_reply : ℕ → ℕ → Code → Reply
marked_reply field mark code =
    cond (nat_lt GENERATORS (generator_count code)) (too_many_generators (generator_count code)) (reply_of Done (reduced_text field mark code))

chosen : (test : Bool) (this other : Reply) (value : Bool) → test ≡ value → cond test this other ≡ cond value this other
chosen test this other value same = ap (λ (b : Bool). cond b this other) same

reduced_reply-few : (field mark : ℕ) (code : Code) → is_mark code mark ≡ true → nat_lt GENERATORS (generator_count code) ≡ false
    → reduced_reply field mark code ≡ reply_of Done (reduced_text field mark code)
reduced_reply-few field mark code marked few =
    chosen (is_mark code mark) (marked_reply field mark code) (refused_mark mark) true marked
    ∙ chosen (nat_lt GENERATORS (generator_count code)) (too_many_generators (generator_count code))
    (reply_of Done (reduced_text field mark code)) false few

-- the reply with the table that was made
pub reduced_reply-made : {E : Type 0} (result : Result Reply E) (field mark : ℕ) (code : Code) (made : Table)
    → made ≡ reduced_table field code mark → is_mark code mark ≡ true → nat_lt GENERATORS (generator_count code) ≡ false
    → IfOk result (λ reply. reply ≡ reply_of Done (mark_line mark ++ (table_text made ++ jones_line code)))
    → IfOk result (λ reply. reply ≡ reduced_reply field mark code)
unfolding reduced_text
reduced_reply-made (Ok reply) field mark code made same marked few is =
    is ∙ ap (λ (t : Table). reply_of Done (mark_line mark ++ (table_text t ++ jones_line code))) same
    ∙ sym (reduced_reply-few field mark code marked few)
reduced_reply-made (Err stop) field mark code made same marked few is = tt

pub reduced_reply-text : (field mark : ℕ) (code : Code) → is_mark code mark ≡ true → nat_lt GENERATORS (generator_count code) ≡ false
    → reduced_reply field mark code ≡ reply_of Done (mark_line mark ++ (table_text (reduced_table field code mark) ++ jones_line code))
unfolding reduced_text
reduced_reply-text field mark code marked few = reduced_reply-few field mark code marked few

-- the refusals
pub reduced_reply-unmarked : (field mark : ℕ) (code : Code) → is_mark code mark ≡ false → refused_mark mark ≡ reduced_reply field mark code
reduced_reply-unmarked field mark code none =
    sym (chosen (is_mark code mark) (marked_reply field mark code) (refused_mark mark) false none)

pub reduced_reply-large : (field mark : ℕ) (code : Code) → is_mark code mark ≡ true → nat_lt GENERATORS (generator_count code) ≡ true
    → too_many_generators (generator_count code) ≡ reduced_reply field mark code
reduced_reply-large field mark code marked many =
    sym (chosen (is_mark code mark) (marked_reply field mark code) (refused_mark mark) true marked
    ∙ chosen (nat_lt GENERATORS (generator_count code)) (too_many_generators (generator_count code))
    (reply_of Done (reduced_text field mark code)) true many)

-- what a command with a mark orders
pub order-reduced : (command : Command) (mark : ℕ) → command.task ≡ tasks.Reduced → command.mark ≡ Some mark
    → order_of command ≡ orders.Code (Reduced command.field mark)
order-reduced command mark is_reduced is_given =
    ap (λ (t : Task). order_for t command) is_reduced ∙ ap (λ (o : Option ℕ). orders.Code (Reduced command.field (unwrap_or o 0))) is_given
