-- What a command orders: what is to be done, with all that it needs.
use Rattle.std.specs.Prelude.{unwrap_or}
use Rattle.word_line.specs.declared.command.Command.{Command}
use Rattle.word_line.specs.declared.command.Task.{Task}
use Rattle.word_line.specs.declared.command.Task.TheVariants as tasks
use Rattle.word_line.specs.Values.{AreWorkers}
use Rattle.kh_work.specs.declared.order.Order.{Order}
use Rattle.kh_work.specs.declared.order.Order.TheVariants.{Bench, Code, Log, Pair, Script}
use Rattle.kh_work.specs.declared.order.CodeOrder.TheVariants.{Certify, Check, Convert, Draw, Homology, Jones, Mirror, Reduced, Reverse}
use Rattle.kh_work.specs.declared.order.ScriptOrder.TheVariants.{Edit, Schedule}

-- what a task orders with the values that a command gives; 0 stands for a mark and for a number where there is none, but no words mean a
-- command that lacks the one which its task needs
abbrev pub order_for : Task → Command → Order
order_for tasks.Homology command = Code (Homology command.field command.workers)
order_for tasks.Jones command = Code Jones
order_for tasks.Check command = Code Check
order_for tasks.Convert command = Code (Convert command.to)
order_for tasks.Draw command = Code Draw
order_for tasks.Certify command = Code (Certify command.field)
order_for tasks.Reduced command = Code (Reduced command.field (unwrap_or command.mark 0))
order_for tasks.Mirror command = Code Mirror
order_for tasks.Reverse command = Code Reverse
order_for tasks.Edit command = Script Edit
order_for tasks.Schedule command = Script (Schedule command.field)
order_for tasks.Union command = Pair
order_for tasks.Verify command = Log
order_for tasks.Bench command = Bench command.field command.workers (unwrap_or command.number 0)

-- what a command orders
abbrev pub order_of : Command → Order
order_of command = order_for command.task command

-- an order names from 1 to WORKERS workers, where it names any
abbrev pub HasWorkers : Order → Type 0
HasWorkers (Code (Homology field workers)) = AreWorkers workers
HasWorkers (Bench field workers number) = AreWorkers workers
HasWorkers _ = Unit {0}
