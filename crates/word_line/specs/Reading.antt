-- The reading of the texts that a line gives, as the way of the code.
use Rattle.std.specs.Prelude.{ℕ, nat_le, ◌&&◌, if◌then◌else◌, List, codes, Option, None, Some}
use Rattle.std.specs.Option.{option_map, option_and_then}
use Rattle.std.specs.Borrow.{Bor}
use Rattle.std.specs.Str.{bytes_eq}
use Rattle.kh_lex.specs.Numerals.{numeral_of}
use Rattle.word_line.specs.declared.command.Task.{Task}
use Rattle.word_line.specs.declared.command.Task.TheVariants.{Homology, Jones, Check, Convert, Edit, Draw, Schedule, Bench, Certify, Verify, Reduced, Mirror, Reverse, Union}
use Rattle.word_line.specs.declared.command.Form.{Form}
use Rattle.word_line.specs.declared.command.Form.TheVariants.{Pd, Gauss}
use Rattle.word_line.specs.declared.command.Command.{Command}
use Rattle.kh_types.specs.declared.limits.TheConstants.{WORKERS}
use Rattle.word_line.specs.declared.limits.TheConstants.{MARK_DIGITS, MARK_LIMIT, NUMBER_DIGITS, WORKERS_DIGITS}

-- the task of a name
abbrev pub task_of : List ℕ → Option Task
task_of name =
    if bytes_eq name (codes "homology") then Some Homology
    else if bytes_eq name (codes "jones") then Some Jones
    else if bytes_eq name (codes "check") then Some Check
    else if bytes_eq name (codes "convert") then Some Convert
    else if bytes_eq name (codes "edit") then Some Edit
    else if bytes_eq name (codes "draw") then Some Draw
    else if bytes_eq name (codes "schedule") then Some Schedule
    else if bytes_eq name (codes "bench") then Some Bench
    else if bytes_eq name (codes "certify") then Some Certify
    else if bytes_eq name (codes "verify") then Some Verify
    else if bytes_eq name (codes "reduced") then Some Reduced
    else if bytes_eq name (codes "mirror") then Some Mirror
    else if bytes_eq name (codes "reverse") then Some Reverse
    else if bytes_eq name (codes "union") then Some Union
    else None

-- the field of a value
abbrev pub field_of : List ℕ → Option ℕ
field_of value =
    if bytes_eq value (codes "2") then Some 2 else if bytes_eq value (codes "3") then Some 3
    else if bytes_eq value (codes "5") then Some 5 else if bytes_eq value (codes "7") then Some 7 else None

-- the number of workers of a value
abbrev pub workers_of : List ℕ → Option ℕ
workers_of value =
    option_and_then (λ count. if nat_le 1 count && nat_le count WORKERS then Some count else None) (numeral_of WORKERS_DIGITS value)

-- the form of a value
abbrev pub form_of : List ℕ → Option Form
form_of value =
    if bytes_eq value (codes "pd") then Some Pd else if bytes_eq value (codes "gauss") then Some Gauss else None

-- the number of a value
abbrev pub value_number : List ℕ → Option (Option ℕ)
value_number value = option_map (λ number. Some number) (numeral_of NUMBER_DIGITS value)

-- the mark of a value
abbrev pub value_mark : List ℕ → Option (Option ℕ)
value_mark value =
    option_and_then (λ mark. if nat_le mark MARK_LIMIT then Some (Some mark) else None) (numeral_of MARK_DIGITS value)

-- what a value says, or the default where there is none
abbrev pub given_by : {X : Type 0} → (List ℕ → Option X) → X → Option (List ℕ) → Option X
given_by reading default None = Some default
given_by reading default (Some value) = reading value

-- the text behind a reference
abbrev pub word_behind : Option (Bor (List ℕ)) → Option (List ℕ)
word_behind = option_map (λ s. s.now)

-- the field of a value; of two elements where there is none
abbrev pub field_in : Option (List ℕ) → Option ℕ
field_in = given_by field_of 2

-- the number of workers of a value; one where there is none
abbrev pub workers_in : Option (List ℕ) → Option ℕ
workers_in = given_by workers_of 1

-- the form of a value; that of planar diagram texts where there is none
abbrev pub form_in : Option (List ℕ) → Option Form
form_in = given_by form_of Pd

-- the number of a value; none where there is no value
abbrev pub number_given : Option (List ℕ) → Option (Option ℕ)
number_given = given_by value_number None

-- the mark of a value; none where there is no value
abbrev pub mark_given : Option (List ℕ) → Option (Option ℕ)
mark_given = given_by value_mark None

-- a command, unless it lacks the number or the mark that its task needs
abbrev pub finished_with : Command → Task → Option ℕ → Option ℕ → Option Command
finished_with command Bench None mark = None
finished_with command Reduced number None = None
finished_with command _ _ _ = Some command

abbrev pub finished : Command → Option Command
finished command = finished_with command command.task command.number command.mark

-- the command of a task and options
abbrev pub command_with : Task → ℕ → ℕ → Form → Option ℕ → Option ℕ → Command
command_with task field workers to number mark =
    record { task = task; field = field; workers = workers; to = to; number = number; mark = mark }

-- the command of the texts that a line gives: its positional, and the values of `--field`, `--workers`, `--to`, `--number` and `--mark`
abbrev pub command_given : Option (List ℕ) → Option (List ℕ) → Option (List ℕ) → Option (List ℕ) → Option (List ℕ) → Option (List ℕ)
    → Option Command
command_given name field workers to number mark =
    option_and_then (λ t. option_and_then (λ f. option_and_then (λ w. option_and_then (λ o. option_and_then (λ n. option_and_then (λ m.
    finished (command_with t f w o n m)) (mark_given mark)) (number_given number)) (form_in to)) (workers_in workers)) (field_in field))
    (option_and_then task_of name)
