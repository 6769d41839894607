-- Words mean a command exactly where `clap` takes them and the texts that it finds give the command.
-- `clap` does what the machine does, and the machine goes over lines. Each slot has one text at most, and the texts give a command
-- exactly where each says what the command has there (`Gives`). Both ways (`kh_reads`) make the clauses of the reading, and that words
-- mean one command or none.
use Rattle.std.proofs.lemmas.Bool.Decides.{nat_tests}
use Rattle.std.proofs.Common.{◌≡◌, ℕ, ◌≤◌, ◌⊎◌, Bool, true, List, [], ◌∷◌, ◌++◌, length, Option, Some, None, refl, sym, ap, subst, cond, not, ◌∙◌, arith}
use Rattle.std.proofs.lemmas.List.Elements.{All-cons, All-nil}
use Rattle.std.proofs.lemmas.Option.{none-some, option_and_then_some, same_Some}
use Rattle.std.specs.Prelude.{codes, slice_get}
use Rattle.std.specs.List.{All}
use Rattle.std.specs.Option.{option_and_then}
use Rattle.clap.specs.Walk.{Row, Text, first_of, rows_of}
use Rattle.clap.specs.Simple.{matches_of}
use Rattle.clap.specs.Faults.{fault_of}
use Rattle.clap.specs.declared.parser.matches.Found.{Found}
use Rattle.clap.proofs.WalkLemmas.{first_value-rows}
use Rattle.word_line.specs.declared.command.Command.{Command}
use Rattle.word_line.specs.declared.limits.TheConstants.{WORKERS_DIGITS}
use Rattle.word_line.specs.declared.command.Task.{Task}
use Rattle.word_line.specs.declared.command.Form.{Form}
use Rattle.word_line.specs.declared.command.Form.TheVariants.{Pd}
use Rattle.word_line.specs.Commands.{IsCommand}
use Rattle.word_line.specs.Line.{command_found, kh_line}
use Rattle.word_line.specs.Pieces.{HasNoDash, Key, Piece, apart, joined, positional, positionals}
use Rattle.word_line.specs.Pieces as key
use Rattle.word_line.specs.Reading.{command_given, command_with, field_in, field_of, finished, form_in, form_of, mark_given, number_given, value_mark, value_number, task_of, workers_in, workers_of}
use Rattle.kh_lex.specs.Numerals.{WritesNumber}
use Rattle.word_line.specs.Values.{AreWorkers, IsFieldSize, IsGiven, NamesField, NamesForm, NamesMark, NamesNumber, NamesWorkers, form_name, task_name, values_in}
use Rattle.word_line.proofs.Findings.{Reads, faultless, means-decided, means-one, rows_mean, rows_mean_none, rows_uses}
use Rattle.word_line.proofs.KhRules.{kh}
use Rattle.word_line.proofs.Lines.{line_of, line_taken}
use Rattle.word_line.proofs.Parts.{IsPart, taken_line}
use Rattle.word_line.proofs.Uses.{Distinct, first_of-values, has-some, tasks_of-line, uses_behind, uses_of, values_of, values_of-line}
use Rattle.word_line.proofs.Machine.{ready, taken, with_task}
use Rattle.word_line.proofs.Meanings.{needs-read, IsGiven-read, field_no_dash, given_no_dash, NamesField-read, NamesForm-read, NamesMark-read, NamesNumber-read, NamesWorkers-read, name_of-task, read-needs, read-IsGiven, read-NamesField, read-NamesForm, read-NamesMark, read-NamesNumber, read-NamesWorkers, task_of-name}
use Rattle.word_line.proofs.Rows.{Use, has, rows_at}

-- ---- no legal text begins with `-`

task_no_dash : (task : Task) → HasNoDash (task_name task)
task_no_dash task = grind (arith, nat_tests)

digits_no_dash : (limit : ℕ) (value : Text) (number : ℕ) → WritesNumber limit value number → HasNoDash value
digits_no_dash limit value number written = grind (arith, nat_tests)

workers_no_dash : (value : Text) (count : ℕ) → NamesWorkers value count → HasNoDash value
workers_no_dash value count names = digits_no_dash WORKERS_DIGITS value count names.0

form_name-no_dash : (form : Form) → HasNoDash (form_name form)
form_name-no_dash form = grind (arith, nat_tests)

form_no_dash : (value : Text) (form : Form) → NamesForm value form → HasNoDash value
form_no_dash value form names = subst HasNoDash (sym names) (form_name-no_dash form)

number_no_dash : (value : Text) (number : Option ℕ) → NamesNumber value number → HasNoDash value
number_no_dash value number names = grind (arith, nat_tests)

mark_no_dash : (value : Text) (mark : Option ℕ) → NamesMark value mark → HasNoDash value
mark_no_dash value mark names = grind (arith, nat_tests)

-- ---- the texts of uses

-- the command of the texts that were given
abbrev command_of : List Use → Option Command
command_of uses = command_given (slice_get (values_of None uses) 0) (slice_get (values_of (Some key.field) uses) 0)
    (slice_get (values_of (Some key.workers) uses) 0) (slice_get (values_of (Some key.to) uses) 0)
    (slice_get (values_of (Some key.number) uses) 0)
    (slice_get (values_of (Some key.mark) uses) 0)

-- the same of rows
abbrev pub command_in : List Row → Option Command
command_in rows = command_given (first_of (codes "task") rows) (first_of (codes "field") rows)
    (first_of (codes "workers") rows) (first_of (codes "to") rows) (first_of (codes "number") rows) (first_of (codes "mark") rows)

command_in-uses : (uses : List Use) → command_in (rows_at uses) ≡ command_of uses
command_in-uses uses =
    rw (
      first_of-values None uses,
      first_of-values (Some key.field) uses,
      first_of-values (Some key.workers) uses,
      first_of-values (Some key.to) uses,
      first_of-values (Some key.number) uses,
      first_of-values (Some key.mark) uses,
    ) refl

pub command_found-rows : (found : Found) → command_found found ≡ command_in (rows_of found)
command_found-rows found =
    rw (
      first_value-rows found (codes "task"),
      first_value-rows found (codes "field"),
      first_value-rows found (codes "workers"),
      first_value-rows found (codes "to"),
      first_value-rows found (codes "number"),
      first_value-rows found (codes "mark"),
    ) refl

-- what texts have where they give a command
record Gives (name field workers to number mark : Option Text) (command : Command) : Type 0 where
  text : Text
  is : name ≡ Some text
  task : task_of text ≡ Some command.task
  of_field : field_in field ≡ Some command.field
  of_workers : workers_in workers ≡ Some command.workers
  of_to : form_in to ≡ Some command.to
  of_number : number_given number ≡ Some command.number
  of_mark : mark_given mark ≡ Some command.mark
  done : finished command ≡ Some command

gives_command : (name field workers to number mark : Option Text) (command : Command) → Gives name field workers to number mark command
    → command_given name field workers to number mark ≡ Some command
gives_command name field workers to number mark command gives = grind (arith, nat_tests)

command_gives : (name field workers to number mark : Option Text) (command : Command)
    → command_given name field workers to number mark ≡ Some command → Gives name field workers to number mark command
command_gives name field workers to number mark command same =
    option_and_then_some from_task (option_and_then task_of name) command same (λ t is_t same.
    option_and_then_some (from_field t) (field_in field) command same (λ f is_f same.
    option_and_then_some (from_workers t f) (workers_in workers) command same (λ w is_w same.
    option_and_then_some (from_form t f w) (form_in to) command same (λ o is_o same.
    option_and_then_some (from_number t f w o) (number_given number) command same (λ n is_n same.
    option_and_then_some (from_mark t f w o n) (mark_given mark) command same (λ m is_m same.
    option_and_then_some task_of name t is_t (λ text is_text is_task.
    let made = command_with t f w o n m in
    let end = needs-read made command t n m same in
    subst (Gives name field workers to number mark) end.2 (record {
      text = text;
      is = is_text;
      task = is_task;
      of_field = is_f;
      of_workers = is_w;
      of_to = is_o;
      of_number = is_n;
      of_mark = is_m;
      done = read-needs made t n m end.0 end.1;
    }))))))))
  where
    from_mark : Task → ℕ → ℕ → Form → Option ℕ → Option ℕ → Option Command
    from_mark t f w o n m = finished (command_with t f w o n m)

    from_number : Task → ℕ → ℕ → Form → Option ℕ → Option Command
    from_number t f w o n = option_and_then (from_mark t f w o n) (mark_given mark)

    from_form : Task → ℕ → ℕ → Form → Option Command
    from_form t f w o = option_and_then (from_number t f w o) (number_given number)

    from_workers : Task → ℕ → ℕ → Option Command
    from_workers t f w = option_and_then (from_form t f w) (form_in to)

    from_field : Task → ℕ → Option Command
    from_field t f = option_and_then (from_workers t f) (workers_in workers)

    from_task : Task → Option Command
    from_task t = option_and_then (from_field t) (field_in field)

-- ---- words and commands

one_no_dash : (text : Text) → HasNoDash text → All HasNoDash (text ∷ [])
one_no_dash text plain = All-cons HasNoDash text [] plain (All-nil HasNoDash)

-- `kh` knows all options
all_known : (pieces : List Piece) → All (IsPart kh.knows) pieces
all_known [] = All-nil (IsPart kh.knows)
all_known (piece ∷ pieces) = All-cons (IsPart kh.knows) piece pieces (known piece) (all_known pieces)
  where
    known : (piece : Piece) → IsPart kh.knows piece
    known (positional word) = tt
    known (apart k value) = tt
    known (joined k value) = tt

one_text : (texts : List Text) (text : Text) → length texts ≤ 1 → slice_get texts 0 ≡ Some text → texts ≡ text ∷ []
one_text [] text few same = absurd (none-some text same)
one_text (first ∷ []) text few same = ap (λ t. t ∷ []) (same_Some first text same)
one_text (first ∷ second ∷ more) text few same = absurd (omega arith)

command_is : (words : List Text) (uses : List Use) (command : Command) → taken kh ready [] words ≡ Some uses
    → command_of uses ≡ Some command → IsCommand words command
command_is words uses command took same =
    let line = taken_line kh words uses took in
    let gives = command_gives (slice_get (values_of None uses) 0) (slice_get (values_of (Some key.field) uses) 0)
    (slice_get (values_of (Some key.workers) uses) 0)
    (slice_get (values_of (Some key.to) uses) 0) (slice_get (values_of (Some key.number) uses) 0)
    (slice_get (values_of (Some key.mark) uses) 0)
    command same in
    let tasks : values_of None uses ≡ positionals line.pieces ++ line.behind =
    ap (values_of None) line.is ∙ tasks_of-line line.pieces line.behind in
    let one : values_of None uses ≡ gives.text ∷ [] = one_text (values_of None uses) gives.text (line.distinct None) gives.is in
    let named : gives.text ≡ task_name command.task = name_of-task gives.text command.task gives.task in
    let only : positionals line.pieces ++ line.behind ≡ task_name command.task ∷ [] = sym tasks ∙ one ∙ ap (λ t. t ∷ []) named in
    let needs = needs-read command command command.task command.number command.mark gives.done in
    let values : (k : Key) → values_of (Some k) uses ≡ values_in k line.pieces =
    λ k. ap (values_of (Some k)) line.is ∙ values_of-line k line.pieces line.behind in
    record {
      pieces = line.pieces;
      behind = line.behind;
      line = line_of kh words uses line
          (subst (All HasNoDash) (sym only) (one_no_dash (task_name command.task) (task_no_dash command.task)));
      task = only;
      field = subst (λ v. IsGiven NamesField 2 v command.field) (values key.field)
          (IsGiven-read NamesField field_of 2 NamesField-read (values_of (Some key.field) uses) command.field
          (line.distinct (Some key.field)) gives.of_field);
      workers = subst (λ v. IsGiven NamesWorkers 1 v command.workers) (values key.workers)
          (IsGiven-read NamesWorkers workers_of 1 NamesWorkers-read (values_of (Some key.workers) uses) command.workers
          (line.distinct (Some key.workers)) gives.of_workers);
      to = subst (λ v. IsGiven NamesForm Pd v command.to) (values key.to)
          (IsGiven-read NamesForm form_of Pd NamesForm-read (values_of (Some key.to) uses) command.to
          (line.distinct (Some key.to)) gives.of_to);
      number = subst (λ v. IsGiven NamesNumber None v command.number) (values key.number)
          (IsGiven-read NamesNumber value_number None NamesNumber-read (values_of (Some key.number) uses) command.number
          (line.distinct (Some key.number)) gives.of_number);
      mark = subst (λ v. IsGiven NamesMark None v command.mark) (values key.mark)
          (IsGiven-read NamesMark value_mark None NamesMark-read (values_of (Some key.mark) uses) command.mark
          (line.distinct (Some key.mark)) gives.of_mark);
      needed = needs.0;
      marked = needs.1;
    }

values_no_dash : (words : List Text) (command : Command) (is : IsCommand words command) (k : Key) → All HasNoDash (values_in k is.pieces)
values_no_dash words command is key.field = given_no_dash NamesField 2 field_no_dash (values_in key.field is.pieces) command.field is.field
values_no_dash words command is key.workers =
    given_no_dash NamesWorkers 1 workers_no_dash (values_in key.workers is.pieces) command.workers is.workers
values_no_dash words command is key.to = given_no_dash NamesForm Pd form_no_dash (values_in key.to is.pieces) command.to is.to
values_no_dash words command is key.number =
    given_no_dash NamesNumber None number_no_dash (values_in key.number is.pieces) command.number is.number
values_no_dash words command is key.mark = given_no_dash NamesMark None mark_no_dash (values_in key.mark is.pieces) command.mark is.mark

values_once : (words : List Text) (command : Command) (is : IsCommand words command) (k : Key) → length (values_in k is.pieces) ≤ 1
values_once words command is k = grind (arith, nat_tests)

abbrev line_uses : (words : List Text) (command : Command) → IsCommand words command → List Use
line_uses words command is = uses_of is.pieces ++ uses_behind is.behind

line_distinct : (words : List Text) (command : Command) (is : IsCommand words command) → Distinct (line_uses words command is)
line_distinct words command is None = grind (arith, nat_tests, values_of, tasks_of-line)
line_distinct words command is (Some k) =
    let same : length (values_of (Some k) (line_uses words command is)) ≡ length (values_in k is.pieces) =
    ap length (values_of-line k is.pieces is.behind) in
    let once = values_once words command is k in omega (arith, same, once)

command_taken : (words : List Text) (command : Command) (is : IsCommand words command)
    → taken kh ready [] words ≡ Some (line_uses words command is)
command_taken words command is =
    line_taken kh words is.pieces is.behind is.line (all_known is.pieces) (values_no_dash words command is) (line_distinct words command is)

command_of-line : (words : List Text) (command : Command) (is : IsCommand words command)
    → command_of (line_uses words command is) ≡ Some command
command_of-line words command is =
    let uses = line_uses words command is in
    let values : (k : Key) → values_in k is.pieces ≡ values_of (Some k) uses = λ k. sym (values_of-line k is.pieces is.behind) in
    let tasks : values_of None uses ≡ task_name command.task ∷ [] = tasks_of-line is.pieces is.behind ∙ is.task in
    gives_command (slice_get (values_of None uses) 0) (slice_get (values_of (Some key.field) uses) 0)
    (slice_get (values_of (Some key.workers) uses) 0)
    (slice_get (values_of (Some key.to) uses) 0) (slice_get (values_of (Some key.number) uses) 0)
    (slice_get (values_of (Some key.mark) uses) 0) command (record {
      text = task_name command.task;
      is = ap (λ t. slice_get t 0) tasks;
      task = task_of-name command.task;
      of_field = subst (λ v. field_in (slice_get v 0) ≡ Some command.field) (values key.field)
          (read-IsGiven NamesField field_of 2 read-NamesField (values_in key.field is.pieces) command.field is.field);
      of_workers = subst (λ v. workers_in (slice_get v 0) ≡ Some command.workers) (values key.workers)
          (read-IsGiven NamesWorkers workers_of 1 read-NamesWorkers (values_in key.workers is.pieces) command.workers is.workers);
      of_to = subst (λ v. form_in (slice_get v 0) ≡ Some command.to) (values key.to)
          (read-IsGiven NamesForm form_of Pd read-NamesForm (values_in key.to is.pieces) command.to is.to);
      of_number = subst (λ v. number_given (slice_get v 0) ≡ Some command.number) (values key.number)
          (read-IsGiven NamesNumber value_number None read-NamesNumber (values_in key.number is.pieces) command.number is.number);
      of_mark = subst (λ v. mark_given (slice_get v 0) ≡ Some command.mark) (values key.mark)
          (read-IsGiven NamesMark value_mark None read-NamesMark (values_in key.mark is.pieces) command.mark is.mark);
      done = read-needs command command.task command.number command.mark is.needed is.marked;
    })

-- words mean a command exactly where the rows give it
pub kh_reads : Reads kh IsCommand command_in
kh_reads = record {
  from_rows = λ words rows command took same.
      let uses = rows_uses kh words rows took in
      command_is words uses.0 command uses.1 (sym (command_in-uses uses.0) ∙ ap command_in uses.2 ∙ same);
  to_rows = λ words command is.
      let uses = line_uses words command is in
      let given : has None uses ≡ true = has-some None uses (task_name command.task) (tasks_of-line is.pieces is.behind ∙ is.task) in (
        rows_at uses,
        ap (option_and_then (with_task kh)) (command_taken words command is)
            ∙ ap (λ (b : Bool). cond (not b) None (Some (rows_at uses))) given,
        command_in-uses uses ∙ command_of-line words command is,
      );
}

-- ---- the clauses of the reading

pub command_faultless : (words : List Text) (command : Command) → IsCommand words command → fault_of kh_line words ≡ []
command_faultless = faultless kh_reads

pub found_command : (words : List Text) (found : Found) (command : Command) → fault_of kh_line words ≡ []
    → rows_of found ≡ matches_of kh_line words
    → command_found found ≡ Some command → IsCommand words command
found_command words found command none are same =
    rows_mean kh_reads words (rows_of found) command none are (sym (command_found-rows found) ∙ same)

pub found_none : (words : List Text) (found : Found) → fault_of kh_line words ≡ [] → rows_of found ≡ matches_of kh_line words
    → command_found found ≡ None → (command : Command) → IsCommand words command → ⊥
found_none words found none are same = rows_mean_none kh_reads words (rows_of found) none are (sym (command_found-rows found) ∙ same)

-- the sizes of a command
pub IsCommand-sizes : (words : List Text) (command : Command) → IsCommand words command
    → IsFieldSize command.field × AreWorkers command.workers
IsCommand-sizes words command is = grind (arith, nat_tests)

-- words mean a command, or they mean none
pub IsCommand-decided : (words : List Text) → ((command : Command) × IsCommand words command)
    ⊎ ((command : Command) → IsCommand words command → ⊥)
IsCommand-decided = means-decided kh_reads

-- words mean one command at most
pub IsCommand-one : (words : List Text) (first second : Command) → IsCommand words first → IsCommand words second → first ≡ second
IsCommand-one = means-one kh_reads
