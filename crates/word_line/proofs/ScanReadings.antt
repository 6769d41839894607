-- Words mean a command of `kh-scan` exactly where `clap` takes them and the texts that it finds give the command.
-- The way is that of `kh` (`Readings`): `clap` does what the machine does, the machine goes over lines, each slot has one text at most,
-- and the texts give a command exactly where they ask for it. The parts of such a line give no option but `--field`.
use Rattle.std.proofs.Common.{◌≡◌, ◌≤◌, ◌⊎◌, false, List, [], ◌∷◌, ◌++◌, length, Option, Some, None, refl, sym, ap, ap₂, subst, cond, ◌∙◌, arith}
use Rattle.std.proofs.lemmas.List.Elements.{All-head, All-nil, All-tail, All-weaker}
use Rattle.std.specs.Prelude.{codes, slice_get}
use Rattle.std.specs.List.{All}
use Rattle.std.specs.Option.{option_and_then}
use Rattle.clap.specs.Walk.{Row, Text, first_of, rows_of}
use Rattle.clap.specs.Simple.{matches_of}
use Rattle.clap.specs.Faults.{fault_of}
use Rattle.clap.specs.declared.parser.matches.Found.{Found}
use Rattle.clap.proofs.WalkLemmas.{first_value-rows}
use Rattle.word_line.specs.declared.scan_command.ScanCommand.{ScanCommand}
use Rattle.word_line.specs.Pieces.{HasNoDash, Key, Piece, apart, joined, positional, positionals}
use Rattle.word_line.specs.Pieces as key
use Rattle.word_line.specs.ScanCommands.{AsksFor, HasFieldSizes, IsScanCommand, IsScanPart}
use Rattle.word_line.specs.ScanLine.{scan_command_found, scan_line}
use Rattle.word_line.specs.ScanReading.{scan_command_given}
use Rattle.word_line.specs.Values.{same_key, values_in}
use Rattle.word_line.proofs.Findings.{Reads, faultless, means-decided, means-one, rows_mean, rows_mean_none, rows_uses}
use Rattle.word_line.proofs.Lines.{line_of, line_taken}
use Rattle.word_line.proofs.Machine.{ready, taken, with_task}
use Rattle.word_line.proofs.Parts.{IsPart, taken_line}
use Rattle.word_line.proofs.Rows.{Use, rows_at}
use Rattle.word_line.proofs.ScanMeanings.{AsksFor-read, AsksFor-sizes, asked_names, asked_values, read-AsksFor}
use Rattle.word_line.proofs.ScanRules.{IsField, scan}
use Rattle.word_line.proofs.Uses.{Distinct, first_of-values, tasks_of-line, uses_behind, uses_of, values_of, values_of-line}

-- ---- the parts of a line

part_known : (piece : Piece) → IsPart IsField piece → IsScanPart piece
part_known (positional word) known = tt
part_known (apart k value) known = known
part_known (joined k value) known = known

known_part : (piece : Piece) → IsScanPart piece → IsPart IsField piece
known_part (positional word) known = tt
known_part (apart k value) known = known
known_part (joined k value) known = known

-- another option has no value
values_in-other : (k : Key) (pieces : List Piece) → same_key k key.field ≡ false → All IsScanPart pieces → values_in k pieces ≡ []
values_in-other k [] other known = refl
values_in-other k (positional word ∷ pieces) other known =
    values_in-other k pieces other (All-tail IsScanPart (positional word) pieces known)
values_in-other k (apart own value ∷ pieces) other known =
    let same : same_key k own ≡ false = ap (same_key k) (All-head IsScanPart (apart own value) pieces known) ∙ other in
    ap (λ b. cond b (value ∷ values_in k pieces) (values_in k pieces)) same
    ∙ values_in-other k pieces other (All-tail IsScanPart (apart own value) pieces known)
values_in-other k (joined own value ∷ pieces) other known =
    let same : same_key k own ≡ false = ap (same_key k) (All-head IsScanPart (joined own value) pieces known) ∙ other in
    ap (λ b. cond b (value ∷ values_in k pieces) (values_in k pieces)) same
    ∙ values_in-other k pieces other (All-tail IsScanPart (joined own value) pieces known)

-- what holds of the values of `--field`, and of none, holds of the values of each option
of_values : (P : List Text → Type 0) (pieces : List Piece) → All IsScanPart pieces → P [] → P (values_in key.field pieces)
    → (k : Key) → P (values_in k pieces)
of_values P pieces known none given key.field = given
of_values P pieces known none given key.workers = subst P (sym (values_in-other key.workers pieces refl known)) none
of_values P pieces known none given key.to = subst P (sym (values_in-other key.to pieces refl known)) none
of_values P pieces known none given key.number = subst P (sym (values_in-other key.number pieces refl known)) none
of_values P pieces known none given key.mark = subst P (sym (values_in-other key.mark pieces refl known)) none

-- ---- the texts of uses

-- the command of the texts that were given
abbrev command_of : List Use → Option ScanCommand
command_of uses = scan_command_given (slice_get (values_of None uses) 0) (slice_get (values_of (Some key.field) uses) 0)

-- the same of rows
abbrev pub scan_command_in : List Row → Option ScanCommand
scan_command_in rows = scan_command_given (first_of (codes "task") rows) (first_of (codes "field") rows)

scan_command_in-uses : (uses : List Use) → scan_command_in (rows_at uses) ≡ command_of uses
scan_command_in-uses uses = ap₂ scan_command_given (first_of-values None uses) (first_of-values (Some key.field) uses)

scan_command_found-rows : (found : Found) → scan_command_found found ≡ scan_command_in (rows_of found)
scan_command_found-rows found = ap₂ scan_command_given (first_value-rows found (codes "task")) (first_value-rows found (codes "field"))

-- ---- words and commands

command_is : (words : List Text) (uses : List Use) (command : ScanCommand) → taken scan ready [] words ≡ Some uses
    → command_of uses ≡ Some command → IsScanCommand words command
command_is words uses command took same =
    let parts = taken_line scan words uses took in
    let names : values_of None uses ≡ positionals parts.pieces ++ parts.behind =
    ap (values_of None) parts.is ∙ tasks_of-line parts.pieces parts.behind in
    let values : values_of (Some key.field) uses ≡ values_in key.field parts.pieces =
    ap (values_of (Some key.field)) parts.is ∙ values_of-line key.field parts.pieces parts.behind in
    let asked : AsksFor (positionals parts.pieces ++ parts.behind) (values_in key.field parts.pieces) command =
    AsksFor-read (positionals parts.pieces ++ parts.behind) (values_in key.field parts.pieces) command
    (subst (λ l. length l ≤ 1) names (parts.distinct None)) (subst (λ l. length l ≤ 1) values (parts.distinct (Some key.field)))
    (ap₂ (λ n v. scan_command_given (slice_get n 0) (slice_get v 0)) (sym names) (sym values) ∙ same) in
    record {
      pieces = parts.pieces;
      behind = parts.behind;
      line = line_of scan words uses parts
          (asked_names (positionals parts.pieces ++ parts.behind) (values_in key.field parts.pieces) command asked).1;
      options = All-weaker (IsPart IsField) IsScanPart part_known parts.pieces parts.known;
      asked = asked;
    }

abbrev line_uses : (words : List Text) (command : ScanCommand) → IsScanCommand words command → List Use
line_uses words command is = uses_of is.pieces ++ uses_behind is.behind

line_names : (words : List Text) (command : ScanCommand) (is : IsScanCommand words command)
    → (length (positionals is.pieces ++ is.behind) ≤ 1) × All HasNoDash (positionals is.pieces ++ is.behind)
line_names words command is = asked_names (positionals is.pieces ++ is.behind) (values_in key.field is.pieces) command is.asked

line_values : (words : List Text) (command : ScanCommand) (is : IsScanCommand words command) (k : Key)
    → (length (values_in k is.pieces) ≤ 1) × All HasNoDash (values_in k is.pieces)
line_values words command is =
    of_values (λ values. (length values ≤ 1) × All HasNoDash values) is.pieces is.options (omega arith, All-nil HasNoDash)
    (asked_values (positionals is.pieces ++ is.behind) (values_in key.field is.pieces) command is.asked)

line_distinct : (words : List Text) (command : ScanCommand) (is : IsScanCommand words command) → Distinct (line_uses words command is)
line_distinct words command is None =
    subst (λ l. length l ≤ 1) (sym (tasks_of-line is.pieces is.behind)) (line_names words command is).0
line_distinct words command is (Some k) =
    subst (λ l. length l ≤ 1) (sym (values_of-line k is.pieces is.behind)) (line_values words command is k).0

command_taken : (words : List Text) (command : ScanCommand) (is : IsScanCommand words command)
    → taken scan ready [] words ≡ Some (line_uses words command is)
command_taken words command is =
    line_taken scan words is.pieces is.behind is.line (All-weaker IsScanPart (IsPart IsField) known_part is.pieces is.options)
    (λ k. (line_values words command is k).1) (line_distinct words command is)

command_of-line : (words : List Text) (command : ScanCommand) (is : IsScanCommand words command)
    → command_of (line_uses words command is) ≡ Some command
command_of-line words command is =
    ap₂ (λ n v. scan_command_given (slice_get n 0) (slice_get v 0)) (tasks_of-line is.pieces is.behind)
    (values_of-line key.field is.pieces is.behind)
    ∙ read-AsksFor (positionals is.pieces ++ is.behind) (values_in key.field is.pieces) command is.asked

-- words mean a command exactly where the rows give it
pub scan_reads : Reads scan IsScanCommand scan_command_in
scan_reads = record {
  from_rows = λ words rows command took same.
      let uses = rows_uses scan words rows took in
      command_is words uses.0 command uses.1 (sym (scan_command_in-uses uses.0) ∙ ap scan_command_in uses.2 ∙ same);
  to_rows = λ words command is.
      let uses = line_uses words command is in (
        rows_at uses,
        ap (option_and_then (with_task scan)) (command_taken words command is),
        scan_command_in-uses uses ∙ command_of-line words command is,
      );
}

-- ---- the clauses of the reading

pub scan_faultless : (words : List Text) (command : ScanCommand) → IsScanCommand words command → fault_of scan_line words ≡ []
scan_faultless = faultless scan_reads

pub found_scan : (words : List Text) (found : Found) (command : ScanCommand) → fault_of scan_line words ≡ []
    → rows_of found ≡ matches_of scan_line words → scan_command_found found ≡ Some command → IsScanCommand words command
found_scan words found command none are same =
    rows_mean scan_reads words (rows_of found) command none are (sym (scan_command_found-rows found) ∙ same)

pub found_no_scan : (words : List Text) (found : Found) → fault_of scan_line words ≡ [] → rows_of found ≡ matches_of scan_line words
    → scan_command_found found ≡ None → (command : ScanCommand) → IsScanCommand words command → ⊥
found_no_scan words found none are same =
    rows_mean_none scan_reads words (rows_of found) none are (sym (scan_command_found-rows found) ∙ same)

pub IsScanCommand-sizes : (words : List Text) (command : ScanCommand) → IsScanCommand words command → HasFieldSizes command
IsScanCommand-sizes words command is =
    AsksFor-sizes (positionals is.pieces ++ is.behind) (values_in key.field is.pieces) command is.asked

-- words mean a command, or they mean none
pub IsScanCommand-decided : (words : List Text)
    → ((command : ScanCommand) × IsScanCommand words command) ⊎ ((command : ScanCommand) → IsScanCommand words command → ⊥)
IsScanCommand-decided = means-decided scan_reads

-- words mean one command at most
pub IsScanCommand-one : (words : List Text) (first second : ScanCommand) → IsScanCommand words first → IsScanCommand words second
    → first ≡ second
IsScanCommand-one = means-one scan_reads
