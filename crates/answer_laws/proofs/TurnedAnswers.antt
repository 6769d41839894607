-- The answers to what is mirrored, reversed, converted or put beside another.
use Rattle.std.proofs.Common.{◌≡◌, ◌≤◌, ◌∙◌, ℕ, List, length, refl, sym}
use Rattle.kh_types.specs.Code.{Code}
use Rattle.kh_types.specs.declared.limits.TheConstants.{CROSSINGS, INPUT_BYTES, LOOPS}
use Rattle.link_algebra.specs.Mirrors.{mirror_of, reversal_of}
use Rattle.link_algebra.specs.Unions.{crossings_together, loops_together, union_of}
use Rattle.link_algebra.proofs.TurnedCodes.{mirror-accepted, mirror-dimension, mirror-sum, reversal-accepted, reversal-dimension, reversal-sum, small_prime-inverses}
use Rattle.link_algebra.proofs.UnionLemmas.{union-accepted, union-sum_within}
use Rattle.link_laws.proofs.Tables.{table-same}
use Rattle.union_laws.proofs.UnitedTables.{dimension-tables}
use Rattle.word_line.specs.declared.command.Command.{Command}
use Rattle.word_line.specs.declared.command.Form.{Form}
use Rattle.word_line.specs.declared.command.Form.TheVariants.{Gauss, Pd}
use Rattle.word_line.specs.declared.command.Task.TheVariants.{Convert, Mirror, Reverse, Union}
use Rattle.word_line.specs.Commands.{IsCommand}
use Rattle.kh_replies.specs.Convert.{convert_reply}
use Rattle.kh_inputs.specs.Inputs.{IsDiagramText}
use Rattle.kh_inputs.specs.Parts.{code_part, part_behind}
use Rattle.kh_runs.specs.Replies.{Reply}
use Rattle.kh_inputs.proofs.TextFaults.{few_crossings-read, few_loops-read}
use Rattle.kh_work.specs.Answer.{IsAnswer}
use Rattle.kh_work.proofs.OneAnswer.{HaveOneReply-task, IsAnswer-one}
use Rattle.kh_work.proofs.TextAnswers.{IsAnswer-gauss, IsAnswer-planar}
use Rattle.kh_work.proofs.TurnAnswers.{IsAnswer-mirror, IsAnswer-reverse, IsAnswer-union, union_reply-text}
use Rattle.answer_laws.specs.Shown.{HasDualTablesOf, HasProductOf, HasTablesOf, ShowsDiagram}
use Rattle.answer_laws.proofs.DualTables.{table-opposite}
use Rattle.answer_laws.proofs.PrintedCodes.{ShowsDiagram-line, small-read}
use Rattle.answer_laws.proofs.SmallCodes.{length-mirror, small-mirror, small-reversal, small-union}

-- what is said of the code that is written, by that of the code that is read

HasDualTablesOf-mirror : (bytes : List ℕ) (code : Code) → IsDiagramText bytes code → HasDualTablesOf code (mirror_of code)
HasDualTablesOf-mirror bytes code text =
    let is = text.is_accepted in
    record {
      tables = λ field size.
          table-opposite field code (mirror_of code) (length-mirror code)
          (λ i j. mirror-dimension code is field i j (small_prime-inverses field size));
      sums = mirror-sum code is;
    }

HasTablesOf-reversal : (bytes : List ℕ) (code : Code) → IsDiagramText bytes code → HasTablesOf code (reversal_of code)
HasTablesOf-reversal bytes code text =
    let is = text.is_accepted in
    record {
      tables = λ field size.
          table-same field code (reversal_of code) (λ i j. reversal-dimension code is field i j (small_prime-inverses field size));
      sums = reversal-sum code is;
    }

HasProductOf-union : (bytes others : List ℕ) (first second : Code) → IsDiagramText bytes first → IsDiagramText others second
    → HasProductOf first second (union_of first second)
HasProductOf-union bytes others first second text other =
    let few = few_crossings-read bytes first text.read in
    record {
      dimensions = λ field i j size.
          dimension-tables field first second (small_prime-inverses field size) text.is_accepted other.is_accepted few
          (few_crossings-read others second other.read) i j;
      sums = λ exponent. union-sum_within first second exponent text.is_accepted other.is_accepted few;
    }

-- the answers, each of which is the only one

pub ShowsDiagram-mirror : (words : List (List ℕ)) (command : Command) (bytes : List ℕ) (code : Code) (reply : Reply)
    → IsCommand words command → command.task ≡ Mirror → IsDiagramText bytes code → IsAnswer words bytes reply
    → ShowsDiagram (HasDualTablesOf code) reply
ShowsDiagram-mirror words command bytes code reply is_command is_mirror text answered =
    let made = convert_reply Pd (mirror_of code) in
    let same : made ≡ reply =
    IsAnswer-one words bytes made reply (HaveOneReply-task words command Mirror is_command is_mirror (λ e. cc))
    (IsAnswer-mirror words bytes command code is_command is_mirror text.few_bytes text.read text.is_accepted) answered in
    ShowsDiagram-line (HasDualTablesOf code) Pd (mirror_of code) reply same (mirror-accepted code text.is_accepted)
    (small-mirror code (small-read bytes code text)) (few_loops-read bytes code text.read) (HasDualTablesOf-mirror bytes code text)

pub ShowsDiagram-reversal : (words : List (List ℕ)) (command : Command) (bytes : List ℕ) (code : Code) (reply : Reply)
    → IsCommand words command → command.task ≡ Reverse → IsDiagramText bytes code → IsAnswer words bytes reply
    → ShowsDiagram (HasTablesOf code) reply
ShowsDiagram-reversal words command bytes code reply is_command is_reverse text answered =
    let made = convert_reply Pd (reversal_of code) in
    let same : made ≡ reply =
    IsAnswer-one words bytes made reply (HaveOneReply-task words command Reverse is_command is_reverse (λ e. cc))
    (IsAnswer-reverse words bytes command code is_command is_reverse text.few_bytes text.read text.is_accepted) answered in
    ShowsDiagram-line (HasTablesOf code) Pd (reversal_of code) reply same (reversal-accepted code text.is_accepted)
    (small-reversal code (small-read bytes code text)) (few_loops-read bytes code text.read) (HasTablesOf-reversal bytes code text)

-- the text in the form that the words ask for
IsAnswer-in : (form : Form) (words : List (List ℕ)) (command : Command) (bytes : List ℕ) (code : Code) → IsCommand words command
    → command.task ≡ Convert → command.to ≡ form → IsDiagramText bytes code → IsAnswer words bytes (convert_reply form code)
IsAnswer-in Pd words command bytes code is_command is_convert asked text =
    IsAnswer-planar words bytes command code is_command is_convert asked text.few_bytes text.read text.is_accepted
IsAnswer-in Gauss words command bytes code is_command is_convert asked text =
    IsAnswer-gauss words bytes command code is_command is_convert asked text.few_bytes text.read text.is_accepted

pub ShowsDiagram-same : (words : List (List ℕ)) (command : Command) (bytes : List ℕ) (code : Code) (reply : Reply)
    → IsCommand words command → command.task ≡ Convert → IsDiagramText bytes code → IsAnswer words bytes reply
    → ShowsDiagram (λ other. other ≡ code) reply
ShowsDiagram-same words command bytes code reply is_command is_convert text answered =
    let made = convert_reply command.to code in
    let same : made ≡ reply =
    IsAnswer-one words bytes made reply (HaveOneReply-task words command Convert is_command is_convert (λ e. cc))
    (IsAnswer-in command.to words command bytes code is_command is_convert refl text) answered in
    ShowsDiagram-line (λ other. other ≡ code) command.to code reply same text.is_accepted (small-read bytes code text)
    (few_loops-read bytes code text.read) refl

pub ShowsDiagram-union : (words : List (List ℕ)) (command : Command) (bytes : List ℕ) (first second : Code) (reply : Reply)
    → IsCommand words command → command.task ≡ Union → length bytes ≤ INPUT_BYTES → IsDiagramText (code_part bytes) first
    → IsDiagramText (part_behind bytes) second → crossings_together first second ≤ CROSSINGS → loops_together first second ≤ LOOPS
    → IsAnswer words bytes reply → ShowsDiagram (HasProductOf first second) reply
ShowsDiagram-union words command bytes first second reply is_command is_union few text other few_crossings few_loops answered =
    let made = convert_reply Pd (union_of first second) in
    let same : made ≡ reply =
    sym (union_reply-text first second few_crossings few_loops)
    ∙ IsAnswer-one words bytes _ reply (HaveOneReply-task words command Union is_command is_union (λ e. cc))
    (IsAnswer-union words bytes command first second is_command is_union few text.read text.is_accepted other.read other.is_accepted)
    answered in
    ShowsDiagram-line (HasProductOf first second) Pd (union_of first second) reply same
    (union-accepted first second text.is_accepted other.is_accepted few_crossings few_loops)
    (small-union first second (small-read (code_part bytes) first text) few_crossings) few_loops
    (HasProductOf-union (code_part bytes) (part_behind bytes) first second text other)
