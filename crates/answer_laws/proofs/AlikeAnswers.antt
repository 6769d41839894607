-- Answers that are alike: those to diagrams of one link, and those at two marks over two elements.
use Rattle.std.proofs.Common.{◌≡◌, ◌≤◌, ◌++◌, ◌∙◌, ℕ, List, ap}
use Rattle.std.specs.Prelude.{Some, true}
use Rattle.std.proofs.Math.Path.{fun_ext}
use Rattle.circle_smoothing.specs.GeneratorCounts.{generator_count}
use Rattle.circle_smoothing.specs.declared.limits.TheConstants.{GENERATORS}
use Rattle.kh_types.specs.Code.{Code}
use Rattle.kh_types.specs.StateSum.{polynomial_text}
use Rattle.kh_types.specs.Table.{Table, table, table_text}
use Rattle.link_algebra.proofs.TurnedCodes.{small_prime-inverses}
use Rattle.link_laws.specs.Links.{AreOneLink}
use Rattle.link_laws.proofs.Paths.{dimension-link, sum-link}
use Rattle.link_laws.proofs.Tables.{table-same}
use Rattle.reduced_cube.specs.Reduced.{is_mark, reduced_table}
use Rattle.reduced_cube.proofs.MarkLemmas.{IsName-mark}
use Rattle.mark_laws.proofs.TwoElements.{table-any_mark}
use Rattle.word_line.specs.declared.command.Command.{Command}
use Rattle.word_line.specs.declared.command.Task.TheVariants.{Homology, Jones, Reduced}
use Rattle.word_line.specs.Commands.{IsCommand}
use Rattle.word_line.proofs.Readings.{IsCommand-sizes}
use Rattle.kh_runs.specs.declared.status.Status.TheVariants.{Done}
use Rattle.kh_inputs.specs.Inputs.{IsDiagramText}
use Rattle.kh_runs.specs.Homology.{jones_line}
use Rattle.kh_runs.specs.Replies.{Reply, reply_of}
use Rattle.kh_work.specs.Answer.{IsAnswer}
use Rattle.kh_work.specs.Reduced.{mark_line}
use Rattle.kh_work.proofs.AnswerLemmas.{IsAnswer-jones, IsAnswer-table}
use Rattle.kh_work.proofs.OneAnswer.{HaveOneReply-task, IsAnswer-one}
use Rattle.kh_work.proofs.ReducedAnswers.{IsAnswer-reduced}

-- diagrams of one link have one Jones line
jones_line-link : (first last : Code) → AreOneLink first last → jones_line last ≡ jones_line first
unfolding jones_line
jones_line-link first last link = ap polynomial_text (fun_ext (λ exponent. sum-link first last exponent link))

-- and so one reply with the table
headline-link : (words : List (List ℕ)) (command : Command) (first last : Code) → IsCommand words command → AreOneLink first last
    → table_text (table command.field last) ++ jones_line last ≡ table_text (table command.field first) ++ jones_line first
headline-link words command first last is_command link =
    let inverses = small_prime-inverses command.field (IsCommand-sizes words command is_command).0 in
    ap (λ (homology : Table). table_text homology ++ jones_line last)
    (table-same command.field first last (dimension-link command.field first last inverses link))
    ∙ ap (λ line. table_text (table command.field first) ++ line) (jones_line-link first last link)

pub one-homology : (words : List (List ℕ)) (command : Command) (bytes others : List ℕ) (first last : Code) (reply other : Reply)
    → IsCommand words command → command.task ≡ Homology → AreOneLink first last
    → IsDiagramText bytes first → generator_count first ≤ GENERATORS
    → IsDiagramText others last → generator_count last ≤ GENERATORS
    → IsAnswer words bytes reply → IsAnswer words others other → other ≡ reply
one-homology words command bytes others first last reply other is_command is_task link text few second few_too answered answered_too =
    let one = HaveOneReply-task words command Homology is_command is_task (λ e. cc) in
    IsAnswer-one words others other _ one answered_too
    (IsAnswer-table words others command last is_command is_task second.few_bytes second.read second.is_accepted few_too)
    ∙ ap (reply_of Done) (headline-link words command first last is_command link)
    ∙ IsAnswer-one words bytes _ reply one
    (IsAnswer-table words bytes command first is_command is_task text.few_bytes text.read text.is_accepted few) answered

pub one-polynomial : (words : List (List ℕ)) (command : Command) (bytes others : List ℕ) (first last : Code) (reply other : Reply)
    → IsCommand words command → command.task ≡ Jones → AreOneLink first last
    → IsDiagramText bytes first → IsDiagramText others last
    → IsAnswer words bytes reply → IsAnswer words others other → other ≡ reply
one-polynomial words command bytes others first last reply other is_command is_task link text second answered answered_too =
    let one = HaveOneReply-task words command Jones is_command is_task (λ e. cc) in
    IsAnswer-one words others other _ one answered_too
    (IsAnswer-jones words others command last is_command is_task second.few_bytes second.read second.is_accepted)
    ∙ ap (reply_of Done) (jones_line-link first last link)
    ∙ IsAnswer-one words bytes _ reply one
    (IsAnswer-jones words bytes command first is_command is_task text.few_bytes text.read text.is_accepted) answered

-- what is answered at a mark over two elements
marked-reply : (words : List (List ℕ)) (command : Command) (bytes : List ℕ) (code : Code) (mark : ℕ) (reply : Reply)
    → IsCommand words command → command.task ≡ Reduced → command.field ≡ 2 → command.mark ≡ Some mark → is_mark code mark ≡ true
    → IsDiagramText bytes code → generator_count code ≤ GENERATORS → IsAnswer words bytes reply
    → reply ≡ reply_of Done (mark_line mark ++ (table_text (reduced_table 2 code mark) ++ jones_line code))
marked-reply words command bytes code mark reply is_command is_task is_two is_given marked text few answered =
    let made = reply_of Done (mark_line mark ++ (table_text (reduced_table command.field code mark) ++ jones_line code)) in
    let same : reply ≡ made =
    IsAnswer-one words bytes reply made (HaveOneReply-task words command Reduced is_command is_task (λ e. cc)) answered
    (IsAnswer-reduced words bytes command mark code is_command is_task is_given text.few_bytes text.read text.is_accepted marked few) in
    same ∙ ap (λ field. reply_of Done (mark_line mark ++ (table_text (reduced_table field code mark) ++ jones_line code))) is_two

pub one-reduced : (words others : List (List ℕ)) (command asked : Command) (bytes : List ℕ) (code : Code) (mark other_mark : ℕ)
    (reply other : Reply)
    → IsCommand words command → command.task ≡ Reduced → command.field ≡ 2 → command.mark ≡ Some mark → is_mark code mark ≡ true
    → IsCommand others asked → asked.task ≡ Reduced → asked.field ≡ 2 → asked.mark ≡ Some other_mark → is_mark code other_mark ≡ true
    → IsDiagramText bytes code → generator_count code ≤ GENERATORS → IsAnswer words bytes reply → IsAnswer others bytes other
    → (text : List ℕ) × (reply ≡ reply_of Done (mark_line mark ++ text)) × (other ≡ reply_of Done (mark_line other_mark ++ text))
one-reduced words others command asked bytes code mark other_mark reply other is_command is_task is_two is_given marked is_asked is_task_too
    is_two_too is_given_too marked_too text few answered answered_too = (
      table_text (reduced_table 2 code mark) ++ jones_line code,
      marked-reply words command bytes code mark reply is_command is_task is_two is_given marked text few answered,
      marked-reply others asked bytes code other_mark other is_asked is_task_too is_two_too is_given_too marked_too text few answered_too
          ∙ ap (λ (homology : Table). reply_of Done (mark_line other_mark ++ (table_text homology ++ jones_line code)))
          (table-any_mark code other_mark mark text.is_accepted (IsName-mark code other_mark marked_too) (IsName-mark code mark marked)),
    )
