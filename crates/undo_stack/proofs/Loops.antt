-- What the loops keep, from one piece of a text to the next.
use Rattle.std.proofs.Common.{◌≡◌, ℕ, ◌+◌, ◌<◌, ◌≤◌, List, [], ◌++◌, length, drop, Option, Result, Ok, Err, refl, sym, ◌∙◌, ap, arith, append_assoc}
use Rattle.undo_stack.specs.declared.stop.ScriptStop.{ScriptStop}
use Rattle.kh_lex.specs.Lines.{is_line_feed, lines_of}
use Rattle.kh_lex.specs.LineWords.{words_of}
use Rattle.kh_lex.specs.Sections.{first_section}
use Rattle.undo_stack.specs.Steps.{line_command, commands_from, then_lines, with_number, led_by}
use Rattle.kh_lex.proofs.Sections.{sections_of-at}

pub led_by-none : {T : Type 0} (r : Result (List T) ScriptStop) → led_by [] r ≡ r
led_by-none (Ok commands) = refl
led_by-none (Err stop) = refl

pub led_by-append : {T : Type 0} (first more : List T) (r : Result (List T) ScriptStop)
    → led_by first (led_by more r) ≡ led_by (first ++ more) r
led_by-append first more (Ok commands) = ap Ok (sym (append_assoc first more commands))
led_by-append first more (Err stop) = refl

-- the commands so far, with those of the lines from a place on, are those of the text
pub record IsRead {T : Type 0} (meaning : List (List ℕ) → Option T) (text : List ℕ) (place number : ℕ)
    (commands : List (ℕ × T)) : Type 0 where
  pub whole : led_by commands (commands_from meaning number (lines_of (drop place text))) ≡ commands_from meaning 1 (lines_of text)
  pub few : number ≤ place + 1

-- what the lines from a place on give
commands_from-at : {T : Type 0} (meaning : List (List ℕ) → Option T) (text line : List ℕ) (place number : ℕ)
    (r : Result (Option T) ScriptStop)
    → place < length text → line ≡ first_section is_line_feed (drop place text) → line_command meaning number (words_of line) ≡ r
    → commands_from meaning number (lines_of (drop place text))
    ≡ then_lines number r (commands_from meaning (number + 1) (lines_of (drop (place + (length line + 1)) text)))
commands_from-at meaning text line place number r left is_line is_command =
    ap (commands_from meaning number) (sections_of-at is_line_feed text line place left is_line)
    ∙ ap (λ c. then_lines number c (commands_from meaning (number + 1) (lines_of (drop (place + (length line + 1)) text)))) is_command

-- one more line
pub IsRead-line : {T : Type 0} (meaning : List (List ℕ) → Option T) (text line : List ℕ) (place number : ℕ) (commands : List (ℕ × T))
    (command : Option T)
    → place < length text → line ≡ first_section is_line_feed (drop place text) → line_command meaning number (words_of line) ≡ Ok command
    → IsRead meaning text place number commands
    → IsRead meaning text (place + (length line + 1)) (number + 1) (commands ++ with_number number command)
IsRead-line meaning text line place number commands command left is_line is_command so_far = record {
  whole = sym
      (led_by-append commands (with_number number command)
      (commands_from meaning (number + 1) (lines_of (drop (place + (length line + 1)) text))))
      ∙ ap (led_by commands) (sym (commands_from-at meaning text line place number (Ok command) left is_line is_command))
      ∙ so_far.whole;
  few = omega (arith, so_far.few);
}

-- a wrong line
pub commands_from-wrong : {T : Type 0} (meaning : List (List ℕ) → Option T) (text line : List ℕ) (place number : ℕ)
    (commands : List (ℕ × T)) (stop : ScriptStop)
    → place < length text → line ≡ first_section is_line_feed (drop place text) → line_command meaning number (words_of line) ≡ Err stop
    → IsRead meaning text place number commands → commands_from meaning 1 (lines_of text) ≡ Err stop
commands_from-wrong meaning text line place number commands stop left is_line is_command so_far =
    sym so_far.whole ∙ ap (led_by commands) (commands_from-at meaning text line place number (Err stop) left is_line is_command)
