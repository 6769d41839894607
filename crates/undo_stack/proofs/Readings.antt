-- What a script reads as, and what is computed of it, are the same, where the meaning of words is what they spell. A line has
-- words exactly where cutting it gives some. Lines without words are passed over, but have their numbers. Both ways go by
-- induction over the lines. What is computed is a reading: a line with a meaning leads the commands of the later lines, and one
-- without is the first wrong line. And a reading is what is computed: its first command is that of the first line with words, or
-- this line is the wrong one, or the wrong one is later. For a text, lines are counted first, and too many of them are refused.
-- Last, a text that is read has at most as many commands as a script may have lines.
use Rattle.std.proofs.Common.{◌≡◌, ◌≢◌, IfOk, ℕ, ◌+◌, ◌≤◌, ◌↔◌, Bool, true, false, cond, not, List, [], ◌∷◌, ◌++◌, length, filter, Option, Some, None, Result, Ok, Err, refl, sym, ◌∙◌, ap, subst, arith, length-append, nat_lt}
use Rattle.std.proofs.lemmas.Bool.{le-ltb, lt-ltb, ltb-false, ltb-true}
use Rattle.std.proofs.lemmas.List.FromFn.{length-enumerate_from}
use Rattle.std.proofs.lemmas.List.Sums.{count_by-le-length, length-filter}
use Rattle.std.proofs.lemmas.Option.{none-some}
use Rattle.std.proofs.lemmas.Slice.Zip.{AllZip-long}
use Rattle.std.specs.List.{AllZip, enumerate_from, list_all}
use Rattle.std.specs.Option.{option_map_or}
use Rattle.undo_stack.specs.declared.limits.TheConstants.{SCRIPT_LINES}
use Rattle.undo_stack.specs.declared.stop.ScriptStop.{ScriptStop}
use Rattle.undo_stack.specs.declared.stop.ScriptStop.TheVariants.{LineLimit, Line, NoMemory}
use Rattle.kh_lex.specs.Lines.{CutsLines, lines_of}
use Rattle.kh_lex.specs.LineWords.{CutsWords, has_words, is_gap, words_of}
use Rattle.undo_stack.specs.Reading.{IsCommandLine, IsFirstWrong, IsNumbered, IsScriptReading, worded_lines}
use Rattle.undo_stack.specs.Steps.{line_command, commands_from, then_lines, led_by, script_reading}
use Rattle.kh_lex.proofs.LineCuts.{CutsLines-lines_of, lines_of-CutsLines}
use Rattle.undo_stack.proofs.Loops.{led_by-none}
use Rattle.kh_lex.proofs.WordCuts.{CutsWords-words_of, words_of-CutsWords, words_of-none}

-- a meaning gives what words spell
pub record IsMeaning {T : Type 0} (Spells : List (List ℕ) → T → Type 0) (meaning : List (List ℕ) → Option T) : Type 0 where
  pub means : (words : List (List ℕ)) (command : T) → (meaning words ≡ Some command) ↔ Spells words command

IsCommand-meaning : {T : Type 0} (Spells : List (List ℕ) → T → Type 0) (meaning : List (List ℕ) → Option T) → IsMeaning Spells meaning
    → (line : List ℕ) (command : T) → meaning (words_of line) ≡ Some command → IsCommandLine Spells line command
IsCommand-meaning Spells meaning m line command same =
    record { words = words_of line; cut = CutsWords-words_of line; spelled = (m.means (words_of line) command).0 same }

meaning-IsCommand : {T : Type 0} (Spells : List (List ℕ) → T → Type 0) (meaning : List (List ℕ) → Option T) → IsMeaning Spells meaning
    → (line : List ℕ) (command : T) → IsCommandLine Spells line command → meaning (words_of line) ≡ Some command
meaning-IsCommand Spells meaning m line command is =
    (m.means (words_of line) command).1 (subst (λ words. Spells words command) (words_of-CutsWords line is.words is.cut) is.spelled)

-- a line has words where there are some
has_words-none : (line : List ℕ) → words_of line ≡ [] → has_words line ≡ false
has_words-none line none =
    let blank : list_all is_gap line ≡ true = subst (CutsWords line) none (CutsWords-words_of line) in
    ap not blank

has_words-some : (line word : List ℕ) (words : List (List ℕ)) → words_of line ≡ word ∷ words → has_words line ≡ true
has_words-some line word words some = go (list_all is_gap line) refl
  where
    go : (blank : Bool) → list_all is_gap line ≡ blank → not blank ≡ true
    go true blank = absurd (omega (arith, ap length (sym (words_of-none line blank) ∙ some)))
    go false blank = refl

-- the lines that have words, each with its number, where the first line has a number
abbrev worded : ℕ → List (List ℕ) → List (ℕ × List ℕ)
worded number lines = filter (λ line. has_words line.1) (enumerate_from number lines)

-- what lines with words read as
abbrev AreLines : {T : Type 0} → (List (List ℕ) → T → Type 0) → List (ℕ × List ℕ) → Result (List (ℕ × T)) ScriptStop → Type 0
AreLines Spells lines (Ok commands) = AllZip (IsNumbered Spells) lines commands
AreLines Spells lines (Err (LineLimit count)) = ⊥
AreLines Spells lines (Err (Line number)) = IsFirstWrong Spells lines number
AreLines Spells lines (Err NoMemory) = ⊥

-- one more line before others
AreLines-cons : {T : Type 0} (Spells : List (List ℕ) → T → Type 0) (number : ℕ) (line : List ℕ) (lines : List (ℕ × List ℕ)) (command : T)
    (r : Result (List (ℕ × T)) ScriptStop) → IsCommandLine Spells line command → AreLines Spells lines r
    → AreLines Spells ((number, line) ∷ lines) (led_by ((number, command) ∷ []) r)
AreLines-cons Spells number line lines command (Ok commands) is later = ((refl, is), later)
AreLines-cons Spells number line lines command (Err (LineLimit count)) is later = later
AreLines-cons Spells number line lines command (Err (Line wrong)) is later = record {
  before = (number, line) ∷ later.before;
  line = later.line;
  after = later.after;
  parts = ap (λ ls. (number, line) ∷ ls) later.parts;
  wrong = later.wrong;
  commands = (number, command) ∷ later.commands;
  earlier = ((refl, is), later.earlier);
}
AreLines-cons Spells number line lines command (Err NoMemory) is later = later

-- what is computed of lines, they read as
AreLines-commands_from : {T : Type 0} (Spells : List (List ℕ) → T → Type 0) (meaning : List (List ℕ) → Option T) → IsMeaning Spells meaning
    → (number : ℕ) (lines : List (List ℕ)) → AreLines Spells (worded number lines) (commands_from meaning number lines)
AreLines-commands_from Spells meaning m number [] = tt
AreLines-commands_from {T} Spells meaning m number (line ∷ lines) = go (words_of line) refl
    (AreLines-commands_from Spells meaning m (number + 1) lines)
  where
    one : (o : Option T) → meaning (words_of line) ≡ o → (r : Result (List (ℕ × T)) ScriptStop)
        → AreLines Spells (worded (number + 1) lines) r
        → AreLines Spells ((number, line) ∷ worded (number + 1) lines)
        (then_lines number (option_map_or (λ command. Ok (Some command)) o (Err (Line number))) r)
    one (Some command) is r later =
        AreLines-cons Spells number line (worded (number + 1) lines) command r (IsCommand-meaning Spells meaning m line command is) later
    one None none r later = record {
      before = [];
      line = line;
      after = worded (number + 1) lines;
      parts = refl;
      wrong = λ command is. none-some command (sym none ∙ meaning-IsCommand Spells meaning m line command is);
      commands = [];
      earlier = tt;
    }

    go : (words : List (List ℕ)) → words_of line ≡ words
        → AreLines Spells (worded (number + 1) lines) (commands_from meaning (number + 1) lines)
        → AreLines Spells (cond (has_words line) ((number, line) ∷ worded (number + 1) lines) (worded (number + 1) lines))
        (then_lines number (line_command meaning number words) (commands_from meaning (number + 1) lines))
    go [] none later = rw (has_words-none line none, led_by-none (commands_from meaning (number + 1) lines)) later
    go (word ∷ words) some later =
        rw (has_words-some line word words some)
        (one (meaning (word ∷ words)) (ap meaning some) (commands_from meaning (number + 1) lines) later)

-- what the words of a line give
line_command-some : {T : Type 0} (meaning : List (List ℕ) → Option T) (number : ℕ) (word : List ℕ) (words ws : List (List ℕ)) (o : Option T)
    → ws ≡ word ∷ words → meaning ws ≡ o → line_command meaning number ws ≡ option_map_or (λ command. Ok (Some command)) o (Err (Line number))
line_command-some meaning number word words [] o are is = absurd (omega (arith, ap length are))
line_command-some meaning number word words (w ∷ ws) o are is = ap
    (λ p. option_map_or (λ command. Ok (Some command)) p (Err (Line number))) is

-- a line with words, and what those behind it read as
commands_from-cons : {T : Type 0} (meaning : List (List ℕ) → Option T) (number : ℕ) (line word : List ℕ) (words : List (List ℕ))
    (lines : List (List ℕ))
    (command : T) (r : Result (List (ℕ × T)) ScriptStop) → words_of line ≡ word ∷ words → meaning (words_of line) ≡ Some command
    → commands_from meaning (number + 1) lines ≡ r → commands_from meaning number (line ∷ lines) ≡ led_by ((number, command) ∷ []) r
commands_from-cons meaning number line word words lines command r some is later =
    ap (λ c. then_lines number c (commands_from meaning (number + 1) lines))
    (line_command-some meaning number word words (words_of line) (Some command) some is)
    ∙ ap (led_by ((number, command) ∷ [])) later

-- the first of some lines, and those behind it
abbrev first_line : List (ℕ × List ℕ) → ℕ × List ℕ
first_line [] = (0, [])
first_line (line ∷ lines) = line

abbrev later_lines : List (ℕ × List ℕ) → List (ℕ × List ℕ)
later_lines [] = []
later_lines (line ∷ lines) = lines

-- what lines read as is computed of them
pub commands_from-AreLines : {T : Type 0} (Spells : List (List ℕ) → T → Type 0) (meaning : List (List ℕ) → Option T)
    → IsMeaning Spells meaning
    → (number : ℕ) (lines : List (List ℕ)) (r : Result (List (ℕ × T)) ScriptStop) → AreLines Spells (worded number lines) r
    → commands_from meaning number lines ≡ r
commands_from-AreLines Spells meaning m number [] (Ok []) are = refl
commands_from-AreLines Spells meaning m number [] (Ok (command ∷ commands)) are = absurd are
commands_from-AreLines Spells meaning m number [] (Err (LineLimit count)) are = absurd are
commands_from-AreLines Spells meaning m number [] (Err (Line wrong)) are =
    absurd (omega (arith, ap length are.parts, length-append are.before ((wrong, are.line) ∷ are.after)))
commands_from-AreLines Spells meaning m number [] (Err NoMemory) are = absurd are
commands_from-AreLines {T} Spells meaning m number (line ∷ lines) r are =
    go (words_of line) refl (commands_from-AreLines Spells meaning m (number + 1) lines) are
  where
    wrong-first : (wrong : ℕ) (bad : List ℕ) (after : List (ℕ × List ℕ)) (o : Option T) (word : List ℕ) (words : List (List ℕ))
        → words_of line ≡ word ∷ words → meaning (words_of line) ≡ o → (number, line) ∷ worded (number + 1) lines ≡ (wrong, bad) ∷ after
        → ((command : T) → ¬ IsCommandLine Spells bad command) → commands_from meaning number (line ∷ lines) ≡ Err (Line wrong)
    wrong-first wrong bad after None word words some is parts none =
        ap (λ c. then_lines number c (commands_from meaning (number + 1) lines))
        (line_command-some meaning number word words (words_of line) None some is)
        ∙ ap (λ ls. Err (Line (first_line ls).0)) parts
    wrong-first wrong bad after (Some command) word words some is parts none =
        absurd (none command
        (subst (λ l. IsCommandLine Spells l command) (ap (λ ls. (first_line ls).1) parts)
        (IsCommand-meaning Spells meaning m line command is)))

    wrong-at : (wrong : ℕ) (bad : List ℕ) (before after : List (ℕ × List ℕ)) (commands : List (ℕ × T)) (word : List ℕ)
        (words : List (List ℕ))
        → words_of line ≡ word ∷ words → (number, line) ∷ worded (number + 1) lines ≡ before ++ (wrong, bad) ∷ after
        → ((command : T) → ¬ IsCommandLine Spells bad command) → AllZip (IsNumbered Spells) before commands
        → (IsFirstWrong Spells (worded (number + 1) lines) wrong → commands_from meaning (number + 1) lines ≡ Err (Line wrong))
        → commands_from meaning number (line ∷ lines) ≡ Err (Line wrong)
    wrong-at wrong bad [] after commands word words some parts none earlier later =
        wrong-first wrong bad after (meaning (words_of line)) word words some refl parts none
    wrong-at wrong bad (first ∷ before) after [] word words some parts none earlier later = absurd earlier
    wrong-at wrong bad (first ∷ before) after (command ∷ commands) word words some parts none earlier later =
        commands_from-cons meaning number line word words lines command.1 (Err (Line wrong)) some
        (meaning-IsCommand Spells meaning m line command.1
        (subst (λ l. IsCommandLine Spells l command.1) (sym (ap (λ ls. (first_line ls).1) parts)) earlier.0.1))
        (later (record {
          before = before;
          line = bad;
          after = after;
          parts = ap later_lines parts;
          wrong = none;
          commands = commands;
          earlier = earlier.1;
        }))

    one : (word : List ℕ) (words : List (List ℕ)) → words_of line ≡ word ∷ words
        → ((q : Result (List (ℕ × T)) ScriptStop) → AreLines Spells (worded (number + 1) lines) q
        → commands_from meaning (number + 1) lines ≡ q)
        → (r : Result (List (ℕ × T)) ScriptStop) → AreLines Spells ((number, line) ∷ worded (number + 1) lines) r
        → commands_from meaning number (line ∷ lines) ≡ r
    one word words some later (Ok []) are = absurd are
    one word words some later (Ok (command ∷ commands)) are =
        commands_from-cons meaning number line word words lines command.1 (Ok commands) some
        (meaning-IsCommand Spells meaning m line command.1 are.0.1)
        (later (Ok commands) are.1) ∙ ap (λ n. Ok ((n, command.1) ∷ commands)) (sym are.0.0)
    one word words some later (Err (LineLimit count)) are = absurd are
    one word words some later (Err (Line wrong)) are =
        wrong-at wrong are.line are.before are.after are.commands word words some are.parts are.wrong are.earlier (later (Err (Line wrong)))
    one word words some later (Err NoMemory) are = absurd are

    go : (words : List (List ℕ)) → words_of line ≡ words
        → ((q : Result (List (ℕ × T)) ScriptStop) → AreLines Spells (worded (number + 1) lines) q
        → commands_from meaning (number + 1) lines ≡ q)
        → AreLines Spells (cond (has_words line) ((number, line) ∷ worded (number + 1) lines) (worded (number + 1) lines)) r
        → commands_from meaning number (line ∷ lines) ≡ r
    go [] none later are =
        let rest = later r
        (subst (λ b. AreLines Spells (cond b ((number, line) ∷ worded (number + 1) lines) (worded (number + 1) lines)) r)
        (has_words-none line none) are) in
        ap (λ words. then_lines number (line_command meaning number words) (commands_from meaning (number + 1) lines)) none
        ∙ led_by-none (commands_from meaning (number + 1) lines) ∙ rest
    go (word ∷ words) some later are = one word words some later r
        (subst (λ b. AreLines Spells (cond b ((number, line) ∷ worded (number + 1) lines) (worded (number + 1) lines)) r)
        (has_words-some line word words some) are)

-- what lines with words read as, a text of them does
IsScriptReading-AreLines : {T : Type 0} (Spells : List (List ℕ) → T → Type 0) (text : List ℕ) (lines : List (List ℕ))
    (r : Result (List (ℕ × T)) ScriptStop)
    → CutsLines text lines → length lines ≤ SCRIPT_LINES → AreLines Spells (worded_lines lines) r → IsScriptReading Spells text r
IsScriptReading-AreLines Spells text lines (Ok commands) cut few are = record { lines = lines; cut = cut; few = few; each = are }
IsScriptReading-AreLines Spells text lines (Err (LineLimit count)) cut few are = absurd are
IsScriptReading-AreLines Spells text lines (Err (Line wrong)) cut few are = record { lines = lines; cut = cut; few = few; first = are }
IsScriptReading-AreLines Spells text lines (Err NoMemory) cut few are = absurd are

-- what is computed of a text, it reads as
pub IsScriptReading-script_reading : {T : Type 0} (Spells : List (List ℕ) → T → Type 0) (meaning : List (List ℕ) → Option T)
    → IsMeaning Spells meaning
    → (text : List ℕ) → IsScriptReading Spells text (script_reading meaning text)
IsScriptReading-script_reading Spells meaning m text = go (nat_lt SCRIPT_LINES (length (lines_of text))) refl
  where
    go : (above : Bool) → nat_lt SCRIPT_LINES (length (lines_of text)) ≡ above
        → IsScriptReading Spells text (cond above (Err (LineLimit (length (lines_of text)))) (commands_from meaning 1 (lines_of text)))
    go true above = record {
      lines = lines_of text;
      cut = CutsLines-lines_of text;
      counted = refl;
      above = ltb-true SCRIPT_LINES (length (lines_of text)) above;
    }
    go false few =
        IsScriptReading-AreLines Spells text (lines_of text) (commands_from meaning 1 (lines_of text)) (CutsLines-lines_of text)
        (ltb-false SCRIPT_LINES (length (lines_of text)) few) (AreLines-commands_from Spells meaning m 1 (lines_of text))

-- a text of few lines, and what they read as
script_reading-AreLines : {T : Type 0} (Spells : List (List ℕ) → T → Type 0) (meaning : List (List ℕ) → Option T) → IsMeaning Spells meaning
    → (text : List ℕ) (lines : List (List ℕ)) (r : Result (List (ℕ × T)) ScriptStop) → CutsLines text lines → length lines ≤ SCRIPT_LINES
    → AreLines Spells (worded_lines lines) r → script_reading meaning text ≡ r
script_reading-AreLines Spells meaning m text lines r cut few are =
    ap (λ ls. cond (nat_lt SCRIPT_LINES (length ls)) (Err (LineLimit (length ls))) (commands_from meaning 1 ls))
    (sym (lines_of-CutsLines text lines cut))
    ∙ ap (λ b. cond b (Err (LineLimit (length lines))) (commands_from meaning 1 lines)) (le-ltb SCRIPT_LINES (length lines) few)
    ∙ commands_from-AreLines Spells meaning m 1 lines r are

-- what a text reads as is computed of it
pub script_reading-IsScriptReading : {T : Type 0} (Spells : List (List ℕ) → T → Type 0) (meaning : List (List ℕ) → Option T)
    → IsMeaning Spells meaning
    → (text : List ℕ) (r : Result (List (ℕ × T)) ScriptStop) → IsScriptReading Spells text r → script_reading meaning text ≡ r
script_reading-IsScriptReading Spells meaning m text (Ok commands) reads =
    script_reading-AreLines Spells meaning m text reads.lines (Ok commands) reads.cut reads.few reads.each
script_reading-IsScriptReading Spells meaning m text (Err (LineLimit count)) many =
    ap (λ ls. cond (nat_lt SCRIPT_LINES (length ls)) (Err (LineLimit (length ls))) (commands_from meaning 1 ls))
    (sym (lines_of-CutsLines text many.lines many.cut))
    ∙ ap (λ n. cond (nat_lt SCRIPT_LINES n) (Err (LineLimit n)) (commands_from meaning 1 many.lines)) (sym many.counted)
    ∙ ap (λ b. cond b (Err (LineLimit count)) (commands_from meaning 1 many.lines)) (lt-ltb SCRIPT_LINES count many.above)
script_reading-IsScriptReading Spells meaning m text (Err (Line wrong)) reads =
    script_reading-AreLines Spells meaning m text reads.lines (Err (Line wrong)) reads.cut reads.few reads.first
script_reading-IsScriptReading Spells meaning m text (Err NoMemory) none = absurd none

-- a text that is read has no more commands than lines
pub IfOk-few : {T : Type 0} (Spells : List (List ℕ) → T → Type 0) (text : List ℕ) (r : Result (List (ℕ × T)) ScriptStop)
    → (r ≢ Err NoMemory → IsScriptReading Spells text r) → IfOk r (λ lines. length lines ≤ SCRIPT_LINES)
IfOk-few Spells text (Ok commands) reads =
    let read = reads (λ same. cc) in
    omega (
      arith,
      read.few,
      AllZip-long (IsNumbered Spells) (worded_lines read.lines) commands read.each,
      length-filter (λ line. has_words line.1) (enumerate_from 1 read.lines),
      count_by-le-length (λ line. has_words line.1) (enumerate_from 1 read.lines),
      length-enumerate_from 1 read.lines,
    )
IfOk-few Spells text (Err stop) reads = tt
