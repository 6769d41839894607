use Rattle.std.proofs.Common.{◌≡◌, ap, ap₂, sym, ◌∙◌, map, Result, Err, rules, inl, inr, subst}
use Rattle.clap.specs.Words.{found_of}
use Rattle.clap.specs.Kinds.{IsAmong}
use Rattle.clap.specs.Simple.{is_simple, matches_of}
use Rattle.clap.specs.Faults.{fault_of, is_simple_and_free}
use Rattle.word_line.specs.Line.{stop_of}
use Rattle.word_line.specs.declared.scan_command.ScanCommand.{ScanCommand}
use Rattle.word_line.specs.declared.command.WordStop.{WordStop}
use Rattle.word_line.specs.declared.command.WordStop.TheVariants.{NoMemory, Usage}
use Rattle.word_line.proofs.ScanRules.{scan}
use Rattle.word_line.proofs.ScanReadings.{IsScanCommand-sizes, found_no_scan, found_scan, scan_faultless}
use Rattle.word_line.proofs.scan_reader.read_scan_words.Goals as goal

-- want of memory is not taken for words that mean nothing
stopped_as : {P : Type 0} (stop : WordStop) → stop ≡ NoMemory → ◌≡◌ {A = Result ScanCommand WordStop} (Err stop) (Err Usage) → P
stopped_as stop ends same = absurd (cc)

-- `clap` takes the words, and they mean what it finds
pub returns-in-Some-clause-command : goal.returns-in-Some-clause-command
returns-in-Some-clause-command c =
    let line_is = c.in_ok-line.ensures in
    let words_are : map (λ s. s.now) c.as_slice.result.now ≡ c.args.words.now = search rules in
    let none = c.in-Ok.ensures.kinds (ap is_simple_and_free line_is ∙ scan.is_free) in
    let rows = (c.in-Ok.ensures.matches (ap is_simple line_is ∙ scan.is_plain)).0 in
    found_scan c.args.words.now (found_of c.in-Ok.matches) c.in-Some.command
    (sym (ap₂ fault_of line_is words_are) ∙ none) (rows ∙ ap₂ matches_of line_is words_are) (sym c.scan_command_in.ensures ∙ c.in-Some.is)

-- `clap` takes the words, and they mean nothing
pub returns-in-Ok-clause-usage : goal.returns-in-Ok-clause-usage
returns-in-Ok-clause-usage c =
    let line_is = c.in_ok-line.ensures in
    let words_are : map (λ s. s.now) c.as_slice.result.now ≡ c.args.words.now = search rules in
    let none = c.in-Ok.ensures.kinds (ap is_simple_and_free line_is ∙ scan.is_free) in
    let rows = (c.in-Ok.ensures.matches (ap is_simple line_is ∙ scan.is_plain)).0 in
    λ _. found_no_scan c.args.words.now (found_of c.in-Ok.matches)
    (sym (ap₂ fault_of line_is words_are) ∙ none) (rows ∙ ap₂ matches_of line_is words_are) (sym c.scan_command_in.ensures ∙ c.in-None.is)

-- `clap` refuses the words
pub returns-clause-usage : goal.returns-clause-usage
returns-clause-usage c =
    let line_is = c.in_ok-line.ensures in
    let words_are : map (λ s. s.now) c.as_slice.result.now ≡ c.args.words.now = search rules in
    let kind = c.in-Err.ensures.kinds (ap is_simple_and_free line_is ∙ scan.is_free) in
    λ same command is. elim kind [
      | inl memory ↦
          let ends : c.stop_of.result ≡ NoMemory = c.stop_of.ensures ∙ ap stop_of (c.kind.ensures ∙ memory) in
          stopped_as c.stop_of.result ends same
      | inr among ↦ subst (IsAmong _) (ap₂ fault_of line_is words_are ∙ scan_faultless c.args.words.now command is) among
    ]

-- its sizes are those of a command
pub returns-in-Some-clause-sizes : goal.returns-in-Some-clause-sizes
returns-in-Some-clause-sizes c = IsScanCommand-sizes c.args.words.now c.in-Some.command (returns-in-Some-clause-command c)
