-- The first three lines of a log.
-- Each of the three has what the code can find there: the line that is wanted, another one, or none. A ruleset for each function of
-- `src/start.rt` says what each finding means, and the last puts the three together: the lines begin as a log, or one of the three
-- is the first that fails.
use Rattle.std.proofs.Common.{◌≡◌, ◌≢◌, ℕ, ◌+◌, ◌<◌, ◌≤◌, ◌∙◌, List, [], ◌∷◌, length, inl, inr, refl, sym, ap, subst, arith, codes, false, IsTrue}
use Rattle.std.specs.Prelude.{None, Some, Result, Ok, Err}
use Rattle.std.specs.Fmt.{digits}
use Rattle.std.specs.Result.{IsOk, result_ok}
use Rattle.std.specs.Str.{bytes_eq}
use Rattle.std.proofs.lemmas.Bool.Decides.{not_from_Decides}
use Rattle.std.proofs.lemmas.Slice.Eq.{bytes_eq-Decides}
use Rattle.kh_types.specs.Acceptance.{accepted}
use Rattle.kh_types.specs.Code.{Code}
use Rattle.kh_types.specs.declared.limits.TheConstants.{INPUT_BYTES}
use Rattle.prime_field.specs.Residues.{IsSmallPrime}
use Rattle.pd_code.specs.Reading.{IsPdReading}
use Rattle.pd_code.specs.declared.stop.PdStop.{PdStop}
use Rattle.pd_code.proofs.ReadingLemmas.{IsPdReading-one}
use Rattle.cancel_log.specs.LinesLeft.{LinesLeft, TakesLine}
use Rattle.cancel_log.specs.LogLines.{field_line, log_line}
use Rattle.cancel_log.specs.Starts.{IsFieldLine, LacksDiagramLine, LacksFieldLine, NamesNext}
use Rattle.cancel_log.specs.Verdicts.{BeginsAsLog, FailsAtStart, LacksLogLine, NamesDiagram}
use Rattle.cancel_log.specs.declared.cause.LogCause.TheVariants as causes
use Rattle.cancel_log.specs.declared.stop.LogStop.{LogStop}
use Rattle.cancel_log.specs.declared.stop.LogStop.TheVariants.{Line}

-- the first line

pub first-yes : (old new : LinesLeft) (line : List ℕ) → TakesLine old line new → line ≡ log_line → TakesLine old log_line new
first-yes old new line takes is = subst (λ (l : List ℕ). TakesLine old l new) is takes

pub first-no : (old new : LinesLeft) (line : List ℕ) → TakesLine old line new → line ≢ log_line → LacksLogLine old.rest
first-no old new line takes other = λ others is. other (cc (takes.rest, is))

pub first-none : (lines : List (List ℕ)) → lines ≡ [] → LacksLogLine lines
first-none lines none = λ others is. absurd (cc (none, is))

pub ruleset firsts = (first-yes, first-no, first-none)

-- the line of the diagram

pub diagram-ok : (old new : LinesLeft) (text : List ℕ) (code : Code) → TakesLine old text new → NamesDiagram text code → NamesNext old new code
diagram-ok old new text code takes names = record { text = text; taken = takes; names = names }

pub diagram-none : (lines : List (List ℕ)) → lines ≡ [] → LacksDiagramLine lines (Line 2 causes.Text)
diagram-none lines none = (refl, λ text later is. absurd (cc (none, is)))

pub diagram-long : (old new : LinesLeft) (text : List ℕ) → TakesLine old text new → INPUT_BYTES < length text
    → LacksDiagramLine old.rest (Line 2 causes.Text)
diagram-long old new text takes long = (
  refl,
  λ other later is. let so : text ≡ other = cc (takes.rest, is) in omega (arith, long, ap length so),
)

pub diagram-unnamed : (old new : LinesLeft) (text : List ℕ) → TakesLine old text new → length text ≤ INPUT_BYTES
    → ((code : Code) → NamesDiagram text code → ⊥) → LacksDiagramLine old.rest (Line 2 causes.Diagram)
diagram-unnamed old new text takes few none =
    (refl, record { text = text; others = new.rest; parts = takes.rest; few = few; none = none })

pub ruleset diagrams = (diagram-ok, diagram-none, diagram-long, diagram-unnamed)

-- what a text names

pub names-ok : (text : List ℕ) (raw code : Code) → length text ≤ INPUT_BYTES → IsPdReading text (Ok raw) → code ≡ raw
    → IsTrue (accepted raw) → NamesDiagram text code
names-ok text raw code few reads same is = subst (NamesDiagram text) (sym same) (record { few = few; reads = reads; accepted = is })

pub ok-not_none : {T E : Type 0} (r : Result T E) → IsOk r → result_ok r ≡ None → ⊥
ok-not_none (Ok x) ok none = absurd (cc)
ok-not_none (Err e) ok none = absurd (cc)

pub names-refused : (text : List ℕ) (raw : Code) → IsPdReading text (Ok raw) → (IsTrue (accepted raw) → ⊥) → (code : Code)
    → NamesDiagram text code → ⊥
names-refused text raw reads refused code names =
    let both = IsPdReading-one text (Ok code) (Ok raw) names.reads reads in
    let same : code ≡ raw = cc in
    refused (subst (λ (c : Code). IsTrue (accepted c)) same names.accepted)

pub names-unread : (text : List ℕ) (stop : PdStop) → IsPdReading text (Err stop) → (code : Code) → NamesDiagram text code → ⊥
names-unread text stop reads code names =
    absurd (cc (IsPdReading-one text (Ok code) (Err stop) names.reads reads))

pub ruleset named = (names-ok, names-refused, names-unread)

-- the line of the field

pub field-ok : (old new : LinesLeft) (line : List ℕ) (field : ℕ) → TakesLine old line new → IsFieldLine line (Some field)
    → TakesLine old (field_line field) new
field-ok old new line field takes is = subst (λ (l : List ℕ). TakesLine old l new) is.1 takes

pub field-prime : (line : List ℕ) (field : ℕ) → IsFieldLine line (Some field) → IsSmallPrime field
field-prime line field is = is.0

pub field-no : (old new : LinesLeft) (line : List ℕ) → TakesLine old line new → IsFieldLine line None → LacksFieldLine old.rest
field-no old new line takes none = λ p later prime is. none p prime (cc (takes.rest, is))

pub field-none : (lines : List (List ℕ)) → lines ≡ [] → LacksFieldLine lines
field-none lines none = λ p later prime is. absurd (cc (none, is))

pub ruleset fields = (field-ok, field-prime, field-no, field-none)

-- the lines of the fields

-- a test tells that two lines are not one
pub unlike : (line other : List ℕ) → bytes_eq line other ≡ false → line ≢ other
unlike line other is = not_from_Decides (bytes_eq line other) (bytes_eq-Decides line other) is

pub prime-two : (line : List ℕ) → line ≡ codes "field 2" → IsFieldLine line (Some 2)
unfolding digits
prime-two line is = (inl refl, is)

pub prime-three : (line : List ℕ) → line ≡ codes "field 3" → IsFieldLine line (Some 3)
unfolding digits
prime-three line is = (inr (inl refl), is)

pub prime-five : (line : List ℕ) → line ≡ codes "field 5" → IsFieldLine line (Some 5)
unfolding digits
prime-five line is = (inr (inr (inl refl)), is)

pub prime-seven : (line : List ℕ) → line ≡ codes "field 7" → IsFieldLine line (Some 7)
unfolding digits
prime-seven line is = (inr (inr (inr refl)), is)

pub prime-none : (line : List ℕ) → line ≢ codes "field 2" → line ≢ codes "field 3" → line ≢ codes "field 5" → line ≢ codes "field 7"
    → IsFieldLine line None
unfolding digits
prime-none line two three five seven field prime is = elim prime [
  | inl e ↦ two (is ∙ ap field_line e)
  | inr (inl e) ↦ three (is ∙ ap field_line e)
  | inr (inr (inl e)) ↦ five (is ∙ ap field_line e)
  | inr (inr (inr e)) ↦ seven (is ∙ ap field_line e)
]

-- a field has fewer than eight elements
pub small-prime : (p : ℕ) → IsSmallPrime p → p < 8
small-prime p prime = grind (arith)

pub ruleset primes = (prime-two, prime-three, prime-five, prime-seven, prime-none)

-- the three together

pub start-begins : (first second third last : LinesLeft) (code : Code) (p : ℕ) → TakesLine first log_line second
    → NamesNext second third code → TakesLine third (field_line p) last → IsSmallPrime p → BeginsAsLog first.rest code p last.rest
start-begins first second third last code p one two three prime = record {
  text = two.text;
  diagram = two.names;
  field = prime;
  parts = one.rest ∙ ap (λ (ls : List (List ℕ)). log_line ∷ ls) two.taken.rest
      ∙ ap (λ (ls : List (List ℕ)). log_line ∷ two.text ∷ ls) three.rest;
}

pub start-number : (first second third last : LinesLeft) (code : Code) (p : ℕ) → TakesLine first log_line second
    → NamesNext second third code → TakesLine third (field_line p) last → last.number ≡ first.number + 3
start-number first second third last code p one two three = omega (arith, one.number, two.taken.number, three.number)

pub start-no_log : (lines : List (List ℕ)) (stop : LogStop) → stop ≡ Line 1 causes.Text → LacksLogLine lines → FailsAtStart lines (Err stop)
start-no_log lines stop same lacks = subst (λ (s : LogStop). FailsAtStart lines (Err s)) (sym same) (inl (refl, lacks))

pub start-no_diagram : (first second : LinesLeft) (stop : LogStop) → TakesLine first log_line second → LacksDiagramLine second.rest stop
    → FailsAtStart first.rest (Err stop)
start-no_diagram first second (Line number causes.Text) one (same, lacks) =
    inr (inl (same, record { others = second.rest; parts = one.rest; long = lacks }))
start-no_diagram first second (Line number causes.Diagram) one (same, names) = (
  same,
  record {
    text = names.text;
    others = names.others;
    parts = one.rest ∙ ap (λ (ls : List (List ℕ)). log_line ∷ ls) names.parts;
    few = names.few;
    none = names.none;
  },
)
start-no_diagram first second _ one lacks = absurd lacks

pub start-no_field : (first second third : LinesLeft) (code : Code) (stop : LogStop) → TakesLine first log_line second
    → NamesNext second third code → stop ≡ Line 3 causes.Text → LacksFieldLine third.rest → FailsAtStart first.rest (Err stop)
start-no_field first second third code stop one two same lacks =
    subst (λ (s : LogStop). FailsAtStart first.rest (Err s)) (sym same)
    (inr (inr (
      refl,
      record {
        text = two.text;
        code = code;
        others = third.rest;
        parts = one.rest ∙ ap (λ (ls : List (List ℕ)). log_line ∷ ls) two.taken.rest;
        diagram = two.names;
        none = lacks;
      },
    )))

pub ruleset starts = (start-begins, start-number, start-no_log, start-no_diagram, start-no_field)
