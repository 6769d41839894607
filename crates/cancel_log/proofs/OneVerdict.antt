-- The text of a log has exactly one verdict.
-- `verdict_of` computes it, line by line: by the first line, by the diagram that the second names, by the field of the third, and
-- then as `verdict_behind` on the others. It is a verdict (`verdict-some`). Each verdict is this one (`verdict-one`), since a text
-- names one diagram or none, and a line is that of one field or of none.
use Rattle.std.proofs.Common.{◌≡◌, ℕ, ◌<◌, ◌≤◌, ◌∙◌, Bool, true, false, cond, List, [], ◌∷◌, length, inl, inr, refl, sym, ap, subst, arith, codes}
use Rattle.std.specs.Prelude.{Option, None, Some, Result, Ok, Err, nat_lt}
use Rattle.std.specs.Fmt.{decimal}
use Rattle.std.specs.Str.{bytes_eq}
use Rattle.std.proofs.lemmas.Bool.{le-ltb, lt-ltb, ltb-false, ltb-true}
use Rattle.std.proofs.lemmas.Fmt.{decimal_injective}
use Rattle.std.proofs.lemmas.List.{append_cancel_left}
use Rattle.std.proofs.lemmas.Slice.Eq.{bytes_eq-Decides}
use Rattle.kh_types.specs.Acceptance.{accepted}
use Rattle.kh_types.specs.Code.{Code}
use Rattle.kh_types.specs.Table.{Table}
use Rattle.kh_types.specs.declared.limits.TheConstants.{INPUT_BYTES}
use Rattle.kh_lex.specs.Lines.{lines_of}
use Rattle.prime_field.specs.Residues.{IsSmallPrime}
use Rattle.pd_code.specs.Reading.{IsPdReading}
use Rattle.pd_code.specs.declared.stop.PdStop.{PdStop}
use Rattle.pd_code.proofs.ReadingLemmas.{IsPdReading-one, IsPdReading-reading_of, reading_of}
use Rattle.cancel_log.specs.LogLines.{field_line, log_line}
use Rattle.cancel_log.specs.Starts.{IsFieldLine}
use Rattle.cancel_log.specs.Verdicts.{FailsAtStart, GoesOn, IsVerdict, IsVerdictOn, LacksLogLine, NamesDiagram}
use Rattle.cancel_log.specs.declared.cause.LogCause.TheVariants as causes
use Rattle.cancel_log.specs.declared.stop.LogStop.{LogStop}
use Rattle.cancel_log.specs.declared.stop.LogStop.TheVariants.{Line}
use Rattle.cancel_log.proofs.StartLines.{names-ok, names-refused, names-unread, prime-five, prime-none, prime-seven, prime-three, prime-two, small-prime, unlike}
use Rattle.cancel_log.proofs.WholeLogs.{verdict-lines, verdict-text}
use Rattle.cancel_log.proofs.VerdictsBehind.{IsVerdictBehind-one, IsVerdictBehind-verdict_behind, verdict_behind}

-- the diagram that a text names, if there is one

-- a text names this diagram, or none
abbrev IsNamed : List ℕ → Option Code → Type 0
IsNamed text (Some code) = NamesDiagram text code
IsNamed text None = (code : Code) → ¬ NamesDiagram text code

-- by whether the code is accepted
named_by : (text : List ℕ) (raw : Code) (is : Bool) → length text ≤ INPUT_BYTES → IsPdReading text (Ok raw) → accepted raw ≡ is
    → (found : Option Code) × IsNamed text found
named_by text raw true few reads is = (Some raw, names-ok text raw raw few reads refl is)
named_by text raw false few reads is = (None, names-refused text raw reads (λ other. absurd (cc (is, other))))

-- by what the text reads as
read_by : (text : List ℕ) (reading : Result Code PdStop) → length text ≤ INPUT_BYTES → IsPdReading text reading
    → (found : Option Code) × IsNamed text found
read_by text (Ok raw) few reads = named_by text raw (accepted raw) few reads refl
read_by text (Err stop) few reads = (None, names-unread text stop reads)

-- by whether the text is too long
short_by : (text : List ℕ) (long : Bool) → nat_lt INPUT_BYTES (length text) ≡ long → (found : Option Code) × IsNamed text found
short_by text true is =
    let long = ltb-true INPUT_BYTES (length text) is in (None, λ code names. omega (arith, long, names.few))
short_by text false is =
    read_by text (reading_of text) (ltb-false INPUT_BYTES (length text) is) (IsPdReading-reading_of text)

-- each text names a diagram, or none
Named-some : (text : List ℕ) → (found : Option Code) × IsNamed text found
Named-some text = short_by text (nat_lt INPUT_BYTES (length text)) refl

-- a text names one diagram
NamesDiagram-one : (text : List ℕ) (code other : Code) → NamesDiagram text code → NamesDiagram text other → code ≡ other
NamesDiagram-one text code other names also =
    cc (IsPdReading-one text (Ok code) (Ok other) names.reads also.reads)

-- and not both one and none
Named-one : (text : List ℕ) (a b : Option Code) → IsNamed text a → IsNamed text b → a ≡ b
Named-one text None None none other = refl
Named-one text None (Some code) none names = absurd (none code names)
Named-one text (Some code) None names none = absurd (none code names)
Named-one text (Some code) (Some other) names also = ap Some (NamesDiagram-one text code other names also)

-- the diagram that a text names
abbrev named_of : List ℕ → Option Code
named_of text = (Named-some text).0

-- what a text names is that
named-is : (text : List ℕ) (found : Option Code) → IsNamed text found → named_of text ≡ found
named-is text found is = Named-one text (named_of text) found (Named-some text).1 is

-- the field whose line a line is, if there is one

-- by the tests of the four lines
field_by : (line : List ℕ) (two three five seven : Bool) → bytes_eq line (codes "field 2") ≡ two
    → bytes_eq line (codes "field 3") ≡ three → bytes_eq line (codes "field 5") ≡ five → bytes_eq line (codes "field 7") ≡ seven
    → (field : Option ℕ) × IsFieldLine line field
field_by line true three five seven is_two is_three is_five is_seven =
    (Some 2, prime-two line ((bytes_eq-Decides line (codes "field 2")).0 is_two))
field_by line false true five seven is_two is_three is_five is_seven =
    (Some 3, prime-three line ((bytes_eq-Decides line (codes "field 3")).0 is_three))
field_by line false false true seven is_two is_three is_five is_seven =
    (Some 5, prime-five line ((bytes_eq-Decides line (codes "field 5")).0 is_five))
field_by line false false false true is_two is_three is_five is_seven =
    (Some 7, prime-seven line ((bytes_eq-Decides line (codes "field 7")).0 is_seven))
field_by line false false false false is_two is_three is_five is_seven = (
  None,
  prime-none line (unlike line (codes "field 2") is_two) (unlike line (codes "field 3") is_three)
      (unlike line (codes "field 5") is_five) (unlike line (codes "field 7") is_seven),
)

-- each line is that of a field, or of none
Field-some : (line : List ℕ) → (field : Option ℕ) × IsFieldLine line field
Field-some line =
    field_by line (bytes_eq line (codes "field 2")) (bytes_eq line (codes "field 3")) (bytes_eq line (codes "field 5"))
    (bytes_eq line (codes "field 7")) refl refl refl refl

-- fields with one line are one
field_line-one : (p q : ℕ) → IsSmallPrime p → IsSmallPrime q → field_line p ≡ field_line q → p ≡ q
field_line-one p q prime also same =
    decimal_injective p q (omega (arith, small-prime p prime)) (omega (arith, small-prime q also))
    (append_cancel_left (codes "field ") (decimal p) (decimal q) same)

-- a line is that of one field, or of none
Field-one : (line : List ℕ) (a b : Option ℕ) → IsFieldLine line a → IsFieldLine line b → a ≡ b
Field-one line None None none other = refl
Field-one line None (Some p) none (prime, is) = absurd (none p prime is)
Field-one line (Some p) None (prime, is) none = absurd (none p prime is)
Field-one line (Some p) (Some q) (prime, is) (also, same) = ap Some (field_line-one p q prime also (sym is ∙ same))

-- the field whose line a line is
abbrev field_of : List ℕ → Option ℕ
field_of line = (Field-some line).0

-- the field whose line a line is, is that
field-is : (line : List ℕ) (field : Option ℕ) → IsFieldLine line field → field_of line ≡ field
field-is line field is = Field-one line (field_of line) field (Field-some line).1 is

-- the verdict on lines, from the third on, from the second on, and on all

-- a line is no line that can stand there
abbrev wrong_at : ℕ → Result Table LogStop
wrong_at number = Err (Line number causes.Text)

-- behind the line of a diagram, with the field whose line comes next
abbrev field_verdict : Code → List (List ℕ) → Option ℕ → Result Table LogStop
field_verdict code others None = wrong_at 3
field_verdict code others (Some p) = verdict_behind p code others

-- from the third line on, with the diagram that the second names
abbrev third_verdict : List (List ℕ) → Option Code → Result Table LogStop
third_verdict lines None = Err (Line 2 causes.Diagram)
third_verdict [] (Some code) = wrong_at 3
third_verdict (line ∷ others) (Some code) = field_verdict code others (field_of line)

-- from the second line on
abbrev second_verdict : List (List ℕ) → Result Table LogStop
second_verdict [] = wrong_at 2
second_verdict (text ∷ others) = cond (nat_lt INPUT_BYTES (length text)) (wrong_at 2) (third_verdict others (named_of text))

-- on all lines
abbrev verdict_of : List (List ℕ) → Result Table LogStop
verdict_of [] = wrong_at 1
verdict_of (first ∷ others) = cond (bytes_eq first log_line) (second_verdict others) (wrong_at 1)

-- it is a verdict

-- by the field
field-some : (text line : List ℕ) (others : List (List ℕ)) (code : Code) (field : Option ℕ) → NamesDiagram text code
    → IsFieldLine line field → IsVerdictOn (log_line ∷ text ∷ line ∷ others) (field_verdict code others field)
field-some text line others code None names none = inl (inr (inr (
  refl,
  record {
    text = text;
    code = code;
    others = line ∷ others;
    parts = refl;
    diagram = names;
    none = λ p later prime is. none p prime (cc (is));
  },
)))
field-some text line others code (Some p) names (prime, is) = inr (record {
  code = code;
  p = p;
  others = others;
  begins = record {
    text = text;
    diagram = names;
    field = prime;
    parts = ap (λ (l : List ℕ). log_line ∷ text ∷ l ∷ others) is;
  };
  behind = IsVerdictBehind-verdict_behind p code others;
})

-- by the diagram
third-some : (text : List ℕ) (others : List (List ℕ)) (found : Option Code) → length text ≤ INPUT_BYTES → IsNamed text found
    → IsVerdictOn (log_line ∷ text ∷ others) (third_verdict others found)
third-some text others None few none = inl (refl, record { text = text; others = others; parts = refl; few = few; none = none })
third-some text [] (Some code) few names = inl (inr (inr (
  refl,
  record { text = text; code = code; others = []; parts = refl; diagram = names; none = λ p later prime is. absurd (cc (is)) },
)))
third-some text (line ∷ others) (Some code) few names =
    field-some text line others code (field_of line) names (Field-some line).1

-- by whether the second line is too long
second_by : (text : List ℕ) (others : List (List ℕ)) (long : Bool) → nat_lt INPUT_BYTES (length text) ≡ long
    → IsVerdictOn (log_line ∷ text ∷ others) (cond long (wrong_at 2) (third_verdict others (named_of text)))
second_by text others true is =
    let long = ltb-true INPUT_BYTES (length text) is in
    inl (inr (inl (
      refl,
      record {
        others = text ∷ others;
        parts = refl;
        long = λ other later same. let so : text ≡ other = cc (same) in subst (λ (t : List ℕ). INPUT_BYTES < length t) so long;
      },
    )))
second_by text others false is =
    third-some text others (named_of text) (ltb-false INPUT_BYTES (length text) is) (Named-some text).1

-- where the first line is there
second-some : (others : List (List ℕ)) → IsVerdictOn (log_line ∷ others) (second_verdict others)
second-some [] = inl (inr (inl (refl, record { others = []; parts = refl; long = λ text later is. absurd (cc (is)) })))
second-some (text ∷ others) = second_by text others (nat_lt INPUT_BYTES (length text)) refl

-- by the test of the first line
first_by : (first : List ℕ) (others : List (List ℕ)) (is : Bool) → bytes_eq first log_line ≡ is
    → IsVerdictOn (first ∷ others) (cond is (second_verdict others) (wrong_at 1))
first_by first others true is =
    subst (λ (l : List ℕ). IsVerdictOn (l ∷ others) (second_verdict others)) (sym ((bytes_eq-Decides first log_line).0 is))
    (second-some others)
first_by first others false is =
    inl (inl (refl, λ later same. unlike first log_line is (cc (same))))

-- the verdict on lines is one
verdict-some : (lines : List (List ℕ)) → IsVerdictOn lines (verdict_of lines)
verdict-some [] = inl (inl (refl, λ others is. absurd (cc (is))))
verdict-some (first ∷ others) = first_by first others (bytes_eq first log_line) refl

-- and each verdict is this one

-- without `log 1`
no_log-one : (lines : List (List ℕ)) → LacksLogLine lines → verdict_of lines ≡ wrong_at 1
no_log-one [] lacks = refl
no_log-one (first ∷ others) lacks = go (bytes_eq first log_line) refl
  where
    go : (is : Bool) → bytes_eq first log_line ≡ is → cond is (second_verdict others) (wrong_at 1) ≡ wrong_at 1
    go true is = absurd (lacks others (ap (λ (l : List ℕ). l ∷ others) ((bytes_eq-Decides first log_line).0 is)))
    go false is = refl

-- behind `log 1`
log-one : (lines others : List (List ℕ)) → lines ≡ log_line ∷ others → verdict_of lines ≡ second_verdict others
log-one lines others parts =
    ap verdict_of parts
    ∙ ap (λ (is : Bool). cond is (second_verdict others) (wrong_at 1)) ((bytes_eq-Decides log_line log_line).1 refl)

-- without a short text
long-one : (others : List (List ℕ)) → ((text : List ℕ) (later : List (List ℕ)) → others ≡ text ∷ later → INPUT_BYTES < length text)
    → second_verdict others ≡ wrong_at 2
long-one [] long = refl
long-one (text ∷ others) long =
    ap (λ (is : Bool). cond is (wrong_at 2) (third_verdict others (named_of text)))
    (lt-ltb INPUT_BYTES (length text) (long text others refl))

-- behind a short text
short-one : (lines : List (List ℕ)) (text : List ℕ) (others : List (List ℕ)) (found : Option Code) → lines ≡ log_line ∷ text ∷ others
    → length text ≤ INPUT_BYTES → IsNamed text found → verdict_of lines ≡ third_verdict others found
short-one lines text others found parts few is =
    log-one lines (text ∷ others) parts
    ∙ ap (λ (long : Bool). cond long (wrong_at 2) (third_verdict others (named_of text))) (le-ltb INPUT_BYTES (length text) few)
    ∙ ap (third_verdict others) (named-is text found is)

-- without a field
no_field-one : (code : Code) (others : List (List ℕ))
    → ((p : ℕ) (later : List (List ℕ)) → IsSmallPrime p → others ≡ field_line p ∷ later → ⊥)
    → third_verdict others (Some code) ≡ wrong_at 3
no_field-one code [] none = refl
no_field-one code (line ∷ others) none =
    ap (field_verdict code others)
    (field-is line None (λ p prime is. none p others prime (ap (λ (l : List ℕ). l ∷ others) is)))

-- where one of the first three lines fails
fails-one : (lines : List (List ℕ)) (verdict : Result Table LogStop) → FailsAtStart lines verdict → verdict ≡ verdict_of lines
fails-one lines (Err (Line number causes.Text)) (inl (same, lacks)) = ap wrong_at same ∙ sym (no_log-one lines lacks)
fails-one lines (Err (Line number causes.Text)) (inr (inl (same, lacks))) =
    ap wrong_at same ∙ sym (log-one lines lacks.others lacks.parts ∙ long-one lacks.others lacks.long)
fails-one lines (Err (Line number causes.Text)) (inr (inr (same, lacks))) =
    ap wrong_at same
    ∙ sym (short-one lines lacks.text lacks.others (Some lacks.code) lacks.parts lacks.diagram.few lacks.diagram
    ∙ no_field-one lacks.code lacks.others lacks.none)
fails-one lines (Err (Line number causes.Diagram)) (same, lacks) =
    ap (λ (n : ℕ). Err (Line n causes.Diagram)) same
    ∙ sym (short-one lines lacks.text lacks.others None lacks.parts lacks.few lacks.none)
fails-one lines _ none = absurd none

-- where lines begin as a log
goes-one : (lines : List (List ℕ)) (verdict : Result Table LogStop) → GoesOn lines verdict → verdict ≡ verdict_of lines
goes-one lines verdict goes =
    let begins = goes.begins in
    IsVerdictBehind-one goes.p goes.code goes.others verdict goes.behind
    ∙ sym (short-one lines begins.text (field_line goes.p ∷ goes.others) (Some goes.code) begins.parts begins.diagram.few begins.diagram
    ∙ ap (field_verdict goes.code goes.others) (field-is (field_line goes.p) (Some goes.p) (begins.field, refl)))

-- each verdict on a text is that on its lines
verdict-one : (text : List ℕ) (verdict : Result Table LogStop) → IsVerdict text verdict → verdict ≡ verdict_of (lines_of text)
verdict-one text verdict is = go (verdict-lines text verdict is)
  where
    go : IsVerdictOn (lines_of text) verdict → verdict ≡ verdict_of (lines_of text)
    go (inl fails) = fails-one (lines_of text) verdict fails
    go (inr goes) = goes-one (lines_of text) verdict goes

-- each text has one verdict

-- each text has a verdict
pub IsVerdict-some : (text : List ℕ) → (verdict : Result Table LogStop) × IsVerdict text verdict
IsVerdict-some text =
    let verdict = verdict_of (lines_of text) in (verdict, verdict-text text verdict (verdict-some (lines_of text)))

-- and no other
pub IsVerdict-one : (text : List ℕ) (first second : Result Table LogStop) → IsVerdict text first → IsVerdict text second → first ≡ second
IsVerdict-one text first second is also = verdict-one text first is ∙ sym (verdict-one text second also)
