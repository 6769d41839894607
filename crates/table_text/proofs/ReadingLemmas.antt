-- Each text has a reading, and one only: first its lines behind that of the version, then the whole.
use Rattle.std.proofs.Common.{◌≡◌, ℕ, zero, suc, ◌+◌, ◌≤◌, ◌∙◌, List, [], ◌∷◌, ◌++◌, length, take, drop, ap, sym, inl, inr, arith}
use Rattle.std.specs.Prelude.{Result, Ok, Err}
use Rattle.std.proofs.lemmas.Bool.{cases_lt}
use Rattle.std.proofs.lemmas.List.{length-drop, take_all}
use Rattle.kh_types.specs.Table.{Row, Table}
use Rattle.table_text.specs.declared.stop.TableStop.{TableStop}
use Rattle.table_text.specs.declared.stop.TableStop.TheVariants.{Text, NoMemory}
use Rattle.table_text.specs.declared.version.Version.{Version}
use Rattle.table_text.specs.Lines.{first_line}
use Rattle.table_text.specs.Reading.{IsTableText, HasWrongTableLine, IsTableReading}
use Rattle.table_text.specs.Versions.{IsTableIn, table_lines}
use Rattle.table_text.specs.Words.{IsReadingIn}
use Rattle.table_text.proofs.Decisions.{decided-field, decided-next}
use Rattle.table_text.proofs.LineLemmas.{first_line-some, length-first_line-le}
use Rattle.table_text.proofs.RowOrder.{table_of, IsTableIn-none, IsTableIn-push}
use Rattle.table_text.proofs.TableLines.{HasWrongLineIn-first, HasWrongLineIn-next, so_far-first, so_far-next, table_lines-injective, wrong-once, wrong-text}
use Rattle.table_text.proofs.VersionTexts.{Cut-text, Cut-reading, Cut-lines, shifted}

-- one reading of lines

IsReadingIn-one : (version : Version) (text : List ℕ) (a b : Result Table TableStop) → IsReadingIn version text a
    → IsReadingIn version text b → a ≡ b
IsReadingIn-one version text (Ok table) (Ok other) is other_is =
    ap Ok (table_lines-injective table other is.0.table other_is.0.table (sym is.1 ∙ other_is.1))
IsReadingIn-one version text (Ok table) (Err (Text place)) is wrong = absurd (wrong-text version text place (table, is.0, is.1) wrong)
IsReadingIn-one version text (Err (Text place)) (Ok table) wrong is = absurd (wrong-text version text place (table, is.0, is.1) wrong)
IsReadingIn-one version text (Err (Text place)) (Err (Text other)) wrong again = elim (cases_lt place other) [
  | inl less ↦ absurd (wrong-once version text place other less wrong again)
  | inr from ↦ elim (cases_lt other place) [
    | inl less ↦ absurd (wrong-once version text other place less again wrong)
    | inr to ↦ let same : place ≡ other = omega (arith, from, to) in ap (λ p. Err (Text p)) same
  ]
]
IsReadingIn-one version text (Err NoMemory) b is b_is = absurd is
IsReadingIn-one version text (Ok table) (Err NoMemory) is b_is = absurd b_is
IsReadingIn-one version text (Err (Text place)) (Err NoMemory) is b_is = absurd b_is

-- some reading of lines, one by one

reading_from : (fuel : ℕ) (version : Version) (text : List ℕ) (field : ℕ) (rows : List Row) (place : ℕ)
    → IsTableIn version (table_of field rows) → place ≤ length text → take place text ≡ table_lines (table_of field rows)
    → length text ≤ place + fuel → (reading : Result Table TableStop) × IsReadingIn version text reading
reading_from zero version text field rows place is within so_far near =
    (Ok (table_of field rows), (is, sym (take_all place text (omega (arith, near))) ∙ so_far))
reading_from (suc fuel) version text field rows place is within so_far near = elim (cases_lt place (length text)) [
  | inr past ↦ (Ok (table_of field rows), (is, sym (take_all place text past) ∙ so_far))
  | inl below ↦
      let line = first_line (drop place text) in
      elim (decided-next version rows line) [
        | inr none ↦ (Err (Text place), HasWrongLineIn-next version text (table_of field rows) place is so_far below none)
        | inl (row, next) ↦
            let size = length-drop place text in
            let some = first_line-some (drop place text) (omega (arith, size, below)) in
            reading_from fuel version text field (rows ++ row ∷ []) (place + length line)
            (IsTableIn-push version field rows row is next.0)
            (omega (arith, length-first_line-le (drop place text), size, within))
            (so_far-next text field rows row place so_far next.1) (omega (arith, near, some))
      ]
]

IsReadingIn-some : (version : Version) (text : List ℕ) → (reading : Result Table TableStop) × IsReadingIn version text reading
IsReadingIn-some version text = elim (decided-field (first_line text)) [
  | inr none ↦ (Err (Text 0), HasWrongLineIn-first version text none)
  | inl (field, is) ↦
      reading_from (length text) version text field [] (length (first_line text)) (IsTableIn-none version field is.0)
      (length-first_line-le text) (so_far-first text field is.1) (omega arith)
]

-- the readings of a text are those of its lines behind the line of the version

pub IsTableReading-some : (text : List ℕ) → (reading : Result Table TableStop) × IsTableReading text reading
IsTableReading-some text =
    let cut = Cut-text text in
    let lines = IsReadingIn-some cut.0 cut.1 in
    (shifted cut.0 lines.0, Cut-reading cut.0 text cut.1 cut.2 lines.0 lines.1)

pub IsTableReading-one : (text : List ℕ) (a b : Result Table TableStop) → IsTableReading text a → IsTableReading text b → a ≡ b
IsTableReading-one text a b is other_is =
    let cut = Cut-text text in
    let one = Cut-lines cut.0 text cut.1 cut.2 a is in
    let other = Cut-lines cut.0 text cut.1 cut.2 b other_is in
    one.2 ∙ ap (shifted cut.0) (IsReadingIn-one cut.0 cut.1 one.0 other.0 one.1 other.1) ∙ sym other.2

-- so a text is refused exactly where it is no table's

refused-reading : (text : List ℕ) → (IsTableText text → ⊥) → (reading : Result Table TableStop) → IsTableReading text reading
    → (place : ℕ) × HasWrongTableLine text place
refused-reading text other (Ok table) is = absurd (other (table, is))
refused-reading text other (Err (Text place)) wrong = (place, wrong)
refused-reading text other (Err NoMemory) is = absurd is

pub refused : (text : List ℕ) → (IsTableText text → ⊥) → (place : ℕ) × HasWrongTableLine text place
refused text other = let some = IsTableReading-some text in refused-reading text other some.0 some.1

pub not_both : (text : List ℕ) (place : ℕ) → HasWrongTableLine text place → IsTableText text → ⊥
not_both text place wrong (table, known) = cc (IsTableReading-one text (Err (Text place)) (Ok table) wrong known)
