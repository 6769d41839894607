-- The texts of tables in both versions: what stands behind the line of the version. Where the first line of a text is that of
-- version 2, its lines are what is behind it; else the whole text is taken for lines of version 1. Lines of a table do not begin
-- with that line, as their first letter is another. For version 1 a wrong line among the lines is a wrong line of the text, and
-- conversely. For version 2 the same holds with places moved by the eight bytes of the first line, and a wrong line never begins
-- before them. So the readings of the lines, moved so, are the readings of the text, and there are no others. Last, how what is
-- read prints: always as version 2, so a text of version 2 as itself, and one of version 1 with the line of the version before
-- it.
use Rattle.std.proofs.Common.{◌≡◌, ◌≢◌, ℕ, ◌+◌, ◌-◌, ◌≤◌, ◌⊎◌, ◌∙◌, List, [], ◌++◌, length, take, drop, get_or, ap, sym, refl, subst, inl, inr, arith}
use Rattle.std.specs.Prelude.{Result, Ok, Err, IsTrue, codes}
use Rattle.std.specs.Str.{bytes_eq}
use Rattle.std.proofs.lemmas.Bool.{cases_Bool}
use Rattle.std.proofs.lemmas.List.{append-nil, append_assoc, append_cancel_left, length-append, length-take-le, take-append-drop}
use Rattle.std.proofs.lemmas.Slice.Eq.{bytes_eq-Decides}
use Rattle.std.proofs.Math.Seq.{take-append-add, drop-append-add}
use Rattle.kh_types.specs.Table.{Table, table_text}
use Rattle.homology_tables.specs.Tables.{IsTable}
use Rattle.table_text.specs.declared.stop.TableStop.{TableStop}
use Rattle.table_text.specs.declared.stop.TableStop.TheVariants.{Text, NoMemory}
use Rattle.table_text.specs.declared.version.Version.{Version}
use Rattle.table_text.specs.declared.version.Version.TheVariants.{First, Second}
use Rattle.table_text.specs.Lines.{first_line}
use Rattle.table_text.specs.Reading.{Writes, HasWrongTableLine, IsTableReading}
use Rattle.table_text.specs.Versions.{IsTableIn, table_lines, version_line}
use Rattle.table_text.specs.Words.{AreTableLines, HasWrongLineIn, IsReadingIn}
use Rattle.table_text.proofs.LineLemmas.{first_line-first_line, first_line-drop}

-- the lines of a text behind the line of its version
abbrev pub Cut : Version → List ℕ → List ℕ → Type 0
Cut First text lines = (text ≡ lines) × (first_line text ≢ version_line)
Cut Second text lines = text ≡ version_line ++ lines

pub Cut-second : (text : List ℕ) → first_line text ≡ version_line → text ≡ version_line ++ drop 8 text
Cut-second text is =
    sym (first_line-drop text) ∙ ap (λ (line : List ℕ). line ++ drop (length line) text) is

pub length-second : (text : List ℕ) → first_line text ≡ version_line → length (drop 8 text) + 8 ≡ length text
length-second text is =
    omega (arith, ap length (Cut-second text is), length-append version_line (drop 8 text))

pub ruleset cuts = (Cut-second, length-second)

-- whether the first line is that of version 2

pub is_second-true : (text line : List ℕ) → IsTrue (bytes_eq line (codes "table 2\n")) → line ≡ first_line text
    → first_line text ≡ version_line
is_second-true text line same is = sym is ∙ (bytes_eq-Decides line version_line).0 same

pub is_second-same : (text line : List ℕ) → line ≡ first_line text → first_line text ≡ version_line
    → IsTrue (bytes_eq line (codes "table 2\n"))
is_second-same text line is same = (bytes_eq-Decides line version_line).1 (is ∙ same)

pub ruleset tests = (is_second-true, is_second-same)

pub Cut-text : (text : List ℕ) → (version : Version) × (lines : List ℕ) × Cut version text lines
Cut-text text = elim (cases_Bool (bytes_eq (first_line text) version_line)) [
  | inl same ↦ (Second, drop 8 text, Cut-second text ((bytes_eq-Decides (first_line text) version_line).0 same))
  | inr other ↦ (First, text, (refl, λ same. cc (other, (bytes_eq-Decides (first_line text) version_line).1 same)))
]

-- a wrong line is no want of memory
abbrev pub failed : TableStop → Result Table TableStop
failed stop = Err stop

pub not_memory : (place : ℕ) → failed (Text place) ≡ failed NoMemory → ⊥
not_memory place same = cc

-- a reading of the lines, with the place in the text
abbrev pub shifted : Version → Result Table TableStop → Result Table TableStop
shifted First reading = reading
shifted Second (Ok table) = Ok table
shifted Second (Err (Text place)) = Err (Text (8 + place))
shifted Second (Err NoMemory) = Err NoMemory

-- the two beginnings differ
other_beginning : (table : Table) (one other : List ℕ) → table_lines table ++ one ≡ version_line ++ other → ⊥
other_beginning table one other same =
    let first : 102 ≡ 116 = ap (λ (bytes : List ℕ). get_or bytes 0 0) same in omega (arith, first)

-- what begins with the line of the version has it as its first line
first_line-second : (text rest : List ℕ) → first_line text ≡ version_line ++ rest → first_line text ≡ version_line
first_line-second text rest is = sym (first_line-first_line text) ∙ ap first_line is

begins_second : (text : List ℕ) (place : ℕ) (rest : List ℕ) → take place text ≡ version_line ++ rest → first_line text ≡ version_line
begins_second text place rest is =
    ap first_line
    (sym (take-append-drop place text) ∙ ap (λ (bytes : List ℕ). bytes ++ drop place text) is
    ∙ append_assoc version_line rest (drop place text))

-- version 1

first-line : (text : List ℕ) (place : ℕ) → first_line text ≢ version_line → (take place text ≡ []) ⊎ AreTableLines First (take place text)
    → (rest : List ℕ) → take place text ++ first_line (drop place text) ≡ version_line ++ rest → ⊥
first-line text place other (inl none) rest is =
    let whole : drop place text ≡ text =
    sym (ap (λ (bytes : List ℕ). bytes ++ drop place text) none) ∙ take-append-drop place text in
    other (first_line-second text rest
    (sym (ap first_line whole) ∙ sym (ap (λ (bytes : List ℕ). bytes ++ first_line (drop place text)) none) ∙ is))
first-line text place other (inr (table, table_is, same)) rest is =
    other_beginning table (first_line (drop place text)) rest
    (sym (ap (λ (bytes : List ℕ). bytes ++ first_line (drop place text)) same) ∙ is)

first-wrong : (text : List ℕ) (place : ℕ) → first_line text ≢ version_line → HasWrongLineIn First text place → HasWrongTableLine text place
first-wrong text place other wrong = record {
  within = wrong.within;
  before = elim wrong.before [
    | inl none ↦ inl none
    | inr (table, is, same) ↦ inr (inr (table, (First, record { table = is; same = same })))
  ];
  line = λ known. refuted known.0 known.1.0 known.1.1;
  first = λ at. other;
}
  where
    refuted : (table : Table) (version : Version) → Writes (take place text ++ first_line (drop place text)) table version → ⊥
    refuted table First is = wrong.line (table, is.table, is.same)
    refuted table Second is = first-line text place other wrong.before (table_lines table) is.same

wrong-first : (text : List ℕ) (place : ℕ) → first_line text ≢ version_line → HasWrongTableLine text place → HasWrongLineIn First text place
wrong-first text place other wrong = record {
  within = wrong.within;
  before = elim wrong.before [
    | inl none ↦ inl none
    | inr (inl line) ↦ absurd (other (begins_second text place [] (line ∙ sym (append-nil version_line))))
    | inr (inr (table, (version, is))) ↦ inr (lines table version is)
  ];
  line = λ known. wrong.line (known.0, (First, record { table = known.1; same = known.2 }));
}
  where
    lines : (table : Table) (version : Version) → Writes (take place text) table version → AreTableLines First (take place text)
    lines table First is = (table, is.table, is.same)
    lines table Second is = absurd (other (begins_second text place (table_lines table) is.same))

-- version 2

take-second : (place : ℕ) (lines : List ℕ) → take (8 + place) (version_line ++ lines) ≡ version_line ++ take place lines
take-second place lines = take-append-add version_line lines place

drop-second : (place : ℕ) (lines : List ℕ) → drop (8 + place) (version_line ++ lines) ≡ drop place lines
drop-second place lines = drop-append-add version_line lines place

line-second : (place : ℕ) (lines : List ℕ)
    → take (8 + place) (version_line ++ lines) ++ first_line (drop (8 + place) (version_line ++ lines))
    ≡ version_line ++ (take place lines ++ first_line (drop place lines))
line-second place lines =
    ap (λ (bytes : List ℕ). bytes ++ first_line (drop (8 + place) (version_line ++ lines))) (take-second place lines)
    ∙ ap (λ (bytes : List ℕ). (version_line ++ take place lines) ++ first_line bytes) (drop-second place lines)
    ∙ append_assoc version_line (take place lines) (first_line (drop place lines))

-- a text of version 2 has its lines behind that of the version
writes-second : (lines : List ℕ) (table : Table) (version : Version) → Writes (version_line ++ lines) table version
    → IsTableIn Second table × (lines ≡ table_lines table)
writes-second lines table First is =
    absurd (other_beginning table [] lines (append-nil (table_lines table) ∙ sym is.same))
writes-second lines table Second is = (is.table, append_cancel_left version_line lines (table_lines table) is.same)

second-wrong : (lines : List ℕ) (place : ℕ) → HasWrongLineIn Second lines place → HasWrongTableLine (version_line ++ lines) (8 + place)
second-wrong lines place wrong = record {
  within = omega (arith, wrong.within, length-append version_line lines);
  before = elim wrong.before [
    | inl none ↦ inr (inl (take-second place lines ∙ ap (λ (bytes : List ℕ). version_line ++ bytes) none))
    | inr (table, is, same) ↦
        let whole = take-second place lines ∙ ap (λ (bytes : List ℕ). version_line ++ bytes) same in
        inr (inr (table, (Second, record { table = is; same = whole })))
  ];
  line = λ known.
      let is : Writes (version_line ++ (take place lines ++ first_line (drop place lines))) known.0 known.1.0 =
      subst (λ (bytes : List ℕ). Writes bytes known.0 known.1.0) (line-second place lines) known.1.1 in
      let both = writes-second (take place lines ++ first_line (drop place lines)) known.0 known.1.0 is in
      wrong.line (known.0, both.0, both.1);
  first = λ none. absurd (omega (arith, none));
}

-- a wrong line of a text of version 2 stands behind the line of the version
wrong-behind : (lines : List ℕ) (place : ℕ) → HasWrongTableLine (version_line ++ lines) place → 8 ≤ place
wrong-behind lines place wrong =
    let size = length-take-le place (version_line ++ lines) wrong.within in
    elim wrong.before [
      | inl none ↦ let at : place ≡ 0 = sym size ∙ ap length none in absurd (wrong.first at refl)
      | inr (inl line) ↦ omega (arith, size, ap length line)
      | inr (inr (table, (version, is))) ↦ behind table version is size
    ]
  where
    behind : (table : Table) (version : Version) → Writes (take place (version_line ++ lines)) table version
        → length (take place (version_line ++ lines)) ≡ place → 8 ≤ place
    behind table First is size =
        absurd (other_beginning table (drop place (version_line ++ lines)) lines
        (sym (ap (λ (bytes : List ℕ). bytes ++ drop place (version_line ++ lines)) is.same)
        ∙ take-append-drop place (version_line ++ lines)))
    behind table Second is size = omega (arith, size, ap length is.same, length-append version_line (table_lines table))

wrong-second : (lines : List ℕ) (place : ℕ) → HasWrongTableLine (version_line ++ lines) (8 + place) → HasWrongLineIn Second lines place
wrong-second lines place wrong = record {
  within = omega (arith, wrong.within, length-append version_line lines);
  before = elim wrong.before [
    | inl none ↦
        let empty : length (version_line ++ take place lines) ≡ 0 = ap length (sym (take-second place lines) ∙ none) in
        absurd (omega (arith, empty, length-append version_line (take place lines)))
    | inr (inl line) ↦
        inl (append_cancel_left version_line (take place lines) []
        (sym (take-second place lines) ∙ line ∙ sym (append-nil version_line)))
    | inr (inr (table, (version, is))) ↦
        let both = writes-second (take place lines) table version
        (subst (λ (bytes : List ℕ). Writes bytes table version) (take-second place lines) is) in
        inr (table, both.0, both.1)
  ];
  line = λ known.
      let whole = line-second place lines ∙ ap (λ (bytes : List ℕ). version_line ++ bytes) known.2 in
      wrong.line (known.0, (Second, record { table = known.1; same = whole }));
}

-- readings of the lines are readings of the text

pub Cut-reading : (version : Version) (text lines : List ℕ) → Cut version text lines → (reading : Result Table TableStop)
    → IsReadingIn version lines reading → IsTableReading text (shifted version reading)
Cut-reading First text lines cut (Ok table) is = (First, record { table = is.0; same = cut.0 ∙ is.1 })
Cut-reading First text lines cut (Err (Text place)) is =
    first-wrong text place cut.1 (subst (λ (bytes : List ℕ). HasWrongLineIn First bytes place) (sym cut.0) is)
Cut-reading First text lines cut (Err NoMemory) is = is
Cut-reading Second text lines cut (Ok table) is =
    (Second, record { table = is.0; same = cut ∙ ap (λ (bytes : List ℕ). version_line ++ bytes) is.1 })
Cut-reading Second text lines cut (Err (Text place)) is =
    subst (λ (bytes : List ℕ). HasWrongTableLine bytes (8 + place)) (sym cut) (second-wrong lines place is)
Cut-reading Second text lines cut (Err NoMemory) is = is

pub Cut-lines : (version : Version) (text lines : List ℕ) → Cut version text lines → (reading : Result Table TableStop)
    → IsTableReading text reading
    → (inner : Result Table TableStop) × IsReadingIn version lines inner × (reading ≡ shifted version inner)
Cut-lines First text lines cut (Ok table) is = (Ok table, first_lines is.0 is.1, refl)
  where
    first_lines : (version : Version) → Writes text table version → IsTableIn First table × (lines ≡ table_lines table)
    first_lines First writes = (writes.table, sym cut.0 ∙ writes.same)
    first_lines Second writes = absurd (cut.1 (ap first_line writes.same))
Cut-lines First text lines cut (Err (Text place)) is =
    (Err (Text place), subst (λ (bytes : List ℕ). HasWrongLineIn First bytes place) cut.0 (wrong-first text place cut.1 is), refl)
Cut-lines First text lines cut (Err NoMemory) is = absurd is
Cut-lines Second text lines cut (Ok table) is =
    (Ok table, writes-second lines table is.0 (subst (λ (bytes : List ℕ). Writes bytes table is.0) cut is.1), refl)
Cut-lines Second text lines cut (Err (Text place)) is =
    let wrong : HasWrongTableLine (version_line ++ lines) place = subst (λ (bytes : List ℕ). HasWrongTableLine bytes place) cut is in
    let behind = wrong-behind lines place wrong in
    let at : place ≡ 8 + (place - 8) = omega (arith, behind) in (
      Err (Text (place - 8)),
      wrong-second lines (place - 8) (subst (HasWrongTableLine (version_line ++ lines)) at wrong),
      ap (λ (p : ℕ). Err (Text p)) at,
    )
Cut-lines Second text lines cut (Err NoMemory) is = absurd is

-- how what is read prints

pub table_text-lines : (table : Table) → table_text table ≡ version_line ++ table_lines table
table_text-lines table = simp append_assoc

pub IsTableIn-second : (table : Table) → IsTable table → IsTableIn Second table
IsTableIn-second table is = record {
  table = is;
  rows = λ k d below. let row = is.rows k d below in record { row = row; j = row.j; i = row.i };
}

pub read-printed : (table : Table) → IsTable table → IsTableReading (table_text table) (Ok table)
read-printed table is = (Second, record { table = IsTableIn-second table is; same = table_text-lines table })

pub prints-second : (text : List ℕ) (table : Table) → IsTableReading text (Ok table) → first_line text ≡ version_line
    → table_text table ≡ text
prints-second text table is line =
    let cut = Cut-second text line in
    let both = writes-second (drop 8 text) table is.0 (subst (λ (bytes : List ℕ). Writes bytes table is.0) cut is.1) in
    table_text-lines table ∙ ap (λ (bytes : List ℕ). version_line ++ bytes) (sym both.1) ∙ sym cut

pub prints-first : (text : List ℕ) (table : Table) → IsTableReading text (Ok table) → first_line text ≢ version_line
    → table_text table ≡ version_line ++ text
prints-first text table is other =
    let lines = Cut-lines First text text (refl, other) (Ok table) is in
    table_text-lines table ∙ ap (λ (bytes : List ℕ). version_line ++ bytes) (go lines.0 lines.1 lines.2)
  where
    go : (inner : Result Table TableStop) → IsReadingIn First text inner → Ok table ≡ inner → table_lines table ≡ text
    go (Ok found) found_is same = let e : table ≡ found = cc in ap table_lines e ∙ sym found_is.1
    go (Err stop) found_is same = cc
