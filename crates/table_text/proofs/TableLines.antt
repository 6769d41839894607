-- The lines of a table, one by one. Texts that are the same and begin with lines begin with the same line, so where the lines of
-- a table begin with those of another one, it has the other's field and rows, and then more rows. So behind the lines of a table
-- a line is wrong if it is that of no row that can follow, and the first line is wrong if it is that of no field. A line that is
-- right makes the table one row longer. Among the lines of a table, by the same argument, none is wrong, whatever stands behind
-- them: so the lines of a table have no wrong line, and the place of the first wrong line is determined. Last, lines are those of
-- one table only.
use Rattle.std.proofs.Common.{◌≡◌, ℕ, ◌+◌, ◌<◌, ◌≤◌, ◌⊎◌, ◌∙◌, List, [], ◌∷◌, ◌++◌, length, take, drop, ap, sym, refl, subst, inl, inr, arith}
use Rattle.std.specs.Prelude.{None}
use Rattle.std.specs.List.{All, flat_map}
use Rattle.std.proofs.lemmas.Bool.{cases_lt}
use Rattle.std.proofs.lemmas.List.{append-nil, append_assoc, append_cancel_left, length-drop, take-append-drop, take-append-le, drop-append-le, length-take-le}
use Rattle.std.proofs.lemmas.List.Concat.{flat_map-append}
use Rattle.std.proofs.lemmas.List.Elements.{All-head, All-tail}
use Rattle.std.proofs.Math.Seq.{take-add, take-append_seam, drop-length, take-length}
use Rattle.kh_types.specs.Table.{Row, Table, row_text}
use Rattle.homology_tables.specs.Tables.{IsRow, IsTable}
use Rattle.table_text.specs.Lines.{first_line, field_text}
use Rattle.table_text.specs.Versions.{IsTableIn, table_lines}
use Rattle.table_text.specs.Words.{AreTableLines, HasWrongLineIn, IsFieldIn, IsNextRow}
use Rattle.table_text.specs.declared.version.Version.{Version}
use Rattle.table_text.proofs.LineLemmas.{first_line-first_line, first_line-drop, first_line-some}
use Rattle.table_text.proofs.LineTexts.{IsLine, IsLine-field, IsLine-row, field_text-injective, row_text-injective}
use Rattle.table_text.proofs.RowOrder.{table_of, IsTableIn-none, IsTableIn-push, CanFollow-front}

-- the lines of a table with a row more
pub table_lines-push : (field : ℕ) (rows : List Row) (row : Row)
    → table_lines (table_of field (rows ++ row ∷ [])) ≡ table_lines (table_of field rows) ++ row_text row
table_lines-push field rows row =
    let lines : List ℕ = flat_map row_text rows in
    let more : flat_map row_text (rows ++ row ∷ []) ≡ lines ++ row_text row =
    flat_map-append row_text rows (row ∷ []) ∙ ap (λ (bytes : List ℕ). lines ++ bytes) (append-nil (row_text row)) in
    ap (λ (bytes : List ℕ). field_text field ++ bytes) more ∙ sym (append_assoc (field_text field) lines (row_text row))

-- texts that begin with lines begin with one line
split_lines : (one other more rest : List ℕ) → IsLine one → IsLine other → one ++ more ≡ other ++ rest → (one ≡ other) × (more ≡ rest)
split_lines one other more rest is other_is same =
    let line : one ≡ other = sym (is more) ∙ ap first_line same ∙ other_is rest in
    (line, append_cancel_left other more rest (ap (λ (bytes : List ℕ). bytes ++ more) (sym line) ∙ same))

-- the lines of rows that begin with those of others

rows_text-split : (rows front : List Row) (rest : List ℕ) → All IsRow rows → All IsRow front
    → flat_map row_text rows ≡ flat_map row_text front ++ rest
    → (more : List Row) × (rows ≡ front ++ more) × (rest ≡ flat_map row_text more)
rows_text-split rows [] rest are front_are same = (rows, refl, sym same)
rows_text-split [] (row ∷ front) rest are front_are same = cc
rows_text-split (row ∷ rows) (other ∷ front) rest are front_are same =
    let is = All-head IsRow row rows are in
    let other_is = All-head IsRow other front front_are in
    let split = split_lines (row_text row) (row_text other) (flat_map row_text rows) (flat_map row_text front ++ rest)
    (IsLine-row row is) (IsLine-row other other_is)
    (same ∙ append_assoc (row_text other) (flat_map row_text front) rest) in
    let later = rows_text-split rows front rest (All-tail IsRow row rows are) (All-tail IsRow other front front_are) split.1 in
    let first : row ≡ other = row_text-injective row other is other_is split.0 in (
      later.0,
      ap (λ (r : Row). r ∷ rows) first ∙ ap (λ (rs : List Row). other ∷ rs) later.1,
      later.2,
    )

-- the lines of a table that begin with those of another: it has the other's field and rows, and then some
pub record Continues (front table : Table) (rest : List ℕ) : Type 0 where
  pub more : List Row
  pub table_is : table ≡ table_of front.field (front.rows ++ more)
  pub rest_is : rest ≡ flat_map row_text more

pub Continues-lines : (front table : Table) (rest : List ℕ) → IsTable front → IsTable table
    → table_lines table ≡ table_lines front ++ rest → Continues front table rest
Continues-lines front table rest front_is is same =
    let lines : List ℕ = flat_map row_text front.rows in
    let split = split_lines (field_text table.field) (field_text front.field) (flat_map row_text table.rows) (lines ++ rest)
    (IsLine-field table.field is.field) (IsLine-field front.field front_is.field)
    (same ∙ append_assoc (field_text front.field) lines rest) in
    let field : table.field ≡ front.field = field_text-injective table.field front.field is.field front_is.field split.0 in
    let later = rows_text-split table.rows front.rows rest is.rows front_is.rows split.1 in
    record {
      more = later.0;
      table_is = ap (λ p. table_of p table.rows) field ∙ ap (table_of front.field) later.1;
      rest_is = later.2;
    }

-- a line that is wrong

no_table-next : (version : Version) (table : Table) (line : List ℕ) → IsTable table → 0 < length line → first_line line ≡ line
    → IsNextRow version table.rows line None → AreTableLines version (table_lines table ++ line) → ⊥
no_table-next version table line is some once none (other, other_is, same) =
    let continues = Continues-lines table other line is other_is.table (sym same) in
    go continues.more continues.table_is continues.rest_is
  where
    go : (more : List Row) → other ≡ table_of table.field (table.rows ++ more) → line ≡ flat_map row_text more → ⊥
    go [] other_text empty = absurd (omega (arith, some, ap length empty))
    go (row ∷ more) other_text begins =
        let can = CanFollow-front version table.field table.rows more row (subst (IsTableIn version) other_text other_is) in
        none row can (sym once ∙ ap first_line begins ∙ IsLine-row row can.within.row (flat_map row_text more))

pub HasWrongLineIn-next : (version : Version) (text : List ℕ) (table : Table) (place : ℕ) → IsTableIn version table
    → take place text ≡ table_lines table → place < length text → IsNextRow version table.rows (first_line (drop place text)) None
    → HasWrongLineIn version text place
HasWrongLineIn-next version text table place is so_far below none =
    let rest = drop place text in
    let some : 0 < length rest = omega (arith, length-drop place text, below) in
    record {
      within = omega (arith, below);
      before = inr (table, is, so_far);
      line = λ known.
          no_table-next version table (first_line rest) is.table (first_line-some rest some) (first_line-first_line rest) none
          (subst (λ (front : List ℕ). AreTableLines version (front ++ first_line rest)) so_far known);
    }

pub HasWrongLineIn-first : (version : Version) (text : List ℕ) → IsFieldIn (first_line text) None → HasWrongLineIn version text 0
HasWrongLineIn-first version text none = record {
  within = omega arith;
  before = inl refl;
  line = λ known.
      let table = known.0 in
      let is = known.1 in
      none table.field is.table.field
      (sym (first_line-first_line text) ∙ ap first_line known.2
      ∙ IsLine-field table.field is.table.field (flat_map row_text table.rows));
}

-- a line that is right

take-first_line : (text : List ℕ) → take (length (first_line text)) text ≡ first_line text
take-first_line text =
    let line = first_line text in
    ap (take (length line)) (sym (first_line-drop text)) ∙ take-append_seam line (drop (length line) text)

field_alone : (field : ℕ) → field_text field ≡ table_lines (table_of field [])
field_alone field = sym (append-nil (field_text field))

pub so_far-first : (text : List ℕ) (field : ℕ) → first_line text ≡ field_text field
    → take (length (first_line text)) text ≡ table_lines (table_of field [])
so_far-first text field is = take-first_line text ∙ is ∙ field_alone field

pub so_far-next : (text : List ℕ) (field : ℕ) (rows : List Row) (row : Row) (place : ℕ)
    → take place text ≡ table_lines (table_of field rows) → first_line (drop place text) ≡ row_text row
    → take (place + length (first_line (drop place text))) text ≡ table_lines (table_of field (rows ++ row ∷ []))
so_far-next text field rows row place so_far is =
    let size = length (first_line (drop place text)) in
    take-add place size text ∙ ap (λ (bytes : List ℕ). bytes ++ take size (drop place text)) so_far
    ∙ ap (λ (bytes : List ℕ). table_lines (table_of field rows) ++ bytes) (take-first_line (drop place text) ∙ is)
    ∙ sym (table_lines-push field rows row)

-- in the lines of a table none is wrong, whatever stands behind them

right-line : (version : Version) (text : List ℕ) (table : Table) (place : ℕ) (rest : List ℕ) → IsTableIn version table
    → text ≡ table_lines table → place < length text → (take place text ≡ []) ⊎ AreTableLines version (take place text)
    → AreTableLines version (take place text ++ first_line (drop place text ++ rest))
right-line version text table place rest is same below (inl none) =
    let lines : List ℕ = flat_map row_text table.rows in
    let whole : drop place text ≡ field_text table.field ++ lines =
    sym (ap (λ (bytes : List ℕ). bytes ++ drop place text) none) ∙ take-append-drop place text ∙ same in (
      table_of table.field [],
      IsTableIn-none version table.field is.table.field,
      ap (λ (bytes : List ℕ). bytes ++ first_line (drop place text ++ rest)) none
          ∙ ap (λ (bytes : List ℕ). first_line (bytes ++ rest)) whole
          ∙ ap first_line (append_assoc (field_text table.field) lines rest)
          ∙ IsLine-field table.field is.table.field (lines ++ rest) ∙ field_alone table.field,
    )
right-line version text table place rest is same below (inr (front, front_is, front_same)) =
    let continues = Continues-lines front table (drop place text) front_is.table is.table
    (sym same ∙ sym (take-append-drop place text) ∙ ap (λ (bytes : List ℕ). bytes ++ drop place text) front_same) in
    go continues.more continues.table_is continues.rest_is
  where
    go : (more : List Row) → table ≡ table_of front.field (front.rows ++ more) → drop place text ≡ flat_map row_text more
        → AreTableLines version (take place text ++ first_line (drop place text ++ rest))
    go [] table_is empty = absurd (omega (arith, ap length empty, length-drop place text, below))
    go (row ∷ more) table_is begins =
        let can = CanFollow-front version front.field front.rows more row (subst (IsTableIn version) table_is is) in
        let lines : List ℕ = flat_map row_text more in (
          table_of front.field (front.rows ++ row ∷ []),
          IsTableIn-push version front.field front.rows row front_is can,
          ap (λ (bytes : List ℕ). bytes ++ first_line (drop place text ++ rest)) front_same
              ∙ ap (λ (bytes : List ℕ). table_lines front ++ first_line (bytes ++ rest)) begins
              ∙ ap (λ (bytes : List ℕ). table_lines front ++ bytes)
              (ap first_line (append_assoc (row_text row) lines rest) ∙ IsLine-row row can.within.row (lines ++ rest))
              ∙ sym (table_lines-push front.field front.rows row),
        )

pub wrong-inside : (version : Version) (text : List ℕ) (place next : ℕ) → next ≤ length text → place < next → AreTableLines version (take next text)
    → HasWrongLineIn version text place → ⊥
wrong-inside version text place next within less (table, is, same) wrong =
    let front = take next text in
    let behind = drop next text in
    let size : length front ≡ next = length-take-le next text within in
    let below : place < length front = omega (arith, less, size) in
    let parts : text ≡ front ++ behind = sym (take-append-drop next text) in
    let before : take place text ≡ take place front =
    ap (take place) parts ∙ take-append-le place front behind (omega (arith, below)) in
    let after : drop place text ≡ drop place front ++ behind =
    ap (drop place) parts ∙ drop-append-le place front behind (omega (arith, below)) in
    let right = right-line version front table place behind is same below
    (subst (λ (bytes : List ℕ). (bytes ≡ []) ⊎ AreTableLines version bytes) before wrong.before) in
    wrong.line
    (subst (λ (bytes : List ℕ). AreTableLines version (bytes ++ first_line (drop place text))) (sym before)
    (subst (λ (bytes : List ℕ). AreTableLines version (take place front ++ first_line bytes)) (sym after) right))

pub wrong-text : (version : Version) (text : List ℕ) (place : ℕ) → AreTableLines version text → HasWrongLineIn version text place → ⊥
wrong-text version text place known wrong = elim (cases_lt place (length text)) [
  | inl below ↦
      wrong-inside version text place (length text) (omega arith) below (subst (AreTableLines version) (sym (take-length text)) known) wrong
  | inr past ↦
      let end : place ≡ length text = omega (arith, past, wrong.within) in
      let whole : take place text ++ first_line (drop place text) ≡ text =
      ap (λ n. take n text ++ first_line (drop n text)) end
      ∙ ap (λ (bytes : List ℕ). bytes ++ first_line (drop (length text) text)) (take-length text)
      ∙ ap (λ (bytes : List ℕ). text ++ first_line bytes) (drop-length text) ∙ append-nil text in
      wrong.line (subst (AreTableLines version) (sym whole) known)
]

pub wrong-once : (version : Version) (text : List ℕ) (place next : ℕ) → place < next → HasWrongLineIn version text place → HasWrongLineIn version text next → ⊥
wrong-once version text place next less wrong again = elim again.before [
  | inl none ↦ absurd (omega (arith, ap length none, length-take-le next text again.within, less))
  | inr known ↦ wrong-inside version text place next again.within less known wrong
]

-- lines are those of one table

pub table_lines-injective : (table other : Table) → IsTable table → IsTable other → table_lines table ≡ table_lines other → table ≡ other
table_lines-injective table other is other_is same =
    let continues = Continues-lines other table [] other_is is (same ∙ sym (append-nil (table_lines other))) in
    go continues.more continues.table_is continues.rest_is
  where
    go : (more : List Row) → table ≡ table_of other.field (other.rows ++ more) → [] ≡ flat_map row_text more → table ≡ other
    go [] table_is none = table_is ∙ ap (table_of other.field) (append-nil other.rows)
    go (row ∷ more) table_is none = absurd (omega (arith, ap length none))
