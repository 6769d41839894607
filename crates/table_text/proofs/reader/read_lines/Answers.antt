use Rattle.std.proofs.Common.{◌≡◌, ◌+◌, ◌∙◌, List, ℕ, length, take, drop, ap, sym, subst, arith}
use Rattle.std.specs.Prelude.{Option, None, Some}
use Rattle.std.proofs.lemmas.List.{length-drop}
use Rattle.kh_types.specs.Table.{Row}
use Rattle.table_text.specs.Lines.{first_line}
use Rattle.table_text.specs.Versions.{IsTableIn, table_lines}
use Rattle.table_text.specs.Words.{IsFieldIn, IsNextRow}
use Rattle.table_text.specs.declared.version.Version.{Version}
use Rattle.table_text.proofs.LineLemmas.{length-first_line-le}
use Rattle.table_text.proofs.RowOrder.{table_of, IsTableIn-none, IsTableIn-push}
use Rattle.table_text.proofs.TableLines.{HasWrongLineIn-first, HasWrongLineIn-next, so_far-first, so_far-next}
use Rattle.table_text.proofs.reader.read_lines.Goals as goal

pub returns-in_default : goal.returns-in_default
returns-in_default c = λ some.
    HasWrongLineIn-first c.args.version c.args.text.now (subst (λ (line : List ℕ). IsFieldIn line None) c.line_at-first.ensures c.in_default.ensures)

pub lines-init : goal.lines-init
lines-init c =
    let text = c.args.text.now in
    let field = c.in-Some.field in
    let size : length c.line_at-first.result.now ≡ length (first_line text) = ap length c.line_at-first.ensures in
    let is : first_line text ≡ _ = sym c.line_at-first.ensures ∙ c.in-Some.ensures.1 in
    record {
      within = omega (arith, size, length-first_line-le text);
      so_far = ap (λ (n : ℕ). take n text) size ∙ so_far-first text field is
          ∙ ap (λ (rows : List Row). table_lines (table_of field rows)) (sym c.new-rows.ensures.items);
      table = subst (λ (rows : List Row). IsTableIn c.args.version (table_of field rows)) (sym c.new-rows.ensures.items)
          (IsTableIn-none c.args.version field c.in-Some.ensures.0);
    }

moved : (version : Version) (rows others : List Row) (line other : List ℕ) (found last : Option Row) → rows ≡ others → line ≡ other → found ≡ last
    → IsNextRow version rows line found → IsNextRow version others other last
moved version rows others line other found last same_rows same_line same_found next =
    subst (λ (o : Option Row). IsNextRow version others other o) same_found
    (subst (λ (l : List ℕ). IsNextRow version others l found) same_line
    (subst (λ (rs : List Row). IsNextRow version rs line found) same_rows next))

pub returns-in_default-2 : goal.returns-in_default-2
returns-in_default-2 c = λ some.
    let text = c.args.text.now in
    let rows = c.lines.rows.items in
    let line = first_line (drop c.lines.place text) in
    HasWrongLineIn-next c.args.version text (table_of c.in-Some.field rows) c.lines.place c.lines.invariant.table c.lines.invariant.so_far
    c.lines-test.true
    (moved c.args.version c.deref.result.now rows c.line_at-line.result.now line c.in_ok-row.field-0 None c.deref.ensures.value
    c.line_at-line.ensures c.in_default-2.is c.in_ok-row.ensures)

pub lines-preserved : goal.lines-preserved
lines-preserved c =
    let text = c.args.text.now in
    let field = c.in-Some.field in
    let rows = c.lines.rows.items in
    let place = c.lines.place in
    let row = c.in-Some-2.row in
    let line = first_line (drop place text) in
    let next : IsNextRow c.args.version rows line (Some row) =
    moved c.args.version c.deref.result.now rows c.line_at-line.result.now line c.in_ok-row.field-0 (Some row) c.deref.ensures.value
    c.line_at-line.ensures c.in-Some-2.is c.in_ok-row.ensures in
    let size : length c.line_at-line.result.now ≡ length line = ap length c.line_at-line.ensures in
    record {
      within = omega (arith, size, length-first_line-le (drop place text), length-drop place text, c.lines.invariant.within);
      so_far = ap (λ (n : ℕ). take (place + n) text) size
          ∙ so_far-next text field rows row place c.lines.invariant.so_far next.1
          ∙ ap (λ (rs : List Row). table_lines (table_of field rs)) (sym c.in_ok-push.ensures.items);
      table = subst (λ (rs : List Row). IsTableIn c.args.version (table_of field rs)) (sym c.in_ok-push.ensures.items)
          (IsTableIn-push c.args.version field rows row c.lines.invariant.table next.0);
    }
