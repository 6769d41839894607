use Rattle.std.proofs.Common.{◌≡◌, ◌∙◌, ℕ, List, inl, inr, sym, subst, ap, arith}
use Rattle.std.specs.List.{Contains}
use Rattle.std.proofs.lemmas.Bool.{cases_lt}
use Rattle.tangle_scan.specs.declared.complex.Entry.{Entry}
use Rattle.tangle_scan.specs.Eliminations.{HasHead, column_in, named_in}
use Rattle.tangle_scan.proofs.Turns.{column-at, entries}
use Rattle.tangle_scan.proofs.clearing.rows.rows_of.Goals as goal

pub columns-preserved : goal.columns-preserved
columns-preserved c =
    let columns = c.args.columns.now in
    let place = c.columns.place in
    let column = c.index-columns-place.result in
    let new = c.note_column.new.rows.items in
    let read : column_in columns place ≡ c.as_slice.result.now =
    column-at columns place column c.columns-test.true ∙ ap entries (sym c.index-columns-place.is) ∙ sym c.as_slice.ensures.value in
    record {
      size = c.in_ok-note_column.ensures.kept.size ∙ c.columns.invariant.size;
      noted = λ x below y has. elim (cases_lt x place) [
        | inl earlier ↦ c.in_ok-note_column.ensures.kept.kept y x (c.columns.invariant.noted x earlier y has)
        | inr here ↦
            let same : x ≡ place = omega arith in
            subst (λ (w : ℕ). Contains (named_in new y) w) (sym same)
            (c.in_ok-note_column.ensures.noted y
            (subst (λ (es : List Entry). HasHead es y) (ap (column_in columns) same ∙ read) has))
      ];
    }
