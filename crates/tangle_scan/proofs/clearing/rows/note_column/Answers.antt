use Rattle.std.proofs.Common.{ℕ, List, inl, inr, sym, subst, arith}
use Rattle.std.specs.List.{Contains}
use Rattle.std.proofs.lemmas.List.{take_all}
use Rattle.tangle_scan.specs.declared.complex.Entry.{Entry}
use Rattle.tangle_scan.specs.Eliminations.{HasHead, named_in}
use Rattle.tangle_scan.proofs.NotedRows.{heads-more, more-both}
use Rattle.tangle_scan.proofs.clearing.rows.note_column.Goals as goal

pub entries-preserved : goal.entries-preserved
entries-preserved c =
    let column = c.args.column.now in
    let new = c.note.new.rows.items in
    record {
      noted = λ y has. elim (heads-more column c.entries.entry-index c.entry-item.result y c.entries-test.true c.entry-item.is has) [
        | inl before ↦ c.in_ok-note.ensures.kept.kept y c.args.place (c.entries.invariant.noted y before)
        | inr same ↦ subst (λ (z : ℕ). Contains (named_in new z) c.args.place) same c.in_ok-note.ensures.noted
      ];
      kept = more-both c.args.rows.now.items c.entries.rows.items new c.entries.invariant.kept c.in_ok-note.ensures.kept;
    }

pub returns-clause-noted : goal.returns-clause-noted
returns-clause-noted c y has =
    c.entries.invariant.noted y
    (subst (λ (es : List Entry). HasHead es y)
    (sym (take_all c.entries.entry-index c.args.column.now (omega (arith, c.entries-test.false)))) has)
