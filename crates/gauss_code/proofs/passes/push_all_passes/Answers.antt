use Rattle.std.proofs.Common.{◌+◌, ◌++◌, ap, arith, length, length-append, ◌∙◌}
use Rattle.code_passes.specs.Passes.{passes_from, turned_labels}
use Rattle.gauss_code.proofs.PassLemmas.{labels_left, length-passes_from, passes_more}
use Rattle.gauss_code.proofs.passes.push_all_passes.Goals as goal

-- one more component
pub loop-labels-preserved : goal.loop-labels-preserved
loop-labels-preserved c =
    let passes = c.loop-labels.passes.items in
    let labels = c.labels-item.result.items in
    let added = c.push_passes.ensures ∙ ap (λ l. passes ++ passes_from (length passes + 1) (turned_labels l)) c.deref.ensures.value in
    record {
      passes = passes_more passes _ c.args.components.now c.loop-labels.labels-index c.labels-item.result c.push_passes.new.passes.items (omega arith)
          (added ∙ ap (λ item. passes ++ passes_from (length passes + 1) (turned_labels item.items)) c.labels-item.is) c.loop-labels.invariant.passes;
      room = let room = c.loop-labels.invariant.room in
          omega (
            arith,
            room,
            ap length added,
            length-append passes (passes_from (length passes + 1) (turned_labels labels)),
            length-passes_from (length passes + 1) labels,
            labels_left c.args.components.now c.loop-labels.labels-index c.labels-item.result (omega arith),
            ap (λ item. length item.items) c.labels-item.is,
          );
    }
