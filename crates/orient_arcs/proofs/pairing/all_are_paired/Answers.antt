use Rattle.std.proofs.Common.{◌∙◌, ap, ap₂, sym}
use Rattle.std.specs.Prelude.{◌&&◌}
use Rattle.std.proofs.lemmas.List.Folds.{list_all_more}
use Rattle.orient_arcs.specs.Pairing.{is_paired_at}
use Rattle.orient_arcs.proofs.pairing.all_are_paired.Goals as goal

pub passes-preserved : goal.passes-preserved
passes-preserved c =
    let passes = c.args.passes.now in
    ap₂ (λ a b. a && b) c.passes.invariant (c.is_paired_at-are_paired.ensures ∙ ap (is_paired_at passes) c.pass-item.is)
    ∙ sym (list_all_more (is_paired_at passes) passes c.passes.pass-index c.pass-item.result c.passes-test.true)
