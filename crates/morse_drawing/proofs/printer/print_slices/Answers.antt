use Rattle.std.proofs.Common.{rules, arith, ◌≡◌, ◌∙◌}
use Rattle.std.specs.Prelude.{string_bytes}
use Rattle.morse_drawing.proofs.TextLemmas.{printed_all, printed_more, printed_next, printed_none}
use Rattle.morse_drawing.proofs.printer.print_slices.Goals as goal

pub slices-init : goal.slices-init
slices-init c = printed_none c.args.slices.now _ c.requires (search rules)

pub push_line-requires : goal.push_line-requires
push_line-requires c = printed_next c.args.slices.now c.slices.slice-index c.slices.strands _ _ c.slices.invariant c.slices-test.true

pub strands_after-strands-requires : goal.strands_after-strands-requires
strands_after-strands-requires c =
    printed_next c.args.slices.now c.slices.slice-index c.slices.strands _ _ c.slices.invariant c.slices-test.true

pub slices-preserved : goal.slices-preserved
slices-preserved c =
    printed_more c.args.slices.now c.slices.slice-index c.slices.strands _ _ _ _ c.slices.invariant c.slices-test.true
    c.strands_after-strands.ensures (search rules)

pub returns : goal.returns
returns c =
    let same : c.into_bytes.result.items ≡ string_bytes c.slices.text = search rules in
    same ∙ printed_all c.args.slices.now c.slices.slice-index c.slices.strands _ c.slices.invariant (search (rules, arith))
