use Rattle.std.proofs.lemmas.Bool.Decides.{nat_tests}
use Rattle.std.proofs.Common.{◌∙◌, sym, ap, rules, arith}
use Rattle.std.specs.Prelude.{Err}
use Rattle.std.proofs.lemmas.Result.{err_from_is_err_and}
use Rattle.morse_drawing.proofs.ReadSlices.{read_all, read_fault, read_more, read_none, read_paired}
use Rattle.morse_drawing.proofs.joining.joins_of.Goals as goal

pub slices-init : goal.slices-init
slices-init c = read_none c.args.slices.now c.new-ends.result c.new-ends.ensures

pub returns-in_err-read : goal.returns-in_err-read
returns-in_err-read c =
    let fault = err_from_is_err_and c.from_residual.result c.from_residual.ensures.1 in
    fault.1 ∙ ap Err fault.2
    ∙ read_fault c.args.slices.now c.slices.place c.slices.ends _ _ c.slices.invariant c.slices-test.true c.in_err-read.ensures.fault

pub slices-preserved : goal.slices-preserved
slices-preserved c =
    read_more c.args.slices.now c.slices.place c.slices.ends c.read.new.ends _ c.slices.invariant c.slices-test.true
    (sym c.in_ok-read.ensures.fault) c.in_ok-read.ensures.next

pub joins_at_end-requires : goal.joins_at_end-requires
joins_at_end-requires c = read_paired c.args.slices.now c.slices.place c.slices.ends c.slices.invariant

pub returns : goal.returns
returns c = grind (arith, nat_tests, read_all c.args.slices.now c.slices.place c.slices.ends c.slices.invariant (search (rules, arith)))
