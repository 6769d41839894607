use Rattle.std.proofs.Common.{◌≡◌, ◌<◌, length, true, sym, arith, rules}
use Rattle.std.specs.Prelude.{not}
use Rattle.morse_drawing.specs.Pages.{is_in}
use Rattle.morse_drawing.proofs.StepLemmas.{found_first}
use Rattle.morse_drawing.proofs.step.undrawn.Goals as goal

pub returns-then-not-has_drawn : goal.returns-then-not-has_drawn
returns-then-not-has_drawn c =
    let drawn = c.args.page.now.drawn in
    let below : c.crossings.crossing < length c.args.diagram.now.crossings = search (rules, arith) in
    let passes : not (is_in drawn c.crossings.crossing) ≡ true = search rules in
    sym (found_first (λ k. not (is_in drawn k)) (length c.args.diagram.now.crossings) c.crossings.crossing below c.crossings.invariant passes)
