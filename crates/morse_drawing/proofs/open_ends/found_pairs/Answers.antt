use Rattle.std.proofs.Common.{◌≡◌, ◌∙◌, ap, rules, arith}
use Rattle.morse_drawing.specs.OpenEnds.{pairs_before}
use Rattle.morse_drawing.proofs.open_ends.found_pairs.Goals as goal

pub returns : goal.returns
returns c =
    let all : c.darts.dart ≡ 80 = search (rules, arith) in
    c.darts.invariant ∙ ap (pairs_before c.args.others.now) all
