use Rattle.std.proofs.Common.{◌≡◌, ◌+◌, ◌*◌, ◌∙◌, ℤ, pos, ◌+ℤ◌, ◌-ℤ◌, ap, arith}
use Rattle.std.proofs.lemmas.Int.{ints}
use Rattle.kh_types.specs.StateSum.{circle_coefficient}
use Rattle.tangle_scan.proofs.finished.counting.ways_of.Goals as goal

pub returns-clause-ways : goal.returns-clause-ways
returns-clause-ways c =
    let asked = c.args.asked in
    let tally = c.args.tally.now in
    let exponent : ℤ = ((asked.j -ℤ tally.shift) -ℤ pos (tally.degree + asked.plus)) +ℤ pos (2 * asked.minus) in
    let loops : c.from-loops.result ≡ asked.loops = omega arith in
    c.ways.ensures.ways exponent (omega (arith, ints)) ∙ ap (λ n. circle_coefficient n exponent) loops
