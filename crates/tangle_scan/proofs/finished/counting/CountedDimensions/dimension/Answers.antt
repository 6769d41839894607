use Rattle.std.proofs.Common.{◌≡◌, ◌∙◌, ℤ, ap, ap₂, arith, take, to_z, of_z}
use mir.Syntax.{w16}
use Rattle.std.proofs.lemmas.Int.{ints}
use Rattle.std.proofs.lemmas.List.{take_all}
use Rattle.tangle_scan.specs.Tallies.{count_at, tallied}
use Rattle.tangle_scan.proofs.finished.counting.CountedDimensions.dimension.Goals as goal

pub returns : goal.returns
returns c =
    let counted = c.args.self.now in
    let first = take c.tallies.tally-index counted.tallies.items in
    let same_i : to_z w16 (of_z w16 c.args.i) ≡ c.args.i = omega (arith, ints) in
    let same_j : to_z w16 (of_z w16 c.args.j) ≡ c.args.j = omega (arith, ints) in
    c.tallies.invariant.total
    ∙ ap₂ (λ (i j : ℤ). tallied (count_at counted.loops counted.plus counted.minus i j) first) same_i same_j
    ∙ ap (tallied (count_at counted.loops counted.plus counted.minus c.args.i c.args.j))
    (take_all c.tallies.tally-index counted.tallies.items (omega arith))
