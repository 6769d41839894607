use Rattle.std.proofs.Common.{◌-◌, refl, arith}
use Rattle.circle_smoothing.specs.declared.kinds.TheConstants.{COLUMNS}
use Rattle.circle_smoothing.proofs.TriangleLemmas.{binomial_at-later}
use Rattle.circle_smoothing.proofs.triangle.ways_at.Goals as goal

pub returns-else-place-lt-COLUMNS : goal.returns-else-place-lt-COLUMNS
returns-else-place-lt-COLUMNS c =
    let place = c.args.place in
    let later = binomial_at-later place (place - COLUMNS - 1) (place - COLUMNS) (omega arith) (omega arith) refl refl in
    omega (arith, c.requires.before (place - COLUMNS - 1) (omega arith), c.requires.before (place - COLUMNS) (omega arith), later)
