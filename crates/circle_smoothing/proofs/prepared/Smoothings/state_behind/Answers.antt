use Rattle.std.proofs.Common.{rules, ◌≡◌, ◌+◌, ◌-◌, ◌*◌, ◌%◌, ◌^◌, ◌<◌, arith, length}
use Rattle.kh_types.proofs.EdgeBits.{set-within}
use Rattle.circle_smoothing.proofs.prepared.Smoothings.state_behind.Goals as goal

pub returns-clause-within : goal.returns-clause-within
returns-clause-within c =
    let place = c.args.crossing - 1 in
    let same : c.args.state + 1 * 2 ^ place % 4294967296 ≡ c.args.state + 2 ^ place = search rules in
    let below : place < length c.args.self.now.crossings =
    omega (arith, c.requires.crossing.positive, c.requires.crossing.within) in
    omega (
      arith,
      same,
      set-within c.args.state place (length c.args.self.now.crossings) below c.requires.state c.requires.smoothing,
    )
