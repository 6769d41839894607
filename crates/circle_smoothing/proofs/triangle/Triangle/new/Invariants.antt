use Rattle.std.proofs.Common.{◌≡◌, ℕ, ◌<◌, get_or}
use Rattle.circle_smoothing.specs.Binomials.{binomial_at}
use Rattle.circle_smoothing.proofs.triangle.Triangle.new.Given as goal

abbrev pub invariant-places : goal.invariant-places
invariant-places l = (place : ℕ) → place < l.place → get_or l.ways place 0 ≡ binomial_at place
