use Rattle.std.proofs.Common.{rules, ℕ, ◌+◌, ◌*◌, ◌<◌, subst, sym}
use Rattle.kh_types.specs.declared.limits.TheConstants.{EXPONENT}
use Rattle.tangle_scan.proofs.GridLemmas.{place_in-below}
use Rattle.tangle_scan.proofs.scanning.products.Grid.place_in.Goals as goal

pub returns-clause-place : goal.returns-clause-place
returns-clause-place c = search rules

pub returns-clause-within : goal.returns-clause-within
returns-clause-within c =
    subst (λ (place : ℕ). place < (2 * EXPONENT + 1) * (2 * c.args.crossings + 1)) (sym (returns-clause-place c))
    (place_in-below c.args.crossings c.args.i c.args.j c.requires)
