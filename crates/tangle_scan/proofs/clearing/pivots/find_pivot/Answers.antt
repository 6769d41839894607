use Rattle.std.proofs.Common.{◌≡◌, ℕ, inl, inr, subst, arith}
use Rattle.std.proofs.lemmas.Bool.{cases_lt}
use Rattle.tangle_scan.specs.Held.{IsPivot}
use Rattle.tangle_scan.proofs.Killed.{alive-within}
use Rattle.tangle_scan.proofs.clearing.pivots.find_pivot.Goals as goal

pub tails-preserved : goal.tails-preserved
tails-preserved c tail below head number pivot = elim (cases_lt tail c.tails.tail) [
  | inl earlier ↦ c.tails.invariant tail earlier head number pivot
  | inr here ↦
      let same : tail ≡ c.tails.tail = omega arith in
      c.pivot_of.ensures.none c.in_default.is head number
      (subst (λ (x : ℕ). IsPivot c.args.rowed.now.complex x head number) same pivot)
]

pub returns-clause-none : goal.returns-clause-none
returns-clause-none c none tail head number pivot =
    let objects = c.args.rowed.now.complex.objects in
    let within = alive-within objects.items tail pivot.is_there in
    c.tails.invariant tail (omega (arith, within, objects.ok.0)) head number pivot
