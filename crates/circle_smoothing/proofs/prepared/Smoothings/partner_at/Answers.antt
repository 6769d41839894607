use Rattle.std.proofs.lemmas.Bool.Decides.{nat_tests}
use Rattle.std.proofs.Common.{arith}
use Rattle.circle_smoothing.proofs.TableLemmas.{length-partners_at, partner-below, slice_index-partners}
use Rattle.circle_smoothing.proofs.prepared.Smoothings.partner_at.Goals as goal

pub bounds-deref-place : goal.bounds-deref-place
bounds-deref-place = grind (arith, nat_tests, length-partners_at)

pub returns-clause-place : goal.returns-clause-place
returns-clause-place = grind (arith, nat_tests, slice_index-partners)

pub returns-clause-below : goal.returns-clause-below
returns-clause-below = grind (arith, nat_tests, partner-below)
