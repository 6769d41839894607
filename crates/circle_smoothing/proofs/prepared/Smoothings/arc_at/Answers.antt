use Rattle.std.proofs.lemmas.Bool.Decides.{nat_tests}
use Rattle.std.proofs.Common.{arith}
use Rattle.circle_smoothing.proofs.TableLemmas.{IsArc-in_table, length-arcs_at, slice_index-arcs}
use Rattle.circle_smoothing.proofs.prepared.Smoothings.arc_at.Goals as goal

pub bounds-deref-place : goal.bounds-deref-place
bounds-deref-place = grind (arith, nat_tests, length-arcs_at)

pub returns-clause-arc : goal.returns-clause-arc
returns-clause-arc = grind (arith, nat_tests, slice_index-arcs)

pub returns-clause-within : goal.returns-clause-within
returns-clause-within = grind (arith, nat_tests, IsArc-in_table)
