use Rattle.std.proofs.Common.{◌≡◌, take}
use Rattle.jones_sum.specs.Coefficients.{coefficients_of}
use Rattle.scan_main.proofs.EulerLemmas.{rows_euler}
use Rattle.scan_main.proofs.characteristic.euler.Given as goal

abbrev pub invariant-rows : goal.invariant-rows
invariant-rows l = l.coefficients ≡ coefficients_of (rows_euler (take l.row-index l.rows))
