use Rattle.std.proofs.Common.{◌≡◌, ℕ, ◌-◌, ◌^◌, ◌<◌}
use Rattle.std.specs.Prelude.{Option, None}
use Rattle.std.specs.List.{range_with_len}
use Rattle.kh_types.specs.declared.fault.CodeFault.{CodeFault}
use Rattle.kh_types.specs.Acceptance.{first_of}
use Rattle.kh_types.proofs.acceptance.faults.first_of.Given as goal

abbrev pub invariant-loop-number : goal.invariant-loop-number
invariant-loop-number g l =
    (at : ℕ → Option CodeFault)
    → ((x : ℕ) (r : Option CodeFault) → x < 2 ^ 8 → goal.F-post g l.fault_at x r → r ≡ at x)
    → first_of at (range_with_len l.fn.numbers.start (l.number - l.fn.numbers.start)) ≡ None
