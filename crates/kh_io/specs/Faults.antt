-- Counts of faults, and what they show.
use Rattle.std.specs.Prelude.{ℕ, ◌+◌, ◌-◌, ◌^◌, ◌≤◌, ◌≡◌, min, Result, OnErr, OnOk, MatchResult}

-- the number after n, in a count that stays at the last value of u64 once it reaches it
abbrev pub next_count : ℕ → ℕ
next_count n = min (n + 1) (2 ^ 64 - 1)

-- a count that never falls has risen from `before`, or stands at the last value of u64
abbrev pub Rose : ℕ → ℕ → Type 0
Rose before now = next_count before ≤ now

-- the count of faults has not fallen in a call, the call failed only where it rose, and in a call that did not fail it stayed
pub record HasCause {T E : Type 0} (before now : ℕ) (result : Result T E) : Type 0 where
  pub later : before ≤ now
  pub failed : OnErr result (Rose before now)
  pub stayed : OnOk result (now ≡ before)

-- the count of faults rises by one in a call that fails, and stays in any other
abbrev pub IsCounted : {T E : Type 0} → ℕ → ℕ → Result T E → Type 0
IsCounted before now result = MatchResult result (λ _. now ≡ before) (λ _. now ≡ next_count before)
