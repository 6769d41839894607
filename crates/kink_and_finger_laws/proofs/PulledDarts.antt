-- Darts that are pulled off their arcs, step by step.
use Rattle.std.specs.Prelude.{◌≡◌, ◌≢◌, ℕ, ◌*◌, ◌<◌, nat_eq, nat_lt, ◌||◌, if◌then◌else◌}

-- a function on darts, taken back from before two darts were pulled: both have the value that their other ends share
abbrev pub taken_back : (ℕ → ℕ) → (ℕ → ℕ) → ℕ → ℕ → ℕ → ℕ
taken_back partner h s t x =
    if nat_eq x s || nat_eq x t then (if nat_eq (partner s) t then h s else h (partner s)) else h x

-- n crossings and one more, which is bare
abbrev pub with_bare : ℕ → (ℕ → ℕ) → ℕ → ℕ
with_bare n partner x = if nat_lt x (4 * n) then partner x else x

-- the partners after a kink was added
pub record AreKinked (n : ℕ) (partner : ℕ → ℕ) (x u w v s : ℕ) (new : ℕ → ℕ) : Type 0 where
  pub at_x : new x ≡ u
  pub at_u : new u ≡ x
  pub at_y : new (partner x) ≡ w
  pub at_w : new w ≡ partner x
  pub at_v : new v ≡ s
  pub at_s : new s ≡ v
  pub old : (z : ℕ) → z < 4 * n → z ≢ x → z ≢ partner x → new z ≡ partner z
