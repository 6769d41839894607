-- The numbers of arcs after a finger was added.
use Rattle.std.proofs.Common.{◌≡◌, ◌≢◌, ℕ, ◌⊎◌, ◌+◌, ◌-◌, ◌≤◌, arith}
use Rattle.std.specs.Prelude.{nat_lt, if◌then◌else◌}
use Rattle.std.proofs.lemmas.Bool.Decides.{nat_tests}
use Rattle.kink_and_finger_laws.specs.FingerAdd.{opened, head_number}

-- the arc that a number was part of where the arc a has been cut in three
abbrev pub lowered : ℕ → ℕ → ℕ
lowered a y = if nat_lt a y then (if nat_lt (a + 2) y then y - 2 else a) else y

-- the same of two arcs, the greater one first raised by the cuts of the lesser
abbrev pub low : ℕ → ℕ → ℕ → ℕ
low a b y = if nat_lt a b then lowered b (lowered a y) else lowered a (lowered b y)

-- one of the two arcs
abbrev pub IsOneOf : ℕ → ℕ → ℕ → Type 0
IsOneOf a b x = (x ≡ a) ⊎ (x ≡ b)

pub low-opened : (a b x : ℕ) → a ≢ b → low a b (opened a b x) ≡ x
low-opened a b x apart = grind (arith, nat_tests)

pub low-head_number : (a b x : ℕ) → a ≢ b → low a b (head_number a b x) ≡ x
low-head_number a b x apart = grind (arith, nat_tests)

pub head_number-one : (a b x : ℕ) → IsOneOf a b x → head_number a b x ≡ opened a b x + 2
head_number-one a b x is = grind (arith, nat_tests)

pub opened-from : (a b x : ℕ) → x ≤ opened a b x
opened-from a b x = grind (arith, nat_tests)

-- within the numbers of the arcs
pub head_number-within : (a b x m : ℕ) → a ≢ b → a ≤ m → b ≤ m → x ≤ m → head_number a b x ≤ m + 4
head_number-within a b x m apart a_within b_within within = grind (arith, nat_tests)

pub opened-le-head_number : (a b x : ℕ) → opened a b x ≤ head_number a b x
opened-le-head_number a b x = grind (arith, nat_tests)
