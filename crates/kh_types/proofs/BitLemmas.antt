-- Bits of numbers.
use Rattle.std.proofs.Common.{◌≡◌, ℕ, ◌+◌, ◌%◌, ◌^◌, ◌<◌, ◌≤◌, arith, ◌⊎◌, ◌*◌, ◌/◌}
use Rattle.std.proofs.lemmas.Bool.Decides.{nat_tests}
use Rattle.std.proofs.Math.Nat.{div-eq_of_lt}
use Rattle.std.proofs.Math.Pow.{pow_mono}
use Rattle.kh_types.specs.Bits.{bit, ones}
use Rattle.kh_types.proofs.Ranges.{sum_by-range_more}

-- a number has no bit from the place on of which it has fewer
pub bit-past : (number place size : ℕ) → number < 2 ^ size → size ≤ place → bit number place ≡ 0
bit-past number place size below past = grind (arith, nat_tests, pow_mono, div-eq_of_lt)

pub bit-cases : (number place : ℕ) → (bit number place ≡ 0) ⊎ (bit number place ≡ 1)
bit-cases number place = grind (arith, nat_tests)

pub parity : (n : ℕ) → (n % 2 ≡ 0) ⊎ (n % 2 ≡ 1)
parity n = grind arith

pub ones-more : (count number : ℕ) → ones (count + 1) number ≡ ones count number + bit number count
ones-more count number = sum_by-range_more (bit number) 0 count count (omega arith)

pub ruleset bits = (bit-past, ones-more)

-- a bit is 0 or 1
pub bit-below : (n k : ℕ) → bit n k < 2
bit-below n k = omega arith

-- a number without its lowest digit
pub half-of : (s e : ℕ) → (s % 2 + 2 * e) / 2 ≡ e
half-of s e = omega arith
