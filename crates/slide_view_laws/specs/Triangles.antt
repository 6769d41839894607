-- The eight states of the three crossings of a triangle, and what is seen of them.
use Rattle.std.specs.Prelude.{◌≡◌, ◌≢◌, ℕ, ◌+◌, ◌-◌, ◌*◌, ◌%◌, ◌^◌, ◌<◌, ◌≤◌, nat_eq, if◌then◌else◌}
use Rattle.kh_types.specs.Bits.{bit, ones}
use Rattle.kh_types.specs.Code.{Code}
use Rattle.slide_view_laws.specs.Together.{IsSeen}
use Rattle.view_laws.specs.Views.{AreTogether}

-- the state of the three crossings at which the sides close: at each the smoothing that joins its two sides
abbrev pub closing : ℕ → ℕ → ℕ → ℕ
closing p q r = p % 2 + (2 * (q % 2) + 4 * (r % 2))

-- the state with the other smoothing at all three
abbrev pub across : ℕ → ℕ → ℕ → ℕ
across p q r = 7 - closing p q r

-- a state with the other smoothing at one crossing, by its place
abbrev pub changed_at : ℕ → ℕ → ℕ
changed_at place state = if nat_eq (bit state place) 0 then state + 2 ^ place else state - 2 ^ place

-- a state of the whole has the bits of an inner state at three places, and the bits of a state with zeros there at the others
pub record IsStateAt (n c d e base state inner : ℕ) : Type 0 where
  pub others : (k : ℕ) → k ≢ c → k ≢ d → k ≢ e → bit state k ≡ bit base k
  pub at_c : bit state c ≡ bit inner 0
  pub at_d : bit state d ≡ bit inner 1
  pub at_e : bit state e ≡ bit inner 2
  pub ones : ones n state ≡ ones n base + ones 3 inner

-- the sides are one circle of a state, and nothing else is on it
pub record SidesClose (code : Code) (arcs : ℕ → ℕ) (state : ℕ) : Type 0 where
  pub second : AreTogether code state (arcs 8) (arcs 7)
  pub third : AreTogether code state (arcs 9) (arcs 7)
  pub alone : (x : ℕ) → IsSeen code arcs x → ¬ AreTogether code state x (arcs 7)

-- each side is on a circle with an end
pub record SidesShow (code : Code) (arcs : ℕ → ℕ) (state : ℕ) : Type 0 where
  pub end : ℕ → ℕ
  pub first_end : (side : ℕ) → 7 ≤ side → side < 10 → 1 ≤ end side
  pub last_end : (side : ℕ) → 7 ≤ side → side < 10 → end side < 7
  pub together : (side : ℕ) → 7 ≤ side → side < 10 → AreTogether code state (arcs side) (arcs (end side))
