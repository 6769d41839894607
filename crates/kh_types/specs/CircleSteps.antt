-- Steps along the circles of a state, from dart to dart, by places.
use Rattle.std.specs.Prelude.{ℕ, ◌+◌, ◌-◌, ◌*◌, ◌/◌, ◌%◌, List, if◌then◌else◌, nat_eq}
use Rattle.kh_types.specs.Bits.{bit}
use Rattle.kh_types.specs.Darts.{arc_of, dart_at, partner_at}

-- the arc of the dart at a place
abbrev pub arc_at : List (List ℕ) → ℕ → ℕ
arc_at crossings place = arc_of crossings (dart_at place)

-- the slot that a smoothing joins a slot with: the 0-smoothing 0 with 1 and 2 with 3, the 1-smoothing 0 with 3 and 1 with 2
abbrev pub joined_slot : ℕ → ℕ → ℕ
joined_slot smoothing slot = if nat_eq smoothing 0 then slot + 1 - 2 * (slot % 2) else 3 - slot

-- the dart that the smoothing of its crossing joins a dart with
abbrev pub across : ℕ → ℕ → ℕ
across state place = 4 * (place / 4) + joined_slot (bit state (place / 4)) (place % 4)

-- the dart that follows on a circle: across the smoothing, and on to the other end of the arc
abbrev pub circle_step : List (List ℕ) → ℕ → ℕ → ℕ
circle_step crossings state place = partner_at crossings (across state place)
