-- The circles of states where crossings are dropped.
use Rattle.std.specs.Prelude.{ℕ, ◌+◌, ◌-◌, ◌^◌, ◌%◌, ℤ, map, List, length, Bool, ◌&&◌, if◌then◌else◌, nat_eq}
use Rattle.std.specs.List.{count_by, flat_map, range_with_len}
use Rattle.kh_types.specs.Bits.{bit, ones}
use Rattle.kh_types.specs.StateSum.{int_sum, term_of}
use Rattle.kh_types.specs.Circles.{smoothing_of, smoothings_of}
use Rattle.kh_types.specs.Classes.{classes_of, is_least}
use Rattle.code_passes.specs.Parts.{Parts, slots_in}
use Rattle.kink_and_finger_laws.specs.Drops.{kept_places, stands_in}

-- what the smoothings of a state join at the crossing at a place
abbrev pub joined_at : List (List ℕ) → ℕ → ℕ → List (ℕ × ℕ)
joined_at crossings state place = smoothing_of (bit state place) (slots_in crossings place)

-- what they join at the crossings that stay
abbrev pub outer_pairs : List (List ℕ) → (ℕ → Bool) → ℕ → List (ℕ × ℕ)
outer_pairs crossings gone state = flat_map (joined_at crossings state) (kept_places crossings gone)

-- the smoothing that goes through a kink at a slot: it joins the slots after p and two after p, and p and the slot before it
abbrev pub through_at : ℕ → ℕ
through_at p = if nat_eq (p % 2) 0 then 1 else 0

-- the smoothing that closes a circle of the kink's arc: it joins p and the slot after it
abbrev pub closing_at : ℕ → ℕ
closing_at p = if nat_eq (p % 2) 0 then 0 else 1

-- the circles of a state of crossings over names below a bound: the classes that stand at some crossing, by their least names, and the loops
abbrev pub parts_circle_count : ℕ → Parts → ℕ → ℕ
parts_circle_count bound parts state =
    count_by (λ name. is_least (classes_of bound (smoothings_of parts.crossings state)) name && stands_in parts.crossings name)
    (range_with_len 0 bound) + parts.loops

-- how many of the crossings are positive
abbrev pub parts_plus : Parts → ℕ
parts_plus parts = count_by (λ (is_positive : Bool). is_positive) parts.positive

-- how many of them are not
abbrev pub parts_minus : Parts → ℕ
parts_minus parts = length parts.crossings - parts_plus parts

-- what a state adds to the state sum of crossings over names below a bound
abbrev pub parts_term : ℕ → Parts → ℤ → ℕ → ℤ
parts_term bound parts exponent state =
    term_of (parts_plus parts) (parts_minus parts) exponent (ones (length parts.crossings) state)
    (parts_circle_count bound parts state)

-- that state sum
abbrev pub parts_sum : ℕ → Parts → ℤ → ℤ
parts_sum bound parts exponent =
    int_sum (map (parts_term bound parts exponent) (range_with_len 0 (2 ^ length parts.crossings)))
