-- The darts that stay where crossings are dropped.
use Rattle.std.specs.Prelude.{◌≡◌, ◌⊎◌, ℕ, ◌+◌, ◌*◌, ◌/◌, ◌%◌, ◌<◌, List, map, nat_eq, slice_index, Bool, not}
use Rattle.std.specs.List.{range_with_len}
use Rattle.kh_types.specs.Darts.{dart_at}
use Rattle.kh_types.specs.Directions.{is_head}
use Rattle.kh_types.specs.Bits.{bit}
use Rattle.gluing_laws.specs.Codes.{arc_of_dart}
use Rattle.kink_and_finger_laws.specs.Drops.{straight_names, kept_places}
use Rattle.kink_and_finger_laws.specs.Pulls.{IsClosedPlanar}

-- whether the dart at a place is a head in a code
abbrev pub is_code_head : List (List ℕ) → ℕ → Bool
is_code_head crossings x = is_head crossings (dart_at x)

-- whether the dart at a place has the colour 1
abbrev pub is_colour : ℕ → ℕ → Bool
is_colour choice x = nat_eq ((bit choice (x / 4) + x % 4) % 2) 1

-- a function of crossings, of their darts
abbrev pub dartwise : (ℕ → ℕ) → ℕ → ℕ
dartwise f x = 4 * f (x / 4) + x % 4

-- the name of the class of a dart's arc
abbrev pub class_name : List (List ℕ) → (ℕ → Bool) → ℕ → ℕ
class_name crossings gone x = slice_index (straight_names crossings gone) (arc_of_dart crossings x)

-- the crossings that stay stand at the places that kept gives for 0 to k-1; a partner function of their darts leaves them on the sphere,
-- joins the two darts of each class of arcs, and leads from heads to tails and from one colour to the other
pub record IsDropped (crossings : List (List ℕ)) (gone : ℕ → Bool) (choice k : ℕ) (kept partner : ℕ → ℕ) : Type 0 where
  pub places : kept_places crossings gone ≡ map kept (range_with_len 0 k)
  pub closed : IsClosedPlanar k partner
  pub named : (x : ℕ) → x < 4 * k → class_name crossings gone (dartwise kept (partner x)) ≡ class_name crossings gone (dartwise kept x)
  pub heads : (x : ℕ) → x < 4 * k
      → is_code_head crossings (dartwise kept (partner x)) ≡ not (is_code_head crossings (dartwise kept x))
  pub colours : (x : ℕ) → x < 4 * k → is_colour choice (dartwise kept (partner x)) ≡ not (is_colour choice (dartwise kept x))
  pub two : (x y : ℕ) → x < 4 * k → y < 4 * k → class_name crossings gone (dartwise kept x) ≡ class_name crossings gone (dartwise kept y)
      → (y ≡ x) ⊎ (y ≡ partner x)
