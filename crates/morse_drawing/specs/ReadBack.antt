-- The code that is read back from a drawing: its crossings are those of the slices, and its arcs are numbered as the pairs of darts are
-- listed. It is the drawn code up to the numbers of its arcs.
use Rattle.std.specs.Prelude.{◌≡◌, ℕ, suc, ◌+◌, ◌*◌, List, [], ◌∷◌, map, nat_eq, Bool, true, false, if◌then◌else◌}
use Rattle.std.specs.List.{count_by, list_any, range_with_len}
use Rattle.kh_types.specs.Code.{Code}
use Rattle.kh_types.specs.Darts.{dart_place}
use Rattle.kh_types.specs.declared.dart.Dart.{Dart}
use Rattle.gluing_laws.specs.Alike.{AreAlike}
use Rattle.morse_drawing.specs.Joins.{JoinedDarts}
use Rattle.morse_drawing.specs.declared.slice.Slice.{Slice}
use Rattle.morse_drawing.specs.declared.slice.Slice.TheVariants.{Cap, Cup, Cross}

-- one of two darts is that with a place
abbrev pub has_dart : ℕ → List Dart → Bool
has_dart place pair = list_any (λ dart. nat_eq (dart_place dart) place) pair

-- the number, from 1, of the first pair that has the dart at a place
abbrev pub pair_number : ℕ → List (List Dart) → ℕ
pair_number place [] = 1
pair_number place (pair ∷ pairs) = if has_dart place pair then 1 else suc (pair_number place pairs)

-- the arcs at the slots of a crossing, each by the number of its pair
abbrev pub crossing_read : List (List Dart) → ℕ → List ℕ
crossing_read pairs place =
    pair_number (4 * place) pairs ∷ pair_number (4 * place + 1) pairs ∷ pair_number (4 * place + 2) pairs ∷ pair_number (4 * place + 3) pairs ∷ []

-- a slice draws a crossing
abbrev pub is_cross : Slice → Bool
is_cross (Cap at) = false
is_cross (Cup at) = false
is_cross (Cross at crossing slot) = true

-- the code that slices and what they join tell
abbrev pub code_read : List Slice → JoinedDarts → Code
code_read slices joins = record { crossings = map (crossing_read joins.pairs) (range_with_len 0 (count_by is_cross slices)); loops = joins.loops }

-- two codes are one up to the numbers of their arcs: their crossings are alike, and they have as many loops
pub record AreAlikeCodes (code other : Code) : Type 0 where
  pub crossings : AreAlike code.crossings other.crossings
  pub loops : other.loops ≡ code.loops
