-- The smoothings of a code by darts, which are numbered without regard to arcs.
use Rattle.std.specs.Prelude.{ℕ, ◌+◌, ◌*◌, List, [], ◌∷◌}
use Rattle.std.specs.List.{flat_map, range_with_len}
use Rattle.std.proofs.Common.{◌≡◌, ℕ, List, arith}
use Rattle.std.proofs.lemmas.Bool.Decides.{nat_tests}
use Rattle.kh_types.specs.Bits.{bit}
use Rattle.kh_types.specs.Circles.{smoothing_of}
use Rattle.kh_types.specs.Darts.{arc_of, dart_at}
use Rattle.gluing_laws.specs.Codes.{arc_of_dart}

-- the darts of the crossing at a place of the list, by their slots
abbrev pub darts_of : ℕ → List ℕ
darts_of place = 4 * place ∷ (4 * place + 1) ∷ (4 * place + 2) ∷ (4 * place + 3) ∷ []

-- the darts that the smoothings of a state join, at some crossings
abbrev pub dart_smoothings : ℕ → ℕ → List (ℕ × ℕ)
dart_smoothings count state = flat_map (λ place. smoothing_of (bit state place) (darts_of place)) (range_with_len 0 count)

pub arc_of-dart : (crossings : List (List ℕ)) (place : ℕ) → arc_of crossings (dart_at place) ≡ arc_of_dart crossings place
arc_of-dart crossings place = grind (arith, nat_tests)
