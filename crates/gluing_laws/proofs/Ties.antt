-- Pairs that join the ends of a triangle as a state of its crossings does.
use Rattle.std.specs.Prelude.{ℕ, ◌+◌, List, ◌∷◌, map, slice_index, nat_eq, nat_lt, Bool, ◌&&◌}
use Rattle.std.specs.List.{list_all, range_with_len}
use Rattle.std.specs.Str.{bytes_eq}
use Rattle.kh_types.specs.Classes.{classes_of, class_count}
use Rattle.kh_types.specs.Circles.{smoothings_of}
use Rattle.gluing_laws.specs.Slides.{inside_classes, ends_joined, closed_inside}

-- pairs that join the ends in a given way, and the sides with the number 0, so that they make no classes of their own
abbrev pub ties_of : List ℕ → List (ℕ × ℕ)
ties_of joined = (0, 7) ∷ (0, 8) ∷ (0, 9) ∷ map (λ at. (at + 1, slice_index joined at)) (range_with_len 0 6)

-- whether pairs are below a number
abbrev pub are_below : ℕ → List (ℕ × ℕ) → Bool
are_below n pairs = list_all (λ pair. nat_lt pair.0 n && nat_lt pair.1 n) pairs

-- whether the ties of a state join the ends as the state does, and have its classes but for the circles that it closes inside
abbrev pub is_tied_at : List (List ℕ) → ℕ → Bool
is_tied_at crossings state =
    let ties = ties_of (ends_joined crossings state) in
    are_below 10 (smoothings_of crossings state) && (are_below 10 ties
    && (bytes_eq (map (slice_index (inside_classes crossings state)) (range_with_len 0 7))
    (map (slice_index (classes_of 10 ties)) (range_with_len 0 7))
    && nat_eq (class_count (inside_classes crossings state)) (closed_inside crossings state + class_count (classes_of 10 ties))))

abbrev pub is_tied_throughout : List (List ℕ) → Bool
is_tied_throughout crossings = list_all (is_tied_at crossings) (range_with_len 0 8)
