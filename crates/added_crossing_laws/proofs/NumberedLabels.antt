-- Numbers as labels on both sides of a crossing.
use Rattle.std.proofs.Common.{◌≡◌, ℕ, ◌+◌, ◌-◌, ◌*◌, ◌^◌, ◌<◌, ◌∙◌, List, [], ◌∷◌, map, length, refl, sym, ap, ap₂}
use Rattle.std.specs.List.{enumerate_from}
use Rattle.std.proofs.lemmas.List.{length-map}
use Rattle.std.proofs.Math.Nat.{mul_comm}
use Rattle.kh_types.specs.Bits.{bit}
use Rattle.kh_types.specs.Products.{sum_below}
use Rattle.kh_types.proofs.Sums.{sum_below-equal}
use Rattle.surface_laws.specs.Surfaces.{Surface, value}
use Rattle.surface_laws.specs.Cuts.{with_faces, first_caps, second_caps, sum_of_products}
use Rattle.surface_laws.specs.Overlays.{at_places}
use Rattle.added_crossing_laws.specs.Pairings.{face_with, marked_by}
use Rattle.added_crossing_laws.specs.Saddles.{opposite}
use Rattle.surface_laws.specs.Sheets.{marked, marked_else}
use Rattle.added_crossing_laws.specs.Labels.{number_of}
use Rattle.added_crossing_laws.proofs.Labels.{marked-number_of}

-- the other mark
abbrev other_mark : ℕ × ℕ → ℕ × ℕ
other_mark face = (face.0, 2 * (1 - face.1))

map-twice : (xs : List (ℕ × ℕ)) (number : ℕ)
    → map other_mark (map (λ (at : ℕ × ℕ). face_with (λ i. bit number at.0) at.1) xs)
    ≡ map (λ (at : ℕ × ℕ). face_with (λ i. 2 * (1 - bit number at.0)) at.1) xs
map-twice [] number = refl
map-twice (x ∷ xs) number =
    ap (λ (ys : List (ℕ × ℕ)). face_with (λ i. 2 * (1 - bit number x.0)) x.1 ∷ ys) (map-twice xs number)

map-opposite : (label : ℕ → ℕ) (xs : List ℕ) → map other_mark (marked_by label xs) ≡ marked_by (opposite label) xs
map-opposite label [] = refl
map-opposite label (x ∷ xs) =
    ap (λ (ys : List (ℕ × ℕ)). face_with (opposite label) x ∷ ys) (map-opposite label xs)

pub marked_else-number_of : (label : ℕ → ℕ) (xs : List ℕ) → ((x : ℕ) → label x < 2)
    → marked_else (number_of label xs) xs ≡ marked_by (opposite label) xs
marked_else-number_of label xs bits =
    sym (map-twice (enumerate_from 0 xs) (number_of label xs))
    ∙ ap (λ (faces : List (ℕ × ℕ)). map other_mark faces) (marked-number_of label xs bits) ∙ map-opposite label xs

-- caps at places are marked places
pub caps-first : (j label : ℕ) (xs : List ℕ)
    → map (λ (at : ℕ × (ℕ × ℕ)). face_with (λ i. bit label at.0) at.1.0) (enumerate_from j (at_places xs))
    ≡ map (λ (at : ℕ × ℕ). face_with (λ i. bit label at.0) at.1) (enumerate_from j xs)
caps-first j label [] = refl
caps-first j label (x ∷ xs) =
    ap (λ (ys : List (ℕ × ℕ)). face_with (λ i. bit label j) x ∷ ys) (caps-first (j + 1) label xs)

pub caps-second : (j label : ℕ) (xs : List ℕ)
    → map (λ (at : ℕ × (ℕ × ℕ)). face_with (λ i. 2 * (1 - bit label at.0)) at.1.1) (enumerate_from j (at_places xs))
    ≡ map (λ (at : ℕ × ℕ). face_with (λ i. 2 * (1 - bit label at.0)) at.1) (enumerate_from j xs)
caps-second j label [] = refl
caps-second j label (x ∷ xs) =
    ap (λ (ys : List (ℕ × ℕ)). face_with (λ i. 2 * (1 - bit label j)) x ∷ ys) (caps-second (j + 1) label xs)

abbrev pair_twice : ℕ → ℕ × ℕ
pair_twice x = (x, x)

pub sum-by_dots : (h minus : ℕ) (first second : Surface) (xs : List ℕ)
    → sum_of_products h minus first second (at_places xs)
    ≡ sum_below (2 ^ length xs)
    (λ kept. value h minus (with_faces second (marked_else kept xs)) * value h minus (with_faces first (marked kept xs)))
sum-by_dots h minus first second xs =
    ap (λ (n : ℕ). sum_below (2 ^ n) (λ label. value h minus (with_faces first (first_caps (at_places xs) label))
    * value h minus (with_faces second (second_caps (at_places xs) label)))) (length-map xs (λ (x : ℕ). pair_twice x))
    ∙ sum_below-equal (2 ^ length xs)
    (λ label. value h minus (with_faces first (first_caps (at_places xs) label)) * value h minus (with_faces second (second_caps (at_places xs) label)))
    (λ kept. value h minus (with_faces second (marked_else kept xs)) * value h minus (with_faces first (marked kept xs)))
    (λ label.
    ap₂ (λ (f g : List (ℕ × ℕ)). value h minus (with_faces first f) * value h minus (with_faces second g)) (caps-first 0 label xs) (caps-second 0 label xs)
    ∙ mul_comm (value h minus (with_faces first (marked label xs))) (value h minus (with_faces second (marked_else label xs))))
