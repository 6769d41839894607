-- Surfaces cut along circles, and glued.
use Rattle.std.specs.Prelude.{ℕ, ◌+◌, ◌-◌, ◌*◌, ◌^◌, List, [], ◌∷◌, ◌++◌, map, length}
use Rattle.std.specs.List.{flat_map, enumerate_from, AllByRecursion, Contains}
use Rattle.kh_types.specs.Bits.{bit}
use Rattle.kh_types.specs.Products.{sum_below}
use Rattle.surface_laws.specs.Surfaces.{Surface, value}

-- a surface with more faces
abbrev pub with_faces : Surface → List (ℕ × ℕ) → Surface
with_faces surface more = record {
  size = surface.size;
  places = surface.places;
  joins = surface.joins;
  faces = more ++ surface.faces;
  lowers = surface.lowers;
  raises = surface.raises;
}

-- a circle along which a surface is cut is a pair of places, one on each side. A label is 0 or 1: at 1 the disc on the first side
-- has a dot, at 0 that on the second side has a hollow dot
abbrev pub caps_at : ℕ → ℕ × (ℕ × ℕ) → List (ℕ × ℕ)
caps_at label at = (at.1.0, bit label at.0) ∷ (at.1.1, 2 * (1 - bit label at.0)) ∷ []

-- the discs on both sides of some circles, whose labels are the bits of a number
abbrev pub caps : List (ℕ × ℕ) → ℕ → List (ℕ × ℕ)
caps circles label = flat_map (caps_at label) (enumerate_from 0 circles)

-- a surface cut along circles, with discs on both sides
abbrev pub capped : Surface → List (ℕ × ℕ) → ℕ → Surface
capped surface circles label = with_faces surface (caps circles label)

-- a surface glued along circles
abbrev pub glued : Surface → List (ℕ × ℕ) → Surface
glued surface circles = record {
  size = surface.size;
  places = surface.places;
  joins = surface.joins ++ circles;
  faces = surface.faces;
  lowers = surface.lowers;
  raises = surface.raises;
}

-- the sum, over all labels of some circles, of the cut surface's number
abbrev pub sum_over_labels : ℕ → ℕ → Surface → List (ℕ × ℕ) → ℕ
sum_over_labels h k surface circles = sum_below (2 ^ length circles) (λ label. value h k (capped surface circles label))

-- circles lie at places of a surface, on both sides
abbrev pub AreOn : Surface → List (ℕ × ℕ) → Type 0
AreOn surface circles = AllByRecursion (λ circle. Contains surface.places circle.0 × Contains surface.places circle.1) circles

-- two surfaces as one: the places of the second come after the size of the first
abbrev pub union : Surface → Surface → Surface
union first second = record {
  size = first.size + second.size;
  places = first.places ++ map (λ place. first.size + place) second.places;
  joins = first.joins ++ map (λ pair. (first.size + pair.0, first.size + pair.1)) second.joins;
  faces = first.faces ++ map (λ face. (first.size + face.0, face.1)) second.faces;
  lowers = first.lowers ++ map (λ place. first.size + place) second.lowers;
  raises = first.raises ++ map (λ place. first.size + place) second.raises;
}

-- the discs on the first sides of circles alone, and on the second
abbrev pub first_caps : List (ℕ × ℕ) → ℕ → List (ℕ × ℕ)
first_caps circles label = map (λ at. (at.1.0, bit label at.0)) (enumerate_from 0 circles)

abbrev pub second_caps : List (ℕ × ℕ) → ℕ → List (ℕ × ℕ)
second_caps circles label = map (λ at. (at.1.1, 2 * (1 - bit label at.0))) (enumerate_from 0 circles)

-- circles have their first sides on the one surface and their second sides on the other
abbrev pub AreBetween : Surface → Surface → List (ℕ × ℕ) → Type 0
AreBetween first second circles =
    AllByRecursion (λ circle. Contains first.places circle.0 × Contains second.places circle.1) circles

-- two surfaces glued along circles between them
abbrev pub glued_two : Surface → Surface → List (ℕ × ℕ) → Surface
glued_two first second circles =
    glued (union first second) (map (λ circle. (circle.0, first.size + circle.1)) circles)

-- the sum, over all labels of the circles, of the products of both numbers
abbrev pub sum_of_products : ℕ → ℕ → Surface → Surface → List (ℕ × ℕ) → ℕ
sum_of_products h k first second circles =
    sum_below (2 ^ length circles)
    (λ label. value h k (with_faces first (first_caps circles label)) * value h k (with_faces second (second_caps circles label)))
