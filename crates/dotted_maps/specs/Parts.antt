-- The composition of two terms, component by component.
use Rattle.std.specs.Prelude.{ℕ, ◌+◌, ◌-◌, ◌*◌, ◌/◌, List, [], ◌∷◌, ◌++◌, slice_index, nat_eq, if◌then◌else◌}
use Rattle.std.specs.List.{enumerate_from, count_by, sum_by}
use Rattle.kh_types.specs.Bits.{bit}
use Rattle.kh_types.specs.Classes.{classes_of}
use Rattle.surface_laws.specs.Surfaces.{weight}
use Rattle.surface_laws.specs.Points.{Points, least_points, discs}

-- the components of the opened arcs under three pairings, by their least arcs
abbrev pub components : Points → List (ℕ × ℕ) → List (ℕ × ℕ) → List (ℕ × ℕ) → List ℕ
components points m n o = least_points points.size points.opened (m ++ (o ++ n))

-- the component of an arc
abbrev pub component_in : Points → List (ℕ × ℕ) → List (ℕ × ℕ) → List (ℕ × ℕ) → ℕ → ℕ
component_in points m n o arc = slice_index (classes_of points.size (m ++ (o ++ n))) arc

-- how many of some arcs lie on a component
abbrev pub how_many : Points → List (ℕ × ℕ) → List (ℕ × ℕ) → List (ℕ × ℕ) → ℕ → List ℕ → ℕ
how_many points m n o component arcs = count_by (λ arc. nat_eq (component_in points m n o arc) component) arcs

-- how many discs on a component are dotted by a number, and how many are not
abbrev pub dotted_on : Points → List (ℕ × ℕ) → List (ℕ × ℕ) → List (ℕ × ℕ) → ℕ → ℕ → List ℕ → ℕ
dotted_on points m n o component number arcs =
    sum_by (λ at. if nat_eq (component_in points m n o at.1) component then bit number at.0 else 0) (enumerate_from 0 arcs)

abbrev pub undotted_on : Points → List (ℕ × ℕ) → List (ℕ × ℕ) → List (ℕ × ℕ) → ℕ → ℕ → List ℕ → ℕ
undotted_on points m n o component number arcs =
    sum_by (λ at. if nat_eq (component_in points m n o at.1) component then 1 - bit number at.0 else 0) (enumerate_from 0 arcs)

-- its genus: its discs, of each two pairings, and twice the genus are half its opened arcs and 2
abbrev pub genus_in : Points → List (ℕ × ℕ) → List (ℕ × ℕ) → List (ℕ × ℕ) → ℕ → ℕ
genus_in points m n o component =
    (how_many points m n o component points.opened + 4
    - 2 * (how_many points m n o component (discs points m o)
    + (how_many points m n o component (discs points m n) + how_many points m n o component (discs points n o))))
    / 4

-- where h and k are 0: with one dot, or of genus 1 without dots, a component has dots on all discs of the composition; of genus 0
-- without dots, on all but one
abbrev pub part_coefficient : ℕ → ℕ → ℕ → ℕ
part_coefficient genus dots undotted =
    if nat_eq (dots + genus) 1 then (if nat_eq undotted 0 then 1 + genus else 0)
    else (if nat_eq (dots + genus) 0 then (if nat_eq undotted 1 then 1 else 0) else 0)

-- the product of f over a list
abbrev pub product_over : (ℕ → ℕ) → List ℕ → ℕ
product_over f [] = 1
product_over f (x ∷ xs) = f x * product_over f xs

-- the part of a component in the coefficient of a dot set: its weight with the dots of the terms, and with hollow dots for those that are
-- missing
abbrev pub part_at : ℕ → ℕ → Points → List (ℕ × ℕ) → List (ℕ × ℕ) → List (ℕ × ℕ) → ℕ → ℕ → ℕ → ℕ → ℕ
part_at h k points m n o dots others kept component =
    weight h k (genus_in points m n o component)
    (dotted_on points m n o component dots (discs points m n) + dotted_on points m n o component others (discs points n o))
    (undotted_on points m n o component kept (discs points m o))
