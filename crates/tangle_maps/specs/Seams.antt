-- What a composition goes over, as lists of components.
use Rattle.std.specs.Prelude.{◌≡◌, ℕ, ◌≤◌, length, ◌+◌, ◌-◌, ◌*◌, ◌/◌, List, map, nat_eq, slice_index, if◌then◌else◌}
use Rattle.std.specs.List.{count_by, sum_by, enumerate_from, flat_map, AllByRecursion, Contains}
use Rattle.kh_types.specs.Bits.{bit}
use Rattle.surface_laws.specs.Points.{Points, discs}
use Rattle.dotted_maps.specs.Parts.{components, component_in, genus_in, product_over}
use Rattle.dotted_maps.specs.Choices.{choices}
use Rattle.dotted_maps.specs.declared.term.Term.{Term}
use Rattle.tangle_maps.specs.Sums.{dotted_times}
use Rattle.tangle_maps.specs.declared.pairing.TheConstants.{POINTS}
use Rattle.tangle_maps.specs.Pairings.{IsOpened}
use Rattle.tangle_maps.specs.declared.seam.Seam.{Seam}

-- how many discs of a component have a dot, where these are the discs' components
abbrev pub dots_on : ℕ → ℕ → List ℕ → ℕ
dots_on component dots places =
    sum_by (λ at. if nat_eq at.1 component then bit dots at.0 else 0) (enumerate_from 0 places)

-- the genus of a component, where these are the components of the opened arcs, and of the discs
abbrev pub genus_by : ℕ → List ℕ → List ℕ → List ℕ → List ℕ → ℕ
genus_by component arcs first second whole =
    (count_by (λ x. nat_eq x component) arcs + 4
    - 2 * (count_by (λ x. nat_eq x component) whole
    + (count_by (λ x. nat_eq x component) first + count_by (λ x. nat_eq x component) second)))
    / 4

-- dots and genus of a component
abbrev pub load_by : Seam → ℕ → ℕ → ℕ → ℕ
load_by seam dots others component =
    dots_on component dots seam.first.items + dots_on component others seam.second.items + slice_index seam.genera component

-- how many discs of a component are left without a dot, and its factor
abbrev pub left_by : Seam → ℕ → ℕ → ℕ → ℕ
left_by seam dots others component = 1 - load_by seam dots others component

abbrev pub factor_for : ℕ → ℕ → ℕ
factor_for load genus = if nat_eq load 1 then 1 + genus else (if nat_eq load 0 then 1 else 0)

abbrev pub factor_by : Seam → ℕ → ℕ → ℕ → ℕ
factor_by seam dots others component = factor_for (load_by seam dots others component) (slice_index seam.genera component)

-- the composition of two terms, and of two maps, over a seam
abbrev pub seam_terms : Seam → Term → Term → List Term
seam_terms seam term other =
    map (dotted_times
    (term.coefficient * other.coefficient * product_over (factor_by seam term.dots other.dots) seam.components.items))
    (choices seam.components.items seam.whole.items (left_by seam term.dots other.dots))

abbrev pub seam_behind : Seam → List Term → Term → List Term
seam_behind seam second term = flat_map (seam_terms seam term) second

abbrev pub seam_listed : Seam → List Term → List Term → List Term
seam_listed seam first second = flat_map (seam_behind seam second) first

-- a seam of three pairings: the components of the discs of each two of them, all components, and their genera
pub record IsSeam (points : Points) (m n o : List (ℕ × ℕ)) (seam : Seam) : Type 0 where
  pub first : seam.first.items ≡ map (component_in points m n o) (discs points m n)
  pub second : seam.second.items ≡ map (component_in points m n o) (discs points n o)
  pub whole : seam.whole.items ≡ map (component_in points m n o) (discs points m o)
  pub parts : seam.components.items ≡ components points m n o
  pub genera : (k : ℕ) → Contains (components points m n o) k → slice_index seam.genera k ≡ genus_in points m n o k

-- a seam whose components are arcs
pub record CanCompose (seam : Seam) : Type 0 where
  pub parts : IsOpened seam.components.items
  pub discs : IsOpened seam.whole.items
  pub named : AllByRecursion (λ k. Contains seam.components.items k) seam.whole.items
  pub room : length seam.whole.items ≤ POINTS
