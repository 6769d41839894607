-- Pairings as a program keeps them: the partner of each arc.
use Rattle.std.specs.Prelude.{◌≡◌, ℕ, ◌<◌, List, map, not, nat_eq, nat_lt, Bool, slice_index, slice_set}
use Rattle.std.specs.List.{filter, range_with_len, AllByRecursion}
use Rattle.tangle_maps.specs.declared.pairing.TheConstants.{POINTS}
use Rattle.surface_laws.specs.Points.{Points}

-- partners, by arc: each number below POINTS has another one below it, or itself, and is the partner of its partner
pub record ArePartners (partners : List ℕ) : Type 0 where
  pub below : (x : ℕ) → x < POINTS → slice_index partners x < POINTS
  pub back : (x : ℕ) → x < POINTS → slice_index partners (slice_index partners x) ≡ x

-- the partners after two arcs have become partners
abbrev pub partnered : List ℕ → ℕ → ℕ → List ℕ
partnered partners one other = slice_set (slice_set partners one other) other one

-- arcs are numbers below POINTS
abbrev pub IsOpened : List ℕ → Type 0
IsOpened arcs = AllByRecursion (λ x. x < POINTS) arcs

-- an arc leads where it is less than its partner
abbrev pub leads : List ℕ → ℕ → Bool
leads partners x = nat_lt x (slice_index partners x)

-- an arc with its partner
abbrev pub with_partner : List ℕ → ℕ → ℕ × ℕ
with_partner partners x = (x, slice_index partners x)

-- the pairs of some arcs: each that leads, with its partner
abbrev pub joins_of : List ℕ → List ℕ → List (ℕ × ℕ)
joins_of partners arcs = map (with_partner partners) (filter (leads partners) arcs)

-- an arc is paired where another one is its partner
abbrev pub is_paired : List ℕ → ℕ → Bool
is_paired partners x = not (nat_eq x (slice_index partners x))

-- the arcs that are paired, ascending
abbrev pub paired_arcs : List ℕ → List ℕ
paired_arcs partners = filter (is_paired partners) (range_with_len 0 POINTS)

-- opened arcs alone, as points of pairings, among the numbers below a size
abbrev pub numbered : ℕ → List ℕ → Points
numbered size opened = record { size = size; opened = opened; alive = opened }

-- the same, below POINTS
abbrev pub opened_points : List ℕ → Points
opened_points opened = numbered POINTS opened
