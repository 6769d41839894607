-- What adding a crossing computes.
use Rattle.std.specs.Prelude.{ℕ, ◌<◌, List, not, nat_eq, Bool, ◌&&◌, slice_index, if◌then◌else◌}
use Rattle.kh_types.specs.Code.{arc_in}
use Rattle.tangle_maps.specs.Pairings.{partnered}

-- the arcs at the slots of a crossing are below n
abbrev pub HasArcsBelow : ℕ → List ℕ → Type 0
HasArcsBelow n slots = (slot : ℕ) → slot < 4 → arc_in slots slot < n

-- two arcs that have no partner
abbrev pub can_pair : List ℕ → ℕ → ℕ → Bool
can_pair partners one other =
    not (nat_eq one other) && (nat_eq (slice_index partners one) one && nat_eq (slice_index partners other) other)

-- partners after two arcs have become partners, if both had none
abbrev pub paired_up : List ℕ → ℕ × ℕ → List ℕ
paired_up partners pair = if can_pair partners pair.0 pair.1 then partnered partners pair.0 pair.1 else partners
