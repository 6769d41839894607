-- The rest of a diagram, cut from a triangle at its six ends, and the circles beyond those that are closed inside.
use Rattle.std.specs.Prelude.{ℕ, zero, suc, ◌+◌, ◌-◌, List, [], ◌∷◌, ◌++◌, map, nat_eq, nat_lt, if◌then◌else◌}
use Rattle.std.specs.List.{AllByRecursion}
use Rattle.kh_types.specs.Classes.{classes_of, class_count}
use Rattle.gluing_laws.specs.Slides.{IsNoSide}
use Rattle.gluing_laws.proofs.Ties.{ties_of}

-- the pairs touch no side
abbrev pub TouchNoSide : (ℕ → ℕ) → List (ℕ × ℕ) → Type 0
TouchNoSide arcs pairs = AllByRecursion (λ pair. IsNoSide arcs pair.0 × IsNoSide arcs pair.1) pairs

-- fresh numbers n, n+1, .. for the first ends, each joined to the arc of its end
abbrev pub stubs : ℕ → (ℕ → ℕ) → ℕ → List (ℕ × ℕ)
stubs n arcs zero = []
stubs n arcs (suc count) = (arcs (count + 1), n + count) ∷ stubs n arcs count

-- the number of an inside number where the ends are stubs
abbrev pub at_stubs : ℕ → (ℕ → ℕ) → ℕ → ℕ
at_stubs n arcs i = if nat_lt 6 i then arcs i else if nat_eq i 0 then 0 else n + (i - 1)

-- the number of circles beyond those that are closed inside, where the ends are joined in a given way, and the rest joins outer pairs
abbrev pub rest_circles : ℕ → (ℕ → ℕ) → List (ℕ × ℕ) → List ℕ → ℕ
rest_circles n arcs outer joined =
    class_count (classes_of (n + 6) (map (λ pair. (at_stubs n arcs pair.0, at_stubs n arcs pair.1)) (ties_of joined) ++ (stubs n arcs 6 ++ outer)))
