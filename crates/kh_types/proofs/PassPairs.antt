-- The pairs of arcs that passes join.
use Rattle.std.proofs.Common.{◌≡◌, ℕ, ◌+◌, ◌-◌, ◌<◌, suc, List, [], ◌∷◌, subst, length, arith}
use Rattle.std.specs.Prelude.{slice_index_or, min}
use Rattle.std.specs.List.{AllByRecursion, flat_map}
use Rattle.kh_types.specs.declared.dart.Dart.{Dart}
use Rattle.kh_types.specs.Code.{arc_in, arc_count, slots_of, IsArc, IsCrossing}
use Rattle.kh_types.specs.Classes.{Respects, AreBelow}
use Rattle.kh_types.specs.Darts.{IsDart}
use Rattle.kh_types.specs.Components.{passes_of}
use Rattle.kh_types.specs.Accepted.{IsDirected}

-- what holds of the passes of each crossing holds of all passes
passes-all_places : (P : ℕ × ℕ → Type 0) (crossings : List (List ℕ))
    → ((place : ℕ) → place < length crossings → AllByRecursion P (passes_of (slice_index_or crossings place [])))
    → AllByRecursion P (flat_map passes_of crossings)
passes-all_places P [] each = tt
passes-all_places P (slots ∷ rest) each =
    let here = each 0 (omega arith) in
    (here.0, (here.1.0, passes-all_places P rest (λ place below. each (suc place) (omega (arith, below)))))

pub passes-all : (P : ℕ × ℕ → Type 0) (crossings : List (List ℕ))
    → ((crossing : ℕ) → IsCrossing crossings crossing → AllByRecursion P (passes_of (slots_of crossings crossing)))
    → AllByRecursion P (flat_map passes_of crossings)
passes-all P crossings each =
    passes-all_places P crossings
    (λ place below.
    let e : place + 1 - 1 ≡ place = omega arith in
    subst (λ (k : ℕ). AllByRecursion P (passes_of (slice_index_or crossings k []))) e
    (each (place + 1) (record { positive = omega arith; within = omega (arith, below) })))

-- the dart at a slot of a crossing
abbrev pub dart_with : ℕ → ℕ → Dart
dart_with crossing slot = record { crossing = crossing; slot = slot }

pub IsDart-with : (crossings : List (List ℕ)) (crossing slot : ℕ) → IsCrossing crossings crossing → slot < 4
    → IsDart crossings (dart_with crossing slot)
IsDart-with crossings crossing slot is below = record { crossing = is; slot = below }

-- the arc at a slot of a crossing
pub IsArc-at : (crossings : List (List ℕ)) (crossing slot : ℕ) → IsDirected crossings → IsCrossing crossings crossing → slot < 4
    → IsArc crossings (arc_in (slots_of crossings crossing) slot)
IsArc-at crossings crossing slot directed is below =
    directed.slots (dart_with crossing slot) (IsDart-with crossings crossing slot is below)

-- the pairs of a directed code are of arcs
pub passes-below : (crossings : List (List ℕ)) → IsDirected crossings
    → AreBelow (arc_count crossings + 1) (flat_map passes_of crossings)
passes-below crossings directed =
    passes-all (λ pair. (pair.0 < arc_count crossings + 1) × (pair.1 < arc_count crossings + 1)) crossings
    (λ crossing is.
    let at = λ (slot : ℕ) (below : slot < 4). IsArc-at crossings crossing slot directed is below in
    let a = at 0 (omega arith) in
    let b = at 1 (omega arith) in
    let c = at 2 (omega arith) in
    let d = at 3 (omega arith) in
    ((omega (arith, a.within), omega (arith, c.within)), ((omega (arith, b.within), omega (arith, d.within)), tt)))

pub passes-positive : (crossings : List (List ℕ)) → IsDirected crossings → Respects (λ z. min z 1) (flat_map passes_of crossings)
passes-positive crossings directed =
    passes-all (λ pair. min pair.0 1 ≡ min pair.1 1) crossings
    (λ crossing is.
    let at = λ (slot : ℕ) (below : slot < 4). IsArc-at crossings crossing slot directed is below in
    let a = at 0 (omega arith) in
    let b = at 1 (omega arith) in
    let c = at 2 (omega arith) in
    let d = at 3 (omega arith) in
    (omega (arith, a.positive, c.positive), (omega (arith, b.positive, d.positive), tt)))
