-- Codes before and after a third Reidemeister move.
use Rattle.std.specs.Prelude.{◌≡◌, ◌≢◌, ℕ, ◌<◌, List, [], length, slice_index_or, true}
use Rattle.kh_types.specs.Code.{Code, arc_in}
use Rattle.gluing_laws.specs.Arcs.{arc_by_place}
use Rattle.gluing_laws.specs.Codes.{name_count, HoldsArcs}
use Rattle.gluing_laws.specs.Slides.{triangle_before, triangle_after, is_slidable, IsPlacedTriangle, IsNoSide}

-- a crossing has, at each slot, the arc that stands for the inside number there
abbrev pub Shows : (ℕ → ℕ) → List ℕ → List ℕ → Type 0
Shows arcs quadruple inside = (slot : ℕ) → slot < 4 → arc_in quadruple slot ≡ arcs (arc_in inside slot)

-- a code has a triangle at the places c, d and e: their crossings show its crossings, and no other crossing touches its sides
pub record HasTriangle (code : Code) (triangle : List (List ℕ)) (arcs : ℕ → ℕ) (c d e : ℕ) : Type 0 where
  pub holds : HoldsArcs code
  pub placed : IsPlacedTriangle (name_count code) arcs
  pub first : Shows arcs (slice_index_or code.crossings c []) (slice_index_or triangle 0 [])
  pub second : Shows arcs (slice_index_or code.crossings d []) (slice_index_or triangle 1 [])
  pub third : Shows arcs (slice_index_or code.crossings e []) (slice_index_or triangle 2 [])
  pub sides : (place slot : ℕ) → place < length code.crossings → place ≢ c → place ≢ d → place ≢ e → slot < 4
      → IsNoSide arcs (arc_by_place code.crossings place slot)

-- a code after a third Reidemeister move at the slots p, q and r of the crossings at the places c, d and e: there its crossings have
-- become those of the other triangle, and the other crossings stay, and the loops
pub record IsSlid (old new : Code) (c d e p q r : ℕ) (arcs : ℕ → ℕ) : Type 0 where
  pub c_below : c < length old.crossings
  pub d_below : d < length old.crossings
  pub e_below : e < length old.crossings
  pub c_d : c ≢ d
  pub c_e : c ≢ e
  pub d_e : d ≢ e
  pub p_below : p < 4
  pub q_below : q < 4
  pub r_below : r < 4
  pub slidable : is_slidable p q r ≡ true
  pub before : HasTriangle old (triangle_before p q r) arcs c d e
  pub after : HasTriangle new (triangle_after p q r) arcs c d e
  pub size : length new.crossings ≡ length old.crossings
  pub others : (place slot : ℕ) → place < length old.crossings → slot < 4 → place ≢ c → place ≢ d → place ≢ e
      → arc_by_place new.crossings place slot ≡ arc_by_place old.crossings place slot
  pub loops : new.loops ≡ old.loops
