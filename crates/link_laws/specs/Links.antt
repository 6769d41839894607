-- When two codes are diagrams of one link: one leads to the other by Reidemeister moves, other numbers, another order, and the reversal of
-- all components. So links have directions, and one counts as the same where all of them are turned; to turn one component alone may give
-- another link, and is no change here. Every two diagrams of a link are so joined (Reidemeister 1927), which is not proved.
use Rattle.std.specs.Prelude.{◌≡◌, ℕ, ◌⊎◌, List, [], ◌∷◌, map, Bool, IsTrue, Ok}
use Rattle.std.specs.List.{zip}
use Rattle.kh_types.specs.Acceptance.{accepted}
use Rattle.kh_types.specs.Code.{Code, IsCrossing, crossing_numbers}
use Rattle.kh_types.specs.Directions.{is_positive}
use Rattle.gluing_laws.specs.Codes.{IsRenumbered}
use Rattle.order_laws.specs.Orders.{IsReordered}
use Rattle.diagram_moves.specs.Moved.{moved}
use Rattle.diagram_moves.specs.declared.change.Move.TheVariants.{FingerDrop, KinkDrop, Slide}
use Rattle.link_algebra.specs.Mirrors.{reversal_of}

-- the crossings, each with whether it is positive
abbrev pub signed_crossings : List (List ℕ) → List (List ℕ × Bool)
signed_crossings crossings = zip crossings (map (is_positive crossings) (crossing_numbers crossings))

-- the arcs have other numbers: each slot has the number of its arc, no two arcs have one number, the loops stay, and each crossing keeps
-- its sign, so that every component goes the way that it went
pub record HasOtherNumbers (old new : Code) : Type 0 where
  pub number : ℕ → ℕ
  pub renumbered : IsRenumbered number old new
  pub signs : (crossing : ℕ) → IsCrossing old.crossings crossing
      → is_positive new.crossings crossing ≡ is_positive old.crossings crossing

-- the crossings stand in another order, each with its arcs and its sign, and the loops stay
pub record HasOtherOrder (old new : Code) : Type 0 where
  pub order : IsReordered (signed_crossings old.crossings) (signed_crossings new.crossings)
  pub loops : new.loops ≡ old.loops

-- one change of a diagram that leaves its link
pub data IsLinkChange (old new : Code) : Type 0 where
  -- a kink is dropped, Reidemeister's first move
  kink_dropped : (crossing : ℕ) → moved old (KinkDrop crossing) ≡ Ok new → IsLinkChange old new
  -- two crossings that meet in a bigon are dropped, his second
  bigon_dropped : (first second : ℕ) → moved old (FingerDrop first second) ≡ Ok new → IsLinkChange old new
  -- a strand is slid over a crossing or under it, his third
  strand_slid : (first second third : ℕ) → moved old (Slide first second third) ≡ Ok new → IsLinkChange old new
  -- the arcs have other numbers
  arcs_renumbered : HasOtherNumbers old new → IsLinkChange old new
  -- the crossings stand in another order
  crossings_reordered : HasOtherOrder old new → IsLinkChange old new
  -- all components go the other way
  all_reversed : new ≡ reversal_of old → IsLinkChange old new

-- two accepted codes of which one comes from the other by a change: so kinks and fingers are added too, without a limit on crossings
pub record AreNeighbours (first second : Code) : Type 0 where
  pub first_accepted : IsTrue (accepted first)
  pub second_accepted : IsTrue (accepted second)
  pub change : IsLinkChange first second ⊎ IsLinkChange second first

-- a code leads over some codes to a last one: each is a neighbour of the one before, and where none is left, the last is reached
abbrev pub LeadsTo : Code → List Code → Code → Type 0
LeadsTo first [] last = first ≡ last
LeadsTo first (next ∷ rest) last = AreNeighbours first next × LeadsTo next rest last

-- two codes are diagrams of one link: the first is accepted, and leads over some codes to the last
pub record AreOneLink (first last : Code) : Type 0 where
  pub first_accepted : IsTrue (accepted first)
  pub codes : List Code
  pub path : LeadsTo first codes last
