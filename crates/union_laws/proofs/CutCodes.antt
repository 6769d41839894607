-- The parts of an accepted code that is cut in two are accepted, and so is their union.
use Rattle.std.proofs.Common.{◌≡◌, ℕ, ◌+◌, ◌-◌, ◌≤◌, arith, Bool, not, IsTrue}
use Rattle.kh_types.specs.Acceptance.{accepted}
use Rattle.kh_types.specs.Accepted.{IsDirected}
use Rattle.kh_types.specs.Code.{Code}
use Rattle.orient_arcs.proofs.Bridge.{IsDirected-renumbered}
use Rattle.order_laws.specs.Orders.{listed_by}
use Rattle.order_laws.proofs.AnyOrder.{accepted-reordered}
use Rattle.link_algebra.specs.Unions.{union_of}
use Rattle.link_algebra.proofs.UnitedDirected.{AreUnited-from, IsDirected-both}
use Rattle.union_laws.specs.Pieces.{IsCut, kept_first, kept_parts, part_of}
use Rattle.union_laws.proofs.CutNumbers.{cut_number, first-paired, numbers-cut, second-paired}
use Rattle.union_laws.proofs.KeptPlaces.{reordered-kept}
use Rattle.union_laws.proofs.PartsAccepted.{parts-accepted}
use Rattle.union_laws.proofs.RenumberedAccepted.{renumbered-accepted}

module _ (keep : ℕ → Bool) (code : Code) (loops others : ℕ) (holds : IsTrue (accepted code)) (cut : IsCut keep code.crossings)
    (adds : loops + others ≡ code.loops) where
  abbrev first : Code
  first = part_of keep code loops

  abbrev second : Code
  second = part_of (λ place. not (keep place)) code others

  pub first-directed : IsDirected first.crossings
  first-directed = IsDirected-renumbered (kept_parts keep code loops) (first-paired keep code loops others holds cut adds)

  pub second-directed : IsDirected second.crossings
  second-directed =
      IsDirected-renumbered (kept_parts (λ place. not (keep place)) code others) (second-paired keep code loops others holds cut adds)

  pub accepted-order : IsTrue (accepted (listed_by code (kept_first keep code.crossings)))
  accepted-order = accepted-reordered code.loops code.crossings (kept_first keep code.crossings) (reordered-kept keep code.crossings) holds

  pub accepted-cut : IsTrue (accepted (union_of first second))
  accepted-cut =
      renumbered-accepted (cut_number keep code loops others holds cut adds) (listed_by code (kept_first keep code.crossings))
      (union_of first second) accepted-order (IsDirected-both first second (AreUnited-from first second first-directed second-directed))
      (numbers-cut keep code loops others holds cut adds)

  pub accepted-parts : IsTrue (accepted first) × IsTrue (accepted second)
  accepted-parts = parts-accepted first second first-directed second-directed accepted-cut

-- a part may have any of the code's loops
pub accepted-part : (keep : ℕ → Bool) (code : Code) (loops : ℕ) → IsTrue (accepted code) → IsCut keep code.crossings → loops ≤ code.loops
    → IsTrue (accepted (part_of keep code loops))
accepted-part keep code loops holds cut few =
    let adds : loops + (code.loops - loops) ≡ code.loops = omega (arith, few) in
    (accepted-parts keep code loops (code.loops - loops) holds cut adds).0
