-- A slide as the layers of two views need it.
use Rattle.std.specs.Prelude.{◌≡◌, ℕ, ℤ, ◌+◌, ◌*◌, ◌<◌, List, length, nat_eq, if◌then◌else◌, IsTrue}
use Rattle.kh_types.specs.Acceptance.{accepted}
use Rattle.kh_types.specs.Code.{Code}
use Rattle.kh_types.specs.Directions.{plus_count, minus_count}
use Rattle.kh_types.specs.Residues.{HasInverses}
use Rattle.cell_laws.specs.Cells.{dimension_at}
use Rattle.cell_laws.specs.Cubes.{cube_of}
use Rattle.order_laws.specs.Orders.{IsReordered}
use Rattle.view_laws.specs.Views.{View, IsView, SeeAlike}
use Rattle.layer_laws.specs.Slid.{kind_before, kind_after}

-- two views of a code, by which one can see how its cube and that of another code are cut at three inner crossings: in both one circle
-- closes at one and the same inner state; and the relation that is seen at an inner state of either is that which the first view sees at
-- the state of its kind
pub record IsSeenSlide (first second : Code) (first_view second_view : View) (closing : ℕ) : Type 0 where
  pub some : 0 < closing
  pub not_all : closing < 7
  pub size : length second.crossings ≡ length first.crossings
  pub first_is : IsView first first_view
  pub second_is : IsView second second_view
  pub first_inner : first_view.inner ≡ 3
  pub second_inner : second_view.inner ≡ 3
  pub names : second_view.names ≡ first_view.names
  pub first_closed : (inner : ℕ) → length (first_view.closed inner) ≡ (if nat_eq inner closing then 1 else 0)
  pub second_closed : (inner : ℕ) → length (second_view.closed inner) ≡ (if nat_eq inner closing then 1 else 0)
  pub kinds_before : (outside inner : ℕ) → inner < 8
      → SeeAlike first first_view (inner + 8 * outside) first first_view (kind_before closing inner + 8 * outside)
  pub kinds_after : (outside inner : ℕ) → inner < 8
      → SeeAlike first first_view (kind_after closing inner + 8 * outside) second second_view (inner + 8 * outside)

-- a code with the crossings of another in another order, by three reorderings one after another: it is accepted, and its cube has the same
-- dimensions
pub record IsInOrder (code other : Code) : Type 0 where
  pub accepted_too : IsTrue (accepted other)
  pub size : length other.crossings ≡ length code.crossings
  pub loops : other.loops ≡ code.loops
  pub once : List (List ℕ)
  pub twice : List (List ℕ)
  pub orders : IsReordered code.crossings once × IsReordered once twice × IsReordered twice other.crossings
  pub dimensions : (p plus minus : ℕ) → HasInverses p → (i j : ℤ)
      → dimension_at p (cube_of p other plus minus) i j ≡ dimension_at p (cube_of p code plus minus) i j

-- a code and what a slide leaves of it, with their crossings in other orders, are seen so
pub record HasSeenSlide (code new : Code) : Type 0 where
  pub first : Code
  pub second : Code
  pub first_view : View
  pub second_view : View
  pub closing : ℕ
  pub first_order : IsInOrder code first
  pub second_order : IsInOrder new second
  pub plus : plus_count new.crossings ≡ plus_count code.crossings
  pub minus : minus_count new.crossings ≡ minus_count code.crossings
  pub seen : IsSeenSlide first second first_view second_view closing
