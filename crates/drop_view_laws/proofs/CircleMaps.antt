-- What is carried along by circles: a function of arcs with one value at the two arcs of each smoothing's pairs has one value on circles.
use Rattle.std.proofs.Common.{◌≡◌, ℕ, ◌+◌, ◌<◌, ◌∙◌, List, [], ◌∷◌, sym, arith, Bool, true, false, cond, length}
use Rattle.std.specs.Prelude.{nat_eq}
use Rattle.kh_types.specs.Circles.{circle_of, circles_of, smoothing_of, smoothings_of}
use Rattle.kh_types.specs.Classes.{Respects, AreBelow}
use Rattle.kh_types.specs.Code.{Code, arc_in, arc_count}
use Rattle.kh_types.specs.Darts.{HasArcsTwice}
use Rattle.kh_types.proofs.ClassLemmas.{classes-finest, classes-together}
use Rattle.kink_and_finger_laws.specs.DropCircles.{joined_at}
use Rattle.kink_and_finger_laws.proofs.SmoothingPairs.{smoothings-all, smoothings-each, joined-below}
use Rattle.view_laws.specs.Views.{AreTogether}

-- a smoothing of other slots with the same values
pub smoothing-onto : (f g : ℕ → ℕ) (b : ℕ) (slots others : List ℕ)
    → ((slot : ℕ) → slot < 4 → f (arc_in slots slot) ≡ g (arc_in others slot))
    → Respects g (smoothing_of b others) → Respects f (smoothing_of b slots)
smoothing-onto f g b slots others same respects =
    go (nat_eq b 0) (same 0 (omega arith)) (same 1 (omega arith)) (same 2 (omega arith)) (same 3 (omega arith)) respects
  where
    go : (t : Bool) → f (arc_in slots 0) ≡ g (arc_in others 0) → f (arc_in slots 1) ≡ g (arc_in others 1)
        → f (arc_in slots 2) ≡ g (arc_in others 2) → f (arc_in slots 3) ≡ g (arc_in others 3)
        → Respects g (cond t ((arc_in others 0, arc_in others 1) ∷ (arc_in others 2, arc_in others 3) ∷ [])
        ((arc_in others 0, arc_in others 3) ∷ (arc_in others 1, arc_in others 2) ∷ []))
        → Respects f (cond t ((arc_in slots 0, arc_in slots 1) ∷ (arc_in slots 2, arc_in slots 3) ∷ [])
        ((arc_in slots 0, arc_in slots 3) ∷ (arc_in slots 1, arc_in slots 2) ∷ []))
    go true a b c d respects = (a ∙ respects.0 ∙ sym b, (c ∙ respects.1.0 ∙ sym d, tt))
    go false a b c d respects = (a ∙ respects.0 ∙ sym d, (b ∙ respects.1.0 ∙ sym c, tt))

-- all pairs are of arcs
pub circles-below : (code : Code) (state : ℕ) → HasArcsTwice code.crossings
    → AreBelow (arc_count code.crossings + code.loops + 1) (smoothings_of code.crossings state)
circles-below code state twice =
    smoothings-all (λ pair. (pair.0 < arc_count code.crossings + code.loops + 1) × (pair.1 < arc_count code.crossings + code.loops + 1))
    code.crossings state
    (λ place below. joined-below code.crossings (arc_count code.crossings + code.loops + 1) state place twice (omega arith) below)

-- the arcs that are joined at a crossing are on one circle
pub joined-there : (code : Code) (state place : ℕ) → HasArcsTwice code.crossings → place < length code.crossings
    → Respects (circle_of (circles_of code state)) (joined_at code.crossings state place)
joined-there code state place twice below =
    smoothings-each (λ pair. circle_of (circles_of code state) pair.0 ≡ circle_of (circles_of code state) pair.1) code.crossings state place
    (classes-together (arc_count code.crossings + code.loops + 1) (smoothings_of code.crossings state) (circles-below code state twice))
    below

-- what has one value at both arcs of each pair has one value on each circle
pub carried : (code : Code) (state : ℕ) (f : ℕ → ℕ) → HasArcsTwice code.crossings
    → ((place : ℕ) → place < length code.crossings → Respects f (joined_at code.crossings state place))
    → (x y : ℕ) → x < arc_count code.crossings + code.loops + 1 → y < arc_count code.crossings + code.loops + 1
    → AreTogether code state x y → f x ≡ f y
carried code state f twice each x y x_below y_below same =
    classes-finest f (arc_count code.crossings + code.loops + 1) (smoothings_of code.crossings state)
    (smoothings-all (λ pair. f pair.0 ≡ f pair.1) code.crossings state each) (circles-below code state twice) x y x_below y_below same
