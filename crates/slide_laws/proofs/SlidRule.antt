-- A slide follows the rule at each side.
use Rattle.std.proofs.Common.{◌≡◌, ℕ, ◌+◌, ◌*◌, ◌<◌, ◌∙◌, List, length, sym, ap, subst, map, arith}
use Rattle.std.specs.List.{range_with_len}
use Rattle.kh_types.specs.Darts.{partner_at, HasArcsTwice}
use Rattle.kh_types.proofs.DartPairs.{IsOtherPlace-partner_at}
use Rattle.slide_laws.specs.Slid.{on, source, slid}
use Rattle.slide_laws.specs.SlideCodes.{FollowsRule}
use Rattle.slide_laws.proofs.Corners.{on-on, on-zero, on-below, source-x, source-y, source-rotated}
use Rattle.slide_laws.proofs.Sides.{HasSides, HasSides-rotated}
use Rattle.slide_laws.proofs.SlidArcs.{arc_of_dart-slid}
use Rattle.gluing_laws.specs.Codes.{arc_of_dart}
use Rattle.gluing_laws.proofs.DartPairs.{arc_of-dart}

pub FollowsRule-first : (crossings : List (List ℕ)) (x y z : ℕ) → HasArcsTwice crossings
    → HasSides (length crossings) (partner_at crossings) x y z → FollowsRule crossings (slid crossings x y z) x (partner_at crossings x)
FollowsRule-first crossings x y z twice sides =
    let n = length crossings in
    let arc = arc_of_dart crossings in
    let partner = IsOtherPlace-partner_at crossings x twice sides.x_below in
    let side : arc (on y 1) ≡ arc x =
    ap arc (sym sides.from_x) ∙ sym (arc_of-dart crossings (partner_at crossings x)) ∙ partner.same_arc ∙ arc_of-dart crossings x in
    let at = λ (place : ℕ) (below : place < 4 * n). arc_of_dart-slid crossings x y z place below in
    let facts : FollowsRule crossings (slid crossings x y z) x (on y 1) = record {
      side = side;
      behind_first = at (on x 2) (on-below n x 2 sides.x_below) ∙ ap arc (source-x x y z 2 (omega arith)) ∙ side;
      first = at x sides.x_below ∙ ap (λ k. arc (source x y z k)) (sym (on-zero x)) ∙ ap arc (source-x x y z 0 (omega arith))
          ∙ ap arc (sym (on-on y 1 2));
      behind_second = ap (arc_of_dart (slid crossings x y z)) (on-on y 1 2)
          ∙ at (on y 3) (on-below n y 3 sides.y_below) ∙ ap arc (source-y x y z 3 sides.apart (omega arith));
      second = at (on y 1) (on-below n y 1 sides.y_below) ∙ ap arc (source-y x y z 1 sides.apart (omega arith));
    } in
    subst (λ (k : ℕ). FollowsRule crossings (slid crossings x y z) x k) (sym sides.from_x) facts

pub slid-rotated : (crossings : List (List ℕ)) (n : ℕ) (partner : ℕ → ℕ) (x y z : ℕ) → HasSides n partner x y z
    → slid crossings x y z ≡ slid crossings y z x
slid-rotated crossings n partner x y z sides =
    ap (λ f. map (λ k. map (λ slot. arc_of_dart crossings (f (4 * k + slot))) (range_with_len 0 4)) (range_with_len 0 (length crossings)))
    (source-rotated x y z sides.apart)

pub FollowsRule-second : (crossings : List (List ℕ)) (x y z : ℕ) → HasArcsTwice crossings
    → HasSides (length crossings) (partner_at crossings) x y z → FollowsRule crossings (slid crossings x y z) y (partner_at crossings y)
FollowsRule-second crossings x y z twice sides =
    let n = length crossings in
    let partner = partner_at crossings in
    subst (λ after. FollowsRule crossings after y (partner y)) (sym (slid-rotated crossings n partner x y z sides))
    (FollowsRule-first crossings y z x twice (HasSides-rotated n partner x y z sides))

pub FollowsRule-third : (crossings : List (List ℕ)) (x y z : ℕ) → HasArcsTwice crossings
    → HasSides (length crossings) (partner_at crossings) x y z → FollowsRule crossings (slid crossings x y z) z (partner_at crossings z)
FollowsRule-third crossings x y z twice sides =
    let n = length crossings in
    let partner = partner_at crossings in
    subst (λ after. FollowsRule crossings after z (partner z)) (sym (slid-rotated crossings n partner x y z sides))
    (FollowsRule-second crossings y z x twice (HasSides-rotated n partner x y z sides))
