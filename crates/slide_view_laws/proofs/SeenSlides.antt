-- A slide that is made, through the views of both codes.
use Rattle.std.proofs.Common.{◌≡◌, ℕ, ◌+◌, ◌*◌, ◌/◌, ◌%◌, ◌<◌, ◌∙◌, List, [], ◌∷◌, length, map, refl, sym, ap, subst, arith, Bool, true, false, cond, IsTrue}
use Rattle.std.specs.Prelude.{nat_eq, Ok}
use Rattle.std.specs.List.{Contains}
use Rattle.kh_types.specs.Acceptance.{accepted}
use Rattle.kh_types.specs.Code.{Code}
use Rattle.kh_types.proofs.AcceptedLemmas.{HasArcsTwice-accepted}
use Rattle.order_laws.specs.Orders.{listed_by}
use Rattle.slide_laws.specs.Slid.{slid_code}
use Rattle.diagram_moves.specs.Moved.{moved}
use Rattle.diagram_moves.specs.declared.change.Move.TheVariants.{Slide}
use Rattle.view_laws.specs.Views.{View}
use Rattle.slide_view_laws.specs.RenamedViews.{renamed_view}
use Rattle.slide_view_laws.specs.SeenSlides.{HasSeenSlide, IsInOrder}
use Rattle.slide_view_laws.specs.SlidMoves.{IsSlidFrom, new_number}
use Rattle.slide_view_laws.specs.SlideViews.{slide_view, three_first}
use Rattle.slide_view_laws.specs.Triangles.{closing}
use Rattle.slide_view_laws.proofs.FrontTriangles.{IsRenumberedOnto-three, IsSlid-three, accepted-three, dimension-three, length-three, once_first, orders-three, twice_first}
use Rattle.slide_view_laws.proofs.Moves.{IsSlidFrom-moved}
use Rattle.slide_view_laws.proofs.RenamedViews.{IsView-renamed, SeeAlike-renamed}
use Rattle.slide_view_laws.proofs.SlideFacts.{IsView-old, IsView-new, see-kind_before, see-kind_after, view-same}
use Rattle.slide_view_laws.proofs.TableFacts.{closing-mixed}

-- how many circles close
one_or_none : (b : Bool) (z : ℕ) → length (cond b (z ∷ []) []) ≡ cond b 1 0
one_or_none true z = refl
one_or_none false z = refl

one_or_none-renamed : (f : ℕ → ℕ) (b : Bool) (z : ℕ) → length (map f (cond b (z ∷ []) [])) ≡ cond b 1 0
one_or_none-renamed f true z = refl
one_or_none-renamed f false z = refl

IsInOrder-three : (code : Code) (c d e : ℕ) → IsTrue (accepted code) → c < length code.crossings → d < length code.crossings
    → e < length code.crossings → IsInOrder code (listed_by code (three_first c d e code.crossings))
IsInOrder-three code c d e holds c_below d_below e_below = record {
  accepted_too = accepted-three code.crossings c d e c_below d_below e_below code.loops holds;
  size = length-three code.crossings c d e c_below d_below e_below;
  loops = refl;
  once = once_first code.crossings c d e c_below d_below e_below;
  twice = twice_first code.crossings c d e c_below d_below e_below;
  orders = orders-three code.crossings c d e c_below d_below e_below;
  dimensions = λ p plus minus field i j.
      dimension-three code.crossings c d e c_below d_below e_below p code.loops plus minus field i j;
}

HasSeenSlide-from : (code new : Code) → IsTrue (accepted code) → IsSlidFrom code new → HasSeenSlide code new
HasSeenSlide-from code new holds is =
    let after = slid_code code is.x is.y is.z in
    let c = is.x / 4 in
    let d = is.y / 4 in
    let e = is.z / 4 in
    let p = is.x % 4 in
    let q = is.y % 4 in
    let r = is.z % 4 in
    let f = new_number after new in
    let slid = is.slid_too in
    let after_size = slid.size in
    let new_size = is.renumbered.renumbered.size in
    let first = listed_by code (three_first c d e code.crossings) in
    let middle = listed_by after (three_first c d e after.crossings) in
    let second = listed_by new (three_first c d e new.crossings) in
    let front = IsSlid-three code after c d e p q r is.arcs slid in
    let onto = IsRenumberedOnto-three f after new c d e (omega (arith, slid.c_below, after_size)) (omega (arith, slid.d_below, after_size))
    (omega (arith, slid.e_below, after_size)) is.renumbered in
    let first_order = IsInOrder-three code c d e holds slid.c_below slid.d_below slid.e_below in
    let second_order = IsInOrder-three new c d e is.accepted_too (omega (arith, slid.c_below, after_size, new_size))
    (omega (arith, slid.d_below, after_size, new_size)) (omega (arith, slid.e_below, after_size, new_size)) in
    let twice = HasArcsTwice-accepted first first_order.accepted_too in
    let closed = closing p q r in
    let mixed = closing-mixed p q r slid.p_below slid.q_below slid.r_below slid.slidable in
    let first_view = slide_view first is.arcs closed in
    let middle_view = slide_view middle is.arcs closed in
    let middle_is = IsView-new first middle p q r is.arcs front twice in
    let names = ap (λ (view : View). view.names) (view-same first middle p q r is.arcs front) in
    record {
      first = first;
      second = second;
      first_view = first_view;
      second_view = renamed_view f middle_view;
      closing = closed;
      first_order = first_order;
      second_order = second_order;
      plus = is.plus;
      minus = is.minus;
      seen = record {
        some = mixed.0;
        not_all = mixed.1;
        size = omega (arith, first_order.size, second_order.size, after_size, new_size);
        first_is = IsView-old first middle p q r is.arcs front twice;
        second_is = IsView-renamed f middle second middle_view onto middle_is;
        first_inner = refl;
        second_inner = refl;
        names = names;
        first_closed = λ inner. one_or_none (nat_eq inner closed) (is.arcs 7);
        second_closed = λ inner. one_or_none-renamed f (nat_eq inner closed) (is.arcs 7);
        kinds_before = λ outside inner below. see-kind_before first middle p q r is.arcs front outside inner below;
        kinds_after = λ outside inner below x y has_x has_y.
            see-kind_after first middle p q r is.arcs front outside inner below x y has_x has_y
            ∙ SeeAlike-renamed f middle second middle_view onto middle_is (inner + 8 * outside) x y
            (subst (λ (xs : List ℕ). Contains xs x) (sym names) has_x) (subst (λ (xs : List ℕ). Contains xs y) (sym names) has_y);
      };
    }

pub HasSeenSlide-moved : (code new : Code) (first second third : ℕ) → IsTrue (accepted code) → moved code (Slide first second third)
    ≡ Ok new
    → HasSeenSlide code new
HasSeenSlide-moved code new first second third holds same =
    HasSeenSlide-from code new holds (IsSlidFrom-moved code new first second third holds same)
