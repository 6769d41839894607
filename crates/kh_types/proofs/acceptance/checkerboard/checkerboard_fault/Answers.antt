use Rattle.std.proofs.Common.{◌≡◌, ◌+◌, ◌∙◌, List, ℕ, refl, sym, ap, subst, arith, true, false}
use Rattle.kh_types.specs.Acceptance.{checkerboard_at}
use Rattle.kh_types.specs.Classes.{joined}
use Rattle.kh_types.specs.Colouring.{tie_of, contradicts, colours_after}
use Rattle.kh_types.proofs.FaultLemmas.{first_of_at, none_of_more}
use Rattle.kh_types.proofs.ColouringLemmas.{AreOfCrossings-more, FollowsTo, FollowsTo-none, FollowsTo-more, FollowsTo-fault, FollowsTo-fine}
use Rattle.kh_types.proofs.acceptance.checkerboard.checkerboard_fault.Goals as goal

pub loop-place-init : goal.loop-place-init
loop-place-init c =
    let crossings = c.args.crossings.now in
    let colours = c.any_colours-colours.result.items in
    record {
      none = refl;
      are = λ arc from within. absurd (omega (arith, from, within));
      follows =
          subst (λ (classes : List ℕ). FollowsTo crossings 0 classes colours) (sym c.numbers_below-classes.ensures)
          (FollowsTo-none crossings colours c.any_colours-colours.ensures);
    }

pub returns-then-contradicts : goal.returns-then-contradicts
returns-then-contradicts c =
    let crossings = c.args.crossings.now in
    let place = c.loop-place.place in
    let equation = c.equation_of-equation.result in
    let are = AreOfCrossings-more crossings place (place + 1) equation c.loop-place.invariant.are refl
    c.equation_of-equation.ensures.equation c.equation_of-equation.ensures.crossing c.equation_of-equation.ensures.other in
    let holds : contradicts c.loop-place.classes.items c.loop-place.colours.items equation ≡ true =
    ap (λ (xs : List ℕ). contradicts xs c.loop-place.colours.items equation) (sym c.deref.ensures.0)
    ∙ ap (λ (ys : List ℕ). contradicts c.deref.result.now ys equation) (sym c.deref-in-loop-place.ensures.0)
    ∙ sym c.contradicts.ensures ∙ c.if-contradicts.true in
    let fault = FollowsTo-fault crossings place (place + 1) equation c.loop-place.classes.items c.loop-place.colours.items
    c.loop-place.invariant.follows are refl c.equation_of-equation.ensures.equation holds in
    sym (first_of_at _ 1 _ _ _ _ c.loop-place-test.true (omega arith) c.loop-place.invariant.none fault)

pub loop-place-preserved : goal.loop-place-preserved
loop-place-preserved c =
    let crossings = c.args.crossings.now in
    let place = c.loop-place.place in
    let equation = c.equation_of-equation.result in
    let classes = c.loop-place.classes.items in
    let colours = c.loop-place.colours.items in
    let are = AreOfCrossings-more crossings place (place + 1) equation c.loop-place.invariant.are refl
    c.equation_of-equation.ensures.equation c.equation_of-equation.ensures.crossing c.equation_of-equation.ensures.other in
    let free : contradicts classes colours equation ≡ false =
    ap (λ (xs : List ℕ). contradicts xs colours equation) (sym c.deref.ensures.0)
    ∙ ap (λ (ys : List ℕ). contradicts c.deref.result.now ys equation) (sym c.deref-in-loop-place.ensures.0)
    ∙ sym c.contradicts.ensures ∙ c.if-contradicts.false in
    let follows = FollowsTo-more crossings place (place + 1) equation classes colours c.loop-place.invariant.follows are refl
    c.equation_of-equation.ensures.equation free in
    let is_classes : joined classes (tie_of equation) ≡ c.tied-classes.result.items = sym c.tied-classes.ensures in
    let is_colours : colours_after classes colours equation ≡ c.colours_after-colours.result.items =
    ap (λ (xs : List ℕ). colours_after xs colours equation) (sym c.deref-in-loop-place-2.ensures.0)
    ∙ ap (λ (ys : List ℕ). colours_after c.deref-in-loop-place-2.result.now ys equation) (sym c.deref-in-loop-place-3.ensures.0)
    ∙ sym c.colours_after-colours.ensures in
    record {
      none =
          none_of_more (checkerboard_at crossings) 1 place (place + 1) (omega arith) c.loop-place.invariant.none
          (FollowsTo-fine crossings (place + 1) (joined classes (tie_of equation)) (colours_after classes colours equation) follows);
      are = are;
      follows =
          subst (λ (new : List ℕ). FollowsTo crossings (place + 1) new c.colours_after-colours.result.items) is_classes
          (subst (λ (new : List ℕ). FollowsTo crossings (place + 1) (joined classes (tie_of equation)) new) is_colours follows);
    }
