-- Slides as they are made.
use Rattle.std.proofs.lemmas.Bool.Decides.{nat_tests}
use Rattle.std.proofs.Common.{arith}
use Rattle.std.proofs.Common.{◌≡◌, ℕ, ◌∙◌, ℤ, refl, sym, ap, subst, false, IsTrue}
use Rattle.std.specs.Prelude.{List, [], ◌∷◌, None, Some, Option, is_none, unwrap_or}
use Rattle.std.specs.Option.{option_or}
use Rattle.kh_types.specs.Acceptance.{accepted}
use Rattle.kh_types.specs.Code.{Code, IsCrossing}
use Rattle.kh_types.specs.StateSum.{state_sum}
use Rattle.slide_laws.specs.Triangles.{dart_at_slot, slide_slot, step}
use Rattle.slide_laws.proofs.FoundTriangles.{IsTriangle-slot, has_heights-slot}
use Rattle.diagram_moves.specs.Joinable.{AreReady}
use Rattle.diagram_moves.specs.Kept.{slid_parts}
use Rattle.diagram_moves.proofs.KeptComponents.{HasComponents}
use Rattle.diagram_moves.specs.SlideSteps.{IsSlidable, slid_arc, slid_parts_at}
use Rattle.slide_laws.specs.Slid.{slid_crossing}
use Rattle.diagram_moves.specs.Moved.{slid_at, slid_from}
use Rattle.diagram_moves.specs.MoveFaults.{no_crossing, no_heights, no_triangle, slide_fault}
use Rattle.diagram_moves.specs.declared.fault.MoveFault.TheVariants.{Heights}
use Rattle.diagram_moves.proofs.FaultLemmas.{both-none, is_crossing, none-false}
use Rattle.diagram_moves.proofs.SlidCodes.{ArePaired-slid, IsKept-slid}

-- three crossings at which a slide can be made
pub record IsPlaced (code : Code) (first second third : ℕ) : Type 0 where
  pub first_crossing : IsCrossing code.crossings first
  pub second_crossing : IsCrossing code.crossings second
  pub third_crossing : IsCrossing code.crossings third
  pub slot : ℕ
  pub found : slide_slot code.crossings first second third ≡ Some slot

some_of : (slot : Option ℕ) → is_none slot ≡ false → (k : ℕ) × (slot ≡ Some k)
some_of slot some = grind (arith, nat_tests)

pub IsPlaced-none : (code : Code) (first second third : ℕ) → slide_fault code first second third ≡ None
    → IsPlaced code first second third
IsPlaced-none code first second third none =
    let last = option_or (no_triangle code first second third) (no_heights code first second third) in
    let from_third = option_or (no_crossing code third) last in
    let one = both-none (no_crossing code first) (option_or (no_crossing code second) from_third) none in
    let two = both-none (no_crossing code second) from_third one.1 in
    let three = both-none (no_crossing code third) last two.1 in
    let four = both-none (no_triangle code first second third) (no_heights code first second third) three.1 in
    let some = some_of (slide_slot code.crossings first second third)
    (none-false (is_none (slide_slot code.crossings first second third)) Heights four.1) in
    record {
      first_crossing = is_crossing code first one.0;
      second_crossing = is_crossing code second two.0;
      third_crossing = is_crossing code third three.0;
      slot = some.0;
      found = some.1;
    }

pub slides_are_ready : (code : Code) (first second third : ℕ) → IsTrue (accepted code) → slide_fault code first second third ≡ None
    → IsSlidable code first second third
slides_are_ready code first second third holds none =
    let can = IsPlaced-none code first second third none in
    let x = dart_at_slot first can.slot in
    let y = step code.crossings x in
    let z = step code.crossings y in
    let triangle =
    IsTriangle-slot code.crossings first second third can.slot can.first_crossing can.second_crossing can.third_crossing can.found in
    let heights = has_heights-slot code.crossings first second third can.slot can.found in
    let taken : unwrap_or (slide_slot code.crossings first second third) 0 ≡ can.slot = ap (λ (o : Option ℕ). unwrap_or o 0) can.found in
    let ready : AreReady (slid_parts_at code first can.slot) = record {
      paired = ArePaired-slid code x y z holds triangle;
      accepted_code = (IsKept-slid code x y z holds triangle heights).accepted_too;
    } in
    record {
      crossing = can.first_crossing;
      ready = subst (λ (slot : ℕ). AreReady (slid_parts_at code first slot)) (sym taken) ready;
    }

pub slid_four : (crossings : List (List ℕ)) (x y z place : ℕ)
    → slid_crossing crossings x y z place
    ≡ slid_arc crossings x y z place 0 ∷ slid_arc crossings x y z place 1 ∷ slid_arc crossings x y z place 2
    ∷ slid_arc crossings x y z place 3 ∷ []
slid_four crossings x y z place = refl

pub sum-slid_at : (code : Code) (first second third : ℕ) → IsTrue (accepted code) → slide_fault code first second third ≡ None
    → (exponent : ℤ) → state_sum (slid_at code first second third) exponent ≡ state_sum code exponent
sum-slid_at code first second third holds none exponent =
    let can = IsPlaced-none code first second third none in
    let x = dart_at_slot first can.slot in
    let y = step code.crossings x in
    let z = step code.crossings y in
    let triangle =
    IsTriangle-slot code.crossings first second third can.slot can.first_crossing can.second_crossing can.third_crossing can.found in
    let heights = has_heights-slot code.crossings first second third can.slot can.found in
    ap (λ (o : Option ℕ). state_sum (slid_from code first (unwrap_or o 0)) exponent) can.found
    ∙ (IsKept-slid code x y z holds triangle heights).sums exponent

pub strands_at : (code : Code) (crossing slot x y z : ℕ) → x ≡ dart_at_slot crossing slot → y ≡ step code.crossings x
    → z ≡ step code.crossings y → slid_parts code x y z ≡ slid_parts_at code crossing slot
strands_at code crossing slot x y z x_is y_is z_is =
    let y_at = y_is ∙ ap (step code.crossings) x_is in
    let z_at = z_is ∙ ap (step code.crossings) y_at in
    ap (λ (k : ℕ). slid_parts code k y z) x_is
    ∙ ap (λ (k : ℕ). slid_parts code (dart_at_slot crossing slot) k z) y_at
    ∙ ap (λ (k : ℕ). slid_parts code (dart_at_slot crossing slot) (step code.crossings (dart_at_slot crossing slot)) k) z_at

pub components-slid_at : (code : Code) (first second third : ℕ) → IsTrue (accepted code) → slide_fault code first second third ≡ None
    → HasComponents code (slid_at code first second third)
components-slid_at code first second third holds none =
    let can = IsPlaced-none code first second third none in
    let x = dart_at_slot first can.slot in
    let y = step code.crossings x in
    let z = step code.crossings y in
    let triangle =
    IsTriangle-slot code.crossings first second third can.slot can.first_crossing can.second_crossing can.third_crossing can.found in
    let heights = has_heights-slot code.crossings first second third can.slot can.found in
    subst (λ (o : Option ℕ). HasComponents code (slid_from code first (unwrap_or o 0))) (sym can.found)
    ((IsKept-slid code x y z holds triangle heights).components)
