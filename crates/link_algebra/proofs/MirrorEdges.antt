-- An edge of the cube and the edge of the mirror that leads back: where the one merges, the other splits, and labels fit along the one
-- exactly where the exchanged labels fit along the other.
--
-- The under pass of the mirror has its ends on the two circles of the old ends (`Ends`): a smoothing joins each slot of the new under pass
-- with a slot of the old one. So ends that lie on one circle do so in the mirror (`met-star`), and an edge that merges goes to one that
-- splits. A star takes each label from 1, so that the labels at both ends add up to 2 with those of the mirror (`labels-two`), and that of
-- one circle to 1 (`labels-one`). The sum that a merge asks for is then the sum that a split asks for (`change-star`).
use Rattle.std.proofs.lemmas.Bool.Decides.{nat_tests}
use Rattle.std.proofs.Common.{Bool, IsTrue, ap, arith, false, inl, inr, length, not, subst, sym, true, ℕ, ◌%◌, ◌*◌, ◌+◌, ◌<◌, ◌^◌, ◌∙◌, ◌≡◌, ◌≤◌, ◌⊎◌}
use Rattle.std.proofs.lemmas.Bool.Decides.{Decides-like, same_from_decides}
use Rattle.kh_types.proofs.CircleCycles.{circles-across}
use Rattle.kh_types.proofs.CircleNumbers.{IsName-arc}
use Rattle.kh_types.proofs.EdgeNames.{IsArc-slot}
use Rattle.kh_types.proofs.JoinedSlots.{across-slot}
use Rattle.kh_types.proofs.QuantumDegrees.{bit-le}
use Rattle.kh_types.specs.Acceptance.{accepted}
use Rattle.kh_types.specs.Bits.{bit}
use Rattle.kh_types.specs.CircleNumbers.{IsName}
use Rattle.kh_types.specs.CircleSteps.{arc_at, joined_slot}
use Rattle.kh_types.specs.Code.{Code, IsCrossing, place_of}
use Rattle.kh_types.specs.Differential.{label_of}
use Rattle.kh_types.specs.Edges.{arc_at_slot}
use Rattle.kh_types.specs.Generators.{Generator}
use Rattle.square_laws.proofs.EdgeMarks.{IsChange, IsSameOff, label_at, label_of-circle}
use Rattle.square_laws.proofs.Marks.{IsOff}
use Rattle.square_laws.proofs.Merges.{IsMerge, IsSwitch, circle_in, switch-edge}
use Rattle.square_laws.proofs.Pairs.{IsStep}
use Rattle.square_laws.proofs.SquareKinds.{ends-meet}
use Rattle.square_laws.proofs.TouchedCircles.{fits, fits-decides}
use Rattle.square_laws.specs.Squares.{circle_at_slot}
use Rattle.link_algebra.proofs.Flips.{flipped}
use Rattle.link_algebra.proofs.MovedLabels.{IsName-back, name-here}
use Rattle.link_algebra.proofs.Renamings.{IsTurned}
use Rattle.link_algebra.proofs.GeneratorLists.{IsGenerator}
use Rattle.link_algebra.proofs.Stars.{IsGenerator-star, IsStar, IsStar-back}
use Rattle.link_algebra.proofs.TurnedCircles.{Corresponds, Corresponds-turned, IsTurned-back, arc-placed}

-- the smoothing of a state joins slots
slots-joined : (code : Code) (state crossing slot : ℕ) → IsTrue (accepted code) → IsCrossing code.crossings crossing → slot < 4
    → joined_slot (bit state (place_of crossing)) slot < 4
    → circle_at_slot code state crossing (joined_slot (bit state (place_of crossing)) slot) ≡ circle_at_slot code state crossing slot
slots-joined code state crossing slot is is_crossing below joined_below =
    let k = place_of crossing in
    let e : k + 1 ≡ crossing = omega (arith, is_crossing.positive) in
    let at : (u : ℕ) → u < 4 → arc_at code.crossings (4 * k + u) ≡ arc_at_slot code crossing u =
    λ u u_below. arc-placed code k u u_below ∙ ap (λ c. arc_at_slot code c u) e in
    ap (λ a. circle_in code state a) (sym (at (joined_slot (bit state k) slot) joined_below)
    ∙ ap (λ w. arc_at code.crossings w) (sym (across-slot state k slot below)))
    ∙ circles-across code state (4 * k + slot) is (omega (arith, is_crossing.positive, is_crossing.within, below))
    ∙ ap (λ a. circle_in code state a) (at slot below)

-- the circles at the ends of the under pass of the mirror are those at the ends of the under pass, in one order or the other
abbrev Ends : (ℕ → ℕ) → Code → Code → ℕ → ℕ → Type 0
Ends f old new t crossing =
    ((circle_at_slot new t crossing 0 ≡ circle_in new t (f (arc_at_slot old crossing 0)))
    × (circle_at_slot new t crossing 2 ≡ circle_in new t (f (arc_at_slot old crossing 2))))
    ⊎ ((circle_at_slot new t crossing 0 ≡ circle_in new t (f (arc_at_slot old crossing 2)))
    × (circle_at_slot new t crossing 2 ≡ circle_in new t (f (arc_at_slot old crossing 0))))

slot-name : (code : Code) (crossing slot : ℕ) → IsTrue (accepted code) → IsCrossing code.crossings crossing → slot < 4
    → IsName code (arc_at_slot code crossing slot)
slot-name code crossing slot is is_crossing below = grind (arith, nat_tests, IsName-arc, IsArc-slot, is_crossing)

ends : (f back : ℕ → ℕ) (old new : Code) (s crossing : ℕ) → IsTrue (accepted old) → IsTrue (accepted new) → IsTurned f back old new
    → s < 2 ^ length old.crossings → IsCrossing old.crossings crossing
    → Ends f old new (flipped (length old.crossings) s) crossing
ends f back old new s crossing old_is new_is turned below is_crossing =
    let t = flipped (length old.crossings) s in
    let b = bit s (place_of crossing) in
    let at = turned.turned crossing is_crossing in
    let corresponds = Corresponds-turned f back old new s old_is new_is turned below in
    let onto : (v u w : ℕ) → u < 4 → w < 4 → (u + at.0) % 4 ≡ v → joined_slot b u ≡ w
    → circle_at_slot new t crossing v ≡ circle_in new t (f (arc_at_slot old crossing w)) =
    λ v u w u_below w_below is_v is_w.
    ap (λ k. circle_at_slot new t crossing k) (sym is_v) ∙ ap (λ a. circle_in new t a) (at.2 u u_below)
    ∙ sym (corresponds.onward (arc_at_slot old crossing w) (arc_at_slot old crossing u)
    (slot-name old crossing w old_is is_crossing w_below) (slot-name old crossing u old_is is_crossing u_below)
    (ap (λ k. circle_at_slot old s crossing k) (sym is_w)
    ∙ slots-joined old s crossing u old_is is_crossing u_below (omega (arith, is_w, w_below)))) in
    let joins : (c u : ℕ) → b ≡ c → joined_slot b u ≡ joined_slot c u = λ c u is_c. ap (λ k. joined_slot k u) is_c in
    elim (zero_or_one b (bit-le s (place_of crossing))) [
      | inl zeroth ↦ elim at.1 [
        | inl one ↦ inr (
          onto 0 3 2 (omega arith) (omega arith) (omega (arith, one)) (joins 0 3 zeroth),
          onto 2 1 0 (omega arith) (omega arith) (omega (arith, one)) (joins 0 1 zeroth),
        )
        | inr three ↦ inl (
          onto 0 1 0 (omega arith) (omega arith) (omega (arith, three)) (joins 0 1 zeroth),
          onto 2 3 2 (omega arith) (omega arith) (omega (arith, three)) (joins 0 3 zeroth),
        )
      ]
      | inr first ↦ elim at.1 [
        | inl one ↦ inl (
          onto 0 3 0 (omega arith) (omega arith) (omega (arith, one)) (joins 1 3 first),
          onto 2 1 2 (omega arith) (omega arith) (omega (arith, one)) (joins 1 1 first),
        )
        | inr three ↦ inr (
          onto 0 1 2 (omega arith) (omega arith) (omega (arith, three)) (joins 1 1 first),
          onto 2 3 0 (omega arith) (omega arith) (omega (arith, three)) (joins 1 3 first),
        )
      ]
    ]
  where
    zero_or_one : (b : ℕ) → b ≤ 1 → (b ≡ 0) ⊎ (b ≡ 1)
    zero_or_one b small = grind arith

-- what is known of a code and its mirror, and of a crossing
pub record AreMirrors (f back : ℕ → ℕ) (old new : Code) (crossing : ℕ) : Type 0 where
  pub old_is : IsTrue (accepted old)
  pub new_is : IsTrue (accepted new)
  pub turned : IsTurned f back old new
  pub is_crossing : IsCrossing old.crossings crossing

-- and of a generator and the one of the mirror
pub record AreStars (f back : ℕ → ℕ) (old new : Code) (crossing : ℕ) (x star : Generator) : Type 0 where
  pub around : AreMirrors f back old new crossing
  pub gen : IsGenerator old x
  pub starred : IsStar f old new x star
  pub corresponds : Corresponds f back old new x.state star.state
  pub ends : Ends f old new star.state crossing

pub AreStars-from : (f back : ℕ → ℕ) (old new : Code) (crossing : ℕ) (x star : Generator) → AreMirrors f back old new crossing
    → IsGenerator old x → IsStar f old new x star → AreStars f back old new crossing x star
AreStars-from f back old new crossing x star around gen is =
    record {
      around = around;
      gen = gen;
      starred = is;
      corresponds = subst (λ (t : ℕ). Corresponds f back old new x.state t) (sym is.state)
          (Corresponds-turned f back old new x.state around.old_is around.new_is around.turned gen.state);
      ends = subst (λ (t : ℕ). Ends f old new t crossing) (sym is.state)
          (ends f back old new x.state crossing around.old_is around.new_is around.turned gen.state around.is_crossing);
    }

AreMirrors-back : (f back : ℕ → ℕ) (old new : Code) (crossing : ℕ) → AreMirrors f back old new crossing
    → AreMirrors back f new old crossing
AreMirrors-back f back old new crossing are =
    record {
      old_is = are.new_is;
      new_is = are.old_is;
      turned = IsTurned-back f back old new are.old_is are.turned;
      is_crossing = record {
        positive = are.is_crossing.positive;
        within = omega (arith, are.is_crossing.within, are.turned.size);
      };
    }

AreStars-back : (f back : ℕ → ℕ) (old new : Code) (crossing : ℕ) (x star : Generator) → AreStars f back old new crossing x star
    → AreStars back f new old crossing star x
AreStars-back f back old new crossing x star are =
    AreStars-from back f new old crossing star x (AreMirrors-back f back old new crossing are.around)
    (IsGenerator-star f back old new x star are.around.turned are.starred)
    (IsStar-back f back old new x star are.around.old_is are.around.new_is are.around.turned are.gen are.starred)

module _ (f back : ℕ → ℕ) (old new : Code) (crossing : ℕ) where
  abbrev Stars : Generator → Generator → Type 0
  Stars x star = AreStars f back old new crossing x star

  end-name : (x star : Generator) → Stars x star → (slot : ℕ) → slot < 4 → IsName old (arc_at_slot old crossing slot)
  end-name x star are slot below = slot-name old crossing slot are.around.old_is are.around.is_crossing below

  -- ends on one circle are so in the mirror
  met-star : (x star : Generator) → Stars x star → circle_at_slot old x.state crossing 0 ≡ circle_at_slot old x.state crossing 2
      → (circle_at_slot new star.state crossing 0 ≡ circle_at_slot new star.state crossing 2)
      × (circle_at_slot new star.state crossing 0 ≡ circle_in new star.state (f (arc_at_slot old crossing 0)))
  met-star x star are met =
      let same = are.corresponds.onward (arc_at_slot old crossing 0) (arc_at_slot old crossing 2) (end-name x star are 0 (omega arith))
      (end-name x star are 2 (omega arith)) met in
      elim are.ends [
        | inl straight ↦ (straight.0 ∙ same ∙ sym straight.1, straight.0)
        | inr crossed ↦ (crossed.0 ∙ sym same ∙ sym crossed.1, crossed.0 ∙ sym same)
      ]

  -- the labels at the ends, where they are on two circles or on one
  labels-two : (x star : Generator) → Stars x star
      → label_at new star crossing 0 + label_at new star crossing 2 + (label_at old x crossing 0 + label_at old x crossing 2) ≡ 2
  labels-two x star are =
      let first = are.starred.labels (arc_at_slot old crossing 0) (end-name x star are 0 (omega arith)) in
      let third = are.starred.labels (arc_at_slot old crossing 2) (end-name x star are 2 (omega arith)) in
      let at : (slot end : ℕ) → circle_at_slot new star.state crossing slot ≡ circle_in new star.state (f (arc_at_slot old crossing end))
      → label_at new star crossing slot ≡ label_of new star (f (arc_at_slot old crossing end)) =
      λ slot end. label_of-circle new star (arc_at_slot new crossing slot) (f (arc_at_slot old crossing end)) in
      elim are.ends [
        | inl straight ↦ omega (arith, first, third, at 0 0 straight.0, at 2 2 straight.1)
        | inr crossed ↦ omega (arith, first, third, at 0 2 crossed.0, at 2 0 crossed.1)
      ]

  labels-one : (x star : Generator) → Stars x star → circle_at_slot old x.state crossing 0 ≡ circle_at_slot old x.state crossing 2
      → label_at new star crossing 0 + label_at old x crossing 0 ≡ 1
  labels-one x star are met =
      let a = arc_at_slot old crossing 0 in
      omega (
        arith,
        are.starred.labels a (end-name x star are 0 (omega arith)),
        label_of-circle new star (arc_at_slot new crossing 0) (f a) (met-star x star are met).1,
      )

  -- what is off the ends in the mirror is so in the diagram
  off-back : (y : ℕ) (x star : Generator) → Stars x star → IsName new y → IsOff new star.state crossing y
      → IsOff old x.state crossing (back y)
  off-back y x star are name off =
      let s = x.state in
      let t = star.state in
      let home = IsName-back f back old new s t y are.corresponds name in
      let on : (slot : ℕ) → slot < 4 → circle_in old s (back y) ≡ circle_at_slot old s crossing slot
      → circle_in new t y ≡ circle_in new t (f (arc_at_slot old crossing slot)) =
      λ slot below same.
      ap (circle_in new t) (sym (name-here f back old new s t y are.corresponds name))
      ∙ are.corresponds.onward (back y) (arc_at_slot old crossing slot) home (end-name x star are slot below) same in
      elim are.ends [
        | inl straight ↦ record {
          first = λ same. off.first (on 0 (omega arith) same ∙ sym straight.0);
          third = λ same. off.third (on 2 (omega arith) same ∙ sym straight.1);
        }
        | inr crossed ↦ record {
          first = λ same. off.third (on 0 (omega arith) same ∙ sym crossed.1);
          third = λ same. off.first (on 2 (omega arith) same ∙ sym crossed.0);
        }
      ]

  same_off-star : (two one two_star one_star : Generator) → Stars two two_star → Stars one one_star → IsSameOff old two one crossing
      → IsSameOff new two_star one_star crossing
  same_off-star two one two_star one_star two_are one_are same =
      record {
        at = λ y name off.
            let x = back y in
            let home = IsName-back f back old new two.state two_star.state y two_are.corresponds name in
            let e = name-here f back old new two.state two_star.state y two_are.corresponds name in
            omega (
              arith,
              same.at x home (off-back y two two_star two_are name off),
              two_are.starred.labels x home,
              one_are.starred.labels x home,
              ap (label_of new two_star) e,
              ap (label_of new one_star) e,
            );
      }

  -- a merge of labels becomes a split, and a split a merge
  change-star : (merges : Bool) (tail head tail_star head_star : Generator) → Stars tail tail_star → Stars head head_star
      → IsSwitch merges old tail.state head.state crossing → IsChange merges old tail head crossing
      → IsChange (not merges) new head_star tail_star crossing
  change-star merges tail head tail_star head_star tail_are head_are merge change =
      grind (arith, nat_tests, same_off-star, labels-two, labels-one, ends-meet)

  -- where the ends are on one circle in the one state, an edge of the mirror merges from the other
  merge-other : (one one_star : Generator) (other : ℕ) → Stars one one_star
      → circle_at_slot old one.state crossing 0 ≡ circle_at_slot old one.state crossing 2 → IsMerge new one_star.state other crossing → ⊥
  merge-other one one_star other are met merge = merge.join.apart (met-star one one_star are met).0

-- an edge merges or splits, from a step
switch-step : (code : Code) (tail head crossing : ℕ) → IsTrue (accepted code) → IsCrossing code.crossings crossing
    → IsStep tail head crossing → (merges : Bool) × IsSwitch merges code tail head crossing
switch-step code tail head crossing is is_crossing step = grind (arith, nat_tests, is_crossing, switch-edge, IsSwitch)

-- the labels fit along an edge exactly where those of the mirror fit along the edge back
pub fits-star : (f back : ℕ → ℕ) (old new : Code) (crossing : ℕ) (tail head tail_star head_star : Generator)
    → AreStars f back old new crossing tail tail_star → AreStars f back old new crossing head head_star
    → IsStep tail.state head.state crossing → IsStep head_star.state tail_star.state crossing
    → fits old tail head crossing ≡ fits new head_star tail_star crossing
fits-star f back old new crossing tail head tail_star head_star tail_are head_are step step_back =
    let tail_back = AreStars-back f back old new crossing tail tail_star tail_are in
    let head_back = AreStars-back f back old new crossing head head_star head_are in
    let here = switch-step old tail.state head.state crossing tail_are.around.old_is tail_are.around.is_crossing step in
    let there = switch-step new head_star.state tail_star.state crossing tail_are.around.new_is tail_back.around.is_crossing step_back in
    both here.0 there.0 tail_back head_back here.1 there.1
  where
    both : (merges too : Bool) → AreStars back f new old crossing tail_star tail → AreStars back f new old crossing head_star head
        → IsSwitch merges old tail.state head.state crossing → IsSwitch too new head_star.state tail_star.state crossing
        → fits old tail head crossing ≡ fits new head_star tail_star crossing
    both true true tail_back head_back here there = grind (arith, nat_tests, merge-other, ends-meet)
    both false false tail_back head_back here there = grind (arith, nat_tests, merge-other, ends-meet)
    both true false tail_back head_back here there =
        same_from_decides (fits old tail head crossing) (fits new head_star tail_star crossing)
        (fits-decides true old tail head crossing tail_are.around.old_is here)
        (Decides-like (fits new head_star tail_star crossing)
        (change-star back f new old crossing false head_star tail_star head tail head_back tail_back there)
        (change-star f back old new crossing true tail head tail_star head_star tail_are head_are here)
        (fits-decides false new head_star tail_star crossing tail_are.around.new_is there))
    both false true tail_back head_back here there =
        same_from_decides (fits old tail head crossing) (fits new head_star tail_star crossing)
        (fits-decides false old tail head crossing tail_are.around.old_is here)
        (Decides-like (fits new head_star tail_star crossing)
        (change-star back f new old crossing true head_star tail_star head tail head_back tail_back there)
        (change-star f back old new crossing false tail head tail_star head_star tail_are head_are here)
        (fits-decides true new head_star tail_star crossing tail_are.around.new_is there))
