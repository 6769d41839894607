-- The heads of an edge: labels go along it where their bits do. The numbers a and b of the two circles that become one are the
-- lesser and the greater of the numbers at the slots 0 and 2 of the crossing. An arc is off these two circles exactly where its
-- circle has another number, since no two circles have one number. So two labels are the same off the two circles exactly where
-- their bits agree at all other numbers, each number being that of some arc or loop; on the two circles the labels are the bits
-- at a and b, and on the one circle the bit at a. Hence the differential's test of labels is the rule for bits: that of a merge,
-- or that of a split.
use Rattle.std.proofs.Common.{◌≡◌, ◌≢◌, ℕ, ◌+◌, ◌^◌, ◌<◌, ◌≤◌, ◌∙◌, sym, ap, subst, arith, true, false, IsTrue}
use Rattle.std.specs.Prelude.{min, max}
use Rattle.std.specs.Bool.{Decides}
use Rattle.std.proofs.lemmas.Bool.Decides.{nat_tests}
use Rattle.kh_types.specs.Acceptance.{accepted}
use Rattle.kh_types.specs.Bits.{bit}
use Rattle.kh_types.specs.Code.{Code}
use Rattle.kh_types.specs.Circles.{circle_count}
use Rattle.kh_types.specs.Generators.{Generator}
use Rattle.kh_types.specs.CircleNumbers.{IsName, circle_number, number_of}
use Rattle.circle_smoothing.specs.Edges.{AreRenumbered, renumbered}
use Rattle.kh_types.specs.Edges.{arc_at_slot}
use Rattle.kh_types.proofs.CircleNumbers.{IsCircle-of, number_of-below, number_of-one}
use Rattle.square_laws.specs.Squares.{circle_at_slot}
use Rattle.square_laws.proofs.Merges.{IsMerge, circle_in}
use Rattle.square_laws.proofs.Marks.{IsOff}
use Rattle.square_laws.proofs.LabelNumbers.{IsName-name_at, circle-name_at, label_of-name_at, name_at, number_of-name_at}
use Rattle.square_laws.proofs.EdgeMarks.{IsSameOff, label_at}
use Rattle.square_laws.proofs.TouchedCircles.{fits, fits-decides}
use Rattle.cube_signs.proofs.LabelBits.{AgreeOff}
use Rattle.cube_signs.proofs.HeadBits.{IsMerged, IsParted}

-- the number of the circle at a slot
abbrev pub number_at : Code → ℕ → ℕ → ℕ → ℕ
number_at code state crossing slot = circle_number code state (arc_at_slot code crossing slot)

-- the circles with the numbers a and b become one
pub record AreNumbered (code : Code) (two one crossing a b : ℕ) : Type 0 where
  pub is : IsTrue (accepted code)
  pub merge : IsMerge code two one crossing
  pub lesser : a ≡ min (number_at code two crossing 0) (number_at code two crossing 2)
  pub greater : b ≡ max (number_at code two crossing 0) (number_at code two crossing 2)
  pub order : a < b
  pub moved : AreRenumbered code two one a b

-- the greater number is one of a circle
pub greater-below : (code : Code) (two one crossing a b : ℕ) → AreNumbered code two one crossing a b → b ≤ circle_count code one
greater-below code two one crossing a b are =
    omega (
      arith,
      are.merge.circles.count,
      are.greater,
      number_of-below code two (circle_at_slot code two crossing 0)
          (IsCircle-of code two (arc_at_slot code crossing 0) are.is are.merge.first),
      number_of-below code two (circle_at_slot code two crossing 2)
          (IsCircle-of code two (arc_at_slot code crossing 2) are.is are.merge.third),
    )

-- an arc is off the two circles exactly where its circle has another number

off-number : (code : Code) (two one crossing a b arc : ℕ) → AreNumbered code two one crossing a b → IsName code arc
    → IsOff code two crossing arc → (circle_number code two arc ≢ a) × (circle_number code two arc ≢ b)
off-number code two one crossing a b arc are name off =
    let c = circle_in code two arc in
    let c_is = IsCircle-of code two arc are.is name in
    let apart : (slot : ℕ) → IsName code (arc_at_slot code crossing slot) → c ≢ circle_at_slot code two crossing slot
    → circle_number code two arc ≢ number_at code two crossing slot =
    λ slot slot_name other same.
    other (number_of-one code two c (circle_at_slot code two crossing slot) c_is
    (IsCircle-of code two (arc_at_slot code crossing slot) are.is slot_name) same) in
    neither a b (number_at code two crossing 0) (number_at code two crossing 2) (circle_number code two arc) are.lesser are.greater
    (apart 0 are.merge.first off.first) (apart 2 are.merge.third off.third)
  where
    neither : (a b m n k : ℕ) → a ≡ min m n → b ≡ max m n → k ≢ m → k ≢ n → (k ≢ a) × (k ≢ b)
    neither a b m n k lesser greater not_m not_n = (grind arith, grind arith)

off-other : (code : Code) (two one crossing a b arc : ℕ) → AreNumbered code two one crossing a b
    → circle_number code two arc ≢ a → circle_number code two arc ≢ b → IsOff code two crossing arc
off-other code two one crossing a b arc are not_a not_b = grind (arith, nat_tests)

-- so labels are the same off the two circles exactly where bits are

agree-same : (code : Code) (two one : Generator) (crossing a b : ℕ) → AreNumbered code two.state one.state crossing a b
    → IsSameOff code two one crossing → AgreeOff (circle_count code two.state) a b two.label one.label
agree-same code two one crossing a b are same =
    record {
      at = λ k below not_a not_b.
          let arc = name_at code two.state k in
          let name = IsName-name_at code two.state k below in
          let is_k : circle_number code two.state arc ≡ k =
          ap (number_of code two.state) (circle-name_at code two.state k below) ∙ number_of-name_at code two.state k below in
          let off = off-other code two.state one.state crossing a b arc are (λ is_a. not_a (sym is_k ∙ is_a))
          (λ is_b. not_b (sym is_k ∙ is_b)) in
          sym (label_of-name_at code two k below) ∙ same.at arc name off ∙ ap (bit one.label) (are.moved arc name)
          ∙ ap (λ n. bit one.label (renumbered a b n)) is_k;
    }

same-agree : (code : Code) (two one : Generator) (crossing a b : ℕ) → AreNumbered code two.state one.state crossing a b
    → AgreeOff (circle_count code two.state) a b two.label one.label → IsSameOff code two one crossing
same-agree code two one crossing a b are agree =
    record {
      at = λ arc name off.
          let others = off-number code two.state one.state crossing a b arc are name off in
          let below = number_of-below code two.state (circle_in code two.state arc) (IsCircle-of code two.state arc are.is name) in
          agree.at (circle_number code two.state arc) below others.0 others.1 ∙ ap (bit one.label) (sym (are.moved arc name));
    }

-- and on them they are the bits there

labels-two : (code : Code) (two one : Generator) (crossing a b : ℕ) → AreNumbered code two.state one.state crossing a b
    → label_at code two crossing 0 + label_at code two crossing 2 ≡ bit two.label a + bit two.label b
labels-two code two one crossing a b are = grind (arith, nat_tests)

label-one : (code : Code) (two : ℕ) (one : Generator) (crossing a b : ℕ) → AreNumbered code two one.state crossing a b
    → label_at code one crossing 0 ≡ bit one.label a
label-one code two one crossing a b are = grind (arith, nat_tests)

-- the labels behind a merge, and behind a split

pub fits-merge : (code : Code) (tail head : Generator) (crossing a b : ℕ) → AreNumbered code tail.state head.state crossing a b
    → head.label < 2 ^ circle_count code head.state
    → Decides (fits code tail head crossing) (IsMerged (circle_count code head.state) a b tail.label head.label)
fits-merge code tail head crossing a b are head_small =
    let size = circle_count code head.state in
    let count = are.merge.circles.count in
    let decides = fits-decides true code tail head crossing are.is are.merge in
    let there = label-one code tail.state head crossing a b are in
    let sum = labels-two code tail head crossing a b are in (
      λ passes.
          let change = decides.0 passes in
          record {
            agree = subst (λ (n : ℕ). AgreeOff n a b tail.label head.label) count (agree-same code tail head crossing a b are change.0);
            there = sym there ∙ change.1 ∙ sum;
            small = head_small;
          },
      λ moves. decides.1 (
        same-agree code tail head crossing a b are
            (subst (λ (n : ℕ). AgreeOff n a b tail.label head.label) (sym count) moves.agree),
        there ∙ moves.there ∙ sym sum,
      ),
    )

pub fits-split : (code : Code) (tail head : Generator) (crossing a b : ℕ) → AreNumbered code head.state tail.state crossing a b
    → head.label < 2 ^ (circle_count code tail.state + 1)
    → Decides (fits code tail head crossing) (IsParted (circle_count code tail.state) a b tail.label head.label)
fits-split code tail head crossing a b are head_small =
    let count = are.merge.circles.count in
    let decides = fits-decides false code tail head crossing are.is are.merge in
    let there = label-one code head.state tail crossing a b are in
    let sum = labels-two code head tail crossing a b are in (
      λ passes.
          let change = decides.0 passes in
          record {
            agree = subst (λ (n : ℕ). AgreeOff n a b head.label tail.label) count (agree-same code head tail crossing a b are change.0);
            sum = sym sum ∙ change.1 ∙ ap (λ n. n + 1) there;
            small = head_small;
          },
      λ moves. decides.1 (
        same-agree code head tail crossing a b are
            (subst (λ (n : ℕ). AgreeOff n a b head.label tail.label) (sym count) moves.agree),
        sum ∙ moves.sum ∙ ap (λ n. n + 1) (sym there),
      ),
    )
