-- The number of an edge by the labels at the ends of the under pass of its crossing.
use Rattle.std.proofs.lemmas.Bool.Decides.{nat_tests}
use Rattle.std.proofs.Common.{◌≡◌, ◌≢◌, ℕ, ◌+◌, ◌∙◌, List, map, sym, ap, ap₂, arith, cond, IsTrue}
use Rattle.std.specs.Prelude.{min, max}
use Rattle.std.specs.Bool.{Decides}
use Rattle.std.proofs.lemmas.Bool.Decides.{Decides-like}
use Rattle.kh_types.specs.Acceptance.{accepted}
use Rattle.kh_types.specs.Classes.{merged}
use Rattle.kh_types.specs.Code.{Code}
use Rattle.kh_types.specs.Differential.{keeps_labels, label_of}
use Rattle.kh_types.specs.Generators.{Generator}
use Rattle.square_laws.specs.Squares.{circle_at_slot}
use Rattle.square_laws.proofs.Merges.{IsMerge, circle_in}
use Rattle.square_laws.proofs.EdgeMarks.{IsSameOff, label_at, label_of-le}
use Rattle.square_laws.proofs.TouchedCircles.{keeps-decides, label-one, labels-two, touched-off, touched-off_after, touched-on, touched-on_after}
use Rattle.square_laws.specs.Deformed.{label_number, row_number}
use Rattle.square_laws.proofs.Numbers.{merge_rows, merging, split_rows, splitting}

-- the labels that stay, on a merge and on a split
pub keeps-merge : (code : Code) (tail head : Generator) (crossing : ℕ) → IsTrue (accepted code)
    → IsMerge code tail.state head.state crossing
    → Decides (keeps_labels code tail head crossing) (IsSameOff code tail head crossing)
keeps-merge code tail head crossing is merge =
    let p = circle_at_slot code tail.state crossing 0 in
    let q = circle_at_slot code tail.state crossing 2 in
    Decides-like (keeps_labels code tail head crossing) (λ all. record { at = all }) (λ same. same.at)
    (keeps-decides code tail head tail.state crossing is (record {
      on = touched-on code tail.state crossing;
      off = λ arc. touched-off code tail.state head.state crossing arc is merge;
      together = λ arc other off same. merge.one arc ∙ ap (merged p q) same ∙ sym (merge.one other);
    }))

pub keeps-split : (code : Code) (tail head : Generator) (crossing : ℕ) → IsTrue (accepted code)
    → IsMerge code head.state tail.state crossing
    → Decides (keeps_labels code tail head crossing) (IsSameOff code head tail crossing)
keeps-split code tail head crossing is merge =
    let p = circle_at_slot code head.state crossing 0 in
    let q = circle_at_slot code head.state crossing 2 in
    Decides-like (keeps_labels code tail head crossing)
    (λ all. record { at = λ arc name off. sym (all arc name off) }) (λ same arc name off. sym (same.at arc name off))
    (keeps-decides code tail head head.state crossing is (record {
      on = λ arc. touched-on_after code head.state tail.state crossing arc merge;
      off = λ arc. touched-off_after code head.state tail.state crossing arc is merge;
      together = λ arc other off same.
          still_together p q (circle_in code head.state arc) (circle_in code head.state other) off.first off.third
          (sym (merge.one arc) ∙ same ∙ merge.one other);
    }))
  where
    still_together : (p q c d : ℕ) → c ≢ p → c ≢ q → merged p q c ≡ merged p q d → c ≡ d
    still_together p q c d not_p not_q same = grind (arith, nat_tests)

abbrev row_of : ℕ → ℕ → Code → Generator → Generator → List ℕ → List ℕ → ℕ
row_of h k code tail head before after = row_number h k (map (label_of code tail) before) (map (label_of code head) after)

-- the number of an edge that merges, and of one that splits
pub number-merge : (h k : ℕ) (code : Code) (tail head : Generator) (crossing : ℕ) → IsTrue (accepted code)
    → IsMerge code tail.state head.state crossing
    → label_number h k code tail head crossing
    ≡ cond (keeps_labels code tail head crossing)
    (merging h (label_at code tail crossing 0 + label_at code tail crossing 2) (label_at code head crossing 0)) 0
number-merge h k code tail head crossing is merge =
    let p = circle_at_slot code tail.state crossing 0 in
    let q = circle_at_slot code tail.state crossing 2 in
    ap (λ n. cond (keeps_labels code tail head crossing) n 0)
    (ap₂ (row_of h k code tail head) merge.circles.touched_before merge.circles.touched_after
    ∙ merge_rows h k (label_of code tail (min p q)) (label_of code tail (max p q)) (label_of code head (min p q))
    (label_of-le code tail (min p q)) (label_of-le code tail (max p q)) (label_of-le code head (min p q))
    ∙ ap₂ (merging h) (labels-two code tail head.state crossing is merge) (label-one code tail.state crossing head is merge))

pub number-split : (h k : ℕ) (code : Code) (tail head : Generator) (crossing : ℕ) → IsTrue (accepted code)
    → IsMerge code head.state tail.state crossing
    → label_number h k code tail head crossing
    ≡ cond (keeps_labels code tail head crossing)
    (splitting k (label_at code tail crossing 0) (label_at code head crossing 0 + label_at code head crossing 2)) 0
number-split h k code tail head crossing is merge =
    let p = circle_at_slot code head.state crossing 0 in
    let q = circle_at_slot code head.state crossing 2 in
    ap (λ n. cond (keeps_labels code tail head crossing) n 0)
    (ap₂ (row_of h k code tail head) merge.circles.touched_after merge.circles.touched_before
    ∙ split_rows h k (label_of code tail (min p q)) (label_of code head (min p q)) (label_of code head (max p q))
    (label_of-le code tail (min p q)) (label_of-le code head (min p q)) (label_of-le code head (max p q))
    ∙ ap₂ (splitting k) (label-one code head.state crossing tail is merge) (labels-two code head tail.state crossing is merge))
