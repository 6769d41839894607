-- Labels have marks, as many as there are labels 1.
use Rattle.std.proofs.Common.{◌≡◌, ◌≢◌, ℕ, ◌+◌, ◌*◌, ◌≤◌, ◌∙◌, inl, inr, List, [], ◌∷◌, length, sym, arith, Bool, true, false, cond, IsTrue}
use Rattle.std.specs.Prelude.{nat_eq}
use Rattle.std.specs.List.{All, filter, sum_by}
use Rattle.std.proofs.lemmas.Bool.Decides.{nat_tests}
use Rattle.std.proofs.lemmas.List.Elements.{All-cons, All-filter, All-head, All-tail}
use Rattle.kh_types.specs.Acceptance.{accepted}
use Rattle.kh_types.specs.Bits.{ones, one_if}
use Rattle.kh_types.specs.Code.{Code}
use Rattle.kh_types.specs.Circles.{circle_count, circle_names}
use Rattle.kh_types.specs.Differential.{label_of}
use Rattle.kh_types.specs.Generators.{Generator}
use Rattle.kh_types.specs.CircleNumbers.{IsName}
use Rattle.kh_types.specs.Edges.{arc_at_slot}
use Rattle.kh_types.proofs.CircleNumbers.{IsCircle-of}
use Rattle.square_laws.proofs.Merges.{IsSwitch, circle_in}
use Rattle.kh_types.proofs.ListSums.{sum_by-alike, sum_by-filter, sum_by-places, sum_by-plus, sum_by-range_alike, sum_by-zeros}
use Rattle.square_laws.proofs.Marks.{hits, hits-cons, hits-sum}
use Rattle.square_laws.proofs.LabelNumbers.{IsName-name_at, IsName-names, name_at, ones-labels, sum_by-names}
use Rattle.square_laws.proofs.EdgeMarks.{IsChange, IsMarked, label_of-circle, label_of-le, marked-merge, split-marked}

-- the marks of labels: the names of the circles with the label 1
abbrev pub marked_by : Code → Generator → List ℕ
marked_by code generator = filter (λ c. nat_eq (label_of code generator c) 1) (circle_names code generator.state)

pub IsMarked-marked_by : (code : Code) (generator : Generator) → IsTrue (accepted code) → IsMarked code generator (marked_by code generator)
IsMarked-marked_by code generator is =
    let circle = circle_in code generator.state in
    record {
      at = λ arc name.
          let c = circle arc in
          let is_c = IsCircle-of code generator.state arc is name in
          hits-sum code generator.state (marked_by code generator) arc
          ∙ sum_by-filter (λ mark. one_if (nat_eq (circle mark) c)) (λ x. nat_eq (label_of code generator x) 1)
          (circle_names code generator.state)
          ∙ sum_by-names code generator.state (λ x. cond (nat_eq (label_of code generator x) 1) (one_if (nat_eq (circle x) c)) 0) c is_c
          (λ x own other. elsewhere (label_of code generator x) (circle x) c (λ same. other (sym own ∙ same)))
          ∙ there (label_of code generator c) (circle c) c (label_of-le code generator c) is_c.own
          ∙ label_of-circle code generator c arc is_c.own;
    }
  where
    elsewhere : (l c d : ℕ) → c ≢ d → cond (nat_eq l 1) (one_if (nat_eq c d)) 0 ≡ 0
    elsewhere l c d other = grind (arith, nat_tests)

    there : (l c d : ℕ) → l ≤ 1 → c ≡ d → cond (nat_eq l 1) (one_if (nat_eq c d)) 0 ≡ l
    there l c d small same = grind (arith, nat_tests)

pub IsName-marked_by : (code : Code) (generator : Generator) → All (IsName code) (marked_by code generator)
IsName-marked_by code generator =
    All-filter (λ c. nat_eq (label_of code generator c) 1) (IsName code) (circle_names code generator.state)
    (IsName-names code generator.state)

-- each mark is on one circle
pub hits-total : (code : Code) (state : ℕ) (marked : List ℕ) → IsTrue (accepted code) → All (IsName code) marked
    → sum_by (hits code state marked) (circle_names code state) ≡ length marked
hits-total code state [] is names = grind (arith, nat_tests, sum_by-zeros, hits, hits-sum)
hits-total code state (mark ∷ marked) is names =
    let c = circle_in code state mark in
    let is_c = IsCircle-of code state mark is (All-head (IsName code) mark marked names) in
    let on = λ (x : ℕ). one_if (nat_eq c (circle_in code state x)) in
    let here : sum_by on (circle_names code state) ≡ 1 =
    sum_by-names code state on c is_c
    (λ x own other. elsewhere c (circle_in code state x) (λ same. other (sym own ∙ sym same)))
    ∙ there c (circle_in code state c) (sym is_c.own) in
    sum_by-alike (hits code state (mark ∷ marked)) (λ x. on x + hits code state marked x) (hits-cons code state mark marked)
    (circle_names code state)
    ∙ sum_by-plus on (hits code state marked) (circle_names code state)
    ∙ omega (arith, here, hits-total code state marked is (All-tail (IsName code) mark marked names))
  where
    elsewhere : (c d : ℕ) → c ≢ d → one_if (nat_eq c d) ≡ 0
    elsewhere c d other = grind (arith, nat_tests)

    there : (c d : ℕ) → c ≡ d → one_if (nat_eq c d) ≡ 1
    there c d same = grind (arith, nat_tests)

-- as many labels are 1 as there are marks that give them
pub ones-marked : (code : Code) (generator : Generator) (marked : List ℕ) → IsTrue (accepted code) → All (IsName code) marked
    → IsMarked code generator marked → ones (circle_count code generator.state) generator.label ≡ length marked
ones-marked code generator marked is are marks =
    let names = circle_names code generator.state in
    let at = name_at code generator.state in
    ones-labels code generator ∙ sum_by-places (label_of code generator) names 0
    ∙ sum_by-range_alike (λ i. label_of code generator (at i)) (λ i. hits code generator.state marked (at i)) 0 (length names)
    (λ i from below. sym (marks.at (at i) (IsName-name_at code generator.state i (omega arith))))
    ∙ sym (sum_by-places (hits code generator.state marked) names 0)
    ∙ hits-total code generator.state marked is are

-- along an edge the number of circles less twice the number of labels 1 falls by one
pub labels-lower : (merges : Bool) (code : Code) (tail head : Generator) (crossing : ℕ) → IsTrue (accepted code)
    → IsSwitch merges code tail.state head.state crossing → IsChange merges code tail head crossing
    → circle_count code head.state + 2 * ones (circle_count code tail.state) tail.label + 1
    ≡ circle_count code tail.state + 2 * ones (circle_count code head.state) head.label
labels-lower true code tail head crossing is merge change =
    let marked = marked_by code tail in
    let marks = IsMarked-marked_by code tail is in
    let names = IsName-marked_by code tail in
    omega (
      arith,
      ones-marked code tail marked is names marks,
      ones-marked code head marked is names (marked-merge code tail head crossing marked merge marks change),
      merge.circles.count,
    )
labels-lower false code tail head crossing is merge change =
    let x = arc_at_slot code crossing 0 in
    let y = arc_at_slot code crossing 2 in
    let marked = marked_by code tail in
    let marks = IsMarked-marked_by code tail is in
    let names = IsName-marked_by code tail in
    let before = ones-marked code tail marked is names marks in
    elim (split-marked code head tail crossing marked merge marks change) [
      | inl first ↦
          let after : ones (circle_count code head.state) head.label ≡ 1 + length marked =
          ones-marked code head (x ∷ marked) is (All-cons (IsName code) x marked merge.first names) first ∙ omega arith in
          omega (arith, before, after, merge.circles.count)
      | inr third ↦
          let after : ones (circle_count code head.state) head.label ≡ 1 + length marked =
          ones-marked code head (y ∷ marked) is (All-cons (IsName code) y marked merge.third names) third ∙ omega arith in
          omega (arith, before, after, merge.circles.count)
    ]
