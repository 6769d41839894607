-- The labels of a middle state between two generators, each with the numbers of its two edges: the same sum along two crossings in either
-- order, modulo p.
--
-- The first edge takes the marks of the first generator to lists of marks; each of these is a power of h times one generator of the middle
-- state, and the second edge takes it on. In the other order the two additions change places. A mark may move along its circle, so both
-- orders lead to the same lists on the circles of the last state, in every kind of square.
use Rattle.std.proofs.Common.{◌≡◌, ℕ, ◌+◌, ◌-◌, ◌*◌, ◌^◌, ◌∙◌, inl, inr, List, [], ◌∷◌, length, refl, sym, ap, ap₂, subst, arith, Bool, true, false, cond, IsTrue}
use Rattle.std.specs.Prelude.{min}
use Rattle.std.specs.List.{All, sum_by, range_with_len}
use Rattle.std.proofs.lemmas.Bool.Decides.{same_from_decides}
use Rattle.std.proofs.lemmas.List.Elements.{All-cons}
use Rattle.std.proofs.lemmas.List.Sums.{sum_by-cons}
use Rattle.std.proofs.Math.Nat.{pow-zero}
use Rattle.kh_types.specs.Acceptance.{accepted}
use Rattle.kh_types.specs.Code.{Code}
use Rattle.kh_types.specs.Circles.{circle_count}
use Rattle.kh_types.specs.CircleNumbers.{IsName}
use Rattle.kh_types.specs.Edges.{arc_at_slot, state_behind}
use Rattle.kh_types.specs.Generators.{Generator, generator_of}
use Rattle.kh_types.specs.Residues.{Same}
use Rattle.kh_types.proofs.ListSums.{sum_by-alike, sum_by-plus, sum_by-single, sum_by-times}
use Rattle.kh_types.proofs.Residues.{same-add, same-equal, same-scaled}
use Rattle.square_laws.specs.Squares.{EndOnOne, EndOnTwo, IsKind}
use Rattle.square_laws.proofs.Merges.{IsSwitch, circle_in}
use Rattle.square_laws.proofs.SquareKinds.{HasEdges}
use Rattle.square_laws.proofs.Marks.{hits, hits-circle, hits-exchanged, hits-moved}
use Rattle.square_laws.proofs.LabelNumbers.{label-exists, label-once}
use Rattle.square_laws.proofs.MarkedLabels.{IsMarked-marked_by, IsName-marked_by, marked_by, ones-marked}
use Rattle.square_laws.specs.Deformed.{label_number}
use Rattle.square_laws.proofs.OneLabels.{IsShown, is_shown, is_shown-decides, ones_of, shown-marked}
use Rattle.square_laws.proofs.Weights.{edge-weights, spread, weight}

-- sums of what is the same modulo p
pub sum_by-same : {X : Type 0} (p : ℕ) (f g : X → ℕ) → ((x : X) → Same p (f x) (g x)) → (xs : List X) → Same p (sum_by f xs) (sum_by g xs)
sum_by-same p f g same [] = refl
sum_by-same p f g same (x ∷ xs) =
    same-equal p (sum_by f (x ∷ xs)) (f x + sum_by f xs) (sum_by-cons f x xs)
    ∙ same-add p (f x) (g x) (sum_by f xs) (sum_by g xs) (same x) (sum_by-same p f g same xs)
    ∙ same-equal p (g x + sum_by g xs) (sum_by g (x ∷ xs)) (sym (sum_by-cons g x xs))

-- marks are a power of h times the one generator that they show
marks-sum : (h : ℕ) (code : Code) (state : ℕ) (marked : List ℕ) (term : ℕ → ℕ) → IsTrue (accepted code)
    → (found : ℕ) × IsShown code (generator_of state found) marked
    × (sum_by (λ number. term number * weight h code (generator_of state number) marked) (range_with_len 0 (2 ^ circle_count code state))
    ≡ term found * h ^ (length marked - ones_of code (generator_of state found)))
marks-sum h code state marked term is =
    let label = λ (arc : ℕ). min 1 (hits code state marked arc) in
    let found = label-exists code state label is (λ arc name. omega arith)
    (λ x y same. ap (min 1) (hits-circle code state marked x y same)) in
    let shown : IsShown code (generator_of state found.0) marked = record { at = found.2 } in
    let power = λ (number : ℕ). h ^ (length marked - ones_of code (generator_of state number)) in (
      found.0,
      shown,
      sum_by-single (λ number. term number * weight h code (generator_of state number) marked) 0 (2 ^ circle_count code state)
          found.0 (omega arith) (omega (arith, found.1))
          (λ number from below other.
          not_shown (term number) (is_shown code (generator_of state number) marked) (power number)
          (λ passes. other (label-once code state number found.0 (omega arith) found.1
          (λ arc name. ((is_shown-decides code (generator_of state number) marked).0 passes).at arc name ∙ sym (found.2 arc name)))))
          ∙ ap (λ b. term found.0 * cond b (power found.0) 0) ((is_shown-decides code (generator_of state found.0) marked).1 shown),
    )
  where
    not_shown : (n : ℕ) (b : Bool) (m : ℕ) → (b ≡ true → ⊥) → n * cond b m 0 ≡ 0
    not_shown n true m fails = absurd (fails refl)
    not_shown n false m fails = omega arith

-- a sum over generators of lists behind an edge is one over lists of sums
spread-sum : (merges : Bool) (k : ℕ) (code : Code) (crossing : ℕ) (term : ℕ → ℕ) (f : ℕ → List ℕ → ℕ) (marked numbers : List ℕ)
    → sum_by (λ n. term n * spread merges k code crossing (f n) marked) numbers
    ≡ spread merges k code crossing (λ list. sum_by (λ n. term n * f n list) numbers) marked
spread-sum true k code crossing term f marked numbers = refl
spread-sum false k code crossing term f marked numbers =
    let first = λ (n : ℕ). term n * f n (arc_at_slot code crossing 0 ∷ marked) in
    let third = λ (n : ℕ). term n * f n (arc_at_slot code crossing 2 ∷ marked) in
    let none = λ (n : ℕ). term n * f n marked in
    sum_by-alike
    (λ n. term n * (f n (arc_at_slot code crossing 0 ∷ marked) + f n (arc_at_slot code crossing 2 ∷ marked) + k * f n marked))
    (λ n. first n + third n + k * none n)
    (λ n. spread_out (term n) (f n (arc_at_slot code crossing 0 ∷ marked)) (f n (arc_at_slot code crossing 2 ∷ marked)) (f n marked) k)
    numbers
    ∙ sum_by-plus (λ n. first n + third n) (λ n. k * none n) numbers
    ∙ ap₂ (λ x y. x + y) (sum_by-plus first third numbers) (sum_by-times none k numbers)
  where
    spread_out : (t x y z k : ℕ) → t * (x + y + k * z) ≡ t * x + t * y + k * (t * z)
    spread_out t x y z k = omega arith

-- the ends of an under pass are arcs
switch-names : (merges : Bool) (code : Code) (before after crossing : ℕ) → IsSwitch merges code before after crossing
    → IsName code (arc_at_slot code crossing 0) × IsName code (arc_at_slot code crossing 2)
switch-names true code before after crossing merge = (merge.first, merge.third)
switch-names false code before after crossing merge = (merge.first, merge.third)

spread-same : (merges : Bool) (p k : ℕ) (code : Code) (before after crossing : ℕ) (f g : List ℕ → ℕ) (marked : List ℕ)
    → IsSwitch merges code before after crossing → All (IsName code) marked
    → ((list : List ℕ) → All (IsName code) list → Same p (f list) (g list))
    → Same p (spread merges k code crossing f marked) (spread merges k code crossing g marked)
spread-same true p k code before after crossing f g marked edge names same = same marked names
spread-same false p k code before after crossing f g marked edge names same =
    let x = arc_at_slot code crossing 0 in
    let y = arc_at_slot code crossing 2 in
    let ends = switch-names false code before after crossing edge in
    same-add p (f (x ∷ marked) + f (y ∷ marked)) (g (x ∷ marked) + g (y ∷ marked)) (k * f marked) (k * g marked)
    (same-add p (f (x ∷ marked)) (g (x ∷ marked)) (f (y ∷ marked)) (g (y ∷ marked))
    (same (x ∷ marked) (All-cons (IsName code) x marked ends.0 names))
    (same (y ∷ marked) (All-cons (IsName code) y marked ends.1 names)))
    (same-scaled p k (f marked) (g marked) (same marked names))

-- the labels of a state between two generators, along a and then b, each with the numbers of its two edges
abbrev pub path_number : ℕ → ℕ → Code → Generator → Generator → ℕ → ℕ → ℕ → ℕ
path_number h k code tail head state a b =
    sum_by (λ number. label_number h k code (generator_of state number) head b * label_number h k code tail (generator_of state number) a)
    (range_with_len 0 (2 ^ circle_count code state))

-- the marks behind both edges
abbrev ways : ℕ → ℕ → Bool → Bool → Code → Generator → ℕ → ℕ → List ℕ → ℕ
ways h k first second code head a b marked =
    spread first k code a (λ list. spread second k code b (weight h code head) list) marked

path-ways : (p h k : ℕ) (first second : Bool) (code : Code) (tail head : Generator) (state a b : ℕ) → Same p (h + k) 0
    → IsTrue (accepted code) → IsSwitch first code tail.state state a → IsSwitch second code state head.state b
    → Same p (path_number h k code tail head state a b) (ways h k first second code head a b (marked_by code tail))
path-ways p h k first second code tail head state a b none is edge_a edge_b =
    let numbers = range_with_len 0 (2 ^ circle_count code state) in
    let marked = marked_by code tail in
    let middle = generator_of state in
    let marks = IsMarked-marked_by code tail is in
    let names = IsName-marked_by code tail in
    let shown = shown-marked code tail marked marks in
    let count : length marked - ones_of code tail ≡ 0 = omega (arith, ones-marked code tail marked is names marks) in
    let term = λ (number : ℕ). label_number h k code (middle number) head b in
    let before = λ (number : ℕ). label_number h k code tail (middle number) a in
    let behind = λ (number : ℕ). spread first k code a (weight h code (middle number)) marked in
    sum_by-same p (λ number. term number * before number) (λ number. term number * behind number)
    (λ number. same-scaled p (term number) (before number) (behind number)
    (same-equal p (before number) (before number * h ^ (length marked - ones_of code tail))
    (once (before number) (h ^ (length marked - ones_of code tail)) (ap (λ n. h ^ n) count ∙ pow-zero h))
    ∙ edge-weights first p h k code tail (middle number) a marked none is edge_a names shown))
    numbers
    ∙ same-equal p (sum_by (λ number. term number * behind number) numbers)
    (spread first k code a (λ list. sum_by (λ number. term number * weight h code (middle number) list) numbers) marked)
    (spread-sum first k code a term (λ number. weight h code (middle number)) marked numbers)
    ∙ spread-same first p k code tail.state state a (λ list. sum_by (λ number. term number * weight h code (middle number) list) numbers)
    (λ list. spread second k code b (weight h code head) list) marked edge_a names
    (λ list are.
    let sum = marks-sum h code state list term is in
    same-equal p (sum_by (λ number. term number * weight h code (middle number) list) numbers)
    (term sum.0 * h ^ (length list - ones_of code (middle sum.0))) sum.2
    ∙ edge-weights second p h k code (middle sum.0) head b list none is edge_b are sum.1)
  where
    once : (x y : ℕ) → y ≡ 1 → x ≡ x * y
    once x y is = (let e : x ≡ x * 1 = omega arith in e) ∙ ap (λ z. x * z) (sym is)

-- as many marks that are the same on all circles are one element
weight-same : (h : ℕ) (code : Code) (generator : Generator) (first second : List ℕ) → length first ≡ length second
    → ((arc : ℕ) → hits code generator.state first arc ≡ hits code generator.state second arc)
    → weight h code generator first ≡ weight h code generator second
weight-same h code generator first second size same =
    ap₂ (λ b n. cond b (h ^ (n - ones_of code generator)) 0)
    (same_from_decides (is_shown code generator first) (is_shown code generator second) (is_shown-decides code generator first) (
      λ passes. alike second first (λ arc. sym (same arc)) ((is_shown-decides code generator second).0 passes),
      λ shown. (is_shown-decides code generator second).1 (alike first second same shown),
    ))
    size
  where
    alike : (first second : List ℕ) → ((arc : ℕ) → hits code generator.state first arc ≡ hits code generator.state second arc)
        → IsShown code generator first → IsShown code generator second
    alike first second same shown = record { at = λ arc name. shown.at arc name ∙ ap (min 1) (same arc) }

weight-exchanged : (h : ℕ) (code : Code) (head : Generator) (x y : ℕ) (marked : List ℕ)
    → weight h code head (x ∷ y ∷ marked) ≡ weight h code head (y ∷ x ∷ marked)
weight-exchanged h code head x y marked =
    weight-same h code head (x ∷ y ∷ marked) (y ∷ x ∷ marked) refl (hits-exchanged code head.state x y marked)

weight-moved : (h : ℕ) (code : Code) (head : Generator) (x y : ℕ) (marked : List ℕ)
    → circle_in code head.state x ≡ circle_in code head.state y
    → weight h code head (x ∷ marked) ≡ weight h code head (y ∷ marked)
weight-moved h code head x y marked same =
    weight-same h code head (x ∷ marked) (y ∷ marked) refl (λ arc. hits-moved code head.state x y marked arc same)

-- a crossing that does the same in both orders: the order of the marks is free
ways-same : (h k : ℕ) (first second : Bool) (code : Code) (head : Generator) (a b : ℕ) (marked : List ℕ)
    → ways h k first second code head a b marked ≡ ways h k second first code head b a marked
ways-same h k true true code head a b marked = refl
ways-same h k true false code head a b marked = refl
ways-same h k false true code head a b marked = refl
ways-same h k false false code head a b marked =
    let f = weight h code head in
    let a0 = arc_at_slot code a 0 in
    let a2 = arc_at_slot code a 2 in
    let b0 = arc_at_slot code b 0 in
    let b2 = arc_at_slot code b 2 in
    turned (f (b0 ∷ a0 ∷ marked)) (f (b2 ∷ a0 ∷ marked)) (f (a0 ∷ marked)) (f (b0 ∷ a2 ∷ marked)) (f (b2 ∷ a2 ∷ marked))
    (f (a2 ∷ marked)) (f (b0 ∷ marked)) (f (b2 ∷ marked)) (f marked)
    ∙ ap₂ (λ u v. u + v)
    (ap₂ (λ u v. u + v)
    (ap₂ (λ u v. u + v + k * f (b0 ∷ marked)) (weight-exchanged h code head b0 a0 marked) (weight-exchanged h code head b0 a2 marked))
    (ap₂ (λ u v. u + v + k * f (b2 ∷ marked)) (weight-exchanged h code head b2 a0 marked) (weight-exchanged h code head b2 a2 marked)))
    refl
  where
    turned : (b0a0 b2a0 a0 b0a2 b2a2 a2 b0 b2 m : ℕ)
        → b0a0 + b2a0 + k * a0 + (b0a2 + b2a2 + k * a2) + k * (b0 + b2 + k * m)
        ≡ b0a0 + b0a2 + k * b0 + (b2a0 + b2a2 + k * b2) + k * (a0 + a2 + k * m)
    turned b0a0 b2a0 a0 b0a2 b2a2 a2 b0 b2 m = omega arith

-- a mark may be any arc of its circle
ways-two : (h k : ℕ) (code : Code) (head : Generator) (a b : ℕ) (marked : List ℕ) → EndOnTwo code head.state a b
    → ways h k true false code head a b marked ≡ ways h k true false code head b a marked
ways-two h k code head a b marked two =
    let a0 = arc_at_slot code a 0 in
    let a2 = arc_at_slot code a 2 in
    let b0 = arc_at_slot code b 0 in
    let b2 = arc_at_slot code b 2 in
    let none = k * weight h code head marked in
    elim two [
      | inl is ↦
          ap₂ (λ u v. u + v + none) (weight-moved h code head b0 a0 marked (sym is.0)) (weight-moved h code head b2 a2 marked (sym is.1))
      | inr is ↦
          ap₂ (λ u v. u + v + none) (weight-moved h code head b0 a2 marked (sym is.1)) (weight-moved h code head b2 a0 marked (sym is.0))
          ∙ exchanged (weight h code head (a2 ∷ marked)) (weight h code head (a0 ∷ marked)) none
    ]
  where
    exchanged : (x y z : ℕ) → x + y + z ≡ y + x + z
    exchanged x y z = omega arith

ways-one : (h k : ℕ) (code : Code) (head : Generator) (a b : ℕ) (marked : List ℕ) → EndOnOne code head.state a b
    → ways h k false true code head a b marked ≡ ways h k false true code head b a marked
ways-one h k code head a b marked end =
    ap₂ (λ u v. u + v + k * weight h code head marked)
    (weight-moved h code head (arc_at_slot code a 0) (arc_at_slot code b 0) marked end.one)
    (weight-moved h code head (arc_at_slot code a 2) (arc_at_slot code b 2) marked (sym end.first ∙ end.one ∙ end.second))

-- the two ways round a square lead to the same marks
ways-turned : (h k : ℕ) (a_first b_second b_first a_second : Bool) (code : Code) (head : Generator) (a b : ℕ) (marked : List ℕ)
    → IsKind code head.state a b a_first b_second b_first a_second
    → ways h k a_first b_second code head a b marked ≡ ways h k b_first a_second code head b a marked
ways-turned h k a_first b_second b_first a_second code head a b marked kind =
    let to_b = λ (first second : Bool). ways h k first second code head a b marked in
    let to_a = λ (first second : Bool). ways h k first second code head b a marked in
    elim kind [
      | inl same ↦ ways-same h k a_first b_second code head a b marked ∙ ap₂ to_a (sym same.b) same.a
      | inr (inl is) ↦
          ap₂ to_b is.a_merges is.b_splits ∙ ways-two h k code head a b marked is.ends
          ∙ sym (ap₂ to_a is.b_merges is.a_splits)
      | inr (inr is) ↦
          ap₂ to_b is.a_splits is.b_merges ∙ ways-one h k code head a b marked is.ends
          ∙ sym (ap₂ to_a is.b_splits is.a_merges)
    ]

-- so the numbers along a and then b and along b and then a are the same
pub path-turned : (p h k : ℕ) (code : Code) (tail head : Generator) (a b : ℕ) → Same p (h + k) 0 → IsTrue (accepted code)
    → HasEdges code tail.state a b → head.state ≡ state_behind (state_behind tail.state a) b
    → Same p (path_number h k code tail head (state_behind tail.state a) a b)
    (path_number h k code tail head (state_behind tail.state b) b a)
path-turned p h k code tail head a b none is edges is_head =
    let by_a = state_behind tail.state a in
    let by_b = state_behind tail.state b in
    let then_b = subst (λ (s : ℕ). IsSwitch edges.b_second code by_a s b) (sym is_head) edges.then_b in
    let then_a = subst (λ (s : ℕ). IsSwitch edges.a_second code by_b s a) (sym is_head) edges.then_a in
    path-ways p h k edges.a_first edges.b_second code tail head by_a a b none is edges.first_a then_b
    ∙ same-equal p (ways h k edges.a_first edges.b_second code head a b (marked_by code tail))
    (ways h k edges.b_first edges.a_second code head b a (marked_by code tail))
    (ways-turned h k edges.a_first edges.b_second edges.b_first edges.a_second code head a b (marked_by code tail)
    (subst (λ (s : ℕ). IsKind code s a b edges.a_first edges.b_second edges.b_first edges.a_second) (sym is_head) edges.kind))
    ∙ sym (path-ways p h k edges.b_first edges.a_second code tail head by_b b a none is edges.first_b then_a)
