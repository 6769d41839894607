-- Labels before and after an edge, by marked arcs: a merge keeps the marks, a split marks one arc more, in one of two ways.
--
-- Labels are told by marks: a list of arcs, one on each circle with the label v-, and two marks on one circle are none. In these words a
-- merge keeps the list, as the circles that it joins add up their marks; and a split adds a mark at one of the two arcs of its crossing, in
-- two ways. So an edge coefficient counts lists of marks, and the order of two edges is that of two additions.
use Rattle.std.proofs.lemmas.Bool.Decides.{nat_tests}
use Rattle.std.proofs.Common.{◌≡◌, ◌≢◌, ℕ, ◌+◌, ◌≤◌, ◌∙◌, ◌⊎◌, inl, inr, List, [], ◌∷◌, refl, sym, ap, ap₂, arith, Bool, true, false}
use Rattle.std.specs.Prelude.{nat_eq}
use Rattle.std.specs.Bool.{Decides}
use Rattle.std.specs.List.{list_all, sum_by}
use Rattle.std.proofs.lemmas.Bool.{eqb-true, eq-eqb, ne_eqb}
use Rattle.std.proofs.lemmas.Bool.Decides.{same_from_decides}
use Rattle.kh_types.specs.Bits.{bit, one_if}
use Rattle.kh_types.specs.Code.{Code, arc_count, arcs_and_loops}
use Rattle.kh_types.specs.Differential.{label_of}
use Rattle.kh_types.specs.Generators.{Generator}
use Rattle.kh_types.proofs.QuantumDegrees.{bit-le}
use Rattle.kh_types.proofs.RangeCounts.{list_all-at, list_all-each}
use Rattle.kh_types.specs.CircleNumbers.{IsName, circle_number, number_of}
use Rattle.kh_types.specs.Edges.{arc_at_slot}
use Rattle.square_laws.proofs.Merges.{IsMerge, IsSwitch, circle_in}
use Rattle.square_laws.proofs.SquareKinds.{circle-on}
use Rattle.square_laws.proofs.Marks.{IsOff, hits, hits-circle, hits-cons, hits-off, hits-on, on_or_off}

-- a label is 0 or 1, and one for all arcs of a circle
pub label_of-le : (code : Code) (generator : Generator) (arc : ℕ) → label_of code generator arc ≤ 1
label_of-le code generator arc = bit-le generator.label (circle_number code generator.state arc)

pub label_of-circle : (code : Code) (generator : Generator) (x y : ℕ)
    → circle_in code generator.state x ≡ circle_in code generator.state y → label_of code generator x ≡ label_of code generator y
label_of-circle code generator x y same = ap (λ c. bit generator.label (number_of code generator.state c)) same

abbrev pub label_at : Code → Generator → ℕ → ℕ → ℕ
label_at code generator crossing slot = label_of code generator (arc_at_slot code crossing slot)

-- each circle has as its label the number of marked arcs on it
pub record IsMarked (code : Code) (generator : Generator) (marked : List ℕ) : Type 0 where
  pub at : (arc : ℕ) → IsName code arc → hits code generator.state marked arc ≡ label_of code generator arc

unfoldable pub is_marked : Code → Generator → List ℕ → Bool
is_marked code generator marked =
    list_all (λ arc. nat_eq (hits code generator.state marked arc) (label_of code generator arc)) (arcs_and_loops code)

pub is_marked-decides : (code : Code) (generator : Generator) (marked : List ℕ)
    → Decides (is_marked code generator marked) (IsMarked code generator marked)
unfolding is_marked
is_marked-decides code generator marked =
    let test = λ (arc : ℕ). nat_eq (hits code generator.state marked arc) (label_of code generator arc) in
    let most = arc_count code.crossings + code.loops in (
      λ passes. record {
        at = λ arc name. eqb-true (hits code generator.state marked arc) (label_of code generator arc)
            (list_all-at test 1 most arc passes name.positive (omega (arith, name.within)));
      },
      λ marks. list_all-each test 1 most (λ arc from below. eq-eqb (hits code generator.state marked arc) (label_of code generator arc)
          (marks.at arc (record { positive = from; within = omega (arith, below) }))),
    )

-- off the two circles that become one, labels are the same
pub record IsSameOff (code : Code) (two one : Generator) (crossing : ℕ) : Type 0 where
  pub at : (arc : ℕ) → IsName code arc → IsOff code two.state crossing arc → label_of code two arc ≡ label_of code one arc

-- what a merge does to labels, and what a split does
abbrev pub IsChange : Bool → Code → Generator → Generator → ℕ → Type 0
IsChange true code tail head crossing =
    IsSameOff code tail head crossing × (label_at code head crossing 0 ≡ label_at code tail crossing 0 + label_at code tail crossing 2)
IsChange false code tail head crossing =
    IsSameOff code head tail crossing × (label_at code head crossing 0 + label_at code head crossing 2 ≡ label_at code tail crossing 0 + 1)

-- the marks after an edge
abbrev pub grown : Bool → Code → ℕ → List ℕ → List (List ℕ)
grown true code crossing marked = marked ∷ []
grown false code crossing marked =
    (arc_at_slot code crossing 0 ∷ marked) ∷ (arc_at_slot code crossing 2 ∷ marked) ∷ []

-- a merge keeps the marks
pub marked-merge : (code : Code) (two one : Generator) (crossing : ℕ) (marked : List ℕ) → IsMerge code two.state one.state crossing
    → IsMarked code two marked → IsChange true code two one crossing → IsMarked code one marked
marked-merge code two one crossing marked merge marks change =
    record {
      at = λ arc name. elim (on_or_off code two.state crossing arc) [
        | inl on ↦
            hits-on code two.state one.state crossing marked arc merge on
            ∙ ap₂ (λ m n. m + n) (marks.at (arc_at_slot code crossing 0) merge.first) (marks.at (arc_at_slot code crossing 2) merge.third)
            ∙ sym change.1
            ∙ sym (label_of-circle code one arc (arc_at_slot code crossing 0) (circle-on code two.state one.state crossing arc merge on))
        | inr off ↦
            hits-off code two.state one.state crossing marked arc merge off ∙ marks.at arc name ∙ change.0.at arc name off
      ];
    }

change-merge : (code : Code) (two one : Generator) (crossing : ℕ) (marked : List ℕ) → IsMerge code two.state one.state crossing
    → IsMarked code two marked → IsMarked code one marked → IsChange true code two one crossing
change-merge code two one crossing marked merge marks next = (
  record {
    at = λ arc name off. sym (marks.at arc name) ∙ sym (hits-off code two.state one.state crossing marked arc merge off)
        ∙ next.at arc name;
  },
  sym (next.at (arc_at_slot code crossing 0) merge.first)
      ∙ hits-on code two.state one.state crossing marked (arc_at_slot code crossing 0) merge (inl refl)
      ∙ ap₂ (λ m n. m + n) (marks.at (arc_at_slot code crossing 0) merge.first) (marks.at (arc_at_slot code crossing 2) merge.third),
)

-- one mark more, at one of the slots 0 and 2, is on the one circle or on the other
pub record IsEnd (code : Code) (state crossing mark : ℕ) : Type 0 where
  pub off : (arc : ℕ) (marked : List ℕ) → IsOff code state crossing arc → hits code state (mark ∷ marked) arc ≡ hits code state marked arc
  pub sum : (marked : List ℕ) → hits code state (mark ∷ marked) (arc_at_slot code crossing 0)
      + hits code state (mark ∷ marked) (arc_at_slot code crossing 2)
      ≡ hits code state marked (arc_at_slot code crossing 0) + hits code state marked (arc_at_slot code crossing 2) + 1

pub hits-there : (code : Code) (state mark : ℕ) (marked : List ℕ) (arc : ℕ) → circle_in code state mark ≡ circle_in code state arc
    → hits code state (mark ∷ marked) arc ≡ 1 + hits code state marked arc
hits-there code state mark marked arc same = grind (arith, nat_tests, hits-cons, hits, eq-eqb, circle_in)

pub hits-elsewhere : (code : Code) (state mark : ℕ) (marked : List ℕ) (arc : ℕ) → circle_in code state mark ≢ circle_in code state arc
    → hits code state (mark ∷ marked) arc ≡ hits code state marked arc
hits-elsewhere code state mark marked arc other = grind (arith, nat_tests, hits-cons, hits, ne_eqb, circle_in)

pub IsEnd-first : (code : Code) (before after crossing : ℕ) → IsMerge code before after crossing
    → IsEnd code before crossing (arc_at_slot code crossing 0)
IsEnd-first code before after crossing merge = grind (arith, nat_tests, hits-elsewhere, hits-there)

pub IsEnd-third : (code : Code) (before after crossing : ℕ) → IsMerge code before after crossing
    → IsEnd code before crossing (arc_at_slot code crossing 2)
IsEnd-third code before after crossing merge = grind (arith, nat_tests, hits-elsewhere, hits-there)

-- a split with one mark more
change-split : (code : Code) (two one : Generator) (crossing mark : ℕ) (marked : List ℕ) → IsMerge code two.state one.state crossing
    → IsEnd code two.state crossing mark → IsMarked code one marked → IsMarked code two (mark ∷ marked)
    → IsChange false code one two crossing
change-split code two one crossing mark marked merge end marks next =
    let x = arc_at_slot code crossing 0 in
    let y = arc_at_slot code crossing 2 in (
      record {
        at = λ arc name off. sym (next.at arc name) ∙ end.off arc marked off
            ∙ sym (hits-off code two.state one.state crossing marked arc merge off) ∙ marks.at arc name;
      },
      omega (
        arith,
        next.at x merge.first,
        next.at y merge.third,
        end.sum marked,
        marks.at x merge.first,
        hits-on code two.state one.state crossing marked x merge (inl refl),
      ),
    )

marked-split : (code : Code) (two one : Generator) (crossing mark : ℕ) (marked : List ℕ) → IsMerge code two.state one.state crossing
    → IsEnd code two.state crossing mark → IsMarked code one marked → IsSameOff code two one crossing
    → hits code two.state (mark ∷ marked) (arc_at_slot code crossing 0) ≡ label_at code two crossing 0
    → hits code two.state (mark ∷ marked) (arc_at_slot code crossing 2) ≡ label_at code two crossing 2
    → IsMarked code two (mark ∷ marked)
marked-split code two one crossing mark marked merge end marks same at_x at_y =
    grind (arith, nat_tests, on_or_off, hits-circle, label_of-circle, hits-off)

-- so a split marks one arc more, that at slot 0 or that at slot 2
pub split-marked : (code : Code) (two one : Generator) (crossing : ℕ) (marked : List ℕ) → IsMerge code two.state one.state crossing
    → IsMarked code one marked → IsChange false code one two crossing
    → IsMarked code two (arc_at_slot code crossing 0 ∷ marked) ⊎ IsMarked code two (arc_at_slot code crossing 2 ∷ marked)
split-marked code two one crossing marked merge marks change =
    let x = arc_at_slot code crossing 0 in
    let y = arc_at_slot code crossing 2 in
    let before = two.state in
    let on_both = hits-on code before one.state crossing marked x merge (inl refl) in
    let apart = merge.join.apart in
    elim (risen (hits code before marked x) (hits code before marked y) (label_of code two x) (label_of code two y) (label_of code one x)
    (label_of-le code two x) (label_of-le code two y) (label_of-le code one x) (sym (marks.at x merge.first) ∙ on_both) change.1) [
      | inl first ↦
          inl (marked-split code two one crossing x marked merge (IsEnd-first code before one.state crossing merge) marks change.0
          (hits-there code before x marked x refl ∙ first.0) (hits-elsewhere code before x marked y apart ∙ first.1))
      | inr third ↦
          inr (marked-split code two one crossing y marked merge (IsEnd-third code before one.state crossing merge) marks change.0
          (hits-elsewhere code before y marked x (λ same. apart (sym same)) ∙ third.0) (hits-there code before y marked y refl ∙ third.1))
    ]
  where
    risen : (p q s t l : ℕ) → s ≤ 1 → t ≤ 1 → l ≤ 1 → l ≡ p + q → s + t ≡ l + 1
        → ((1 + p ≡ s) × (q ≡ t)) ⊎ ((p ≡ s) × (1 + q ≡ t))
    risen p q s t l s_small t_small l_small is sum = grind arith

-- only in one of these ways
not-both : (code : Code) (two : Generator) (after crossing : ℕ) (marked : List ℕ) → IsMerge code two.state after crossing
    → IsMarked code two (arc_at_slot code crossing 0 ∷ marked) → IsMarked code two (arc_at_slot code crossing 2 ∷ marked) → ⊥
not-both code two after crossing marked merge first third =
    let x = arc_at_slot code crossing 0 in
    let y = arc_at_slot code crossing 2 in
    omega (
      arith,
      first.at x merge.first,
      third.at x merge.first,
      hits-there code two.state x marked x refl,
      hits-elsewhere code two.state y marked x (λ same. merge.join.apart (sym same)),
    )

one_of_two : (f g h : Bool) → (f ≡ true → (g ≡ true) ⊎ (h ≡ true)) → (g ≡ true → f ≡ true) → (h ≡ true → f ≡ true)
    → (g ≡ true → h ≡ true → ⊥) → one_if f ≡ 0 + one_if g + one_if h
one_of_two f g h one from_g from_h not_both = grind arith

-- an edge leads to labels where its marks give them, in one way: 1 or 0 is the number of these ways
pub edge-marks : (merges : Bool) (code : Code) (tail head : Generator) (crossing : ℕ) (marked : List ℕ) (fits : Bool)
    → IsSwitch merges code tail.state head.state crossing → IsMarked code tail marked
    → Decides fits (IsChange merges code tail head crossing)
    → one_if fits ≡ sum_by (λ list. one_if (is_marked code head list)) (grown merges code crossing marked)
edge-marks true code tail head crossing marked fits merge marks decides =
    ap one_if (same_from_decides fits (is_marked code head marked) decides (
      λ passes. change-merge code tail head crossing marked merge marks ((is_marked-decides code head marked).0 passes),
      λ change. (is_marked-decides code head marked).1 (marked-merge code tail head crossing marked merge marks change),
    ))
    ∙ omega arith
edge-marks false code tail head crossing marked fits merge marks decides =
    let x = arc_at_slot code crossing 0 in
    let y = arc_at_slot code crossing 2 in
    let first = is_marked-decides code head (x ∷ marked) in
    let third = is_marked-decides code head (y ∷ marked) in
    one_of_two fits (is_marked code head (x ∷ marked)) (is_marked code head (y ∷ marked))
    (λ passes. elim (split-marked code head tail crossing marked merge marks (decides.0 passes)) [
      | inl is ↦ inl (first.1 is)
      | inr is ↦ inr (third.1 is)
    ])
    (λ passes. decides.1 (change-split code head tail crossing x marked merge
    (IsEnd-first code head.state tail.state crossing merge) marks (first.0 passes)))
    (λ passes. decides.1 (change-split code head tail crossing y marked merge
    (IsEnd-third code head.state tail.state crossing merge) marks (third.0 passes)))
    (λ passes too. not-both code head tail.state crossing marked merge (first.0 passes) (third.0 too))
