-- The tests of an edge coefficient say what a merge or a split does to labels.
--
-- The coefficient of the definition compares labels by lists of circles that the crossing touches, before and after. On a merge two circles
-- are touched before and one after (EdgeNames), so that the lists have two and one entries, and the tables of labels decide; on a split the
-- other way round. All circles that are not touched keep name and label.
use Rattle.std.proofs.Common.{◌≡◌, ◌≢◌, ℕ, ◌+◌, ◌≤◌, ◌∙◌, ◌⊎◌, inl, inr, List, [], ◌∷◌, map, sym, ap, ap₂, subst, arith, Bool, true, false, ◌&&◌, ◌||◌, IsTrue}
use Rattle.std.specs.Prelude.{nat_eq, min, max}
use Rattle.std.specs.Bool.{Decides}
use Rattle.std.specs.List.{Contains}
use Rattle.std.proofs.lemmas.Bool.{eqb-true, eq-eqb, or_cases, or_left, or_right, false_from_ne_true}
use Rattle.std.proofs.lemmas.Bool.Decides.{nat_tests, Decides-like}
use Rattle.std.proofs.lemmas.List.{get_or_default}
use Rattle.std.proofs.lemmas.List.Elements.{All-from_get_or}
use Rattle.std.proofs.lemmas.List.Sums.{AllPass-from_list_all, list_all-from_AllPass}
use Rattle.kh_types.specs.Acceptance.{accepted}
use Rattle.kh_types.specs.Classes.{merged}
use Rattle.kh_types.specs.Code.{Code}
use Rattle.kh_types.specs.Circles.{circle_names}
use Rattle.kh_types.specs.Differential.{label_of, is_touched, touched, is_merge, is_split, keeps_labels, changes_labels}
use Rattle.kh_types.specs.Generators.{Generator}
use Rattle.kh_types.proofs.JoinedClasses.{min-cases, min-fixed}
use Rattle.kh_types.proofs.Lists.{Contains-filter}
use Rattle.kh_types.specs.CircleNumbers.{IsName, number_of}
use Rattle.kh_types.specs.Edges.{arc_at_slot}
use Rattle.kh_types.proofs.CircleNumbers.{IsCircle, IsCircle-of, circle_names-number_of, number_of-below}
use Rattle.square_laws.specs.Squares.{circle_at_slot}
use Rattle.square_laws.proofs.Merges.{IsMerge, IsSwitch, circle_in}
use Rattle.square_laws.proofs.SquareKinds.{IsOn, circle-on}
use Rattle.square_laws.proofs.Marks.{IsOff, on_or_off}
use Rattle.square_laws.proofs.LabelNumbers.{IsName-name_at, circle-name_at, name_at}
use Rattle.square_laws.proofs.EdgeMarks.{IsChange, label_at, label_of-circle, label_of-le}

-- where a circle is touched it is among those that are
Contains-touched : (code : Code) (state crossing circle : ℕ) → IsCircle code state circle → is_touched code state crossing circle ≡ true
    → Contains (touched code state crossing) circle
Contains-touched code state crossing circle is touches =
    let names = circle_names code state in
    let k = number_of code state circle in
    let below = number_of-below code state circle is in
    Contains-filter (is_touched code state crossing) names circle touches
    (k, below, get_or_default names k circle 0 below ∙ circle_names-number_of code state circle is)

pub one_in : (x k : ℕ) → Contains (k ∷ []) x → x ≡ k
one_in x k has2 = grind (arith, nat_tests)

pub two_in : (x k g : ℕ) → Contains (k ∷ g ∷ []) x → (x ≡ k) ⊎ (x ≡ g)
two_in x k g has3 = grind (arith, nat_tests)

-- the circles that become one are touched, before and after
pub touched-on : (code : Code) (before crossing arc : ℕ) → IsOn code before crossing arc
    → is_touched code before crossing (circle_in code before arc) ≡ true
touched-on code before crossing arc on = grind (arith, nat_tests)

pub touched-on_after : (code : Code) (before after crossing arc : ℕ) → IsMerge code before after crossing → IsOn code before crossing arc
    → is_touched code after crossing (circle_in code after arc) ≡ true
touched-on_after code before after crossing arc merge on = grind (arith, nat_tests)

not_least : (p q c : ℕ) → c ≢ p → c ≢ q → c ≢ min p q
not_least p q c not_p not_q = grind arith

not_greatest : (p q c : ℕ) → c ≢ p → c ≢ q → c ≢ max p q
not_greatest p q c not_p not_q = grind arith

-- all others are not touched, and stay
pub touched-off : (code : Code) (before after crossing arc : ℕ) → IsTrue (accepted code) → IsMerge code before after crossing
    → IsName code arc → IsOff code before crossing arc → is_touched code before crossing (circle_in code before arc) ≡ false
touched-off code before after crossing arc is merge name off =
    let p = circle_at_slot code before crossing 0 in
    let q = circle_at_slot code before crossing 2 in
    let c = circle_in code before arc in
    false_from_ne_true (is_touched code before crossing c) (λ touches.
    elim (two_in c (min p q) (max p q) (subst (λ (xs : List ℕ). Contains xs c) merge.circles.touched_before
    (Contains-touched code before crossing c (IsCircle-of code before arc is name) touches))) [
      | inl least ↦ not_least p q c off.first off.third least
      | inr greatest ↦ not_greatest p q c off.first off.third greatest
    ])

circle-off : (code : Code) (before after crossing arc : ℕ) → IsMerge code before after crossing → IsOff code before crossing arc
    → circle_in code after arc ≡ circle_in code before arc
circle-off code before after crossing arc merge off = omega arith

pub touched-off_after : (code : Code) (before after crossing arc : ℕ) → IsTrue (accepted code) → IsMerge code before after crossing
    → IsName code arc → IsOff code before crossing arc → is_touched code after crossing (circle_in code after arc) ≡ false
touched-off_after code before after crossing arc is merge name off =
    let p = circle_at_slot code before crossing 0 in
    let q = circle_at_slot code before crossing 2 in
    let c = circle_in code after arc in
    false_from_ne_true (is_touched code after crossing c) (λ touches.
    not_least p q (circle_in code before arc) off.first off.third
    (sym (circle-off code before after crossing arc merge off)
    ∙ one_in c (min p q) (subst (λ (xs : List ℕ). Contains xs c) merge.circles.touched_after
    (Contains-touched code after crossing c (IsCircle-of code after arc is name) touches))))

-- the test of the labels that stay, where the circles touched are those on which arcs are `IsOn` in a state
pub record Keeps (code : Code) (tail head two : ℕ) (crossing : ℕ) : Type 0 where
  pub on : (arc : ℕ) → IsOn code two crossing arc → is_touched code tail crossing (circle_in code tail arc) ≡ true
  pub off : (arc : ℕ) → IsName code arc → IsOff code two crossing arc → is_touched code tail crossing (circle_in code tail arc) ≡ false
  pub together : (arc other : ℕ) → IsOff code two crossing arc → circle_in code tail arc ≡ circle_in code tail other
      → circle_in code head arc ≡ circle_in code head other

abbrev pub SameOff : Code → Generator → Generator → ℕ → ℕ → Type 0
SameOff code tail head two crossing =
    (arc : ℕ) → IsName code arc → IsOff code two crossing arc → label_of code tail arc ≡ label_of code head arc

pub keeps-decides : (code : Code) (tail head : Generator) (two crossing : ℕ) → IsTrue (accepted code)
    → Keeps code tail.state head.state two crossing
    → Decides (keeps_labels code tail head crossing) (SameOff code tail head two crossing)
keeps-decides code tail head two crossing is keeps =
    let names = circle_names code tail.state in
    let same = λ (c : ℕ). nat_eq (label_of code tail c) (label_of code head c) in
    let touches = λ (c : ℕ). is_touched code tail.state crossing c in (
      λ passes arc name off.
          let c = circle_in code tail.state arc in
          let circle = IsCircle-of code tail.state arc is name in
          let here : (touches c || same c) ≡ true =
          ap (λ x. touches x || same x) (sym (circle_names-number_of code tail.state c circle))
          ∙ AllPass-from_list_all (λ x. touches x || same x) names passes (number_of code tail.state c) 0
          (number_of-below code tail.state c circle) in
          elim (or_cases (touches c) (same c) here) [
            | inl touched_too ↦
                let so : true ≡ false = sym touched_too ∙ keeps.off arc name off in
                absurd (cc)
            | inr kept ↦
                label_of-circle code tail arc c (sym circle.own) ∙ eqb-true (label_of code tail c) (label_of code head c) kept
                ∙ sym (label_of-circle code head arc c (keeps.together arc c off (sym circle.own)))
          ],
      λ all.
          list_all-from_AllPass (λ x. touches x || same x) names
          (All-from_get_or (λ x. (touches x || same x) ≡ true) names 0
          (λ i below.
          let c = name_at code tail.state i in
          let own = circle-name_at code tail.state i below in
          elim (on_or_off code two crossing c) [
            | inl on ↦ or_left (touches c) (same c) (ap touches (sym own) ∙ keeps.on c on)
            | inr off ↦
                or_right (touches c) (same c) (eq-eqb (label_of code tail c) (label_of code head c)
                (all c (IsName-name_at code tail.state i below) off))
          ])),
    )

-- the tables, for labels 0 and 1
merge_table : (p q r : ℕ) → p ≤ 1 → q ≤ 1 → r ≤ 1
    → (is_merge (p ∷ q ∷ []) (r ∷ []) || is_split (p ∷ q ∷ []) (r ∷ [])) ≡ nat_eq r (p + q)
merge_table p q r p_small q_small r_small = grind (arith, nat_tests)

split_table : (p q r : ℕ) → p ≤ 1 → q ≤ 1 → r ≤ 1
    → (is_merge (p ∷ []) (q ∷ r ∷ []) || is_split (p ∷ []) (q ∷ r ∷ [])) ≡ nat_eq (q + r) (p + 1)
split_table p q r p_small q_small r_small = grind (arith, nat_tests)

-- the labels of the names of two circles that become one are those of the arcs at the slots 0 and 2
pub labels-two : (code : Code) (two : Generator) (after crossing : ℕ) → IsTrue (accepted code) → IsMerge code two.state after crossing
    → label_of code two (min (circle_at_slot code two.state crossing 0) (circle_at_slot code two.state crossing 2))
    + label_of code two (max (circle_at_slot code two.state crossing 0) (circle_at_slot code two.state crossing 2))
    ≡ label_at code two crossing 0 + label_at code two crossing 2
labels-two code two after crossing is merge =
    let x = arc_at_slot code crossing 0 in
    let y = arc_at_slot code crossing 2 in
    either_way (label_of code two) (circle_in code two.state x) (circle_in code two.state y)
    ∙ ap₂ (λ m n. m + n)
    (label_of-circle code two (circle_in code two.state x) x (IsCircle-of code two.state x is merge.first).own)
    (label_of-circle code two (circle_in code two.state y) y (IsCircle-of code two.state y is merge.third).own)
  where
    either_way : (f : ℕ → ℕ) (p q : ℕ) → f (min p q) + f (max p q) ≡ f p + f q
    either_way f p q = grind arith

pub label-one : (code : Code) (before crossing : ℕ) (one : Generator) → IsTrue (accepted code) → IsMerge code before one.state crossing
    → label_of code one (min (circle_at_slot code before crossing 0) (circle_at_slot code before crossing 2)) ≡ label_at code one crossing 0
label-one code before crossing one is merge =
    let x = arc_at_slot code crossing 0 in
    let y = arc_at_slot code crossing 2 in
    let p = circle_at_slot code before crossing 0 in
    let q = circle_at_slot code before crossing 2 in
    let own : circle_in code before (min p q) ≡ min p q =
    min-fixed (circle_in code before) p q (IsCircle-of code before x is merge.first).own (IsCircle-of code before y is merge.third).own in
    label_of-circle code one (min p q) x
    (circle-on code before one.state crossing (min p q) merge
    (elim (min-cases p q) [ inl first ↦ inl (own ∙ first) | inr third ↦ inr (own ∙ third) ]))

-- the test of the labels that change, by lists of touched circles
abbrev changes_lists : Code → Generator → Generator → List ℕ → List ℕ → Bool
changes_lists code tail head before after =
    is_merge (map (label_of code tail) before) (map (label_of code head) after)
    || is_split (map (label_of code tail) before) (map (label_of code head) after)

-- whether the labels fit along an edge at a crossing
abbrev pub fits : Code → Generator → Generator → ℕ → Bool
fits code tail head crossing = keeps_labels code tail head crossing && changes_labels code tail head crossing

-- they do where both tests say so
both-decide : (code : Code) (tail head : Generator) (two crossing m n : ℕ)
    → Decides (keeps_labels code tail head crossing) (SameOff code tail head two crossing)
    → changes_labels code tail head crossing ≡ nat_eq m n
    → Decides (fits code tail head crossing) (SameOff code tail head two crossing × (m ≡ n))
both-decide code tail head two crossing m n kept sum = grind (arith, nat_tests)

-- that is exactly where a merge, or a split, does so to labels
pub fits-decides : (merges : Bool) (code : Code) (tail head : Generator) (crossing : ℕ) → IsTrue (accepted code)
    → IsSwitch merges code tail.state head.state crossing
    → Decides (fits code tail head crossing) (IsChange merges code tail head crossing)
fits-decides true code tail head crossing is merge =
    let p = circle_at_slot code tail.state crossing 0 in
    let q = circle_at_slot code tail.state crossing 2 in
    let tail_of = label_of code tail in
    let head_of = label_of code head in
    let kept = keeps-decides code tail head tail.state crossing is (record {
      on = touched-on code tail.state crossing;
      off = λ arc. touched-off code tail.state head.state crossing arc is merge;
      together = λ arc other off same. merge.one arc ∙ ap (merged p q) same ∙ sym (merge.one other);
    }) in
    let sum = ap₂ (changes_lists code tail head) merge.circles.touched_before merge.circles.touched_after
    ∙ merge_table (tail_of (min p q)) (tail_of (max p q)) (head_of (min p q)) (label_of-le code tail (min p q))
    (label_of-le code tail (max p q)) (label_of-le code head (min p q))
    ∙ ap₂ nat_eq (label-one code tail.state crossing head is merge) (labels-two code tail head.state crossing is merge) in
    Decides-like (fits code tail head crossing) (λ both. (record { at = both.0 }, both.1)) (λ change. (change.0.at, change.1))
    (both-decide code tail head tail.state crossing (label_at code head crossing 0)
    (label_at code tail crossing 0 + label_at code tail crossing 2) kept sum)
fits-decides false code tail head crossing is merge =
    let p = circle_at_slot code head.state crossing 0 in
    let q = circle_at_slot code head.state crossing 2 in
    let tail_of = label_of code tail in
    let head_of = label_of code head in
    let kept = keeps-decides code tail head head.state crossing is (record {
      on = λ arc. touched-on_after code head.state tail.state crossing arc merge;
      off = λ arc. touched-off_after code head.state tail.state crossing arc is merge;
      together = λ arc other off same.
          still_together p q (circle_in code head.state arc) (circle_in code head.state other) off.first off.third
          (sym (merge.one arc) ∙ same ∙ merge.one other);
    }) in
    let sum = ap₂ (changes_lists code tail head) merge.circles.touched_after merge.circles.touched_before
    ∙ split_table (tail_of (min p q)) (head_of (min p q)) (head_of (max p q)) (label_of-le code tail (min p q))
    (label_of-le code head (min p q)) (label_of-le code head (max p q))
    ∙ ap₂ (λ m n. nat_eq m (n + 1)) (labels-two code head tail.state crossing is merge)
    (label-one code head.state crossing tail is merge) in
    Decides-like (fits code tail head crossing)
    (λ both. (record { at = λ arc name off. sym (both.0 arc name off) }, both.1))
    (λ change. (λ arc name off. sym (change.0.at arc name off), change.1))
    (both-decide code tail head head.state crossing (label_at code head crossing 0 + label_at code head crossing 2)
    (label_at code tail crossing 0 + 1) kept sum)
  where
    still_together : (p q c d : ℕ) → c ≢ p → c ≢ q → merged p q c ≡ merged p q d → c ≡ d
    still_together p q c d not_p not_q same = grind (arith, nat_tests)
