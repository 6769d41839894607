-- The labels behind an edge are its heads, and the coefficients along an edge. What an edge does gives the numbers of the two
-- circles that become one, forwards in a merge and backwards in a split. By these numbers the differential's test of two labels
-- is a rule for their bits, and the list of labels behind has just the numbers whose bits follow the rule: so labels fit along
-- the edge exactly where they are in the list. The list has labels of the circles behind the edge, ascending; they have as many
-- v- in a merge, and one more in a split. Hence the coefficient along an edge is its sign where the label is in the list and else
-- 0, and a coefficient other than 0 goes along an edge.
use Rattle.std.proofs.lemmas.Bool.Decides.{nat_tests}
use Rattle.std.proofs.Common.{◌≡◌, ◌≢◌, ℕ, ◌+◌, ◌^◌, ◌<◌, ◌∙◌, List, get_or, refl, sym, ap, subst, arith, All, Bool, true, false, cond, IsTrue}
use Rattle.std.specs.Prelude.{nat_eq}
use Rattle.std.specs.Bool.{Decides}
use Rattle.std.specs.List.{Contains, list_any}
use Rattle.std.specs.List.Sorted.{IsStrictlyIncreasing}
use Rattle.std.proofs.lemmas.Bool.{eqb-true, eq-eqb}
use Rattle.std.proofs.lemmas.Bool.Decides.{same_from_decides}
use Rattle.std.proofs.lemmas.List.Elements.{All-contains, All-contains_itself}
use Rattle.std.proofs.lemmas.List.Folds.{list_any_at}
use Rattle.std.proofs.lemmas.Map.Views.{Contains-from_any}
use Rattle.kh_types.specs.Acceptance.{accepted}
use Rattle.kh_types.specs.Bits.{bit, ones}
use Rattle.kh_types.specs.Code.{Code, IsCrossing, place_of}
use Rattle.kh_types.specs.Circles.{circle_count}
use Rattle.kh_types.specs.Differential.{coefficient, edge_sign}
use Rattle.kh_types.specs.Generators.{Generator, generator_of}
use Rattle.circle_smoothing.specs.Edges.{AreRenumbered, HaveMerged, IsEdge}
use Rattle.kh_types.specs.Edges.{state_behind}
use Rattle.circle_smoothing.specs.declared.change.Edge.{Edge}
use Rattle.circle_smoothing.specs.declared.change.Edge.TheVariants.{Merge, Split}
use Rattle.circle_smoothing.proofs.EdgeNumbers.{renumbers}
use Rattle.cube_signs.specs.Heads.{labels_behind, merged_labels, minuses_gained, split_labels}
use Rattle.square_laws.proofs.Merges.{IsSwitch, switch-edge}
use Rattle.kh_types.proofs.ListSums.{sum_by-some}
use Rattle.square_laws.proofs.MarkedLabels.{labels-lower}
use Rattle.square_laws.proofs.TouchedCircles.{fits, fits-decides}
use Rattle.square_laws.proofs.Pairs.{edge_or_zero, coefficient-one}
use Rattle.cube_signs.proofs.HeadBits.{Contains-merged, Contains-parted, IsMerged-contains, IsParted-contains, increasing-merged, increasing-split}
use Rattle.cube_signs.proofs.HeadLabels.{AreNumbered, fits-merge, fits-split, greater-below}

-- the circles of an edge are numbered by what it does
abbrev IsNumbered : Code → ℕ → ℕ → Edge → Type 0
IsNumbered code state crossing (Merge a b to) = AreNumbered code state (state_behind state crossing) crossing a b
IsNumbered code state crossing (Split from a b) = AreNumbered code (state_behind state crossing) state crossing a b

numbered-switch : (merges : Bool) (code : Code) (before after crossing a b to : ℕ) → IsTrue (accepted code)
    → HaveMerged code before after crossing a b to → AreRenumbered code before after a b → IsSwitch merges code before after crossing
    → AreNumbered code before after crossing a b
numbered-switch merges code before after crossing a b to is does moved merge = grind (arith, nat_tests)

numbered-back : (merges : Bool) (code : Code) (before after crossing a b to : ℕ) → IsTrue (accepted code)
    → HaveMerged code after before crossing a b to → AreRenumbered code after before a b → IsSwitch merges code before after crossing
    → AreNumbered code after before crossing a b
numbered-back merges code before after crossing a b to is does moved merge = grind (arith, nat_tests)

numbered-edge : (code : Code) (state crossing : ℕ) (change : Edge) → IsTrue (accepted code) → IsCrossing code.crossings crossing
    → bit state (place_of crossing) ≡ 0 → IsEdge code state crossing change → IsNumbered code state crossing change
numbered-edge code state crossing (Merge a b to) is is_crossing zero_there does =
    let edge = switch-edge code state crossing is is_crossing zero_there in
    let moved = renumbers code state crossing (Merge a b to) is is_crossing zero_there does in
    numbered-switch edge.0 code state (state_behind state crossing) crossing a b to is does moved.1 edge.1
numbered-edge code state crossing (Split from a b) is is_crossing zero_there does =
    let edge = switch-edge code state crossing is is_crossing zero_there in
    let moved = renumbers code state crossing (Split from a b) is is_crossing zero_there does in
    numbered-back edge.0 code state (state_behind state crossing) crossing a b from is does moved.1 edge.1

-- labels fit along an edge exactly where they are among those behind it
pub heads : (code : Code) (state crossing : ℕ) (change : Edge) (label head_label : ℕ) → IsTrue (accepted code)
    → IsCrossing code.crossings crossing → bit state (place_of crossing) ≡ 0 → IsEdge code state crossing change
    → label < 2 ^ circle_count code state → head_label < 2 ^ circle_count code (state_behind state crossing)
    → Decides (fits code (generator_of state label) (generator_of (state_behind state crossing) head_label) crossing)
    (Contains (labels_behind change label) head_label)
heads code state crossing (Merge a b to) label head_label is is_crossing zero_there does small head_small =
    let behind = state_behind state crossing in
    let size = circle_count code behind in
    let are = numbered-edge code state crossing (Merge a b to) is is_crossing zero_there does in
    let wide = subst (λ (n : ℕ). label < 2 ^ n) are.merge.circles.count small in
    let within = greater-below code state behind crossing a b are in
    let decides = fits-merge code (generator_of state label) (generator_of behind head_label) crossing a b are head_small in (
      λ passes. Contains-merged size a b label head_label are.order within wide (decides.0 passes),
      λ has. decides.1 (IsMerged-contains size a b label head_label are.order within wide has),
    )
heads code state crossing (Split from a b) label head_label is is_crossing zero_there does small head_small =
    let behind = state_behind state crossing in
    let size = circle_count code state in
    let are = numbered-edge code state crossing (Split from a b) is is_crossing zero_there does in
    let wide = subst (λ (n : ℕ). head_label < 2 ^ n) are.merge.circles.count head_small in
    let within = greater-below code behind state crossing a b are in
    let decides = fits-split code (generator_of state label) (generator_of behind head_label) crossing a b are wide in (
      λ passes. Contains-parted size a b label head_label are.order within small (decides.0 passes),
      λ has. decides.1 (IsParted-contains size a b label head_label are.order within small has),
    )

-- those are labels of the circles behind it, ascending
pub labels_behind-below : (code : Code) (state crossing : ℕ) (change : Edge) (label : ℕ) → IsTrue (accepted code)
    → IsCrossing code.crossings crossing → bit state (place_of crossing) ≡ 0 → IsEdge code state crossing change
    → label < 2 ^ circle_count code state
    → All (λ behind. behind < 2 ^ circle_count code (state_behind state crossing)) (labels_behind change label)
labels_behind-below code state crossing (Merge a b to) label is is_crossing zero_there does small k default inside =
    let behind = state_behind state crossing in
    let list = merged_labels a b label in
    let are = numbered-edge code state crossing (Merge a b to) is is_crossing zero_there does in
    (IsMerged-contains (circle_count code behind) a b label (get_or list k default) are.order
    (greater-below code state behind crossing a b are)
    (subst (λ (n : ℕ). label < 2 ^ n) are.merge.circles.count small) (All-contains_itself list k default inside)).small
labels_behind-below code state crossing (Split from a b) label is is_crossing zero_there does small k default inside =
    let behind = state_behind state crossing in
    let list = split_labels a b label in
    let are = numbered-edge code state crossing (Split from a b) is is_crossing zero_there does in
    subst (λ (n : ℕ). get_or list k default < 2 ^ n) (sym are.merge.circles.count)
    (IsParted-contains (circle_count code state) a b label (get_or list k default) are.order
    (greater-below code behind state crossing a b are) small (All-contains_itself list k default inside)).small

pub labels_behind-ascend : (code : Code) (state crossing : ℕ) (change : Edge) (label : ℕ) → IsEdge code state crossing change
    → IsStrictlyIncreasing (labels_behind change label)
labels_behind-ascend code state crossing change label does = grind (arith, nat_tests, increasing-merged, increasing-split)

-- with as many labels v-, or one more

minuses-fit : (code : Code) (state crossing : ℕ) (change : Edge) (label head_label : ℕ) → IsTrue (accepted code)
    → IsCrossing code.crossings crossing → bit state (place_of crossing) ≡ 0 → IsEdge code state crossing change
    → fits code (generator_of state label) (generator_of (state_behind state crossing) head_label) crossing ≡ true
    → ones (circle_count code (state_behind state crossing)) head_label ≡ ones (circle_count code state) label + minuses_gained change
minuses-fit code state crossing (Merge a b to) label head_label is is_crossing zero_there does fit =
    let tail = generator_of state label in
    let head = generator_of (state_behind state crossing) head_label in
    let merge = (numbered-edge code state crossing (Merge a b to) is is_crossing zero_there does).merge in
    let lower = labels-lower true code tail head crossing is merge ((fits-decides true code tail head crossing is merge).0 fit) in
    omega (arith, lower, merge.circles.count)
minuses-fit code state crossing (Split from a b) label head_label is is_crossing zero_there does fit =
    let tail = generator_of state label in
    let head = generator_of (state_behind state crossing) head_label in
    let merge = (numbered-edge code state crossing (Split from a b) is is_crossing zero_there does).merge in
    let lower = labels-lower false code tail head crossing is merge ((fits-decides false code tail head crossing is merge).0 fit) in
    omega (arith, lower, merge.circles.count)

pub minuses-behind : (code : Code) (state crossing : ℕ) (change : Edge) (label head_label : ℕ) → IsTrue (accepted code)
    → IsCrossing code.crossings crossing → bit state (place_of crossing) ≡ 0 → IsEdge code state crossing change
    → label < 2 ^ circle_count code state → Contains (labels_behind change label) head_label
    → ones (circle_count code (state_behind state crossing)) head_label ≡ ones (circle_count code state) label + minuses_gained change
minuses-behind code state crossing change label head_label is is_crossing zero_there does small has =
    let head_small = All-contains (λ (h : ℕ). h < 2 ^ circle_count code (state_behind state crossing)) (labels_behind change label)
    head_label (labels_behind-below code state crossing change label is is_crossing zero_there does small) has in
    minuses-fit code state crossing change label head_label is is_crossing zero_there does
    ((heads code state crossing change label head_label is is_crossing zero_there does small head_small).1 has)

-- the coefficients along an edge, which is one crossing's

pub list_any-decides : (xs : List ℕ) (x : ℕ) → Decides (list_any (nat_eq x) xs) (Contains xs x)
list_any-decides xs x = (
  Contains-from_any eqb-true x xs,
  λ has. list_any_at (nat_eq x) xs has.0 x has.1 (eq-eqb x (get_or xs has.0 x) (sym has.2)),
)

pub coefficient-along : (p : ℕ) (code : Code) (state crossing : ℕ) (change : Edge) (label head_label : ℕ) → IsTrue (accepted code)
    → IsCrossing code.crossings crossing → bit state (place_of crossing) ≡ 0 → IsEdge code state crossing change
    → label < 2 ^ circle_count code state → head_label < 2 ^ circle_count code (state_behind state crossing)
    → coefficient p code (generator_of state label) (generator_of (state_behind state crossing) head_label)
    ≡ cond (list_any (nat_eq head_label) (labels_behind change label)) (edge_sign p state crossing) 0
coefficient-along p code state crossing change label head_label is is_crossing zero_there does small head_small =
    let tail = generator_of state label in
    let head = generator_of (state_behind state crossing) head_label in
    let decides = heads code state crossing change label head_label is is_crossing zero_there does small head_small in
    let listed = list_any-decides (labels_behind change label) head_label in
    coefficient-one p code tail head crossing is_crossing (record { zero_there = zero_there; behind = refl })
    ∙ ap (λ b. cond b (edge_sign p state crossing) 0)
    (same_from_decides (fits code tail head crossing) (list_any (nat_eq head_label) (labels_behind change label)) decides listed)

-- a coefficient other than 0 goes along one

pub coefficient-elsewhere : (p : ℕ) (code : Code) (tail head : Generator) → coefficient p code tail head ≢ 0
    → (crossing : ℕ) × IsCrossing code.crossings crossing × (bit tail.state (place_of crossing) ≡ 0)
    × (head.state ≡ state_behind tail.state crossing)
coefficient-elsewhere p code tail head some = grind (arith, nat_tests, sum_by-some, edge_or_zero)
