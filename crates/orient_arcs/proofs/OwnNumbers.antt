-- A code's own numbers stay, where it is directed and has no single arcs: to renumber its parts gives back the code. First for
-- any parts over its arcs in which each walk from the least arc of a component is that of the component's numbers: the order of
-- all arcs is put together component by component, so it is 1, 2, 3 and so on, and the new number of an arc is its own. Then for
-- the code's own parts: a pass goes from an arc to the next and has the arc's label, so the arc that follows is the next one, and
-- a walk goes over a component in the order of the numbers. No component of two arcs is turned: its labels stand in the right
-- order already, and no two arcs have one label. So each slot of each crossing keeps its number.
use Rattle.std.proofs.Common.{◌≡◌, ℕ, zero, suc, inl, inr, ◌+◌, ◌-◌, ◌*◌, ◌<◌, ◌≤◌, ◌∙◌, List, [], ◌∷◌, ◌++◌, length, map, get_or, refl, sym, ap, ap₂, subst, arith, Bool, true, false, ℤ, pos}
use Rattle.std.specs.Prelude.{nat_eq, if◌then◌else◌, slice_index_or, MatchBool}
use Rattle.std.specs.List.{position_or_len, range_with_len, AllByRecursion}
use Rattle.std.proofs.lemmas.Bool.{cases_eq}
use Rattle.std.proofs.lemmas.List.FromFn.{length-range_with_len, get_or-range_with_len}
use Rattle.kh_types.specs.Code.{Code, arc_in, slots_of, IsArc, IsCrossing}
use Rattle.kh_types.specs.Components.{next}
use Rattle.kh_types.specs.Directions.{is_positive, HasNoSingleArcs, IsPass}
use Rattle.kh_types.specs.Accepted.{IsDirected}
use Rattle.kh_types.proofs.Heads.{IsPass-under, IsPass-over}
use Rattle.kh_types.proofs.Ranges.{range-append}
use Rattle.code_passes.specs.Passes as gauss
use Rattle.code_passes.specs.Passes.{Pass}
use Rattle.code_passes.specs.ComponentLabels as printing
use Rattle.code_passes.specs.ComponentLabels.{label_at, component_labels}
use Rattle.code_passes.proofs.ArcLabels.{IsOriented}
use Rattle.code_passes.proofs.CutArcs.{IsFirst, size, end-within}
use Rattle.code_passes.proofs.TwoArcComponents.{turned_labels-component}
use Rattle.code_passes.specs.Parts.{Parts, ArePaired, parts_of, passes_through, passes_at, slots_in, is_positive_at, under_pass, over_pass}
use Rattle.orient_arcs.specs.Renumbered.{follows, label_entered, walk, turned_names, order_of, number_in, renamed_crossing, renumber}
use Rattle.orient_arcs.proofs.Members.{IsIn, position-get, AreDistinct}
use Rattle.orient_arcs.proofs.PairedPasses.{heads_of, entering-holds, entering-enters, label-once, in-counted, counted-in, All-flat_map_range}
use Rattle.orient_arcs.proofs.Labels.{turned-cases, turned-labels}
use Rattle.orient_arcs.proofs.PairedCodes.{ArePaired-directed, positive-is, some-head, head-arc}
use Rattle.orient_arcs.proofs.Bridge.{distinct-order}
use Rattle.orient_arcs.proofs.ArcWalks.{walk-arcs, walk-first}
use Rattle.orient_arcs.proofs.Blocks.{order-by_blocks}

-- numbers in a range
pub in-range : (a n x : ℕ) → a ≤ x → x < a + n → IsIn x (range_with_len a n)
in-range a zero x from below = absurd (omega (arith, from, below))
in-range a (suc n) x from below = elim (cases_eq x a) [
  | inl same ↦ inl same
  | inr other ↦ inr (in-range (a + 1) n x (omega (arith, from, other)) (omega (arith, below)))
]

pub range-in : (a n x : ℕ) → IsIn x (range_with_len a n) → (a ≤ x) × (x < a + n)
range-in a zero x is = absurd is
range-in a (suc n) x (inl same) = (omega (arith, same), omega (arith, same))
range-in a (suc n) x (inr later) = let is = range-in (a + 1) n x later in (omega (arith, is.0), omega (arith, is.1))

-- the order of parts over the arcs of a code, in which each walk from a least arc is that of the numbers of its component, is that of the
-- numbers
module _ (code : Code) (directed : IsDirected code.crossings) (parts : Parts) (paired : ArePaired parts)
    (heads : (x : ℕ) → IsArc code.crossings x → IsIn x (heads_of parts paired))
    (arcs : (x : ℕ) → IsIn x (heads_of parts paired) → IsArc code.crossings x)
    (nexts : (x : ℕ) → IsArc code.crossings x → follows (passes_through parts) x ≡ next code.crossings x)
    (same_size : length parts.crossings ≡ length code.crossings)
    (stays : (first : ℕ) → IsFirst code.crossings first
    → turned_names (label_entered (passes_through parts)) (range_with_len first (size code.crossings first))
    ≡ range_with_len first (size code.crossings first)) where
  kept-order : order_of (passes_through parts) ≡ range_with_len 1 (2 * length code.crossings)
  kept-order =
      order-by_blocks code directed parts paired heads arcs (λ first. range_with_len first (size code.crossings first))
      (walk-first code directed parts paired same_size nexts) (λ last front. front ≡ range_with_len 1 last) refl
      (λ last front is x there.
      let within = range-in 1 last x (subst (λ (xs : List ℕ). IsIn x xs) is there) in omega (arith, within.1))
      (λ last front is x x_is within.
      subst (λ (xs : List ℕ). IsIn x xs) (sym is) (in-range 1 last x x_is.positive (omega (arith, within))))
      (λ last front first is.
      let turned : last + 1 ≡ 1 + last = omega arith in
      ap₂ (λ xs ys. xs ++ ys) is
      (stays (last + 1) first ∙ ap (λ x. range_with_len x (size code.crossings (last + 1))) turned)
      ∙ sym (range-append 1 last (size code.crossings (last + 1))))

  pub kept-number : (x : ℕ) → IsArc code.crossings x → number_in (order_of (passes_through parts)) x ≡ x
  kept-number x is =
      let n = 2 * length code.crossings in
      let k = x - 1 in
      let at : get_or (range_with_len 1 n) k 0 ≡ x =
      get_or-range_with_len 1 n k 0 (omega (arith, is.positive, is.within)) ∙ omega (arith, is.positive) in
      let distinct : AreDistinct (range_with_len 1 n) =
      subst (λ (xs : List ℕ). AreDistinct xs) kept-order (distinct-order parts paired) in
      let place = position-get (range_with_len 1 n) k distinct
      (omega (arith, length-range_with_len 1 n, is.positive, is.within)) in
      ap (λ os. number_in os x) kept-order
      ∙ ap (λ p. p + 1) (ap (λ z. position_or_len (nat_eq z) (range_with_len 1 n)) (sym at) ∙ place) ∙ omega (arith, is.positive)

module _ (code : Code) (directed : IsDirected code.crossings) (moves : HasNoSingleArcs code.crossings) where
  abbrev cs : List (List ℕ)
  cs = code.crossings

  abbrev parts : Parts
  parts = parts_of code

  abbrev passes : List Pass
  passes = passes_through parts

  oriented : IsOriented cs
  oriented = record { directed = directed; moves = moves }

  pub paired : ArePaired parts
  paired = ArePaired-directed code directed moves

  -- a pass goes from an arc to the next, and its label is that of the arc
  IsOwn : Pass → Type 0
  IsOwn pass = (pass.leaves ≡ next cs pass.enters) × (pass.label ≡ printing.entering_label cs pass.enters)

  own-passes : AllByRecursion IsOwn passes
  unfolding IsOwn
  own-passes =
      All-flat_map_range IsOwn (passes_at parts) 0 (length cs)
      (λ place from below.
      let within : place < length cs = omega (arith, below) in
      let is : IsCrossing cs (place + 1) = record { positive = omega arith; within = omega (arith, within) } in
      let e : place + 1 - 1 ≡ place = omega arith in
      let under = IsPass-under cs directed moves (place + 1) is in
      let over = IsPass-over cs directed moves (place + 1) is in
      subst (λ (k : ℕ). AllByRecursion IsOwn
      (under_pass (slots_in cs k) place ∷ over_pass (slots_in cs k) (is_positive_at parts.positive place) place ∷ [])) e (
        (under.follows, sym (ap label_at under.head)),
        (by (is_positive cs (place + 1)) (is_positive_at parts.positive place) (positive-is code directed moves place within) place over, tt),
      ))
    where
      by : (b c : Bool) → c ≡ b → (place : ℕ)
          → MatchBool b (IsPass code.crossings (place + 1) 3 1) (IsPass code.crossings (place + 1) 1 3)
          → (arc_in (slots_of code.crossings (place + 1)) (if c then 1 else 3)
          ≡ next code.crossings (arc_in (slots_of code.crossings (place + 1)) (if c then 3 else 1)))
          × (pos (place + 1) ≡ printing.entering_label code.crossings (arc_in (slots_of code.crossings (place + 1)) (if c then 3 else 1)))
      by true true same place pass = (pass.follows, sym (ap label_at pass.head))
      by false false same place pass = (pass.follows, sym (ap label_at pass.head))
      by true false same place pass = absurd (cc)
      by false true same place pass = absurd (cc)

  -- the heads are the arcs
  pub arc-head : (x : ℕ) → IsArc cs x → IsIn x (heads_of parts paired)
  arc-head x is = in-counted (λ (pass : Pass). pass.enters) passes x (some-head code directed moves x is)

  own-arc : (x : ℕ) → IsIn x (heads_of parts paired) → IsArc cs x
  own-arc x is = head-arc code directed moves x (counted-in (λ (pass : Pass). pass.enters) passes x is)

  pub follows-next : (x : ℕ) → IsArc cs x → follows passes x ≡ next cs x
  unfolding IsOwn
  follows-next x is =
      (entering-holds parts paired IsOwn x own-passes (arc-head x is)).0
      ∙ ap (next cs) (entering-enters parts paired x (arc-head x is))

  pub label-own : (x : ℕ) → IsArc cs x → label_entered passes x ≡ printing.entering_label cs x
  unfolding IsOwn
  label-own x is =
      (entering-holds parts paired IsOwn x own-passes (arc-head x is)).1
      ∙ ap (printing.entering_label cs) (entering-enters parts paired x (arc-head x is))

  -- a walk from a first arc goes over the arcs of its component
  pub walk-range : (first : ℕ) → IsFirst cs first → (fuel i : ℕ) → i < size cs first → size cs first ≤ fuel + i
      → walk (follows passes) first fuel (first + i) ≡ range_with_len (first + i) (size cs first - i)
  walk-range = walk-arcs cs directed (follows passes) follows-next

  -- which is not turned
  pub turned-own : (first : ℕ) → IsFirst cs first
      → turned_names (label_entered passes) (range_with_len first (size cs first)) ≡ range_with_len first (size cs first)
  turned-own first is =
      let names = range_with_len first (size cs first) in
      let label = label_entered passes in
      let end = end-within cs directed first is in
      let arcs_in : (x : ℕ) → IsIn x names → IsArc cs x =
      λ x here. let r = range-in first (size cs first) x here in
      record { positive = omega (arith, r.0, is.is_arc.positive); within = omega (arith, r.1, end) } in
      let labels : map label names ≡ component_labels cs first =
      map-alike label (printing.entering_label cs) names (λ x here. label-own x (arcs_in x here)) in
      let same : map label (turned_names label names) ≡ map label names =
      sym (turned-labels label names) ∙ ap gauss.turned_labels labels ∙ turned_labels-component cs first oriented is ∙ sym labels in
      elim (turned-cases label names) [
        | inl stays ↦ stays
        | inr two ↦
            let a = two.0 in
            let b = two.1 in
            let heads : label b ≡ label a =
            ap (λ ls. get_or ls 0 (pos 0)) (sym (ap (map label) two.3) ∙ same ∙ ap (map label) two.2) in
            let a_in : IsIn a names = subst (λ (xs : List ℕ). IsIn a xs) (sym two.2) (inl refl) in
            let b_in : IsIn b names = subst (λ (xs : List ℕ). IsIn b xs) (sym two.2) (inr (inl refl)) in
            let one = label-once parts paired b a (arc-head b (arcs_in b b_in)) (arc-head a (arcs_in a a_in)) heads in
            two.3 ∙ ap₂ (λ x y. x ∷ y ∷ []) one (sym one) ∙ sym two.2
      ]
    where
      map-alike : (f g : ℕ → ℤ) (xs : List ℕ) → ((x : ℕ) → IsIn x xs → f x ≡ g x) → map f xs ≡ map g xs
      map-alike f g [] each = refl
      map-alike f g (x ∷ xs) each = ap₂ (λ y ys. y ∷ ys) (each x (inl refl)) (map-alike f g xs (λ z z_in. each z (inr z_in)))

  pub own-number : (x : ℕ) → IsArc cs x → number_in (order_of passes) x ≡ x
  own-number = kept-number code directed parts paired arc-head own-arc follows-next refl turned-own

  pub own-renumbered : AllByRecursion (λ (slots : List ℕ). length slots ≡ 4) cs → renumber parts ≡ code
  own-renumbered four =
      let made : List (List ℕ) → Code = λ xs. record { crossings = xs; loops = code.loops } in
      ap made
      (stay (number_in (order_of passes)) cs 0 four
      (λ k slot below slot_below.
      let e : k + 1 - 1 ≡ k = omega arith in
      subst (λ (j : ℕ). number_in (order_of passes) (arc_in (slots_in cs j) slot) ≡ arc_in (slots_in cs j) slot) e
      (own-number (arc_in (slots_in cs (k + 1 - 1)) slot)
      (directed.slots (record { crossing = k + 1; slot = slot })
      (record { crossing = record { positive = omega arith; within = omega (arith, below) }; slot = slot_below })))))
    where
      quad : (number : ℕ → ℕ) (slots : List ℕ) → length slots ≡ 4
          → ((slot : ℕ) → slot < 4 → number (arc_in slots slot) ≡ arc_in slots slot) → renamed_crossing number slots ≡ slots
      quad number [] size each = absurd (omega (arith, size))
      quad number (i ∷ []) size each = absurd (omega (arith, size))
      quad number (i ∷ j ∷ []) size each = absurd (omega (arith, size))
      quad number (i ∷ j ∷ k ∷ []) size each = absurd (omega (arith, size))
      quad number (i ∷ j ∷ k ∷ l ∷ []) size each =
          ap₂ (λ x y. x ∷ y ∷ number k ∷ number l ∷ []) (each 0 (omega arith)) (each 1 (omega arith))
          ∙ ap₂ (λ x y. i ∷ j ∷ x ∷ y ∷ []) (each 2 (omega arith)) (each 3 (omega arith))
      quad number (i ∷ j ∷ k ∷ l ∷ m ∷ more) size each = absurd (omega (arith, size))

      stay : (number : ℕ → ℕ) (xs : List (List ℕ)) (a : ℕ) → AllByRecursion (λ (slots : List ℕ). length slots ≡ 4) xs
          → ((k slot : ℕ) → k < length xs → slot < 4
          → number (arc_in (slice_index_or xs k []) slot) ≡ arc_in (slice_index_or xs k []) slot)
          → map (renamed_crossing number) xs ≡ xs
      stay number [] a four each = refl
      stay number (x ∷ xs) a four each =
          ap₂ (λ y ys. y ∷ ys) (quad number x four.0 (λ slot below. each 0 slot (omega arith) below))
          (stay number xs a four.1 (λ k slot below slot_below. each (suc k) slot (omega (arith, below)) slot_below))
