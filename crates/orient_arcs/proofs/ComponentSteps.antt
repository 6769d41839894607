-- One component more in the order of names.
--
-- The code of renumbering pushes one component after the other, and turns one of two names that are both over by beginning its walk with
-- the second. The specification makes all components and turns them at the end. One step of the one is one step of the other: a name that
-- is new adds its walk, turned or not (`order-turned`), any other adds nothing (`order-same`).
use Rattle.std.proofs.lemmas.Bool.Decides.{nat_tests}
use Rattle.std.proofs.Common.{◌≡◌, ◌≢◌, ℕ, zero, suc, inl, inr, ◌+◌, ◌*◌, ◌≤◌, ◌∙◌, List, [], ◌∷◌, ◌++◌, length, map, refl, sym, ap, subst, arith, Bool, true, false, not, ◌&&◌, ℤ, length-append}
use Rattle.std.specs.Prelude.{nat_eq, int_lt, if◌then◌else◌}
use Rattle.std.specs.List.{flat_map, fold, range_with_len, AllByRecursion}
use Rattle.std.proofs.lemmas.Bool.{cases_Bool, both_ways, and_parts}
use Rattle.std.proofs.lemmas.List.{length-map, append-nil}
use Rattle.std.proofs.lemmas.List.Sums.{fold-append}
use Rattle.std.proofs.lemmas.Grind.{flat_map-append}
use Rattle.kh_types.proofs.Ranges.{range_from_zero}
use Rattle.code_passes.specs.Passes.{Pass, is_over}
use Rattle.code_passes.specs.Parts.{Parts, ArePaired, passes_through}
use Rattle.orient_arcs.specs.Renumbered.{follows, label_entered, all_of, is_in, walk, with_component, turned_names}
use Rattle.orient_arcs.specs.Steps.{order_below, is_new, start_of}
use Rattle.orient_arcs.proofs.Members.{IsIn, length-among, is_in-true, true-is_in}
use Rattle.orient_arcs.proofs.AllComponents.{IsRound, AreSoFar, AreSoFar-fold}
use Rattle.orient_arcs.proofs.PairedPasses.{heads_of, length-heads, AreNext-passes}
use Rattle.orient_arcs.proofs.Labels.{IsIn-order, order-IsIn, AreDistinct-order}

module _ (next : ℕ → ℕ) where
  -- a walk round two names
  pub walk-two : (fuel a b : ℕ) → next a ≡ b → next b ≡ a → b ≢ a → walk next a (suc (suc fuel)) a ≡ a ∷ b ∷ []
  walk-two fuel a b is_b is_a differ = grind (arith, nat_tests)

  -- a component is turned by beginning its walk with its second name
  turned-walk : (label : ℕ → ℤ) (fuel name : ℕ) → IsRound next (walk next name (suc (suc fuel)) name)
      → (b1 b2 t : Bool) → nat_eq (next name) name ≡ b1 → nat_eq (next (next name)) name ≡ b2
      → ((is_over (label name) && is_over (label (next name))) && int_lt (label (next name)) (label name)) ≡ t
      → turned_names label (walk next name (suc (suc fuel)) name)
      ≡ walk next (if not b1 && (b2 && t) then next name else name) (suc (suc fuel))
      (if not b1 && (b2 && t) then next name else name)
  turned-walk label fuel name round b1 b2 t one two test = grind (arith, nat_tests)

module _ (parts : Parts) (paired : ArePaired parts) where
  abbrev passes : List Pass
  passes = passes_through parts

  abbrev below : ℕ → List (List ℕ)
  below k = fold (with_component passes) [] (range_with_len 0 k)

  so-far : (k : ℕ) → AreSoFar (follows passes) (map (λ (pass : Pass). pass.enters) passes) (0 + k) (below k)
  so-far k = grind (arith, nat_tests, AreSoFar-fold, AreNext-passes)

  below-more : (k : ℕ) → below (k + 1) ≡ with_component passes (below k) k
  below-more k = grind (arith, nat_tests, range_from_zero, fold-append)

  -- there is room for all names
  pub length-order_below : (k : ℕ) → length (order_below passes k) ≤ 2 * length parts.crossings
  length-order_below k =
      let are = so-far k in
      let few = length-among (order_below passes k) (heads_of parts paired)
      (AreDistinct-order (label_entered passes) (below k) are.distinct)
      (λ x is. are.named x (order-IsIn (label_entered passes) (below k) x is)) in
      omega (arith, few, length-heads parts paired)

  same-names : (k x : ℕ) → is_in (order_below passes k) x ≡ is_in (all_of (below k)) x
  same-names k x = elim (cases_Bool (is_in (all_of (below k)) x)) [
    | inl holds ↦
        is_in-true x (order_below passes k) (IsIn-order (label_entered passes) (below k) x (true-is_in x (all_of (below k)) holds)) ∙ sym holds
    | inr fails ↦ elim (cases_Bool (is_in (order_below passes k) x)) [
      | inl holds ↦ absurd
          (both_ways (is_in (all_of (below k)) x) fails
          (is_in-true x (all_of (below k)) (order-IsIn (label_entered passes) (below k) x (true-is_in x (order_below passes k) holds))))
      | inr none ↦ none ∙ sym fails
    ]
  ]

  is_new-is : (k : ℕ) → is_new passes (order_below passes k) k
      ≡ (is_in (map (λ (pass : Pass). pass.enters) passes) k && not (is_in (all_of (below k)) k))
  is_new-is k = ap (λ b. is_in (map (λ (pass : Pass). pass.enters) passes) k && not b) (same-names k k)

  pub order-same : (k : ℕ) → is_new passes (order_below passes k) k ≡ false → order_below passes k ≡ order_below passes (k + 1)
  order-same k old = grind (arith, nat_tests, below-more, is_new-is)

  pub order-turned : (k : ℕ) → is_new passes (order_below passes k) k ≡ true
      → order_below passes k ++ turned_names (label_entered passes) (walk (follows passes) k (length passes) k) ≡ order_below passes (k + 1)
  order-turned k new = grind (arith, nat_tests, below-more, is_new-is, flat_map-append, append-nil)

  pub order-more : (k : ℕ) → is_new passes (order_below passes k) k ≡ true
      → order_below passes k ++ walk (follows passes) (start_of passes k) (length passes) (start_of passes k)
      ≡ order_below passes (k + 1)
  order-more k new =
      let next = follows passes in
      let label = label_entered passes in
      let w = walk next k (length passes) k in
      let more : below (k + 1) ≡ below k ++ w ∷ [] =
      below-more k ∙ ap (λ b. if b then below k ++ w ∷ [] else below k) (sym (is_new-is k) ∙ new) in
      let rounds = (so-far (k + 1)).rounds in
      let round : IsRound next w = last-round (below k) w (subst (λ (cs : List (List ℕ)). AllByRecursion (IsRound next) cs) more rounds) in
      let stands = true-is_in k (heads_of parts paired)
      (and_parts (is_in (heads_of parts paired) k) (not (is_in (order_below passes k) k)) new).0 in
      let size = length-map passes (λ (pass : Pass). pass.enters) in
      let two : 2 ≤ length passes = omega (arith, size, length-heads parts paired, not_empty (heads_of parts paired) k stands) in
      let turn : turned_names label w ≡ walk next (start_of passes k) (length passes) (start_of passes k) =
      at-least_two (length passes) two round in
      ap (λ ys. order_below passes k ++ ys) (sym turn)
      ∙ sym (ap (λ cs. flat_map (turned_names label) cs) more ∙ flat_map-append (turned_names label) (below k) (w ∷ [])
      ∙ ap (λ ys. order_below passes k ++ ys) (append-nil (turned_names label w)))
    where
      last-round : (cs : List (List ℕ)) (w : List ℕ) → AllByRecursion (IsRound (follows (passes_through parts))) (cs ++ w ∷ [])
          → IsRound (follows (passes_through parts)) w
      last-round [] w all = all.0
      last-round (c ∷ cs) w all = last-round cs w all.1

      not_empty : (xs : List ℕ) (x : ℕ) → IsIn x xs → 1 ≤ length xs
      not_empty [] x none = absurd none
      not_empty (y ∷ ys) x is = omega arith

      at-least_two : (size : ℕ) → 2 ≤ size → IsRound (follows (passes_through parts)) (walk (follows (passes_through parts)) k size k)
          → turned_names (label_entered (passes_through parts)) (walk (follows (passes_through parts)) k size k)
          ≡ walk (follows (passes_through parts)) (start_of (passes_through parts) k) size (start_of (passes_through parts) k)
      at-least_two zero two round = absurd (omega (arith, two))
      at-least_two (suc zero) two round = absurd (omega (arith, two))
      at-least_two (suc (suc fuel)) two round = grind (arith, nat_tests, turned-walk)

-- the same as the code has it

abbrev StepMore : List Pass → List ℕ → List ℕ → ℕ → List ℕ → ℕ → Type 0
StepMore ps order held start after name =
    order ≡ order_below ps name → held ≡ order → is_new ps held name ≡ true → start ≡ start_of ps name
    → after ≡ order ++ walk (follows ps) start (length ps) start → after ≡ order_below ps (name + 1)

abbrev StepRoom : Parts → List Pass → List ℕ → List ℕ → ℕ → ℕ → Type 0
StepRoom parts ps order held start name =
    order ≡ order_below ps name → held ≡ order → is_new ps held name ≡ true → start ≡ start_of ps name
    → length order + length (walk (follows ps) start (length ps) start) ≤ 2 * length parts.crossings

abbrev StepSame : List Pass → List ℕ → List ℕ → ℕ → Type 0
StepSame ps order held name =
    order ≡ order_below ps name → held ≡ order → is_new ps held name ≡ false → order ≡ order_below ps (name + 1)

step_more_own : (parts : Parts) → ArePaired parts → (order held : List ℕ) (start : ℕ) (after : List ℕ) (name : ℕ)
    → StepMore (passes_through parts) order held start after name
step_more_own parts paired order held start after name = grind (arith, nat_tests, order-more)

pub step_more : (parts : Parts) → ArePaired parts → (ps : List Pass) → ps ≡ passes_through parts → (order held : List ℕ) (start : ℕ)
    (after : List ℕ) (name : ℕ) → StepMore ps order held start after name
step_more parts paired ps are order held start after name =
    subst (λ (qs : List Pass). StepMore qs order held start after name) (sym are)
    (step_more_own parts paired order held start after name)

pub step_room : (parts : Parts) → ArePaired parts → (ps : List Pass) → ps ≡ passes_through parts → (order held : List ℕ) (start name : ℕ)
    → StepRoom parts ps order held start name
step_room parts paired ps are order held start name ordered same new starts =
    let walked = walk (follows ps) start (length ps) start in
    let after = step_more parts paired ps are order held start (order ++ walked) name ordered same new starts refl in
    omega (
      arith,
      length-append order walked,
      ap length (after ∙ ap (λ qs. order_below qs (name + 1)) are),
      length-order_below parts paired (name + 1),
    )

pub step_same : (parts : Parts) → ArePaired parts → (ps : List Pass) → ps ≡ passes_through parts → (order held : List ℕ) (name : ℕ)
    → StepSame ps order held name
step_same parts paired ps are order held name = grind (arith, nat_tests, order-same)
