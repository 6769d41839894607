-- What the body of components and loops lists.
use Rattle.std.proofs.Common.{◌≡◌, ◌≢◌, ◌⊎◌, inl, inr, ℕ, zero, suc, ◌+◌, ◌∙◌, ℤ, List, [], ◌∷◌, ◌++◌, length, refl, ap, arith, Bool, true, false, cond, ◌&&◌}
use Rattle.std.specs.Prelude.{nat_eq, replicate}
use Rattle.std.specs.List.{AllByRecursion, count_by, flat_map}
use Rattle.std.proofs.lemmas.Bool.Decides.{nat_tests}
use Rattle.std.proofs.lemmas.Grind.{flat_map-append}
use Rattle.std.proofs.lemmas.List.{append-nil}
use Rattle.std.proofs.lemmas.List.Folds.{sum_by-replicate}
use Rattle.std.proofs.lemmas.List.Sums.{sum_by-append, sum_by-cons}
use Rattle.kh_types.proofs.Lists.{AllByRecursion-append}
use Rattle.gauss_code.specs.Listings.{Body, groups_of, is_loop_group, labels_of, loop_group_count}
use Rattle.gauss_code.specs.Printing.{body_of, body_of_groups}
use Rattle.gauss_code.proofs.PrintedTexts.{AreSmall, HasSmallNumbers, IsSmall}

-- a component has a label
pub record HasLabel (labels : List ℤ) : Type 0 where
  pub some : is_loop_group labels ≡ false

-- where there is not one component without a loop, all are groups
body_of-several : (components : List (List ℤ)) (loops : ℕ) → (length components ≢ 1) ⊎ (loops ≢ 0)
    → body_of components loops ≡ body_of_groups (components ++ replicate loops [])
body_of-several components loops several =
    ap (λ (b : Bool). cond b (Body.Bare (flat_map (λ labels. labels) components)) (body_of_groups (components ++ replicate loops [])))
    (fails (length components) loops several)
  where
    fails : (x y : ℕ) → (x ≢ 1) ⊎ (y ≢ 0) → (nat_eq x 1 && nat_eq y 0) ≡ false
    fails x y other = grind (arith, nat_tests)

groups_of-groups : (groups : List (List ℤ)) → groups_of (body_of_groups groups) ≡ groups
groups_of-groups [] = refl
groups_of-groups (group ∷ groups) = refl

groups_of-bare : (labels : List ℤ) → HasLabel labels → groups_of (Body.Bare labels) ≡ labels ∷ []
groups_of-bare [] is = let some = is.some in absurd (cc)
groups_of-bare (label ∷ labels) is = refl

-- the components and loops of the body are those that were given
pub groups_of-body_of : (components : List (List ℤ)) (loops : ℕ) → AllByRecursion HasLabel components
    → groups_of (body_of components loops) ≡ components ++ replicate loops []
groups_of-body_of [] loops each =
    ap groups_of (body_of-several [] loops (inl (omega arith))) ∙ groups_of-groups (replicate loops [])
groups_of-body_of (labels ∷ []) zero each =
    ap (λ ls. groups_of (Body.Bare ls)) (append-nil labels) ∙ groups_of-bare labels each.0
groups_of-body_of (labels ∷ []) (suc loops) each =
    ap groups_of (body_of-several (labels ∷ []) (suc loops) (inr (omega arith)))
groups_of-body_of (labels ∷ others ∷ more) loops each =
    ap groups_of (body_of-several (labels ∷ others ∷ more) loops (inl (omega arith)))
    ∙ groups_of-groups ((labels ∷ others ∷ more) ++ replicate loops [])

-- loops have no labels
no_labels : (loops : ℕ) → flat_map (λ (labels : List ℤ). labels) (replicate loops []) ≡ []
no_labels zero = refl
no_labels (suc loops) = no_labels loops

pub labels_of-body_of : (components : List (List ℤ)) (loops : ℕ) → AllByRecursion HasLabel components
    → labels_of (body_of components loops) ≡ flat_map (λ labels. labels) components
labels_of-body_of components loops each =
    ap (λ groups. flat_map (λ labels. labels) groups) (groups_of-body_of components loops each)
    ∙ flat_map-append (λ labels. labels) components (replicate loops [])
    ∙ ap (λ xs. flat_map (λ labels. labels) components ++ xs) (no_labels loops)
    ∙ append-nil (flat_map (λ labels. labels) components)

-- and components have some, so so many are the loops
no_loops : (components : List (List ℤ)) → AllByRecursion HasLabel components → count_by is_loop_group components ≡ 0
no_loops [] each = refl
no_loops (labels ∷ components) each =
    sum_by-cons (λ group. cond (is_loop_group group) 1 0) labels components
    ∙ ap (λ b. cond b 1 0 + count_by is_loop_group components) each.0.some
    ∙ omega (arith, no_loops components each.1)

pub loop_group_count-body_of : (components : List (List ℤ)) (loops : ℕ) → AllByRecursion HasLabel components
    → loop_group_count (body_of components loops) ≡ loops
loop_group_count-body_of components loops each =
    ap (λ groups. count_by is_loop_group groups) (groups_of-body_of components loops each)
    ∙ sum_by-append (λ group. cond (is_loop_group group) 1 0) components (replicate loops [])
    ∙ omega (arith, no_loops components each, sum_by-replicate (λ (group : List ℤ). cond (is_loop_group group) 1 0) loops [])

-- where the labels are small, so are the numbers of the body
small-flat : (components : List (List ℤ)) → AllByRecursion AreSmall components → AreSmall (flat_map (λ labels. labels) components)
small-flat [] small = tt
small-flat (labels ∷ components) small =
    AllByRecursion-append IsSmall labels (flat_map (λ ls. ls) components) small.0 (small-flat components small.1)

small-replicate : (loops : ℕ) → AllByRecursion AreSmall (replicate loops [])
small-replicate zero = tt
small-replicate (suc loops) = (tt, small-replicate loops)

small-groups : (groups : List (List ℤ)) → AllByRecursion AreSmall groups → HasSmallNumbers (body_of_groups groups)
small-groups [] small = tt
small-groups (group ∷ groups) small = small

small-cond : (b : Bool) (bare groups : Body) → HasSmallNumbers bare → HasSmallNumbers groups → HasSmallNumbers (cond b bare groups)
small-cond true bare groups small small_groups = small
small-cond false bare groups small small_groups = small_groups

pub HasSmallNumbers-body_of : (components : List (List ℤ)) (loops : ℕ) → AllByRecursion AreSmall components
    → HasSmallNumbers (body_of components loops)
HasSmallNumbers-body_of components loops small =
    small-cond (nat_eq (length components) 1 && nat_eq loops 0) (Body.Bare (flat_map (λ labels. labels) components))
    (body_of_groups (components ++ replicate loops []))
    (small-flat components small)
    (small-groups (components ++ replicate loops [])
    (AllByRecursion-append AreSmall components (replicate loops []) small (small-replicate loops)))
