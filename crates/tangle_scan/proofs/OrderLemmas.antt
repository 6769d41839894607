-- Crossings taken one by one out of a list are the list in another order.
use Rattle.std.proofs.Common.{◌≡◌, ℕ, suc, ◌<◌, ◌∙◌, List, [], ◌∷◌, ◌++◌, length, get_or, take, drop, drop-cons, append_assoc, refl, sym, subst, ap, arith}
use Rattle.std.specs.List.{remove}
use Rattle.std.proofs.lemmas.List.{take-append-drop}
use Rattle.order_laws.specs.Orders.{IsReordered}

-- with those that are still to come after them, in any order, the ones that have been taken are all, in another order
pub record IsTaken {A : Type 0} (xs taken left : List A) : Type 0 where
  pub behind : (more : List A) → IsReordered left more → IsReordered xs (taken ++ more)

pub taken-none : {A : Type 0} (xs : List A) → IsTaken xs [] xs
taken-none xs = record { behind = λ more order. order }

pub taken-all : {A : Type 0} (xs taken left : List A) → IsTaken xs taken left → length left ≡ 0 → IsReordered xs taken
taken-all xs taken [] is none = subst (IsReordered xs) (all taken) (is.behind [] refl)
  where
    all : {A : Type 0} (ys : List A) → ys ++ [] ≡ ys
    all [] = refl
    all (y ∷ ys) = ap (λ zs. y ∷ zs) (all ys)
taken-all xs taken (x ∷ left) is none = absurd (omega (arith, none))

around : {A : Type 0} (xs : List A) (at : ℕ) (x : A) → at < length xs → get_or xs at x ≡ x
    → xs ≡ take at xs ++ (x ∷ drop (suc at) xs)
around {A} xs at x below is =
    sym (take-append-drop at xs) ∙ ap (λ (ys : List A). take at xs ++ ys) (drop-cons xs at x below)
    ∙ ap (λ (y : A). take at xs ++ (y ∷ drop (suc at) xs)) is

pub taken-more : {A : Type 0} (xs taken left : List A) (at : ℕ) (x : A) → IsTaken xs taken left → at < length left
    → get_or left at x ≡ x → IsTaken xs (taken ++ x ∷ []) (remove left at)
taken-more {A} xs taken left at x is below here =
    record {
      behind = λ more order.
          subst (IsReordered xs) (sym (append_assoc taken (x ∷ []) more))
          (is.behind (x ∷ more) (take at left, drop (suc at) left, around left at x below here, order));
    }

pub ruleset steps = (taken-none, taken-more, taken-all)
