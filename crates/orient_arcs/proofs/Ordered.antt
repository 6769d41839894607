-- The order of components, by places.
use Rattle.std.proofs.lemmas.Bool.Decides.{nat_tests}
use Rattle.std.proofs.Common.{◌≡◌, ℕ, zero, suc, ◌⊎◌, inl, inr, ◌<◌, ◌≤◌, ◌∙◌, List, [], ◌∷◌, length, refl, sym, ap, arith, cond}
use Rattle.std.specs.Prelude.{nat_eq, slice_index, slice_index_or}
use Rattle.std.specs.List.{count_by, AllByRecursion}
use Rattle.std.proofs.lemmas.Bool.{eq-eqb, cases_Bool, ne_eqb}
use Rattle.std.proofs.lemmas.List.Sums.{sum_by-cons}
use Rattle.code_passes.specs.Passes.{Pass}
use Rattle.code_passes.specs.Parts.{Parts, ArePaired, passes_through, head_count}
use Rattle.orient_arcs.specs.Renumbered.{AreOrdered, all_of, named_components, is_in}
use Rattle.orient_arcs.proofs.Members.{IsIn, IsIn-same, AreDistinct, IsIn-get, true-is_in, false-is_in}
use Rattle.orient_arcs.proofs.AllComponents.{IsRound, BeginsLeast, AreAscending}
use Rattle.orient_arcs.proofs.PairedPasses.{counted-in, in-counted}
use Rattle.orient_arcs.proofs.Labels.{round-at, round-end}
use Rattle.orient_arcs.proofs.Bridge.{components-are, all-heads}

all-at : (P : List ℕ → Type 0) (xs : List (List ℕ)) → AllByRecursion P xs → (at : ℕ) → at < length xs → P (slice_index_or xs at [])
all-at P [] all at below = absurd (omega (arith, below))
all-at P (x ∷ xs) all zero below = all.0
all-at P (x ∷ xs) all (suc at) below = all-at P xs all.1 at (omega (arith, below))

ascending-at : (xs : List (List ℕ)) → AreAscending xs → (at later : ℕ) → at < later → later < length xs
    → slice_index (slice_index_or xs at []) 0 < slice_index (slice_index_or xs later []) 0
ascending-at [] ascending at later less below = absurd (omega (arith, below))
ascending-at (x ∷ xs) ascending at zero less below = absurd (omega (arith, less))
ascending-at (x ∷ xs) ascending zero (suc later) less below = grind (arith, nat_tests, all-at)
ascending-at (x ∷ xs) ascending (suc at) (suc later) less below =
    ascending-at xs ascending.1 at later (omega (arith, less)) (omega (arith, below))

round-some : (next : ℕ → ℕ) (names : List ℕ) → IsRound next names → 1 ≤ length names
round-some next names round = grind (arith, nat_tests)

-- a name stands once in a list without repetitions, or not at all
count-out : (x : ℕ) (xs : List ℕ) → (IsIn x xs → ⊥) → count_by (nat_eq x) xs ≡ 0
count-out x [] out = refl
count-out x (y ∷ ys) out = grind (arith, nat_tests, sum_by-cons, ne_eqb, count-out x ys (λ later. out (inr later)))

count-in : (x : ℕ) (xs : List ℕ) → AreDistinct xs → IsIn x xs → count_by (nat_eq x) xs ≡ 1
count-in x [] distinct is = absurd is
count-in x (y ∷ ys) distinct (inl same) =
    omega (
      arith,
      sum_by-cons (λ z. cond (nat_eq x z) 1 0) y ys,
      ap {B = ℕ} (λ b. cond b 1 0) (eq-eqb x y same),
      count-out x ys (λ later. distinct.0 (IsIn-same y x ys same later)),
    )
count-in x (y ∷ ys) distinct (inr later) = grind (arith, nat_tests, sum_by-cons, ne_eqb, IsIn-same, count-in x ys distinct.1 later)

module _ (parts : Parts) (paired : ArePaired parts) where
  stands-once : (name : ℕ) → count_by (nat_eq name) (all_of (named_components (passes_through parts))) ≡ head_count parts name
  stands-once name =
      let all = all_of (named_components (passes_through parts)) in
      let are = components-are parts paired in
      elim (cases_Bool (is_in all name)) [
        | inl holds ↦
            let is = true-is_in name all holds in
            let some = counted-in (λ (pass : Pass). pass.enters) (passes_through parts) name (are.named name is) in
            omega (arith, count-in name all are.distinct is, some, paired.heads name)
        | inr fails ↦
            let out = false-is_in name all fails in
            elim (one_or_none (head_count parts name)) [
              | inl none ↦ count-out name all out ∙ sym none
              | inr some ↦ absurd
                  (out (all-heads parts paired name (in-counted (λ (pass : Pass). pass.enters) (passes_through parts) name some)))
            ]
      ]
    where
      one_or_none : (n : ℕ) → (n ≡ 0) ⊎ (1 ≤ n)
      one_or_none n = grind arith

  pub AreOrdered-components : AreOrdered parts (named_components (passes_through parts))
  AreOrdered-components =
      let components = named_components (passes_through parts) in
      let are = components-are parts paired in
      let rounds = all-at (IsRound _) components are.rounds in
      record {
        some = λ at below. round-some _ (slice_index_or components at []) (rounds at below);
        onward = λ at place below place_below. round-at _ (slice_index_or components at []) (rounds at below) place place_below;
        round = λ at place below ends. round-end _ (slice_index_or components at []) (rounds at below) place ends;
        least = λ at place below place_below.
            all-at BeginsLeast components are.least at below (slice_index (slice_index_or components at []) place)
            (IsIn-get (slice_index_or components at []) place place_below);
        ascending = λ at later less below. ascending-at components are.ascending at later less below;
        once = stands-once;
      }
