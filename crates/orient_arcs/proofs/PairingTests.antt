-- The test whether names are paired.
use Rattle.std.proofs.lemmas.Bool.Decides.{nat_tests}
use Rattle.std.proofs.Common.{◌≡◌, ℕ, ◌⊎◌, inl, inr, ◌≤◌, ◌∙◌, List, [], ◌∷◌, map, refl, sym, ap, arith, Bool, true, ◌&&◌}
use Rattle.std.specs.Prelude.{nat_eq, IsTrue, ◌↔◌}
use Rattle.std.specs.List.{count_by, list_all}
use Rattle.std.proofs.lemmas.Bool.{and_parts, and_from}
use Rattle.std.proofs.lemmas.List.Folds.{list_all-map}
use Rattle.code_passes.specs.Passes.{Pass}
use Rattle.code_passes.specs.Parts.{Parts, ArePaired, passes_through}
use Rattle.orient_arcs.specs.Pairing.{all_are_paired, entering_count, is_paired_in, leaving_count}
use Rattle.orient_arcs.proofs.Members.{IsIn}
use Rattle.orient_arcs.proofs.PairedPasses.{in-counted}

-- what all numbers of a list pass, one of them passes
all-in : (test : ℕ → Bool) (xs : List ℕ) → list_all test xs ≡ true → (x : ℕ) → IsIn x xs → test x ≡ true
all-in test [] all x is = absurd is
all-in test (y ∷ ys) all x (inl same) = ap test same ∙ (and_parts (test y) (list_all test ys) all).0
all-in test (y ∷ ys) all x (inr later) = all-in test ys (and_parts (test y) (list_all test ys) all).1 x later

-- a name on which a pass enters, or leaves, passes what all such names do
counted-passes : (f : Pass → ℕ) (test : ℕ → Bool) (passes : List Pass) → list_all (λ (pass : Pass). test (f pass)) passes ≡ true
    → (name : ℕ) → 1 ≤ count_by (λ (pass : Pass). nat_eq (f pass) name) passes → test name ≡ true
counted-passes f test passes all name some =
    all-in test (map f passes) (list_all-map test f passes ∙ all) name (in-counted f passes name some)

all-parts : {X : Type 0} (p q : X → Bool) (xs : List X) → list_all (λ x. p x && q x) xs ≡ true
    → (list_all p xs ≡ true) × (list_all q xs ≡ true)
all-parts p q [] all = (refl, refl)
all-parts p q (x ∷ xs) all =
    let both = and_parts (p x && q x) (list_all (λ y. p y && q y) xs) all in
    let here = and_parts (p x) (q x) both.0 in
    let rest = all-parts p q xs both.1 in
    (and_from (p x) (list_all p xs) here.0 rest.0, and_from (q x) (list_all q xs) here.1 rest.1)

all-each : {X : Type 0} (p : X → Bool) (xs : List X) → ((x : X) → p x ≡ true) → list_all p xs ≡ true
all-each p [] each = refl
all-each p (x ∷ xs) each = and_from (p x) (list_all p xs) (each x) (all-each p xs each)

-- the test of a name
record IsPairedIn (passes : List Pass) (name : ℕ) : Type 0 where
  pub few : entering_count passes name ≤ 1
  pub same : leaving_count passes name ≡ entering_count passes name

true-paired : (passes : List Pass) (name : ℕ) → is_paired_in passes name ≡ true → IsPairedIn passes name
true-paired passes name holds = grind (arith, nat_tests)

paired-true : (passes : List Pass) (name : ℕ) → entering_count passes name ≤ 1
    → leaving_count passes name ≡ entering_count passes name → is_paired_in passes name ≡ true
paired-true passes name few same = grind (arith, nat_tests)

pub true-ArePaired : (parts : Parts) → all_are_paired (passes_through parts) ≡ true → ArePaired parts
true-ArePaired parts holds =
    let passes = passes_through parts in
    let test = is_paired_in passes in
    let both = all-parts (λ (pass : Pass). test pass.enters) (λ (pass : Pass). test pass.leaves) passes holds in
    let heads = counted-passes (λ (pass : Pass). pass.enters) test passes both.0 in
    let tails = counted-passes (λ (pass : Pass). pass.leaves) test passes both.1 in
    let each = λ (name : ℕ). each_name passes name (heads name) (tails name) in
    record { heads = λ name. (each name).few; tails = λ name. (each name).same }
  where
    none_or_some : (m n : ℕ) → ((m ≡ 0) × (n ≡ 0)) ⊎ ((1 ≤ m) ⊎ (1 ≤ n))
    none_or_some m n = grind arith

    each_name : (passes : List Pass) (name : ℕ) → (1 ≤ entering_count passes name → is_paired_in passes name ≡ true)
        → (1 ≤ leaving_count passes name → is_paired_in passes name ≡ true) → IsPairedIn passes name
    each_name passes name head tail = elim (none_or_some (entering_count passes name) (leaving_count passes name)) [
      | inl none ↦ record { few = omega (arith, none.0); same = none.1 ∙ sym none.0 }
      | inr (inl some) ↦ true-paired passes name (head some)
      | inr (inr some) ↦ true-paired passes name (tail some)
    ]

pub ArePaired-true : (parts : Parts) → ArePaired parts → all_are_paired (passes_through parts) ≡ true
ArePaired-true parts paired =
    let passes = passes_through parts in
    let each = λ (name : ℕ). paired-true passes name (paired.heads name) (paired.tails name) in
    all-each (λ (pass : Pass). is_paired_in passes pass.enters && is_paired_in passes pass.leaves) passes
    (λ pass. and_from (is_paired_in passes pass.enters) (is_paired_in passes pass.leaves) (each pass.enters) (each pass.leaves))

pub tested : (parts : Parts) (passes : List Pass) (result : Bool) → passes ≡ passes_through parts → result ≡ all_are_paired passes
    → IsTrue result ↔ ArePaired parts
tested parts passes result are same = grind (arith, nat_tests, same, true-ArePaired, ArePaired-true)
