-- What paired passes are: each name has one pass that enters on it, and one that leaves on it.
--
-- In paired parts each number stands at most once among those on which passes enter, and once among those on which they leave where it does
-- so. So the search for the pass that enters on a name finds the one there is, each fact of all passes is one of the pass found, and the
-- passes are told apart by names and by labels. Two passes a crossing make twice as many names as crossings.
use Rattle.std.proofs.lemmas.Bool.Decides.{nat_tests}
use Rattle.std.proofs.Common.{◌≡◌, ◌≢◌, ℕ, zero, suc, inl, inr, ◌+◌, ◌*◌, ◌<◌, ◌≤◌, ◌∙◌, List, [], ◌∷◌, length, map, refl, sym, ap, subst, arith, cond}
use Rattle.std.specs.Prelude.{nat_eq, unwrap_or, ℤ, pos, negsuc, nat_abs}
use Rattle.std.specs.List.{find, count_by, flat_map, range_with_len, AllByRecursion}
use Rattle.std.proofs.lemmas.Bool.{cases_eq, eq-eqb, ne_eqb}
use Rattle.std.proofs.lemmas.List.{length-map}
use Rattle.std.proofs.lemmas.List.Sums.{sum_by-cons}
use Rattle.kh_types.proofs.Lists.{AllByRecursion-append, AllByRecursion-first, AllByRecursion-second, AllByRecursion-both, AllByRecursion-weaker}
use Rattle.code_passes.specs.Passes.{Pass, no_pass}
use Rattle.code_passes.proofs.LabelCounts.{under_at-is, over_at-is}
use Rattle.code_passes.specs.Parts.{Parts, ArePaired, passes_through, passes_at, slots_in, is_positive_at, under_pass, over_pass}
use Rattle.orient_arcs.specs.Renumbered.{entering, follows, label_entered}
use Rattle.orient_arcs.proofs.Members.{IsIn, AreDistinct}
use Rattle.orient_arcs.proofs.Walks.{AreNext}

pub All-flat_map_range : {X : Type 0} (P : X → Type 0) (f : ℕ → List X) (a n : ℕ)
    → ((k : ℕ) → a ≤ k → k < a + n → AllByRecursion P (f k)) → AllByRecursion P (flat_map f (range_with_len a n))
All-flat_map_range P f a zero each = tt
All-flat_map_range P f a (suc n) each =
    grind (arith, nat_tests, AllByRecursion-append, All-flat_map_range P f (a + 1) n (λ k from below. each k (omega (arith, from)) (omega (arith, below))))

pub flat_map_range-All : {X : Type 0} (P : X → Type 0) (f : ℕ → List X) (a n : ℕ) → AllByRecursion P (flat_map f (range_with_len a n))
    → (k : ℕ) → a ≤ k → k < a + n → AllByRecursion P (f k)
flat_map_range-All P f a zero all k from below = absurd (omega (arith, from, below))
flat_map_range-All P f a (suc n) all k from below = elim (cases_eq a k) [
  | inl same ↦ subst (λ (j : ℕ). AllByRecursion P (f j)) same (AllByRecursion-first P (f a) (flat_map f (range_with_len (a + 1) n)) all)
  | inr other ↦
      flat_map_range-All P f (a + 1) n (AllByRecursion-second P (f a) (flat_map f (range_with_len (a + 1) n)) all) k
      (omega (arith, from, other)) (omega (arith, below))
]

-- passes found by a number that they have
module _ (f : Pass → ℕ) where
  abbrev found : List Pass → ℕ → Pass
  found passes x = unwrap_or (find (λ (pass : Pass). nat_eq (f pass) x) passes) no_pass

  found-here : (p : Pass) (passes : List Pass) (x : ℕ) → f p ≡ x → found (p ∷ passes) x ≡ p
  found-here p passes x same = grind (arith, nat_tests)

  found-later : (p : Pass) (passes : List Pass) (x : ℕ) → f p ≢ x → found (p ∷ passes) x ≡ found passes x
  found-later p passes x other = grind (arith, nat_tests)

  pub found-holds : (P : Pass → Type 0) (passes : List Pass) (x : ℕ) → AllByRecursion P passes → IsIn x (map f passes)
      → P (found passes x) × (f (found passes x) ≡ x)
  found-holds P [] x all is = absurd is
  found-holds P (p ∷ passes) x all is = elim (cases_eq (f p) x) [
    | inl same ↦
        let here = found-here p passes x same in
        (subst P (sym here) all.0, ap f here ∙ same)
    | inr other ↦
        let later = found-later p passes x other in
        let rest = found-holds P passes x all.1 (elim is [ inl same ↦ absurd (other (sym same)) | inr there ↦ there ]) in
        (subst P (sym later) rest.0, ap f later ∙ rest.1)
  ]

  -- where no number stands twice, each pass is found
  out-all : (x : ℕ) (passes : List Pass) → (IsIn x (map f passes) → ⊥) → AllByRecursion (λ (pass : Pass). x ≢ f pass) passes
  out-all x [] out = tt
  out-all x (p ∷ passes) out = (λ same. out (inl same), out-all x passes (λ later. out (inr later)))

  pub found-own : (passes : List Pass) → AreDistinct (map f passes) → AllByRecursion (λ (pass : Pass). found passes (f pass) ≡ pass) passes
  found-own [] distinct = tt
  found-own (p ∷ passes) distinct = (
    found-here p passes (f p) refl,
    AllByRecursion-both (λ (pass : Pass). f p ≢ f pass) (λ (pass : Pass). found passes (f pass) ≡ pass)
        (λ (pass : Pass). found (p ∷ passes) (f pass) ≡ pass) passes
        (λ pass other own. found-later p passes (f pass) other ∙ own)
        (out-all (f p) passes distinct.0) (found-own passes distinct.1),
  )

  -- numbers by how often they stand
  abbrev counted : List Pass → ℕ → ℕ
  counted passes x = count_by (λ (pass : Pass). nat_eq (f pass) x) passes

  counted-more : (p : Pass) (passes : List Pass) (x : ℕ) → counted (p ∷ passes) x ≡ cond (nat_eq (f p) x) 1 0 + counted passes x
  counted-more p passes x = sum_by-cons (λ (pass : Pass). cond (nat_eq (f pass) x) 1 0) p passes

  pub counted-in : (passes : List Pass) (x : ℕ) → IsIn x (map f passes) → 1 ≤ counted passes x
  counted-in [] x is = absurd is
  counted-in (p ∷ passes) x (inl same) =
      omega (arith, counted-more p passes x, ap {B = ℕ} (λ b. cond b 1 0) (eq-eqb (f p) x (sym same)))
  counted-in (p ∷ passes) x (inr later) = omega (arith, counted-more p passes x, counted-in passes x later)

  pub in-counted : (passes : List Pass) (x : ℕ) → 1 ≤ counted passes x → IsIn x (map f passes)
  in-counted [] x some = absurd (omega (arith, some))
  in-counted (p ∷ passes) x some = elim (cases_eq (f p) x) [
    | inl same ↦ inl (sym same)
    | inr other ↦ inr
        (in-counted passes x (omega (arith, some, counted-more p passes x, ap {B = ℕ} (λ b. cond b 1 0) (ne_eqb (f p) x other))))
  ]

  pub distinct-counted : (passes : List Pass) → ((x : ℕ) → counted passes x ≤ 1) → AreDistinct (map f passes)
  distinct-counted [] few = tt
  distinct-counted (p ∷ passes) few = (
    λ is.
        let one = counted-in passes (f p) is in
        absurd (omega (arith, few (f p), one, counted-more p passes (f p), ap {B = ℕ} (λ b. cond b 1 0) (eq-eqb (f p) (f p) refl))),
    distinct-counted passes (λ x. omega (arith, few x, counted-more p passes x)),
  )

  pub all-in : (passes : List Pass) → AllByRecursion (λ (pass : Pass). IsIn (f pass) (map f passes)) passes
  all-in [] = tt
  all-in (p ∷ passes) = grind (arith, nat_tests, AllByRecursion-weaker, IsIn, all-in passes)

-- the pass with a label
pass_with : Parts → ℤ → Pass
pass_with parts (pos zero) = no_pass
pass_with parts (pos (suc place)) = over_pass (slots_in parts.crossings place) (is_positive_at parts.positive place) place
pass_with parts (negsuc place) = under_pass (slots_in parts.crossings place) place

module _ (parts : Parts) (paired : ArePaired parts) where
  abbrev passes : List Pass
  passes = passes_through parts

  abbrev pub heads_of : List ℕ
  heads_of = map (λ (pass : Pass). pass.enters) passes

  pub heads-distinct : AreDistinct heads_of
  heads-distinct = distinct-counted (λ (pass : Pass). pass.enters) passes paired.heads

  tails-distinct : AreDistinct (map (λ (pass : Pass). pass.leaves) passes)
  tails-distinct =
      distinct-counted (λ (pass : Pass). pass.leaves) passes (λ name. omega (arith, paired.heads name, paired.tails name))

  pub entering-holds : (P : Pass → Type 0) (x : ℕ) → AllByRecursion P passes → IsIn x heads_of → P (entering passes x)
  entering-holds P x all is = (found-holds (λ (pass : Pass). pass.enters) P passes x all is).0

  pub entering-enters : (x : ℕ) → IsIn x heads_of → (entering passes x).enters ≡ x
  entering-enters x is =
      (found-holds (λ (pass : Pass). pass.enters) (λ (pass : Pass). Unit {0}) passes x (all_unit passes) is).1
    where
      all_unit : (ps : List Pass) → AllByRecursion (λ (pass : Pass). Unit {0}) ps
      all_unit [] = tt
      all_unit (p ∷ ps) = (tt, all_unit ps)

  pub entering-own : AllByRecursion (λ (pass : Pass). entering passes pass.enters ≡ pass) passes
  entering-own = found-own (λ (pass : Pass). pass.enters) passes heads-distinct

  pub AreNext-passes : AreNext (follows passes) heads_of
  AreNext-passes = record {
    closed = λ x is. entering-holds (λ (pass : Pass). IsIn pass.leaves heads_of) x
        (AllByRecursion-weaker (λ (pass : Pass). IsIn pass.leaves (map (λ (p : Pass). p.leaves) passes)) (λ (pass : Pass). IsIn pass.leaves heads_of)
        passes
        (λ pass here.
        in-counted (λ (p : Pass). p.enters) passes pass.leaves
        (omega (arith, paired.tails pass.leaves, counted-in (λ (p : Pass). p.leaves) passes pass.leaves here)))
        (all-in (λ (p : Pass). p.leaves) passes)) is;
    once = λ x y x_is y_is same.
        let own = found-own (λ (pass : Pass). pass.leaves) passes tails-distinct in
        let leaving = λ (z : ℕ). unwrap_or (find (λ (pass : Pass). nat_eq pass.leaves z) passes) no_pass in
        let one = λ (z : ℕ) (z_is : IsIn z heads_of).
        entering-holds (λ (pass : Pass). leaving pass.leaves ≡ pass) z own z_is in
        let alike : entering passes x ≡ entering passes y = sym (one x x_is) ∙ ap leaving same ∙ one y y_is in
        sym (entering-enters x x_is) ∙ ap (λ (pass : Pass). pass.enters) alike ∙ entering-enters y y_is;
  }

  -- labels
  pub IsLabelled : Pass → Type 0
  IsLabelled pass =
      (pass ≡ pass_with parts pass.label) × (1 ≤ nat_abs pass.label) × (nat_abs pass.label ≤ length parts.crossings)

  all-labelled : AllByRecursion IsLabelled passes
  unfolding IsLabelled pass_with
  all-labelled =
      All-flat_map_range IsLabelled (passes_at parts) 0 (length parts.crossings)
      (λ place from below.
      let under : Pass = under_pass (slots_in parts.crossings place) place in
      let over : Pass = over_pass (slots_in parts.crossings place) (is_positive_at parts.positive place) place in
      let size : nat_abs under.label ≡ suc place = ap nat_abs (under_at-is place) in
      let over_size : nat_abs over.label ≡ suc place = ap nat_abs (over_at-is place) in (
        (sym (ap (pass_with parts) (under_at-is place)), omega (arith, size), omega (arith, size, below)),
        ((sym (ap (pass_with parts) (over_at-is place)), omega (arith, over_size), omega (arith, over_size, below)), tt),
      ))

  pub label-within : (x : ℕ) → IsIn x heads_of
      → (1 ≤ nat_abs (label_entered passes x)) × (nat_abs (label_entered passes x) ≤ length parts.crossings)
  unfolding IsLabelled
  label-within x is = let labelled = entering-holds IsLabelled x all-labelled is in (labelled.1, labelled.2)

  pub label-once : (x y : ℕ) → IsIn x heads_of → IsIn y heads_of → label_entered passes x ≡ label_entered passes y → x ≡ y
  unfolding IsLabelled
  label-once x y x_is y_is same =
      let alike : entering passes x ≡ entering passes y =
      (entering-holds IsLabelled x all-labelled x_is).0 ∙ ap (pass_with parts) same
      ∙ sym (entering-holds IsLabelled y all-labelled y_is).0 in
      sym (entering-enters x x_is) ∙ ap (λ (pass : Pass). pass.enters) alike ∙ entering-enters y y_is

  -- the two passes of a crossing
  pub entering-at : (place : ℕ) → place < length parts.crossings
      → AllByRecursion (λ (pass : Pass). entering passes pass.enters ≡ pass) (passes_at parts place)
  entering-at place below =
      flat_map_range-All (λ (pass : Pass). entering passes pass.enters ≡ pass) (passes_at parts) 0 (length parts.crossings) entering-own
      place
      (omega arith) (omega (arith, below))

  pub heads-at : (place : ℕ) → place < length parts.crossings
      → AllByRecursion (λ (pass : Pass). IsIn pass.enters heads_of) (passes_at parts place)
  heads-at place below =
      flat_map_range-All (λ (pass : Pass). IsIn pass.enters heads_of) (passes_at parts) 0 (length parts.crossings)
      (all-in (λ (pass : Pass). pass.enters) passes) place (omega arith) (omega (arith, below))

  -- there are two names for each crossing
  pub length-heads : length heads_of ≡ 2 * length parts.crossings
  length-heads =
      length-map passes (λ (pass : Pass). pass.enters) ∙ two 0 (length parts.crossings)
    where
      two : (a n : ℕ) → length (flat_map (passes_at parts) (range_with_len a n)) ≡ 2 * n
      two a zero = omega arith
      two a (suc n) = let rest = two (a + 1) n in omega (arith, rest)
