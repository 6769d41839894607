-- The components of paired passes: each goes round, in each each name stands once, and they stand in the order of their least names.
--
-- The order goes over the names below a bound, and walks from each that is in no component so far. What is known of the components found is
-- one record: each goes round, they have no name twice, they ascend by first names, and all names below the bound are in one. A walk from a
-- new name goes round and meets none of the old ones, since each name is the next of one only; so one step more keeps the record.
use Rattle.std.proofs.lemmas.Bool.Decides.{nat_tests}
use Rattle.std.proofs.Common.{◌≡◌, ℕ, zero, suc, inl, inr, ◌+◌, ◌<◌, ◌≤◌, ◌∙◌, List, [], ◌∷◌, ◌++◌, length, map, refl, sym, ap, subst, arith, Bool, true, false, not, ◌&&◌}
use Rattle.std.specs.Prelude.{if◌then◌else◌, slice_index}
use Rattle.std.specs.List.{fold, range_with_len, AllByRecursion}
use Rattle.std.proofs.lemmas.Bool.{and_parts, and_from, not-true, cases_eq, cases_Bool, both_ways, cases_lt}
use Rattle.std.proofs.lemmas.List.{length-map, append-nil}
use Rattle.kh_types.proofs.Lists.{AllByRecursion-append}
use Rattle.code_passes.specs.Passes.{Pass}
use Rattle.orient_arcs.specs.Renumbered.{walk, all_of, is_in, with_component, follows}
use Rattle.orient_arcs.proofs.Members.{IsIn, IsIn-same, IsIn-left, IsIn-right, IsIn-parts, AreDistinct, AreDistinct-append, is_in-true, true-is_in, false-is_in}
use Rattle.orient_arcs.proofs.Walks.{AreNext, AreLed, IsWalk-walk}

-- a component goes round: each name but the first is the next of the one before, and the first is the next of the last
abbrev pub IsRound : (ℕ → ℕ) → List ℕ → Type 0
IsRound next [] = ⊥
IsRound next (x ∷ xs) = AreLed next x (next x) xs

-- its first name is its least
abbrev pub BeginsLeast : List ℕ → Type 0
BeginsLeast names = (y : ℕ) → IsIn y names → slice_index names 0 ≤ y

-- components ascend by their first names
abbrev pub AreAscending : List (List ℕ) → Type 0
AreAscending [] = Unit
AreAscending (names ∷ more) =
    AllByRecursion (λ (later : List ℕ). slice_index names 0 < slice_index later 0) more × AreAscending more

AreAscending-more : (components : List (List ℕ)) (names : List ℕ)
    → AllByRecursion (λ (earlier : List ℕ). slice_index earlier 0 < slice_index names 0) components → AreAscending components
    → AreAscending (components ++ names ∷ [])
AreAscending-more [] names below ascending = (tt, tt)
AreAscending-more (first ∷ components) names below ascending =
    grind (arith, nat_tests, AllByRecursion-append, ascending, below, AreAscending-more components names below.1 ascending.1)

-- each name of a component is the next of one of them

fed-led : (next : ℕ → ℕ) (last p : ℕ) (xs : List ℕ) → AreLed next last (next p) xs → (y : ℕ) → IsIn y xs
    → (z : ℕ) × IsIn z (p ∷ xs) × (next z ≡ y)
fed-led next last p [] led y is = absurd is
fed-led next last p (x ∷ xs) led y (inl same) = (p, inl refl, sym led.0 ∙ sym same)
fed-led next last p (x ∷ xs) led y (inr later) = grind (arith, nat_tests, fed-led next last x xs led.1 y later)

fed-last : (next : ℕ → ℕ) (last p : ℕ) (xs : List ℕ) → AreLed next last (next p) xs
    → (z : ℕ) × IsIn z (p ∷ xs) × (next z ≡ last)
fed-last next last p [] led = (p, inl refl, led)
fed-last next last p (x ∷ xs) led = let found = fed-last next last x xs led.1 in (found.0, inr found.1, found.2)

fed-round : (next : ℕ → ℕ) (names : List ℕ) → IsRound next names → (y : ℕ) → IsIn y names
    → (z : ℕ) × IsIn z names × (next z ≡ y)
fed-round next [] round y is = absurd is
fed-round next (x ∷ xs) round y (inl same) = grind (arith, nat_tests, fed-last)
fed-round next (x ∷ xs) round y (inr later) = fed-led next x x xs round y later

fed-all : (next : ℕ → ℕ) (components : List (List ℕ)) → AllByRecursion (IsRound next) components → (y : ℕ)
    → IsIn y (all_of components) → (z : ℕ) × IsIn z (all_of components) × (next z ≡ y)
fed-all next [] rounds y is = absurd is
fed-all next (names ∷ more) rounds y is = elim (IsIn-parts y names (all_of more) is) [
  | inl here ↦
      let found = fed-round next names rounds.0 y here in (found.0, IsIn-left found.0 names (all_of more) found.1, found.2)
  | inr there ↦
      let found = fed-all next more rounds.1 y there in (found.0, IsIn-right found.0 names (all_of more) found.1, found.2)
]

-- what components are, after the names below a bound have been looked at
pub record AreSoFar (next : ℕ → ℕ) (heads : List ℕ) (bound : ℕ) (components : List (List ℕ)) : Type 0 where
  pub rounds : AllByRecursion (IsRound next) components
  pub least : AllByRecursion BeginsLeast components
  pub below : AllByRecursion (λ (names : List ℕ). slice_index names 0 < bound) components
  pub ascending : AreAscending components
  pub named : (y : ℕ) → IsIn y (all_of components) → IsIn y heads
  pub distinct : AreDistinct (all_of components)
  pub covers : (y : ℕ) → y < bound → IsIn y heads → IsIn y (all_of components)

all_of-more : (components : List (List ℕ)) (names : List ℕ) → all_of (components ++ names ∷ []) ≡ all_of components ++ names
all_of-more [] names = append-nil names
all_of-more (first ∷ components) names = ap (λ xs. first ++ xs) (all_of-more components names) ∙ append-assoc first (all_of components) names
  where
    append-assoc : (xs ys zs : List ℕ) → xs ++ (ys ++ zs) ≡ (xs ++ ys) ++ zs
    append-assoc [] ys zs = refl
    append-assoc (x ∷ xs) ys zs = ap (λ ws. x ∷ ws) (append-assoc xs ys zs)

All-weaker : (P Q : List ℕ → Type 0) (xs : List (List ℕ)) → ((x : List ℕ) → P x → Q x) → AllByRecursion P xs → AllByRecursion Q xs
All-weaker P Q [] onward all = tt
All-weaker P Q (x ∷ xs) onward all = (onward x all.0, All-weaker P Q xs onward all.1)

module _ (passes : List Pass) (are : AreNext (follows passes) (map (λ (pass : Pass). pass.enters) passes)) where
  abbrev heads : List ℕ
  heads = map (λ (pass : Pass). pass.enters) passes

  abbrev next : ℕ → ℕ
  next = follows passes

  -- the component of a name that is in none so far
  AreSoFar-new : (name : ℕ) (components : List (List ℕ)) → AreSoFar next heads name components → IsIn name heads
      → (IsIn name (all_of components) → ⊥)
      → AreSoFar next heads (name + 1) (components ++ walk next name (length passes) name ∷ [])
  AreSoFar-new name components so_far is out =
      let seen = all_of components in
      let names = walk next name (length passes) name in
      let size : length heads ≡ length passes = length-map passes (λ (pass : Pass). pass.enters) in
      let walks = IsWalk-walk next heads are name (length passes) name seen (omega (arith, size)) is out so_far.named so_far.distinct
      (λ y y_in. elim y_in [ inl same ↦ inl same | inr later ↦ inr (fed-all next components so_far.rounds y later) ]) in
      let all = all_of-more components names in
      let starts = begins name (length passes) (some (length passes) size is) walks.led in
      let first : slice_index names 0 ≡ name = starts.0 in
      record {
        rounds = AllByRecursion-append (IsRound next) components (names ∷ []) so_far.rounds (starts.1, tt);
        least = AllByRecursion-append BeginsLeast components (names ∷ []) so_far.least
            ((λ y y_in. least_in y (slice_index names 0) first (walks.named y y_in) (walks.fresh y y_in)), tt);
        below = AllByRecursion-append (λ (xs : List ℕ). slice_index xs 0 < name + 1) components (names ∷ [])
            (All-weaker (λ xs. slice_index xs 0 < name) (λ xs. slice_index xs 0 < name + 1) components
            (λ xs less. omega (arith, less)) so_far.below)
            (omega (arith, first), tt);
        ascending = AreAscending-more components names
            (All-weaker (λ xs. slice_index xs 0 < name) (λ xs. slice_index xs 0 < slice_index names 0) components
            (λ xs less. omega (arith, less, first)) so_far.below)
            so_far.ascending;
        named = λ y y_in. elim (IsIn-parts y seen names (subst (λ (xs : List ℕ). IsIn y xs) all y_in)) [
          | inl front ↦ so_far.named y front
          | inr back ↦ walks.named y back
        ];
        distinct = subst (λ (xs : List ℕ). AreDistinct xs) (sym all)
            (AreDistinct-append seen names so_far.distinct walks.distinct (λ y front back. walks.fresh y back front));
        covers = λ y y_below y_is. subst (λ (xs : List ℕ). IsIn y xs) (sym all)
            (elim (cases_eq y name) [
              | inl same ↦ IsIn-right y seen names (stands y same (length passes) (some (length passes) size is))
              | inr other ↦ IsIn-left y seen names (so_far.covers y (omega (arith, y_below, other)) y_is)
            ]);
      }
    where
      some : (fuel : ℕ) → length (map (λ (pass : Pass). pass.enters) passes) ≡ fuel → IsIn name (map (λ (pass : Pass). pass.enters) passes)
          → 1 ≤ fuel
      some fuel size here = omega (arith, size, not_empty (map (λ (pass : Pass). pass.enters) passes) here)
        where
          not_empty : (xs : List ℕ) → IsIn name xs → 1 ≤ length xs
          not_empty [] none = absurd none
          not_empty (x ∷ xs) here_in = omega arith

      begins : (from fuel : ℕ) → 1 ≤ fuel → AreLed (follows passes) from from (walk (follows passes) from fuel from)
          → (slice_index (walk (follows passes) from fuel from) 0 ≡ from) × IsRound (follows passes) (walk (follows passes) from fuel from)
      begins from zero positive led = absurd (omega (arith, positive))
      begins from (suc fuel) positive led = (refl, led.1)

      stands : (y : ℕ) → y ≡ name → (fuel : ℕ) → 1 ≤ fuel → IsIn y (walk (follows passes) name fuel name)
      stands y same zero positive = absurd (omega (arith, positive))
      stands y same (suc fuel) positive = inl same

      least_in : (y first : ℕ) → first ≡ name → IsIn y (map (λ (pass : Pass). pass.enters) passes)
          → (IsIn y (all_of components) → ⊥) → first ≤ y
      least_in y first is_name y_is fresh = elim (cases_lt y name) [
        | inl less ↦ absurd (fresh (so_far.covers y less y_is))
        | inr not_less ↦ omega (arith, not_less, is_name)
      ]

  AreSoFar-step : (name : ℕ) (components : List (List ℕ)) → AreSoFar next heads name components
      → AreSoFar next heads (name + 1) (with_component passes components name)
  AreSoFar-step name components so_far = by (is_in heads name && not (is_in (all_of components) name)) refl
    where
      by : (b : Bool) → (is_in (map (λ (pass : Pass). pass.enters) passes) name && not (is_in (all_of components) name)) ≡ b
          → AreSoFar (follows passes) (map (λ (pass : Pass). pass.enters) passes) (name + 1)
          (if b then components ++ walk (follows passes) name (length passes) name ∷ [] else components)
      by true holds = grind (arith, nat_tests, and_parts, AreSoFar-new, true-is_in, false-is_in, not-true)
      by false fails = record {
        rounds = so_far.rounds;
        least = so_far.least;
        below = All-weaker (λ xs. slice_index xs 0 < name) (λ xs. slice_index xs 0 < name + 1) components
            (λ xs less. omega (arith, less)) so_far.below;
        ascending = so_far.ascending;
        named = so_far.named;
        distinct = so_far.distinct;
        covers = λ y y_below y_is. elim (cases_eq y name) [
          | inl same ↦ elim (cases_Bool (is_in (all_of components) y)) [
            | inl old ↦ true-is_in y (all_of components) old
            | inr new ↦ absurd (tests_fail y same y_is new)
          ]
          | inr other ↦ so_far.covers y (omega (arith, y_below, other)) y_is
        ];
      }
        where
          tests_fail : (y : ℕ) → y ≡ name → IsIn y (map (λ (pass : Pass). pass.enters) passes)
              → is_in (all_of components) y ≡ false → ⊥
          tests_fail y same y_is new = grind (arith, nat_tests, both_ways, and_from, is_in-true, IsIn-same)

  pub AreSoFar-fold : (a n : ℕ) (components : List (List ℕ)) → AreSoFar next heads a components
      → AreSoFar next heads (a + n) (fold (with_component passes) components (range_with_len a n))
  AreSoFar-fold a zero components so_far = grind (arith, nat_tests)
  AreSoFar-fold a (suc n) components so_far =
      grind (arith, nat_tests, AreSoFar-step, AreSoFar-fold (a + 1) n (with_component passes components a) (AreSoFar-step a components so_far))
