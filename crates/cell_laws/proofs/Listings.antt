-- How lists are put together that are one another's up to order and names.
use Rattle.std.proofs.lemmas.Bool.Decides.{nat_tests}
use Rattle.std.proofs.Common.{◌≡◌, ◌≢◌, ℕ, inl, inr, ◌+◌, ◌<◌, ◌∙◌, List, ◌++◌, length, map, get_or, refl, sym, subst, ap, ap₂, arith, Bool, cond}
use Rattle.std.specs.List.{Contains, filter, flat_map, sum_by}
use Rattle.std.proofs.lemmas.List.{get_or_default}
use Rattle.std.proofs.lemmas.List.Elements.{Contains-append_cases, Contains-append_left, Contains-append_right}
use Rattle.std.proofs.lemmas.List.Sums.{sum_by-append}
use Rattle.kh_types.proofs.Lists.{Contains-filter, Contains-flat_map, Contains-map}
use Rattle.kh_types.proofs.ListSums.{sum_by-alike, sum_by-filter, sum_by-flat_map, sum_by-map, sum_by-turned}
use Rattle.cell_laws.specs.Alike.{AreListed, HasNoDoubles}
use Rattle.cell_laws.specs.Elimination.{ArePivots}
use Rattle.cell_laws.proofs.AlikeComplexes.{pivots-from_places}
use Rattle.cell_laws.proofs.Matched.{place-once}
use Rattle.cell_laws.proofs.Members.{Contains-flattened, Contains-kept, Contains-made, sum_by-members}

pub listed-same : {A : Type 0} (xs : List A) → AreListed (λ (x : A). x) xs xs
listed-same xs = record { there = λ x has. has; back = λ x has. (x, has, refl); sums = λ f. refl }

pub listed-named : {A B : Type 0} (to : A → B) (xs : List A) → AreListed to xs (map to xs)
listed-named to xs = grind (arith, nat_tests, Contains-map, Contains-made, sum_by-map)

pub listed-later : {A B C : Type 0} (to : A → B) (on : B → C) (xs : List A) (ys : List B) (zs : List C) → AreListed to xs ys
    → AreListed on ys zs → AreListed (λ x. on (to x)) xs zs
listed-later to on xs ys zs first second =
    record {
      there = λ x has. second.there (to x) (first.there x has);
      back = λ z has.
          let y = second.back z has in
          let x = first.back y.0 y.1 in
          (x.0, x.1, ap on x.2 ∙ y.2);
      sums = λ f. second.sums f ∙ first.sums (λ y. f (on y));
    }

pub listed-append : {A B : Type 0} (to : A → B) (xs us : List A) (ys vs : List B) → AreListed to xs ys → AreListed to us vs
    → AreListed to (xs ++ us) (ys ++ vs)
listed-append {A} {B} to xs us ys vs first second =
    record {
      there = λ x has. elim (Contains-append_cases xs us x has) [
        | inl left ↦ Contains-append_left ys vs (to x) (first.there x left)
        | inr right ↦ Contains-append_right ys vs (to x) (second.there x right)
      ];
      back = λ y has. elim (Contains-append_cases ys vs y has) [
        | inl left ↦
            let found = first.back y left in
            (found.0, Contains-append_left xs us found.0 found.1, found.2)
        | inr right ↦
            let found = second.back y right in
            (found.0, Contains-append_right xs us found.0 found.1, found.2)
      ];
      sums = λ f.
          sum_by-append f ys vs ∙ ap₂ (λ m n. m + n) (first.sums f) (second.sums f)
          ∙ sym (sum_by-append (λ x. f (to x)) xs us);
    }

pub listed-exchanged : {A : Type 0} (xs ys : List A) → AreListed (λ (x : A). x) (xs ++ ys) (ys ++ xs)
listed-exchanged {A} xs ys =
    record {
      there = λ x has. turned xs ys x has;
      back = λ x has. (x, turned ys xs x has, refl);
      sums = λ f. sum_by-append f ys xs ∙ commuted (sum_by f ys) (sum_by f xs) ∙ sym (sum_by-append f xs ys);
    }
  where
    commuted : (m n : ℕ) → m + n ≡ n + m
    commuted m n = omega arith

    turned : (xs ys : List A) (x : A) → Contains (xs ++ ys) x → Contains (ys ++ xs) x
    turned xs ys x has = elim (Contains-append_cases xs ys x has) [
      | inl left ↦ Contains-append_right ys xs x left
      | inr right ↦ Contains-append_left ys xs x right
    ]

pub listed-kept : {A B : Type 0} (to : A → B) (test : B → Bool) (xs : List A) (ys : List B) → AreListed to xs ys
    → AreListed to (filter (λ x. test (to x)) xs) (filter test ys)
listed-kept to test xs ys listed =
    record {
      there = λ x has.
          let kept = Contains-kept (λ x. test (to x)) xs x has in
          Contains-filter test ys (to x) kept.1 (listed.there x kept.0);
      back = λ y has.
          let kept = Contains-kept test ys y has in
          let found = listed.back y kept.0 in
          (found.0, Contains-filter (λ x. test (to x)) xs found.0 (ap test found.2 ∙ kept.1) found.1, found.2);
      sums = λ f.
          sum_by-filter f test ys ∙ listed.sums (λ y. cond (test y) (f y) 0)
          ∙ sym (sum_by-filter (λ x. f (to x)) (λ x. test (to x)) xs);
    }

pub listed-flat : {A B C D : Type 0} (to : A → B) (on : C → D) (parts : A → List C) (others : B → List D) (xs : List A) (ys : List B)
    → AreListed to xs ys → ((x : A) → Contains xs x → AreListed on (parts x) (others (to x)))
    → AreListed on (flat_map parts xs) (flat_map others ys)
listed-flat to on parts others xs ys listed each =
    record {
      there = λ c has.
          let found = Contains-flattened parts xs c has in
          Contains-flat_map others ys (to found.0) (on c) (listed.there found.0 found.1) ((each found.0 found.1).there c found.2);
      back = λ d has.
          let found = Contains-flattened others ys d has in
          let home = listed.back found.0 found.1 in
          let part = (each home.0 home.1).back d (subst (λ b. Contains (others b) d) (sym home.2) found.2) in
          (part.0, Contains-flat_map parts xs home.0 part.0 home.1 part.1, part.2);
      sums = λ f.
          sum_by-flat_map f others ys ∙ listed.sums (λ y. sum_by f (others y))
          ∙ sum_by-members (λ x. sum_by f (others (to x))) (λ x. sum_by (λ c. f (on c)) (parts x)) xs (λ x has. (each x has).sums f)
          ∙ sym (sum_by-flat_map (λ c. f (on c)) parts xs);
    }

pub listed-turned : {A B C : Type 0} (pair : A → B → C) (xs : List A) (ys : List B)
    → AreListed (λ (c : C). c) (flat_map (λ x. map (pair x) ys) xs) (flat_map (λ y. map (λ x. pair x y) xs) ys)
listed-turned {A} {B} {C} pair xs ys =
    record {
      there = λ c has.
          let x = Contains-flattened (λ x. map (pair x) ys) xs c has in
          let y = Contains-made (pair x.0) ys c x.2 in
          Contains-flat_map (λ y. map (λ x. pair x y) xs) ys y.0 c y.1
          (subst (Contains (map (λ x. pair x y.0) xs)) y.2 (Contains-map (λ x. pair x y.0) xs x.0 x.1));
      back = λ c has.
          let y = Contains-flattened (λ y. map (λ x. pair x y) xs) ys c has in
          let x = Contains-made (λ x. pair x y.0) xs c y.2 in (
            c,
            Contains-flat_map (λ x. map (pair x) ys) xs x.0 c x.1
                (subst (Contains (map (pair x.0) ys)) x.2 (Contains-map (pair x.0) ys y.0 y.1)),
            refl,
          );
      sums = λ f.
          sum_by-flat_map f (λ y. map (λ x. pair x y) xs) ys
          ∙ sum_by-alike (λ y. sum_by f (map (λ x. pair x y) xs)) (λ y. sum_by (λ x. f (pair x y)) xs)
          (λ y. sum_by-map f (λ x. pair x y) xs) ys
          ∙ sym (sum_by-turned (λ x y. f (pair x y)) xs ys)
          ∙ sum_by-alike (λ x. sum_by (λ y. f (pair x y)) ys) (λ x. sum_by f (map (pair x) ys))
          (λ x. sym (sum_by-map f (pair x) ys)) xs
          ∙ sym (sum_by-flat_map f (λ x. map (pair x) ys) xs);
    }

-- pivots in a list without doubles
pub pivots-without_doubles : {A : Type 0} (c : A → A → ℕ) (pairs : List (A × A)) → HasNoDoubles pairs
    → ((pair : A × A) → Contains pairs pair → c pair.0 pair.1 ≢ 0)
    → ((pair other : A × A) → Contains pairs pair → Contains pairs other → pair ≢ other → c pair.0 other.1 ≡ 0)
    → ArePivots c pairs
pivots-without_doubles {A} c pairs once some apart =
    pivots-from_places c pairs (λ k d within. some (get_or pairs k d) (stands k d within))
    (λ k l d k_within l_within other.
    apart (get_or pairs k d) (get_or pairs l d) (stands k d k_within) (stands l d l_within)
    (λ same. other (place-once pairs k l d once k_within l_within same)))
  where
    stands : (k : ℕ) (d : A × A) → k < length pairs → Contains pairs (get_or pairs k d)
    stands k d within = (k, within, get_or_default pairs k (get_or pairs k d) d within)
