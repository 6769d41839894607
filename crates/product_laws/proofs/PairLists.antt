-- Tests, lists of pairs, and lists less two elements.
use Rattle.std.proofs.lemmas.Bool.Decides.{nat_tests}
use Rattle.std.proofs.Common.{◌≡◌, ◌≢◌, ℕ, inl, inr, ◌∙◌, List, [], ◌∷◌, length, map, refl, sym, subst, ap, ap₂, arith, Bool, true, false, not, ◌&&◌}
use Rattle.std.specs.List.{Contains, filter, sum_by}
use Rattle.std.proofs.lemmas.Bool.{both_ways, cases_Bool}
use Rattle.std.proofs.lemmas.List.Sums.{sum_by-cons}
use Rattle.kh_types.proofs.Lists.{Contains-cases, Contains-filter, Contains-first, Contains-flat_map, Contains-later, Contains-map}
use Rattle.kh_types.proofs.ListSums.{sum_by-alike, sum_by-flat_map, sum_by-map}
use Rattle.cell_laws.specs.Alike.{AreListed, HasNoDoubles}
use Rattle.cell_laws.proofs.Listings.{listed-flat, listed-same}
use Rattle.cell_laws.proofs.Matched.{AreListed-matched}
use Rattle.cell_laws.proofs.Members.{Contains-flattened, Contains-kept, Contains-made}
use Rattle.cell_laws.proofs.NoDoubles.{once-filter, once-first, once-flat, once-map}
use Rattle.product_laws.specs.Products.{IsTest, all_pairs}

-- tests
pub test-other : {A : Type 0} (same : A → A → Bool) (x y : A) → IsTest same → x ≢ y → same x y ≡ false
test-other same x y test other = grind (arith, nat_tests)

pub test-apart : {A : Type 0} (same : A → A → Bool) (x y : A) → IsTest same → same x y ≡ false → x ≢ y
test-apart same x y test fails is = both_ways (same x y) fails (ap (same x) (sym is) ∙ test.self x)

-- pairs
module _ {A B : Type 0} where
  pub pairs-contain : (xs : List A) (ys : List B) (x : A) (y : B) → Contains xs x → Contains ys y → Contains (all_pairs xs ys) (x, y)
  pairs-contain xs ys x y has_x has_y =
      Contains-flat_map (λ (x : A). map (λ (y : B). (x, y)) ys) xs x (x, y) has_x (Contains-map (λ (y : B). (x, y)) ys y has_y)

  pub pairs-parts : (xs : List A) (ys : List B) (z : A × B) → Contains (all_pairs xs ys) z → Contains xs z.0 × Contains ys z.1
  pairs-parts xs ys z has =
      let x = Contains-flattened (λ (x : A). map (λ (y : B). (x, y)) ys) xs z has in
      let y = Contains-made (λ (y : B). (x.0, y)) ys z x.2 in (
        subst (λ u. Contains xs u) (ap (λ (w : A × B). w.0) y.2) x.1,
        subst (λ u. Contains ys u) (ap (λ (w : A × B). w.1) y.2) y.1,
      )

  pub sum_by-pairs : (f : A × B → ℕ) (xs : List A) (ys : List B)
      → sum_by f (all_pairs xs ys) ≡ sum_by (λ x. sum_by (λ y. f (x, y)) ys) xs
  sum_by-pairs f xs ys = grind (arith, nat_tests, sum_by-flat_map, sum_by-alike, sum_by-map)

  pub pairs-once : (xs : List A) (ys : List B) → HasNoDoubles xs → HasNoDoubles ys → HasNoDoubles (all_pairs xs ys)
  pairs-once xs ys once_x once_y =
      once-flat (λ (x : A). map (λ (y : B). (x, y)) ys) xs once_x
      (λ x. once-map (λ (y : B). (x, y)) ys (λ y z same. ap (λ (w : A × B). w.1) same) once_y)
      (λ x u z has_x has_u.
      let y = Contains-made (λ (y : B). (x, y)) ys z has_x in
      let v = Contains-made (λ (y : B). (u, y)) ys z has_u in
      ap (λ (w : A × B). w.0) (y.2 ∙ sym v.2))

  pub pairs-listed : (xs us : List A) (ys : List B) → AreListed (λ (x : A). x) xs us
      → AreListed (λ (z : A × B). z) (all_pairs xs ys) (all_pairs us ys)
  pairs-listed xs us ys listed =
      listed-flat (λ (x : A). x) (λ (z : A × B). z)
      (λ (x : A). map (λ (y : B). (x, y)) ys) (λ (x : A). map (λ (y : B). (x, y)) ys) xs us listed
      (λ x has. listed-same (map (λ (y : B). (x, y)) ys))

-- a term of a sum that is 0
pub term-nothing : {A : Type 0} (f : A → ℕ) (xs : List A) (x : A) → sum_by f xs ≡ 0 → Contains xs x → f x ≡ 0
term-nothing f [] x none has = absurd (omega (arith, has.1))
term-nothing f (y ∷ ys) x none has = elim (Contains-cases y x ys has) [
  | inl is ↦ ap f (sym is) ∙ omega (arith, sum_by-cons f y ys, none)
  | inr later ↦ term-nothing f ys x (omega (arith, sum_by-cons f y ys, none)) later
]

pub length-ones : {A : Type 0} (xs : List A) → length xs ≡ sum_by (λ x. 1) xs
length-ones [] = refl
length-ones {A} (x ∷ xs) = omega (arith, length-ones xs, sum_by-cons (λ (x : A). 1) x xs)

-- all but two
module _ {A : Type 0} (same : A → A → Bool) (test : IsTest same) (xs : List A) (once : HasNoDoubles xs) (x y : A) (differ : x ≢ y)
    (has_x : Contains xs x) (has_y : Contains xs y) where
  abbrev is_other : A → Bool
  is_other z = not (same z x) && not (same z y)

  abbrev pub others : List A
  others = filter is_other xs

  other-true : (z : A) → z ≢ x → z ≢ y → is_other z ≡ true
  other-true z no_x no_y = ap₂ (λ (a b : Bool). not a && not b) (test-other same z x test no_x) (test-other same z y test no_y)

  pub no-first : Contains others x → ⊥
  no-first has =
      both_ways (is_other x) (ap (λ (a : Bool). not a && not (same x y)) (test.self x))
      (Contains-kept is_other xs x has).1

  pub no-second : Contains others y → ⊥
  no-second has =
      both_ways (is_other y) (ap (λ (b : Bool). not (same y x) && not b) (test.self y) ∙ never (not (same y x)))
      (Contains-kept is_other xs y has).1
    where
      never : (b : Bool) → (b && false) ≡ false
      never true = refl
      never false = refl

  pub others-once : HasNoDoubles others
  others-once = once-filter is_other xs once

  pub others-listed : AreListed (λ (z : A). z) xs (x ∷ y ∷ others)
  others-listed =
      AreListed-matched (λ (z : A). z) (λ (z : A). z) xs (x ∷ y ∷ others)
      (record {
        first_once = once;
        second_once = once-first x (y ∷ others)
            (λ has. elim (Contains-cases y x others has) [
              | inl is ↦ differ (sym is)
              | inr later ↦ no-first later
            ])
            (once-first y others no-second others-once);
        there = λ z has. elim (cases_Bool (same z x)) [
          | inl passes ↦ subst (λ (u : A). Contains (x ∷ y ∷ others) u) (sym (test.one z x passes)) (Contains-first x (y ∷ others))
          | inr not_x ↦ elim (cases_Bool (same z y)) [
            | inl passes ↦
                subst (λ (u : A). Contains (x ∷ y ∷ others) u) (sym (test.one z y passes))
                (Contains-later x y (y ∷ others) (Contains-first y others))
            | inr not_y ↦
                Contains-later x z (y ∷ others)
                (Contains-later y z others (Contains-filter is_other xs z (ap₂ (λ (a b : Bool). not a && not b) not_x not_y) has))
          ]
        ];
        back_there = λ z has. elim (Contains-cases x z (y ∷ others) has) [
          | inl is ↦ subst (λ (u : A). Contains xs u) is has_x
          | inr later ↦ elim (Contains-cases y z others later) [
            | inl is ↦ subst (λ (u : A). Contains xs u) is has_y
            | inr rest ↦ (Contains-kept is_other xs z rest).0
          ]
        ];
        to_back = λ z has. refl;
        back_to = λ z has. refl;
      })
