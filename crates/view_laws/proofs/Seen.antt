-- What is seen of a partition: the first names of its classes, and labels by them. All of it depends only on which names are together.
use Rattle.std.proofs.Common.{◌≡◌, ℕ, suc, inl, inr, ◌+◌, ◌<◌, ◌≤◌, ◌∙◌, List, [], ◌∷◌, get_or, length, map, refl, sym, ap, ap₂, arith, Bool, true, false, cond, not, ◌&&◌, ◌||◌}
use Rattle.std.specs.Prelude.{nat_eq, nat_lt}
use Rattle.std.specs.List.{Contains, position_or_len}
use Rattle.std.proofs.lemmas.Bool.{both_ways, cases_Bool, eq-eqb, eqb-true}
use Rattle.std.proofs.lemmas.List.{get_or_default}
use Rattle.kh_types.specs.Bits.{bit, one_if, ones}
use Rattle.kh_types.proofs.Lists.{Contains-filter}
use Rattle.cell_laws.specs.Alike.{HasNoDoubles}
use Rattle.cell_laws.proofs.Members.{Contains-cases, Contains-first, Contains-kept, Contains-later}
use Rattle.square_laws.proofs.LabelNumbers.{number_from}
use Rattle.view_laws.specs.Partitions.{AgreeOn, changes_have, counts_labels, deformed_saddle_number, first_with, is_kept, keeps_classes, label_in, saddle_number, seen, seen_count}
use Rattle.cell_laws.proofs.Labels.{bit-number, place}
use Rattle.cell_laws.proofs.Places.{numbers-test, place-found}
use Rattle.view_laws.proofs.Tests.{all-agree, filter-agree}
use Rattle.cell_laws.proofs.NoDoubles.{once-filter}

-- the first element that passes a test
pub record IsFound (p : ℕ → Bool) (xs : List ℕ) : Type 0 where
  pub within : position_or_len p xs < length xs
  pub passes : p (get_or xs (position_or_len p xs) 0) ≡ true

pub found-first : (p : ℕ → Bool) (xs : List ℕ) (z : ℕ) → Contains xs z → p z ≡ true → IsFound p xs
found-first p [] z has passes = absurd (omega (arith, has.1))
found-first p (x ∷ xs) z has passes = elim (cases_Bool (p x)) [
  | inl here ↦
      let at : position_or_len p (x ∷ xs) ≡ 0 = ap (λ b. cond (not b) (1 + position_or_len p xs) 0) here in
      record { within = omega (arith, at); passes = ap (λ k. p (get_or (x ∷ xs) k 0)) at ∙ here }
  | inr fails ↦
      let at : position_or_len p (x ∷ xs) ≡ suc (position_or_len p xs) =
      ap (λ b. cond (not b) (1 + position_or_len p xs) 0) fails ∙ one_more (position_or_len p xs) in
      let later : Contains xs z = elim (Contains-cases x z xs has) [
        | inl is ↦ absurd (both_ways (p x) fails (ap p is ∙ passes))
        | inr rest ↦ rest
      ] in
      let found = found-first p xs z later passes in
      record { within = omega (arith, at, found.within); passes = ap (λ k. p (get_or (x ∷ xs) k 0)) at ∙ found.passes }
]
  where
    one_more : (n : ℕ) → 1 + n ≡ suc n
    one_more n = omega arith

pub position-agree : (p q : ℕ → Bool) (xs : List ℕ) → ((x : ℕ) → Contains xs x → p x ≡ q x) → position_or_len p xs ≡ position_or_len q xs
position-agree p q [] same = refl
position-agree p q (x ∷ xs) same =
    ap₂ (λ b n. cond (not b) (1 + n) 0) (same x (Contains-first x xs))
    (position-agree p q xs (λ y has. same y (Contains-later x y xs has)))

-- names are together where they have one key
abbrev pub by_key : (ℕ → ℕ) → ℕ → ℕ → Bool
by_key key x y = nat_eq (key x) (key y)

module _ (key : ℕ → ℕ) (names : List ℕ) where
  abbrev pub first : ℕ → ℕ
  first = first_with (by_key key) names

  abbrev pub firsts : List ℕ
  firsts = seen (by_key key) names

  pub first-has : (x : ℕ) → Contains names x → Contains names (first x)
  first-has x has =
      let found = found-first (by_key key x) names x has (eq-eqb (key x) (key x) refl) in (
        position_or_len (by_key key x) names,
        found.within,
        get_or_default names (position_or_len (by_key key x) names) (first x) 0
            found.within,
      )

  pub first-key : (x : ℕ) → Contains names x → key (first x) ≡ key x
  first-key x has =
      sym (eqb-true (key x) (key (first x)) (found-first (by_key key x) names x has (eq-eqb (key x) (key x) refl)).passes)

  pub first-same : (x y : ℕ) → key x ≡ key y → first x ≡ first y
  first-same x y same = ap (λ k. get_or names (position_or_len (λ z. nat_eq k (key z)) names) 0) same

  pub seen-from : (x : ℕ) → Contains firsts x → Contains names x × (first x ≡ x)
  seen-from x has =
      let kept = Contains-kept (λ z. nat_eq (first z) z) names x has in (kept.0, eqb-true (first x) x kept.1)

  pub seen-of : (x : ℕ) → Contains names x → Contains firsts (first x)
  seen-of x has =
      Contains-filter (λ z. nat_eq (first z) z) names (first x)
      (eq-eqb (first (first x)) (first x) (first-same (first x) x (first-key x has))) (first-has x has)

  pub seen-once : HasNoDoubles names → HasNoDoubles firsts
  seen-once once = once-filter (λ z. nat_eq (first z) z) names once

  pub seen-apart : (x y : ℕ) → Contains firsts x → Contains firsts y → key x ≡ key y → x ≡ y
  seen-apart x y has_x has_y same = sym (seen-from x has_x).1 ∙ first-same x y same ∙ (seen-from y has_y).1

  -- labels by what is seen are those of a function that has one value for each key
  pub label-seen : (f : ℕ → ℕ) → ((z : ℕ) → f z ≤ 1) → ((x y : ℕ) → key x ≡ key y → f x ≡ f y) → (x : ℕ) → Contains names x
      → label_in (by_key key) names (number_from (map f firsts)) x ≡ f x
  label-seen f small respects x has =
      let found = place-found nat_eq 0 (first x) firsts numbers-test (seen-of x has) in
      bit-number f firsts (place (first x) firsts) small found.within ∙ ap f found.there
      ∙ respects (first x) x (first-key x has)

-- partitions that are the same on the names
module _ (r s : ℕ → ℕ → Bool) (names : List ℕ) (same : AgreeOn names r s) where
  pub first-alike : (x : ℕ) → Contains names x → first_with r names x ≡ first_with s names x
  first-alike x has = ap (λ k. get_or names k 0) (position-agree (r x) (s x) names (λ y has_y. same x y has has_y))

  pub seen-alike : seen r names ≡ seen s names
  seen-alike =
      filter-agree (λ x. nat_eq (first_with r names x) x) (λ x. nat_eq (first_with s names x) x) names
      (λ x has. ap (λ z. nat_eq z x) (first-alike x has))

  pub label-alike : (label x : ℕ) → Contains names x → label_in r names label x ≡ label_in s names label x
  label-alike label x has =
      ap₂ (λ (z : ℕ) (xs : List ℕ). bit label (position_or_len (nat_eq z) xs)) (first-alike x has) seen-alike

-- the number of a saddle depends only on which names are together
module _ (r t s u : ℕ → ℕ → Bool) (names : List ℕ) (label other : ℕ) (first : AgreeOn names r s) (second : AgreeOn names t u) where
  kept-alike : (x : ℕ) → Contains names x → is_kept r t names x ≡ is_kept s u names x
  kept-alike x has =
      all-agree (λ y. nat_eq (one_if (r x y)) (one_if (t x y))) (λ y. nat_eq (one_if (s x y)) (one_if (u x y))) names
      (λ y has_y. ap₂ (λ a b. nat_eq (one_if a) (one_if b)) (first x y has has_y) (second x y has has_y))

  keeps-alike : keeps_classes r t names label other ≡ keeps_classes s u names label other
  keeps-alike =
      all-agree (λ x. not (is_kept r t names x) || nat_eq (label_in r names label x) (label_in t names other x))
      (λ x. not (is_kept s u names x) || nat_eq (label_in s names label x) (label_in u names other x)) names
      (λ x has.
      ap₂ (λ a b. not a || b) (kept-alike x has)
      (ap₂ nat_eq (label-alike r s names first label x has) (label-alike t u names second other x has)))

  have-alike : (l : ℕ) → changes_have r t names label other l ≡ changes_have s u names label other l
  have-alike l =
      all-agree (λ x. is_kept r t names x || (nat_eq (label_in r names label x) l && nat_eq (label_in t names other x) l))
      (λ x. is_kept s u names x || (nat_eq (label_in s names label x) l && nat_eq (label_in u names other x) l)) names
      (λ x has.
      ap₂ (λ a b. a || b) (kept-alike x has)
      (ap₂ (λ a b. nat_eq a l && nat_eq b l) (label-alike r s names first label x has) (label-alike t u names second other x has)))

  counts-alike : counts_labels r t names label other ≡ counts_labels s u names label other
  counts-alike =
      ap₂ (λ (xs ys : List ℕ). nat_eq (ones (length ys) other) (ones (length xs) label + one_if (nat_lt (length xs) (length ys))))
      (seen-alike r s names first) (seen-alike t u names second)

  pub saddle-alike : (h k : ℕ) → deformed_saddle_number h k r t names label other ≡ deformed_saddle_number h k s u names label other
  saddle-alike h k =
      ap₂ (λ (m n : ℕ). m + n) (ap₂ (λ (a b : Bool). one_if (a && b)) keeps-alike counts-alike)
      (ap₂ (λ (a : Bool) (n : ℕ). cond a n 0) keeps-alike
      (ap₂ (λ (xs ys : List ℕ). cond (nat_lt (length xs) (length ys)) (cond (changes_have r t names label other 0) k 0)
      (cond (changes_have r t names label other 1) h 0)) (seen-alike r s names first) (seen-alike t u names second)
      ∙ ap₂ (λ (a b : Bool). cond (nat_lt (length (seen s names)) (length (seen u names))) (cond a k 0) (cond b h 0))
      (have-alike 0) (have-alike 1)))

-- with h = k = 0 it is the plain one
pub saddle-plain : (before behind : ℕ → ℕ → Bool) (names : List ℕ) (label other : ℕ)
    → deformed_saddle_number 0 0 before behind names label other ≡ saddle_number before behind names label other
saddle-plain before behind names label other =
    ap (λ n. saddle_number before behind names label other + n)
    (alone (keeps_classes before behind names label other) (nat_lt (seen_count before names) (seen_count behind names))
    (changes_have before behind names label other 0) (changes_have before behind names label other 1) 0)
    ∙ nothing (saddle_number before behind names label other)
  where
    alone : (a b c d : Bool) (n : ℕ) → cond a (cond b (cond c n n) (cond d n n)) n ≡ n
    alone false b c d n = refl
    alone true true true d n = refl
    alone true true false d n = refl
    alone true false c true n = refl
    alone true false c false n = refl

    nothing : (n : ℕ) → n + 0 ≡ n
    nothing n = omega arith
