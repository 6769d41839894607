-- The product of two complexes is one: its square is that of either factor, and the two ways along an edge of each, which cancel.
use Rattle.std.proofs.lemmas.Bool.Decides.{nat_tests}
use Rattle.std.proofs.Common.{◌≡◌, ◌≢◌, ℕ, ◌⊎◌, inl, inr, ◌+◌, ◌*◌, ◌%◌, ◌<◌, ◌∙◌, ℤ, pos, ◌+ℤ◌, List, sym, ap, ap₂, arith, Bool, cond}
use Rattle.std.specs.List.{Contains, sum_by}
use Rattle.std.proofs.lemmas.Bool.{cases_Bool, cases_eq}
use Rattle.std.proofs.lemmas.Int.{ints}
use Rattle.std.proofs.Math.Nat.{mod-mod, zero-mod}
use Rattle.kh_types.specs.Residues.{HasInverses, Same}
use Rattle.kh_types.proofs.ListSums.{sum_by-alike, sum_by-plus, sum_by-times}
use Rattle.kh_types.proofs.Residues.{same-add, same-equal, same-mul, same-scaled}
use Rattle.cell_laws.specs.Alike.{HasNoDoubles}
use Rattle.cell_laws.specs.Cells.{AreComplex}
use Rattle.cell_laws.proofs.Members.{sum_by-same}
use Rattle.cell_laws.proofs.NoDoubles.{sum_by-only}
use Rattle.product_laws.specs.Products.{AreTurned, Factor, IsFactor, IsTest, all_pairs, pair_coefficient, product_complex}
use Rattle.product_laws.proofs.PairCoefficients.{by-first, by-neither, by-second, no-loop, pair-below}
use Rattle.product_laws.proofs.PairLists.{pairs-parts, sum_by-pairs, test-other}

-- sums with one term, where a test picks it
module _ {A : Type 0} (same : A → A → Bool) (xs : List A) (x : A) (g : A → ℕ) (test : IsTest same) (once : HasNoDoubles xs)
    (has : Contains xs x) where
  zero_times : (n : ℕ) → 0 * n ≡ 0
  zero_times n = omega arith

  one_times : (n : ℕ) → 1 * n ≡ n
  one_times n = omega arith

  pub sum-front : sum_by (λ u. cond (same x u) 1 0 * g u) xs ≡ g x
  sum-front =
      sum_by-only (λ u. cond (same x u) 1 0 * g u) xs x once has
      (λ u has_u other. ap (λ (b : Bool). cond b 1 0 * g u) (test-other same x u test (λ is. other (sym is))) ∙ zero_times (g u))
      ∙ ap (λ (b : Bool). cond b 1 0 * g x) (test.self x) ∙ one_times (g x)

  pub sum-back : sum_by (λ u. cond (same u x) 1 0 * g u) xs ≡ g x
  sum-back =
      sum_by-only (λ u. cond (same u x) 1 0 * g u) xs x once has
      (λ u has_u other. ap (λ (b : Bool). cond b 1 0 * g u) (test-other same u x test other) ∙ zero_times (g u))
      ∙ ap (λ (b : Bool). cond b 1 0 * g x) (test.self x) ∙ one_times (g x)

module _ {A B : Type 0} (p : ℕ) (first : Factor A) (second : Factor B) (field : HasInverses p) (is : IsFactor p first)
    (second_is : IsFactor p second) (turned : AreTurned p first second) where
  positive : 0 < p
  positive = omega (arith, field.above_one)

  abbrev xs : List A
  xs = first.cells.list

  abbrev ys : List B
  ys = second.cells.list

  abbrev a : A → A → ℕ
  a = first.cells.coefficient

  abbrev b : B → B → ℕ
  b = second.cells.coefficient

  abbrev s : A → ℕ
  s = first.sign

  abbrev t : B → ℕ
  t = second.sign

  abbrev c : A × B → A × B → ℕ
  c = pair_coefficient p first second

  abbrev D : A → A → ℕ
  D x u = cond (first.same x u) 1 0

  abbrev E : B → B → ℕ
  E y v = cond (second.same y v) 1 0

  -- a coefficient as a sum
  abbrev both : A → B → A → B → ℕ
  both x y u v = E y v * (t y * a x u) + D x u * (s x * b y v)

  as-sum : (x : A) (y : B) (u : A) (v : B) → Contains xs x → Contains ys y → Same p (c (x, y) (u, v)) (both x y u v)
  as-sum x y u v has_x has_y = elim (cases_Bool (second.same y v)) [
    | inr fails ↦ elim (cases_Bool (first.same x u)) [
      | inr fails_too ↦
          same-equal p (c (x, y) (u, v)) (both x y u v)
          (by-neither p first second x u y v fails fails_too
          ∙ sym (ap₂ (λ (e d : Bool). cond e 1 0 * (t y * a x u) + cond d 1 0 * (s x * b y v)) fails fails_too
          ∙ neither (t y * a x u) (s x * b y v)))
      | inl passes ↦
          same-equal p (c (x, y) (u, v)) (s x * b y v % p) (by-second p first second x u y v fails passes)
          ∙ mod-mod (s x * b y v) p
          ∙ same-equal p (s x * b y v) (both x y u v)
          (sym (ap₂ (λ (e d : Bool). cond e 1 0 * (t y * a x u) + cond d 1 0 * (s x * b y v)) fails passes
          ∙ right (t y * a x u) (s x * b y v)))
    ]
    | inl passes ↦
        same-equal p (c (x, y) (u, v)) (t y * a x u % p) (by-first p first second x u y v passes)
        ∙ mod-mod (t y * a x u) p
        ∙ same-equal p (t y * a x u) (both x y u v)
        (sym (ap₂ (λ (e : Bool) (n : ℕ). cond e 1 0 * (t y * a x u) + D x u * (s x * n)) passes
        (ap (b y) (sym (second_is.test.one y v passes)) ∙ no-loop p second.cells y second_is.complex has_y)
        ∙ left (t y * a x u) (D x u) (s x)))
  ]
    where
      neither : (m n : ℕ) → 0 * m + 0 * n ≡ 0
      neither m n = omega arith

      right : (m n : ℕ) → 0 * m + 1 * n ≡ n
      right m n = omega arith

      left : (m n k : ℕ) → 1 * m + n * (k * 0) ≡ m
      left m n k = omega arith

  module _ (x : A) (y : B) (z : A) (w : B) (has_x : Contains xs x) (has_y : Contains ys y) (has_z : Contains xs z)
      (has_w : Contains ys w) where
    -- the four terms of the square: edges of the first factor twice, of the first and then of the second, the other way round, and of the
    -- second twice
    abbrev aa : A → B → ℕ
    aa u v = E y v * (t y * a x u * (E v w * (t v * a u z)))

    abbrev ab : A → B → ℕ
    ab u v = E y v * (t y * a x u * (D u z * (s u * b v w)))

    abbrev ba : A → B → ℕ
    ba u v = E v w * (D x u * (s x * b y v * (t v * a u z)))

    abbrev bb : A → B → ℕ
    bb u v = D x u * (s x * b y v * (D u z * (s u * b v w)))

    parts : (u : A) (v : B) → both x y u v * both u v z w ≡ aa u v + ab u v + (ba u v + bb u v)
    parts u v = omega arith

    first-sum : Same p (sum_by (λ u. sum_by (aa u) ys) xs) 0
    first-sum =
        same-equal p (sum_by (λ u. sum_by (aa u) ys) xs) (t y * t y * E y w * sum_by (λ u. a x u * a u z) xs)
        (sum_by-alike (λ u. sum_by (aa u) ys) (λ u. t y * t y * E y w * (a x u * a u z))
        (λ u.
        sum-front second.same ys y (λ v. t y * a x u * (E v w * (t v * a u z))) second_is.test second_is.once has_y
        ∙ regrouped (t y) (a x u) (E y w) (a u z))
        xs
        ∙ sum_by-times (λ u. a x u * a u z) (t y * t y * E y w) xs)
        ∙ same-scaled p (t y * t y * E y w) (sum_by (λ u. a x u * a u z) xs) 0 (is.complex.squares x z has_x has_z)
        ∙ same-equal p (t y * t y * E y w * 0) 0 (times_nothing (t y * t y * E y w))
      where
        regrouped : (m k e n : ℕ) → m * k * (e * (m * n)) ≡ m * m * e * (k * n)
        regrouped m k e n = omega arith

        times_nothing : (n : ℕ) → n * 0 ≡ 0
        times_nothing n = omega arith

    second-sum : sum_by (λ u. sum_by (ab u) ys) xs ≡ t y * a x z * (s z * b y w)
    second-sum =
        sum_by-alike (λ u. sum_by (ab u) ys) (λ u. D u z * (t y * a x u * (s u * b y w)))
        (λ u.
        sum-front second.same ys y (λ v. t y * a x u * (D u z * (s u * b v w))) second_is.test second_is.once has_y
        ∙ regrouped (t y * a x u) (D u z) (s u * b y w))
        xs
        ∙ sum-back first.same xs z (λ u. t y * a x u * (s u * b y w)) is.test is.once has_z
      where
        regrouped : (m d n : ℕ) → m * (d * n) ≡ d * (m * n)
        regrouped m d n = omega arith

    third-sum : sum_by (λ u. sum_by (ba u) ys) xs ≡ s x * b y w * (t w * a x z)
    third-sum =
        sum_by-alike (λ u. sum_by (ba u) ys) (λ u. D x u * (s x * b y w * (t w * a u z)))
        (λ u. sum-back second.same ys w (λ v. D x u * (s x * b y v * (t v * a u z))) second_is.test second_is.once has_w)
        xs
        ∙ sum-front first.same xs x (λ u. s x * b y w * (t w * a u z)) is.test is.once has_x

    fourth-sum : Same p (sum_by (λ u. sum_by (bb u) ys) xs) 0
    fourth-sum =
        same-equal p (sum_by (λ u. sum_by (bb u) ys) xs) (s x * s x * D x z * sum_by (λ v. b y v * b v w) ys)
        (sum_by-alike (λ u. sum_by (bb u) ys) (λ u. D x u * sum_by (λ v. s x * b y v * (D u z * (s u * b v w))) ys)
        (λ u. sum_by-times (λ v. s x * b y v * (D u z * (s u * b v w))) (D x u) ys) xs
        ∙ sum-front first.same xs x (λ u. sum_by (λ v. s x * b y v * (D u z * (s u * b v w))) ys) is.test is.once has_x
        ∙ sum_by-alike (λ v. s x * b y v * (D x z * (s x * b v w))) (λ v. s x * s x * D x z * (b y v * b v w))
        (λ v. regrouped (s x) (b y v) (D x z) (b v w)) ys
        ∙ sum_by-times (λ v. b y v * b v w) (s x * s x * D x z) ys)
        ∙ same-scaled p (s x * s x * D x z) (sum_by (λ v. b y v * b v w) ys) 0 (second_is.complex.squares y w has_y has_w)
        ∙ same-equal p (s x * s x * D x z * 0) 0 (times_nothing (s x * s x * D x z))
      where
        regrouped : (m k e n : ℕ) → m * k * (e * (m * n)) ≡ m * m * e * (k * n)
        regrouped m k e n = omega arith

        times_nothing : (n : ℕ) → n * 0 ≡ 0
        times_nothing n = omega arith

    middle-sums : Same p (t y * a x z * (s z * b y w) + s x * b y w * (t w * a x z)) 0
    middle-sums =
        same-equal p (t y * a x z * (s z * b y w) + s x * b y w * (t w * a x z)) (a x z * b y w * (t y * s z + s x * t w))
        (gathered (t y) (a x z) (s z) (b y w) (s x) (t w))
        ∙ by-cases
      where
        gathered : (k m l n i j : ℕ) → k * m * (l * n) + i * n * (j * m) ≡ m * n * (k * l + i * j)
        gathered k m l n i j = omega arith

        zero_left : (n k : ℕ) → 0 * n * k ≡ 0
        zero_left n k = omega arith

        zero_right : (n k : ℕ) → n * 0 * k ≡ 0
        zero_right n k = omega arith

        times_nothing : (n : ℕ) → n * 0 ≡ 0
        times_nothing n = omega arith

        by-cases : Same p (a x z * b y w * (t y * s z + s x * t w)) 0
        by-cases = elim (cases_eq (a x z) 0) [
          | inl none ↦
              same-equal p (a x z * b y w * (t y * s z + s x * t w)) 0
              (ap (λ n. n * b y w * (t y * s z + s x * t w)) none ∙ zero_left (b y w) (t y * s z + s x * t w))
          | inr some ↦ elim (cases_eq (b y w) 0) [
            | inl none ↦
                same-equal p (a x z * b y w * (t y * s z + s x * t w)) 0
                (ap (λ n. a x z * n * (t y * s z + s x * t w)) none ∙ zero_right (a x z) (t y * s z + s x * t w))
            | inr some_too ↦
                same-scaled p (a x z * b y w) (t y * s z + s x * t w) 0 (turned x z y w has_x has_z has_y has_w some some_too)
                ∙ same-equal p (a x z * b y w * 0) 0 (times_nothing (a x z * b y w))
          ]
        ]

    square : Same p (sum_by (λ m. c (x, y) m * c m (z, w)) (all_pairs xs ys)) 0
    square =
        let sum_aa = sum_by (λ u. sum_by (aa u) ys) xs in
        let sum_ab = sum_by (λ u. sum_by (ab u) ys) xs in
        let sum_ba = sum_by (λ u. sum_by (ba u) ys) xs in
        let sum_bb = sum_by (λ u. sum_by (bb u) ys) xs in
        sum_by-same p (λ m. c (x, y) m * c m (z, w)) (λ m. both x y m.0 m.1 * both m.0 m.1 z w) (all_pairs xs ys)
        (λ m has_m.
        let has = pairs-parts xs ys m has_m in
        same-mul p (c (x, y) m) (both x y m.0 m.1) (c m (z, w)) (both m.0 m.1 z w)
        (as-sum x y m.0 m.1 has_x has_y) (as-sum m.0 m.1 z w has.0 has.1))
        ∙ same-equal p (sum_by (λ m. both x y m.0 m.1 * both m.0 m.1 z w) (all_pairs xs ys)) (sum_aa + sum_ab + (sum_ba + sum_bb))
        (sum_by-pairs (λ m. both x y m.0 m.1 * both m.0 m.1 z w) xs ys
        ∙ sum_by-alike (λ u. sum_by (λ v. both x y u v * both u v z w) ys)
        (λ u. sum_by (aa u) ys + sum_by (ab u) ys + (sum_by (ba u) ys + sum_by (bb u) ys))
        (λ u.
        sum_by-alike (λ v. both x y u v * both u v z w) (λ v. aa u v + ab u v + (ba u v + bb u v)) (parts u) ys
        ∙ four (aa u) (ab u) (ba u) (bb u) ys)
        xs
        ∙ four (λ u. sum_by (aa u) ys) (λ u. sum_by (ab u) ys) (λ u. sum_by (ba u) ys) (λ u. sum_by (bb u) ys) xs)
        ∙ same-equal p (sum_aa + sum_ab + (sum_ba + sum_bb)) (sum_aa + (sum_ab + sum_ba) + sum_bb) (regrouped sum_aa sum_ab sum_ba sum_bb)
        ∙ same-add p (sum_aa + (sum_ab + sum_ba)) 0 sum_bb 0
        (same-add p sum_aa 0 (sum_ab + sum_ba) 0 first-sum
        (same-equal p (sum_ab + sum_ba) (t y * a x z * (s z * b y w) + s x * b y w * (t w * a x z))
        (ap₂ (λ m n. m + n) second-sum third-sum)
        ∙ middle-sums))
        fourth-sum
      where
        regrouped : (k l m n : ℕ) → k + l + (m + n) ≡ k + (l + m) + n
        regrouped k l m n = omega arith

        four : {X : Type 0} (f g h k : X → ℕ) (zs : List X)
            → sum_by (λ m. f m + g m + (h m + k m)) zs ≡ sum_by f zs + sum_by g zs + (sum_by h zs + sum_by k zs)
        four f g h k zs = grind (arith, nat_tests, sum_by-plus (λ m. f m + g m) (λ m. h m + k m) zs, sum_by-plus f g zs, sum_by-plus h k zs)

  -- a coefficient other than 0 is that of one factor, where the other's cell stays
  some-one : (x : A) (y : B) (u : A) (v : B) → c (x, y) (u, v) ≢ 0
      → ((y ≡ v) × (a x u ≢ 0)) ⊎ ((x ≡ u) × (b y v ≢ 0))
  some-one x y u v some = elim (cases_Bool (second.same y v)) [
    | inl passes ↦ inl (
      second_is.test.one y v passes,
      λ none. some (by-first p first second x u y v passes ∙ ap (λ n. t y * n % p) none ∙ nothing (t y)),
    )
    | inr fails ↦ elim (cases_Bool (first.same x u)) [
      | inl passes ↦ inr (
        is.test.one x u passes,
        λ none. some (by-second p first second x u y v fails passes ∙ ap (λ n. s x * n % p) none ∙ nothing (s x)),
      )
      | inr fails_too ↦ absurd (some (by-neither p first second x u y v fails fails_too))
    ]
  ]
    where
      nothing : (n : ℕ) → n * 0 % p ≡ 0
      nothing n = let e : n * 0 ≡ 0 = omega arith in ap (λ m. m % p) e ∙ zero-mod p

  pub AreComplex-product : AreComplex p (product_complex p first second)
  AreComplex-product =
      record {
        below = pair-below p first second positive;
        homological = λ m n has_m has_n some.
            let in_m = pairs-parts xs ys m has_m in
            let in_n = pairs-parts xs ys n has_n in
            elim (some-one m.0 m.1 n.0 n.1 some) [
              | inl one ↦
                  first-moved (first.cells.homological m.0) (first.cells.homological n.0) (second.cells.homological m.1)
                  (second.cells.homological n.1) (is.complex.homological m.0 n.0 in_m.0 in_n.0 one.1) (ap second.cells.homological one.0)
              | inr one ↦
                  second-moved (first.cells.homological m.0) (first.cells.homological n.0) (second.cells.homological m.1)
                  (second.cells.homological n.1) (second_is.complex.homological m.1 n.1 in_m.1 in_n.1 one.1)
                  (ap first.cells.homological one.0)
            ];
        quantum = λ m n has_m has_n some.
            let in_m = pairs-parts xs ys m has_m in
            let in_n = pairs-parts xs ys n has_n in
            elim (some-one m.0 m.1 n.0 n.1 some) [
              | inl one ↦
                  ap₂ (λ d e. d +ℤ e) (is.complex.quantum m.0 n.0 in_m.0 in_n.0 one.1) (ap second.cells.quantum (sym one.0))
              | inr one ↦
                  ap₂ (λ d e. d +ℤ e) (ap first.cells.quantum (sym one.0)) (second_is.complex.quantum m.1 n.1 in_m.1 in_n.1 one.1)
            ];
        squares = λ m n has_m has_n.
            let in_m = pairs-parts xs ys m has_m in
            let in_n = pairs-parts xs ys n has_n in
            square m.0 m.1 n.0 n.1 in_m.0 in_m.1 in_n.0 in_n.1;
      }
    where
      first-moved : (h k l m : ℤ) → k ≡ h +ℤ pos 1 → l ≡ m → k +ℤ m ≡ h +ℤ l +ℤ pos 1
      first-moved h k l m step same = omega (arith, ints, step, same)

      second-moved : (h k l m : ℤ) → m ≡ l +ℤ pos 1 → h ≡ k → k +ℤ m ≡ h +ℤ l +ℤ pos 1
      second-moved h k l m step same = omega (arith, ints, step, same)
