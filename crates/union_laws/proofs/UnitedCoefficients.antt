-- The coefficient-united of a union are those of the product.
--
-- An edge of the union changes the state of one code at one crossing, and keeps the other. Labels fit along it where they fit in the
-- one code and stay in the other. Its sign counts the ones before the crossing: in the second code those of the first are all before.
use Rattle.std.proofs.Common.{IsTrue, ap, ap₂, arith, Bool, true, false, cond, inl, inr, length, refl, subst, sym, ℕ, ◌*◌, ◌+◌, ◌-◌, ◌/◌, ◌%◌, ◌<◌, ◌^◌, ◌∙◌, ◌≡◌, ◌≢◌, ◌⊎◌, ◌&&◌}
use Rattle.std.proofs.lemmas.Bool.{both_ways, cases_Bool, cases_eq, cases_lt, eq-eqb}
use Rattle.std.proofs.lemmas.Nat.{pow-add, pow_pos}
use Rattle.std.proofs.Math.Nat.{mod-mod, zero-mod}
use Rattle.kh_types.specs.Acceptance.{accepted}
use Rattle.kh_types.specs.Bits.{bit, ones}
use Rattle.kh_types.specs.Code.{Code}
use Rattle.kh_types.specs.Differential.{coefficient}
use Rattle.kh_types.specs.Generators.{Generator}
use Rattle.kh_types.specs.Residues.{HasInverses, Same}
use Rattle.kh_types.proofs.EdgeBits.{set-within}
use Rattle.kh_types.proofs.ListSums.{sum_by-range_alike}
use Rattle.kh_types.proofs.Residues.{same-equal}
use Rattle.kh_types.proofs.JointNumbers.{bit-inside, bit-outside, joint-inside, joint-outside, ones-joint}
use Rattle.cell_laws.proofs.CubeCells.{IsMember, IsStepAt, coefficient-along, step-of}
use Rattle.square_laws.proofs.Signs.{power_sign, signs-product}
use Rattle.square_laws.proofs.TouchedCircles.{fits}
use Rattle.link_algebra.proofs.UnitedCircles.{length-both, state_of_both}
use Rattle.link_algebra.specs.Unions.{union_of}
use Rattle.union_laws.specs.Cubes.{first_factor, same_generator, second_factor, state_sign, united}
use Rattle.product_laws.specs.Products.{Factor, pair_coefficient}
use Rattle.product_laws.proofs.PairCoefficients.{by-first, by-neither, by-second}
use Rattle.union_laws.proofs.UnitedEdges.{fits-first, fits-second, labels-one, labels-self, same_labels}
use Rattle.union_laws.proofs.CubeFactors.{generator-test, other-state}

-- where labels are the same, and the states, generators are one
labels-same : (code : Code) (x y : Generator) → IsMember code x → IsMember code y → x.state ≡ y.state
    → same_labels code x y ≡ same_generator x y
labels-same code x y is_x is_y same = elim (cases_Bool (same_generator x y)) [
  | inl passes ↦
      ap (same_labels code x) (sym (generator-test.one x y passes)) ∙ labels-self code x ∙ sym passes
  | inr fails ↦ elim (cases_Bool (same_labels code x y)) [
    | inr other ↦ other ∙ sym fails
    | inl one ↦
        absurd (both_ways (same_generator x y) fails
        (ap₂ (λ (b c : Bool). b && c) (eq-eqb x.state y.state same)
        (eq-eqb x.label y.label (labels-one code x y is_x is_y same one))))
  ]
]

module _ (p : ℕ) (first second : Code) (field : HasInverses p) (first_is : IsTrue (accepted first)) (second_is : IsTrue (accepted second))
    (plus minus second_plus second_minus : ℕ) where
  above : 0 < p
  above = omega (arith, field.above_one)

  abbrev n : ℕ
  n = length first.crossings

  abbrev both : Code
  both = union_of first second

  abbrev first_cube : Factor Generator
  first_cube = first_factor p first plus minus

  abbrev second_cube : Factor Generator
  second_cube = second_factor p second second_plus second_minus

  abbrev joint : Generator → Generator → Generator
  joint x y = united first second (x, y)

  -- states
  states-apart : (a b c d : ℕ) → a < 2 ^ n → c < 2 ^ n → a + 2 ^ n * b ≡ c + 2 ^ n * d → (a ≡ c) × (b ≡ d)
  states-apart a b c d small small_too same = (
    sym (joint-inside n a b small) ∙ ap (λ s. s % 2 ^ n) same ∙ joint-inside n c d small_too,
    sym (joint-outside n a b small) ∙ ap (λ s. s / 2 ^ n) same ∙ joint-outside n c d small_too,
  )

  -- steps
  step-first : (a c b l : ℕ) → IsStepAt first a c l → IsStepAt both (state_of_both first a b) (state_of_both first c b) l
  step-first a c b l step =
      record {
        within = omega (arith, step.within, length-both first second);
        zero_there = bit-inside n a b l step.within ∙ step.zero_there;
        behind = ap (λ e. e + 2 ^ n * b) step.behind ∙ turned a (2 ^ l) (2 ^ n * b);
      }
    where
      turned : (a k m : ℕ) → a + k + m ≡ a + m + k
      turned a k m = omega arith

  step-second : (a b d l : ℕ) → a < 2 ^ n → IsStepAt second b d l
      → IsStepAt both (state_of_both first a b) (state_of_both first a d) (n + l)
  step-second a b d l small step =
      record {
        within = omega (arith, step.within, length-both first second);
        zero_there = bit-outside n a b l small ∙ step.zero_there;
        behind =
            ap (λ e. a + 2 ^ n * e) step.behind ∙ spread a (2 ^ n) b (2 ^ l)
            ∙ ap (λ e. a + 2 ^ n * b + e) (sym (pow-add 2 n l));
      }
    where
      spread : (a k b m : ℕ) → a + k * (b + m) ≡ a + k * b + k * m
      spread a k b m = omega arith

  step-parts : (a b c d l : ℕ) → a < 2 ^ n → c < 2 ^ n → IsStepAt both (state_of_both first a b) (state_of_both first c d) l
      → (IsStepAt first a c l × (b ≡ d)) ⊎ ((k : ℕ) × IsStepAt second b d k × (a ≡ c))
  step-parts a b c d l small small_too step = elim (cases_lt l n) [
    | inl low ↦
        let none : bit a l ≡ 0 = sym (bit-inside n a b l low) ∙ step.zero_there in
        let parts = states-apart c d (a + 2 ^ l) b small_too (set-within a l n low small none)
        (step.behind ∙ turned a (2 ^ n * b) (2 ^ l)) in
        inl (record { within = low; zero_there = none; behind = parts.0 }, sym parts.1)
    | inr high ↦
        let k = l - n in
        let e : l ≡ n + k = omega (arith, high) in
        let parts = states-apart c d a (b + 2 ^ k) small_too small
        (step.behind ∙ ap (λ z. a + 2 ^ n * b + 2 ^ z) e ∙ ap (λ z. a + 2 ^ n * b + z) (pow-add 2 n k)
        ∙ sym (spread a (2 ^ n) b (2 ^ k))) in
        inr (
          k,
          record {
            within = omega (arith, high, step.within, length-both first second);
            zero_there = sym (bit-outside n a b k small) ∙ ap (bit (state_of_both first a b)) (sym e) ∙ step.zero_there;
            behind = parts.1;
          },
          sym parts.0,
        )
  ]
    where
      turned : (a m k : ℕ) → a + m + k ≡ a + k + m
      turned a m k = omega arith

      spread : (a k b m : ℕ) → a + k * (b + m) ≡ a + k * b + k * m
      spread a k b m = omega arith

  differ : (s l t : ℕ) → t ≡ s + 2 ^ l → s ≢ t
  differ s l t behind same = absurd (omega (arith, pow_pos l, behind, same))

  module _ (x y u v : Generator) (is_x : IsMember first x) (is_y : IsMember second y) (is_u : IsMember first u)
      (is_v : IsMember second v) where
    abbrev here : ℕ
    here = coefficient p both (joint x y) (joint u v)

    abbrev there : ℕ
    there = pair_coefficient p first_cube second_cube (x, y) (u, v)

    along-first : (l : ℕ) → IsStepAt first x.state u.state l → y.state ≡ v.state → Same p there here
    along-first l step same =
        let s = state_of_both first x.state y.state in
        let f = fits first x u (l + 1) in
        let sign = power_sign p (ones l x.state) in
        let on : IsStepAt both s (state_of_both first u.state v.state) l =
        subst (λ e. IsStepAt both s (state_of_both first u.state e) l) same (step-first x.state u.state y.state l step) in
        let value : here ≡ cond (f && same_generator y v) sign 0 =
        coefficient-along p both (joint x y) (joint u v) l on
        ∙ ap₂ (λ (b : Bool) (k : ℕ). cond b (power_sign p k) 0)
        (fits-first first second first_is second_is x y u v is_x is_u (l + 1)
        (record { positive = omega arith; within = omega (arith, step.within) })
        ∙ ap (λ (b : Bool). f && b) (labels-same second y v is_y is_v same))
        (sum_by-range_alike (bit s) (bit x.state) 0 l
        (λ k from below. bit-inside n x.state y.state k (omega (arith, below, step.within)))) in
        elim (cases_Bool (same_generator y v)) [
          | inl passes ↦
              same-equal p there (1 * coefficient p first x u % p) (by-first p first_cube second_cube x u y v passes)
              ∙ mod-mod (1 * coefficient p first x u) p
              ∙ same-equal p (1 * coefficient p first x u) here
              (once (coefficient p first x u) ∙ coefficient-along p first x u l step
              ∙ ap (λ (b : Bool). cond b sign 0) (sym (ap (λ (b : Bool). f && b) passes ∙ and_true f)) ∙ sym value)
          | inr fails ↦
              same-equal p there here
              (by-neither p first_cube second_cube x u y v fails (other-state x u (differ x.state l u.state step.behind))
              ∙ sym (value ∙ ap (λ (b : Bool). cond b sign 0) (ap (λ (b : Bool). f && b) fails ∙ and_false f)))
        ]
      where
        once : (k : ℕ) → 1 * k ≡ k
        once k = omega arith

        and_true : (b : Bool) → (b && true) ≡ b
        and_true true = refl
        and_true false = refl

        and_false : (b : Bool) → (b && false) ≡ false
        and_false true = refl
        and_false false = refl

    along-second : (l : ℕ) → IsStepAt second y.state v.state l → x.state ≡ u.state → Same p there here
    along-second l step same =
        let s = state_of_both first x.state y.state in
        let f = fits second y v (l + 1) in
        let before = ones n x.state in
        let sign = power_sign p (ones l y.state) in
        let e : n + l + 1 ≡ n + (l + 1) = omega arith in
        let on : IsStepAt both s (state_of_both first u.state v.state) (n + l) =
        subst (λ c. IsStepAt both s (state_of_both first c v.state) (n + l)) same (step-second x.state y.state v.state l is_x.state step) in
        let value : here ≡ cond (f && same_generator x u) (power_sign p (before + ones l y.state)) 0 =
        coefficient-along p both (joint x y) (joint u v) (n + l) on
        ∙ ap₂ (λ (b : Bool) (k : ℕ). cond b (power_sign p k) 0)
        (ap (fits both (joint x y) (joint u v)) e
        ∙ fits-second first second first_is second_is x y u v is_x is_u (l + 1)
        (record { positive = omega arith; within = omega (arith, step.within) })
        ∙ ap (λ (b : Bool). f && b) (labels-same first x u is_x is_u same))
        (ones-joint n x.state y.state l is_x.state) in
        let other = other-state y v (differ y.state l v.state step.behind) in
        elim (cases_Bool (same_generator x u)) [
          | inl passes ↦
              same-equal p there (power_sign p before * coefficient p second y v % p)
              (by-second p first_cube second_cube x u y v other passes)
              ∙ mod-mod (power_sign p before * coefficient p second y v) p
              ∙ same-equal p (power_sign p before * coefficient p second y v) (power_sign p before * cond f sign 0)
              (ap (λ k. power_sign p before * k) (coefficient-along p second y v l step))
              ∙ by-test f (power_sign p before) sign (power_sign p (before + ones l y.state))
              (signs-product p before (ones l y.state) above)
              ∙ same-equal p (cond f (power_sign p (before + ones l y.state)) 0) here
              (ap (λ (b : Bool). cond b (power_sign p (before + ones l y.state)) 0)
              (sym (ap (λ (b : Bool). f && b) passes ∙ and_true f))
              ∙ sym value)
          | inr fails ↦
              same-equal p there here
              (by-neither p first_cube second_cube x u y v other fails
              ∙ sym (value
              ∙ ap (λ (b : Bool). cond b (power_sign p (before + ones l y.state)) 0) (ap (λ (b : Bool). f && b) fails ∙ and_false f)))
        ]
      where
        by-test : (b : Bool) (k m c : ℕ) → Same p (k * m) c → Same p (k * cond b m 0) (cond b c 0)
        by-test true k m c same = same
        by-test false k m c same = same-equal p (k * 0) 0 (omega arith)

        and_true : (b : Bool) → (b && true) ≡ b
        and_true true = refl
        and_true false = refl

        and_false : (b : Bool) → (b && false) ≡ false
        and_false true = refl
        and_false false = refl

    -- a coefficient of the product other than 0 is that of one factor
    some-one : there ≢ 0 → ((y ≡ v) × (coefficient p first x u ≢ 0)) ⊎ ((x ≡ u) × (coefficient p second y v ≢ 0))
    some-one some = elim (cases_Bool (same_generator y v)) [
      | inl passes ↦ inl (
        generator-test.one y v passes,
        λ none. some (by-first p first_cube second_cube x u y v passes ∙ ap (λ k. 1 * k % p) none ∙ zero-mod p),
      )
      | inr fails ↦ elim (cases_Bool (same_generator x u)) [
        | inl passes ↦ inr (
          generator-test.one x u passes,
          λ none. some (by-second p first_cube second_cube x u y v fails passes ∙ ap (λ k. state_sign p first x * k % p) none
              ∙ nothing (state_sign p first x)),
        )
        | inr fails_too ↦ absurd (some (by-neither p first_cube second_cube x u y v fails fails_too))
      ]
    ]
      where
        nothing : (k : ℕ) → k * 0 % p ≡ 0
        nothing k = let e : k * 0 ≡ 0 = omega arith in ap (λ m. m % p) e ∙ zero-mod p

    pub coefficient-united : Same p (pair_coefficient p (first_factor p first plus minus)
        (second_factor p second second_plus second_minus) (x, y) (u, v))
        (coefficient p (union_of first second) (united first second (x, y)) (united first second (u, v)))
    coefficient-united = elim (cases_eq here 0) [
      | inr some ↦
          let step = step-of p both (joint x y) (joint u v) some in
          elim (step-parts x.state y.state u.state v.state step.0 is_x.state is_u.state step.1) [
            | inl low ↦ along-first step.0 low.0 low.1
            | inr high ↦ along-second high.0 high.1 high.2
          ]
      | inl none ↦ elim (cases_eq there 0) [
        | inl none_there ↦ same-equal p there here (none_there ∙ sym none)
        | inr some ↦ elim (some-one some) [
          | inl one ↦
              let step = step-of p first x u one.1 in
              along-first step.0 step.1 (ap (λ (g : Generator). g.state) one.0)
          | inr one ↦
              let step = step-of p second y v one.1 in
              along-second step.0 step.1 (ap (λ (g : Generator). g.state) one.0)
        ]
      ]
    ]
