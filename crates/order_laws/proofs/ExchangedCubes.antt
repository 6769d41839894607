-- The exchange of two neighbouring crossings makes the deformed cube another that is like it.
--
-- The exchange of two neighbouring crossings exchanges two bits of each state. Circles stay, as smoothings are the same in another order.
-- The sign along an edge counts the ones before its crossing, which changes only where both bits are ones: so a generator gets the sign -1
-- where both are, and the cube of the one order is that of the other up to names and signs (AlikeCells).
use Rattle.std.proofs.Common.{◌≡◌, ℕ, inl, inr, ◌+◌, ◌*◌, ◌%◌, ◌^◌, ◌<◌, ◌∙◌, pos, ◌+ℤ◌, ◌-ℤ◌, List, length, refl, sym, subst, ap, ap₂, arith}
use Rattle.std.specs.List.{Contains, range_with_len, sum_by}
use Rattle.std.proofs.Math.Nat.{mod-mod}
use Rattle.std.proofs.lemmas.Bool.{cases_eq}
use Rattle.kh_types.specs.Bits.{ones}
use Rattle.kh_types.specs.Circles.{circle_count}
use Rattle.kh_types.specs.Generators.{Generator, generator_of, generators, generators_of, one_count, states}
use Rattle.kh_types.specs.Residues.{HasInverses, Same}
use Rattle.kh_types.proofs.ListSums.{sum_by-alike, sum_by-flat_map, sum_by-map}
use Rattle.kh_types.proofs.Residues.{same-equal, same-mul, same-scaled}
use Rattle.square_laws.proofs.Signs.{power_sign, same_parity, signs-product}
use Rattle.cell_laws.specs.Alike.{AreAlike}
use Rattle.cell_laws.proofs.CubeCells.{IsStepAt, member-from, member-of}
use Rattle.square_laws.specs.Deformed.{deformed_coefficient, label_number, opposite}
use Rattle.cell_laws.specs.DeformedCubes.{deformed_cube_of}
use Rattle.order_laws.proofs.ExchangedBits.{bit-exchanged, both_ones, exchanged, exchanged-below, exchanged-set, exchanged-twice, moved, moved-below, ones-high, ones-moved}
use Rattle.order_laws.proofs.ExchangedCodes.{circle_count-exchanged, code_with, length-with, number-exchanged}
use Rattle.cell_laws.proofs.Matched.{sum_by-paired}
use Rattle.cell_laws.proofs.DeformedAlong.{deformed-along, deformed-step}

module _ (p h : ℕ) (front back : List (List ℕ)) (loops : ℕ) (field : HasInverses p) where
  positive : 0 < p
  positive = omega (arith, field.above_one)

  abbrev k : ℕ
  k = length front

  -- a generator's name in the exchanged code, and its sign
  abbrev pub name_of : Generator → Generator
  name_of x = generator_of (exchanged (length front) x.state) x.label

  abbrev pub sign_of : Generator → ℕ
  sign_of x = power_sign p (both_ones (length front) x.state)

  name-twice : (x : Generator) → name_of (name_of x) ≡ x
  name-twice x = ap (λ s. generator_of s x.label) (exchanged-twice (length front) x.state)

  step-exchanged : (a b : List ℕ) (s t place : ℕ) → IsStepAt (code_with front back loops a b) s t place
      → IsStepAt (code_with front back loops b a) (exchanged (length front) s) (exchanged (length front) t) (moved (length front) place)
  step-exchanged a b s t place step =
      let n = length front + (2 + length back) in
      let below : place < n = omega (arith, step.within, length-with front back loops a b) in
      let there : moved (length front) place < n = moved-below (length front) place n (omega arith) below in
      record {
        within = omega (arith, there, length-with front back loops b a);
        zero_there = bit-exchanged (length front) s place ∙ step.zero_there;
        behind = ap (exchanged (length front)) step.behind ∙ exchanged-set (length front) s place step.zero_there;
      }

  coefficient-step : (a b : List ℕ) (tail head : Generator) (place : ℕ)
      → IsStepAt (code_with front back loops a b) tail.state head.state place
      → Same p (deformed_coefficient p h (code_with front back loops a b) tail head)
      (sign_of tail * (sign_of head * deformed_coefficient p h (code_with front back loops b a) (name_of tail) (name_of head)))
  coefficient-step a b tail head place step =
      let old = code_with front back loops a b in
      let new = code_with front back loops b a in
      let s = tail.state in
      let now = power_sign p (ones place s) in
      let later = power_sign p (ones (moved (length front) place) (exchanged (length front) s)) in
      let both = both_ones (length front) s in
      let both_behind = both_ones (length front) (s + 2 ^ place) in
      let rest = ones (moved (length front) place) (exchanged (length front) s) in
      let test = label_number h (opposite p h) old tail head (place + 1) in
      let signs : Same p now (sign_of tail * (sign_of head * later)) =
      same-equal p now (power_sign p (both + (both_behind + rest)))
      (same_parity p (ones place s) (both + (both_behind + rest)) (ones-moved (length front) s place step.zero_there))
      ∙ sym (signs-product p both (both_behind + rest) positive)
      ∙ same-scaled p (power_sign p both) (power_sign p (both_behind + rest)) (power_sign p both_behind * power_sign p rest)
      (sym (signs-product p both_behind rest positive))
      ∙ same-equal p (power_sign p both * (power_sign p both_behind * power_sign p rest)) (sign_of tail * (sign_of head * later))
      (ap (λ t. power_sign p both * (power_sign p (both_ones (length front) t) * power_sign p rest)) (sym step.behind)) in
      same-equal p (deformed_coefficient p h old tail head) (now * test % p) (deformed-along p h old tail head place step)
      ∙ mod-mod (now * test) p
      ∙ by_test test now (sign_of tail) (sign_of head) later signs
      ∙ sym (same-scaled p (sign_of tail) (sign_of head * deformed_coefficient p h new (name_of tail) (name_of head))
      (sign_of head * (later * test))
      (same-scaled p (sign_of head) (deformed_coefficient p h new (name_of tail) (name_of head)) (later * test)
      (same-equal p (deformed_coefficient p h new (name_of tail) (name_of head)) (later * test % p)
      (deformed-along p h new (name_of tail) (name_of head) (moved (length front) place)
      (step-exchanged a b s head.state place step)
      ∙ ap (λ n. later * n % p) (number-exchanged front back loops h (opposite p h) a b tail head place))
      ∙ mod-mod (later * test) p)))
    where
      by_test : (test now x y later : ℕ) → Same p now (x * (y * later)) → Same p (now * test) (x * (y * (later * test)))
      by_test test now x y later same =
          same-mul p now (x * (y * later)) test test same refl
          ∙ same-equal p (x * (y * later) * test) (x * (y * (later * test))) (grouped x y later test)
        where
          grouped : (x y l t : ℕ) → x * (y * l) * t ≡ x * (y * (l * t))
          grouped x y l t = omega arith

  coefficient-exchanged : (a b : List ℕ) (tail head : Generator)
      → Same p (deformed_coefficient p h (code_with front back loops a b) tail head)
      (sign_of tail * (sign_of head * deformed_coefficient p h (code_with front back loops b a) (name_of tail) (name_of head)))
  coefficient-exchanged a b tail head =
      let old = code_with front back loops a b in
      let new = code_with front back loops b a in
      let there = deformed_coefficient p h new (name_of tail) (name_of head) in
      elim (cases_eq (deformed_coefficient p h old tail head) 0) [
        | inr some ↦
            let step = deformed-step p h old tail head some in
            coefficient-step a b tail head step.0 step.1
        | inl none ↦ elim (cases_eq there 0) [
          | inl none_there ↦
              same-equal p (deformed_coefficient p h old tail head) (sign_of tail * (sign_of head * there))
              (none ∙ nothing (sign_of tail) (sign_of head) ∙ ap (λ c. sign_of tail * (sign_of head * c)) (sym none_there))
          | inr some ↦
              let step = deformed-step p h new (name_of tail) (name_of head) some in
              let home = step-exchanged b a (name_of tail).state (name_of head).state step.0 step.1 in
              coefficient-step a b tail head (moved (length front) step.0)
              (subst₂' home (exchanged-twice (length front) tail.state) (exchanged-twice (length front) head.state))
        ]
      ]
    where
      nothing : (x y : ℕ) → 0 ≡ x * (y * 0)
      nothing x y = omega arith

      subst₂' : {s t u v place : ℕ} → IsStepAt (code_with front back loops a b) s t place → s ≡ u → t ≡ v
          → IsStepAt (code_with front back loops a b) u v place
      subst₂' {s} {t} {u} {v} {place} step is_s is_t =
          subst (λ (m : ℕ). IsStepAt (code_with front back loops a b) m v place) is_s
          (subst (λ (m : ℕ). IsStepAt (code_with front back loops a b) s m place) is_t step)

  -- the lists of generators
  member-exchanged : (a b : List ℕ) (x : Generator) → Contains (generators (code_with front back loops a b)) x
      → Contains (generators (code_with front back loops b a)) (name_of x)
  member-exchanged a b x has =
      let old = code_with front back loops a b in
      let new = code_with front back loops b a in
      let is = member-from old x has in
      let n = length front + (2 + length back) in
      let below : x.state < 2 ^ n = subst (λ m. x.state < 2 ^ m) (length-with front back loops a b) is.state in
      member-of new (name_of x)
      (record {
        state = subst (λ m. exchanged (length front) x.state < 2 ^ m) (sym (length-with front back loops b a))
            (exchanged-below (length front) (length back) x.state below);
        label = subst (λ m. x.label < 2 ^ m) (sym (circle_count-exchanged front back loops a b x.state)) is.label;
      })

  sums-exchanged : (a b : List ℕ) (f : Generator → ℕ)
      → sum_by f (generators (code_with front back loops b a)) ≡ sum_by (λ x. f (name_of x)) (generators (code_with front back loops a b))
  sums-exchanged a b f =
      let old = code_with front back loops a b in
      let new = code_with front back loops b a in
      let n = length front + (2 + length back) in
      let ex = exchanged (length front) in
      let by_state = λ (s : ℕ). sum_by f (generators_of new s) in
      sum_by-flat_map f (generators_of new) (states new)
      ∙ ap (λ m. sum_by by_state (range_with_len 0 (2 ^ m))) (length-with front back loops b a)
      ∙ sum_by-paired (2 ^ n) (2 ^ n) ex ex by_state
      (record {
        there_below = λ s below. exchanged-below (length front) (length back) s below;
        back_below = λ s below. exchanged-below (length front) (length back) s below;
        back_there = λ s below. exchanged-twice (length front) s;
        there_back = λ s below. exchanged-twice (length front) s;
      })
      ∙ ap (λ m. sum_by (λ s. by_state (ex s)) (range_with_len 0 (2 ^ m))) (sym (length-with front back loops a b))
      ∙ sum_by-alike (λ s. by_state (ex s)) (λ s. sum_by (λ x. f (name_of x)) (generators_of old s))
      (λ s.
      sum_by-map f (generator_of (ex s)) (range_with_len 0 (2 ^ circle_count new (ex s)))
      ∙ ap (λ m. sum_by (λ l. f (generator_of (ex s) l)) (range_with_len 0 (2 ^ m))) (circle_count-exchanged front back loops a b s)
      ∙ sym (sum_by-map (λ x. f (name_of x)) (generator_of s) (range_with_len 0 (2 ^ circle_count old s))))
      (states old)
      ∙ sym (sum_by-flat_map (λ x. f (name_of x)) (generators_of old) (states old))

  one_count-exchanged : (a b : List ℕ) (s : ℕ)
      → one_count (code_with front back loops b a) (exchanged (length front) s) ≡ one_count (code_with front back loops a b) s
  one_count-exchanged a b s =
      let n = length front + (2 + length back) in
      ap (λ m. ones m (exchanged (length front) s)) (length-with front back loops b a)
      ∙ ones-high (length front) s n (omega arith)
      ∙ ap (λ m. ones m s) (sym (length-with front back loops a b))

  pub alike-exchanged : (a b : List ℕ) (plus minus : ℕ)
      → AreAlike p name_of sign_of (deformed_cube_of p h (code_with front back loops a b) plus minus)
      (deformed_cube_of p h (code_with front back loops b a) plus minus)
  alike-exchanged a b plus minus =
      let old = code_with front back loops a b in
      record {
        listed = record {
          there = member-exchanged a b;
          back = λ y has. (name_of y, member-exchanged b a y has, name-twice y);
          sums = sums-exchanged a b;
        };
        squares = λ x has.
            let n = both_ones (length front) x.state in
            signs-product p n n positive
            ∙ same-equal p (power_sign p (n + n)) 1 (same_parity p (n + n) 0 (omega arith));
        homological = λ x has. ap (λ m. pos m -ℤ pos minus) (one_count-exchanged a b x.state);
        quantum = λ x has.
            ap₂ (λ c m. (pos c -ℤ pos (2 * ones c x.label)) +ℤ (pos (m + plus) -ℤ pos (2 * minus)))
            (circle_count-exchanged front back loops a b x.state) (one_count-exchanged a b x.state);
        coefficient = λ x y has_x has_y. coefficient-exchanged a b x y;
      }
