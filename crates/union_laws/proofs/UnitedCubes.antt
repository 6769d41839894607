-- The cube of a union is the product of the cubes: the generators correspond, with their degrees.
use Rattle.std.proofs.Common.{IsTrue, ap, ap₂, arith, length, refl, subst, sym, ℕ, ◌*◌, ◌+◌, ◌/◌, ◌%◌, ◌<◌, ◌^◌, ◌∙◌, ◌≡◌, pos, ◌+ℤ◌, ◌-ℤ◌}
use Rattle.std.proofs.lemmas.Int.{ints}
use Rattle.kh_types.specs.Acceptance.{accepted}
use Rattle.kh_types.specs.Bits.{ones}
use Rattle.kh_types.specs.Circles.{circle_count}
use Rattle.kh_types.specs.Code.{Code}
use Rattle.kh_types.specs.Differential.{coefficient}
use Rattle.kh_types.specs.Generators.{Generator, generator_of, generators, one_count}
use Rattle.kh_types.specs.Residues.{HasInverses}
use Rattle.kh_types.proofs.Residues.{same-equal}
use Rattle.kh_types.proofs.JointNumbers.{joint-parts, inside-below, outside-below, joint-inside, joint-outside, joint-below, ones-joint}
use Rattle.cell_laws.specs.Alike.{AreAlike, AreListed}
use Rattle.cell_laws.specs.Cubes.{cube_of}
use Rattle.cell_laws.proofs.CubeCells.{IsMember, member-from, member-of}
use Rattle.cell_laws.proofs.NoDoubles.{once-generators}
use Rattle.cell_laws.proofs.Matched.{AreListed-matched}
use Rattle.link_algebra.proofs.UnitedCircles.{length-both, state_of_both}
use Rattle.link_algebra.specs.Unions.{union_of}
use Rattle.union_laws.specs.Cubes.{first_factor, low_count, mixed, second_factor, united}
use Rattle.product_laws.specs.Products.{Factor, all_pairs, product_complex}
use Rattle.union_laws.proofs.MixedLabels.{first_of, first_of-below, first_of-mixed, mixed-apart, mixed-below, ones-mixed, second_of, second_of-below, second_of-mixed}
use Rattle.product_laws.proofs.PairLists.{pairs-contain, pairs-once, pairs-parts}
use Rattle.union_laws.proofs.UnitedLabels.{count-both, count-first, count-second}
use Rattle.union_laws.proofs.UnitedCoefficients.{coefficient-united}

module _ (p : ℕ) (first second : Code) (field : HasInverses p) (first_is : IsTrue (accepted first)) (second_is : IsTrue (accepted second))
    (plus minus second_plus second_minus : ℕ) where
  above : 0 < p
  above = omega (arith, field.above_one)

  abbrev n : ℕ
  n = length first.crossings

  abbrev both : Code
  both = union_of first second

  abbrev first_cube : Factor Generator
  first_cube = first_factor p first plus minus

  abbrev second_cube : Factor Generator
  second_cube = second_factor p second second_plus second_minus

  abbrev joint : Generator → Generator → Generator
  joint x y = united first second (x, y)

  -- the generators
  abbrev apart : ℕ → ℕ → ℕ → Generator × Generator
  apart label a b = (
    generator_of a (first_of (low_count first a) (low_count second b) first.loops label),
    generator_of b (second_of (low_count first a) (low_count second b) first.loops label),
  )

  abbrev back : Generator → Generator × Generator
  back g = apart g.label (g.state % 2 ^ length first.crossings) (g.state / 2 ^ length first.crossings)

  first-count : (a b : ℕ) → a < 2 ^ n → circle_count first a ≡ low_count first a + first.loops
  first-count a b small = count-first first second first_is second_is a b small

  second-count : (a b : ℕ) → a < 2 ^ n → circle_count second b ≡ low_count second b + second.loops
  second-count a b small = count-second first second first_is second_is a b small

  both-count : (a b : ℕ) → a < 2 ^ n
      → circle_count both (state_of_both first a b) ≡ low_count first a + (low_count second b + (first.loops + second.loops))
  both-count a b small = count-both first second first_is second_is a b small

  joint-member : (x y : Generator) → IsMember first x → IsMember second y → IsMember both (joint x y)
  joint-member x y is_x is_y =
      let a = x.state in
      let b = y.state in
      record {
        state =
            subst (λ k. state_of_both first a b < 2 ^ k) (sym (length-both first second))
            (joint-below n (length second.crossings) a b is_x.state is_y.state);
        label =
            subst (λ k. mixed (low_count first a) (low_count second b) first.loops x.label y.label < 2 ^ k)
            (sym (both-count a b is_x.state))
            (mixed-below (low_count first a) (low_count second b) first.loops x.label y.label
            (subst (λ k. x.label < 2 ^ k) (first-count a b is_x.state) is_x.label) second.loops
            (subst (λ k. y.label < 2 ^ k) (second-count a b is_x.state) is_y.label));
      }

  back-state : (s : ℕ) → state_of_both first (s % 2 ^ n) (s / 2 ^ n) ≡ s
  back-state s = sym (joint-parts n s)

  back-members : (g : Generator) → IsMember both g → IsMember first (back g).0 × IsMember second (back g).1
  back-members g is =
      let a = g.state % 2 ^ n in
      let b = g.state / 2 ^ n in
      let small = inside-below n g.state in
      let P = low_count first a in
      let Q = low_count second b in (
        record {
          state = small;
          label = subst (λ k. first_of P Q first.loops g.label < 2 ^ k) (sym (first-count a b small))
              (first_of-below P Q first.loops g.label);
        },
        record {
          state = states-high g.state (subst (λ k. g.state < 2 ^ k) (length-both first second) is.state);
          label = subst (λ k. second_of P Q first.loops g.label < 2 ^ k) (sym (second-count a b small))
              (second_of-below P Q first.loops g.label second.loops
              (subst (λ k. g.label < 2 ^ k) (ap (circle_count both) (sym (back-state g.state)) ∙ both-count a b small) is.label));
        },
      )
    where
      states-high : (s : ℕ) → s < 2 ^ (n + length second.crossings) → s / 2 ^ n < 2 ^ length second.crossings
      states-high s below = outside-below n (length second.crossings) s below

  listed : AreListed (united first second) (all_pairs (generators first) (generators second)) (generators both)
  listed =
      AreListed-matched (united first second) back (all_pairs (generators first) (generators second)) (generators both)
      (record {
        first_once = pairs-once (generators first) (generators second) (once-generators first) (once-generators second);
        second_once = once-generators both;
        there = λ z has.
            let parts = pairs-parts (generators first) (generators second) z has in
            member-of both (united first second z)
            (joint-member z.0 z.1 (member-from first z.0 parts.0) (member-from second z.1 parts.1));
        back_there = λ g has.
            let members = back-members g (member-from both g has) in
            pairs-contain (generators first) (generators second) (back g).0 (back g).1 (member-of first (back g).0 members.0)
            (member-of second (back g).1 members.1);
        to_back = λ g has.
            let a = g.state % 2 ^ n in
            let b = g.state / 2 ^ n in
            ap₂ generator_of (back-state g.state) (mixed-apart (low_count first a) (low_count second b) first.loops g.label);
        back_to = λ z has.
            let parts = pairs-parts (generators first) (generators second) z has in
            let is_x = member-from first z.0 parts.0 in
            let a = z.0.state in
            let b = z.1.state in
            let P = low_count first a in
            let Q = low_count second b in
            let below = subst (λ k. z.0.label < 2 ^ k) (first-count a b is_x.state) is_x.label in
            ap₂ (apart (united first second z).label) (joint-inside n a b is_x.state) (joint-outside n a b is_x.state)
            ∙ ap₂ (λ k l. (generator_of a k, generator_of b l)) (first_of-mixed P Q first.loops z.0.label z.1.label below)
            (second_of-mixed P Q first.loops z.0.label z.1.label below);
      })

  -- degrees
  ones-united : (x y : Generator) → IsMember first x
      → one_count both (joint x y).state ≡ one_count first x.state + one_count second y.state
  ones-united x y is_x =
      ap (λ k. ones k (state_of_both first x.state y.state)) (length-both first second)
      ∙ ones-joint n x.state y.state (length second.crossings) is_x.state

  labels-united : (x y : Generator) → IsMember first x
      → ones (circle_count both (joint x y).state) (joint x y).label
      ≡ ones (circle_count first x.state) x.label + ones (circle_count second y.state) y.label
  labels-united x y is_x =
      let a = x.state in
      let b = y.state in
      ap (λ k. ones k (joint x y).label) (both-count a b is_x.state)
      ∙ ones-mixed (low_count first a) (low_count second b) first.loops x.label y.label
      (subst (λ k. x.label < 2 ^ k) (first-count a b is_x.state) is_x.label) second.loops
      ∙ ap₂ (λ k l. ones k x.label + ones l y.label) (sym (first-count a b is_x.state)) (sym (second-count a b is_x.state))

  counts-united : (x y : Generator) → IsMember first x
      → circle_count both (joint x y).state ≡ circle_count first x.state + circle_count second y.state
  counts-united x y is_x =
      omega (
        arith,
        both-count x.state y.state is_x.state,
        first-count x.state y.state is_x.state,
        second-count x.state y.state is_x.state,
      )

  pub AreAlike-united : AreAlike p (united first second) (λ z. 1)
      (product_complex p (first_factor p first plus minus) (second_factor p second second_plus second_minus))
      (cube_of p (union_of first second) (plus + second_plus) (minus + second_minus))
  AreAlike-united =
      record {
        listed = listed;
        squares = λ z has. refl;
        homological = λ z has.
            let is_x = member-from first z.0 (pairs-parts (generators first) (generators second) z has).0 in
            homological-sum (one_count both (united first second z).state) (one_count first z.0.state) (one_count second z.1.state)
            minus second_minus (ones-united z.0 z.1 is_x);
        quantum = λ z has.
            let is_x = member-from first z.0 (pairs-parts (generators first) (generators second) z has).0 in
            let g = united first second z in
            quantum-sum (circle_count both g.state) (circle_count first z.0.state) (circle_count second z.1.state)
            (ones (circle_count both g.state) g.label) (ones (circle_count first z.0.state) z.0.label)
            (ones (circle_count second z.1.state) z.1.label)
            (one_count both g.state) (one_count first z.0.state) (one_count second z.1.state)
            plus second_plus minus second_minus (counts-united z.0 z.1 is_x) (labels-united z.0 z.1 is_x) (ones-united z.0 z.1 is_x);
        coefficient = λ z w has_z has_w.
            let in_z = pairs-parts (generators first) (generators second) z has_z in
            let in_w = pairs-parts (generators first) (generators second) w has_w in
            let c = coefficient p both (united first second z) (united first second w) in
            coefficient-united p first second field first_is second_is plus minus second_plus second_minus z.0 z.1 w.0 w.1
            (member-from first z.0 in_z.0) (member-from second z.1 in_z.1) (member-from first w.0 in_w.0)
            (member-from second w.1 in_w.1)
            ∙ same-equal p c (1 * (1 * c)) (once c);
      }
    where
      once : (k : ℕ) → k ≡ 1 * (1 * k)
      once k = omega arith

      homological-sum : (r s t m k : ℕ) → r ≡ s + t → pos r -ℤ pos (m + k) ≡ (pos s -ℤ pos m) +ℤ (pos t -ℤ pos k)
      homological-sum r s t m k is = omega (arith, ints, is)

      quantum-sum : (c d e o q r s t w first_plus second_plus first_minus second_minus : ℕ) → c ≡ d + e → o ≡ q + r → s ≡ t + w
          → (pos c -ℤ pos (2 * o)) +ℤ (pos (s + (first_plus + second_plus)) -ℤ pos (2 * (first_minus + second_minus)))
          ≡ ((pos d -ℤ pos (2 * q)) +ℤ (pos (t + first_plus) -ℤ pos (2 * first_minus)))
          +ℤ ((pos e -ℤ pos (2 * r)) +ℤ (pos (w + second_plus) -ℤ pos (2 * second_minus)))
      quantum-sum c d e o q r s t w first_plus second_plus first_minus second_minus counts labels ones =
          omega (arith, ints, counts, labels, ones)
