-- The cube modulo 2 in halves: the lower half has v- on the marked circle.
use Rattle.std.proofs.Common.{◌≡◌, ◌≢◌, ℕ, inl, inr, ◌+◌, ◌*◌, ◌^◌, ◌<◌, ◌≤◌, ◌∙◌, ℤ, pos, ◌+ℤ◌, ◌-ℤ◌, refl, sym, ap, ap₂, subst, arith, Bool, true, false, cond, IsTrue}
use Rattle.std.specs.Prelude.{nat_eq}
use Rattle.std.specs.List.{Contains, filter, sum_by}
use Rattle.std.proofs.lemmas.Bool.{cases_eq, eq-eqb, eqb-true, ne_eqb}
use Rattle.std.proofs.lemmas.Bool.Decides.{nat_tests}
use Rattle.std.proofs.lemmas.Int.{ints}
use Rattle.kh_types.specs.Acceptance.{accepted}
use Rattle.kh_types.specs.Bits.{one_if, ones}
use Rattle.kh_types.specs.Circles.{circle_count, circle_names}
use Rattle.kh_types.specs.CircleNumbers.{IsName}
use Rattle.kh_types.specs.Code.{Code}
use Rattle.kh_types.specs.Differential.{label_of}
use Rattle.kh_types.specs.Generators.{Generator, generator_of, generators, one_count}
use Rattle.kh_types.specs.Residues.{HasInverses}
use Rattle.kh_types.proofs.CircleNumbers.{IsCircle, IsCircle-of}
use Rattle.kh_types.proofs.Lists.{Contains-filter}
use Rattle.kh_types.proofs.ListSums.{sum_by-plus}
use Rattle.cell_laws.specs.Alike.{AreMatched}
use Rattle.cell_laws.specs.Cells.{dimension_at}
use Rattle.cell_laws.specs.Cubes.{cube_of}
use Rattle.cell_laws.proofs.CubeCells.{AreComplex-cube, IsMember, member-from, member-of}
use Rattle.cell_laws.proofs.Members.{Contains-kept, sum_by-members, sum_by-term}
use Rattle.cell_laws.proofs.NoDoubles.{once-filter, once-generators}
use Rattle.square_laws.proofs.EdgeMarks.{label_of-circle, label_of-le}
use Rattle.square_laws.proofs.LabelNumbers.{label-exists, label-once, ones-labels, sum_by-names}
use Rattle.square_laws.proofs.Merges.{circle_in}
use Rattle.reduced_cube.specs.Reduced.{is_reduced}
use Rattle.reduced_cube.proofs.MarkedMinus.{coefficient-lost}
use Rattle.split_laws.specs.Splits.{HasHalves, fails, part_of}
use Rattle.mark_laws.specs.Turns.{is_lowered, turn_count}
use Rattle.mark_laws.proofs.CubeTurns.{turns-commute, turns-state}
use Rattle.split_laws.proofs.Halves.{dimension-halves}
use Rattle.mark_laws.proofs.LessMarks.{IsLowered, lowered-decides, own-name}
use Rattle.split_laws.proofs.SplitRanks.{fails-is, is-fails}

module _ (code : Code) (is : IsTrue (accepted code)) (mark : ℕ) (name : IsName code mark) where
  abbrev lower : Generator → Bool
  lower = is_reduced code mark

  -- a label for the marked circle
  abbrev labels_with : ℕ → Generator → ℕ → ℕ
  labels_with value x arc = cond (nat_eq (circle_in code x.state mark) (circle_in code x.state arc)) value (label_of code x arc)

  labels_with-le : (value : ℕ) (x : Generator) → value ≤ 1 → (arc : ℕ) → IsName code arc → labels_with value x arc ≤ 1
  labels_with-le value x small arc is_name =
      by_test (nat_eq (circle_in code x.state mark) (circle_in code x.state arc)) (label_of code x arc) (label_of-le code x arc)
    where
      by_test : (b : Bool) (l : ℕ) → l ≤ 1 → cond b value l ≤ 1
      by_test true l l_small = small
      by_test false l l_small = l_small

  labels_with-circle : (value : ℕ) (x : Generator) (arc other : ℕ) → circle_in code x.state arc ≡ circle_in code x.state other
      → labels_with value x arc ≡ labels_with value x other
  labels_with-circle value x arc other same =
      ap₂ (λ (c l : ℕ). cond (nat_eq (circle_in code x.state mark) c) value l) same (label_of-circle code x arc other same)

  -- the generator with that label there
  abbrev set_mark : (value : ℕ) → value ≤ 1 → Generator → Generator
  set_mark value small x =
      generator_of x.state
      (label-exists code x.state (labels_with value x) is (labels_with-le value x small) (labels_with-circle value x)).0

  set_mark-below : (value : ℕ) (small : value ≤ 1) (x : Generator) → (set_mark value small x).label < 2 ^ circle_count code x.state
  set_mark-below value small x =
      (label-exists code x.state (labels_with value x) is (labels_with-le value x small) (labels_with-circle value x)).1

  label_of-set : (value : ℕ) (small : value ≤ 1) (x : Generator) (arc : ℕ) → IsName code arc
      → label_of code (set_mark value small x) arc ≡ labels_with value x arc
  label_of-set value small x =
      (label-exists code x.state (labels_with value x) is (labels_with-le value x small) (labels_with-circle value x)).2

  -- at the mark, and elsewhere
  there : (value : ℕ) (x : Generator) (arc : ℕ) → circle_in code x.state mark ≡ circle_in code x.state arc
      → labels_with value x arc ≡ value
  there value x arc same =
      ap (λ b. cond b value (label_of code x arc)) (eq-eqb (circle_in code x.state mark) (circle_in code x.state arc) same)

  elsewhere : (value : ℕ) (x : Generator) (arc : ℕ) → circle_in code x.state mark ≢ circle_in code x.state arc
      → labels_with value x arc ≡ label_of code x arc
  elsewhere value x arc other =
      ap (λ b. cond b value (label_of code x arc)) (ne_eqb (circle_in code x.state mark) (circle_in code x.state arc) other)

  abbrev down : Generator → Generator
  down x = set_mark 1 (omega arith) x

  abbrev up : Generator → Generator
  up x = set_mark 0 (omega arith) x

  lower-is : (x : Generator) → lower x ≡ true → label_of code x mark ≡ 1
  lower-is x passes = eqb-true (label_of code x mark) 1 passes

  is-lower : (x : Generator) → label_of code x mark ≡ 1 → lower x ≡ true
  is-lower x same = eq-eqb (label_of code x mark) 1 same

  upper-is : (x : Generator) → lower x ≡ false → label_of code x mark ≡ 0
  upper-is x fails = by_value (label_of code x mark) (label_of-le code x mark) fails
    where
      by_value : (l : ℕ) → l ≤ 1 → nat_eq l 1 ≡ false → l ≡ 0
      by_value l small other = grind (arith, nat_tests)

  is-upper : (x : Generator) → label_of code x mark ≡ 0 → lower x ≡ false
  is-upper x same = ap (λ l. nat_eq l 1) same

  down-mark : (x : Generator) → label_of code (down x) mark ≡ 1
  down-mark x = label_of-set 1 (omega arith) x mark name ∙ there 1 x mark refl

  up-mark : (x : Generator) → label_of code (up x) mark ≡ 0
  up-mark x = label_of-set 0 (omega arith) x mark name ∙ there 0 x mark refl

  -- there and back
  set-back : (value other : ℕ) (small : value ≤ 1) (other_small : other ≤ 1) (x : Generator) → IsMember code x
      → label_of code x mark ≡ other → set_mark other other_small (set_mark value small x) ≡ x
  set-back value other small other_small x member is_other =
      ap (generator_of x.state)
      (label-once code x.state (set_mark other other_small (set_mark value small x)).label x.label
      (set_mark-below other other_small (set_mark value small x)) member.label
      (λ arc is_name.
      label_of-set other other_small (set_mark value small x) arc is_name
      ∙ (elim (cases_eq (circle_in code x.state mark) (circle_in code x.state arc)) [
        | inl same ↦
            there other (set_mark value small x) arc same ∙ sym is_other ∙ label_of-circle code x mark arc same
        | inr apart ↦
            elsewhere other (set_mark value small x) arc apart ∙ label_of-set value small x arc is_name ∙ elsewhere value x arc apart
      ])))

  member-set : (value : ℕ) (small : value ≤ 1) (x : Generator) → IsMember code x → IsMember code (set_mark value small x)
  member-set value small x member = record { state = member.state; label = set_mark-below value small x }

  matched : AreMatched down up (filter (fails lower) (generators code)) (filter lower (generators code))
  matched =
      record {
        first_once = once-filter (fails lower) (generators code) (once-generators code);
        second_once = once-filter lower (generators code) (once-generators code);
        there = λ x has.
            let kept = Contains-kept (fails lower) (generators code) x has in
            Contains-filter lower (generators code) (down x) (is-lower (down x) (down-mark x))
            (member-of code (down x) (member-set 1 (omega arith) x (member-from code x kept.0)));
        back_there = λ y has.
            let kept = Contains-kept lower (generators code) y has in
            Contains-filter (fails lower) (generators code) (up y) (fails-is lower (up y) (is-upper (up y) (up-mark y)))
            (member-of code (up y) (member-set 0 (omega arith) y (member-from code y kept.0)));
        to_back = λ y has.
            let kept = Contains-kept lower (generators code) y has in
            set-back 0 1 (omega arith) (omega arith) y (member-from code y kept.0) (lower-is y kept.1);
        back_to = λ x has.
            let kept = Contains-kept (fails lower) (generators code) x has in
            set-back 1 0 (omega arith) (omega arith) x (member-from code x kept.0) (upper-is x (is-fails lower x kept.1));
      }

  -- the circle of a turn
  turn-circle : (x y : Generator) → turn_count code x y ≢ 0
      → (circle : ℕ) × Contains (circle_names code y.state) circle × IsLowered code (label_of code x) y circle
  turn-circle x y some =
      let sum = sum_by (λ circle. one_if (is_lowered code (label_of code x) y circle)) (circle_names code y.state) in
      let term = sum_by-term (λ circle. one_if (is_lowered code (label_of code x) y circle)) (circle_names code y.state)
      (λ none. some (all_none (nat_eq x.state y.state) sum none)) in
      (term.0, term.1, (lowered-decides code (label_of code x) y term.0).0 (passes (is_lowered code (label_of code x) y term.0) term.2))
    where
      all_none : (b : Bool) (n : ℕ) → n ≡ 0 → cond b n 0 ≡ 0
      all_none true n none = none
      all_none false n none = refl

      passes : (b : Bool) → one_if b ≢ 0 → b ≡ true
      passes true one = refl
      passes false one = absurd (one refl)

  -- from a generator turned down one turn leads up
  down-circle : (x y : Generator) → x.state ≡ y.state → lower y ≡ false → (circle : ℕ)
      → IsLowered code (label_of code (down x)) y circle → circle ≡ circle_in code y.state mark
  down-circle x y same is_y circle lowered = elim (cases_eq circle (circle_in code y.state mark)) [
    | inl on ↦ on
    | inr off ↦
        absurd (omega (
          arith,
          down-mark x,
          lowered.at mark name,
          upper-is y is_y,
          ap one_if (ne_eqb circle (circle_in code y.state mark) off),
        ))
  ]

  down-back : (x : Generator) → lower x ≡ false → IsLowered code (label_of code (down x)) x (circle_in code x.state mark)
  down-back x is_x =
      record {
        at = λ arc is_name.
            label_of-set 1 (omega arith) x arc is_name
            ∙ (elim (cases_eq (circle_in code x.state mark) (circle_in code x.state arc)) [
              | inl same ↦
                  there 1 x arc same
                  ∙ raised_by (label_of code x arc) (nat_eq (circle_in code x.state mark) (circle_in code x.state arc))
                  (sym (label_of-circle code x mark arc same) ∙ upper-is x is_x)
                  (eq-eqb (circle_in code x.state mark) (circle_in code x.state arc) same)
              | inr apart ↦
                  elsewhere 1 x arc apart
                  ∙ kept (label_of code x arc) (nat_eq (circle_in code x.state mark) (circle_in code x.state arc))
                  (ne_eqb (circle_in code x.state mark) (circle_in code x.state arc) apart)
            ]);
      }
    where
      raised_by : (l : ℕ) (b : Bool) → l ≡ 0 → b ≡ true → 1 ≡ l + one_if b
      raised_by l b none passes = omega (arith, none, ap one_if passes)

      kept : (l : ℕ) (b : Bool) → b ≡ false → l ≡ l + one_if b
      kept l b fails = omega (arith, ap one_if fails)

  turns-one : (x : Generator) → lower x ≡ false → turn_count code (down x) x ≡ 1
  turns-one x is_x =
      let state = x.state in
      let c = circle_in code state mark in
      let circle = IsCircle-of code state mark is name in
      let f = λ (k : ℕ). one_if (is_lowered code (label_of code (down x)) x k) in
      ap (λ b. cond b (sum_by f (circle_names code state)) 0) (eq-eqb state state refl)
      ∙ sum_by-names code state f c circle
      (λ other own apart. elim (cases_eq (f other) 0) [
        | inl none ↦ none
        | inr some ↦
            absurd (apart (down-circle x x refl is_x other
            ((lowered-decides code (label_of code (down x)) x other).0 (passes (is_lowered code (label_of code (down x)) x other) some))))
      ])
      ∙ ap one_if ((lowered-decides code (label_of code (down x)) x c).1 (down-back x is_x))
    where
      passes : (b : Bool) → one_if b ≢ 0 → b ≡ true
      passes true one = refl
      passes false one = absurd (one refl)

  turns-others : (x y : Generator) → IsMember code x → IsMember code y → lower x ≡ false → lower y ≡ false → y ≢ x
      → turn_count code (down x) y ≡ 0
  turns-others x y in_x in_y is_x is_y other = elim (cases_eq (turn_count code (down x) y) 0) [
    | inl none ↦ none
    | inr some ↦ absurd (other (same_generator (turns-state code (down x) y some) some))
  ]
    where
      labels-same : (s : ℕ) (first second : ℕ) → first < 2 ^ circle_count code s → second < 2 ^ circle_count code s
          → lower (generator_of s first) ≡ false → lower (generator_of s second) ≡ false
          → turn_count code (down (generator_of s first)) (generator_of s second) ≢ 0 → second ≡ first
      labels-same s first second first_below second_below is_first is_second some =
          let one = generator_of s first in
          let two = generator_of s second in
          let turn = turn-circle (down one) two some in
          let is_mark = down-circle one two refl is_second turn.0 turn.2 in
          let back = down-back one is_first in
          label-once code s second first second_below first_below
          (λ arc is_name.
          cancelled (label_of code two arc) (label_of code one arc)
          (one_if (nat_eq (circle_in code s mark) (circle_in code s arc)))
          (ap (λ c. label_of code two arc + one_if (nat_eq c (circle_in code s arc))) (sym is_mark)
          ∙ sym (turn.2.at arc is_name) ∙ back.at arc is_name))
        where
          cancelled : (a b n : ℕ) → a + n ≡ b + n → a ≡ b
          cancelled a b n same = omega (arith, same)

      same_generator : x.state ≡ y.state → turn_count code (down x) y ≢ 0 → y ≡ x
      same_generator same some =
          let moved : y ≡ generator_of x.state y.label = ap (λ s. generator_of s y.label) (sym same) in
          moved
          ∙ ap (generator_of x.state)
          (labels-same x.state x.label y.label in_x.label (subst (λ s. y.label < 2 ^ circle_count code s) (sym same) in_y.label) is_x
          (sym (ap lower moved) ∙ is_y)
          (λ none. some (ap (turn_count code (down x)) moved ∙ none)))

  -- a turn takes one label v-
  turn-ones : (x y : Generator) → turn_count code x y ≢ 0
      → ones (circle_count code x.state) x.label ≡ ones (circle_count code y.state) y.label + 1
  turn-ones x y some =
      let same = turns-state code x y some in
      let turn = turn-circle x y some in
      let own = own-name code y.state turn.0 turn.1 in
      let names = circle_names code y.state in
      let on = λ (k : ℕ). one_if (nat_eq turn.0 (circle_in code y.state k)) in
      ones-labels code x
      ∙ ap (λ s. sum_by (label_of code x) (circle_names code s)) same
      ∙ sum_by-members (label_of code x) (λ k. label_of code y k + on k) names
      (λ k has. turn.2.at k (own-name code y.state k has).name)
      ∙ sum_by-plus (label_of code y) on names
      ∙ ap₂ (λ m n. m + n) (sym (ones-labels code y))
      (sum_by-names code y.state on turn.0
      (subst (λ c. IsCircle code y.state c) own.own (IsCircle-of code y.state turn.0 is own.name))
      (λ k k_own other. ap one_if (ne_eqb turn.0 (circle_in code y.state k) (λ at. other (sym k_own ∙ sym at))))
      ∙ ap one_if (eq-eqb turn.0 (circle_in code y.state turn.0) (sym own.own)))

  halves : (plus minus : ℕ) → HasHalves (cube_of 2 code plus minus) lower down up (turn_count code)
  halves plus minus =
      record {
        closed = λ x y has_x has_y is_x is_y.
            coefficient-lost 2 code mark x y is name (lower-is x is_x) (zero_one (label_of code y mark) (upper-is y is_y));
        matched = matched;
        homological = λ x y has_x has_y some.
            ap (λ s. pos (one_count code s) -ℤ pos minus) (sym (turns-state code x y some));
        quantum = λ x y has_x has_y some.
            let same = turns-state code x y some in
            let counts = turn-ones x y some in
            let fewer : ones (circle_count code x.state) y.label + 1 ≡ ones (circle_count code x.state) x.label =
            ap (λ s. ones (circle_count code s) y.label + 1) same ∙ sym counts in
            ap (λ s. (pos (circle_count code s) -ℤ pos (2 * ones (circle_count code s) y.label))
            +ℤ (pos (one_count code s + plus) -ℤ pos (2 * minus))) (sym same)
            ∙ degrees (circle_count code x.state) (ones (circle_count code x.state) y.label) (ones (circle_count code x.state) x.label)
            (one_count code x.state + plus) (2 * minus) fewer;
        commute = λ x z has_x has_z. turns-commute code is x z (member-from code x has_x) (member-from code z has_z);
        one = λ x has is_x. turns-one x is_x;
        others = λ x y has_x has_y is_x is_y other. turns-others x y (member-from code x has_x) (member-from code y has_y) is_x is_y other;
      }
    where
      zero_one : (l : ℕ) → l ≡ 0 → l ≢ 1
      zero_one l none one = omega (arith, none, one)

      degrees : (c o p m n : ℕ) → o + 1 ≡ p
          → (pos c -ℤ pos (2 * o)) +ℤ (pos m -ℤ pos n) ≡ (pos c -ℤ pos (2 * p)) +ℤ (pos m -ℤ pos n) +ℤ pos 2
      degrees c o p m n is = omega (arith, ints, is)

  pub cube-halves : (plus minus : ℕ) → HasInverses 2 → (i j : ℤ) → dimension_at 2 (cube_of 2 code plus minus) i j
      ≡ dimension_at 2 (part_of (cube_of 2 code plus minus) lower) i (j -ℤ pos 2)
      + dimension_at 2 (part_of (cube_of 2 code plus minus) lower) i j
  cube-halves plus minus field i j =
      dimension-halves (cube_of 2 code plus minus) lower down up (turn_count code) field
      (AreComplex-cube 2 code plus minus (omega arith) is) (halves plus minus) i j
