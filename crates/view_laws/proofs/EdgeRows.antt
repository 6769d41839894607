-- The number of an edge in the deformed theory, by points: the plain one, where the labels fit, or that of a raised row.
use Rattle.std.proofs.lemmas.Bool.Decides.{nat_tests}
use Rattle.std.proofs.Common.{◌≡◌, ℕ, inl, inr, ◌+◌, ◌≤◌, ◌∙◌, List, [], ◌∷◌, map, sym, ap, ap₂, arith, Bool, true, false, cond, ◌&&◌, ◌||◌}
use Rattle.std.specs.Prelude.{nat_eq, nat_lt}
use Rattle.std.proofs.lemmas.Bool.{and_from, and_parts, eq-eqb, eqb-true, le-ltb, lt-ltb}
use Rattle.kh_types.specs.Bits.{one_if}
use Rattle.kh_types.specs.Circles.{circle_count}
use Rattle.kh_types.specs.Code.{Code}
use Rattle.kh_types.specs.Differential.{changes_labels, is_merge, is_split, keeps_labels}
use Rattle.kh_types.specs.Edges.{TwoBecomeOne}
use Rattle.kh_types.specs.Generators.{generator_of}
use Rattle.kh_types.proofs.Tests.{agree}
use Rattle.square_laws.proofs.TouchedCircles.{fits}
use Rattle.view_laws.specs.Views.{HasCircles}
use Rattle.view_laws.proofs.CircleNames.{label-small}
use Rattle.view_laws.proofs.EdgePoints.{ArePoints, has-back, has-forth, has-turned, has_points, keeps_points, label_big, label_small, merge-keeps, split-keeps}
use Rattle.view_laws.proofs.SameClosed.{Changes}
use Rattle.square_laws.specs.Deformed.{label_number, row_number}

-- the number of a raised row, by points
abbrev pub raised_at : ℕ → ℕ → Code → List ℕ → ℕ → ℕ → ℕ → ℕ → ℕ
raised_at h k code points before behind label other =
    cond (keeps_points code points before behind label other)
    (cond (nat_lt (circle_count code before) (circle_count code behind))
    (cond (has_points code points before behind label other 0) k 0)
    (cond (has_points code points before behind label other 1) h 0))
    0

-- rows are plain or raised

row-two : (h k a b c : ℕ) → a ≤ 1 → b ≤ 1 → c ≤ 1
    → row_number h k (a ∷ b ∷ []) (c ∷ [])
    ≡ one_if (is_merge (a ∷ b ∷ []) (c ∷ []) || is_split (a ∷ b ∷ []) (c ∷ []))
    + cond (nat_eq a 1 && (nat_eq b 1 && nat_eq c 1)) h 0
row-two h k a b c a_small b_small c_small = grind (arith, nat_tests)

row-one : (h k a b c : ℕ) → a ≤ 1 → b ≤ 1 → c ≤ 1
    → row_number h k (c ∷ []) (a ∷ b ∷ [])
    ≡ one_if (is_merge (c ∷ []) (a ∷ b ∷ []) || is_split (c ∷ []) (a ∷ b ∷ []))
    + cond (nat_eq a 0 && (nat_eq b 0 && nat_eq c 0)) k 0
row-one h k a b c a_small b_small c_small = grind (arith, nat_tests)

either : (keeps changes : Bool) (n : ℕ) → cond keeps (one_if changes + n) 0 ≡ one_if (keeps && changes) + cond keeps n 0
either true changes n = omega arith
either false changes n = omega arith

module _ (h k : ℕ) (code : Code) (big small crossing kept gone : ℕ) (circles : HasCircles code)
    (two : TwoBecomeOne code big small crossing kept gone) (b s : ℕ) (points : List ℕ) (are : ArePoints code points big) where
  abbrev x : ℕ
  x = label_big code big small crossing kept gone circles two b s kept

  abbrev y : ℕ
  y = label_big code big small crossing kept gone circles two b s gone

  abbrev z : ℕ
  z = label_small code big small crossing kept gone circles two b s kept

  -- the labels of the circles that change are all l where the points tell so
  all-have : (l : ℕ) → (nat_eq x l && (nat_eq y l && nat_eq z l)) ≡ has_points code points big small b s l
  all-have l =
      agree (nat_eq x l && (nat_eq y l && nat_eq z l)) (has_points code points big small b s l)
      (λ passes.
      let first = and_parts (nat_eq x l) (nat_eq y l && nat_eq z l) passes in
      let second = and_parts (nat_eq y l) (nat_eq z l) first.1 in
      has-back code big small crossing kept gone circles two b s points are l
      (eqb-true x l first.0, eqb-true y l second.0, eqb-true z l second.1))
      (λ passes.
      let have = has-forth code big small crossing kept gone circles two b s points are l passes in
      and_from (nat_eq x l) (nat_eq y l && nat_eq z l) (eq-eqb x l have.0)
      (and_from (nat_eq y l) (nat_eq z l) (eq-eqb y l have.1) (eq-eqb z l have.2)))

  number-merge : label_number h k code (generator_of big b) (generator_of small s) crossing
      ≡ one_if (fits code (generator_of big b) (generator_of small s) crossing) + raised_at h k code points big small b s
  number-merge =
      let keeps = keeps_labels code (generator_of big b) (generator_of small s) crossing in
      let us = λ (xs : List ℕ). map (label_big code big small crossing kept gone circles two b s) xs in
      let vs = λ (xs : List ℕ). map (label_small code big small crossing kept gone circles two b s) xs in
      ap (λ n. cond keeps n 0)
      (ap₂ (λ (cs ds : List ℕ). row_number h k (us cs) (vs ds)) two.touched_before two.touched_after
      ∙ row-two h k x y z (label-small code big b kept) (label-small code big b gone) (label-small code small s kept)
      ∙ ap₂ (λ (cs ds : List ℕ). one_if (is_merge (us cs) (vs ds) || is_split (us cs) (vs ds))
      + cond (nat_eq x 1 && (nat_eq y 1 && nat_eq z 1)) h 0) (sym two.touched_before) (sym two.touched_after))
      ∙ either keeps (changes_labels code (generator_of big b) (generator_of small s) crossing)
      (cond (nat_eq x 1 && (nat_eq y 1 && nat_eq z 1)) h 0)
      ∙ ap (λ n. one_if (fits code (generator_of big b) (generator_of small s) crossing) + n)
      (ap₂ (λ (t u : Bool). cond t (cond u h 0) 0) (merge-keeps code big small crossing kept gone circles two b s points are) (all-have 1)
      ∙ ap (λ t. cond (keeps_points code points big small b s)
      (cond t (cond (has_points code points big small b s 0) k 0) (cond (has_points code points big small b s 1) h 0)) 0)
      (sym (le-ltb (circle_count code big) (circle_count code small) (omega (arith, two.count)))))

  number-split : label_number h k code (generator_of small s) (generator_of big b) crossing
      ≡ one_if (fits code (generator_of small s) (generator_of big b) crossing) + raised_at h k code points small big s b
  number-split =
      let keeps = keeps_labels code (generator_of small s) (generator_of big b) crossing in
      let us = λ (xs : List ℕ). map (label_big code big small crossing kept gone circles two b s) xs in
      let vs = λ (xs : List ℕ). map (label_small code big small crossing kept gone circles two b s) xs in
      ap (λ n. cond keeps n 0)
      (ap₂ (λ (cs ds : List ℕ). row_number h k (vs cs) (us ds)) two.touched_after two.touched_before
      ∙ row-one h k x y z (label-small code big b kept) (label-small code big b gone) (label-small code small s kept)
      ∙ ap₂ (λ (cs ds : List ℕ). one_if (is_merge (vs cs) (us ds) || is_split (vs cs) (us ds))
      + cond (nat_eq x 0 && (nat_eq y 0 && nat_eq z 0)) k 0) (sym two.touched_after) (sym two.touched_before))
      ∙ either keeps (changes_labels code (generator_of small s) (generator_of big b) crossing)
      (cond (nat_eq x 0 && (nat_eq y 0 && nat_eq z 0)) k 0)
      ∙ ap (λ n. one_if (fits code (generator_of small s) (generator_of big b) crossing) + n)
      (ap₂ (λ (t u : Bool). cond t (cond u k 0) 0) (split-keeps code big small crossing kept gone circles two b s points are)
      (all-have 0 ∙ sym (has-turned code points big small b s 0))
      ∙ ap (λ t. cond (keeps_points code points small big s b)
      (cond t (cond (has_points code points small big s b 0) k 0) (cond (has_points code points small big s b 1) h 0)) 0)
      (sym (lt-ltb (circle_count code small) (circle_count code big) (omega (arith, two.count)))))

-- the theorem, of an edge
pub number-points : (h k : ℕ) (code : Code) (before behind crossing : ℕ) (points : List ℕ) (label other : ℕ) → HasCircles code
    → Changes code before behind crossing → ArePoints code points before → ArePoints code points behind
    → label_number h k code (generator_of before label) (generator_of behind other) crossing
    ≡ one_if (fits code (generator_of before label) (generator_of behind other) crossing)
    + raised_at h k code points before behind label other
number-points h k code before behind crossing points label other circles (kept, gone, either) first second = elim either [
  | inl two ↦ number-merge h k code before behind crossing kept gone circles two label other points first
  | inr two ↦ number-split h k code behind before crossing kept gone circles two other label points second
]
