-- A triangle with its ends at stubs: new numbers, each joined with the arc that it stands for.
--
-- Sides may stand for one arc, or end at each other. So each of the nine numbers of a triangle gets a number of its own behind all others,
-- a stub, which a pair joins with the arc that it stands for. Stubs add no class, and pairs on stubs have as many classes as the pairs on
-- the arcs themselves. So the triangle can be glued as if all its ends were different.
use Rattle.std.proofs.Common.{◌≡◌, ℕ, zero, suc, ◌⊎◌, inl, inr, ◌+◌, ◌-◌, ◌<◌, ◌≤◌, ◌∙◌, List, [], ◌∷◌, ◌++◌, sym, refl, ap, arith, cond}
use Rattle.std.specs.Prelude.{slice_index, nat_lt}
use Rattle.std.specs.List.{range_with_len}
use Rattle.std.proofs.lemmas.Bool.Decides.{nat_tests}
use Rattle.kh_types.specs.Classes.{classes_of, class_count, Respects, AreBelow}
use Rattle.kh_types.proofs.ClassLemmas.{classes-together, classes-finest}
use Rattle.kh_types.proofs.JoinedClasses.{slice_index-range}
use Rattle.kh_types.proofs.ClassCounts.{AreBelow-wider}
use Rattle.gluing_laws.specs.Glue.{renamed, Places, JoinAlike}
use Rattle.gluing_laws.specs.Slides.{IsPlacedTriangle, IsNoSide}
use Rattle.gluing_laws.proofs.OuterPairs.{TouchNoSide, stubs, at_stubs}
use Rattle.gluing_laws.proofs.Glued.{class_count-glued_parts}
use Rattle.gluing_laws.proofs.Renamed.{class_count-range, class_count-fresh}

-- pairs and functions

pub Respects-renamed : (f g : ℕ → ℕ) (pairs : List (ℕ × ℕ)) → Respects (λ x. f (g x)) pairs → Respects f (renamed g pairs)
Respects-renamed f g [] respects = tt
Respects-renamed f g (pair ∷ pairs) respects = (respects.0, Respects-renamed f g pairs respects.1)

pub Respects-from_renamed : (f g : ℕ → ℕ) (pairs : List (ℕ × ℕ)) → Respects f (renamed g pairs) → Respects (λ x. f (g x)) pairs
Respects-from_renamed f g [] respects = tt
Respects-from_renamed f g (pair ∷ pairs) respects = (respects.0, Respects-from_renamed f g pairs respects.1)

-- what takes its values from a function that respects pairs, respects them
pub Respects-through : (n : ℕ) (f g h : ℕ → ℕ) (pairs : List (ℕ × ℕ)) → AreBelow n pairs → ((x : ℕ) → x < n → g x ≡ h (f x))
    → Respects f pairs → Respects g pairs
Respects-through n f g h [] below through respects = tt
Respects-through n f g h (pair ∷ pairs) below through respects =
    (through pair.0 below.0.0 ∙ ap h respects.0 ∙ sym (through pair.1 below.0.1), Respects-through n f g h pairs below.1 through respects.1)

-- names that a function keeps
pub renamed-kept : (f : ℕ → ℕ) (arcs : ℕ → ℕ) (pairs : List (ℕ × ℕ)) → ((x : ℕ) → IsNoSide arcs x → f x ≡ x) → TouchNoSide arcs pairs
    → renamed f pairs ≡ pairs
renamed-kept f arcs [] kept touch = refl
renamed-kept f arcs (pair ∷ pairs) kept touch = grind (arith, nat_tests, renamed-kept f arcs pairs kept touch.1)

pub renamed-below : (f : ℕ → ℕ) (n : ℕ) (pairs : List (ℕ × ℕ)) → ((x : ℕ) → x < n → f x ≡ x) → AreBelow n pairs → renamed f pairs ≡ pairs
renamed-below f n [] kept below = refl
renamed-below f n (pair ∷ pairs) kept below = grind (arith, nat_tests, renamed-below f n pairs kept below.1)

pub renamed-twice : (n : ℕ) (f g h : ℕ → ℕ) (pairs : List (ℕ × ℕ)) → ((x : ℕ) → x < n → f (g x) ≡ h x) → AreBelow n pairs
    → renamed f (renamed g pairs) ≡ renamed h pairs
renamed-twice n f g h [] same below = refl
renamed-twice n f g h (pair ∷ pairs) same below = grind (arith, nat_tests, renamed-twice n f g h pairs same below.1)

pub append-three : (ps qs rs : List (ℕ × ℕ)) → (ps ++ qs) ++ rs ≡ ps ++ (qs ++ rs)
append-three [] qs rs = refl
append-three (p ∷ ps) qs rs = ap (λ xs. p ∷ xs) (append-three ps qs rs)

-- stubs

-- the arc of each number, where the numbers from n on are stubs
pub unstubbed : ℕ → (ℕ → ℕ) → ℕ → ℕ
unstubbed n arcs x = cond (nat_lt x n) x (arcs (x - n + 1))

pub unstubbed-below : (n : ℕ) (arcs : ℕ → ℕ) (x : ℕ) → x < n → unstubbed n arcs x ≡ x
unfolding unstubbed
unstubbed-below n arcs x below = chosen x n (arcs (x - n + 1)) below
  where
    chosen : (x n y : ℕ) → x < n → cond (nat_lt x n) x y ≡ x
    chosen x n y below = grind (arith, nat_tests)

unstubbed-stub : (n : ℕ) (arcs : ℕ → ℕ) (i : ℕ) → unstubbed n arcs (n + i) ≡ arcs (i + 1)
unfolding unstubbed
unstubbed-stub n arcs i =
    let e : n + i - n + 1 ≡ i + 1 = omega arith in
    chosen (n + i) n (arcs (n + i - n + 1)) (omega arith) ∙ ap arcs e
  where
    chosen : (x n y : ℕ) → n ≤ x → cond (nat_lt x n) x y ≡ y
    chosen x n y above = grind (arith, nat_tests)

pub stubs-below : (n : ℕ) (arcs : ℕ → ℕ) (count : ℕ) → ((i : ℕ) → i < 10 → arcs i < n) → count ≤ 6 → AreBelow (n + count) (stubs n arcs count)
stubs-below n arcs zero below within = tt
stubs-below n arcs (suc count) below within = grind (arith, nat_tests, AreBelow-wider, stubs, stubs-below n arcs count below (omega arith))

-- a stub is a class with its arc, so that stubs add no class
class_count-stubs : (n : ℕ) (arcs : ℕ → ℕ) (count : ℕ) → ((i : ℕ) → i < 10 → arcs i < n) → count ≤ 6
    → class_count (classes_of (n + count) (stubs n arcs count)) ≡ n
class_count-stubs n arcs zero below within = grind (arith, nat_tests, class_count-range)
class_count-stubs n arcs (suc count) below within =
    let e : n + suc count ≡ n + count + 1 = omega arith in
    let end = below (count + 1) (omega arith) in
    ap (λ k. class_count (classes_of k (stubs n arcs (suc count)))) e
    ∙ class_count-fresh (n + count) (arcs (count + 1)) (stubs n arcs count) (stubs-below n arcs count below (omega arith)) (omega arith)
    ∙ class_count-stubs n arcs count below (omega arith)

pub last_or_before : (i count : ℕ) → i < suc count → (i ≡ count) ⊎ (i < count)
last_or_before i count below = grind (arith, nat_tests)

Respects-stub : (f : ℕ → ℕ) (n : ℕ) (arcs : ℕ → ℕ) (count i : ℕ) → Respects f (stubs n arcs count) → i < count
    → f (arcs (i + 1)) ≡ f (n + i)
Respects-stub f n arcs zero i respects below = absurd (omega arith)
Respects-stub f n arcs (suc count) i respects below = elim (last_or_before i count below) [
  | inl last ↦ ap (λ k. f (arcs (k + 1))) last ∙ respects.0 ∙ ap (λ k. f (n + k)) (sym last)
  | inr before ↦ Respects-stub f n arcs count i respects.1 before
]

unstubbed-respects : (n : ℕ) (arcs : ℕ → ℕ) (count : ℕ) → ((i : ℕ) → i < 10 → arcs i < n) → count ≤ 6
    → Respects (unstubbed n arcs) (stubs n arcs count)
unstubbed-respects n arcs zero below within = tt
unstubbed-respects n arcs (suc count) below within =
    grind (arith, nat_tests, unstubbed-below, unstubbed-stub, unstubbed-respects n arcs count below (omega arith))

below_or_stub : (x n : ℕ) → x < n + 6 → (x < n) ⊎ ((x ≡ n + (x - n)) × (x - n < 6))
below_or_stub x n below = grind (arith, nat_tests)

-- each number is in a class with its arc
class-unstubbed : (n : ℕ) (arcs : ℕ → ℕ) → ((i : ℕ) → i < 10 → arcs i < n) → (x : ℕ) → x < n + 6
    → slice_index (classes_of (n + 6) (stubs n arcs 6)) x ≡ slice_index (classes_of (n + 6) (stubs n arcs 6)) (unstubbed n arcs x)
class-unstubbed n arcs below x x_below =
    let classes = classes_of (n + 6) (stubs n arcs 6) in
    elim (below_or_stub x n x_below) [
      | inl old ↦ ap (λ z. slice_index classes z) (sym (unstubbed-below n arcs x old))
      | inr stub ↦
          ap (λ z. slice_index classes z) stub.0
          ∙ sym (Respects-stub (λ z. slice_index classes z) n arcs 6 (x - n)
          (classes-together (n + 6) (stubs n arcs 6) (stubs-below n arcs 6 below (omega arith))) stub.1)
          ∙ ap (λ z. slice_index classes z) (sym (ap (λ z. unstubbed n arcs z) stub.0 ∙ unstubbed-stub n arcs (x - n)))
    ]

unstubbed-places : (n : ℕ) (arcs : ℕ → ℕ) → ((i : ℕ) → i < 10 → arcs i < n) → Places (unstubbed n arcs) (n + 6) n
unstubbed-places n arcs below x x_below = elim (below_or_stub x n x_below) [
  | inl old ↦ let is = unstubbed-below n arcs x old in omega arith
  | inr stub ↦
      let is = ap (λ z. unstubbed n arcs z) stub.0 ∙ unstubbed-stub n arcs (x - n) in
      let small = stub.1 in
      let end = below (x - n + 1) (omega arith) in
      omega arith
]

-- pairs on stubs have as many classes, with the stubs joined to their arcs, as the pairs on the arcs themselves
pub class_count-unstubbed : (n : ℕ) (arcs : ℕ → ℕ) (pairs : List (ℕ × ℕ)) → ((i : ℕ) → i < 10 → arcs i < n) → AreBelow (n + 6) pairs
    → class_count (classes_of n (renamed (unstubbed n arcs) pairs)) ≡ class_count (classes_of (n + 6) (stubs n arcs 6 ++ pairs))
class_count-unstubbed n arcs pairs below pairs_below =
    let classes = classes_of (n + 6) (stubs n arcs 6) in
    let places = unstubbed-places n arcs below in
    let small = stubs-below n arcs 6 below (omega arith) in
    let alike : JoinAlike (n + 6) (λ x. x) (unstubbed n arcs) classes (range_with_len 0 n) = record {
      onward = λ x y x_below y_below same. ap (λ z. slice_index (range_with_len 0 n) z)
          (classes-finest (unstubbed n arcs) (n + 6) (stubs n arcs 6) (unstubbed-respects n arcs 6 below (omega arith)) small
          x y x_below y_below same);
      back = λ x y x_below y_below same.
          class-unstubbed n arcs below x x_below
          ∙ ap (λ z. slice_index classes z)
          (sym (slice_index-range n (unstubbed n arcs x) (places x x_below)) ∙ same
          ∙ slice_index-range n (unstubbed n arcs y) (places y y_below))
          ∙ sym (class-unstubbed n arcs below y y_below);
    } in
    let law = class_count-glued_parts (n + 6) (n + 6) n (λ x. x) (unstubbed n arcs) pairs (stubs n arcs 6) [] pairs_below small tt
    (λ x x_below. x_below) places alike in
    let same = ap (λ ps. class_count (classes_of (n + 6) (stubs n arcs 6 ++ ps))) (renamed-below (λ x. x) (n + 6) pairs (λ x x_below. refl) pairs_below) in
    omega (arith, law, same, class_count-stubs n arcs 6 below (omega arith), class_count-range n)

-- the triangle with its ends at stubs

pub at_stubs-side : (n : ℕ) (arcs : ℕ → ℕ) (i : ℕ) → 7 ≤ i → at_stubs n arcs i ≡ arcs i
at_stubs-side n arcs i from = grind (arith, nat_tests)

at_stubs-zero : (n : ℕ) (arcs : ℕ → ℕ) (i : ℕ) → i ≡ 0 → at_stubs n arcs i ≡ 0
at_stubs-zero n arcs i is_zero = ap (λ k. at_stubs n arcs k) is_zero

at_stubs-end : (n : ℕ) (arcs : ℕ → ℕ) (i : ℕ) → 1 ≤ i → i < 7 → at_stubs n arcs i ≡ n + (i - 1)
at_stubs-end n arcs i from below = grind (arith, nat_tests)

kind_of : (i : ℕ) → i < 10 → (i ≡ 0) ⊎ (((1 ≤ i) × (i < 7)) ⊎ (7 ≤ i))
kind_of i below = grind (arith, nat_tests)

pub at_stubs-places : (n : ℕ) (arcs : ℕ → ℕ) → IsPlacedTriangle n arcs → Places (at_stubs n arcs) 10 (n + 6)
at_stubs-places n arcs placed = grind (arith, nat_tests)

-- the arc of each inside number's place
pub unstubbed-at_stubs : (n : ℕ) (arcs : ℕ → ℕ) → IsPlacedTriangle n arcs → (i : ℕ) → i < 10 → unstubbed n arcs (at_stubs n arcs i) ≡ arcs i
unstubbed-at_stubs n arcs placed i below = elim (kind_of i below) [
  | inl is_zero ↦
      let some = placed.below 0 (omega arith) in
      ap (λ z. unstubbed n arcs z) (at_stubs-zero n arcs i is_zero) ∙ unstubbed-below n arcs 0 (omega arith) ∙ sym placed.zero_kept
      ∙ ap arcs (sym is_zero)
  | inr other ↦ elim other [
    | inl end ↦
        let from = end.0 in
        let e : i - 1 + 1 ≡ i = omega arith in
        ap (λ z. unstubbed n arcs z) (at_stubs-end n arcs i end.0 end.1) ∙ unstubbed-stub n arcs (i - 1) ∙ ap arcs e
    | inr side ↦
        ap (λ z. unstubbed n arcs z) (at_stubs-side n arcs i side) ∙ unstubbed-below n arcs (arcs i) (placed.below i below)
  ]
]

-- an end or the number 0 is at no side's place
pub end-no_side : (n : ℕ) (arcs : ℕ → ℕ) → IsPlacedTriangle n arcs → (i : ℕ) → i < 7 → IsNoSide arcs (at_stubs n arcs i)
end-no_side n arcs placed i below = grind (arith, nat_tests)

pub at_stubs-apart : (n : ℕ) (arcs : ℕ → ℕ) → IsPlacedTriangle n arcs → (i j : ℕ) → i < 10 → j < 10
    → at_stubs n arcs i ≡ at_stubs n arcs j → i ≡ j
at_stubs-apart n arcs placed i j i_below j_below same = grind (arith, nat_tests)
