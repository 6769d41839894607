-- The dimensions of codes with loops: each loop is a union with one loop, whose homology is that of two generators.
use Rattle.std.proofs.Common.{◌≡◌, ℕ, zero, suc, ◌+◌, ◌*◌, ◌≤◌, ◌∙◌, ℤ, pos, neg_ℤ, ◌+ℤ◌, ◌-ℤ◌, List, [], ◌∷◌, refl, sym, ap, ap₂, arith, IsTrue}
use Rattle.std.specs.List.{sum_by}
use Rattle.std.proofs.lemmas.Int.{ints}
use Rattle.std.proofs.lemmas.List.{append-nil}
use Rattle.std.proofs.lemmas.List.Sums.{sum_by-cons}
use Rattle.kh_types.specs.Acceptance.{accepted, first_fault}
use Rattle.kh_types.specs.Code.{Code}
use Rattle.kh_types.specs.Residues.{HasInverses}
use Rattle.kh_types.specs.Table.{dimension, from_minus}
use Rattle.kh_types.proofs.AcceptedLemmas.{IsAccepted-is}
use Rattle.link_algebra.specs.Unions.{union_of}
use Rattle.kh_types.specs.WorkedCodes.{one_loop}
use Rattle.union_laws.specs.Loops.{beside_loops, with_loops}
use Rattle.product_laws.specs.Products.{product_dimension}
use Rattle.union_laws.proofs.Unions.{dimension-union_turned}

pub fewer-loops : (code : Code) (k : ℕ) → IsTrue (accepted code) → k ≤ code.loops → IsTrue (accepted (with_loops code k))
fewer-loops code k is few =
    let holds = (IsAccepted-is code).0 is in
    (IsAccepted-is (with_loops code k)).1
    (record {
      directed = holds.directed;
      checkerboard = holds.checkerboard;
      faces = holds.faces;
      components = omega (arith, holds.components, few);
    })

pub one-is : IsTrue (accepted one_loop)
unfolding accepted first_fault
one-is = refl

-- the homology of one loop
loop-up : (p : ℕ) → dimension p one_loop (pos 0) (pos 1) ≡ 1
loop-up p = refl

loop-middle : (p : ℕ) → dimension p one_loop (pos 0) (pos 0) ≡ 0
loop-middle p = refl

loop-down : (p : ℕ) → dimension p one_loop (pos 0) (neg_ℤ (pos 1)) ≡ 1
loop-down p = refl

-- the sum over the degrees of one loop
degrees-loop : (f g : ℤ → ℤ → ℕ) (i j : ℤ) → f (pos 0) (pos 1) ≡ 1 → f (pos 0) (pos 0) ≡ 0 → f (pos 0) (neg_ℤ (pos 1)) ≡ 1
    → product_dimension 0 1 f g i j ≡ g i (j -ℤ pos 1) + g i (j +ℤ pos 1)
degrees-loop f g i j up middle down =
    let term = λ (a b : ℤ). f a b * g (i -ℤ a) (j -ℤ b) in
    let low = neg_ℤ (pos 1) in
    let same : i -ℤ pos 0 ≡ i = omega (arith, ints) in
    let above : j -ℤ low ≡ j +ℤ pos 1 = omega (arith, ints) in
    sum_by-cons (λ a. sum_by (term a) (from_minus 1)) (pos 0) []
    ∙ ap (λ n. n + 0)
    (sum_by-cons (term (pos 0)) low (pos 0 ∷ pos 1 ∷ [])
    ∙ ap (λ n. term (pos 0) low + n)
    (sum_by-cons (term (pos 0)) (pos 0) (pos 1 ∷ [])
    ∙ ap (λ n. term (pos 0) (pos 0) + n) (sum_by-cons (term (pos 0)) (pos 1) [])))
    ∙ ap₂ (λ a c. a * g (i -ℤ pos 0) (j -ℤ low) + (c * g (i -ℤ pos 0) (j -ℤ pos 0)
    + (f (pos 0) (pos 1) * g (i -ℤ pos 0) (j -ℤ pos 1) + 0)) + 0)
    down middle
    ∙ ap (λ b. 1 * g (i -ℤ pos 0) (j -ℤ low) + (0 * g (i -ℤ pos 0) (j -ℤ pos 0) + (b * g (i -ℤ pos 0) (j -ℤ pos 1) + 0)) + 0) up
    ∙ plain (g (i -ℤ pos 0) (j -ℤ low)) (g (i -ℤ pos 0) (j -ℤ pos 0)) (g (i -ℤ pos 0) (j -ℤ pos 1))
    ∙ ap₂ (λ m n. m + n) (ap (λ k. g k (j -ℤ pos 1)) same) (ap₂ g same above)
  where
    plain : (u v w : ℕ) → 1 * u + (0 * v + (1 * w + 0)) + 0 ≡ w + u
    plain u v w = omega arith

module _ (p : ℕ) (code : Code) (field : HasInverses p) where
  pub one-more_loop : IsTrue (accepted code) → (i j : ℤ)
      → dimension p (union_of code one_loop) i j ≡ dimension p code i (j -ℤ pos 1) + dimension p code i (j +ℤ pos 1)
  one-more_loop is i j =
      dimension-union_turned p code one_loop field is one-is 1 (omega arith) i j
      ∙ degrees-loop (dimension p one_loop) (dimension p code) i j (loop-up p) (loop-middle p) (loop-down p)

  one-more : (k : ℕ) → union_of (with_loops code k) one_loop ≡ with_loops code (suc k)
  one-more k =
      let e : k + 1 ≡ suc k = omega arith in
      ap₂ (λ (crossings : List (List ℕ)) (loops : ℕ). record { crossings = crossings; loops = loops }) (append-nil code.crossings) e

  pub dimension-loops : (k : ℕ) → IsTrue (accepted (with_loops code k)) → (i j : ℤ)
      → dimension p (with_loops code k) i j ≡ beside_loops k (dimension p (with_loops code 0)) i j
  dimension-loops zero is i j = refl
  dimension-loops (suc k) is i j =
      let fewer = fewer-loops (with_loops code (suc k)) k is (omega arith) in
      ap (λ c. dimension p c i j) (sym (one-more k))
      ∙ dimension-union_turned p (with_loops code k) one_loop field fewer one-is 1 (omega arith) i j
      ∙ degrees-loop (dimension p one_loop) (dimension p (with_loops code k)) i j (loop-up p) (loop-middle p) (loop-down p)
      ∙ ap₂ (λ m n. m + n) (dimension-loops k fewer i (j -ℤ pos 1)) (dimension-loops k fewer i (j +ℤ pos 1))
