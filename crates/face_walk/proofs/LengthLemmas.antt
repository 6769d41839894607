-- The lengths of all faces come to the number of darts.
use Rattle.std.proofs.Common.{◌≡◌, ℕ, zero, suc, ◌+◌, ◌*◌, ◌<◌, ◌∙◌, List, [], ◌∷◌, length, refl, sym, ap, arith, false, cond}
use Rattle.std.specs.Prelude.{IsTrue, nat_eq}
use Rattle.std.specs.List.{AllByRecursion, count_by, range_with_len, sum_by}
use Rattle.std.proofs.Math.Path.{fun_ext}
use Rattle.std.proofs.lemmas.Bool.{eq-eqb, eqb-true, false_from_ne_true}
use Rattle.std.proofs.lemmas.List.Sums.{sum_by-cons}
use Rattle.kh_types.specs.Acceptance.{accepted}
use Rattle.kh_types.specs.Code.{Code}
use Rattle.kh_types.specs.Faces.{face_count}
use Rattle.kh_types.proofs.RangeCounts.{count_by-one_more}
use Rattle.kh_types.proofs.ListSums.{sum_by-plus}
use Rattle.face_walk.specs.FaceNumbers.{face_length}
use Rattle.face_walk.specs.Numbered.{face_numbers}
use Rattle.face_walk.proofs.FaceLemmas.{face_length-counted, face_numbers-below, length-face_numbers}

sum_by-zero : (a k : ℕ) → sum_by (λ i. 0) (range_with_len a k) ≡ 0
sum_by-zero a zero = refl
sum_by-zero a (suc k) = sum_by-cons (λ (i : ℕ). 0) a (range_with_len (a + 1) k) ∙ omega (arith, sum_by-zero (a + 1) k)

-- a number below k stands once among the numbers below k
count-once : (k x : ℕ) → x < k → count_by (λ i. nat_eq x i) (range_with_len 0 k) ≡ 1
count-once k x below =
    count_by-one_more (λ i. nat_eq x i) (λ i. false) 0 k x (omega arith) (omega (arith, below)) (eq-eqb x x refl) refl
    (λ i apart. false_from_ne_true (nat_eq x i) (λ same. apart (sym (eqb-true x i same))))
    ∙ omega (arith, sum_by-zero 0 k)

-- how often each number below k stands in a list of such numbers comes to the length of the list
pub sum_by-counts : (k : ℕ) (xs : List ℕ) → AllByRecursion (λ x. x < k) xs
    → sum_by (λ i. count_by (λ x. nat_eq x i) xs) (range_with_len 0 k) ≡ length xs
sum_by-counts k [] below = sum_by-zero 0 k
sum_by-counts k (x ∷ xs) below =
    ap (λ (f : ℕ → ℕ). sum_by f (range_with_len 0 k)) (fun_ext (λ i. sum_by-cons (λ y. cond (nat_eq y i) 1 0) x xs))
    ∙ sum_by-plus (λ i. cond (nat_eq x i) 1 0) (λ i. count_by (λ y. nat_eq y i) xs) (range_with_len 0 k)
    ∙ omega (arith, count-once k x below.0, sum_by-counts k xs below.1)

pub sum-face_length : (code : Code) → IsTrue (accepted code)
    → sum_by (face_length code.crossings) (range_with_len 0 (face_count code.crossings)) ≡ 4 * length code.crossings
sum-face_length code is =
    let n = length code.crossings in
    let numbers = face_numbers code.crossings in
    ap (λ (f : ℕ → ℕ). sum_by f (range_with_len 0 (face_count code.crossings)))
    (fun_ext (λ face. sym (face_length-counted code.crossings face)))
    ∙ sum_by-counts (face_count code.crossings) numbers (face_numbers-below code is)
    ∙ length-face_numbers code.crossings
