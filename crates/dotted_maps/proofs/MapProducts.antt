-- The matrix of a composed map is the product of the matrices.
use Rattle.std.proofs.Common.{◌≡◌, ◌≢◌, ℕ, zero, suc, ◌+◌, ◌*◌, ◌%◌, ◌^◌, ◌<◌, ◌≤◌, ◌∙◌, List, ◌++◌, length, map, refl, sym, ap, arith, cond}
use Rattle.std.specs.Prelude.{nat_eq}
use Rattle.std.specs.List.{sum_by, range_with_len, AllByRecursion}
use Rattle.std.proofs.Math.Nat.{mod-mod}
use Rattle.std.proofs.lemmas.Bool.Decides.{nat_tests}
use Rattle.std.proofs.lemmas.List.Sums.{sum_by-append}
use Rattle.kh_types.specs.Residues.{Same}
use Rattle.kh_types.specs.Products.{sum_below, product_at}
use Rattle.kh_types.proofs.Residues.{same-add, same-mul}
use Rattle.kh_types.proofs.Sums.{sum_below-same}
use Rattle.kh_types.proofs.ListSums.{sum_by-map, sum_by-single, sum_by-alike, sum_by-times}
use Rattle.surface_laws.specs.Points.{Points, discs, circles}
use Rattle.dotted_maps.specs.Terms.{entry}
use Rattle.dotted_maps.specs.Composition.{composed}
use Rattle.dotted_maps.specs.Maps.{coefficient_in, matrix_of, composed_in, IsComposition, composition, scaled, AreOneMap}
use Rattle.dotted_maps.specs.declared.term.Term.{Term}
use Rattle.dotted_maps.proofs.Composed.{AreComposed, composed-sums}
use Rattle.dotted_maps.proofs.Bilinear.{sums-multiply, sum-terms}

pub below-same : (p n : ℕ) (f g : ℕ → ℕ) → ((k : ℕ) → k < n → Same p (f k) (g k)) → Same p (sum_below n f) (sum_below n g)
below-same p zero f g same = refl
below-same p (suc n) f g same =
    same-add p (f 0) (g 0) (sum_below n (λ k. f (suc k))) (sum_below n (λ k. g (suc k))) (same 0 (omega arith))
    (below-same p n (λ k. f (suc k)) (λ k. g (suc k)) (λ k below. same (suc k) (omega (arith, below))))

pub matrix-composed : (p h k : ℕ) (points : Points) (m n o w : List (ℕ × ℕ)) (first second whole : List Term) (row column : ℕ)
    → Same p (h + k) 0 → AreComposed points m n o w → IsComposition p h k points m n o first second whole
    → matrix_of p h k points m o w whole row column
    ≡ product_at (2 ^ length (circles points n w)) (matrix_of p h k points n o w second) (matrix_of p h k points m n w first) row column % p
matrix-composed p h k points m n o w first second whole row column cancels all is =
    let count = 2 ^ length (circles points n w) in
    let sets = 2 ^ length (discs points m o) in
    let left = λ (i : ℕ). sum_by (λ (other : Term). other.coefficient * entry h k points n o w other.dots i row) second in
    let right = λ (i : ℕ). sum_by (λ (term : Term). term.coefficient * entry h k points m n w term.dots column i) first in
    let e = λ (kept : ℕ). entry h k points m o w kept column row in
    let split : Same p (sum_below count (λ i. left i * right i))
    (sum_below sets (λ kept. composed_in h k points m n o first second kept * e kept)) =
    sums-multiply p first second count sets (λ term i. entry h k points m n w term.dots column i)
    (λ other i. entry h k points n o w other.dots i row) (λ term other kept. composed h k points m n o term.dots other.dots kept) e
    (λ term other. composed-sums p h k points m n o w term.dots other.dots column row cancels all) in
    sym (ap (λ z. z % p) (sum-terms whole sets e is.dots))
    ∙ below-same p sets (λ kept. coefficient_in whole kept * e kept) (λ kept. composed_in h k points m n o first second kept * e kept)
    (λ kept below.
    same-mul p (coefficient_in whole kept) (composed_in h k points m n o first second kept) (e kept) (e kept)
    (is.coefficients kept below) refl)
    ∙ sym split
    ∙ sum_below-same p count (λ i. left i * right i) (λ i. left i % p * (right i % p))
    (λ i. same-mul p (left i) (left i % p) (right i) (right i % p) (sym (mod-mod (left i) p)) (sym (mod-mod (right i) p)))

-- the composition with a term for each dot set is the composition

all-below : (n : ℕ) (f : ℕ → Term) → ((k : ℕ) → (f k).dots ≡ k) → (a : ℕ) → (k : ℕ) → a + k ≤ n
    → AllByRecursion (λ term. term.dots < n) (map f (range_with_len a k))
all-below n f is a zero fits = tt
all-below n f is a (suc k) fits = (omega (arith, is a, fits), all-below n f is (a + 1) k (omega (arith, fits)))

abbrev term_at : ℕ → (ℕ → ℕ) → ℕ → Term
term_at p f kept = record { dots = kept; coefficient = f kept % p }

pub here-only : (k x c : ℕ) → x ≢ k → cond (nat_eq x k) c 0 ≡ 0
here-only k x c apart = grind (arith, nat_tests)

pub here-is : (k c : ℕ) → cond (nat_eq k k) c 0 ≡ c
here-is k c = grind (arith, nat_tests)

coefficient-made : (p n : ℕ) (f : ℕ → ℕ) (kept : ℕ) → kept < n
    → coefficient_in (map (term_at p f) (range_with_len 0 n)) kept ≡ f kept % p
coefficient-made p n f kept below =
    sum_by-map (λ term. cond (nat_eq term.dots kept) term.coefficient 0) (term_at p f) (range_with_len 0 n)
    ∙ sum_by-single (λ x. cond (nat_eq x kept) (f x % p) 0) 0 n kept (omega arith) (omega (arith, below))
    (λ x from x_below apart. here-only kept x (f x % p) apart)
    ∙ here-is kept (f kept % p)

pub IsComposition-made : (p h k : ℕ) (points : Points) (m n o : List (ℕ × ℕ)) (first second : List Term)
    → IsComposition p h k points m n o first second (composition p h k points m n o first second)
IsComposition-made p h k points m n o first second =
    let sets = 2 ^ length (discs points m o) in
    let f = composed_in h k points m n o first second in
    record {
      dots = all-below sets (term_at p f) (λ k. refl) 0 sets (omega arith);
      coefficients = λ kept below. ap (λ z. z % p) (coefficient-made p sets f kept below) ∙ mod-mod (f kept) p;
    }

-- sums and multiples of maps

pub matrix-sum : (p h k : ℕ) (points : Points) (m n w : List (ℕ × ℕ)) (first second : List Term) (row column : ℕ)
    → matrix_of p h k points m n w (first ++ second) row column
    ≡ (matrix_of p h k points m n w first row column + matrix_of p h k points m n w second row column) % p
matrix-sum p h k points m n w first second row column =
    let f = λ (term : Term). term.coefficient * entry h k points m n w term.dots column row in
    ap (λ z. z % p) (sum_by-append f first second)
    ∙ same-add p (sum_by f first) (sum_by f first % p) (sum_by f second) (sum_by f second % p) (sym (mod-mod (sum_by f first) p))
    (sym (mod-mod (sum_by f second) p))

pub matrix-multiple : (p h k : ℕ) (points : Points) (m n w : List (ℕ × ℕ)) (factor : ℕ) (terms : List Term) (row column : ℕ)
    → matrix_of p h k points m n w (scaled factor terms) row column ≡ factor * matrix_of p h k points m n w terms row column % p
matrix-multiple p h k points m n w factor terms row column =
    let f = λ (term : Term). term.coefficient * entry h k points m n w term.dots column row in
    ap (λ z. z % p)
    (sum_by-map f (λ term. record { dots = term.dots; coefficient = factor * term.coefficient }) terms
    ∙ sum_by-alike (λ term. factor * term.coefficient * entry h k points m n w term.dots column row) (λ term. factor * f term)
    (λ term. grouped factor term.coefficient (entry h k points m n w term.dots column row)) terms
    ∙ sum_by-times f factor terms)
    ∙ same-mul p factor factor (sum_by f terms) (sum_by f terms % p) refl (sym (mod-mod (sum_by f terms) p))
  where
    grouped : (a b c : ℕ) → a * b * c ≡ a * (b * c)
    grouped a b c = omega arith

pub matrix-same : (p h k : ℕ) (points : Points) (m n w : List (ℕ × ℕ)) (terms others : List Term) (row column : ℕ)
    → AreOneMap p points m n terms others → matrix_of p h k points m n w terms row column ≡ matrix_of p h k points m n w others row column
matrix-same p h k points m n w terms others row column one =
    let sets = 2 ^ length (discs points m n) in
    let e = λ (dots : ℕ). entry h k points m n w dots column row in
    sym (ap (λ z. z % p) (sum-terms terms sets e one.dots))
    ∙ below-same p sets (λ dots. coefficient_in terms dots * e dots) (λ dots. coefficient_in others dots * e dots)
    (λ dots below. same-mul p (coefficient_in terms dots) (coefficient_in others dots) (e dots) (e dots) (one.coefficients dots below) refl)
    ∙ ap (λ z. z % p) (sum-terms others sets e one.other_dots)

pub matrix-added : (p h k : ℕ) (points : Points) (m n o w : List (ℕ × ℕ)) (first second whole old : List Term) (factor row column : ℕ)
    → Same p (h + k) 0 → AreComposed points m n o w → IsComposition p h k points m n o first second whole
    → matrix_of p h k points m o w (old ++ scaled factor whole) row column
    ≡ (matrix_of p h k points m o w old row column
    + factor * product_at (2 ^ length (circles points n w)) (matrix_of p h k points n o w second) (matrix_of p h k points m n w first) row
    column) % p
matrix-added p h k points m n o w first second whole old factor row column cancels all is =
    let product = product_at (2 ^ length (circles points n w)) (matrix_of p h k points n o w second) (matrix_of p h k points m n w first) row column in
    let before = matrix_of p h k points m o w old row column in
    let multiple = matrix_of p h k points m o w (scaled factor whole) row column in
    let turned : Same p multiple (factor * product) =
    ap (λ z. z % p)
    (matrix-multiple p h k points m o w factor whole row column
    ∙ ap (λ z. factor * z % p) (matrix-composed p h k points m n o w first second whole row column cancels all is))
    ∙ mod-mod (factor * (product % p)) p
    ∙ same-mul p factor factor (product % p) product refl (mod-mod product p) in
    matrix-sum p h k points m o w old (scaled factor whole) row column
    ∙ same-add p before before multiple (factor * product) refl turned
