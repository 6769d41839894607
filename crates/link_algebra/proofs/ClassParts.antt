-- Classes of pairs of which some are below a number and the others from there on: the classes of either part stand side by side.
--
-- Numbers from a bound on are those of the second part, raised. A pair of the first part joins below the bound, a pair of the second from
-- there on, and joining keeps the two stretches apart: so the list of classes is that of the first part and then that of the second,
-- raised, and the numbers of classes add up.
use Rattle.std.proofs.Common.{List, [], ap, ap₂, arith, cond, length, map, refl, suc, sym, zero, ℕ, ◌++◌, ◌+◌, ◌<◌, ◌∙◌, ◌∷◌, ◌≡◌}
use Rattle.std.proofs.lemmas.Bool.Decides.{nat_tests}
use Rattle.std.proofs.lemmas.List.{length-append, length-map, map-append}
use Rattle.std.proofs.lemmas.List.FromFn.{length-range_with_len}
use Rattle.std.proofs.lemmas.List.Sums.{length-filter, sum_by-append}
use Rattle.std.specs.List.{fold, range_with_len, sum_by}
use Rattle.std.specs.Prelude.{nat_eq, slice_index}
use Rattle.kh_types.proofs.JoinedClasses.{slice_index-range}
use Rattle.kh_types.proofs.ListSums.{sum_by-range_alike}
use Rattle.kh_types.proofs.Ranges.{range-append}
use Rattle.kh_types.specs.Classes.{AreBelow, class_count, classes_of, is_least, joined, merged, merged_all}
use Rattle.kh_types.specs.Bits.{one_if}
use Rattle.kh_types.proofs.ClassLemmas.{length-joined, merged-low, merged-moved}
use Rattle.kh_types.proofs.LabelDegrees.{sum_by-later}
use Rattle.kh_types.proofs.Lists.{slice_index-left}

-- all numbers raised
abbrev pub lifted : ℕ → List ℕ → List ℕ
lifted m xs = map (λ x. m + x) xs

abbrev pub lifted_pairs : ℕ → List (ℕ × ℕ) → List (ℕ × ℕ)
lifted_pairs m pairs = map (λ pair. (m + pair.0, m + pair.1)) pairs

pub index-back : (xs ys : List ℕ) (k : ℕ) → slice_index (xs ++ ys) (length xs + k) ≡ slice_index ys k
index-back [] ys k = let e : length {A = ℕ} [] + k ≡ k = omega arith in ap (slice_index ys) e
index-back (x ∷ xs) ys k = grind (arith, nat_tests, index-back xs ys k)

pub index-lifted : (m : ℕ) (xs : List ℕ) (k : ℕ) → k < length xs → slice_index (lifted m xs) k ≡ m + slice_index xs k
index-lifted m [] k below = absurd (omega (arith, below))
index-lifted m (x ∷ xs) zero below = refl
index-lifted m (x ∷ xs) (suc k) below = index-lifted m xs k (omega (arith, below))

-- all entries are below a number
abbrev AllBelow : ℕ → List ℕ → Type 0
AllBelow m xs = (k : ℕ) → k < length xs → slice_index xs k < m

map-kept : (f : ℕ → ℕ) (xs : List ℕ) → ((k : ℕ) → k < length xs → f (slice_index xs k) ≡ slice_index xs k) → map f xs ≡ xs
map-kept f [] same = refl
map-kept f (x ∷ xs) same =
    ap₂ (λ y ys. y ∷ ys) (same 0 (omega arith)) (map-kept f xs (λ k below. same (suc k) (omega (arith, below))))

index-map : (f : ℕ → ℕ) (xs : List ℕ) (k : ℕ) → k < length xs → slice_index (map f xs) k ≡ f (slice_index xs k)
index-map f [] k below = absurd (omega (arith, below))
index-map f (x ∷ xs) zero below = refl
index-map f (x ∷ xs) (suc k) below = index-map f xs k (omega (arith, below))

map-lifted : (f g : ℕ → ℕ) (m : ℕ) (xs : List ℕ) → ((x : ℕ) → f (m + x) ≡ m + g x) → map f (lifted m xs) ≡ lifted m (map g xs)
map-lifted f g m [] same = refl
map-lifted f g m (x ∷ xs) same = ap₂ (λ y ys. y ∷ ys) (same x) (map-lifted f g m xs same)

merged-above : (m x y z : ℕ) → x < m → y < m → merged x y (m + z) ≡ m + z
merged-above m x y z x_below y_below = grind (arith, nat_tests)

merged-small : (m x y z : ℕ) → x < m → y < m → z < m → merged x y z < m
merged-small m x y z x_below y_below z_below = grind (arith, nat_tests)

-- a pair below joins in the first part
joined-front : (m : ℕ) (front back : List ℕ) (pair : ℕ × ℕ) → length front ≡ m → AllBelow m front → pair.0 < m → pair.1 < m
    → joined (front ++ lifted m back) pair ≡ joined front pair ++ lifted m back
joined-front m front back pair size below first second =
    let x = slice_index front pair.0 in
    let y = slice_index front pair.1 in
    let x_below : x < m = below pair.0 (omega (arith, first, size)) in
    let y_below : y < m = below pair.1 (omega (arith, second, size)) in
    ap₂ (λ a b. merged_all a b (front ++ lifted m back)) (slice_index-left front (lifted m back) pair.0 (omega (arith, first, size)))
    (slice_index-left front (lifted m back) pair.1 (omega (arith, second, size)))
    ∙ map-append (merged x y) front (lifted m back)
    ∙ ap (λ zs. map (merged x y) front ++ zs)
    (map-kept (merged x y) (lifted m back)
    (λ k inside.
    let within : k < length back = omega (arith, inside, length-map back (λ z. m + z)) in
    let at = index-lifted m back k within in
    ap (merged x y) at ∙ merged-above m x y (slice_index back k) x_below y_below ∙ sym at))

-- a pair above joins in the second
joined-back : (m : ℕ) (front back : List ℕ) (pair : ℕ × ℕ) → length front ≡ m → AllBelow m front → pair.0 < length back
    → pair.1 < length back
    → joined (front ++ lifted m back) (m + pair.0, m + pair.1) ≡ front ++ lifted m (joined back pair)
joined-back m front back pair size below first second =
    let x = slice_index back pair.0 in
    let y = slice_index back pair.1 in
    let at : (k : ℕ) → k < length back → slice_index (front ++ lifted m back) (m + k) ≡ m + slice_index back k =
    λ k within. ap (λ n. slice_index (front ++ lifted m back) (n + k)) (sym size) ∙ index-back front (lifted m back) k
    ∙ index-lifted m back k within in
    ap₂ (λ a b. merged_all a b (front ++ lifted m back)) (at pair.0 first) (at pair.1 second)
    ∙ map-append (merged (m + x) (m + y)) front (lifted m back)
    ∙ ap₂ (λ us vs. us ++ vs)
    (map-kept (merged (m + x) (m + y)) front (λ k inside. merged-low m x y (slice_index front k) (below k inside)))
    (map-lifted (merged (m + x) (m + y)) (merged x y) m back (merged-moved m x y))

small-joined : (m : ℕ) (classes : List ℕ) (pair : ℕ × ℕ) → length classes ≡ m → AllBelow m classes → pair.0 < m → pair.1 < m
    → AllBelow m (joined classes pair)
small-joined m classes pair size below first second = grind (arith, nat_tests, length-joined, index-map, merged-small)

fold-front : (m : ℕ) (front back : List ℕ) (pairs : List (ℕ × ℕ)) → length front ≡ m → AllBelow m front → AreBelow m pairs
    → fold joined (front ++ lifted m back) pairs ≡ fold joined front pairs ++ lifted m back
fold-front m front back [] size below pairs_below = refl
fold-front m front back (pair ∷ pairs) size below pairs_below =
    grind (arith, nat_tests, joined-front, length-joined, small-joined, fold-front m (joined front pair) back pairs (length-joined front pair ∙ size) (small-joined m front pair size below pairs_below.0.0 pairs_below.0.1) pairs_below.1)

fold-back : (m n : ℕ) (front back : List ℕ) (pairs : List (ℕ × ℕ)) → length front ≡ m → AllBelow m front → length back ≡ n
    → AreBelow n pairs
    → fold joined (front ++ lifted m back) (lifted_pairs m pairs) ≡ front ++ lifted m (fold joined back pairs)
fold-back m n front back [] size below back_size pairs_below = refl
fold-back m n front back (pair ∷ pairs) size below back_size pairs_below =
    grind (arith, nat_tests, joined-back, length-joined, fold-back m n front (joined back pair) pairs size below (length-joined back pair ∙ back_size) pairs_below.1)

fold-small : (m : ℕ) (classes : List ℕ) (pairs : List (ℕ × ℕ)) → length classes ≡ m → AllBelow m classes → AreBelow m pairs
    → (length (fold joined classes pairs) ≡ m) × AllBelow m (fold joined classes pairs)
fold-small m classes [] size below pairs_below = (size, below)
fold-small m classes (pair ∷ pairs) size below pairs_below =
    grind (arith, nat_tests, length-joined, small-joined, fold-small m (joined classes pair) pairs (length-joined classes pair ∙ size) (small-joined m classes pair size below pairs_below.0.0 pairs_below.0.1) pairs_below.1)

pub range-lifted : (m a n : ℕ) → range_with_len (m + a) n ≡ lifted m (range_with_len a n)
range-lifted m a zero = refl
range-lifted m a (suc n) = grind (arith, nat_tests, range-lifted m (a + 1) n)

fold-append_pairs : (classes : List ℕ) (pairs more : List (ℕ × ℕ))
    → fold joined classes (pairs ++ more) ≡ fold joined (fold joined classes pairs) more
fold-append_pairs classes [] more = refl
fold-append_pairs classes (pair ∷ pairs) more = fold-append_pairs (joined classes pair) pairs more

pub length-classes : (m : ℕ) (pairs : List (ℕ × ℕ)) → AreBelow m pairs
    → (length (classes_of m pairs) ≡ m) × ((k : ℕ) → k < length (classes_of m pairs) → slice_index (classes_of m pairs) k < m)
length-classes m pairs below = grind (arith, nat_tests, fold-small, length-range_with_len, slice_index-range)

-- the classes of both parts side by side
pub classes-parts : (m n : ℕ) (pairs more : List (ℕ × ℕ)) → AreBelow m pairs → AreBelow n more
    → classes_of (m + n) (pairs ++ lifted_pairs m more) ≡ classes_of m pairs ++ lifted m (classes_of n more)
classes-parts m n pairs more below more_below =
    let e : 0 + m ≡ m + 0 = omega arith in
    let small = length-classes m pairs below in
    fold-append_pairs (range_with_len 0 (m + n)) pairs (lifted_pairs m more)
    ∙ ap (λ classes. fold joined (fold joined classes pairs) (lifted_pairs m more))
    (range-append 0 m n ∙ ap (λ xs. range_with_len 0 m ++ xs) (ap (λ b. range_with_len b n) e ∙ range-lifted m 0 n))
    ∙ ap (λ classes. fold joined classes (lifted_pairs m more))
    (fold-front m (range_with_len 0 m) (range_with_len 0 n) pairs (length-range_with_len 0 m)
    (λ k within.
    let inside : k < m = omega (arith, within, length-range_with_len 0 m) in
    omega (arith, slice_index-range m k inside, inside)) below)
    ∙ fold-back m n (classes_of m pairs) (range_with_len 0 n) more small.0 small.1 (length-range_with_len 0 n) more_below

-- a sum over a range in two parts
pub sum_by-parts : (f : ℕ → ℕ) (a m n : ℕ)
    → sum_by f (range_with_len a (m + n)) ≡ sum_by f (range_with_len a m) + sum_by (λ k. f (m + k)) (range_with_len a n)
sum_by-parts f a m n =
    let e : a + m ≡ m + a = omega arith in
    ap (sum_by f) (range-append a m n) ∙ sum_by-append f (range_with_len a m) (range_with_len (a + m) n)
    ∙ ap (λ x. sum_by f (range_with_len a m) + x) (ap (λ b. sum_by f (range_with_len b n)) e ∙ sum_by-later f m a n)

pub class_count-append_lists : (m : ℕ) (front back : List ℕ) → length front ≡ m
    → class_count (front ++ lifted m back) ≡ class_count front + class_count back
class_count-append_lists m front back size =
    let all = front ++ lifted m back in
    let n = length back in
    let test : List ℕ → ℕ → ℕ = λ classes x. cond (is_least classes x) 1 0 in
    let whole : length all ≡ m + n = length-append front (lifted m back) ∙ omega (arith, size, length-map back (λ x. m + x)) in
    let counted : (classes : List ℕ) → class_count classes ≡ sum_by (test classes) (range_with_len 0 (length classes)) =
    λ classes. length-filter (is_least classes) (range_with_len 0 (length classes)) in
    counted all ∙ ap (λ k. sum_by (test all) (range_with_len 0 k)) whole ∙ sum_by-parts (test all) 0 m n
    ∙ ap₂ (λ x y. x + y)
    (sum_by-range_alike (test all) (test front) 0 m
    (λ x from below. ap (λ c. cond (nat_eq c x) 1 0) (slice_index-left front (lifted m back) x (omega (arith, below, size))))
    ∙ ap (λ k. sum_by (test front) (range_with_len 0 k)) (sym size) ∙ sym (counted front))
    (sum_by-range_alike (λ k. test all (m + k)) (test back) 0 n
    (λ k from below.
    ap (λ c. cond (nat_eq c (m + k)) 1 0)
    (ap (λ s. slice_index all (s + k)) (sym size) ∙ index-back front (lifted m back) k ∙ index-lifted m back k (omega (arith, below)))
    ∙ same_test m (slice_index back k) k)
    ∙ sym (counted back))
  where
    same_test : (m a b : ℕ) → one_if (nat_eq (m + a) (m + b)) ≡ one_if (nat_eq a b)
    same_test m a b = grind (arith, nat_tests)
