-- Classes before and after one more pair is joined, and which pairs have the same classes.
--
-- Classes are a list of names, each the least number of its class; one pair more replaces the greater of two names by the lesser. So names
-- stay least ones (`IsNamed-classes_of`), which makes the list depend only on which numbers are together (`classes_of-same`): the order of
-- pairs, their direction, and pairs that follow from others do not matter. A pair of two classes takes one name away, the greater
-- (`class_count-joined`), and a pair within one class changes nothing.
use Rattle.std.proofs.Common.{◌≡◌, ◌≢◌, ℕ, ◌⊎◌, inl, inr, ◌+◌, ◌<◌, ◌≤◌, ◌∙◌, List, [], ◌∷◌, ◌++◌, sym, refl, length, map, ap, arith, false, eq-eqb}
use Rattle.std.specs.Prelude.{slice_index, nat_eq, min, max}
use Rattle.std.specs.List.{fold, filter, range_with_len}
use Rattle.std.proofs.Math.Path.{fun_ext}
use Rattle.std.proofs.lemmas.List.{map-id, ext_get_or}
use Rattle.std.proofs.lemmas.List.FromFn.{length-range_with_len, get_or-range_with_len}
use Rattle.std.proofs.lemmas.List.Sums.{fold-append}
use Rattle.std.proofs.lemmas.Bool.Decides.{nat_tests}
use Rattle.kh_types.specs.Classes.{merged, joined, classes_of, is_least, class_count, Respects, AreBelow, IsNamed}
use Rattle.kh_types.proofs.Lists.{HasMore, length-HasMore, HasMore-filter_range}
use Rattle.kh_types.proofs.ClassLemmas.{slice_index-joined, length-joined, classes-together, classes-finest}

-- one class number, after the classes of two others have become one

merged-le : (x y class : ℕ) → merged x y class ≤ class
merged-le x y class = grind (arith, nat_tests)

merged-twice : (x y class : ℕ) → merged x y (merged x y class) ≡ merged x y class
merged-twice x y class = grind (arith, nat_tests)

pub merged-same : (x y class : ℕ) → x ≡ y → merged x y class ≡ class
merged-same x y class same = grind (arith, nat_tests)

-- what leaves each of three numbers as it is leaves the merged number as it is
merged-fixed : (f : ℕ → ℕ) (x y class : ℕ) → f x ≡ x → f y ≡ y → f class ≡ class → f (merged x y class) ≡ merged x y class
merged-fixed f x y class at_x at_y at_class = grind (arith, nat_tests)

-- to join two numbers of one class changes nothing
pub joined-together : (classes : List ℕ) (pair : ℕ × ℕ) → slice_index classes pair.0 ≡ slice_index classes pair.1
    → joined classes pair ≡ classes
joined-together classes pair same =
    ap (λ f. map f classes) (fun_ext (λ z. merged-same (slice_index classes pair.0) (slice_index classes pair.1) z same))
    ∙ map-id classes

-- a pair joins the same as the pair turned round
pub joined-swapped : (classes : List ℕ) (x y : ℕ) → joined classes (y, x) ≡ joined classes (x, y)
joined-swapped classes x y = grind (arith, nat_tests)

-- each class is named by its least number

pub slice_index-range : (n x : ℕ) → x < n → slice_index (range_with_len 0 n) x ≡ x
slice_index-range n x below = get_or-range_with_len 0 n x 0 below ∙ omega arith

-- at first each number is alone
pub IsNamed-range : (n : ℕ) → IsNamed n (range_with_len 0 n)
IsNamed-range n = grind (arith, nat_tests, length-range_with_len, slice_index-range)

pub IsNamed-joined : (n : ℕ) (classes : List ℕ) (pair : ℕ × ℕ) → pair.0 < n → pair.1 < n → IsNamed n classes
    → IsNamed n (joined classes pair)
IsNamed-joined n classes pair first_below second_below named =
    grind (arith, nat_tests, slice_index-joined, length-joined, merged-le, merged-fixed, merged-twice)

pub IsNamed-fold : (n : ℕ) (classes : List ℕ) (pairs : List (ℕ × ℕ)) → AreBelow n pairs → IsNamed n classes
    → IsNamed n (fold joined classes pairs)
IsNamed-fold n classes [] below named = named
IsNamed-fold n classes (pair ∷ pairs) below named =
    IsNamed-fold n (joined classes pair) pairs below.1 (IsNamed-joined n classes pair below.0.0 below.0.1 named)

pub IsNamed-classes_of : (n : ℕ) (pairs : List (ℕ × ℕ)) → AreBelow n pairs → IsNamed n (classes_of n pairs)
IsNamed-classes_of n pairs below = IsNamed-fold n (range_with_len 0 n) pairs below (IsNamed-range n)

-- which numbers are together determines the classes

-- classes that join whatever others join have names at most as great
pub named-le : (n : ℕ) (fine coarse : List ℕ) → IsNamed n fine → IsNamed n coarse
    → ((x y : ℕ) → x < n → y < n → slice_index fine x ≡ slice_index fine y → slice_index coarse x ≡ slice_index coarse y)
    → (x : ℕ) → x < n → slice_index coarse x ≤ slice_index fine x
named-le n fine coarse fine_named coarse_named joins x below =
    let name = slice_index fine x in
    let name_below : name < n = omega (arith, fine_named.least x below) in
    omega (arith, joins name x name_below below (fine_named.own x below), coarse_named.least name name_below)

-- so do the classes of pairs that only such functions respect as respect the others
classes_of-le : (n : ℕ) (pairs others : List (ℕ × ℕ)) → AreBelow n pairs → AreBelow n others
    → ((f : ℕ → ℕ) → Respects f pairs → Respects f others)
    → (x : ℕ) → x < n → slice_index (classes_of n pairs) x ≤ slice_index (classes_of n others) x
classes_of-le n pairs others below others_below onward x has7 =
    grind (arith, nat_tests, named-le, IsNamed-classes_of, classes-finest, classes-together)

-- pairs that the same functions respect have the same classes: neither their order nor their direction matters
pub classes_of-same : (n : ℕ) (pairs others : List (ℕ × ℕ)) → AreBelow n pairs → AreBelow n others
    → ((f : ℕ → ℕ) → Respects f pairs → Respects f others) → ((f : ℕ → ℕ) → Respects f others → Respects f pairs)
    → classes_of n pairs ≡ classes_of n others
classes_of-same n pairs others below others_below onward back =
    let size = (IsNamed-classes_of n pairs below).size in
    ext_get_or 0 (classes_of n pairs) (classes_of n others) (size ∙ sym (IsNamed-classes_of n others others_below).size)
    (λ x x_within.
    let x_below : x < n = omega arith in
    omega (
      arith,
      classes_of-le n pairs others below others_below onward x x_below,
      classes_of-le n others pairs others_below below back x x_below,
    ))

-- the names of joined classes

pub max-cases : (x y : ℕ) → (max x y ≡ x) ⊎ (max x y ≡ y)
max-cases x y = grind (arith, nat_tests)

pub min-cases : (x y : ℕ) → (min x y ≡ x) ⊎ (min x y ≡ y)
min-cases x y = grind (arith, nat_tests)

-- what leaves two numbers as they are leaves the greater and the smaller as they are
pub max-fixed : (f : ℕ → ℕ) (x y : ℕ) → f x ≡ x → f y ≡ y → f (max x y) ≡ max x y
max-fixed f x y at_x at_y = grind (arith, nat_tests)

pub min-fixed : (f : ℕ → ℕ) (x y : ℕ) → f x ≡ x → f y ≡ y → f (min x y) ≡ min x y
min-fixed f x y at_x at_y = grind (arith, nat_tests)

pub greater_fails : (x y class z : ℕ) → x ≢ y → z ≡ max x y → class ≡ z → nat_eq (merged x y class) z ≡ false
greater_fails x y class z apart is_max own = grind (arith, nat_tests)

pub other_same : (x y class z : ℕ) → z ≢ max x y → (z ≡ min x y → class ≡ z) → nat_eq (merged x y class) z ≡ nat_eq class z
other_same x y class z other own = grind (arith, nat_tests)

-- joining two classes takes one name away from those in a range, the greater of their two
pub HasMore-names : (n a k : ℕ) (classes : List ℕ) (pair : ℕ × ℕ) → IsNamed n classes → n ≡ a + k → pair.0 < n → pair.1 < n
    → slice_index classes pair.0 ≢ slice_index classes pair.1
    → a ≤ max (slice_index classes pair.0) (slice_index classes pair.1)
    → HasMore (max (slice_index classes pair.0) (slice_index classes pair.1))
    (filter (is_least classes) (range_with_len a k)) (filter (is_least (joined classes pair)) (range_with_len a k))
HasMore-names n a k classes pair named is_n first_below second_below apart from =
    let x = slice_index classes pair.0 in
    let y = slice_index classes pair.1 in
    let size = named.size in
    let own_x = named.own pair.0 first_below in
    let own_y = named.own pair.1 second_below in
    let m = max x y in
    let m_below : m < n = elim (max-cases x y) [
      | inl is ↦ omega (arith, named.least pair.0 first_below)
      | inr is ↦ omega (arith, named.least pair.1 second_below)
    ] in
    let own_m : slice_index classes m ≡ m = max-fixed (λ z. slice_index classes z) x y own_x own_y in
    let own_least : slice_index classes (min x y) ≡ min x y = min-fixed (λ z. slice_index classes z) x y own_x own_y in
    HasMore-filter_range (is_least classes) (is_least (joined classes pair)) a k m from (omega arith)
    (eq-eqb (slice_index classes m) m own_m)
    (ap (λ c. nat_eq c m) (slice_index-joined classes pair m (omega arith))
    ∙ greater_fails x y (slice_index classes m) m apart refl own_m)
    (λ z z_from z_below other.
    sym (ap (λ c. nat_eq c z) (slice_index-joined classes pair z (omega arith))
    ∙ other_same x y (slice_index classes z) z other
    (λ is_min. ap (λ w. slice_index classes w) is_min ∙ own_least ∙ sym is_min)))

-- joining two classes lowers their number by one
pub class_count-joined : (n : ℕ) (classes : List ℕ) (pair : ℕ × ℕ) → IsNamed n classes → pair.0 < n → pair.1 < n
    → slice_index classes pair.0 ≢ slice_index classes pair.1
    → class_count classes ≡ class_count (joined classes pair) + 1
class_count-joined n classes pair named first_below second_below apart =
    let size = length-joined classes pair in
    length-HasMore (max (slice_index classes pair.0) (slice_index classes pair.1))
    (filter (is_least classes) (range_with_len 0 (length classes)))
    (filter (is_least (joined classes pair)) (range_with_len 0 (length classes)))
    (HasMore-names n 0 (length classes) classes pair named (omega (arith, named.size)) first_below second_below apart (omega arith))
    ∙ ap (λ k. length (filter (is_least (joined classes pair)) (range_with_len 0 k)) + 1) (sym size)

-- joining two numbers of one class leaves the number of classes
pub class_count-joined_together : (classes : List ℕ) (pair : ℕ × ℕ) → slice_index classes pair.0 ≡ slice_index classes pair.1
    → class_count (joined classes pair) ≡ class_count classes
class_count-joined_together classes pair same = ap class_count (joined-together classes pair same)

-- one more pair, after the others

pub classes_of-more : (n : ℕ) (pairs : List (ℕ × ℕ)) (pair : ℕ × ℕ)
    → classes_of n (pairs ++ pair ∷ []) ≡ joined (classes_of n pairs) pair
classes_of-more n pairs pair = fold-append joined (range_with_len 0 n) pairs (pair ∷ [])

-- one more pair lowers the number of classes by one where its numbers are in different classes
pub class_count-apart : (n : ℕ) (pairs : List (ℕ × ℕ)) (pair : ℕ × ℕ) → AreBelow n pairs → pair.0 < n → pair.1 < n
    → slice_index (classes_of n pairs) pair.0 ≢ slice_index (classes_of n pairs) pair.1
    → class_count (classes_of n pairs) ≡ class_count (classes_of n (pairs ++ pair ∷ [])) + 1
class_count-apart n pairs pair below first_below second_below apart =
    grind (arith, nat_tests, class_count-joined, IsNamed-classes_of, classes_of-more)

-- and changes no class where they are in one
pub classes_of-together : (n : ℕ) (pairs : List (ℕ × ℕ)) (pair : ℕ × ℕ)
    → slice_index (classes_of n pairs) pair.0 ≡ slice_index (classes_of n pairs) pair.1
    → classes_of n (pairs ++ pair ∷ []) ≡ classes_of n pairs
classes_of-together n pairs pair same = classes_of-more n pairs pair ∙ joined-together (classes_of n pairs) pair same
