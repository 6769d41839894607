-- How many classes there are after more pairs and among more numbers, and how components and circles count classes.
use Rattle.std.proofs.Common.{◌≡◌, ℕ, ◌+◌, ◌<◌, ◌≤◌, ◌∙◌, List, [], ◌∷◌, ◌++◌, sym, length, ap, ap₂, arith, eq-eqb}
use Rattle.std.specs.Prelude.{slice_index, nat_eq}
use Rattle.std.specs.List.{fold, filter, flat_map, range_with_len}
use Rattle.std.proofs.lemmas.Bool.{cases_eq}
use Rattle.std.proofs.lemmas.Bool.Decides.{nat_tests}
use Rattle.std.proofs.lemmas.List.{length-append}
use Rattle.std.proofs.lemmas.List.Elements.{filter-append}
use Rattle.std.proofs.lemmas.List.Sums.{fold-append}
use Rattle.std.proofs.lemmas.List.FromFn.{length-range_with_len}
use Rattle.kh_types.specs.Code.{Code, arc_count}
use Rattle.kh_types.specs.Classes.{merged, joined, classes_of, is_least, class_count, AreBelow, IsNamed}
use Rattle.kh_types.specs.Components.{passes_of, components_of, component_count}
use Rattle.kh_types.specs.Circles.{smoothings_of, circles_of, circle_count}
use Rattle.kh_types.proofs.Lists.{filter-range_agree, filter-range_all}
use Rattle.kh_types.proofs.Ranges.{range-append}
use Rattle.kh_types.proofs.ClassLemmas.{slice_index-joined, length-joined}
use Rattle.kh_types.proofs.JoinedClasses.{IsNamed-joined, IsNamed-classes_of, slice_index-range, IsNamed-range, class_count-joined, class_count-joined_together}

-- one more pair lowers the number of classes by one at most, and never raises it
joined-bounds : (n : ℕ) (classes : List ℕ) (pair : ℕ × ℕ) → IsNamed n classes → pair.0 < n → pair.1 < n
    → (class_count (joined classes pair) ≤ class_count classes) × (class_count classes ≤ class_count (joined classes pair) + 1)
joined-bounds n classes pair named first_below second_below =
    grind (arith, nat_tests, cases_eq, class_count-joined_together, class_count-joined)

-- more pairs lower the number of classes by as many at most, and never raise it
fold-bounds : (n : ℕ) (classes : List ℕ) (pairs : List (ℕ × ℕ)) → IsNamed n classes → AreBelow n pairs
    → (class_count (fold joined classes pairs) ≤ class_count classes)
    × (class_count classes ≤ class_count (fold joined classes pairs) + length pairs)
fold-bounds n classes [] named below = (omega arith, omega arith)
fold-bounds n classes (pair ∷ pairs) named below =
    let step = joined-bounds n classes pair named below.0.0 below.0.1 in
    let rest = fold-bounds n (joined classes pair) pairs (IsNamed-joined n classes pair below.0.0 below.0.1 named) below.1 in
    (omega (arith, step.0, rest.0), omega (arith, step.1, rest.1))

pub class_count-append : (n : ℕ) (pairs more : List (ℕ × ℕ)) → AreBelow n pairs → AreBelow n more
    → (class_count (classes_of n (pairs ++ more)) ≤ class_count (classes_of n pairs))
    × (class_count (classes_of n pairs) ≤ class_count (classes_of n (pairs ++ more)) + length more)
class_count-append n pairs more below more_below = grind (arith, nat_tests, fold-bounds, IsNamed-classes_of, fold-append)

-- pairs of numbers below m are pairs of numbers below what is greater
pub AreBelow-wider : (m n : ℕ) (pairs : List (ℕ × ℕ)) → m ≤ n → AreBelow m pairs → AreBelow n pairs
AreBelow-wider m n [] wider below = tt
AreBelow-wider m n (pair ∷ pairs) wider below = grind (arith, nat_tests, AreBelow-wider m n pairs wider below.1)

-- two lists that agree below m agree there after pairs below m
agree-fold : (m : ℕ) (xs ys : List ℕ) (pairs : List (ℕ × ℕ)) → m ≤ length xs → m ≤ length ys → AreBelow m pairs
    → ((x : ℕ) → x < m → slice_index xs x ≡ slice_index ys x) → (x : ℕ) → x < m
    → slice_index (fold joined xs pairs) x ≡ slice_index (fold joined ys pairs) x
agree-fold m xs ys [] xs_long ys_long below agree = agree
agree-fold m xs ys (pair ∷ pairs) xs_long ys_long below agree =
    grind (arith, nat_tests, length-joined, slice_index-joined, agree-fold m (joined xs pair) (joined ys pair) pairs (omega (arith, length-joined xs pair)) (omega (arith, length-joined ys pair)) below.1 (λ z z_below. slice_index-joined xs pair z (omega arith) ∙ ap₂ (λ a b. merged a b (slice_index xs z)) (agree pair.0 below.0.0) (agree pair.1 below.0.1) ∙ ap (λ c. merged (slice_index ys pair.0) (slice_index ys pair.1) c) (agree z z_below) ∙ sym (slice_index-joined ys pair z (omega arith))))

pub merged-other : (x y class : ℕ) → x < class → y < class → merged x y class ≡ class
merged-other x y class x_below y_below = grind (arith, nat_tests)

-- a number that is alone stays alone after pairs of smaller numbers
alone-fold : (m n : ℕ) (classes : List ℕ) (pairs : List (ℕ × ℕ)) (z : ℕ) → IsNamed n classes → AreBelow m pairs → m ≤ z → z < n
    → slice_index classes z ≡ z → slice_index (fold joined classes pairs) z ≡ z
alone-fold m n classes [] z named below from z_below alone = alone
alone-fold m n classes (pair ∷ pairs) z named below from z_below alone =
    let size = named.size in
    let first : pair.0 < n = omega (arith, below.0.0) in
    let second : pair.1 < n = omega (arith, below.0.1) in
    alone-fold m n (joined classes pair) pairs z (IsNamed-joined n classes pair first second named) below.1 from z_below
    (slice_index-joined classes pair z (omega arith)
    ∙ merged-other (slice_index classes pair.0) (slice_index classes pair.1) (slice_index classes z)
    (omega (arith, alone, named.least pair.0 first, below.0.0)) (omega (arith, alone, named.least pair.1 second, below.0.1))
    ∙ alone)

-- numbers that no pair has are classes of their own
pub class_count-wider : (m k : ℕ) (pairs : List (ℕ × ℕ)) → AreBelow m pairs
    → class_count (classes_of (m + k) pairs) ≡ class_count (classes_of m pairs) + k
class_count-wider m k pairs below =
    let wide = classes_of (m + k) pairs in
    let narrow = classes_of m pairs in
    let wide_below = AreBelow-wider m (m + k) pairs (omega arith) below in
    let wide_size = (IsNamed-classes_of (m + k) pairs wide_below).size in
    let narrow_size = (IsNamed-classes_of m pairs below).size in
    let agree : (x : ℕ) → x < m → slice_index wide x ≡ slice_index narrow x =
    agree-fold m (range_with_len 0 (m + k)) (range_with_len 0 m) pairs (omega (arith, length-range_with_len 0 (m + k)))
    (omega (arith, length-range_with_len 0 m)) below
    (λ x x_below. slice_index-range (m + k) x (omega arith) ∙ sym (slice_index-range m x x_below)) in
    let first : filter (is_least wide) (range_with_len 0 m) ≡ filter (is_least narrow) (range_with_len 0 m) =
    filter-range_agree (is_least wide) (is_least narrow) 0 m
    (λ x from x_below. ap (λ c. nat_eq c x) (agree x (omega arith))) in
    let second : filter (is_least wide) (range_with_len (0 + m) k) ≡ range_with_len (0 + m) k =
    filter-range_all (is_least wide) (0 + m) k
    (λ x from x_below.
    let within : x < m + k = omega arith in
    eq-eqb (slice_index wide x) x
    (alone-fold m (m + k) (range_with_len 0 (m + k)) pairs x (IsNamed-range (m + k)) below (omega arith) within
    (slice_index-range (m + k) x within))) in
    ap (λ s. length (filter (is_least wide) (range_with_len 0 s))) wide_size
    ∙ ap (λ xs. length (filter (is_least wide) xs)) (range-append 0 m k)
    ∙ ap length (filter-append (is_least wide) (range_with_len 0 m) (range_with_len (0 + m) k))
    ∙ length-append (filter (is_least wide) (range_with_len 0 m)) (filter (is_least wide) (range_with_len (0 + m) k))
    ∙ ap₂ (λ xs ys. length xs + length ys) first second
    ∙ ap₂ (λ s t. length (filter (is_least narrow) (range_with_len 0 s)) + t) (sym narrow_size) (length-range_with_len (0 + m) k)

-- the number 0 is the least of its class
pub class_count-zero : (m : ℕ) (pairs : List (ℕ × ℕ)) → AreBelow (m + 1) pairs
    → class_count (classes_of (m + 1) pairs) ≡ length (filter (is_least (classes_of (m + 1) pairs)) (range_with_len 1 m)) + 1
class_count-zero m pairs below = grind (arith, nat_tests, IsNamed-classes_of, eq-eqb)

-- so the classes of arcs that passes join are the components, and one more of the number 0
pub class_count-components : (crossings : List (List ℕ)) → AreBelow (arc_count crossings + 1) (flat_map passes_of crossings)
    → class_count (components_of crossings) ≡ component_count crossings + 1
class_count-components crossings = class_count-zero (arc_count crossings) (flat_map passes_of crossings)

-- and those of arcs and loops that smoothings join are the circles, and one more
pub class_count-circles : (code : Code) (state : ℕ)
    → AreBelow (arc_count code.crossings + code.loops + 1) (smoothings_of code.crossings state)
    → class_count (circles_of code state) ≡ circle_count code state + 1
class_count-circles code state = class_count-zero (arc_count code.crossings + code.loops) (smoothings_of code.crossings state)
