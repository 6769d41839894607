-- Classes under the joining of pairs.
use Rattle.std.proofs.Common.{◌≡◌, ℕ, ◌+◌, ◌<◌, ◌∙◌, List, [], ◌∷◌, ◌++◌, sym, length, map, get_or, take, drop, ap, arith, ◌≢◌, max, min}
use Rattle.std.proofs.Math.ListN.{set}
use Rattle.std.proofs.lemmas.List.{get_or_default, length-append, length-map, length-take, length-drop}
use Rattle.std.specs.Prelude.{slice_index}
use Rattle.std.specs.List.{fold, range_with_len}
use Rattle.std.proofs.lemmas.List.{get_or-map}
use Rattle.std.proofs.lemmas.List.FromFn.{length-range_with_len, get_or-range_with_len}
use Rattle.std.proofs.lemmas.Bool.Decides.{nat_tests}
use Rattle.kh_types.specs.Classes.{merged, joined, classes_of, Respects, AreBelow}
use Rattle.std.proofs.lemmas.List.Edits.{map_over_more}
use Rattle.kh_types.proofs.Lists.{AllByRecursion-append, AllByRecursion-first, AllByRecursion-second}

-- a list on its way to its image, with one element more replaced
pub map_in_place : (f : ℕ → ℕ) (xs ys : List ℕ) (i y : ℕ) → i < length xs → ys ≡ map f (take i xs) ++ drop i xs
    → y ≡ f (get_or ys i 0) → set ys i y ≡ map f (take (i + 1) xs) ++ drop (i + 1) xs
map_in_place f xs ys i y below is_ys is_y =
    let same_length : length ys ≡ length xs =
    ap length is_ys ∙ length-append (map f (take i xs)) (drop i xs)
    ∙ ap (λ n. n + length (drop i xs)) (length-map (take i xs) f) ∙ grind (arith, length-take i xs, length-drop i xs) in
    let below_too : i < length ys = omega arith in
    ap (λ z. set ys i z) is_y
    ∙ map_over_more f xs ys i (get_or ys i 0) below is_ys (get_or_default ys i 0 (get_or ys i 0) below_too)

-- where two class numbers became one, numbers of the joined classes have one value if those that joined them have
one_value : (x y u v of_x of_y of_u of_v : ℕ) → merged x y u ≡ merged x y v → of_x ≡ of_y → (u ≡ v → of_u ≡ of_v)
    → (u ≡ x → of_u ≡ of_x) → (u ≡ y → of_u ≡ of_y) → (v ≡ x → of_v ≡ of_x) → (v ≡ y → of_v ≡ of_y) → of_u ≡ of_v
one_value x y u v of_x of_y of_u of_v same joins alike u_x u_y v_x v_y = grind (arith, nat_tests)

-- the two classes that are joined become one
pub merged-both : (x y : ℕ) → merged x y x ≡ merged x y y
merged-both x y = grind (arith, nat_tests)

-- what becomes of the number of a class where two classes become one
pub merged-first : (x y : ℕ) → merged x y x ≡ min x y
merged-first x y = grind (arith, nat_tests)

pub merged-others : (x y z : ℕ) → z ≢ x → z ≢ y → merged x y z ≡ z
merged-others x y z not_x not_y = grind (arith, nat_tests)

pub merged-greatest : (x y z : ℕ) → z ≡ max x y → merged x y z ≡ min x y
merged-greatest x y z is = grind (arith, nat_tests)

pub merged-kept : (x y z : ℕ) → z ≢ max x y → merged x y z ≡ z
merged-kept x y z other = grind (arith, nat_tests)

pub merged-low : (n x y z : ℕ) → z < n → merged (n + x) (n + y) z ≡ z
merged-low n x y z low = grind (arith, nat_tests)

pub merged-moved : (n x y z : ℕ) → merged (n + x) (n + y) (n + z) ≡ n + merged x y z
merged-moved n x y z = grind (arith, nat_tests)

-- pairs below a number, and pairs that a function respects, in two lists and in both in one

pub AreBelow-append : (n : ℕ) (xs ys : List (ℕ × ℕ)) → AreBelow n xs → AreBelow n ys → AreBelow n (xs ++ ys)
AreBelow-append n xs ys = AllByRecursion-append (λ (pair : ℕ × ℕ). (pair.0 < n) × (pair.1 < n)) xs ys

pub Respects-append : (g : ℕ → ℕ) (xs ys : List (ℕ × ℕ)) → Respects g xs → Respects g ys → Respects g (xs ++ ys)
Respects-append g xs ys = AllByRecursion-append (λ (pair : ℕ × ℕ). g pair.0 ≡ g pair.1) xs ys

pub Respects-first : (g : ℕ → ℕ) (xs ys : List (ℕ × ℕ)) → Respects g (xs ++ ys) → Respects g xs
Respects-first g xs ys = AllByRecursion-first (λ (pair : ℕ × ℕ). g pair.0 ≡ g pair.1) xs ys

pub Respects-second : (g : ℕ → ℕ) (xs ys : List (ℕ × ℕ)) → Respects g (xs ++ ys) → Respects g ys
Respects-second g xs ys = AllByRecursion-second (λ (pair : ℕ × ℕ). g pair.0 ≡ g pair.1) xs ys

pub slice_index-joined : (classes : List ℕ) (pair : ℕ × ℕ) (x : ℕ) → x < length classes
    → slice_index (joined classes pair) x
    ≡ merged (slice_index classes pair.0) (slice_index classes pair.1) (slice_index classes x)
slice_index-joined classes pair x below = grind (arith, nat_tests, get_or-map)

pub length-joined : (classes : List ℕ) (pair : ℕ × ℕ) → length (joined classes pair) ≡ length classes
length-joined classes pair = length-map classes (merged (slice_index classes pair.0) (slice_index classes pair.1))

-- numbers of one class stay in one class
kept_together : (classes : List ℕ) (pairs : List (ℕ × ℕ)) (x y : ℕ) → x < length classes → y < length classes
    → slice_index classes x ≡ slice_index classes y
    → slice_index (fold joined classes pairs) x ≡ slice_index (fold joined classes pairs) y
kept_together classes [] x y x_below y_below same = same
kept_together classes (pair ∷ pairs) x y x_below y_below same =
    let size = length-joined classes pair in
    kept_together (joined classes pair) pairs x y (omega (arith, size)) (omega (arith, size))
    (slice_index-joined classes pair x x_below
    ∙ ap (λ class. merged (slice_index classes pair.0) (slice_index classes pair.1) class) same
    ∙ sym (slice_index-joined classes pair y y_below))

-- the two numbers of each pair are joined
joined_together : (n : ℕ) (classes : List ℕ) (pairs : List (ℕ × ℕ)) → length classes ≡ n → AreBelow n pairs
    → Respects (λ x. slice_index (fold joined classes pairs) x) pairs
joined_together n classes [] is_n below = tt
joined_together n classes (pair ∷ pairs) is_n below =
    let size = length-joined classes pair in
    let first_below : pair.0 < length classes = omega (arith, is_n, below.0.0) in
    let second_below : pair.1 < length classes = omega (arith, is_n, below.0.1) in
    let now : slice_index (joined classes pair) pair.0 ≡ slice_index (joined classes pair) pair.1 =
    slice_index-joined classes pair pair.0 first_below
    ∙ merged-both (slice_index classes pair.0) (slice_index classes pair.1)
    ∙ sym (slice_index-joined classes pair pair.1 second_below) in (
      kept_together (joined classes pair) pairs pair.0 pair.1 (omega (arith, size)) (omega (arith, size)) now,
      joined_together n (joined classes pair) pairs (size ∙ is_n) below.1,
    )

pub classes-together : (n : ℕ) (pairs : List (ℕ × ℕ)) → AreBelow n pairs
    → Respects (λ x. slice_index (classes_of n pairs) x) pairs
classes-together n pairs below = joined_together n (range_with_len 0 n) pairs (length-range_with_len 0 n) below

-- f has one value on each class
abbrev pub IsOneOnClasses : (ℕ → ℕ) → ℕ → List ℕ → Type 0
IsOneOnClasses f n classes = (x y : ℕ) → x < n → y < n → slice_index classes x ≡ slice_index classes y → f x ≡ f y

pub one_on_joined : (f : ℕ → ℕ) (n : ℕ) (classes : List ℕ) (pair : ℕ × ℕ) → length classes ≡ n → pair.0 < n → pair.1 < n
    → f pair.0 ≡ f pair.1 → IsOneOnClasses f n classes → IsOneOnClasses f n (joined classes pair)
one_on_joined f n classes pair is_n first_below second_below respects one = grind (arith, nat_tests, slice_index-joined, one_value)

one_on_all : (f : ℕ → ℕ) (n : ℕ) (classes : List ℕ) (pairs : List (ℕ × ℕ)) → length classes ≡ n → AreBelow n pairs
    → Respects f pairs → IsOneOnClasses f n classes → IsOneOnClasses f n (fold joined classes pairs)
one_on_all f n classes [] is_n below respects one = one
one_on_all f n classes (pair ∷ pairs) is_n below respects one =
    grind (arith, nat_tests, length-joined, one_on_joined, one_on_all f n (joined classes pair) pairs (length-joined classes pair ∙ is_n) below.1 respects.1 (one_on_joined f n classes pair is_n below.0.0 below.0.1 respects.0 one))

pub classes-finest : (f : ℕ → ℕ) (n : ℕ) (pairs : List (ℕ × ℕ)) → Respects f pairs → AreBelow n pairs
    → (x y : ℕ) → x < n → y < n → slice_index (classes_of n pairs) x ≡ slice_index (classes_of n pairs) y → f x ≡ f y
classes-finest f n pairs respects below =
    one_on_all f n (range_with_len 0 n) pairs (length-range_with_len 0 n) below respects
    (λ x y x_below y_below same. ap f
    (sym (get_or-range_with_len 0 n x 0 x_below ∙ omega arith) ∙ same
    ∙ get_or-range_with_len 0 n y 0 y_below ∙ omega arith))
