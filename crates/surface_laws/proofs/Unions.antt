-- Two surfaces as one.
--
-- The places of the second surface come after those of the first, so joins stay within either. Components are those of both (as
-- classes of two parts are), each with its counts, so that genera stay and the value is the product of both.
use Rattle.std.proofs.Common.{◌≡◌, ℕ, zero, suc, ◌+◌, ◌*◌, ◌<◌, ◌∙◌, List, [], ◌∷◌, ◌++◌, length, map, refl, sym, ap, ap₂, arith, Bool, false, cond, ◌||◌}
use Rattle.std.specs.Prelude.{nat_eq, slice_index}
use Rattle.std.specs.List.{sum_by, list_any, fold, range_with_len, AllByRecursion, Contains}
use Rattle.std.proofs.Math.Bool.{or-false}
use Rattle.std.proofs.lemmas.Bool.Decides.{nat_tests}
use Rattle.std.proofs.lemmas.List.{map-append, length-map, get_or-append-add, get_or-map}
use Rattle.std.proofs.lemmas.List.Elements.{recursion_from_All, All-from_get_or}
use Rattle.std.proofs.lemmas.List.Folds.{list_any-append}
use Rattle.std.proofs.lemmas.List.FromFn.{length-range_with_len}
use Rattle.std.proofs.lemmas.List.Sums.{sum_by-append, fold-append}
use Rattle.kh_types.specs.Classes.{merged, joined, classes_of, AreBelow, IsNamed}
use Rattle.kh_types.proofs.ClassCounts.{merged-other}
use Rattle.kh_types.proofs.JoinedClasses.{IsNamed-range, IsNamed-joined, IsNamed-classes_of}
use Rattle.kh_types.proofs.ListSums.{sum_by-map, sum_by-zeros, sum_by-on}
use Rattle.kh_types.proofs.MappedLists.{list_any-map}
use Rattle.kh_types.proofs.Ranges.{range-append}
use Rattle.kh_types.proofs.Lists.{AllByRecursion-at, AllByRecursion-weaker, slice_index-left}
use Rattle.kh_types.proofs.ClassLemmas.{merged-low, merged-moved}
use Rattle.surface_laws.specs.Surfaces.{Surface, component_of, is_component, factor, value, IsPlaced}
use Rattle.surface_laws.specs.Cuts.{union}
use Rattle.surface_laws.proofs.Products.{product_below-append, product_below-alike}
use Rattle.surface_laws.proofs.Components.{list_any-on, component-below}
use Rattle.surface_laws.proofs.Factors.{AreAlike, HaveOneCount-each, factor-alike}
use Rattle.surface_laws.proofs.JoinedCounts.{amount_at, sum_at}
use Rattle.surface_laws.proofs.OneCut.{place_of_face, dots_of_face, hollows_of_face, one_face, itself, one_place}
use Rattle.kh_types.proofs.Tests.{nat_eq-plus}

-- numbers moved up by n
abbrev pub up : ℕ → List ℕ → List ℕ
up n xs = map (λ x. n + x) xs

abbrev pub pair_up : ℕ → ℕ × ℕ → ℕ × ℕ
pair_up n pair = (n + pair.0, n + pair.1)

range-up : (n a k : ℕ) → range_with_len (n + a) k ≡ up n (range_with_len a k)
range-up n a zero = refl
range-up n a (suc k) =
    let e : n + a + 1 ≡ n + (a + 1) = omega arith in
    ap (λ (xs : List ℕ). (n + a) ∷ xs) (ap (λ z. range_with_len z k) e ∙ range-up n (a + 1) k)

at-right : (n : ℕ) (xs ys : List ℕ) (y : ℕ) → length xs ≡ n → y < length ys → slice_index (xs ++ up n ys) (n + y) ≡ n + slice_index ys y
at-right n xs ys y size below =
    ap (λ m. slice_index (xs ++ up n ys) (m + y)) (sym size)
    ∙ get_or-append-add xs (up n ys) y 0
    ∙ get_or-map (λ x. n + x) ys y 0 0 below

-- pairs of the first part change nothing in the second
merged-up : (n u v : ℕ) (ys : List ℕ) → u < n → v < n → map (merged u v) (up n ys) ≡ up n ys
merged-up n u v [] u_below v_below = refl
merged-up n u v (y ∷ ys) u_below v_below =
    ap₂ (λ (z : ℕ) (zs : List ℕ). z ∷ zs) (merged-other u v (n + y) (omega (arith, u_below)) (omega (arith, v_below)))
    (merged-up n u v ys u_below v_below)

joined-left : (n : ℕ) (xs ys : List ℕ) (pair : ℕ × ℕ) → IsNamed n xs → pair.0 < n → pair.1 < n
    → joined (xs ++ up n ys) pair ≡ joined xs pair ++ up n ys
joined-left n xs ys pair named first_below second_below =
    let u = slice_index xs pair.0 in
    let v = slice_index xs pair.1 in
    ap₂ (λ x y. map (merged x y) (xs ++ up n ys)) (slice_index-left xs (up n ys) pair.0 (omega (arith, named.size, first_below)))
    (slice_index-left xs (up n ys) pair.1 (omega (arith, named.size, second_below)))
    ∙ map-append (merged u v) xs (up n ys)
    ∙ ap (λ zs. map (merged u v) xs ++ zs)
    (merged-up n u v ys (omega (arith, named.least pair.0 first_below, first_below))
    (omega (arith, named.least pair.1 second_below, second_below)))

fold-left : (n : ℕ) (xs ys : List ℕ) (pairs : List (ℕ × ℕ)) → IsNamed n xs → AreBelow n pairs
    → fold joined (xs ++ up n ys) pairs ≡ fold joined xs pairs ++ up n ys
fold-left n xs ys [] named below = refl
fold-left n xs ys (pair ∷ pairs) named below =
    ap (λ zs. fold joined zs pairs) (joined-left n xs ys pair named below.0.0 below.0.1)
    ∙ fold-left n (joined xs pair) ys pairs (IsNamed-joined n xs pair below.0.0 below.0.1 named) below.1

merged-lows : (n u v : ℕ) (xs : List ℕ) → AllByRecursion (λ x. x < n) xs → map (merged (n + u) (n + v)) xs ≡ xs
merged-lows n u v [] below = refl
merged-lows n u v (x ∷ xs) below =
    ap₂ (λ (z : ℕ) (zs : List ℕ). z ∷ zs) (merged-low n u v x below.0) (merged-lows n u v xs below.1)

merged-ups : (n u v : ℕ) (ys : List ℕ) → map (merged (n + u) (n + v)) (up n ys) ≡ up n (map (merged u v) ys)
merged-ups n u v [] = refl
merged-ups n u v (y ∷ ys) =
    ap₂ (λ (z : ℕ) (zs : List ℕ). z ∷ zs) (merged-moved n u v y) (merged-ups n u v ys)

joined-right : (n k : ℕ) (xs ys : List ℕ) (pair : ℕ × ℕ) → length xs ≡ n → length ys ≡ k → AllByRecursion (λ x. x < n) xs
    → pair.0 < k → pair.1 < k → joined (xs ++ up n ys) (pair_up n pair) ≡ xs ++ up n (joined ys pair)
joined-right n k xs ys pair size other_size below first_below second_below =
    let u = slice_index ys pair.0 in
    let v = slice_index ys pair.1 in
    ap₂ (λ x y. map (merged x y) (xs ++ up n ys)) (at-right n xs ys pair.0 size (omega (arith, other_size, first_below)))
    (at-right n xs ys pair.1 size (omega (arith, other_size, second_below)))
    ∙ map-append (merged (n + u) (n + v)) xs (up n ys)
    ∙ ap₂ (λ (zs ws : List ℕ). zs ++ ws) (merged-lows n u v xs below) (merged-ups n u v ys)

fold-right : (n k : ℕ) (xs ys : List ℕ) (pairs : List (ℕ × ℕ)) → length xs ≡ n → length ys ≡ k → AllByRecursion (λ x. x < n) xs
    → AreBelow k pairs → fold joined (xs ++ up n ys) (map (pair_up n) pairs) ≡ xs ++ up n (fold joined ys pairs)
fold-right n k xs ys [] size other_size below pairs_below = refl
fold-right n k xs ys (pair ∷ pairs) size other_size below pairs_below =
    ap (λ zs. fold joined zs (map (pair_up n) pairs))
    (joined-right n k xs ys pair size other_size below pairs_below.0.0 pairs_below.0.1)
    ∙ fold-right n k xs (joined ys pair) pairs size (length-map ys (merged (slice_index ys pair.0) (slice_index ys pair.1)) ∙ other_size)
    below pairs_below.1

all-below : (n : ℕ) (classes : List ℕ) → IsNamed n classes → AllByRecursion (λ x. x < n) classes
all-below n classes named =
    recursion_from_All (λ x. x < n) classes
    (All-from_get_or (λ x. x < n) classes 0
    (λ i below. omega (arith, named.size, below, named.least i (omega (arith, named.size, below)))))

-- the classes of the whole are those of the parts
pub classes_of-union : (n k : ℕ) (pairs others : List (ℕ × ℕ)) → AreBelow n pairs → AreBelow k others
    → classes_of (n + k) (pairs ++ map (pair_up n) others) ≡ classes_of n pairs ++ up n (classes_of k others)
classes_of-union n k pairs others below others_below =
    let named = IsNamed-classes_of n pairs below in
    let e : 0 + n ≡ n + 0 = omega arith in
    fold-append joined (range_with_len 0 (n + k)) pairs (map (pair_up n) others)
    ∙ ap (λ zs. fold joined (fold joined zs pairs) (map (pair_up n) others))
    (range-append 0 n k
    ∙ ap (λ zs. range_with_len 0 n ++ zs) (ap (λ z. range_with_len z k) e ∙ range-up n 0 k))
    ∙ ap (λ zs. fold joined zs (map (pair_up n) others))
    (fold-left n (range_with_len 0 n) (range_with_len 0 k) pairs (IsNamed-range n) below)
    ∙ fold-right n k (classes_of n pairs) (range_with_len 0 k) others named.size (length-range_with_len 0 k)
    (all-below n (classes_of n pairs) named) others_below

pub component_of-first : (first second : Surface) (x : ℕ) → IsPlaced first → IsPlaced second → x < first.size
    → component_of (union first second) x ≡ component_of first x
component_of-first first second x placed other_placed below =
    let named = IsNamed-classes_of first.size first.joins placed.joins in
    ap (λ cs. slice_index cs x) (classes_of-union first.size second.size first.joins second.joins placed.joins other_placed.joins)
    ∙ slice_index-left (classes_of first.size first.joins) (up first.size (classes_of second.size second.joins)) x
    (omega (arith, named.size, below))

pub component_of-second : (first second : Surface) (y : ℕ) → IsPlaced first → IsPlaced second → y < second.size
    → component_of (union first second) (first.size + y) ≡ first.size + component_of second y
component_of-second first second y placed other_placed below =
    let named = IsNamed-classes_of first.size first.joins placed.joins in
    let other_named = IsNamed-classes_of second.size second.joins other_placed.joins in
    ap (λ cs. slice_index cs (first.size + y))
    (classes_of-union first.size second.size first.joins second.joins placed.joins other_placed.joins)
    ∙ at-right first.size (classes_of first.size first.joins) (classes_of second.size second.joins) y named.size
    (omega (arith, other_named.size, below))

-- what lies at places of the two parts, on a component of the one or of the other

test-apart : (n x y : ℕ) → x < n → nat_eq (n + y) x ≡ false
test-apart n x y below = grind (arith, nat_tests)

test-apart_back : (n x y : ℕ) → x < n → nat_eq x (n + y) ≡ false
test-apart_back n x y below = grind (arith, nat_tests)

-- the four tests
pub first-in_first : (first second : Surface) (p x : ℕ) → IsPlaced first → IsPlaced second → p < first.size
    → nat_eq (component_of (union first second) p) x ≡ nat_eq (component_of first p) x
first-in_first first second p x placed other_placed below =
    ap (λ c. nat_eq c x) (component_of-first first second p placed other_placed below)

pub second-in_first : (first second : Surface) (q x : ℕ) → IsPlaced first → IsPlaced second → q < second.size → x < first.size
    → nat_eq (component_of (union first second) (first.size + q)) x ≡ false
second-in_first first second q x placed other_placed below x_below =
    ap (λ c. nat_eq c x) (component_of-second first second q placed other_placed below)
    ∙ test-apart first.size x (component_of second q) x_below

pub first-in_second : (first second : Surface) (p y : ℕ) → IsPlaced first → IsPlaced second → p < first.size
    → nat_eq (component_of (union first second) p) (first.size + y) ≡ false
first-in_second first second p y placed other_placed below =
    ap (λ c. nat_eq c (first.size + y)) (component_of-first first second p placed other_placed below)
    ∙ test-apart_back first.size (component_of first p) y (component-below first p placed.joins below)

pub second-in_second : (first second : Surface) (q y : ℕ) → IsPlaced first → IsPlaced second → q < second.size
    → nat_eq (component_of (union first second) (first.size + q)) (first.size + y) ≡ nat_eq (component_of second q) y
second-in_second first second q y placed other_placed below =
    ap (λ c. nat_eq c (first.size + y)) (component_of-second first second q placed other_placed below)
    ∙ nat_eq-plus first.size (component_of second q) y

-- a sum over two lists, of which one adds nothing
sum-none : {X : Type 0} (f : X → ℕ) (xs : List X) → AllByRecursion (λ x. f x ≡ 0) xs → sum_by f xs ≡ 0
sum-none f xs none = sum_by-on f (λ x. 0) xs none ∙ sum_by-zeros (λ x. 0) xs (λ x. refl)

sum-first : {X : Type 0} (first second : Surface) (place amount : X → ℕ) (g : X → X) (xs ys : List X) (x : ℕ) → IsPlaced first
    → IsPlaced second → x < first.size → ((y : X) → place (g y) ≡ first.size + place y)
    → AllByRecursion (λ y. place y < first.size) xs → AllByRecursion (λ y. place y < second.size) ys
    → sum_at (union first second) x place amount (xs ++ map g ys) ≡ sum_at first x place amount xs
sum-first {X} first second place amount g xs ys x placed other_placed x_below moved xs_below ys_below =
    let whole : X → ℕ = amount_at (union first second) x place amount in
    let part : sum_by whole xs ≡ sum_at first x place amount xs =
    sum_by-on whole (amount_at first x place amount) xs
    (AllByRecursion-weaker (λ z. place z < first.size) (λ z. whole z ≡ amount_at first x place amount z) xs
    (λ z below. ap (λ t. cond t (amount z) 0) (first-in_first first second (place z) x placed other_placed below)) xs_below) in
    let rest : sum_by whole (map g ys) ≡ 0 =
    sum_by-map whole g ys
    ∙ sum-none (λ z. whole (g z)) ys
    (AllByRecursion-weaker (λ z. place z < second.size) (λ z. whole (g z) ≡ 0) ys
    (λ z below.
    ap (λ p. cond (nat_eq (component_of (union first second) p) x) (amount (g z)) 0) (moved z)
    ∙ ap (λ t. cond t (amount (g z)) 0) (second-in_first first second (place z) x placed other_placed below x_below)) ys_below) in
    sum_by-append whole xs (map g ys) ∙ omega (arith, part, rest)

sum-second : {X : Type 0} (first second : Surface) (place amount : X → ℕ) (g : X → X) (xs ys : List X) (y : ℕ) → IsPlaced first
    → IsPlaced second → ((z : X) → place (g z) ≡ first.size + place z) → ((z : X) → amount (g z) ≡ amount z)
    → AllByRecursion (λ z. place z < first.size) xs → AllByRecursion (λ z. place z < second.size) ys
    → sum_at (union first second) (first.size + y) place amount (xs ++ map g ys) ≡ sum_at second y place amount ys
sum-second {X} first second place amount g xs ys y placed other_placed moved amounts xs_below ys_below =
    let whole : X → ℕ = amount_at (union first second) (first.size + y) place amount in
    let rest : sum_by whole xs ≡ 0 =
    sum-none whole xs
    (AllByRecursion-weaker (λ z. place z < first.size) (λ z. whole z ≡ 0) xs
    (λ z below. ap (λ t. cond t (amount z) 0) (first-in_second first second (place z) y placed other_placed below)) xs_below) in
    let part : sum_by whole (map g ys) ≡ sum_at second y place amount ys =
    sum_by-map whole g ys
    ∙ sum_by-on (λ z. whole (g z)) (amount_at second y place amount) ys
    (AllByRecursion-weaker (λ z. place z < second.size) (λ z. whole (g z) ≡ amount_at second y place amount z) ys
    (λ z below.
    ap₂ (λ p n. cond (nat_eq (component_of (union first second) p) (first.size + y)) n 0) (moved z) (amounts z)
    ∙ ap (λ t. cond t (amount z) 0) (second-in_second first second (place z) y placed other_placed below)) ys_below) in
    sum_by-append whole xs (map g ys) ∙ omega (arith, part, rest)

any-none : (p : ℕ → Bool) (xs : List ℕ) → AllByRecursion (λ x. p x ≡ false) xs → list_any p xs ≡ false
any-none p [] none = refl
any-none p (x ∷ xs) none = ap₂ (λ b d. b || d) none.0 (any-none p xs none.1)

is_component-first : (first second : Surface) (x : ℕ) → IsPlaced first → IsPlaced second → x < first.size
    → is_component (union first second) x ≡ is_component first x
is_component-first first second x placed other_placed x_below =
    let n = first.size in
    let test : ℕ → Bool = λ p. nat_eq (component_of (union first second) p) x in
    list_any-append test first.places (up n second.places)
    ∙ ap₂ (λ b d. b || d)
    (list_any-on test (λ p. nat_eq (component_of first p) x) first.places
    (AllByRecursion-weaker (λ p. p < n) (λ p. test p ≡ nat_eq (component_of first p) x) first.places
    (λ p below. first-in_first first second p x placed other_placed below) placed.places))
    (list_any-map test (λ q. n + q) second.places
    ∙ any-none (λ q. test (n + q)) second.places
    (AllByRecursion-weaker (λ q. q < second.size) (λ q. test (n + q) ≡ false) second.places
    (λ q below. second-in_first first second q x placed other_placed below x_below) other_placed.places))
    ∙ or-false (is_component first x)

is_component-second : (first second : Surface) (y : ℕ) → IsPlaced first → IsPlaced second
    → is_component (union first second) (first.size + y) ≡ is_component second y
is_component-second first second y placed other_placed =
    let n = first.size in
    let test : ℕ → Bool = λ p. nat_eq (component_of (union first second) p) (n + y) in
    list_any-append test first.places (up n second.places)
    ∙ ap₂ (λ b d. b || d)
    (any-none test first.places
    (AllByRecursion-weaker (λ p. p < n) (λ p. test p ≡ false) first.places
    (λ p below. first-in_second first second p y placed other_placed below) placed.places))
    (list_any-map test (λ q. n + q) second.places
    ∙ list_any-on (λ q. test (n + q)) (λ q. nat_eq (component_of second q) y) second.places
    (AllByRecursion-weaker (λ q. q < second.size) (λ q. test (n + q) ≡ nat_eq (component_of second q) y) second.places
    (λ q below. second-in_second first second q y placed other_placed below) other_placed.places))

-- the places of what lies on a surface are below its size
pub place-below : (surface : Surface) (place : ℕ) → IsPlaced surface → Contains surface.places place → place < surface.size
place-below surface place placed has = AllByRecursion-at (λ x. x < surface.size) surface.places place placed.places has

places-below : {X : Type 0} (surface : Surface) (place : X → ℕ) (xs : List X) → IsPlaced surface
    → AllByRecursion (λ x. Contains surface.places (place x)) xs → AllByRecursion (λ x. place x < surface.size) xs
places-below surface place xs placed all =
    AllByRecursion-weaker (λ x. Contains surface.places (place x)) (λ x. place x < surface.size) xs
    (λ x has. place-below surface (place x) placed has) all

abbrev pub face_up : ℕ → ℕ × ℕ → ℕ × ℕ
face_up n face = (n + face.0, face.1)

pub alike-first : (first second : Surface) (x : ℕ) → IsPlaced first → IsPlaced second → x < first.size
    → AreAlike (union first second) x first x
alike-first first second x placed other_placed below =
    let n = first.size in
    let faces = places-below first place_of_face first.faces placed placed.faces in
    let other_faces = places-below second place_of_face second.faces other_placed other_placed.faces in
    record {
      is = is_component-first first second x placed other_placed below;
      counts = HaveOneCount-each (union first second) x first x
          (sum-first first second place_of_face one_face (face_up n) first.faces second.faces x placed other_placed below
          (λ face. refl) faces other_faces)
          (sum-first first second place_of_face dots_of_face (face_up n) first.faces second.faces x placed other_placed below
          (λ face. refl) faces other_faces)
          (sum-first first second place_of_face hollows_of_face (face_up n) first.faces second.faces x placed other_placed below
          (λ face. refl) faces other_faces)
          (sum-first first second itself one_place (λ z. n + z) first.lowers second.lowers x placed other_placed below
          (λ z. refl) (places-below first itself first.lowers placed placed.lowers)
          (places-below second itself second.lowers other_placed other_placed.lowers))
          (sum-first first second itself one_place (λ z. n + z) first.raises second.raises x placed other_placed below
          (λ z. refl) (places-below first itself first.raises placed placed.raises)
          (places-below second itself second.raises other_placed other_placed.raises));
    }

pub alike-second : (first second : Surface) (y : ℕ) → IsPlaced first → IsPlaced second
    → AreAlike (union first second) (first.size + y) second y
alike-second first second y placed other_placed =
    let n = first.size in
    let faces = places-below first place_of_face first.faces placed placed.faces in
    let other_faces = places-below second place_of_face second.faces other_placed other_placed.faces in
    record {
      is = is_component-second first second y placed other_placed;
      counts = HaveOneCount-each (union first second) (n + y) second y
          (sum-second first second place_of_face one_face (face_up n) first.faces second.faces y placed other_placed
          (λ face. refl) (λ face. refl) faces other_faces)
          (sum-second first second place_of_face dots_of_face (face_up n) first.faces second.faces y placed other_placed
          (λ face. refl) (λ face. refl) faces other_faces)
          (sum-second first second place_of_face hollows_of_face (face_up n) first.faces second.faces y placed other_placed
          (λ face. refl) (λ face. refl) faces other_faces)
          (sum-second first second itself one_place (λ z. n + z) first.lowers second.lowers y placed other_placed
          (λ z. refl) (λ z. refl) (places-below first itself first.lowers placed placed.lowers)
          (places-below second itself second.lowers other_placed other_placed.lowers))
          (sum-second first second itself one_place (λ z. n + z) first.raises second.raises y placed other_placed
          (λ z. refl) (λ z. refl) (places-below first itself first.raises placed placed.raises)
          (places-below second itself second.raises other_placed other_placed.raises));
    }

pub value-union : (h k : ℕ) (first second : Surface) → IsPlaced first → IsPlaced second
    → value h k (union first second) ≡ value h k first * value h k second
value-union h k first second placed other_placed =
    let whole = union first second in
    product_below-append first.size second.size (factor h k whole)
    ∙ ap₂ (λ x y. x * y)
    (product_below-alike first.size (factor h k whole) (factor h k first)
    (λ x below. factor-alike h k whole x first x (alike-first first second x placed other_placed below)))
    (product_below-alike second.size (λ y. factor h k whole (first.size + y)) (factor h k second)
    (λ y below. factor-alike h k whole (first.size + y) second y (alike-second first second y placed other_placed)))
