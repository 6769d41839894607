-- Renaming numbers, adding a number, and the two parts of a diagram by what they tie.
use Rattle.std.proofs.Common.{◌≡◌, ℕ, zero, suc, ◌+◌, ◌<◌, ◌∙◌, List, [], ◌∷◌, ◌++◌, sym, refl, length, ap, arith, true}
use Rattle.std.specs.Prelude.{slice_index}
use Rattle.std.specs.List.{filter, range_with_len}
use Rattle.std.proofs.lemmas.List.FromFn.{length-range_with_len}
use Rattle.std.proofs.lemmas.Bool.Decides.{nat_tests}
use Rattle.std.proofs.lemmas.Bool.{eq-eqb}
use Rattle.kh_types.specs.Classes.{merged, joined, classes_of, is_least, class_count, Respects, AreBelow}
use Rattle.kh_types.proofs.ClassLemmas.{slice_index-joined, Respects-append, Respects-first, Respects-second}
use Rattle.kh_types.proofs.JoinedClasses.{IsNamed-range, slice_index-range, classes_of-same, class_count-joined}
use Rattle.gluing_laws.proofs.OldLemmas.{filter-same}
use Rattle.gluing_laws.specs.Glue.{renamed, Places, JoinAlike}
use Rattle.gluing_laws.proofs.Glued.{class_count-glued_parts}
pub use Rattle.kh_types.proofs.ClassLemmas.{AreBelow-append}

-- n numbers that are all alone are n classes

length-filter_all : (a n : ℕ) → length (filter (λ x. true) (range_with_len a n)) ≡ n
length-filter_all a zero = refl
length-filter_all a (suc n) = let rest = length-filter_all (a + 1) n in omega arith

pub class_count-range : (n : ℕ) → class_count (range_with_len 0 n) ≡ n
class_count-range n =
    ap (λ k. length (filter (is_least (range_with_len 0 n)) (range_with_len 0 k))) (length-range_with_len 0 n)
    ∙ ap length (filter-same (λ x. true) (is_least (range_with_len 0 n)) 0 n
    (λ x from below. eq-eqb (slice_index (range_with_len 0 n) x) x (slice_index-range n x (omega arith))))
    ∙ length-filter_all 0 n

-- pairs placed in two ways

pub renamed-same : (pairs : List (ℕ × ℕ)) → renamed (λ x. x) pairs ≡ pairs
renamed-same [] = refl
renamed-same (pair ∷ pairs) = ap (λ ps. pair ∷ ps) (renamed-same pairs)

pub AreBelow-renamed : (m n : ℕ) (f : ℕ → ℕ) (pairs : List (ℕ × ℕ)) → Places f m n → AreBelow m pairs → AreBelow n (renamed f pairs)
AreBelow-renamed m n f [] places below = below
AreBelow-renamed m n f (pair ∷ pairs) places below = grind (arith, nat_tests, AreBelow-renamed m n f pairs places below.1)

turned : (f : ℕ → ℕ) (pairs more : List (ℕ × ℕ)) → Respects f (pairs ++ more) → Respects f (more ++ pairs)
turned f pairs more respects = grind (arith, nat_tests, Respects-append, Respects-second, Respects-first)

-- it does not matter which of two parts comes first
pub classes_of-turned : (n : ℕ) (pairs more : List (ℕ × ℕ)) → AreBelow n pairs → AreBelow n more
    → classes_of n (pairs ++ more) ≡ classes_of n (more ++ pairs)
classes_of-turned n pairs more below more_below =
    classes_of-same n (pairs ++ more) (more ++ pairs) (AreBelow-append n pairs more below more_below)
    (AreBelow-append n more pairs more_below below) (λ f respects. turned f pairs more respects)
    (λ f respects. turned f more pairs respects)

-- renumbering, with each number still itself: as many classes, but for the numbers that no old one is renumbered to
pub class_count-renamed : (n k : ℕ) (f : ℕ → ℕ) (pairs : List (ℕ × ℕ)) → AreBelow n pairs → Places f n k
    → ((x y : ℕ) → x < n → y < n → f x ≡ f y → x ≡ y)
    → class_count (classes_of k (renamed f pairs)) + n ≡ class_count (classes_of n pairs) + k
class_count-renamed n k f pairs below places apart =
    let alike : JoinAlike n (λ x. x) f (range_with_len 0 n) (range_with_len 0 k) = record {
      onward = λ x y x_below y_below same. ap (λ z. slice_index (range_with_len 0 k) (f z))
          (sym (slice_index-range n x x_below) ∙ same ∙ slice_index-range n y y_below);
      back = λ x y x_below y_below same. ap (λ z. slice_index (range_with_len 0 n) z)
          (apart x y x_below y_below
          (sym (slice_index-range k (f x) (places x x_below)) ∙ same ∙ slice_index-range k (f y) (places y y_below)));
    } in
    let same = ap (λ ps. class_count (classes_of n ps)) (renamed-same pairs) in
    let law = class_count-glued_parts n n k (λ x. x) f pairs [] [] below tt tt (λ x x_below. x_below) places alike in
    omega (arith, law, same, class_count-range n, class_count-range k)

-- one number more, which is joined to an old one
pub class_count-fresh : (n old : ℕ) (pairs : List (ℕ × ℕ)) → AreBelow n pairs → old < n
    → class_count (classes_of (n + 1) ((old, n) ∷ pairs)) ≡ class_count (classes_of n pairs)
class_count-fresh n old pairs below old_below =
    let at : (x : ℕ) → x < n → slice_index (joined (range_with_len 0 (n + 1)) (old, n)) x ≡ x =
    λ x x_below. slice_index-joined (range_with_len 0 (n + 1)) (old, n) x (omega (arith, length-range_with_len 0 (n + 1)))
    ∙ kept (slice_index (range_with_len 0 (n + 1)) old) (slice_index (range_with_len 0 (n + 1)) n)
    (slice_index (range_with_len 0 (n + 1)) x) old n x (slice_index-range (n + 1) old (omega arith))
    (slice_index-range (n + 1) n (omega arith)) (slice_index-range (n + 1) x (omega arith)) old_below x_below in
    let alike : JoinAlike n (λ x. x) (λ x. x) (range_with_len 0 n) (classes_of (n + 1) ((old, n) ∷ [])) = record {
      onward = λ x y x_below y_below same. ap (λ z. slice_index (joined (range_with_len 0 (n + 1)) (old, n)) z)
          (sym (slice_index-range n x x_below) ∙ same ∙ slice_index-range n y y_below);
      back = λ x y x_below y_below same. ap (λ z. slice_index (range_with_len 0 n) z) (sym (at x x_below) ∙ same ∙ at y y_below);
    } in
    let same = ap (λ ps. class_count (classes_of n ps)) (renamed-same pairs) in
    let same_more = ap (λ ps. class_count (classes_of (n + 1) ((old, n) ∷ ps))) (renamed-same pairs) in
    let one_less = class_count-joined (n + 1) (range_with_len 0 (n + 1)) (old, n) (IsNamed-range (n + 1)) (omega arith) (omega arith)
    (λ is. absurd (omega (arith, is, slice_index-range (n + 1) old (omega arith), slice_index-range (n + 1) n (omega arith)))) in
    let law = class_count-glued_parts n n (n + 1) (λ x. x) (λ x. x) pairs [] ((old, n) ∷ []) below tt
    ((omega arith, omega arith), tt) (λ x x_below. x_below) (λ x x_below. omega arith) alike in
    omega (arith, law, same, same_more, one_less, class_count-range n, class_count-range (n + 1))
  where
    kept : (a b c old n x : ℕ) → a ≡ old → b ≡ n → c ≡ x → old < n → x < n → merged a b c ≡ x
    kept a b c old n x is_old is_n is_x old_below x_below = grind (arith, nat_tests)
