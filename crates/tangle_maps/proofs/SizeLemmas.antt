-- Classes and discs do not depend on the size, as long as it is above the points.
use Rattle.std.proofs.Common.{◌≡◌, ℕ, zero, suc, ◌+◌, ◌<◌, ◌≤◌, ◌∙◌, List, [], ◌∷◌, map, take, refl, sym, ap, ap₂, arith}
use Rattle.std.specs.Prelude.{slice_index, nat_eq}
use Rattle.std.specs.List.{fold, range_with_len, AllByRecursion}
use Rattle.kh_types.specs.Classes.{AreBelow, classes_of, is_least, joined, merged, merged_all}
use Rattle.surface_laws.specs.Points.{least_points}
use Rattle.kh_types.proofs.Lists.{filter-on}

map-take : (f : ℕ → ℕ) (n : ℕ) (xs : List ℕ) → take n (map f xs) ≡ map f (take n xs)
map-take f zero [] = refl
map-take f zero (x ∷ xs) = refl
map-take f (suc n) [] = refl
map-take f (suc n) (x ∷ xs) = ap (λ (ys : List ℕ). f x ∷ ys) (map-take f n xs)

index-take : (n k : ℕ) (xs : List ℕ) → k < n → slice_index (take n xs) k ≡ slice_index xs k
index-take zero k xs below = absurd (omega (arith, below))
index-take (suc n) k [] below = refl
index-take (suc n) zero (x ∷ xs) below = refl
index-take (suc n) (suc k) (x ∷ xs) below = index-take n k xs (omega (arith, below))

joined-take : (n : ℕ) (classes : List ℕ) (pair : ℕ × ℕ) → pair.0 < n → pair.1 < n
    → take n (joined classes pair) ≡ joined (take n classes) pair
joined-take n classes pair first second =
    map-take (merged (slice_index classes pair.0) (slice_index classes pair.1)) n classes
    ∙ ap₂ (λ x y. merged_all x y (take n classes)) (sym (index-take n pair.0 classes first)) (sym (index-take n pair.1 classes second))

fold-take : (n : ℕ) (classes : List ℕ) (pairs : List (ℕ × ℕ)) → AreBelow n pairs
    → take n (fold joined classes pairs) ≡ fold joined (take n classes) pairs
fold-take n classes [] below = refl
fold-take n classes (pair ∷ pairs) below =
    fold-take n (joined classes pair) pairs below.1
    ∙ ap (λ cs. fold joined cs pairs) (joined-take n classes pair below.0.0 below.0.1)

range-take : (a n k : ℕ) → n ≤ k → take n (range_with_len a k) ≡ range_with_len a n
range-take a zero zero within = refl
range-take a zero (suc k) within = refl
range-take a (suc n) zero within = absurd (omega (arith, within))
range-take a (suc n) (suc k) within = ap (λ (xs : List ℕ). a ∷ xs) (range-take (a + 1) n k (omega (arith, within)))

pub classes-size : (n k : ℕ) (pairs : List (ℕ × ℕ)) → n ≤ k → AreBelow n pairs → take n (classes_of k pairs) ≡ classes_of n pairs
classes-size n k pairs within below =
    fold-take n (range_with_len 0 k) pairs below ∙ ap (λ cs. fold joined cs pairs) (range-take 0 n k within)

pub class-size : (n k x : ℕ) (pairs : List (ℕ × ℕ)) → n ≤ k → AreBelow n pairs → x < n
    → slice_index (classes_of k pairs) x ≡ slice_index (classes_of n pairs) x
class-size n k x pairs within below small =
    sym (index-take n x (classes_of k pairs) small) ∙ ap (λ cs. slice_index cs x) (classes-size n k pairs within below)

tests-alike : (n k : ℕ) (pairs : List (ℕ × ℕ)) (xs : List ℕ) → n ≤ k → AreBelow n pairs → AllByRecursion (λ x. x < n) xs
    → AllByRecursion (λ x. is_least (classes_of k pairs) x ≡ is_least (classes_of n pairs) x) xs
tests-alike n k pairs [] within below all = tt
tests-alike n k pairs (x ∷ xs) within below all =
    (ap (λ c. nat_eq c x) (class-size n k x pairs within below all.0), tests-alike n k pairs xs within below all.1)

pub least_points-size : (n k : ℕ) (points : List ℕ) (joins : List (ℕ × ℕ)) → n ≤ k → AllByRecursion (λ x. x < n) points
    → AreBelow n joins → least_points k points joins ≡ least_points n points joins
least_points-size n k points joins within small below =
    filter-on (is_least (classes_of k joins)) (is_least (classes_of n joins)) points
    (tests-alike n k joins points within below small)

-- two sizes, both above the points

pub class-sizes : (m n k x : ℕ) (pairs : List (ℕ × ℕ)) → m ≤ n → m ≤ k → AreBelow m pairs → x < m
    → slice_index (classes_of k pairs) x ≡ slice_index (classes_of n pairs) x
class-sizes m n k x pairs first second below small = class-size m k x pairs second below small ∙ sym (class-size m n x pairs first below small)

pub least_points-sizes : (m n k : ℕ) (points : List ℕ) (joins : List (ℕ × ℕ)) → m ≤ n → m ≤ k → AllByRecursion (λ x. x < m) points
    → AreBelow m joins → least_points k points joins ≡ least_points n points joins
least_points-sizes m n k points joins first second small below =
    least_points-size m k points joins second small below ∙ sym (least_points-size m n points joins first small below)
