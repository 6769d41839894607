-- The finest classes of the numbers below n that join the two numbers of each of some pairs. Components, faces, pieces and
-- circles are such classes; that these are the finest is the law `classes_are_finest`.
use Rattle.std.specs.Prelude.{◌≡◌, ℕ, ◌<◌, ◌≤◌, List, length, map, min, max, nat_eq, Bool, slice_index, if◌then◌else◌}
use Rattle.std.specs.List.{fold, filter, range_with_len, AllByRecursion}

-- one class number, after the classes of the numbers x and y have become one: the greater has become the smaller
abbrev pub merged : ℕ → ℕ → ℕ → ℕ
merged x y class = if nat_eq class (max x y) then min x y else class

-- the class numbers of all, after the classes numbered x and y have become one
abbrev pub merged_all : ℕ → ℕ → List ℕ → List ℕ
merged_all x y classes = map (merged x y) classes

-- the class numbers of all, after the two numbers of a pair have been joined
abbrev pub joined : List ℕ → ℕ × ℕ → List ℕ
joined classes pair = merged_all (slice_index classes pair.0) (slice_index classes pair.1) classes

-- the class of each number below n, which is the least number in it: at first each number is alone, then each pair is joined
abbrev pub classes_of : ℕ → List (ℕ × ℕ) → List ℕ
classes_of n pairs = fold joined (range_with_len 0 n) pairs

-- whether a number is the least of its class, and so names it
abbrev pub is_least : List ℕ → ℕ → Bool
is_least classes x = nat_eq (slice_index classes x) x

-- how many classes there are
abbrev pub class_count : List ℕ → ℕ
class_count classes = length (filter (is_least classes) (range_with_len 0 (length classes)))

-- f has one value at the two numbers of each pair
abbrev pub Respects : (ℕ → ℕ) → List (ℕ × ℕ) → Type 0
Respects f pairs = AllByRecursion (λ pair. f pair.0 ≡ f pair.1) pairs

-- the numbers of the pairs are below n
abbrev pub AreBelow : ℕ → List (ℕ × ℕ) → Type 0
AreBelow n pairs = AllByRecursion (λ pair. (pair.0 < n) × (pair.1 < n)) pairs

-- each class of the numbers below n is named by its least number: the class of a number is at most the number, and is itself one
-- of that class
pub record IsNamed (n : ℕ) (classes : List ℕ) : Type 0 where
  pub size : length classes ≡ n
  pub least : (x : ℕ) → x < n → slice_index classes x ≤ x
  pub own : (x : ℕ) → x < n → slice_index classes (slice_index classes x) ≡ slice_index classes x
