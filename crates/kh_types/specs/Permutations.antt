-- Permutations, their cycles, the exchange of two images, and classes of which two become one (plain notions of mathematics).
use Rattle.std.specs.Prelude.{◌≡◌, ◌≢◌, ℕ, ◌<◌, List, map, slice_index}
use Rattle.std.specs.List.{range_with_len}
use Rattle.kh_types.specs.Classes.{classes_of, joined}

-- f permutes the numbers below n, and another function leads back
pub record IsPermutation (n : ℕ) (f back : ℕ → ℕ) : Type 0 where
  pub below : (x : ℕ) → x < n → f x < n
  pub back_below : (x : ℕ) → x < n → back x < n
  pub back_f : (x : ℕ) → x < n → back (f x) ≡ x
  pub f_back : (x : ℕ) → x < n → f (back x) ≡ x

-- a number and its image
abbrev pub step_pair : (ℕ → ℕ) → ℕ → ℕ × ℕ
step_pair f x = (x, f x)

-- the cycle of each number below n, by its least number: two numbers are in one class where one step leads from one to the other
abbrev pub cycles_of : ℕ → (ℕ → ℕ) → List ℕ
cycles_of n f = classes_of n (map (step_pair f) (range_with_len 0 n))

-- two numbers x and y below n have exchanged their images, and all other images are the same
pub record IsExchange (n : ℕ) (f other : ℕ → ℕ) (x y : ℕ) : Type 0 where
  pub x_below : x < n
  pub y_below : y < n
  pub apart : x ≢ y
  pub at_x : other x ≡ f y
  pub at_y : other y ≡ f x
  pub others : (z : ℕ) → z < n → z ≢ x → z ≢ y → other z ≡ f z

-- the classes of two numbers that were apart have become one, and all else stays together or apart
pub record AreJoined (before after : List ℕ) (x y : ℕ) : Type 0 where
  pub apart : slice_index before x ≢ slice_index before y
  pub one : after ≡ joined before (x, y)
