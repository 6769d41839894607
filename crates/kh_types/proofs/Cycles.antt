-- The cycles of a permutation.
use Rattle.std.proofs.Common.{◌≡◌, ℕ, ◌<◌, sym, map, arith}
use Rattle.std.specs.Prelude.{slice_index}
use Rattle.std.specs.List.{range_with_len}
use Rattle.kh_types.specs.Classes.{AreBelow, IsNamed}
use Rattle.kh_types.proofs.ClassLemmas.{classes-together, classes-finest}
use Rattle.kh_types.proofs.JoinedClasses.{IsNamed-classes_of}
use Rattle.kh_types.proofs.WalkLemmas.{AreCycles}
use Rattle.kh_types.specs.Permutations.{IsPermutation, step_pair, cycles_of}
use Rattle.kh_types.proofs.RangeImages.{all-map_range, map_range-at}

-- the pairs of the steps are of numbers below n
pub step_pairs-below : (n : ℕ) (f : ℕ → ℕ) → ((x : ℕ) → x < n → f x < n) → AreBelow n (map (step_pair f) (range_with_len 0 n))
step_pairs-below n f below =
    all-map_range (λ (pair : ℕ × ℕ). (pair.0 < n) × (pair.1 < n)) (step_pair f) 0 n
    (λ x x_below. let small : x < n = omega (arith, x_below) in (small, below x small))

-- cycles are named by their least numbers
pub IsNamed-cycles_of : (n : ℕ) (f : ℕ → ℕ) → ((x : ℕ) → x < n → f x < n) → IsNamed n (cycles_of n f)
IsNamed-cycles_of n f below = IsNamed-classes_of n (map (step_pair f) (range_with_len 0 n)) (step_pairs-below n f below)

pub AreCycles-cycles_of : (n : ℕ) (f back : ℕ → ℕ) → IsPermutation n f back → AreCycles n f back (cycles_of n f)
AreCycles-cycles_of n f back permutes =
    let pairs = map (step_pair f) (range_with_len 0 n) in
    let pairs_below = step_pairs-below n f permutes.below in
    let cycles = cycles_of n f in
    record {
      below = permutes.below;
      back_below = permutes.back_below;
      back_f = permutes.back_f;
      f_back = permutes.f_back;
      named = IsNamed-cycles_of n f permutes.below;
      step = λ x x_below. sym
          (map_range-at (λ (pair : ℕ × ℕ). slice_index cycles pair.0 ≡ slice_index cycles pair.1) (step_pair f) 0 n x
          (classes-together n pairs pairs_below) (omega arith) (omega (arith, x_below)));
      finest = λ g keeps.
          classes-finest g n pairs
          (all-map_range (λ (pair : ℕ × ℕ). g pair.0 ≡ g pair.1) (step_pair f) 0 n (λ x x_below. keeps x (omega (arith, x_below))))
          pairs_below;
    }
