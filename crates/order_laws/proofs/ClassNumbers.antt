-- Classes of numbers that have other names are as many.
use Rattle.std.proofs.Common.{List, ap, sym, ℕ, ◌<◌, ◌∙◌, ◌≡◌}
use Rattle.std.specs.Prelude.{slice_index}
use Rattle.kh_types.specs.Classes.{AreBelow, Respects, class_count, classes_of}
use Rattle.kh_types.proofs.ClassLemmas.{classes-finest, classes-together}
use Rattle.kh_types.proofs.CountedClasses.{class_count-alike}
use Rattle.kh_types.proofs.JoinedClasses.{IsNamed-classes_of}

-- numbers below n with other names, which are the same names back
pub record AreRenamed (n : ℕ) (f : ℕ → ℕ) : Type 0 where
  pub below : (x : ℕ) → x < n → f x < n
  pub twice : (x : ℕ) → f (f x) ≡ x

-- pairs of which the one respect what the others do under other names have as many classes
pub class_count-renamed : (n : ℕ) (f : ℕ → ℕ) (pairs others : List (ℕ × ℕ)) → AreRenamed n f → AreBelow n pairs → AreBelow n others
    → ((g : ℕ → ℕ) → Respects g others → Respects (λ x. g (f x)) pairs)
    → ((g : ℕ → ℕ) → Respects g pairs → Respects (λ x. g (f x)) others)
    → class_count (classes_of n pairs) ≡ class_count (classes_of n others)
class_count-renamed n f pairs others names below others_below onward back =
    let first = classes_of n pairs in
    let second = classes_of n others in
    class_count-alike n n f f first second (IsNamed-classes_of n pairs below) (IsNamed-classes_of n others others_below)
    (record {
      below = names.below;
      back_below = names.below;
      here = λ y inside. names.twice y;
      onward = λ x y x_below y_below same.
          classes-finest (λ z. slice_index second (f z)) n pairs
          (onward (λ z. slice_index second z) (classes-together n others others_below)) below x y x_below y_below same;
      backward = λ x y x_below y_below same.
          ap (slice_index first) (sym (names.twice x))
          ∙ classes-finest (λ z. slice_index first (f z)) n others
          (back (λ z. slice_index first z) (classes-together n pairs below)) others_below (f x) (f y) (names.below x x_below)
          (names.below y y_below) same
          ∙ ap (slice_index first) (names.twice y);
    })
