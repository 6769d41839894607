-- Pairs under the names of classes have as many classes as the pairs with what joins these classes, but for the numbers without a class.
use Rattle.std.proofs.Common.{◌≡◌, ℕ, ◌+◌, ◌<◌, ◌∙◌, List, [], ◌++◌, sym, ap, arith}
use Rattle.std.specs.Prelude.{slice_index}
use Rattle.std.specs.List.{range_with_len}
use Rattle.kh_types.specs.Classes.{classes_of, class_count, AreBelow}
use Rattle.kh_types.proofs.JoinedClasses.{IsNamed-classes_of, slice_index-range}
use Rattle.gluing_laws.specs.Glue.{renamed, Places, JoinAlike}
use Rattle.gluing_laws.proofs.Glued.{class_count-glued_parts}
use Rattle.gluing_laws.proofs.Renamed.{class_count-range, renamed-same}

pub class_count-contracted : (n : ℕ) (straight pairs : List (ℕ × ℕ)) → AreBelow n straight → AreBelow n pairs
    → class_count (classes_of n (renamed (slice_index (classes_of n straight)) pairs)) + class_count (classes_of n straight)
    ≡ class_count (classes_of n (straight ++ pairs)) + n
class_count-contracted n straight pairs straight_below pairs_below =
    let names = classes_of n straight in
    let named = IsNamed-classes_of n straight straight_below in
    let places : Places (slice_index (classes_of n straight)) n n = λ x below. omega (arith, below, named.least x below) in
    let at : (x : ℕ) → x < n → slice_index (range_with_len 0 n) (slice_index (classes_of n straight) x) ≡ slice_index (classes_of n straight) x =
    λ x below. slice_index-range n (slice_index (classes_of n straight) x) (places x below) in
    let alike : JoinAlike n (λ x. x) (slice_index (classes_of n straight)) (classes_of n straight) (classes_of n []) = record {
      onward = λ x y x_below y_below same. at x x_below ∙ same ∙ sym (at y y_below);
      back = λ x y x_below y_below same. sym (at x x_below) ∙ same ∙ at y y_below;
    } in
    let glued = class_count-glued_parts n n n (λ x. x) (slice_index (classes_of n straight)) pairs straight [] pairs_below straight_below tt
    (λ x below. below) places alike in
    let same = ap (λ ps. class_count (classes_of n (straight ++ ps))) (renamed-same pairs) in
    omega (arith, glued, same, class_count-range n)
