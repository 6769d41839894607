-- Classes of joins among given points.
use Rattle.std.proofs.Common.{◌≡◌, ℕ, ◌+◌, ◌<◌, ◌≤◌, ◌∙◌, List, ◌++◌, refl, sym, ap₂, arith, Bool, true, false, ◌&&◌}
use Rattle.std.specs.Prelude.{nat_lt, slice_index}
use Rattle.std.specs.List.{Contains}
use Rattle.std.proofs.lemmas.Bool.{and_parts}
use Rattle.std.proofs.lemmas.Bool.Decides.{nat_tests}
use Rattle.kh_types.specs.Bits.{one_if}
use Rattle.kh_types.specs.Classes.{classes_of, Respects, AreBelow}
use Rattle.kh_types.proofs.ClassLemmas.{classes-finest}
use Rattle.kh_types.proofs.JoinedClasses.{IsNamed-classes_of}
use Rattle.kh_types.proofs.Lists.{AllByRecursion-append, AllByRecursion-weaker, AllByRecursion-both}
use Rattle.surface_laws.specs.Points.{AreAmong}
use Rattle.added_crossing_laws.specs.Steps.{those}
use Rattle.added_crossing_laws.proofs.Members.{IsOneOf, those-are}
pub use Rattle.kh_types.proofs.ClassLemmas.{Respects-second}

-- the class of a number
abbrev pub class_in : ℕ → List (ℕ × ℕ) → ℕ → ℕ
class_in n joins x = slice_index (classes_of n joins) x

-- joins among other points
pub AreAmong-wider : (points others : List ℕ) (joins : List (ℕ × ℕ)) → ((x : ℕ) → Contains points x → Contains others x)
    → AreAmong points joins → AreAmong others joins
AreAmong-wider points others joins wider among =
    AllByRecursion-weaker (λ pair. Contains points pair.0 × Contains points pair.1)
    (λ pair. Contains others pair.0 × Contains others pair.1) joins (λ pair has. (wider pair.0 has.0, wider pair.1 has.1)) among

pub AreAmong-append : (points : List ℕ) (joins others : List (ℕ × ℕ)) → AreAmong points joins → AreAmong points others
    → AreAmong points (joins ++ others)
AreAmong-append points = AllByRecursion-append (λ pair. Contains points pair.0 × Contains points pair.1)

pub AreAmong-below : (count : ℕ) (test : ℕ → Bool) (joins : List (ℕ × ℕ)) → AreAmong (those count test) joins
    → AreBelow (count + 1) joins
AreAmong-below count test joins among =
    AllByRecursion-weaker (λ pair. Contains (those count test) pair.0 × Contains (those count test) pair.1)
    (λ pair. (pair.0 < count + 1) × (pair.1 < count + 1)) joins
    (λ pair has. (
      omega (arith, (those-are count test pair.0 has.0).below),
      omega (arith, (those-are count test pair.1 has.1).below),
    ))
    among

-- joins that two functions meet alike
pub Respects-alike : (f g : ℕ → ℕ) (points : List ℕ) (joins : List (ℕ × ℕ)) → ((x : ℕ) → Contains points x → g x ≡ f x)
    → AreAmong points joins → Respects f joins → Respects g joins
Respects-alike f g points joins alike =
    AllByRecursion-both (λ pair. Contains points pair.0 × Contains points pair.1) (λ pair. f pair.0 ≡ f pair.1) (λ pair. g pair.0 ≡ g pair.1)
    joins (λ pair has same. alike pair.0 has.0 ∙ same ∙ sym (alike pair.1 has.1))

-- the class of a point is one of the points
abbrev mark : (ℕ → Bool) → ℕ → ℕ
mark test x = one_if (test x && nat_lt 0 x)

pub positive-true : (x : ℕ) → 1 ≤ x → nat_lt 0 x ≡ true
positive-true x above = grind (arith, nat_tests)

mark-one : (test : ℕ → Bool) (x : ℕ) → test x ≡ true → 1 ≤ x → mark test x ≡ 1
mark-one test x passes above = ap₂ (λ b d. one_if (b && d)) passes (positive-true x above)

one-true : (b : Bool) → one_if b ≡ 1 → b ≡ true
one-true true is = refl
one-true false is = absurd (omega (arith, is))

pub positive-lt : (x : ℕ) → nat_lt 0 x ≡ true → 1 ≤ x
positive-lt x is = grind (arith, nat_tests)

mark-respects : (count : ℕ) (test : ℕ → Bool) (joins : List (ℕ × ℕ)) → AreAmong (those count test) joins
    → Respects (mark test) joins
mark-respects count test joins among =
    AllByRecursion-weaker (λ pair. Contains (those count test) pair.0 × Contains (those count test) pair.1)
    (λ pair. mark test pair.0 ≡ mark test pair.1) joins
    (λ pair has.
    let first = those-are count test pair.0 has.0 in
    let second = those-are count test pair.1 has.1 in
    mark-one test pair.0 first.passes first.above ∙ sym (mark-one test pair.1 second.passes second.above))
    among

pub class-below : (n : ℕ) (joins : List (ℕ × ℕ)) (x : ℕ) → AreBelow n joins → x < n → class_in n joins x < n
class-below n joins x below x_below = omega (arith, (IsNamed-classes_of n joins below).least x x_below, x_below)

pub class-own : (n : ℕ) (joins : List (ℕ × ℕ)) (x : ℕ) → AreBelow n joins → x < n
    → class_in n joins (class_in n joins x) ≡ class_in n joins x
class-own n joins x below x_below = (IsNamed-classes_of n joins below).own x x_below

pub class-is : (count : ℕ) (test : ℕ → Bool) (joins : List (ℕ × ℕ)) (x : ℕ) → AreAmong (those count test) joins
    → IsOneOf count test x → IsOneOf count test (class_in (count + 1) joins x)
class-is count test joins x among is =
    let n = count + 1 in
    let below = AreAmong-below count test joins among in
    let x_below : x < n = omega (arith, is.below) in
    let class = class_in n joins x in
    let within : class < n = class-below n joins x below x_below in
    let marked : mark test class ≡ 1 =
    classes-finest (mark test) n joins (mark-respects count test joins among) below class x within x_below
    (class-own n joins x below x_below)
    ∙ mark-one test x is.passes is.above in
    let parts = and_parts (test class) (nat_lt 0 class) (one-true (test class && nat_lt 0 class) marked) in
    record { above = positive-lt class parts.1; below = omega (arith, within); passes = parts.0 }

-- a number in the class of a point is a point
pub together-is : (count : ℕ) (test : ℕ → Bool) (joins : List (ℕ × ℕ)) (x y : ℕ) → AreAmong (those count test) joins
    → IsOneOf count test x → y < count + 1 → class_in (count + 1) joins y ≡ class_in (count + 1) joins x → IsOneOf count test y
together-is count test joins x y among is y_below same =
    let n = count + 1 in
    let marked : mark test y ≡ 1 =
    classes-finest (mark test) n joins (mark-respects count test joins among) (AreAmong-below count test joins among) y x y_below
    (omega (arith, is.below)) same
    ∙ mark-one test x is.passes is.above in
    let parts = and_parts (test y) (nat_lt 0 y) (one-true (test y && nat_lt 0 y) marked) in
    record { above = positive-lt y parts.1; below = omega (arith, y_below); passes = parts.0 }
