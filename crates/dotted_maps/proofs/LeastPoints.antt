-- The classes of some points under joins among them: each point has a least point, which is one of them.
use Rattle.std.proofs.Common.{◌≡◌, ℕ, suc, ◌<◌, ◌∙◌, List, [], ◌∷◌, ◌++◌, sym, ap, arith, Bool, true, false, cond, refl, eq-eqb}
use Rattle.std.specs.Prelude.{nat_eq, slice_index}
use Rattle.std.specs.List.{list_any, filter, AllByRecursion, Contains}
use Rattle.std.proofs.lemmas.Bool.{eqb-true}
use Rattle.kh_types.specs.Classes.{classes_of, is_least, Respects, AreBelow}
use Rattle.kh_types.proofs.JoinedClasses.{IsNamed-classes_of, classes_of-same}
use Rattle.kh_types.proofs.ClassLemmas.{classes-finest}
use Rattle.kh_types.proofs.Lists.{AllByRecursion-append, AllByRecursion-first, AllByRecursion-second, Contains-filter}
use Rattle.surface_laws.proofs.Components.{AllByRecursion-at, AllByRecursion-weaker, list_any-contained, list_any-some}
use Rattle.surface_laws.specs.Points.{AreAmong, least_points}

pub AreBelow-among : (size : ℕ) (points : List ℕ) (joins : List (ℕ × ℕ)) → AllByRecursion (λ x. x < size) points
    → AreAmong points joins → AreBelow size joins
AreBelow-among size points joins below among =
    AllByRecursion-weaker (λ pair. Contains points pair.0 × Contains points pair.1) (λ pair. (pair.0 < size) × (pair.1 < size)) joins
    (λ pair has. (
      AllByRecursion-at (λ x. x < size) points pair.0 below has.0,
      AllByRecursion-at (λ x. x < size) points pair.1 below has.1,
    )) among

pub AreAmong-append : (points : List ℕ) (xs ys : List (ℕ × ℕ)) → AreAmong points xs → AreAmong points ys → AreAmong points (xs ++ ys)
AreAmong-append points xs ys among others =
    AllByRecursion-append (λ pair. Contains points pair.0 × Contains points pair.1) xs ys among others

pub AreAmong-wider : (points more : List ℕ) (joins : List (ℕ × ℕ)) → ((x : ℕ) → Contains points x → Contains more x)
    → AreAmong points joins → AreAmong more joins
AreAmong-wider points more joins wider among =
    AllByRecursion-weaker (λ pair. Contains points pair.0 × Contains points pair.1) (λ pair. Contains more pair.0 × Contains more pair.1)
    joins (λ pair has. (wider pair.0 has.0, wider pair.1 has.1)) among

-- whether a number is one of the points
abbrev is_there : List ℕ → ℕ → Bool
is_there points x = list_any (λ y. nat_eq y x) points

abbrev there : List ℕ → ℕ → ℕ
there points x = cond (is_there points x) 1 0

is_there-contained : (points : List ℕ) (x : ℕ) → Contains points x → is_there points x ≡ true
is_there-contained points x has = list_any-contained (λ y. nat_eq y x) points x has (eq-eqb x x refl)

contained-there : (points : List ℕ) (x : ℕ) → is_there points x ≡ true → Contains points x
contained-there points x is =
    let found = list_any-some (λ y. nat_eq y x) points is in
    contained-as points found.0 x (eqb-true found.0 x found.2) found.1
  where
    contained-as : (points : List ℕ) (y x : ℕ) → y ≡ x → Contains points y → Contains points x
    contained-as points y x same has = rw (sym same) has

there-one : (b : Bool) (one : ℕ) → one ≡ 1 → cond b 1 0 ≡ one → b ≡ true
there-one true one is_one is = refl
there-one false one is_one is = absurd (omega (arith, is, is_one))

there-contained : (points : List ℕ) (x : ℕ) → Contains points x → there points x ≡ 1
there-contained points x has = ap (λ b. cond b 1 0) (is_there-contained points x has)

there-respects : (points : List ℕ) (joins : List (ℕ × ℕ)) → AreAmong points joins → Respects (there points) joins
there-respects points joins among =
    AllByRecursion-weaker (λ pair. Contains points pair.0 × Contains points pair.1) (λ pair. there points pair.0 ≡ there points pair.1)
    joins (λ pair has. there-contained points pair.0 has.0 ∙ sym (there-contained points pair.1 has.1)) among

-- points below the size, and joins among them
pub record AreJoins (size : ℕ) (points : List ℕ) (joins : List (ℕ × ℕ)) : Type 0 where
  pub below : AllByRecursion (λ x. x < size) points
  pub among : AreAmong points joins

pub point-below : (size : ℕ) (points : List ℕ) (joins : List (ℕ × ℕ)) (x : ℕ) → AreJoins size points joins → Contains points x → x < size
point-below size points joins x joined has = AllByRecursion-at (λ y. y < size) points x joined.below has

pub joins-below : (size : ℕ) (points : List ℕ) (joins : List (ℕ × ℕ)) → AreJoins size points joins → AreBelow size joins
joins-below size points joins joined = AreBelow-among size points joins joined.below joined.among

pub class-below : (size : ℕ) (points : List ℕ) (joins : List (ℕ × ℕ)) (x : ℕ) → AreJoins size points joins → Contains points x
    → slice_index (classes_of size joins) x < size
class-below size points joins x joined has =
    let x_below = point-below size points joins x joined has in
    omega (arith, (IsNamed-classes_of size joins (joins-below size points joins joined)).least x x_below, x_below)

pub class-own : (size : ℕ) (points : List ℕ) (joins : List (ℕ × ℕ)) (x : ℕ) → AreJoins size points joins → Contains points x
    → slice_index (classes_of size joins) (slice_index (classes_of size joins) x) ≡ slice_index (classes_of size joins) x
class-own size points joins x joined has =
    (IsNamed-classes_of size joins (joins-below size points joins joined)).own x (point-below size points joins x joined has)

-- the least point of a class is one of the points
pub class-there : (size : ℕ) (points : List ℕ) (joins : List (ℕ × ℕ)) (x : ℕ) → AreJoins size points joins → Contains points x
    → Contains points (slice_index (classes_of size joins) x)
class-there size points joins x joined has =
    let c = slice_index (classes_of size joins) x in
    contained-there points c
    (there-one (is_there points c) (there points x) (there-contained points x has)
    (classes-finest (there points) size joins (there-respects points joins joined.among) (joins-below size points joins joined) c x
    (class-below size points joins x joined has) (point-below size points joins x joined has) (class-own size points joins x joined has)))

pub class-named : (size : ℕ) (points : List ℕ) (joins : List (ℕ × ℕ)) (x : ℕ) → AreJoins size points joins → Contains points x
    → Contains (least_points size points joins) (slice_index (classes_of size joins) x)
class-named size points joins x joined has =
    let c = slice_index (classes_of size joins) x in
    Contains-filter (is_least (classes_of size joins)) points c (eq-eqb (slice_index (classes_of size joins) c) c (class-own size points joins x joined has))
    (class-there size points joins x joined has)

-- a function with one value at joined points has one value at a point and its least point
pub class-respected : (f : ℕ → ℕ) (size : ℕ) (points : List ℕ) (joins : List (ℕ × ℕ)) (x : ℕ) → AreJoins size points joins
    → Contains points x → Respects f joins → f x ≡ f (slice_index (classes_of size joins) x)
class-respected f size points joins x joined has respects =
    let c = slice_index (classes_of size joins) x in
    classes-finest f size joins respects (joins-below size points joins joined) x c (point-below size points joins x joined has)
    (class-below size points joins x joined has) (sym (class-own size points joins x joined has))

-- the least points are some of the points
pub AllByRecursion-filter : {X : Type 0} (P : X → Type 0) (p : X → Bool) (xs : List X) → AllByRecursion P xs → AllByRecursion P (filter p xs)
AllByRecursion-filter P p [] all = tt
AllByRecursion-filter {X} P p (x ∷ xs) all =
    let later = AllByRecursion-filter P p xs all.1 in
    elim (p x) as (λ b. AllByRecursion P (cond b (x ∷ filter p xs) (filter p xs))) [ true ↦ (all.0, later) | false ↦ later ]

all-contained : (xs : List ℕ) (points : List ℕ) → ((x : ℕ) → Contains xs x → Contains points x) → AllByRecursion (λ x. Contains points x) xs
all-contained [] points within = tt
all-contained (x ∷ xs) points within =
    (within x (0, omega arith, refl), all-contained xs points (λ y has. within y (later y has)))
  where
    later : (y : ℕ) → Contains xs y → Contains (x ∷ xs) y
    later y (k, below, is) = (suc k, omega arith, is)

pub all-themselves : (points : List ℕ) → AllByRecursion (λ x. Contains points x) points
all-themselves points = all-contained points points (λ x has. has)

pub least-contained : (size : ℕ) (points : List ℕ) (joins : List (ℕ × ℕ))
    → AllByRecursion (λ x. Contains points x) (least_points size points joins)
least-contained size points joins =
    AllByRecursion-filter (λ x. Contains points x) (is_least (classes_of size joins)) points (all-themselves points)

-- the order of two lists of joins does not matter
turned : (f : ℕ → ℕ) (xs ys : List (ℕ × ℕ)) → Respects f (xs ++ ys) → Respects f (ys ++ xs)
turned f xs ys respects =
    let Meets : ℕ × ℕ → Type 0 = λ pair. f pair.0 ≡ f pair.1 in
    AllByRecursion-append Meets ys xs (AllByRecursion-second Meets xs ys respects) (AllByRecursion-first Meets xs ys respects)

pub least_points-turned : (size : ℕ) (points : List ℕ) (xs ys : List (ℕ × ℕ)) → AreJoins size points (xs ++ ys)
    → AreJoins size points (ys ++ xs) → least_points size points (xs ++ ys) ≡ least_points size points (ys ++ xs)
least_points-turned size points xs ys joined others =
    ap (λ classes. filter (is_least classes) points)
    (classes_of-same size (xs ++ ys) (ys ++ xs) (joins-below size points (xs ++ ys) joined) (joins-below size points (ys ++ xs) others)
    (λ f respects. turned f xs ys respects) (λ f respects. turned f ys xs respects))
