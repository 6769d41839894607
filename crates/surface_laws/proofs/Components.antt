-- Places, tests of places, and sums over what lies at places.
use Rattle.std.proofs.Common.{◌≡◌, ℕ, ◌<◌, ◌∙◌, List, [], ◌∷◌, refl, ap, ap₂, arith, Bool, true, false, ◌||◌}
use Rattle.std.specs.List.{list_any, AllByRecursion, Contains}
use Rattle.std.proofs.Math.Path.{fun_ext}
use Rattle.std.proofs.lemmas.List.Folds.{list_any_at, Any-from_list_any}
use Rattle.kh_types.specs.Classes.{AreBelow}
use Rattle.kh_types.proofs.JoinedClasses.{IsNamed-classes_of}
use Rattle.surface_laws.specs.Surfaces.{Surface, component_of}
pub use Rattle.kh_types.proofs.Lists.{AllByRecursion-weaker}
pub use Rattle.kh_types.proofs.Lists.{AllByRecursion-at}

pub list_any-contained : (p : ℕ → Bool) (xs : List ℕ) (x : ℕ) → Contains xs x → p x ≡ true → list_any p xs ≡ true
list_any-contained p xs x (k, below, is) passes = list_any_at p xs k x below (ap p is ∙ passes)

pub list_any-some : (p : ℕ → Bool) (xs : List ℕ) → list_any p xs ≡ true → (x : ℕ) × Contains xs x × (p x ≡ true)
list_any-some p xs any =
    let found = Any-from_list_any p xs any in
    (found.1, (found.0, found.2, found.3), found.4)

pub list_any-never : (p : ℕ → Bool) (xs : List ℕ) → ((x : ℕ) → p x ≡ false) → list_any p xs ≡ false
list_any-never p [] never = refl
list_any-never p (x ∷ xs) never = ap₂ (λ b d. b || d) (never x) (list_any-never p xs never)

pub list_any-alike : (p q : ℕ → Bool) (xs : List ℕ) → ((x : ℕ) → p x ≡ q x) → list_any p xs ≡ list_any q xs
list_any-alike p q xs alike = ap (λ (h : ℕ → Bool). list_any h xs) (fun_ext alike)

pub list_any-on : (p q : ℕ → Bool) (xs : List ℕ) → AllByRecursion (λ x. p x ≡ q x) xs → list_any p xs ≡ list_any q xs
list_any-on p q [] alike = refl
list_any-on p q (x ∷ xs) alike = ap₂ (λ b d. b || d) alike.0 (list_any-on p q xs alike.1)

-- a component is a number below the size
pub component-below : (surface : Surface) (place : ℕ) → AreBelow surface.size surface.joins → place < surface.size
    → component_of surface place < surface.size
component-below surface place below place_below =
    omega (arith, (IsNamed-classes_of surface.size surface.joins below).least place place_below, place_below)
