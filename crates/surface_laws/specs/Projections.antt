-- Surfaces with the same components under other names, and with the same lists in another order.
use Rattle.std.specs.Prelude.{◌≡◌, ℕ, map}
use Rattle.std.specs.List.{Contains}
use Rattle.std.specs.List.Sorted.{IsPermutation}
use Rattle.kh_types.specs.Classes.{Respects}
use Rattle.surface_laws.specs.Surfaces.{Surface, component_of, HaveOneCount}

-- each place of the old surface has a place of the new one, and each component of the new one is met: places lie on one component
-- exactly where theirs do
pub record KeepsComponents (f : ℕ → ℕ) (old new : Surface) : Type 0 where
  pub places : (x : ℕ) → Contains old.places x → Contains new.places (f x)
  pub onto : (y : ℕ) → Contains new.places y
      → (x : ℕ) × Contains old.places x × (component_of new (f x) ≡ component_of new y)
  pub together : (x y : ℕ) → Contains old.places x → Contains old.places y → component_of old x ≡ component_of old y
      → component_of new (f x) ≡ component_of new (f y)
  pub apart : (x y : ℕ) → Contains old.places x → Contains old.places y → component_of new (f x) ≡ component_of new (f y)
      → component_of old x ≡ component_of old y

-- so it is where places have places in both directions, what the joins of either surface join is together in the other, and there
-- and back leads to the same component
pub record LeadsBack (f back : ℕ → ℕ) (old new : Surface) : Type 0 where
  pub places : (x : ℕ) → Contains old.places x → Contains new.places (f x)
  pub back_places : (y : ℕ) → Contains new.places y → Contains old.places (back y)
  pub joins : Respects (λ x. component_of new (f x)) old.joins
  pub back_joins : Respects (λ y. component_of old (back y)) new.joins
  pub back_f : (x : ℕ) → Contains old.places x → component_of old (back (f x)) ≡ component_of old x
  pub f_back : (y : ℕ) → Contains new.places y → component_of new (f (back y)) ≡ component_of new y

-- the components of a place and of its place have the same counts
pub record Corresponds (f : ℕ → ℕ) (old new : Surface) : Type 0 where
  pub components : KeepsComponents f old new
  pub counts : (x : ℕ) → Contains old.places x → HaveOneCount old (component_of old x) new (component_of new (f x))

-- the component at which a surface has a face's place under another name, and the face's marks
abbrev pub face_at : Surface → (ℕ → ℕ) → ℕ × ℕ → ℕ × ℕ
face_at surface f face = (component_of surface (f face.0), face.1)

-- so it is where faces and strips lie on the components of theirs, in any order
pub record LieAlike (f : ℕ → ℕ) (old new : Surface) : Type 0 where
  pub faces : IsPermutation (map (face_at new f) old.faces) (map (face_at new (λ x. x)) new.faces)
  pub lowers : IsPermutation (map (λ x. component_of new (f x)) old.lowers) (map (component_of new) new.lowers)
  pub raises : IsPermutation (map (λ x. component_of new (f x)) old.raises) (map (component_of new) new.raises)

-- and so they lie where they are at the places of theirs, in any order
pub record Projects (f : ℕ → ℕ) (old new : Surface) : Type 0 where
  pub components : KeepsComponents f old new
  pub faces : IsPermutation (map (λ face. (f face.0, face.1)) old.faces) new.faces
  pub lowers : IsPermutation (map f old.lowers) new.lowers
  pub raises : IsPermutation (map f old.raises) new.raises

-- the same places and joins, and the same faces and strips in any order
pub record IsRelisted (old new : Surface) : Type 0 where
  pub size : new.size ≡ old.size
  pub places : new.places ≡ old.places
  pub joins : new.joins ≡ old.joins
  pub faces : IsPermutation old.faces new.faces
  pub lowers : IsPermutation old.lowers new.lowers
  pub raises : IsPermutation old.raises new.raises
