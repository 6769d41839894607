-- Small surfaces.
use Rattle.std.specs.Prelude.{ℕ, ◌-◌, ◌*◌, List, [], ◌∷◌, replicate, if◌then◌else◌}
use Rattle.std.specs.Str.{bytes_eq}
use Rattle.kh_types.specs.Differential.{is_merge, is_split}
use Rattle.surface_laws.specs.Surfaces.{Surface}
use Rattle.surface_laws.specs.Cuts.{glued}

-- the mark of a disc behind a circle with a label: a hollow dot at v+, none at v-
abbrev pub behind : ℕ → ℕ
behind label = 2 * (1 - label)

-- one component with some faces at place 0, and no strips
abbrev pub patched : List (ℕ × ℕ) → Surface
patched faces = record { size = 1; places = 0 ∷ []; joins = []; faces = faces; lowers = []; raises = [] }

-- a sphere of two discs, with their marks; a cylinder's two ends are such discs
abbrev pub sphere : ℕ → ℕ → Surface
sphere first second = patched ((0, first) ∷ (0, second) ∷ [])

-- the sphere without its discs, glued to itself along the circle at place 0
abbrev pub torus : Surface
torus = glued (patched []) ((0, 0) ∷ [])

-- the sphere without its discs, and with two strips more: a surface of genus 2
abbrev pub double_torus : Surface
double_torus = record { size = 1; places = 0 ∷ []; joins = []; faces = []; lowers = 0 ∷ 0 ∷ 0 ∷ 0 ∷ []; raises = [] }

-- the sphere of two discs, with some half strips that lower the Euler count, and some that raise it
abbrev pub stripped : ℕ → ℕ → Surface
stripped lower raise = record {
  size = 1;
  places = 0 ∷ [];
  joins = [];
  faces = (0, 0) ∷ (0, 0) ∷ [];
  lowers = replicate lower 0;
  raises = replicate raise 0;
}

-- the pair of pants between three circles, which has discs on them: two discs with a strip between them, and a third
abbrev pub pants : ℕ → ℕ → ℕ → Surface
pants first second third = record {
  size = 3;
  places = 0 ∷ 1 ∷ 2 ∷ [];
  joins = (0, 1) ∷ (1, 2) ∷ [];
  faces = (0, first) ∷ (1, second) ∷ (2, third) ∷ [];
  lowers = 0 ∷ 1 ∷ [];
  raises = [];
}

-- the merge table with a row more: v- and v- merge to h times v-
abbrev pub merged_number : ℕ → ℕ → ℕ → ℕ → ℕ
merged_number h x y z =
    if is_merge (x ∷ y ∷ []) (z ∷ []) then 1 else (if bytes_eq (x ∷ y ∷ z ∷ []) (1 ∷ 1 ∷ 1 ∷ []) then h else 0)

-- and the split table: v+ splits to k times v+ and v+ too
abbrev pub split_number : ℕ → ℕ → ℕ → ℕ → ℕ
split_number k x y z =
    if is_split (x ∷ []) (y ∷ z ∷ []) then 1 else (if bytes_eq (x ∷ y ∷ z ∷ []) (0 ∷ 0 ∷ 0 ∷ []) then k else 0)
