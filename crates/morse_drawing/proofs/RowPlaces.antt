-- Where the next step of a drawing is made: two neighbours in the row, or a crossing that is not drawn.
use Rattle.std.specs.Prelude.{◌≡◌, ◌≢◌, ℕ, ◌*◌, ◌/◌, ◌<◌, List, ◌∷◌, ◌++◌}
use Rattle.std.specs.List.{AllByRecursion}

-- two neighbours in the row are partners in the whole
pub record HasNeighbours (whole : ℕ → ℕ) (row : List ℕ) : Type 0 where
  pub front : List ℕ
  pub dart : ℕ
  pub other : ℕ
  pub back : List ℕ
  pub is_row : row ≡ front ++ dart ∷ other ∷ back
  pub are_partners : whole dart ≡ other

-- the darts of a crossing have no arcs, and none of them is in the row; one of them is given
pub record IsBare (n : ℕ) (partner : ℕ → ℕ) (row : List ℕ) (dart : ℕ) : Type 0 where
  pub below : dart < 4 * n
  pub alone : (x : ℕ) → x / 4 ≡ dart / 4 → partner x ≡ x
  pub beside : AllByRecursion (λ z. z / 4 ≢ dart / 4) row
