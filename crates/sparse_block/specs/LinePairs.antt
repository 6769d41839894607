-- Two lists of entries that ascend: read from the front, and a line less a multiple of another.
use Rattle.std.specs.Prelude.{ℕ, ◌*◌, List, [], ◌∷◌, map, nat_eq, min, if◌then◌else◌}
use Rattle.std.specs.List.{range_with_len}
use Rattle.kh_types.specs.Rank.{minus_mod}
use Rattle.prime_field.specs.Residues.{inverse_mod, product_mod}
use Rattle.sparse_block.specs.Entries.{Entry, value_at}

-- the first place that one of two lists has, 0 where both are empty
abbrev pub first_place_of : List Entry → List Entry → ℕ
first_place_of [] [] = 0
first_place_of [] (y ∷ ys) = y.place
first_place_of (x ∷ xs) [] = x.place
first_place_of (x ∷ xs) (y ∷ ys) = min x.place y.place

-- the value at a place that no entry comes before
abbrev pub value_first : List Entry → ℕ → ℕ
value_first [] place = 0
value_first (x ∷ xs) place = if nat_eq x.place place then x.value else 0

-- the entries behind that place
abbrev pub rest_after : List Entry → ℕ → List Entry
rest_after [] place = []
rest_after (x ∷ xs) place = if nat_eq x.place place then xs else x ∷ xs

-- the line of this size that some entries denote, less a multiple of that which others denote, modulo p
abbrev pub line_less : ℕ → ℕ → List Entry → ℕ → List Entry → List ℕ
line_less p size entries factor others =
    map (λ place. minus_mod p (value_at entries place) (factor * value_at others place)) (range_with_len 0 size)

-- the number at a place, divided by the pivot, which the pivot's line has there
abbrev pub factor_at : ℕ → List Entry → List Entry → ℕ → ℕ
factor_at p pivot_line entries across =
    product_mod p (value_at entries across) (inverse_mod p (value_at pivot_line across))
