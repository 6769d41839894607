-- Worked complexes over five elements: three places at degree -2 and three at -1. The rows of the matrix are 1 0 y, 2 x 0 and
-- 0 1 4.
use Rattle.std.specs.Prelude.{ℕ, neg_ℤ, pos, List, [], ◌∷◌}
use Rattle.kh_types.specs.Generators.{Generator, generator_of}
use Rattle.sparse_block.specs.Entries.{Entry, entry_at}
use Rattle.sparse_block.specs.Complexes.{NamedComplex, sparse_complex}

-- the names, which stand for nothing here
abbrev pub square_names : List (List Generator)
square_names =
    (generator_of 0 0 ∷ generator_of 0 1 ∷ generator_of 0 2 ∷ []) ∷ (generator_of 1 0 ∷ generator_of 1 1 ∷ generator_of 1 2 ∷ []) ∷ []

-- the columns of both degrees
abbrev pub square_columns : ℕ → ℕ → List (List (List Entry))
square_columns x y =
    ((entry_at (0, 1) ∷ entry_at (1, 2) ∷ []) ∷ (entry_at (1, x) ∷ entry_at (2, 1) ∷ []) ∷ (entry_at (0, y) ∷ entry_at (2, 4) ∷ []) ∷ [])
    ∷ ([] ∷ [] ∷ [] ∷ []) ∷ []

-- the complex
abbrev pub square : ℕ → ℕ → NamedComplex
square x y = sparse_complex (neg_ℤ (pos 2)) square_names (square_columns x y)
