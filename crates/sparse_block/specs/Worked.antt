-- A worked complex with six places at degree -1, three at 0, one at 1 and none at 2. Its matrices were multiplied by hand: the
-- rows of the first are 1 0 1 1 0 1, 1 1 1 1 1 1 and 0 2 0 0 2 0, and the second has one row x y z. The product is 0 where
-- x + y and y + 2z are 0: over three elements with the row 2 1 1, and over five with 2 3 1.
use Rattle.std.specs.Prelude.{ℕ, neg_ℤ, pos, List, [], ◌∷◌}
use Rattle.kh_types.specs.Complex.{pivot_at}
use Rattle.kh_types.specs.Generators.{Generator, generator_of}
use Rattle.sparse_block.specs.Entries.{Entry, entry_at}
use Rattle.sparse_block.specs.Changes.{Exchange, placed}
use Rattle.sparse_block.specs.Complexes.{NamedComplex, sparse_complex}

-- the names, which stand for nothing here
abbrev pub worked_names : List (List Generator)
worked_names =
    (generator_of 0 0 ∷ generator_of 0 1 ∷ generator_of 0 2 ∷ generator_of 0 3 ∷ generator_of 0 4 ∷ generator_of 0 5 ∷ [])
    ∷ (generator_of 1 0 ∷ generator_of 1 1 ∷ generator_of 1 2 ∷ []) ∷ (generator_of 3 0 ∷ []) ∷ [] ∷ []

-- the columns of the first matrix
abbrev pub worked_first : List (List Entry)
worked_first =
    let left = entry_at (0, 1) ∷ entry_at (1, 1) ∷ [] in
    let right = entry_at (1, 1) ∷ entry_at (2, 2) ∷ [] in
    left ∷ right ∷ left ∷ left ∷ right ∷ left ∷ []

-- the columns of all four degrees
abbrev pub worked_columns : ℕ → ℕ → ℕ → List (List (List Entry))
worked_columns x y z =
    worked_first ∷ ((entry_at (0, x) ∷ []) ∷ (entry_at (0, y) ∷ []) ∷ (entry_at (0, z) ∷ []) ∷ []) ∷ ([] ∷ []) ∷ [] ∷ []

-- the complex
abbrev pub worked_complex : ℕ → ℕ → ℕ → NamedComplex
worked_complex x y z = sparse_complex (neg_ℤ (pos 1)) worked_names (worked_columns x y z)

-- the cancellation of the entry 2 of the first matrix, at column 1 and row 2, over five elements: 3 is the inverse of 2, so row 1
-- loses 1 * 3 times row 2, and its 1 at column 4 becomes 1 - 1 * 3 * 2, which is 0
abbrev pub worked_change : Exchange
worked_change =
    record {
      pivot = pivot_at (neg_ℤ (pos 1)) 1 2;
      columns = placed 1 [] ∷ placed 4 [] ∷ [];
      rows = placed 1 (entry_at (0, 1) ∷ entry_at (2, 1) ∷ entry_at (3, 1) ∷ entry_at (5, 1) ∷ []) ∷ placed 2 [] ∷ [];
    }

-- a complex over five elements with one place at degree -1, two at 0, two at 1 and one at 2. The columns are 1 1; 2 2 and 3 3;
-- 1 and 4. The products are 0, since 2 + 3 and 1 + 4 are
abbrev pub middle_names : List (List Generator)
middle_names =
    (generator_of 0 0 ∷ []) ∷ (generator_of 1 0 ∷ generator_of 1 1 ∷ []) ∷ (generator_of 3 0 ∷ generator_of 3 1 ∷ [])
    ∷ (generator_of 7 0 ∷ []) ∷ []

abbrev pub middle_columns : List (List (List Entry))
middle_columns =
    ((entry_at (0, 1) ∷ entry_at (1, 1) ∷ []) ∷ [])
    ∷ ((entry_at (0, 2) ∷ entry_at (1, 2) ∷ []) ∷ (entry_at (0, 3) ∷ entry_at (1, 3) ∷ []) ∷ [])
    ∷ ((entry_at (0, 1) ∷ []) ∷ (entry_at (0, 4) ∷ []) ∷ []) ∷ ([] ∷ []) ∷ []

abbrev pub middle_complex : NamedComplex
middle_complex = sparse_complex (neg_ℤ (pos 1)) middle_names middle_columns

-- the cancellation of its entry 2 at column 0 and row 0 of degree 0, which leaves 3 - 2 * 3 * 3 of the rest: 0
abbrev pub middle_change : Exchange
middle_change =
    record { pivot = pivot_at (pos 0) 0 0; columns = placed 0 [] ∷ placed 1 [] ∷ []; rows = placed 0 [] ∷ placed 1 [] ∷ [] }
