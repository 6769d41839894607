-- The reduced cube at a marked arc or loop: its generators, blocks, dimensions and table (Khovanov 2003, section 3).
use Rattle.std.specs.Prelude.{ℕ, ◌+◌, ◌-◌, ℤ, pos, ◌+ℤ◌, ◌-ℤ◌, List, length, map, nat_eq, nat_le, Bool, ◌&&◌}
use Rattle.std.specs.List.{filter, flat_map, list_any}
use Rattle.std.specs.Ordering.{int_eq}
use Rattle.kh_types.specs.declared.limits.TheConstants.{EXPONENT}
use Rattle.kh_types.specs.Code.{Code, arc_count}
use Rattle.kh_types.specs.Differential.{label_of}
use Rattle.kh_types.specs.Generators.{Generator, generators, quantum_degree}
use Rattle.kh_types.specs.Rank.{rank}
use Rattle.kh_types.specs.Table.{Row, Table, from_minus, is_shown}
use Rattle.sparse_block.specs.Complexes.{NamedComplex}
use Rattle.cube_signs.specs.Chosen.{chosen_at, chosen_block, coefficients}

-- whether a number is that of an arc or of a loop, which may be marked
abbrev pub is_mark : Code → ℕ → Bool
is_mark code mark = nat_le 1 mark && nat_le mark (arc_count code.crossings + code.loops)

-- v- is on the circle that the mark is on
abbrev pub is_reduced : Code → ℕ → Generator → Bool
is_reduced code mark generator = nat_eq (label_of code generator mark) 1

-- what is left of the generators at (i, j - 1) where v- is asked for on the marked circle; j is the reduced quantum degree (Khovanov
-- 2003, section 3; the shift by 1 is this project's)
abbrev pub reduced_generators : Code → ℕ → ℤ → ℤ → List Generator
reduced_generators code mark i j = chosen_at (is_reduced code mark) code i (j -ℤ pos 1)

-- the differential from degree i at j, with the coefficients of the cube
abbrev pub reduced_differential : ℕ → Code → ℕ → ℤ → ℤ → List (List ℕ)
reduced_differential p code mark i j =
    coefficients p code (reduced_generators code mark i j) (reduced_generators code mark (i +ℤ pos 1) j)

-- the reduced homology dimension at (i, j): the number of generators less the rank of the differential out of them and the rank of
-- the one into them
abbrev pub reduced_dimension : ℕ → Code → ℕ → ℤ → ℤ → ℕ
reduced_dimension p code mark i j =
    length (reduced_generators code mark i j) - rank p (reduced_differential p code mark i j)
    - rank p (reduced_differential p code mark (i -ℤ pos 1) j)

-- the block of the reduced cube at j, with all degrees from -n to n
abbrev pub reduced_block : ℕ → Code → ℕ → ℤ → NamedComplex
reduced_block p code mark j = chosen_block (is_reduced code mark) p code (j -ℤ pos 1)

-- the row of a reduced quantum degree and a homological degree
abbrev pub reduced_row : ℕ → Code → ℕ → ℤ → ℤ → Row
reduced_row p code mark j i = record { j = j; i = i; dim = reduced_dimension p code mark i j }

-- the rows that the table shows of one reduced quantum degree, ascending by i
abbrev pub reduced_rows : ℕ → Code → ℕ → ℤ → List Row
reduced_rows p code mark j = filter is_shown (map (reduced_row p code mark j) (from_minus (length code.crossings)))

-- the reduced homology table; in an accepted code within the limits there is no generator at a j of more than EXPONENT in size, which
-- is a law
abbrev pub reduced_table : ℕ → Code → ℕ → Table
reduced_table p code mark = record { field = p; rows = flat_map (reduced_rows p code mark) (from_minus EXPONENT) }

-- whether a reduced quantum degree has a generator
abbrev pub has_reduced : Code → ℕ → ℤ → Bool
has_reduced code mark j =
    list_any (λ generator. int_eq (quantum_degree code generator) (j -ℤ pos 1) && is_reduced code mark generator) (generators code)

-- the reduced quantum degrees that have a generator, ascending
unfoldable pub reduced_degrees : Code → ℕ → List ℤ
reduced_degrees code mark = filter (has_reduced code mark) (from_minus EXPONENT)
