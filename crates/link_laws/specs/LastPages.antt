-- The last page of a code: up to which quantum degrees the classes of its deformed homology last, where h is 1; and s, which is read off
-- there (Rasmussen 2010; over any field Mackaay, Turner and Vaz 2007, and Lipshitz and Sarkar 2014). Classes are counted by dimension.
use Rattle.std.specs.Prelude.{ℕ, ◌+◌, ◌-◌, ◌*◌, ℤ, pos, ◌+ℤ◌, List, length, get_or, nat_lt}
use Rattle.std.specs.Int.{int_div_euclid}
use Rattle.std.specs.List.{filter}
use Rattle.kh_types.specs.Code.{Code}
use Rattle.kh_types.specs.Components.{component_count}
use Rattle.kh_types.specs.Directions.{minus_count, plus_count}
use Rattle.kh_types.specs.Table.{from_minus}
use Rattle.cell_laws.specs.Cells.{dimension_at}
use Rattle.cell_laws.specs.DeformedCubes.{deformed_cube_of}
use Rattle.cell_laws.specs.Filtered.{unfiltered}
use Rattle.link_laws.specs.CodeSurvivors.{code_survivors}

-- how many classes of degree i last up to the quantum degree j: those that survive from j on, less those from j + 1 on
abbrev pub lasting_of : ℕ → Code → ℤ → ℤ → ℕ
lasting_of p code i j = code_survivors p 1 code i j - code_survivors p 1 code i (j +ℤ pos 1)

-- how many classes of degree i the deformed homology has, whatever their quantum degrees
abbrev pub deformed_count : ℕ → Code → ℤ → ℕ
deformed_count p code i =
    dimension_at p (unfiltered (deformed_cube_of p 1 code (plus_count code.crossings) (minus_count code.crossings))) i (pos 0)

-- a size that no quantum degree of an accepted code passes
abbrev pub greatest_degree : Code → ℕ
greatest_degree code = 3 * length code.crossings + component_count code.crossings + code.loops

-- the quantum degrees up to which some class of degree 0 lasts, ascending
abbrev pub lasting_degrees : ℕ → Code → List ℤ
lasting_degrees p code = filter (λ j. nat_lt 0 (lasting_of p code (pos 0) j)) (from_minus (greatest_degree code))

-- the least quantum degree up to which a class of degree 0 lasts: all survive from there on, and not from any higher one; or 0 where there
-- is none
abbrev pub s_min : ℕ → Code → ℤ
s_min p code = get_or (lasting_degrees p code) 0 (pos 0)

-- the greatest quantum degree up to which a class of degree 0 lasts: some survive from there on, and none from any higher one; or 0 where
-- there is none
abbrev pub s_max : ℕ → Code → ℤ
s_max p code = get_or (lasting_degrees p code) (length (lasting_degrees p code) - 1) (pos 0)

-- half of the sum of s_min and s_max, rounded down: of a knot it is s
abbrev pub s : ℕ → Code → ℤ
s p code = int_div_euclid (s_min p code +ℤ s_max p code) (pos 2)
