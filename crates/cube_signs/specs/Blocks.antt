-- The blocks of the cube: their quantum degrees, and the generators that their places stand for.
use Rattle.std.specs.Prelude.{ℕ, ℤ, List, map, Bool}
use Rattle.std.specs.List.{filter, list_any}
use Rattle.std.specs.Ordering.{int_eq}
use Rattle.kh_types.specs.declared.limits.TheConstants.{EXPONENT}
use Rattle.kh_types.specs.Code.{Code}
use Rattle.kh_types.specs.Generators.{generators, generators_at, quantum_degree}
use Rattle.kh_types.specs.History.{block, homological_degrees}
use Rattle.kh_types.specs.Table.{from_minus}
use Rattle.sparse_block.specs.Complexes.{NamedComplex}

-- whether a quantum degree has a generator
abbrev pub has_block : Code → ℤ → Bool
has_block code j = list_any (λ generator. int_eq (quantum_degree code generator) j) (generators code)

-- the quantum degrees that have a generator, ascending; in an accepted code within the limits they are at most EXPONENT in size,
-- which is a law
unfoldable pub block_degrees : Code → List ℤ
block_degrees code = filter (has_block code) (from_minus EXPONENT)

-- the block at j with the generators that its places stand for, in each degree by state, then by label
abbrev pub named_block : ℕ → Code → ℤ → NamedComplex
named_block p code j =
    record { complex = block p code j; names = map (λ i. generators_at code i j) (homological_degrees code j) }
