-- The blocks over some of the generators: those with v- on the circle that is chosen in each state.
use Rattle.std.specs.Prelude.{◌≡◌, ℕ, ◌^◌, ◌<◌, ℤ, pos, ◌+ℤ◌, ◌-ℤ◌, List, length, map, take, nat_eq, Bool, true, false, slice_index}
use Rattle.std.specs.List.{filter}
use Rattle.kh_types.specs.Bits.{bit}
use Rattle.kh_types.specs.Code.{Code}
use Rattle.kh_types.specs.Complex.{Complex, Degree}
use Rattle.kh_types.specs.Differential.{coefficient}
use Rattle.kh_types.specs.Generators.{Generator, generators_at}
use Rattle.kh_types.specs.Table.{from_minus}
use Rattle.sparse_block.specs.Complexes.{NamedComplex}

-- the coefficients of the cube between some generators: a row for each head, with an entry for each tail
abbrev pub coefficients : ℕ → Code → List Generator → List Generator → List (List ℕ)
coefficients p code tails heads = map (λ head. map (λ tail. coefficient p code tail head) tails) heads

-- the degree of some generators, all alive, and the coefficients from those of this degree to those of the next
abbrev pub list_degree : ℕ → Code → (ℤ → List Generator) → ℤ → Degree
list_degree p code lists i =
    record { alive = map (λ generator. true) (lists i); matrix = coefficients p code (lists i) (lists (i +ℤ pos 1)) }

-- the complex of a list of generators for each degree from -n to n
abbrev pub list_complex : ℕ → Code → ℕ → (ℤ → List Generator) → Complex
list_complex p code n lists = record { low = pos 0 -ℤ pos n; degrees = map (list_degree p code lists) (from_minus n) }

-- the generators of the degrees i and j that are chosen, in the same order
abbrev pub chosen_at : (Generator → Bool) → Code → ℤ → ℤ → List Generator
chosen_at choice code i j = filter choice (generators_at code i j)

-- how many of the generators before a place are chosen: the place that one which is chosen has among these
abbrev pub chosen_before : (Generator → Bool) → List Generator → ℕ → ℕ
chosen_before choice generators place = length (filter choice (take place generators))

-- the block at the quantum degree j over the generators that are chosen, with all degrees from -n to n, and with these generators
-- as the names of places
abbrev pub chosen_block : (Generator → Bool) → ℕ → Code → ℤ → NamedComplex
chosen_block choice p code j =
    record {
      complex = list_complex p code (length code.crossings) (λ i. chosen_at choice code i j);
      names = map (λ i. chosen_at choice code i j) (from_minus (length code.crossings));
    }

-- whether a generator has v- on a circle, where the number of the circle is given for each state
abbrev pub has_minus : List ℕ → Generator → Bool
has_minus circles generator = nat_eq (bit generator.label (slice_index circles generator.state)) 1

-- from the chosen generators the differential leads to chosen ones alone
pub record IsClosed (choice : Generator → Bool) (p : ℕ) (code : Code) : Type 0 where
  pub each : (tail head : Generator) → tail.state < 2 ^ length code.crossings → head.state < 2 ^ length code.crossings
      → choice tail ≡ true → choice head ≡ false → coefficient p code tail head ≡ 0
