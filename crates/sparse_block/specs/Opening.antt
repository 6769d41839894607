-- Complexes before any cancellation, with names for their places.
use Rattle.std.specs.Prelude.{◌≡◌, ℕ, ◌<◌, ◌^◌, ℤ, pos, ◌+ℤ◌, ◌≤ℤ◌, List, length, map, Option, None, All}
use Rattle.std.specs.List.{last_or}
use Rattle.kh_types.specs.Complex.{Complex, IsComplex, entry_of}
use Rattle.sparse_block.specs.Complexes.{NamedComplex, all_alive, place_count}
use Rattle.sparse_block.specs.Entries.{Entry, AreEntries, value_at}

-- a complex with names, before any cancellation: there is a degree, one more than the greatest is at most 32,767, a degree has fewer
-- places than an entry can name, it is a complex, and each place has a name and is alive
pub record IsOpening (p : ℕ) (named : NamedComplex) : Type 0 where
  pub some : 0 < length named.names
  pub end : (named.complex.low +ℤ pos (length named.names)) ≤ℤ pos 32767
  pub counts : All (λ degree. length degree < 2 ^ 29) named.names
  pub is_complex : IsComplex p named.complex
  pub alive : map (λ degree. degree.alive) named.complex.degrees ≡ all_alive named.names

-- entries are a column of the matrix out of degree i: they are at places of the next degree, and are the numbers of this column
pub record IsColumnOf (p : ℕ) (complex : Complex) (i : ℤ) (column : ℕ) (entries : List Entry) : Type 0 where
  pub are : AreEntries p (place_count complex (i +ℤ pos 1)) entries
  pub values : (row : ℕ) → value_at entries row ≡ entry_of complex i row column

-- the last entry of a column of the matrix out of degree i, which is that of the greatest row; none where it has no entry
pub record IsLastEntry (p : ℕ) (complex : Complex) (i : ℤ) (column : ℕ) (last : Option Entry) : Type 0 where
  pub entries : List Entry
  pub are : IsColumnOf p complex i column entries
  pub is : last ≡ last_or None entries
