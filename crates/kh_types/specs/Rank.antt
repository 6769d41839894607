-- The plain rank of a matrix modulo a prime p; a matrix is the list of its rows, with entries below p.
use Rattle.std.specs.Prelude.{ℕ, zero, suc, ◌+◌, ◌-◌, ◌*◌, ◌%◌, ◌^◌, List, [], length, map, nat_eq, Bool, not, slice_index, slice_index_or}
use Rattle.std.specs.List.{zip, remove, list_any, position, position_or_len}
use Rattle.std.specs.Option.{option_map_or}

-- whether a row has an entry other than 0
abbrev pub has_entry : List ℕ → Bool
has_entry row = list_any (λ x. not (nat_eq x 0)) row

-- the place of a row's first entry other than 0
abbrev pub lead_of : List ℕ → ℕ
lead_of row = position_or_len (λ x. not (nat_eq x 0)) row

-- the inverse of a number modulo p: its power p - 2, by Fermat's theorem
abbrev pub inverse : ℕ → ℕ → ℕ
inverse p x = x ^ (p - 2) % p

-- x - y modulo p
abbrev pub minus_mod : ℕ → ℕ → ℕ → ℕ
minus_mod p x y = (x + (p - y % p)) % p

-- a row less a multiple of another, modulo p
abbrev pub less_multiple : ℕ → List ℕ → List ℕ → ℕ → List ℕ
less_multiple p row pivot factor = map (λ pair. minus_mod p pair.0 (factor * pair.1)) (zip row pivot)

-- a row less the multiple of the pivot's row that clears the column
abbrev pub cleared : ℕ → List ℕ → ℕ → List ℕ → List ℕ
cleared p pivot column row = less_multiple p row pivot (slice_index row column * inverse p (slice_index pivot column))

-- what is left: the column cleared from each other row, and the row and the column dropped
abbrev pub reduced_by : ℕ → List ℕ → List (List ℕ) → List (List ℕ)
reduced_by p pivot others = map (λ row. remove (cleared p pivot (lead_of pivot) row) (lead_of pivot)) others

-- 0 where no row has an entry; else the first row that has one, and 1 more than the rank of what is left. The first argument
-- bounds the number of steps, for which the number of rows is enough
abbrev pub rank_within : ℕ → ℕ → List (List ℕ) → ℕ
rank_within zero p rows = 0
rank_within (suc steps) p rows =
    option_map_or (λ at. suc (rank_within steps p (reduced_by p (slice_index_or rows at []) (remove rows at)))) (position has_entry rows) 0

-- the plain rank (Gauss's elimination)
abbrev pub rank : ℕ → List (List ℕ) → ℕ
rank p rows = rank_within (length rows) p rows
