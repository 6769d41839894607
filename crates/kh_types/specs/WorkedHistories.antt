-- Histories of the trefoil's block at the quantum degree -7, whose one matrix has the rows 0 1 1, 1 0 1 and 1 1 0.
use Rattle.std.specs.Prelude.{ℕ, pos, neg_ℤ, List, [], ◌∷◌}
use Rattle.kh_types.specs.WorkedCodes.{hopf_link, trefoil}
use Rattle.kh_types.specs.Complex.{Complex, Pivot, pivot_at}
use Rattle.kh_types.specs.History.{block}

-- that block
abbrev pub trefoil_block : ℕ → Complex
trefoil_block p = block p trefoil (neg_ℤ (pos 7))

-- the block of the Hopf link at the quantum degree -4 over three elements
abbrev pub hopf_block : Complex
hopf_block = block 3 hopf_link (neg_ℤ (pos 4))

-- a pivot of the trefoil's matrix
abbrev pub pivot_of : ℕ → ℕ → Pivot
pivot_of column row = pivot_at (neg_ℤ (pos 3)) column row

-- two cancellations over two elements: there the third row is the sum of the others
abbrev pub history_over_two : List Pivot
history_over_two = pivot_of 1 0 ∷ pivot_of 0 1 ∷ []

-- three over five elements
abbrev pub history_over_five : List Pivot
history_over_five = pivot_of 1 0 ∷ pivot_of 0 1 ∷ pivot_of 2 2 ∷ []
