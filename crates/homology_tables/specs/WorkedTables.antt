-- A worked table.
use Rattle.std.specs.Prelude.{pos, neg_ℤ, [], ◌∷◌}
use Rattle.kh_types.specs.Table.{Table}

-- the table of the left-handed trefoil over two elements
abbrev pub trefoil_table : Table
trefoil_table = record {
  field = 2;
  rows = record { j = neg_ℤ (pos 9); i = neg_ℤ (pos 3); dim = 1 } ∷ record { j = neg_ℤ (pos 7); i = neg_ℤ (pos 3); dim = 1 }
      ∷ record { j = neg_ℤ (pos 7); i = neg_ℤ (pos 2); dim = 1 } ∷ record { j = neg_ℤ (pos 5); i = neg_ℤ (pos 2); dim = 1 }
      ∷ record { j = neg_ℤ (pos 3); i = pos 0; dim = 1 } ∷ record { j = neg_ℤ (pos 1); i = pos 0; dim = 1 } ∷ [];
}
