use Rattle.std.proofs.Common.{◌≡◌, ◌+◌, vec_len}
use Rattle.kh_types.specs.Rank.{rank}
use Rattle.plain_matrix.specs.Inside.{values_of}
use Rattle.plain_matrix.proofs.elimination.rank_of_rows.Given as goal

abbrev pub invariant-rows : goal.invariant-rows
invariant-rows g l =
    record {
      rank : l.found + rank g.F.PrimeField.P (values_of g.F.PrimeField.value_of l.rows.items)
          ≡ rank g.F.PrimeField.P (values_of g.F.PrimeField.value_of l.initial.rows.items);
      size : l.found + vec_len l.rows ≡ vec_len l.initial.rows;
    }

abbrev pub decreases-rows : goal.decreases-rows
decreases-rows g l = vec_len l.rows
