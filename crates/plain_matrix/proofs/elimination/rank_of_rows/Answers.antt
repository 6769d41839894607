use Rattle.std.proofs.Common.{arith}
use Rattle.plain_matrix.proofs.EliminationLemmas.{has_entry-found, rank-end}
use Rattle.plain_matrix.proofs.elimination.rank_of_rows.Goals as goal

pub reduced_by-requires : goal.reduced_by-requires
reduced_by-requires g c =
    has_entry-found g.F.PrimeField.value_of c.rows.rows.items c.deref.result.now c.in-Some.at c.remove-pivot.result
    c.deref-in-Some.result.now c.deref.ensures.value c.in-Some.ensures c.remove-pivot.ensures.value c.deref-in-Some.ensures.value

pub returns : goal.returns
returns g c =
    omega (
      arith,
      c.rows.invariant.rank,
      rank-end g.F.PrimeField.value_of g.F.PrimeField.P c.rows.rows.items c.deref.result.now
          c.deref.ensures.value c.in_default.ensures,
    )
