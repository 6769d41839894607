use Rattle.std.proofs.Common.{◌≡◌, map, take}
use Rattle.kh_types.specs.Rank.{less_multiple}
use Rattle.plain_matrix.proofs.rows.less_multiple.Given as goal

abbrev pub invariant-loop-k : goal.invariant-loop-k
invariant-loop-k g l =
    map g.F.PrimeField.value_of l.made.items
    ≡ less_multiple g.F.PrimeField.P (take l.k (map g.F.PrimeField.value_of l.row))
    (take l.k (map g.F.PrimeField.value_of l.pivot)) (g.F.PrimeField.value_of l.factor)
