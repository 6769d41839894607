use Rattle.std.proofs.Common.{◌≡◌, map, take}
use Rattle.kh_types.specs.Rank.{reduced_by}
use Rattle.plain_matrix.specs.Inside.{values_of}
use Rattle.plain_matrix.proofs.elimination.reduced_by.Given as goal

abbrev pub invariant-rows : goal.invariant-rows
invariant-rows g l =
    values_of g.F.PrimeField.value_of l.made.items
    ≡ reduced_by g.F.PrimeField.P (map g.F.PrimeField.value_of l.pivot)
    (values_of g.F.PrimeField.value_of (take l.row-index l.others))
