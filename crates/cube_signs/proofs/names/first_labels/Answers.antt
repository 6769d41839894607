use Rattle.std.proofs.Common.{◌^◌, arith, rules, ltb}
use Rattle.std.proofs.lemmas.List.Sorted.{IsPartitionPoint-from_clause, IsPartitionedBy-ltb}
use Rattle.cube_signs.proofs.LabelLists.{first-passing}
use Rattle.cube_signs.proofs.names.first_labels.Goals as goal

pub returns : goal.returns
returns c =
    let end = 2 ^ c.args.circles in
    let parted = IsPartitionedBy-ltb (λ label. label) c.args.labels.now end c.requires.ascending in
    let point =
    IsPartitionPoint-from_clause (λ label. ltb label end) _ _ c.partition_point.ensures.partitioned parted
    (λ a r q called. search rules) in
    first-passing (λ label. ltb label end) c.args.labels.now c.partition_point.result
    (λ k d before within. point.0 k d (omega arith) before) (λ k d from within. point.1 k d from within)
