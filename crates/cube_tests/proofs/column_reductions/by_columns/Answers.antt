use Rattle.std.proofs.Common.{arith}
use Rattle.std.proofs.lemmas.Int.{ints}
use Rattle.std.specs.Global.{Vec}
use Rattle.std.proofs.lemmas.List.{length-map}
use Rattle.kh_types.specs.Generators.{Generator}
use Rattle.cube_tests.proofs.column_reductions.by_columns.Goals as goal

pub new-requires-clause-some : goal.new-requires-clause-some
new-requires-clause-some g c =
    omega (arith, c.requires.some, length-map c.args.names.items (λ (names : Vec Generator). names.items))

pub new-requires-clause-end : goal.new-requires-clause-end
new-requires-clause-end g c =
    omega (arith, ints, c.requires.end, length-map c.args.names.items (λ (names : Vec Generator). names.items))
