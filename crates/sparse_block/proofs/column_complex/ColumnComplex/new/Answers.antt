use Rattle.std.proofs.Common.{◌≡◌, ℤ, arith, subst, to_z, of_z, w16}
use Rattle.std.proofs.lemmas.Int.{ints}
use Rattle.std.proofs.lemmas.List.{length-map}
use Rattle.std.specs.Global.{Vec}
use Rattle.kh_types.specs.Generators.{Generator}
use Rattle.sparse_block.specs.Complexes.{MakeComplex}
use Rattle.sparse_block.specs.Inside.{lines_in, lists_in}
use Rattle.sparse_block.proofs.column_complex.ColumnComplex.new.Goals as goal

pub invariant_of-result : goal.invariant_of-result
invariant_of-result g c =
    let names = c.args.names.items in
    let count = length-map names (λ (degree : Vec Generator). degree.items) in
    let low : c.args.low ≡ to_z w16 (of_z w16 c.args.low) = omega (arith, ints, c.ranges.low) in
    subst (λ (low : ℤ). MakeComplex g.F.PrimeField.P low (lists_in names) (lines_in c.args.columns.items)) low
    (record {
      some = omega (arith, c.requires.some, count);
      end = omega (arith, ints, c.requires.end, count);
      counts = c.requires.counts;
      sizes = c.requires.sizes;
      entries = c.requires.entries;
      squares = c.requires.squares;
    })
