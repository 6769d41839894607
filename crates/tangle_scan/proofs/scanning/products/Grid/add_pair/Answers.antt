use Rattle.std.proofs.Common.{◌≡◌, ◌*◌, ◌+ℤ◌, ap, ap₂, arith, to_z, of_z}
use mir.Syntax.{w32}
use Rattle.std.proofs.lemmas.Int.{ints}
use Rattle.kh_types.specs.Table.{Row}
use Rattle.tangle_scan.proofs.GridLemmas.{raised-moved, room-moved, row_product-self}
use Rattle.tangle_scan.proofs.scanning.products.Grid.add_pair.Goals as goal

pub overflow_mul-row-inside : goal.overflow_mul-row-inside
overflow_mul-row-inside c =
    let row = c.args.row in
    let other = c.args.other in
    omega (
      arith,
      c.requires (row.i +ℤ other.i) (row.j +ℤ other.j),
      row_product-self row other,
      ap₂ (λ (a b : Row). a.dim * b.dim) c.row.view_is c.other.view_is,
    )

pub add-requires : goal.add-requires
add-requires c =
    let row = c.args.row in
    let other = c.args.other in
    let i = λ (row : Row). row.i in
    let j = λ (row : Row). row.j in
    let same_i : to_z w32 (of_z w32 (to_z w32 (of_z w32 c.from.result) +ℤ to_z w32 (of_z w32 c.from-2.result))) ≡ row.i +ℤ other.i =
    omega (arith, ints, c.from.ensures, c.from-2.ensures, ap i c.row.view_is, ap i c.other.view_is) in
    let same_j : to_z w32 (of_z w32 (to_z w32 (of_z w32 c.from-3.result) +ℤ to_z w32 (of_z w32 c.from-4.result))) ≡ row.j +ℤ other.j =
    omega (arith, ints, c.from-3.ensures, c.from-4.ensures, ap j c.row.view_is, ap j c.other.view_is) in
    room-moved c.args.self.now _ _ (row.i +ℤ other.i) (row.j +ℤ other.j) _ (row.dim * other.dim) same_i same_j
    (ap₂ (λ (a b : Row). a.dim * b.dim) c.row.view_is c.other.view_is)
    (omega (arith, c.requires (row.i +ℤ other.i) (row.j +ℤ other.j), row_product-self row other))

pub returns : goal.returns
returns c =
    let row = c.args.row in
    let other = c.args.other in
    let i = λ (row : Row). row.i in
    let j = λ (row : Row). row.j in
    let same_i : to_z w32 (of_z w32 (to_z w32 (of_z w32 c.from.result) +ℤ to_z w32 (of_z w32 c.from-2.result))) ≡ row.i +ℤ other.i =
    omega (arith, ints, c.from.ensures, c.from-2.ensures, ap i c.row.view_is, ap i c.other.view_is) in
    let same_j : to_z w32 (of_z w32 (to_z w32 (of_z w32 c.from-3.result) +ℤ to_z w32 (of_z w32 c.from-4.result))) ≡ row.j +ℤ other.j =
    omega (arith, ints, c.from-3.ensures, c.from-4.ensures, ap j c.row.view_is, ap j c.other.view_is) in
    raised-moved c.args.self.now c.add.new.self _ _ (row.i +ℤ other.i) (row.j +ℤ other.j) _ (row.dim * other.dim) same_i same_j
    (ap₂ (λ (a b : Row). a.dim * b.dim) c.row.view_is c.other.view_is) c.add.ensures
