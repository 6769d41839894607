use Rattle.std.proofs.Common.{◌≡◌, ◌∙◌, ℕ, ap, arith}
use Rattle.std.proofs.lemmas.Result.{IfOk-weaker}
use Rattle.union_laws.specs.UnitedRows.{rows_product}
use Rattle.tangle_scan.specs.CountedRows.{all_rows_by}
use Rattle.tangle_scan.specs.Grids.{dims_in, is_in}
use Rattle.tangle_scan.proofs.GridLemmas.{all_rows-agree}
use Rattle.tangle_scan.proofs.scanning.products.product_rows.Goals as goal

pub returns : goal.returns
returns c =
    let dims = rows_product c.args.first.now c.args.second.now in
    IfOk-weaker c.all_rows.result _ (λ rows. rows.items ≡ all_rows_by dims c.args.crossings)
    (λ rows is. is ∙ all_rows-agree (dims_in c.add_products.new.self) dims c.args.crossings (λ i j here.
    let inside = ap (λ (n : ℕ). is_in n i j) c.in_ok-grid.ensures.crossings ∙ here in
    omega (arith, c.add_products.ensures.numbers i j inside, c.in_ok-grid.ensures.zero i j)))
    c.all_rows.ensures
