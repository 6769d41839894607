use Rattle.std.proofs.Common.{◌≡◌, ◌∙◌, ◌++◌, List, ap}
use Rattle.kh_types.specs.Complex.{Pivot}
use Rattle.column_reduction.specs.StoredColumns.{from_greatest, pivots_in}
use Rattle.column_reduction.proofs.Greatest.{greatest-moved}
use Rattle.column_reduction.proofs.reducing.all_pivots.Goals as goal

pub degrees-preserved : goal.degrees-preserved
degrees-preserved c =
    let all = from_greatest (pivots_in c.args.pivots.items) in
    let moved =
    greatest-moved all c.degrees.made.items c.degrees.rest.items c.pop.new.self.items c.in-Some.degree c.degrees.invariant
    c.in-Some.ensures.items in
    let made : c.extend_from_slice.new.self.items ≡ c.degrees.made.items ++ c.in-Some.degree.items =
    c.in_ok-extend_from_slice.ensures.items ∙ ap (λ (pivots : List Pivot). c.degrees.made.items ++ pivots) c.deref.ensures.value in
    ap (λ (pivots : List Pivot). pivots ++ from_greatest (pivots_in c.pop.new.self.items)) made ∙ moved
