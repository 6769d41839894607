use Rattle.std.proofs.Common.{◌≡◌, ◌<◌, ◌^◌, ◌∙◌, [], List, ℕ, length, ap, refl, sym, subst, subst₂, arith, Bool}
use Rattle.std.specs.Prelude.{slice_index_or, All}
use Rattle.std.specs.Global.{Vec}
use Rattle.std.specs.List.{sum_by}
use Rattle.std.proofs.lemmas.Int.{ints}
use Rattle.sparse_block.specs.Complexes.{all_alive}
use Rattle.sparse_block.specs.Inside.{lists_in}
use Rattle.column_reduction.specs.UnderWay.{IsFreshTable}
use Rattle.column_reduction.proofs.Ended.{few-alive, started}
use Rattle.column_reduction.proofs.Openings.{length-opening}
use Rattle.column_reduction.proofs.under_way.ColumnReduction.start.Goals as goal

pub place_sum-requires-clause-degrees : goal.place_sum-requires-clause-degrees
place_sum-requires-clause-degrees g c =
    let whole = g.S.ColumnSource.whole c.args.source.now in
    let count = length-opening whole.names c.in_ok-alive.alive.items (c.in_ok-alive.ensures ∙ ap all_alive c.names.ensures) in
    omega (arith, ints, count, c.low.ensures.opening.end, c.low.ensures.low, c.low.type_inv, ap length c.deref-3.ensures.value)

pub place_sum-requires-clause-places : goal.place_sum-requires-clause-places
place_sum-requires-clause-places g c =
    let whole = g.S.ColumnSource.whole c.args.source.now in
    subst (λ (alive : List (Vec Bool)). All (λ degree. length degree < 2 ^ 29) (lists_in alive)) (sym c.deref-3.ensures.value)
    (few-alive whole.names (lists_in c.in_ok-alive.alive.items) c.low.ensures.opening.counts
    (c.in_ok-alive.ensures ∙ ap all_alive c.names.ensures))

pub returns-clause-reduction : goal.returns-clause-reduction
returns-clause-reduction g c =
    let p = g.F.PrimeField.P in
    let whole = g.S.ColumnSource.whole c.args.source.now in
    let alive = lists_in c.in_ok-alive.alive.items in
    let rows : length c.alive_at.result.now ≡ length (slice_index_or alive 1 []) =
    ap length (c.alive_at.ensures ∙ ap (λ (degrees : List (Vec Bool)). slice_index_or (lists_in degrees) 1 []) c.deref.ensures.value) in
    let columns : length c.alive_at-2.result.now ≡ length (slice_index_or alive 0 []) =
    ap length (c.alive_at-2.ensures ∙ ap (λ (degrees : List (Vec Bool)). slice_index_or (lists_in degrees) 0 []) c.deref-2.ensures.value) in
    let stored = c.in_ok-stored.stored in
    let table : IsFreshTable (length (slice_index_or alive 1 [])) (length (slice_index_or alive 0 [])) stored =
    subst₂ (λ (rows columns : ℕ). IsFreshTable rows columns stored) rows columns c.in_ok-stored.ensures in
    let sum : c.place_sum.result ≡ sum_by length alive =
    c.place_sum.ensures.sum ∙ ap (λ (degrees : List (Vec Bool)). sum_by length (lists_in degrees)) c.deref-3.ensures.value in
    started p whole _ c.element_laws.ensures.field c.low.ensures.opening (c.in_ok-alive.ensures ∙ ap all_alive c.names.ensures) refl refl
    table c.in_ok-history.ensures.items (omega (arith, sum, c.in_ok-history.ensures.capacity))
