use Rattle.std.proofs.Common.{◌≡◌, ◌+◌, ◌∙◌, [], ◌∷◌, ◌++◌, ap, refl, arith}
use Rattle.kh_types.specs.Complex.{Pivot}
use Rattle.sparse_block.specs.Clearing.{with_dead}
use Rattle.sparse_block.specs.Inside.{lists_in}
use Rattle.column_reduction.specs.UnderWay.{pivot_of}
use Rattle.column_reduction.proofs.Taken.{few-ready, number-within, ready, room-history, room-ready, row-ready, taken}
use Rattle.column_reduction.proofs.under_way.ColumnReduction.take.Goals as goal

pub store_reserved-requires-clause-few : goal.store_reserved-requires-clause-few
store_reserved-requires-clause-few c =
    let (p, complex, field, of, is_found) = c.requires in
    let now = ready p complex field c.args.self.now of c.args.found is_found c.renew.new.stored c.renew.ensures.none c.renew.ensures.some in
    few-ready p complex field c.args.self.now of c.args.found is_found c.renew.new.stored now

pub store_reserved-requires-clause-room : goal.store_reserved-requires-clause-room
store_reserved-requires-clause-room c =
    let (p, complex, field, of, is_found) = c.requires in
    let now = ready p complex field c.args.self.now of c.args.found is_found c.renew.new.stored c.renew.ensures.none c.renew.ensures.some in
    room-ready p complex field c.args.self.now of c.args.found is_found c.renew.new.stored now

pub store_reserved-requires-clause-row : goal.store_reserved-requires-clause-row
store_reserved-requires-clause-row c =
    let (p, complex, field, of, is_found) = c.requires in
    let now = ready p complex field c.args.self.now of c.args.found is_found c.renew.new.stored c.renew.ensures.none c.renew.ensures.some in
    row-ready p complex field c.args.self.now of c.args.found is_found c.renew.new.stored now

pub kill_pair-requires : goal.kill_pair-requires
kill_pair-requires c =
    let (p, complex, field, of, is_found) = c.requires in
    omega (arith, number-within p complex field c.args.self.now of c.args.found is_found, c.args.self.now.alive.ok)

pub push_reserved-requires : goal.push_reserved-requires
push_reserved-requires c =
    let (p, complex, field, of, is_found) = c.requires in
    omega (arith, room-history p complex field c.args.self.now of c.args.found is_found, c.args.self.now.history.ok)

pub returns-clause-reduction : goal.returns-clause-reduction
returns-clause-reduction c =
    λ p complex field of is_found.
    let held = c.args.self.now in
    let found = c.args.found in
    let pivot : c.pivot-pivot.result ≡ pivot_of found = c.pivot-pivot.ensures in
    let now = ready p complex field held of found is_found c.renew.new.stored c.renew.ensures.none c.renew.ensures.some in
    taken p complex field held of found is_found c.renew.new.stored now _ refl
    (ap (λ (pivot : Pivot). pivot.column + 1) (c.pivot.view_is ∙ pivot))
    (c.kill_pair.ensures
    ∙ ap (λ (pivot : Pivot).
    with_dead (found.number + 1) pivot.row (with_dead found.number pivot.column (lists_in held.alive.items))) pivot)
    c.store_reserved.ensures.columns c.store_reserved.ensures.owners c.store_reserved.ensures.room
    (c.push_reserved.ensures.items ∙ ap (λ (pivot : Pivot). held.history.items ++ pivot ∷ []) pivot) c.push_reserved.ensures.capacity
