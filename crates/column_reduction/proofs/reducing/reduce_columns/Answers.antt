use Rattle.std.proofs.Common.{◌≡◌, ◌++◌, ◌+◌, ◌∙◌, ◌<◌, [], ◌∷◌, List, ℤ, pos, ◌+ℤ◌, length, refl, ap, sym, subst, arith, to_z, of_z, w16, Bool}
use Rattle.std.specs.Prelude.{slice_index_or}
use Rattle.std.specs.Global.{Vec}
use Rattle.std.proofs.lemmas.Int.{ints}
use Rattle.std.proofs.lemmas.List.{length-append, length-map}
use Rattle.kh_types.specs.Complex.{Pivot}
use Rattle.sparse_block.specs.Complexes.{NamedComplex, all_alive, place_count}
use Rattle.sparse_block.specs.Inside.{lists_in}
use Rattle.column_reduction.specs.StoredColumns.{AreFirstReduced, IsReducedTo, StoredColumn, from_greatest, full_columns, pivots_in, stored_pivots, with_pairs}
use Rattle.column_reduction.proofs.FullColumns.{pairs-full, pivots-full}
use Rattle.column_reduction.proofs.Greatest.{from_greatest-push}
use Rattle.column_reduction.proofs.Openings.{degree-opening, few-opening, first-opening, length-opening, next-opening, places-left, places-opening}
use Rattle.column_reduction.proofs.reducing.reduce_columns.Goals as goal

pub degrees-init : goal.degrees-init
degrees-init g c =
    let p = g.F.PrimeField.P in
    let whole = g.S.ColumnSource.whole c.args.source.now in
    let places = lists_in c.in_ok-alive.alive.items in
    let none = c.in_ok-with_capacity.ensures.items in
    record {
      same = refl;
      count = ap length none;
      reduced = subst (λ (pivots : List (Vec Pivot)). IsReducedTo p whole.complex 0 places (from_greatest (pivots_in pivots))) (sym none)
          (first-opening p whole c.element_laws.ensures.field c.low-low.ensures.opening places
          (c.in_ok-alive.ensures ∙ ap all_alive c.names.ensures));
    }

pub reduce_degree-requires-clause-places : goal.reduce_degree-requires-clause-places
reduce_degree-requires-clause-places g c =
    let p = g.F.PrimeField.P in
    let whole = g.S.ColumnSource.whole c.args.source.now in
    let k = c.degrees.k in
    let places = lists_in c.degrees.made.alive.items in
    let is_alive : c.alive_at.result.now ≡ slice_index_or places k [] =
    c.alive_at.ensures ∙ ap (λ (degrees : List (Vec Bool)). slice_index_or (lists_in degrees) k []) c.deref-in-degrees.ensures.value in
    ap length is_alive
    ∙ places-left p whole c.element_laws.ensures.field c.low-low.ensures.opening places
    (from_greatest (pivots_in c.degrees.made.pivots.items)) c.degrees.invariant.reduced.alive k
    ∙ ap (λ (named : NamedComplex). length (slice_index_or named.names k [])) (sym (ap g.S.ColumnSource.whole c.degrees.invariant.same))

pub reduce_degree-requires-clause-count : goal.reduce_degree-requires-clause-count
reduce_degree-requires-clause-count g c =
    let p = g.F.PrimeField.P in
    let whole = g.S.ColumnSource.whole c.args.source.now in
    let k = c.degrees.k in
    let count = length-opening whole.names c.in_ok-alive.alive.items (c.in_ok-alive.ensures ∙ ap all_alive c.names.ensures) in
    let within : k < length whole.names =
    omega (arith, c.degrees-test.true, c.len-count.ensures, c.in_ok-alive.alive.ok.0, count) in
    let size = reduce_degree-requires-clause-places g c in
    let same = ap (λ (named : NamedComplex). length (slice_index_or named.names k [])) (ap g.S.ColumnSource.whole c.degrees.invariant.same) in
    omega (arith, size, same, few-opening p whole c.element_laws.ensures.field c.low-low.ensures.opening k within)

pub reduce_degree-requires-clause-height : goal.reduce_degree-requires-clause-height
reduce_degree-requires-clause-height g c =
    let p = g.F.PrimeField.P in
    let whole = g.S.ColumnSource.whole c.args.source.now in
    let k = c.degrees.k in
    let places = lists_in c.degrees.made.alive.items in
    let field = c.element_laws.ensures.field in
    let opening = c.low-low.ensures.opening in
    let is_height : c.alive_at-height.result.now ≡ slice_index_or places (k + 1) [] =
    c.alive_at-height.ensures ∙ ap (λ (degrees : List (Vec Bool)). slice_index_or (lists_in degrees) (k + 1) []) c.deref.ensures.value in
    let next : whole.complex.low +ℤ pos (k + 1) ≡ whole.complex.low +ℤ pos k +ℤ pos 1 = omega (arith, ints) in
    ap length is_height
    ∙ places-left p whole field opening places (from_greatest (pivots_in c.degrees.made.pivots.items)) c.degrees.invariant.reduced.alive
    (k + 1)
    ∙ sym (places-opening p whole field opening (k + 1)) ∙ ap (place_count whole.complex) next
    ∙ ap (λ (named : NamedComplex). place_count named.complex (named.complex.low +ℤ pos k +ℤ pos 1)) (sym (ap g.S.ColumnSource.whole c.degrees.invariant.same))

pub degree_at-requires : goal.degree_at-requires
degree_at-requires g c =
    let p = g.F.PrimeField.P in
    let whole = g.S.ColumnSource.whole c.args.source.now in
    let k = c.degrees.k in
    let count = length-opening whole.names c.in_ok-alive.alive.items (c.in_ok-alive.ensures ∙ ap all_alive c.names.ensures) in
    let within : k < length whole.names =
    omega (arith, c.degrees-test.true, c.len-count.ensures, c.in_ok-alive.alive.ok.0, count) in
    let end = degree-opening p whole c.element_laws.ensures.field c.low-low.ensures.opening k within in
    let fits : to_z w16 (of_z w16 c.low-low.result) ≡ c.low-low.result = omega (arith, ints, c.low-low.type_inv) in
    omega (arith, ints, fits, c.low-low.ensures.low, end)

pub degrees-preserved : goal.degrees-preserved
degrees-preserved g c =
    let p = g.F.PrimeField.P in
    let whole = g.S.ColumnSource.whole c.args.source.now in
    let k = c.degrees.k in
    let alive = c.alive_at.result.now in
    let places = lists_in c.degrees.made.alive.items in
    let lists = pivots_in c.degrees.made.pivots.items in
    let stored = c.in_ok-stored.stored.items in
    let is_alive : alive ≡ slice_index_or places k [] =
    c.alive_at.ensures ∙ ap (λ (degrees : List (Vec Bool)). slice_index_or (lists_in degrees) k []) c.deref-in-degrees.ensures.value in
    let size = length-opening whole.names c.in_ok-alive.alive.items (c.in_ok-alive.ensures ∙ ap all_alive c.names.ensures) in
    let within : k < length whole.names =
    omega (arith, c.degrees-test.true, c.len-count.ensures, c.in_ok-alive.alive.ok.0, size) in
    let end = degree-opening p whole c.element_laws.ensures.field c.low-low.ensures.opening k within in
    let fits : to_z w16 (of_z w16 c.low-low.result) ≡ c.low-low.result = omega (arith, ints, c.low-low.type_inv) in
    let i : ℤ = to_z w16 (of_z w16 c.degree_at.result) in
    let here : i ≡ whole.complex.low +ℤ pos k =
    omega (arith, ints, c.degree_at.ensures, end, fits, c.low-low.ensures.low, c.low-low.type_inv) in
    let full = full_columns whole.complex k stored in
    let from_low : AreFirstReduced p whole.complex (whole.complex.low +ℤ pos k) alive (length alive) full =
    subst
    (λ (named : NamedComplex).
    AreFirstReduced p named.complex (named.complex.low +ℤ pos k) alive (length alive) (full_columns named.complex k stored))
    (ap g.S.ColumnSource.whole c.degrees.invariant.same) c.in_ok-stored.ensures.reduced in
    let are : AreFirstReduced p whole.complex i alive (length alive) full =
    subst (λ (i : ℤ). AreFirstReduced p whole.complex i alive (length alive) full) (sym here) from_low in
    let lists_after : pivots_in c.note_pivots.new.made.pivots.items ≡ lists ++ stored_pivots i full ∷ [] =
    c.in_ok-note_pivots.ensures.pivots
    ∙ ap (λ (stored : List StoredColumn). lists ++ stored_pivots i stored ∷ []) c.deref-in-degrees-2.ensures.value
    ∙ ap (λ (pivots : List Pivot). lists ++ pivots ∷ []) (sym (pivots-full whole.complex k i stored)) in
    let are_places : lists_in c.note_pivots.new.made.alive.items ≡ with_pairs k places full =
    c.in_ok-note_pivots.ensures.alive ∙ ap (with_pairs k places) c.deref-in-degrees-2.ensures.value
    ∙ sym (pairs-full whole.complex k k places stored) in
    let count_of : (pivots : List (Vec Pivot)) → length (pivots_in pivots) ≡ length pivots =
    λ pivots. length-map pivots (λ (degree : Vec Pivot). degree.items) in
    record {
      same = c.in_ok-stored.ensures.same ∙ c.degrees.invariant.same;
      count = omega (
        arith,
        count_of c.note_pivots.new.made.pivots.items,
        count_of c.degrees.made.pivots.items,
        c.degrees.invariant.count,
        ap length lists_after,
        length-append lists (stored_pivots i full ∷ []),
      );
      reduced = next-opening p whole c.element_laws.ensures.field c.low-low.ensures.opening k i places
          (lists_in c.note_pivots.new.made.alive.items) (from_greatest lists)
          (from_greatest (pivots_in c.note_pivots.new.made.pivots.items)) full alive here is_alive c.degrees.invariant.reduced are
          (ap from_greatest lists_after ∙ from_greatest-push lists (stored_pivots i full)) are_places;
    }
