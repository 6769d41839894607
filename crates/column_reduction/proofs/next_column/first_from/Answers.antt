use Rattle.std.proofs.Common.{◌≡◌, ◌<◌, ◌+◌, ◌∙◌, [], List, pos, ◌+ℤ◌, length, refl, ap, sym, subst, subst₂, arith, to_z, of_z, w16, Bool}
use Rattle.std.specs.Prelude.{slice_index_or, IfNone, IfSome, Option}
use Rattle.std.proofs.lemmas.Int.{ints}
use Rattle.sparse_block.specs.Complexes.{NamedComplex, place_count}
use Rattle.sparse_block.specs.Inside.{lists_in}
use Rattle.column_reduction.specs.StoredColumns.{AreStored, StoredColumn, full_column, full_columns}
use Rattle.column_reduction.specs.UnderWay.{IsFirstLeft, IsFreshTable, LeaveNone}
use Rattle.column_reduction.proofs.Looked.{all-more}
use Rattle.column_reduction.proofs.Openings.{count-names, degree-opening, few-opening, places-opening, size-names}
use Rattle.column_reduction.proofs.next_column.first_from.Goals as goal

pub degrees-init : goal.degrees-init
degrees-init g c =
    record { same = refl; after = omega arith; none = λ k later within. absurd (omega (arith, later, within)) }

pub next_left-requires-clause-degree : goal.next_left-requires-clause-degree
next_left-requires-clause-degree g c =
    let whole = g.S.ColumnSource.whole c.args.source.now in
    omega (
      arith,
      c.degrees-test.true,
      count-names whole.names c.args.alive.now c.requires,
      ap (λ (named : NamedComplex). length named.names) (ap g.S.ColumnSource.whole c.degrees.invariant.same),
    )

pub next_left-requires-clause-places : goal.next_left-requires-clause-places
next_left-requires-clause-places g c =
    let whole = g.S.ColumnSource.whole c.args.source.now in
    let k = c.degrees.k in
    ap length c.alive_at-own.ensures ∙ size-names whole.names c.args.alive.now c.requires k
    ∙ ap (λ (named : NamedComplex). length (slice_index_or named.names k [])) (sym (ap g.S.ColumnSource.whole c.degrees.invariant.same))

pub next_left-requires-clause-count : goal.next_left-requires-clause-count
next_left-requires-clause-count g c =
    let whole = g.S.ColumnSource.whole c.args.source.now in
    let k = c.degrees.k in
    let within : k < length whole.names = omega (arith, c.degrees-test.true, count-names whole.names c.args.alive.now c.requires) in
    omega (
      arith,
      ap length c.alive_at-own.ensures,
      size-names whole.names c.args.alive.now c.requires k,
      few-opening g.F.PrimeField.P whole c.element_laws.ensures.field c.low-low.ensures.opening k within,
    )

pub next_left-requires-clause-height : goal.next_left-requires-clause-height
next_left-requires-clause-height g c =
    let whole = g.S.ColumnSource.whole c.args.source.now in
    let k = c.degrees.k in
    let next : whole.complex.low +ℤ pos (k + 1) ≡ whole.complex.low +ℤ pos k +ℤ pos 1 = omega (arith, ints) in
    c.in_ok-fresh.ensures.height ∙ ap length c.alive_at.ensures
    ∙ size-names whole.names c.args.alive.now c.requires (k + 1)
    ∙ sym (places-opening g.F.PrimeField.P whole c.element_laws.ensures.field c.low-low.ensures.opening (k + 1))
    ∙ ap (place_count whole.complex) next
    ∙ ap (λ (named : NamedComplex). place_count named.complex (named.complex.low +ℤ pos k +ℤ pos 1)) (sym (ap g.S.ColumnSource.whole c.degrees.invariant.same))

pub next_left-requires-clause-stored : goal.next_left-requires-clause-stored
next_left-requires-clause-stored g c =
    let fresh = c.in_ok-fresh.fresh in
    let complex = (g.S.ColumnSource.whole c.degrees.source).complex in
    subst (λ (stored : List StoredColumn). AreStored g.F.PrimeField.P stored fresh.owners.items)
    (sym (ap (full_columns complex c.degrees.k) c.in_ok-fresh.ensures.empty)) (c.in_ok-fresh.ensures.none g.F.PrimeField.P)

pub degree_at-requires : goal.degree_at-requires
degree_at-requires g c =
    let whole = g.S.ColumnSource.whole c.args.source.now in
    let k = c.degrees.k in
    let within : k < length whole.names = omega (arith, c.degrees-test.true, count-names whole.names c.args.alive.now c.requires) in
    let end = degree-opening g.F.PrimeField.P whole c.element_laws.ensures.field c.low-low.ensures.opening k within in
    let fits : to_z w16 (of_z w16 c.low-low.result) ≡ c.low-low.result = omega (arith, ints, c.low-low.type_inv) in
    omega (arith, ints, fits, c.low-low.ensures.low, end)

pub degrees-preserved : goal.degrees-preserved
degrees-preserved g c =
    let p = g.F.PrimeField.P in
    let whole = g.S.ColumnSource.whole c.args.source.now in
    let there = g.S.ColumnSource.whole c.degrees.source in
    let k = c.degrees.k in
    let alive = lists_in c.args.alive.now in
    let own = c.alive_at-own.result.now in
    let stored : NamedComplex → List StoredColumn = λ named. full_columns named.complex k c.in_ok-fresh.fresh.columns.items in
    let left : LeaveNone p there.complex (there.complex.low +ℤ pos k) own (stored there) 0 (length own) =
    subst (λ (seen : Option StoredColumn).
    IfNone seen (LeaveNone p there.complex (there.complex.low +ℤ pos k) own (stored there) 0 (length own))) c.in-None.is
    c.in_ok-seen.ensures.none in
    let at_whole : LeaveNone p whole.complex (whole.complex.low +ℤ pos k) own (stored whole) 0 (length own) =
    subst (λ (named : NamedComplex). LeaveNone p named.complex (named.complex.low +ℤ pos k) own (stored named) 0 (length own))
    (ap g.S.ColumnSource.whole c.degrees.invariant.same) left in
    let here : LeaveNone p whole.complex (whole.complex.low +ℤ pos k) (slice_index_or alive k []) [] 0 (length (slice_index_or alive k [])) =
    subst₂ (λ (marks : List Bool) (stored : List StoredColumn).
    LeaveNone p whole.complex (whole.complex.low +ℤ pos k) marks stored 0 (length marks)) c.alive_at-own.ensures
    (ap (full_columns whole.complex k) c.in_ok-fresh.ensures.empty) at_whole in
    record {
      same = c.in_ok-seen.ensures.same ∙ c.degrees.invariant.same;
      after = omega (arith, c.degrees.invariant.after);
      none = all-more p k c.args.from whole.complex alive c.degrees.invariant.none here;
    }

pub returns-clause-none : goal.returns-clause-none
returns-clause-none g c = λ k later within. c.degrees.invariant.none k later (omega (arith, within, c.degrees-test.false))

pub returns-in-Some-clause-first : goal.returns-in-Some-clause-first
returns-in-Some-clause-first g c =
    let p = g.F.PrimeField.P in
    let whole = g.S.ColumnSource.whole c.args.source.now in
    let there = g.S.ColumnSource.whole c.degrees.source in
    let k = c.degrees.k in
    let alive = lists_in c.args.alive.now in
    let own = c.alive_at-own.result.now in
    let fresh = c.in_ok-fresh.fresh in
    let stored : NamedComplex → List StoredColumn = λ named. full_columns named.complex k fresh.columns.items in
    let line : NamedComplex → StoredColumn = λ named. full_column named.complex k c.in-Some.line in
    let left : IsFirstLeft p there.complex (there.complex.low +ℤ pos k) own (stored there) 0 (line there) =
    subst (λ (seen : Option StoredColumn). IfSome seen (λ line.
    IsFirstLeft p there.complex (there.complex.low +ℤ pos k) own (stored there) 0 (full_column there.complex k line))) c.in-Some.is
    c.in_ok-seen.ensures.first in
    let at_whole : IsFirstLeft p whole.complex (whole.complex.low +ℤ pos k) own (stored whole) 0 (line whole) =
    subst (λ (named : NamedComplex). IsFirstLeft p named.complex (named.complex.low +ℤ pos k) own (stored named) 0 (line named))
    (ap g.S.ColumnSource.whole c.degrees.invariant.same) left in
    let first : IsFirstLeft p whole.complex (whole.complex.low +ℤ pos k) (slice_index_or alive k []) [] 0 (line whole) =
    subst₂ (λ (marks : List Bool) (stored : List StoredColumn).
    IsFirstLeft p whole.complex (whole.complex.low +ℤ pos k) marks stored 0 (line whole)) c.alive_at-own.ensures
    (ap (full_columns whole.complex k) c.in_ok-fresh.ensures.empty) at_whole in
    let within : k < length whole.names = omega (arith, c.degrees-test.true, count-names whole.names c.args.alive.now c.requires) in
    let end = degree-opening p whole c.element_laws.ensures.field c.low-low.ensures.opening k within in
    let fits : to_z w16 (of_z w16 c.low-low.result) ≡ c.low-low.result = omega (arith, ints, c.low-low.type_inv) in
    let degree : to_z w16 (of_z w16 c.degree_at.result) ≡ whole.complex.low +ℤ pos k =
    omega (arith, ints, c.degree_at.ensures, end, fits, c.low-low.ensures.low, c.low-low.type_inv) in
    record {
      degree_is = degree;
      later = c.degrees.invariant.after;
      before = c.degrees.invariant.none;
      first = first;
      table = subst₂ (λ (rows columns : List Bool). IsFreshTable (length rows) (length columns) fresh) c.alive_at.ensures
          c.alive_at-own.ensures c.in_ok-fresh.ensures;
      none = tt;
    }
