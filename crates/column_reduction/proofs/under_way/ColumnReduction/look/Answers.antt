use Rattle.std.proofs.Common.{◌≡◌, ◌<◌, ◌+◌, ◌∙◌, [], List, pos, ◌+ℤ◌, map, length, refl, ap, sym, subst, subst₂, arith, to_z, of_z, w16, Bool, true}
use Rattle.std.specs.Prelude.{slice_index_or, IfNone, IfOk, IfSome, Option}
use Rattle.std.specs.Global.{Vec}
use Rattle.std.proofs.lemmas.Int.{ints}
use Rattle.std.proofs.lemmas.List.{length-map}
use Rattle.kh_types.specs.Complex.{IsPivot, is_zero}
use Rattle.kh_types.specs.History.{replay}
use Rattle.sparse_block.specs.Complexes.{NamedComplex, place_count}
use Rattle.sparse_block.specs.Inside.{lists_in}
use Rattle.column_reduction.specs.StoredColumns.{StoredColumn, full_column, full_columns}
use Rattle.column_reduction.specs.UnderWay.{AllLeaveNone, IsFirstFrom, IsFirstLeft, IsFound, LeaveNone, pivot_of}
use Rattle.column_reduction.proofs.Looked.{found-above, found-here, found-none, found-open, none-map, some-map}
use Rattle.column_reduction.proofs.Openings.{degree-opening, degrees-left, few-opening, places-left, sizes-left}
use Rattle.column_reduction.proofs.Taken.{is_pivot-found}
use Rattle.column_reduction.proofs.under_way.ColumnReduction.look.Goals as goal

pub next_left-requires-clause-degree : goal.next_left-requires-clause-degree
next_left-requires-clause-degree g c =
    let held = c.args.self.now in
    let count =
    degrees-left g.F.PrimeField.P (g.S.ColumnSource.whole c.args.source.now) c.element_laws.ensures.field c.low-low.ensures.opening
    (lists_in held.alive.items) held.history.items c.requires.alive_is in
    omega (arith, count, c.requires.number, length-map held.alive.items (λ (degree : Vec Bool). degree.items))

pub next_left-requires-clause-places : goal.next_left-requires-clause-places
next_left-requires-clause-places g c =
    let held = c.args.self.now in
    let own : c.alive_at-own.result.now ≡ slice_index_or (lists_in held.alive.items) held.number [] =
    c.alive_at-own.ensures
    ∙ ap (λ (degrees : List (Vec Bool)). slice_index_or (lists_in degrees) held.number []) c.deref.ensures.value in
    ap length own
    ∙ places-left g.F.PrimeField.P (g.S.ColumnSource.whole c.args.source.now) c.element_laws.ensures.field c.low-low.ensures.opening
    (lists_in held.alive.items) held.history.items c.requires.alive_is held.number

pub next_left-requires-clause-count : goal.next_left-requires-clause-count
next_left-requires-clause-count g c =
    let held = c.args.self.now in
    let few =
    few-opening g.F.PrimeField.P (g.S.ColumnSource.whole c.args.source.now) c.element_laws.ensures.field c.low-low.ensures.opening
    held.number (next_left-requires-clause-degree g c) in
    omega (arith, next_left-requires-clause-places g c, few)

pub next_left-requires-clause-height : goal.next_left-requires-clause-height
next_left-requires-clause-height g c =
    let whole = g.S.ColumnSource.whole c.args.source.now in
    let k = c.args.self.now.number in
    let next : whole.complex.low +ℤ pos (k + 1) ≡ whole.complex.low +ℤ pos k +ℤ pos 1 = omega (arith, ints) in
    c.requires.height ∙ ap (place_count whole.complex) next

pub degree_at-requires : goal.degree_at-requires
degree_at-requires g c =
    let k = c.args.self.now.number in
    let count =
    degrees-left g.F.PrimeField.P (g.S.ColumnSource.whole c.args.source.now) c.element_laws.ensures.field c.low-low.ensures.opening
    (lists_in c.args.self.now.alive.items) c.args.self.now.history.items c.requires.alive_is in
    let within : c.args.self.now.number < length (g.S.ColumnSource.whole c.args.source.now).names =
    omega (arith, count, c.requires.number, length-map c.args.self.now.alive.items (λ (degree : Vec Bool). degree.items)) in
    let end =
    degree-opening g.F.PrimeField.P (g.S.ColumnSource.whole c.args.source.now) c.element_laws.ensures.field c.low-low.ensures.opening k
    within in
    let fits : to_z w16 (of_z w16 c.low-low.result) ≡ c.low-low.result = omega (arith, ints, c.low-low.type_inv) in
    omega (arith, ints, fits, c.low-low.ensures.low, end)

pub returns-in-Some-clause-found : goal.returns-in-Some-clause-found
returns-in-Some-clause-found g c =
    let p = g.F.PrimeField.P in
    let whole = g.S.ColumnSource.whole c.args.source.now in
    let held = c.args.self.now in
    let k = held.number in
    let alive = lists_in held.alive.items in
    let of = c.requires in
    let own : c.alive_at-own.result.now ≡ slice_index_or alive k [] =
    c.alive_at-own.ensures ∙ ap (λ (degrees : List (Vec Bool)). slice_index_or (lists_in degrees) k []) c.deref.ensures.value in
    let i = whole.complex.low +ℤ pos k in
    let stored = full_columns whole.complex k held.stored.columns.items in
    let line = full_column whole.complex k c.in-Some.line in
    let seen = subst (λ (seen : Option StoredColumn). IfSome seen (λ line.
    IsFirstLeft p whole.complex i c.alive_at-own.result.now stored held.next (full_column whole.complex k line))) c.in-Some.is
    c.in_ok-seen.ensures.first in
    let first : IsFirstLeft p whole.complex i (slice_index_or alive k []) stored held.next line =
    subst (λ (marks : List Bool). IsFirstLeft p whole.complex i marks stored held.next line) own seen in
    let count =
    degrees-left g.F.PrimeField.P (g.S.ColumnSource.whole c.args.source.now) c.element_laws.ensures.field c.low-low.ensures.opening
    (lists_in c.args.self.now.alive.items) c.args.self.now.history.items c.requires.alive_is in
    let within : c.args.self.now.number < length (g.S.ColumnSource.whole c.args.source.now).names =
    omega (arith, count, c.requires.number, length-map c.args.self.now.alive.items (λ (degree : Vec Bool). degree.items)) in
    let end =
    degree-opening p whole c.element_laws.ensures.field c.low-low.ensures.opening k within in
    let fits : to_z w16 (of_z w16 c.low-low.result) ≡ c.low-low.result = omega (arith, ints, c.low-low.type_inv) in
    let degree : to_z w16 (of_z w16 c.degree_at.result) ≡ i =
    omega (arith, ints, c.degree_at.ensures, end, fits, c.low-low.ensures.low, c.low-low.type_inv) in
    found-here p whole.complex c.element_laws.ensures.field of.is alive held.history.items of.alive_is k held.next
    stored of.way of.here of.within _ first refl degree refl

pub returns-in-Some-clause-open : goal.returns-in-Some-clause-open
returns-in-Some-clause-open g c =
    found-open g.F.PrimeField.P (g.S.ColumnSource.whole c.args.source.now).complex c.args.self.now.history.items _
    c.element_laws.ensures.field c.requires.is (returns-in-Some-clause-found g c)

pub returns-in-Some-clause-pivot : goal.returns-in-Some-clause-pivot
returns-in-Some-clause-pivot g c =
    is_pivot-found g.F.PrimeField.P (g.S.ColumnSource.whole c.args.source.now).complex c.element_laws.ensures.field c.args.self.now
    c.requires _ (returns-in-Some-clause-found g c)

pub first_from-requires : goal.first_from-requires
first_from-requires g c =
    let held = c.args.self.now in
    ap (λ (marks : List (Vec Bool)). map length (lists_in marks)) c.deref-in-None.ensures.value
    ∙ sizes-left g.F.PrimeField.P (g.S.ColumnSource.whole c.args.source.now) c.element_laws.ensures.field c.low-low.ensures.opening
    (lists_in held.alive.items) held.history.items c.requires.alive_is
    ∙ ap (λ (named : NamedComplex). map length named.names) (sym (ap g.S.ColumnSource.whole c.in_ok-seen.ensures.same))

pub returns-in-None-clause-found : goal.returns-in-None-clause-found
returns-in-None-clause-found g c =
    let p = g.F.PrimeField.P in
    let whole = g.S.ColumnSource.whole c.args.source.now in
    let held = c.args.self.now in
    let k = held.number in
    let alive = lists_in held.alive.items in
    let of = c.requires in
    let i = whole.complex.low +ℤ pos k in
    let stored = full_columns whole.complex k held.stored.columns.items in
    let marks = c.alive_at-own.result.now in
    let own : marks ≡ slice_index_or alive k [] =
    c.alive_at-own.ensures ∙ ap (λ (degrees : List (Vec Bool)). slice_index_or (lists_in degrees) k []) c.deref.ensures.value in
    let left : LeaveNone p whole.complex i marks stored held.next (length marks) =
    subst (λ (seen : Option StoredColumn). IfNone seen (LeaveNone p whole.complex i marks stored held.next (length marks))) c.in-None.is
    c.in_ok-seen.ensures.none in
    let none : LeaveNone p whole.complex i (slice_index_or alive k []) stored held.next (length (slice_index_or alive k [])) =
    subst (λ (marks : List Bool). LeaveNone p whole.complex i marks stored held.next (length marks)) own left in
    some-map (IsFirstFrom p whole.complex alive (k + 1)) (IsFound p whole.complex held.history.items)
    (found-above p whole.complex c.element_laws.ensures.field of.is alive held.history.items of.alive_is k held.next stored of.way of.here
    of.within none) c.first_from.result
    (subst₂ (λ (named : NamedComplex) (marks : List (Vec Bool)).
    IfOk c.first_from.result (λ seen. IfSome seen (IsFirstFrom p named.complex (lists_in marks) (k + 1)))) (ap g.S.ColumnSource.whole c.in_ok-seen.ensures.same)
    c.deref-in-None.ensures.value c.first_from.ensures.first)

pub returns-in-None-clause-open : goal.returns-in-None-clause-open
returns-in-None-clause-open g c =
    let p = g.F.PrimeField.P in
    let whole = g.S.ColumnSource.whole c.args.source.now in
    let history = c.args.self.now.history.items in
    some-map (IsFound p whole.complex history) (λ found. ¬ (is_zero (replay p whole.complex history) ≡ true))
    (λ found is_found. found-open p whole.complex history found c.element_laws.ensures.field c.requires.is is_found)
    c.first_from.result (returns-in-None-clause-found g c)

pub returns-in-None-clause-pivot : goal.returns-in-None-clause-pivot
returns-in-None-clause-pivot g c =
    let p = g.F.PrimeField.P in
    let complex = (g.S.ColumnSource.whole c.args.source.now).complex in
    let held = c.args.self.now in
    some-map (IsFound p complex held.history.items) (λ found. IsPivot (replay p complex held.history.items) (pivot_of found))
    (is_pivot-found p complex c.element_laws.ensures.field held c.requires) c.first_from.result (returns-in-None-clause-found g c)

pub returns-in-None-clause-none : goal.returns-in-None-clause-none
returns-in-None-clause-none g c =
    let p = g.F.PrimeField.P in
    let whole = g.S.ColumnSource.whole c.args.source.now in
    let held = c.args.self.now in
    let k = held.number in
    let alive = lists_in held.alive.items in
    let of = c.requires in
    let i = whole.complex.low +ℤ pos k in
    let stored = full_columns whole.complex k held.stored.columns.items in
    let marks = c.alive_at-own.result.now in
    let own : marks ≡ slice_index_or alive k [] =
    c.alive_at-own.ensures ∙ ap (λ (degrees : List (Vec Bool)). slice_index_or (lists_in degrees) k []) c.deref.ensures.value in
    let left : LeaveNone p whole.complex i marks stored held.next (length marks) =
    subst (λ (seen : Option StoredColumn). IfNone seen (LeaveNone p whole.complex i marks stored held.next (length marks))) c.in-None.is
    c.in_ok-seen.ensures.none in
    let none : LeaveNone p whole.complex i (slice_index_or alive k []) stored held.next (length (slice_index_or alive k [])) =
    subst (λ (marks : List Bool). LeaveNone p whole.complex i marks stored held.next (length marks)) own left in
    let size : length alive ≡ length held.alive.items = length-map held.alive.items (λ (degree : Vec Bool). degree.items) in
    none-map (AllLeaveNone p whole.complex alive (k + 1) (length held.alive.items))
    (is_zero (replay p whole.complex held.history.items) ≡ true)
    (λ above.
    found-none p whole.complex c.element_laws.ensures.field of.is alive held.history.items of.alive_is k held.next stored of.way of.here
    of.within none (omega (arith, of.number, size)) (subst (AllLeaveNone p whole.complex alive (k + 1)) (sym size) above))
    c.first_from.result
    (subst₂ (λ (named : NamedComplex) (marks : List (Vec Bool)).
    IfOk c.first_from.result (λ seen. IfNone seen (AllLeaveNone p named.complex (lists_in marks) (k + 1) (length marks))))
    (ap g.S.ColumnSource.whole c.in_ok-seen.ensures.same) c.deref-in-None.ensures.value c.first_from.ensures.none)
