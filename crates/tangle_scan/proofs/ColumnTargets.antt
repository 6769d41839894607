-- Where a new column leads: to no object twice, and to objects of the next degree.
-- The heads of an old column are all different, and so are labels; so no target stands twice, and a saddle's has another smoothing than
-- all others. As each entry stands at its target's place, no head stands twice.
use Rattle.std.proofs.Common.{◌≡◌, ℕ, inl, inr, zero, suc, ◌+◌, ◌^◌, ◌≤◌, ◌∙◌, List, [], ◌∷◌, get_or, length, map, refl, sym, subst, ap, arith, Bool, true, false, cond}
use Rattle.std.specs.Prelude.{nat_eq}
use Rattle.std.specs.List.{Contains, count_by, flat_map, range_with_len}
use Rattle.std.proofs.lemmas.Bool.{eqb-true}
use Rattle.std.proofs.lemmas.List.Elements.{All-contains, Contains-append_cases}
use Rattle.kh_types.proofs.Lists.{count_by-map}
use Rattle.added_crossing_laws.specs.Codes.{closed_at}
use Rattle.cell_laws.specs.Alike.{HasNoDoubles}
use Rattle.cell_laws.proofs.Members.{Contains-flattened, Contains-made}
use Rattle.cell_laws.proofs.NoDoubles.{once-append, once-flat, once-map, once-range}
use Rattle.scan_laws.specs.Scans.{Scan, first_object, pairs_of}
use Rattle.scan_laws.specs.Adding.{Origin, origin_of, origins_with}
use Rattle.scan_laws.proofs.Origins.{is_same, origins-test}
use Rattle.tangle_scan.specs.declared.adding.Adding.{Adding}
use Rattle.tangle_scan.specs.declared.complex.Entry.{Entry}
use Rattle.tangle_scan.specs.declared.complex.Object.{Object}
use Rattle.tangle_scan.specs.Additions.{IsColumnFrom, IsEntryTo, all_origins, code_in, has_terms, head_of, objects_in, saddle_targets, scan_in, targets_along, targets_of}
use Rattle.tangle_scan.specs.Held.{IsColumn, RaisesDegree, column_at, degree_at, has_head, is_alive_at, object_of}
use Rattle.tangle_scan.proofs.ZippedLists.{count-filter, counts-once, once-count, zip-count}

-- an origin has an object and a smoothing
pub record IsOf (object smoothing : ℕ) (w : Origin) : Type 0 where
  pub object_is : w.object ≡ object
  pub smoothing_is : w.smoothing ≡ smoothing

nothing-once : {A : Type 0} → HasNoDoubles {A = A} []
nothing-once k l d less within = absurd (omega (arith, within))

pub degree-same : (opened : List ℕ) (objects : List Object) (place : ℕ)
    → degree_at objects place ≡ (get_or (map (object_of opened) objects) place first_object).degree
degree-same opened [] zero = refl
degree-same opened [] (suc place) = refl
degree-same opened (object ∷ objects) zero = refl
degree-same opened (object ∷ objects) (suc place) = degree-same opened objects place

module _ (adding : Adding) where
  abbrev scan_here : Scan
  scan_here = scan_in adding

  abbrev with : ℕ → ℕ → List Origin
  with object smoothing = origins_with (code_in adding) scan_here object smoothing

  abbrev labels : ℕ → ℕ → List ℕ
  labels object smoothing = range_with_len 0 (2 ^ length (closed_at (code_in adding) scan_here.done smoothing (pairs_of scan_here object)))

  with-are : (object smoothing : ℕ) (w : Origin) → Contains (with object smoothing) w → IsOf object smoothing w
  with-are object smoothing w has =
      let made = (Contains-made (origin_of object smoothing) (labels object smoothing) w has).2 in
      record {
        object_is = sym (ap (λ (v : Origin). v.object) made);
        smoothing_is = sym (ap (λ (v : Origin). v.smoothing) made);
      }

  with-once : (object smoothing : ℕ) → HasNoDoubles (with object smoothing)
  with-once object smoothing =
      once-map (origin_of object smoothing) (labels object smoothing) (λ k l same. ap (λ (v : Origin). v.label) same)
      (once-range 0 (2 ^ length (closed_at (code_in adding) scan_here.done smoothing (pairs_of scan_here object))))

  -- what is there only where a test passes
  cond-has : (b : Bool) (xs : List Origin) (w : Origin) → Contains (cond b xs []) w → (b ≡ true) × Contains xs w
  cond-has true xs w has = (refl, has)
  cond-has false xs w has = absurd (omega (arith, has.1))

  cond-once : (b : Bool) (xs : List Origin) → HasNoDoubles xs → HasNoDoubles (cond b xs [])
  cond-once true xs once = once
  cond-once false xs once = nothing-once

  along-are : (smoothing object : ℕ) (w : Origin) → Contains (targets_along adding smoothing object) w → IsOf object smoothing w
  along-are smoothing object w has =
      with-are object smoothing w (cond-has (is_alive_at (objects_in adding) object) (with object smoothing) w has).1

  abbrev heads : Origin → List ℕ
  heads from = map head_of (column_at adding.complex.now from.object)

  pub targets-once : (p : ℕ) (from : Origin) → IsColumn p (length (objects_in adding)) (column_at adding.complex.now from.object)
      → HasNoDoubles (targets_of adding from)
  targets-once p from column =
      once-append (flat_map (targets_along adding from.smoothing) (heads from)) (saddle_targets adding from)
      (once-flat (targets_along adding from.smoothing) (heads from)
      (counts-once (heads from)
      (λ x. omega (
        arith,
        column.once x,
        count_by-map (λ y. nat_eq y x) head_of (column_at adding.complex.now from.object),
      )))
      (λ object.
      cond-once (is_alive_at (objects_in adding) object) (with object from.smoothing) (with-once object from.smoothing))
      (λ one other w has has_too.
      sym (along-are from.smoothing one w has).object_is ∙ (along-are from.smoothing other w has_too).object_is))
      (cond-once (nat_eq from.smoothing 0) (with from.object 1) (with-once from.object 1))
      (λ w has has_too.
      let along = Contains-flattened (targets_along adding from.smoothing) (heads from) w has in
      let saddle = cond-has (nat_eq from.smoothing 0) (with from.object 1) w has_too in
      absurd (omega (
        arith,
        (along-are from.smoothing along.0 w along.2).smoothing_is,
        (with-are from.object 1 w saddle.1).smoothing_is,
        eqb-true from.smoothing 0 saddle.0,
      )))

  pub column-once : (p : ℕ) (from : Origin) (column : List Entry) (y : ℕ)
      → IsColumn p (length (objects_in adding)) (column_at adding.complex.now from.object) → IsColumnFrom p adding from column
      → count_by (has_head y) column ≤ 1
  column-once p from column y old is =
      let there = get_or (all_origins adding) y (origin_of 0 0 0) in
      let passes = λ (to : Origin) (entry : Entry) (right : IsEntryTo p adding from to entry) (here : has_head y entry ≡ true).
      subst (λ (w : Origin). is_same there w ≡ true)
      (ap (λ x. get_or (all_origins adding) x (origin_of 0 0 0)) (sym (eqb-true entry.head y here)) ∙ right.head.there)
      (origins-test.self there) in
      omega (
        arith,
        ap (count_by (has_head y)) is.kept,
        count-filter (has_head y) has_terms is.all,
        zip-count (IsEntryTo p adding from) (is_same there) (has_head y) passes (targets_of adding from) is.all is.each,
        once-count is_same there (targets_of adding from) origins-test (targets-once p from old),
      )

  -- the degree of an object from its origin
  abbrev pub degree_from : Origin → ℕ
  degree_from w = (scan_here.object w.object).degree + w.smoothing

  pub targets-raise : (from to : Origin) → RaisesDegree adding.complex.now from.object → Contains (targets_of adding from) to
      → degree_from to ≡ degree_from from + 1
  targets-raise from to raises has =
      let objects = objects_in adding in
      let opened = adding.front.now.opened.items in
      let old = column_at adding.complex.now from.object in
      elim (Contains-append_cases (flat_map (targets_along adding from.smoothing) (heads from)) (saddle_targets adding from) to has) [
        | inl along ↦
            let found = Contains-flattened (targets_along adding from.smoothing) (heads from) to along in
            let entry = Contains-made head_of old found.0 found.1 in
            let are = along-are from.smoothing found.0 to found.2 in
            let higher = All-contains (λ (e : Entry). degree_at objects e.head ≡ degree_at objects from.object + 1) old entry.0 raises entry.1 in
            omega (
              arith,
              higher,
              ap (degree_at objects) entry.2,
              degree-same opened objects found.0,
              degree-same opened objects from.object,
              ap (λ x. (scan_here.object x).degree) are.object_is,
              are.smoothing_is,
            )
        | inr saddle ↦
            let parts = cond-has (nat_eq from.smoothing 0) (with from.object 1) to saddle in
            let are = with-are from.object 1 to parts.1 in
            omega (
              arith,
              ap (λ x. (scan_here.object x).degree) are.object_is,
              are.smoothing_is,
              eqb-true from.smoothing 0 parts.0,
            )
      ]
