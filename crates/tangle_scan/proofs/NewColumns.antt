-- The column of a new object. Its entries are right for their heads, so what has to be shown is that it leaves nothing out: where
-- it has no entry the coefficient is 0. First, a column has an entry for a head, whose terms it gives, or none, and gives no
-- terms. An entry of the new column is that of some target, and a target without an entry has no terms, as no origin stands at
-- two places. Where there is no entry for an origin: with the same smoothing, if the old column leads to its object it is a
-- target, and else the coefficient is a sum over no terms; from 0 to 1 at one object it is a target of the saddle; in all other
-- cases the coefficient is 0. So a map of the new column has the new coefficients, and its dot sets are in range.
use Rattle.std.proofs.Common.{◌≡◌, ◌⊎◌, ℕ, inl, inr, ◌*◌, ◌^◌, ◌<◌, ◌≤◌, ◌∙◌, List, [], ◌∷◌, get_or, length, map, refl, sym, subst, ap, ap₂, arith, false, cond, not}
use Rattle.std.specs.Prelude.{nat_eq, ◌&&◌, Some}
use Rattle.std.specs.List.{Contains, count_by, find, flat_map, range_with_len, sum_by}
use Rattle.std.specs.Option.{option_map_or}
use Rattle.std.proofs.lemmas.Bool.{and_parts, both_ways, cases_Bool, cases_eq, eq-eqb, eqb-true, ne_eqb}
use Rattle.std.proofs.lemmas.List.Elements.{Contains-append_left, Contains-append_right}
use Rattle.std.proofs.lemmas.List.Sums.{sum_by-cons}
use Rattle.kh_types.specs.Code.{Code}
use Rattle.kh_types.specs.Residues.{Same}
use Rattle.kh_types.proofs.Lists.{Contains-filter, Contains-flat_map, Contains-map, Contains-range}
use Rattle.kh_types.proofs.Residues.{same-equal}
use Rattle.dotted_maps.specs.declared.term.Term.{Term}
use Rattle.dotted_maps.specs.Maps.{coefficient_in}
use Rattle.surface_laws.specs.Surfaces.{value}
use Rattle.added_crossing_laws.specs.Codes.{closed_at}
use Rattle.added_crossing_laws.specs.Entries.{added_surface}
use Rattle.cell_laws.specs.Alike.{HasNoDoubles}
use Rattle.cell_laws.proofs.Matched.{place-once}
use Rattle.cell_laws.proofs.Members.{Contains-cases, Contains-first, Contains-kept, Contains-later}
use Rattle.tangle_maps.specs.Sums.{HaveDotsBelow}
use Rattle.scan_laws.specs.Scans.{Scan, pairs_of}
use Rattle.scan_laws.specs.Adding.{Origin, added_coefficient, new_coefficient, origin_of, origins_with, saddle_coefficient}
use Rattle.scan_laws.proofs.Origins.{IsOrigin}
use Rattle.tangle_scan.specs.declared.adding.Adding.{Adding}
use Rattle.tangle_scan.specs.declared.complex.Entry.{Entry}
use Rattle.tangle_scan.specs.Additions.{HasEntriesTo, IsColumnFrom, IsEntryTo, StandsAt, all_origins, code_in, has_terms, head_of, objects_in, saddle_targets, scan_in, sets_from, targets_along, targets_of}
use Rattle.tangle_scan.specs.Held.{column_at, has_head, is_alive_at, terms_to}
use Rattle.tangle_scan.proofs.ZippedLists.{counted-by, zip-back, zip-there}

-- what a column has for a head

pub record HasEntryAt (column : List Entry) (y : ℕ) : Type 0 where
  pub entry : Entry
  pub has : Contains column entry
  pub head : entry.head ≡ y
  pub terms : terms_to column y ≡ entry.terms.items

pub record HasNoEntryAt (column : List Entry) (y : ℕ) : Type 0 where
  pub none : (entry : Entry) → Contains column entry → entry.head ≡ y → ⊥
  pub terms : terms_to column y ≡ []

pub entry-cases : (column : List Entry) (y : ℕ) → HasEntryAt column y ⊎ HasNoEntryAt column y
entry-cases [] y = inr (record { none = λ entry has head. omega (arith, has.1); terms = refl })
entry-cases (first ∷ column) y = elim (cases_Bool (has_head y first)) [
  | inl passes ↦
      inl (record {
        entry = first;
        has = Contains-first first column;
        head = eqb-true first.head y passes;
        terms = ap
            (λ b. option_map_or (λ (entry : Entry). entry.terms.items) (cond b (Some first) (find (has_head y) column)) []) passes;
      })
  | inr fails ↦
      let there : terms_to (first ∷ column) y ≡ terms_to column y =
      ap (λ b. option_map_or (λ (entry : Entry). entry.terms.items) (cond b (Some first) (find (has_head y) column)) []) fails in
      elim (entry-cases column y) [
        | inl found ↦
            inl (record {
              entry = found.entry;
              has = Contains-later first found.entry column found.has;
              head = found.head;
              terms = there ∙ found.terms;
            })
        | inr none ↦
            inr (record {
              none = λ entry has head. elim (Contains-cases first entry column has) [
                | inl same ↦
                    both_ways (has_head y first) fails (eq-eqb first.head y (ap (λ (e : Entry). e.head) same ∙ head))
                | inr later ↦ none.none entry later head
              ];
              terms = there ∙ none.terms;
            })
      ]
]

-- an entry's own terms
pub own-terms : (column : List Entry) (entry : Entry) → Contains column entry → count_by (has_head entry.head) column ≤ 1
    → terms_to column entry.head ≡ entry.terms.items
own-terms [] entry has once = absurd (omega (arith, has.1))
own-terms (first ∷ column) entry has once = elim (Contains-cases first entry column has) [
  | inl here ↦
      ap (λ b. option_map_or (λ (e : Entry). e.terms.items) (cond b (Some first) (find (has_head entry.head) column)) [])
      (eq-eqb first.head entry.head (ap (λ (e : Entry). e.head) here))
      ∙ ap (λ (e : Entry). e.terms.items) here
  | inr later ↦ elim (cases_Bool (has_head entry.head first)) [
    | inl passes ↦
        absurd (omega (
          arith,
          once,
          sum_by-cons (λ e. cond (has_head entry.head e) 1 0) first column,
          ap {B = ℕ} (λ b. cond b 1 0) passes,
          counted-by (has_head entry.head) entry column (eq-eqb entry.head entry.head refl) later,
        ))
    | inr fails ↦
        ap (λ b. option_map_or (λ (e : Entry). e.terms.items) (cond b (Some first) (find (has_head entry.head) column)) []) fails
        ∙ own-terms column entry later
        (omega (
          arith,
          once,
          sum_by-cons (λ e. cond (has_head entry.head e) 1 0) first column,
        ))
  ]
]

no-terms : (entry : Entry) → has_terms entry ≡ false → entry.terms.items ≡ []
no-terms entry fails = none entry.terms.items fails
  where
    none : (terms : List Term) → not (nat_eq (length terms) 0) ≡ false → terms ≡ []
    none [] fails = refl
    none (term ∷ terms) fails = absurd (both_ways (not (nat_eq (length (term ∷ terms)) 0)) fails (ap not (ne_eqb (length (term ∷ terms)) 0 (λ is. omega (arith, is)))))

module _ (p : ℕ) (adding : Adding) where
  abbrev code_here : Code
  code_here = code_in adding

  abbrev scan_here : Scan
  scan_here = scan_in adding

  abbrev with : ℕ → ℕ → List Origin
  with object smoothing = origins_with code_here scan_here object smoothing

  -- an entry of a column is right for some target
  pub entry-right : (from : Origin) (targets : List Origin) (column : List Entry) (entry : Entry)
      → HasEntriesTo p adding from targets column → Contains column entry
      → (to : Origin) × Contains targets to × IsEntryTo p adding from to entry
  entry-right from targets column entry has there =
      let kept = subst (λ (xs : List Entry). Contains xs entry) has.kept there in
      zip-back (IsEntryTo p adding from) targets has.all entry has.each (Contains-kept has_terms has.all entry kept).0

  -- a target has its terms
  pub target-right : (from : Origin) (targets : List Origin) (column : List Entry) (to : Origin) (y kept : ℕ)
      → HasEntriesTo p adding from targets column → HasNoDoubles (all_origins adding) → Contains targets to → StandsAt adding to y
      → HasNoEntryAt column y → kept < sets_from adding from to → Same p 0 (new_coefficient p 0 0 code_here scan_here from to kept)
  target-right from targets column to y kept has once there stands none below =
      let found = zip-there (IsEntryTo p adding from) targets has.all to has.each there in
      let entry = found.0 in
      let head : entry.head ≡ y = place-once (all_origins adding) entry.head y (origin_of 0 0 0) once found.2.head.within stands.within
      (found.2.head.there ∙ sym stands.there) in
      elim (cases_Bool (has_terms entry)) [
        | inl passes ↦
            absurd (none.none entry
            (subst (λ (xs : List Entry). Contains xs entry) (sym has.kept) (Contains-filter has_terms has.all entry passes found.1)) head)
        | inr fails ↦
            same-equal p 0 (coefficient_in entry.terms.items kept)
            (sym (ap (λ (ts : List Term). coefficient_in ts kept) (no-terms entry fails)))
            ∙ found.2.terms kept below
      ]

  -- targets are origins

  with-has : (to : Origin) → IsOrigin code_here scan_here to → Contains (with to.object to.smoothing) to
  with-has to is =
      let n = 2 ^ length (closed_at code_here scan_here.done to.smoothing (pairs_of scan_here to.object)) in
      Contains-map (origin_of to.object to.smoothing) (range_with_len 0 n) to.label (Contains-range n to.label is.label)

  along-has : (to : Origin) → IsOrigin code_here scan_here to → Contains (targets_along adding to.smoothing to.object) to
  along-has to is =
      let alive = (Contains-kept (is_alive_at (objects_in adding)) (range_with_len 0 (length (objects_in adding))) to.object is.object).1 in
      subst (λ b. Contains (cond b (with to.object to.smoothing) []) to) (sym alive) (with-has to is)

  -- where the column has no entry the coefficient is 0
  pub no-entry-right : (from to : Origin) (column : List Entry) (y kept : ℕ) → IsColumnFrom p adding from column
      → HasNoDoubles (all_origins adding) → IsOrigin code_here scan_here to → StandsAt adding to y → HasNoEntryAt column y
      → kept < sets_from adding from to → Same p 0 (new_coefficient p 0 0 code_here scan_here from to kept)
  no-entry-right from to column y kept is once origin stands none below =
      let old = column_at adding.complex.now from.object in
      let targets = flat_map (targets_along adding from.smoothing) (map head_of old) in
      let added = added_coefficient 0 0 code_here scan_here from to kept in
      let saddle = saddle_coefficient p 0 0 code_here scan_here from to kept in
      let is_saddle = nat_eq from.object to.object && nat_eq from.smoothing 0 in
      elim (cases_Bool (nat_eq from.smoothing to.smoothing)) [
        | inl alike ↦ elim (entry-cases old to.object) [
          | inl found ↦
              target-right from (targets_of adding from) column to y kept is once
              (Contains-append_left targets (saddle_targets adding from) to
              (Contains-flat_map (targets_along adding from.smoothing) (map head_of old) to.object to
              (subst (λ (x : ℕ). Contains (map head_of old) x) found.head (Contains-map head_of old found.entry found.has))
              (subst (λ (e : ℕ). Contains (targets_along adding e to.object) to)
              (sym (eqb-true from.smoothing to.smoothing alike)) (along-has to origin))))
              stands none below
          | inr nothing ↦
              same-equal p 0 (new_coefficient p 0 0 code_here scan_here from to kept)
              (sym (ap (λ b. cond b added (cond is_saddle saddle 0)) alike
              ∙ ap
              (λ (ts : List Term).
              sum_by
              (λ term. term.coefficient
              * value 0 0 (added_surface code_here scan_here.done from.smoothing (pairs_of scan_here from.object) (pairs_of scan_here to.object)
              term.dots from.label to.label kept))
              ts)
              nothing.terms))
        ]
        | inr differ ↦ elim (cases_Bool is_saddle) [
          | inl passes ↦
              let parts = and_parts (nat_eq from.object to.object) (nat_eq from.smoothing 0) passes in
              let same : from.object ≡ to.object = eqb-true from.object to.object parts.0 in
              let zero : from.smoothing ≡ 0 = eqb-true from.smoothing 0 parts.1 in
              let one : to.smoothing ≡ 1 = other from.smoothing to.smoothing zero origin.smoothing differ in
              target-right from (targets_of adding from) column to y kept is once
              (Contains-append_right targets (saddle_targets adding from) to
              (subst (λ b. Contains (cond b (with from.object 1) []) to) (sym parts.1)
              (subst (λ (o : ℕ). Contains (with o 1) to) (sym same)
              (subst (λ (e : ℕ). Contains (with to.object e) to) one (with-has to origin)))))
              stands none below
          | inr fails ↦
              same-equal p 0 (new_coefficient p 0 0 code_here scan_here from to kept)
              (sym (ap₂ (λ b c. cond b added (cond c saddle 0)) differ fails))
        ]
      ]
    where
      other : (e f : ℕ) → e ≡ 0 → f < 2 → nat_eq e f ≡ false → f ≡ 1
      other e f same below differ = elim (cases_eq f 0) [
        | inl none ↦ absurd (both_ways (nat_eq e f) differ (eq-eqb e f (same ∙ sym none)))
        | inr some ↦ omega (arith, below, some)
      ]

  -- a new map has the new coefficients
  pub column-right : (from to : Origin) (column : List Entry) (y kept : ℕ) → IsColumnFrom p adding from column
      → HasNoDoubles (all_origins adding) → IsOrigin code_here scan_here to → StandsAt adding to y → kept < sets_from adding from to
      → Same p (coefficient_in (terms_to column y) kept) (new_coefficient p 0 0 code_here scan_here from to kept)
  column-right from to column y kept is once origin stands below = elim (entry-cases column y) [
    | inl found ↦
        let right = entry-right from (targets_of adding from) column found.entry is found.has in
        let same : right.0 ≡ to = sym right.2.head.there ∙ ap (λ x. get_or (all_origins adding) x (origin_of 0 0 0)) found.head ∙ stands.there in
        same-equal p (coefficient_in (terms_to column y) kept) (coefficient_in found.entry.terms.items kept)
        (ap (λ (ts : List Term). coefficient_in ts kept) found.terms)
        ∙ (subst (λ (w : Origin). IsEntryTo p adding from w found.entry) same right.2).terms kept below
    | inr none ↦
        same-equal p (coefficient_in (terms_to column y) kept) 0 (ap (λ (ts : List Term). coefficient_in ts kept) none.terms)
        ∙ no-entry-right from to column y kept is once origin stands none below
  ]

  pub column-dots : (from to : Origin) (column : List Entry) (y : ℕ) → IsColumnFrom p adding from column → StandsAt adding to y
      → HaveDotsBelow (sets_from adding from to) (terms_to column y)
  column-dots from to column y is stands = elim (entry-cases column y) [
    | inl found ↦
        let right = entry-right from (targets_of adding from) column found.entry is found.has in
        let same : right.0 ≡ to = sym right.2.head.there ∙ ap (λ x. get_or (all_origins adding) x (origin_of 0 0 0)) found.head ∙ stands.there in
        subst (λ (ts : List Term). HaveDotsBelow (sets_from adding from to) ts) (sym found.terms)
        (subst (λ (w : Origin). IsEntryTo p adding from w found.entry) same right.2).dots
    | inr none ↦ subst (λ (ts : List Term). HaveDotsBelow (sets_from adding from to) ts) (sym none.terms) tt
  ]
