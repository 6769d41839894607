-- Behind all crossings, where no map is a number other than 0 times the identity, no map is left. No arc is open there: so all
-- objects have the same partners, and a map has one dot set at most, the empty one. A reduced sum of terms without dots has no
-- term, or one, and is then a number. Where partners pair no arc, each arc is its own partner, so tail and head of a map agree; a
-- map with a term would be a number times the identity, and there is no such map. All coefficients between objects that are there
-- are 0: the scan is a last one.
use Rattle.std.proofs.Common.{◌≡◌, ℕ, inl, inr, ◌%◌, ◌^◌, ◌<◌, ◌∙◌, List, [], ◌∷◌, ◌++◌, length, get_or, map, refl, sym, subst, ap, arith, Bool, true, false, cond, not, IsTrue}
use Rattle.std.specs.Prelude.{◌⊎◌, All, None, Some, nat_eq, slice_index, slice_index_or}
use Rattle.std.specs.List.{AllByRecursion, Contains, filter, find, range_with_len}
use Rattle.std.specs.Option.{option_map_or}
use Rattle.std.proofs.lemmas.Bool.{cases_Bool, eq-eqb, eqb-true}
use Rattle.std.proofs.lemmas.List.{ext_get_or, length-map}
use Rattle.std.proofs.lemmas.List.Elements.{All-get_or, All-head, All-map, All-nil, All-tail}
use Rattle.std.proofs.lemmas.List.FromFn.{get_or-range_with_len, length-range_with_len}
use Rattle.std.proofs.lemmas.List.Sums.{sum_by-cons}
use Rattle.kh_types.specs.Acceptance.{accepted}
use Rattle.kh_types.specs.Classes.{classes_of, is_least}
use Rattle.kh_types.specs.Residues.{HasInverses}
use Rattle.kh_types.proofs.Lists.{Contains-filter}
use Rattle.dotted_maps.specs.Maps.{coefficient_in}
use Rattle.dotted_maps.specs.declared.term.Term.{Term}
use Rattle.added_crossing_laws.specs.Codes.{points_at}
use Rattle.cell_laws.proofs.Members.{Contains-kept}
use Rattle.scan_laws.specs.Scans.{IsScanOf, Scan, dot_sets, pairs_of}
use Rattle.scan_laws.specs.Steps.{IsLast}
use Rattle.scan_laws.proofs.LastPoints.{nothing-open}
use Rattle.scan_laws.proofs.Whole.{reached-stands}
use Rattle.tangle_maps.specs.declared.pairing.TheConstants.{POINTS}
use Rattle.tangle_maps.specs.Pairings.{is_paired, paired_arcs}
use Rattle.tangle_maps.specs.Sums.{AreReduced, has_dots, number_in}
use Rattle.tangle_scan.specs.declared.complex.Entry.{Entry}
use Rattle.tangle_scan.specs.declared.complex.Object.{Object}
use Rattle.tangle_scan.specs.Held.{HasNoPivot, IsColumn, column_at, has_head, is_alive_at, partners_at, terms_between, terms_to}
use Rattle.tangle_scan.specs.Scanned.{IsScanned, Scanned, scan_of}

abbrev one_if : Bool → ℕ
one_if b = cond b 1 0

counts : (term : Term) → term.dots < 1 → one_if (has_dots 0 term) ≡ 1
counts term below = ap one_if (eq-eqb term.dots 0 (omega (arith, below)))

-- a reduced sum of terms without dots is 0 or a number
alone : (p : ℕ) (terms : List Term) → AreReduced p terms → AllByRecursion (λ term. term.dots < 1) terms
    → (terms ≡ []) ⊎ ((number : ℕ) × (number_in terms ≡ Some number))
alone p [] reduced dots = inl refl
alone p (term ∷ []) reduced dots =
    inr (term.coefficient, ap (λ (b : Bool). cond b (Some term.coefficient) None) (eq-eqb term.dots 0 (omega (arith, dots.0))))
alone p (term ∷ other ∷ terms) reduced dots =
    absurd (omega (
      arith,
      reduced.once 0,
      counts term dots.0,
      counts other dots.1.0,
      sum_by-cons (λ (t : Term). one_if (has_dots 0 t)) term (other ∷ terms),
      sum_by-cons (λ (t : Term). one_if (has_dots 0 t)) other terms,
    ))

nothing-reduced : (p : ℕ) → AreReduced p []
nothing-reduced p = record {
  some = All-nil (λ (term : Term). 0 < term.coefficient);
  below = All-nil (λ (term : Term). term.coefficient < p);
  once = λ dots. omega arith;
}

terms-reduced : (p y : ℕ) (column : List Entry) → All (λ entry. AreReduced p entry.terms.items) column → AreReduced p (terms_to column y)
terms-reduced p y [] reduced = nothing-reduced p
terms-reduced p y (entry ∷ column) reduced =
    elim (has_head y entry)
    as (λ b. AreReduced p (option_map_or (λ (found : Entry). found.terms.items) (cond b (Some entry) (find (has_head y) column)) [])) [
      | true ↦ All-head (λ (found : Entry). AreReduced p found.terms.items) entry column reduced
      | false ↦ terms-reduced p y column (All-tail (λ (found : Entry). AreReduced p found.terms.items) entry column reduced)
    ]

-- partners that pair no arc
no-partners : (partners : List ℕ) → length partners ≡ POINTS → paired_arcs partners ≡ [] → partners ≡ range_with_len 0 POINTS
no-partners partners size none =
    ext_get_or 0 partners (range_with_len 0 POINTS) (size ∙ sym (length-range_with_len 0 POINTS))
    (λ x below.
    let within : x < POINTS = omega (arith, below, size) in
    own x within ∙ sym (at-range POINTS x within))
  where
    at-range : (n x : ℕ) → x < n → get_or (range_with_len 0 n) x 0 ≡ x
    at-range n x below = omega (arith, get_or-range_with_len 0 n x 0 below)

    not-false : (b : Bool) → not b ≡ false → b ≡ true
    not-false true same = refl
    not-false false same = sym same

    unpaired : (x : ℕ) → x < POINTS → is_paired partners x ≡ false
    unpaired x within = elim (cases_Bool (is_paired partners x)) [
      | inl paired ↦
          let has = Contains-filter (is_paired partners) (range_with_len 0 POINTS) x paired
          (x, omega (arith, within, length-range_with_len 0 POINTS), get_or-range x within) in
          absurd (empty x (subst (λ xs. Contains xs x) none has))
      | inr alone ↦ alone
    ]
      where
        get_or-range : (x : ℕ) → x < POINTS → slice_index_or (range_with_len 0 POINTS) x x ≡ x
        get_or-range x within = omega (arith, get_or-range_with_len 0 POINTS x x within)

        empty : (x : ℕ) → Contains [] x → ⊥
        empty x (k, below, is) = omega (arith, below)

    own : (x : ℕ) → x < POINTS → get_or partners x 0 ≡ x
    own x within = sym (eqb-true x (slice_index partners x) (not-false (nat_eq x (slice_index partners x)) (unpaired x within)))

module _ (p : ℕ) (held : Scanned) (field : HasInverses p) (is : IsTrue (accepted held.front.diagram)) (kept : IsScanned p held)
    (done : held.front.done ≡ length held.front.diagram.crossings) (none : HasNoPivot held.complex)
    (sizes : All (λ object. length object.pairing.partners ≡ POINTS) held.complex.objects.items) where
  abbrev scan : Scan
  scan = scan_of held

  abbrev objects : List Object
  objects = held.complex.objects.items

  of : IsScanOf held.front.diagram scan
  of = (reached-stands p held.front.diagram 0 0 scan field is kept.reached).of

  nothing : (points_at held.front.diagram held.front.done).opened ≡ []
  nothing = nothing-open held.front.diagram is scan of done

  one-set : (x y : ℕ) → dot_sets held.front.diagram scan x y ≡ 1
  one-set x y =
      ap (λ (points : List ℕ). 2 ^ length (filter (is_least (classes_of (points_at held.front.diagram 0).size
      (pairs_of scan x ++ pairs_of scan y))) points)) nothing

  -- an object that is there
  record IsThere (x : ℕ) : Type 0 where
    below : x < length objects
    alive : is_alive_at objects x ≡ true

  there : (x : ℕ) → Contains scan.numbers x → IsThere x
  there x has =
      let kept_place = Contains-kept (is_alive_at objects) (range_with_len 0 (length objects)) x has in
      record { below = in-range (length objects) x kept_place.0; alive = kept_place.1 }
    where
      in-range : (n x : ℕ) → Contains (range_with_len 0 n) x → x < n
      in-range n x (k, below, is) =
          let within : k < n = omega (arith, below, length-range_with_len 0 n) in
          omega (arith, within, get_or-range_with_len 0 n k x within, is)

  partners-last : (x : ℕ) → x < length objects → partners_at objects x ≡ range_with_len 0 POINTS
  partners-last x below =
      let all : List (List ℕ) = map (λ (object : Object). object.pairing.partners) objects in
      let within : x < length all = omega (arith, below, length-map objects (λ (object : Object). object.pairing.partners)) in
      no-partners (partners_at objects x)
      (All-get_or (λ (partners : List ℕ). length partners ≡ POINTS) all x [] within
      (All-map (λ (partners : List ℕ). length partners ≡ POINTS) (λ (object : Object). object.pairing.partners) objects sizes))
      (sym (All-get_or (λ (partners : List ℕ). held.front.opened.items ≡ paired_arcs partners) all x [] within
      (All-map (λ (partners : List ℕ). held.front.opened.items ≡ paired_arcs partners) (λ (object : Object). object.pairing.partners)
      objects kept.complex.objects.pairs))
      ∙ (kept.front.open_arcs ∙ nothing))

  between-reduced : (x y : ℕ) → x < length objects → AreReduced p (terms_between held.complex x y)
  between-reduced x y below =
      let columns = held.complex.columns.items in
      let all : List (List Entry) = map (λ column. column.items) columns in
      let within : x < length all = omega (arith, below, kept.complex.size, length-map columns (λ column. column.items)) in
      terms-reduced p y (column_at held.complex x)
      (All-get_or (IsColumn p (length objects)) all x [] within
      (All-map (IsColumn p (length objects)) (λ column. column.items) columns kept.complex.columns)).reduced

  none-left : (x y : ℕ) → Contains scan.numbers x → Contains scan.numbers y → terms_between held.complex x y ≡ []
  none-left x y has_x has_y =
      let tail = there x has_x in
      let head = there y has_y in
      elim (alone p (terms_between held.complex x y) (between-reduced x y tail.below)
      (subst (λ n. AllByRecursion (λ term. term.dots < n) (terms_between held.complex x y)) (one-set x y) (of.dots x y has_x has_y))) [
        | inl empty ↦ empty
        | inr number ↦
            absurd (none x y number.0
            (record {
              is_there = tail.alive;
              leads_there = head.alive;
              partners = partners-last y head.below ∙ sym (partners-last x tail.below);
              told = number.1;
            }))
      ]

  pub last-scan : IsLast p 0 0 held.front.diagram scan
  last-scan =
      record {
        done = done;
        terms = λ x y kept_dots has_x has_y below.
            ap (λ (terms : List Term). coefficient_in terms kept_dots % p) (none-left x y has_x has_y);
      }
