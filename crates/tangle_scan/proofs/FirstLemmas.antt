-- Before the first crossing: the complex in memory is the first scan of the theorem, under other terms for it.
use Rattle.std.proofs.Common.{◌≡◌, ℕ, zero, suc, ◌+◌, ◌*◌, ◌%◌, ◌<◌, ◌≤◌, ◌∙◌, List, [], ◌∷◌, ℤ, length, map, refl, sym, subst, ap, ap₂, arith, Bool, cond, IsTrue}
use Rattle.std.specs.Prelude.{All, None, Some, pos, ◌+ℤ◌, ◌≤ℤ◌, slice_index_or}
use Rattle.std.specs.List.{AllByRecursion, Contains}
use Rattle.std.proofs.lemmas.Int.{ints}
use Rattle.std.proofs.lemmas.List.{get_or-map, length-map}
use Rattle.std.proofs.lemmas.List.Elements.{All-cons, All-nil}
use Rattle.kh_types.specs.Acceptance.{accepted}
use Rattle.kh_types.specs.Code.{Code, arc_count}
use Rattle.kh_types.specs.declared.limits.TheConstants.{CROSSINGS}
use Rattle.kh_types.proofs.AcceptedLemmas.{HasArcsTwice-accepted}
use Rattle.kh_types.proofs.FilteredRanges.{filter-none}
use Rattle.dotted_maps.specs.Maps.{coefficient_in}
use Rattle.dotted_maps.specs.declared.term.Term.{Term}
use Rattle.added_crossing_laws.specs.Codes.{is_open}
use Rattle.cell_laws.proofs.NoDoubles.{once-range}
use Rattle.scan_laws.specs.Scans as scans
use Rattle.scan_laws.specs.Scans.{Scan, dot_sets, first_object, first_scan}
use Rattle.scan_laws.specs.Steps.{IsReached, IsScanStep}
use Rattle.scan_laws.proofs.Whole.{reached-first, reached-step}
use Rattle.tangle_maps.specs.Pairings.{paired_arcs}
use Rattle.tangle_maps.specs.Sums.{AreReduced, number_in}
use Rattle.tangle_scan.specs.declared.complex.Entry.{Entry}
use Rattle.tangle_scan.specs.declared.complex.TangleComplex.{TangleComplex}
use Rattle.tangle_scan.specs.declared.complex.Object.{Object}
use Rattle.tangle_scan.specs.Held.{HasNoPivot, IsColumn, IsComplexBehind, IsOpenAt, alive_places, column_at, degree_at, object_at, scan_behind, terms_between, terms_to}
use Rattle.tangle_scan.specs.Scanned.{IsFirstComplex}

at-only : (column : List Entry) (x : ℕ) → slice_index_or (column ∷ []) x column ≡ column
at-only column zero = refl
at-only column (suc x) = refl

only-column : {C : Type 0} (items : C → List Entry) (columns : List C) (P : List Entry → Type 0) → map items columns ≡ [] ∷ []
    → P [] → All (λ column. P (items column)) columns
only-column items columns P are holds k d below =
    subst P
    (sym (sym (get_or-map items columns k d [] below) ∙ ap (λ (all : List (List Entry)). slice_index_or all k []) are ∙ at-only [] k))
    holds

no-maps : (p n : ℕ) → IsColumn p n []
no-maps p n =
    record {
      heads = All-nil (λ (entry : Entry). entry.head < n);
      once = λ y. omega arith;
      reduced = All-nil (λ (entry : Entry). AreReduced p entry.terms.items);
    }

only-zero : (x : ℕ) → Contains (0 ∷ []) x → 0 ≡ x
only-zero x (zero, below, is) = is
only-zero x (suc k, below, is) = absurd (omega (arith, below))

module _ (complex : TangleComplex) (is : IsFirstComplex complex) where
  abbrev objects : List Object
  objects = complex.objects.items

  no-column : (x : ℕ) → column_at complex x ≡ []
  no-column x = ap (λ (columns : List (List Entry)). slice_index_or columns x []) is.columns ∙ at-only [] x

  no-terms : (x y : ℕ) → terms_between complex x y ≡ []
  no-terms x y = ap (λ column. terms_to column y) (no-column x)

  one-place : alive_places objects ≡ 0 ∷ []
  one-place = ap alive_places is.objects ∙ ap (λ (alive : Bool). cond alive (0 ∷ []) []) is.first.alive

  first-at : object_at [] objects 0 ≡ first_object
  first-at =
      ap (λ (xs : List Object). object_at [] xs 0) is.objects
      ∙ ap₂ (λ (degree : ℕ) (shift : ℤ). let object : scans.Object = record { pairs = []; degree = degree; shift = shift } in object)
      is.first.degree is.first.shift

  abbrev seen : List ℕ → Scan
  seen numbers = record { done = 0; numbers = numbers; object = object_at [] objects; terms = terms_between complex }

  seen-reached : (p : ℕ) (code : Code) → IsReached p 0 0 code (seen (0 ∷ []))
  seen-reached p code =
      reached-step p 0 0 code first_scan (seen (0 ∷ [])) (reached-first p 0 0 code)
      (IsScanStep.renumbered (record {
        done = refl;
        number = λ x. x;
        old = λ x. x;
        matched = record {
          first_once = once-range 0 1;
          second_once = once-range 0 1;
          there = λ x has. has;
          back_there = λ y has. has;
          to_back = λ y has. refl;
          back_to = λ x has. refl;
        };
        object = λ x has. subst (λ z. object_at [] objects z ≡ first_object) (only-zero x has) first-at;
        dots = λ x y has_x has_y.
            subst (λ (terms : List Term). AllByRecursion (λ term. term.dots < dot_sets code (seen (0 ∷ [])) x y) terms)
            (sym (no-terms x y)) tt;
        terms = λ x y kept has_x has_y below. ap (λ (terms : List Term). coefficient_in terms kept % p) (no-terms x y);
      }))

  pub first-reached : (p : ℕ) (code : Code) → IsReached p 0 0 code (scan_behind 0 [] complex)
  first-reached p code = subst (λ numbers. IsReached p 0 0 code (seen numbers)) (sym one-place) (seen-reached p code)

  pub first-pivots : HasNoPivot complex
  first-pivots tail head number pivot =
      let none = no-terms tail head in
      let told = pivot.told in
      never number (sym (ap number_in none) ∙ told)
    where
      never : (n : ℕ) → None ≡ Some n → ⊥
      never n same = cc

  object-alone : (P : Object → Type 0) → P is.object → All P objects
  object-alone P holds = subst (All P) (sym is.objects) (All-cons P is.object [] holds (All-nil P))

  first-pairs : [] ≡ paired_arcs is.object.pairing.partners
  first-pairs = sym (ap paired_arcs is.first.partners)

  pub first-complex : (p : ℕ) → IsComplexBehind p 0 [] complex
  first-complex p =
      record {
        objects = record {
          pairs = object-alone (λ object. [] ≡ paired_arcs object.pairing.partners) first-pairs;
          degrees = object-alone (λ object. object.degree ≤ 0) (omega (arith, is.first.degree));
          least = object-alone (λ object. pos 0 ≤ℤ (object.shift +ℤ pos (2 * 0))) (omega (arith, ints, is.first.shift));
          most = object-alone (λ object. object.shift ≤ℤ pos (2 * 0)) (omega (arith, ints, is.first.shift));
        };
        size = sizes (ap length is.objects) (sym (length-map complex.columns.items (λ column. column.items)) ∙ ap length is.columns);
        columns = only-column (λ column. column.items) complex.columns.items (IsColumn p (length objects)) is.columns (no-maps p (length objects));
        raises = λ x below. subst (λ (column : List Entry). All (λ entry. degree_at objects entry.head ≡ degree_at objects x + 1) column)
            (sym (no-column x)) (All-nil (λ entry. degree_at objects entry.head ≡ degree_at objects x + 1));
      }
    where
      sizes : {n m : ℕ} → n ≡ 1 → m ≡ 1 → m ≡ n
      sizes one other = other ∙ sym one

-- no arc is open yet
pub first-opened : (code : Code) → IsTrue (accepted code) → length code.crossings ≤ CROSSINGS → IsOpenAt code 0 []
first-opened code accepted_is few =
    record {
      twice = HasArcsTwice-accepted code accepted_is;
      fits = omega (arith, few);
      within = omega arith;
      open_arcs = sym (filter-none (is_open code 0) 1 (arc_count code.crossings + code.loops) (λ x from below. refl));
    }
