-- Maps less the ways through a pivot: no way, one after another, and all ways over the pivot's column.
-- The ways are taken off in the order of the pivot's column. This leads once at most to each object, so of its first entries, one more
-- changes the map to its own head, from the way over no terms to the way over its terms.
use Rattle.std.proofs.Common.{◌≡◌, ◌≢◌, ℕ, ◌⊎◌, inl, inr, ◌+◌, ◌*◌, ◌%◌, ◌<◌, ◌∙◌, List, [], ◌∷◌, ◌++◌, get_or, take, length, map, refl, sym, subst, ap, arith, cond, true, false}
use Rattle.std.specs.List.{Contains, remove}
use Rattle.std.proofs.lemmas.Bool.{both_ways, cases_eq, eq-eqb}
use Rattle.std.proofs.lemmas.List.{map-append, take_more}
use Rattle.std.proofs.lemmas.List.Elements.{Contains-append_left, Contains-push}
use Rattle.std.proofs.lemmas.List.Sums.{sum_by_more_le}
use Rattle.kh_types.specs.Bits.{one_if}
use Rattle.kh_types.specs.Rank.{inverse}
use Rattle.kh_types.specs.Residues.{Same}
use Rattle.kh_types.proofs.ListSums.{sum_by-zeros}
use Rattle.kh_types.proofs.Residues.{same-equal}
use Rattle.dotted_maps.specs.declared.term.Term.{Term}
use Rattle.dotted_maps.specs.Maps.{coefficient_in, composed_in}
use Rattle.tangle_maps.specs.declared.way.Way.{Way}
use Rattle.tangle_maps.specs.Pairings.{joins_of, opened_points}
use Rattle.tangle_maps.specs.Ways.{IsCancelledAlong}
use Rattle.tangle_scan.specs.declared.clearing.turns.Turn.{Turn}
use Rattle.tangle_scan.specs.declared.complex.Entry.{Entry}
use Rattle.tangle_maps.specs.Sums.{AreReduced}
use Rattle.tangle_scan.specs.Held.{IsColumn, has_head, is_alive_at, partners_at, terms_to}
use Rattle.tangle_scan.specs.Eliminations.{AreTaken, HasHead, HasOneEach, IsChanged, IsCleared, IsDottedTo, IsLess, IsLessIf, IsLessOver, IsNext, IsTrimmed, IsTurn, head_at}
use Rattle.tangle_scan.proofs.Columns.{counted-once, gone-remove, head-there, heads-remove, others-remove, push-here, push-others, terms-at, terms-none}

plus-none : (p a b : ℕ) → Same p (a + b * 0) a
plus-none p a b = same-equal p (a + b * 0) a (omega arith)

pub less-no_first : (p c : ℕ) (opened from over to : List ℕ) (second terms : List Term)
    → IsLessOver p c opened from over to [] second terms terms
less-no_first p c opened from over to second terms =
    record { coefficients = λ kept below. plus-none p (coefficient_in terms kept) (inverse p c); dots = λ are. are }

no-second : (opened from over to : List ℕ) (first : List Term) (kept : ℕ)
    → composed_in 0 0 (opened_points opened) (joins_of from opened) (joins_of over opened) (joins_of to opened) first [] kept ≡ 0
no-second opened from over to first kept = sum_by-zeros (λ (term : Term). 0) first (λ term. refl)

pub less-no_second : (p c : ℕ) (opened from over to : List ℕ) (first terms : List Term)
    → IsLessOver p c opened from over to first [] terms terms
less-no_second p c opened from over to first terms =
    record {
      coefficients = λ kept below.
          ap (λ n. (coefficient_in terms kept + inverse p c * n) % p) (no-second opened from over to first kept)
          ∙ plus-none p (coefficient_in terms kept) (inverse p c);
      dots = λ are. are;
    }

-- the way over no terms, and then over some
pub less-then : (p c : ℕ) (opened from over to : List ℕ) (first second old middle new : List Term)
    → IsLessOver p c opened from over to first [] old middle → IsLessOver p c opened from over to first second middle new
    → IsLessOver p c opened from over to first second old new
less-then p c opened from over to first second old middle new none some =
    record {
      coefficients = λ kept below.
          some.coefficients kept below
          ∙ sym (plus-none p (coefficient_in middle kept) (inverse p c))
          ∙ ap (λ n. (coefficient_in middle kept + inverse p c * n) % p) (sym (no-second opened from over to first kept))
          ∙ none.coefficients kept below;
      dots = λ are. some.dots (none.dots are);
    }

-- a way in memory
pub less-along : (p c : ℕ) (way : Way) (old new : List Term) → IsCancelledAlong p c way old new
    → IsLessOver p c way.opened.now way.from.now.partners way.over.now.partners way.to.now.partners way.first.now way.second.now old new
less-along p c way old new is = record { coefficients = is.coefficients; dots = is.dots }

-- a map that changed, in two steps
pub changed-trimmed : (Next : List Term → List Term → Type 0) (p y : ℕ) (old middle new : List Entry)
    → IsChanged Next (Unit {0}) p y old middle → IsTrimmed p middle new → IsChanged Next (Unit {0}) p y old new
changed-trimmed Next p y old middle new is trimmed =
    record {
      here = subst (λ (ts : List Term). Next (terms_to old y) ts) (sym (trimmed.terms y)) is.here;
      others = λ z other. trimmed.terms z ∙ is.others z other;
      heads = λ z has. is.heads z (trimmed.heads z has);
      column = λ n below are. trimmed.column n (is.column n below are);
    }

pub changed-as : (First Second : List Term → List Term → Type 0) (p y : ℕ) (old new : List Entry)
    → (First (terms_to old y) (terms_to new y) → Second (terms_to old y) (terms_to new y))
    → IsChanged First (Unit {0}) p y old new → IsChanged Second (Unit {0}) p y old new
changed-as First Second p y old new by is =
    record { here = by is.here; others = is.others; heads = is.heads; column = is.column }

-- the first entries of a column, and one more

abbrev heads : List Entry → List ℕ
heads column = map (λ (e : Entry). e.head) column

one-more : (column : List Entry) (k : ℕ) (entry : Entry) → k < length column → entry ≡ get_or column k entry
    → take (k + 1) column ≡ take k column ++ entry ∷ []
one-more column k entry within is = take_more column k entry within ∙ ap (λ (e : Entry). take k column ++ e ∷ []) (sym is)

not-before : (column : List Entry) (k : ℕ) (entry : Entry) → k < length column → entry ≡ get_or column k entry → HasOneEach column
    → HasHead (take k column) entry.head → ⊥
not-before column k entry within is once has =
    let f : Entry → ℕ = λ e. cond (has_head entry.head e) 1 0 in
    omega (
      arith,
      once entry.head,
      sum_by_more_le f column k entry within,
      ap f (sym is),
      ap one_if (eq-eqb entry.head entry.head refl),
      counted-once (take k column) entry.head has,
    )

pub taken-none : (p : ℕ) (turn : Turn) (x : ℕ) (first : List Term) (column : List Entry)
    → AreTaken p turn x first [] column column
taken-none p turn x first column =
    record {
      less = λ z alive.
          less-no_second p turn.pivot.number turn.opened.now (partners_at turn.objects.now x)
          (partners_at turn.objects.now turn.pivot.tail) (partners_at turn.objects.now z) first (terms_to column z);
      heads = λ z has. inl has;
    }

pub taken-more : (p : ℕ) (turn : Turn) (x : ℕ) (first : List Term) (column old middle new : List Entry) (k : ℕ) (entry : Entry)
    → k < length column → entry ≡ get_or column k entry → HasOneEach column → AreTaken p turn x first (take k column) old middle
    → IsChanged (IsLessIf p turn x first entry) (is_alive_at turn.objects.now entry.head ≡ true) p entry.head middle new
    → AreTaken p turn x first (take (k + 1) column) old new
taken-more p turn x first column old middle new k entry within is once taken changed =
    subst (λ (es : List Entry). AreTaken p turn x first es old new) (sym (one-more column k entry within is))
    (record { less = less; heads = heads-then })
  where
    fresh : HasHead (take k column) entry.head → ⊥
    fresh = not-before column k entry within is once

    less : (z : ℕ) → is_alive_at turn.objects.now z ≡ true
        → IsLess p turn x z first (terms_to (take k column ++ entry ∷ []) z) (terms_to old z) (terms_to new z)
    less z alive = elim (cases_eq z entry.head) [
      | inl same ↦
          let alive_here : is_alive_at turn.objects.now entry.head ≡ true =
          ap (is_alive_at turn.objects.now) (sym same) ∙ alive in
          subst
          (λ (y : ℕ).
          IsLess p turn x y first (terms_to (take k column ++ entry ∷ []) y) (terms_to old y) (terms_to new y))
          (sym same)
          (subst
          (λ (ts : List Term). IsLess p turn x entry.head first ts (terms_to old entry.head) (terms_to new entry.head))
          (sym (push-here (take k column) entry fresh))
          (less-then p turn.pivot.number turn.opened.now (partners_at turn.objects.now x)
          (partners_at turn.objects.now turn.pivot.tail) (partners_at turn.objects.now entry.head) first entry.terms.items
          (terms_to old entry.head) (terms_to middle entry.head) (terms_to new entry.head)
          (subst
          (λ (ts : List Term). IsLess p turn x entry.head first ts (terms_to old entry.head) (terms_to middle entry.head))
          (terms-none (take k column) entry.head fresh) (taken.less entry.head alive_here))
          (changed.here alive_here)))
      | inr other ↦
          subst (λ (ts : List Term). IsLess p turn x z first ts (terms_to old z) (terms_to new z))
          (sym (push-others (take k column) entry z other))
          (subst (λ (ts : List Term). IsLess p turn x z first (terms_to (take k column) z) (terms_to old z) ts)
          (sym (changed.others z other)) (taken.less z alive))
    ]

    heads-then : (z : ℕ) → HasHead new z
        → HasHead old z ⊎ (HasHead (take k column ++ entry ∷ []) z × (is_alive_at turn.objects.now z ≡ true))
    heads-then z has =
        let split = map-append (λ (e : Entry). e.head) (take k column) (entry ∷ []) in
        elim (changed.heads z has) [
          | inl before ↦ elim (taken.heads z before) [
            | inl first_of_all ↦ inl first_of_all
            | inr there ↦
                inr (
                  subst (λ (zs : List ℕ). Contains zs z) (sym split)
                      (Contains-append_left (heads (take k column)) (entry.head ∷ []) z there.0),
                  there.1,
                )
          ]
          | inr there ↦
              inr (
                subst (λ (zs : List ℕ). Contains zs z) (sym split)
                    (subst (λ (y : ℕ). Contains (heads (take k column) ++ entry.head ∷ []) y) (sym there.0)
                    (Contains-push (heads (take k column)) entry.head)),
                ap (is_alive_at turn.objects.now) there.0 ∙ there.1,
              )
        ]

-- a column from which the map to the pivot's head was taken, and then all ways
pub cleared-some : (p : ℕ) (turn : Turn) (x : ℕ) (old new : List Entry) (at : ℕ) (first : List Term)
    → is_alive_at turn.objects.now turn.pivot.head ≡ false → at < length old → HasOneEach old
    → head_at old at ≡ turn.pivot.head → first ≡ terms_to old turn.pivot.head
    → AreTaken p turn x first turn.column.now (remove old at) new → IsCleared p turn x old new
cleared-some p turn x old new at first dead within once is_head is_first taken =
    record {
      gone = λ has. elim (taken.heads turn.pivot.head has) [
        | inl before ↦
            gone-remove old at within once (subst (λ (y : ℕ). HasHead (remove old at) y) (sym is_head) before)
        | inr there ↦ both_ways (is_alive_at turn.objects.now turn.pivot.head) dead there.1
      ];
      less = λ z alive.
          let other : z ≢ head_at old at =
          λ same. both_ways (is_alive_at turn.objects.now turn.pivot.head) dead
          (ap (is_alive_at turn.objects.now) (sym (same ∙ is_head)) ∙ alive) in
          subst (λ (ts : List Term). IsLess p turn x z ts (terms_to turn.column.now z) (terms_to old z) (terms_to new z)) is_first
          (subst (λ (ts : List Term). IsLess p turn x z first (terms_to turn.column.now z) ts (terms_to new z))
          (others-remove old at z within other) (taken.less z alive));
      heads = λ z has. elim (taken.heads z has) [
        | inl before ↦ inl (heads-remove old at within z before)
        | inr there ↦ inr (subst (λ (y : ℕ). HasHead old y) is_head (head-there old at within), there.0)
      ];
    }

-- one that does not lead there
pub cleared-none : (p : ℕ) (turn : Turn) (x : ℕ) (column : List Entry) → (HasHead column turn.pivot.head → ⊥)
    → IsCleared p turn x column column
cleared-none p turn x column none =
    record {
      gone = none;
      less = λ z alive.
          subst (λ (ts : List Term). IsLess p turn x z ts (terms_to turn.column.now z) (terms_to column z) (terms_to column z))
          (sym (terms-none column turn.pivot.head none))
          (less-no_first p turn.pivot.number turn.opened.now (partners_at turn.objects.now x)
          (partners_at turn.objects.now turn.pivot.tail) (partners_at turn.objects.now z) (terms_to turn.column.now z)
          (terms_to column z));
      heads = λ z has. inl has;
    }

-- the first map of the ways, as it was read
pub first-read : (p n : ℕ) (column : List Entry) (at y : ℕ) (entry : Entry) → at < length column → IsColumn p n column
    → head_at column at ≡ y → entry ≡ get_or column at entry → entry.terms.items ≡ terms_to column y
first-read p n column at y entry within is is_head read =
    ap (λ (e : Entry). e.terms.items) read ∙ sym (terms-at column at entry within is.once) ∙ ap (terms_to column) is_head

pub read-reduced : (p n : ℕ) (column : List Entry) (at : ℕ) (entry : Entry) → at < length column → IsColumn p n column
    → entry ≡ get_or column at entry → AreReduced p entry.terms.items
read-reduced p n column at entry within is read =
    subst (λ (e : Entry). AreReduced p e.terms.items) (sym read) (is.reduced at entry within)

-- an entry of the pivot's column, as it was read
pub next-read : (p : ℕ) (turn : Turn) (at : ℕ) (entry : Entry) → IsTurn p turn → at < length turn.column.now
    → entry ≡ get_or turn.column.now at entry → IsNext p turn entry
next-read p turn at entry is within read =
    record {
      head = subst (λ (e : Entry). e.head < length turn.objects.now) (sym read) (is.column.heads at entry within);
      terms = subst (λ (e : Entry). AreReduced p e.terms.items) (sym read) (is.column.reduced at entry within);
      dots = subst (IsDottedTo turn) (sym read) (is.dots at entry within);
    }
