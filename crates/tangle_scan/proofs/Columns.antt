-- What an edit makes of a column: the map to each object, the heads, and that it is a column.
-- Where a column leads once at most to each object, the map to the head of an entry is that entry's, so a write or a removal there
-- changes this map alone.
use Rattle.std.proofs.Common.{◌≡◌, ◌≢◌, ℕ, zero, suc, inl, inr, ◌<◌, ◌≤◌, ◌∙◌, List, [], ◌∷◌, ◌++◌, get_or, set, length, map, refl, sym, subst, ap, arith, true, cond, None, Option, Some}
use Rattle.std.specs.Prelude.{nat_eq, nat_lt, All, IfSome}
use Rattle.std.specs.List.{Contains, count_by, find, position, position_or_len, remove}
use Rattle.std.specs.Option.{option_map_or}
use Rattle.std.proofs.lemmas.Bool.{cases_eq, cases_lt, eq-eqb, ne_eqb, eqb-true, lt-ltb}
use Rattle.std.proofs.lemmas.List.{get_or-map, map-set, set-get_or, map-append}
use Rattle.std.proofs.lemmas.List.Elements.{All-append, All-drop, All-push, All-set, All-take, Contains-push_cases}
use Rattle.std.proofs.lemmas.List.Folds.{find_at}
use Rattle.std.proofs.lemmas.List.Quantifiers.{position-Some}
use Rattle.std.proofs.lemmas.List.Sums.{sum_by-cons, sum_by_push}
use Rattle.std.proofs.lemmas.Option.{slice_get_past}
use Rattle.kh_types.specs.Bits.{one_if}
use Rattle.kh_types.proofs.Lists.{count_by-map}
use Rattle.cell_laws.proofs.Members.{Contains-cases, Contains-first, Contains-later}
use Rattle.dotted_maps.specs.declared.term.Term.{Term}
use Rattle.tangle_maps.specs.Sums.{AreReduced}
use Rattle.tangle_scan.specs.declared.complex.Entry.{Entry}
use Rattle.tangle_scan.specs.Held.{IsColumn, has_head, terms_to}
use Rattle.tangle_scan.specs.Eliminations.{HasHead, HasHeadsOf, HasOneEach, IsChanged, IsTrimmed, head_at}

abbrev head : Entry → ℕ
head entry = entry.head

abbrev heads : List Entry → List ℕ
heads column = map head column

-- the map to an object, read from the front

pub terms-first : (e : Entry) (column : List Entry) (y : ℕ) → e.head ≡ y → terms_to (e ∷ column) y ≡ e.terms.items
terms-first e column y same =
    ap (λ b. option_map_or (λ (entry : Entry). entry.terms.items) (cond b (Some e) (find (has_head y) column)) []) (eq-eqb e.head y same)

pub terms-later : (e : Entry) (column : List Entry) (y : ℕ) → e.head ≢ y → terms_to (e ∷ column) y ≡ terms_to column y
terms-later e column y other =
    ap (λ b. option_map_or (λ (entry : Entry). entry.terms.items) (cond b (Some e) (find (has_head y) column)) []) (ne_eqb e.head y other)

pub terms-none : (column : List Entry) (y : ℕ) → (HasHead column y → ⊥) → terms_to column y ≡ []
terms-none [] y none = refl
terms-none (e ∷ column) y none = elim (cases_eq e.head y) [
  | inl same ↦ absurd (none (subst (λ (z : ℕ). Contains (heads (e ∷ column)) z) same (Contains-first e.head (heads column))))
  | inr other ↦
      terms-later e column y other ∙ terms-none column y (λ has. none (Contains-later e.head y (heads column) has))
]

-- where a map has terms there is a head
pub terms-some : (column : List Entry) (y : ℕ) → terms_to column y ≢ [] → HasHead column y
terms-some [] y some = absurd (some refl)
terms-some (e ∷ column) y some = elim (cases_eq e.head y) [
  | inl same ↦ subst (λ (z : ℕ). Contains (heads (e ∷ column)) z) same (Contains-first e.head (heads column))
  | inr other ↦
      Contains-later e.head y (heads column)
      (terms-some column y (λ none. some (terms-later e column y other ∙ none)))
]

-- how often a column leads to an object

once-rest : (e : Entry) (column : List Entry) → HasOneEach (e ∷ column) → HasOneEach column
once-rest e column once y = omega (arith, once y, sum_by-cons (λ (f : Entry). cond (has_head y f) 1 0) e column)

pub counted-once : (column : List Entry) (y : ℕ) → HasHead column y → 1 ≤ count_by (has_head y) column
counted-once [] y has = absurd (omega (arith, has.1))
counted-once (e ∷ column) y has =
    let sum = sum_by-cons (λ (f : Entry). cond (has_head y f) 1 0) e column in
    elim (Contains-cases e.head y (heads column) has) [
      | inl here ↦ omega (arith, sum, ap one_if (eq-eqb e.head y here))
      | inr later ↦ omega (arith, sum, counted-once column y later)
    ]

first-alone : (e : Entry) (column : List Entry) (y : ℕ) → HasOneEach (e ∷ column) → e.head ≡ y → HasHead column y → ⊥
first-alone e column y once same has =
    omega (
      arith,
      once y,
      sum_by-cons (λ (f : Entry). cond (has_head y f) 1 0) e column,
      ap one_if (eq-eqb e.head y same),
      counted-once column y has,
    )

-- only heads count for that
pub once-heads : (old new : List Entry) → heads new ≡ heads old → HasOneEach old → HasOneEach new
once-heads old new same once y =
    omega (
      arith,
      once y,
      count_by-map (λ z. nat_eq z y) head old,
      count_by-map (λ z. nat_eq z y) head new,
      ap (λ zs. count_by (λ z. nat_eq z y) zs) same,
    )

-- the head at a place is one of the heads
pub head-there : (column : List Entry) (at : ℕ) → at < length column → HasHead column (head_at column at)
head-there [] at within = absurd (omega (arith, within))
head-there (e ∷ column) zero within = Contains-first e.head (heads column)
head-there (e ∷ column) (suc at) within =
    Contains-later e.head (head_at column at) (heads column) (head-there column at (omega (arith, within)))

pub terms-at : (column : List Entry) (at : ℕ) (d : Entry) → at < length column → HasOneEach column
    → terms_to column (head_at column at) ≡ (get_or column at d).terms.items
terms-at [] at d within once = absurd (omega (arith, within))
terms-at (e ∷ column) zero d within once = terms-first e column e.head refl
terms-at (e ∷ column) (suc at) d within once =
    terms-later e column (head_at column at)
    (λ same. first-alone e column (head_at column at) once same (head-there column at (omega (arith, within))))
    ∙ terms-at column at d (omega (arith, within)) (once-rest e column once)

-- a write at a place, with the head that stands there

pub heads-set : (column : List Entry) (at : ℕ) (e : Entry) → e.head ≡ head_at column at → heads (set column at e) ≡ heads column
heads-set column at e same =
    map-set head column at e ∙ ap (λ z. set (heads column) at z) same ∙ set-get_or (heads column) at 0

set-here : (column : List Entry) (at : ℕ) (e : Entry) → at < length column → HasOneEach column → e.head ≡ head_at column at
    → terms_to (set column at e) e.head ≡ e.terms.items
set-here [] at e within once same = absurd (omega (arith, within))
set-here (c ∷ column) zero e within once same = terms-first e column e.head refl
set-here (c ∷ column) (suc at) e within once same =
    let inside : at < length column = omega (arith, within) in
    terms-later c (set column at e) e.head
    (λ is. first-alone c column e.head once is
    (subst (λ (z : ℕ). HasHead column z) (sym same) (head-there column at inside)))
    ∙ set-here column at e inside (once-rest c column once) same

set-others : (column : List Entry) (at : ℕ) (e : Entry) (z : ℕ) → e.head ≡ head_at column at → z ≢ e.head
    → terms_to (set column at e) z ≡ terms_to column z
set-others [] at e z same other = refl
set-others (c ∷ column) zero e z same other =
    terms-later e column z (λ is. other (sym is)) ∙ sym (terms-later c column z (λ is. other (sym is ∙ sym same)))
set-others (c ∷ column) (suc at) e z same other = elim (cases_eq c.head z) [
  | inl here ↦ terms-first c (set column at e) z here ∙ sym (terms-first c column z here)
  | inr not_here ↦
      terms-later c (set column at e) z not_here ∙ set-others column at e z same other ∙ sym (terms-later c column z not_here)
]

pub column-set : (p : ℕ) (column : List Entry) (at : ℕ) (e : Entry) → at < length column → HasOneEach column
    → e.head ≡ head_at column at → AreReduced p e.terms.items
    → IsChanged (λ old new. new ≡ e.terms.items) (Unit {0}) p e.head column (set column at e)
column-set p column at e within once same reduced =
    record {
      here = set-here column at e within once same;
      others = λ z other. set-others column at e z same other;
      heads = λ z has. inl (subst (λ (zs : List ℕ). Contains zs z) (heads-set column at e same) has);
      column = λ n below is. record {
        heads = All-set (λ (f : Entry). f.head < n) column at e below is.heads;
        once = once-heads column (set column at e) (heads-set column at e same) is.once;
        reduced = All-set (λ (f : Entry). AreReduced p f.terms.items) column at e reduced is.reduced;
      };
    }

pub heads-kept_set : (column : List Entry) (at : ℕ) (e : Entry) → e.head ≡ head_at column at → HasHeadsOf column (set column at e)
heads-kept_set column at e same z has = subst (λ (zs : List ℕ). Contains zs z) (heads-set column at e same) has

-- an entry taken out

pub heads-remove : (column : List Entry) (at : ℕ) → at < length column → HasHeadsOf column (remove column at)
heads-remove [] at within z has = absurd (omega (arith, within))
heads-remove (c ∷ column) zero within z has = Contains-later c.head z (heads column) has
heads-remove (c ∷ column) (suc at) within z has = elim (Contains-cases c.head z (heads (remove column at)) has) [
  | inl here ↦ subst (λ (y : ℕ). HasHead (c ∷ column) y) here (Contains-first c.head (heads column))
  | inr later ↦
      Contains-later c.head z (heads column) (heads-remove column at (omega (arith, within)) z later)
]

pub gone-remove : (column : List Entry) (at : ℕ) → at < length column → HasOneEach column
    → HasHead (remove column at) (head_at column at) → ⊥
gone-remove [] at within once has = omega (arith, within)
gone-remove (c ∷ column) zero within once has = first-alone c column c.head once refl has
gone-remove (c ∷ column) (suc at) within once has =
    let inside : at < length column = omega (arith, within) in
    elim (Contains-cases c.head (head_at column at) (heads (remove column at)) has) [
      | inl here ↦ first-alone c column (head_at column at) once here (head-there column at inside)
      | inr later ↦ gone-remove column at inside (once-rest c column once) later
    ]

pub others-remove : (column : List Entry) (at z : ℕ) → at < length column → z ≢ head_at column at
    → terms_to (remove column at) z ≡ terms_to column z
others-remove [] at z within other = absurd (omega (arith, within))
others-remove (c ∷ column) zero z within other = sym (terms-later c column z (λ is. other (sym is)))
others-remove (c ∷ column) (suc at) z within other = elim (cases_eq c.head z) [
  | inl here ↦ terms-first c (remove column at) z here ∙ sym (terms-first c column z here)
  | inr not_here ↦
      terms-later c (remove column at) z not_here ∙ others-remove column at z (omega (arith, within)) other
      ∙ sym (terms-later c column z not_here)
]

counted-remove : (column : List Entry) (at y : ℕ) → at < length column
    → count_by (has_head y) (remove column at) ≤ count_by (has_head y) column
counted-remove [] at y within = absurd (omega (arith, within))
counted-remove (c ∷ column) zero y within = omega (arith, sum_by-cons (λ (f : Entry). cond (has_head y f) 1 0) c column)
counted-remove (c ∷ column) (suc at) y within =
    omega (
      arith,
      sum_by-cons (λ (f : Entry). cond (has_head y f) 1 0) c column,
      sum_by-cons (λ (f : Entry). cond (has_head y f) 1 0) c (remove column at),
      counted-remove column at y (omega (arith, within)),
    )

all-remove : (P : Entry → Type 0) (column : List Entry) (at : ℕ) → All P column → All P (remove column at)
all-remove P column at all = All-append P _ _ (All-take P at column all) (All-drop P (suc at) column all)

pub column-remove : (p n : ℕ) (column : List Entry) (at : ℕ) → at < length column → IsColumn p n column → IsColumn p n (remove column at)
column-remove p n column at within is =
    record {
      heads = all-remove (λ (f : Entry). f.head < n) column at is.heads;
      once = λ y. omega (arith, is.once y, counted-remove column at y within);
      reduced = all-remove (λ (f : Entry). AreReduced p f.terms.items) column at is.reduced;
    }

-- an entry that is 0
pub trimmed : (p : ℕ) (column : List Entry) (at : ℕ) (d : Entry) → at < length column → HasOneEach column
    → (get_or column at d).terms.items ≡ [] → IsTrimmed p column (remove column at)
trimmed p column at d within once none =
    record {
      terms = λ z. elim (cases_eq z (head_at column at)) [
        | inl same ↦
            subst (λ (y : ℕ). terms_to (remove column at) y ≡ terms_to column y) (sym same)
            (terms-none (remove column at) (head_at column at) (gone-remove column at within once)
            ∙ sym (terms-at column at d within once ∙ none))
        | inr other ↦ others-remove column at z within other
      ];
      heads = heads-remove column at within;
      column = λ n is. column-remove p n column at within is;
    }

-- one more entry

pub push-here : (column : List Entry) (e : Entry) → (HasHead column e.head → ⊥) → terms_to (column ++ e ∷ []) e.head ≡ e.terms.items
push-here [] e new = terms-first e [] e.head refl
push-here (c ∷ column) e new =
    terms-later c (column ++ e ∷ []) e.head
    (λ same. new (subst (λ (z : ℕ). HasHead (c ∷ column) z) same (Contains-first c.head (heads column))))
    ∙ push-here column e (λ has. new (Contains-later c.head e.head (heads column) has))

pub push-others : (column : List Entry) (e : Entry) (z : ℕ) → z ≢ e.head → terms_to (column ++ e ∷ []) z ≡ terms_to column z
push-others [] e z other = terms-later e [] z (λ is. other (sym is))
push-others (c ∷ column) e z other = elim (cases_eq c.head z) [
  | inl here ↦ terms-first c (column ++ e ∷ []) z here ∙ sym (terms-first c column z here)
  | inr not_here ↦
      terms-later c (column ++ e ∷ []) z not_here ∙ push-others column e z other ∙ sym (terms-later c column z not_here)
]

counted-none : (column : List Entry) (y : ℕ) → (HasHead column y → ⊥) → count_by (has_head y) column ≡ 0
counted-none [] y none = refl
counted-none (e ∷ column) y none =
    omega (
      arith,
      sum_by-cons (λ (f : Entry). cond (has_head y f) 1 0) e column,
      ap one_if
          (ne_eqb e.head y (λ same. none (subst (λ (z : ℕ). HasHead (e ∷ column) z) same (Contains-first e.head (heads column))))),
      counted-none column y (λ has. none (Contains-later e.head y (heads column) has)),
    )

once-push : (column : List Entry) (e : Entry) → (HasHead column e.head → ⊥) → HasOneEach column → HasOneEach (column ++ e ∷ [])
once-push column e new once y =
    let sum = sum_by_push (λ (f : Entry). cond (has_head y f) 1 0) column e in
    elim (cases_eq e.head y) [
      | inl same ↦
          let none = counted-none column y (λ has. new (subst (λ (z : ℕ). HasHead column z) (sym same) has)) in
          omega (arith, sum, none, ap one_if (eq-eqb e.head y same))
      | inr other ↦ omega (arith, sum, once y, ap one_if (ne_eqb e.head y other))
    ]

pub column-push : (p : ℕ) (column : List Entry) (e : Entry) → (HasHead column e.head → ⊥) → AreReduced p e.terms.items
    → IsChanged (λ old new. new ≡ e.terms.items) (Unit {0}) p e.head column (column ++ e ∷ [])
column-push p column e new reduced =
    record {
      here = push-here column e new;
      others = λ z other. push-others column e z other;
      heads = λ z has.
          elim (Contains-push_cases (heads column) e.head z
          (subst (λ (zs : List ℕ). Contains zs z) (map-append head column (e ∷ [])) has)) [
            | inl before ↦ inl before
            | inr last ↦ inr (sym last, tt)
          ];
      column = λ n below is. record {
        heads = All-push (λ (f : Entry). f.head < n) column e is.heads below;
        once = once-push column e new is.once;
        reduced = All-push (λ (f : Entry). AreReduced p f.terms.items) column e is.reduced reduced;
      };
    }

-- no entry for 0
pub column-same : (p : ℕ) (column : List Entry) (e : Entry) → (HasHead column e.head → ⊥) → e.terms.items ≡ []
    → IsChanged (λ old new. new ≡ e.terms.items) (Unit {0}) p e.head column column
column-same p column e new none =
    record {
      here = terms-none column e.head new ∙ sym none;
      others = λ z other. refl;
      heads = λ z has. inl has;
      column = λ n below is. is;
    }

-- the place of a head

pub place-some : (y : ℕ) (column : List Entry) (at : ℕ) → position (has_head y) column ≡ Some at
    → (at < length column) × (head_at column at ≡ y)
place-some y [] at is = absurd (no is)
  where
    no : None ≡ Some at → ⊥
    no same = cc
place-some y (e ∷ column) at is =
    let found = position-Some (has_head y) (e ∷ column) at e is in
    (found.0, get_or-map head (e ∷ column) at e 0 found.0 ∙ eqb-true (get_or (e ∷ column) at e).head y found.1)

found-none : (y : ℕ) (column : List Entry) → find (has_head y) column ≡ None → HasHead column y → ⊥
found-none y [] none has = omega (arith, has.1)
found-none y (e ∷ column) none has = elim (cases_eq e.head y) [
  | inl same ↦
      no (sym (ap (λ b. cond b (Some e) (find (has_head y) column)) (eq-eqb e.head y same)) ∙ none)
  | inr other ↦ elim (Contains-cases e.head y (heads column) has) [
    | inl here ↦ other here
    | inr later ↦
        found-none y column (sym (ap (λ b. cond b (Some e) (find (has_head y) column)) (ne_eqb e.head y other)) ∙ none) later
  ]
]
  where
    no : Some e ≡ None → ⊥
    no same = cc

past : (k n : ℕ) → cond (nat_lt k n) (Some k) None ≡ None → n ≤ k
past k n none = elim (cases_lt k n) [
  | inl less ↦ absurd (no (sym (ap (λ b. cond b (Some k) None) (lt-ltb k n less)) ∙ none))
  | inr more ↦ more
]
  where
    no : Some k ≡ None → ⊥
    no same = cc

pub place-none : (y : ℕ) (column : List Entry) → position (has_head y) column ≡ None → HasHead column y → ⊥
place-none y column is has =
    found-none y column
    (find_at (has_head y) column
    ∙ slice_get_past column (position_or_len (has_head y) column) (past (position_or_len (has_head y) column) (length column) is))
    has

pub place-if_some : (y : ℕ) (column : List Entry) (found : Option ℕ) → found ≡ position (has_head y) column
    → IfSome found (λ at. (at < length column) × (head_at column at ≡ y))
place-if_some y column None is = tt
place-if_some y column (Some at) is = place-some y column at (sym is)

no-terms : (terms : List Term) → nat_eq (length terms) 0 ≡ true → terms ≡ []
no-terms [] is = refl
no-terms (t ∷ terms) is = absurd (omega (arith, eqb-true (length (t ∷ terms)) 0 is))

-- the entry at a place, which was read and is 0
pub trimmed-read : (p : ℕ) (column new : List Entry) (at : ℕ) (entry : Entry) (seen : List Term) → at < length column
    → HasOneEach column → entry ≡ get_or column at entry → seen ≡ entry.terms.items → nat_eq (length seen) 0 ≡ true
    → new ≡ remove column at → IsTrimmed p column new
trimmed-read p column new at entry seen within once is is_seen none made =
    subst (IsTrimmed p column) (sym made)
    (trimmed p column at entry within once (ap (λ (e : Entry). e.terms.items) (sym is) ∙ sym is_seen ∙ no-terms seen none))

-- and a new one that is 0
pub added-none : (p : ℕ) (column : List Entry) (entry : Entry) (seen : List Term) → (HasHead column entry.head → ⊥)
    → seen ≡ entry.terms.items → nat_eq (length seen) 0 ≡ true
    → IsChanged (λ old new. new ≡ entry.terms.items) (Unit {0}) p entry.head column column
added-none p column entry seen new is_seen none = column-same p column entry new (sym is_seen ∙ no-terms seen none)
