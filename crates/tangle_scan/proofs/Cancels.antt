-- One way that is taken off a column in memory: at an entry that is there, or as a new one.
use Rattle.std.proofs.Common.{◌≡◌, ℕ, zero, suc, ◌<◌, ◌∙◌, List, [], ◌∷◌, get_or, set, length, sym, subst, subst₂, ap, arith, Bool, true, false, None, Some, Option, Result, Ok, Err}
use Rattle.std.specs.Prelude.{All, IfOk, IfSome, OnOk}
use Rattle.std.proofs.lemmas.List.{get_or-map}
use Rattle.std.proofs.lemmas.List.Elements.{All-head, All-tail}
use Rattle.dotted_maps.specs.declared.term.Term.{Term}
use Rattle.dotted_maps.specs.Maps.{AreDotted}
use Rattle.tangle_maps.specs.declared.way.Way.{Way}
use Rattle.tangle_maps.specs.Pairings.{joins_of, opened_points, paired_arcs}
use Rattle.tangle_maps.specs.Sums.{AreReduced, number_in}
use Rattle.tangle_maps.specs.Ways.{IsCancelledAlong, IsMultiple, IsWay, joins_over, joins_to, points_on}
use Rattle.tangle_scan.specs.declared.clearing.turns.Start.{Start}
use Rattle.tangle_scan.specs.declared.clearing.turns.Turn.{Turn}
use Rattle.tangle_scan.specs.declared.complex.Entry.{Entry}
use Rattle.tangle_scan.specs.declared.complex.Object.{Object}
use Rattle.tangle_scan.specs.Held.{is_alive_at, partners_at, terms_to}
use Rattle.tangle_scan.specs.Clearings.{HasTakenWay}
use Rattle.tangle_scan.specs.Eliminations.{HasHead, HasHeadsOf, HasOneEach, IsChanged, IsDottedTo, IsLess, IsLessOver, IsMultipleAt, IsThrough, IsTrimmed, IsTurn, head_at}
use Rattle.tangle_scan.proofs.Columns.{column-set, heads-kept_set, once-heads, heads-set, terms-at, terms-none}
use Rattle.tangle_scan.proofs.Ways.{changed-as, changed-trimmed, less-along}

head-read : (column : List Entry) (at : ℕ) (entry : Entry) → at < length column → entry ≡ get_or column at entry
    → entry.head ≡ head_at column at
head-read column at entry within is =
    ap (λ (e : Entry). e.head) is ∙ sym (get_or-map (λ (e : Entry). e.head) column at entry 0 within)

-- an entry that was read, and written with other terms
pub record IsWritten (column : List Entry) (at : ℕ) (entry written : Entry) (middle : List Entry) : Type 0 where
  pub within : at < length column
  pub once : HasOneEach column
  pub read : entry ≡ get_or column at entry
  pub head : written.head ≡ entry.head
  pub made : middle ≡ set column at written

written-head : (column : List Entry) (at : ℕ) (entry written : Entry) (middle : List Entry) → IsWritten column at entry written middle
    → written.head ≡ head_at column at
written-head column at entry written middle is = is.head ∙ head-read column at entry is.within is.read

pub written-once : (column : List Entry) (at : ℕ) (entry written : Entry) (middle : List Entry)
    → IsWritten column at entry written middle → HasOneEach middle
written-once column at entry written middle is =
    subst HasOneEach (sym is.made)
    (once-heads column (set column at written) (heads-set column at written (written-head column at entry written middle is)) is.once)

pub written-heads : (p : ℕ) (column : List Entry) (at : ℕ) (entry written : Entry) (middle new : List Entry)
    → IsWritten column at entry written middle → IsTrimmed p middle new → HasHeadsOf column new
written-heads p column at entry written middle new is trimmed z has =
    heads-kept_set column at written (written-head column at entry written middle is) z
    (subst (λ (es : List Entry). HasHead es z) is.made (trimmed.heads z has))

pub changed-in : (Next : List Term → List Term → Type 0) (p : ℕ) (column : List Entry) (at : ℕ) (entry written : Entry) (middle new : List Entry)
    → IsWritten column at entry written middle → AreReduced p written.terms.items → Next entry.terms.items written.terms.items
    → IsTrimmed p middle new → IsChanged Next (Unit {0}) p (head_at column at) column new
changed-in Next p column at entry written middle new is reduced next trimmed =
    let is_head = written-head column at entry written middle is in
    let old_terms : terms_to column (head_at column at) ≡ entry.terms.items =
    terms-at column at entry is.within is.once ∙ ap (λ (e : Entry). e.terms.items) (sym is.read) in
    let set_there : IsChanged (λ old new. new ≡ written.terms.items) (Unit {0}) p (head_at column at) column (set column at written) =
    subst (λ (y : ℕ). IsChanged (λ old new. new ≡ written.terms.items) (Unit {0}) p y column (set column at written)) is_head
    (column-set p column at written is.within is.once is_head reduced) in
    changed-trimmed Next p (head_at column at) column (set column at written) new
    (changed-as (λ old new. new ≡ written.terms.items) Next p (head_at column at) column (set column at written)
    (λ made. subst₂ (λ (old new : List Term). Next old new) (sym old_terms) (sym made) next) set_there)
    (subst (λ (es : List Entry). IsTrimmed p es new) is.made trimmed)

pub changed-new : (Next : List Term → List Term → Type 0) (p y : ℕ) (column new : List Entry) (terms : List Term)
    → (HasHead column y → ⊥) → Next [] terms
    → IsChanged (λ old made. made ≡ terms) (Unit {0}) p y column new → IsChanged Next (Unit {0}) p y column new
changed-new Next p y column new terms none next is =
    changed-as (λ old made. made ≡ terms) Next p y column new
    (λ made. subst₂ (λ (old after : List Term). Next old after) (sym (terms-none column y none)) (sym made) next) is

-- nothing is reduced
pub reduced-none : (p : ℕ) → AreReduced p []
reduced-none p = record {
  some = λ k d within. absurd (omega (arith, within));
  below = λ k d within. absurd (omega (arith, within));
  once = λ dots. omega arith;
}

pub arcs-at : (opened : List ℕ) (objects : List Object) (x : ℕ)
    → All (λ (object : Object). opened ≡ paired_arcs object.pairing.partners) objects → x < length objects
    → opened ≡ paired_arcs (partners_at objects x)
arcs-at opened [] x all within = absurd (omega (arith, within))
arcs-at opened (object ∷ objects) zero all within =
    All-head (λ (o : Object). opened ≡ paired_arcs o.pairing.partners) object objects all
arcs-at opened (object ∷ objects) (suc x) all within =
    arcs-at opened objects x (All-tail (λ (o : Object). opened ≡ paired_arcs o.pairing.partners) object objects all) (omega (arith, within))

pub way-through : (p : ℕ) (turn : Turn) (x z : ℕ) (first second : List Term) (way : Way) → IsTurn p turn → x < length turn.objects.now
    → z < length turn.objects.now → IsThrough turn x z first second way → IsWay way
way-through p turn x z first second way is x_below z_below through =
    let arcs = λ (y : ℕ) (below : y < length turn.objects.now). arcs-at turn.opened.now turn.objects.now y is.pairs below in
    record {
      source = through.opened ∙ arcs x x_below ∙ ap paired_arcs (sym through.source);
      middle = through.opened ∙ arcs turn.pivot.tail is.tail ∙ ap paired_arcs (sym through.middle);
      target = through.opened ∙ arcs z z_below ∙ ap paired_arcs (sym through.target);
    }

-- whose first map is a number times the identity
pub multiple-through : (turn : Turn) (x : ℕ) (entry : Entry) (first : List Term) (way : Way) (multiple : Option ℕ)
    → IsThrough turn x entry.head first entry.terms.items way → IfSome multiple (IsMultipleAt turn x first)
    → IsDottedTo turn entry → is_alive_at turn.objects.now entry.head ≡ true → IfSome multiple (λ m. IsMultiple m way)
multiple-through turn x entry first way None through is dotted alive = tt
multiple-through turn x entry first way (Some m) through is dotted alive = record {
  same = through.source ∙ is.partners ∙ sym through.middle;
  told = ap number_in through.front ∙ is.told;
  dots =
      subst (λ (ts : List Term). AreDotted (points_on way) (joins_over way) (joins_to way) ts) (sym through.back)
      (subst₂ (λ (v t : List ℕ). AreDotted (points_on way) (joins_of v way.opened.now) (joins_of t way.opened.now) entry.terms.items)
      (sym through.middle) (sym through.target)
      (subst
      (λ (opened : List ℕ).
      AreDotted (opened_points opened) (joins_of (partners_at turn.objects.now turn.pivot.tail) opened)
      (joins_of (partners_at turn.objects.now entry.head) opened) entry.terms.items)
      (sym through.opened) (dotted alive)));
}

pub less-through : (p c : ℕ) (turn : Turn) (x z : ℕ) (first second : List Term) (way : Way) (old new : List Term)
    → c ≡ turn.pivot.number → IsThrough turn x z first second way → IsCancelledAlong p c way old new
    → IsLess p turn x z first second old new
less-through p c turn x z first second way old new same through is =
    let P = partners_at turn.objects.now in
    let less : IsLessOver p turn.pivot.number way.opened.now way.from.now.partners way.over.now.partners way.to.now.partners
    way.first.now way.second.now old new =
    subst
    (λ (n : ℕ).
    IsLessOver p n way.opened.now way.from.now.partners way.over.now.partners way.to.now.partners way.first.now way.second.now old new)
    same (less-along p c way old new is) in
    subst₂ (λ (a b : List Term). IsLessOver p turn.pivot.number turn.opened.now (P x) (P turn.pivot.tail) (P z) a b old new)
    through.front through.back
    (subst₂
    (λ (o t : List ℕ). IsLessOver p turn.pivot.number o (P x) (P turn.pivot.tail) t way.first.now way.second.now old new)
    through.opened through.target
    (subst₂
    (λ (f v : List ℕ).
    IsLessOver p turn.pivot.number way.opened.now f v way.to.now.partners way.first.now way.second.now old new)
    through.source through.middle less))

-- and taken off the map of a column to its end
pub less-changed : (p c : ℕ) (turn : Turn) (x y z : ℕ) (first second : List Term) (way : Way) (old new : List Entry)
    → c ≡ turn.pivot.number → y ≡ z → IsThrough turn x z first second way
    → IsChanged (IsCancelledAlong p c way) (Unit {0}) p y old new → IsChanged (IsLess p turn x z first second) (Unit {0}) p z old new
less-changed p c turn x y z first second way old new same there through is =
    subst (λ (v : ℕ). IsChanged (IsLess p turn x z first second) (Unit {0}) p v old new) there
    (changed-as (IsCancelledAlong p c way) (IsLess p turn x z first second) p y old new
    (less-through p c turn x z first second way (terms_to old y) (terms_to new y) same through) is)

-- and what is told of new heads
pub taken-way : {E : Type 0} (p : ℕ) (turn : Turn) (start : Start) (entry : Entry) (old new : List Entry) (result : Result Bool E)
    → OnOk result (IsChanged (IsLess p turn start.place entry.head start.first.now entry.terms.items) (Unit {0}) p entry.head old new)
    → IfOk result (λ is_new. is_new ≡ false → HasHeadsOf old new) → IfOk result (HasTakenWay p turn start entry old new)
taken-way p turn start entry old new (Ok is_new) changed same = record { changed = changed; same_heads = same }
taken-way p turn start entry old new (Err e) changed same = tt
