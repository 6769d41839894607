-- Each step of a lock keeps its rule.
--
-- The rule says that there is one history: what a view has seen is a prefix of it, and the view that holds the turn has all of it. A step
-- changes the view of one seat, perhaps a word, and takes the value from home or brings it back. So each proof has three parts. The sums:
-- turns, shares and places are added up over all views, and where one view changes, a sum changes by what this view had and has
-- (`total-set`); the turns add up to one at most, so nobody else holds the turn meanwhile. The other views: they stay, and what they know
-- stays true, since a history only grows (`outgrown`). The seat's own view: after a commit it has seen the longer history and has the
-- place at its end (`grows_own`); after another step it has the places that it had. A split deals no place anew, and a join puts the
-- places of two views in one, so each place still stands in one view. Where all shares are in one view, it therefore has all places, and
-- the value is at home with what it has seen (`ends`): this is what a close answers.
use Rattle.std.proofs.Common.{◌≡◌, ◌≢◌, ℕ, ◌+◌, ◌-◌, ◌<◌, ◌≤◌, ◌^◌, ◌⊎◌, eqb, List, [], ◌∷◌, ◌++◌, length, get_or, set, sym, refl, ap, ◌∙◌, subst, inl, inr, ⊎_elim, arith, Some, None, Option, IfSome, nat_eq, eq-eqb, ne_eqb, le_refl, length-append, zero, suc, Bool, true, false, nat_le, if◌then◌else◌}
use Rattle.std.proofs.lemmas.Bool.{leb-true, leb-false}
use native.Mathlib.Decide.{dec_le}
use Rattle.std.specs.List.{range_with_len}
use Rattle.version_lock.proofs.Places.{places_are}
use Rattle.kh_types.specs.Bits.{one_if}
use Rattle.version_lock.specs.Places.{longer}
use Rattle.version_lock.specs.Views.{kept_view, given_view, joined_view}
use Rattle.version_lock.proofs.Merging.{Each-merged_places, copies-merged_places, copies-none, IsAscending-merged_places}
use mathlib.Core.Logic.{dite}
use native.Mathlib.Decide.{ℕ_discrete}
use mathlib.Core.Option.{some, none, some-injective, some-ne-none}
use mathlib.Core.List.{IsPrefix}
use lib.ListN.{get_elem?}
use lib.Seq.{set-get_or}
use prog.Atomic.{either}
use Rattle.atomic_table.specs.Table.{State, Me, Act, opening, step, keeps, takes, gives, stepped, Allows, Splits, Joins, Final, Seen, Valid, carried_after}
use Rattle.atomic_table.proofs.Lists.{at_set, set_again, set_else, at_snoc, exchanged}
use Rattle.version_lock.specs.declared.rule.View.{View}
use Rattle.version_lock.specs.Places.{total, Each, IsAscending, copies}
use Rattle.version_lock.specs.Views.{opening_view, one_held, latest, spent, holding, grown, freed}
use Rattle.version_lock.specs.Rule.{turn_of, share_of, owns, Knows, Dealt, IsAtHome, LockRule}
use Rattle.version_lock.specs.Steps.{tried, measured, committed, released, withdrawn, affirmed}
use Rattle.version_lock.proofs.Sums.{Each-map, Each-push, IsAscending-push, total-append, total-set, total-alone, term_le, terms_le}
use Rattle.kh_types.proofs.Prefixes.{prefix_self, prefix_trans, prefix_length, prefix_whole}

abbrev some_or : {A : Type 0} → A → Option A → A
some_or a None = a
some_or a (Some x) = x

pub Some-injective : {A : Type 0} {x y : A} → Some x ≡ Some y → x ≡ y
Some-injective {A} {x} {y} e = ap (some_or x) e

pub only_one : {A : Type 0} (x : A) (k : ℕ) (y : A) → get_elem? (x ∷ []) k ≡ some y → x ≡ y
only_one x zero y e = some-injective x y e
only_one x (suc k) y e = absurd (some-ne-none y (sym e))

knows_log : {E : Type 0} (history log : List E) (held : Option (List E)) → IfSome held (λ l. l ≡ history) → held ≡ Some log → log ≡ history
knows_log history log held k e = subst (λ h. IfSome h (λ l. l ≡ history)) e k

pub if_some : {A : Type 0} (P : A → Type 0) (o : Option A) → ((x : A) → o ≡ Some x → P x) → IfSome o P
if_some P None f = tt
if_some P (Some x) f = f x refl

holds_none : {E : Type 0} (P : List E → Type 0) (held : Option (List E)) → one_held held ≡ 0 → IfSome held P
holds_none P None e = tt
holds_none P (Some log) e = absurd (omega (arith, e))

set_only : {A : Type 0} (l : List A) (a : A) → length l ≡ 1 → set l 0 a ≡ a ∷ []
set_only [] a e = absurd (omega (arith, e))
set_only (x ∷ []) a e = refl
set_only (x ∷ y ∷ l) a e = absurd (omega (arith, e))

copies_push : (place n : ℕ) (xs : List ℕ) → copies place (xs ++ n ∷ []) ≡ copies place xs + one_if (nat_eq n place)
copies_push place n xs = omega (arith, total-append (λ x. one_if (nat_eq x place)) xs (n ∷ []))

longer_is : {E : Type 0} (P : List E → Type 0) (xs ys : List E) → P xs → P ys → P (longer xs ys)
longer_is P xs ys p q = by_case (nat_le (length ys) (length xs)) where
  by_case : (b : Bool) → P (if b then xs else ys)
  by_case true = p
  by_case false = q

pub longer_size : {E : Type 0} (xs ys : List E) → (length xs ≤ length (longer xs ys)) × (length ys ≤ length (longer xs ys))
longer_size xs ys = by_case (nat_le (length ys) (length xs)) refl where
  by_case : (b : Bool) → nat_le (length ys) (length xs) ≡ b → (length xs ≤ length (if b then xs else ys)) × (length ys ≤ length (if b then xs else ys))
  by_case true e = (le_refl _, leb-true _ _ e)
  by_case false e = (let m = leb-false _ _ e in omega (arith, m), le_refl _)

module _ {S O E : Type 0} (origin_of : S → O) (history_of : S → List E) (origin : O) (first seats : ℕ) where
  abbrev V : Type 0
  V = View O E

  abbrev St : Type 0
  St = State S V

  abbrev Rule : St → Type 0
  Rule = LockRule origin_of history_of origin first seats

  abbrev K : List E → V → Type 0
  K = Knows origin first

  knows : (s : St) (r : Rule s) (id : ℕ) (v : V) → 1 ≤ v.share → get_elem? s.views id ≡ some v → K r.history v
  knows s r id v one at = ⊎_elim (λ (e : v ≡ spent). absurd (omega (arith, one, ap share_of e))) (λ k. k) (r.each_view id v at)

  -- the views after a step: the seat's own is w, and the others stay
  views_after : (P Q : V → Type 0) (vs : List V) (id : ℕ) (w : V) → Q w → ((j : ℕ) (u : V) → j ≢ id → get_elem? vs j ≡ some u → P u → Q u) → ((j : ℕ) (u : V) → get_elem? vs j ≡ some u → P u)
      → (j : ℕ) (u : V) → get_elem? (set vs id w) j ≡ some u → Q u
  views_after P Q vs id w own other all j u e = ⊎_elim (λ (t : (j ≡ id) × (w ≡ u)). subst Q t.1 own) (λ (t : (j ≢ id) × (get_elem? vs j ≡ some u)). other j u t.0 t.1 (all j u t.1)) (at_set vs id j w u e)

  dealt_same : (end : ℕ) (vs : List V) (id : ℕ) (v w : V) → get_elem? vs id ≡ some v → w.mine ≡ v.mine → Dealt first end vs → Dealt first end (set vs id w)
  dealt_same end vs id v w at same d = record {
    within = λ place a b. omega (arith, total-set (owns place) vs id v w at, ap (copies place) same, d.within place a b);
    before = λ place a. omega (arith, total-set (owns place) vs id v w at, ap (copies place) same, d.before place a);
    after = λ place a. omega (arith, total-set (owns place) vs id v w at, ap (copies place) same, d.after place a);
  }

  -- a step that changes nothing
  unmoved : (s : St) (r : Rule s) (i id : ℕ) (cs : List (ℕ × S)) (v : V) → get_elem? s.views id ≡ some v → Rule (stepped s i (get_or s.words i 0) id cs v keeps)
  unmoved s r i id cs v at = subst (λ (z : List ℕ × List V). Rule record { words = z.0; homes = s.homes; views = z.1 }) (λ k. (sym (set-get_or s.words i 0) k, sym (set_again s.views id v at) k)) r

  first_word : (s : St) (r : Rule s) → get_or s.words 0 0 ≡ r.turn
  first_word s r = ap (λ ws. get_or ws 0 0) r.words

  below_log : (log : List E) (v : V) → v.held ≡ None → Each (λ place. place < length (latest v.held v.seen)) v.mine → Each (λ place. place < length v.seen) v.mine
  below_log log v free below = subst (λ h. Each (λ place. place < length (latest h v.seen)) v.mine) free below

  holds_turn : (log : List E) (v : V) (history : List E) → v.held ≡ None → log ≡ history → K history v → K history (holding v log)
  holds_turn log v history free same k = let longer : length v.seen ≤ length log = omega (arith, prefix_length v.seen history k.seen, ap length same) in record {
    origin_is = k.origin_is;
    share = k.share;
    seen = k.seen;
    least = k.least;
    prefixes = k.prefixes;
    held = same;
    ascending = k.ascending;
    below = Each-map (λ place. place < length v.seen) (λ place. place < length log) (λ place b. omega (arith, b, longer)) v.mine (below_log log v free k.below);
  }

  -- the turn is free, and a seat takes it
  takes_it : (s : St) (r : Rule s) (id : ℕ) (v : V) → 1 ≤ v.share → v.held ≡ None → get_elem? s.views id ≡ some v → (value : S) → s.homes ≡ some value ∷ [] → history_of value ≡ r.history → r.turn ≡ 0
      → Rule (stepped s 0 1 id [] (holding v (history_of value)) (takes 0 value))
  takes_it s r id v one free at value home same idle = let w : V = holding v (history_of value) in record {
    history = r.history;
    turn = 1;
    words = ap (λ ws. set ws 0 1) r.words;
    one_turn = omega (arith, total-set turn_of s.views id v w at, ap one_held free, r.one_turn, idle);
    free_or_taken = omega arith;
    at_home = λ e. absurd (omega (arith, e));
    shares = omega (arith, total-set share_of s.views id v w at, r.shares);
    few = r.few;
    dealt = dealt_same (length r.history) s.views id v w at refl r.dealt;
    each_view = views_after (λ u. (u ≡ spent) ⊎ K r.history u) (λ u. (u ≡ spent) ⊎ K r.history u) s.views id w (inr (holds_turn (history_of value) v r.history free same (knows s r id v one at))) (λ j u n e h. h) r.each_view;
  }

  pub takes_turn : (slots id : ℕ) (v : V) → 1 ≤ v.share → v.held ≡ None
      → Allows Rule slots id (v, []) 0 (λ n. either (eqb n 0) 1 n) (tried origin_of history_of (step slots 0 0 1 none) (v, []))
  takes_turn slots id v one free s r wide at small =
      let found : ℕ = get_or s.words 0 0 in
      exchanged found 0 1 (λ n. (w : V) × (a : Act S) × Valid s.homes [] a × Rule (stepped s 0 n id [] w a) × tried origin_of history_of (step slots 0 0 1 none) (v, []) found (w, carried_after [] a))
      (λ e. let idle : r.turn ≡ 0 = sym (first_word s r) ∙ e in let home = r.at_home idle in let value = home.0 in let k = knows s r id v one at in (
        holding v (history_of value),
        takes 0 value,
        ap (λ hs. get_elem? hs 0) home.1,
        takes_it s r id v one free at value home.1 home.3 idle,
        ((λ _. (value, refl, k.origin_is ∙ ap Some (sym home.2), subst (IsPrefix v.seen) (sym home.3) k.seen, below_log v.seen v free k.below)), (λ n. absurd (n e))),
      ))
      (λ taken. (v, keeps, tt, unmoved s r 0 id [] v at, ((λ e. absurd (taken e)), (λ _. refl))))

  pub measures : (slots id : ℕ) (v : V) (cs : List (ℕ × S)) → 1 ≤ v.share → Allows Rule slots id (v, cs) 1 (λ n. n) (measured (step slots 1 0 0 none) (v, cs))
  measures slots id v cs one s r wide at small = let k = knows s r id v one at in
      (v, keeps, tt, unmoved s r 1 id cs v at, (refl, λ log e. ap (λ ws. get_or ws 1 0) r.words ∙ ap length (sym (knows_log r.history log v.held k.held e))))

  -- what a view without the turn knows stays known of a longer history
  outgrown : (history more : List E) (u : V) → IsPrefix history more → turn_of u ≡ 0 → K history u → K more u
  outgrown history more u longer free k = record {
    origin_is = k.origin_is;
    share = k.share;
    seen = prefix_trans u.seen history more k.seen longer;
    least = k.least;
    prefixes = Each-map (λ log. IsPrefix log history) (λ log. IsPrefix log more) (λ log p. prefix_trans log history more p longer) u.prefixes k.prefixes;
    held = holds_none (λ log. log ≡ more) u.held free;
    ascending = k.ascending;
    below = k.below;
  }

  grows_own : (history log more : List E) (v : V) → v.held ≡ Some log → log ≡ history → IsPrefix history more → length more ≡ length log + 1 → K history v → K more (grown v (length log) more)
  grows_own history log more v e same longer n k =
      let below : Each (λ place. place < length log) v.mine = subst (λ h. Each (λ place. place < length (latest h v.seen)) v.mine) e k.below in record {
        origin_is = k.origin_is;
        share = k.share;
        seen = prefix_trans v.seen history more k.seen longer;
        least = k.least;
        prefixes = Each-map (λ l. IsPrefix l history) (λ l. IsPrefix l more) (λ l p. prefix_trans l history more p longer) v.prefixes k.prefixes;
        held = refl;
        ascending = IsAscending-push v.mine (length log) k.ascending below;
        below = Each-push (λ place. place < length more) v.mine (length log) (Each-map (λ place. place < length log) (λ place. place < length more) (λ place b. omega (arith, b, n)) v.mine below) (omega (arith, n));
      }

  dealt_more : (end more : ℕ) (vs : List V) (id : ℕ) (v w : V) → get_elem? vs id ≡ some v → w.mine ≡ v.mine ++ end ∷ [] → more ≡ end + 1 → first ≤ end → Dealt first end vs → Dealt first more (set vs id w)
  dealt_more end more vs id v w at mine longer least d =
      let same : (place : ℕ) → place ≢ end → total (owns place) (set vs id w) ≡ total (owns place) vs = λ place n.
      omega (arith, total-set (owns place) vs id v w at, ap (copies place) mine, copies_push place end v.mine, ap one_if (ne_eqb end place (λ e. n (sym e)))) in record {
        within = λ place a b. dite (ℕ_discrete place end)
            (λ e. omega (arith, total-set (owns place) vs id v w at, ap (copies place) mine, copies_push place end v.mine, ap one_if (eq-eqb end place (sym e)), d.after place (omega (arith, e))))
            (λ n. same place n ∙ d.within place a (omega (arith, b, longer, n)));
        before = λ place a. same place (λ e. omega (arith, a, e, least)) ∙ d.before place a;
        after = λ place a. same place (λ e. omega (arith, a, e, longer)) ∙ d.after place (omega (arith, a, longer));
      }

  pub commits : (slots id : ℕ) (v : V) (log : List E) (value : S) (e : E) (new : ℕ) → 1 ≤ v.share → v.held ≡ Some log → history_of value ≡ log ++ e ∷ [] → new ≡ length log + 1
      → Allows Rule slots id (v, (0, value) ∷ []) 1 (λ _. new) (λ _. committed history_of (step slots 1 new 0 none) (v, (0, value) ∷ []) new)
  commits slots id v log value e new one has longer n s r wide at small =
      let k = knows s r id v one at in
      let more = history_of value in
      let same : log ≡ r.history = knows_log r.history log v.held k.held has in
      let begins : IsPrefix r.history more = (e ∷ [], ap (λ l. l ++ e ∷ []) (sym same) ∙ sym longer) in
      let size : length more ≡ length log + 1 = ap length longer ∙ length-append log (e ∷ []) in
      let least : first ≤ length log = omega (arith, k.least, prefix_length v.seen r.history k.seen, ap length same) in
      let w : V = grown v (length log) more in
      let busy : 1 ≤ total turn_of s.views = omega (arith, term_le turn_of s.views id v at, ap one_held has) in (
        w,
        keeps,
        tt,
        record {
          history = more;
          turn = r.turn;
          words = ap (λ ws. set ws 1 new) r.words ∙ ap (λ k. r.turn ∷ k ∷ []) (n ∙ sym size);
          one_turn = omega (arith, total-set turn_of s.views id v w at, ap one_held has, r.one_turn);
          free_or_taken = r.free_or_taken;
          at_home = λ z. absurd (omega (arith, z, busy, r.one_turn));
          shares = omega (arith, total-set share_of s.views id v w at, r.shares);
          few = r.few;
          dealt = dealt_more (length log) (length more) s.views id v w at refl size least (subst (λ l. Dealt first (length l) s.views) (sym same) r.dealt);
          each_view = views_after (λ u. (u ≡ spent) ⊎ K r.history u) (λ u. (u ≡ spent) ⊎ K more u) s.views id w (inr (grows_own r.history log more v has same begins size k))
              (λ j u other there h. ⊎_elim (λ z. inl z) (λ known. inr (outgrown r.history more u begins (omega (arith, terms_le turn_of s.views id j v u other at there, ap one_held has, r.one_turn, r.free_or_taken)) known)) h) r.each_view;
        },
        λ log' value' has' carried. let logs : log' ≡ log = Some-injective (sym has' ∙ has) in let values : value' ≡ value = sym (ap (λ (l : List (ℕ × S)). (get_or l 0 (0, value)).1) carried) in
            (λ i. (grown v (length (sym logs i)) (history_of (sym values i)), (0, value) ∷ [])),
      )

  -- the seat gives the value back, and has seen this much
  gives_back : (s : St) (r : Rule s) (id : ℕ) (v : V) (log seen : List E) (value : S) → 1 ≤ v.share → v.held ≡ Some log → v.origin ≡ Some (origin_of value) → history_of value ≡ log → length s.homes ≡ 1
      → get_elem? s.views id ≡ some v → IsPrefix seen log → first ≤ length seen → Each (λ place. place < length seen) v.mine → Rule (stepped s 0 0 id ((0, value) ∷ []) (freed v seen) gives)
  gives_back s r id v log seen value one has starts is wide at begins least below = let w : V = freed v seen in let k = knows s r id v one at in let same : log ≡ r.history = knows_log r.history log v.held k.held has in record {
    history = r.history;
    turn = 0;
    words = ap (λ ws. set ws 0 0) r.words;
    one_turn = omega (arith, total-set turn_of s.views id v w at, ap one_held has, r.one_turn, r.free_or_taken);
    free_or_taken = omega arith;
    at_home = λ _. (value, set_only s.homes (some value) wide, Some-injective (sym starts ∙ k.origin_is), is ∙ same);
    shares = omega (arith, total-set share_of s.views id v w at, r.shares);
    few = r.few;
    dealt = dealt_same (length r.history) s.views id v w at refl r.dealt;
    each_view = views_after (λ u. (u ≡ spent) ⊎ K r.history u) (λ u. (u ≡ spent) ⊎ K r.history u) s.views id w (inr record {
      origin_is = k.origin_is;
      share = k.share;
      seen = subst (IsPrefix seen) same begins;
      least = least;
      prefixes = k.prefixes;
      held = tt;
      ascending = k.ascending;
      below = below;
    }) (λ j u n e h. h) r.each_view;
  }

  pub releases : (id : ℕ) (v : V) (log : List E) (value : S) → 1 ≤ v.share → v.held ≡ Some log → v.origin ≡ Some (origin_of value) → history_of value ≡ log
      → Allows Rule 1 id (v, (0, value) ∷ []) 0 (λ _. 0) (λ _. released (step 1 0 0 0 none) (v, (0, value) ∷ []) 0)
  releases id v log value one has starts is s r wide at small =
      let k = knows s r id v one at in let same : log ≡ r.history = knows_log r.history log v.held k.held has in
      let below : Each (λ place. place < length log) v.mine = subst (λ h. Each (λ place. place < length (latest h v.seen)) v.mine) has k.below in (
        freed v log,
        gives,
        tt,
        gives_back s r id v log log value one has starts is wide at (prefix_self log) (omega (arith, k.least, prefix_length v.seen r.history k.seen, ap length same)) below,
        λ log' has'. λ i. (freed v (Some-injective (sym has ∙ has') i), []),
      )

  pub withdraws : (id : ℕ) (v : V) (log : List E) (value : S) → 1 ≤ v.share → v.held ≡ Some log → v.origin ≡ Some (origin_of value) → history_of value ≡ log → Each (λ place. place < length v.seen) v.mine
      → Allows Rule 1 id (v, (0, value) ∷ []) 0 (λ _. 0) (λ _. withdrawn (step 1 0 0 0 none) (v, (0, value) ∷ []) 0)
  withdraws id v log value one has starts is below s r wide at small =
      let k = knows s r id v one at in let same : log ≡ r.history = knows_log r.history log v.held k.held has in
      (freed v v.seen, gives, tt, gives_back s r id v log v.seen value one has starts is wide at (subst (IsPrefix v.seen) (sym same) k.seen) k.least below, refl)

  -- the same of a seat whose slots are known by an equation
  pub takes_turn_at : (slots id : ℕ) (m : Me S V) → m.1 ≡ [] → 1 ≤ m.0.share → m.0.held ≡ None → Allows Rule slots id m 0 (λ n. either (eqb n 0) 1 n) (tried origin_of history_of (step slots 0 0 1 none) m)
  takes_turn_at slots id m e one free = subst (λ (cs : List (ℕ × S)). Allows Rule slots id (m.0, cs) 0 (λ n. either (eqb n 0) 1 n) (tried origin_of history_of (step slots 0 0 1 none) (m.0, cs))) (sym e) (takes_turn slots id m.0 one free)

  pub commits_at : (slots id : ℕ) (m : Me S V) (log : List E) (value : S) (e : E) (new : ℕ) → m.1 ≡ (0, value) ∷ [] → 1 ≤ m.0.share → m.0.held ≡ Some log → history_of value ≡ log ++ e ∷ [] → new ≡ length log + 1
      → Allows Rule slots id m 1 (λ _. new) (λ _. committed history_of (step slots 1 new 0 none) m new)
  commits_at slots id m log value e new out one has longer n = subst (λ (cs : List (ℕ × S)). Allows Rule slots id (m.0, cs) 1 (λ _. new) (λ _. committed history_of (step slots 1 new 0 none) (m.0, cs) new)) (sym out)
      (commits slots id m.0 log value e new one has longer n)

  pub releases_at : (slots id : ℕ) (m : Me S V) (log : List E) (value : S) → slots ≡ 1 → m.1 ≡ (0, value) ∷ [] → 1 ≤ m.0.share → m.0.held ≡ Some log → m.0.origin ≡ Some (origin_of value) → history_of value ≡ log
      → Allows Rule slots id m 0 (λ _. 0) (λ _. released (step slots 0 0 0 none) m 0)
  releases_at slots id m log value n out one has starts is = subst (λ (z : ℕ × List (ℕ × S)). Allows Rule z.0 id (m.0, z.1) 0 (λ _. 0) (λ _. released (step z.0 0 0 0 none) (m.0, z.1) 0)) (λ i. (sym n i, sym out i))
      (releases id m.0 log value one has starts is)

  pub withdraws_at : (slots id : ℕ) (m : Me S V) (log : List E) (value : S) → slots ≡ 1 → m.1 ≡ (0, value) ∷ [] → 1 ≤ m.0.share → m.0.held ≡ Some log → m.0.origin ≡ Some (origin_of value) → history_of value ≡ log
      → Each (λ place. place < length m.0.seen) m.0.mine → Allows Rule slots id m 0 (λ _. 0) (λ _. withdrawn (step slots 0 0 0 none) m 0)
  withdraws_at slots id m log value n out one has starts is below = subst (λ (z : ℕ × List (ℕ × S)). Allows Rule z.0 id (m.0, z.1) 0 (λ _. 0) (λ _. withdrawn (step z.0 0 0 0 none) (m.0, z.1) 0)) (λ i. (sym n i, sym out i))
      (withdraws id m.0 log value one has starts is below)

  dealt_once : (end : ℕ) (vs : List V) → Dealt first end vs → (place : ℕ) → total (owns place) vs ≤ 1
  dealt_once end vs d place = dite (dec_le first place)
      (λ a. dite (dec_le end place) (λ b. omega (arith, d.after place b)) (λ b. omega (arith, d.within place a (omega (arith, b)))))
      (λ a. omega (arith, d.before place (omega (arith, a))))

  dealt_sum : (end : ℕ) (vs ws : List V) → ((place : ℕ) → total (owns place) ws ≡ total (owns place) vs) → Dealt first end vs → Dealt first end ws
  dealt_sum end vs ws same d = record { within = λ place a b. same place ∙ d.within place a b; before = λ place a. same place ∙ d.before place a; after = λ place a. same place ∙ d.after place a }

  pub splits : (id : ℕ) (v : V) → 2 ≤ v.share → v.held ≡ None → Splits Rule id v (kept_view v) (given_view v)
  splits id v two free s r at = let k = knows s r id v (omega (arith, two)) at in let l : V = kept_view v in let n : V = given_view v in record {
    history = r.history;
    turn = r.turn;
    words = r.words;
    one_turn = omega (arith, total-append turn_of (set s.views id l) (n ∷ []), total-set turn_of s.views id v l at, r.one_turn);
    free_or_taken = r.free_or_taken;
    at_home = r.at_home;
    shares = omega (arith, total-append share_of (set s.views id l) (n ∷ []), total-set share_of s.views id v l at, r.shares, two);
    few = r.few;
    dealt = dealt_sum (length r.history) s.views (set s.views id l ++ n ∷ []) (λ place. omega (arith, total-append (owns place) (set s.views id l) (n ∷ []), total-set (owns place) s.views id v l at)) r.dealt;
    each_view = λ j u e. ⊎_elim
        (λ there. views_after (λ u. (u ≡ spent) ⊎ K r.history u) (λ u. (u ≡ spent) ⊎ K r.history u) s.views id l
        (inr record { origin_is = k.origin_is; share = omega (arith, two); seen = k.seen; least = k.least; prefixes = k.prefixes; held = k.held; ascending = k.ascending; below = k.below })
        (λ j u n e h. h) r.each_view j u there)
        (λ (new : n ≡ u). subst (λ u. (u ≡ spent) ⊎ K r.history u) new (inr record { origin_is = k.origin_is; share = omega arith; seen = k.seen; least = k.least; prefixes = tt; held = tt; ascending = tt; below = tt }))
        (at_snoc (set s.views id l) n u j e);
  }

  pub joins : (id : ℕ) (v : V) (other : ℕ) (w : V) → 1 ≤ v.share → v.held ≡ None → 1 ≤ w.share → w.held ≡ None → Joins Rule id v other w (joined_view v w) spent
  joins id v other w one free one' free' s r at apart there =
      let b : V = joined_view v w in
      let at' : get_elem? s.views other ≡ some w = sym (set_else s.views id other b apart) ∙ there in
      let k = knows s r id v one at in let k' = knows s r other w one' at' in
      let once : (place : ℕ) → copies place v.mine + copies place w.mine ≤ 1 = λ place. omega (arith, terms_le (owns place) s.views id other v w apart at at', dealt_once (length r.history) s.views r.dealt place) in
      let ws : List V = set s.views id b in record {
        history = r.history;
        turn = r.turn;
        words = r.words;
        one_turn = omega (arith, total-set turn_of ws other w spent there, total-set turn_of s.views id v b at, r.one_turn, ap one_held free, ap one_held free');
        free_or_taken = r.free_or_taken;
        at_home = r.at_home;
        shares = omega (arith, total-set share_of ws other w spent there, total-set share_of s.views id v b at, r.shares);
        few = r.few;
        dealt = dealt_sum (length r.history) s.views (set ws other spent) (λ place. omega (arith, total-set (owns place) ws other w spent there, total-set (owns place) s.views id v b at, copies-merged_places place v.mine w.mine)) r.dealt;
        each_view = views_after (λ u. (u ≡ spent) ⊎ K r.history u) (λ u. (u ≡ spent) ⊎ K r.history u) ws other spent (inl refl) (λ j u n e h. h)
            (views_after (λ u. (u ≡ spent) ⊎ K r.history u) (λ u. (u ≡ spent) ⊎ K r.history u) s.views id b (inr record {
              origin_is = k.origin_is;
              share = omega (arith, one);
              seen = longer_is (λ l. IsPrefix l r.history) v.seen w.seen k.seen k'.seen;
              least = longer_is (λ l. first ≤ length l) v.seen w.seen k.least k'.least;
              prefixes = (k.seen, (k'.seen, tt));
              held = tt;
              ascending = IsAscending-merged_places v.mine w.mine once k.ascending k'.ascending;
              below = Each-merged_places (λ place. place < length (longer v.seen w.seen)) v.mine w.mine
                  (Each-map (λ place. place < length v.seen) (λ place. place < length (longer v.seen w.seen)) (λ place h. omega (arith, h, (longer_size v.seen w.seen).0)) v.mine (below_log v.seen v free k.below))
                  (Each-map (λ place. place < length w.seen) (λ place. place < length (longer v.seen w.seen)) (λ place h. omega (arith, h, (longer_size v.seen w.seen).1)) w.mine (below_log w.seen w free' k'.below));
            }) (λ j u n e h. h) r.each_view);
      }

  pub affirms : (slots id : ℕ) (v : V) (cs : List (ℕ × S)) → 1 ≤ v.share → Allows Rule slots id (v, cs) 0 (λ n. n) (affirmed (step slots 0 0 0 none) (v, cs))
  affirms slots id v cs one s r wide at small = let k = knows s r id v one at in (v, keeps, tt, unmoved s r 0 id cs v at, (refl, (r.history, k.prefixes), k.ascending, omega (arith, term_le share_of s.views id v at, r.shares, r.few)))

  -- where one view has all shares, the value is at home with what it has seen, and it has all places
  pub ends : (s : St) (id : ℕ) (v : V) → Rule s → get_elem? s.views id ≡ some v → v.share ≡ seats → 1 ≤ v.share → v.held ≡ None
      → IsAtHome origin_of history_of origin v.seen s × IsAscending v.mine × Dealt first (length v.seen) (v ∷ []) × (first ≤ length v.seen)
  ends s id v r at all one free =
      let k = knows s r id v one at in
      let none_else : (g : V → ℕ) → g spent ≡ 0 → total g s.views ≡ g v = λ g z. total-alone share_of g s.views id v at (r.shares ∙ sym all)
      (λ j u there zero_share. ⊎_elim (λ (e : u ≡ spent). ap g e ∙ z) (λ known. absurd (omega (arith, known.share, zero_share))) (r.each_view j u there)) in
      let idle : r.turn ≡ 0 = sym r.one_turn ∙ (none_else turn_of refl ∙ ap one_held free) in
      let home = r.at_home idle in
      let below : Each (λ place. place < length v.seen) v.mine = below_log v.seen v free k.below in
      let mine : (place : ℕ) → total (owns place) s.views ≡ copies place v.mine = λ place. none_else (owns place) refl in
      let no_more : length r.history ≤ length v.seen = dite (dec_le (length r.history) (length v.seen)) (λ l. l) (λ n.
      absurd (omega (arith, r.dealt.within (length v.seen) k.least (omega (arith, n)), mine (length v.seen), copies-none (length v.seen) v.mine (Each-map (λ place. place < length v.seen) (λ place. place ≢ length v.seen) (λ place l e. omega (arith, l, e)) v.mine below)))) in
      let whole : v.seen ≡ r.history = prefix_whole v.seen r.history k.seen no_more in (
        (home.0, home.1, home.2, home.3 ∙ sym whole),
        k.ascending,
        dealt_sum (length v.seen) s.views (v ∷ []) (λ place. omega (arith, mine place)) (subst (λ l. Dealt first (length l) s.views) (sym whole) r.dealt),
        k.least,
      )

  pub closes : (words : List ℕ) (slots : List S) (id : ℕ) (v : V) (result : S) → Final (Seen Rule id v) words slots → get_elem? slots 0 ≡ some result → v.share ≡ seats → 1 ≤ v.share → v.held ≡ None
      → (origin_of result ≡ origin) × (history_of result ≡ v.seen) × (v.mine ≡ range_with_len first (length v.seen - first)) × (first ≤ length v.seen)
  closes words slots id v result last out all one free =
      let end = ends last.0 id v last.1.0 last.1.1 all one free in
      let home = end.0 in
      let same : home.0 ≡ result = some-injective home.0 result (sym (last.4 0 home.0 (ap (λ hs. get_elem? hs 0) home.1)) ∙ out) in
      let d = end.2 in (
        ap origin_of (sym same) ∙ home.2,
        ap history_of (sym same) ∙ home.3,
        places_are (length v.seen - first) first v.mine end.1
            (λ place a b. omega (arith, d.within place a (omega (arith, a, b))))
            (λ place a. omega (arith, d.before place a))
            (λ place a. omega (arith, d.after place (omega (arith, a)))),
        end.3,
      )

pub opens : {S O E : Type 0} (origin_of : S → O) (history_of : S → List E) (value : S) (seats : ℕ) → 1 ≤ seats → seats < 2 ^ 32
    → LockRule origin_of history_of (origin_of value) (length (history_of value)) seats (opening (0 ∷ length (history_of value) ∷ []) (value ∷ []) (opening_view (origin_of value) (history_of value) seats))
opens origin_of history_of value seats one few = let log = history_of value in record {
  history = log;
  turn = 0;
  words = refl;
  one_turn = refl;
  free_or_taken = omega arith;
  at_home = λ _. (value, refl, refl, refl);
  shares = omega arith;
  few = few;
  dealt = record { within = λ place a b. absurd (omega (arith, a, b)); before = λ place a. refl; after = λ place a. refl };
  each_view = λ seat v e. inr (subst (Knows (origin_of value) (length log) log) (only_one _ seat v e) record {
    origin_is = refl;
    share = one;
    seen = prefix_self log;
    least = le_refl _;
    prefixes = tt;
    held = tt;
    ascending = tt;
    below = tt;
  });
}
