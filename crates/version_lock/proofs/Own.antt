-- The places of a seat's own ascend and stay below the length of what it has seen.
use Rattle.std.proofs.Common.{◌≡◌, ℕ, ◌+◌, ◌<◌, ◌≤◌, List, [], ◌∷◌, ◌++◌, length, sym, ap, subst, arith, length-append}
use Rattle.version_lock.specs.declared.rule.View.{View}
use Rattle.version_lock.specs.declared.commit_seen.CommitSeen.{CommitSeen}
use Rattle.version_lock.specs.declared.commit_seen.CommitSeen.TheVariants.{Committed, Stale}
use Rattle.version_lock.specs.Places.{Each, IsAscending, AreOwn, longer}
use Rattle.version_lock.specs.Views.{joined_view}
use Rattle.version_lock.specs.Turns.{Saw, Commits}
use Rattle.version_lock.proofs.Sums.{Each-map, Each-push, IsAscending-push}
use Rattle.kh_types.proofs.Prefixes.{prefix_length}
use Rattle.version_lock.proofs.Merging.{Each-merged_places}
use Rattle.version_lock.proofs.RuleKept.{longer_size}

own_later : (n m : ℕ) (xs : List ℕ) → n ≤ m → AreOwn n xs → AreOwn m xs
own_later n m xs le h = record { ascending = h.ascending; below = Each-map (λ x. x < n) (λ x. x < m) (λ x b. omega (arith, b, le)) xs h.below }

own_push : (n : ℕ) (xs : List ℕ) → AreOwn n xs → AreOwn (n + 1) (xs ++ n ∷ [])
own_push n xs h = record {
  ascending = IsAscending-push xs n h.ascending h.below;
  below = Each-push (λ x. x < n + 1) xs n (own_later n (n + 1) xs (omega arith) h).below (omega arith);
}

pub own_none : (n : ℕ) (xs : List ℕ) → xs ≡ [] → AreOwn n xs
own_none n xs e = subst (AreOwn n) (sym e) record { ascending = tt; below = tt }

module _ {O E : Type 0} where
  abbrev Own : View O E → Type 0
  Own v = AreOwn (length v.seen) v.mine

  pub own_same : (v w : View O E) → w.seen ≡ v.seen → w.mine ≡ v.mine → AreOwn (length v.seen) v.mine → AreOwn (length w.seen) w.mine
  own_same v w seen mine h = own_later (length v.seen) (length w.seen) w.mine (omega (arith, ap length seen)) (subst (AreOwn (length v.seen)) (sym mine) h)

  pub own_after_look : (v w : View O E) (log : List E) → Saw v log w → AreOwn (length v.seen) v.mine → AreOwn (length w.seen) w.mine
  own_after_look v w log s h = subst Own (sym s.0) (own_later (length v.seen) (length log) v.mine (prefix_length v.seen log s.1) h)

  pub own_after_commit : (e : E) (v w : View O E) (seen : CommitSeen) → Commits e v seen w → AreOwn (length v.seen) v.mine → AreOwn (length w.seen) w.mine
  own_after_commit e v w (Committed version) c h = subst Own (sym c.0)
      (own_later (length v.seen + 1) (length (v.seen ++ e ∷ [])) (v.mine ++ length v.seen ∷ []) (omega (arith, length-append v.seen (e ∷ []))) (own_push (length v.seen) v.mine h))
  own_after_commit e v w (Stale looked now) c h = own_after_look v w w.seen c.0 h

  pub own_after_join : (v w u : View O E) → u ≡ joined_view v w → IsAscending u.mine → AreOwn (length v.seen) v.mine → AreOwn (length w.seen) w.mine → AreOwn (length u.seen) u.mine
  own_after_join v w u e up h k = let n = length (longer v.seen w.seen) in let s = longer_size v.seen w.seen in record {
    ascending = up;
    below = subst (λ (z : View O E). Each (λ place. place < length z.seen) z.mine) (sym e) (Each-merged_places (λ place. place < n) v.mine w.mine
        (own_later (length v.seen) n v.mine s.0 h).below (own_later (length w.seen) n w.mine s.1 k).below);
  }
