-- What turns at a block come to.
use Rattle.std.proofs.Common.{◌≡◌, ℕ, ◌+◌, ◌≤◌, List, [], ◌∷◌, ◌++◌, length, refl, sym, ap, arith, length-append}
use mathlib.Core.List.{IsPrefix}
use Rattle.version_lock.specs.Calls.{CommitsTo, LockFacts, SeatFacts, IsSeatOf}
use Rattle.version_lock.specs.declared.commit_seen.CommitSeen.{CommitSeen}
use Rattle.version_lock.specs.declared.commit_seen.CommitSeen.TheVariants.{Committed, Stale}
use Rattle.kh_types.proofs.Prefixes.{prefix_length, prefix_self, prefix_trans}

grown : {E : Type 0} (before x y : List E) (entry : E) (turns : ℕ) → y ≡ x ++ entry ∷ [] → length before + turns ≤ length x
    → length before + (turns + 1) ≤ length y
grown before x y entry turns e h = omega (arith, ap length e, length-append x (entry ∷ []))

module _ {O E : Type 0} where
  -- after so many turns the seat is one of the same lock with the same share, what it had seen begins what it has seen since, which
  -- is longer by a pivot for each turn or more, and of its own it has at most one more for each turn
  pub record HasWorked (lock : LockFacts O) (before after : SeatFacts O E) (turns : ℕ) : Type 0 where
    pub belongs : IsSeatOf lock after
    pub share : after.share ≡ before.share
    pub seen : IsPrefix before.seen after.seen
    pub mine : IsPrefix before.mine after.mine
    pub turned : length before.seen + turns ≤ length after.seen
    pub own : length after.mine ≤ length before.mine + turns

  pub no_turns : (lock : LockFacts O) (seat : SeatFacts O E) → IsSeatOf lock seat → HasWorked lock seat seat 0
  no_turns lock seat h = record {
    belongs = h;
    share = refl;
    seen = prefix_self seat.seen;
    mine = prefix_self seat.mine;
    turned = omega arith;
    own = omega arith;
  }

  -- a look
  pub looked : (lock : LockFacts O) (before x y : SeatFacts O E) (turns : ℕ) → HasWorked lock before x turns → IsSeatOf lock y
      → y.share ≡ x.share → y.mine ≡ x.mine → IsPrefix x.seen y.seen → HasWorked lock before y turns
  looked lock before x y turns h belongs share mine seen = record {
    belongs = belongs;
    share = cc (h.share);
    seen = prefix_trans before.seen x.seen y.seen h.seen seen;
    mine = rw mine h.mine;
    turned = omega (arith, prefix_length x.seen y.seen seen, h.turned);
    own = omega (arith, ap length mine, h.own);
  }

  pub committed : (lock : LockFacts O) (before x y : SeatFacts O E) (turns : ℕ) (entry : E) (answer : CommitSeen) → HasWorked lock before x turns
      → IsSeatOf lock y → y.share ≡ x.share → CommitsTo entry x answer y → HasWorked lock before y (turns + 1)
  committed lock before x y turns entry (Committed version) h belongs share c = record {
    belongs = belongs;
    share = cc (h.share);
    seen = prefix_trans before.seen x.seen y.seen h.seen (entry ∷ [], sym c.0);
    mine = prefix_trans before.mine x.mine y.mine h.mine (length x.seen ∷ [], sym c.1);
    turned = grown before.seen x.seen y.seen entry turns c.0 h.turned;
    own = omega (arith, ap length c.1, length-append x.mine (length x.seen ∷ []), h.own);
  }
  committed lock before x y turns entry (Stale looked now) h belongs share c = record {
    belongs = belongs;
    share = cc (h.share);
    seen = prefix_trans before.seen x.seen y.seen h.seen c.0;
    mine = rw c.1 h.mine;
    turned = omega (arith, h.turned, c.2, c.3, c.4);
    own = omega (arith, ap length c.1, h.own);
  }
