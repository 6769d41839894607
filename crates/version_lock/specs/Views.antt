-- What a seat knows, its view, as the steps and the calls leave it.
use Rattle.std.specs.Prelude.{ℕ, ◌+◌, ◌-◌, List, [], ◌∷◌, ◌++◌, length, Option, Some, None}
use Rattle.version_lock.specs.declared.rule.View.{View}
use Rattle.version_lock.specs.Places.{merged_places, longer}

-- 1 where the turn is held
abbrev pub one_held : {E : Type 0} → Option (List E) → ℕ
one_held None = 0
one_held (Some log) = 1

-- the whole history where it is held, else what was seen of it
abbrev pub latest : {E : Type 0} → Option (List E) → List E → List E
latest None seen = seen
latest (Some log) seen = log

module _ {O E : Type 0} where
  -- the view of the first seat: it has seen the opening history, and has all shares
  abbrev pub opening_view : O → List E → ℕ → View O E
  opening_view origin history seats = record { origin = Some origin; seen = history; mine = []; share = seats; held = None; prefixes = [] }

  -- the view with the turn and the whole history
  abbrev pub holding : View O E → List E → View O E
  holding v log = record { origin = v.origin; seen = v.seen; mine = v.mine; share = v.share; held = Some log; prefixes = v.prefixes }

  -- the view with one place more, and the history that the entry there has made longer
  abbrev pub grown : View O E → ℕ → List E → View O E
  grown v place log = record { origin = v.origin; seen = v.seen; mine = v.mine ++ place ∷ []; share = v.share; held = Some log; prefixes = v.prefixes }

  -- the view without the turn, which has seen so much
  abbrev pub freed : View O E → List E → View O E
  freed v seen = record { origin = v.origin; seen = seen; mine = v.mine; share = v.share; held = None; prefixes = v.prefixes }

  -- the view after a commit that went through: one entry more was seen, and its place is the seat's
  abbrev pub entered : View O E → E → View O E
  entered v entry = record { origin = v.origin; seen = v.seen ++ entry ∷ []; mine = v.mine ++ length v.seen ∷ []; share = v.share; held = None; prefixes = v.prefixes }

  -- what is left to a seat that gives one share away
  abbrev pub kept_view : View O E → View O E
  kept_view v = record { origin = v.origin; seen = v.seen; mine = v.mine; share = v.share - 1; held = v.held; prefixes = v.prefixes }

  -- the view of the seat that gets the share: it has seen as much, and committed nothing
  abbrev pub given_view : View O E → View O E
  given_view v = record { origin = v.origin; seen = v.seen; mine = []; share = 1; held = None; prefixes = [] }

  -- the view of a seat that has taken another in: the longer history, the places of both, the shares of both
  abbrev pub joined_view : View O E → View O E → View O E
  joined_view v w = record {
    origin = v.origin;
    seen = longer v.seen w.seen;
    mine = merged_places v.mine w.mine;
    share = v.share + w.share;
    held = None;
    prefixes = v.seen ∷ w.seen ∷ [];
  }

  -- the view of a seat that a join has spent
  abbrev pub spent : View O E
  spent = record { origin = None; seen = []; mine = []; share = 0; held = None; prefixes = [] }
