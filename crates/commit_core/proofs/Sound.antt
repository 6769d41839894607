-- What a core keeps, along the rows of its table: the blocks are those of the diagram, each with a legal history, and what a
-- worker holds was copied of what the first pivots of its block's history left. At first there is no pivot and nothing is held.
-- It stays where a worker holds something else of this kind, or nothing. A copy of a block as it stands is of this kind, and what
-- is held at the version of its block is a copy of it as it stands. It stays after a commit of a pivot of the block: the history
-- stays legal, only the place of this block in the list changes, as all degrees differ, and copies that are held depend on first
-- pivots of a history alone, which stay the same.
use Rattle.std.proofs.Common.{◌≡◌, ℕ, ◌-◌, ◌<◌, ◌≤◌, ◌∙◌, [], ◌∷◌, ℤ, length, get_or, set, map, take, sym, ap, subst, arith, cond, inl, inr, Option, None, Some, length-append, take_all}
use Rattle.std.specs.Prelude.{IfSome}
use Rattle.std.specs.List.{All}
use Rattle.std.specs.Option.{option_map}
use Rattle.std.specs.Ordering.{int_eq}
use Rattle.std.proofs.lemmas.Bool.{cases_Bool}
use Rattle.std.proofs.lemmas.List.{take-append-le}
use Rattle.std.proofs.lemmas.List.Elements.{All-map, All-replicate, All-set, All-weaker}
use Rattle.kh_types.specs.Code.{Code}
use Rattle.kh_types.specs.Complex.{IsPivot, Pivot}
use Rattle.kh_types.specs.History.{block as cube_block}
use Rattle.sparse_block.proofs.HistoryLemmas.{legal-push}
use Rattle.cube_signs.specs.Blocks.{block_degrees}
use Rattle.shared_block.specs.BlockHistories.{BlockCopy, BlockHistory, HasLegalHistory, IsCopyOf, block_with, complex_of}
use Rattle.shared_block.specs.Commits.{with_pivot}
use Rattle.shared_block.proofs.AllBlocks.{AreBlocksOf-opening}
use Rattle.commit_core.specs.States.{Holding, IsHeldOf, IsSound, CoreState, block_at, held_by, holding_of, opening_state, with_commit, with_held}
use Rattle.commit_core.proofs.Apart.{AreApart, block_degrees-apart}
use Rattle.commit_core.proofs.Lists.{All-or_default}
use Rattle.commit_core.proofs.BlockChanges.{block_at-commit, block_at-place, changed, changed-set, degrees-changed, diagram-changed}

-- at first

pub sound-opening : (p : ℕ) (code : Code) (workers : ℕ) → IsSound p (opening_state code workers)
sound-opening p code workers =
    let opening = opening_state code workers in
    record {
      blocks = AreBlocksOf-opening code;
      legal = All-map (HasLegalHistory p) (λ j. block_with code j []) (block_degrees code) (λ k d below. tt);
      holdings = All-replicate (λ held. IfSome held (IsHeldOf p opening)) workers None tt;
    }

-- a worker holds something else, or nothing

held-with_held : (p : ℕ) (state : CoreState) (worker : ℕ) (other : Option Holding) (held : Option Holding) → IfSome held (IsHeldOf p state)
    → IfSome held (IsHeldOf p (with_held state worker other))
held-with_held p state worker other None is = tt
held-with_held p state worker other (Some held) is =
    record { block = is.block; there = is.there; earlier = is.earlier; copy_is = is.copy_is }

pub sound-held : (p : ℕ) (state : CoreState) (worker : ℕ) (held : Option Holding) → IsSound p state → IfSome held (IsHeldOf p state)
    → IsSound p (with_held state worker held)
sound-held p state worker held sound is =
    let after = with_held state worker held in
    record {
      blocks = sound.blocks;
      legal = sound.legal;
      holdings =
          All-weaker (λ one. IfSome one (IsHeldOf p state)) (λ one. IfSome one (IsHeldOf p after))
          (held-with_held p state worker held) after.workers
          (All-set (λ one. IfSome one (IsHeldOf p state)) state.workers _ held is sound.holdings);
    }

-- a copy of the block as it stands may be held

pub held-copy : (p : ℕ) (state : CoreState) (j : ℤ) (block : BlockHistory) (copy : BlockCopy) → block_at state j ≡ Some block
    → IsCopyOf p block copy → IsHeldOf p state (holding_of j copy)
held-copy p state j block copy there is =
    let whole : take copy.version block.history ≡ block.history = take_all copy.version block.history (omega (arith, is.version)) in
    record {
      block = block;
      there = there;
      earlier = omega (arith, is.version);
      copy_is =
          subst (λ history. IsCopyOf p (block_with block.diagram block.degree history) copy) (sym whole) is;
    }

-- what is held at the version of the block is a copy of it as it stands

pub copy-held : (p : ℕ) (state : CoreState) (held : Holding) (block : BlockHistory) → IsHeldOf p state held
    → block_at state held.block ≡ Some block → held.copy.version ≡ length block.history → IsCopyOf p block held.copy
copy-held p state held block is there now =
    let same : is.block ≡ block = cc (is.there, there) in
    let whole : take held.copy.version block.history ≡ block.history =
    take_all held.copy.version block.history (omega (arith, now)) in
    subst (λ history. IsCopyOf p (block_with block.diagram block.degree history) held.copy) whole
    (subst (λ (x : BlockHistory). IsCopyOf p (block_with x.diagram x.degree (take held.copy.version x.history)) held.copy) same
    is.copy_is)

-- one pivot more

abbrev IsCopyBefore : ℕ → BlockCopy → BlockHistory → Type 0
IsCopyBefore p copy block =
    (copy.version ≤ length block.history)
    × IsCopyOf p (block_with block.diagram block.degree (take copy.version block.history)) copy

copy-changed : (p : ℕ) (j : ℤ) (pivot : Pivot) (block : BlockHistory) (copy : BlockCopy) → IsCopyBefore p copy block
    → IsCopyBefore p copy (changed j pivot block)
copy-changed p j pivot block copy is = elim (cases_Bool (int_eq block.degree j)) [
  | inl here ↦
      subst (IsCopyBefore p copy) (sym (ap (λ b. cond b (with_pivot block pivot) block) here)) (
        omega (arith, is.0, length-append block.history (pivot ∷ [])),
        subst (λ history. IsCopyOf p (block_with block.diagram block.degree history) copy)
            (sym (take-append-le copy.version block.history (pivot ∷ []) is.0)) is.1,
      )
  | inr other ↦ subst (IsCopyBefore p copy) (sym (ap (λ b. cond b (with_pivot block pivot) block) other)) is
]

held-with_commit : (p : ℕ) (state : CoreState) (j : ℤ) (pivot : Pivot) (held : Option Holding) → IfSome held (IsHeldOf p state)
    → IfSome held (IsHeldOf p (with_commit state j pivot))
held-with_commit p state j pivot None is = tt
held-with_commit p state j pivot (Some held) is =
    let later = copy-changed p j pivot is.block held.copy (is.earlier, is.copy_is) in
    record {
      block = changed j pivot is.block;
      there = block_at-commit state j held.block pivot ∙ ap (option_map (changed j pivot)) is.there;
      earlier = later.0;
      copy_is = later.1;
    }

pub apart-sound : (p : ℕ) (state : CoreState) → IsSound p state → AreApart (map (λ held. held.degree) state.blocks)
apart-sound p state sound = subst AreApart (sym sound.blocks.degrees) (block_degrees-apart state.diagram)

-- the blocks after a commit, by the place of the block that changes
pub blocks-commit : (p : ℕ) (state : CoreState) (j : ℤ) (pivot : Pivot) (place : ℕ) (block : BlockHistory) → IsSound p state
    → place < length state.blocks → ((d : BlockHistory) → get_or state.blocks place d ≡ block) → block.degree ≡ j
    → (with_commit state j pivot).blocks ≡ set state.blocks place (with_pivot block pivot)
blocks-commit p state j pivot place block sound below is here =
    changed-set j pivot state.blocks place block (apart-sound p state sound) below is here

pub sound-commit : (p : ℕ) (state : CoreState) (j : ℤ) (pivot : Pivot) (block : BlockHistory) → IsSound p state
    → block_at state j ≡ Some block → IsPivot (complex_of p block) pivot → IsSound p (with_commit state j pivot)
sound-commit p state j pivot block sound there is =
    let after = with_commit state j pivot in
    let at = block_at-place state j block there in
    let legal : HasLegalHistory p block = subst (HasLegalHistory p) (at.2 block) (sound.legal at.0 block at.1) in
    record {
      blocks =
          record {
            degrees = degrees-changed j pivot state.blocks ∙ sound.blocks.degrees;
            diagram =
                All-map (λ held. held.diagram ≡ state.diagram) (changed j pivot) state.blocks
                (λ k d below. diagram-changed j pivot (get_or state.blocks k d) ∙ sound.blocks.diagram k d below);
          };
      legal =
          subst (All (HasLegalHistory p)) (sym (blocks-commit p state j pivot at.0 block sound at.1 at.2 at.3))
          (All-set (HasLegalHistory p) state.blocks at.0 (with_pivot block pivot)
          (legal-push p (cube_block p block.diagram block.degree) block.history pivot legal is) sound.legal);
      holdings =
          All-weaker (λ one. IfSome one (IsHeldOf p state)) (λ one. IfSome one (IsHeldOf p after))
          (held-with_commit p state j pivot) state.workers sound.holdings;
    }

-- what a worker holds

pub held_by-sound : (p : ℕ) (state : CoreState) (worker : ℕ) (held : Holding) → IsSound p state → held_by state worker ≡ Some held
    → IsHeldOf p state held
held_by-sound p state worker held sound holds =
    let Is : Option Holding → Type 0 = λ one. IfSome one (IsHeldOf p state) in
    let here : Is (held_by state worker) = All-or_default Is state.workers (worker - 1) None tt sound.holdings in
    subst Is holds here
