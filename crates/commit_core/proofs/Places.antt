-- The place of the block at a quantum degree.
use Rattle.std.proofs.Common.{◌≡◌, ℕ, ◌≤◌, ◌∙◌, List, ℤ, length, refl, sym, ap, subst, arith, false, cond, Option, None, Some, inl, inr}
use Rattle.std.specs.Prelude.{MatchOption, nat_lt}
use Rattle.std.specs.List.{position, position_or_len, slice_get}
use Rattle.std.specs.Ordering.{int_eq}
use Rattle.std.proofs.lemmas.Bool.{lt-ltb, false_from_ne_true}
use Rattle.std.proofs.lemmas.Bool.Decides.{Decides-ltb}
use Rattle.std.proofs.lemmas.List.Folds.{find_at}
use Rattle.std.proofs.lemmas.Option.{get_or_from_slice_get, slice_get_cases}
use Rattle.shared_block.specs.BlockHistories.{BlockHistory}
use Rattle.commit_core.specs.Parts.{IsBlockAt}
use Rattle.commit_core.specs.States.{CoreState, block_at}

le-ltb : (a b : ℕ) → a ≤ b → nat_lt b a ≡ false
le-ltb a b le = false_from_ne_true (nat_lt b a) (λ less. omega (arith, le, (Decides-ltb b a).0 less))

-- a first place of those that pass is where the search ends
found-at : (state : CoreState) (j : ℤ) (place : ℕ) (found : Option ℕ) → place ≡ position_or_len (λ held. int_eq held.degree j) state.blocks
    → found ≡ cond (nat_lt place (length state.blocks)) (Some place) None
    → MatchOption found (block_at state j ≡ None) (IsBlockAt state j)
found-at state j place found is_place is_found = elim ((slice_get_cases state.blocks place).1) [
  | inl (block, below, some, read) ↦
      subst (λ (f : Option ℕ). MatchOption f (block_at state j ≡ None) (IsBlockAt state j))
      (sym (is_found ∙ ap (λ b. cond b (Some place) None) (lt-ltb place (length state.blocks) below))) (
      record {
        block = block;
        there = searched ∙ some;
        below = below;
        is = λ d. get_or_from_slice_get state.blocks place block d some;
      }
      )
  | inr (past, none) ↦
      subst (λ (f : Option ℕ). MatchOption f (block_at state j ≡ None) (IsBlockAt state j))
      (sym (is_found ∙ ap (λ b. cond b (Some place) None) (le-ltb (length state.blocks) place past))) (searched ∙ none)
]
  where
    searched : block_at state j ≡ slice_get state.blocks place
    searched = find_at (λ held. int_eq held.degree j) state.blocks ∙ ap (slice_get state.blocks) (sym is_place)

place-found : (state : CoreState) (j : ℤ) (found : Option ℕ) → found ≡ position (λ held. int_eq held.degree j) state.blocks
    → MatchOption found (block_at state j ≡ None) (IsBlockAt state j)
place-found state j found is = found-at state j (position_or_len (λ held. int_eq held.degree j) state.blocks) found refl is

-- a degree that is kept in memory is the same
pub place-read : (inside now : CoreState) (j kept : ℤ) (blocks : List BlockHistory) (found : Option ℕ) → kept ≡ j → inside ≡ now
    → blocks ≡ inside.blocks → found ≡ position (λ held. int_eq held.degree kept) blocks
    → MatchOption found (block_at now j ≡ None) (IsBlockAt now j)
place-read inside now j kept blocks found is_kept same are_blocks is =
    place-found now j found
    (is ∙ ap (λ (k : ℤ). position (λ (held : BlockHistory). int_eq held.degree k) blocks) is_kept
    ∙ ap (position (λ (held : BlockHistory). int_eq held.degree j)) (are_blocks ∙ ap (λ (s : CoreState). s.blocks) same))
