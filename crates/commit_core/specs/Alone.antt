-- One worker alone at one block.
use Rattle.std.specs.Prelude.{ℕ, zero, suc, ℤ, List, [], ◌∷◌, map, replicate, if◌then◌else◌, None}
use Rattle.std.specs.Ordering.{int_eq}
use Rattle.kh_types.specs.Code.{Code}
use Rattle.kh_types.specs.Complex.{Pivot}
use Rattle.cube_signs.specs.Blocks.{block_degrees}
use Rattle.shared_block.specs.BlockHistories.{BlockHistory, block_with}
use Rattle.commit_core.specs.States.{CoreState, state_of}
use Rattle.commit_core.specs.declared.event.Event.{Event}
use Rattle.commit_core.specs.declared.event.Event.TheVariants.{Look, Commit}

-- so many times a worker looks at the block at a quantum degree and commits
abbrev pub looks_and_commits : ℕ → ℤ → ℕ → List Event
looks_and_commits worker j zero = []
looks_and_commits worker j (suc count) = Look worker j 0 ∷ Commit worker ∷ looks_and_commits worker j count

-- the opening blocks, but the one at j with this history
abbrev pub blocks_with : Code → ℤ → List Pivot → List ℤ → List BlockHistory
blocks_with code j history degrees = map (λ k. block_with code k (if int_eq k j then history else [])) degrees

-- the opening state, but with this history of the block at j
abbrev pub state_with : Code → ℕ → ℤ → List Pivot → CoreState
state_with code workers j history = state_of code (blocks_with code j history (block_degrees code)) (replicate workers None)
