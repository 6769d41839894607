-- Blocks that are cancelled to zero, one after another.
use Rattle.std.proofs.Common.{◌≡◌, ℕ, ◌+◌, ◌<◌, ◌∙◌, ℤ, pos, List, [], ◌∷◌, ◌++◌, length, map, take, get_or, reverse, refl, sym, ap, ap₂, subst, arith, All}
use Rattle.std.proofs.lemmas.List.{map_push, take_more}
use Rattle.std.proofs.lemmas.List.Elements.{All-contains_itself, All-push}
use Rattle.std.proofs.lemmas.Simd.{map-map}
use mathlib.Core.List.{IsPrefix, reverse_aux}
use Rattle.kh_types.specs.Code.{Code}
use Rattle.cube_signs.specs.Blocks.{block_degrees}
use Rattle.shared_block.specs.BlockHistories.{BlockHistory, block_with}
use Rattle.shared_block.specs.AllBlocks.{AreBlocksOf, IsFinished, opening_blocks}
use Rattle.shared_block.proofs.AllBlocks.{AreBlocksOf-opening}
use Rattle.kh_types.proofs.Prefixes.{prefix_length}
use Rattle.worker_pool.specs.declared.finished.DoneBlock.{DoneBlock}
use Rattle.worker_pool.specs.declared.finished.Finished.{Finished}
use Rattle.worker_pool.specs.Outcomes.{AreBlocksAt, AreDegreesOf, AreDone, HasCommitted, IsDone, origin_of}
use Rattle.worker_pool.specs.Slots.{AreFrom}
use Rattle.worker_pool.proofs.BlockLemmas.{blocks_stay}
use Rattle.worker_pool.proofs.Zips.{zip_push}

-- a block that has been finished
pub done_one : {F : Type 0} (p : ℕ) (held : BlockHistory) (one : DoneBlock F) → one.committed ≡ length held.history
    → IsPrefix held.history one.block.history → IsFinished p one.block → IsDone p one
done_one p held one is goes_on zero = record { zero = zero; counted = omega (arith, is, prefix_length held.history one.block.history goes_on) }

-- one block more
pub done_more : {F : Type 0} (p : ℕ) (before after : Finished F) (one : DoneBlock F) → AreDone p before → IsDone p one
    → after.blocks.items ≡ before.blocks.items ++ one.block ∷ [] → after.committed.items ≡ before.committed.items ++ one.committed ∷ [] → AreDone p after
done_more p before after one done is are_all are_counts = record {
  zero = rw are_all (All-push (IsFinished p) before.blocks.items one.block done.zero is.zero);
  counts = rw (are_all, are_counts) (zip_push HasCommitted before.blocks.items before.committed.items one.block one.committed done.counts is.counted);
}

-- one count more that is 0
pub none_more : (counts all : List ℕ) (count : ℕ) → All (λ n. n ≡ 0) counts → count ≡ 0 → all ≡ counts ++ count ∷ [] → All (λ n. n ≡ 0) all
none_more counts all count none one more = rw more (All-push (λ n. n ≡ 0) counts count none one)

-- counts that stay 0
pub none_stay : (counts all : List ℕ) → All (λ n. n ≡ 0) counts → all ≡ counts → All (λ n. n ≡ 0) all
none_stay counts all none same = rw same none

-- all degrees of a diagram
pub degrees_all : (code : Code) (degrees : List ℤ) → degrees ≡ block_degrees code → AreDegreesOf code degrees
degrees_all code degrees are = subst (AreDegreesOf code) (sym are) (All-contains_itself (block_degrees code))

-- the blocks at all degrees
pub blocks_all : (code : Code) (blocks : List BlockHistory) → AreBlocksAt code (block_degrees code) blocks → AreBlocksOf code blocks
blocks_all code blocks are =
    blocks_stay code (opening_blocks code) blocks (are ∙ sym (map-map origin_of (λ j. block_with code j []) (block_degrees code)))
    (AreBlocksOf-opening code)

-- one degree more
pub blocks_more : (code : Code) (degrees : List ℤ) (k : ℕ) (blocks all : List BlockHistory) (held : BlockHistory) → AreBlocksAt code (take k degrees) blocks
    → k < length degrees → origin_of held ≡ (code, get_or degrees k (pos 0)) → all ≡ blocks ++ held ∷ []
    → AreBlocksAt code (take (k + 1) degrees) all
blocks_more code degrees k blocks all held are below is_held are_all =
    ap (λ (xs : List BlockHistory). map origin_of xs) are_all ∙ map_push origin_of blocks held
    ∙ ap₂ (λ (xs : List (Code × ℤ)) (o : Code × ℤ). xs ++ o ∷ []) are is_held
    ∙ sym (map_push (λ j. (code, j)) (take k degrees) (get_or degrees k (pos 0)))
    ∙ ap (λ (js : List ℤ). map (λ j. (code, j)) js) (sym (take_more degrees k (pos 0) below))

-- the origins of blocks that are made at some degrees
pub origins_made : (code : Code) (degrees : List ℤ) (blocks : List BlockHistory) → blocks ≡ map (λ j. block_with code j []) degrees
    → AreBlocksAt code degrees blocks
origins_made code degrees blocks are = ap (λ (xs : List BlockHistory). map origin_of xs) are ∙ map-map origin_of (λ j. block_with code j []) degrees

-- and they are of the diagram, in either order
from_degrees : (code : Code) (degrees : List ℤ) → AreFrom code (map (λ j. (code, j)) degrees)
from_degrees code [] = tt
from_degrees code (j ∷ degrees) = (refl, from_degrees code degrees)

from_front : (code : Code) (origins : List (Code × ℤ)) (last : Code × ℤ) → AreFrom code (origins ++ last ∷ []) → AreFrom code origins × (last.0 ≡ code)
from_front code [] last h = (tt, h.0)
from_front code (origin ∷ origins) last h = let rest = from_front code origins last h.1 in ((h.0, rest.0), rest.1)

-- what is left where the last is taken
pub taken_from : (code : Code) (before after : List (Code × ℤ)) (last : Code × ℤ) → AreFrom code before → before ≡ after ++ last ∷ []
    → AreFrom code after × (last.0 ≡ code)
taken_from code before after last h e = from_front code after last (subst (AreFrom code) e h)

from_reversed : (code : Code) (origins behind : List (Code × ℤ)) → AreFrom code origins → AreFrom code behind → AreFrom code (reverse_aux origins behind)
from_reversed code [] behind h k = k
from_reversed code (origin ∷ origins) behind h k = from_reversed code origins (origin ∷ behind) h.1 (h.0, k)

pub locked_from : (code : Code) (degrees : List ℤ) (blocks : List BlockHistory) (origins : List (Code × ℤ))
    → blocks ≡ map (λ j. block_with code j []) degrees → origins ≡ reverse (map origin_of blocks) → AreFrom code origins
locked_from code degrees blocks origins are order =
    subst (AreFrom code) (sym order)
    (from_reversed code (map origin_of blocks) [] (subst (AreFrom code) (sym (origins_made code degrees blocks are)) (from_degrees code degrees)) tt)
