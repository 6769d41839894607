-- Blocks of a diagram before any cancellation, and after some.
use Rattle.std.proofs.Common.{◌≡◌, ℕ, zero, suc, ◌+◌, ◌<◌, ◌≤◌, ◌∙◌, List, [], ◌∷◌, ◌++◌, ℤ, length, map, take, take_all, get_or, set, subst, refl, sym, ap, ap₂, arith}
use Rattle.std.specs.List.{AllByRecursion, AllZip}
use Rattle.std.proofs.lemmas.List.{map_push, take_more}
use Rattle.std.proofs.lemmas.List.Elements.{All-from_recursion, All-map, recursion_from_All}
use Rattle.std.proofs.lemmas.Simd.{map-map}
use Rattle.kh_types.specs.Code.{Code}
use Rattle.cube_signs.specs.Blocks.{block_degrees}
use Rattle.shared_block.specs.BlockHistories.{BlockHistory, block_with}
use Rattle.shared_block.specs.AllBlocks.{AreBlocksOf, IsLaterOf, degrees_of_blocks, opening_blocks}
use Rattle.kh_types.proofs.Prefixes.{prefix_self, prefix_trans}

-- before any cancellation

-- the blocks of some quantum degrees
abbrev pub opened : Code → List ℤ → List BlockHistory
opened code degrees = map (λ j. block_with code j []) degrees

-- one block more; a degree that is read from memory and kept there is the same
pub opened-more : (code made_of : Code) (degrees : List ℤ) (k : ℕ) (read kept : ℤ) (made next : List BlockHistory)
    (block : BlockHistory) → made ≡ opened code (take k degrees) → k < length degrees → read ≡ get_or degrees k read → kept ≡ read
    → made_of ≡ code → block ≡ block_with made_of kept [] → next ≡ made ++ block ∷ [] → next ≡ opened code (take (k + 1) degrees)
opened-more code made_of degrees k read kept made next block is_made below is_read is_kept is_code is_block is_next =
    is_next
    ∙ ap₂ (λ (xs : List BlockHistory) (b : BlockHistory). xs ++ b ∷ []) is_made
    (is_block ∙ ap₂ (λ (diagram : Code) (j : ℤ). block_with diagram j []) is_code (is_kept ∙ is_read))
    ∙ sym (map_push (λ j. block_with code j []) (take k degrees) (get_or degrees k read))
    ∙ ap (opened code) (sym (take_more degrees k read below))

pub opened-all : (code : Code) (degrees : List ℤ) (k : ℕ) (made : List BlockHistory) → made ≡ opened code (take k degrees)
    → length degrees ≤ k → degrees ≡ block_degrees code → made ≡ opening_blocks code
opened-all code degrees k made is_made all is_degrees = is_made ∙ ap (opened code) (take_all k degrees all ∙ is_degrees)

map-same : {X : Type 0} (xs : List X) → map (λ x. x) xs ≡ xs
map-same [] = refl
map-same (x ∷ xs) = ap (λ ys. x ∷ ys) (map-same xs)

pub AreBlocksOf-opening : (code : Code) → AreBlocksOf code (opening_blocks code)
AreBlocksOf-opening code =
    record {
      diagram = All-map (λ held. held.diagram ≡ code) (λ j. block_with code j []) (block_degrees code) (λ k d below. refl);
      degrees = map-map (λ held. held.degree) (λ j. block_with code j []) (block_degrees code) ∙ map-same (block_degrees code);
    }

pub AreBlocksOf-opened : (code : Code) (blocks : List BlockHistory) → blocks ≡ opening_blocks code → AreBlocksOf code blocks
AreBlocksOf-opened code blocks are = subst (AreBlocksOf code) (sym are) (AreBlocksOf-opening code)

-- after some cancellations

pub IsLaterOf-self : (held : BlockHistory) → IsLaterOf held held
IsLaterOf-self held = record { diagram = refl; degree = refl; history = prefix_self held.history }

pub IsLaterOf-trans : (first second third : BlockHistory) → IsLaterOf first second → IsLaterOf second third → IsLaterOf first third
IsLaterOf-trans first second third once again =
    record {
      diagram = again.diagram ∙ once.diagram;
      degree = again.degree ∙ once.degree;
      history = prefix_trans first.history second.history third.history once.history again.history;
    }

pub later-self : (blocks : List BlockHistory) → AllZip IsLaterOf blocks blocks
later-self [] = tt
later-self (held ∷ blocks) = (IsLaterOf-self held, later-self blocks)

pub later-trans : (first second third : List BlockHistory) → AllZip IsLaterOf first second → AllZip IsLaterOf second third
    → AllZip IsLaterOf first third
later-trans [] [] [] once again = tt
later-trans [] [] (z ∷ zs) once again = again
later-trans [] (y ∷ ys) third once again = absurd once
later-trans (x ∷ xs) [] third once again = absurd once
later-trans (x ∷ xs) (y ∷ ys) [] once again = again
later-trans (x ∷ xs) (y ∷ ys) (z ∷ zs) once again = (IsLaterOf-trans x y z once.0 again.0, later-trans xs ys zs once.1 again.1)

-- diagrams and degrees are kept
diagrams-later : (code : Code) (before after : List BlockHistory) → AllZip IsLaterOf before after
    → AllByRecursion (λ held. held.diagram ≡ code) before → AllByRecursion (λ held. held.diagram ≡ code) after
diagrams-later code [] [] later all = all
diagrams-later code [] (y ∷ ys) later all = absurd later
diagrams-later code (x ∷ xs) [] later all = absurd later
diagrams-later code (x ∷ xs) (y ∷ ys) later all = (later.0.diagram ∙ all.0, diagrams-later code xs ys later.1 all.1)

degrees-later : (before after : List BlockHistory) → AllZip IsLaterOf before after
    → degrees_of_blocks after ≡ degrees_of_blocks before
degrees-later [] [] later = refl
degrees-later [] (y ∷ ys) later = absurd later
degrees-later (x ∷ xs) [] later = absurd later
degrees-later (x ∷ xs) (y ∷ ys) later = ap₂ (λ (j : ℤ) (js : List ℤ). j ∷ js) later.0.degree (degrees-later xs ys later.1)

pub AreBlocksOf-later : (code : Code) (before after : List BlockHistory) → AllZip IsLaterOf before after → AreBlocksOf code before
    → AreBlocksOf code after
AreBlocksOf-later code before after later are =
    record {
      diagram = All-from_recursion (λ held. held.diagram ≡ code) after
          (diagrams-later code before after later (recursion_from_All (λ held. held.diagram ≡ code) before are.diagram));
      degrees = degrees-later before after later ∙ are.degrees;
    }

-- one block is put in the place of an earlier one
pub later-set : (old before : List BlockHistory) (k : ℕ) (d after : BlockHistory) → k < length before
    → AllZip IsLaterOf old before → IsLaterOf (get_or before k d) after → AllZip IsLaterOf old (set before k after)
later-set [] [] k d after below later more = later
later-set [] (y ∷ ys) k d after below later more = absurd later
later-set (x ∷ xs) [] k d after below later more = absurd later
later-set (x ∷ xs) (y ∷ ys) zero d after below later more = (IsLaterOf-trans x y after later.0 more, later.1)
later-set (x ∷ xs) (y ∷ ys) (suc k) d after below later more =
    (later.0, later-set xs ys k d after (omega (arith, below)) later.1 more)

-- for the crates above
pub ruleset blocks = (AreBlocksOf-opening, AreBlocksOf-opened, AreBlocksOf-later, IsLaterOf-self, IsLaterOf-trans, later-self, later-trans)
