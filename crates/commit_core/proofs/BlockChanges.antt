-- One pivot more in the history of the block at a quantum degree.
use Rattle.std.proofs.Common.{◌≡◌, ◌≢◌, ℕ, zero, suc, ◌<◌, ◌∙◌, List, [], ◌∷◌, ℤ, length, get_or, set, map, refl, sym, ap, ap₂, arith, subst, Bool, cond, Some, inl, inr}
use Rattle.std.specs.Prelude.{if◌then◌else◌}
use Rattle.std.specs.List.{AllByRecursion, find}
use Rattle.std.specs.Option.{option_map}
use Rattle.std.specs.Ordering.{int_eq}
use Rattle.std.proofs.Math.Path.{fun_ext}
use Rattle.std.proofs.lemmas.Bool.{cases_Bool, false_from_ne_true}
use Rattle.std.proofs.lemmas.Bool.Decides.{Decides-int_eq}
use Rattle.std.proofs.lemmas.List.{get_or-map, length-map}
use Rattle.std.proofs.lemmas.List.Elements.{All-from_recursion}
use Rattle.kh_types.specs.Complex.{Pivot}
use Rattle.shared_block.specs.BlockHistories.{BlockHistory}
use Rattle.shared_block.specs.Commits.{with_pivot}
use Rattle.commit_core.specs.States.{CoreState, block_at, with_commit}
use Rattle.commit_core.proofs.Apart.{AreApart}
use Rattle.commit_core.proofs.Lists.{find-map, found-place}

-- a block, with one more pivot where its degree is this one
abbrev pub changed : ℤ → Pivot → BlockHistory → BlockHistory
changed j pivot held = if int_eq held.degree j then with_pivot held pivot else held

pub changed-here : (j : ℤ) (pivot : Pivot) (held : BlockHistory) → held.degree ≡ j → changed j pivot held ≡ with_pivot held pivot
changed-here j pivot held here = ap (λ b. cond b (with_pivot held pivot) held) ((Decides-int_eq held.degree j).1 here)

pub changed-other : (j : ℤ) (pivot : Pivot) (held : BlockHistory) → held.degree ≢ j → changed j pivot held ≡ held
changed-other j pivot held other =
    ap (λ b. cond b (with_pivot held pivot) held)
    (false_from_ne_true (int_eq held.degree j) (λ same. other ((Decides-int_eq held.degree j).0 same)))

-- the degree and the diagram stay

pub degree-changed : (j : ℤ) (pivot : Pivot) (held : BlockHistory) → (changed j pivot held).degree ≡ held.degree
degree-changed j pivot held = elim (cases_Bool (int_eq held.degree j)) [
  | inl here ↦ ap (λ b. (cond b (with_pivot held pivot) held).degree) here
  | inr other ↦ ap (λ b. (cond b (with_pivot held pivot) held).degree) other
]

pub diagram-changed : (j : ℤ) (pivot : Pivot) (held : BlockHistory) → (changed j pivot held).diagram ≡ held.diagram
diagram-changed j pivot held = elim (cases_Bool (int_eq held.degree j)) [
  | inl here ↦ ap (λ b. (cond b (with_pivot held pivot) held).diagram) here
  | inr other ↦ ap (λ b. (cond b (with_pivot held pivot) held).diagram) other
]

pub degrees-changed : (j : ℤ) (pivot : Pivot) (blocks : List BlockHistory)
    → map (λ held. held.degree) (map (changed j pivot) blocks) ≡ map (λ held. held.degree) blocks
degrees-changed j pivot [] = refl
degrees-changed j pivot (held ∷ blocks) =
    ap₂ (λ (i : ℤ) (is : List ℤ). i ∷ is) (degree-changed j pivot held) (degrees-changed j pivot blocks)

-- where no degree stands twice, one block alone changes

unchanged : (j : ℤ) (pivot : Pivot) (blocks : List BlockHistory) → AllByRecursion (λ i. i ≢ j) (map (λ held. held.degree) blocks)
    → map (changed j pivot) blocks ≡ blocks
unchanged j pivot [] other = refl
unchanged j pivot (held ∷ blocks) other =
    ap₂ (λ (x : BlockHistory) (xs : List BlockHistory). x ∷ xs) (changed-other j pivot held other.0)
    (unchanged j pivot blocks other.1)

degree-later : (blocks : List BlockHistory) (place : ℕ) (block : BlockHistory) (i : ℤ) → place < length blocks
    → ((d : BlockHistory) → get_or blocks place d ≡ block)
    → AllByRecursion (λ y. y ≢ i) (map (λ held. held.degree) blocks) → block.degree ≢ i
degree-later blocks place block i below is apart same =
    let degree : BlockHistory → ℤ = λ held. held.degree in
    All-from_recursion (λ y. y ≢ i) (map degree blocks) apart place i (omega (arith, below, length-map blocks degree))
    (get_or-map degree blocks place block i below ∙ ap degree (is block) ∙ same)

pub changed-set : (j : ℤ) (pivot : Pivot) (blocks : List BlockHistory) (place : ℕ) (block : BlockHistory)
    → AreApart (map (λ held. held.degree) blocks) → place < length blocks → ((d : BlockHistory) → get_or blocks place d ≡ block)
    → block.degree ≡ j → map (changed j pivot) blocks ≡ set blocks place (with_pivot block pivot)
changed-set j pivot [] place block apart below is here = absurd (omega (arith, below))
changed-set j pivot (held ∷ blocks) zero block apart below is here =
    let same : held ≡ block = is held in
    ap₂ (λ (x : BlockHistory) (xs : List BlockHistory). x ∷ xs)
    (ap (changed j pivot) same ∙ changed-here j pivot block here)
    (unchanged j pivot blocks
    (subst (λ (i : ℤ). AllByRecursion (λ y. y ≢ i) (map (λ x. x.degree) blocks)) (ap (λ (x : BlockHistory). x.degree) same ∙ here)
    apart.0))
changed-set j pivot (held ∷ blocks) (suc place) block apart below is here =
    let within : place < length blocks = omega (arith, below) in
    ap₂ (λ (x : BlockHistory) (xs : List BlockHistory). x ∷ xs)
    (changed-other j pivot held (λ same. degree-later blocks place block held.degree within is apart.0 (here ∙ sym same)))
    (changed-set j pivot blocks place block apart.1 within is here)

-- the block at a quantum degree has it, and stands at a place

pub block_at-place : (state : CoreState) (j : ℤ) (block : BlockHistory) → block_at state j ≡ Some block
    → (place : ℕ) × (place < length state.blocks) × ((d : BlockHistory) → get_or state.blocks place d ≡ block) × (block.degree ≡ j)
block_at-place state j block found =
    let at = found-place (λ held. int_eq held.degree j) state.blocks block found in
    (at.0, at.1.below, at.1.is, (Decides-int_eq block.degree j).0 at.1.passes)

pub block_at-commit : (state : CoreState) (j i : ℤ) (pivot : Pivot)
    → block_at (with_commit state j pivot) i ≡ option_map (changed j pivot) (block_at state i)
block_at-commit state j i pivot =
    find-map (λ held. int_eq held.degree i) (changed j pivot) state.blocks
    ∙ ap (λ (test : BlockHistory → Bool). option_map (changed j pivot) (find test state.blocks))
    (fun_ext (λ held. ap (λ (k : ℤ). int_eq k i) (degree-changed j pivot held)))
