-- Each legal history of a block is that of a run: a worker looks and commits once for each pivot. Between the turns the state is
-- the opening one, but that one block has a history: this block is found at its degree, one pivot more is a commit to it, and
-- with no pivot it is the opening state. In a turn worker 1 looks, and is not told that the block is zero, since a legal history
-- that can go on has fewer pivots than all ranks together. It gets a copy for the next pivot, commits it at the version at which
-- it looked, and holds nothing again. The run is put together by induction on the pivots that are left.
use Rattle.std.proofs.Common.{◌≡◌, ◌≢◌, ℕ, zero, suc, ◌+◌, ◌<◌, ◌≤◌, ◌∙◌, List, [], ◌∷◌, ◌++◌, ℤ, length, get_or, set, map, replicate, refl, sym, ap, ap₂, subst, arith, Bool, true, false, cond, Option, None, Some, inl, inr, IsTrue, append_assoc, length-append}
use Rattle.std.specs.List.{Contains, find}
use Rattle.std.specs.Option.{option_map}
use Rattle.std.specs.Ordering.{int_eq}
use Rattle.std.proofs.lemmas.Bool.{cases_Bool}
use Rattle.std.proofs.lemmas.Bool.Decides.{Decides-int_eq}
use Rattle.std.proofs.lemmas.List.{append-nil, get_or-replicate, get_or-set_same, length-replicate}
use Rattle.kh_types.specs.Acceptance.{accepted}
use Rattle.kh_types.specs.Code.{Code}
use Rattle.kh_types.specs.Complex.{Complex, IsPivot, Pivot}
use Rattle.kh_types.specs.History.{IsLegal, block, replay}
use Rattle.prime_field.specs.Residues.{IsField}
use Rattle.cancel_step.specs.Copies.{copied}
use Rattle.history_laws.specs.RankSums.{rank_sum}
use Rattle.history_laws.proofs.HistoryEnds.{length-longest}
use Rattle.sparse_block.proofs.HistoryLemmas.{legal-push, replay-push}
use Rattle.cube_signs.specs.Blocks.{block_degrees}
use Rattle.square_laws.proofs.BlockComplexes.{IsComplex-block}
use Rattle.shared_block.specs.BlockHistories.{BlockCopy, BlockHistory, block_with, copy_with}
use Rattle.commit_core.specs.Alone.{blocks_with, looks_and_commits, state_with}
use Rattle.commit_core.specs.States.{Holding, CoreState, block_at, holding_of, opening_state, state_of, with_held}
use Rattle.commit_core.specs.Rows.{Commits, IsCoreRun, LooksAt}
use Rattle.commit_core.specs.declared.answer.Answer.{Answer}
use Rattle.commit_core.specs.declared.answer.Answer.TheVariants.{Looked, Committed}
use Rattle.commit_core.proofs.BlockChanges.{changed}
use Rattle.commit_core.proofs.Lists.{find-map, set-same, set-set}

-- the block at j has this history

find-contained : (xs : List ℤ) (j : ℤ) → Contains xs j → find (λ k. int_eq k j) xs ≡ Some j
find-contained [] j (k, below, is) = absurd (omega (arith, below))
find-contained (x ∷ xs) j (k, below, is) = elim (cases_Bool (int_eq x j)) [
  | inl here ↦
      ap (λ b. cond b (Some x) (find (λ y. int_eq y j) xs)) here ∙ ap Some ((Decides-int_eq x j).0 here)
  | inr other ↦
      ap (λ b. cond b (Some x) (find (λ y. int_eq y j) xs)) other ∙ find-contained xs j (later k below is other)
]
  where
    later : (n : ℕ) → n < length (x ∷ xs) → get_or (x ∷ xs) n j ≡ j → int_eq x j ≡ false → Contains xs j
    later zero within same other = absurd (let clash : true ≡ false = sym ((Decides-int_eq x j).1 same) ∙ other in cc (clash))
    later (suc n) within same other = (n, omega (arith, within), same)

pub block_at-with : (code : Code) (workers : ℕ) (j : ℤ) (history : List Pivot) → Contains (block_degrees code) j
    → block_at (state_with code workers j history) j ≡ Some (block_with code j history)
block_at-with code workers j history is =
    let made : ℤ → BlockHistory = λ k. block_with code k (cond (int_eq k j) history []) in
    find-map (λ held. int_eq held.degree j) made (block_degrees code)
    ∙ ap (option_map made) (find-contained (block_degrees code) j is)
    ∙ ap (λ (b : Bool). Some (block_with code j (cond b history []))) ((Decides-int_eq j j).1 refl)

-- with one pivot more

pub blocks-changed : (code : Code) (j : ℤ) (history : List Pivot) (pivot : Pivot) (degrees : List ℤ)
    → map (changed j pivot) (blocks_with code j history degrees) ≡ blocks_with code j (history ++ pivot ∷ []) degrees
blocks-changed code j history pivot [] = refl
blocks-changed code j history pivot (k ∷ degrees) =
    ap₂ (λ (x : BlockHistory) (xs : List BlockHistory). x ∷ xs) (by_test (int_eq k j)) (blocks-changed code j history pivot degrees)
  where
    by_test : (test : Bool)
        → cond test (block_with code k (cond test history [] ++ pivot ∷ [])) (block_with code k (cond test history []))
        ≡ block_with code k (cond test (history ++ pivot ∷ []) [])
    by_test true = refl
    by_test false = refl

-- with none

blocks-opening : (code : Code) (j : ℤ) (degrees : List ℤ)
    → blocks_with code j [] degrees ≡ map (λ k. block_with code k []) degrees
blocks-opening code j [] = refl
blocks-opening code j (k ∷ degrees) =
    ap₂ (λ (x : BlockHistory) (xs : List BlockHistory). x ∷ xs) (by_test (int_eq k j)) (blocks-opening code j degrees)
  where
    by_test : (test : Bool) → block_with code k (cond test [] []) ≡ block_with code k []
    by_test true = refl
    by_test false = refl

state-opening : (code : Code) (workers : ℕ) (j : ℤ) → state_with code workers j [] ≡ opening_state code workers
state-opening code workers j =
    ap (λ (blocks : List BlockHistory). state_of code blocks (replicate workers None)) (blocks-opening code j (block_degrees code))

-- worker 1 has taken and given back

pub workers-back : (workers : ℕ) (held : Option Holding) → 1 ≤ workers
    → set (set (replicate workers None) 0 held) 0 None ≡ replicate workers None
workers-back workers held some =
    set-set (replicate workers None) 0 held None
    ∙ set-same (replicate workers None) 0 None (get_or-replicate workers 0 None None (omega (arith, some)))

-- one turn

module _ (p : ℕ) (code : Code) (workers : ℕ) (j : ℤ) (field : IsField p) (is : IsTrue (accepted code)) (some : 1 ≤ workers)
    (has : Contains (block_degrees code) j) where
  abbrev cube : Complex
  cube = block p code j

  abbrev copy_for : List Pivot → Pivot → BlockCopy
  copy_for done pivot = copy_with (length done) (copied (replay p cube done) pivot)

  abbrev state_between : List Pivot → Pivot → CoreState
  state_between done pivot = with_held (state_with code workers j done) 1 (Some (holding_of j (copy_for done pivot)))

  shorter : (done : List Pivot) (pivot : Pivot) → IsLegal p cube done → IsPivot (replay p cube done) pivot
      → length done ≢ rank_sum p cube
  shorter done pivot legal is_pivot same =
      let longest =
      length-longest p cube (done ++ pivot ∷ []) field (IsComplex-block p code j field.above_one is)
      (legal-push p cube done pivot legal is_pivot) in
      omega (arith, longest, length-append done (pivot ∷ []), same)

  looks : (done : List Pivot) (pivot : Pivot) → IsLegal p cube done → IsPivot (replay p cube done) pivot
      → LooksAt p (state_with code workers j done) 1 j (Looked (length done)) (state_between done pivot)
  looks done pivot legal is_pivot = (
    block_with code j done,
    block_at-with code workers j done has,
    shorter done pivot legal is_pivot,
    refl,
    (copy_for done pivot, record { version = refl; pivot = is_pivot; parts = refl }, refl),
  )

  commits : (done : List Pivot) (pivot : Pivot)
      → Commits (state_between done pivot) 1 (Committed (length done + 1)) (state_with code workers j (done ++ pivot ∷ []))
  commits done pivot =
      let held = holding_of j (copy_for done pivot) in (
        held,
        block_with code j done,
        get_or-set_same (replicate workers None) 0 (Some held) None (omega (arith, some, length-replicate {A = Option Holding} workers None)),
        block_at-with code workers j done has,
        refl,
        refl,
        ap₂ (state_of code) (sym (blocks-changed code j done pivot (block_degrees code))) (sym (workers-back workers (Some held) some)),
      )

  runs-from : (later done : List Pivot) → IsLegal p cube done → IsLegal p (replay p cube done) later
      → (answers : List Answer)
      × IsCoreRun p (state_with code workers j done) (looks_and_commits 1 j (length later)) answers (state_with code workers j (done ++ later))
  runs-from [] done legal more = ([], ap (state_with code workers j) (append-nil done))
  runs-from (pivot ∷ later) done legal (is_pivot, more) =
      let next = done ++ pivot ∷ [] in
      let rest =
      runs-from later next (legal-push p cube done pivot legal is_pivot)
      (subst (λ (complex : Complex). IsLegal p complex later) (sym (replay-push p cube done pivot)) more) in (
        Looked (length done) ∷ Committed (length done + 1) ∷ rest.0,
        (
          state_between done pivot,
          looks done pivot legal is_pivot,
          (
            state_with code workers j next,
            commits done pivot,
            subst
                (λ (history : List Pivot).
                IsCoreRun p (state_with code workers j next) (looks_and_commits 1 j (length later)) rest.0 (state_with code workers j history))
                (append_assoc done (pivot ∷ []) later) rest.1,
          ),
        ),
      )

  pub history-run : (history : List Pivot) → IsLegal p cube history
      → (answers : List Answer)
      × IsCoreRun p (opening_state code workers) (looks_and_commits 1 j (length history)) answers (state_with code workers j history)
  history-run history legal =
      let run = runs-from history [] tt legal in (
        run.0,
        subst
            (λ (state : CoreState). IsCoreRun p state (looks_and_commits 1 j (length history)) run.0 (state_with code workers j history))
            (state-opening code workers j) run.1,
      )
