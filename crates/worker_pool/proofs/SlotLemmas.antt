-- Slots for the blocks of a diagram.
use Rattle.std.proofs.Common.{◌≡◌, ℕ, suc, ◌<◌, ℤ, pos, List, [], ◌∷◌, ◌++◌, length, get_or, set, All, Option, Some, None, sym, ap, subst, arith, ◌∙◌}
use Rattle.std.specs.Global.{Vec}
use Rattle.std.specs.Prelude.{IfSome}
use Rattle.std.specs.List.{AllZip, Contains}
use Rattle.std.proofs.lemmas.List.Elements.{All-push, All-set}
use Rattle.kh_types.specs.Code.{Code}
use Rattle.cube_signs.specs.Blocks.{block_degrees}
use Rattle.shared_block.specs.BlockHistories.{BlockHistory, block_with}
use Rattle.worker_pool.specs.declared.finished.DoneBlock.{DoneBlock}
use Rattle.worker_pool.specs.Outcomes.{AreDegreesOf, IsDone}
use Rattle.worker_pool.specs.Slots.{AreDoneSlots, AreEmpty, AreSlotsOf, IsDoneBlock, IsDoneSlot}
use Rattle.worker_pool.proofs.Zips.{zip_at, zip_set}

-- a degree that is read at one place is one of the diagram's
pub contains_at : (code : Code) (degrees : List ℤ) (place : ℕ) (kept : ℤ) → AreDegreesOf code degrees → place < length degrees
    → kept ≡ get_or degrees place (pos 0) → Contains (block_degrees code) kept
contains_at code degrees place kept all lt e =
    subst (λ j. Contains (block_degrees code) j) (sym e) (all place (pos 0) lt)

-- one degree more
pub degree_more : (code : Code) (degrees chosen all : List ℤ) (place : ℕ) (kept : ℤ) → AreDegreesOf code degrees → AreDegreesOf code chosen
    → place < length degrees → all ≡ chosen ++ kept ∷ [] → kept ≡ get_or degrees place (pos 0) → AreDegreesOf code all
degree_more code degrees chosen all place kept h k lt e is =
    rw e (All-push (Contains (block_degrees code)) chosen kept k (contains_at code degrees place kept h lt is))

module _ {X : Type 0} (R : ℤ → X → Type 0) where
  -- one slot for each degree, with something of which R holds, or nothing yet
  abbrev pub AreSlots : List ℤ → List (Option X) → Type 0
  AreSlots degrees slots = AllZip (λ j slot. IfSome slot (R j)) degrees slots

  all_empty : (degrees : List ℤ) (slots : List (Option X)) → length slots ≡ length degrees → All (λ slot. slot ≡ None) slots → AreSlots degrees slots
  all_empty [] [] size h = tt
  all_empty [] (slot ∷ slots) size h = absurd (omega arith)
  all_empty (j ∷ degrees) [] size h = absurd (omega arith)
  all_empty (j ∷ degrees) (slot ∷ slots) size h =
      (subst (λ x. IfSome x (R j)) (sym (h 0 slot (omega arith))) tt, all_empty degrees slots (omega arith) (λ k d lt. h (suc k) d (omega arith)))

  -- what is in a slot
  pub in_slot : (degrees : List ℤ) (slots : List (Option X)) (place : ℕ) (x : X) → AreSlots degrees slots → place < length degrees
      → Some x ≡ get_or slots place (Some x) → R (get_or degrees place (pos 0)) x
  in_slot degrees slots place x h lt e =
      let j = get_or degrees place (pos 0) in
      subst (λ slot. IfSome slot (R j)) (sym e) (zip_at (λ i slot. IfSome slot (R i)) degrees slots place (pos 0) (Some x) h lt)

  -- a slot that has been emptied
  pub slot_emptied : (degrees : List ℤ) (slots after : List (Option X)) (place : ℕ) → AreSlots degrees slots → after ≡ set slots place None
      → AreSlots degrees after
  slot_emptied degrees slots after place h e = rw e (zip_set (λ i slot. IfSome slot (R i)) degrees slots place (pos 0) None h tt)

-- rows in one of which a slot has been emptied
pub slots_emptied : (code : Code) (degrees : List ℤ) (rows : List (Vec (Option BlockHistory))) (k : ℕ) (row after : Vec (Option BlockHistory)) (place : ℕ)
    → All (λ slots. AreSlotsOf code degrees slots.items) rows → k < length rows → after.items ≡ set (get_or rows k row).items place None
    → All (λ slots. AreSlotsOf code degrees slots.items) (set rows k after)
slots_emptied code degrees rows k row after place h lt e =
    All-set (λ slots. AreSlotsOf code degrees slots.items) rows k after
    (slot_emptied (λ j held. held ≡ block_with code j []) degrees (get_or rows k row).items after.items place (h k row lt) e) h

-- rows of empty slots
pub slots_empty : (code : Code) (degrees : List ℤ) (rows : List (Vec (Option BlockHistory))) (n : ℕ) → All (λ row. AreEmpty n row.items) rows
    → n ≡ length degrees → All (λ row. AreSlotsOf code degrees row.items) rows
slots_empty code degrees rows n h e k d lt =
    let one = h k d lt in all_empty (λ j held. held ≡ block_with code j []) degrees (get_or rows k d).items (one.size ∙ e) one.empty

-- empty slots for done blocks
pub done_slots_empty : {F : Type 0} (p : ℕ) (code : Code) (degrees : List ℤ) (slots : List (Option (DoneBlock F))) (n : ℕ) → AreEmpty n slots → n ≡ length degrees
    → AreDoneSlots p code degrees slots
done_slots_empty p code degrees slots n h e = all_empty (IsDoneBlock p code) degrees slots (h.size ∙ e) h.empty

-- a done block that has been put into the slot of its degree
pub done_put : {F : Type 0} (p : ℕ) (degrees : List ℤ) (slots : List (Option (DoneBlock F))) (place : ℕ) (one : DoneBlock F)
    → AreDoneSlots p one.block.diagram degrees slots → get_or degrees place (pos 0) ≡ one.block.degree → IsDone p one
    → AreDoneSlots p one.block.diagram degrees (set slots place (Some one))
done_put p degrees slots place one h at done =
    let code = one.block.diagram in
    let there : IsDoneBlock p code (get_or degrees place (pos 0)) one = record { origin = ap (λ (j : ℤ). (code, j)) (sym at); done = done } in
    zip_set (IsDoneSlot p code) degrees slots place (pos 0) (Some one) h there
