-- What was put into slots stands in order at the end.
use Rattle.std.proofs.Common.{◌≡◌, ℕ, ◌+◌, ◌<◌, ◌≤◌, ◌∙◌, List, [], ◌∷◌, ◌++◌, length, get_or, set, Option, Some, None, inl, inr, refl, sym, ap, subst, arith}
use Rattle.std.specs.Prelude.{IfSome}
use Rattle.std.proofs.lemmas.List.{get_or_append_left, get_or_default, get_or_past, get_or-set_other, length-append}
use Rattle.std.proofs.Math.Seq.{get_or-append_seam}
use Rattle.std.proofs.lemmas.Bool.{cases_lt}
use Rattle.worker_pool.specs.declared.finished.DoneBlock.{DoneBlock}
use Rattle.worker_pool.specs.declared.finished.Finished.{Finished}
use Rattle.worker_pool.specs.Slots.{HaveAt, StandInOrder}

-- what was in the slots before a place stands in order, and from there on the slots are as they were
pub record StandTo {F : Type 0} (place : ℕ) (slots now : List (Option (DoneBlock F))) (done : Finished F) : Type 0 where
  pub stand : (at : ℕ) → at < place → IfSome (get_or slots at None) (HaveAt done at)
  pub rest : (at : ℕ) → place ≤ at → get_or now at None ≡ get_or slots at None
  pub blocks : length done.blocks.items ≡ place
  pub counts : length done.committed.items ≡ place

if-some : {X : Type 0} (P Q : X → Type 0) (found : Option X) → ((x : X) → P x → Q x) → IfSome found P → IfSome found Q
if-some P Q None implies holds = tt
if-some P Q (Some x) implies holds = implies x holds

-- an item of a list, where one more stands behind it
kept_before : {X : Type 0} (xs all : List X) (x d : X) (k : ℕ) → all ≡ xs ++ x ∷ [] → k < length xs → get_or xs k d ≡ d → get_or all k d ≡ d
kept_before {X} xs all x d k is below same = ap (λ (ys : List X). get_or ys k d) is ∙ get_or_append_left xs (x ∷ []) d k below ∙ same

-- the item at the end
kept_last : {X : Type 0} (xs all : List X) (x d : X) (k : ℕ) → all ≡ xs ++ x ∷ [] → length xs ≡ k → get_or all k d ≡ x
kept_last {X} xs all x d k is size =
    ap (λ (n : ℕ). get_or all n d) (sym size) ∙ ap (λ (ys : List X). get_or ys (length xs) d) is ∙ get_or-append_seam xs x [] d

longer : {X : Type 0} (xs all : List X) (x : X) → all ≡ xs ++ x ∷ [] → length all ≡ length xs + 1
longer xs all x is = ap length is ∙ length-append xs (x ∷ [])

-- one slot more
pub stand_more : {F : Type 0} (place : ℕ) (slots now next : List (Option (DoneBlock F))) (done after : Finished F) (one : DoneBlock F)
    → StandTo place slots now done → IfSome (get_or now place None) (λ kept. one ≡ kept) → next ≡ set now place None
    → after.blocks.items ≡ done.blocks.items ++ one.block ∷ [] → after.committed.items ≡ done.committed.items ++ one.committed ∷ []
    → StandTo (place + 1) slots next after
stand_more {F} place slots now next done after one before taken emptied blocks counts =
    let size = longer done.blocks.items after.blocks.items one.block blocks in
    let count = longer done.committed.items after.committed.items one.committed counts in
    record {
      stand = λ at below. elim (cases_lt at place) [
        | inl less ↦ if-some (HaveAt done at) (HaveAt after at) (get_or slots at None) (λ kept have. record {
          within = omega (arith, size, have.within);
          block = kept_before done.blocks.items after.blocks.items one.block kept.block at blocks have.within have.block;
          counted = omega (arith, count, have.counted);
          count = kept_before done.committed.items after.committed.items one.committed kept.committed at counts have.counted have.count;
        }) (before.stand at less)
        | inr from ↦
            let here : at ≡ place = omega (arith, below, from) in
            subst (λ (n : ℕ). IfSome (get_or slots n None) (HaveAt after n)) (sym here)
            (if-some (λ (kept : DoneBlock F). one ≡ kept) (HaveAt after place) (get_or slots place None) (λ kept same. record {
              within = omega (arith, size, before.blocks);
              block = kept_last done.blocks.items after.blocks.items one.block kept.block place blocks before.blocks
                  ∙ ap (λ (x : DoneBlock F). x.block) same;
              counted = omega (arith, count, before.counts);
              count = kept_last done.committed.items after.committed.items one.committed kept.committed place counts before.counts
                  ∙ ap (λ (x : DoneBlock F). x.committed) same;
            }) (subst (λ slot. IfSome slot (λ (kept : DoneBlock F). one ≡ kept)) (before.rest place (omega arith)) taken))
      ];
      rest = λ at from.
          ap (λ (xs : List (Option (DoneBlock F))). get_or xs at None) emptied ∙ get_or-set_other now place at None None (apart at from)
          ∙ before.rest at (omega (arith, from));
      blocks = omega (arith, size, before.blocks);
      counts = omega (arith, count, before.counts);
    }
  where
    apart : (at : ℕ) → place + 1 ≤ at → at ≡ place → ⊥
    apart at from same = omega (arith, from, same)

-- all slots
pub stand_all : {F : Type 0} (place : ℕ) (slots now : List (Option (DoneBlock F))) (done : Finished F) → StandTo place slots now done
    → length slots ≤ place → StandInOrder slots done
stand_all {F} place slots now done before whole at = elim (cases_lt at place) [
  | inl less ↦ before.stand at less
  | inr from ↦ subst (λ slot. IfSome slot (HaveAt done at)) (sym (get_or_past slots at None (omega (arith, whole, from)))) tt
]

-- what is taken out of a slot is what was in it
pub taken_is_kept : {X : Type 0} (slots : List (Option X)) (place : ℕ) (x : X) → place < length slots → Some x ≡ get_or slots place (Some x)
    → IfSome (get_or slots place None) (λ kept. x ≡ kept)
taken_is_kept {X} slots place x below is =
    subst (λ slot. IfSome slot (λ (kept : X). x ≡ kept)) (is ∙ get_or_default slots place (Some x) None below) refl
