-- What the steps of the undo machine give.
use Rattle.std.proofs.Common.{◌≡◌, ◌-◌, inl, inr, List, [], ◌∷◌, ◌++◌, length, drop, Some, refl, sym, ◌∙◌, ap, arith, length-append, take_at}
use Rattle.std.proofs.lemmas.List.{drop-append-le}
use Rattle.kh_types.specs.Code.{Code}
use Rattle.circular_buffer.specs.Buffer.{keep_last}
use Rattle.undo_stack.specs.declared.limits.TheConstants.{UNDO_DEPTH}
use Rattle.undo_stack.specs.Histories.{History, changed, redone, history_of, undone}
use Rattle.undo_stack.proofs.ListEnds.{none_or_last, slice_get-end}

-- an undo where the last of the past is known
pub undone-push : (past : List Code) (last diagram : Code) (future : List Code)
    → undone (history_of (past ++ last ∷ []) diagram future) ≡ Some (history_of past last (diagram ∷ future))
undone-push past last diagram future =
    let less : length (past ++ last ∷ []) - 1 ≡ length past = omega (arith, length-append past (last ∷ [])) in
    rw
    (slice_get-end past last (length (past ++ last ∷ []) - 1) less, take_at past (last ∷ []) (length (past ++ last ∷ []) - 1) (sym less))
    refl

redone-undone_of : (past : List Code) (diagram : Code) (future : List Code) (b : History)
    → undone (history_of past diagram future) ≡ Some b → redone b ≡ Some (history_of past diagram future)
redone-undone_of past diagram future b is = elim (none_or_last past) [
  | inl none ↦
      let no : undone (history_of [] diagram future) ≡ Some b =
      ap (λ p. undone (history_of p diagram future)) (sym none) ∙ is in absurd cc
  | inr found ↦
      let same : Some (history_of found.0 found.1 (diagram ∷ future)) ≡ Some b =
      sym (undone-push found.0 found.1 diagram future) ∙ ap (λ p. undone (history_of p diagram future)) (sym found.2) ∙ is in
      let b_is : history_of found.0 found.1 (diagram ∷ future) ≡ b = cc in
      ap redone (sym b_is) ∙ ap (λ p. Some (history_of p diagram future)) (sym found.2)
]

-- what was undone is redone
pub redone-undone : (a b : History) → undone a ≡ Some b → redone b ≡ Some a
redone-undone a b is = redone-undone_of a.past a.diagram a.future b is

undone-redone_of : (past : List Code) (diagram : Code) (future : List Code) (b : History)
    → redone (history_of past diagram future) ≡ Some b → undone b ≡ Some (history_of past diagram future)
undone-redone_of past diagram [] b is = absurd cc
undone-redone_of past diagram (first ∷ more) b is =
    let b_is : history_of (past ++ diagram ∷ []) first more ≡ b = cc in
    ap undone (sym b_is) ∙ undone-push past diagram first more

-- what was redone is undone
pub undone-redone : (a b : History) → redone a ≡ Some b → undone b ≡ Some a
undone-redone a b is = undone-redone_of a.past a.diagram a.future b is

-- an undo behind a change
pub undone-changed : (a : History) (diagram : Code)
    → undone (changed diagram a) ≡ Some (history_of (keep_last (UNDO_DEPTH - 1) a.past) a.diagram (diagram ∷ []))
undone-changed a diagram =
    let long = length-append a.past (a.diagram ∷ []) in
    let less : length (a.past ++ a.diagram ∷ []) - UNDO_DEPTH ≡ length a.past - (UNDO_DEPTH - 1) = omega (arith, long) in
    let kept : keep_last UNDO_DEPTH (a.past ++ a.diagram ∷ []) ≡ keep_last (UNDO_DEPTH - 1) a.past ++ a.diagram ∷ [] =
    ap (λ n. drop n (a.past ++ a.diagram ∷ [])) less
    ∙ drop-append-le (length a.past - (UNDO_DEPTH - 1)) a.past (a.diagram ∷ []) (omega arith) in
    ap (λ p. undone (history_of p diagram [])) kept ∙ undone-push (keep_last (UNDO_DEPTH - 1) a.past) a.diagram diagram []
