-- The reply to the union of two diagrams.
use Rattle.std.proofs.Common.{◌≡◌, ◌≤◌, ◌<◌, ℕ, Bool, true, false, cond, List, IfOk, refl, sym, ap, subst, ◌∙◌, Result, Ok, Err, nat_lt, arith}
use Rattle.std.specs.Prelude.{◌↔◌}
use Rattle.std.proofs.lemmas.Grind.{common_steps}
use Rattle.kh_types.specs.Code.{Code}
use Rattle.kh_types.specs.declared.limits.TheConstants.{CROSSINGS, LOOPS}
use Rattle.link_algebra.specs.Unions.{IsUnionFault, crossings_together, loops_together, union_of}
use Rattle.link_algebra.specs.declared.fault.UnionFault.{UnionFault}
use Rattle.link_algebra.specs.declared.fault.UnionFault.TheVariants.{Crossings, Loops}
use Rattle.kh_runs.specs.Statuses.{IsReplyStatus}
use Rattle.word_line.specs.declared.command.Form.TheVariants.{Pd}
use Rattle.kh_replies.specs.Convert.{convert_reply}
use Rattle.kh_runs.specs.Refusals.{too_many_crossings, too_many_loops}
use Rattle.kh_runs.specs.Replies.{Reply}
use Rattle.kh_replies.specs.Union.{union_reply}

-- its status is one of a reply

pub union-status : (first second : Code) → IsReplyStatus (union_reply first second).status
union-status first second = go (nat_lt CROSSINGS (crossings_together first second)) (nat_lt LOOPS (loops_together first second))
  where
    go : (crossed looped : Bool)
        → IsReplyStatus (cond crossed (too_many_crossings (crossings_together first second))
        (cond looped (too_many_loops (loops_together first second)) (convert_reply Pd (union_of first second)))).status
    go true looped = tt
    go false true = tt
    go false false = tt

-- the reply to what the union of two diagrams is

beyond : (n limit : ℕ) → limit < n → nat_lt limit n ≡ true
beyond n limit above = grind (arith, common_steps)

within : (n limit : ℕ) → n ≤ limit → nat_lt limit n ≡ false
within n limit few = grind (arith, common_steps)

chosen : (test value : Bool) (this other : Reply) → test ≡ value → cond test this other ≡ cond value this other
chosen test value this other same = ap (λ (b : Bool). cond b this other) same

-- where nothing refuses it
abbrev NoFault : Code → Code → Type 0
NoFault first second = (fault : UnionFault) → IsUnionFault first second fault → ⊥

few-crossings : (first second : Code) → NoFault first second → nat_lt CROSSINGS (crossings_together first second) ≡ false
few-crossings first second none = go (nat_lt CROSSINGS (crossings_together first second)) refl
  where
    go : (b : Bool) → nat_lt CROSSINGS (crossings_together first second) ≡ b → b ≡ false
    go false is = refl
    go true is =
        let above : CROSSINGS < crossings_together first second = grind (arith, common_steps) in
        absurd (none (Crossings (crossings_together first second)) (refl, above))

few-loops : (first second : Code) → NoFault first second → nat_lt LOOPS (loops_together first second) ≡ false
few-loops first second none = go (nat_lt LOOPS (loops_together first second)) refl
  where
    crossings : nat_lt CROSSINGS (crossings_together first second) ≡ false
    crossings = few-crossings first second none

    go : (b : Bool) → nat_lt LOOPS (loops_together first second) ≡ b → b ≡ false
    go false is = refl
    go true is =
        let few : crossings_together first second ≤ CROSSINGS = grind (arith, common_steps, crossings) in
        let above : LOOPS < loops_together first second = grind (arith, common_steps) in
        absurd (none (Loops (loops_together first second)) (refl, (few, above)))

union_reply-one : (first second : Code) → NoFault first second → union_reply first second ≡ convert_reply Pd (union_of first second)
union_reply-one first second none =
    chosen (nat_lt CROSSINGS (crossings_together first second)) false _ _ (few-crossings first second none)
    ∙ chosen (nat_lt LOOPS (loops_together first second)) false _ _ (few-loops first second none)

pub union_reply-made : {E : Type 0} (result : Result Reply E) (first second diagram : Code) → diagram ≡ union_of first second
    → ((fault : UnionFault) → ◌≡◌ {A = Result Code UnionFault} (Ok diagram) (Err fault) ↔ IsUnionFault first second fault)
    → IfOk result (λ reply. reply ≡ convert_reply Pd diagram) → IfOk result (λ reply. reply ≡ union_reply first second)
union_reply-made (Ok reply) first second diagram same fault is =
    let none : NoFault first second = λ f refused.
    let bad : ◌≡◌ {A = Result Code UnionFault} (Ok diagram) (Err f) = (fault f).1 refused in cc in
    is ∙ ap (λ (code : Code). convert_reply Pd code) same ∙ sym (union_reply-one first second none)
union_reply-made (Err stop) first second diagram same fault is = tt

-- and where something does
pub union_reply-crossings : {E : Type 0} (result : Result Reply E) (first second : Code) (count : ℕ) → IsUnionFault first second (Crossings count)
    → IfOk result (λ reply. reply ≡ too_many_crossings count) → IfOk result (λ reply. reply ≡ union_reply first second)
union_reply-crossings (Ok reply) first second count fault is =
    is ∙ ap too_many_crossings fault.0
    ∙ sym (chosen (nat_lt CROSSINGS (crossings_together first second)) true _ _
    (beyond (crossings_together first second) CROSSINGS (subst (λ (n : ℕ). CROSSINGS < n) fault.0 fault.1)))
union_reply-crossings (Err stop) first second count fault is = tt

pub union_reply-loops : {E : Type 0} (result : Result Reply E) (first second : Code) (count : ℕ) → IsUnionFault first second (Loops count)
    → IfOk result (λ reply. reply ≡ too_many_loops count) → IfOk result (λ reply. reply ≡ union_reply first second)
union_reply-loops (Ok reply) first second count fault is =
    is ∙ ap too_many_loops fault.0
    ∙ sym (chosen (nat_lt CROSSINGS (crossings_together first second)) false _ _
    (within (crossings_together first second) CROSSINGS fault.1.0)
    ∙ chosen (nat_lt LOOPS (loops_together first second)) true _ _
    (beyond (loops_together first second) LOOPS (subst (λ (n : ℕ). LOOPS < n) fault.0 fault.1.1)))
union_reply-loops (Err stop) first second count fault is = tt
