use Rattle.std.proofs.Common.{◌≡◌, ◌∙◌, ◌⊎◌, ℤ, ap, sym, subst, length, arith, to_z, of_z, w16}
use Rattle.std.specs.Prelude.{IfNone, Option}
use Rattle.std.proofs.lemmas.Int.{ints}
use Rattle.kh_types.specs.Complex.{IsPivot, Pivot, pivot_at}
use Rattle.sparse_block.specs.Complexes.{column_of, row_of}
use Rattle.sparse_block.specs.Entries.{entries_of}
use Rattle.cancel_step.specs.Copies.{Copied, split_parts}
use Rattle.cancel_step.specs.Foreign.{IsForeign}
use Rattle.cancel_step.specs.Updates.{IsAlone}
use Rattle.cancel_step.specs.declared.patched.Update.{Update}
use Rattle.cancel_step.proofs.SameLemmas.{alone-same, pivot-same, updated-fits}
use Rattle.cancel_step.proofs.applying.apply_fitting.Goals as goal

pub drop_pair-requires-clause-pivot : goal.drop_pair-requires-clause-pivot
drop_pair-requires-clause-pivot g c =
    let complex = c.args.complex.now.complex in
    let look : Copied = split_parts c.look.inside.pivot c.look.inside.count c.look.inside.lines in
    let fits =
    subst (λ (parts : Copied). ¬ IsForeign parts complex) (sym (c.look.view_is ∙ c.patch.view_is)) c.requires in
    let inside = c.pivot.inside in
    let same : to_z w16 (of_z w16 inside.degree) ≡ inside.degree = omega (arith, ints, c.pivot.ranges) in
    subst (IsPivot complex) (sym (ap (λ (i : ℤ). pivot_at i inside.column inside.row) same ∙ c.pivot.view_is))
    (pivot-same g.F.PrimeField.P complex look c.complex_laws.ensures.complex c.look.invariant (λ column shows. fits (column, shows)))

pub drop_pair-requires-clause-alone : goal.drop_pair-requires-clause-alone
drop_pair-requires-clause-alone g c =
    let complex = c.args.complex.now.complex in
    let look : Copied = split_parts c.look.inside.pivot c.look.inside.count c.look.inside.lines in
    let fits =
    subst (λ (parts : Copied). ¬ IsForeign parts complex) (sym (c.look.view_is ∙ c.patch.view_is)) c.requires in
    let inside = c.pivot.inside in
    let same : to_z w16 (of_z w16 inside.degree) ≡ inside.degree = omega (arith, ints, c.pivot.ranges) in
    let alone : IsAlone look =
    subst IsAlone (sym c.look.view_is)
    (subst (λ (update : Option Update). IfNone update (IsAlone c.patch.inside.look)) c.in-None.is c.patch.invariant.alone) in
    let StandsAlone : Pivot → Type 0 =
    λ pivot.
    (length (entries_of (column_of complex pivot.degree pivot.column)) ≡ 1)
    ⊎ (length (entries_of (row_of complex pivot.degree pivot.row)) ≡ 1) in
    subst StandsAlone (sym (ap (λ (i : ℤ). pivot_at i inside.column inside.row) same ∙ c.pivot.view_is))
    (alone-same g.F.PrimeField.P complex look c.complex_laws.ensures.complex c.look.invariant (λ column shows. fits (column, shows))
    alone)

pub returns-in-None-clause-pivot : goal.returns-in-None-clause-pivot
returns-in-None-clause-pivot g c =
    let complex = c.args.complex.now.complex in
    let look : Copied = split_parts c.look.inside.pivot c.look.inside.count c.look.inside.lines in
    let is_look = c.look.view_is ∙ c.patch.view_is in
    let fits = subst (λ (parts : Copied). ¬ IsForeign parts complex) (sym is_look) c.requires in
    subst (λ (parts : Copied). IsPivot complex parts.pivot) is_look
    (pivot-same g.F.PrimeField.P complex look c.complex_laws.ensures.complex c.look.invariant (λ column shows. fits (column, shows)))

pub exchange-requires-clause-pivot : goal.exchange-requires-clause-pivot
exchange-requires-clause-pivot g c =
    let complex = c.args.complex.now.complex in
    let look : Copied = split_parts c.look.inside.pivot c.look.inside.count c.look.inside.lines in
    let fits =
    subst (λ (parts : Copied). ¬ IsForeign parts complex) (sym (c.look.view_is ∙ c.patch.view_is)) c.requires in
    pivot-same g.F.PrimeField.P complex look c.complex_laws.ensures.complex c.look.invariant (λ column shows. fits (column, shows))

pub exchange-requires-clause-columns : goal.exchange-requires-clause-columns
exchange-requires-clause-columns g c =
    let complex = c.args.complex.now.complex in
    let look : Copied = split_parts c.look.inside.pivot c.look.inside.count c.look.inside.lines in
    let fits =
    subst (λ (parts : Copied). ¬ IsForeign parts complex) (sym (c.look.view_is ∙ c.patch.view_is)) c.requires in
    (updated-fits g.F.PrimeField.P complex c.element_laws.ensures.field c.complex_laws.ensures.complex look c.patch.inside.look
    c.patch.inside.update c.in-Some.field-0 c.look.view_is c.patch.invariant c.in-Some.is fits).0

pub exchange-requires-clause-rows : goal.exchange-requires-clause-rows
exchange-requires-clause-rows g c =
    let complex = c.args.complex.now.complex in
    let look : Copied = split_parts c.look.inside.pivot c.look.inside.count c.look.inside.lines in
    let fits =
    subst (λ (parts : Copied). ¬ IsForeign parts complex) (sym (c.look.view_is ∙ c.patch.view_is)) c.requires in
    (updated-fits g.F.PrimeField.P complex c.element_laws.ensures.field c.complex_laws.ensures.complex look c.patch.inside.look
    c.patch.inside.update c.in-Some.field-0 c.look.view_is c.patch.invariant c.in-Some.is fits).1

pub returns-clause-pivot : goal.returns-clause-pivot
returns-clause-pivot g c =
    let complex = c.args.complex.now.complex in
    let look : Copied = split_parts c.look.inside.pivot c.look.inside.count c.look.inside.lines in
    let is_look = c.look.view_is ∙ c.patch.view_is in
    let fits = subst (λ (parts : Copied). ¬ IsForeign parts complex) (sym is_look) c.requires in
    subst (λ (parts : Copied). IsPivot complex parts.pivot) is_look
    (pivot-same g.F.PrimeField.P complex look c.complex_laws.ensures.complex c.look.invariant (λ column shows. fits (column, shows)))
