use Rattle.std.proofs.Common.{◌≡◌, ◌∙◌, ◌∷◌, ◌++◌, [], ap, sym, subst, subst₂, refl, arith, vec_capacity}
use Rattle.std.proofs.lemmas.Bool.{false≢true}
use Rattle.std.proofs.lemmas.Int.{ints}
use Rattle.kh_types.specs.Complex.{Complex, Pivot}
use Rattle.cancel_step.specs.Copies.{Copied}
use Rattle.cancel_step.specs.Foreign.{IsForeign, ShowsAt}
use Rattle.sparse_block.specs.Least.{IsLeast}
use Rattle.shared_block.specs.BlockHistories.{BlockCopy, block_with, complex_of}
use Rattle.shared_block.proofs.CommitLemmas.{kept-pivot, room-pivot}
use Rattle.shared_block.proofs.shared_block.SharedBlock.commit.Goals as goal

pub push_reserved-requires : goal.push_reserved-requires
push_reserved-requires g c =
    let p = g.F.PrimeField.P in
    let inside = c.self.inside in
    let held = block_with inside.diagram inside.degree inside.history.items in
    omega (
      arith,
      room-pivot p held (vec_capacity inside.history) inside.complex.complex c.patch.inside.patch.pivot c.element_laws.ensures.field
          c.self.invariant c.in-Ok.ensures.pivot,
      inside.history.ok,
    )

pub invariant_of-self : goal.invariant_of-self
invariant_of-self g c =
    let p = g.F.PrimeField.P in
    let inside = c.self.inside in
    let held = block_with inside.diagram inside.degree inside.history.items in
    kept-pivot p held (vec_capacity inside.history) inside.complex.complex c.patch.inside.patch.pivot c.push_reserved.new.self.items
    (vec_capacity c.push_reserved.new.self) c.apply.new.complex.complex
    c.element_laws.ensures.field c.self.invariant c.in-Ok.ensures.pivot
    (subst (λ (pivot : Pivot). c.push_reserved.new.self.items ≡ inside.history.items ++ pivot ∷ []) c.pivot-pivot.ensures
    c.push_reserved.ensures.items)
    c.push_reserved.ensures.capacity c.in-Ok.ensures.ok

pub returns-in-Ok-clause-foreign : goal.returns-in-Ok-clause-foreign
returns-in-Ok-clause-foreign g c =
    let p = g.F.PrimeField.P in
    let is_parts = ap (λ (copy : BlockCopy). copy.parts) c.patch.view_is in
    let is_complex = c.self.invariant.replayed ∙ ap (complex_of p) c.self.view_is in (
      λ never. absurd never,
      λ both. false≢true (c.in-Ok.ensures.foreign.1
          (subst₂ (λ (parts : Copied) (complex : Complex). IsForeign parts complex) (sym is_parts) (sym is_complex) both.1)),
    )

pub returns-in-Err-clause-foreign : goal.returns-in-Err-clause-foreign
returns-in-Err-clause-foreign g c =
    let p = g.F.PrimeField.P in
    let is_parts = ap (λ (copy : BlockCopy). copy.parts) c.patch.view_is in
    let is_version = ap (λ (copy : BlockCopy). copy.version) c.patch.view_is in
    let is_complex = c.self.invariant.replayed ∙ ap (complex_of p) c.self.view_is in (
      λ _. (
        sym is_version ∙ c.if-patch-now.false ∙ c.version-now.ensures.version,
        subst₂ (λ (parts : Copied) (complex : Complex). IsForeign parts complex) is_parts is_complex (c.in-Err.ensures.foreign.0 refl),
      ),
      λ _. tt,
    )

pub returns-in-Err-clause-answer : goal.returns-in-Err-clause-answer
returns-in-Err-clause-answer g c =
    let p = g.F.PrimeField.P in
    let is_parts = ap (λ (copy : BlockCopy). copy.parts) c.patch.view_is in
    let is_complex = c.self.invariant.replayed ∙ ap (complex_of p) c.self.view_is in
    let is_degree = ap (λ (parts : Copied). parts.pivot.degree) is_parts in (
      c.self.view_is,
      omega (arith, ints, c.in-Err.ensures.carried.0, is_degree),
      subst₂ (λ (parts : Copied) (complex : Complex). IsLeast (ShowsAt parts complex) c.in-Err.field-0.column) is_parts is_complex
          c.in-Err.ensures.carried.1,
    )
