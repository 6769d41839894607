use Rattle.std.proofs.Common.{◌≡◌, ◌∙◌, ◌∷◌, ◌++◌, [], ap, subst, subst₂, arith, vec_capacity}
use Rattle.kh_types.specs.Complex.{Complex, Pivot}
use Rattle.cancel_step.specs.Copies.{Copied}
use Rattle.cancel_step.specs.Foreign.{IsForeign}
use Rattle.shared_block.specs.BlockHistories.{BlockCopy, block_with, complex_of}
use Rattle.shared_block.proofs.CommitLemmas.{copy-committed, kept-pivot, room-pivot}
use Rattle.shared_block.proofs.shared_block.SharedBlock.take_fitting.Goals as goal

pub apply_fitting-requires : goal.apply_fitting-requires
apply_fitting-requires g c foreign =
    let p = g.F.PrimeField.P in
    let is_parts = ap (λ (copy : BlockCopy). copy.parts) c.patch.view_is in
    let is_complex = c.self.invariant.replayed ∙ ap (complex_of p) c.self.view_is in
    copy-committed p c.args.self.now c.args.patch c.requires
    (subst₂ (λ (parts : Copied) (complex : Complex). IsForeign parts complex) is_parts is_complex foreign)

pub push_reserved-requires : goal.push_reserved-requires
push_reserved-requires g c =
    let p = g.F.PrimeField.P in
    let inside = c.self.inside in
    let held = block_with inside.diagram inside.degree inside.history.items in
    omega (
      arith,
      room-pivot p held (vec_capacity inside.history) inside.complex.complex c.patch.inside.patch.pivot c.element_laws.ensures.field
          c.self.invariant c.apply_fitting.ensures.pivot,
      inside.history.ok,
    )

pub invariant_of-self : goal.invariant_of-self
invariant_of-self g c =
    let p = g.F.PrimeField.P in
    let inside = c.self.inside in
    let held = block_with inside.diagram inside.degree inside.history.items in
    kept-pivot p held (vec_capacity inside.history) inside.complex.complex c.patch.inside.patch.pivot c.push_reserved.new.self.items
    (vec_capacity c.push_reserved.new.self) c.apply_fitting.new.complex.complex
    c.element_laws.ensures.field c.self.invariant c.apply_fitting.ensures.pivot
    (subst (λ (pivot : Pivot). c.push_reserved.new.self.items ≡ inside.history.items ++ pivot ∷ []) c.pivot-pivot.ensures
    c.push_reserved.ensures.items)
    c.push_reserved.ensures.capacity c.apply_fitting.ensures.complex
