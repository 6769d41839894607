use Rattle.std.proofs.Common.{◌+◌, ◌*◌, ◌%◌, ◌^◌, ◌-◌, ◌∙◌, ap, length, subst, arith}
use Rattle.tangle_maps.specs.declared.seam.Seam.{Seam}
use Rattle.crossing_maps.specs.AddedSeams.{AreMarks}
use Rattle.crossing_maps.proofs.MarkBits.{marks-are, marks-fit}
use Rattle.crossing_maps.proofs.bridges.Bridge.marks.Goals as goal

pub overflow_add-result : goal.overflow_add-result
overflow_add-result c =
    let closed = c.args.self.now.closed in
    omega (
      arith,
      marks-fit closed (c.len.result - closed) c.lowest.result c.lowest-behind.result (omega arith) c.lowest.ensures.below
          c.lowest-behind.ensures.below,
    )

pub returns : goal.returns
returns c =
    let closed = c.args.self.now.closed in
    let labels = c.args.labels in
    let made = (c.lowest-behind.result * 2 ^ closed) % 2 ^ 64 + c.lowest.result in
    subst (λ n. AreMarks closed (n - closed) labels.before labels.behind made)
    (c.len.ensures.value ∙ ap (λ (seam : Seam). length seam.second.items) c.seam.ensures)
    (marks-are closed (c.len.result - closed) c.lowest.result c.lowest-behind.result labels.before labels.behind (omega arith) (omega arith)
    c.lowest.ensures.bits c.lowest-behind.ensures.bits)
