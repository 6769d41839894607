use Rattle.std.proofs.Common.{◌≡◌, ◌∙◌, ap, arith}
use Rattle.std.specs.List.{range_with_len, sum_by}
use Rattle.kh_types.proofs.AcceptedLemmas.{IsAccepted-is}
use Rattle.circle_smoothing.specs.GeneratorCounts.{generator_count, kind_generators}
use Rattle.circle_smoothing.specs.declared.kinds.TheConstants.{KINDS}
use Rattle.circle_smoothing.proofs.GeneratorLemmas.{generator_count-le, generators-by_kinds}
use Rattle.circle_smoothing.proofs.kinds.CountedDiagram.generator_count.Goals as goal

pub returns-clause-count : goal.returns-clause-count
returns-clause-count c =
    let all : c.kinds.kind ≡ KINDS = omega (arith, c.kinds-test.false, c.kinds.auto.kind-end) in
    c.kinds.invariant.count ∙ ap (λ kinds. sum_by (kind_generators c.args.self.now) (range_with_len 0 kinds)) all
    ∙ generators-by_kinds c.args.self.now ((IsAccepted-is c.args.self.now).0 c.name_count.ensures.code) c.name_count.ensures.few

pub returns-clause-within : goal.returns-clause-within
returns-clause-within c =
    let is = (IsAccepted-is c.args.self.now).0 c.name_count.ensures.code in
    let few = c.name_count.ensures.few in
    let all : c.kinds.kind ≡ KINDS = omega (arith, c.kinds-test.false, c.kinds.auto.kind-end) in
    let count : c.kinds.total ≡ generator_count c.args.self.now =
    c.kinds.invariant.count ∙ ap (λ kinds. sum_by (kind_generators c.args.self.now) (range_with_len 0 kinds)) all
    ∙ generators-by_kinds c.args.self.now is few in
    omega (arith, count, generator_count-le c.args.self.now is few)
