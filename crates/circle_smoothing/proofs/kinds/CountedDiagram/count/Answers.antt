use Rattle.std.proofs.lemmas.Bool.Decides.{nat_tests}
use Rattle.std.proofs.Common.{arith}
use Rattle.kh_types.proofs.AcceptedLemmas.{IsAccepted-is}
use Rattle.circle_smoothing.proofs.KindLemmas.{kind_count-kept, kind_count-le, kind_count-nothing}
use Rattle.circle_smoothing.proofs.kinds.CountedDiagram.count.Goals as goal
use Rattle.circle_smoothing.proofs.kinds.CountedDiagram.count.Goals.{else-ones-le-CROSSINGS-via-then-ones-le-CROSSINGS+then-circles-names+else-names-circles-le-JOINS, else-ones-le-CROSSINGS-via-then-ones-le-CROSSINGS+else-circles-names, else-ones-le-CROSSINGS-via-else-ones-le-CROSSINGS}

pub returns-then-names-circles-le-JOINS-clause-count : goal.returns-then-names-circles-le-JOINS-clause-count
returns-then-names-circles-le-JOINS-clause-count = grind (arith, nat_tests, kind_count-kept)

pub returns-then-names-circles-le-JOINS-clause-within : goal.returns-then-names-circles-le-JOINS-clause-within
returns-then-names-circles-le-JOINS-clause-within c =
    omega (
      arith,
      kind_count-kept c.args.self.now c.self.inside c.args.ones c.args.circles c.name_count-names.result c.self.view_is c.self.invariant
          c.name_count-names.ensures.count c.if-ones-le-CROSSINGS.true c.if-circles-names.true c.if-names-circles-le-JOINS.true,
      kind_count-le c.args.self.now c.args.ones c.args.circles c.name_count-names.ensures.few,
    )

pub returns-else-ones-le-CROSSINGS-clause-count : goal.returns-else-ones-le-CROSSINGS-clause-count
returns-else-ones-le-CROSSINGS-clause-count c =
    let code = c.args.self.now in
    let is = (IsAccepted-is code).0 c.name_count-names.ensures.code in
    let few = c.name_count-names.ensures.few in
    let names = c.name_count-names.ensures.count in
    elim c.else-ones-le-CROSSINGS.branch [
      | else-ones-le-CROSSINGS-via-then-ones-le-CROSSINGS+then-circles-names+else-names-circles-le-JOINS w ↦
          kind_count-nothing code c.args.ones c.args.circles is few
          (λ ones within joins. omega (arith, names, joins, w.if-names-circles-le-JOINS.false))
      | else-ones-le-CROSSINGS-via-then-ones-le-CROSSINGS+else-circles-names w ↦
          kind_count-nothing code c.args.ones c.args.circles is few
          (λ ones within joins. omega (arith, names, within, w.if-circles-names.false))
      | else-ones-le-CROSSINGS-via-else-ones-le-CROSSINGS w ↦
          kind_count-nothing code c.args.ones c.args.circles is few
          (λ ones within joins. omega (arith, ones, w.if-ones-le-CROSSINGS.false))
    ]
