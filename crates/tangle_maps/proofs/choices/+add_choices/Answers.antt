use Rattle.std.proofs.Common.{arith, sym, ◌∙◌}
use Rattle.std.specs.Prelude.{slice_index}
use Rattle.std.proofs.lemmas.Result.{on_ok_weaker}
use Rattle.tangle_maps.proofs.ChoiceLemmas.{chosen_last, chosen_both, chosen_dotted, chosen_undotted}
use Rattle.tangle_maps.proofs.choices.+add_choices.Goals as goal

pub returns-in_ok-add_term-in-None-clause-sum : goal.returns-in_ok-add_term-in-None-clause-sum
returns-in_ok-add_term-in-None-clause-sum g t c =
    chosen_last g.F.PrimeField.P c.args.made.dots c.args.made.place (g.F.PrimeField.value_of c.args.value) c.args.names.now
    c.args.discs.now (slice_index c.args.left.now) c.args.terms.now.items c.add_term.new.terms.items
    c.in-None.ensures.cases (sym c.is_done.ensures ∙ c.if-is_done.true) c.in_ok-add_term-in-None.ensures.sum

pub returns-in_ok-add_choices-in-Some-2-clause-sum :
    goal.returns-in_ok-add_choices-in-Some-2-clause-sum
returns-in_ok-add_choices-in-Some-2-clause-sum g t c =
    chosen_both g.F.PrimeField.P c.args.made.dots c.args.made.place (g.F.PrimeField.value_of c.args.value) c.in-Some.component.now
    c.dotted.result.dots c.dotted.result.place c.undotted-then-at-gt0.result.dots c.undotted-then-at-gt0.result.place
    c.args.names.now c.args.discs.now c.in-Some.rest.now c.args.left.now c.fewer.result
    c.args.terms.now.items c.add_choices-in-Some.new.terms.items c.add_choices-then-at-gt0.new.terms.items
    c.in-Some.ensures.cases.0 (omega (arith, c.if-at-gt0.true, c.at.ensures)) c.dotted.ensures.dots c.dotted.ensures.place c.undotted-then-at-gt0.ensures.dots c.undotted-then-at-gt0.ensures.place
    c.fewer.ensures c.in_ok-add_choices-in-Some.ensures.sum c.in_ok-add_choices-in-Some-2.ensures.sum

pub returns-else-at-gt0-clause-sum : goal.returns-else-at-gt0-clause-sum
returns-else-at-gt0-clause-sum g t c =
    chosen_dotted g.F.PrimeField.P c.args.made.dots c.args.made.place (g.F.PrimeField.value_of c.args.value) c.in-Some.component.now
    c.dotted.result.dots c.dotted.result.place
    c.args.names.now c.args.discs.now c.in-Some.rest.now c.args.left.now
    c.args.terms.now.items c.add_choices-in-Some.new.terms.items
    c.in-Some.ensures.cases.0 (omega (arith, c.if-at-gt0.false, c.at.ensures)) c.dotted.ensures.dots c.dotted.ensures.place c.in_ok-add_choices-in-Some.ensures.sum

pub returns-then-not-may_have_dot-clause-sum : goal.returns-then-not-may_have_dot-clause-sum
returns-then-not-may_have_dot-clause-sum g t c =
    on_ok_weaker c.add_choices.result
    (chosen_undotted g.F.PrimeField.P c.args.made.dots c.args.made.place (g.F.PrimeField.value_of c.args.value) c.in-Some.component.now
    c.undotted.result.dots c.undotted.result.place c.args.names.now c.args.discs.now c.in-Some.rest.now c.args.left.now c.fewer-fewer.result
    c.args.terms.now.items c.add_choices.new.terms.items c.requires.named c.in-Some.ensures.cases.0
    (c.may_have_dot.ensures c.if-not-may_have_dot.true) c.undotted.ensures.dots c.undotted.ensures.place c.fewer-fewer.ensures)
    c.add_choices.ensures.sum
