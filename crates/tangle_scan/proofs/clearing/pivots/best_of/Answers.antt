use Rattle.std.proofs.Common.{List, subst, arith}
use Rattle.std.proofs.lemmas.List.{take_all}
use Rattle.tangle_scan.specs.declared.complex.Entry.{Entry}
use Rattle.tangle_scan.proofs.PivotLemmas.{AreNone, IsBest, best-more, none-more}
use Rattle.tangle_scan.proofs.clearing.pivots.best_of.Goals as goal

pub entries-preserved : goal.entries-preserved
entries-preserved c =
    let objects = c.args.objects.now in
    let column = c.args.column.now in
    let k = c.entries.entry-index in
    let entry = c.entry-item.result in
    record {
      found = best-more objects c.args.tail column k entry c.entries.best c.candidate_of.result c.shorter-best.result c.entries-test.true
          c.entry-item.is c.entries.invariant.found c.candidate_of.ensures.found c.shorter-best.ensures.found;
      none = λ none.
          let both = c.shorter-best.ensures.none none in
          none-more objects c.args.tail column k entry c.entries-test.true c.entry-item.is (c.entries.invariant.none both.0)
          (c.candidate_of.ensures.none both.1);
    }

pub returns-clause-found : goal.returns-clause-found
returns-clause-found c =
    subst (λ (es : List Entry). IsBest c.args.objects.now c.args.tail es c.entries.best)
    (take_all c.entries.entry-index c.args.column.now (omega (arith, c.entries-test.false))) c.entries.invariant.found

pub returns-clause-none : goal.returns-clause-none
returns-clause-none c none =
    subst (λ (es : List Entry). AreNone c.args.objects.now c.args.tail es)
    (take_all c.entries.entry-index c.args.column.now (omega (arith, c.entries-test.false))) (c.entries.invariant.none none)
