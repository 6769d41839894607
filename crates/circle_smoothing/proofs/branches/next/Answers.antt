use Rattle.std.proofs.lemmas.Bool.Decides.{nat_tests}
use Rattle.std.proofs.Common.{ℕ, List, get_or, ap, sym, subst, arith}
use Rattle.kh_types.specs.Classes.{IsNamed, class_count}
use Rattle.kh_types.proofs.JoinedClasses.{IsNamed-joined}
use Rattle.circle_smoothing.specs.declared.branches.TheConstants.{MEMBERS}
use Rattle.circle_smoothing.proofs.BranchLemmas.{pair-below}
use Rattle.circle_smoothing.proofs.branches.next.Goals as goal

pub fewer-requires-clause-first : goal.fewer-requires-clause-first
fewer-requires-clause-first = grind (arith, nat_tests)

pub fewer-requires-clause-second : goal.fewer-requires-clause-second
fewer-requires-clause-second = grind (arith, nat_tests)

pub fewer-requires-2-clause-named : goal.fewer-requires-2-clause-named
fewer-requires-2-clause-named c =
    let pair = get_or c.smoothing_of.result 0 (0, 0) in
    let below = pair-below MEMBERS c.args.smoothing c.args.crossing.now c.smoothing_of.result 0 c.smoothing_of.ensures c.requires.arcs (omega arith) in
    subst (λ (classes : List ℕ). IsNamed MEMBERS classes) (sym c.joined-classes.ensures)
    (IsNamed-joined MEMBERS c.args.branch.now.classes pair below.0 below.1 c.requires.branch.named)

pub fewer-requires-2-clause-first : goal.fewer-requires-2-clause-first
fewer-requires-2-clause-first = grind (arith, nat_tests)

pub fewer-requires-2-clause-second : goal.fewer-requires-2-clause-second
fewer-requires-2-clause-second = grind (arith, nat_tests)

pub returns-clause-branch : goal.returns-clause-branch
returns-clause-branch c =
    let pair = get_or c.smoothing_of.result 1 (0, 0) in
    let below = pair-below MEMBERS c.args.smoothing c.args.crossing.now c.smoothing_of.result 1 c.smoothing_of.ensures c.requires.arcs (omega arith) in
    let first = get_or c.smoothing_of.result 0 (0, 0) in
    let first_below = pair-below MEMBERS c.args.smoothing c.args.crossing.now c.smoothing_of.result 0 c.smoothing_of.ensures c.requires.arcs (omega arith) in
    let between : IsNamed MEMBERS c.joined-classes.result =
    subst (λ (classes : List ℕ). IsNamed MEMBERS classes) (sym c.joined-classes.ensures)
    (IsNamed-joined MEMBERS c.args.branch.now.classes first first_below.0 first_below.1 c.requires.branch.named) in
    record {
      named =
          subst (λ (classes : List ℕ). IsNamed MEMBERS classes) (sym c.joined.ensures)
          (IsNamed-joined MEMBERS c.joined-classes.result pair below.0 below.1 between);
      joins =
          omega (
            arith,
            c.requires.branch.joins,
            c.fewer.ensures.fewer,
            c.fewer-2.ensures.fewer,
            ap class_count c.joined-classes.ensures,
            ap class_count c.joined.ensures,
          );
    }

pub returns-clause-classes : goal.returns-clause-classes
returns-clause-classes = grind (arith, nat_tests)
