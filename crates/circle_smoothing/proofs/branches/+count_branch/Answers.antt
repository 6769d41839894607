use Rattle.std.proofs.lemmas.Bool.Decides.{nat_tests}
use Rattle.std.proofs.Common.{◌≡◌, ◌+◌, length, arith}
use Rattle.std.proofs.lemmas.List.{nil_from_length}
use Rattle.circle_smoothing.specs.declared.branches.TheConstants.{MEMBERS}
use Rattle.circle_smoothing.proofs.BranchLemmas.{HaveArcsBelow-rest, LeavesCrossings-less, branch_count-le, counted-parted, pow-parted}
use Rattle.circle_smoothing.proofs.branches.+count_branch.Goals as goal

pub count_branch-requires : goal.count_branch-requires
count_branch-requires = grind (arith, nat_tests, LeavesCrossings-less, HaveArcsBelow-rest, pow-parted)

pub count_branch-requires-in-Some : goal.count_branch-requires-in-Some
count_branch-requires-in-Some t c =
    let more = length c.args.crossings.now in
    let rest = length c.in-Some.rest.now in
    let less : rest + 1 ≡ more = c.in-Some.ensures.cases.1 in (
      omega (arith, less, c.decreases),
      (
        c.count_branch.ensures.size,
        (
          c.next-in-Some.ensures.branch,
          (
            LeavesCrossings-less c.args.branch.now c.next-in-Some.result more rest c.requires.leaves less
                (omega (arith, c.next-in-Some.ensures.ones)) c.next-in-Some.ensures.joins,
            (
              (HaveArcsBelow-rest MEMBERS c.args.crossings.now c.in-Some.first.now c.in-Some.rest.now c.in-Some.ensures.cases.0 c.requires.arcs).1,
              λ place within.
                  omega (
                    arith,
                    c.requires.room place within,
                    pow-parted more rest less,
                    c.count_branch.ensures.counts place within,
                    branch_count-le c.in-Some.rest.now c.next.result.ones c.next.result.classes place,
                  ),
            ),
          ),
        ),
      ),
    )

pub returns-in-None-clause-counts : goal.returns-in-None-clause-counts
returns-in-None-clause-counts = grind (arith, nat_tests, nil_from_length)

pub returns-in-Some-clause-counts : goal.returns-in-Some-clause-counts
returns-in-Some-clause-counts t c = λ place within.
    let zero = c.next.result in
    let one = c.next-in-Some.result in
    omega (
      arith,
      c.count_branch.ensures.counts place within,
      c.count_branch-in-Some.ensures.counts place within,
      counted-parted c.args.crossings.now c.in-Some.first.now c.in-Some.rest.now c.args.branch.now.ones zero.ones one.ones
          c.args.branch.now.classes zero.classes one.classes place c.in-Some.ensures.cases.0 c.next.ensures.ones
          c.next-in-Some.ensures.ones c.next.ensures.classes c.next-in-Some.ensures.classes,
    )
