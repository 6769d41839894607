use Rattle.std.proofs.lemmas.Bool.Decides.{nat_tests}
use Rattle.std.proofs.Common.{◌≡◌, ◌∙◌, ◌<◌, ℤ, length, ap, subst, sym, arith, w16}
use Rattle.std.proofs.lemmas.Int.{ints, to_z-of_z}
use Rattle.kh_types.specs.History.{first_or_zero, homological_degrees}
use Rattle.sparse_block.specs.Inside.{lines_in}
use Rattle.cube_signs.proofs.NamedBlocks.{block-built, block-some, length-names}
use Rattle.cube_signs.proofs.cube.Cube.parts.Goals as goal

pub span-requires-clause-some : goal.span-requires-clause-some
span-requires-clause-some = grind (arith, nat_tests, to_z-of_z, block-some)

pub all_columns-requires-clause-high : goal.all_columns-requires-clause-high
all_columns-requires-clause-high = grind (arith, nat_tests, length-names, ints)

pub all_columns-requires-clause-names : goal.all_columns-requires-clause-names
all_columns-requires-clause-names = grind (arith, nat_tests, length-names)

pub returns : goal.returns
returns c =
    let code = c.args.self.now in
    let span = c.in_ok-span.span in
    let least = span.least in
    let same : c.lowest.result.j ≡ c.args.j = c.lowest.ensures.j ∙ to_z-of_z w16 c.args.j c.ranges.j in
    let is_j : least.j ≡ c.args.j = c.in_ok-span.ensures.quantum ∙ same in
    let at_j : c.lowest.result.j ≡ least.j = sym c.in_ok-span.ensures.quantum in
    let count : span.count ≡ length (homological_degrees code least.j) =
    c.in_ok-span.ensures.count ∙ ap (λ (j : ℤ). length (homological_degrees code j)) at_j in
    let some : 0 < length (homological_degrees code least.j) =
    subst (λ (j : ℤ). 0 < length (homological_degrees code j)) (sym is_j) (block-some code c.args.j c.requires.degree) in
    block-built c.args.p code c.args.j least.j least.i span.count c.in_ok-names.names.items c.deref-2.result.now
    (lines_in c.in_ok-columns.columns.items) c.requires.prime c.state_count.ensures.code c.state_count.ensures.size
    (omega (arith, some, count)) c.in_ok-span.ensures.above c.in_ok-span.ensures.below is_j
    (c.in_ok-span.ensures.low ∙ ap (λ (j : ℤ). first_or_zero (homological_degrees code j)) at_j) count c.in_ok-names.ensures
    c.deref-2.ensures.value c.in_ok-columns.ensures
