use Rattle.std.proofs.lemmas.Bool.Decides.{nat_tests}
use Rattle.std.proofs.Common.{◌≡◌, ◌<◌, ◌+◌, ◌*◌, ◌∙◌, ℕ, ℤ, List, length, ap, subst, sym, arith, w16}
use Rattle.std.specs.Prelude.{slice_index_or, [], pos, ◌+ℤ◌, ◌-ℤ◌, All}
use Rattle.std.specs.Global.{Vec}
use Rattle.std.proofs.lemmas.Int.{to_z-of_z}
use Rattle.std.proofs.lemmas.List.{map_push}
use Rattle.smallvec.specs.SmallVec.{SmallVec}
use Rattle.sparse_block.specs.Entries.{Entry}
use Rattle.sparse_block.specs.Inside.{entries_in, lines_in, lists_in}
use Rattle.kh_types.specs.Generators.{generators_at}
use Rattle.cube_signs.specs.declared.limits.TheConstants.{PLACES}
use Rattle.cube_signs.specs.Chosen.{has_minus}
use Rattle.cube_signs.specs.ChosenParts.{all_places_to, AreChosenParts}
use Rattle.cube_signs.proofs.ChosenColumns.{AreChosenColumns}
use Rattle.cube_signs.proofs.ChosenBlocks.{AreChosenParts-columns, chosen_columns-more, places-behind}
use Rattle.cube_signs.proofs.ChosenLoops.{chosen-names, chosen-tails, length-chosen}
use Rattle.cube_signs.proofs.ChosenPlaces.{places-small}
use Rattle.cube_signs.proofs.GeneratorPlaces.{length-generators_at}
use Rattle.cube_signs.proofs.cube.Cube.chosen_parts.Goals as goal

pub index-requires : goal.index-requires
index-requires = grind (arith, nat_tests, length-chosen)

abbrev at_next : List (List ℕ) → ℕ → List ℕ
at_next lists k = slice_index_or lists (k + 1) []

pub chosen_columns-requires-clause-heads : goal.chosen_columns-requires-clause-heads
chosen_columns-requires-clause-heads c =
    let code = c.args.self.now in
    let choice = has_minus c.args.circles.now in
    let j = c.lowest-lowest.result.j in
    let next = pos c.degrees.k -ℤ pos (length code.crossings) +ℤ pos 1 in
    let count = c.crossing_count.ensures.count in
    let places =
    c.in_ok-chosen.ensures.places ∙ ap (λ (n : ℕ). all_places_to choice code j (2 * n + 1)) count in
    let heads =
    c.list_at-heads.ensures ∙ ap (λ (lists : List (Vec ℕ)). at_next (lists_in lists) c.degrees.k) c.deref.ensures.value
    ∙ places-behind choice code j c.degrees.k (lists_in c.in_ok-chosen.chosen.before.items) places
    (omega (arith, c.degrees-test.true, count)) in
    subst (All (λ (head : ℕ). head < PLACES)) (sym heads)
    (places-small choice (generators_at code next j) PLACES
    (omega (arith, length-generators_at code next j c.state_count.ensures.size)))

pub chosen_columns-requires-clause-names : goal.chosen_columns-requires-clause-names
chosen_columns-requires-clause-names c =
    let code = c.args.self.now in
    let choice = has_minus c.args.circles.now in
    let low = c.lowest-lowest.result in
    chosen-tails choice code low.i c.above.result.i low.j c.above.result.j c.degrees.k c.deref-in-degrees-2.result.now
    c.lowest-lowest.ensures.i c.above.ensures.i c.above.ensures.j
    (c.deref-in-degrees-2.ensures.value
    ∙ chosen-names choice code low.j (2 * c.crossing_count.result + 1) c.degrees.k c.in_ok-chosen.chosen.names.items
    c.index.result.now c.in_ok-chosen.ensures.names c.degrees-test.true c.index.ensures)

pub degrees-preserved : goal.degrees-preserved
degrees-preserved c =
    let code = c.args.self.now in
    let choice = has_minus c.args.circles.now in
    let low = c.lowest-lowest.result in
    let names = c.in_ok-chosen.chosen.names.items in
    let before = lists_in c.in_ok-chosen.chosen.before.items in
    let count = c.crossing_count.ensures.count in
    let places : before ≡ all_places_to choice code low.j (2 * length code.crossings + 1) =
    c.in_ok-chosen.ensures.places ∙ ap (λ (n : ℕ). all_places_to choice code low.j (2 * n + 1)) count in
    chosen_columns-more choice c.args.p code low.i c.above.result.i low.j c.above.result.j c.degrees.k c.deref-in-degrees-2.result.now
    c.list_at-heads.result.now (entries_in c.in_ok-degree.degree.items) (lines_in c.degrees.columns.items)
    (lines_in c.push.new.self.items) c.requires.closed c.degrees.invariant c.lowest-lowest.ensures.i c.above.ensures.i
    c.above.ensures.j
    (c.deref-in-degrees-2.ensures.value
    ∙ chosen-names choice code low.j (2 * c.crossing_count.result + 1) c.degrees.k names c.index.result.now
    c.in_ok-chosen.ensures.names c.degrees-test.true c.index.ensures)
    (c.list_at-heads.ensures ∙ ap (λ (lists : List (Vec ℕ)). at_next (lists_in lists) c.degrees.k) c.deref.ensures.value
    ∙ places-behind choice code low.j c.degrees.k before places (omega (arith, c.degrees-test.true, count)))
    c.in_ok-degree.ensures
    (ap lines_in c.in_ok-push.ensures.items
    ∙ map_push (λ (degree : Vec (SmallVec Entry)). entries_in degree.items) c.degrees.columns.items c.in_ok-degree.degree)

pub returns : goal.returns
returns c =
    let code = c.args.self.now in
    let choice = has_minus c.args.circles.now in
    let low = c.lowest-lowest.result in
    let same : low.j ≡ c.args.j = c.lowest-lowest.ensures.j ∙ to_z-of_z w16 c.args.j c.ranges.j in
    let count = c.crossing_count.ensures.count in
    let whole : c.degrees.k ≡ 2 * c.crossing_count.result + 1 = omega (arith, c.degrees-test.false, c.degrees.auto.k-end) in
    let columns = lines_in c.degrees.columns.items in
    let are : AreChosenColumns choice c.args.p code low.j (2 * c.crossing_count.result + 1) columns =
    subst (λ (n : ℕ). AreChosenColumns choice c.args.p code low.j n columns) whole c.degrees.invariant in
    subst (λ (j : ℤ). AreChosenParts choice c.args.p code j (lists_in c.in_ok-chosen.chosen.names.items) columns) same
    (AreChosenParts-columns choice c.args.p code low.j (2 * c.crossing_count.result + 1)
    (lists_in c.in_ok-chosen.chosen.names.items) columns c.requires.prime c.state_count.ensures.code c.state_count.ensures.size
    c.requires.closed (omega (arith, count)) c.in_ok-chosen.ensures.names are)
