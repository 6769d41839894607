use Rattle.std.proofs.lemmas.Bool.Decides.{nat_tests}
use Rattle.std.proofs.Common.{◌∙◌, ap, sym, ◌≡◌, ℕ, ℤ, pos, neg_ℤ, ◌+ℤ◌, ◌-ℤ◌, ◌≤ℤ◌, ◌+◌, ◌*◌, ◌≤◌, length, subst, arith, to_z, of_z, w16, List}
use Rattle.std.proofs.lemmas.Int.{ints, to_z-of_z}
use Rattle.std.proofs.lemmas.Result.{IfOk-weaker}
use Rattle.cube_signs.specs.Chosen.{chosen_block, has_minus}
use Rattle.std.specs.Global.{Vec}
use Rattle.std.proofs.lemmas.List.{length-map}
use Rattle.kh_types.specs.Generators.{Generator}
use Rattle.sparse_block.specs.Complexes.{HaveEntries, NamedComplex, SquaresToZero, sparse_complex}
use Rattle.sparse_block.specs.Inside.{lines_in, lists_in}
use Rattle.cube_signs.proofs.cube.Cube.chosen_block.Goals as goal

fits : (n : ℕ) (low : ℤ) (names : List (Vec Generator)) → n ≤ 20 → low ≡ neg_ℤ (pos n) → length (lists_in names) ≡ 2 * n + 1
    → (to_z w16 (of_z w16 low) +ℤ pos (length names)) ≤ℤ pos 32767
fits n low names few is size = omega (arith, ints, length-map names (λ (degree : Vec Generator). degree.items))

turned : (n : ℕ) (low : ℤ) → n ≤ 20 → low ≡ neg_ℤ (pos n) → pos 0 -ℤ pos n ≡ to_z w16 (of_z w16 low)
turned n low few is = omega (arith, ints)

pub build-requires-clause-end : goal.build-requires-clause-end
build-requires-clause-end = grind (arith, nat_tests, fits)

pub build-requires-clause-entries : goal.build-requires-clause-entries
build-requires-clause-entries g c =
    let parts = c.in_ok-parts.parts in
    subst (λ (p : ℕ). HaveEntries p (lists_in parts.names.items) (lines_in parts.columns.items)) c.P.ensures
    c.in_ok-parts.ensures.entries

pub build-requires-clause-squares : goal.build-requires-clause-squares
build-requires-clause-squares g c =
    let parts = c.in_ok-parts.parts in
    let low = turned (length c.args.self.now.crossings) c.lowest.result.i
    (omega (arith, c.crossing_count.ensures.count, c.crossing_count.ensures.few)) c.lowest.ensures.i in
    subst (λ (low : ℤ). SquaresToZero g.F.PrimeField.P (sparse_complex low (lists_in parts.names.items) (lines_in parts.columns.items)).complex)
    low
    (subst (λ (p : ℕ). SquaresToZero p
    (sparse_complex (pos 0 -ℤ pos (length c.args.self.now.crossings)) (lists_in parts.names.items) (lines_in parts.columns.items)).complex)
    c.P.ensures c.in_ok-parts.ensures.squares)

pub returns : goal.returns
returns g c =
    let parts = c.in_ok-parts.parts in
    let names = lists_in parts.names.items in
    let columns = lines_in parts.columns.items in
    let block = chosen_block (has_minus c.args.circles.now) g.F.PrimeField.P c.args.self.now in
    let low = turned (length c.args.self.now.crossings) c.lowest.result.i
    (omega (arith, c.crossing_count.ensures.count, c.crossing_count.ensures.few)) c.lowest.ensures.i in
    IfOk-weaker c.build.result
    (λ (made : NamedComplex). made ≡ sparse_complex (to_z w16 (of_z w16 c.lowest.result.i)) names columns)
    (λ (made : NamedComplex). made ≡ block c.args.j)
    (λ made is.
    is ∙ ap (λ (low : ℤ). sparse_complex low names columns) (sym low) ∙ c.in_ok-parts.ensures.is
    ∙ ap (λ (p : ℕ). chosen_block (has_minus c.args.circles.now) p c.args.self.now (to_z w16 (of_z w16 c.args.j))) c.P.ensures
    ∙ ap block (to_z-of_z w16 c.args.j c.ranges.j)) c.build.ensures
