use Rattle.std.proofs.lemmas.Bool.Decides.{nat_tests}
use Rattle.std.proofs.Common.{ℕ, ℤ, pos, neg_ℤ, ◌+ℤ◌, ◌≤ℤ◌, length, subst, arith, to_z, of_z, w16, List}
use Rattle.std.proofs.lemmas.Int.{ints}
use Rattle.std.specs.Global.{Vec}
use Rattle.std.proofs.lemmas.List.{length-map}
use Rattle.kh_types.specs.Generators.{Generator}
use Rattle.sparse_block.specs.Complexes.{HaveEntries}
use Rattle.sparse_block.specs.Inside.{lines_in, lists_in}
use Rattle.cube_signs.proofs.cube.Cube.block.Goals as goal

fits : (low : ℤ) (names : List (Vec Generator)) → neg_ℤ (pos 32) ≤ℤ low → (low +ℤ pos (length (lists_in names))) ≤ℤ pos 32
    → (to_z w16 (of_z w16 low) +ℤ pos (length names)) ≤ℤ pos 32767
fits low names above below = omega (arith, ints, length-map names (λ (degree : Vec Generator). degree.items))

pub build-requires-clause-end : goal.build-requires-clause-end
build-requires-clause-end = grind (arith, nat_tests, fits)

pub build-requires-clause-entries : goal.build-requires-clause-entries
build-requires-clause-entries g c =
    let parts = c.in_ok-parts.parts in
    subst (λ (p : ℕ). HaveEntries p (lists_in parts.names.items) (lines_in parts.columns.items)) c.P.ensures
    c.in_ok-parts.ensures.entries
