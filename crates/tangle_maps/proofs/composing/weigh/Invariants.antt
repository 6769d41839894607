use Rattle.std.proofs.Common.{◌≡◌, ◌*◌, ℕ, take, length, slice_index}
use Rattle.std.specs.List.{Contains}
use Rattle.kh_types.specs.Residues.{Same}
use Rattle.dotted_maps.specs.Parts.{product_over}
use Rattle.tangle_maps.specs.declared.pairing.TheConstants.{POINTS}
use Rattle.tangle_maps.specs.Seams.{factor_by, left_by}
use Rattle.tangle_maps.proofs.composing.weigh.Given as goal

abbrev pub invariant-components : goal.invariant-components
invariant-components g l = record {
  size : length l.left ≡ POINTS;
  left : (k : ℕ) → Contains (take l.component-index l.components) k → slice_index l.left k ≡ left_by l.seam l.dots l.others k;
  value : Same g.F.PrimeField.P (g.F.PrimeField.value_of l.weighed)
      (g.F.PrimeField.value_of l.fn.value * product_over (factor_by l.seam l.dots l.others) (take l.component-index l.components));
}
