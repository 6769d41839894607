use Rattle.std.proofs.Common.{refl, sym, true≢false, arith, neg_ℤ, pos}
use Rattle.kh_types.specs.WorkedCodes.{trefoil, figure_eight}
use Rattle.kh_types.specs.WorkedHistories.{trefoil_block, hopf_block, history_over_two}
use Rattle.kh_types.specs.Complex.{cancel, pivot_at}
use Rattle.kh_types.specs.History.{block, replay}
use Rattle.kh_types.proofs.ComplexLemmas.{complex-from_test, test-from_complex}
use Rattle.kh_types.proofs.laws.complexes.known_blocks_are_complexes.Goals as goal

pub returns : goal.returns
returns c = record {
  hopf = complex-from_test 3 hopf_block (omega arith) refl;
  first_over_two = complex-from_test 2 (block 2 trefoil (neg_ℤ (pos 5))) (omega arith) refl;
  second_over_two = complex-from_test 2 (trefoil_block 2) (omega arith) refl;
  over_three = complex-from_test 3 (block 3 trefoil (neg_ℤ (pos 5))) (omega arith) refl;
  over_five = complex-from_test 5 (block 5 trefoil (neg_ℤ (pos 5))) (omega arith) refl;
  upper_over_five = complex-from_test 5 (block 5 trefoil (neg_ℤ (pos 3))) (omega arith) refl;
  four = complex-from_test 3 (block 3 figure_eight (neg_ℤ (pos 1))) (omega arith) refl;
  cancelled = complex-from_test 3 (cancel 3 hopf_block (pivot_at (neg_ℤ (pos 2)) 0 0)) (omega arith) refl;
  replayed = complex-from_test 2 (replay 2 (trefoil_block 2) history_over_two) (omega arith) refl;
  product = λ is. true≢false (sym (test-from_complex 5 hopf_block is));
  entry = λ is. true≢false (sym (test-from_complex 2 hopf_block is));
}
