-- The blocks of the reduced cube are complexes of lists of generators.
use Rattle.std.proofs.Common.{◌≡◌, ℕ, ◌+◌, ◌<◌, ◌∙◌, ℤ, pos, ◌+ℤ◌, ◌-ℤ◌, List, [], length, sym, arith, true, false, IsTrue}
use Rattle.std.proofs.lemmas.Bool.{eq-eqb, eqb-true}
use Rattle.kh_types.specs.Acceptance.{accepted}
use Rattle.kh_types.specs.CircleNumbers.{IsName}
use Rattle.kh_types.specs.Code.{Code}
use Rattle.kh_types.specs.Complex.{IsComplex, Pivot, alive_count, dimension_of, is_zero}
use Rattle.kh_types.specs.Differential.{label_of}
use Rattle.kh_types.specs.Generators.{Generator}
use Rattle.kh_types.specs.History.{IsLegal, replay}
use Rattle.kh_types.specs.Rank.{rank}
use Rattle.kh_types.specs.Table.{IsWithin}
use Rattle.prime_field.specs.Residues.{IsField}
use Rattle.history_laws.proofs.HistoryEnds.{alive_count-end, dimension_of-add}
use Rattle.cube_signs.specs.Chosen.{coefficients, list_complex, IsClosed}
use Rattle.cube_signs.proofs.ChosenBlocks.{AreLists-chosen, IsComplex-chosen, chosen-beyond}
use Rattle.cube_signs.proofs.ListComplexes.{AreLists, IsComplex-list_complex, alive_count-list_complex, dimension_of-list_complex, list_dimension, rank-list_complex}
use Rattle.reduced_cube.specs.Reduced.{is_reduced, reduced_block, reduced_dimension, reduced_generators}
use Rattle.reduced_cube.proofs.MarkedMinus.{coefficient-lost}

-- from the generators whose marked circle has v- the differential leads to such alone
pub IsClosed-reduced : (p : ℕ) (code : Code) (mark : ℕ) → IsTrue (accepted code) → IsName code mark
    → IsClosed (is_reduced code mark) p code
IsClosed-reduced p code mark is name =
    record {
      each = λ tail head tail_below head_below minus lost.
          coefficient-lost p code mark tail head is name (eqb-true (label_of code tail mark) 1 minus)
          (λ same.
          let so : true ≡ false = sym (eq-eqb (label_of code head mark) 1 same) ∙ lost in
          absurd (cc));
    }

pub reduced-beyond : (code : Code) (mark : ℕ) (j i : ℤ) → (IsWithin (length code.crossings) i → ⊥)
    → reduced_generators code mark i j ≡ []
reduced-beyond code mark j i outside = chosen-beyond (is_reduced code mark) code (j -ℤ pos 1) i outside

pub AreLists-reduced : (p : ℕ) (code : Code) (mark : ℕ) (j : ℤ) → 0 < p → IsTrue (accepted code) → IsName code mark
    → AreLists p code (length code.crossings) (λ i. reduced_generators code mark i j)
AreLists-reduced p code mark j positive is name =
    AreLists-chosen (is_reduced code mark) p code (j -ℤ pos 1) positive is (IsClosed-reduced p code mark is name)

pub IsComplex-reduced : (p : ℕ) (code : Code) (mark : ℕ) (j : ℤ) → 1 < p → IsTrue (accepted code) → IsName code mark
    → IsComplex p (reduced_block p code mark j).complex
IsComplex-reduced p code mark j above is name =
    IsComplex-chosen (is_reduced code mark) p code (j -ℤ pos 1) above is (IsClosed-reduced p code mark is name)

pub dimension_of-reduced : (p : ℕ) (code : Code) (mark : ℕ) (j i : ℤ)
    → dimension_of p (reduced_block p code mark j).complex i ≡ reduced_dimension p code mark i j
dimension_of-reduced p code mark j i =
    dimension_of-list_complex p code (length code.crossings) (λ i. reduced_generators code mark i j) i (reduced-beyond code mark j)

pub alive_count-finished : (p : ℕ) (code : Code) (mark : ℕ) (j i : ℤ) (history : List Pivot) → IsField p → IsTrue (accepted code)
    → IsName code mark → IsLegal p (reduced_block p code mark j).complex history
    → is_zero (replay p (reduced_block p code mark j).complex history) ≡ true
    → alive_count (replay p (reduced_block p code mark j).complex history) i ≡ reduced_dimension p code mark i j
alive_count-finished p code mark j i history field is name legal zero =
    alive_count-end p (reduced_block p code mark j).complex history i field (IsComplex-reduced p code mark j field.above_one is name)
    legal zero
    ∙ dimension_of-reduced p code mark j i

-- the ranks out and in fit into the lists
pub ranks-lists : (p : ℕ) (code : Code) (n : ℕ) (lists : ℤ → List Generator) (i : ℤ) → IsField p → AreLists p code n lists
    → list_dimension p code lists i + (rank p (coefficients p code (lists i) (lists (i +ℤ pos 1)))
    + rank p (coefficients p code (lists (i -ℤ pos 1)) (lists (i -ℤ pos 1 +ℤ pos 1)))) ≡ length (lists i)
ranks-lists p code n lists i field are =
    omega (
      arith,
      dimension_of-add p (list_complex p code n lists) i field (IsComplex-list_complex p code n lists field.above_one are),
      dimension_of-list_complex p code n lists i are.beyond,
      alive_count-list_complex p code n lists i are.beyond,
      rank-list_complex p code n lists i are.beyond,
      rank-list_complex p code n lists (i -ℤ pos 1) are.beyond,
    )
