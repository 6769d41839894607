-- The dimensions of a block are those of its code.
use Rattle.std.proofs.Common.{◌≡◌, ℕ, ◌∙◌, inl, inr, ℤ, pos, ◌+ℤ◌, ◌-ℤ◌, List, [], IsTrue, true, length, map, sym, ap, arith}
use Rattle.std.specs.List.{count_by}
use Rattle.kh_types.specs.Acceptance.{accepted}
use Rattle.kh_types.specs.Code.{Code}
use Rattle.kh_types.specs.Complex.{Pivot, alive_count, degree_of, dimension_of, is_zero}
use Rattle.kh_types.specs.Differential.{coefficient, differential}
use Rattle.kh_types.specs.Generators.{Generator, generators_at}
use Rattle.kh_types.specs.History.{IsLegal, block, replay}
use Rattle.kh_types.specs.Rank.{rank}
use Rattle.kh_types.specs.Table.{dimension}
use Rattle.prime_field.specs.Residues.{IsField}
use Rattle.square_laws.proofs.BlockComplexes.{IsComplex-block, alive-block}
use Rattle.square_laws.proofs.BlockDegrees.{degree-block}
use Rattle.history_laws.proofs.HistoryEnds.{alive_count-end}
use Rattle.kh_types.proofs.MappedLists.{count-all}
use Rattle.cube_signs.proofs.ListComplexes.{rank-empty_rows}

-- the rank of a matrix without columns

rank-no_columns : (p : ℕ) (code : Code) (i j : ℤ) → generators_at code i j ≡ [] → rank p (differential p code i j) ≡ 0
rank-no_columns p code i j none =
    let heads = generators_at code (i +ℤ pos 1) j in
    ap (λ (tails : List Generator). rank p (map (λ head. map (λ tail. coefficient p code tail head) tails) heads)) none
    ∙ rank-empty_rows p heads

-- the ranks and the places alive of a block

rank-block : (p : ℕ) (code : Code) (j i : ℤ) → rank p (degree_of (block p code j) i).matrix ≡ rank p (differential p code i j)
rank-block p code j i = elim (degree-block p code j i) [
  | inl is ↦ ap (λ degree. rank p degree.matrix) is
  | inr (is, none) ↦ ap (λ degree. rank p degree.matrix) is ∙ sym (rank-no_columns p code i j none)
]

alive_count-block : (p : ℕ) (code : Code) (j i : ℤ) → alive_count (block p code j) i ≡ length (generators_at code i j)
alive_count-block p code j i =
    ap (λ alive. count_by (λ is_alive. is_alive) alive) (alive-block p code j i) ∙ count-all (generators_at code i j)

pub dimension_of-block : (p : ℕ) (code : Code) (j i : ℤ) → dimension_of p (block p code j) i ≡ dimension p code i j
dimension_of-block p code j i =
    omega (arith, alive_count-block p code j i, rank-block p code j i, rank-block p code j (i -ℤ pos 1))

pub alive_count-finished : (p : ℕ) (code : Code) (j i : ℤ) (history : List Pivot) → IsField p → IsTrue (accepted code)
    → IsLegal p (block p code j) history → is_zero (replay p (block p code j) history) ≡ true
    → alive_count (replay p (block p code j) history) i ≡ dimension p code i j
alive_count-finished p code j i history field is legal zero =
    alive_count-end p (block p code j) history i field (IsComplex-block p code j field.above_one is) legal zero
    ∙ dimension_of-block p code j i
