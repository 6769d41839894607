-- The worked complexes can be built.
use Rattle.std.proofs.Common.{◌≡◌, ℕ, zero, suc, ◌+◌, ◌<◌, ◌^◌, List, [], ◌∷◌, pos, neg_ℤ, length, refl, sym, subst₂, arith}
use Rattle.std.specs.Prelude.{slice_index_or}
use Rattle.std.proofs.lemmas.List.Elements.{All-nil, All-cons, All-from_recursion}
use Rattle.kh_types.specs.Generators.{Generator}
use Rattle.sparse_block.specs.Entries.{Entry, AreEntries, entry_at}
use Rattle.sparse_block.specs.Complexes.{HaveEntries, SquaresToZero}
use Rattle.sparse_block.proofs.AscendingLemmas.{entries-from_ascend}
use Rattle.sparse_block.proofs.WorkedLemmas.{CanBuild}
use Rattle.cube_tests.specs.Squares.{square, square_columns, square_names}

-- a column with two entries
pair-entries : (a b v w : ℕ) → a < b → b < 3 → 0 < v → v < 5 → 0 < w → w < 5
    → AreEntries 5 3 (entry_at (a, v) ∷ entry_at (b, w) ∷ [])
pair-entries a b v w ascends within v_other v_below w_other w_below =
    entries-from_ascend 5 0 3 (entry_at (a, v) ∷ entry_at (b, w) ∷ []) (
      omega arith,
      omega (arith, ascends, within),
      v_other,
      v_below,
      (omega (arith, ascends), within, w_other, w_below, tt),
    )

no-entries : AreEntries 5 0 []
no-entries = entries-from_ascend 5 0 0 [] tt

pub square-entries : (x y : ℕ) → 0 < x → x < 5 → 0 < y → y < 5 → HaveEntries 5 square_names (square_columns x y)
square-entries x y x_other x_below y_other y_below zero =
    let each = All-cons (AreEntries 5 3) in
    let second : List Entry = entry_at (1, x) ∷ entry_at (2, 1) ∷ [] in
    let third : List Entry = entry_at (0, y) ∷ entry_at (2, 4) ∷ [] in
    each (entry_at (0, 1) ∷ entry_at (1, 2) ∷ []) (second ∷ third ∷ [])
    (pair-entries 0 1 1 2 (omega arith) (omega arith) (omega arith) (omega arith) (omega arith) (omega arith))
    (each second (third ∷ []) (pair-entries 1 2 x 1 (omega arith) (omega arith) x_other x_below (omega arith) (omega arith))
    (each third [] (pair-entries 0 2 y 4 (omega arith) (omega arith) y_other y_below (omega arith) (omega arith))
    (All-nil (AreEntries 5 3))))
square-entries x y x_other x_below y_other y_below (suc zero) =
    let each = All-cons (AreEntries 5 0) in
    each [] ([] ∷ [] ∷ []) no-entries (each [] ([] ∷ []) no-entries (each [] [] no-entries (All-nil (AreEntries 5 0))))
square-entries x y x_other x_below y_other y_below (suc (suc k)) =
    All-nil (AreEntries 5 (length (slice_index_or square_names (suc (suc k) + 1) [])))

pub square-build : (x y : ℕ) (names : List (List Generator)) (columns : List (List (List Entry))) → names ≡ square_names
    → columns ≡ square_columns x y → HaveEntries 5 square_names (square_columns x y) → SquaresToZero 5 (square x y).complex
    → CanBuild 5 (neg_ℤ (pos 2)) names columns
square-build x y names columns are_names are_columns have squares =
    subst₂ (CanBuild 5 (neg_ℤ (pos 2))) (sym are_names) (sym are_columns)
    (record {
      some = omega arith;
      counts = All-from_recursion (λ (degree : List Generator). length degree < 2 ^ 29) square_names (omega arith, (omega arith, tt));
      sizes = refl;
      entries = have;
      squares = squares;
    })
