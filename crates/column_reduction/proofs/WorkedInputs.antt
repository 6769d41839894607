-- What tests reduce are complexes.
use Rattle.std.proofs.Common.{ℕ, zero, suc, ◌+◌, ◌<◌, List, [], ◌∷◌, pos, length, refl, arith}
use Rattle.std.specs.Prelude.{slice_index_or}
use Rattle.std.proofs.lemmas.Int.{ints}
use Rattle.std.proofs.lemmas.List.Elements.{All-cons, All-nil}
use Rattle.kh_types.proofs.ComplexLemmas.{complex-from_test}
use Rattle.sparse_block.specs.Complexes.{MakeComplex, HaveEntries, sparse_complex}
use Rattle.sparse_block.specs.Entries.{Entry, AreEntries, entry_at}
use Rattle.sparse_block.proofs.AscendingLemmas.{entries-from_ascend}
use Rattle.column_reduction.specs.WorkedColumns.{four_names, square_lines, three_lines, void_lines}
use Rattle.sparse_block.proofs.WorkedLemmas.{few-names}

none : (p size : ℕ) → AreEntries p size []
none p size = entries-from_ascend p 0 size [] tt

one : (p size a x : ℕ) → a < size → 0 < x → x < p → AreEntries p size (entry_at (a, x) ∷ [])
one p size a x within positive below =
    entries-from_ascend p 0 size (entry_at (a, x) ∷ []) (omega arith, within, positive, below, tt)

two : (p size a x b y : ℕ) → a < b → b < size → 0 < x → x < p → 0 < y → y < p
    → AreEntries p size (entry_at (a, x) ∷ entry_at (b, y) ∷ [])
two p size a x b y before within x_positive x_below y_positive y_below =
    entries-from_ascend p 0 size (entry_at (a, x) ∷ entry_at (b, y) ∷ [])
    (omega arith, omega arith, x_positive, x_below, (omega arith, within, y_positive, y_below, tt))

square-entries : (p y : ℕ) → 1 < p → 0 < y → y < p → HaveEntries p (four_names 1 2 1 0) (square_lines y)
square-entries p y above positive below zero =
    All-cons (AreEntries p 2) (entry_at (0, 1) ∷ entry_at (1, 1) ∷ []) []
    (two p 2 0 1 1 1 (omega arith) (omega arith) (omega arith) above (omega arith) above) (All-nil (AreEntries p 2))
square-entries p y above positive below (suc zero) =
    All-cons (AreEntries p 1) (entry_at (0, 1) ∷ []) ((entry_at (0, y) ∷ []) ∷ []) (one p 1 0 1 (omega arith) (omega arith) above)
    (All-cons (AreEntries p 1) (entry_at (0, y) ∷ []) [] (one p 1 0 y (omega arith) positive below) (All-nil (AreEntries p 1)))
square-entries p y above positive below (suc (suc zero)) = All-cons (AreEntries p 0) [] [] (none p 0) (All-nil (AreEntries p 0))
square-entries p y above positive below (suc (suc (suc zero))) = All-nil (AreEntries p 0)
square-entries p y above positive below (suc (suc (suc (suc k)))) =
    All-nil (AreEntries p (length (slice_index_or (four_names 1 2 1 0) (suc (suc (suc (suc k))) + 1) [])))

pub square-two : MakeComplex 2 (pos 0) (four_names 1 2 1 0) (square_lines 1)
square-two =
    record {
      some = omega arith;
      end = omega (arith, ints);
      counts = few-names (four_names 1 2 1 0) (omega arith, (omega arith, (omega arith, (omega arith, tt))));
      sizes = refl;
      entries = square-entries 2 1 (omega arith) (omega arith) (omega arith);
      squares = (complex-from_test 2 (sparse_complex (pos 0) (four_names 1 2 1 0) (square_lines 1)).complex (omega arith) refl).product;
    }

pub square-three : MakeComplex 3 (pos 0) (four_names 1 2 1 0) (square_lines 2)
square-three =
    record {
      some = omega arith;
      end = omega (arith, ints);
      counts = few-names (four_names 1 2 1 0) (omega arith, (omega arith, (omega arith, (omega arith, tt))));
      sizes = refl;
      entries = square-entries 3 2 (omega arith) (omega arith) (omega arith);
      squares = (complex-from_test 3 (sparse_complex (pos 0) (four_names 1 2 1 0) (square_lines 2)).complex (omega arith) refl).product;
    }

three-entries : HaveEntries 3 (four_names 4 3 0 0) three_lines
three-entries zero =
    let each = All-cons (AreEntries 3 3) in
    let e : ℕ → ℕ → ℕ → ℕ → List Entry = λ a x b y. entry_at (a, x) ∷ entry_at (b, y) ∷ [] in
    each (e 0 1 1 1) (e 0 2 2 1 ∷ e 1 2 2 1 ∷ e 1 1 2 1 ∷ [])
    (two 3 3 0 1 1 1 (omega arith) (omega arith) (omega arith) (omega arith) (omega arith) (omega arith))
    (each (e 0 2 2 1) (e 1 2 2 1 ∷ e 1 1 2 1 ∷ [])
    (two 3 3 0 2 2 1 (omega arith) (omega arith) (omega arith) (omega arith) (omega arith) (omega arith))
    (each (e 1 2 2 1) (e 1 1 2 1 ∷ [])
    (two 3 3 1 2 2 1 (omega arith) (omega arith) (omega arith) (omega arith) (omega arith) (omega arith))
    (each (e 1 1 2 1) []
    (two 3 3 1 1 2 1 (omega arith) (omega arith) (omega arith) (omega arith) (omega arith) (omega arith)) (All-nil (AreEntries 3 3)))))
three-entries (suc zero) =
    All-cons (AreEntries 3 0) [] ([] ∷ [] ∷ []) (none 3 0)
    (All-cons (AreEntries 3 0) [] ([] ∷ []) (none 3 0) (All-cons (AreEntries 3 0) [] [] (none 3 0) (All-nil (AreEntries 3 0))))
three-entries (suc (suc zero)) = All-nil (AreEntries 3 0)
three-entries (suc (suc (suc zero))) = All-nil (AreEntries 3 0)
three-entries (suc (suc (suc (suc k)))) =
    All-nil (AreEntries 3 (length (slice_index_or (four_names 4 3 0 0) (suc (suc (suc (suc k))) + 1) [])))

pub three-can : MakeComplex 3 (pos 0) (four_names 4 3 0 0) three_lines
three-can =
    record {
      some = omega arith;
      end = omega (arith, ints);
      counts = few-names (four_names 4 3 0 0) (omega arith, (omega arith, (omega arith, (omega arith, tt))));
      sizes = refl;
      entries = three-entries;
      squares = (complex-from_test 3 (sparse_complex (pos 0) (four_names 4 3 0 0) three_lines).complex (omega arith) refl).product;
    }

void-entries : HaveEntries 2 (four_names 0 0 0 0) void_lines
void-entries zero = All-nil (AreEntries 2 0)
void-entries (suc zero) = All-nil (AreEntries 2 0)
void-entries (suc (suc zero)) = All-nil (AreEntries 2 0)
void-entries (suc (suc (suc zero))) = All-nil (AreEntries 2 0)
void-entries (suc (suc (suc (suc k)))) =
    All-nil (AreEntries 2 (length (slice_index_or (four_names 0 0 0 0) (suc (suc (suc (suc k))) + 1) [])))

pub void-can : MakeComplex 2 (pos 0) (four_names 0 0 0 0) void_lines
void-can =
    record {
      some = omega arith;
      end = omega (arith, ints);
      counts = few-names (four_names 0 0 0 0) (omega arith, (omega arith, (omega arith, (omega arith, tt))));
      sizes = refl;
      entries = void-entries;
      squares = (complex-from_test 2 (sparse_complex (pos 0) (four_names 0 0 0 0) void_lines).complex (omega arith) refl).product;
    }
