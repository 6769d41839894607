-- One column more: nothing is left of it, or it ends at a row of its own, where its pivot is cancelled.
--
-- The column of the complex so far is w, and it is 0 in the last rows; what the reduction left of the column is v. Both are left of the
-- same column of the first complex, so v is w and a combination: they end alike (Endings). The pivot takes from each later column the
-- multiple k w, and w is v and a combination: so one more column, with the factor k, makes up for it.
use Rattle.std.proofs.Common.{◌≡◌, ℕ, ◌+◌, ◌*◌, ◌%◌, ◌<◌, ◌≤◌, ◌∙◌, inl, inr, List, [], ◌∷◌, ◌++◌, ℤ, refl, ap, sym, subst, arith, false, true≢false, append-nil, append_assoc}
use Rattle.std.proofs.lemmas.Bool.Decides.{leb_tells}
use Rattle.kh_types.specs.Complex.{Complex, Degree, IsComplex, IsPivot, Pivot, cancel, cancelled_matrix, degree_of, entry_in, entry_of, pivot_at}
use Rattle.kh_types.specs.History.{IsLegal, replay}
use Rattle.kh_types.specs.MatrixRanks.{Leaves}
use Rattle.kh_types.specs.Residues.{Same}
use Rattle.kh_types.proofs.Lists.{AllByRecursion-append}
use Rattle.kh_types.proofs.Residues.{same-add, same-equal, same-mul}
use Rattle.prime_field.specs.Residues.{IsField}
use Rattle.sparse_block.proofs.CancelledDegrees.{degree-at_pivot}
use Rattle.sparse_block.proofs.CancelledMatrices.{leaves-cancel, pivot_column-cancel, pivot_row-cancel}
use Rattle.sparse_block.proofs.CancelledNumbers.{entry-stays}
use Rattle.sparse_block.proofs.HistoryLemmas.{complex-replay, legal-push, replay-push}
use Rattle.column_reduction.specs.Reductions.{ReducedColumn, IsLineBelow, AreReduced, ComeInOrder, EndsAt, LeaveNothing, IsLeftOf, IsReducedColumn, IsZeroLine, combination, is_last_row, column_numbers, pivots_of, with_column}
use Rattle.column_reduction.proofs.Combinations.{apart-push, combination-push, combination-scaled, combination-sum, is_last_row-push, with_factor}
use Rattle.column_reduction.proofs.Endings.{ends-left, value-left, zero-left}
use Rattle.column_reduction.proofs.Lefts.{left-between, left-whole}

-- no column is reduced at first
pub reduced-none : (p : ℕ) (before : Complex) (i : ℤ) → AreReduced p before i 0 [] before
reduced-none p before i =
    record {
      legal = tt;
      replayed = refl;
      columns = record { each = tt; apart = tt };
      order = (omega arith, λ column later within. absurd (omega (arith, within)));
      dead = λ column row last. absurd (true≢false (sym last));
      cleared = λ column within row. absurd (omega (arith, within));
      left = λ column later. left-whole p [] (column_numbers before i column);
    }

-- the order of reduced columns, with one column more, of which nothing is left, or which is the last of them
order-later : (p : ℕ) (before : Complex) (i : ℤ) (count least : ℕ) (earlier lines : List ReducedColumn)
    → IsLeftOf p (earlier ++ lines) (column_numbers before i count) (λ row. 0)
    → ComeInOrder p before i count least earlier lines → ComeInOrder p before i (count + 1) least earlier lines
order-later p before i count least earlier [] nothing order = (
  omega (arith, order.0),
  λ column later within.
      elim (leb_tells count column) [
        | inr before_count ↦ order.1 column later before_count.1
        | inl here ↦
            let same : count ≡ column = omega (arith, within, here.1) in
            subst (λ (k : ℕ). IsLeftOf p earlier (column_numbers before i k) (λ row. 0)) same
            (subst (λ (lines : List ReducedColumn). IsLeftOf p lines (column_numbers before i count) (λ row. 0)) (append-nil earlier)
            nothing)
      ],
)
order-later p before i count least earlier (line ∷ lines) nothing order = (
  order.0,
  order.1,
  order.2,
  order-later p before i count (line.column + 1) (earlier ++ line ∷ []) lines
      (subst (λ (lines : List ReducedColumn). IsLeftOf p lines (column_numbers before i count) (λ row. 0))
      (sym (append_assoc earlier (line ∷ []) lines)) nothing) order.3,
)

order-push : (p : ℕ) (before : Complex) (i : ℤ) (count least : ℕ) (earlier lines : List ReducedColumn) (last : ReducedColumn)
    → last.column ≡ count → IsLeftOf p (earlier ++ lines) (column_numbers before i count) last.values
    → ComeInOrder p before i count least earlier lines → ComeInOrder p before i (count + 1) least earlier (lines ++ last ∷ [])
order-push p before i count least earlier [] last here is_left order =
    let own : IsLeftOf p earlier (column_numbers before i last.column) last.values =
    subst (λ (lines : List ReducedColumn). IsLeftOf p lines (column_numbers before i last.column) last.values) (append-nil earlier)
    (subst (λ (column : ℕ). IsLeftOf p (earlier ++ []) (column_numbers before i column) last.values) (sym here) is_left) in
    let nothing : LeaveNothing p before i least last.column earlier =
    λ column later within. order.1 column later (omega (arith, within, here)) in (
      omega (arith, order.0, here),
      nothing,
      own,
      (omega (arith, here), λ column later within. absurd (omega (arith, later, within, here))),
    )
order-push p before i count least earlier (line ∷ lines) last here is_left order = (
  order.0,
  order.1,
  order.2,
  order-push p before i count (line.column + 1) (earlier ++ line ∷ []) lines last here
      (subst (λ (lines : List ReducedColumn). IsLeftOf p lines (column_numbers before i count) last.values)
      (sym (append_assoc earlier (line ∷ []) lines)) is_left) order.3,
)

-- the pivots of one column more
pub pivots-push : (i : ℤ) (reduced : List ReducedColumn) (column row : ℕ) (values : ℕ → ℕ)
    → pivots_of i (with_column reduced column row values) ≡ pivots_of i reduced ++ pivot_at i column row ∷ []
pivots-push i [] column row values = refl
pivots-push i (line ∷ lines) column row values =
    ap (λ (pivots : List Pivot). pivot_at i line.column line.row ∷ pivots) (pivots-push i lines column row values)

module _ (p : ℕ) (before after : Complex) (i : ℤ) (count : ℕ) (reduced : List ReducedColumn) (field : IsField p)
    (is : IsComplex p before) (so_far : AreReduced p before i count reduced after) where
  positive : 0 < p
  positive = omega (arith, field.above_one)

  pub complex-reduced : IsComplex p after
  complex-reduced =
      subst (IsComplex p) (sym so_far.replayed) (complex-replay p before (pivots_of i reduced) field is so_far.legal)

  module _ (values : ℕ → ℕ) (is_left : IsLeftOf p reduced (column_numbers before i count) values) where
    -- the column of the complex so far, and how it and what the reduction left of it are left of one another
    column_left : IsLeftOf p reduced values (column_numbers after i count)
    column_left =
        left-between p reduced (column_numbers before i count) values (column_numbers after i count) positive is_left
        (so_far.left count (omega arith))

    values_left : IsLeftOf p reduced (column_numbers after i count) values
    values_left =
        left-between p reduced (column_numbers before i count) (column_numbers after i count) values positive
        (so_far.left count (omega arith)) is_left

    column_below : IsLineBelow p (column_numbers after i count)
    column_below row = complex-reduced.below i row count

    -- nothing is left
    pub reduced-nothing : IsZeroLine values → AreReduced p before i (count + 1) reduced after
    reduced-nothing zeros =
        record {
          legal = so_far.legal;
          replayed = so_far.replayed;
          columns = so_far.columns;
          order = order-later p before i count 0 [] reduced
              (record {
                factor = is_left.factor;
                sum = λ row. is_left.sum row ∙ ap (λ (x : ℕ). (x + combination is_left.factor reduced row) % p) (zeros row);
              }) so_far.order;
          dead = so_far.dead;
          cleared = λ column within row.
              elim (leb_tells count column) [
                | inr earlier ↦ so_far.cleared column earlier.1 row
                | inl here ↦
                    let same : count ≡ column = omega (arith, within, here.1) in
                    subst (λ (k : ℕ). entry_of after i row k ≡ 0) same
                    (zero-left p reduced values (column_numbers after i count) field so_far.columns column_left column_below
                    (so_far.dead count) zeros row)
              ];
          left = λ column later. so_far.left column (omega (arith, later));
        }

    -- the column ends at a row of its own
    module _ (last : ℕ) (below : IsLineBelow p values) (ends : EndsAt last values) (free : is_last_row last reduced ≡ false) where
      abbrev pivot : Pivot
      pivot = pivot_at i count last

      -- the column of the complex so far ends at the same row
      pub ends-last : EndsAt last (column_numbers after i count)
      ends-last =
          ends-left p reduced values (column_numbers after i count) field so_far.columns column_left column_below (so_far.dead count)
          last below ends free

      pub pivot-last : IsPivot after (pivot_at i count last)
      pivot-last = ends-last.other

      pub value-last : entry_of after i last count ≡ values last
      value-last =
          value-left p reduced values (column_numbers after i count) field so_far.columns column_left column_below (so_far.dead count)
          last below ends free

      leaves : Leaves p (entry_of after i) (entry_in (cancelled_matrix p (pivot_at i count last) (degree_of after i).matrix)) last count
      leaves = leaves-cancel p after (pivot_at i count last) i field complex-reduced pivot-last refl

      -- what the pivot takes from a column
      abbrev multiple : ℕ → ℕ
      multiple column = leaves.inverse * entry_of after i last column

      taken : (row column : ℕ)
          → Same p (entry_of after i row count * multiple column + entry_of (cancel p after (pivot_at i count last)) i row column)
          (entry_of after i row column)
      taken row column =
          ap (λ (degree : Degree). (entry_of after i row count * multiple column + entry_in degree.matrix row column) % p)
          (degree-at_pivot p after (pivot_at i count last) i refl)
          ∙ leaves.others row column

      later_left : (column : ℕ) → count + 1 ≤ column
          → IsLeftOf p (with_column reduced count last values) (column_numbers before i column)
          (column_numbers (cancel p after (pivot_at i count last)) i column)
      later_left column later =
          let was = so_far.left column (omega (arith, later)) in
          let k = multiple column in
          let f : ℕ → ℕ = λ at. was.factor at + k * values_left.factor at in
          record {
            factor = with_factor f last k;
            sum = λ row.
                let w = entry_of after i row count in
                let new = entry_of (cancel p after (pivot_at i count last)) i row column in
                let c = combination was.factor reduced row in
                let d = combination values_left.factor reduced row in
                let x = values row in
                let whole : combination (with_factor f last k) (with_column reduced count last values) row ≡ c + k * d + k * x =
                combination-push f reduced count last k values row free
                ∙ ap (λ (n : ℕ). n + k * x)
                (combination-sum was.factor (λ at. k * values_left.factor at) reduced row
                ∙ ap (λ (n : ℕ). c + n) (combination-scaled k values_left.factor reduced row)) in
                let spread : (x + d) * k + new + c ≡ new + combination (with_factor f last k) (with_column reduced count last values) row =
                regroup x d k new c (combination (with_factor f last k) (with_column reduced count last values) row) whole in
                was.sum row
                ∙ sym (same-add p (w * k + new) (entry_of after i row column) c c (taken row column) refl)
                ∙ same-add p (w * k + new) ((x + d) * k + new) c c
                (same-add p (w * k) ((x + d) * k) new new (same-mul p w (x + d) k k (values_left.sum row) refl) refl) refl
                ∙ same-equal p ((x + d) * k + new + c) _ spread;
          }
        where
          regroup : (x d k new c total : ℕ) → total ≡ c + k * d + k * x → (x + d) * k + new + c ≡ new + total
          regroup x d k new c total whole =
              let spread : (x + d) * k ≡ k * d + k * x = omega arith in
              omega (arith, whole, spread)

      pub reduced-pivot : AreReduced p before i (count + 1) (with_column reduced count last values) (cancel p after (pivot_at i count last))
      reduced-pivot =
          let complex = complex-reduced in
          let pivots = pivots_of i reduced in
          let pushed = pivots-push i reduced count last values in
          record {
            legal = subst (IsLegal p before) (sym pushed)
                (legal-push p before pivots pivot so_far.legal
                (subst (λ (complex : Complex). IsPivot complex pivot) so_far.replayed pivot-last));
            replayed = ap (λ (complex : Complex). cancel p complex pivot) so_far.replayed
                ∙ sym (replay-push p before pivots pivot) ∙ ap (replay p before) (sym pushed);
            columns = record {
              each = AllByRecursion-append (IsReducedColumn p) reduced
                  (record { column = count; row = last; values = values } ∷ []) so_far.columns.each
                  (record { below = below; ends = ends }, tt);
              apart = apart-push reduced count last values so_far.columns.apart free;
            };
            order = order-push p before i count 0 [] reduced (record { column = count; row = last; values = values }) refl is_left
                so_far.order;
            dead = λ column row is_last.
                elim (is_last_row-push row count last reduced values is_last) [
                  | inl old ↦
                      sym (entry-stays p after pivot field complex pivot-last row column (inr (so_far.dead count row old)))
                      ∙ so_far.dead column row old
                  | inr same ↦ pivot_row-cancel p after pivot i row column field complex pivot-last refl (sym same)
                ];
            cleared = λ column within row.
                elim (leb_tells count column) [
                  | inr earlier ↦
                      sym (entry-stays p after pivot field complex pivot-last row column (inl (so_far.cleared column earlier.1 last)))
                      ∙ so_far.cleared column earlier.1 row
                  | inl here ↦
                      pivot_column-cancel p after pivot i row column field complex pivot-last refl (omega (arith, within, here.1))
                ];
            left = later_left;
          }
