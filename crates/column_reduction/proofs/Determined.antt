-- The pivots of reduced columns are determined.
--
-- Walk along two reductions of one matrix together. What the columns so far make is the same in both, and so are the rows where the
-- reduced ones end. Of the next column, both leave something or both leave nothing: what is left ends at a row where no column before
-- ends, which no combination of these does. And where both leave something, the two lines differ by such a combination: so they end at
-- one row, since at two it would end at the greater.
use Rattle.std.proofs.Common.{◌≡◌, ◌≢◌, ℕ, ◌+◌, ◌*◌, ◌%◌, ◌<◌, ◌≤◌, ◌∙◌, inl, inr, List, [], ◌∷◌, ◌++◌, ℤ, pos, ◌+ℤ◌, length, refl, ap, ap₂, sym, subst, arith, Bool, true, false, true≢false, append_assoc, ◌||◌}
use Rattle.std.specs.Prelude.{nat_eq}
use Rattle.std.proofs.Math.Nat.{mod-eq_of_lt, mod-lt, mod-mod, zero-mod}
use Rattle.std.proofs.lemmas.Bool.{cases_Bool, or_from, or_parts}
use Rattle.std.proofs.lemmas.Bool.Decides.{eqb_tells, leb_tells}
use Rattle.kh_types.specs.Complex.{Complex, Pivot, pivot_at}
use Rattle.kh_types.specs.History.{replay}
use Rattle.kh_types.specs.Residues.{Same}
use Rattle.kh_types.proofs.Lists.{AllByRecursion-first, AllByRecursion-second}
use Rattle.kh_types.proofs.Residues.{same-add, same-equal, same-scaled}
use Rattle.prime_field.specs.Residues.{IsField}
use Rattle.sparse_block.specs.Complexes.{place_count}
use Rattle.column_reduction.specs.Reductions.{ReducedColumn, AreReduced, AreReducedColumns, AreReducedUp, ComeInOrder, EndApart, EndsAt, IsLeftOf, IsLineBelow, IsReducedColumn, IsReducedComplex, column_numbers, combination, is_last_row, pivots_from_greatest, pivots_of}
use Rattle.column_reduction.proofs.Combinations.{combination-append, combination-push, combination-scaled, combination-sum, is_last_row-append, turned, with_factor}
use Rattle.column_reduction.proofs.Endings.{ends-left}
use Rattle.column_reduction.proofs.Lefts.{left-between}

-- reduced columns, and two lines of which they leave the second of the first
module _ (p : ℕ) (reduced : List ReducedColumn) (field : IsField p) (columns : AreReducedColumns p reduced) where
  positive : 0 < p
  positive = omega (arith, field.above_one)

  -- a line of which they leave nothing ends where one of them does
  ends-nothing : (row : ℕ) (line : ℕ → ℕ) → IsLeftOf p reduced line (λ at. 0) → IsLineBelow p line → EndsAt row line
      → is_last_row row reduced ≡ true
  ends-nothing row line nothing below ends =
      elim (cases_Bool (is_last_row row reduced)) [
        | inl last ↦ last
        | inr free ↦
            let left : EndsAt row (λ at. 0) =
            ends-left p reduced line (λ at. 0) field columns nothing (λ at. positive) (λ at last. refl) row below ends free in
            absurd (left.other refl)
      ]

  -- so what is left of a line ends there, if nothing may be left too
  pub ends-either : (row : ℕ) (whole line : ℕ → ℕ) → IsLeftOf p reduced whole line → IsLeftOf p reduced whole (λ at. 0)
      → IsLineBelow p line → EndsAt row line → is_last_row row reduced ≡ true
  ends-either row whole line some nothing = ends-nothing row line (left-between p reduced whole line (λ at. 0) positive some nothing)

  module _ (first second : ℕ → ℕ) (left : IsLeftOf p reduced first second) (below_first : IsLineBelow p first)
      (below_second : IsLineBelow p second) where
    -- what the columns take away
    taken : ℕ → ℕ
    taken row = combination left.factor reduced row % p

    ends-taken : (row : ℕ) → first row ≢ second row → ((greater : ℕ) → row < greater → first greater ≡ 0)
        → ((greater : ℕ) → row < greater → second greater ≡ 0) → is_last_row row reduced ≡ true
    unfolding taken
    ends-taken row differ zeros_first zeros_second =
        ends-nothing row taken
        (record {
          factor = left.factor;
          sum = λ at.
              let c = combination left.factor reduced at in
              mod-mod c p ∙ same-equal p c (0 + c) (omega arith);
        })
        (λ at. mod-lt (combination left.factor reduced at) positive)
        (record {
          other = λ none.
              let nothing : Same p (combination left.factor reduced row) 0 = none ∙ sym (zero-mod p) in
              differ (sym (mod-eq_of_lt (below_first row)) ∙ left.sum row
              ∙ same-add p (second row) (second row) (combination left.factor reduced row) 0 refl nothing
              ∙ same-equal p (second row + 0) (second row) (omega arith) ∙ mod-eq_of_lt (below_second row));
          zeros = λ greater later.
              same-equal p (combination left.factor reduced greater) (second greater + combination left.factor reduced greater)
              (omega (arith, zeros_second greater later))
              ∙ sym (left.sum greater) ∙ same-equal p (first greater) 0 (zeros_first greater later) ∙ zero-mod p;
        })

    -- two lines that end at rows where no reduced column ends, end at one
    pub ends-same : (a b : ℕ) → EndsAt a first → EndsAt b second → is_last_row a reduced ≡ false → is_last_row b reduced ≡ false → a ≡ b
    ends-same a b one two free_one free_two =
        elim (eqb_tells a b) [
          | inl same ↦ same.1
          | inr other ↦
              elim (leb_tells a b) [
                | inl less ↦
                    let before : a < b = omega (arith, less.1, other.1) in
                    absurd (true≢false (sym (ends-taken b (λ same. two.other (sym same ∙ one.zeros b before))
                    (λ greater later. one.zeros greater (omega (arith, later, before))) two.zeros) ∙ free_two))
                | inr more ↦
                    let before : b < a = omega (arith, more.1) in
                    absurd (true≢false (sym (ends-taken a (λ same. one.other (same ∙ two.zeros a before)) one.zeros
                    (λ greater later. two.zeros greater (omega (arith, later, before)))) ∙ free_one))
              ]
        ]

-- what the first columns leave of a line, the second leave too
abbrev pub LeaveToo : ℕ → List ReducedColumn → List ReducedColumn → Type 0
LeaveToo p first second = (whole left : ℕ → ℕ) → IsLeftOf p first whole left → IsLeftOf p second whole left

pub leave-push : (p : ℕ) (first second : List ReducedColumn) (one two : ReducedColumn) → LeaveToo p first second
    → is_last_row two.row second ≡ false → IsLeftOf p first one.values two.values → LeaveToo p (first ++ one ∷ []) (second ++ two ∷ [])
leave-push p first second one two too free between whole left is_left =
    let c = is_left.factor one.row in
    let middle : ℕ → ℕ = λ row. left row + c * two.values row in
    let of_first : IsLeftOf p first whole middle =
    record {
      factor = λ at. is_left.factor at + c * between.factor at;
      sum = λ row.
          let f = combination is_left.factor first row in
          let g = combination between.factor first row in
          let ends : combination is_left.factor (first ++ one ∷ []) row ≡ f + (c * one.values row + 0) =
          combination-append is_left.factor first (one ∷ []) row in
          let both : combination (λ at. is_left.factor at + c * between.factor at) first row ≡ f + c * g =
          combination-sum is_left.factor (λ at. c * between.factor at) first row
          ∙ ap (λ (n : ℕ). f + n) (combination-scaled c between.factor first row) in
          let spread : c * (two.values row + g) ≡ c * two.values row + c * g = omega arith in
          is_left.sum row
          ∙ same-equal p (left row + combination is_left.factor (first ++ one ∷ []) row) (left row + f + c * one.values row) (omega (arith, ends))
          ∙ same-add p (left row + f) (left row + f) (c * one.values row) (c * (two.values row + g)) refl
          (same-scaled p c (one.values row) (two.values row + g) (between.sum row))
          ∙ same-equal p (left row + f + c * (two.values row + g)) (middle row + combination (λ at. is_left.factor at + c * between.factor at) first row)
          (omega (arith, both, spread));
    } in
    let of_second = too whole middle of_first in
    record {
      factor = with_factor of_second.factor two.row c;
      sum = λ row.
          of_second.sum row
          ∙ same-equal p (middle row + combination of_second.factor second row)
          (left row + combination (with_factor of_second.factor two.row c) (second ++ two ∷ []) row)
          (omega (arith, combination-push of_second.factor second two.column two.row c two.values row free));
    }

-- reduced columns, a further one and others: it ends where none of those before it does
ends-free : (first lines : List ReducedColumn) (line : ReducedColumn) → EndApart (first ++ line ∷ lines)
    → EndApart first × (is_last_row line.row first ≡ false)
ends-free [] lines line apart = (tt, refl)
ends-free (other ∷ first) lines line apart =
    let parts =
    or_parts (is_last_row other.row first) (is_last_row other.row (line ∷ lines))
    (sym (is_last_row-append other.row first (line ∷ lines)) ∙ apart.0) in
    let differ = (or_parts (nat_eq other.row line.row) (is_last_row other.row lines) parts.1).0 in
    let rest = ends-free first lines line apart.1 in
    ((parts.0, rest.0), or_from (nat_eq line.row other.row) (is_last_row line.row first) (turned other.row line.row differ) rest.1)

-- such columns
pub record Further (p : ℕ) (first : List ReducedColumn) (line : ReducedColumn) : Type 0 where
  pub columns : AreReducedColumns p first
  pub free : is_last_row line.row first ≡ false
  pub own : IsReducedColumn p line

pub further : (p : ℕ) (first lines : List ReducedColumn) (line : ReducedColumn) → AreReducedColumns p (first ++ line ∷ lines)
    → Further p first line
further p first lines line columns =
    let ends = ends-free first lines line columns.apart in
    record {
      columns = record { each = AllByRecursion-first (IsReducedColumn p) first (line ∷ lines) columns.each; apart = ends.0 };
      free = ends.1;
      own = (AllByRecursion-second (IsReducedColumn p) first (line ∷ lines) columns.each).0;
    }

-- two lists of reduced columns that leave the same, and end at the same rows
record Alike (p : ℕ) (first second : List ReducedColumn) : Type 0 where
  there : LeaveToo p first second
  back : LeaveToo p second first
  rows : (row : ℕ) → is_last_row row first ≡ is_last_row row second

module _ (p : ℕ) (before : Complex) (i : ℤ) (count : ℕ) (field : IsField p) where
  above : 0 < p
  above = omega (arith, field.above_one)

  within : (least : ℕ) (earlier lines : List ReducedColumn) → ComeInOrder p before i count least earlier lines → least ≤ count
  within least earlier [] order = order.0
  within least earlier (line ∷ lines) order =
      omega (arith, order.0, within (line.column + 1) (earlier ++ line ∷ []) lines order.3)

  -- nothing may be left of a column only where nothing is
  unmatched : (reduced : List ReducedColumn) (line : ReducedColumn) (whole : ℕ → ℕ) → Further p reduced line
      → IsLeftOf p reduced whole line.values → IsLeftOf p reduced whole (λ at. 0) → true ≡ false
  unmatched reduced line whole at some nothing =
      sym (ends-either p reduced field at.columns line.row whole line.values some nothing at.own.below at.own.ends) ∙ at.free

  -- the pivots of the columns to come
  same-pivots : (least : ℕ) (first second lines others : List ReducedColumn) → AreReducedColumns p (first ++ lines)
      → AreReducedColumns p (second ++ others) → Alike p first second → ComeInOrder p before i count least first lines
      → ComeInOrder p before i count least second others → pivots_of i lines ≡ pivots_of i others
  same-pivots least first second [] [] columns_one columns_two alike order_one order_two = refl
  same-pivots least first second [] (two ∷ others) columns_one columns_two alike order_one order_two =
      let whole = column_numbers before i two.column in
      let next = within (two.column + 1) (second ++ two ∷ []) others order_two.3 in
      let nothing = order_one.1 two.column order_two.0 (omega (arith, next)) in
      absurd (true≢false (unmatched second two whole (further p second others two columns_two) order_two.2
      (alike.there whole (λ at. 0) nothing)))
  same-pivots least first second (one ∷ lines) [] columns_one columns_two alike order_one order_two =
      let whole = column_numbers before i one.column in
      let next = within (one.column + 1) (first ++ one ∷ []) lines order_one.3 in
      let nothing = order_two.1 one.column order_one.0 (omega (arith, next)) in
      absurd (true≢false (unmatched first one whole (further p first lines one columns_one) order_one.2
      (alike.back whole (λ at. 0) nothing)))
  same-pivots least first second (one ∷ lines) (two ∷ others) columns_one columns_two alike order_one order_two =
      let at_one = further p first lines one columns_one in
      let at_two = further p second others two columns_two in
      elim (eqb_tells one.column two.column) [
        | inl same ↦
            let whole = column_numbers before i two.column in
            let some : IsLeftOf p first whole one.values =
            subst (λ (column : ℕ). IsLeftOf p first (column_numbers before i column) one.values) same.1 order_one.2 in
            let there = left-between p first whole one.values two.values above some (alike.back whole two.values order_two.2) in
            let back = left-between p second whole two.values one.values above order_two.2 (alike.there whole one.values some) in
            let rows : one.row ≡ two.row =
            ends-same p first field at_one.columns one.values two.values there at_one.own.below at_two.own.below one.row two.row
            at_one.own.ends at_two.own.ends at_one.free (alike.rows two.row ∙ at_two.free) in
            let next : Alike p (first ++ one ∷ []) (second ++ two ∷ []) =
            record {
              there = leave-push p first second one two alike.there at_two.free there;
              back = leave-push p second first two one alike.back at_one.free back;
              rows = λ row.
                  is_last_row-append row first (one ∷ [])
                  ∙ ap₂ (λ (b : Bool) (k : ℕ). b || (nat_eq row k || false)) (alike.rows row) rows
                  ∙ sym (is_last_row-append row second (two ∷ []));
            } in
            let rest =
            same-pivots (one.column + 1) (first ++ one ∷ []) (second ++ two ∷ []) lines others
            (subst (AreReducedColumns p) (sym (append_assoc first (one ∷ []) lines)) columns_one)
            (subst (AreReducedColumns p) (sym (append_assoc second (two ∷ []) others)) columns_two) next order_one.3
            (subst (λ (column : ℕ). ComeInOrder p before i count (column + 1) (second ++ two ∷ []) others) (sym same.1) order_two.3) in
            ap₂ (λ (column row : ℕ). pivot_at i column row ∷ pivots_of i lines) same.1 rows
            ∙ ap (λ (pivots : List Pivot). pivot_at i two.column two.row ∷ pivots) rest
        | inr other ↦
            elim (leb_tells one.column two.column) [
              | inl less ↦
                  let whole = column_numbers before i one.column in
                  let nothing = order_two.1 one.column order_one.0 (omega (arith, less.1, other.1)) in
                  absurd (true≢false (unmatched first one whole at_one order_one.2 (alike.back whole (λ at. 0) nothing)))
              | inr more ↦
                  let whole = column_numbers before i two.column in
                  let nothing = order_one.1 two.column order_two.0 (omega (arith, more.1)) in
                  absurd (true≢false (unmatched second two whole at_two order_two.2 (alike.there whole (λ at. 0) nothing)))
            ]
      ]

-- so of all columns of a degree
degree-same : (p : ℕ) (before one two : Complex) (i : ℤ) (count : ℕ) (first second : List ReducedColumn) → IsField p
    → AreReduced p before i count first one → AreReduced p before i count second two → pivots_of i first ≡ pivots_of i second
degree-same p before one two i count first second field is_one is_two =
    same-pivots p before i count field 0 [] [] first second is_one.columns is_two.columns
    (record { there = λ whole left is. is; back = λ whole left is. is; rows = λ row. refl }) is_one.order is_two.order

-- and of all degrees
up-same : (p : ℕ) (before one two : Complex) (i : ℤ) (degrees others : List (List ReducedColumn)) → IsField p
    → length degrees ≡ length others → AreReducedUp p before i degrees one → AreReducedUp p before i others two
    → (pivots_from_greatest i degrees ≡ pivots_from_greatest i others) × (one ≡ two)
up-same p before one two i [] [] field size up_one up_two = (refl, up_one ∙ sym up_two)
up-same p before one two i [] (second ∷ others) field size up_one up_two = absurd (omega (arith, size))
up-same p before one two i (first ∷ degrees) [] field size up_one up_two = absurd (omega (arith, size))
up-same p before one two i (first ∷ degrees) (second ∷ others) field size up_one up_two =
    let here = degree-same p before up_one.0 up_two.0 i (place_count before i) first second field up_one.1 up_two.1 in
    let between : up_two.0 ≡ up_one.0 = up_two.1.replayed ∙ ap (replay p before) (sym here) ∙ sym up_one.1.replayed in
    let above =
    up-same p up_one.0 one two (i +ℤ pos 1) degrees others field (omega (arith, size)) up_one.2
    (subst (λ (complex : Complex). AreReducedUp p complex (i +ℤ pos 1) others two) between up_two.2) in
    (ap₂ (λ (greater own : List Pivot). greater ++ own) above.0 here, above.1)

-- so a complex is reduced in one way
module _ (p : ℕ) (before one two : Complex) (pivots others : List Pivot) (field : IsField p)
    (first : IsReducedComplex p before pivots one) (second : IsReducedComplex p before others two) where
  same : (pivots_from_greatest before.low first.degrees ≡ pivots_from_greatest before.low second.degrees) × (one ≡ two)
  same = up-same p before one two before.low first.degrees second.degrees field (first.count ∙ sym second.count) first.up second.up

  pub pivots-once : pivots ≡ others
  pivots-once = first.listed ∙ same.0 ∙ sym second.listed

  pub left-once : one ≡ two
  left-once = same.1
