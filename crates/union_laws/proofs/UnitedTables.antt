-- The tables of unions: what their rows are, by the rows of the two codes.
use Rattle.std.proofs.Common.{◌≡◌, ◌≢◌, ℕ, zero, suc, inl, inr, ◌+◌, ◌*◌, ◌<◌, ◌≤◌, ◌∙◌, ℤ, ◌+ℤ◌, ◌-ℤ◌, List, length, map, refl, sym, ap, ap₂, arith, Bool, true, false, cond, ◌&&◌, IsTrue}
use Rattle.std.specs.Prelude.{nat_lt}
use Rattle.std.specs.List.{Contains, filter, flat_map, sum_by}
use Rattle.std.specs.Ordering.{int_eq}
use Rattle.std.proofs.Math.Path.{fun_ext}
use Rattle.std.proofs.lemmas.Bool.{cases_eq}
use Rattle.std.proofs.lemmas.Bool.Decides.{Decides-int_eq, nat_tests}
use Rattle.std.proofs.lemmas.Int.{ints}
use Rattle.std.proofs.lemmas.List.{length-append, length-map}
use Rattle.std.proofs.lemmas.List.Elements.{All-contains}
use Rattle.kh_types.specs.Acceptance.{accepted}
use Rattle.kh_types.specs.Code.{Code, arc_count}
use Rattle.kh_types.specs.Components.{component_count}
use Rattle.kh_types.specs.Residues.{HasInverses}
use Rattle.kh_types.specs.Table.{Row, Table, dimension, from_minus, is_shown, row_at, rows_at, table}
use Rattle.kh_types.specs.declared.limits.TheConstants.{CROSSINGS, EXPONENT}
use Rattle.kh_types.proofs.AcceptedLemmas.{IsAccepted-is}
use Rattle.kh_types.proofs.ListSums.{sum_by-alike, sum_by-flat_map, sum_by-map, sum_by-turned, sum_by-zeros}
use Rattle.kh_types.proofs.TableRows.{Contains-table, rows_within-are}
use Rattle.cell_laws.specs.Alike.{HasNoDoubles}
use Rattle.cell_laws.proofs.Members.{Contains-kept, Contains-made, sum_by-kept, sum_by-members}
use Rattle.cell_laws.proofs.NoDoubles.{once-filter, once-flat, once-map, sum_by-only}
use Rattle.link_algebra.specs.Unions.{raised_slots, union_of}
use Rattle.link_algebra.proofs.UnitedCircles.{length-both}
use Rattle.product_laws.proofs.Counts.{from_minus-once}
use Rattle.union_laws.specs.UnitedRows.{row_product, rows_product}
use Rattle.union_laws.proofs.Unions.{dimension-union, unions-commute}

abbrev table_by : ℕ → (ℤ → List Row) → Table
table_by p by = record { field = p; rows = flat_map by (from_minus EXPONENT) }

abbrev row_of : ℤ → ℤ → ℕ → Row
row_of j i d = record { j = j; i = i; dim = d }

-- the other way round the table is the same
pub tables-commute : (p : ℕ) (first second : Code) → HasInverses p → IsTrue (accepted first) → IsTrue (accepted second)
    → table p (union_of second first) ≡ table p (union_of first second)
tables-commute p first second field first_is second_is =
    let turned : length second.crossings + length first.crossings ≡ length first.crossings + length second.crossings = omega arith in
    let size = length-both second first ∙ turned ∙ sym (length-both first second) in
    let rows : (j : ℤ) → rows_at p (union_of second first) j ≡ rows_at p (union_of first second) j =
    λ j. ap₂ (λ (n : ℕ) (row : ℤ → Row). filter is_shown (map row (from_minus n))) size
    (fun_ext (λ i. ap (row_of j i) (unions-commute p first second field first_is second_is i j))) in
    ap (table_by p) (fun_ext rows)

-- the rows of a table stand once
table-once : (p : ℕ) (code : Code) → HasNoDoubles (table p code).rows
table-once p code =
    let n = length code.crossings in
    once-flat (rows_at p code) (from_minus EXPONENT) (from_minus-once EXPONENT)
    (λ j. once-filter is_shown (map (row_at p code j) (from_minus n))
    (once-map (row_at p code j) (from_minus n) (λ i k same. ap (λ (row : Row). row.i) same) (from_minus-once n)))
    (λ j k row in_j in_k.
    let kept : (l : ℤ) → Contains (rows_at p code l) row → Contains (map (row_at p code l) (from_minus n)) row =
    λ l has. (Contains-kept is_shown (map (row_at p code l) (from_minus n)) row has).0 in
    let one = Contains-made (row_at p code j) (from_minus n) row (kept j in_j) in
    let other = Contains-made (row_at p code k) (from_minus n) row (kept k in_k) in
    ap (λ (row : Row). row.j) (one.2 ∙ sym other.2))

-- a sum over the rows of a table is one over all degrees
hidden-zero : (d : ℕ) → nat_lt 0 d ≡ false → d ≡ 0
hidden-zero d hidden = grind (arith, nat_tests)

sum_by-table : (p : ℕ) (code : Code) (f : Row → ℕ) → ((row : Row) → row.dim ≡ 0 → f row ≡ 0)
    → sum_by f (table p code).rows
    ≡ sum_by (λ j. sum_by (λ i. f (row_at p code j i)) (from_minus (length code.crossings))) (from_minus EXPONENT)
sum_by-table p code f none =
    let n = length code.crossings in
    sum_by-flat_map f (rows_at p code) (from_minus EXPONENT)
    ∙ sum_by-alike (λ j. sum_by f (rows_at p code j)) (λ j. sum_by (λ i. f (row_at p code j i)) (from_minus n))
    (λ j. sum_by-kept f is_shown (map (row_at p code j) (from_minus n)) (λ row has hidden. none row (hidden-zero row.dim hidden))
    ∙ sum_by-map f (row_at p code j) (from_minus n))
    (from_minus EXPONENT)

-- of the rows of a table one at most has the degrees that a row lacks
module _ (p : ℕ) (code : Code) (is : IsTrue (accepted code)) (few : length code.crossings ≤ CROSSINGS) (row : Row) (i j : ℤ) where
  abbrev rows : List Row
  rows = (table p code).rows

  abbrev missing : Row
  missing = row_at p code (j -ℤ row.j) (i -ℤ row.i)

  row-is : (other : Row) → Contains rows other → (0 < other.dim) × (other ≡ row_at p code other.j other.i)
  row-is other has =
      All-contains (λ (row : Row). (0 < row.dim) × (row ≡ row_at p code row.j row.i)) rows other (rows_within-are EXPONENT p code) has

  left_over : (x y z : ℤ) → x +ℤ y ≡ z → y ≡ z -ℤ x
  left_over x y z sum = omega (arith, ints, sum)

  is-missing : (other : Row) → Contains rows other → int_eq (row.i +ℤ other.i) i ≡ true → int_eq (row.j +ℤ other.j) j ≡ true
      → other ≡ missing
  is-missing other has by_i by_j =
      (row-is other has).1
      ∙ ap₂ (λ (k l : ℤ). row_at p code k l) (left_over row.j other.j j ((Decides-int_eq (row.j +ℤ other.j) j).0 by_j))
      (left_over row.i other.i i ((Decides-int_eq (row.i +ℤ other.i) i).0 by_i))

  never : (s t : Bool) (n : ℕ) → (s ≡ true → t ≡ true → ⊥) → cond (s && t) n 0 ≡ 0
  never true true n fails = absurd (fails refl refl)
  never true false n fails = refl
  never false t n fails = refl

  back : (x z : ℤ) → int_eq (x +ℤ (z -ℤ x)) z ≡ true
  back x z =
      let e : x +ℤ (z -ℤ x) ≡ z = omega (arith, ints) in
      (Decides-int_eq (x +ℤ (z -ℤ x)) z).1 e

  above : (n : ℕ) → n ≢ 0 → 0 < n
  above zero some = absurd (some refl)
  above (suc n) some = omega arith

  times_nothing : (m n : ℕ) → n ≡ 0 → 0 ≡ m * n
  times_nothing m n none = let e : 0 ≡ m * 0 = omega arith in e ∙ ap (λ k. m * k) (sym none)

  sum_by-row_product : sum_by (row_product i j row) rows ≡ row.dim * dimension p code (i -ℤ row.i) (j -ℤ row.j)
  sum_by-row_product = elim (cases_eq (dimension p code (i -ℤ row.i) (j -ℤ row.j)) 0) [
    | inl none ↦
        sum_by-members (row_product i j row) (λ (other : Row). 0) rows
        (λ other has. never (int_eq (row.i +ℤ other.i) i) (int_eq (row.j +ℤ other.j) j) (row.dim * other.dim)
        (λ by_i by_j.
        let same : other.dim ≡ dimension p code (i -ℤ row.i) (j -ℤ row.j) = ap (λ (row : Row). row.dim) (is-missing other has by_i by_j) in
        omega (arith, (row-is other has).0, same, none)))
        ∙ sum_by-zeros (λ (other : Row). 0) rows (λ other. refl)
        ∙ times_nothing row.dim (dimension p code (i -ℤ row.i) (j -ℤ row.j)) none
    | inr some ↦
        sum_by-only (row_product i j row) rows missing (table-once p code)
        (Contains-table p code (i -ℤ row.i) (j -ℤ row.j) ((IsAccepted-is code).0 is) few
        (above (dimension p code (i -ℤ row.i) (j -ℤ row.j)) some))
        (λ other has differs. never (int_eq (row.i +ℤ other.i) i) (int_eq (row.j +ℤ other.j) j) (row.dim * other.dim)
        (λ by_i by_j. differs (is-missing other has by_i by_j)))
        ∙ ap₂ (λ (s t : Bool). cond (s && t) (row.dim * missing.dim) 0) (back row.i i) (back row.j j)
  ]

pub dimension-tables : (p : ℕ) (first second : Code) → HasInverses p → IsTrue (accepted first) → IsTrue (accepted second)
    → length first.crossings ≤ CROSSINGS → length second.crossings ≤ CROSSINGS → (i j : ℤ)
    → dimension p (union_of first second) i j ≡ rows_product (table p first).rows (table p second).rows i j
dimension-tables p first second field first_is second_is few second_few i j =
    let n = length first.crossings in
    let term = λ (row : Row). row.dim * dimension p second (i -ℤ row.i) (j -ℤ row.j) in
    let within : 3 * n + component_count first.crossings + first.loops ≤ EXPONENT =
    omega (arith, few, ((IsAccepted-is first).0 first_is).components) in
    dimension-union p first second field first_is second_is EXPONENT within i j
    ∙ sym (sum_by-alike (λ row. sum_by (row_product i j row) (table p second).rows) term
    (λ row. sum_by-row_product p second second_is second_few row i j) (table p first).rows
    ∙ sum_by-table p first term (λ row none. nothing_times row.dim (dimension p second (i -ℤ row.i) (j -ℤ row.j)) none)
    ∙ sum_by-turned (λ (b a : ℤ). dimension p first a b * dimension p second (i -ℤ a) (j -ℤ b)) (from_minus EXPONENT) (from_minus n))
  where
    nothing_times : (m n : ℕ) → m ≡ 0 → m * n ≡ 0
    nothing_times m n none = let e : 0 * n ≡ 0 = omega arith in ap (λ k. k * n) none ∙ e
