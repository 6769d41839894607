-- The worked complexes are what the tests take them for. The first is a complex over three elements and over five, and its
-- columns are entries; vectors in memory that hold its lists are those lists. Then what `ColumnComplex::new` asks, but for the
-- bound on degrees: it holds for this complex, for one with a single place, and for one with a middle. Then what `exchange` asks
-- of a change: the pivot is an entry other than 0, the two columns and two rows that are named have the entries after, and all
-- others stay. Then what `drop_pair` asks of a pivot: to be alone in its column, as in the first complex, or in its row, as in
-- the one with a middle. All of it is found by computing with the numbers given.
use Rattle.std.proofs.lemmas.Bool.Decides.{nat_tests}
use Rattle.std.proofs.Common.{◌≡◌, ℕ, ◌<◌, ◌^◌, ◌⊎◌, List, [], ◌∷◌, ℤ, pos, ◌+ℤ◌, neg_ℤ, refl, sym, subst₂, length, map, arith}
use Rattle.std.specs.Prelude.{All}
use Rattle.std.specs.List.{AllByRecursion}
use Rattle.std.specs.Global.{Vec}
use Rattle.std.proofs.lemmas.List.Elements.{All-from_recursion}
use Rattle.smallvec.specs.SmallVec.{SmallVec}
use Rattle.kh_types.specs.Complex.{IsComplex, IsPivot, Pivot, cancel, pivot_at}
use Rattle.kh_types.specs.Generators.{Generator, generator_of}
use Rattle.kh_types.proofs.ComplexLemmas.{complex-from_test}
use Rattle.sparse_block.specs.Changes.{Exchange, AreChanged}
use Rattle.sparse_block.specs.Entries.{Entry, entries_of}
use Rattle.sparse_block.specs.Complexes.{HaveEntries, NamedComplex, SquaresToZero, column_of, place_count, row_of, sparse_complex}
use Rattle.sparse_block.specs.Inside.{lists_in, lines_in, entries_in}
use Rattle.sparse_block.specs.Worked.{worked_names, worked_columns, worked_complex, worked_change, middle_names, middle_columns, middle_complex, middle_change}

pub worked-three : IsComplex 3 (worked_complex 2 1 1).complex
worked-three = complex-from_test 3 (worked_complex 2 1 1).complex (omega arith) refl

pub worked-five : IsComplex 5 (worked_complex 2 3 1).complex
worked-five = complex-from_test 5 (worked_complex 2 3 1).complex (omega arith) refl

pub worked-entries : (p x y z : ℕ) → 2 < p → 0 < x → x < p → 0 < y → y < p → 0 < z → z < p
    → HaveEntries p worked_names (worked_columns x y z)
worked-entries p x y z above x_other x_below y_other y_below z_other z_below = grind (arith, nat_tests)

-- what the tests make in memory

pub names-made : (a b c d : List Generator) (first second third fourth : Vec Generator) (made : List (Vec Generator))
    → made ≡ first ∷ second ∷ third ∷ fourth ∷ [] → first.items ≡ a → second.items ≡ b → third.items ≡ c → fourth.items ≡ d
    → lists_in made ≡ a ∷ b ∷ c ∷ d ∷ []
names-made a b c d first second third fourth made are firsts seconds thirds fourths = grind (arith, nat_tests)

pub columns-made : (a b c d : List (List Entry)) (first second third fourth : Vec (SmallVec Entry))
    (made : List (Vec (SmallVec Entry))) → made ≡ first ∷ second ∷ third ∷ fourth ∷ [] → entries_in first.items ≡ a
    → entries_in second.items ≡ b → entries_in third.items ≡ c → entries_in fourth.items ≡ d
    → lines_in made ≡ a ∷ b ∷ c ∷ d ∷ []
columns-made a b c d first second third fourth made are firsts seconds thirds fourths = grind (arith, nat_tests)

-- and what `ColumnComplex::new` asks of it

-- each list has fewer names than can be counted
pub few-names : (names : List (List Generator)) → AllByRecursion (λ degree. length degree < 2 ^ 29) names
    → All (λ degree. length degree < 2 ^ 29) names
few-names names few = All-from_recursion (λ (degree : List Generator). length degree < 2 ^ 29) names few

pub record CanBuild (p : ℕ) (low : ℤ) (names : List (List Generator)) (columns : List (List (List Entry))) : Type 0 where
  pub some : 0 < length names
  pub counts : All (λ degree. length degree < 2 ^ 29) names
  pub sizes : map length columns ≡ map length names
  pub entries : HaveEntries p names columns
  pub squares : SquaresToZero p (sparse_complex low names columns).complex

pub worked-build : (p x y z : ℕ) (names : List (List Generator)) (columns : List (List (List Entry)))
    → names ≡ worked_names → columns ≡ worked_columns x y z → HaveEntries p worked_names (worked_columns x y z)
    → SquaresToZero p (worked_complex x y z).complex → CanBuild p (neg_ℤ (pos 1)) names columns
worked-build p x y z names columns are_names are_columns have squares =
    subst₂ (CanBuild p (neg_ℤ (pos 1))) (sym are_names) (sym are_columns)
    (record {
      some = omega arith;
      counts = few-names worked_names (omega arith, (omega arith, (omega arith, (omega arith, tt))));
      sizes = refl;
      entries = have;
      squares = squares;
    })

-- a complex with one place, and so without entries
abbrev pub point_names : List (List Generator)
point_names = (generator_of 0 0 ∷ []) ∷ []

abbrev pub point_columns : List (List (List Entry))
point_columns = ([] ∷ []) ∷ []

pub point-build : (names : List (List Generator)) (columns : List (List (List Entry))) → names ≡ point_names
    → columns ≡ point_columns → CanBuild 3 (pos 7) names columns
point-build names columns are_names are_columns = grind (arith, nat_tests)

-- the complex with a middle

pub middle-build : (names : List (List Generator)) (columns : List (List (List Entry))) → names ≡ middle_names
    → columns ≡ middle_columns → CanBuild 5 (neg_ℤ (pos 1)) names columns
middle-build names columns are_names are_columns = grind (arith, nat_tests)

-- what `exchange` asks of a change
pub record CanExchange (p : ℕ) (named : NamedComplex) (change : Exchange) : Type 0 where
  pub pivot : IsPivot named.complex change.pivot
  pub columns : AreChanged (place_count named.complex change.pivot.degree) (column_of named.complex change.pivot.degree)
      (column_of (cancel p named.complex change.pivot) change.pivot.degree) change.columns
  pub rows : AreChanged (place_count named.complex (change.pivot.degree +ℤ pos 1)) (row_of named.complex change.pivot.degree)
      (row_of (cancel p named.complex change.pivot) change.pivot.degree) change.rows

pub worked-can_exchange : (named : NamedComplex) (change : Exchange) → named ≡ worked_complex 2 3 1 → change ≡ worked_change
    → CanExchange 5 named change
worked-can_exchange named change is_complex is_change = grind (arith, nat_tests)

pub middle-can_exchange : (named : NamedComplex) (change : Exchange) → named ≡ middle_complex → change ≡ middle_change
    → CanExchange 5 named change
middle-can_exchange named change is_complex is_change = grind (arith, nat_tests)

-- what `drop_pair` asks of a pivot
pub record CanDrop (named : NamedComplex) (pivot : Pivot) : Type 0 where
  pub is_pivot : IsPivot named.complex pivot
  pub is_alone : (length (entries_of (column_of named.complex pivot.degree pivot.column)) ≡ 1)
      ⊎ (length (entries_of (row_of named.complex pivot.degree pivot.row)) ≡ 1)

pub worked-column_alone : (named : NamedComplex) → named ≡ worked_complex 2 1 1 → CanDrop named (pivot_at (pos 0) 0 0)
worked-column_alone named is = grind (arith, nat_tests)

pub middle-row_alone : (named : NamedComplex) → named ≡ middle_complex → CanDrop named (pivot_at (neg_ℤ (pos 1)) 0 0)
middle-row_alone named is = grind (arith, nat_tests)
