-- The elimination of shortest entries keeps the survivors.
--
-- Of the cells from t on those go that are tails or heads there. The columns from t on lose as much rank as there are such tails. The whole
-- differential before loses as much rank as there are heads, and its rows below t as much as there are heads below t. So the sum stays.
use Rattle.std.proofs.Common.{◌≡◌, ◌≢◌, ℕ, ◌+◌, ◌-◌, ◌∙◌, ℤ, pos, ◌+ℤ◌, ◌-ℤ◌, List, length, refl, sym, subst, ap, ap₂, arith, Bool, true, false, not, cond}
use Rattle.std.specs.Prelude.{◌&&◌, int_le, int_lt}
use Rattle.std.specs.List.{Contains, filter, sum_by}
use Rattle.std.proofs.lemmas.Int.{ints}
use Rattle.std.proofs.lemmas.List.Sums.{length-filter}
use Rattle.kh_types.specs.Rank.{rank}
use Rattle.kh_types.specs.Residues.{HasInverses}
use Rattle.kh_types.proofs.ListSums.{sum_by-plus}
use Rattle.cell_laws.specs.Cells.{Cells}
use Rattle.cell_laws.specs.Elimination.{ArePivots, all_of, cells_left}
use Rattle.cell_laws.proofs.Members.{length-members, sum_by-members}
use Rattle.cell_laws.proofs.WaysBack.{head-of_all, pivot-other, sum_by-all_of, tail-of_all}
use Rattle.cell_laws.specs.Filtered.{AreFiltered, cells_from, columns_from, differential_of, has_degree, rows_below, survivors}
use Rattle.cell_laws.specs.Shortest.{IsShortest}
use Rattle.cell_laws.proofs.Degrees.{head-next, is_below, is_from, lt-not_le, suit-below, suit-from, suit-whole, tail-before}
use Rattle.cell_laws.proofs.TestedRanks.{rank-tested}

same_test : (a b : Bool) → (a ≡ true → b ≡ true) → (b ≡ true → a ≡ true) → a ≡ b
same_test true b there back = sym (there refl)
same_test false true there back = back refl
same_test false false there back = refl

-- a pivot whose tail has the degree before: its head is one from t on, or the pivot is one to a head below t
split-counted : (s u v l m : Bool) → u ≡ s → v ≡ s → m ≡ not l
    → cond (s && u) 1 0 ≡ cond (v && l) 1 0 + cond (s && (u && m)) 1 0
split-counted s u v l m is_u is_v is_m = rw is_u (rw is_v (rw is_m (plain s l)))
  where
    plain : (s l : Bool) → cond (s && s) 1 0 ≡ cond (s && l) 1 0 + cond (s && (s && not l)) 1 0
    plain true true = refl
    plain true false = refl
    plain false l = refl

module _ {A : Type 0} (p : ℕ) (cells : Cells A) (pairs : List (A × A)) (rest : List A) (field : HasInverses p)
    (filtered : AreFiltered p cells) (listed : cells.list ≡ all_of pairs rest) (are : ArePivots cells.coefficient pairs)
    (shortest : (pair : A × A) → Contains pairs pair → IsShortest cells pair) where
  abbrev after : Cells A
  after = cells_left p cells pairs rest

  has_tail : (pair : A × A) → Contains pairs pair → Contains cells.list pair.0
  has_tail pair has = subst (λ xs. Contains xs pair.0) (sym listed) (tail-of_all pairs rest pair has)

  has_head : (pair : A × A) → Contains pairs pair → Contains cells.list pair.1
  has_head pair has = subst (λ xs. Contains xs pair.1) (sym listed) (head-of_all pairs rest pair has)

  some : (pair : A × A) → Contains pairs pair → cells.coefficient pair.0 pair.1 ≢ 0
  some pair has = pivot-other cells.coefficient pairs pair are has

  -- how many pairs pass a test
  abbrev count : (A × A → Bool) → ℕ
  count test = length (filter test pairs)

  ranks-whole : (i : ℤ) → rank p (differential_of cells i)
      ≡ length (filter (λ pair. has_degree cells i pair.0 && has_degree cells (i +ℤ pos 1) pair.1) pairs)
      + rank p (differential_of (cells_left p cells pairs rest) i)
  ranks-whole i =
      rank-tested p cells.coefficient cells.list pairs rest field filtered.below filtered.squares listed are
      (has_degree cells i) (has_degree cells (i +ℤ pos 1))
      (λ pair has. suit-whole p cells filtered pair (has_tail pair has) (has_head pair has) (some pair has) i)

  ranks-below : (i t : ℤ) → rank p (rows_below cells i t)
      ≡ length (filter (λ pair. has_degree cells i pair.0 && is_below cells (i +ℤ pos 1) t pair.1) pairs)
      + rank p (rows_below (cells_left p cells pairs rest) i t)
  ranks-below i t =
      rank-tested p cells.coefficient cells.list pairs rest field filtered.below filtered.squares listed are
      (has_degree cells i) (is_below cells (i +ℤ pos 1) t)
      (λ pair has. suit-below p cells filtered pair (has_tail pair has) (has_head pair has) (some pair has) (shortest pair has) i t)

  ranks-from : (i t : ℤ) → rank p (columns_from cells i t)
      ≡ length (filter (λ pair. is_from cells i t pair.0 && has_degree cells (i +ℤ pos 1) pair.1) pairs)
      + rank p (columns_from (cells_left p cells pairs rest) i t)
  ranks-from i t =
      rank-tested p cells.coefficient cells.list pairs rest field filtered.below filtered.squares listed are
      (is_from cells i t) (has_degree cells (i +ℤ pos 1))
      (λ pair has. suit-from p cells filtered pair (has_tail pair has) (has_head pair has) (some pair has) (shortest pair has) i t)

  -- the cells from t on: those that are left, the tails there, and the heads there
  lengths : (i t : ℤ) → length (cells_from cells i t)
      ≡ length (filter (λ pair. is_from cells i t pair.0) pairs)
      + (length (filter (λ pair. is_from cells i t pair.1) pairs) + length (cells_from (cells_left p cells pairs rest) i t))
  lengths i t =
      let one = λ (x : A). cond (is_from cells i t x) 1 0 in
      length-filter (is_from cells i t) cells.list ∙ ap (λ xs. sum_by one xs) listed ∙ sum_by-all_of one pairs rest
      ∙ ap₂ (λ m n. m + n) (sym (length-filter (λ pair. is_from cells i t pair.0) pairs))
      (ap₂ (λ m n. m + n) (sym (length-filter (λ pair. is_from cells i t pair.1) pairs)) (sym (length-filter (is_from cells i t) rest)))

  -- all pairs with tails from t on
  tails-from : (i t : ℤ) → length (filter (λ pair. is_from cells i t pair.0 && has_degree cells (i +ℤ pos 1) pair.1) pairs)
      ≡ length (filter (λ pair. is_from cells i t pair.0) pairs)
  tails-from i t =
      length-members (λ pair. is_from cells i t pair.0 && has_degree cells (i +ℤ pos 1) pair.1) (λ pair. is_from cells i t pair.0) pairs
      (λ pair has. absorbed (has_degree cells i pair.0) (int_le t (cells.quantum pair.0)) (has_degree cells (i +ℤ pos 1) pair.1)
      (head-next p cells filtered pair (has_tail pair has) (has_head pair has) (some pair has) i))
    where
      absorbed : (a b d : Bool) → (a ≡ true → d ≡ true) → ((a && b) && d) ≡ (a && b)
      absorbed true true d follows = follows refl
      absorbed true false d follows = refl
      absorbed false b d follows = refl

  -- all pairs with heads in a degree: the heads from t on, and those below
  heads-counted : (i t : ℤ)
      → length (filter (λ pair. has_degree cells (i -ℤ pos 1) pair.0 && has_degree cells ((i -ℤ pos 1) +ℤ pos 1) pair.1) pairs)
      ≡ length (filter (λ pair. is_from cells i t pair.1) pairs)
      + length (filter (λ pair. has_degree cells (i -ℤ pos 1) pair.0 && is_below cells ((i -ℤ pos 1) +ℤ pos 1) t pair.1) pairs)
  heads-counted i t =
      let j = i -ℤ pos 1 in
      let is : (i -ℤ pos 1) +ℤ pos 1 ≡ i = omega (arith, ints) in
      let all = λ (pair : A × A). has_degree cells (i -ℤ pos 1) pair.0 && has_degree cells ((i -ℤ pos 1) +ℤ pos 1) pair.1 in
      let high = λ (pair : A × A). is_from cells i t pair.1 in
      let low = λ (pair : A × A). has_degree cells (i -ℤ pos 1) pair.0 && is_below cells ((i -ℤ pos 1) +ℤ pos 1) t pair.1 in
      length-filter all pairs
      ∙ sum_by-members (λ pair. cond (all pair) 1 0) (λ pair. cond (high pair) 1 0 + cond (low pair) 1 0) pairs
      (λ pair has.
      let same : has_degree cells ((i -ℤ pos 1) +ℤ pos 1) pair.1 ≡ has_degree cells (i -ℤ pos 1) pair.0 =
      same_test (has_degree cells ((i -ℤ pos 1) +ℤ pos 1) pair.1) (has_degree cells (i -ℤ pos 1) pair.0)
      (tail-before p cells filtered pair (has_tail pair has) (has_head pair has) (some pair has) (i -ℤ pos 1))
      (head-next p cells filtered pair (has_tail pair has) (has_head pair has) (some pair has) (i -ℤ pos 1)) in
      split-counted (has_degree cells (i -ℤ pos 1) pair.0) (has_degree cells ((i -ℤ pos 1) +ℤ pos 1) pair.1) (has_degree cells i pair.1)
      (int_le t (cells.quantum pair.1)) (int_lt (cells.quantum pair.1) t) same
      (ap (λ (d : ℤ). has_degree cells d pair.1) (sym is) ∙ same) (lt-not_le (cells.quantum pair.1) t))
      ∙ sum_by-plus (λ pair. cond (high pair) 1 0) (λ pair. cond (low pair) 1 0) pairs
      ∙ ap₂ (λ m n. m + n) (sym (length-filter high pairs)) (sym (length-filter low pairs))

  pub survivors-left : (i t : ℤ) → survivors p (cells_left p cells pairs rest) i t ≡ survivors p cells i t
  survivors-left i t =
      less (length (cells_from cells i t)) (length (cells_from (cells_left p cells pairs rest) i t))
      (length (filter (λ pair. is_from cells i t pair.0) pairs)) (length (filter (λ pair. is_from cells i t pair.1) pairs))
      (length (filter (λ pair. has_degree cells (i -ℤ pos 1) pair.0 && is_below cells ((i -ℤ pos 1) +ℤ pos 1) t pair.1) pairs))
      (rank p (rows_below cells (i -ℤ pos 1) t)) (rank p (rows_below (cells_left p cells pairs rest) (i -ℤ pos 1) t))
      (rank p (columns_from cells i t)) (rank p (columns_from (cells_left p cells pairs rest) i t))
      (rank p (differential_of cells (i -ℤ pos 1))) (rank p (differential_of (cells_left p cells pairs rest) (i -ℤ pos 1)))
      (lengths i t) (ranks-below (i -ℤ pos 1) t)
      (ranks-from i t ∙ ap (λ n. n + rank p (columns_from (cells_left p cells pairs rest) i t)) (tails-from i t))
      (ranks-whole (i -ℤ pos 1)
      ∙ ap (λ n. n + rank p (differential_of (cells_left p cells pairs rest) (i -ℤ pos 1))) (heads-counted i t))
    where
      less : (n m a b d r s k l w v : ℕ) → n ≡ a + (b + m) → r ≡ d + s → k ≡ a + l → w ≡ b + d + v → m + s - l - v ≡ n + r - k - w
      less n m a b d r s k l w v size rows columns whole = omega (arith, size, rows, columns, whole)
