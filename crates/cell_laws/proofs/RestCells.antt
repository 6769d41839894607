-- What the elimination of pivots leaves: a complex with the same dimensions.
--
-- What is left of a coefficient is the coefficient less its ways back through the pivots (WaysBack). Nothing is left to a pivot's head, nor
-- from its tail; as a head, a pivot's tail is a combination of the heads that are left, and as a tail its head one of the tails. So in each
-- pair of degrees all cells have the rank of those that are left and of the pivots there, and the dimensions are the same.
use Rattle.std.proofs.Common.{◌≡◌, ◌≢◌, ℕ, ◌⊎◌, inl, inr, ◌+◌, ◌-◌, ◌*◌, ◌%◌, ◌<◌, ◌∙◌, ℤ, pos, ◌+ℤ◌, ◌-ℤ◌, List, length, refl, sym, subst, ap, ap₂, arith, Bool, true, false, cond}
use Rattle.std.specs.Prelude.{◌&&◌}
use Rattle.std.specs.List.{Contains, filter, sum_by}
use Rattle.std.proofs.lemmas.Bool.{cases_eq}
use Rattle.std.proofs.lemmas.Int.{ints}
use Rattle.std.proofs.lemmas.List.Sums.{length-filter}
use Rattle.std.proofs.lemmas.Nat.{mod_below}
use Rattle.kh_types.specs.Rank.{inverse, minus_mod, rank}
use Rattle.kh_types.specs.Residues.{HasInverses, Same}
use Rattle.kh_types.proofs.Reduced.{minus_mod-nothing}
use Rattle.kh_types.proofs.Residues.{same-equal, same-mul, same-rest, same-scaled}
use Rattle.cell_laws.specs.Cells.{AreComplex, Cells, cells_at, differential_at, dimension_at, has_both}
use Rattle.cell_laws.specs.Elimination.{ArePivots, all_of, cells_left, eliminated, way_back}
use Rattle.cell_laws.proofs.LeftCells.{degree-before, next-degree, same_heads, same_tails}
use Rattle.cell_laws.proofs.TestedRanks.{Suit, rank-tested}
use Rattle.cell_laws.proofs.Members.{length-members, sum_by-members, sum_by-nothing, sum_by-term}
use Rattle.cell_laws.proofs.WaysBack.{IsOneOf, head-of_all, left-from_tail, left-to_head, one_of, pivot-other, rest-of_all, sum-left_first, sum-left_second, sum_by-all_of, tail-of_all}

both_from : (a b : Bool) → a ≡ true → b ≡ true → (a && b) ≡ true
both_from true b first second = second
both_from false b first second = first

module _ {A : Type 0} (p : ℕ) (cells : Cells A) (pairs : List (A × A)) (rest : List A) (field : HasInverses p)
    (complex : AreComplex p cells) (listed : cells.list ≡ all_of pairs rest) (are : ArePivots cells.coefficient pairs) where
  abbrev c : A → A → ℕ
  c x y = cells.coefficient x y

  abbrev e : A → A → ℕ
  e x y = eliminated p cells.coefficient pairs x y

  positive : 0 < p
  positive = omega (arith, field.above_one)

  abbrev after : Cells A
  after = cells_left p cells pairs rest

  abbrev inverse_of : A × A → ℕ
  inverse_of pair = inverse p (cells.coefficient pair.0 pair.1)

  has_tail : (pair : A × A) → Contains pairs pair → Contains cells.list pair.0
  has_tail pair has = subst (λ xs. Contains xs pair.0) (sym listed) (tail-of_all pairs rest pair has)

  has_head : (pair : A × A) → Contains pairs pair → Contains cells.list pair.1
  has_head pair has = subst (λ xs. Contains xs pair.1) (sym listed) (head-of_all pairs rest pair has)

  has_rest : (x : A) → Contains rest x → Contains cells.list x
  has_rest x has = subst (λ xs. Contains xs x) (sym listed) (rest-of_all pairs rest x has)

  is_one_of : (x : A) → Contains cells.list x → IsOneOf pairs rest x
  is_one_of x has = one_of pairs rest x (subst (λ xs. Contains xs x) listed has)

  sum-parts : (f : A → ℕ) → sum_by f cells.list ≡ sum_by (λ pair. f pair.0) pairs + (sum_by (λ pair. f pair.1) pairs + sum_by f rest)
  sum-parts f = ap (λ xs. sum_by f xs) listed ∙ sum_by-all_of f pairs rest

  -- two steps, of which the first, the second or both are what is left
  first-square : (x z : A) → Contains cells.list x → Contains cells.list z → Same p (sum_by (λ u. e x u * c u z) cells.list) 0
  first-square x z has_x has_z =
      sum-left_first p cells.coefficient pairs field complex.below are cells.list x (λ u. c u z) (complex.squares x z has_x has_z)
      (λ pair has. complex.squares pair.0 z (has_tail pair has) has_z)

  second-square : (x z : A) → Contains cells.list x → Contains cells.list z → Same p (sum_by (λ u. c x u * e u z) cells.list) 0
  second-square x z has_x has_z =
      sum-left_second p cells.coefficient pairs field complex.below are cells.list z (λ u. c x u) (complex.squares x z has_x has_z)
      (λ pair has. complex.squares x pair.1 has_x (has_head pair has))

  both-squares : (x z : A) → Contains cells.list x → Contains cells.list z → Same p (sum_by (λ u. e x u * e u z) cells.list) 0
  both-squares x z has_x has_z =
      sum-left_second p cells.coefficient pairs field complex.below are cells.list z (λ u. e x u) (first-square x z has_x has_z)
      (λ pair has. first-square x pair.1 has_x (has_head pair has))

  to_head : (x : A) (pair : A × A) → Contains pairs pair → Same p (e x pair.1) 0
  to_head x pair has = left-to_head p cells.coefficient pairs field complex.below are x pair has

  from_tail : (pair : A × A) (y : A) → Contains pairs pair → Same p (e pair.0 y) 0
  from_tail pair y has = left-from_tail p cells.coefficient pairs field complex.below are pair y has

  none_times : (a b : ℕ) → Same p a 0 → Same p (a * b) 0
  none_times a b none = same-mul p a 0 b b none refl ∙ same-equal p (0 * b) 0 (omega arith)

  times_none : (a b : ℕ) → Same p b 0 → Same p (a * b) 0
  times_none a b none = same-scaled p a b 0 none ∙ same-equal p (a * 0) 0 (omega arith)

  -- the products along two steps through the cells that are left
  squares-left : (x z : A) → Contains rest x → Contains rest z → Same p (sum_by (λ u. e x u * e u z) rest) 0
  squares-left x z has_x has_z =
      let f = λ (u : A). e x u * e u z in
      let by_tails = sum_by (λ (pair : A × A). f pair.0) pairs in
      let by_heads = sum_by (λ (pair : A × A). f pair.1) pairs in
      same-rest p by_heads (sum_by f rest) 0
      (sum_by-nothing p (λ (pair : A × A). f pair.1) pairs (λ pair has. none_times (e x pair.1) (e pair.1 z) (to_head x pair has)))
      (same-rest p by_tails (by_heads + sum_by f rest) 0
      (sum_by-nothing p (λ (pair : A × A). f pair.0) pairs (λ pair has. times_none (e x pair.0) (e pair.0 z) (from_tail pair z has)))
      (same-equal p (by_tails + (by_heads + sum_by f rest)) (sum_by f cells.list) (sym (sum-parts f))
      ∙ both-squares x z (has_rest x has_x) (has_rest z has_z)))

  -- a coefficient that is left was there, or is a way back
  record HasWay (x y : A) : Type 0 where
    pivot : A × A
    has : Contains pairs pivot
    first : c x pivot.1 ≢ 0
    last : c pivot.0 y ≢ 0

  there_or_way : (x y : A) → e x y ≢ 0 → (c x y ≢ 0) ⊎ HasWay x y
  there_or_way x y some = elim (cases_eq (c x y) 0) [
    | inr there ↦ inl there
    | inl none ↦
        let found = sum_by-term (way_back p cells.coefficient x y) pairs
        (λ no_way. some (ap (λ n. minus_mod p n (sum_by (way_back p cells.coefficient x y) pairs)) none
        ∙ minus_mod-nothing p (sum_by (way_back p cells.coefficient x y) pairs) no_way)) in
        let pair = found.0 in
        inr (record {
          pivot = pair;
          has = found.1;
          first = λ is. found.2 (ap (λ n. n * (inverse_of pair * c pair.0 y)) is ∙ omega arith);
          last = λ is. found.2 (ap (λ n. c x pair.1 * (inverse_of pair * n)) is ∙ nothing (c x pair.1) (inverse_of pair));
        })
  ]
    where
      nothing : (a b : ℕ) → a * (b * 0) ≡ 0
      nothing a b = omega arith

  pub complex-left : AreComplex p (cells_left p cells pairs rest)
  complex-left =
      record {
        below = λ x y. mod_below (c x y + (p - sum_by (way_back p cells.coefficient x y) pairs % p)) p positive;
        homological = λ x y has_x has_y some. elim (there_or_way x y some) [
          | inl there ↦ complex.homological x y (has_rest x has_x) (has_rest y has_y) there
          | inr way ↦
              let pair = way.pivot in
              let tail = has_tail pair way.has in
              let head = has_head pair way.has in
              omega (
                arith,
                ints,
                complex.homological x pair.1 (has_rest x has_x) head way.first,
                complex.homological pair.0 y tail (has_rest y has_y) way.last,
                complex.homological pair.0 pair.1 tail head (pivot-other cells.coefficient pairs pair are way.has),
              )
        ];
        quantum = λ x y has_x has_y some. elim (there_or_way x y some) [
          | inl there ↦ complex.quantum x y (has_rest x has_x) (has_rest y has_y) there
          | inr way ↦
              let pair = way.pivot in
              let tail = has_tail pair way.has in
              let head = has_head pair way.has in
              complex.quantum pair.0 y tail (has_rest y has_y) way.last
              ∙ sym (complex.quantum pair.0 pair.1 tail head (pivot-other cells.coefficient pairs pair are way.has))
              ∙ complex.quantum x pair.1 (has_rest x has_x) head way.first
        ];
        squares = squares-left;
      }

  -- the tests of a pair of degrees suit each pivot
  suits : (i j : ℤ) (pair : A × A) → Contains pairs pair
      → Suit cells.coefficient cells.list (has_both cells i j) (has_both cells (i +ℤ pos 1) j) pair
  suits i j pair has =
      let tail = has_tail pair has in
      let head = has_head pair has in
      let some = pivot-other cells.coefficient pairs pair are has in
      record {
        there = λ x y has_x has_y passes_x passes_y to_head from_tail.
            let own = same_tails p cells field complex i j x pair.0 pair.1 has_x tail head to_head some passes_x in
            both_from (has_both cells i j pair.0) (has_both cells (i +ℤ pos 1) j pair.1) own
            (next-degree p cells field complex i j pair.0 pair.1 tail head some own);
        as_head = λ passes u has_u to_head.
            same_tails p cells field complex (i +ℤ pos 1) j pair.0 u pair.1 tail has_u head some to_head passes;
        as_tail = λ passes u has_u from_tail.
            same_heads p cells field complex i j pair.0 pair.1 u tail head has_u some from_tail passes;
      }

  -- so the rank falls by the number of pivots there
  ranks : (i j : ℤ) → rank p (differential_at cells i j)
      ≡ length (filter (λ pair. has_both cells i j pair.0) pairs) + rank p (differential_at (cells_left p cells pairs rest) i j)
  ranks i j =
      rank-tested p cells.coefficient cells.list pairs rest field complex.below complex.squares listed are
      (has_both cells i j) (has_both cells (i +ℤ pos 1) j) (suits i j)
      ∙ ap (λ n. n + rank p (differential_at (cells_left p cells pairs rest) i j))
      (length-members (λ pair. has_both cells i j pair.0 && has_both cells (i +ℤ pos 1) j pair.1) (λ pair. has_both cells i j pair.0) pairs
      (λ pair has. absorbed (has_both cells i j pair.0) (has_both cells (i +ℤ pos 1) j pair.1)
      (next-degree p cells field complex i j pair.0 pair.1 (has_tail pair has) (has_head pair has)
      (pivot-other cells.coefficient pairs pair are has))))
    where
      absorbed : (b d : Bool) → (b ≡ true → d ≡ true) → (b && d) ≡ b
      absorbed true d follows = follows refl
      absorbed false d follows = refl

  -- the cells of two degrees: those that are left, the tails there, and the heads of the tails before
  lengths : (i j : ℤ) → length (cells_at cells i j)
      ≡ length (filter (λ pair. has_both cells i j pair.0) pairs)
      + (length (filter (λ pair. has_both cells (i -ℤ pos 1) j pair.0) pairs) + length (cells_at (cells_left p cells pairs rest) i j))
  lengths i j =
      let one = λ (x : A). cond (has_both cells i j x) 1 0 in
      length-filter (has_both cells i j) cells.list ∙ sum-parts one
      ∙ ap₂ (λ m n. m + n) (sym (length-filter (λ pair. has_both cells i j pair.0) pairs))
      (ap₂ (λ m n. m + n)
      (sum_by-members (λ (pair : A × A). one pair.1) (λ pair. cond (has_both cells (i -ℤ pos 1) j pair.0) 1 0) pairs
      (λ pair has. ap (λ b. cond b 1 0) (head_by_tail pair has))
      ∙ sym (length-filter (λ pair. has_both cells (i -ℤ pos 1) j pair.0) pairs))
      (sym (length-filter (has_both cells i j) rest)))
    where
      same_test : (a b : Bool) → (a ≡ true → b ≡ true) → (b ≡ true → a ≡ true) → a ≡ b
      same_test true b there back = sym (there refl)
      same_test false true there back = back refl
      same_test false false there back = refl

      head_by_tail : (pair : A × A) → Contains pairs pair → has_both cells i j pair.1 ≡ has_both cells (i -ℤ pos 1) j pair.0
      head_by_tail pair has =
          let step = (i -ℤ pos 1) +ℤ pos 1 in
          let is : (i -ℤ pos 1) +ℤ pos 1 ≡ i = omega (arith, ints) in
          let some = pivot-other cells.coefficient pairs pair are has in
          same_test (has_both cells i j pair.1) (has_both cells (i -ℤ pos 1) j pair.0)
          (λ passes. degree-before p cells field complex (i -ℤ pos 1) j pair.0 pair.1 (has_tail pair has) (has_head pair has) some
          (ap (λ (d : ℤ). has_both cells d j pair.1) is ∙ passes))
          (λ passes. ap (λ (d : ℤ). has_both cells d j pair.1) (sym is)
          ∙ next-degree p cells field complex (i -ℤ pos 1) j pair.0 pair.1 (has_tail pair has) (has_head pair has) some passes)

  pub dimension-left : (i j : ℤ) → dimension_at p (cells_left p cells pairs rest) i j ≡ dimension_at p cells i j
  dimension-left i j =
      less (length (cells_at cells i j)) (length (cells_at (cells_left p cells pairs rest) i j))
      (length (filter (λ pair. has_both cells i j pair.0) pairs)) (length (filter (λ pair. has_both cells (i -ℤ pos 1) j pair.0) pairs))
      (rank p (differential_at cells i j)) (rank p (differential_at (cells_left p cells pairs rest) i j))
      (rank p (differential_at cells (i -ℤ pos 1) j)) (rank p (differential_at (cells_left p cells pairs rest) (i -ℤ pos 1) j))
      (lengths i j) (ranks i j) (ranks (i -ℤ pos 1) j)
    where
      less : (n m a b r s t u : ℕ) → n ≡ a + (b + m) → r ≡ a + s → t ≡ b + u → m - s - u ≡ n - r - t
      less n m a b r s t u size out into = omega (arith, size, out, into)
