-- The ranks out of cells and into them are together at most the number of cells.
--
-- Let the product of V and then U be 0, where V has t rows and U has t columns. The matrix with the blocks U and V, zeros beside U, and the
-- identity beside V factors through t: as U above the identity, times the identity beside V. So the ranks of both fit into t.
use Rattle.std.proofs.lemmas.Bool.Decides.{nat_tests}
use Rattle.std.proofs.Common.{◌≡◌, ℕ, zero, suc, inl, inr, ◌+◌, ◌*◌, ◌/◌, ◌%◌, ◌<◌, ◌≤◌, ◌∙◌, ℤ, pos, ◌+ℤ◌, ◌-ℤ◌, List, length, get_or, map, refl, sym, subst, ap, ap₂, arith, Bool, true, false, cond, ◌≢◌}
use Rattle.std.specs.Prelude.{nat_eq}
use Rattle.std.specs.List.{Contains, sum_by}
use Rattle.std.proofs.lemmas.Bool.{cases_eq, cases_lt}
use Rattle.std.proofs.lemmas.Int.{ints}
use Rattle.kh_types.specs.Bits.{one_if}
use Rattle.kh_types.specs.Complex.{entry_in}
use Rattle.kh_types.specs.Products.{product_at, sum_below}
use Rattle.kh_types.specs.Rank.{rank}
use Rattle.kh_types.specs.Residues.{HasInverses, Same}
use Rattle.kh_types.proofs.Residues.{same-equal}
use Rattle.kh_types.proofs.Sums.{sum_below-equal, sum_below-zeros}
use Rattle.cell_laws.specs.Cells.{AreComplex, Cells, cells_at, differential_at, has_both, table_of}
use Rattle.cell_laws.proofs.LeftCells.{both-decides, both-from}
use Rattle.cell_laws.proofs.Members.{Contains-kept, sum_by-kept}
use Rattle.cell_laws.proofs.Tables.{IsMatrix-table, StandsAt, entry-at, entry-past_heads, entry-past_tails, rank-table, read, read-past, stands_or_past, sum_below-list}
use Rattle.split_laws.proofs.BlockRanks.{elimination, factors-triangular}

-- the identity
abbrev unit : ℕ → ℕ → ℕ
unit i j = one_if (nat_eq i j)

sum_below-first : (n : ℕ) (f : ℕ → ℕ) (j : ℕ) → j < n → sum_below n (λ k. f k * unit k j) ≡ f j
sum_below-first zero f j within = absurd (omega (arith, within))
sum_below-first (suc n) f zero within =
    let rest : sum_below n (λ k. f (suc k) * unit (suc k) 0) ≡ 0 =
    sum_below-zeros n (λ k. f (suc k) * unit (suc k) 0) (λ k. grind (arith, nat_tests)) in
    grind (arith, nat_tests, rest)
sum_below-first (suc n) f (suc j) within =
    let rest : sum_below n (λ k. f (suc k) * unit (suc k) (suc j)) ≡ f (suc j) =
    sum_below-equal n (λ k. f (suc k) * unit (suc k) (suc j)) (λ k. f (suc k) * unit k j) (λ k. grind (arith, nat_tests))
    ∙ sum_below-first n (λ k. f (suc k)) j (omega (arith, within)) in
    grind (arith, nat_tests, rest)

sum_below-past : (n : ℕ) (f : ℕ → ℕ) (j : ℕ) → n ≤ j → sum_below n (λ k. f k * unit k j) ≡ 0
sum_below-past zero f j past = refl
sum_below-past (suc n) f zero past = absurd (omega (arith, past))
sum_below-past (suc n) f (suc j) past =
    let rest : sum_below n (λ k. f (suc k) * unit (suc k) (suc j)) ≡ 0 =
    sum_below-equal n (λ k. f (suc k) * unit (suc k) (suc j)) (λ k. f (suc k) * unit k j) (λ k. grind (arith, nat_tests))
    ∙ sum_below-past n (λ k. f (suc k)) j (omega (arith, past)) in
    grind (arith, nat_tests, rest)

-- rows and columns by turns
abbrev by_turns : ℕ → (ℕ → ℕ) → (ℕ → ℕ) → ℕ
by_turns n even odd = cond (nat_eq (n % 2) 0) (even (n / 2)) (odd (n / 2))

turn-even : (i : ℕ) (even odd : ℕ → ℕ) → by_turns (2 * i) even odd ≡ even i
turn-even i even odd =
    let parity : 2 * i % 2 ≡ 0 = omega arith in
    let half : 2 * i / 2 ≡ i = omega arith in
    ap₂ (λ (r q : ℕ). cond (nat_eq r 0) (even q) (odd q)) parity half

turn-odd : (i : ℕ) (even odd : ℕ → ℕ) → by_turns (2 * i + 1) even odd ≡ odd i
turn-odd i even odd =
    let parity : (2 * i + 1) % 2 ≡ 1 = omega arith in
    let half : (2 * i + 1) / 2 ≡ i = omega arith in
    ap₂ (λ (r q : ℕ). cond (nat_eq r 0) (even q) (odd q)) parity half

-- matrices whose product is 0
module _ (p t u v : ℕ) (U V : ℕ → ℕ → ℕ) where
  abbrev left : ℕ → ℕ → ℕ
  left i k = by_turns i (λ r. U r k) (λ r. unit k r)

  abbrev right : ℕ → ℕ → ℕ
  right k j = by_turns j (λ r. unit k r) (λ r. V k r)

  commuted : (a b : ℕ) → a * b ≡ b * a
  commuted a b = omega arith

  first-block : ((i j : ℕ) → t ≤ j → U i j ≡ 0) → (i j : ℕ) → product_at t left right (2 * i) (2 * j) ≡ U i j
  first-block past i j =
      sum_below-equal t (λ k. left (2 * i) k * right k (2 * j)) (λ k. U i k * unit k j)
      (λ k. ap₂ (λ m n. m * n) (turn-even i (λ r. U r k) (λ r. unit k r)) (turn-even j (λ r. unit k r) (λ r. V k r)))
      ∙ elim (cases_lt j t) [
        | inl below ↦ sum_below-first t (U i) j below
        | inr beyond ↦ sum_below-past t (U i) j beyond ∙ sym (past i j beyond)
      ]

  second-block : ((i j : ℕ) → t ≤ i → V i j ≡ 0) → (i j : ℕ) → product_at t left right (2 * i + 1) (2 * j + 1) ≡ V i j
  second-block past i j =
      sum_below-equal t (λ k. left (2 * i + 1) k * right k (2 * j + 1)) (λ k. V k j * unit k i)
      (λ k.
      ap₂ (λ m n. m * n) (turn-odd i (λ r. U r k) (λ r. unit k r)) (turn-odd j (λ r. unit k r) (λ r. V k r))
      ∙ commuted (unit k i) (V k j))
      ∙ elim (cases_lt i t) [
        | inl below ↦ sum_below-first t (λ k. V k j) i below
        | inr beyond ↦ sum_below-past t (λ k. V k j) i beyond ∙ sym (past i j beyond)
      ]

  corner : (i j : ℕ) → product_at t left right (2 * i) (2 * j + 1) ≡ sum_below t (λ k. U i k * V k j)
  corner i j =
      sum_below-equal t (λ k. left (2 * i) k * right k (2 * j + 1)) (λ k. U i k * V k j)
      (λ k. ap₂ (λ m n. m * n) (turn-even i (λ r. U r k) (λ r. unit k r)) (turn-odd j (λ r. unit k r) (λ r. V k r)))

module _ {A : Type 0} (p : ℕ) (field : HasInverses p) (c : A → A → ℕ) (below : (x y : A) → c x y < p) (before middle after : List A)
    (zero_product : (x z : A) → Contains before x → Contains after z → Same p (sum_by (λ y. c x y * c y z) middle) 0) where
  abbrev out_of : ℕ → ℕ → ℕ
  out_of = entry_in (table_of c middle after)

  abbrev into : ℕ → ℕ → ℕ
  into = entry_in (table_of c before middle)

  turned : (a b : ℕ) → a * b ≡ b * a
  turned a b = omega arith

  products : (i j : ℕ) → Same p (sum_below (length middle) (λ k. out_of i k * into k j)) 0
  products i j = elim (stands_or_past after i) [
    | inr past ↦
        same-equal p (sum_below (length middle) (λ k. out_of i k * into k j)) 0
        (sum_below-zeros (length middle) (λ k. out_of i k * into k j)
        (λ k. ap (λ n. n * into k j) (entry-past_heads c middle after i k past) ∙ omega arith))
    | inl row ↦ elim (stands_or_past before j) [
      | inr past ↦
          same-equal p (sum_below (length middle) (λ k. out_of i k * into k j)) 0
          (sum_below-zeros (length middle) (λ k. out_of i k * into k j)
          (λ k. ap (λ n. out_of i k * n) (entry-past_tails c before middle k j past) ∙ omega arith))
      | inl column ↦
          let f = λ (y : A). c column.element y in
          let g = λ (y : A). c y row.element in
          same-equal p (sum_below (length middle) (λ k. out_of i k * into k j)) (sum_by (λ y. f y * g y) middle)
          (sum_below-equal (length middle) (λ k. out_of i k * into k j)
          (λ k. get_or (map f middle) k 0 * get_or (map g middle) k 0)
          (λ k. turned (out_of i k) (into k j) ∙ ap₂ (λ m n. m * n) (into_at k j column) (out_at k i row))
          ∙ sum_below-list f g middle)
          ∙ zero_product column.element row.element column.has row.has
    ]
  ]
    where
      into_at : (k j : ℕ) (column : StandsAt before j) → into k j ≡ get_or (map (λ y. c column.element y) middle) k 0
      into_at k j column = elim (stands_or_past middle k) [
        | inr past ↦
            entry-past_heads c before middle k j past ∙ sym (read-past (λ y. c column.element y) middle k 0 past)
        | inl s ↦
            entry-at c before middle k j s column
            ∙ sym (ap (λ (m : ℕ). get_or (map (λ y. c column.element y) middle) m 0) (sym s.here)
            ∙ read (λ y. c column.element y) middle s.element 0 s.has)
      ]

      out_at : (k i : ℕ) (row : StandsAt after i) → out_of i k ≡ get_or (map (λ y. c y row.element) middle) k 0
      out_at k i row = elim (stands_or_past middle k) [
        | inr past ↦
            entry-past_tails c middle after i k past ∙ sym (read-past (λ y. c y row.element) middle k 0 past)
        | inl s ↦
            entry-at c middle after i k row s
            ∙ sym (ap (λ (m : ℕ). get_or (map (λ y. c y row.element) middle) m 0) (sym s.here)
            ∙ read (λ y. c y row.element) middle s.element 0 s.has)
      ]

  pub ranks-fit_lists : rank p (table_of c middle after) + rank p (table_of c before middle) ≤ length middle
  ranks-fit_lists =
      let t = length middle in
      let u = rank p (table_of c middle after) in
      let v = rank p (table_of c before middle) in
      let positive : 0 < p = omega (arith, field.above_one) in
      let M = product_at t (left p t u v out_of into) (right p t u v out_of into) in
      factors-triangular p u v out_of into M (λ i. 2 * i) (λ j. 2 * j) (λ i. 2 * i + 1) (λ j. 2 * j + 1) field
      (elimination p (length middle) u (table_of c middle after) field (IsMatrix-table c middle after p positive below) refl)
      (rank-table c before middle p field below).least
      (λ i j.
      same-equal p (M (2 * i) (2 * j)) (out_of i j)
      (first-block p t u v out_of into (λ i j past. entry-past_tails c middle after i j past) i j))
      (λ i j.
      same-equal p (M (2 * i + 1) (2 * j + 1)) (into i j)
      (second-block p t u v out_of into (λ i j past. entry-past_heads c before middle i j past) i j))
      (λ i j.
      same-equal p (M (2 * i) (2 * j + 1)) (sum_below t (λ k. out_of i k * into k j)) (corner p t u v out_of into i j)
      ∙ products i j)
      t (record { left = left p t u v out_of into; right = right p t u v out_of into; product = λ i j. refl })

-- of a complex
pub ranks-fit : {A : Type 0} (p : ℕ) (cells : Cells A) → HasInverses p → AreComplex p cells → (i j : ℤ)
    → rank p (differential_at cells i j) + rank p (differential_at cells (i -ℤ pos 1) j) ≤ length (cells_at cells i j)
ranks-fit {A} p cells field complex i j =
    let c = cells.coefficient in
    let there : i -ℤ pos 1 +ℤ pos 1 ≡ i = omega (arith, ints) in
    let fits = ranks-fit_lists p field c complex.below (cells_at cells (i -ℤ pos 1) j) (cells_at cells i j) (cells_at cells (i +ℤ pos 1) j)
    (λ x z has_x has_z.
    let in_x = Contains-kept (has_both cells (i -ℤ pos 1) j) cells.list x has_x in
    let in_z = Contains-kept (has_both cells (i +ℤ pos 1) j) cells.list z has_z in
    same-equal p (sum_by (λ y. c x y * c y z) (cells_at cells i j)) (sum_by (λ y. c x y * c y z) cells.list)
    (sum_by-kept (λ y. c x y * c y z) (has_both cells i j) cells.list
    (λ y has_y other. elim (cases_eq (c x y) 0) [
      | inl none ↦ ap (λ n. n * c y z) none ∙ omega arith
      | inr some ↦
          absurd (differ other (next x y in_x.0 has_y in_x.1 some))
    ]))
    ∙ complex.squares x z in_x.0 in_z.0) in
    subst (λ (k : ℤ). rank p (differential_at cells i j)
    + rank p (table_of c (cells_at cells (i -ℤ pos 1) j) (cells_at cells k j)) ≤ length (cells_at cells i j)) (sym there) fits
  where
    differ : {b : Bool} → b ≡ false → b ≡ true → ⊥
    differ is_false is_true = cc

    next : (x y : A) → Contains cells.list x → Contains cells.list y → has_both cells (i -ℤ pos 1) j x ≡ true
        → cells.coefficient x y ≢ 0 → has_both cells i j y ≡ true
    next x y has_x has_y at some =
        let degrees = both-decides cells (i -ℤ pos 1) j x at in
        both-from cells i j y
        (omega (arith, ints, complex.homological x y has_x has_y some, degrees.0))
        (complex.quantum x y has_x has_y some ∙ degrees.1)
