-- Cells that are one another's up to order, names and signs have the same dimensions.
--
-- Cells under other names, with a sign for each, have the same coefficients up to the signs of both ends. Dimensions are counts of cells
-- less ranks of matrices between listed cells. Another order of a list exchanges rows or columns, and signs multiply them by numbers that
-- have inverses: neither changes a rank.
use Rattle.std.proofs.lemmas.Bool.Decides.{nat_tests}
use Rattle.std.proofs.Common.{◌≡◌, ℕ, ◌⊎◌, inl, inr, ◌*◌, ◌<◌, ◌≤◌, ◌∙◌, ℤ, pos, ◌+ℤ◌, ◌-ℤ◌, ◌-◌, List, length, refl, sym, ap, ap₂, arith, Bool, cond}
use Rattle.std.specs.Prelude.{◌&&◌}
use Rattle.std.specs.List.{Contains, filter}
use Rattle.std.specs.Ordering.{int_eq}
use Rattle.std.proofs.lemmas.List.Sums.{length-filter}
use Rattle.kh_types.specs.Complex.{entry_in}
use Rattle.kh_types.specs.Rank.{rank}
use Rattle.kh_types.specs.Residues.{HasInverses, Same}
use Rattle.kh_types.proofs.Lists.{Contains-filter}
use Rattle.kh_types.proofs.PivotLemmas.{rank-determined, rank-like}
use Rattle.kh_types.proofs.Residues.{same-equal, same-mul, same-scaled}
use Rattle.plain_matrix.specs.Scaled.{IsScaled}
use Rattle.plain_matrix.proofs.ScaledRanks.{factors-scaled}
use Rattle.cell_laws.specs.Cells.{Cells, dimension_at, has_both, table_of}
use Rattle.cell_laws.specs.Alike.{AreAlike}
use Rattle.cell_laws.proofs.Members.{Contains-kept, sum_by-members}
use Rattle.cell_laws.proofs.Tables.{StandsAt, entry-at, entry-past_heads, entry-past_tails, rank-table, stands_or_past}

-- at a place of the first list stands an element, and at a place of the second one that is related to it
record ArePartners {A B : Type 0} (R : A → B → Type 0) (xs : List A) (ys : List B) (at there : ℕ) : Type 0 where
  one : StandsAt xs at
  other : StandsAt ys there
  related : R one.element other.element

-- and the factor of the two; or nothing stands there, and the factor is 0
record IsChosen {A B : Type 0} (R : A → B → Type 0) (factor : A → B → ℕ) (xs : List A) (ys : List B) (at : ℕ) : Type 0 where
  there : ℕ
  by : ℕ
  which : ((s : ArePartners R xs ys at there) × (by ≡ factor s.one.element s.other.element)) ⊎ ((length xs ≤ at) × (by ≡ 0))

chosen : {A B : Type 0} (R : A → B → Type 0) (factor : A → B → ℕ) (xs : List A) (ys : List B)
    → ((x : A) → Contains xs x → (y : B) × Contains ys y × R x y) → (at : ℕ) → IsChosen R factor xs ys at
chosen R factor xs ys partner at = elim (stands_or_past xs at) [
  | inr past ↦ record { there = 0; by = 0; which = inr (past, refl) }
  | inl s ↦
      let found = partner s.element s.has in
      record {
        there = found.1.0;
        by = factor s.element found.0;
        which = inl (
          record { one = s; other = record { element = found.0; has = found.1; here = refl }; related = found.2 },
          refl,
        );
      }
]

-- so tables are scaled, whose elements are related, with coefficients that are the same up to the factors
scaled-tables : {A B : Type 0} (p : ℕ) (c : A → A → ℕ) (d : B → B → ℕ) (tails heads : List A) (other_tails other_heads : List B)
    (R : A → B → Type 0) (factor : A → B → ℕ)
    → ((x : A) → Contains tails x → (y : B) × Contains other_tails y × R x y)
    → ((x : A) → Contains heads x → (y : B) × Contains other_heads y × R x y)
    → ((x u : A) (y v : B) → R x y → R u v → Same p (c x u) (factor x y * (factor u v * d y v)))
    → IsScaled p (entry_in (table_of c tails heads)) (entry_in (table_of d other_tails other_heads))
scaled-tables p c d tails heads other_tails other_heads R factor tail_to head_to same =
    let rows = chosen R factor heads other_heads head_to in
    let columns = chosen R factor tails other_tails tail_to in
    let M = entry_in (table_of c tails heads) in
    let N = entry_in (table_of d other_tails other_heads) in
    record {
      row = λ i. (rows i).there;
      column = λ j. (columns j).there;
      row_factor = λ i. (rows i).by;
      column_factor = λ j. (columns j).by;
      same = λ i j. elim (rows i).which [
        | inr past ↦
            same-equal p (M i j) ((rows i).by * ((columns j).by * N (rows i).there (columns j).there))
            (entry-past_heads c tails heads i j past.0
            ∙ first_zero (rows i).by ((columns j).by * N (rows i).there (columns j).there) past.1)
        | inl row ↦ elim (columns j).which [
          | inr past ↦
              same-equal p (M i j) ((rows i).by * ((columns j).by * N (rows i).there (columns j).there))
              (entry-past_tails c tails heads i j past.0
              ∙ second_zero (rows i).by (columns j).by (N (rows i).there (columns j).there) past.1)
          | inl column ↦
              let x = column.0.one.element in
              let u = row.0.one.element in
              let y = column.0.other.element in
              let v = row.0.other.element in
              same-equal p (M i j) (c x u) (entry-at c tails heads i j row.0.one column.0.one)
              ∙ same x u y v column.0.related row.0.related
              ∙ same-equal p (factor x y * (factor u v * d y v))
              ((rows i).by * ((columns j).by * N (rows i).there (columns j).there))
              (exchanged (factor x y) (factor u v) (d y v)
              ∙ ap₂ (λ a b. a * (b * d y v)) (sym row.1) (sym column.1)
              ∙ ap (λ e. (rows i).by * ((columns j).by * e))
              (sym (entry-at d other_tails other_heads (rows i).there (columns j).there row.0.other column.0.other)))
        ]
      ];
    }
  where
    first_zero : (a b : ℕ) → a ≡ 0 → 0 ≡ a * b
    first_zero a b is = grind (arith, nat_tests)

    second_zero : (a b c : ℕ) → b ≡ 0 → 0 ≡ a * (b * c)
    second_zero a b c is = grind (arith, nat_tests)

    exchanged : (a b c : ℕ) → a * (b * c) ≡ b * (a * c)
    exchanged a b c = omega arith

-- more elements have no less factors
pub scaled-fewer : {A : Type 0} (p : ℕ) (c : A → A → ℕ) (few_tails few_heads tails heads : List A)
    → ((x : A) → Contains few_tails x → Contains tails x) → ((x : A) → Contains few_heads x → Contains heads x)
    → IsScaled p (entry_in (table_of c few_tails few_heads)) (entry_in (table_of c tails heads))
scaled-fewer {A} p c few_tails few_heads tails heads in_tails in_heads =
    scaled-tables p c c few_tails few_heads tails heads (λ x y. x ≡ y) (λ x y. 1)
    (λ x has. (x, in_tails x has, refl)) (λ x has. (x, in_heads x has, refl))
    (λ x u y v is_x is_u. same-equal p (c x u) (1 * (1 * c y v)) (ap₂ c is_x is_u ∙ once (c y v)))
  where
    once : (n : ℕ) → n ≡ 1 * (1 * n)
    once n = omega arith

-- tables that are scaled of one another have one rank
rank-scaled : {A B : Type 0} (p : ℕ) (c : A → A → ℕ) (d : B → B → ℕ) (tails heads : List A) (other_tails other_heads : List B)
    → HasInverses p → ((x y : A) → c x y < p) → ((x y : B) → d x y < p)
    → IsScaled p (entry_in (table_of c tails heads)) (entry_in (table_of d other_tails other_heads))
    → IsScaled p (entry_in (table_of d other_tails other_heads)) (entry_in (table_of c tails heads))
    → rank p (table_of d other_tails other_heads) ≡ rank p (table_of c tails heads)
rank-scaled p c d tails heads other_tails other_heads field below other_below there back =
    let M = entry_in (table_of c tails heads) in
    let N = entry_in (table_of d other_tails other_heads) in
    rank-determined p (rank p (table_of d other_tails other_heads)) (rank p (table_of c tails heads)) N
    (rank-table d other_tails other_heads p field other_below)
    (rank-like p (rank p (table_of c tails heads)) M N (λ s. factors-scaled p s N M back) (λ s. factors-scaled p s M N there)
    (rank-table c tails heads p field below))

-- cells that are alike
module _ {A B : Type 0} (p : ℕ) (to : A → B) (sign : A → ℕ) (first : Cells A) (second : Cells B) (alike : AreAlike p to sign first second)
  where
    -- an element of the first list, and its name
    abbrev pub Names : A → B → Type 0
    Names x y = Contains first.list x × (to x ≡ y)

    -- two tests that agree on the cells and their names
    abbrev pub Agree : (A → Bool) → (B → Bool) → Type 0
    Agree test other = (x : A) → Contains first.list x → other (to x) ≡ test x

    pub length-alike : (test : A → Bool) (other : B → Bool) → Agree test other
        → length (filter other second.list) ≡ length (filter test first.list)
    length-alike test other agree =
        length-filter other second.list ∙ alike.listed.sums (λ y. cond (other y) 1 0)
        ∙ sum_by-members (λ x. cond (other (to x)) 1 0) (λ x. cond (test x) 1 0) first.list
        (λ x has. ap (λ (b : Bool). cond b 1 0) (agree x has))
        ∙ sym (length-filter test first.list)

    named : (test : A → Bool) (other : B → Bool) → Agree test other → (x : A) → Contains (filter test first.list) x
        → (y : B) × Contains (filter other second.list) y × Names x y
    named test other agree x has =
        let kept = Contains-kept test first.list x has in (
          to x,
          Contains-filter other second.list (to x) (agree x kept.0 ∙ kept.1) (alike.listed.there x kept.0),
          (kept.0, refl),
        )

    nameless : (test : A → Bool) (other : B → Bool) → Agree test other → (y : B) → Contains (filter other second.list) y
        → (x : A) × Contains (filter test first.list) x × Names x y
    nameless test other agree y has =
        let kept = Contains-kept other second.list y has in
        let found = alike.listed.back y kept.0 in (
          found.0,
          Contains-filter test first.list found.0 (sym (agree found.0 found.1) ∙ ap other found.2 ∙ kept.1) found.1,
          (found.1, found.2),
        )

    coefficient-named : (x u : A) (y v : B) → Names x y → Names u v
        → Same p (first.coefficient x u) (sign x * (sign u * second.coefficient y v))
    coefficient-named x u y v is_y is_v = grind (arith, nat_tests)

    pub coefficient-back : (y v : B) (x u : A) → Names x y → Names u v
        → Same p (second.coefficient y v) (sign x * (sign u * first.coefficient x u))
    coefficient-back y v x u is_y is_v =
        let d = second.coefficient y v in
        sym (same-scaled p (sign x) (sign u * first.coefficient x u) (sign u * (sign x * (sign u * d)))
        (same-scaled p (sign u) (first.coefficient x u) (sign x * (sign u * d)) (coefficient-named x u y v is_y is_v))
        ∙ same-equal p (sign x * (sign u * (sign x * (sign u * d)))) (sign x * sign x * (sign u * sign u * d))
        (squared (sign x) (sign u) d)
        ∙ same-mul p (sign x * sign x) 1 (sign u * sign u * d) (1 * d) (alike.squares x is_y.0)
        (same-mul p (sign u * sign u) 1 d d (alike.squares u is_v.0) refl)
        ∙ same-equal p (1 * (1 * d)) d (once d))
      where
        squared : (a b c : ℕ) → a * (b * (a * (b * c))) ≡ a * a * (b * b * c)
        squared a b c = omega arith

        once : (n : ℕ) → 1 * (1 * n) ≡ n
        once n = omega arith

    pub rank-alike : (field : HasInverses p) → ((x y : A) → first.coefficient x y < p) → ((x y : B) → second.coefficient x y < p)
        → (is_tail is_head : A → Bool) (other_tail other_head : B → Bool) → Agree is_tail other_tail → Agree is_head other_head
        → rank p (table_of second.coefficient (filter other_tail second.list) (filter other_head second.list))
        ≡ rank p (table_of first.coefficient (filter is_tail first.list) (filter is_head first.list))
    rank-alike field below other_below is_tail is_head other_tail other_head tails_agree heads_agree =
        let tails = filter is_tail first.list in
        let heads = filter is_head first.list in
        let other_tails = filter other_tail second.list in
        let other_heads = filter other_head second.list in
        rank-scaled p first.coefficient second.coefficient tails heads other_tails other_heads field below other_below
        (scaled-tables p first.coefficient second.coefficient tails heads other_tails other_heads Names (λ x y. sign x)
        (named is_tail other_tail tails_agree) (named is_head other_head heads_agree) coefficient-named)
        (scaled-tables p second.coefficient first.coefficient other_tails other_heads tails heads (λ y x. Names x y) (λ y x. sign x)
        (nameless is_tail other_tail tails_agree) (nameless is_head other_head heads_agree)
        coefficient-back)

    both-agree : (i j : ℤ) → Agree (has_both first i j) (has_both second i j)
    both-agree i j x has = ap₂ (λ (d q : ℤ). int_eq d i && int_eq q j) (alike.homological x has) (alike.quantum x has)

    pub dimension-alike : HasInverses p → ((x y : A) → first.coefficient x y < p) → ((x y : B) → second.coefficient x y < p)
        → (i j : ℤ) → dimension_at p second i j ≡ dimension_at p first i j
    dimension-alike field below other_below i j =
        let ranks = λ (k : ℤ). rank-alike field below other_below (has_both first k j) (has_both first (k +ℤ pos 1) j)
        (has_both second k j) (has_both second (k +ℤ pos 1) j) (both-agree k j) (both-agree (k +ℤ pos 1) j) in
        ap₂ (λ m n. m - n)
        (ap₂ (λ m n. m - n) (length-alike (has_both first i j) (has_both second i j) (both-agree i j)) (ranks i)) (ranks (i -ℤ pos 1))
