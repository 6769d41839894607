-- The entries of tables, and factors of them by those of others.
--
-- Tables are matrices over lists of things, with 0 outside. If each entry of a table is a sum of products of entries of two others, the
-- first has at most the rank of either; and if two tables are such of one another, they have one rank. This is how matrices of other orders
-- and signs, and matrices with pivots taken out, are compared.
use Rattle.std.proofs.lemmas.Bool.Decides.{nat_tests}
use Rattle.std.proofs.Common.{◌≡◌, ℕ, ◌⊎◌, inl, inr, ◌*◌, ◌<◌, ◌≤◌, ◌∙◌, List, [], ◌∷◌, length, map, get_or, refl, sym, ap, arith}
use Rattle.std.specs.List.{Contains, sum_by}
use Rattle.std.proofs.lemmas.Bool.{cases_lt}
use Rattle.std.proofs.lemmas.List.{get_or_default, get_or_past, get_or-map, length-map}
use Rattle.std.proofs.lemmas.List.Sums.{sum_by-cons}
use Rattle.kh_types.specs.Complex.{entry_in}
use Rattle.kh_types.specs.MatrixRanks.{IsMatrix, HasRank}
use Rattle.kh_types.specs.Products.{Factors, product_at, sum_below}
use Rattle.kh_types.specs.Rank.{rank}
use Rattle.kh_types.specs.Residues.{HasInverses, Same}
use Rattle.kh_types.proofs.FactorLemmas.{factors-same, factors-transposed}
use Rattle.kh_types.proofs.PlainRank.{rank-least}
use Rattle.kh_types.proofs.Residues.{same-equal, same-scaled}
use Rattle.kh_types.proofs.Sums.{sum_below-equal, sum_below-exchanged, sum_below-same, sum_below-scaled}
use Rattle.cell_laws.specs.Cells.{table_of}

-- what a function makes of an element, read at its place
pub read : {A B : Type 0} (f : A → B) (xs : List A) (x : A) (d : B) (has : Contains xs x) → get_or (map f xs) has.0 d ≡ f x
read f xs x d has = get_or-map f xs has.0 x d has.1 ∙ ap f has.2

-- nothing is read past the end
pub read-past : {A B : Type 0} (f : A → B) (xs : List A) (k : ℕ) (d : B) → length xs ≤ k → get_or (map f xs) k d ≡ d
read-past f xs k d past = get_or_past (map f xs) k d (omega (arith, past, length-map xs f))

-- at each place an element stands, or it is past the end
pub record StandsAt {A : Type 0} (xs : List A) (k : ℕ) : Type 0 where
  pub element : A
  pub has : Contains xs element
  pub here : has.0 ≡ k

pub stands_or_past : {A : Type 0} (xs : List A) (k : ℕ) → StandsAt xs k ⊎ (length xs ≤ k)
stands_or_past [] k = inr (omega arith)
stands_or_past (x ∷ xs) k = elim (cases_lt k (length (x ∷ xs))) [
  | inl within ↦ inl (
      record {
        element = get_or (x ∷ xs) k x;
        has = (k, within, get_or_default (x ∷ xs) k (get_or (x ∷ xs) k x) x within);
        here = refl;
      }
      )
  | inr past ↦ inr (omega (arith, past))
]

-- the entries of a table
module _ {A : Type 0} (c : A → A → ℕ) (tails heads : List A) where
  pub entry-stands : (tail head : A) (column : Contains tails tail) (row : Contains heads head)
      → entry_in (table_of c tails heads) row.0 column.0 ≡ c tail head
  entry-stands tail head column row =
      grind (arith, nat_tests, read (λ u. map (λ v. c v u) tails) heads head, read (λ v. c v head) tails tail 0 column)

  pub entry-past_heads : (i j : ℕ) → length heads ≤ i → entry_in (table_of c tails heads) i j ≡ 0
  entry-past_heads i j past = ap (λ (xs : List ℕ). get_or xs j 0) (read-past (λ u. map (λ v. c v u) tails) heads i [] past)

  pub entry-past_tails : (i j : ℕ) → length tails ≤ j → entry_in (table_of c tails heads) i j ≡ 0
  entry-past_tails i j past = elim (stands_or_past heads i) [
    | inr beyond ↦ entry-past_heads i j beyond
    | inl s ↦
        ap (λ (k : ℕ). entry_in (table_of c tails heads) k j) (sym s.here)
        ∙ ap (λ (xs : List ℕ). get_or xs j 0) (read (λ u. map (λ v. c v u) tails) heads s.element [] s.has)
        ∙ read-past (λ v. c v s.element) tails j 0 past
  ]

  -- an entry, by the elements that stand at its row and its column
  pub entry-at : (i j : ℕ) (row : StandsAt heads i) (column : StandsAt tails j)
      → entry_in (table_of c tails heads) i j ≡ c column.element row.element
  entry-at i j row column = grind (arith, nat_tests, entry-stands)

  -- what holds of all entries holds of 0 and of the coefficients
  pub entries-each : (P : ℕ → Type 0) → P 0 → ((tail head : A) → Contains tails tail → Contains heads head → P (c tail head))
      → (i j : ℕ) → P (entry_in (table_of c tails heads) i j)
  entries-each P none each i j = elim (stands_or_past heads i) [
    | inr past ↦ rw (entry-past_heads i j past) none
    | inl row ↦ elim (stands_or_past tails j) [
      | inr past ↦ rw (entry-past_tails i j past) none
      | inl column ↦ rw (entry-at i j row column) (each column.element row.element column.has row.has)
    ]
  ]

  pub IsMatrix-table : (p : ℕ) → 0 < p → ((x y : A) → c x y < p) → IsMatrix p (length tails) (table_of c tails heads)
  IsMatrix-table p positive below =
      record {
        width = λ row within. elim (stands_or_past heads row) [
          | inr past ↦ absurd (omega (arith, within, past, length-map heads (λ u. map (λ v. c v u) tails)))
          | inl s ↦
              ap (λ (k : ℕ). length (get_or (table_of c tails heads) k [])) (sym s.here)
              ∙ ap length (read (λ u. map (λ v. c v u) tails) heads s.element [] s.has)
              ∙ length-map tails (λ v. c v s.element)
        ];
        below = entries-each (λ x. x < p) positive (λ tail head in_tails in_heads. below tail head);
      }

  pub rank-table : (p : ℕ) → HasInverses p → ((x y : A) → c x y < p)
      → HasRank p (entry_in (table_of c tails heads)) (rank p (table_of c tails heads))
  rank-table p field below =
      rank-least p (length tails) (table_of c tails heads) field (IsMatrix-table p (omega (arith, field.above_one)) below)

-- heads for tails
pub entry-turned : {A : Type 0} (c : A → A → ℕ) (tails heads : List A) (i j : ℕ)
    → entry_in (table_of (λ x y. c y x) heads tails) j i ≡ entry_in (table_of c tails heads) i j
entry-turned c tails heads i j = elim (stands_or_past heads i) [
  | inr past ↦
      entry-past_tails (λ x y. c y x) heads tails j i past ∙ sym (entry-past_heads c tails heads i j past)
  | inl row ↦ elim (stands_or_past tails j) [
    | inr past ↦ entry-past_heads (λ x y. c y x) heads tails j i past ∙ sym (entry-past_tails c tails heads i j past)
    | inl column ↦ entry-at (λ x y. c y x) heads tails j i column row ∙ sym (entry-at c tails heads i j row column)
  ]
]

pub factors-turned : {A : Type 0} (p s : ℕ) (c : A → A → ℕ) (tails heads : List A)
    → Factors p (entry_in (table_of c tails heads)) s → Factors p (entry_in (table_of (λ x y. c y x) heads tails)) s
factors-turned p s c tails heads f =
    factors-same p s (λ i j. entry_in (table_of c tails heads) j i) (entry_in (table_of (λ x y. c y x) heads tails))
    (λ i j. same-equal p (entry_in (table_of c tails heads) j i) (entry_in (table_of (λ x y. c y x) heads tails) i j)
    (sym (entry-turned c tails heads j i)))
    (factors-transposed p s (entry_in (table_of c tails heads)) f)

-- each row by the right factors of another matrix
pub factors-rows : (p s : ℕ) (M N : ℕ → ℕ → ℕ) (f : Factors p N s)
    → ((i : ℕ) → (row : ℕ → ℕ) × ((j : ℕ) → Same p (sum_below s (λ k. row k * f.right k j)) (M i j))) → Factors p M s
factors-rows p s M N f each =
    record { left = λ i k. (each i).0 k; right = f.right; product = λ i j. (each i).1 j }

-- a combination of rows of a product
pub combined-row : (p s m j : ℕ) (N : ℕ → ℕ → ℕ) (f : Factors p N s) (factor : ℕ → ℕ)
    → Same p (sum_below s (λ k. sum_below m (λ l. factor l * f.left l k) * f.right k j)) (sum_below m (λ l. factor l * N l j))
combined-row p s m j N f factor =
    same-equal p (sum_below s (λ k. sum_below m (λ l. factor l * f.left l k) * f.right k j))
    (sum_below m (λ l. factor l * product_at s f.left f.right l j))
    (sum_below-equal s (λ k. sum_below m (λ l. factor l * f.left l k) * f.right k j)
    (λ k. sum_below m (λ l. factor l * (f.left l k * f.right k j)))
    (λ k. commuted (sum_below m (λ l. factor l * f.left l k)) (f.right k j)
    ∙ sym (sum_below-scaled m (f.right k j) (λ l. factor l * f.left l k))
    ∙ sum_below-equal m (λ l. f.right k j * (factor l * f.left l k)) (λ l. factor l * (f.left l k * f.right k j))
    (λ l. regrouped (f.right k j) (factor l) (f.left l k)))
    ∙ sum_below-exchanged s m (λ k l. factor l * (f.left l k * f.right k j))
    ∙ sum_below-equal m (λ l. sum_below s (λ k. factor l * (f.left l k * f.right k j)))
    (λ l. factor l * product_at s f.left f.right l j)
    (λ l. sum_below-scaled s (factor l) (λ k. f.left l k * f.right k j)))
    ∙ sum_below-same p m (λ l. factor l * product_at s f.left f.right l j) (λ l. factor l * N l j)
    (λ l. same-scaled p (factor l) (product_at s f.left f.right l j) (N l j) (f.product l j))
  where
    commuted : (a b : ℕ) → a * b ≡ b * a
    commuted a b = omega arith

    regrouped : (a b c : ℕ) → a * (b * c) ≡ b * (c * a)
    regrouped a b c = omega arith

-- a sum over the places of a list
pub sum_below-list : {A : Type 0} (f g : A → ℕ) (xs : List A)
    → sum_below (length xs) (λ k. get_or (map f xs) k 0 * get_or (map g xs) k 0) ≡ sum_by (λ x. f x * g x) xs
sum_below-list f g [] = refl
sum_below-list f g (x ∷ xs) = grind (arith, nat_tests, sum_below-list f g xs, sum_by-cons (λ y. f y * g y) x xs)

-- a head among others, or one whose coefficients are a combination of theirs
abbrev pub IsCombined : {A : Type 0} → ℕ → (A → A → ℕ) → List A → List A → A → Type 0
IsCombined {A} p c tails heads head =
    (factor : A → ℕ) × ((tail : A) → Contains tails tail → Same p (sum_by (λ y. factor y * c tail y) heads) (c tail head))

-- so more heads, which are combinations of those, need no more factors
pub factors-more_heads : {A : Type 0} (p s : ℕ) (c : A → A → ℕ) (tails few many : List A)
    → ((head : A) → Contains many head → Contains few head ⊎ IsCombined p c tails few head)
    → Factors p (entry_in (table_of c tails few)) s → Factors p (entry_in (table_of c tails many)) s
factors-more_heads {A} p s c tails few many each f =
    let M = entry_in (table_of c tails many) in
    let N = entry_in (table_of c tails few) in
    factors-rows p s M N f
    (λ i. elim (stands_or_past many i) [
      | inr past ↦ (
        λ k. 0,
        λ j. same-equal p (sum_below s (λ k. 0 * f.right k j)) (M i j)
            (sum_below-scaled s 0 (λ k. f.right k j) ∙ nothing (sum_below s (λ k. f.right k j))
            ∙ sym (entry-past_heads c tails many i j past)),
      )
      | inl row ↦ elim (each row.element row.has) [
        | inl kept ↦ (
          f.left kept.0,
          λ j. f.product kept.0 j ∙ same-equal p (N kept.0 j) (M i j) (kept_entry i j row kept),
        )
        | inr combined ↦ (
          λ k. sum_below (length few) (λ l. get_or (map combined.0 few) l 0 * f.left l k),
          λ j. combined-row p s (length few) j N f (λ l. get_or (map combined.0 few) l 0)
              ∙ combined_entry i j row combined,
        )
      ]
    ])
  where
    nothing : (x : ℕ) → 0 * x ≡ 0
    nothing x = omega arith

    kept_entry : (i j : ℕ) (row : StandsAt many i) (kept : Contains few row.element)
        → entry_in (table_of c tails few) kept.0 j ≡ entry_in (table_of c tails many) i j
    kept_entry i j row kept = elim (stands_or_past tails j) [
      | inr past ↦ entry-past_tails c tails few kept.0 j past ∙ sym (entry-past_tails c tails many i j past)
      | inl column ↦
          entry-at c tails few kept.0 j (record { element = row.element; has = kept; here = refl }) column
          ∙ sym (entry-at c tails many i j row column)
    ]

    combined_entry : (i j : ℕ) (row : StandsAt many i) (combined : IsCombined p c tails few row.element)
        → Same p (sum_below (length few) (λ l. get_or (map combined.0 few) l 0 * entry_in (table_of c tails few) l j))
        (entry_in (table_of c tails many) i j)
    combined_entry i j row combined = elim (stands_or_past tails j) [
      | inr past ↦
          same-equal p (sum_below (length few) (λ l. get_or (map combined.0 few) l 0 * entry_in (table_of c tails few) l j))
          (entry_in (table_of c tails many) i j)
          (sum_below-equal (length few) (λ l. get_or (map combined.0 few) l 0 * entry_in (table_of c tails few) l j)
          (λ l. 0 * get_or (map combined.0 few) l 0)
          (λ l. ap (λ e. get_or (map combined.0 few) l 0 * e) (entry-past_tails c tails few l j past)
          ∙ swapped (get_or (map combined.0 few) l 0))
          ∙ sum_below-scaled (length few) 0 (λ l. get_or (map combined.0 few) l 0)
          ∙ nothing (sum_below (length few) (λ l. get_or (map combined.0 few) l 0))
          ∙ sym (entry-past_tails c tails many i j past))
      | inl column ↦
          same-equal p (sum_below (length few) (λ l. get_or (map combined.0 few) l 0 * entry_in (table_of c tails few) l j))
          (sum_by (λ y. combined.0 y * c column.element y) few)
          (sum_below-equal (length few) (λ l. get_or (map combined.0 few) l 0 * entry_in (table_of c tails few) l j)
          (λ l. get_or (map combined.0 few) l 0 * get_or (map (c column.element) few) l 0)
          (λ l. ap (λ e. get_or (map combined.0 few) l 0 * e) (column_entry l j column))
          ∙ sum_below-list combined.0 (c column.element) few)
          ∙ combined.1 column.element column.has
          ∙ same-equal p (c column.element row.element) (entry_in (table_of c tails many) i j)
          (sym (entry-at c tails many i j row column))
    ]
      where
        swapped : (x : ℕ) → x * 0 ≡ 0 * x
        swapped x = omega arith

        column_entry : (l j : ℕ) (column : StandsAt tails j)
            → entry_in (table_of c tails few) l j ≡ get_or (map (c column.element) few) l 0
        column_entry l j column = elim (stands_or_past few l) [
          | inr past ↦ entry-past_heads c tails few l j past ∙ sym (read-past (c column.element) few l 0 past)
          | inl s ↦
              entry-at c tails few l j s column
              ∙ sym (ap (λ (k : ℕ). get_or (map (c column.element) few) k 0) (sym s.here)
              ∙ read (c column.element) few s.element 0 s.has)
        ]

-- the same for tails
pub factors-more_tails : {A : Type 0} (p s : ℕ) (c : A → A → ℕ) (few many heads : List A)
    → ((tail : A) → Contains many tail → Contains few tail ⊎ IsCombined p (λ x y. c y x) heads few tail)
    → Factors p (entry_in (table_of c few heads)) s → Factors p (entry_in (table_of c many heads)) s
factors-more_tails p s c few many heads each f = grind (arith, nat_tests, factors-turned, factors-more_heads)
