-- Where a line and what is left of it end.
--
-- Let v be w and a combination of reduced columns, where w is 0 in their last rows. If v is 0 from a row on, then so are the factors of
-- the columns that end there or below: from the greatest such row down, all terms but one are 0 at it, and so the last one is. So w is 0
-- there too; and one row before, if no column ends at it, v and w agree.
use Rattle.std.proofs.Common.{◌≡◌, ◌≢◌, ℕ, zero, suc, ◌+◌, ◌-◌, ◌*◌, ◌<◌, ◌≤◌, ◌∙◌, inl, inr, List, [], ◌∷◌, refl, ap, sym, subst, arith, true, false, true≢false}
use Rattle.std.specs.Prelude.{nat_eq}
use Rattle.std.specs.List.{AllByRecursion}
use Rattle.std.proofs.Math.Nat.{mod-eq_of_lt, zero-mod}
use Rattle.std.proofs.lemmas.Bool.{cases_Bool, or_cases, or_left, or_right, eq-eqb}
use Rattle.std.proofs.lemmas.Bool.Decides.{eqb_tells, leb_tells}
use Rattle.kh_types.specs.Rank.{inverse}
use Rattle.kh_types.specs.Residues.{HasInverses, Same}
use Rattle.kh_types.proofs.Residues.{same-add, same-equal, same-inverse, same-mul, same-rest, same-unit_right}
use Rattle.kh_types.proofs.PlainRank.{other-below}
use Rattle.prime_field.specs.Residues.{IsField}
use Rattle.sparse_block.proofs.FieldInverses.{inverses-field}
use Rattle.column_reduction.specs.Reductions.{ReducedColumn, IsLineBelow, AreReducedColumns, EndApart, EndsAt, IsDeadIn, IsLeftOf, IsReducedColumn, IsZeroLine, combination, is_last_row}

-- the factors are 0 modulo p at the last rows from one on
abbrev VanishesFrom : ℕ → ℕ → (ℕ → ℕ) → List ReducedColumn → Type 0
VanishesFrom p from factor reduced = (row : ℕ) → from ≤ row → is_last_row row reduced ≡ true → Same p (factor row) 0

vanishes-later : (p from : ℕ) (factor : ℕ → ℕ) (line : ReducedColumn) (lines : List ReducedColumn)
    → VanishesFrom p from factor (line ∷ lines) → VanishesFrom p from factor lines
vanishes-later p from factor line lines vanishes row later last =
    vanishes row later (or_right (nat_eq row line.row) (is_last_row row lines) last)

vanishes-first : (p from : ℕ) (factor : ℕ → ℕ) (line : ReducedColumn) (lines : List ReducedColumn)
    → VanishesFrom p from factor (line ∷ lines) → from ≤ line.row → Same p (factor line.row) 0
vanishes-first p from factor line lines vanishes later =
    vanishes line.row later (or_left (nat_eq line.row line.row) (is_last_row line.row lines) (eq-eqb line.row line.row refl))

-- one row before, where no column ends there
vanishes-before : (p from : ℕ) (factor : ℕ → ℕ) (reduced : List ReducedColumn) → VanishesFrom p (suc from) factor reduced
    → is_last_row from reduced ≡ false → VanishesFrom p from factor reduced
vanishes-before p from factor reduced vanishes none row later last =
    elim (eqb_tells row from) [
      | inl same ↦ absurd (true≢false (sym last ∙ (ap (λ (k : ℕ). is_last_row k reduced) same.1 ∙ none)))
      | inr other ↦ vanishes row (omega (arith, later, other.1)) last
    ]

-- a term whose factor is 0, or whose column has ended, is 0
term-zero : (p n : ℕ) (factor : ℕ → ℕ) (line : ReducedColumn) → IsReducedColumn p line
    → (n ≤ line.row → Same p (factor line.row) 0) → Same p (factor line.row * line.values n) 0
term-zero p n factor line is vanishes =
    let f = factor line.row in
    let x = line.values n in
    elim (leb_tells n line.row) [
      | inl from ↦ same-mul p f 0 x x (vanishes from.1) refl ∙ same-equal p (0 * x) 0 (omega arith)
      | inr ended ↦
          let none : x ≡ 0 = is.ends.zeros n ended.1 in
          same-equal p (f * x) 0 (ap (λ (y : ℕ). f * y) none ∙ omega arith)
    ]

-- so a combination is 0 from there on
combination-zero : (p n : ℕ) (factor : ℕ → ℕ) (reduced : List ReducedColumn) → AllByRecursion (IsReducedColumn p) reduced
    → VanishesFrom p n factor reduced → Same p (combination factor reduced n) 0
combination-zero p n factor [] columns vanishes = refl
combination-zero p n factor (line ∷ lines) columns vanishes =
    same-add p (factor line.row * line.values n) 0 (combination factor lines n) 0
    (term-zero p n factor line columns.0 (vanishes-first p n factor line lines vanishes))
    (combination-zero p n factor lines columns.1 (vanishes-later p n factor line lines vanishes))

-- a factor of a number other than 0 that makes 0 is 0
factor-zero : (p f x : ℕ) → HasInverses p → x < p → x ≢ 0 → Same p (f * x) 0 → Same p f 0
factor-zero p f x field below other none =
    let back = inverse p x in
    sym (same-unit_right p x back f (same-inverse p x field (other-below p x below other)))
    ∙ same-equal p (f * (back * x)) (f * x * back) (omega arith)
    ∙ same-mul p (f * x) 0 back back none refl ∙ same-equal p (0 * back) 0 (omega arith)

-- where a combination is 0 at the last row of a column, and the factors vanish after it, the column's factor is 0
last-factor : (p n : ℕ) (factor : ℕ → ℕ) (reduced : List ReducedColumn) → HasInverses p
    → AllByRecursion (IsReducedColumn p) reduced → EndApart reduced → VanishesFrom p (suc n) factor reduced
    → is_last_row n reduced ≡ true → Same p (combination factor reduced n) 0 → Same p (factor n) 0
last-factor p n factor [] field columns apart vanishes last none = absurd (true≢false (sym last))
last-factor p n factor (line ∷ lines) field columns apart vanishes last none =
    let term = factor line.row * line.values n in
    let rest = combination factor lines n in
    let later = vanishes-later p (suc n) factor line lines vanishes in
    elim (eqb_tells n line.row) [
      | inl same ↦
          let rest_zero : Same p rest 0 =
          combination-zero p n factor lines columns.1
          (vanishes-before p n factor lines later (ap (λ (k : ℕ). is_last_row k lines) same.1 ∙ apart.0)) in
          let term_zero : Same p term 0 =
          same-rest p rest term 0 rest_zero (same-equal p (rest + term) (term + rest) (omega arith) ∙ none) in
          let here : Same p (factor line.row * line.values line.row) 0 =
          subst (λ (k : ℕ). Same p (factor line.row * line.values k) 0) same.1 term_zero in
          subst (λ (k : ℕ). Same p (factor k) 0) (sym same.1)
          (factor-zero p (factor line.row) (line.values line.row) field (columns.0.below line.row) columns.0.ends.other here)
      | inr other ↦
          let term_zero : Same p term 0 =
          term-zero p n factor line columns.0
          (λ from. vanishes-first p (suc n) factor line lines vanishes (omega (arith, from, other.1))) in
          elim (or_cases (nat_eq n line.row) (is_last_row n lines) last) [
            | inl here ↦ absurd (true≢false (sym here ∙ other.0))
            | inr there ↦
                last-factor p n factor lines field columns.1 apart.1 later there (same-rest p term rest 0 term_zero none)
          ]
    ]

-- a row after all last rows
rows_end : List ReducedColumn → ℕ
rows_end [] = 0
rows_end (line ∷ lines) = suc line.row + rows_end lines

rows-end : (row : ℕ) (reduced : List ReducedColumn) → is_last_row row reduced ≡ true → row < rows_end reduced
unfolding rows_end
rows-end row [] last = absurd (true≢false (sym last))
rows-end row (line ∷ lines) last =
    elim (eqb_tells row line.row) [
      | inl same ↦ omega (arith, same.1)
      | inr other ↦
          elim (or_cases (nat_eq row line.row) (is_last_row row lines) last) [
            | inl here ↦ absurd (true≢false (sym here ∙ other.0))
            | inr there ↦ omega (arith, rows-end row lines there)
          ]
    ]

-- the line v is w and a combination, and w is 0 at the last rows
module _ (p : ℕ) (factor v w : ℕ → ℕ) (reduced : List ReducedColumn) (field : HasInverses p)
    (columns : AllByRecursion (IsReducedColumn p) reduced) (apart : EndApart reduced)
    (sum : (row : ℕ) → Same p (v row) (w row + combination factor reduced row))
    (dead : (row : ℕ) → is_last_row row reduced ≡ true → Same p (w row) 0) where
  -- from the row on where v is 0 the factors vanish
  vanish-within : (rest from n : ℕ) → ((row : ℕ) → from ≤ row → Same p (v row) 0) → from ≤ n → rest + n ≡ rows_end reduced
      → VanishesFrom p n factor reduced
  vanish-within zero from n zeros later total =
      λ row after last. absurd (omega (arith, rows-end row reduced last, total, after))
  vanish-within (suc rest) from n zeros later total =
      let next : VanishesFrom p (suc n) factor reduced =
      vanish-within rest from (suc n) zeros (omega (arith, later)) (omega (arith, total)) in
      elim (cases_Bool (is_last_row n reduced)) [
        | inr none ↦ vanishes-before p n factor reduced next none
        | inl last ↦
            let none : Same p (combination factor reduced n) 0 =
            same-rest p (w n) (combination factor reduced n) 0 (dead n last) (sym (sum n) ∙ zeros n later) in
            let here : Same p (factor n) 0 = last-factor p n factor reduced field columns apart next last none in
            λ row after is_last.
            elim (eqb_tells row n) [
              | inl same ↦ subst (λ (k : ℕ). Same p (factor k) 0) (sym same.1) here
              | inr other ↦ next row (omega (arith, after, other.1)) is_last
            ]
      ]

  vanish : (from : ℕ) → ((row : ℕ) → from ≤ row → Same p (v row) 0) → VanishesFrom p from factor reduced
  vanish from zeros row after last =
      elim (leb_tells (rows_end reduced) from) [
        | inl past ↦ absurd (omega (arith, rows-end row reduced last, past.1, after))
        | inr within ↦
            vanish-within (rows_end reduced - from) from from zeros (omega arith) (omega (arith, within.1)) row after last
      ]

  agree : (n : ℕ) → VanishesFrom p n factor reduced → Same p (v n) (w n)
  agree n vanishes =
      sum n ∙ same-add p (w n) (w n) (combination factor reduced n) 0 refl (combination-zero p n factor reduced columns vanishes)
      ∙ same-equal p (w n + 0) (w n) (omega arith)

  -- there w is 0 too
  pub left-zero : (from : ℕ) → ((row : ℕ) → from ≤ row → Same p (v row) 0) → (row : ℕ) → from ≤ row → Same p (w row) 0
  left-zero from zeros row after =
      let vanishes = vanish from zeros in
      sym (agree row (λ at later last. vanishes at (omega (arith, later, after)) last)) ∙ zeros row after

  -- and one row before they agree, where no column ends at it
  pub left-last : (last : ℕ) → ((row : ℕ) → last < row → Same p (v row) 0) → is_last_row last reduced ≡ false
      → Same p (v last) (w last)
  left-last last zeros none = agree last (vanishes-before p last factor reduced (vanish (suc last) zeros) none)

-- lines of numbers below p: one that is left of a line that ends at a row ends there too, with the same number
zero-below : (p x : ℕ) → x < p → Same p x 0 → x ≡ 0
zero-below p x below same = sym (mod-eq_of_lt below) ∙ same ∙ zero-mod p

module _ (p : ℕ) (reduced : List ReducedColumn) (line left : ℕ → ℕ) (field : IsField p)
    (columns : AreReducedColumns p reduced) (is_left : IsLeftOf p reduced line left) (left_below : IsLineBelow p left)
    (dead : IsDeadIn reduced left) where
  none_dead : (row : ℕ) → is_last_row row reduced ≡ true → Same p (left row) 0
  none_dead row last = same-equal p (left row) 0 (dead row last)

  zeros-from : (from : ℕ) → ((row : ℕ) → from ≤ row → line row ≡ 0) → (row : ℕ) → from ≤ row → left row ≡ 0
  zeros-from from zeros row after =
      zero-below p (left row) (left_below row)
      (left-zero p is_left.factor line left reduced (inverses-field p field) columns.each columns.apart is_left.sum none_dead
      from (λ k later. same-equal p (line k) 0 (zeros k later)) row after)

  pub zero-left : IsZeroLine line → IsZeroLine left
  zero-left zeros row = zeros-from 0 (λ k later. zeros k) row (omega arith)

  pub value-left : (row : ℕ) → IsLineBelow p line → EndsAt row line → is_last_row row reduced ≡ false → left row ≡ line row
  value-left row below ends free =
      sym (mod-eq_of_lt (left_below row))
      ∙ sym (left-last p is_left.factor line left reduced (inverses-field p field) columns.each columns.apart is_left.sum
      none_dead row (λ k later. same-equal p (line k) 0 (ends.zeros k later)) free)
      ∙ mod-eq_of_lt (below row)

  pub ends-left : (row : ℕ) → IsLineBelow p line → EndsAt row line → is_last_row row reduced ≡ false → EndsAt row left
  ends-left row below ends free =
      record {
        other = λ none. ends.other (sym (value-left row below ends free) ∙ none);
        zeros = λ greater later.
            zeros-from (suc row) (λ k after. ends.zeros k (omega (arith, after))) greater (omega (arith, later));
      }
