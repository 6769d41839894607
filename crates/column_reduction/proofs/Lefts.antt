-- What is left of a line, and what is left of that.
use Rattle.std.proofs.Common.{◌≡◌, ◌≢◌, ℕ, zero, suc, ◌+◌, ◌-◌, ◌*◌, ◌%◌, ◌<◌, ◌∙◌, List, [], ◌∷◌, length, get_or, refl, ap, sym, arith, true, true≢false}
use Rattle.std.specs.Prelude.{nat_eq, if◌then◌else◌}
use Rattle.std.proofs.lemmas.Bool.{cond-true, cond-false, eq-eqb, ne_eqb, or_left, or_right}
use Rattle.kh_types.specs.Rank.{minus_mod}
use Rattle.kh_types.specs.Residues.{Same}
use Rattle.kh_types.proofs.Residues.{same-add, same-equal, same-multiple}
use Rattle.kh_types.proofs.Reduced.{minus_mod-added}
use Rattle.column_reduction.specs.Reductions.{ReducedColumn, EndApart, IsLeftOf, combination, is_last_row}
use Rattle.column_reduction.proofs.Combinations.{combination-agree, combination-scaled, combination-sum, combination-zeros}

-- a line is left of itself
pub left-whole : (p : ℕ) (reduced : List ReducedColumn) (whole : ℕ → ℕ) → IsLeftOf p reduced whole whole
left-whole p reduced whole =
    record {
      factor = λ at. 0;
      sum = λ row. same-equal p (whole row) (whole row + combination (λ at. 0) reduced row) (omega (arith, combination-zeros reduced row));
    }

-- a number and its negative
whole-multiple : (p c : ℕ) → 0 < p → c + (p - 1) * c ≡ p * c
whole-multiple zero c positive = absurd (omega arith)
whole-multiple (suc q) c positive = let e : suc q - 1 ≡ q = omega arith in rw e (omega arith)

-- where two lines are left of one, the second is left of the first
pub left-between : (p : ℕ) (reduced : List ReducedColumn) (whole first second : ℕ → ℕ) → 0 < p
    → IsLeftOf p reduced whole first → IsLeftOf p reduced whole second → IsLeftOf p reduced first second
left-between p reduced whole first second positive one two =
    record {
      factor = λ at. two.factor at + (p - 1) * one.factor at;
      sum = λ row.
          let c = combination one.factor reduced row in
          let d = combination two.factor reduced row in
          let both : combination (λ at. two.factor at + (p - 1) * one.factor at) reduced row ≡ d + (p - 1) * c =
          combination-sum two.factor (λ at. (p - 1) * one.factor at) reduced row
          ∙ ap (λ (n : ℕ). d + n) (combination-scaled (p - 1) one.factor reduced row) in
          let back : first row + p * c ≡ first row + c + (p - 1) * c = omega (arith, whole-multiple p c positive) in
          let forth : second row + d + (p - 1) * c ≡ second row + combination (λ at. two.factor at + (p - 1) * one.factor at) reduced row =
          omega (arith, both) in
          sym (same-multiple p (first row) c) ∙ same-equal p (first row + p * c) (first row + c + (p - 1) * c) back
          ∙ same-add p (first row + c) (second row + d) ((p - 1) * c) ((p - 1) * c) (sym (one.sum row) ∙ two.sum row) refl
          ∙ same-equal p (second row + d + (p - 1) * c) _ forth;
    }

-- the factors of one column alone
abbrev alone : ℕ → ℕ → ℕ → ℕ
alone factor last at = if nat_eq at last then factor else 0

last-at : (at : ℕ) (lines : List ReducedColumn) (none : ReducedColumn) → at < length lines
    → is_last_row (get_or lines at none).row lines ≡ true
last-at at [] none within = absurd (omega arith)
last-at zero (line ∷ lines) none within =
    or_left (nat_eq line.row line.row) (is_last_row line.row lines) (eq-eqb line.row line.row refl)
last-at (suc at) (line ∷ lines) none within =
    let row = (get_or lines at none).row in
    or_right (nat_eq row line.row) (is_last_row row lines) (last-at at lines none (omega (arith, within)))

combination-alone : (factor at row : ℕ) (lines : List ReducedColumn) (none : ReducedColumn) → EndApart lines → at < length lines
    → combination (alone factor (get_or lines at none).row) lines row ≡ factor * (get_or lines at none).values row
combination-alone factor at row [] none apart within = absurd (omega arith)
combination-alone factor zero row (line ∷ lines) none apart within =
    let x = line.values row in
    let here : alone factor line.row line.row ≡ factor =
    cond-true (nat_eq line.row line.row) factor 0 (eq-eqb line.row line.row refl) in
    let rest : combination (alone factor line.row) lines row ≡ 0 =
    combination-agree (alone factor line.row) (λ k. 0) lines row
    (λ k last.
    cond-false (nat_eq k line.row) factor 0
    (ne_eqb k line.row (λ same. true≢false (sym last ∙ (ap (λ (n : ℕ). is_last_row n lines) same ∙ apart.0)))))
    ∙ combination-zeros lines row in
    let term : alone factor line.row line.row * x ≡ factor * x = ap (λ (n : ℕ). n * x) here in
    omega (arith, term, rest)
combination-alone factor (suc at) row (line ∷ lines) none apart within =
    let one = get_or lines at none in
    let x = line.values row in
    let other : line.row ≢ one.row =
    λ same. true≢false (sym (last-at at lines none (omega (arith, within)))
    ∙ (ap (λ (n : ℕ). is_last_row n lines) (sym same) ∙ apart.0)) in
    let here : alone factor one.row line.row ≡ 0 = cond-false (nat_eq line.row one.row) factor 0 (ne_eqb line.row one.row other) in
    let term : alone factor one.row line.row * x ≡ 0 * x = ap (λ (n : ℕ). n * x) here in
    let rest = combination-alone factor at row lines none apart.1 (omega (arith, within)) in
    omega (arith, term, rest)

-- a multiple of a reduced column may be taken away
pub left-less : (p : ℕ) (reduced : List ReducedColumn) (whole left less : ℕ → ℕ) (at factor : ℕ) (none : ReducedColumn) → 0 < p
    → EndApart reduced → at < length reduced → IsLeftOf p reduced whole left
    → ((row : ℕ) → less row ≡ minus_mod p (left row) (factor * (get_or reduced at none).values row))
    → IsLeftOf p reduced whole less
left-less p reduced whole left less at factor none positive apart within is_left taken =
    let last = (get_or reduced at none).row in
    record {
      factor = λ k. is_left.factor k + alone factor last k;
      sum = λ row.
          let way = factor * (get_or reduced at none).values row in
          let c = combination is_left.factor reduced row in
          let both : combination (λ k. is_left.factor k + alone factor last k) reduced row ≡ c + way =
          combination-sum is_left.factor (alone factor last) reduced row
          ∙ ap (λ (n : ℕ). c + n) (combination-alone factor at row reduced none apart within) in
          let added : Same p (way + less row) (left row) =
          ap (λ (n : ℕ). (way + n) % p) (taken row) ∙ minus_mod-added p (left row) way positive in
          let turned : way + less row + c ≡ less row + combination (λ k. is_left.factor k + alone factor last k) reduced row =
          omega (arith, both) in
          is_left.sum row ∙ sym (same-add p (way + less row) (left row) c c added refl)
          ∙ same-equal p (way + less row + c) _ turned;
    }
