-- Combinations of reduced columns: sums and multiples of them, and one column more.
use Rattle.std.proofs.Common.{◌≡◌, ℕ, ◌+◌, ◌*◌, ◌∙◌, ◌⊎◌, inl, inr, List, [], ◌∷◌, ◌++◌, refl, ap, ap₂, sym, arith, Bool, true, false, true≢false, ◌||◌}
use Rattle.std.specs.Prelude.{nat_eq, if◌then◌else◌}
use Rattle.std.proofs.lemmas.Bool.{or_cases, or_from, or_left, or_parts, or_right, cond-true, cond-false, eq-eqb, ne_eqb}
use Rattle.std.proofs.lemmas.Bool.Decides.{eqb_tells}
use Rattle.column_reduction.specs.Reductions.{ReducedColumn, EndApart, combination, is_last_row, with_column}

-- of a sum and of a multiple of factors
pub combination-sum : (f g : ℕ → ℕ) (reduced : List ReducedColumn) (row : ℕ)
    → combination (λ at. f at + g at) reduced row ≡ combination f reduced row + combination g reduced row
combination-sum f g [] row = refl
combination-sum f g (line ∷ lines) row =
    let rest = combination-sum f g lines row in
    let x = line.values row in
    let spread : (f line.row + g line.row) * x ≡ f line.row * x + g line.row * x = omega arith in
    omega (arith, rest, spread)

pub combination-scaled : (c : ℕ) (f : ℕ → ℕ) (reduced : List ReducedColumn) (row : ℕ)
    → combination (λ at. c * f at) reduced row ≡ c * combination f reduced row
combination-scaled c f [] row = omega arith
combination-scaled c f (line ∷ lines) row =
    let rest = combination-scaled c f lines row in
    let x = line.values row in
    let moved : c * f line.row * x ≡ c * (f line.row * x) = omega arith in
    let spread : c * (f line.row * x + combination f lines row) ≡ c * (f line.row * x) + c * combination f lines row = omega arith in
    omega (arith, rest, moved, spread)

-- with factors 0
pub combination-zeros : (reduced : List ReducedColumn) (row : ℕ) → combination (λ at. 0) reduced row ≡ 0
combination-zeros [] row = refl
combination-zeros (line ∷ lines) row = omega (arith, combination-zeros lines row)

-- with factors that agree at the last rows
pub combination-agree : (f g : ℕ → ℕ) (reduced : List ReducedColumn) (row : ℕ)
    → ((at : ℕ) → is_last_row at reduced ≡ true → f at ≡ g at) → combination f reduced row ≡ combination g reduced row
combination-agree f g [] row agree = refl
combination-agree f g (line ∷ lines) row agree =
    let here : f line.row ≡ g line.row =
    agree line.row (or_left (nat_eq line.row line.row) (is_last_row line.row lines) (eq-eqb line.row line.row refl)) in
    let rest = combination-agree f g lines row
    (λ at last. agree at (or_right (nat_eq at line.row) (is_last_row at lines) last)) in
    ap₂ (λ (x y : ℕ). x * line.values row + y) here rest

-- one column more
pub combination-append : (f : ℕ → ℕ) (lines others : List ReducedColumn) (row : ℕ)
    → combination f (lines ++ others) row ≡ combination f lines row + combination f others row
combination-append f [] others row = omega arith
combination-append f (line ∷ lines) others row = omega (arith, combination-append f lines others row)

-- the factors, with another one at a row
abbrev pub with_factor : (ℕ → ℕ) → ℕ → ℕ → ℕ → ℕ
with_factor f row factor at = if nat_eq at row then factor else f at

pub combination-push : (f : ℕ → ℕ) (reduced : List ReducedColumn) (column last factor : ℕ) (values : ℕ → ℕ) (row : ℕ)
    → is_last_row last reduced ≡ false
    → combination (with_factor f last factor) (with_column reduced column last values) row
    ≡ combination f reduced row + factor * values row
combination-push f reduced column last factor values row none =
    let g = with_factor f last factor in
    let line : ReducedColumn = record { column = column; row = last; values = values } in
    let new : g last ≡ factor = cond-true (nat_eq last last) factor (f last) (eq-eqb last last refl) in
    let old : combination g reduced row ≡ combination f reduced row =
    combination-agree g f reduced row
    (λ at is_last.
    cond-false (nat_eq at last) factor (f at)
    (ne_eqb at last (λ same. true≢false (sym is_last ∙ (ap (λ (k : ℕ). is_last_row k reduced) same ∙ none))))) in
    let scaled : g last * values row ≡ factor * values row = ap (λ (k : ℕ). k * values row) new in
    omega (arith, combination-append g reduced (line ∷ []) row, old, scaled)

-- the last rows of some columns and others
pub is_last_row-append : (row : ℕ) (lines others : List ReducedColumn)
    → is_last_row row (lines ++ others) ≡ (is_last_row row lines || is_last_row row others)
is_last_row-append row [] others = refl
is_last_row-append row (line ∷ lines) others =
    ap (λ (b : Bool). nat_eq row line.row || b) (is_last_row-append row lines others)
    ∙ sym (or_associated (nat_eq row line.row) (is_last_row row lines) (is_last_row row others))
  where
    or_associated : (a b c : Bool) → ((a || b) || c) ≡ (a || (b || c))
    or_associated true b c = refl
    or_associated false b c = refl

pub is_last_row-push : (row column last : ℕ) (reduced : List ReducedColumn) (values : ℕ → ℕ)
    → is_last_row row (with_column reduced column last values) ≡ true → (is_last_row row reduced ≡ true) ⊎ (last ≡ row)
is_last_row-push row column last reduced values is_last =
    let line : ReducedColumn = record { column = column; row = last; values = values } in
    elim (or_cases (is_last_row row reduced) (nat_eq row last || false)
    (sym (is_last_row-append row reduced (line ∷ [])) ∙ is_last)) [
      | inl old ↦ inl old
      | inr new ↦
          elim (eqb_tells row last) [
            | inl same ↦ inr (sym same.1)
            | inr other ↦ absurd (true≢false (sym new ∙ or_from (nat_eq row last) false other.0 refl))
          ]
    ]

pub turned : (x y : ℕ) → nat_eq x y ≡ false → nat_eq y x ≡ false
turned x y differ = ne_eqb y x (λ same. true≢false (sym (eq-eqb x y (sym same)) ∙ differ))

pub apart-push : (reduced : List ReducedColumn) (column last : ℕ) (values : ℕ → ℕ) → EndApart reduced
    → is_last_row last reduced ≡ false → EndApart (with_column reduced column last values)
apart-push [] column last values apart none = (refl, tt)
apart-push (line ∷ lines) column last values apart none =
    let parts = or_parts (nat_eq last line.row) (is_last_row last lines) none in
    let new : ReducedColumn = record { column = column; row = last; values = values } in (
      is_last_row-append line.row lines (new ∷ [])
          ∙ or_from (is_last_row line.row lines) (nat_eq line.row last || false) apart.0
          (or_from (nat_eq line.row last) false (turned last line.row parts.0) refl),
      apart-push lines column last values apart.1 parts.1,
    )
