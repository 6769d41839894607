-- Rows less multiples of others, entry by entry.
use Rattle.std.proofs.Common.{◌≡◌, ◌≢◌, true, ℕ, zero, suc, ◌+◌, ◌-◌, ◌*◌, ◌%◌, ◌<◌, ◌∙◌, List, [], ◌∷◌, ◌++◌, length, map, get_or, take, min, refl, ap, ap₂, sym, arith}
use Rattle.std.specs.Prelude.{slice_index}
use Rattle.std.specs.List.{remove}
use Rattle.std.proofs.lemmas.Nat.{mul-mod_first}
use Rattle.std.proofs.lemmas.List.{length-map, get_or-map, map-append}
use Rattle.kh_types.proofs.Lists.{map-remove}
use Rattle.kh_types.proofs.PlainRank.{leads-from_entry}
use Rattle.kh_types.specs.Rank.{has_entry, inverse, lead_of, minus_mod, less_multiple, cleared}
use Rattle.prime_field.specs.Residues.{product_mod, inverse_mod}

-- one entry more
pub less_multiple-more : (p k factor : ℕ) (row pivot : List ℕ) → k < length row → k < length pivot
    → less_multiple p (take (k + 1) row) (take (k + 1) pivot) factor
    ≡ less_multiple p (take k row) (take k pivot) factor ++ minus_mod p (slice_index row k) (factor * slice_index pivot k) ∷ []
less_multiple-more p k factor [] pivot within within_pivot = absurd (omega arith)
less_multiple-more p k factor (x ∷ row) [] within within_pivot = absurd (omega arith)
less_multiple-more p zero factor (x ∷ row) (y ∷ pivot) within within_pivot = refl
less_multiple-more p (suc k) factor (x ∷ row) (y ∷ pivot) within within_pivot =
    let next : suc k + 1 ≡ suc (k + 1) = omega arith in
    ap (λ n. less_multiple p (take n (x ∷ row)) (take n (y ∷ pivot)) factor) next
    ∙ ap (λ made. minus_mod p x (factor * y) ∷ made)
    (less_multiple-more p k factor row pivot (omega arith) (omega arith))

-- no entry beyond the shorter of the two
pub less_multiple-whole : (p n factor : ℕ) (row pivot : List ℕ) → n ≡ min (length row) (length pivot)
    → less_multiple p (take n row) (take n pivot) factor ≡ less_multiple p row pivot factor
less_multiple-whole p zero factor [] pivot whole = refl
less_multiple-whole p (suc n) factor [] pivot whole = absurd (omega arith)
less_multiple-whole p zero factor (x ∷ row) [] whole = refl
less_multiple-whole p (suc n) factor (x ∷ row) [] whole = absurd (omega arith)
less_multiple-whole p zero factor (x ∷ row) (y ∷ pivot) whole = absurd (omega arith)
less_multiple-whole p (suc n) factor (x ∷ row) (y ∷ pivot) whole =
    ap (λ made. minus_mod p x (factor * y) ∷ made) (less_multiple-whole p n factor row pivot (omega arith))

-- a factor by its remainder
pub less_multiple-factor : (p factor : ℕ) (row pivot : List ℕ)
    → less_multiple p row pivot (factor % p) ≡ less_multiple p row pivot factor
less_multiple-factor p factor [] pivot = refl
less_multiple-factor p factor (x ∷ row) [] = refl
less_multiple-factor p factor (x ∷ row) (y ∷ pivot) =
    ap₂ (λ entry made. entry ∷ made) (ap (λ n. (x + (p - n)) % p) (mul-mod_first factor y p))
    (less_multiple-factor p factor row pivot)

-- one entry more, in a row in memory
pub values-more : {F : Type 0} (value_of : F → ℕ) (p k factor : ℕ) (row pivot made more : List F) (x y entry : F)
    → k < length row → k < length pivot → x ≡ get_or row k x → y ≡ get_or pivot k y → more ≡ made ++ entry ∷ []
    → value_of entry ≡ minus_mod p (value_of x) (factor * value_of y)
    → map value_of made ≡ less_multiple p (take k (map value_of row)) (take k (map value_of pivot)) factor
    → map value_of more ≡ less_multiple p (take (k + 1) (map value_of row)) (take (k + 1) (map value_of pivot)) factor
values-more value_of p k factor row pivot made more x y entry within within_pivot is_x is_y is_more is_entry before =
    let at_row = get_or-map value_of row k x 0 within ∙ ap value_of (sym is_x) in
    let at_pivot = get_or-map value_of pivot k y 0 within_pivot ∙ ap value_of (sym is_y) in
    ap (map value_of) is_more ∙ map-append value_of made (entry ∷ [])
    ∙ ap₂ (λ values value. values ++ value ∷ []) before
    (is_entry ∙ ap₂ (λ x y. minus_mod p x (factor * y)) (sym at_row) (sym at_pivot))
    ∙ sym (less_multiple-more p k factor (map value_of row) (map value_of pivot)
    (omega (arith, within, length-map row value_of)) (omega (arith, within_pivot, length-map pivot value_of)))

-- all entries
pub values-whole : {F : Type 0} (value_of : F → ℕ) (p n factor : ℕ) (row pivot made : List F) → n ≡ min (length row) (length pivot)
    → map value_of made ≡ less_multiple p (take n (map value_of row)) (take n (map value_of pivot)) factor
    → map value_of made ≡ less_multiple p (map value_of row) (map value_of pivot) factor
values-whole value_of p n factor row pivot made whole are =
    are ∙ less_multiple-whole p n factor (map value_of row) (map value_of pivot)
    (omega (arith, whole, length-map row value_of, length-map pivot value_of))

-- what is left of a row, by the quotient of its entry and the pivot's
pub values-reduced : {F : Type 0} (value_of : F → ℕ) (p column x y factor : ℕ) (pivot row : List ℕ) (made left : List F)
    → column ≡ lead_of pivot → x ≡ slice_index row column → y ≡ slice_index pivot column
    → factor ≡ product_mod p x (inverse_mod p y) → map value_of made ≡ less_multiple p row pivot factor
    → left ≡ remove made column → map value_of left ≡ remove (cleared p pivot (lead_of pivot) row) (lead_of pivot)
values-reduced value_of p column x y factor pivot row made left is_column is_x is_y is_factor is_made is_left =
    ap (map value_of) is_left ∙ map-remove value_of made column
    ∙ ap (λ made. remove made column)
    (is_made ∙ ap (less_multiple p row pivot) is_factor ∙ less_multiple-factor p (x * inverse p y) row pivot
    ∙ ap₂ (λ x y. less_multiple p row pivot (x * inverse p y)) is_x is_y)
    ∙ ap (λ column. remove (cleared p pivot column row) column) is_column

-- the leading entry of a row with an entry is not 0
pub lead-other : (column y : ℕ) (row : List ℕ) → has_entry row ≡ true → column ≡ lead_of row → y ≡ slice_index row column → y ≢ 0
lead-other column y row has is_column is_y is_zero =
    (leads-from_entry row has).other (sym (ap (slice_index row) is_column) ∙ sym is_y ∙ is_zero)
