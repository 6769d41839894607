-- Differences and quotients, from the laws of a field alone.
use Rattle.std.proofs.Common.{◌≡◌, ◌≢◌, ℕ, ◌<◌, ◌-◌, ◌%◌, ◌^◌, ◌∙◌, ap, sym, arith}
use Rattle.std.proofs.Math.Nat.{mod-eq_of_lt}
use Rattle.std.proofs.lemmas.Nat.{mod_below}
use Rattle.prime_field.specs.Residues.{product_mod, inverse_mod, IsField}

-- the inverse of y is the only one
inverse_mod-only : (p y inverse : ℕ) → IsField p → y < p → y ≢ 0 → inverse < p → product_mod p y inverse ≡ 1
    → inverse ≡ inverse_mod p y
inverse_mod-only p y inverse field below other inverse_below inverts =
    let not_zero : y % p ≢ 0 = λ same. other (sym (mod-eq_of_lt below) ∙ same) in
    sym (field.one_changes_nothing inverse inverse_below) ∙ ap (product_mod p inverse) (sym (field.inverses_cancel y not_zero))
    ∙ sym (field.products_associate inverse y (inverse_mod p y))
    ∙ ap (λ product. product_mod p product (inverse_mod p y)) (field.products_commute inverse y ∙ inverts)
    ∙ field.products_commute 1 (inverse_mod p y)
    ∙ field.one_changes_nothing (inverse_mod p y) (mod_below (y ^ (p - 2)) p (omega (arith, field.above_one)))

-- the quotient of x and y is x times the inverse
pub product_mod-inverse_of : (p x y inverse quotient : ℕ) → IsField p → y < p → y ≢ 0 → inverse < p → product_mod p y inverse ≡ 1
    → quotient ≡ product_mod p x inverse → quotient ≡ product_mod p x (inverse_mod p y)
product_mod-inverse_of p x y inverse quotient field below other inverse_below inverts is_quotient =
    is_quotient ∙ ap (product_mod p x) (inverse_mod-only p y inverse field below other inverse_below inverts)

-- and times y it is x
pub product_mod-quotient : (p x y inverse quotient : ℕ) → IsField p → x < p → product_mod p y inverse ≡ 1
    → quotient ≡ product_mod p x inverse → product_mod p quotient y ≡ x
product_mod-quotient p x y inverse quotient field below inverts is_quotient =
    ap (λ quotient. product_mod p quotient y) is_quotient ∙ field.products_associate x inverse y
    ∙ ap (product_mod p x) (field.products_commute inverse y ∙ inverts) ∙ field.one_changes_nothing x below
