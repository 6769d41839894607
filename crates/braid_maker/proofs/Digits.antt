-- The letters of the digits of a number, one after another.
use Rattle.std.proofs.Common.{refl, ◌≡◌, ℕ, suc, ◌+◌, ◌/◌, ◌%◌, ◌∙◌, List, [], ◌∷◌, ◌++◌, length, ap, sym, arith, append_assoc, append-nil, length-append, ℤ}
use Rattle.braid_maker.specs.Closures.{letter_of, letters_of}

-- letters are those of the first digits of a number, and the rest of the number has the other digits
pub record AreFirst (number count rest : ℕ) (letters : List ℤ) : Type 0 where
  pub size : length letters ≡ count
  pub more : (others : ℕ) → letters ++ letters_of others rest ≡ letters_of (count + others) number

pub first_none : (number : ℕ) → AreFirst number 0 number []
first_none number = record { size = refl; more = λ others. let e : others ≡ 0 + others = omega arith in ap (λ n. letters_of n number) e }

pub first-more : (number count rest : ℕ) (letters made : List ℤ) (letter : ℤ) → AreFirst number count rest letters
    → made ≡ letters ++ letter ∷ [] → letter ≡ letter_of (rest % 4) → AreFirst number (count + 1) (rest / 4) made
first-more number count rest letters made letter are is is_letter =
    record {
      size = omega (arith, ap length is, length-append letters (letter ∷ []), are.size);
      more = λ others.
          ap (λ xs. xs ++ letters_of others (rest / 4)) is
          ∙ append_assoc letters (letter ∷ []) (letters_of others (rest / 4))
          ∙ ap (λ x. letters ++ x ∷ letters_of others (rest / 4)) is_letter
          ∙ are.more (suc others)
          ∙ (let e : count + suc others ≡ count + 1 + others = omega arith in ap (λ n. letters_of n number) e);
    }

pub first-all : (number count rest digits : ℕ) (letters : List ℤ) → AreFirst number count rest letters → count ≡ digits
    → letters ≡ letters_of digits number
first-all number count rest digits letters are is =
    sym (append-nil letters) ∙ are.more 0
    ∙ (let e : count + 0 ≡ digits = omega (arith, is) in ap (λ n. letters_of n number) e)
