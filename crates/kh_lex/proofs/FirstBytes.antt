-- The first byte of a text, and what it cannot be.
use Rattle.std.proofs.lemmas.Bool.Decides.{nat_tests}
use Rattle.std.proofs.Common.{◌≡◌, ℕ, ◌<◌, leb, ◌&&◌, Bool, true, false, List, refl, arith, slice_index}
use Rattle.std.proofs.lemmas.Bool.{agree_below, agree_below_at, and_from, and_parts, leb-true}
use Rattle.std.specs.Char.{is_ascii_alphabetic, is_ascii_digit}
use Rattle.kh_lex.specs.Cuts.{begins_with}

-- the first byte is the one at 0
pub begins_with-first : (is : ℕ → Bool) (text : List ℕ) → is 0 ≡ false → begins_with is text ≡ is (slice_index text 0)
begins_with-first is text none = grind (arith, nat_tests)

-- what holds of no byte of a sort below a bound does not hold of one
apart : (is other : ℕ → Bool) (bound byte : ℕ) → agree_below (λ b. is b && other b) (λ b. false) bound ≡ true
    → byte < bound → is byte ≡ true → other byte ≡ false
apart is other bound byte table below one = go (other byte) refl
  where
    go : (two : Bool) → other byte ≡ two → other byte ≡ false
    go false e = e
    go true e =
        let both = and_from (is byte) (other byte) one e in
        let none = agree_below_at (λ b. is b && other b) (λ b. false) bound byte table below in
        absurd (cc)

-- a digit is at most 57, and a letter at most 122
digit-below : (byte : ℕ) → is_ascii_digit byte ≡ true → byte < 58
digit-below byte digit = omega (arith, leb-true byte 57 (and_parts (leb 48 byte) (leb byte 57) digit).1)

letter-below : (byte : ℕ) → is_ascii_alphabetic byte ≡ true → byte < 123
letter-below byte letter = grind (arith, nat_tests)

-- digits and letters are other bytes than those of a sort
pub digit-other : (other : ℕ → Bool) (byte : ℕ) → agree_below (λ b. is_ascii_digit b && other b) (λ b. false) 58 ≡ true
    → is_ascii_digit byte ≡ true → other byte ≡ false
digit-other other byte table digit = apart is_ascii_digit other 58 byte table (digit-below byte digit) digit

pub letter-other : (other : ℕ → Bool) (byte : ℕ) → agree_below (λ b. is_ascii_alphabetic b && other b) (λ b. false) 123 ≡ true
    → is_ascii_alphabetic byte ≡ true → other byte ≡ false
letter-other other byte table letter = apart is_ascii_alphabetic other 123 byte table (letter-below byte letter) letter
