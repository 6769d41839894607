-- Pieces that a byte of the sort ends, or the end of the text.
use Rattle.std.proofs.Common.{◌≡◌, ℕ, ◌<◌, Bool, true, false, List, [], ◌∷◌, ◌++◌, length, refl, arith}
use Rattle.std.proofs.lemmas.Bool.{or_parts}
use Rattle.std.specs.List.{list_any}
use Rattle.kh_lex.specs.Sections.{sections_of}

-- a piece that a byte of the sort ends is the first
pub sections_of-ended : (is : ℕ → Bool) (piece : List ℕ) (byte : ℕ) (rest : List ℕ) → list_any is piece ≡ false → is byte ≡ true
    → sections_of is (piece ++ byte ∷ rest) ≡ piece ∷ sections_of is rest
sections_of-ended is [] byte rest whole ends = rw ends refl
sections_of-ended is (first ∷ piece) byte rest whole ends =
    let parts = or_parts (is first) (list_any is piece) whole in
    rw (parts.0, sections_of-ended is piece byte rest parts.1 ends) refl

-- a piece that nothing ends is the only one
pub sections_of-last : (is : ℕ → Bool) (piece : List ℕ) → 0 < length piece → list_any is piece ≡ false → sections_of is piece ≡ piece ∷ []
sections_of-last is [] some whole = absurd (omega arith)
sections_of-last is (byte ∷ []) some whole = rw (or_parts (is byte) false whole).0 refl
sections_of-last is (byte ∷ next ∷ piece) some whole =
    let parts = or_parts (is byte) (list_any is (next ∷ piece)) whole in
    rw (parts.0, sections_of-last is (next ∷ piece) (omega arith) parts.1) refl
