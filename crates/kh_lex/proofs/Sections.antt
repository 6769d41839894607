-- The pieces of a text, one after another.
use Rattle.std.proofs.lemmas.Bool.Decides.{nat_tests}
use Rattle.std.proofs.Common.{◌≡◌, ℕ, ◌+◌, ◌<◌, Bool, cond, List, [], ◌∷◌, length, drop, refl, sym, ◌∙◌, ap, arith}
use Rattle.std.proofs.lemmas.List.{drop-drop, length-drop}
use Rattle.kh_lex.specs.Sections.{before_first, first_section, sections_of}

-- the first piece of a text in which something is left, and the others behind the byte that ends it
pub sections_of-first : (is : ℕ → Bool) (text : List ℕ) → 0 < length text
    → sections_of is text ≡ first_section is text ∷ sections_of is (drop (length (first_section is text) + 1) text)
sections_of-first is [] some = absurd (omega arith)
sections_of-first is (byte ∷ bytes) some = go (sections_of-first is bytes) (is byte) refl
  where
    rest : (later : List ℕ)
        → (0 < length later → sections_of is later ≡ first_section is later ∷ sections_of is (drop (length (first_section is later) + 1) later))
        → before_first byte (sections_of is later)
        ≡ (byte ∷ first_section is later) ∷ sections_of is (drop (length (first_section is later) + 1) later)
    rest later same = grind (arith, nat_tests)

    go : (0 < length bytes → sections_of is bytes ≡ first_section is bytes ∷ sections_of is (drop (length (first_section is bytes) + 1) bytes))
        → (b : Bool) → is byte ≡ b → cond b ([] ∷ sections_of is bytes) (before_first byte (sections_of is bytes))
        ≡ first_section is (byte ∷ bytes) ∷ sections_of is (drop (length (first_section is (byte ∷ bytes)) + 1) (byte ∷ bytes))
    go later b e = grind (arith, nat_tests)

-- the same of what is left from a place on
pub sections_of-at : (is : ℕ → Bool) (text piece : List ℕ) (place : ℕ) → place < length text → piece ≡ first_section is (drop place text)
    → sections_of is (drop place text) ≡ piece ∷ sections_of is (drop (place + (length piece + 1)) text)
sections_of-at is text piece place left is_piece =
    sections_of-first is (drop place text) (omega (arith, length-drop place text))
    ∙ ap (λ p. p ∷ sections_of is (drop (length p + 1) (drop place text))) (sym is_piece)
    ∙ ap (λ rest. piece ∷ sections_of is rest) (drop-drop (length piece + 1) place text)
