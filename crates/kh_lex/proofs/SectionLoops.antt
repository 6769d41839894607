-- What the loops keep, from one section of a text to the next.
use Rattle.std.proofs.lemmas.Bool.Decides.{nat_tests}
use Rattle.std.proofs.Common.{◌≡◌, ℕ, ◌+◌, ◌<◌, ◌≤◌, List, [], ◌∷◌, ◌++◌, length, drop, filter, sym, ◌∙◌, ap, arith, append_assoc}
use Rattle.std.proofs.lemmas.List.Elements.{filter-append}
use Rattle.kh_lex.specs.Lines.{is_line_feed, lines_of}
use Rattle.kh_lex.specs.LineWords.{has_bytes, is_gap, words_of}
use Rattle.kh_lex.specs.Sections.{first_section, sections_of}
use Rattle.kh_lex.proofs.Sections.{sections_of-at}

-- the lines so far, and those from a place on, are all the lines of a text; there are no more of them than bytes
pub record IsCounted (text : List ℕ) (place count : ℕ) : Type 0 where
  pub whole : count + length (lines_of (drop place text)) ≡ length (lines_of text)
  pub few : count ≤ place

-- one more line
pub IsCounted-line : (text line : List ℕ) (place count : ℕ) → place < length text → line ≡ first_section is_line_feed (drop place text)
    → IsCounted text place count → IsCounted text (place + (length line + 1)) (count + 1)
IsCounted-line text line place count left is_line so_far = grind (arith, nat_tests, sections_of-at)

-- the words so far, and those from a place on, are all the words of a line
pub record IsParted (line : List ℕ) (place : ℕ) (words : List (List ℕ)) : Type 0 where
  pub whole : words ++ words_of (drop place line) ≡ words_of line

-- one more piece
pub IsParted-piece : (line piece : List ℕ) (place : ℕ) (words : List (List ℕ)) → place < length line
    → piece ≡ first_section is_gap (drop place line)
    → IsParted line place words → IsParted line (place + (length piece + 1)) (words ++ filter has_bytes (piece ∷ []))
IsParted-piece line piece place words left is_piece so_far =
    let later = words_of (drop (place + (length piece + 1)) line) in
    record {
      whole = append_assoc words (filter has_bytes (piece ∷ [])) later
          ∙ ap (λ more. words ++ more) (sym (ap (filter has_bytes) (sections_of-at is_gap line piece place left is_piece)
          ∙ filter-append has_bytes (piece ∷ []) (sections_of is_gap (drop (place + (length piece + 1)) line))))
          ∙ so_far.whole;
    }
