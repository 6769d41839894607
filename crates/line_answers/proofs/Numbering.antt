-- Lines and what they ask, one line more.
use Rattle.std.proofs.Common.{◌≡◌, ℕ, ◌+◌, List, [], ◌∷◌, ◌++◌, length, sym, ap, ◌∙◌, append-nil, arith}
use Rattle.std.proofs.lemmas.Grind.{flat_map-append}
use Rattle.std.specs.List.{flat_map}
use Rattle.kh_lex.specs.Lines.{last_line}
use Rattle.line_answers.specs.Questions.{asked_by, numbered, numbered_line, questions}

numbered-push : (number : ℕ) (lines : List (List ℕ)) (line : List ℕ)
    → numbered number (lines ++ line ∷ []) ≡ numbered number lines ++ numbered_line (number + length lines) line ∷ []
numbered-push number [] line = ap (λ n. numbered_line n line ∷ []) (omega arith)
numbered-push number (first ∷ lines) line =
    ap (λ l. numbered_line number first ∷ l) (numbered-push (number + 1) lines line
    ∙ ap (λ n. numbered (number + 1) lines ++ numbered_line n line ∷ []) (omega arith))

-- one line more asks what it asks, behind what is asked
pub questions-push : (fields : List ℕ) (lines : List (List ℕ)) (line : List ℕ)
    → questions fields (lines ++ line ∷ []) ≡ questions fields lines ++ asked_by fields (numbered_line (1 + length lines) line)
questions-push fields lines line =
    ap (λ l. flat_map (asked_by fields) l) (numbered-push 1 lines line)
    ∙ flat_map-append (asked_by fields) (numbered 1 lines) (numbered_line (1 + length lines) line ∷ [])
    ∙ ap (λ l. questions fields lines ++ l) (append-nil (asked_by fields (numbered_line (1 + length lines) line)))

-- what follows the last line feed asks nothing where it is empty
pub questions-last : (fields : List ℕ) (lines : List (List ℕ)) (rest : List ℕ)
    → questions fields (lines ++ last_line rest) ≡ questions fields lines ++ asked_by fields (numbered_line (1 + length lines) rest)
questions-last fields lines [] =
    ap (questions fields) (append-nil lines) ∙ sym (append-nil (questions fields lines))
questions-last fields lines (byte ∷ rest) = questions-push fields lines (byte ∷ rest)
