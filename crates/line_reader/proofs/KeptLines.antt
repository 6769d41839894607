-- What is kept of a line that grows.
use Rattle.std.proofs.lemmas.Bool.Decides.{nat_tests}
use Rattle.std.proofs.Common.{◌≡◌, ℕ, ◌+◌, ◌≤◌, ◌<◌, Bool, false, not, List, [], ◌∷◌, ◌++◌, length, take, sym, subst, ap, ap₂, ◌∙◌, ◌||◌, arith}
use Rattle.std.proofs.lemmas.List.Folds.{list_any-append}
use Rattle.std.proofs.lemmas.List.{length-take, length_push, take-append-le, take_all}
use Rattle.kh_types.specs.declared.limits.TheConstants.{INPUT_BYTES}
use Rattle.kh_lex.specs.Cuts.{is_blank}
use Rattle.line_reader.specs.Lines.{Kept, has_code, kept}

-- a line with one byte more has a code where it had one, or the byte is no blank
has_code-push : (line : List ℕ) (byte : ℕ) → has_code (line ++ byte ∷ []) ≡ (has_code line || not (is_blank byte))
has_code-push line byte = list_any-append (λ b. not (is_blank b)) line (byte ∷ []) ∙ go (has_code line) (not (is_blank byte))
  where
    go : (a b : Bool) → (a || (b || false)) ≡ (a || b)
    go a b = grind (arith, nat_tests)

-- a prefix of some length that is not reached takes one element more
take-push_short : (n : ℕ) (line : List ℕ) (byte : ℕ) → length (take (n + 1) line) ≤ n
    → take (n + 1) line ++ byte ∷ [] ≡ take (n + 1) (line ++ byte ∷ [])
take-push_short n line byte short =
    let few : length line ≤ n = omega (arith, short, length-take (n + 1) line) in
    let more : length (line ++ byte ∷ []) ≤ n + 1 = omega (arith, few, length_push line byte) in
    ap (λ l. l ++ byte ∷ []) (take_all (n + 1) line (omega (arith, few))) ∙ sym (take_all (n + 1) (line ++ byte ∷ []) more)

-- and one that is reached takes none
take-push_long : (n : ℕ) (line : List ℕ) (byte : ℕ) → n < length (take (n + 1) line) → take (n + 1) line ≡ take (n + 1) (line ++ byte ∷ [])
take-push_long n line byte long =
    let many : n + 1 ≤ length line = omega (arith, long, length-take (n + 1) line) in sym (take-append-le (n + 1) line (byte ∷ []) many)

-- what is kept of a line with one byte more, as the bytes are added or not
pub kept-push_short : (found : Kept) (line : List ℕ) (byte : ℕ) → found ≡ kept line → length found.bytes ≤ INPUT_BYTES
    → record { bytes = found.bytes ++ byte ∷ []; has_code = found.has_code || not (is_blank byte) } ≡ kept (line ++ byte ∷ [])
kept-push_short found line byte is short =
    let bytes : found.bytes ≡ take (INPUT_BYTES + 1) line = ap (λ (k : Kept). k.bytes) is in
    ap₂ (λ (bytes : List ℕ) (coded : Bool). record { bytes = bytes; has_code = coded })
    (ap (λ l. l ++ byte ∷ []) bytes ∙ take-push_short INPUT_BYTES line byte (subst (λ (l : List ℕ). length l ≤ INPUT_BYTES) bytes short))
    (ap (λ (k : Kept). k.has_code || not (is_blank byte)) is ∙ sym (has_code-push line byte))

pub kept-push_long : (found : Kept) (line : List ℕ) (byte : ℕ) → found ≡ kept line → INPUT_BYTES < length found.bytes
    → record { bytes = found.bytes; has_code = found.has_code || not (is_blank byte) } ≡ kept (line ++ byte ∷ [])
kept-push_long found line byte is long =
    let bytes : found.bytes ≡ take (INPUT_BYTES + 1) line = ap (λ (k : Kept). k.bytes) is in
    ap₂ (λ (bytes : List ℕ) (coded : Bool). record { bytes = bytes; has_code = coded })
    (bytes ∙ take-push_long INPUT_BYTES line byte (subst (λ (l : List ℕ). INPUT_BYTES < length l) bytes long))
    (ap (λ (k : Kept). k.has_code || not (is_blank byte)) is ∙ sym (has_code-push line byte))
