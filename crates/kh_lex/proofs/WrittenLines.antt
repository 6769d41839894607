-- A text that is written as a line, with a line feed behind it, means the same symbols.
use Rattle.std.proofs.lemmas.Bool.Decides.{nat_tests}
use Rattle.std.proofs.Common.{arith}
use Rattle.std.proofs.Common.{◌≡◌, ◌∙◌, ℕ, ℤ, true, List, [], ◌∷◌, ◌++◌, refl, ap, append_assoc, codes}
use Rattle.std.specs.List.{list_all}
use Rattle.std.proofs.lemmas.Bool.{and_parts}
use Rattle.std.proofs.lemmas.List.{append-nil}
use Rattle.kh_lex.specs.Symbols.{Means}
use Rattle.kh_lex.specs.declared.symbol.Symbol.{Symbol}
use Rattle.kh_lex.specs.declared.token.Kind.{Kind}
use Rattle.kh_lex.specs.Cuts.{IsToken, SkipsBlanks, is_blank}
use Rattle.kh_lex.specs.Lines.{with_feed}
use Rattle.kh_lex.proofs.Cuttings.{skip-cons}
use Rattle.kh_lex.proofs.WrittenTexts.{IsWritten, Means-written, Writes}

-- blanks with a line feed behind them are blank
skip-feed : (blanks : List ℕ) → list_all is_blank blanks ≡ true → SkipsBlanks (with_feed blanks) []
skip-feed [] all = record { blanks = codes "\n"; parts = refl; blank = refl }
skip-feed (byte ∷ blanks) all =
    let both = and_parts (is_blank byte) (list_all is_blank blanks) all in
    skip-cons byte (with_feed blanks) [] both.0 (skip-feed blanks both.1)

-- and so is a text that is blank
blank-feed : (text : List ℕ) → SkipsBlanks text [] → SkipsBlanks (with_feed text) []
blank-feed text skip = grind (arith, nat_tests, append-nil, skip-feed)

-- a token stays one
token-feed : (kind : Kind) (value : ℤ) (bytes rest : List ℕ) → IsToken kind value bytes rest → IsToken kind value bytes (with_feed rest)
token-feed kind value bytes rest token = grind (arith, nat_tests)

-- what stands behind blanks and bytes
parts-feed : (text blanks bytes rest : List ℕ) → text ≡ blanks ++ (bytes ++ rest) → with_feed text ≡ blanks ++ (bytes ++ with_feed rest)
parts-feed text blanks bytes rest parts =
    ap with_feed parts ∙ append_assoc blanks (bytes ++ rest) (codes "\n")
    ∙ ap (λ (t : List ℕ). blanks ++ t) (append_assoc bytes rest (codes "\n"))

-- and so a text writes what it wrote
Writes-feed : (more : List Symbol) (text : List ℕ) → Writes text more → Writes (with_feed text) more
Writes-feed [] text writes = blank-feed text writes
Writes-feed (symbol ∷ more) text writes =
    let rest = writes.0 in
    let first = writes.1 in (
      with_feed rest,
      record {
        kind = first.kind;
        value = first.value;
        bytes = first.bytes;
        skip = record {
          blanks = first.skip.blanks;
          parts = parts-feed text first.skip.blanks first.bytes rest first.skip.parts;
          blank = first.skip.blank;
        };
        token = token-feed first.kind first.value first.bytes rest first.token;
        limit = first.limit;
        meaning = first.meaning;
      },
      Writes-feed more rest writes.2,
    )

-- a text that is written means the same as a line
pub Means-line : (text : List ℕ) (more : List Symbol) → IsWritten text more → Means (with_feed text) more
Means-line text more written = Means-written (with_feed text) more (record { writes = Writes-feed more text written.writes })
