-- Lines cut a text exactly where they are its sections between line feeds.
use Rattle.std.proofs.lemmas.Bool.Decides.{nat_tests}
use Rattle.std.proofs.Common.{◌≡◌, ℕ, Bool, true, false, cond, List, [], ◌∷◌, ◌++◌, refl, ◌∙◌, ap, arith, append_assoc, codes}
use Rattle.std.proofs.lemmas.Bool.{eqb-true}
use Rattle.std.specs.List.{AllByRecursion, flat_map}
use Rattle.kh_lex.specs.Lines.{CutsLines, HasNoLineFeed, with_feed, is_line_feed, last_line, lines_of}
use Rattle.kh_lex.specs.Sections.{before_first}
use Rattle.kh_lex.proofs.CutSections.{sections_of-ended, sections_of-last}

-- what follows the last line feed
lines_of-last : (last : List ℕ) → HasNoLineFeed last → lines_of last ≡ last_line last
lines_of-last last whole = grind (arith, nat_tests, sections_of-last)

-- lines, each with a line feed behind it, and what follows
lines_of-parts : (first : List (List ℕ)) (last : List ℕ) → AllByRecursion HasNoLineFeed first → HasNoLineFeed last
    → lines_of (flat_map with_feed first ++ last) ≡ first ++ last_line last
lines_of-parts [] last all whole = lines_of-last last whole
lines_of-parts (line ∷ more) last all whole =
    ap lines_of (append_assoc (with_feed line) (flat_map with_feed more) last ∙ append_assoc line (codes "\n") (flat_map with_feed more ++ last))
    ∙ sections_of-ended is_line_feed line 10 (flat_map with_feed more ++ last) all.0 refl
    ∙ ap (λ lines. line ∷ lines) (lines_of-parts more last all.1 whole)

-- lines that cut a text are those
pub lines_of-CutsLines : (text : List ℕ) (lines : List (List ℕ)) → CutsLines text lines → lines ≡ lines_of text
lines_of-CutsLines text lines cut = grind (arith, nat_tests, lines_of-parts)

-- a line feed before a text ends an empty line
CutsLines-feed : (byte : ℕ) (text : List ℕ) (lines : List (List ℕ)) → is_line_feed byte ≡ true → CutsLines text lines
    → CutsLines (byte ∷ text) ([] ∷ lines)
CutsLines-feed byte text lines feed cut = record {
  first = [] ∷ cut.first;
  last = cut.last;
  parts = ap (λ b. b ∷ text) (eqb-true byte 10 feed) ∙ ap (λ t. 10 ∷ t) cut.parts;
  all = ap (λ l. [] ∷ l) cut.all;
  first_whole = (refl, cut.first_whole);
  last_whole = cut.last_whole;
}

-- another byte before a text stands in its first line
CutsLines-byte : (byte : ℕ) (text : List ℕ) (lines first : List (List ℕ)) (last : List ℕ) → is_line_feed byte ≡ false
    → text ≡ flat_map with_feed first ++ last → lines ≡ first ++ last_line last → AllByRecursion HasNoLineFeed first → HasNoLineFeed last
    → CutsLines (byte ∷ text) (before_first byte lines)
CutsLines-byte byte text lines [] last other parts all first_whole last_whole = record {
  first = [];
  last = byte ∷ last;
  parts = ap (λ t. byte ∷ t) parts;
  all = ap (before_first byte) all ∙ go last;
  first_whole = tt;
  last_whole = rw other last_whole;
}
  where
    go : (last : List ℕ) → before_first byte (last_line last) ≡ (byte ∷ last) ∷ []
    go [] = refl
    go (next ∷ more) = refl
CutsLines-byte byte text lines (line ∷ more) last other parts all first_whole last_whole = record {
  first = (byte ∷ line) ∷ more;
  last = last;
  parts = ap (λ t. byte ∷ t) parts;
  all = ap (before_first byte) all;
  first_whole = (rw other first_whole.0, first_whole.1);
  last_whole = last_whole;
}

-- those lines cut a text
pub CutsLines-lines_of : (text : List ℕ) → CutsLines text (lines_of text)
CutsLines-lines_of [] = record { first = []; last = []; parts = refl; all = refl; first_whole = tt; last_whole = refl }
CutsLines-lines_of (byte ∷ bytes) = go (CutsLines-lines_of bytes) (is_line_feed byte) refl
  where
    go : CutsLines bytes (lines_of bytes) → (feed : Bool) → is_line_feed byte ≡ feed
        → CutsLines (byte ∷ bytes) (cond feed ([] ∷ lines_of bytes) (before_first byte (lines_of bytes)))
    go cut feed has2 = grind (arith, nat_tests, CutsLines-feed, CutsLines-byte)
