-- Words cut a line exactly where they are its sections between gaps that are not empty.
use Rattle.std.proofs.lemmas.Bool.Decides.{nat_tests}
use Rattle.std.proofs.Common.{◌≡◌, ℕ, ◌<◌, Bool, true, false, cond, List, [], ◌∷◌, ◌++◌, length, filter, refl, sym, ◌∙◌, ap, arith, append-nil}
use Rattle.std.proofs.lemmas.Bool.{and_from, and_parts, both_ways}
use Rattle.std.specs.List.{list_all, list_any}
use Rattle.kh_lex.specs.LineWords.{CutsWords, ends_word, has_bytes, is_gap, words_of}
use Rattle.kh_lex.specs.Sections.{before_first, sections_of}
use Rattle.kh_lex.proofs.CutSections.{sections_of-ended, sections_of-last}

-- gaps before a line give no words
words_of-gaps : (gaps line : List ℕ) → list_all is_gap gaps ≡ true → words_of (gaps ++ line) ≡ words_of line
words_of-gaps [] line gap = refl
words_of-gaps (byte ∷ gaps) line gap =
    let parts = and_parts (is_gap byte) (list_all is_gap gaps) gap in
    rw parts.0 (words_of-gaps gaps line parts.1)

pub words_of-none : (line : List ℕ) → list_all is_gap line ≡ true → words_of line ≡ []
words_of-none line gap = ap words_of (sym (append-nil line)) ∙ words_of-gaps line [] gap

-- a word and a rest that does not go on with it
words_of-word : (word rest : List ℕ) → 0 < length word → list_any is_gap word ≡ false → ends_word rest ≡ true
    → words_of (word ++ rest) ≡ word ∷ words_of rest
words_of-word word rest some solid longest =
    grind (arith, nat_tests, append-nil, sections_of-last, sections_of-ended, words_of-gaps, and_from)

-- words that cut a line are those
pub words_of-CutsWords : (line : List ℕ) (words : List (List ℕ)) → CutsWords line words → words ≡ words_of line
words_of-CutsWords line [] gap = sym (words_of-none line gap)
words_of-CutsWords line (word ∷ words) (rest, first, cut) =
    grind (arith, nat_tests, words_of-word, words_of-gaps, words_of-CutsWords rest words cut)

-- a gap before a line
CutsWords-gap : (byte : ℕ) (line : List ℕ) (words : List (List ℕ)) → is_gap byte ≡ true → CutsWords line words
    → CutsWords (byte ∷ line) words
CutsWords-gap byte line [] gap cut = and_from (is_gap byte) (list_all is_gap line) gap cut
CutsWords-gap byte line (word ∷ words) gap (rest, first, cut) = (
  rest,
  record {
    gaps = byte ∷ first.gaps;
    parts = ap (λ t. byte ∷ t) first.parts;
    all_gaps = and_from (is_gap byte) (list_all is_gap first.gaps) gap first.all_gaps;
    some = first.some;
    solid = first.solid;
    longest = first.longest;
  },
  cut,
)

-- a word of one byte
CutsWords-one : (byte : ℕ) (line : List ℕ) (words : List (List ℕ)) → is_gap byte ≡ false → ends_word line ≡ true → CutsWords line words
    → CutsWords (byte ∷ line) ((byte ∷ []) ∷ words)
CutsWords-one byte line words other longest cut = grind (arith, nat_tests)

-- the gaps before a word that begins a line are none
first-parts : (byte : ℕ) (line tail gaps : List ℕ) → is_gap byte ≡ false → byte ∷ line ≡ gaps ++ tail
    → list_all is_gap gaps ≡ true → byte ∷ line ≡ tail
first-parts byte line tail [] other parts gap = parts
first-parts byte line tail (first ∷ gaps) other parts gap = absurd
    (both_ways (is_gap byte) other
    (ap is_gap (ap (λ t. head t) parts) ∙ (and_parts (is_gap first) (list_all is_gap gaps) gap).0))
  where
    head : List ℕ → ℕ
    head [] = 0
    head (x ∷ xs) = x

-- a byte before a word that begins a line
CutsWords-more : (byte next : ℕ) (line word : List ℕ) (words : List (List ℕ)) → is_gap byte ≡ false → is_gap next ≡ false
    → CutsWords (next ∷ line) (word ∷ words) → CutsWords (byte ∷ next ∷ line) ((byte ∷ word) ∷ words)
CutsWords-more byte next line word words other solid has7 = grind (arith, nat_tests, first-parts)

-- another byte before a line begins a word
CutsWords-byte : (byte : ℕ) (line : List ℕ) → is_gap byte ≡ false → CutsWords line (words_of line)
    → CutsWords (byte ∷ line) (filter has_bytes (before_first byte (sections_of is_gap line)))
CutsWords-byte byte [] other cut = CutsWords-one byte [] [] other refl refl
CutsWords-byte byte (next ∷ line) other cut = go (is_gap next) refl cut
  where
    inner : (pieces : List (List ℕ)) → is_gap next ≡ false → CutsWords (next ∷ line) (filter has_bytes (before_first next pieces))
        → CutsWords (byte ∷ next ∷ line) (filter has_bytes (before_first byte (before_first next pieces)))
    inner pieces solid cut = grind (arith, nat_tests, CutsWords-more)

    go : (gap : Bool) → is_gap next ≡ gap
        → CutsWords (next ∷ line) (filter has_bytes (cond gap ([] ∷ sections_of is_gap line) (before_first next (sections_of is_gap line))))
        → CutsWords (byte ∷ next ∷ line)
        (filter has_bytes (before_first byte (cond gap ([] ∷ sections_of is_gap line) (before_first next (sections_of is_gap line)))))
    go gap has1 cut = grind (arith, nat_tests, CutsWords-one, inner)

-- those words cut a line
pub CutsWords-words_of : (line : List ℕ) → CutsWords line (words_of line)
CutsWords-words_of [] = refl
CutsWords-words_of (byte ∷ line) = go (CutsWords-words_of line) (is_gap byte) refl
  where
    go : CutsWords line (words_of line) → (gap : Bool) → is_gap byte ≡ gap
        → CutsWords (byte ∷ line) (filter has_bytes (cond gap ([] ∷ sections_of is_gap line) (before_first byte (sections_of is_gap line))))
    go cut gap has2 = grind (arith, nat_tests, CutsWords-gap, CutsWords-byte)
