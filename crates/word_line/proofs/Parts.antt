-- From the machine to a line: the words that the machine takes are those of a line.
-- Each step is a part of the line, whose text is added (`Parses`), and no slot has two (`Distinct`).
use Rattle.std.proofs.lemmas.Bool.Decides.{nat_tests}
use Rattle.std.proofs.Common.{◌≡◌, inl, inr, Bool, false, List, [], ◌∷◌, ◌++◌, Option, Some, None, refl, sym, ap, subst, cond, ◌∙◌, arith, append-nil}
use Rattle.std.proofs.lemmas.List.Elements.{All-cons, All-nil}
use Rattle.std.proofs.lemmas.List.{append_assoc}
use Rattle.std.proofs.lemmas.Option.{none-some, option_and_then_some, same_Some}
use Rattle.std.proofs.lemmas.Slice.Eq.{bytes_eq-Decides}
use Rattle.std.specs.Prelude.{codes, flat_map}
use Rattle.std.specs.List.{All}
use Rattle.std.specs.Option.{option_map, option_and_then}
use Rattle.clap.specs.Lexer.{long_of}
use Rattle.clap.specs.Walk.{Text}
use Rattle.word_line.specs.Pieces.{IsEnd, Key, Piece, apart, joined, key_name, positional, written}
use Rattle.word_line.proofs.Rules.{IsSlot, Line, Slot}
use Rattle.word_line.proofs.Rows.{Use, has}
use Rattle.word_line.proofs.Machine.{Look, Mode, Sort, ending as as_end, long as as_name, short as as_flags, text as as_text, step, in_mode, sort_of, added, is_ending, is_long, is_short, is_text, look, option_step, ready, ready_step, sort_ending, sort_long, sort_short, sort_text, taken, trailing, value_step, waits}
use Rattle.word_line.proofs.Uses.{Distinct, distinct_push, use_of, uses_behind, uses_of}
use Rattle.word_line.proofs.Names.{long_of-is}

-- a part of a line: it is a positional, or the line knows its option
abbrev pub IsPart : (Key → Type 0) → Piece → Type 0
IsPart knows piece = IsSlot knows (use_of piece).0

module _ (line : Line) where
  -- what is left of the words after one that is read
  abbrev pub rest_of : List Text → Option (Mode × List Use) → Option (List Use)
  rest_of words next = option_and_then (λ (n : Mode × List Use). taken line n.0 n.1 words) next

  -- the words are parts, and these give the texts
  record Parsed (given : List Text) (before uses : List Use) : Type 0 where
    pieces : List Piece
    behind : List Text
    ending : List Text
    parts : given ≡ flat_map written pieces ++ ending
    end : IsEnd ending behind
    known : All (IsPart line.knows) pieces
    added_uses : uses ≡ before ++ (uses_of pieces ++ uses_behind behind)

  -- one more text, and then the rest
  taken_added : {P : Type 0} (mode : Mode) (uses : List Use) (slot : Slot) (value : Text) (words : List Text) (end : List Use)
      → option_and_then (λ (next : Mode × List Use). taken line next.0 next.1 words)
      (option_map (λ uses. (mode, uses)) (added uses slot value)) ≡ Some end
      → (has slot uses ≡ false → taken line mode (uses ++ (slot, value) ∷ []) words ≡ Some end → P) → P
  taken_added {P = P} mode uses slot value words end same then_this = go (has slot uses) refl same
    where
      go : (b : Bool) → has slot uses ≡ b
          → option_and_then (λ (next : Mode × List Use). taken line next.0 next.1 words)
          (option_map (λ uses. (mode, uses)) (cond b None (Some (uses ++ (slot, value) ∷ [])))) ≡ Some end → P
      go b is same = grind (arith, nat_tests)

  trailing_uses : (words : List Text) (before uses : List Use) → taken line trailing before words ≡ Some uses
      → uses ≡ before ++ uses_behind words
  trailing_uses [] before uses same = sym (same_Some before uses same) ∙ sym (append-nil before)
  trailing_uses (word ∷ words) before uses same =
      taken_added trailing before None word words uses same (λ none later.
      trailing_uses words (before ++ (None, word) ∷ []) uses later ∙ append_assoc before ((None, word) ∷ []) (uses_behind words))

  parsed_piece : (piece : Piece) (given : List Text) (before uses : List Use) → IsPart line.knows piece
      → Parsed given (before ++ use_of piece ∷ []) uses
      → Parsed (written piece ++ given) before uses
  parsed_piece piece given before uses known rest = record {
    pieces = piece ∷ rest.pieces;
    behind = rest.behind;
    ending = rest.ending;
    parts = ap (λ more. written piece ++ more) rest.parts ∙ sym (append_assoc (written piece) (flat_map written rest.pieces) rest.ending);
    end = rest.end;
    known = All-cons (IsPart line.knows) piece rest.pieces known rest.known;
    added_uses = rest.added_uses ∙ append_assoc before (use_of piece ∷ []) (uses_of rest.pieces ++ uses_behind rest.behind);
  }

  record Parses (words : List Text) : Type 0 where
    at_ready : (before uses : List Use) → taken line ready before words ≡ Some uses → Parsed words before uses
    at_waits : (before uses : List Use) (key : Key) → line.knows key → taken line (waits key) before words ≡ Some uses
        → Parsed ((codes "--" ++ key_name key) ∷ words) before uses

  parsed_nil : (before uses : List Use) → taken line ready before [] ≡ Some uses → Parsed [] before uses
  parsed_nil before uses same = record {
    pieces = [];
    behind = [];
    ending = [];
    parts = refl;
    end = inl (refl, refl);
    known = All-nil (IsPart line.knows);
    added_uses = sym (same_Some before uses same) ∙ sym (append-nil before);
  }

  parsed_option : (words : List Text) → Parses words → (before uses : List Use) (word name : Text) (value : Option Text)
      → long_of word ≡ Some (name, value)
      → (key : Option Key) → line.key_of name ≡ key → rest_of words (option_step before key value) ≡ Some uses
      → Parsed (word ∷ words) before uses
  parsed_option words rest before uses word name value is None named same = absurd (none-some uses same)
  parsed_option words rest before uses word name None is (Some key) named same =
      let key_is = line.key_of-is name key named in
      let word_is : word ≡ codes "--" ++ key_name key = long_of-is word name None is ∙ ap (λ n. codes "--" ++ n) key_is.0 in
      subst (λ w. Parsed (w ∷ words) before uses) (sym word_is) (rest.at_waits before uses key key_is.1 same)
  parsed_option words rest before uses word name (Some value) is (Some key) named same =
      let key_is = line.key_of-is name key named in
      let word_is : word ≡ codes "--" ++ (key_name key ++ (codes "=" ++ value)) =
      long_of-is word name (Some value) is ∙ ap (λ n. codes "--" ++ (n ++ (codes "=" ++ value))) key_is.0 in
      taken_added ready before (Some key) value words uses same (λ none later.
      subst (λ w. Parsed (w ∷ words) before uses) (sym word_is)
      (parsed_piece (joined key value) words before uses key_is.1 (rest.at_ready (before ++ (Some key, value) ∷ []) uses later)))

  parsed_ready : (word : Text) (words : List Text) → Parses words → (before uses : List Use) → Look word
      → taken line ready before (word ∷ words) ≡ Some uses → Parsed (word ∷ words) before uses
  parsed_ready word words rest before uses (is_ending is) same =
      let word_is : word ≡ codes "--" = (bytes_eq-Decides word (45 ∷ 45 ∷ [])).0 is in
      let later = ap (λ sort. rest_of words (ready_step line before sort word)) (sym (sort_ending word is)) ∙ same in
      record {
        pieces = [];
        behind = words;
        ending = word ∷ words;
        parts = refl;
        end = inr (ap (λ w. w ∷ words) word_is);
        known = All-nil (IsPart line.knows);
        added_uses = trailing_uses words before uses later;
      }
  parsed_ready word words rest before uses (is_long dashes name value is) same =
      parsed_option words rest before uses word name value is (line.key_of name) refl
      (ap (λ sort. rest_of words (ready_step line before sort word)) (sym (sort_long word name value dashes is)) ∙ same)
  parsed_ready word words rest before uses (is_short dashes no_name flags is x head) same =
      absurd (none-some uses (ap (λ sort. rest_of words (ready_step line before sort word))
      (sym (sort_short word flags x dashes no_name is head)) ∙ same))
  parsed_ready word words rest before uses (is_text is) same =
      taken_added ready before None word words uses
      (ap (λ sort. rest_of words (ready_step line before sort word)) (sym (sort_text word is)) ∙ same) (λ none later.
      parsed_piece (positional word) words before uses tt (rest.at_ready (before ++ (None, word) ∷ []) uses later))

  parsed_waits : (word : Text) (words : List Text) → Parses words → (before uses : List Use) (key : Key) → line.knows key → Look word
      → taken line (waits key) before (word ∷ words) ≡ Some uses → Parsed ((codes "--" ++ key_name key) ∷ word ∷ words) before uses
  parsed_waits word words rest before uses key known (is_ending is) same =
      absurd (none-some uses (ap (λ sort. rest_of words (value_step before key sort word)) (sym (sort_ending word is)) ∙ same))
  parsed_waits word words rest before uses key known (is_long dashes name value is) same =
      absurd (none-some uses (ap (λ sort. rest_of words (value_step before key sort word)) (sym (sort_long word name value dashes is))
      ∙ same))
  parsed_waits word words rest before uses key known (is_short dashes no_name flags is x head) same =
      absurd (none-some uses (ap (λ sort. rest_of words (value_step before key sort word))
      (sym (sort_short word flags x dashes no_name is head)) ∙ same))
  parsed_waits word words rest before uses key known (is_text is) same =
      taken_added ready before (Some key) word words uses
      (ap (λ sort. rest_of words (value_step before key sort word)) (sym (sort_text word is)) ∙ same) (λ none later.
      parsed_piece (apart key word) words before uses known (rest.at_ready (before ++ (Some key, word) ∷ []) uses later))

  parses : (words : List Text) → Parses words
  parses [] = record { at_ready = parsed_nil; at_waits = λ before uses key known same. absurd (none-some uses same) }
  parses (word ∷ words) =
      let rest = parses words in
      record {
        at_ready = λ before uses same. parsed_ready word words rest before uses (look word) same;
        at_waits = λ before uses key known same. parsed_waits word words rest before uses key known (look word) same;
      }

  -- no slot has two texts
  distinct_taken : (words : List Text) (mode : Mode) (before uses : List Use) → Distinct before → taken line mode before words ≡ Some uses
      → Distinct uses
  distinct_taken [] ready before uses distinct same = subst Distinct (same_Some before uses same) distinct
  distinct_taken [] trailing before uses distinct same = subst Distinct (same_Some before uses same) distinct
  distinct_taken [] (waits key) before uses distinct same = absurd (none-some uses same)
  distinct_taken (word ∷ words) mode before uses distinct same =
      option_and_then_some (λ (next : Mode × List Use). taken line next.0 next.1 words) (step line mode before word) uses same
      (λ next is later.
      distinct_taken words next.0 next.1 uses (distinct_step mode before word next distinct is) later)
    where
      distinct_added : (mode : Mode) (slot : Slot) (value : Text) (before : List Use) (next : Mode × List Use) → Distinct before
          → in_mode mode (added before slot value) ≡ Some next → Distinct next.1
      distinct_added mode slot value before next distinct same = go (has slot before) refl same
        where
          go : (b : Bool) → has slot before ≡ b → in_mode mode (cond b None (Some (before ++ (slot, value) ∷ []))) ≡ Some next
              → Distinct next.1
          go b is same = grind (arith, nat_tests, none-some, Mode, Use, Distinct, same_Some, distinct_push)

      distinct_option : (key : Option Key) (value : Option Text) (before : List Use) (next : Mode × List Use) → Distinct before
          → option_step before key value ≡ Some next → Distinct next.1
      distinct_option key value before next distinct same =
          grind (arith, nat_tests, none-some, Mode, Use, Distinct, same_Some, distinct_added, ready)

      distinct_ready : (sort : Sort) (before : List Use) (word : Text) (next : Mode × List Use) → Distinct before
          → ready_step line before sort word ≡ Some next → Distinct next.1
      distinct_ready as_end before word next distinct same = subst (λ (n : Mode × List Use). Distinct n.1) (same_Some _ next same) distinct
      distinct_ready (as_name name value) before word next distinct same =
          distinct_option (line.key_of name) value before next distinct same
      distinct_ready as_flags before word next distinct same = absurd (none-some next same)
      distinct_ready as_text before word next distinct same = distinct_added ready None word before next distinct same

      distinct_value : (sort : Sort) (key : Key) (before : List Use) (word : Text) (next : Mode × List Use) → Distinct before
          → value_step before key sort word ≡ Some next → Distinct next.1
      distinct_value as_text key before word next distinct same = distinct_added ready (Some key) word before next distinct same
      distinct_value _ key before word next distinct same = absurd (none-some next same)

      distinct_step : (mode : Mode) (before : List Use) (word : Text) (next : Mode × List Use) → Distinct before
          → step line mode before word ≡ Some next → Distinct next.1
      distinct_step mode before word next distinct same =
          grind (arith, nat_tests, ready, distinct_ready, sort_of, waits, distinct_value, trailing, distinct_added)

  -- texts that the machine takes are those of a line, and no slot has two
  pub record TakesLine (words : List Text) (uses : List Use) : Type 0 where
    pub pieces : List Piece
    pub behind : List Text
    pub ending : List Text
    pub parts : words ≡ flat_map written pieces ++ ending
    pub end : IsEnd ending behind
    pub known : All (IsPart line.knows) pieces
    pub is : uses ≡ uses_of pieces ++ uses_behind behind
    pub distinct : Distinct uses

  pub taken_line : (words : List Text) (uses : List Use) → taken line ready [] words ≡ Some uses → TakesLine words uses
  taken_line words uses same =
      let parsed = (parses words).at_ready [] uses same in
      record {
        pieces = parsed.pieces;
        behind = parsed.behind;
        ending = parsed.ending;
        parts = parsed.parts;
        end = parsed.end;
        known = parsed.known;
        is = parsed.added_uses;
        distinct = distinct_taken words ready [] uses (λ slot. omega arith) same;
      }
