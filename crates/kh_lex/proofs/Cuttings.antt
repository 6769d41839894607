-- Tokens cut a text where they are its tokens, and a fault is the first of a text where it stands in their place.
use Rattle.std.proofs.lemmas.Bool.Decides.{nat_tests}
use Rattle.std.proofs.Common.{◌≡◌, ℕ, zero, suc, ◌+◌, ◌<◌, ◌≤◌, Bool, true, false, cond, List, [], ◌∷◌, ◌++◌, length, drop, Result, Ok, Err, Some, None, refl, sym, ◌∙◌, ap, subst, arith, length-drop}
use Rattle.std.proofs.Math.Seq.{drop-append_seam}
use Rattle.std.proofs.lemmas.Bool.{and_from}
use Rattle.std.specs.List.{list_all}
use Rattle.std.specs.Result.{result_map_both}
use Rattle.kh_lex.specs.declared.stop.LexStop.{LexStop}
use Rattle.kh_lex.specs.declared.token.Token.{Token}
use Rattle.kh_lex.specs.Cuts.{Cuts, CutsTo, SkipsBlanks, Stops, begins_with, is_blank}
use Rattle.kh_lex.specs.Lexer.{followed_by, preceded_by, token_at, tokens_within}
use Rattle.kh_lex.proofs.PieceReads.{HasNoBlank-token}
use Rattle.kh_lex.proofs.Pieces.{IsPieceAt, IsTokenAt, IsPieceAt-token_at}

-- tokens cut a text, or a fault is its first
abbrev pub IsLexed : ℕ → List ℕ → Result (List Token) LexStop → Type 0
IsLexed place text (Ok tokens) = Cuts place text tokens
IsLexed place text (Err stop) = Stops place text stop

-- one more blank
abbrev pub skip-cons : (byte : ℕ) (text end : List ℕ) → is_blank byte ≡ true → SkipsBlanks text end → SkipsBlanks (byte ∷ text) end
skip-cons byte text end blank skip = record {
  blanks = byte ∷ skip.blanks;
  parts = ap (λ t. byte ∷ t) skip.parts;
  blank = and_from (is_blank byte) (list_all is_blank skip.blanks) blank skip.blank;
}

CutsTo-blank : (byte place : ℕ) (text end : List ℕ) (tokens : List Token) → is_blank byte ≡ true → CutsTo end (place + 1) text tokens → CutsTo end place (byte ∷ text) tokens
CutsTo-blank byte place text end [] blank cut = skip-cons byte text end blank cut
CutsTo-blank byte place text end (token ∷ tokens) blank cut =
    let first = cut.1 in (
      cut.0,
      record {
        bytes = first.bytes;
        skip = skip-cons byte text (first.bytes ++ cut.0) blank first.skip;
        begin = omega (arith, first.begin);
        size = first.size;
        kind = first.kind;
        limit = first.limit;
      },
      cut.2,
    )

IsLexed-blank : (byte place : ℕ) (text : List ℕ) (r : Result (List Token) LexStop) → is_blank byte ≡ true → IsLexed (place + 1) text r → IsLexed place (byte ∷ text) (preceded_by [] r)
IsLexed-blank byte place text r blank cut = grind (arith, nat_tests, CutsTo-blank)

-- what is behind the bytes of a token
pub drop-token : (place : ℕ) (text : List ℕ) (token : Token) (s : IsTokenAt place text token) → drop token.length text ≡ s.rest
drop-token place text token s = ap (drop token.length) s.parts ∙ ap (λ n. drop n (s.bytes ++ s.rest)) s.size ∙ drop-append_seam s.bytes s.rest

-- one more token
CutsTo-token : (place : ℕ) (text end : List ℕ) (token : Token) (tokens : List Token) → IsTokenAt place text token
    → CutsTo end (place + token.length) (drop token.length text) tokens → CutsTo end place text (token ∷ tokens)
CutsTo-token place text end token tokens s cut = (
  s.rest,
  record {
    bytes = s.bytes;
    skip = record { blanks = []; parts = s.parts; blank = refl };
    begin = omega (arith, s.begin);
    size = s.size;
    kind = s.kind;
    limit = s.limit;
  },
  subst (λ rest. CutsTo end (token.place + token.length) rest tokens) (drop-token place text token s)
      (subst (λ p. CutsTo end (p + token.length) (drop token.length text) tokens) (sym s.begin) cut),
)

IsLexed-token : (place : ℕ) (text : List ℕ) (token : Token) (r : Result (List Token) LexStop) → IsTokenAt place text token
    → IsLexed (place + token.length) (drop token.length text) r → IsLexed place text (preceded_by (token ∷ []) r)
IsLexed-token place text token (Ok tokens) s cut = CutsTo-token place text [] token tokens s cut
IsLexed-token place text token (Err stop) s stopped = record {
  tokens = token ∷ stopped.tokens;
  end = stopped.end;
  cut = CutsTo-token place text stopped.end token stopped.tokens s stopped.cut;
  at = stopped.at;
  begin = let first = HasNoBlank-token place text token s in omega (arith, stopped.begin, length-drop token.length text, first.within);
  fault = stopped.fault;
}

-- the first piece, and what is read behind it
IsLexed-piece : (steps place : ℕ) (text : List ℕ) → 0 < length text → begins_with is_blank text ≡ false → (r : Result Token LexStop) → IsPieceAt place text r
    → ((at : ℕ) (end : List ℕ) → length end ≤ steps → IsLexed at end (tokens_within steps at end)) → length text ≤ suc steps
    → IsLexed place text (followed_by (result_map_both Some (λ stop. stop) r) (λ n. tokens_within steps (place + n) (drop n text)))
IsLexed-piece steps place text some no_blank (Ok token) s rest enough =
    grind (arith, nat_tests, HasNoBlank-token, IsLexed-token, length-drop)
IsLexed-piece steps place text some no_blank (Err stop) fault rest enough = record {
  tokens = [];
  end = text;
  cut = record { blanks = []; parts = refl; blank = refl };
  at = place;
  begin = refl;
  fault = fault;
}

-- what is read is what the definition says
pub IsLexed-tokens_within : (steps place : ℕ) (text : List ℕ) → length text ≤ steps → IsLexed place text (tokens_within steps place text)
IsLexed-tokens_within zero place [] enough = record { blanks = []; parts = refl; blank = refl }
IsLexed-tokens_within zero place (byte ∷ text) enough = absurd (omega arith)
IsLexed-tokens_within (suc steps) place [] enough = record { blanks = []; parts = refl; blank = refl }
IsLexed-tokens_within (suc steps) place (byte ∷ text) enough = go (is_blank byte) refl (IsLexed-tokens_within steps)
  where
    go : (blank : Bool) → is_blank byte ≡ blank → ((at : ℕ) (end : List ℕ) → length end ≤ steps → IsLexed at end (tokens_within steps at end))
        → IsLexed place (byte ∷ text) (followed_by (cond blank (Ok None) (result_map_both Some (λ stop. stop) (token_at place (byte ∷ text))))
        (λ n. tokens_within steps (place + n) (drop n (byte ∷ text))))
    go true blank rest = IsLexed-blank byte place text (tokens_within steps (place + 1) text) blank (rest (place + 1) text (omega arith))
    go false no_blank rest =
        IsLexed-piece steps place (byte ∷ text) (omega arith) no_blank (token_at place (byte ∷ text)) (IsPieceAt-token_at place (byte ∷ text) (omega arith) no_blank) rest enough
