-- Tokens that cut a text are read, and then what is behind them; so each text is cut in one way.
use Rattle.std.proofs.lemmas.Bool.Decides.{nat_tests}
use Rattle.std.proofs.Common.{◌≡◌, ℕ, zero, suc, ◌+◌, ◌≤◌, ◌↔◌, List, [], ◌∷◌, ◌++◌, length, drop, Ok, Err, refl, sym, ◌∙◌, ap, subst, arith, add-zero, append-nil, length-append, length-drop, true}
use Rattle.std.proofs.lemmas.Bool.{and_parts}
use Rattle.std.specs.List.{list_all}
use Rattle.kh_lex.specs.declared.stop.LexStop.{LexStop}
use Rattle.kh_lex.specs.declared.token.Token.{Token}
use Rattle.kh_lex.specs.Cuts.{Cuts, CutsTo, IsFault, IsFirstToken, SkipsBlanks, Stops, is_blank}
use Rattle.kh_lex.specs.Lexer.{preceded_by, tokens_of, tokens_within}
use Rattle.kh_lex.proofs.Cuttings.{IsLexed, drop-token, IsLexed-tokens_within}
use Rattle.kh_lex.proofs.LexerSteps.{preceded_by-append, preceded_by-none, tokens_within-none}
use Rattle.kh_lex.proofs.PieceReads.{HasNoBlank-fault, token_at-fault, HasNoBlank-token, token_at-token}
use Rattle.kh_lex.proofs.Pieces.{IsTokenAt}

-- from a text, within some steps, some tokens are read, and then what is behind them
record Reads (steps place : ℕ) (text : List ℕ) (tokens : List Token) (at : ℕ) (end : List ℕ) : Type 0 where
  pub left : ℕ
  pub enough : length end ≤ left
  pub same : tokens_within steps place text ≡ preceded_by tokens (tokens_within left at end)

-- one stretch behind another
Reads-append : (steps place at beyond : ℕ) (text middle end : List ℕ) (before behind : List Token) (first : Reads steps place text before at middle)
    → Reads first.left at middle behind beyond end → Reads steps place text (before ++ behind) beyond end
Reads-append steps place at beyond text middle end before behind first next = grind (arith, nat_tests, preceded_by-append)

-- a blank is passed over
tokens_within-blank : (steps place byte : ℕ) (text : List ℕ) → is_blank byte ≡ true → tokens_within (suc steps) place (byte ∷ text) ≡ tokens_within steps (place + 1) text
tokens_within-blank steps place byte text blank = rw blank (preceded_by-none (tokens_within steps (place + 1) text))

Reads-blanks : (steps place : ℕ) (blanks end : List ℕ) → list_all is_blank blanks ≡ true → length (blanks ++ end) ≤ steps
    → Reads steps place (blanks ++ end) [] (place + length blanks) end
Reads-blanks steps place [] end blank enough = record {
  left = steps;
  enough = enough;
  same = rw add-zero (sym (preceded_by-none (tokens_within steps place end)));
}
Reads-blanks zero place (byte ∷ blanks) end blank enough = absurd (omega arith)
Reads-blanks (suc steps) place (byte ∷ blanks) end blank enough =
    let parts = and_parts (is_blank byte) (list_all is_blank blanks) blank in
    let rest = Reads-blanks steps (place + 1) blanks end parts.1 (omega arith) in
    let moved : place + 1 + length blanks ≡ place + length (byte ∷ blanks) = omega arith in
    record {
      left = rest.left;
      enough = rest.enough;
      same = tokens_within-blank steps place byte (blanks ++ end) parts.0 ∙ rest.same
          ∙ ap (λ at. preceded_by [] (tokens_within rest.left at end)) moved;
    }

-- the first piece is read
Reads-token : (steps place : ℕ) (text : List ℕ) (token : Token) → IsTokenAt place text token → length text ≤ steps
    → Reads steps place text (token ∷ []) (place + token.length) (drop token.length text)
Reads-token steps place [] token s enough = let first = HasNoBlank-token place [] token s in absurd (omega (arith, first.some, first.within))
Reads-token zero place (byte ∷ text) token s enough = absurd (omega arith)
Reads-token (suc steps) place (byte ∷ text) token s enough =
    let first = HasNoBlank-token place (byte ∷ text) token s in
    record {
      left = steps;
      enough = omega (arith, length-drop token.length (byte ∷ text), first.some);
      same = rw (first.no_blank, token_at-token place (byte ∷ text) token s) refl;
    }

tokens_within-fault : (steps place : ℕ) (text : List ℕ) (stop : LexStop) → IsFault stop place text → length text ≤ steps → tokens_within steps place text ≡ Err stop
tokens_within-fault steps place [] stop fault enough = let within = (HasNoBlank-fault place [] stop fault).within in absurd (omega arith)
tokens_within-fault zero place (byte ∷ text) stop fault enough = absurd (omega arith)
tokens_within-fault (suc steps) place (byte ∷ text) stop fault enough = rw ((HasNoBlank-fault place (byte ∷ text) stop fault).no_blank, token_at-fault place (byte ∷ text) stop fault) refl

-- blanks lead to an end
Reads-skip : (steps place at : ℕ) (text end : List ℕ) (skip : SkipsBlanks text end) → at ≡ place + length skip.blanks → length text ≤ steps → Reads steps place text [] at end
Reads-skip steps place at text end skip begin enough = grind (arith, nat_tests, Reads-blanks)

-- the first token is read, with the blanks before it
Reads-first : (steps place : ℕ) (text rest : List ℕ) (token : Token) → IsFirstToken place text token rest → length text ≤ steps
    → Reads steps place text (token ∷ []) (token.place + token.length) rest
Reads-first steps place text rest token first enough =
    let skipped = Reads-skip steps place token.place text (first.bytes ++ rest) first.skip first.begin enough in
    let s : IsTokenAt token.place (first.bytes ++ rest) token
    = record { bytes = first.bytes; rest = rest; parts = refl; begin = refl; size = first.size; kind = first.kind; limit = first.limit } in
    Reads-append steps place token.place (token.place + token.length) text (first.bytes ++ rest) rest [] (token ∷ []) skipped
    (subst (Reads skipped.left token.place (first.bytes ++ rest) (token ∷ []) (token.place + token.length)) (drop-token token.place (first.bytes ++ rest) token s)
    (Reads-token skipped.left token.place (first.bytes ++ rest) token s skipped.enough))

-- a first token ends where the rest begins
place-first : (place : ℕ) (text rest : List ℕ) (token : Token) → IsFirstToken place text token rest → token.place + token.length + length rest ≡ place + length text
place-first place text rest token first = grind (arith, nat_tests, length-append)

-- what is cut is read, as far as it is cut
Reads-cut : (steps place : ℕ) (text end : List ℕ) (tokens : List Token) → CutsTo end place text tokens → length text ≤ steps
    → (at : ℕ) × (at + length end ≡ place + length text) × Reads steps place text tokens at end
Reads-cut steps place text end [] skip enough =
    grind (arith, nat_tests, length-append skip.blanks end, Reads-skip steps place (place + length skip.blanks) text end skip refl enough)
Reads-cut steps place text end (token ∷ tokens) cut enough =
    let first = Reads-first steps place text cut.0 token cut.1 enough in
    let rest = Reads-cut first.left (token.place + token.length) cut.0 end tokens cut.2 first.enough in (
      rest.0,
      rest.1 ∙ place-first place text cut.0 token cut.1,
      Reads-append steps place (token.place + token.length) rest.0 text cut.0 end (token ∷ []) tokens first rest.2,
    )

-- tokens cut a text exactly where they are its tokens
pub tokens_of-cut : (text : List ℕ) (tokens : List Token) → (tokens_of text ≡ Ok tokens) ↔ Cuts 0 text tokens
tokens_of-cut text tokens = (λ read. subst (IsLexed 0 text) read (IsLexed-tokens_within (length text) 0 text (omega arith)), back)
  where
    back : Cuts 0 text tokens → tokens_of text ≡ Ok tokens
    back cut =
        let reads = Reads-cut (length text) 0 text [] tokens cut (omega arith) in
        reads.2.same ∙ ap (preceded_by tokens) (tokens_within-none reads.2.left reads.0) ∙ ap Ok (append-nil tokens)

-- a fault is the first of a text exactly where it stands in the place of the tokens
pub tokens_of-stop : (text : List ℕ) (stop : LexStop) → (tokens_of text ≡ Err stop) ↔ Stops 0 text stop
tokens_of-stop text stop = (λ read. subst (IsLexed 0 text) read (IsLexed-tokens_within (length text) 0 text (omega arith)), back)
  where
    back : Stops 0 text stop → tokens_of text ≡ Err stop
    back stopped =
        let reads = Reads-cut (length text) 0 text stopped.end stopped.tokens stopped.cut (omega arith) in
        let here : stopped.at ≡ reads.0 = omega (arith, reads.1, stopped.begin) in
        reads.2.same ∙ ap (preceded_by stopped.tokens) (tokens_within-fault reads.2.left reads.0 stopped.end stop
        (subst (λ p. IsFault stop p stopped.end) here stopped.fault) reads.2.enough)

-- a text is cut in one way
pub Cuts-one : (text : List ℕ) (a b : List Token) → Cuts 0 text a → Cuts 0 text b → a ≡ b
Cuts-one text a b first second = grind (arith, nat_tests, tokens_of-cut)

-- a text with a first fault is not cut
pub Stops-uncut : (text : List ℕ) (stop : LexStop) (tokens : List Token) → Stops 0 text stop → ¬ Cuts 0 text tokens
Stops-uncut text stop tokens stopped cut = grind (arith, nat_tests, tokens_of-stop text stop, tokens_of-cut text tokens)
