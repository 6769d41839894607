-- A text of which a prefix is cut into tokens.
use Rattle.std.proofs.lemmas.Bool.Decides.{nat_tests}
use Rattle.std.proofs.Common.{◌≡◌, ℕ, zero, suc, ◌+◌, ◌-◌, ◌<◌, ◌≤◌, List, [], ◌++◌, length, drop, Option, Result, Ok, Err, sym, ◌∙◌, ap, refl, arith, append_assoc, All, length-drop, length-append, IfSome}
use Rattle.std.proofs.Math.ListN.{drop_of_length-le}
use Rattle.std.proofs.Math.Seq.{drop-cons}
use Rattle.std.proofs.lemmas.List.{append-nil, drop-drop}
use Rattle.std.proofs.lemmas.List.Elements.{All-append, All-nil, All-push}
use Rattle.kh_lex.proofs.PieceReads.{HasNoBlank-token}
use Rattle.kh_lex.proofs.Pieces.{IsTokenAt, IsTokenAt-piece}
use Rattle.std.specs.Option.{option_to_list}
use Rattle.kh_lex.specs.declared.token.Token.{Token}
use Rattle.kh_lex.specs.declared.stop.LexStop.{LexStop}
use Rattle.kh_lex.specs.Lexer.{piece_at, piece_length, EndsWithin, followed_by, preceded_by, tokens_of, tokens_within}

-- the tokens so far, with those of the text from a place on, are the tokens of the text; they end before the place
pub record IsCut (text : List ℕ) (place : ℕ) (tokens : List Token) : Type 0 where
  pub steps : ℕ
  pub enough : length text ≤ place + steps
  pub whole : preceded_by tokens (tokens_within steps place (drop place text)) ≡ tokens_of text
  pub inside : place ≤ length text
  pub within : All (EndsWithin (length text)) tokens
  pub few : length tokens ≤ place

pub preceded_by-none : (r : Result (List Token) LexStop) → preceded_by [] r ≡ r
preceded_by-none r = grind (arith, nat_tests)

pub preceded_by-append : (first more : List Token) (r : Result (List Token) LexStop) → preceded_by first (preceded_by more r) ≡ preceded_by (first ++ more) r
preceded_by-append first more (Ok tokens) = ap Ok (sym (append_assoc first more tokens))
preceded_by-append first more (Err stop) = refl

-- before the first piece
pub IsCut-begin : (text : List ℕ) → IsCut text 0 []
IsCut-begin text = grind (arith, nat_tests, preceded_by-none (tokens_of text), All-nil (EndsWithin (length text)))

-- a step from a place where something is left
tokens_within-step : (steps place : ℕ) (text : List ℕ) → place < length text → tokens_within (suc steps) place (drop place text)
    ≡ followed_by (piece_at place (drop place text)) (λ n. tokens_within steps (place + n) (drop n (drop place text)))
tokens_within-step steps place text left = rw (drop-cons text place 0) refl

-- a piece takes a byte or more, and none that is not there
pub piece_length-bounds : (place : ℕ) (text : List ℕ) (piece : Option Token) → 0 < length text → IfSome piece (IsTokenAt place text) → (0 < piece_length piece) × (piece_length piece ≤ length text)
piece_length-bounds place text piece some here = grind (arith, nat_tests, here, HasNoBlank-token)

-- the token that a piece is ends within the text
All-piece : (place size : ℕ) (text : List ℕ) (piece : Option Token) → place + length text ≤ size → IfSome piece (IsTokenAt place text) → All (EndsWithin size) (option_to_list piece)
All-piece place size text piece room here = grind (arith, nat_tests, size, here, All-nil, All-push, HasNoBlank-token)

-- a piece is one token at most
length-option_to_list : (piece : Option Token) → length (option_to_list piece) ≤ 1
length-option_to_list piece = grind (arith, nat_tests)

-- a piece is taken
pub IsCut-piece : (text : List ℕ) (place : ℕ) (tokens : List Token) (piece : Option Token)
    → place < length text → piece_at place (drop place text) ≡ Ok piece → IsCut text place tokens
    → IsCut text (place + piece_length piece) (tokens ++ option_to_list piece)
IsCut-piece text place tokens piece left read cut = go cut.steps cut.enough cut.whole
  where
    size : length (drop place text) ≡ length text - place
    size = length-drop place text

    here : IfSome piece (IsTokenAt place (drop place text))
    here = IsTokenAt-piece place (drop place text) piece read (omega (arith, size))

    bounds : (0 < piece_length piece) × (piece_length piece ≤ length (drop place text))
    bounds = piece_length-bounds place (drop place text) piece (omega (arith, size)) here

    step : (steps : ℕ) → tokens_within (suc steps) place (drop place text)
        ≡ preceded_by (option_to_list piece) (tokens_within steps (place + piece_length piece) (drop (place + piece_length piece) text))
    step steps = grind (arith, nat_tests, tokens_within-step, drop-drop)

    go : (steps : ℕ) → length text ≤ place + steps → preceded_by tokens (tokens_within steps place (drop place text)) ≡ tokens_of text
        → IsCut text (place + piece_length piece) (tokens ++ option_to_list piece)
    go zero enough whole = absurd (omega arith)
    go (suc steps) enough whole = record {
      steps = steps;
      enough = omega (arith, bounds.0);
      whole = sym (preceded_by-append tokens (option_to_list piece) _) ∙ sym (ap (preceded_by tokens) (step steps)) ∙ whole;
      inside = omega (arith, bounds.1, size);
      within = All-append (EndsWithin (length text)) tokens (option_to_list piece) cut.within
          (All-piece place (length text) (drop place text) piece (omega (arith, size)) here);
      few = omega (arith, cut.few, bounds.0, length-append tokens (option_to_list piece), length-option_to_list piece);
    }

-- a fault stands there
pub tokens_of-fault : (text : List ℕ) (place : ℕ) (tokens : List Token) (stop : LexStop)
    → place < length text → piece_at place (drop place text) ≡ Err stop → IsCut text place tokens → tokens_of text ≡ Err stop
tokens_of-fault text place tokens stop left read cut = go cut.steps cut.enough cut.whole
  where
    go : (steps : ℕ) → length text ≤ place + steps → preceded_by tokens (tokens_within steps place (drop place text)) ≡ tokens_of text → tokens_of text ≡ Err stop
    go zero enough whole = absurd (omega arith)
    go (suc steps) enough whole = grind (arith, nat_tests, tokens_within-step)

-- nothing is read where nothing is left
pub tokens_within-none : (steps place : ℕ) → tokens_within steps place [] ≡ Ok []
tokens_within-none steps place = grind (arith, nat_tests)

-- nothing is left
pub tokens_of-end : (text : List ℕ) (place : ℕ) (tokens : List Token) → length text ≤ place → IsCut text place tokens → tokens_of text ≡ Ok tokens
tokens_of-end text place tokens end cut = grind (arith, nat_tests, drop_of_length-le, tokens_within-none, append-nil)
