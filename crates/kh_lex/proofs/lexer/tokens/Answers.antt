use Rattle.std.proofs.lemmas.Bool.Decides.{nat_tests}
use Rattle.std.proofs.Common.{◌≡◌, Err, drop, sym, ◌∙◌, ap, arith}
use Rattle.std.proofs.lemmas.Result.{err_from_is_err_and}
use Rattle.kh_lex.specs.Lexer.{piece_at}
use Rattle.kh_lex.proofs.CutReads.{tokens_of-cut, tokens_of-stop}
use Rattle.kh_lex.proofs.LexerSteps.{IsCut-begin, IsCut-piece, tokens_of-fault, tokens_of-end}
use Rattle.kh_lex.proofs.lexer.tokens.Goals as goal

-- nothing is cut yet
pub loop-place-init : goal.loop-place-init
loop-place-init c = rw c.new-tokens.ensures.items (IsCut-begin c.args.text.now)

-- a piece is taken
pub loop-place-preserved : goal.loop-place-preserved
loop-place-preserved = grind (arith, nat_tests, IsCut-piece)

-- a fault stands there
pub returns-in_err-piece-clause-fault : goal.returns-in_err-piece-clause-fault
returns-in_err-piece-clause-fault c =
    let read : piece_at c.loop-place.place (drop c.loop-place.place c.args.text.now) ≡ Err c.in_err-piece.field-0.0
    = ap (piece_at c.loop-place.place) (sym c.rest_from.ensures) ∙ sym c.piece_at.ensures ∙ c.in_err-piece.was in
    let p = err_from_is_err_and c.from_residual.result c.from_residual.ensures.1 in
    rw (p.1, p.2) (λ some. (tokens_of-stop c.args.text.now c.in_err-piece.field-0.0).0
    (tokens_of-fault c.args.text.now c.loop-place.place c.loop-place.tokens.items c.in_err-piece.field-0.0 (omega arith) read c.loop-place.invariant))

-- nothing is left
pub returns-clause-cut : goal.returns-clause-cut
returns-clause-cut c = (tokens_of-cut c.args.text.now c.loop-place.tokens.items).0
    (tokens_of-end c.args.text.now c.loop-place.place c.loop-place.tokens.items (omega arith) c.loop-place.invariant)
