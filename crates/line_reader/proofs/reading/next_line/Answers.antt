use Rattle.std.proofs.Common.{◌+◌, [], ◌∷◌, ◌++◌, ap, subst, ◌∙◌, arith}
use Rattle.std.proofs.lemmas.Bool.Decides.{nat_tests}
use Rattle.std.proofs.lemmas.List.{length_push}
use Rattle.std.proofs.lemmas.Result.{err_from_is_err_and}
use Rattle.line_reader.specs.Advances.{IsNextByte, IsTakenFrom}
use Rattle.line_reader.proofs.LineReads.{IsOneTaken-byte, IsOneTaken-failed, IsOneTaken-none, IsPartRead-byte, IsPartRead-none, IsReadForLine-more, unread_before-feed}
use Rattle.line_reader.proofs.LineTakings.{HasNoLineFeed-push, IsAdvanced-byte, IsLineTaken-feed, IsStopped-byte, IsStopped-fault}
use Rattle.line_reader.proofs.reading.next_line.Goals as goal

-- a line feed ends the line
pub returns-in-Some-eq10-clause-line : goal.returns-in-Some-eq10-clause-line
returns-in-Some-eq10-clause-line g c =
    let part = c.bytes.invariant.part in
    IsLineTaken-feed _ _ _ _ _ _ part.0 c.bytes.line c.in_ok-next_byte.field-0 c.in-Some-eq10.field-0 part.2 part.1 part.4 c.in-Some-eq10.is
    c.in-Some-eq10.field-0-test c.in_ok-next_byte.ensures.byte

-- there is no memory for one byte more
pub returns-in_err-push-in-Some-clause-begun : goal.returns-in_err-push-in-Some-clause-begun
returns-in_err-push-in-Some-clause-begun g c =
    let part = c.bytes.invariant.part in
    let stop = err_from_is_err_and c.from_residual-in_err-push-in-Some.result c.from_residual-in_err-push-in-Some.ensures.1 in
    rw stop.1 (IsStopped-byte _ _ _ _ _ _ part.0 c.in_ok-next_byte.field-0 c.in-Some.byte stop.0 part.1 part.4 c.in-Some.is
    (grind (arith, nat_tests, c.in-Some.byte-test)) c.in_ok-next_byte.ensures.byte stop.2)

-- one byte more
pub bytes-preserved : goal.bytes-preserved
bytes-preserved g c =
    let part = c.bytes.invariant.part in
    record {
      part = (
        part.0 ++ c.in-Some.byte ∷ [],
        HasNoLineFeed-push part.0 c.in-Some.byte part.1 (grind (arith, nat_tests, c.in-Some.byte-test)),
        c.in_ok-push-in-Some.ensures part.0 part.2,
        length_push part.0 c.in-Some.byte ∙ ap (λ n. n + 1) part.3,
        IsAdvanced-byte _ _ _ _ _ _ part.0 c.in_ok-next_byte.field-0 c.in-Some.byte part.4 c.in-Some.is c.in_ok-next_byte.ensures.byte,
        IsPartRead-byte _ _ _ _ _ _ _ _ part.0 c.in-Some.byte part.1 part.5 (
            IsOneTaken-byte g.S.Source.left g.S.Source.reads c.bytes.buffered c.next_byte.new.self c.bytes.source c.next_byte.new.source
            c.in_ok-next_byte.field-0 c.in-Some.byte c.in-Some.is c.in_ok-next_byte.ensures.byte c.in_ok-next_byte.ensures.unread
            c.in_ok-next_byte.ensures.buffered c.in_ok-next_byte.ensures.size c.in_ok-next_byte.ensures.reads
            ),
      );
      stayed = c.in_ok-next_byte.ensures.cause.stayed ∙ c.bytes.invariant.stayed;
    }

-- the source fails
pub returns-in_err-next_byte-clause-begun : goal.returns-in_err-next_byte-clause-begun
returns-in_err-next_byte-clause-begun g c =
    let part = c.bytes.invariant.part in
    let stop = err_from_is_err_and c.from_residual.result c.from_residual.ensures.1 in
    rw stop.1 (IsStopped-fault _ _ _ _ _ _ part.0 stop.0 part.1 part.4 c.in_err-next_byte.ensures.failed
    c.in_err-next_byte.ensures.emptied stop.2)

-- how far the source is read there
pub returns-in_err-next_byte-clause-read : goal.returns-in_err-next_byte-clause-read
returns-in_err-next_byte-clause-read g c =
    let part = c.bytes.invariant.part in
    IsReadForLine-more g.S.Source.left g.S.Source.reads c.args.buffered.now c.bytes.buffered c.next_byte.new.self c.args.source.now c.bytes.source
    c.next_byte.new.source part.0 _ part.1 part.5
    (IsOneTaken-failed g.S.Source.left g.S.Source.reads c.bytes.buffered c.next_byte.new.self c.bytes.source c.next_byte.new.source
    c.in_err-next_byte.ensures.failed c.in_err-next_byte.ensures.unread c.in_err-next_byte.ensures.buffered
    c.in_err-next_byte.ensures.size c.in_err-next_byte.ensures.reads)

pub returns-in_err-next_byte-clause-unread : goal.returns-in_err-next_byte-clause-unread
returns-in_err-next_byte-clause-unread g c =
    unread_before-feed g.S.Source.left g.S.Source.reads c.args.buffered.now c.next_byte.new.self c.args.source.now c.next_byte.new.source (returns-in_err-next_byte-clause-read g c)

-- where a line feed ends the line
pub returns-in-Some-eq10-clause-read : goal.returns-in-Some-eq10-clause-read
returns-in-Some-eq10-clause-read g c =
    let part = c.bytes.invariant.part in
    IsReadForLine-more g.S.Source.left g.S.Source.reads c.args.buffered.now c.bytes.buffered c.next_byte.new.self c.args.source.now c.bytes.source
    c.next_byte.new.source part.0 _ part.1 part.5
    (IsOneTaken-byte g.S.Source.left g.S.Source.reads c.bytes.buffered c.next_byte.new.self c.bytes.source c.next_byte.new.source
    c.in_ok-next_byte.field-0 c.in-Some-eq10.field-0 c.in-Some-eq10.is c.in_ok-next_byte.ensures.byte c.in_ok-next_byte.ensures.unread
    c.in_ok-next_byte.ensures.buffered c.in_ok-next_byte.ensures.size c.in_ok-next_byte.ensures.reads)

pub returns-in-Some-eq10-clause-unread : goal.returns-in-Some-eq10-clause-unread
returns-in-Some-eq10-clause-unread g c =
    unread_before-feed g.S.Source.left g.S.Source.reads c.args.buffered.now c.next_byte.new.self c.args.source.now c.next_byte.new.source (returns-in-Some-eq10-clause-read g c)

-- where memory runs out
pub returns-in_err-push-in-Some-clause-read : goal.returns-in_err-push-in-Some-clause-read
returns-in_err-push-in-Some-clause-read g c =
    let part = c.bytes.invariant.part in
    IsReadForLine-more g.S.Source.left g.S.Source.reads c.args.buffered.now c.bytes.buffered c.next_byte.new.self c.args.source.now c.bytes.source
    c.next_byte.new.source part.0 _ part.1 part.5
    (IsOneTaken-byte g.S.Source.left g.S.Source.reads c.bytes.buffered c.next_byte.new.self c.bytes.source c.next_byte.new.source
    c.in_ok-next_byte.field-0 c.in-Some.byte c.in-Some.is c.in_ok-next_byte.ensures.byte c.in_ok-next_byte.ensures.unread
    c.in_ok-next_byte.ensures.buffered c.in_ok-next_byte.ensures.size c.in_ok-next_byte.ensures.reads)

pub returns-in_err-push-in-Some-clause-unread : goal.returns-in_err-push-in-Some-clause-unread
returns-in_err-push-in-Some-clause-unread g c =
    unread_before-feed g.S.Source.left g.S.Source.reads c.args.buffered.now c.next_byte.new.self c.args.source.now c.next_byte.new.source (returns-in_err-push-in-Some-clause-read g c)

-- at its end
pub returns-in-None-clause-read : goal.returns-in-None-clause-read
returns-in-None-clause-read g c =
    let part = c.bytes.invariant.part in
    IsReadForLine-more g.S.Source.left g.S.Source.reads c.args.buffered.now c.bytes.buffered c.next_byte.new.self c.args.source.now c.bytes.source
    c.next_byte.new.source part.0 _ part.1 part.5
    (IsOneTaken-none g.S.Source.left g.S.Source.reads c.bytes.buffered c.next_byte.new.self c.bytes.source c.next_byte.new.source
    (subst (IsNextByte _ _ _ _) c.in-None.is c.in_ok-next_byte.ensures.byte).0 c.in_ok-next_byte.ensures.unread
    (λ some.
    let first = subst (IsTakenFrom c.bytes.buffered c.next_byte.new.self) c.in-None.is (c.in_ok-next_byte.ensures.buffered some).1 in
    ((c.in_ok-next_byte.ensures.buffered some).0, first.0, first.1))
    c.in_ok-next_byte.ensures.size c.in_ok-next_byte.ensures.reads)

pub returns-in-None-clause-unread : goal.returns-in-None-clause-unread
returns-in-None-clause-unread g c =
    unread_before-feed g.S.Source.left g.S.Source.reads c.args.buffered.now c.next_byte.new.self c.args.source.now c.next_byte.new.source (returns-in-None-clause-read g c)

-- and at the limit
pub returns-clause-unread : goal.returns-clause-unread
returns-clause-unread g c =
    unread_before-feed g.S.Source.left g.S.Source.reads c.args.buffered.now c.bytes.buffered c.args.source.now c.bytes.source c.bytes.invariant.part.5.read
