use Rattle.std.proofs.Common.{inl, inr, refl, ap, subst, Err}
use Rattle.std.proofs.lemmas.Result.{err_from_is_err_and}
use Rattle.line_reader.specs.Advances.{IsNextLine}
use Rattle.line_reader.specs.declared.reading.NextLine.{NextLine}
use Rattle.line_answers.proofs.list.answer_next.Goals as goal

-- there is no next line
pub returns-in_err-line-clause-turn : goal.returns-in_err-line-clause-turn
returns-in_err-line-clause-turn g c =
    let stop = err_from_is_err_and c.from_residual.result c.from_residual.ensures.1 in
    rw stop.1 (inl (
      c.in_err-line.field-0.0,
      stop.2,
      record {
        stopped = c.in_err-line.ensures.begun;
        rose = λ is. c.in_err-line.ensures.fault (ap Err is);
        stayed = λ other. c.in_err-line.ensures.stayed (λ is. other (cc));
        unwritten = refl;
      },
    ))

-- a line is not answered whole
pub returns-in_err-whole-in-Ended-clause-turn : goal.returns-in_err-whole-in-Ended-clause-turn
returns-in_err-whole-in-Ended-clause-turn g c =
    let stop = err_from_is_err_and c.from_residual-in_err-whole-in-Ended.result c.from_residual-in_err-whole-in-Ended.ensures.1 in
    let Next : NextLine → Type 0 =
    IsNextLine c.args.buffered.now c.next_line.new.buffered (g.S.Source.left c.args.source.now) (g.S.Source.left c.next_line.new.source) in
    let line = subst Next c.in-Ended.is c.in_ok-line.ensures.line in
    rw stop.1 (inr (inl (
      c.in_err-whole-in-Ended.field-0.0,
      stop.2,
      record {
        found = c.in-Ended.line;
        taken = line;
        answered = c.in_err-whole-in-Ended.ensures.answered line.line line.kept_of;
        source_stayed = c.in_ok-line.ensures.stayed (λ bad. cc);
        rose = λ is. c.in_err-whole-in-Ended.ensures.fault (ap Err is);
        stayed = λ other. c.in_err-whole-in-Ended.ensures.stayed (λ is. other (cc));
      },
    )))

-- nor is the last one
pub returns-in_err-whole-in-Last-clause-turn : goal.returns-in_err-whole-in-Last-clause-turn
returns-in_err-whole-in-Last-clause-turn g c =
    let stop = err_from_is_err_and c.from_residual-in_err-whole-in-Last.result c.from_residual-in_err-whole-in-Last.ensures.1 in
    let Next : NextLine → Type 0 =
    IsNextLine c.args.buffered.now c.next_line.new.buffered (g.S.Source.left c.args.source.now) (g.S.Source.left c.next_line.new.source) in
    let line = subst Next c.in-Last.is c.in_ok-line.ensures.line in
    rw stop.1 (inr (inr (
      c.in_err-whole-in-Last.field-0.0,
      stop.2,
      record {
        found = c.in-Last.line;
        taken = line.0;
        answered = c.in_err-whole-in-Last.ensures.answered line.0.line line.0.kept_of;
        source_stayed = c.in_ok-line.ensures.stayed (λ bad. cc);
        rose = λ is. c.in_err-whole-in-Last.ensures.fault (ap Err is);
        stayed = λ other. c.in_err-whole-in-Last.ensures.stayed (λ is. other (cc));
      },
      line.1,
    )))

-- a line is answered
pub returns-in_ok-whole-in-Ended-clause-turn : goal.returns-in_ok-whole-in-Ended-clause-turn
returns-in_ok-whole-in-Ended-clause-turn g c =
    let Next : NextLine → Type 0 =
    IsNextLine c.args.buffered.now c.next_line.new.buffered (g.S.Source.left c.args.source.now) (g.S.Source.left c.next_line.new.source) in
    let line = subst Next c.in-Ended.is c.in_ok-line.ensures.line in
    record {
      found = c.in-Ended.line;
      taken = line;
      answered = c.in_ok-whole-in-Ended.ensures.answered line.line line.kept_of;
      source_stayed = c.in_ok-line.ensures.stayed (λ bad. cc);
      sink_stayed = c.in_ok-whole-in-Ended.ensures.stayed (λ bad. cc);
    }

-- and the last one
pub returns-in_ok-whole-in-Last-clause-turn : goal.returns-in_ok-whole-in-Last-clause-turn
returns-in_ok-whole-in-Last-clause-turn g c =
    let Next : NextLine → Type 0 =
    IsNextLine c.args.buffered.now c.next_line.new.buffered (g.S.Source.left c.args.source.now) (g.S.Source.left c.next_line.new.source) in
    let line = subst Next c.in-Last.is c.in_ok-line.ensures.line in (
      record {
        found = c.in-Last.line;
        taken = line.0;
        answered = c.in_ok-whole-in-Last.ensures.answered line.0.line line.0.kept_of;
        source_stayed = c.in_ok-line.ensures.stayed (λ bad. cc);
        sink_stayed = c.in_ok-whole-in-Last.ensures.stayed (λ bad. cc);
      },
      line.1,
    )
