use Rattle.std.proofs.Common.{◌∙◌, sym}
use Rattle.cancel_log.proofs.StartLines.{names-refused, names-unread, ok-not_none}
use Rattle.cancel_log.proofs.start.diagram_of.Goals as goal

pub returns-in-Ok-clause-none : goal.returns-in-Ok-clause-none
returns-in-Ok-clause-none c = λ none.
    names-refused c.args.text.now c.in-Ok.raw (c.in-Ok.ensures.reads (λ is. absurd (cc)))
    (λ is. ok-not_none c.try_new.result (c.try_new.ensures.accepted.1 is) (sym c.ok.ensures.value ∙ none))

pub returns-in_default : goal.returns-in_default
returns-in_default c = record {
  some = tt;
  none = λ same.
      names-unread c.args.text.now c.in-Err.stop (c.in-Err.ensures.reads (λ is. c.in_default.not-NoMemory (cc)));
}
