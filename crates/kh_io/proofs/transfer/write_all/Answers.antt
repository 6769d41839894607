use Rattle.std.proofs.Common.{◌+◌, rules}
use Rattle.kh_io.proofs.KnownBytes.{Appends-more}
use Rattle.kh_io.proofs.transfer.write_all.Goals as goal

pub writing-preserved : goal.writing-preserved
writing-preserved g c = record {
  prefix = Appends-more _ _ _ _ _ _ c.writing.invariant.prefix c.in_ok-at.ensures.taken;
  inside = search rules;
  stayed = search rules;
  same = search rules;
}

-- a write that failed has added a prefix of what was left
pub returns-in_err-at-clause-prefix : goal.returns-in_err-at-clause-prefix
returns-in_err-at-clause-prefix g c = record {
  count = c.writing.at + c.in_err-at.ensures.prefix.count;
  written = Appends-more _ _ _ _ _ _ c.writing.invariant.prefix c.in_err-at.ensures.prefix.written;
}
