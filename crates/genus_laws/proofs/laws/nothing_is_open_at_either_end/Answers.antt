use Rattle.std.proofs.Common.{arith}
use Rattle.genus_laws.proofs.CutEnds.{Lead-first, opens-last}
use Rattle.genus_laws.proofs.laws.nothing_is_open_at_either_end.Goals as goal

pub returns-clause-first : goal.returns-clause-first
returns-clause-first c = Lead-first

pub returns-clause-ends : goal.returns-clause-ends
returns-clause-ends c = λ crossings choice x coloured. opens-last crossings choice 1 0 x coloured (omega arith)

pub returns-clause-starts : goal.returns-clause-starts
returns-clause-starts c = λ crossings choice x coloured. opens-last crossings choice 0 1 x coloured (omega arith)
