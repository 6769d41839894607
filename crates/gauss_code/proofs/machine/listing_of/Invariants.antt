use Rattle.std.proofs.Common.{take}
use Rattle.gauss_code.proofs.MachineReads.{LeadsTo}
use Rattle.gauss_code.proofs.machine.listing_of.Given as goal

-- the tokens so far lead the machine to what it has read
abbrev pub invariant-loop-token : goal.invariant-loop-token
invariant-loop-token l = LeadsTo l.text (take l.token-index l.tokens) l.progress
