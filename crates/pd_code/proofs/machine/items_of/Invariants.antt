use Rattle.std.proofs.Common.{◌≤◌, take, vec_len}
use Rattle.pd_code.proofs.MachineReads.{LeadsTo}
use Rattle.pd_code.proofs.machine.items_of.Given as goal

-- the tokens so far lead the machine to the state and the items
abbrev pub invariant-loop-token : goal.invariant-loop-token
invariant-loop-token l = record {
  ran : LeadsTo l.text (take l.token-index l.tokens) l.state l.items.items;
  few : vec_len l.items ≤ l.token-index;
}
