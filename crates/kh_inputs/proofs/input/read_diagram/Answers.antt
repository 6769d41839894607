use Rattle.std.proofs.Common.{sym}
use Rattle.kh_inputs.proofs.TextFaults.{text-fault}
use Rattle.kh_inputs.proofs.input.read_diagram.Goals as goal

pub fault_refusal-requires : goal.fault_refusal-requires
fault_refusal-requires c = text-fault c.args.bytes.now c.in_ok-raw.raw c.in-Err.fault c.in_ok-raw.ensures.code (sym c.in-Err.ensures.fault)
