use Rattle.pd_code.proofs.AcceptedSlots.{HasFourSlots-accepted}
use Rattle.pd_code.proofs.PrintingLemmas.{IsPdReading-line, IsPdReading-pd_text}
use Rattle.pd_code.proofs.laws.printed_codes_are_read_back.Goals as goal

pub returns : goal.returns
returns c = record { text = IsPdReading-pd_text; line = IsPdReading-line; accepted = HasFourSlots-accepted }
