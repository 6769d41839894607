use Rattle.gauss_code.proofs.PrintedCodes.{IsGaussReading-gauss_text, IsGaussReading-line}
use Rattle.gauss_code.proofs.laws.printing.printed_codes_are_read_back.Goals as goal

pub returns : goal.returns
returns c = record { text = IsGaussReading-gauss_text; line = IsGaussReading-line }
