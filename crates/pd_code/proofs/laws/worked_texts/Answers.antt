use Rattle.std.proofs.Common.{[], codes, refl}
use Rattle.std.specs.Fmt.{digits}
use Rattle.pd_code.proofs.ReadingLemmas.{IsPdReading-reading_of}
use Rattle.pd_code.proofs.laws.worked_texts.Goals as goal

-- each text is read and printed by computing
pub returns : goal.returns
unfolding digits
returns c = record {
  trefoil = IsPdReading-reading_of (codes "PD[X[1,4,2,5],X[3,6,4,1],\r\n\tX[5,2,6,3]]");
  loops = IsPdReading-reading_of (codes "PD[Loop[1], Loop[-1]]");
  no_arc = IsPdReading-reading_of (codes "PD[X[1,-1,2,257]]");
  nothing = IsPdReading-reading_of [];
  cut_off = IsPdReading-reading_of (codes "PD[X[1,4,2,5], X[3,6");
  early = IsPdReading-reading_of (codes "PD[Loop[1] Loop[2]]");
  number = IsPdReading-reading_of (codes "PD]70000");
  byte_first = IsPdReading-reading_of (codes "? 70000");
  number_first = IsPdReading-reading_of (codes "70000 ?");
  printed = refl;
  printed_empty = refl;
}
