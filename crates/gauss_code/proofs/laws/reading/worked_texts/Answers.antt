use Rattle.std.proofs.Common.{[], codes}
use Rattle.gauss_code.proofs.ReadingLemmas.{IsGaussReading-reading_of}
use Rattle.gauss_code.proofs.laws.reading.worked_texts.Goals as goal

-- each text is read by computing
pub returns : goal.returns
returns c = record {
  trefoil = IsGaussReading-reading_of (codes "GaussCode[-1, 3, -2, 1, -3, 2] Signs[-1, -1, -1]");
  groups = IsGaussReading-reading_of (codes "GaussCode[{-1,-2},{1,2},{}]\r\n\tSigns[1,-1]");
  turned_labels = IsGaussReading-reading_of (codes "GaussCode[{-1,-2},{2,1}]Signs[1,-1]");
  empty = IsGaussReading-reading_of (codes "GaussCode[]");
  one_loop = IsGaussReading-reading_of (codes "GaussCode[{}]");
  nothing = IsGaussReading-reading_of [];
  cut_off = IsGaussReading-reading_of (codes "GaussCode[1, ");
  trailing = IsGaussReading-reading_of (codes "GaussCode[1,]");
  number = IsGaussReading-reading_of (codes "GaussCode]70000");
  byte_first = IsGaussReading-reading_of (codes "? 70000");
  many_loops = IsGaussReading-reading_of (codes "GaussCode[{},{},{},{},{},{},{},{},{}]");
  label = IsGaussReading-reading_of (codes "GaussCode[1]");
  again = IsGaussReading-reading_of (codes "GaussCode[{1},{1}]");
  no_signs = IsGaussReading-reading_of (codes "GaussCode[{1,-1},{}]");
  sign_count = IsGaussReading-reading_of (codes "GaussCode[]Signs[1]");
  sign = IsGaussReading-reading_of (codes "GaussCode[1,-1]Signs[ 2]");
}
