use Rattle.std.proofs.Common.{Err, refl}
use Rattle.cancel_log.specs.declared.stop.LogStop.TheVariants.{Line, SizeLimit}
use Rattle.kh_work.proofs.CaseAnswers.{IsAnswer-verdict}
use Rattle.kh_work.proofs.laws.cases.refused_logs_are_answered_by_their_line.Goals as goal

pub returns : goal.returns
returns c = record {
  line = λ words bytes command line cause meant is few reached.
      IsAnswer-verdict words bytes command (Err (Line line cause)) _ meant is few reached refl;
  limit = λ words bytes command generators meant is few reached.
      IsAnswer-verdict words bytes command (Err (SizeLimit generators)) _ meant is few reached refl;
}
