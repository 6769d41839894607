use Rattle.std.proofs.Common.{refl, [], ◌∷◌, codes}
use Rattle.clap.proofs.OnLiterals.{clap_on_literals}
use Rattle.word_line.proofs.Findings.{means_none}
use Rattle.word_line.proofs.ScanReadings.{scan_reads}
use Rattle.word_line.proofs.laws.worked_scan_usage.Goals as goal

pub returns : goal.returns
unfolding clap_on_literals
returns c = record {
  homology = means_none scan_reads (codes "homology" ∷ []) refl;
  workers = means_none scan_reads (codes "--workers" ∷ codes "2" ∷ []) refl;
  all = means_none scan_reads (codes "--field" ∷ codes "all" ∷ []) refl;
  second = means_none scan_reads (codes "each" ∷ codes "each" ∷ []) refl;
  four = means_none scan_reads (codes "each" ∷ codes "--field" ∷ codes "4" ∷ []) refl;
  twice = means_none scan_reads (codes "--field" ∷ codes "2" ∷ codes "--field" ∷ codes "2" ∷ []) refl;
  short = means_none scan_reads (codes "-h" ∷ []) refl;
  help = means_none scan_reads (codes "--help" ∷ []) refl;
  shortened = means_none scan_reads (codes "--fiel" ∷ codes "2" ∷ []) refl;
  dash = means_none scan_reads (codes "-" ∷ []) refl;
  dashes = means_none scan_reads (codes "--field" ∷ codes "--" ∷ []) refl;
  mark = means_none scan_reads (codes "each" ∷ codes "--mark" ∷ codes "1" ∷ []) refl;
  alone = means_none scan_reads (codes "--field" ∷ []) refl;
  empty = means_none scan_reads ([] ∷ []) refl;
}
