use Rattle.std.proofs.Common.{refl, [], ◌∷◌, codes}
use Rattle.clap.proofs.OnLiterals.{clap_on_literals}
use Rattle.word_line.proofs.Findings.{means_none}
use Rattle.word_line.proofs.Readings.{kh_reads}
use Rattle.word_line.proofs.laws.worked_usage.Goals as goal

pub returns : goal.returns
unfolding clap_on_literals
returns c = record {
  nothing = means_none kh_reads [] refl;
  none = means_none kh_reads (codes "homology" ∷ codes "--workers" ∷ codes "0" ∷ []) refl;
  many = means_none kh_reads (codes "homology" ∷ codes "--workers" ∷ codes "65" ∷ []) refl;
  long = means_none kh_reads (codes "homology" ∷ codes "--workers" ∷ codes "001" ∷ []) refl;
  twice = means_none kh_reads (codes "homology" ∷ codes "--field" ∷ codes "2" ∷ codes "--field" ∷ codes "2" ∷ []) refl;
  unnumbered = means_none kh_reads (codes "bench" ∷ []) refl;
  unmarked = means_none kh_reads (codes "reduced" ∷ []) refl;
  above = means_none kh_reads (codes "reduced" ∷ codes "--mark" ∷ codes "256" ∷ []) refl;
  digits = means_none kh_reads (codes "reduced" ∷ codes "--mark" ∷ codes "0001" ∷ []) refl;
  help = means_none kh_reads (codes "homology" ∷ codes "--help" ∷ []) refl;
  short = means_none kh_reads (codes "homology" ∷ codes "-h" ∷ []) refl;
  shortened = means_none kh_reads (codes "homology" ∷ codes "--work" ∷ codes "2" ∷ []) refl;
  dashes = means_none kh_reads (codes "--field" ∷ codes "--" ∷ codes "homology" ∷ []) refl;
  dash = means_none kh_reads (codes "-" ∷ []) refl;
  second = means_none kh_reads (codes "homology" ∷ codes "--" ∷ codes "--field" ∷ []) refl;
}
