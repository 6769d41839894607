use Rattle.std.proofs.Common.{refl, [], ◌∷◌, None, Some, codes}
use Rattle.clap.proofs.OnLiterals.{clap_on_literals}
use Rattle.word_line.specs.Reading.{command_with}
use Rattle.word_line.specs.declared.command.Form.TheVariants.{Pd, Gauss}
use Rattle.word_line.specs.declared.command.Task.TheVariants.{Bench, Certify, Homology, Convert, Jones, Reduced, Verify}
use Rattle.word_line.proofs.Findings.{means_this}
use Rattle.word_line.proofs.Readings.{kh_reads}
use Rattle.word_line.proofs.laws.worked_commands.Goals as goal

pub returns : goal.returns
unfolding clap_on_literals
returns c = record {
  alone = means_this kh_reads (codes "homology" ∷ []) (command_with Homology 2 1 Pd None None) refl;
  joined = means_this kh_reads (codes "--field=3" ∷ codes "homology" ∷ []) (command_with Homology 3 1 Pd None None) refl;
  behind = means_this kh_reads (codes "--" ∷ codes "homology" ∷ []) (command_with Homology 2 1 Pd None None) refl;
  ended = means_this kh_reads (codes "jones" ∷ codes "--" ∷ []) (command_with Jones 2 1 Pd None None) refl;
  all = means_this kh_reads (codes "--to" ∷ codes "gauss" ∷ codes "convert" ∷ codes "--workers=07" ∷ codes "--field" ∷ codes "7" ∷ codes "--number" ∷ codes "0000000" ∷ [])
      (command_with Convert 7 7 Gauss (Some 0) None) refl;
  most = means_this kh_reads (codes "homology" ∷ codes "--workers" ∷ codes "64" ∷ []) (command_with Homology 2 64 Pd None None) refl;
  numbered = means_this kh_reads (codes "bench" ∷ codes "--number" ∷ codes "1234567" ∷ []) (command_with Bench 2 1 Pd (Some 1234567) None) refl;
  marked = means_this kh_reads (codes "reduced" ∷ codes "--mark" ∷ codes "255" ∷ []) (command_with Reduced 2 1 Pd None (Some 255)) refl;
  certified = means_this kh_reads (codes "certify" ∷ codes "--field" ∷ codes "5" ∷ []) (command_with Certify 5 1 Pd None None) refl;
  verified = means_this kh_reads (codes "verify" ∷ []) (command_with Verify 2 1 Pd None None) refl;
  idle = means_this kh_reads (codes "--mark=007" ∷ codes "jones" ∷ []) (command_with Jones 2 1 Pd None (Some 7)) refl;
}
