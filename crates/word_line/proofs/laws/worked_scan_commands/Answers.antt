use Rattle.std.proofs.Common.{refl, [], ◌∷◌, codes}
use Rattle.clap.proofs.OnLiterals.{clap_on_literals}
use Rattle.word_line.specs.declared.scan_command.Fields.TheVariants.{All, One}
use Rattle.word_line.specs.declared.scan_command.ScanCommand.TheVariants.{Alone, Each}
use Rattle.word_line.proofs.Findings.{means_this}
use Rattle.word_line.proofs.ScanReadings.{scan_reads}
use Rattle.word_line.proofs.laws.worked_scan_commands.Goals as goal

pub returns : goal.returns
unfolding clap_on_literals
returns c = record {
  nothing = means_this scan_reads [] (Alone 2) refl;
  list = means_this scan_reads (codes "each" ∷ []) (Each (One 2)) refl;
  joined = means_this scan_reads (codes "--field=3" ∷ []) (Alone 3) refl;
  apart = means_this scan_reads (codes "--field" ∷ codes "5" ∷ []) (Alone 5) refl;
  all = means_this scan_reads (codes "each" ∷ codes "--field" ∷ codes "all" ∷ []) (Each All) refl;
  behind = means_this scan_reads (codes "--" ∷ codes "each" ∷ []) (Each (One 2)) refl;
  ended = means_this scan_reads (codes "each" ∷ codes "--" ∷ []) (Each (One 2)) refl;
  dashes = means_this scan_reads (codes "--" ∷ []) (Alone 2) refl;
  first = means_this scan_reads (codes "--field" ∷ codes "7" ∷ codes "each" ∷ []) (Each (One 7)) refl;
}
