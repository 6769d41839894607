use Rattle.std.proofs.Common.{length}
use Rattle.tangle_scan.proofs.scanning.+scan_table.Given as goal

abbrev pub decreases-scan_table : goal.decreases-scan_table
decreases-scan_table g l = length l.diagram.now.crossings
