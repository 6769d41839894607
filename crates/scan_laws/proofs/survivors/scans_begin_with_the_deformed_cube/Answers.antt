use Rattle.square_laws.proofs.Numbers.{opposite-sum}
use Rattle.scan_laws.proofs.Base.{alike-deformed}
use Rattle.scan_laws.proofs.survivors.scans_begin_with_the_deformed_cube.Goals as goal

pub returns : goal.returns
returns c = record { alike = alike-deformed; cancels = opposite-sum }
