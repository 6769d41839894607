use Rattle.kh_work.proofs.Headlines.{jones_line-euler}
use Rattle.kh_work.proofs.laws.jones_line_is_the_euler_characteristic.Goals as goal

pub returns : goal.returns
returns c = jones_line-euler
