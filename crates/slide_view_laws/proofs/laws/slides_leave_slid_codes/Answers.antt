use Rattle.slide_view_laws.proofs.Moves.{IsSlidFrom-moved}
use Rattle.slide_view_laws.proofs.laws.slides_leave_slid_codes.Goals as goal

pub returns : goal.returns
returns cx = IsSlidFrom-moved
