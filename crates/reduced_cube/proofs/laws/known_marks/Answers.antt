use Rattle.std.proofs.Common.{refl}
use Rattle.reduced_cube.proofs.MarkLemmas.{IsName-mark, mark-IsName}
use Rattle.reduced_cube.proofs.laws.known_marks.Goals as goal

pub returns : goal.returns
returns c =
    record { names = λ code mark. (IsName-mark code mark, mark-IsName code mark); three = refl; alone = refl; none = refl }
