-- A code of two pieces, on which these are computed.
use Rattle.std.specs.Prelude.{[], ◌∷◌}
use Rattle.kh_types.specs.Code.{Code}
use Rattle.kh_types.specs.WorkedCodes.{slots_with}

-- the Hopf link beside a curl, which is listed between its two crossings, and two loops
abbrev pub hopf_and_curl : Code
hopf_and_curl = record { crossings = slots_with 4 1 3 2 ∷ slots_with 5 5 6 6 ∷ slots_with 2 3 1 4 ∷ []; loops = 2 }
