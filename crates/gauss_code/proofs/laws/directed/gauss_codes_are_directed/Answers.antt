use Rattle.std.proofs.Common.{sym, subst}
use Rattle.kh_types.specs.Code.{Code}
use Rattle.kh_types.specs.Accepted.{IsDirected}
use Rattle.kh_types.proofs.AcceptedLemmas.{direction_fault-none}
use Rattle.gauss_code.specs.Listings.{groups_of}
use Rattle.gauss_code.specs.Faults.{signs_of}
use Rattle.code_passes.proofs.DirectedText.{IsDirected-crossings}
use Rattle.gauss_code.proofs.FaultLemmas.{bad_label-none}
use Rattle.gauss_code.proofs.laws.directed.gauss_codes_are_directed.Goals as goal

pub returns-clause-directed : goal.returns-clause-directed
returns-clause-directed c = λ body signs none. IsDirected-crossings (groups_of body) signs none

-- a text that has no fault has no bad label
pub returns-clause-unbroken : goal.returns-clause-unbroken
returns-clause-unbroken c = λ text code is.
    (direction_fault-none code.crossings).1
    (subst (λ (other : Code). IsDirected other.crossings) (sym is.same)
    (IsDirected-crossings (groups_of is.listing.body) (signs_of is.listing) (bad_label-none is.listing is.places is.good)))
