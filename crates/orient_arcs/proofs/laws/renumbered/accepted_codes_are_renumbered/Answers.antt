use Rattle.std.proofs.lemmas.Bool.Decides.{nat_tests}
use Rattle.std.proofs.Common.{◌-◌, arith, refl, length, false}
use Rattle.std.proofs.lemmas.List.FromFn.{get_or-map-range_with_len}
use Rattle.kh_types.specs.Directions.{is_positive}
use Rattle.kh_types.proofs.Heads.{HasNoSingleArcs-accepted}
use Rattle.orient_arcs.proofs.PairedCodes.{ArePaired-directed}
use Rattle.orient_arcs.proofs.PairedAlike.{ArePaired-of}
use Rattle.orient_arcs.proofs.AcceptedParts.{IsAccepted-renumbered, state_sum-renumbered}
use Rattle.orient_arcs.proofs.laws.renumbered.accepted_codes_are_renumbered.Goals as goal

pub returns-clause-paired : goal.returns-clause-paired
returns-clause-paired c = grind (arith, nat_tests, ArePaired-directed, HasNoSingleArcs-accepted)

pub returns-clause-directed : goal.returns-clause-directed
returns-clause-directed c = ArePaired-directed

pub returns-clause-own : goal.returns-clause-own
returns-clause-own c = λ code. record {
  alike = record {
    size = refl;
    onward = λ place other below other_below same. same;
    back = λ place other below other_below same. same;
  };
  signs = λ crossing is.
      get_or-map-range_with_len (is_positive code.crossings) 1 (length code.crossings) (crossing - 1) crossing false
      (omega (arith, is.positive, is.within)) (omega (arith, is.positive));
  loops = refl;
}

pub returns-clause-renamed : goal.returns-clause-renamed
returns-clause-renamed c = λ code parts holds of_code.
    ArePaired-of code (HasNoSingleArcs-accepted code holds).0 (HasNoSingleArcs-accepted code holds).1 parts of_code

pub returns-clause-accepted : goal.returns-clause-accepted
returns-clause-accepted c = λ code parts holds of_code.
    IsAccepted-renumbered code parts holds of_code
    (ArePaired-of code (HasNoSingleArcs-accepted code holds).0 (HasNoSingleArcs-accepted code holds).1 parts of_code)

pub returns-clause-sums : goal.returns-clause-sums
returns-clause-sums c = λ code parts holds of_code.
    state_sum-renumbered code parts holds of_code
    (ArePaired-of code (HasNoSingleArcs-accepted code holds).0 (HasNoSingleArcs-accepted code holds).1 parts of_code)
