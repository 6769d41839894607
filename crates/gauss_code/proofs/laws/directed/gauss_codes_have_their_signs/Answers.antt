use Rattle.std.proofs.Common.{◌≡◌, ◌≢◌, ℕ, ◌-◌, ◌∙◌, List, refl, subst, ap, arith, Bool, length, ℤ, pos, neg_ℤ}
use Rattle.std.specs.Prelude.{if◌then◌else◌}
use Rattle.std.proofs.lemmas.List.Elements.{recursion_from_All}
use Rattle.kh_types.specs.Code.{Code, IsCrossing}
use Rattle.kh_types.specs.Directions.{sign_of, HasNoSingleArcs}
use Rattle.kh_types.proofs.Heads.{HasNoSingleArcs-accepted}
use Rattle.gauss_code.specs.Listings.{groups_of}
use Rattle.code_passes.specs.Labels.{listed_number}
use Rattle.gauss_code.specs.Faults.{signs_of}
use Rattle.gauss_code.specs.Reading.{ReadsAsGauss}
use Rattle.code_passes.proofs.TextCrossings.{length-crossings}
use Rattle.code_passes.proofs.TextSigns.{is_positive-moves}
use Rattle.code_passes.proofs.SingleArcs.{HasNoSingleArcs-labels}
use Rattle.gauss_code.proofs.FaultLemmas.{bad_label-none, good-sign_of, sign-good}
use Rattle.gauss_code.proofs.laws.directed.gauss_codes_have_their_signs.Goals as goal

pub returns-clause-positive : goal.returns-clause-positive
returns-clause-positive c = λ body signs none moves crossing is.
    is_positive-moves (groups_of body) signs none moves crossing is

pub returns-clause-many : goal.returns-clause-many
returns-clause-many c = λ body signs none many.
    HasNoSingleArcs-labels (groups_of body) signs none
    (recursion_from_All (λ (labels : List ℤ). length labels ≢ 1) (groups_of body) many)

-- the signs of a text that has no fault are 1 and -1
sign-of_text : (text : List ℕ) (code : Code) (reads : ReadsAsGauss text code) → HasNoSingleArcs code.crossings → (crossing : ℕ)
    → IsCrossing code.crossings crossing
    → sign_of code.crossings crossing ≡ listed_number (signs_of reads.listing) (crossing - 1)
sign-of_text text code reads moves crossing is =
    let body = reads.listing.body in
    let signs = signs_of reads.listing in
    let listed = listed_number signs (crossing - 1) in
    let none = bad_label-none reads.listing reads.places reads.good in
    let here = subst (λ (other : Code). IsCrossing other.crossings crossing) reads.same is in
    let moves_here = subst (λ (other : Code). HasNoSingleArcs other.crossings) reads.same moves in
    ap (λ (other : Code). sign_of other.crossings crossing) reads.same
    ∙ ap (λ (positive : Bool). if positive then pos 1 else neg_ℤ (pos 1))
    (is_positive-moves (groups_of body) signs none moves_here crossing here)
    ∙ sign-good listed
    (good-sign_of reads.listing reads.places reads.good (crossing - 1)
    (omega (arith, here.positive, here.within, length-crossings (groups_of body) signs)))

pub returns-clause-signs : goal.returns-clause-signs
returns-clause-signs c = sign-of_text

pub returns-clause-accepted : goal.returns-clause-accepted
returns-clause-accepted c = λ text code reads holds. sign-of_text text code reads (HasNoSingleArcs-accepted code holds).1

pub returns-clause-alone : goal.returns-clause-alone
returns-clause-alone c = refl
