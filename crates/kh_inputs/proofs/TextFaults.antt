-- A code that is read from a text has few crossings and loops, so that it does not break the limit on components and loops.
use Rattle.std.proofs.Common.{◌≡◌, ℕ, ◌≤◌, List, length, Bool, true, false, refl, sym, subst, ◌∙◌, Ok, None, Some, arith}
use Rattle.std.specs.Prelude.{Option, codes, nat_lt}
use Rattle.std.specs.Option.{option_or}
use Rattle.std.proofs.lemmas.List.FromFn.{length-map-range_with_len}
use Rattle.std.proofs.lemmas.Grind.{common_steps}
use Rattle.kh_types.specs.Code.{Code}
use Rattle.kh_types.specs.Acceptance.{first_fault}
use Rattle.kh_types.specs.declared.limits.TheConstants.{CROSSINGS, LOOPS}
use Rattle.kh_types.specs.declared.fault.CodeFault.{CodeFault}
use Rattle.kh_types.specs.declared.fault.CodeFault.TheVariants as faults
use Rattle.kh_types.proofs.FewComponents.{first_fault-other}
use Rattle.pd_code.specs.Reading as pd
use Rattle.gauss_code.specs.Reading as gauss
use Rattle.gauss_code.specs.Faults as gauss_faults
use Rattle.gauss_code.specs.Listings.{crossing_count, loop_group_count}
use Rattle.gauss_code.specs.declared.stop.GaussStop.{GaussStop}
use Rattle.gauss_code.specs.Codes.{listed_code}
use Rattle.json_code.specs.Reading as json
use Rattle.kh_inputs.specs.declared.input.InputForm.{InputForm}
use Rattle.kh_inputs.specs.declared.input.InputForm.TheVariants as forms
use Rattle.kh_runs.specs.Replies.{Reply}
use Rattle.kh_runs.specs.Refusals.{refused_with, refused_with_both}
use Rattle.kh_inputs.specs.CodeRefusals.{IsFaultRefusal, IsTextFault}
use Rattle.kh_inputs.specs.Inputs.{input_form, IsCodeRead, IsReadAs}

-- few crossings and loops
record IsSmall (code : Code) : Type 0 where
  crossings : length code.crossings ≤ CROSSINGS
  loops : code.loops ≤ LOOPS

pd-small : (bytes : List ℕ) (code : Code) → pd.ReadsAsPd bytes code → IsSmall code
pd-small bytes code is = subst IsSmall (sym is.same) (record { crossings = is.crossings; loops = is.loops })

json-small : (bytes : List ℕ) (code : Code) → json.ReadsAsJson bytes code → IsSmall code
json-small bytes code is = record { crossings = grind (arith, common_steps, is.within, is.arcs); loops = omega (arith, is.no_loops) }

-- no fault among two is no fault of either
or-first : (a b : Option GaussStop) → option_or a b ≡ None → a ≡ None
or-first None b none = refl
or-first (Some x) b none = none

or-second : (a b : Option GaussStop) → option_or a b ≡ None → b ≡ None
or-second None b none = none
or-second (Some x) b none = let e : Some x ≡ None = none in absurd (cc)

within-limit : (count limit : ℕ) (stop : GaussStop) (above : Bool) → nat_lt limit count ≡ above → gauss_faults.gauss_fault_if above stop ≡ None
    → count ≤ limit
within-limit count limit stop true is none = let e : Some stop ≡ None = none in absurd (cc)
within-limit count limit stop false is none = grind (arith, common_steps)

gauss-small : (bytes : List ℕ) (code : Code) → gauss.ReadsAsGauss bytes code → IsSmall code
gauss-small bytes code is =
    let body = is.listing.body in
    let crossings : crossing_count body ≤ CROSSINGS =
    within-limit (crossing_count body) CROSSINGS _ (nat_lt CROSSINGS (crossing_count body)) refl (or-first _ _ is.good) in
    let loops : loop_group_count body ≤ LOOPS =
    within-limit (loop_group_count body) LOOPS _ (nat_lt LOOPS (loop_group_count body)) refl (or-first _ _ (or-second _ _ is.good)) in
    let counted : length (listed_code body (gauss_faults.signs_of is.listing)).crossings ≡ crossing_count body =
    length-map-range_with_len _ 0 (crossing_count body) in
    subst IsSmall (sym is.same) (record { crossings = subst (λ (n : ℕ). n ≤ CROSSINGS) (sym counted) crossings; loops = loops })

read-small : (form : InputForm) (bytes : List ℕ) (code : Code) → IsReadAs form bytes (Ok code) → IsSmall code
read-small forms.Pd bytes code read = pd-small bytes code read
read-small forms.Gauss bytes code read = gauss-small bytes code read
read-small forms.Json bytes code read = json-small bytes code read

-- the code of a text has few crossings
pub few_crossings-read : (bytes : List ℕ) (code : Code) → IsCodeRead bytes (Ok code) → length code.crossings ≤ CROSSINGS
few_crossings-read bytes code read = (read-small (input_form bytes) bytes code read).crossings

-- and few loops
pub few_loops-read : (bytes : List ℕ) (code : Code) → IsCodeRead bytes (Ok code) → code.loops ≤ LOOPS
few_loops-read bytes code read = (read-small (input_form bytes) bytes code read).loops

pub text-fault : (bytes : List ℕ) (code : Code) (fault : CodeFault) → IsCodeRead bytes (Ok code) → first_fault code ≡ Some fault
    → IsTextFault fault
text-fault bytes code (faults.ArcRange crossing slot) read is = tt
text-fault bytes code (faults.ArcTimes arc times) read is = tt
text-fault bytes code (faults.Interval arc) read is = tt
text-fault bytes code (faults.Under crossing) read is = tt
text-fault bytes code (faults.Over crossing) read is = tt
text-fault bytes code (faults.TwoArc crossing) read is = tt
text-fault bytes code (faults.Checkerboard arc) read is = tt
text-fault bytes code (faults.Genus faces wanted) read is = tt
text-fault bytes code (faults.Components count) read is =
    let small = read-small (input_form bytes) bytes code read in
    first_fault-other code count small.crossings small.loops is

-- such a fault is refused with one reply
pub IsFaultRefusal-some : (fault : CodeFault) → IsTextFault fault → (reply : Reply) × IsFaultRefusal fault reply
IsFaultRefusal-some (faults.ArcRange crossing slot) is = (refused_with_both (codes "arc range at crossing ") crossing (codes " slot ") slot, refl)
IsFaultRefusal-some (faults.ArcTimes arc times) is = (refused_with_both (codes "arc ") arc (codes " times ") times, refl)
IsFaultRefusal-some (faults.Interval arc) is = (refused_with (codes "interval of arc ") arc, refl)
IsFaultRefusal-some (faults.Under crossing) is = (refused_with (codes "under pass at crossing ") crossing, refl)
IsFaultRefusal-some (faults.Over crossing) is = (refused_with (codes "over pass at crossing ") crossing, refl)
IsFaultRefusal-some (faults.TwoArc crossing) is = (refused_with (codes "two-arc component at crossing ") crossing, refl)
IsFaultRefusal-some (faults.Checkerboard arc) is = (refused_with (codes "checkerboard at arc ") arc, refl)
IsFaultRefusal-some (faults.Genus faces wanted) is = (refused_with_both (codes "genus faces ") faces (codes " wanted ") wanted, refl)
IsFaultRefusal-some (faults.Components count) is = absurd is

pub IsFaultRefusal-one : (fault : CodeFault) (a b : Reply) → IsFaultRefusal fault a → IsFaultRefusal fault b → a ≡ b
IsFaultRefusal-one (faults.ArcRange crossing slot) a b is_a is_b = is_a ∙ sym is_b
IsFaultRefusal-one (faults.ArcTimes arc times) a b is_a is_b = is_a ∙ sym is_b
IsFaultRefusal-one (faults.Interval arc) a b is_a is_b = is_a ∙ sym is_b
IsFaultRefusal-one (faults.Under crossing) a b is_a is_b = is_a ∙ sym is_b
IsFaultRefusal-one (faults.Over crossing) a b is_a is_b = is_a ∙ sym is_b
IsFaultRefusal-one (faults.TwoArc crossing) a b is_a is_b = is_a ∙ sym is_b
IsFaultRefusal-one (faults.Checkerboard arc) a b is_a is_b = is_a ∙ sym is_b
IsFaultRefusal-one (faults.Genus faces wanted) a b is_a is_b = is_a ∙ sym is_b
IsFaultRefusal-one (faults.Components count) a b is_a is_b = absurd is_a
