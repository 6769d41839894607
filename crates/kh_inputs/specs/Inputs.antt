-- From the bytes of an input to the code of a diagram, or to the reply that refuses them.
use Rattle.std.specs.Prelude.{◌≡◌, ◌⊎◌, ℕ, ◌≤◌, List, length, nat_eq, not, if◌then◌else◌, IsTrue, Option, Result, Ok, Err, None, Some}
use Rattle.std.specs.List.{find}
use Rattle.kh_types.specs.Code.{Code}
use Rattle.kh_types.specs.Acceptance.{accepted, first_fault}
use Rattle.kh_types.specs.declared.fault.CodeFault.{CodeFault}
use Rattle.kh_types.specs.declared.limits.TheConstants.{INPUT_BYTES}
use Rattle.kh_lex.specs.Cuts.{is_blank}
use Rattle.pd_code.specs.Reading as pd
use Rattle.gauss_code.specs.Reading as gauss
use Rattle.json_code.specs.Reading as json
use Rattle.kh_inputs.specs.declared.input.InputForm.{InputForm}
use Rattle.kh_inputs.specs.declared.input.InputForm.TheVariants as forms
use Rattle.kh_runs.specs.Replies.{Reply}
use Rattle.kh_inputs.specs.CodeRefusals.{IsPdRefusal, IsGaussRefusal, IsJsonRefusal, IsFaultRefusal}

-- the first byte of an input that is no blank, if there is one
abbrev pub first_byte : List ℕ → Option ℕ
first_byte bytes = find (λ byte. not (is_blank byte)) bytes

-- the form of an input with this first byte: `[`, which is byte 91, begins a JSON text, and `G`, byte 71, a signed Gauss text; all
-- others are PD texts, and so is an input without such a byte
abbrev pub form_begun_by : Option ℕ → InputForm
form_begun_by (Some byte) = if nat_eq byte 91 then forms.Json else if nat_eq byte 71 then forms.Gauss else forms.Pd
form_begun_by None = forms.Pd

-- the form of an input
abbrev pub input_form : List ℕ → InputForm
input_form bytes = form_begun_by (first_byte bytes)

-- a text reads as a code; or it reads as a stop, and is refused for that with a reply
abbrev pub IsRead : {Stop : Type 0} → (Result Code Stop → Type 0) → (Stop → Reply → Type 0) → Result Code Reply → Type 0
IsRead IsReading IsRefusal (Ok code) = IsReading (Ok code)
IsRead {Stop = Stop} IsReading IsRefusal (Err reply) = (stop : Stop) × IsReading (Err stop) × IsRefusal stop reply

-- a PD text is that of a code, or is refused with a reply
abbrev pub IsPdRead : List ℕ → Result Code Reply → Type 0
IsPdRead bytes outcome = IsRead (pd.IsPdReading bytes) IsPdRefusal outcome

-- a signed Gauss text is that of a code, or is refused with a reply
abbrev pub IsGaussRead : List ℕ → Result Code Reply → Type 0
IsGaussRead bytes outcome = IsRead (gauss.IsGaussReading bytes) IsGaussRefusal outcome

-- a JSON text is that of a code, or is refused with a reply
abbrev pub IsJsonRead : List ℕ → Result Code Reply → Type 0
IsJsonRead bytes outcome = IsRead (json.IsJsonReading bytes) IsJsonRefusal outcome

-- bytes are read as a text of a form
abbrev pub IsReadAs : InputForm → List ℕ → Result Code Reply → Type 0
IsReadAs forms.Pd bytes outcome = IsPdRead bytes outcome
IsReadAs forms.Gauss bytes outcome = IsGaussRead bytes outcome
IsReadAs forms.Json bytes outcome = IsJsonRead bytes outcome

-- bytes are the text of a code, or are refused with a reply
abbrev pub IsCodeRead : List ℕ → Result Code Reply → Type 0
IsCodeRead bytes outcome = IsReadAs (input_form bytes) bytes outcome

-- bytes are the text of a code that breaks a rule, for which they are refused with a reply
pub record IsFaulty (bytes : List ℕ) (reply : Reply) : Type 0 where
  pub code : Code
  pub fault : CodeFault
  pub read : IsCodeRead bytes (Ok code)
  pub breaks : first_fault code ≡ Some fault
  pub line : IsFaultRefusal fault reply

-- bytes are the text of the code of a diagram, which breaks no rule, or are refused with a reply
abbrev pub IsDiagramRead : List ℕ → Result Code Reply → Type 0
IsDiagramRead bytes (Ok code) = IsCodeRead bytes (Ok code) × (first_fault code ≡ None)
IsDiagramRead bytes (Err reply) = IsCodeRead bytes (Err reply) ⊎ IsFaulty bytes reply

-- the bytes of an input are the text of the code of an accepted diagram
pub record IsDiagramText (bytes : List ℕ) (code : Code) : Type 0 where
  pub few_bytes : length bytes ≤ INPUT_BYTES
  pub read : IsCodeRead bytes (Ok code)
  pub is_accepted : IsTrue (accepted code)
