-- Bytes are the text of one code, or are refused with one reply, whatever their form.
use Rattle.std.proofs.Common.{◌≡◌, ℕ, List, refl, sym, ap, subst, ◌∙◌, Result, Ok, Err}
use Rattle.std.specs.Prelude.{codes}
use Rattle.kh_types.specs.Code.{Code}
use Rattle.pd_code.specs.Reading as pd
use Rattle.pd_code.specs.declared.stop.PdStop.{PdStop}
use Rattle.pd_code.specs.declared.stop.PdStop.TheVariants as pd_stops
use Rattle.pd_code.proofs.ReadingLemmas as pd_readings
use Rattle.gauss_code.specs.Reading as gauss
use Rattle.gauss_code.specs.declared.stop.GaussStop.{GaussStop}
use Rattle.gauss_code.specs.declared.stop.GaussStop.TheVariants as gauss_stops
use Rattle.gauss_code.proofs.ReadingLemmas as gauss_readings
use Rattle.json_code.specs.Reading as json
use Rattle.json_code.specs.Steps as json_steps
use Rattle.json_code.specs.declared.stop.JsonStop.{JsonStop}
use Rattle.json_code.specs.declared.stop.JsonStop.TheVariants as json_stops
use Rattle.json_code.proofs.Readings as json_readings
use Rattle.kh_runs.specs.Replies.{Reply}
use Rattle.kh_runs.specs.Refusals.{refused, refused_with, refused_with_both, too_many_crossings, too_many_loops}
use Rattle.kh_inputs.specs.CodeRefusals.{IsPdRefusal, IsGaussRefusal, IsJsonRefusal}
use Rattle.kh_inputs.specs.declared.input.InputForm.{InputForm}
use Rattle.kh_inputs.specs.declared.input.InputForm.TheVariants as forms
use Rattle.kh_inputs.specs.Inputs.{input_form, IsRead, IsReadAs, IsCodeRead}

-- whatever the readings and the refusals

IsRead-some : {Stop : Type 0} (IsReading : Result Code Stop → Type 0) (IsRefusal : Stop → Reply → Type 0)
    → ((stop : Stop) → IsReading (Err stop) → (reply : Reply) × IsRefusal stop reply) → (reading : Result Code Stop) → IsReading reading
    → (outcome : Result Code Reply) × IsRead IsReading IsRefusal outcome
IsRead-some IsReading IsRefusal refused_for (Ok code) read = (Ok code, read)
IsRead-some IsReading IsRefusal refused_for (Err stop) read =
    let refusal = refused_for stop read in
    (Err refusal.0, (stop, read, refusal.1))

same_code : {Stop : Type 0} (x y : Code) → ◌≡◌ {A = Result Code Stop} (Ok x) (Ok y) → ◌≡◌ {A = Result Code Reply} (Ok x) (Ok y)
same_code x y same = let e : x ≡ y = cc in ap Ok e

same_refusal : {Stop : Type 0} (IsRefusal : Stop → Reply → Type 0)
    → ((stop : Stop) (a b : Reply) → IsRefusal stop a → IsRefusal stop b → a ≡ b) → (stop other : Stop) (a b : Reply)
    → ◌≡◌ {A = Result Code Stop} (Err stop) (Err other) → IsRefusal stop a → IsRefusal other b → a ≡ b
same_refusal {Stop = Stop} IsRefusal one_reply stop other a b same is_a is_b =
    let e : stop ≡ other = cc in
    let P : Stop → Type 0 = λ s. IsRefusal s a in
    one_reply other a b (subst P e is_a) is_b

IsRead-one : {Stop : Type 0} (IsReading : Result Code Stop → Type 0) (IsRefusal : Stop → Reply → Type 0)
    → ((x y : Result Code Stop) → IsReading x → IsReading y → x ≡ y)
    → ((stop : Stop) (a b : Reply) → IsRefusal stop a → IsRefusal stop b → a ≡ b) → (a b : Result Code Reply)
    → IsRead IsReading IsRefusal a → IsRead IsReading IsRefusal b → a ≡ b
IsRead-one IsReading IsRefusal one_reading one_reply (Ok x) (Ok y) is_x is_y = same_code x y (one_reading (Ok x) (Ok y) is_x is_y)
IsRead-one {Stop = Stop} IsReading IsRefusal one_reading one_reply (Ok x) (Err b) is_x is_b =
    let same : ◌≡◌ {A = Result Code Stop} (Ok x) (Err is_b.0) = one_reading (Ok x) (Err is_b.0) is_x is_b.1 in absurd (cc)
IsRead-one {Stop = Stop} IsReading IsRefusal one_reading one_reply (Err a) (Ok y) is_a is_y =
    let same : ◌≡◌ {A = Result Code Stop} (Err is_a.0) (Ok y) = one_reading (Err is_a.0) (Ok y) is_a.1 is_y in absurd (cc)
IsRead-one IsReading IsRefusal one_reading one_reply (Err a) (Err b) is_a is_b =
    ap Err
    (same_refusal IsRefusal one_reply is_a.0 is_b.0 a b (one_reading (Err is_a.0) (Err is_b.0) is_a.1 is_b.1) is_a.2 is_b.2)

-- PD texts

IsPdRefusal-some : (bytes : List ℕ) (stop : PdStop) → pd.IsPdReading bytes (Err stop) → (reply : Reply) × IsPdRefusal stop reply
IsPdRefusal-some bytes (pd_stops.Text place) read = (refused_with (codes "text at ") place, refl)
IsPdRefusal-some bytes (pd_stops.Number place) read = (refused_with (codes "number at ") place, refl)
IsPdRefusal-some bytes (pd_stops.CrossingLimit count) read = (too_many_crossings count, refl)
IsPdRefusal-some bytes (pd_stops.LoopLimit count) read = (too_many_loops count, refl)
IsPdRefusal-some bytes pd_stops.NoMemory read = absurd read

IsPdRefusal-one : (stop : PdStop) (a b : Reply) → IsPdRefusal stop a → IsPdRefusal stop b → a ≡ b
IsPdRefusal-one (pd_stops.Text place) a b is_a is_b = is_a ∙ sym is_b
IsPdRefusal-one (pd_stops.Number place) a b is_a is_b = is_a ∙ sym is_b
IsPdRefusal-one (pd_stops.CrossingLimit count) a b is_a is_b = is_a ∙ sym is_b
IsPdRefusal-one (pd_stops.LoopLimit count) a b is_a is_b = is_a ∙ sym is_b
IsPdRefusal-one pd_stops.NoMemory a b is_a is_b = absurd is_a

-- signed Gauss texts

IsGaussRefusal-some : (bytes : List ℕ) (stop : GaussStop) → gauss.IsGaussReading bytes (Err stop) → (reply : Reply) × IsGaussRefusal stop reply
IsGaussRefusal-some bytes (gauss_stops.Text place) read = (refused_with (codes "text at ") place, refl)
IsGaussRefusal-some bytes (gauss_stops.Number place) read = (refused_with (codes "number at ") place, refl)
IsGaussRefusal-some bytes (gauss_stops.CrossingLimit count) read = (too_many_crossings count, refl)
IsGaussRefusal-some bytes (gauss_stops.LoopLimit count) read = (too_many_loops count, refl)
IsGaussRefusal-some bytes (gauss_stops.Label place) read = (refused_with (codes "label at ") place, refl)
IsGaussRefusal-some bytes gauss_stops.NoSigns read = (refused (codes "no signs"), refl)
IsGaussRefusal-some bytes (gauss_stops.SignCount found wanted) read =
    (refused_with_both (codes "signs ") found (codes " wanted ") wanted, refl)
IsGaussRefusal-some bytes gauss_stops.NoMemory read = absurd read

IsGaussRefusal-one : (stop : GaussStop) (a b : Reply) → IsGaussRefusal stop a → IsGaussRefusal stop b → a ≡ b
IsGaussRefusal-one (gauss_stops.Text place) a b is_a is_b = is_a ∙ sym is_b
IsGaussRefusal-one (gauss_stops.Number place) a b is_a is_b = is_a ∙ sym is_b
IsGaussRefusal-one (gauss_stops.CrossingLimit count) a b is_a is_b = is_a ∙ sym is_b
IsGaussRefusal-one (gauss_stops.LoopLimit count) a b is_a is_b = is_a ∙ sym is_b
IsGaussRefusal-one (gauss_stops.Label place) a b is_a is_b = is_a ∙ sym is_b
IsGaussRefusal-one gauss_stops.NoSigns a b is_a is_b = is_a ∙ sym is_b
IsGaussRefusal-one (gauss_stops.SignCount found wanted) a b is_a is_b = is_a ∙ sym is_b
IsGaussRefusal-one gauss_stops.NoMemory a b is_a is_b = absurd is_a

-- JSON texts

IsJsonRefusal-some : (bytes : List ℕ) (stop : JsonStop) → json.IsJsonReading bytes (Err stop) → (reply : Reply) × IsJsonRefusal stop reply
IsJsonRefusal-some bytes json_stops.JsonText read = (refused (codes "json"), refl)
IsJsonRefusal-some bytes (json_stops.Shape crossing slot) read =
    (refused_with_both (codes "shape at crossing ") crossing (codes " slot ") slot, refl)
IsJsonRefusal-some bytes (json_stops.CrossingLimit count) read = (too_many_crossings count, refl)
IsJsonRefusal-some bytes json_stops.NoMemory read = absurd read

IsJsonRefusal-one : (stop : JsonStop) (a b : Reply) → IsJsonRefusal stop a → IsJsonRefusal stop b → a ≡ b
IsJsonRefusal-one json_stops.JsonText a b is_a is_b = is_a ∙ sym is_b
IsJsonRefusal-one (json_stops.Shape crossing slot) a b is_a is_b = is_a ∙ sym is_b
IsJsonRefusal-one (json_stops.CrossingLimit count) a b is_a is_b = is_a ∙ sym is_b
IsJsonRefusal-one json_stops.NoMemory a b is_a is_b = absurd is_a

-- texts of any form

pub IsReadAs-some : (form : InputForm) (bytes : List ℕ) → (outcome : Result Code Reply) × IsReadAs form bytes outcome
IsReadAs-some forms.Pd bytes =
    IsRead-some (pd.IsPdReading bytes) IsPdRefusal (IsPdRefusal-some bytes) (pd_readings.reading_of bytes)
    (pd_readings.IsPdReading-reading_of bytes)
IsReadAs-some forms.Gauss bytes =
    IsRead-some (gauss.IsGaussReading bytes) IsGaussRefusal (IsGaussRefusal-some bytes) (gauss_readings.reading_of bytes)
    (gauss_readings.IsGaussReading-reading_of bytes)
IsReadAs-some forms.Json bytes =
    IsRead-some (json.IsJsonReading bytes) IsJsonRefusal (IsJsonRefusal-some bytes) (json_steps.json_reading_of bytes)
    (json_readings.json_reading_of-sound bytes)

IsReadAs-one : (form : InputForm) (bytes : List ℕ) (a b : Result Code Reply) → IsReadAs form bytes a → IsReadAs form bytes b → a ≡ b
IsReadAs-one forms.Pd bytes = IsRead-one (pd.IsPdReading bytes) IsPdRefusal (pd_readings.IsPdReading-one bytes) IsPdRefusal-one
IsReadAs-one forms.Gauss bytes =
    IsRead-one (gauss.IsGaussReading bytes) IsGaussRefusal (gauss_readings.IsGaussReading-one bytes) IsGaussRefusal-one
IsReadAs-one forms.Json bytes = IsRead-one (json.IsJsonReading bytes) IsJsonRefusal (json_readings.readings-one bytes) IsJsonRefusal-one

pub IsCodeRead-one : (bytes : List ℕ) (a b : Result Code Reply) → IsCodeRead bytes a → IsCodeRead bytes b → a ≡ b
IsCodeRead-one bytes = IsReadAs-one (input_form bytes) bytes
