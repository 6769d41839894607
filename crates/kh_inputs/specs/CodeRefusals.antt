-- The replies that refuse a code: why its text is none, or which rule it breaks.
use Rattle.std.specs.Prelude.{◌≡◌, codes}
use Rattle.kh_types.specs.declared.fault.CodeFault.{CodeFault}
use Rattle.kh_types.specs.declared.fault.CodeFault.TheVariants as faults
use Rattle.pd_code.specs.declared.stop.PdStop.{PdStop}
use Rattle.pd_code.specs.declared.stop.PdStop.TheVariants as pd
use Rattle.gauss_code.specs.declared.stop.GaussStop.{GaussStop}
use Rattle.gauss_code.specs.declared.stop.GaussStop.TheVariants as gauss
use Rattle.json_code.specs.declared.stop.JsonStop.{JsonStop}
use Rattle.json_code.specs.declared.stop.JsonStop.TheVariants as json
use Rattle.kh_runs.specs.Refusals.{refused, refused_with, refused_with_both, too_many_crossings, too_many_loops}
use Rattle.kh_runs.specs.Replies.{Reply}

-- a PD text is refused for this stop with this reply
abbrev pub IsPdRefusal : PdStop → Reply → Type 0
IsPdRefusal (pd.Text place) reply = reply ≡ refused_with (codes "text at ") place
IsPdRefusal (pd.Number place) reply = reply ≡ refused_with (codes "number at ") place
IsPdRefusal (pd.CrossingLimit count) reply = reply ≡ too_many_crossings count
IsPdRefusal (pd.LoopLimit count) reply = reply ≡ too_many_loops count
IsPdRefusal pd.NoMemory reply = ⊥

-- a signed Gauss text is refused for this stop with this reply
abbrev pub IsGaussRefusal : GaussStop → Reply → Type 0
IsGaussRefusal (gauss.Text place) reply = reply ≡ refused_with (codes "text at ") place
IsGaussRefusal (gauss.Number place) reply = reply ≡ refused_with (codes "number at ") place
IsGaussRefusal (gauss.CrossingLimit count) reply = reply ≡ too_many_crossings count
IsGaussRefusal (gauss.LoopLimit count) reply = reply ≡ too_many_loops count
IsGaussRefusal (gauss.Label place) reply = reply ≡ refused_with (codes "label at ") place
IsGaussRefusal gauss.NoSigns reply = reply ≡ refused (codes "no signs")
IsGaussRefusal (gauss.SignCount found wanted) reply = reply ≡ refused_with_both (codes "signs ") found (codes " wanted ") wanted
IsGaussRefusal gauss.NoMemory reply = ⊥

-- a JSON text is refused for this stop with this reply
abbrev pub IsJsonRefusal : JsonStop → Reply → Type 0
IsJsonRefusal json.JsonText reply = reply ≡ refused (codes "json")
IsJsonRefusal (json.Shape crossing slot) reply =
    reply ≡ refused_with_both (codes "shape at crossing ") crossing (codes " slot ") slot
IsJsonRefusal (json.CrossingLimit count) reply = reply ≡ too_many_crossings count
IsJsonRefusal json.NoMemory reply = ⊥

-- a code is refused for this fault with this reply. The limit on components and loops together is no fault of a text: each component of
-- a code that breaks no rule before it has two arcs or more, so a text's crossings and loops have no more than COMPONENTS
abbrev pub IsFaultRefusal : CodeFault → Reply → Type 0
IsFaultRefusal (faults.ArcRange crossing slot) reply =
    reply ≡ refused_with_both (codes "arc range at crossing ") crossing (codes " slot ") slot
IsFaultRefusal (faults.ArcTimes arc times) reply = reply ≡ refused_with_both (codes "arc ") arc (codes " times ") times
IsFaultRefusal (faults.Interval arc) reply = reply ≡ refused_with (codes "interval of arc ") arc
IsFaultRefusal (faults.Under crossing) reply = reply ≡ refused_with (codes "under pass at crossing ") crossing
IsFaultRefusal (faults.Over crossing) reply = reply ≡ refused_with (codes "over pass at crossing ") crossing
IsFaultRefusal (faults.TwoArc crossing) reply = reply ≡ refused_with (codes "two-arc component at crossing ") crossing
IsFaultRefusal (faults.Checkerboard arc) reply = reply ≡ refused_with (codes "checkerboard at arc ") arc
IsFaultRefusal (faults.Genus faces wanted) reply =
    reply ≡ refused_with_both (codes "genus faces ") faces (codes " wanted ") wanted
IsFaultRefusal (faults.Components count) reply = ⊥

-- a fault is one that a text can have
abbrev pub IsTextFault : CodeFault → Type 0
IsTextFault (faults.Components count) = ⊥
IsTextFault _ = Unit {0}
