-- A refusal has a status of a reply to a command, and so has what answers a diagram.
use Rattle.std.proofs.Common.{◌≡◌, ℕ, inl, inr, List, sym, subst, Result, Ok, Err}
use Rattle.kh_types.specs.Code.{Code}
use Rattle.kh_types.specs.declared.fault.CodeFault.{CodeFault}
use Rattle.kh_types.specs.declared.fault.CodeFault.TheVariants as faults
use Rattle.pd_code.specs.declared.stop.PdStop.{PdStop}
use Rattle.pd_code.specs.declared.stop.PdStop.TheVariants as pd_stops
use Rattle.gauss_code.specs.declared.stop.GaussStop.{GaussStop}
use Rattle.gauss_code.specs.declared.stop.GaussStop.TheVariants as gauss_stops
use Rattle.json_code.specs.declared.stop.JsonStop.{JsonStop}
use Rattle.json_code.specs.declared.stop.JsonStop.TheVariants as json_stops
use Rattle.kh_inputs.specs.declared.input.InputForm.{InputForm}
use Rattle.kh_inputs.specs.declared.input.InputForm.TheVariants as forms
use Rattle.kh_runs.specs.Statuses.{IsReplyStatus}
use Rattle.kh_runs.proofs.StatusLemmas.{status-of}
use Rattle.kh_runs.specs.Replies.{Reply}
use Rattle.kh_inputs.specs.CodeRefusals.{IsFaultRefusal, IsPdRefusal, IsGaussRefusal, IsJsonRefusal}
use Rattle.kh_inputs.specs.Inputs.{input_form, IsDiagramRead, IsReadAs}
use Rattle.kh_inputs.specs.DiagramReplies.{IsOutcomeReply, IsDiagramReply}

pd-status : (stop : PdStop) (reply : Reply) → IsPdRefusal stop reply → IsReplyStatus reply.status
pd-status (pd_stops.Text place) reply is = status-of reply _ is tt
pd-status (pd_stops.Number place) reply is = status-of reply _ is tt
pd-status (pd_stops.CrossingLimit count) reply is = status-of reply _ is tt
pd-status (pd_stops.LoopLimit count) reply is = status-of reply _ is tt
pd-status pd_stops.NoMemory reply is = absurd is

gauss-status : (stop : GaussStop) (reply : Reply) → IsGaussRefusal stop reply → IsReplyStatus reply.status
gauss-status (gauss_stops.Text place) reply is = status-of reply _ is tt
gauss-status (gauss_stops.Number place) reply is = status-of reply _ is tt
gauss-status (gauss_stops.CrossingLimit count) reply is = status-of reply _ is tt
gauss-status (gauss_stops.LoopLimit count) reply is = status-of reply _ is tt
gauss-status (gauss_stops.Label place) reply is = status-of reply _ is tt
gauss-status gauss_stops.NoSigns reply is = status-of reply _ is tt
gauss-status (gauss_stops.SignCount found wanted) reply is = status-of reply _ is tt
gauss-status gauss_stops.NoMemory reply is = absurd is

json-status : (stop : JsonStop) (reply : Reply) → IsJsonRefusal stop reply → IsReplyStatus reply.status
json-status json_stops.JsonText reply is = status-of reply _ is tt
json-status (json_stops.Shape crossing slot) reply is = status-of reply _ is tt
json-status (json_stops.CrossingLimit count) reply is = status-of reply _ is tt
json-status json_stops.NoMemory reply is = absurd is

fault-status : (fault : CodeFault) (reply : Reply) → IsFaultRefusal fault reply → IsReplyStatus reply.status
fault-status (faults.ArcRange crossing slot) reply is = status-of reply _ is tt
fault-status (faults.ArcTimes arc times) reply is = status-of reply _ is tt
fault-status (faults.Interval arc) reply is = status-of reply _ is tt
fault-status (faults.Under crossing) reply is = status-of reply _ is tt
fault-status (faults.Over crossing) reply is = status-of reply _ is tt
fault-status (faults.TwoArc crossing) reply is = status-of reply _ is tt
fault-status (faults.Checkerboard arc) reply is = status-of reply _ is tt
fault-status (faults.Genus faces wanted) reply is = status-of reply _ is tt
fault-status (faults.Components count) reply is = absurd is

read_as-status : (form : InputForm) (bytes : List ℕ) (reply : Reply) → IsReadAs form bytes (Err reply) → IsReplyStatus reply.status
read_as-status forms.Pd bytes reply read = pd-status read.0 reply read.2
read_as-status forms.Gauss bytes reply read = gauss-status read.0 reply read.2
read_as-status forms.Json bytes reply read = json-status read.0 reply read.2

pub refusal-status : (bytes : List ℕ) (reply : Reply) → IsDiagramRead bytes (Err reply) → IsReplyStatus reply.status
refusal-status bytes reply (inl read) = read_as-status (input_form bytes) bytes reply read
refusal-status bytes reply (inr faulty) = fault-status faulty.fault reply faulty.line

outcome-status : (Answers : Code → Reply → Type 0) → ((code : Code) (reply : Reply) → Answers code reply → IsReplyStatus reply.status)
    → (text : List ℕ) (outcome : Result Code Reply) (reply : Reply) → IsDiagramRead text outcome → IsOutcomeReply Answers outcome reply
    → IsReplyStatus reply.status
outcome-status Answers answers text (Ok code) reply read answered = answers code reply answered
outcome-status Answers answers text (Err refusal) reply read answered = status-of reply refusal answered (refusal-status text refusal read)

pub diagram_reply-status : (Answers : Code → Reply → Type 0)
    → ((code : Code) (reply : Reply) → Answers code reply → IsReplyStatus reply.status) → (text : List ℕ) (reply : Reply)
    → IsDiagramReply Answers text reply → IsReplyStatus reply.status
diagram_reply-status Answers answers text reply replied =
    outcome-status Answers answers text replied.outcome reply replied.read replied.answered
