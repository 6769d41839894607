-- The replies of the command `certify` to a diagram: any log of cancellations that proves its homology table. All of it is this
-- project's rule.
use Rattle.std.specs.Prelude.{◌≡◌, ◌⊎◌, ℕ, ◌<◌, ◌≤◌, length}
use Rattle.kh_types.specs.Code.{Code}
use Rattle.circle_smoothing.specs.GeneratorCounts.{generator_count}
use Rattle.circle_smoothing.specs.declared.limits.TheConstants.{GENERATORS}
use Rattle.cancel_log.specs.Verdicts.{IsLog}
use Rattle.cancel_log.specs.declared.limits.TheConstants.{LOG_BYTES}
use Rattle.kh_runs.specs.declared.status.Status.TheVariants.{Done}
use Rattle.kh_runs.specs.Replies.{Reply}
use Rattle.kh_replies.specs.Limits.{too_many_generators}

-- a reply is a log of a diagram over the field of so many elements, short enough to be verified
pub record IsCertificate (field : ℕ) (code : Code) (reply : Reply) : Type 0 where
  pub status : reply.status ≡ Done
  pub log : IsLog field code reply.text
  pub few : length reply.text ≤ LOG_BYTES

-- the cube has too many generators, and the reply says so; or it has not, and the reply is a log, whichever pivots that lists
abbrev pub IsCertifyReply : ℕ → Code → Reply → Type 0
IsCertifyReply field code reply =
    ((GENERATORS < generator_count code) × (reply ≡ too_many_generators (generator_count code)))
    ⊎ ((generator_count code ≤ GENERATORS) × IsCertificate field code reply)
