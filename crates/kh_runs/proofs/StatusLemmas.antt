-- The statuses of replies.
use Rattle.std.proofs.Common.{◌≡◌, sym, subst}
use Rattle.kh_runs.specs.Replies.{Reply}
use Rattle.kh_runs.specs.Statuses.{IsReplyStatus}

-- a reply that is this one has its status
pub status-of : (reply this : Reply) → reply ≡ this → IsReplyStatus this.status → IsReplyStatus reply.status
status-of reply this same is = subst (λ (r : Reply). IsReplyStatus r.status) (sym same) is
