-- The reply of the command `jones` to a diagram: its unnormalised Jones polynomial (Bar-Natan 2002, section 2), in a text of this
-- project's own.
use Rattle.kh_types.specs.Code.{Code}
use Rattle.kh_runs.specs.declared.status.Status.TheVariants.{Done}
use Rattle.kh_runs.specs.Homology.{jones_line}
use Rattle.kh_runs.specs.Replies.{Reply, reply_of}

-- the Jones line
abbrev pub jones_reply : Code → Reply
jones_reply code = reply_of Done (jones_line code)
