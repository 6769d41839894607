-- How many bytes an order reads.
use Rattle.std.specs.Prelude.{ℕ, ◌≤◌, List, length, IfSome, Option, None, Some}
use Rattle.kh_types.specs.declared.limits.TheConstants.{INPUT_BYTES}
use Rattle.cancel_log.specs.declared.limits.TheConstants.{LOG_BYTES}
use Rattle.kh_work.specs.declared.order.Order.{Order}
use Rattle.kh_work.specs.declared.order.Order.TheVariants.{Bench, Code, Log, Pair, Script}

-- the most bytes of what is read; none is for an order that reads nothing
abbrev pub byte_limit : Order → Option ℕ
byte_limit (Code order) = Some INPUT_BYTES
byte_limit (Script order) = Some INPUT_BYTES
byte_limit Pair = Some INPUT_BYTES
byte_limit Log = Some LOG_BYTES
byte_limit (Bench field workers number) = None

-- bytes are no more than these
abbrev pub AreWithin : Option ℕ → List ℕ → Type 0
AreWithin limit bytes = IfSome limit (λ most. length bytes ≤ most)
