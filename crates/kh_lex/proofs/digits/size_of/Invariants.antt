use Rattle.std.proofs.Common.{◌≡◌, ◌+◌, min, take}
use Rattle.std.specs.Str.Parse.{digits_value}
use Rattle.kh_lex.proofs.digits.size_of.Given as goal

-- the number of the digits so far, cut off above the limit
abbrev pub invariant-loop-digit : goal.invariant-loop-digit
invariant-loop-digit l = l.size ≡ min (digits_value 10 (take l.digit-index l.digits)) (l.most + 1)
