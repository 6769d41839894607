use Rattle.std.proofs.Common.{◌≡◌, map, string_bytes}
use Rattle.kh_runs.proofs.words.words_after_name.Given as goal

-- the words so far are those that the arguments have given
abbrev pub invariant-words : goal.invariant-words
invariant-words l = l.words ≡ map string_bytes l.yielded
