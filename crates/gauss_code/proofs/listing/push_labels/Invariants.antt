use Rattle.std.proofs.Common.{◌≡◌, ◌++◌, take}
use Rattle.gauss_code.proofs.listing.push_labels.Given as goal

-- the labels that were there, and then the ones so far
abbrev pub invariant-loop-label : goal.invariant-loop-label
invariant-loop-label l = l.labels.items ≡ l.initial.labels.items ++ take l.label-index l.more
