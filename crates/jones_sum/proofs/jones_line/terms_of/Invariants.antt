use Rattle.std.proofs.Common.{◌≡◌, string_bytes}
use Rattle.jones_sum.specs.Coefficients.{coefficient_in}
use Rattle.jones_sum.proofs.TermTexts.{text_to}
use Rattle.jones_sum.proofs.jones_line.terms_of.Given as goal

abbrev pub invariant-places : goal.invariant-places
invariant-places l = string_bytes l.text ≡ text_to (coefficient_in l.polynomial) l.place
