-- Dot sets that are chosen disc by disc, as terms.
use Rattle.std.specs.Prelude.{ℕ, ◌+◌, ◌*◌, ◌^◌, List, map}
use Rattle.dotted_maps.specs.declared.term.Term.{Term}
use Rattle.tangle_maps.specs.Sums.{dotted_term}

-- terms with one coefficient, whose dots are these, from a place on, and others before the place
abbrev pub chosen : ℕ → ℕ → ℕ → List ℕ → List Term
chosen dots place coefficient sets = map (λ s. dotted_term (dots + 2 ^ place * s) coefficient) sets
