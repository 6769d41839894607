-- Behind the copied components the array holds 0, as it was made.
use Rattle.std.proofs.Common.{ap, ◌∙◌, ◌++◌, drop, length}
use Rattle.std.proofs.lemmas.List.{drop-replicate}
use Rattle.std.specs.Prelude.{List, ℕ, replicate}
use Rattle.orient_arcs.specs.declared.numbered.TheConstants.{NUMBERS}
use Rattle.orient_arcs.proofs.numbered.spread.Goals as goal

pub returns : goal.returns
returns c =
    ap (λ (first : List ℕ). first ++ drop (length c.args.components.now) (replicate NUMBERS 0)) c.copy_from_slice.ensures.after
    ∙ ap (λ (rest : List ℕ). c.args.components.now ++ rest) (drop-replicate (length c.args.components.now) NUMBERS 0)
