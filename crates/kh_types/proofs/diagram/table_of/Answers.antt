-- Behind the copied crossings the array is as blank as it was made.
use Rattle.std.proofs.Common.{ap, ◌∙◌, ◌++◌, drop, length}
use Rattle.std.proofs.lemmas.List.{drop-replicate}
use Rattle.kh_types.specs.Filling.{blank}
use Rattle.kh_types.specs.declared.limits.TheConstants.{CROSSINGS}
use Rattle.std.specs.Prelude.{List, ℕ, replicate}
use Rattle.kh_types.proofs.diagram.table_of.Goals as goal

pub returns : goal.returns
returns c =
    ap (λ (first : List (List ℕ)). first ++ drop (length c.args.crossings.now) (replicate CROSSINGS blank)) c.copy_from_slice.ensures.after
    ∙ ap (λ (rest : List (List ℕ)). c.args.crossings.now ++ rest) (drop-replicate (length c.args.crossings.now) CROSSINGS blank)
