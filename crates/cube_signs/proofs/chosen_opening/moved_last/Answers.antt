use Rattle.std.proofs.Common.{◌∙◌, sym, ap, None, Some}
use Rattle.cube_signs.specs.ChosenParts.{moved_entry}
use Rattle.cube_signs.proofs.LastLemmas.{last-map}
use Rattle.cube_signs.proofs.chosen_opening.moved_last.Goals as goal

pub returns-in-Some : goal.returns-in-Some
returns-in-Some c entries is =
    ap Some c.moved.ensures ∙ last-map (moved_entry c.args.heads.now) (Some c.in-Some.entry) entries (sym c.in-Some.is ∙ is)

pub returns-in-None : goal.returns-in-None
returns-in-None c entries is = last-map (moved_entry c.args.heads.now) None entries (sym c.in-None.is ∙ is)
