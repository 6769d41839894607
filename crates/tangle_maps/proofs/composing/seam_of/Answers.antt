use Rattle.std.proofs.Common.{subst, sym}
use Rattle.tangle_maps.specs.KeptSeams.{IsSeamAlong}
use Rattle.tangle_maps.proofs.KeptLemmas.{seam-along}
use Rattle.tangle_maps.proofs.WayLemmas.{way-facts}
use Rattle.tangle_maps.proofs.composing.seam_of.Goals as goal

pub new-requires-clause-opened : goal.new-requires-clause-opened
new-requires-clause-opened c = (way-facts c.args.way.now c.requires).arcs

pub new-requires-clause-room : goal.new-requires-clause-room
new-requires-clause-room c = (way-facts c.args.way.now c.requires).room

pub returns : goal.returns
returns c =
    subst (IsSeamAlong c.args.way.now) (sym c.new-2.ensures) (seam-along c.args.way.now c.new.result c.requires c.new.ensures)
