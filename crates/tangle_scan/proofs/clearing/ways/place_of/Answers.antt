use Rattle.std.proofs.Common.{◌∙◌, ap, sym}
use Rattle.std.specs.List.{position}
use Rattle.tangle_scan.specs.Held.{has_head}
use Rattle.tangle_scan.proofs.Columns.{place-if_some, place-none}
use Rattle.tangle_scan.proofs.clearing.ways.place_of.Goals as goal

pub returns-clause-some : goal.returns-clause-some
returns-clause-some c =
    place-if_some c.args.head c.args.column.now.items c.first_place.result
    (c.first_place.ensures ∙ ap (position (has_head c.args.head)) c.as_slice.ensures.value)

pub returns-clause-none : goal.returns-clause-none
returns-clause-none c none =
    place-none c.args.head c.args.column.now.items
    (sym (c.first_place.ensures ∙ ap (position (has_head c.args.head)) c.as_slice.ensures.value) ∙ none)
