-- What contracts see of the values of this crate.
use Rattle.morse_drawing.specs.Joins.{JoinedDarts}
use Rattle.morse_drawing.specs.OpenEnds.{OpenEnds}
use Rattle.morse_drawing.specs.Pages.{Page}
use Rattle.morse_drawing.specs.declared.joins.Joins.TheInside.{Inside}
use Rattle.morse_drawing.specs.declared.open_ends.OpenEnds.TheInside.{Inside as EndsInside}
use Rattle.morse_drawing.specs.declared.page.Page.TheInside.{Inside as PageInside}

-- the pairs that the list holds, and the loops
abbrev pub joined_darts : Inside → JoinedDarts
joined_darts joins = record { pairs = joins.pairs.items; loops = joins.loops }

-- the lists that a page holds
abbrev pub page_seen : PageInside → Page
page_seen page = record { drawn = page.drawn.items; row = page.row.items; slices = page.slices.items }

-- the row's labels, the other darts, the crossings drawn and the loops
abbrev pub open_ends : EndsInside → OpenEnds
open_ends ends = record { row = ends.row.items; others = ends.others; drawn = ends.drawn; loops = ends.loops }
