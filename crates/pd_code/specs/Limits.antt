-- The code of items within the limits, as the way of the code.
use Rattle.std.specs.Prelude.{nat_lt, if◌then◌else◌, List, length, Result, Ok, Err}
use Rattle.kh_types.specs.Code.{Code}
use Rattle.kh_types.specs.declared.limits.TheConstants.{CROSSINGS, LOOPS}
use Rattle.pd_code.specs.declared.item.Item.{Item}
use Rattle.pd_code.specs.declared.stop.PdStop.{PdStop}
use Rattle.pd_code.specs.declared.stop.PdStop.TheVariants.{CrossingLimit, LoopLimit}
use Rattle.pd_code.specs.Items.{code_of_items, crossings_among, loop_item_count}

-- the code of items, or the first limit that they pass: crossings, then loops
abbrev pub code_within : List Item → Result Code PdStop
code_within items =
    if nat_lt CROSSINGS (length (crossings_among items)) then Err (CrossingLimit (length (crossings_among items)))
    else if nat_lt LOOPS (loop_item_count items) then Err (LoopLimit (loop_item_count items))
    else Ok (code_of_items items)
