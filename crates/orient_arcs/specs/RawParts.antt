-- What contracts see of parts.
use Rattle.code_passes.specs.Parts.{Parts}
use Rattle.orient_arcs.specs.declared.parts.Parts.TheInside.{Inside}

abbrev pub parts_of_raw : Inside → Parts
parts_of_raw raw = record { crossings = raw.crossings.items; positive = raw.positive.items; loops = raw.loops }
