-- Codes with as many components and loops as another.
use Rattle.std.specs.Prelude.{◌≡◌, ◌+◌}
use Rattle.kh_types.specs.Code.{Code}
use Rattle.kh_types.specs.Components.{component_count}

-- a code has as many components and loops together as another
abbrev pub HasComponents : Code → Code → Type 0
HasComponents old new = component_count new.crossings + new.loops ≡ component_count old.crossings + old.loops
