-- What components keep, and the code that contracts see: that of the diagram whose components they are.
use Rattle.std.specs.Prelude.{◌≡◌, ℕ, ◌-◌, List, ◌++◌, length, replicate}
use Rattle.std.proofs.Common.{ap, sym}
use Rattle.kh_types.specs.Code.{Code}
use Rattle.kh_types.specs.Components.{components_of}
use Rattle.orient_arcs.specs.declared.numbered.TheConstants.{NUMBERS}
use Rattle.orient_arcs.specs.declared.numbered.Components.TheInside.{Inside}

-- the array that begins with the components of some numbers, with 0 behind them
abbrev pub spread : List ℕ → List ℕ
spread components = components ++ replicate (NUMBERS - length components) 0

-- the code that contracts see
abbrev pub code_of_components : Inside → Code
code_of_components components = components.diagram

-- the array holds the component of each number of the code
pub record IsComponents (components : Inside) : Type 0 where
  pub least : components.least ≡ spread (components_of components.diagram.crossings)

-- what the components of a code keep
abbrev pub inside_of_components : Code → Inside
inside_of_components code = record { diagram = code; least = spread (components_of code.crossings) }

-- the code gives back what they keep
pub inside_of_components-code : (components : Inside) → IsComponents components
    → inside_of_components (code_of_components components) ≡ components
inside_of_components-code components h = ap (made components.diagram) (sym h.least)
  where
    made : Code → List ℕ → Inside
    made code least = record { diagram = code; least = least }
