-- What a diagram keeps, and the code that contracts see: its crossings stand first in an array, the rest of which is blank.
use Rattle.std.specs.Prelude.{◌≡◌, ℕ, List, length, take, IsTrue}
use Rattle.std.proofs.Common.{◌∙◌, ap}
use Rattle.kh_types.specs.Code.{Code}
use Rattle.kh_types.specs.Acceptance.{accepted}
use Rattle.kh_types.specs.Filling.{filled, IsFilled, filled-take, length-take_filled}
use Rattle.kh_types.specs.declared.diagram.Diagram.TheInside.{Inside}

-- the code that contracts see: the crossings that the array begins with, and the loops
abbrev pub code_of_diagram : Inside → Code
code_of_diagram diagram = record { crossings = take diagram.count diagram.table; loops = diagram.loops }

-- the array is blank behind the crossings, and their code is accepted
pub record IsDiagram (diagram : Inside) : Type 0 where
  pub table : IsFilled diagram.table diagram.count
  pub code : IsTrue (accepted (code_of_diagram diagram))

-- what a diagram keeps: an array, the number of crossings that it begins with, and the number of loops
abbrev pub made : List (List ℕ) → ℕ → ℕ → Inside
made table count loops = record { table = table; count = count; loops = loops }

-- what the diagram of a code keeps
abbrev pub inside_of : Code → Inside
inside_of code = made (filled code.crossings) (length code.crossings) code.loops

-- the code gives back what the diagram keeps
pub inside_of-code_of_diagram : (diagram : Inside) → IsDiagram diagram → inside_of (code_of_diagram diagram) ≡ diagram
inside_of-code_of_diagram diagram h =
    ap (λ (table : List (List ℕ)). made table (length (take diagram.count diagram.table)) diagram.loops)
    (filled-take diagram.table diagram.count h.table)
    ∙ ap (λ (n : ℕ). made diagram.table n diagram.loops) (length-take_filled diagram.table diagram.count h.table)
