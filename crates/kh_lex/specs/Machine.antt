-- A machine that reads symbols one after another.
use Rattle.std.specs.Prelude.{List, [], ◌∷◌, Option, Some}
use Rattle.std.specs.Option.{option_and_then}

-- the state of a machine after symbols, if it refuses none of them; `step` is the state after one symbol, if the machine
-- takes it
abbrev pub run : {State Symbol : Type 0} → (State → Symbol → Option State) → State → List Symbol → Option State
run step state [] = Some state
run step state (symbol ∷ symbols) = option_and_then (λ next. run step next symbols) (step state symbol)
