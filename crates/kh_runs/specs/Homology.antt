-- The text of Khovanov homology with the Jones line (Bar-Natan 2002, sections 2 and 3), in a form of this project's own, and what it is
-- that a run has written it.
use Rattle.std.specs.Prelude.{◌≡◌, ℕ, ℤ, List, ◌++◌}
use Rattle.std.specs.declared.option.Option.{Option}
use Rattle.std.specs.Io.KnownBytes.{Appends}
use Rattle.kh_types.specs.Code.{Code}
use Rattle.kh_types.specs.StateSum.{euler, polynomial_text, state_sum}
use Rattle.kh_types.specs.Table.{table, table_text}
use Rattle.kh_runs.specs.declared.status.Status.{Status}
use Rattle.kh_runs.specs.declared.status.Status.TheVariants.{Done}

-- the Jones line of a diagram, which is that of its state sum
unfoldable pub jones_line : Code → List ℕ
jones_line code = polynomial_text (state_sum code)

-- the text of the homology table over the field of so many elements, and the Jones line behind it
unfoldable pub homology_text : ℕ → Code → List ℕ
homology_text field code = table_text (table field code) ++ jones_line code

-- a run has ended as done, and a sink has gained the homology table of a code over the field of p elements and the Jones line of its
-- state sum, which is the graded Euler characteristic of that table, and nothing else
pub record HasWrittenHomology (p : ℕ) (code : Code) (ended : Status) (before after : Option (List ℕ)) : Type 0 where
  pub status : ended ≡ Done
  pub written : Appends before after (table_text (table p code) ++ polynomial_text (state_sum code))
  pub sum : (exponent : ℤ) → state_sum code exponent ≡ euler (table p code) exponent
