-- The lines of a text that are left to read, as the way of the code.
use Rattle.std.specs.Prelude.{◌≡◌, ℕ, ◌+◌, ◌≤◌, List, ◌∷◌, length, drop}
use Rattle.kh_lex.specs.Lines.{lines_of}
use Rattle.cancel_log.specs.Verdicts.{DifferFirst}
use Rattle.cancel_log.specs.declared.limits.TheConstants.{LOG_BYTES}

-- the lines that are left, of which the first has a number
pub record LinesLeft : Type 0 where
  pub number : ℕ
  pub rest : List (List ℕ)

-- these two, of a text from a place on
abbrev pub lines_left : ℕ → ℕ → List ℕ → LinesLeft
lines_left number place text = record { number = number; rest = lines_of (drop place text) }

-- the numbers of lines are no greater than a text of a log has bytes, and one more
abbrev pub AreFew : LinesLeft → Type 0
AreFew lines = lines.number + length lines.rest ≤ LOG_BYTES + 1

-- the first of the lines that are left is taken
pub record TakesLine (old : LinesLeft) (line : List ℕ) (new : LinesLeft) : Type 0 where
  pub rest : old.rest ≡ line ∷ new.rest
  pub number : new.number ≡ old.number + 1

-- no line has a number above that of the byte at which it begins
pub record IsAtLine (text : List ℕ) (place number : ℕ) : Type 0 where
  pub few : number ≤ place + 1

-- the lines that are left and others are the same up to a place, which has this number, and there they differ
abbrev pub DifferAt : LinesLeft → LinesLeft → ℕ → Type 0
DifferAt lines wanted number = (place : ℕ) × (number ≡ lines.number + place) × DifferFirst lines.rest wanted.rest place
