-- The lines of a text, taken one after another.
use Rattle.std.proofs.Common.{◌≡◌, ℕ, ◌+◌, ◌<◌, ◌≤◌, List, [], ◌∷◌, length, drop, refl, ap, arith, Bool, true, false, cond}
use Rattle.std.proofs.Math.ListN.{drop_of_length-le}
use Rattle.kh_lex.specs.Lines.{is_line_feed, lines_of}
use Rattle.kh_lex.specs.Sections.{before_first, first_section}
use Rattle.kh_lex.proofs.Sections.{sections_of-at}
use Rattle.cancel_log.specs.LinesLeft.{AreFew, LinesLeft, TakesLine, lines_left}

pub line-taken : (text line : List ℕ) (place number : ℕ) → place < length text → line ≡ first_section is_line_feed (drop place text)
    → TakesLine (lines_left number place text) line (lines_left (number + 1) (place + (length line + 1)) text)
line-taken text line place number left is = record { rest = sections_of-at is_line_feed text line place left is; number = refl }

pub none-left : (text : List ℕ) (place : ℕ) → length text ≤ place → lines_of (drop place text) ≡ []
none-left text place past = ap lines_of (drop_of_length-le text past)

pub ruleset taken = (line-taken, none-left)

-- a text has no more lines than bytes

pub length-lines_of-le : (text : List ℕ) → length (lines_of text) ≤ length text
length-lines_of-le [] = omega arith
length-lines_of-le (byte ∷ bytes) = go (is_line_feed byte) (length-lines_of-le bytes)
  where
    first : (lines : List (List ℕ)) (n : ℕ) → length lines ≤ n → length (before_first byte lines) ≤ n + 1
    first [] n few = omega arith
    first (line ∷ lines) n few = omega (arith, few)

    go : (b : Bool) → length (lines_of bytes) ≤ length bytes
        → length (cond b ([] ∷ lines_of bytes) (before_first byte (lines_of bytes))) ≤ length (byte ∷ bytes)
    go true few = omega (arith, few)
    go false few = omega (arith, first (lines_of bytes) (length bytes) few)

pub few-taken : (old new : LinesLeft) (line : List ℕ) → AreFew old → TakesLine old line new → AreFew new
few-taken old new line few takes = omega (arith, few, takes.number, ap length takes.rest)
