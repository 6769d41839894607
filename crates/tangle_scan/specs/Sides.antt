-- The two sides on which crossings are: the first piece, and the others.
use Rattle.std.specs.Prelude.{ℕ, List, Bool, not, cond}
use Rattle.union_laws.specs.Pieces.{is_in_first_piece}

-- whether the crossing at a place is in the first piece, or whether it is not
abbrev pub is_on_side : Bool → List (List ℕ) → ℕ → Bool
is_on_side is_first crossings place = cond is_first (is_in_first_piece crossings place) (not (is_in_first_piece crossings place))
