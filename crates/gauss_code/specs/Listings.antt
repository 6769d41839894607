-- What a signed Gauss text lists (Knot Atlas, "Gauss Codes"; the groups, the loops and the signs are this project's rule).
use Rattle.std.specs.Prelude.{ℕ, ◌/◌, List, [], ◌∷◌, length, Bool, true, false, ℤ, Option}
use Rattle.std.specs.List.{count_by, flat_map}

-- the body of a text: the labels of the one component, or nothing, without braces; or groups of labels, of which there is one at
-- least
pub data Body : Type 0 where
  Bare : List ℤ → Body
  Groups : List ℤ → List (List ℤ) → Body

-- a text lists a body, and the signs of the crossings if it has any
pub record Listing : Type 0 where
  pub body : Body
  pub signs : Option (List ℤ)

-- the components of a body and its loops, in order, each by its labels: labels without braces are one component, and each group
-- is one; a loop has no label
abbrev pub groups_of : Body → List (List ℤ)
groups_of (Bare []) = []
groups_of (Bare (label ∷ labels)) = (label ∷ labels) ∷ []
groups_of (Groups group groups) = group ∷ groups

-- whether a list of labels is empty
abbrev pub is_loop_group : List ℤ → Bool
is_loop_group [] = true
is_loop_group (label ∷ labels) = false

-- the number of loops
abbrev pub loop_group_count : Body → ℕ
loop_group_count body = count_by is_loop_group (groups_of body)

-- the labels of all components, in the order of the text
abbrev pub labels_of : Body → List ℤ
labels_of body = flat_map (λ labels. labels) (groups_of body)

-- the number of crossings: a crossing has two labels, one for each of its passes, so it is half the number of labels, rounded down
abbrev pub crossing_count : Body → ℕ
crossing_count body = length (labels_of body) / 2
