-- The Hopf link's two crossings: the two pairings of the four arcs that are open between them, and numbers of surfaces there.
use Rattle.std.specs.Prelude.{ℕ, List, [], ◌∷◌, map}
use Rattle.kh_types.specs.WorkedCodes.{hopf_link}
use Rattle.surface_laws.specs.Surfaces.{value}
use Rattle.added_crossing_laws.specs.Entries.{entry_at, label_before, saddle_surface}
use Rattle.added_crossing_laws.specs.Saddles.{edge_with}

-- the pairing that the 0-smoothing of the first crossing makes, and that of the 1-smoothing
abbrev pub zero_pairs : List (ℕ × ℕ)
zero_pairs = (1, 4) ∷ (2, 3) ∷ []

abbrev pub one_pairs : List (ℕ × ℕ)
one_pairs = (1, 3) ∷ (2, 4) ∷ []

-- labels of one circle, and of two: the lowest bit is that of the first circle
abbrev pub labels_of_one : List ℕ
labels_of_one = 0 ∷ 1 ∷ []

abbrev pub labels_of_two : List ℕ
labels_of_two = 0 ∷ 1 ∷ 2 ∷ 3 ∷ []

-- the saddle's numbers at the first crossing: without a dot on its disc, and with one
abbrev pub first_saddle : ℕ → ℕ → List ℕ
first_saddle h minus = map (λ kept. value h minus (saddle_surface hopf_link 0 [] 0 0 kept)) labels_of_one

-- those at the second crossing for the first pairing: from the labels of two circles to the label of one
abbrev pub merging_to : ℕ → ℕ → ℕ → List ℕ
merging_to h minus other = map (λ label. value h minus (saddle_surface hopf_link 1 zero_pairs label other 0)) labels_of_two

-- and for the other one: from the label of one circle to the labels of two
abbrev pub splitting_from : ℕ → ℕ → ℕ → List ℕ
splitting_from h minus label = map (λ other. value h minus (saddle_surface hopf_link 1 one_pairs label other 0)) labels_of_two

-- the coefficients of the cube's edge at the second crossing for the first pairing
abbrev pub edges_to : ℕ → ℕ → ℕ → List ℕ
edges_to h minus other =
    map (λ label. edge_with h minus hopf_link 1 0 zero_pairs (label_before hopf_link 1 0 0 zero_pairs label)
    (label_before hopf_link 1 1 0 zero_pairs other)) labels_of_two

-- the entries of dotted discs from the first pairing to itself, between the crossings: from labels of its two circles at the state 0
abbrev pub entries_from : ℕ → ℕ → ℕ → ℕ → List ℕ
entries_from h minus dots label = map (λ other. entry_at h minus hopf_link 1 0 zero_pairs zero_pairs dots label other) labels_of_two
