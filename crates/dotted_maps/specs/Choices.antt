-- The composition of two terms as a list: dot sets among which all are that count.
use Rattle.std.specs.Prelude.{ℕ, ◌+◌, ◌-◌, ◌*◌, List, [], ◌∷◌, ◌++◌, map, nat_eq, ◌&&◌, if◌then◌else◌}
use Rattle.std.specs.List.{flat_map, list_all}
use Rattle.surface_laws.specs.Points.{Points, discs}
use Rattle.dotted_maps.specs.Parts.{components, component_in, dotted_on, genus_in, product_over, part_at}
use Rattle.dotted_maps.specs.declared.term.Term.{Term}

-- dots and genus of a component: it counts where they are 1, or 0
abbrev pub load_on : Points → List (ℕ × ℕ) → List (ℕ × ℕ) → List (ℕ × ℕ) → ℕ → ℕ → ℕ → ℕ
load_on points m n o dots others component =
    dotted_on points m n o component dots (discs points m n) + dotted_on points m n o component others (discs points n o)
    + genus_in points m n o component

-- how many of its discs have no dot then, and its factor
abbrev pub undotted_at : Points → List (ℕ × ℕ) → List (ℕ × ℕ) → List (ℕ × ℕ) → ℕ → ℕ → ℕ → ℕ
undotted_at points m n o dots others component = 1 - load_on points m n o dots others component

abbrev pub factor_at : Points → List (ℕ × ℕ) → List (ℕ × ℕ) → List (ℕ × ℕ) → ℕ → ℕ → ℕ → ℕ
factor_at points m n o dots others component =
    if nat_eq (load_on points m n o dots others component) 1 then 1 + genus_in points m n o component
    else (if nat_eq (load_on points m n o dots others component) 0 then 1 else 0)

-- one less at k
abbrev pub fewer : ℕ → (ℕ → ℕ) → ℕ → ℕ
fewer k left x = if nat_eq x k then left x - 1 else left x

-- all dot sets of discs, of which these are the components, that leave so many of each of the named components without a dot: disc by
-- disc, it has a dot or, while any are left there, none
abbrev pub choices : List ℕ → List ℕ → (ℕ → ℕ) → List ℕ
choices names [] left = if list_all (λ k. nat_eq (left k) 0) names then 0 ∷ [] else []
choices names (k ∷ ks) left =
    map (λ s. 1 + 2 * s) (choices names ks left)
    ++ (if nat_eq (left k) 0 then [] else map (λ s. 2 * s) (choices names ks (fewer k left)))

-- the composition of two terms, and of two maps, where h and k are 0
abbrev pub composed_terms : Points → List (ℕ × ℕ) → List (ℕ × ℕ) → List (ℕ × ℕ) → Term → Term → List Term
composed_terms points m n o term other =
    map (λ kept. record {
      dots = kept;
      coefficient = term.coefficient * other.coefficient
          * product_over (factor_at points m n o term.dots other.dots) (components points m n o);
    })
    (choices (components points m n o) (map (component_in points m n o) (discs points m o))
    (undotted_at points m n o term.dots other.dots))

abbrev pub listed : Points → List (ℕ × ℕ) → List (ℕ × ℕ) → List (ℕ × ℕ) → List Term → List Term → List Term
listed points m n o first second = flat_map (λ term. flat_map (composed_terms points m n o term) second) first

-- for all h and k a dot set counts only where each disc of a component with dots of the terms has a dot: disc by disc, it has a dot or,
-- while its component has none, none
abbrev pub dots_at : Points → List (ℕ × ℕ) → List (ℕ × ℕ) → List (ℕ × ℕ) → ℕ → ℕ → ℕ → ℕ
dots_at points m n o dots others component =
    dotted_on points m n o component dots (discs points m n) + dotted_on points m n o component others (discs points n o)

abbrev pub free_choices : List ℕ → (ℕ → ℕ) → List ℕ
free_choices [] dots = 0 ∷ []
free_choices (c ∷ cs) dots =
    map (λ s. 1 + 2 * s) (free_choices cs dots) ++ (if nat_eq (dots c) 0 then map (λ s. 2 * s) (free_choices cs dots) else [])

abbrev pub terms_with : ℕ → ℕ → Points → List (ℕ × ℕ) → List (ℕ × ℕ) → List (ℕ × ℕ) → Term → Term → List Term
terms_with h k points m n o term other =
    map (λ kept. record {
      dots = kept;
      coefficient = term.coefficient * other.coefficient
          * product_over (part_at h k points m n o term.dots other.dots kept) (components points m n o);
    })
    (free_choices (map (component_in points m n o) (discs points m o)) (dots_at points m n o term.dots other.dots))

-- the composition of two maps; where h and k are 0 it is the shorter list
abbrev pub listed_with : ℕ → ℕ → Points → List (ℕ × ℕ) → List (ℕ × ℕ) → List (ℕ × ℕ) → List Term → List Term → List Term
listed_with h k points m n o first second =
    if nat_eq h 0 && nat_eq k 0 then listed points m n o first second
    else flat_map (λ term. flat_map (terms_with h k points m n o term) second) first
