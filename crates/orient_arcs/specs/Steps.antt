-- The steps of renumbering.
use Rattle.std.specs.Prelude.{ℕ, List, [], map, Bool, not, ◌&&◌, if◌then◌else◌, nat_eq, int_lt}
use Rattle.std.specs.List.{flat_map, fold, range_with_len}
use Rattle.code_passes.specs.Passes.{Pass, is_over}
use Rattle.orient_arcs.specs.Renumbered.{follows, label_entered, is_in, with_component, turned_names}

-- the order of the names of all components whose least name is below a bound
abbrev pub order_below : List Pass → ℕ → List ℕ
order_below passes bound =
    flat_map (turned_names (label_entered passes)) (fold (with_component passes) [] (range_with_len 0 bound))

-- whether a name stands, and is in no component so far
abbrev pub is_new : List Pass → List ℕ → ℕ → Bool
is_new passes order name = is_in (map (λ (pass : Pass). pass.enters) passes) name && not (is_in order name)

-- whether a name and its next are a component that is over at both its crossings, of which the next enters the first listed
abbrev pub is_turned : List Pass → ℕ → Bool
is_turned passes name =
    let next = follows passes name in
    not (nat_eq next name) && (nat_eq (follows passes next) name
    && ((is_over (label_entered passes name) && is_over (label_entered passes next)) && int_lt (label_entered passes next) (label_entered passes name)))

-- the name with which the component of its least name begins
abbrev pub start_of : List Pass → ℕ → ℕ
start_of passes name = if is_turned passes name then follows passes name else name
