-- One label v- turned to v+, in all ways (Shumakovitch, "Torsion of Khovanov homology", 2004).
use Rattle.std.specs.Prelude.{ℕ, ◌+◌, nat_eq, Bool, cond}
use Rattle.std.specs.List.{list_all, sum_by}
use Rattle.kh_types.specs.Bits.{one_if}
use Rattle.kh_types.specs.Circles.{circles_of, circle_of, circle_names}
use Rattle.kh_types.specs.Code.{Code, arcs_and_loops}
use Rattle.kh_types.specs.Differential.{label_of}
use Rattle.kh_types.specs.Generators.{Generator}

-- whether some labels, given for each arc and each loop, are those of a generator but for one circle, where they are 1 more
abbrev pub is_lowered : Code → (ℕ → ℕ) → Generator → ℕ → Bool
is_lowered code labels generator circle =
    list_all
    (λ arc. nat_eq (labels arc) (label_of code generator arc + one_if (nat_eq circle (circle_of (circles_of code generator.state) arc))))
    (arcs_and_loops code)

-- on how many circles, one or none, v- becomes v+ from one generator to another of the same state, while all other circles keep their
-- labels
abbrev pub turn_count : Code → Generator → Generator → ℕ
turn_count code tail head =
    cond (nat_eq tail.state head.state)
    (sum_by (λ circle. one_if (is_lowered code (label_of code tail) head circle)) (circle_names code head.state)) 0
