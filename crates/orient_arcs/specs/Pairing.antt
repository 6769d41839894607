-- Whether names are paired, as a test.
use Rattle.std.specs.Prelude.{ℕ, List, Bool, ◌&&◌, nat_eq, nat_lt}
use Rattle.std.specs.List.{count_by, list_all}
use Rattle.code_passes.specs.Passes.{Pass}

-- how many passes enter on a name, and how many leave on it
abbrev pub entering_count : List Pass → ℕ → ℕ
entering_count passes name = count_by (λ (pass : Pass). nat_eq pass.enters name) passes

abbrev pub leaving_count : List Pass → ℕ → ℕ
leaving_count passes name = count_by (λ (pass : Pass). nat_eq pass.leaves name) passes

-- whether one pass enters on a name at most, and as many leave on it
abbrev pub is_paired_in : List Pass → ℕ → Bool
is_paired_in passes name =
    nat_lt (entering_count passes name) 2 && nat_eq (leaving_count passes name) (entering_count passes name)

-- whether the names on which a pass enters and leaves are so
abbrev pub is_paired_at : List Pass → Pass → Bool
is_paired_at passes pass = is_paired_in passes pass.enters && is_paired_in passes pass.leaves

-- whether those of all passes are
abbrev pub all_are_paired : List Pass → Bool
all_are_paired passes = list_all (is_paired_at passes) passes
