-- How loops compute labels, passes and crossings.
use Rattle.std.proofs.Common.{◌≡◌, ℕ, ◌+◌, ◌<◌, List, [], ◌∷◌, ◌++◌, length, map, drop, get_or, ap, sym, ◌∙◌, arith, append_assoc, length-append, ℤ}
use Rattle.std.specs.Global.{Vec}
use Rattle.std.specs.List.{range_with_len}
use Rattle.std.proofs.lemmas.List.{at_drop_more}
use Rattle.std.proofs.lemmas.List.FromFn.{length-map-range_with_len}
use Rattle.kh_types.proofs.Ranges.{map_from_zero, range_steps}
use Rattle.gauss_code.specs.Held.{labels_held, numbers_of}
use Rattle.code_passes.specs.Passes.{Pass, all_passes, pass_at, passes_from, turned_labels}
use Rattle.code_passes.proofs.ComponentPasses.{length-turned_labels}

pub ruleset one_more_pass = (length-turned_labels, range_steps)

-- a component has a pass for each label
pub length-passes_from : (first : ℕ) (labels : List ℤ) → length (passes_from first (turned_labels labels)) ≡ length labels
length-passes_from first labels = length-map-range_with_len (pass_at first (turned_labels labels)) 0 (length (turned_labels labels)) ∙ length-turned_labels labels

-- one more pass
pub passes-push : (initial passes made : List Pass) (pass : Pass) (first : ℕ) (labels : List ℤ) (at : ℕ)
    → passes ≡ initial ++ map (pass_at first labels) (range_with_len 0 at) → made ≡ passes ++ pass ∷ [] → pass ≡ pass_at first labels at
    → made ≡ initial ++ map (pass_at first labels) (range_with_len 0 (at + 1))
passes-push initial passes made pass first labels at so_far one_more is =
    one_more ∙ ap (λ p. passes ++ p ∷ []) is ∙ ap (λ p. p ++ pass_at first labels at ∷ []) so_far
    ∙ append_assoc initial (map (pass_at first labels) (range_with_len 0 at)) (pass_at first labels at ∷ [])
    ∙ ap (λ p. initial ++ p) (sym (map_from_zero (pass_at first labels) at))

-- and so many they are
pub passes-length : (initial passes : List Pass) (first : ℕ) (labels : List ℤ) (at : ℕ)
    → passes ≡ initial ++ map (pass_at first labels) (range_with_len 0 at) → length passes ≡ length initial + at
passes-length initial passes first labels at so_far =
    ap length so_far ∙ length-append initial (map (pass_at first labels) (range_with_len 0 at))
    ∙ ap (λ n. length initial + n) (length-map-range_with_len (pass_at first labels) 0 at)

-- one more component
pub passes_more : (passes initial : List Pass) (components : List (Vec ℤ)) (i : ℕ) (d : Vec ℤ) (made : List Pass) → i < length components
    → made ≡ passes ++ passes_from (length passes + 1) (turned_labels (get_or components i d).items)
    → passes ++ all_passes (length passes + 1) (numbers_of (drop i components)) ≡ initial
    → made ++ all_passes (length made + 1) (numbers_of (drop (i + 1) components)) ≡ initial
passes_more passes initial components i d made less is so_far =
    let labels : List ℤ = (get_or components i d).items in
    let added : List Pass = passes_from (length passes + 1) (turned_labels labels) in
    let rest : List (List ℤ) = numbers_of (drop (i + 1) components) in
    let size : length made + 1 ≡ length passes + 1 + length labels
    = omega (arith, ap length is, length-append passes added, length-passes_from (length passes + 1) labels) in
    ap (λ n. made ++ all_passes n rest) size
    ∙ ap (λ m. m ++ all_passes (length passes + 1 + length labels) rest) is
    ∙ append_assoc passes added (all_passes (length passes + 1 + length labels) rest)
    ∙ sym (at_drop_more (λ lists. passes ++ all_passes (length passes + 1) (numbers_of lists)) components i d less)
    ∙ so_far

-- and so many labels fewer are left
pub labels_left : (components : List (Vec ℤ)) (i : ℕ) (d : Vec ℤ) → i < length components
    → length (labels_held (drop i components)) ≡ length (get_or components i d).items + length (labels_held (drop (i + 1) components))
labels_left components i d less =
    at_drop_more (λ lists. length (labels_held lists)) components i d less
    ∙ length-append (get_or components i d).items (labels_held (drop (i + 1) components))
