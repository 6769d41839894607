-- What `rename` and `unused` of src/open_ends.rt need: the row of ends, renamed one by one.
use Rattle.std.proofs.lemmas.Bool.Decides.{nat_tests}
use Rattle.std.proofs.Common.{◌≡◌, ◌∙◌, ℕ, ◌+◌, ◌<◌, List, ◌++◌, ap, arith, length, map, take, drop, set, get_or}
use Rattle.std.specs.Prelude.{Option}
use Rattle.std.specs.Option.{option_map}
use Rattle.std.proofs.lemmas.List.{get_or_default, length-append, length-drop, length-map, length-take}
use Rattle.std.proofs.lemmas.List.Edits.{map_over_more}
use Rattle.morse_drawing.specs.declared.end.End.{End}
use Rattle.morse_drawing.specs.declared.end.End.TheVariants.{AtDart}

-- one more end is renamed
pub place_renamed : (f : End → End) (xs ys : List End) (i : ℕ) (y : End) → i < length xs → ys ≡ map f (take i xs) ++ drop i xs
    → y ≡ f (get_or ys i (AtDart 0)) → set ys i y ≡ map f (take (i + 1) xs) ++ drop (i + 1) xs
place_renamed f xs ys i y below is_ys is_y =
    let same_length : length ys ≡ length xs =
    ap (λ zs. length zs) is_ys ∙ length-append (map f (take i xs)) (drop i xs)
    ∙ ap (λ n. n + length (drop i xs)) (length-map (take i xs) f) ∙ grind (arith, length-take i xs, length-drop i xs) in
    let below_too : i < length ys = omega (arith, below, same_length) in
    ap (λ z. set ys i z) is_y
    ∙ map_over_more f xs ys i (get_or ys i (AtDart 0)) below is_ys (get_or_default ys i (AtDart 0) (get_or ys i (AtDart 0)) below_too)

pub option_map-same : (r : Option ℕ) → option_map (λ x. x) r ≡ r
option_map-same r = grind (arith, nat_tests)
