-- The images of lists: whether an element passes, and the first place that passes.
use Rattle.std.proofs.Common.{◌≡◌, Bool, List, [], ◌∷◌, map, length, refl, ap, arith, ◌||◌, true, cond}
use Rattle.std.specs.List.{count_by, list_any}
use Rattle.std.proofs.lemmas.List.Sums.{sum_by-cons}
use Rattle.kh_types.proofs.Lists.{position_or_len-map, position-map, unwrap_or-position}

-- whether an element passes, in the image of a list
pub list_any-map : {X Y : Type 0} (p : Y → Bool) (f : X → Y) (xs : List X) → list_any p (map f xs) ≡ list_any (λ x. p (f x)) xs
list_any-map p f [] = refl
list_any-map p f (x ∷ xs) = ap (λ b. p (f x) || b) (list_any-map p f xs)

-- of values that are all true all count
pub count-all : {X : Type 0} (xs : List X) → count_by (λ is_alive. is_alive) (map (λ x. true) xs) ≡ length xs
count-all [] = refl
count-all (x ∷ xs) = omega (arith, sum_by-cons (λ b. cond b 1 0) true (map (λ y. true) xs), count-all xs)

pub ruleset images = (position_or_len-map, position-map, list_any-map, unwrap_or-position)
