-- Lists in parts.
use Rattle.std.proofs.lemmas.Bool.Decides.{nat_tests}
use Rattle.std.proofs.Common.{◌≡◌, ℕ, ◌+◌, ◌<◌, List, ◌∷◌, ◌++◌, length, get_or, take, drop, arith}
use Rattle.std.proofs.Math.Seq.{drop-cons}
use Rattle.std.proofs.lemmas.List.{take-append-drop}

-- a list in parts round a place, and round two
pub parts-one : (k : ℕ) (xs : List ℕ) → k < length xs → xs ≡ take k xs ++ get_or xs k 0 ∷ drop (k + 1) xs
parts-one k xs below = grind (arith, nat_tests, take-append-drop k xs, drop-cons xs k 0 below)

pub parts-two : (k : ℕ) (xs : List ℕ) → k + 1 < length xs → xs ≡ take k xs ++ get_or xs k 0 ∷ get_or xs (k + 1) 0 ∷ drop (k + 2) xs
parts-two k xs below = grind (arith, nat_tests, parts-one k xs (omega (arith, below)), drop-cons xs (k + 1) 0 below)
