-- The number of a row is the same in both forms: a sum of two tables, or one case after another.
use Rattle.std.proofs.lemmas.Bool.Decides.{nat_tests}
use Rattle.std.proofs.Common.{◌≡◌, ℕ, List, [], ◌∷◌, arith}
use Rattle.square_laws.specs.Deformed.{row_number}
use Rattle.added_crossing_laws.specs.Saddles.{changed}

pub rows-changed : (h k : ℕ) (before after : List ℕ) → row_number h k before after ≡ changed h k before after
rows-changed h k [] after = grind (arith, nat_tests)
rows-changed h k (x ∷ []) [] = grind (arith, nat_tests)
rows-changed h k (x ∷ []) (u ∷ []) = grind (arith, nat_tests)
rows-changed h k (x ∷ []) (u ∷ v ∷ []) = grind (arith, nat_tests)
rows-changed h k (x ∷ []) (u ∷ v ∷ w ∷ rest) = grind (arith, nat_tests)
rows-changed h k (x ∷ y ∷ []) [] = grind (arith, nat_tests)
rows-changed h k (x ∷ y ∷ []) (u ∷ []) = grind (arith, nat_tests)
rows-changed h k (x ∷ y ∷ []) (u ∷ v ∷ rest) = grind (arith, nat_tests)
rows-changed h k (x ∷ y ∷ z ∷ more) after = grind (arith, nat_tests)
