-- Tests of integers.
use Rattle.std.proofs.Common.{◌≡◌, ◌≢◌, ℤ, true, false}
use Rattle.std.specs.Ordering.{int_eq}
use Rattle.std.proofs.lemmas.Bool.{false_from_ne_true}
use Rattle.std.proofs.lemmas.Bool.Decides.{Decides-int_eq}

pub int_eq-same : (i j : ℤ) → i ≡ j → int_eq i j ≡ true
int_eq-same i j same = (Decides-int_eq i j).1 same

pub int_eq-other : (i j : ℤ) → i ≢ j → int_eq i j ≡ false
int_eq-other i j other = false_from_ne_true (int_eq i j) (λ same. other ((Decides-int_eq i j).0 same))
