-- The test of letters.
use Rattle.std.proofs.Common.{◌≡◌, ℕ, ◌∙◌, List, length, sym, arith, Bool, true, nat_le, nat_lt}
use Rattle.std.specs.Prelude.{ℤ, IsTrue, ◌↔◌}
use Rattle.std.proofs.lemmas.Bool.{and_parts, and_from, le-leb, leb-true, lt-ltb, ltb-true}
use Rattle.kh_types.proofs.RangeCounts.{list_all-at, list_all-each}
use Rattle.braid_maker.specs.Braids.{left_of}
use Rattle.braid_maker.specs.Closures.{AreLetters, are_letters, is_letter}

true-AreLetters : (strands : ℕ) (letters : List ℤ) → are_letters strands letters ≡ true → AreLetters strands letters
true-AreLetters strands letters all = λ place below.
    let left = left_of letters place in
    let parts =
    and_parts (nat_le 1 left) (nat_lt left strands)
    (list_all-at (is_letter strands letters) 0 (length letters) place all (omega arith) (omega (arith, below))) in
    (leb-true 1 left parts.0, ltb-true left strands parts.1)

AreLetters-true : (strands : ℕ) (letters : List ℤ) → AreLetters strands letters → are_letters strands letters ≡ true
AreLetters-true strands letters are = list_all-each (is_letter strands letters) 0 (length letters) (λ place from below.
    let left = left_of letters place in
    let is = are place (omega (arith, below)) in
    and_from (nat_le 1 left) (nat_lt left strands) (le-leb 1 left is.0) (lt-ltb left strands is.1))

pub letters-tested : (strands : ℕ) (letters : List ℤ) (result : Bool) → result ≡ are_letters strands letters
    → IsTrue result ↔ AreLetters strands letters
letters-tested strands letters result same = (
  λ holds. true-AreLetters strands letters (sym same ∙ holds),
  λ are. same ∙ AreLetters-true strands letters are,
)
