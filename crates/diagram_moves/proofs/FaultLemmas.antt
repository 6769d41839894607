-- What it says that no fault comes.
use Rattle.std.proofs.Common.{◌≡◌, ℕ, ◌≤◌, arith, Bool, not, ◌||◌}
use Rattle.std.specs.Prelude.{nat_eq, nat_lt, Option, Some, None, true, false}
use Rattle.std.specs.Option.{option_or}
use Rattle.std.proofs.lemmas.Bool.Decides.{nat_tests}
use Rattle.diagram_moves.specs.declared.fault.MoveFault.{MoveFault}
use Rattle.kh_types.specs.Code.{Code, IsCrossing}
use Rattle.diagram_moves.specs.MoveFaults.{no_crossing, refused_where}
use Rattle.diagram_moves.specs.declared.fault.MoveFault.TheVariants.{Genus}

pub both-none : (x y : Option MoveFault) → option_or x y ≡ None → (x ≡ None) × (y ≡ None)
both-none x y none = grind (arith, nat_tests)

pub none-false : (b : Bool) (fault : MoveFault) → refused_where b fault ≡ None → b ≡ false
none-false b fault none = grind (arith, nat_tests)

pub none-not : (b : Bool) (fault : MoveFault) → refused_where (not b) fault ≡ None → b ≡ true
none-not b fault none = grind (arith, nat_tests)

pub none-within : (x most : ℕ) (fault : MoveFault) → refused_where (nat_eq x 0 || nat_lt most x) fault ≡ None → (1 ≤ x) × (x ≤ most)
none-within x most fault none = grind (arith, nat_tests)

pub none-above : (most count : ℕ) (fault : MoveFault) → refused_where (nat_lt most count) fault ≡ None → count ≤ most
none-above most count fault none = grind (arith, nat_tests)

pub none-same : (x y : ℕ) (fault : MoveFault) → refused_where (not (nat_eq x y)) fault ≡ None → x ≡ y
none-same x y fault none = grind (arith, nat_tests)

pub is_crossing : (code : Code) (c : ℕ) → no_crossing code c ≡ None → IsCrossing code.crossings c
is_crossing code c none = grind (arith, nat_tests)

pub first_is_crossing : (code : Code) (c : ℕ) (later : Option MoveFault) → option_or (no_crossing code c) later ≡ None
    → IsCrossing code.crossings c
first_is_crossing code c later none = is_crossing code c (both-none (no_crossing code c) later none).0

pub second_is_crossing : (code : Code) (c d : ℕ) → option_or (no_crossing code c) (no_crossing code d) ≡ None
    → IsCrossing code.crossings d
second_is_crossing code c d none = is_crossing code d (both-none (no_crossing code c) (no_crossing code d) none).1

-- tests that name other faults than that of the faces, and their order

pub other-fault : (b : Bool) (fault : MoveFault) (faces wanted : ℕ) → ¬ (fault ≡ Genus faces wanted)
    → ¬ (refused_where b fault ≡ Some (Genus faces wanted))
other-fault b fault faces wanted other = grind (arith, nat_tests)

pub neither-fault : (x y : Option MoveFault) (fault : MoveFault) → ¬ (x ≡ Some fault) → ¬ (y ≡ Some fault) → ¬ (option_or x y ≡ Some fault)
neither-fault x y fault no_x no_y same = grind (arith, nat_tests)
