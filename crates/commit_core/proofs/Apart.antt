-- The quantum degrees of the blocks are apart: none stands twice.
use Rattle.std.proofs.Common.{◌≢◌, ℕ, zero, suc, ◌+◌, ◌*◌, ◌<◌, List, [], ◌∷◌, ℤ, pos, ◌-ℤ◌, map, arith, Bool, true, false, cond}
use Rattle.std.specs.List.{filter, range_with_len, AllByRecursion}
use Rattle.std.proofs.lemmas.Int.{ints}
use Rattle.kh_types.specs.Code.{Code}
use Rattle.kh_types.specs.Table.{from_minus}
use Rattle.kh_types.specs.declared.limits.TheConstants.{EXPONENT}
use Rattle.cube_signs.specs.Blocks.{block_degrees, has_block}

-- no integer stands twice
abbrev pub AreApart : List ℤ → Type 0
AreApart [] = Unit {0}
AreApart (x ∷ xs) = AllByRecursion (λ y. y ≢ x) xs × AreApart xs

all-filter : (P : ℤ → Type 0) (test : ℤ → Bool) (xs : List ℤ) → AllByRecursion P xs → AllByRecursion P (filter test xs)
all-filter P test [] all = tt
all-filter P test (x ∷ xs) all = kept (test x) (all-filter P test xs all.1)
  where
    kept : (b : Bool) → AllByRecursion P (filter test xs) → AllByRecursion P (cond b (x ∷ filter test xs) (filter test xs))
    kept true rest = (all.0, rest)
    kept false rest = rest

apart-filter : (test : ℤ → Bool) (xs : List ℤ) → AreApart xs → AreApart (filter test xs)
apart-filter test [] apart = tt
apart-filter test (x ∷ xs) apart = kept (test x) (apart-filter test xs apart.1)
  where
    kept : (b : Bool) → AreApart (filter test xs) → AreApart (cond b (x ∷ filter test xs) (filter test xs))
    kept true rest = (all-filter (λ y. y ≢ x) test xs apart.0, rest)
    kept false rest = rest

later-apart : (n a b m : ℕ) → a < b → AllByRecursion (λ y. y ≢ pos a -ℤ pos n) (map (λ k. pos k -ℤ pos n) (range_with_len b m))
later-apart n a b zero less = tt
later-apart n a b (suc m) less = ((λ same. omega (arith, ints, same)), later-apart n a (b + 1) m (omega arith))

range-apart : (n a m : ℕ) → AreApart (map (λ k. pos k -ℤ pos n) (range_with_len a m))
range-apart n a zero = tt
range-apart n a (suc m) = (later-apart n a (a + 1) m (omega arith), range-apart n (a + 1) m)

pub block_degrees-apart : (code : Code) → AreApart (block_degrees code)
unfolding block_degrees
block_degrees-apart code = apart-filter (has_block code) (from_minus EXPONENT) (range-apart EXPONENT 0 (2 * EXPONENT + 1))
