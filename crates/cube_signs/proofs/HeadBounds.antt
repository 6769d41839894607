-- How large labels with other bits are.
use Rattle.std.proofs.lemmas.Bool.Decides.{nat_tests}
use Rattle.std.proofs.Common.{◌≡◌, ℕ, suc, ◌+◌, ◌*◌, ◌/◌, ◌%◌, ◌^◌, ◌<◌, ◌≤◌, ◌∙◌, ap, arith}
use Rattle.std.proofs.Math.Nat.{div-add-mod, pow-suc}
use Rattle.std.proofs.Math.Pow.{pow_mono}
use Rattle.std.proofs.lemmas.Nat.{pow_pos}
use Rattle.kh_types.specs.declared.limits.TheConstants.{CIRCLES}
use Rattle.cube_signs.specs.Heads.{with_gap, without_bit}

pub power-within : (place : ℕ) → place ≤ CIRCLES → 2 ^ place ≤ 2 ^ CIRCLES
power-within place few = pow_mono few

-- twice a power of 2 is the next
next : (place : ℕ) → 2 ^ (place + 1) ≡ 2 ^ place * 2
next place =
    let e : place + 1 ≡ suc place = omega arith in
    ap (λ k. 2 ^ k) e ∙ pow-suc 2 place

-- the bits above a place moved down, and those from a place on moved up
moved_down : (p label : ℕ) → 0 < p → label % p + p * (label / (p * 2)) ≤ label
moved_down p label positive = grind (arith, nat_tests)

moved_up : (p label : ℕ) → label % p + p * 2 * (label / p) ≤ 2 * label
moved_up p label = omega (arith, div-add-mod label p)

pub without_bit-le : (place label : ℕ) → without_bit place label ≤ label
without_bit-le place label = grind (arith, nat_tests, moved_down, pow_pos, next)

pub with_gap-le : (place label : ℕ) → with_gap place label ≤ 2 * label
with_gap-le place label = grind (arith, nat_tests, moved_up, next)

pub ruleset powers = (pow_pos, power-within)

pub ruleset bounds = (without_bit-le, with_gap-le)
