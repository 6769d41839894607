use Rattle.std.proofs.Common.{◌≡◌, ℕ, ◌+◌, ◌*◌, refl, arith}
use Rattle.surface_laws.specs.Surfaces.{HasGenus}
use Rattle.surface_laws.specs.Worked.{stripped}
use Rattle.surface_laws.proofs.Tables.{two, both}
use Rattle.surface_laws.proofs.worked.strips_count_in_halves.Goals as goal

-- 7 and a multiple of four are not 12
none : (genus : ℕ) → HasGenus (stripped 8 3) 0 genus → ⊥
none genus has =
    let count : 7 + 4 * genus ≡ 12 = has in
    omega (arith, count)

pub returns : goal.returns
returns c =
    record {
      torus = two;
      one_left_out = λ h k. refl;
      counted_once = λ h k. refl;
      other_side = λ h k. refl;
      taken_back = two;
      not_taken_back = both;
      three_taken_back = none;
    }
