-- What is left is sound.
use Rattle.std.proofs.lemmas.Bool.Decides.{nat_tests}
use Rattle.std.proofs.Common.{◌≡◌, ◌≢◌, ℕ, ◌+◌, ◌-◌, ◌*◌, ◌%◌, ◌<◌, ◌∙◌, List, sym, ap, arith, refl, Bool, true, false, not, ◌&&◌, length, IsTrue, eqb-true, eq-eqb}
use Rattle.std.specs.Prelude.{nat_eq}
use Rattle.std.proofs.lemmas.Bool.{and_parts, both_ways}
use Rattle.std.specs.List.{list_any, range_with_len}
use Rattle.kh_types.specs.Acceptance.{accepted}
use Rattle.kh_types.specs.Bits.{bit}
use Rattle.kh_types.specs.Code.{Code}
use Rattle.kh_types.specs.Darts.{partner_at}
use Rattle.kh_types.proofs.DartColours.{IsColoured-accepted}
use Rattle.code_passes.specs.Parts.{slots_in}
use Rattle.kink_and_finger_laws.specs.Drops.{after, is_kink, is_bigon, is_bigon_at, is_of_two, without_kink, without_finger}
use Rattle.kink_and_finger_laws.specs.Pulls.{early, late, smoothed}
use Rattle.kink_and_finger_laws.specs.Dropping.{HasKinkAt, HasBigonAt, IsPlanarRest}
use Rattle.kink_and_finger_laws.proofs.TwoEnds.{ArePaired-ends}
use Rattle.kink_and_finger_laws.proofs.Dropped.{HasTwoEnds-dropped, HasColours-dropped, IsPlanarBy-dropped}
use Rattle.kink_and_finger_laws.proofs.KinkDrops.{IsDropped-kink}
use Rattle.kink_and_finger_laws.proofs.FingerDrops.{IsDropped-finger}
use Rattle.kh_types.proofs.RangeCounts.{list_any-one}

pub IsSound-kink : (code : Code) (c p : ℕ) → IsTrue (accepted code) → HasKinkAt code.crossings c p → IsPlanarRest (without_kink code c)
IsSound-kink code c p is kink =
    let k = length code.crossings - 1 in
    let coloured = IsColoured-accepted code is in
    let size : length code.crossings ≡ length code.crossings - 1 + 1 = omega (arith, kink.below) in
    let left = IsDropped-kink code coloured.0 (length code.crossings - 1) c p is coloured.1 size kink in
    let kept : ℕ → ℕ = early c (length code.crossings - 1) in
    let partner : ℕ → ℕ = smoothed (partner_at code.crossings) c (length code.crossings - 1) p in
    record {
      paired = ArePaired-ends (without_kink code c) (HasTwoEnds-dropped code.crossings (nat_eq c) coloured.0 k kept partner left);
      choice = λ place. bit coloured.0 (kept place);
      colours = HasColours-dropped code.crossings (nat_eq c) coloured.0 k kept partner left;
      partner = partner;
      planar = IsPlanarBy-dropped code.crossings (nat_eq c) coloured.0 k kept partner left;
    }

pub two_below : (n c d : ℕ) → c < n → d < n → c ≢ d → n ≡ n - 2 + 1 + 1
two_below n c d c_below d_below apart = omega (arith, c_below, d_below, apart)

pub IsSound-finger : (code : Code) (c d p q : ℕ) → IsTrue (accepted code) → HasBigonAt code.crossings c d p q
    → IsPlanarRest (without_finger code c d)
IsSound-finger code c d p q is bigon =
    let k = length code.crossings - 2 in
    let coloured = IsColoured-accepted code is in
    let size = two_below (length code.crossings) c d bigon.first_below bigon.second_below bigon.apart in
    let left = IsDropped-finger code coloured.0 (length code.crossings - 2) c d p q is coloured.1 size bigon in
    let kept : ℕ → ℕ = λ i. early c (length code.crossings - 2 + 1) (early (late c (length code.crossings - 2 + 1) d) (length code.crossings - 2) i) in
    let partner : ℕ → ℕ =
    smoothed (smoothed (partner_at code.crossings) c (length code.crossings - 2 + 1) p) (late c (length code.crossings - 2 + 1) d)
    (length code.crossings - 2) q in
    record {
      paired = ArePaired-ends (without_finger code c d) (HasTwoEnds-dropped code.crossings (is_of_two c d) coloured.0 k kept partner left);
      choice = λ place. bit coloured.0 (kept place);
      colours = HasColours-dropped code.crossings (is_of_two c d) coloured.0 k kept partner left;
      partner = partner;
      planar = IsPlanarBy-dropped code.crossings (is_of_two c d) coloured.0 k kept partner left;
    }

-- the tests find what they should
pub HasKinkAt-found : (crossings : List (List ℕ)) (c : ℕ) → c < length crossings → is_kink (slots_in crossings c) ≡ true
    → (p : ℕ) × HasKinkAt crossings c p
HasKinkAt-found crossings c below holds = grind (arith, nat_tests)

pub HasBigonAt-found : (crossings : List (List ℕ)) (c d : ℕ) → c < length crossings → d < length crossings
    → is_bigon crossings c d ≡ true → (p : ℕ) × (q : ℕ) × HasBigonAt crossings c d p q
HasBigonAt-found crossings c d c_below d_below holds =
    let parts = and_parts (not (nat_eq c d))
    (list_any (λ p. list_any (is_bigon_at crossings c d p) (range_with_len 0 4)) (range_with_len 0 4)) holds in
    let at = list_any-one (λ p. list_any (is_bigon_at crossings c d p) (range_with_len 0 4)) 0 4 parts.1 in
    let p = at.0 in
    let found = list_any-one (is_bigon_at crossings c d at.0) 0 4 at.3 in
    let q = found.0 in
    let tests = and_parts (nat_eq (partner_at crossings (4 * c + at.0)) (4 * d + after found.0))
    (nat_eq (partner_at crossings (4 * d + found.0)) (4 * c + after at.0) && nat_eq ((at.0 + found.0) % 2) 1) found.3 in
    let more = and_parts (nat_eq (partner_at crossings (4 * d + found.0)) (4 * c + after at.0)) (nat_eq ((at.0 + found.0) % 2) 1) tests.1 in
    let p_is : at.0 % 4 ≡ at.0 = omega (arith, at.2) in
    let q_is : found.0 % 4 ≡ found.0 = omega (arith, found.2) in (
      at.0,
      found.0,
      record {
        first_below = c_below;
        second_below = d_below;
        apart = λ same. not_both (nat_eq c d) parts.0 (eq-eqb c d same);
        first_side = ap (λ r. partner_at crossings (4 * c + r)) p_is
            ∙ eqb-true (partner_at crossings (4 * c + at.0)) (4 * d + after found.0) tests.0;
        second_side = ap (λ r. partner_at crossings (4 * d + r)) q_is
            ∙ eqb-true (partner_at crossings (4 * d + found.0)) (4 * c + after at.0) more.0;
        odd = eqb-true ((at.0 + found.0) % 2) 1 more.1;
      },
    )
  where
    not_false : (b : Bool) → not b ≡ true → b ≡ false
    not_false true fails = sym fails
    not_false false fails = refl

    not_both : (b : Bool) → not b ≡ true → b ≡ true → ⊥
    not_both b fails holds = both_ways b (not_false b fails) holds
