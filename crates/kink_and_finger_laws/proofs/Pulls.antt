-- Where two darts at neighbouring slots are pulled off their arcs, and the other ends of these arcs are joined instead, crossings
-- stay planar. If the two darts are partners, one arc is lost, and part of a planar whole is planar. Else the arc that joins the
-- other ends, hooked on the two darts, gives back what was; and what is planar was so before an arc was hooked.
use Rattle.std.proofs.Common.{◌≡◌, ◌≢◌, ℕ, inl, inr, ◌*◌, ◌<◌, arith}
use Rattle.std.proofs.lemmas.Bool.{cases_eq}
use Rattle.std.proofs.lemmas.Bool.Decides.{nat_tests}
use Rattle.kh_types.specs.Darts.{IsPairing, turned}
use Rattle.face_walk.specs.AddedArcs.{IsPart, IsPlanar}
use Rattle.face_walk.proofs.PartArcs.{IsPlanar-part}
use Rattle.kink_and_finger_laws.specs.Pulls.{pulled}
use Rattle.kink_and_finger_laws.proofs.Hooked.{hooked, IsHook, IsPlanar-unhooked}
use Rattle.kink_and_finger_laws.proofs.MoreCrossings.{IsPlanar-agree}

pub pulled-first : (partner : ℕ → ℕ) (s t : ℕ) → pulled partner s t s ≡ s
pulled-first partner s t = grind (arith, nat_tests)

pub pulled-second : (partner : ℕ → ℕ) (s t : ℕ) → pulled partner s t t ≡ t
pulled-second partner s t = grind (arith, nat_tests)

-- the two darts have arcs
pub record AreHeld (m : ℕ) (partner : ℕ → ℕ) (s t : ℕ) : Type 0 where
  pub first_below : s < m
  pub second_below : t < m
  pub apart : s ≢ t
  pub first_held : partner s ≢ s
  pub second_held : partner t ≢ t

pub IsPairing-pulled : (m : ℕ) (partner : ℕ → ℕ) (s t : ℕ) → IsPairing m partner → AreHeld m partner s t
    → IsPairing m (pulled partner s t)
IsPairing-pulled m partner s t pairing held = grind (arith, nat_tests)

-- where they are partners, their arc goes
IsPart-pulled : (m : ℕ) (partner : ℕ → ℕ) (s t : ℕ) → IsPairing m partner → AreHeld m partner s t → partner s ≡ t
    → IsPart m (pulled partner s t) partner
IsPart-pulled m partner s t pairing held mates = grind (arith, nat_tests)

-- else the arc between their other ends, hooked on the two darts, is what was
IsHook-pulled : (m : ℕ) (partner : ℕ → ℕ) (s t : ℕ) → IsPairing m partner → AreHeld m partner s t → turned t ≡ s → partner s ≢ t
    → IsHook m (pulled partner s t) (partner s) t s
IsHook-pulled m partner s t pairing held neighbours not_mates = grind (arith, nat_tests)

hooked-pulled : (m : ℕ) (partner : ℕ → ℕ) (s t z : ℕ) → IsPairing m partner → AreHeld m partner s t → partner s ≢ t → z < m
    → partner z ≡ hooked (pulled partner s t) (partner s) t s z
hooked-pulled m partner s t z pairing held not_mates below = grind (arith, nat_tests)

pub IsPlanar-pulled : (n : ℕ) (partner : ℕ → ℕ) (s t : ℕ) → IsPairing (4 * n) partner → IsPlanar n partner
    → AreHeld (4 * n) partner s t → turned t ≡ s → IsPlanar n (pulled partner s t)
IsPlanar-pulled n partner s t pairing planar held neighbours =
    let after_pairing = IsPairing-pulled (4 * n) partner s t pairing held in
    elim (cases_eq (partner s) t) [
      | inl mates ↦
          IsPlanar-part n (pulled partner s t) partner after_pairing pairing
          (IsPart-pulled (4 * n) partner s t pairing held mates) planar
      | inr not_mates ↦
          IsPlanar-unhooked n (pulled partner s t) (partner s) t s after_pairing
          (IsHook-pulled (4 * n) partner s t pairing held neighbours not_mates)
          (IsPlanar-agree n partner (hooked (pulled partner s t) (partner s) t s)
          (λ z below. hooked-pulled (4 * n) partner s t z pairing held not_mates below) planar)
    ]
