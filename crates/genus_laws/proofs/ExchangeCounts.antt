-- An exchange of two images, on each orbit: two circles become one, or one becomes two, and all else stays.
use Rattle.std.proofs.Common.{◌≡◌, ℕ, inl, inr, ◌+◌, ◌<◌, ◌∙◌, List, ◌++◌, sym, ap, subst, arith}
use Rattle.std.specs.Prelude.{slice_index}
use Rattle.std.proofs.lemmas.Bool.{cases_eq}
use Rattle.kh_types.specs.Bits.{one_if}
use Rattle.kh_types.specs.Classes.{merged, Respects, IsNamed}
use Rattle.kh_types.specs.Permutations.{IsPermutation, IsExchange, AreJoined, cycles_of}
use Rattle.kh_types.proofs.ClassLemmas.{slice_index-joined, merged-both, Respects-append, Respects-first, Respects-second}
use Rattle.kh_types.proofs.JoinedClasses.{classes_of-same}
use Rattle.kh_types.proofs.Cycles.{AreCycles-cycles_of, IsNamed-cycles_of}
use Rattle.kh_types.proofs.ExchangedCycles.{AreJoined-apart, AreJoined-split, AreJoined-together}
use Rattle.kh_types.proofs.Exchanges.{IsExchange-back}
use Rattle.genus_laws.specs.Orbits.{is_in, parts_in, steps_of, orbits_of}
use Rattle.genus_laws.proofs.PartCounts.{AreFiner, parts_in-joined}
use Rattle.genus_laws.proofs.OrbitGenus.{parts_in-self}
use Rattle.genus_laws.proofs.OrbitLemmas.{Keeps, Respects-steps, Keeps-steps, steps-below, orbit_steps-below, each}

-- finer classes, two of which become one in the coarser
merged-sum : (n : ℕ) (fine coarse : List ℕ) (x y name : ℕ) → IsNamed n fine → x < n → y < n → AreJoined fine coarse x y
    → name < n → slice_index coarse name ≡ name
    → parts_in n coarse name fine + parts_in n coarse name coarse ≡ 2 + one_if (is_in coarse name x)
merged-sum n fine coarse x y name named x_below y_below merge below own =
    let a = slice_index fine x in
    let b = slice_index fine y in
    let at : (z : ℕ) → z < n → slice_index coarse z ≡ merged a b (slice_index fine z) =
    λ z z_below. ap (λ cs. slice_index cs z) merge.one ∙ slice_index-joined fine (x, y) z (omega (arith, named.size, z_below)) in
    let finer : AreFiner n fine coarse =
    λ z z_below.
    at (slice_index fine z) (omega (arith, named.least z z_below, z_below)) ∙ ap (λ c. merged a b c) (named.own z z_below)
    ∙ sym (at z z_below) in
    let together : slice_index coarse x ≡ slice_index coarse y = at x x_below ∙ merged-both a b ∙ sym (at y y_below) in
    sums (parts_in n coarse name fine) (parts_in n coarse name coarse) (one_if (is_in coarse name x))
    (parts_in-joined n coarse fine coarse x y name named x_below y_below merge finer together) (parts_in-self n coarse name below own)
  where
    sums : (p q d : ℕ) → p ≡ q + d → q ≡ 1 → p + q ≡ 2 + d
    sums p q d e one = omega (arith, e, one)

-- what the steps of a permutation keep, those after an exchange keep too, if it has one value at both numbers
keeps-exchanged : (n : ℕ) (f other g : ℕ → ℕ) (x y : ℕ) → IsExchange n f other x y → g x ≡ g y → Keeps n f g → Keeps n other g
keeps-exchanged n f other g x y exchange same keeps =
    each n x y (λ z. g z ≡ g (other z)) (same ∙ keeps y exchange.y_below ∙ ap g (sym exchange.at_x))
    (sym same ∙ keeps x exchange.x_below ∙ ap g (sym exchange.at_y))
    (λ z below not_x not_y. keeps z below ∙ ap g (sym (exchange.others z below not_x not_y)))

-- the two numbers on one cycle: then the orbits are the cycles
orbits-cycles : (n : ℕ) (f back other : ℕ → ℕ) (x y : ℕ) → IsPermutation n f back → ((z : ℕ) → z < n → other z < n)
    → IsExchange n f other x y → slice_index (cycles_of n f) x ≡ slice_index (cycles_of n f) y
    → (g : ℕ → ℕ) → Respects g (steps_of n f) → Respects g (steps_of n other)
orbits-cycles n f back other x y permutes below exchange same g respects =
    let keeps = Keeps-steps n f g respects in
    Respects-steps n other g
    (keeps-exchanged n f other g x y exchange
    ((AreCycles-cycles_of n f back permutes).finest g keeps x y exchange.x_below exchange.y_below same) keeps)

pub exchange-counted : (n : ℕ) (f back other other_back : ℕ → ℕ) (x y : ℕ) → IsPermutation n f back
    → IsPermutation n other other_back → IsExchange n f other x y → (name : ℕ) → name < n
    → slice_index (orbits_of n f other) name ≡ name
    → parts_in n (orbits_of n f other) name (cycles_of n f) + parts_in n (orbits_of n f other) name (cycles_of n other)
    ≡ 2 + one_if (is_in (orbits_of n f other) name x)
exchange-counted n f back other other_back x y permutes other_permutes exchange name below own =
    let f_steps = steps_of n f in
    let other_steps = steps_of n other in
    let x_below = exchange.x_below in
    let y_below = exchange.y_below in
    let f_named = IsNamed-cycles_of n f permutes.below in
    let other_named = IsNamed-cycles_of n other other_permutes.below in
    let all_below = orbit_steps-below n f other permutes.below other_permutes.below in
    elim (cases_eq (slice_index (cycles_of n f) x) (slice_index (cycles_of n f) y)) [
      | inl together ↦
          let merge = AreJoined-split n f back other x y permutes exchange together in
          let are : orbits_of n f other ≡ cycles_of n f =
          classes_of-same n (f_steps ++ other_steps) f_steps all_below (steps-below n f permutes.below)
          (λ g respects. Respects-first g f_steps other_steps respects)
          (λ g respects. Respects-append g f_steps other_steps respects
          (orbits-cycles n f back other x y permutes other_permutes.below exchange together g respects)) in
          turned (parts_in n (orbits_of n f other) name (cycles_of n f)) (parts_in n (orbits_of n f other) name (cycles_of n other))
          (one_if (is_in (orbits_of n f other) name x))
          (subst (λ (cs : List ℕ).
          parts_in n cs name (cycles_of n other) + parts_in n cs name (cycles_of n f) ≡ 2 + one_if (is_in cs name x)) (sym are)
          (merged-sum n (cycles_of n other) (cycles_of n f) x y name other_named x_below y_below merge below
          (ap (λ cs. slice_index cs name) (sym are) ∙ own)))
      | inr apart ↦
          let merge = AreJoined-apart n f back other x y permutes exchange apart in
          let are : orbits_of n f other ≡ cycles_of n other =
          classes_of-same n (f_steps ++ other_steps) other_steps all_below (steps-below n other other_permutes.below)
          (λ g respects. Respects-second g f_steps other_steps respects)
          (λ g respects. Respects-append g f_steps other_steps
          (orbits-cycles n other other_back f x y other_permutes permutes.below (IsExchange-back n f other x y exchange)
          (AreJoined-together n (cycles_of n f) (cycles_of n other) x y f_named x_below y_below merge) g respects) respects) in
          subst (λ (cs : List ℕ).
          parts_in n cs name (cycles_of n f) + parts_in n cs name (cycles_of n other) ≡ 2 + one_if (is_in cs name x)) (sym are)
          (merged-sum n (cycles_of n f) (cycles_of n other) x y name f_named x_below y_below merge below
          (ap (λ cs. slice_index cs name) (sym are) ∙ own))
    ]
  where
    turned : (p q d : ℕ) → q + p ≡ 2 + d → p + q ≡ 2 + d
    turned p q d e = omega (arith, e)
