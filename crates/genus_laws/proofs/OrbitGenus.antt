-- Two permutations have a genus on each orbit, by induction on how far they differ.
use Rattle.std.proofs.Common.{◌≡◌, ◌≢◌, ℕ, zero, suc, inl, inr, ◌+◌, ◌*◌, ◌<◌, ◌≤◌, ◌∙◌, List, ◌++◌, refl, sym, ap, ap₂, subst, arith, true, false, ◌&&◌, eq-eqb}
use Rattle.std.specs.Prelude.{nat_eq, slice_index}
use Rattle.std.proofs.lemmas.Bool.{cases_eq, cases_lt}
use Rattle.std.proofs.lemmas.Bool.Decides.{nat_tests}
use Rattle.kh_types.specs.Classes.{is_least, Respects}
use Rattle.kh_types.specs.Permutations.{IsPermutation, cycles_of}
use Rattle.kh_types.proofs.Cycles.{AreCycles-cycles_of, IsNamed-cycles_of}
use Rattle.kh_types.proofs.JoinedClasses.{classes_of-same}
use Rattle.kh_types.proofs.ListSums.{sum_by-none}
use Rattle.kh_types.proofs.RangeCounts.{count_by-alike, counted}
use Rattle.kh_types.proofs.ClassLemmas.{Respects-append, Respects-first}
use Rattle.kh_types.proofs.ExchangedCycles.{exchange_back}
use Rattle.genus_laws.specs.Orbits.{is_in, parts_in, size_in, steps_of, orbits_of, between, cycles_in, HaveWholeGenus}
use Rattle.genus_laws.proofs.Counts.{count_by-one_less}
use Rattle.genus_laws.proofs.GenusStep.{HaveGenus, HaveGenus-step}
use Rattle.genus_laws.proofs.OrbitLemmas.{Respects-steps, Keeps-steps, steps-below, orbit_steps-below, IsPermutation-between, exchanged, IsExchange-exchanged, IsPermutation-exchanged, IsStep-exchanged}

-- a class has one name, and so it is one part of itself
pub parts_in-self : (n : ℕ) (classes : List ℕ) (name : ℕ) → name < n → slice_index classes name ≡ name
    → parts_in n classes name classes ≡ 1
parts_in-self n classes name below own =
    count_by-one_less (λ x. is_in classes name x && is_least classes x) (λ x. false) n name below
    (ap₂ (λ s t. s && t) (eq-eqb (slice_index classes name) name own) (eq-eqb (slice_index classes name) name own)) refl
    (λ x x_below other. only (slice_index classes x) name x other)
    ∙ ap (λ c. c + 1) (sum_by-none (λ x. counted false) 0 n (λ x from x_below. refl))
  where
    only : (class name x : ℕ) → x ≢ name → (nat_eq class name && nat_eq class x) ≡ false
    only class name x other = grind (arith, nat_tests)

-- where each number is its own cycle, a class has as many cycles as numbers
parts_in-alone : (n : ℕ) (classes parts : List ℕ) (name : ℕ) → ((x : ℕ) → x < n → slice_index parts x ≡ x)
    → parts_in n classes name parts ≡ size_in n classes name
parts_in-alone n classes parts name alone =
    count_by-alike (λ x. is_in classes name x && is_least parts x) (λ x. is_in classes name x && true) 0 n
    (λ x from below. ap (λ t. is_in classes name x && t) (eq-eqb (slice_index parts x) x (alone x (omega (arith, below)))))

-- a permutation that moves nothing has each number as a cycle
cycles-alone : (n : ℕ) (h back : ℕ → ℕ) → IsPermutation n h back → ((x : ℕ) → x < n → h x ≡ x)
    → (x : ℕ) → x < n → slice_index (cycles_of n h) x ≡ x
cycles-alone n h back permutes stays x below =
    let named = IsNamed-cycles_of n h permutes.below in
    (AreCycles-cycles_of n h back permutes).finest (λ z. z) (λ z z_below. sym (stays z z_below)) (slice_index (cycles_of n h) x) x
    (omega (arith, named.least x below, below)) below (named.own x below)

-- two permutations that do not differ: each orbit is a sphere
HaveGenus-alike : (n : ℕ) (f f_back g g_back : ℕ → ℕ) → IsPermutation n f f_back → IsPermutation n g g_back
    → ((x : ℕ) → x < n → f x ≡ g x)
    → HaveGenus n (orbits_of n f g) (cycles_of n f) (cycles_of n g) (cycles_of n (between f_back g))
HaveGenus-alike n f f_back g g_back f_permutes g_permutes alike =
    let cycles = cycles_of n f in
    let h = between f_back g in
    let f_steps = steps_of n f in
    let g_steps = steps_of n g in
    let onward = λ (c : ℕ → ℕ) (keeps : Respects c f_steps). Respects-steps n g c (λ x below. Keeps-steps n f c keeps x below ∙ ap c (alike x below)) in
    let back = λ (c : ℕ → ℕ) (keeps : Respects c g_steps). Respects-steps n f c (λ x below. Keeps-steps n g c keeps x below ∙ ap c (sym (alike x below))) in
    let orbits_are : orbits_of n f g ≡ cycles =
    classes_of-same n (f_steps ++ g_steps) f_steps (orbit_steps-below n f g f_permutes.below g_permutes.below)
    (steps-below n f f_permutes.below) (λ c respects. Respects-first c f_steps g_steps respects)
    (λ c respects. Respects-append c f_steps g_steps respects (onward c respects)) in
    let g_cycles_are : cycles_of n g ≡ cycles =
    classes_of-same n g_steps f_steps (steps-below n g g_permutes.below) (steps-below n f f_permutes.below) back onward in
    let alone = cycles-alone n h (between g_back f) (IsPermutation-between n f f_back g g_back f_permutes g_permutes)
    (λ x below. ap f_back (sym (alike x below)) ∙ f_permutes.back_f x below) in
    subst (λ (cs : List ℕ). HaveGenus n cs cycles (cycles_of n g) (cycles_of n h)) (sym orbits_are)
    (subst (λ (cs : List ℕ). HaveGenus n cycles cycles cs (cycles_of n h)) (sym g_cycles_are)
    (λ name below own.
    let one = parts_in-self n cycles name below own in
    let whole = parts_in-alone n cycles (cycles_of n h) name alone in
    record { genus = 0; formula = sphere (parts_in n cycles name cycles) (parts_in n cycles name (cycles_of n h)) (size_in n cycles name) one whole }))
  where
    sphere : (c h s : ℕ) → c ≡ 1 → h ≡ s → c + (c + h) + 2 * 0 ≡ s + 2
    sphere c h s one whole = omega (arith, one, whole)

-- two permutations that do not differ from d on
pub HaveGenus-orbits : (d n : ℕ) (f f_back g g_back : ℕ → ℕ) → IsPermutation n f f_back → IsPermutation n g g_back
    → ((x : ℕ) → d ≤ x → x < n → f x ≡ g x)
    → HaveGenus n (orbits_of n f g) (cycles_of n f) (cycles_of n g) (cycles_of n (between f_back g))
HaveGenus-orbits zero n f f_back g g_back f_permutes g_permutes agree =
    HaveGenus-alike n f f_back g g_back f_permutes g_permutes (λ x below. agree x (omega arith) below)
HaveGenus-orbits (suc d) n f f_back g g_back f_permutes g_permutes agree = elim (cases_lt d n) [
  | inr past ↦ HaveGenus-orbits d n f f_back g g_back f_permutes g_permutes (λ x from below. absurd (omega (arith, past, from, below)))
  | inl d_below ↦ elim (cases_eq (f d) (g d)) [
    | inl same ↦
        HaveGenus-orbits d n f f_back g g_back f_permutes g_permutes (λ x from below. elim (cases_eq x d) [
          | inl is ↦ ap f is ∙ same ∙ ap g (sym is)
          | inr other ↦ agree x (omega (arith, from, other)) below
        ])
    | inr differ ↦
        let y = g_back (f d) in
        let image_below = f_permutes.below d d_below in
        let y_below = g_permutes.back_below (f d) image_below in
        let meets : g y ≡ f d = g_permutes.f_back (f d) image_below in
        let apart : d ≢ y = λ same. differ (sym meets ∙ ap g (sym same)) in
        let not_later : suc d ≤ y → ⊥ = λ later.
        apart (sym (f_permutes.back_f d d_below) ∙ ap f_back (sym meets ∙ sym (agree y later y_below)) ∙ f_permutes.back_f y y_below) in
        let other = exchanged g d y in
        let other_back = exchange_back g g_back d y in
        let exchange = IsExchange-exchanged n g d y d_below y_below apart in
        let permutes = IsPermutation-exchanged n g g_back d y g_permutes d_below y_below apart in
        HaveGenus-step n (orbits_of n f other) (orbits_of n f g) (cycles_of n f) (cycles_of n other) (cycles_of n g)
        (cycles_of n (between f_back other)) (cycles_of n (between f_back g)) d y
        (IsStep-exchanged n f f_back g g_back d y f_permutes g_permutes d_below y_below apart meets)
        (HaveGenus-orbits d n f f_back other other_back f_permutes permutes (λ x from below. elim (cases_eq x d) [
          | inl is ↦ ap f is ∙ sym meets ∙ sym exchange.at_x ∙ ap other (sym is)
          | inr not_d ↦
              let later : suc d ≤ x = omega (arith, from, not_d) in
              let not_y : x ≢ y = λ is_y. not_later (subst (λ (z : ℕ). suc d ≤ z) is_y later) in
              agree x later below ∙ sym (exchange.others x below not_d not_y)
        ]))
  ]
]

-- so any two
pub HaveWholeGenus-orbits : (n : ℕ) (f f_back g g_back : ℕ → ℕ) → IsPermutation n f f_back → IsPermutation n g g_back
    → (name : ℕ) → name < n → slice_index (orbits_of n f g) name ≡ name
    → HaveWholeGenus (cycles_in n f f_back g name) (size_in n (orbits_of n f g) name)
HaveWholeGenus-orbits n f f_back g g_back f_permutes g_permutes =
    HaveGenus-orbits n n f f_back g g_back f_permutes g_permutes (λ x from below. absurd (omega (arith, from, below)))
