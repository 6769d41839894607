-- The orbits of two permutations, and two images exchanged.
--
-- Orbits of two permutations are classes under the steps of both, so whatever both keep is one on an orbit. An exchange of two images
-- changes the cycles of the one permutation by joining two or parting one, and orbits likewise; and a step of the exchanged permutation
-- stays in the classes that hold the two numbers together.
use Rattle.std.proofs.Common.{◌≡◌, ◌≢◌, ℕ, inl, inr, ◌<◌, ◌∙◌, List, [], ◌∷◌, ◌++◌, refl, sym, ap, subst, arith, cond}
use Rattle.std.specs.Prelude.{nat_eq, slice_index}
use Rattle.std.proofs.lemmas.Bool.{cases_eq}
use Rattle.std.proofs.lemmas.Bool.Decides.{nat_tests}
use Rattle.kh_types.specs.Classes.{joined, Respects, AreBelow, IsNamed}
use Rattle.kh_types.specs.Permutations.{IsPermutation, IsExchange, step_pair, cycles_of}
use Rattle.kh_types.proofs.ClassLemmas.{classes-together, Respects-append, Respects-first, Respects-second, AreBelow-append}
use Rattle.kh_types.proofs.JoinedClasses.{IsNamed-classes_of, classes_of-same, classes_of-more}
use Rattle.kh_types.proofs.RangeImages.{all-map_range, map_range-at}
use Rattle.kh_types.proofs.Cycles.{AreCycles-cycles_of, IsNamed-cycles_of, step_pairs-below}
use Rattle.kh_types.proofs.ExchangedCycles.{IsPermutation-exchange, AreJoined-apart, AreJoined-split, exchange_back}
use Rattle.kh_types.proofs.Exchanges.{IsExchange-back}
use Rattle.genus_laws.specs.Orbits.{steps_of, orbits_of, between}
use Rattle.genus_laws.proofs.PartCounts.{AreFiner}
use Rattle.genus_laws.proofs.GenusStep.{IsStep}

-- g has one value at each number below n and its image
abbrev pub Keeps : ℕ → (ℕ → ℕ) → (ℕ → ℕ) → Type 0
Keeps n f g = (x : ℕ) → x < n → g x ≡ g (f x)

pub Respects-steps : (n : ℕ) (f g : ℕ → ℕ) → Keeps n f g → Respects g (steps_of n f)
Respects-steps n f g keeps =
    all-map_range (λ (pair : ℕ × ℕ). g pair.0 ≡ g pair.1) (step_pair f) 0 n (λ x below. keeps x (omega (arith, below)))

pub Keeps-steps : (n : ℕ) (f g : ℕ → ℕ) → Respects g (steps_of n f) → Keeps n f g
Keeps-steps n f g respects x below =
    map_range-at (λ (pair : ℕ × ℕ). g pair.0 ≡ g pair.1) (step_pair f) 0 n x respects (omega arith) (omega (arith, below))

pub steps-below : (n : ℕ) (f : ℕ → ℕ) → ((x : ℕ) → x < n → f x < n) → AreBelow n (steps_of n f)
steps-below n f below = step_pairs-below n f below

pub orbit_steps-below : (n : ℕ) (f g : ℕ → ℕ) → ((x : ℕ) → x < n → f x < n) → ((x : ℕ) → x < n → g x < n)
    → AreBelow n (steps_of n f ++ steps_of n g)
orbit_steps-below n f g f_below g_below =
    AreBelow-append n (steps_of n f) (steps_of n g) (steps-below n f f_below) (steps-below n g g_below)

pub IsNamed-orbits : (n : ℕ) (f g : ℕ → ℕ) → ((x : ℕ) → x < n → f x < n) → ((x : ℕ) → x < n → g x < n)
    → IsNamed n (orbits_of n f g)
IsNamed-orbits n f g f_below g_below =
    IsNamed-classes_of n (steps_of n f ++ steps_of n g) (orbit_steps-below n f g f_below g_below)

-- an orbit has the images of its numbers
pub orbits-first : (n : ℕ) (f g : ℕ → ℕ) → ((x : ℕ) → x < n → f x < n) → ((x : ℕ) → x < n → g x < n)
    → Keeps n f (λ x. slice_index (orbits_of n f g) x)
orbits-first n f g f_below g_below =
    let class : ℕ → ℕ = λ x. slice_index (orbits_of n f g) x in
    Keeps-steps n f class
    (Respects-first class (steps_of n f) (steps_of n g)
    (classes-together n (steps_of n f ++ steps_of n g) (orbit_steps-below n f g f_below g_below)))

pub orbits-second : (n : ℕ) (f g : ℕ → ℕ) → ((x : ℕ) → x < n → f x < n) → ((x : ℕ) → x < n → g x < n)
    → Keeps n g (λ x. slice_index (orbits_of n f g) x)
orbits-second n f g f_below g_below =
    let class : ℕ → ℕ = λ x. slice_index (orbits_of n f g) x in
    Keeps-steps n g class
    (Respects-second class (steps_of n f) (steps_of n g)
    (classes-together n (steps_of n f ++ steps_of n g) (orbit_steps-below n f g f_below g_below)))

-- what keeps a value keeps it on whole cycles
pub AreFiner-cycles : (n : ℕ) (f back : ℕ → ℕ) (classes : List ℕ) → IsPermutation n f back
    → Keeps n f (λ x. slice_index classes x) → AreFiner n (cycles_of n f) classes
AreFiner-cycles n f back classes permutes keeps x below =
    let cycles = AreCycles-cycles_of n f back permutes in
    let named = IsNamed-cycles_of n f permutes.below in
    cycles.finest (λ z. slice_index classes z) keeps (slice_index (cycles_of n f) x) x
    (omega (arith, named.least x below, below)) below (named.own x below)

-- one permutation, and the way back of another
pub IsPermutation-between : (n : ℕ) (f f_back g g_back : ℕ → ℕ) → IsPermutation n f f_back → IsPermutation n g g_back
    → IsPermutation n (between f_back g) (between g_back f)
IsPermutation-between n f f_back g g_back f_permutes g_permutes = record {
  below = λ x below. f_permutes.back_below (g x) (g_permutes.below x below);
  back_below = λ x below. g_permutes.back_below (f x) (f_permutes.below x below);
  back_f = λ x below. ap g_back (f_permutes.f_back (g x) (g_permutes.below x below)) ∙ g_permutes.back_f x below;
  f_back = λ x below. ap f_back (g_permutes.f_back (f x) (f_permutes.below x below)) ∙ f_permutes.back_f x below;
}

pub Keeps-between : (n : ℕ) (f f_back g : ℕ → ℕ) (class : ℕ → ℕ) → ((x : ℕ) → x < n → g x < n)
    → ((x : ℕ) → x < n → f_back x < n) → ((x : ℕ) → x < n → f (f_back x) ≡ x) → Keeps n f class → Keeps n g class
    → Keeps n (between f_back g) class
Keeps-between n f f_back g class g_below back_below f_back_is f_keeps g_keeps x below =
    let image = g x in
    let image_below = g_below x below in
    g_keeps x below ∙ sym (f_keeps (f_back image) (back_below image image_below) ∙ ap class (f_back_is image image_below))

-- two images exchanged

abbrev pub exchanged : (ℕ → ℕ) → ℕ → ℕ → ℕ → ℕ
exchanged g x y z = cond (nat_eq z x) (g y) (cond (nat_eq z y) (g x) (g z))

chosen-first : (a b z u v w : ℕ) → z ≡ a → cond (nat_eq z a) u (cond (nat_eq z b) v w) ≡ u
chosen-first a b z u v w same = grind (arith, nat_tests)

chosen-second : (a b z u v w : ℕ) → z ≢ a → z ≡ b → cond (nat_eq z a) u (cond (nat_eq z b) v w) ≡ v
chosen-second a b z u v w other same = grind (arith, nat_tests)

chosen-third : (a b z u v w : ℕ) → z ≢ a → z ≢ b → cond (nat_eq z a) u (cond (nat_eq z b) v w) ≡ w
chosen-third a b z u v w not_a not_b = grind (arith, nat_tests)

pub IsExchange-exchanged : (n : ℕ) (g : ℕ → ℕ) (x y : ℕ) → x < n → y < n → x ≢ y → IsExchange n g (exchanged g x y) x y
IsExchange-exchanged n g x y x_below y_below apart = record {
  x_below = x_below;
  y_below = y_below;
  apart = apart;
  at_x = chosen-first x y x (g y) (g x) (g x) refl;
  at_y = chosen-second x y y (g y) (g x) (g y) (λ same. apart (sym same)) refl;
  others = λ z below not_x not_y. chosen-third x y z (g y) (g x) (g z) not_x not_y;
}

IsExchange-between : (n : ℕ) (f_back g other : ℕ → ℕ) (x y : ℕ) → IsExchange n g other x y
    → IsExchange n (between f_back g) (between f_back other) x y
IsExchange-between n f_back g other x y exchange = record {
  x_below = exchange.x_below;
  y_below = exchange.y_below;
  apart = exchange.apart;
  at_x = ap f_back exchange.at_x;
  at_y = ap f_back exchange.at_y;
  others = λ z below not_x not_y. ap f_back (exchange.others z below not_x not_y);
}

pub IsPermutation-exchanged : (n : ℕ) (g back : ℕ → ℕ) (x y : ℕ) → IsPermutation n g back → x < n → y < n → x ≢ y
    → IsPermutation n (exchanged g x y) (exchange_back g back x y)
IsPermutation-exchanged n g back x y permutes x_below y_below apart =
    IsPermutation-exchange n g back (exchanged g x y) x y permutes (IsExchange-exchanged n g x y x_below y_below apart)

-- what holds at x, at y and at all others holds at each
pub each : (n : ℕ) (x y : ℕ) (P : ℕ → Type 0) → P x → P y → ((z : ℕ) → z < n → z ≢ x → z ≢ y → P z) → (z : ℕ) → z < n → P z
each n x y P at_x at_y others z below = elim (cases_eq z x) [
  | inl is_x ↦ subst P (sym is_x) at_x
  | inr not_x ↦ elim (cases_eq z y) [
    | inl is_y ↦ subst P (sym is_y) at_y
    | inr not_y ↦ others z below not_x not_y
  ]
]

-- where y has the image of x under f, the orbits are those after the exchange, with the orbits of x and y joined
orbits-exchanged : (n : ℕ) (f g other : ℕ → ℕ) (x y : ℕ) → ((z : ℕ) → z < n → f z < n) → ((z : ℕ) → z < n → g z < n)
    → ((z : ℕ) → z < n → other z < n) → IsExchange n g other x y → g y ≡ f x
    → orbits_of n f g ≡ joined (orbits_of n f other) (x, y)
orbits-exchanged n f g other x y f_below g_below other_below exchange meets =
    let f_steps = steps_of n f in
    let g_steps = steps_of n g in
    let other_steps = steps_of n other in
    let pair : List (ℕ × ℕ) = (x, y) ∷ [] in
    classes_of-same n (f_steps ++ g_steps) ((f_steps ++ other_steps) ++ pair) (orbit_steps-below n f g f_below g_below)
    (AreBelow-append n (f_steps ++ other_steps) pair (orbit_steps-below n f other f_below other_below)
    ((exchange.x_below, exchange.y_below), tt))
    (λ c respects.
    let f_keeps = Keeps-steps n f c (Respects-first c f_steps g_steps respects) in
    let g_keeps = Keeps-steps n g c (Respects-second c f_steps g_steps respects) in
    let one : c x ≡ c y =
    f_keeps x exchange.x_below ∙ ap c (sym meets) ∙ sym (g_keeps y exchange.y_below) in
    Respects-append c (f_steps ++ other_steps) pair
    (Respects-append c f_steps other_steps (Respects-first c f_steps g_steps respects)
    (Respects-steps n other c
    (each n x y (λ z. c z ≡ c (other z)) (one ∙ g_keeps y exchange.y_below ∙ ap c (sym exchange.at_x))
    (sym one ∙ g_keeps x exchange.x_below ∙ ap c (sym exchange.at_y))
    (λ z below not_x not_y. g_keeps z below ∙ ap c (sym (exchange.others z below not_x not_y))))))
    (one, tt))
    (λ c respects.
    let both = Respects-first c (f_steps ++ other_steps) pair respects in
    let one : c x ≡ c y = (Respects-second c (f_steps ++ other_steps) pair respects).0 in
    let keeps = Keeps-steps n other c (Respects-second c f_steps other_steps both) in
    Respects-append c f_steps g_steps (Respects-first c f_steps other_steps both)
    (Respects-steps n g c
    (each n x y (λ z. c z ≡ c (g z)) (one ∙ keeps y exchange.y_below ∙ ap c exchange.at_y)
    (sym one ∙ keeps x exchange.x_below ∙ ap c exchange.at_x)
    (λ z below not_x not_y. keeps z below ∙ ap c (exchange.others z below not_x not_y)))))
    ∙ classes_of-more n (f_steps ++ other_steps) (x, y)

-- so one exchange is a step
pub IsStep-exchanged : (n : ℕ) (f f_back g g_back : ℕ → ℕ) (x y : ℕ) → IsPermutation n f f_back → IsPermutation n g g_back
    → x < n → y < n → x ≢ y → g y ≡ f x
    → IsStep n (orbits_of n f (exchanged g x y)) (orbits_of n f g) (cycles_of n (exchanged g x y)) (cycles_of n g)
    (cycles_of n (between f_back (exchanged g x y))) (cycles_of n (between f_back g)) x y
IsStep-exchanged n f f_back g g_back x y f_permutes g_permutes x_below y_below apart meets =
    let other = exchanged g x y in
    let other_back = exchange_back g g_back x y in
    let exchange = IsExchange-exchanged n g x y x_below y_below apart in
    let permutes = IsPermutation-exchanged n g g_back x y g_permutes x_below y_below apart in
    let turned = IsExchange-back n g other x y exchange in
    let h_permutes = IsPermutation-between n f f_back g g_back f_permutes g_permutes in
    let old_h_permutes = IsPermutation-between n f f_back other other_back f_permutes permutes in
    let before = orbits_of n f other in
    let old_g = cycles_of n other in
    let h = between f_back g in
    let old_g_finer = AreFiner-cycles n other other_back before permutes (orbits-second n f other f_permutes.below permutes.below) in
    record {
      x_below = x_below;
      y_below = y_below;
      named = IsNamed-orbits n f other f_permutes.below permutes.below;
      one = orbits-exchanged n f g other x y f_permutes.below g_permutes.below permutes.below exchange meets;
      old_g_named = IsNamed-cycles_of n other permutes.below;
      new_g_named = IsNamed-cycles_of n g g_permutes.below;
      old_h_named = IsNamed-cycles_of n (between f_back other) old_h_permutes.below;
      old_g_finer = old_g_finer;
      new_g_finer = AreFiner-cycles n g g_back (orbits_of n f g) g_permutes (orbits-second n f g f_permutes.below g_permutes.below);
      old_h_finer = AreFiner-cycles n (between f_back other) (between other_back f) before old_h_permutes
          (Keeps-between n f f_back other (λ z. slice_index before z) permutes.below f_permutes.back_below f_permutes.f_back
          (orbits-first n f other f_permutes.below permutes.below) (orbits-second n f other f_permutes.below permutes.below));
      h_joined = AreJoined-split n h (between g_back f) (between f_back other) x y h_permutes
          (IsExchange-between n f_back g other x y exchange)
          (sym (ap (λ z. slice_index (cycles_of n h) z) (ap f_back meets ∙ f_permutes.back_f x x_below))
          ∙ (AreCycles-cycles_of n h (between g_back f) h_permutes).step y y_below);
      g_joined = elim (cases_eq (slice_index old_g x) (slice_index old_g y)) [
        | inr parts ↦ inl (AreJoined-apart n other other_back g x y permutes turned parts)
        | inl together ↦ inr (
          AreJoined-split n other other_back g x y permutes turned together,
          sym (old_g_finer x x_below) ∙ ap (λ z. slice_index before z) together ∙ old_g_finer y y_below,
        )
      ];
    }
