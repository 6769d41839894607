-- The two smoothings of a crossing, with whatever leads back from their starts to their ends, are two permutations of which one has two
-- images of the other exchanged.
--
-- From a start the first smoothing leads to one end and the second to another; at all other numbers both go on as what leads back does. So
-- the classes with the first smoothing are the cycles of one permutation, those with the second the cycles of the other
-- (`saddle-exchanged`), and what is known of exchanges, how orbits and cycles then change, holds of the two smoothings.
use Rattle.std.proofs.Common.{◌≡◌, ◌≢◌, ℕ, ◌<◌, ◌∙◌, List, [], ◌∷◌, ◌++◌, refl, sym, ap, ap₂, true, false, not, ◌||◌, eq-eqb}
use Rattle.std.specs.Prelude.{nat_eq}
use Rattle.std.proofs.lemmas.Bool.{false_from_ne_true, eqb-true, not-true, or_right}
use Rattle.kh_types.specs.Classes.{classes_of, Respects, AreBelow}
use Rattle.kh_types.specs.Permutations.{IsExchange, IsPermutation, cycles_of}
use Rattle.kh_types.proofs.JoinedClasses.{classes_of-same}
use Rattle.kh_types.proofs.ClassLemmas.{Respects-append, Respects-first, Respects-second, AreBelow-append}
use Rattle.kh_types.proofs.ExchangedCycles.{exchange_back}
use Rattle.genus_laws.specs.Orbits.{steps_of}
use Rattle.genus_laws.specs.Surfaces.{Lead, other_than}
use Rattle.genus_laws.specs.Saddles.{JoinTwo}
use Rattle.genus_laws.proofs.OrbitLemmas.{Keeps, Respects-steps, Keeps-steps, steps-below, each, exchanged, IsExchange-exchanged, IsPermutation-exchanged}
use Rattle.genus_laws.proofs.Leading.{led, led-inside, led-outside, IsPermutation-led, Keeps-led, Respects-outer}
use Rattle.genus_laws.proofs.Paths.{false_true}
use Rattle.genus_laws.proofs.LeadLemmas.{either, is_one, Lead-append, Lead-one}
use Rattle.genus_laws.proofs.CutSurfaces.{are_apart}

neither : (x a b : ℕ) → (nat_eq x a || nat_eq x b) ≡ false → (x ≢ a) × (x ≢ b)
neither x a b none = (
  λ same. false_true (sym none ∙ ap (λ t. t || nat_eq x b) (eq-eqb x a same)),
  λ same. false_true (sym none ∙ or_right (nat_eq x a) (nat_eq x b) (eq-eqb x b same)),
)

one_of_two : (x a b : ℕ) → x ≢ a → x ≢ b → (nat_eq x a || nat_eq x b) ≡ false
one_of_two x a b not_a not_b =
    ap₂ (λ s t. s || t) (false_from_ne_true (nat_eq x a) (λ same. not_a (eqb-true x a same)))
    (false_from_ne_true (nat_eq x b) (λ same. not_b (eqb-true x b same)))

-- the two permutations, and that they respect the same as the pairs
pub record IsSaddle (n a a_too : ℕ) (s t w : List (ℕ × ℕ)) : Type 0 where
  pub f : ℕ → ℕ
  pub f_back : ℕ → ℕ
  pub other : ℕ → ℕ
  pub other_back : ℕ → ℕ
  pub permutes : IsPermutation n f f_back
  pub other_permutes : IsPermutation n other other_back
  pub exchange : IsExchange n f other a a_too
  pub keep_f : (g : ℕ → ℕ) → Respects g s → Respects g w → Keeps n f g
  pub respect_s : (g : ℕ → ℕ) → Keeps n f g → Respects g s
  pub respect_w : (g : ℕ → ℕ) → Keeps n f g → Respects g w
  pub keep_other : (g : ℕ → ℕ) → Respects g t → Respects g w → Keeps n other g
  pub respect_t : (g : ℕ → ℕ) → Keeps n other g → Respects g t
  pub s_are : classes_of n (s ++ w) ≡ cycles_of n f
  pub t_are : classes_of n (t ++ w) ≡ cycles_of n other

pub saddle-exchanged : (n a b a_too b_too : ℕ) (s t w : List (ℕ × ℕ)) → a < n → b < n → a_too < n → b_too < n → a ≢ a_too → b ≢ b_too
    → AreBelow n s → AreBelow n t → JoinTwo s a b a_too b_too → JoinTwo t a b_too a_too b
    → Lead n (other_than (either (is_one a) (is_one a_too))) (other_than (either (is_one b) (is_one b_too))) w → IsSaddle n a a_too s t w
saddle-exchanged n a b a_too b_too s t w a_below b_below a_too_below b_too_below a_apart b_apart s_below t_below s_two t_two outer =
    let heads = either (is_one a) (is_one a_too) in
    let tails = either (is_one b) (is_one b_too) in
    let pairs : List (ℕ × ℕ) = (a, b) ∷ (a_too, b_too) ∷ [] in
    let inner : Lead n heads tails pairs =
    Lead-append n (is_one a) (is_one b) (is_one a_too) (is_one b_too) ((a, b) ∷ []) ((a_too, b_too) ∷ [])
    (are_apart n a a_too (λ same. a_apart (sym same))) (are_apart n b b_too (λ same. b_apart (sym same))) (Lead-one n a b a_below b_below)
    (Lead-one n a_too b_too a_too_below b_too_below) in
    let f = led heads inner.next outer.next in
    let f_back = led tails inner.back outer.back in
    let permutes = IsPermutation-led n heads tails pairs w inner outer in
    let other = exchanged f a a_too in
    let other_back = exchange_back f f_back a a_too in
    let exchange = IsExchange-exchanged n f a a_too a_below a_too_below a_apart in
    let other_permutes = IsPermutation-exchanged n f f_back a a_too permutes a_below a_too_below a_apart in
    let head_a : heads a ≡ true = ap (λ c. c || nat_eq a a_too) (eq-eqb a a refl) in
    let head_a_too : heads a_too ≡ true = or_right (nat_eq a_too a) (nat_eq a_too a_too) (eq-eqb a_too a_too refl) in
    let f_a : f a ≡ b =
    led-inside heads inner.next outer.next a head_a ∙ led-inside (is_one a) (λ x. b) (λ x. b_too) a (eq-eqb a a refl) in
    let f_a_too : f a_too ≡ b_too =
    led-inside heads inner.next outer.next a_too head_a_too
    ∙ led-outside (is_one a) (λ x. b) (λ x. b_too) a_too
    (false_from_ne_true (nat_eq a_too a) (λ same. a_apart (sym (eqb-true a_too a same)))) in
    let other_a : other a ≡ b_too = exchange.at_x ∙ f_a_too in
    let other_a_too : other a_too ≡ b = exchange.at_y ∙ f_a in
    -- what is respected is kept, and back
    let keep_f : (g : ℕ → ℕ) → Respects g s → Respects g w → Keeps n f g =
    λ g inside outside.
    let two = s_two.joins g inside in
    Keeps-led n heads tails pairs w inner outer g (two.0, (two.1, tt)) outside in
    let respect_s : (g : ℕ → ℕ) → Keeps n f g → Respects g s =
    λ g keeps. s_two.only g (keeps a a_below ∙ ap g f_a) (keeps a_too a_too_below ∙ ap g f_a_too) in
    let respect_w : (g : ℕ → ℕ) → Keeps n f g → Respects g w =
    λ g keeps. Respects-outer n heads tails pairs w inner outer g keeps in
    let keep_other : (g : ℕ → ℕ) → Respects g t → Respects g w → Keeps n other g =
    λ g inside outside.
    let two = t_two.joins g inside in
    each n a a_too (λ z. g z ≡ g (other z)) (two.0 ∙ ap g (sym other_a)) (two.1 ∙ ap g (sym other_a_too))
    (λ z z_below not_a not_a_too.
    let none = one_of_two z a a_too not_a not_a_too in
    outer.joins g outside z z_below (ap not none)
    ∙ ap g (sym (exchange.others z z_below not_a not_a_too ∙ led-outside heads inner.next outer.next z none))) in
    let respect_t : (g : ℕ → ℕ) → Keeps n other g → Respects g t =
    λ g keeps. t_two.only g (keeps a a_below ∙ ap g other_a) (keeps a_too a_too_below ∙ ap g other_a_too) in
    let respect_w_too : (g : ℕ → ℕ) → Keeps n other g → Respects g w =
    λ g keeps. outer.only g (λ z z_below is.
    let none = not-true (heads z) is in
    let apart = neither z a a_too none in
    keeps z z_below ∙ ap g (exchange.others z z_below apart.0 apart.1 ∙ led-outside heads inner.next outer.next z none)) in
    let s_are : classes_of n (s ++ w) ≡ cycles_of n f =
    classes_of-same n (s ++ w) (steps_of n f) (AreBelow-append n s w s_below outer.below) (steps-below n f permutes.below)
    (λ g respects. Respects-steps n f g (keep_f g (Respects-first g s w respects) (Respects-second g s w respects)))
    (λ g respects. let keeps = Keeps-steps n f g respects in Respects-append g s w (respect_s g keeps) (respect_w g keeps)) in
    let t_are : classes_of n (t ++ w) ≡ cycles_of n other =
    classes_of-same n (t ++ w) (steps_of n other) (AreBelow-append n t w t_below outer.below) (steps-below n other other_permutes.below)
    (λ g respects. Respects-steps n other g (keep_other g (Respects-first g t w respects) (Respects-second g t w respects)))
    (λ g respects. let keeps = Keeps-steps n other g respects in Respects-append g t w (respect_t g keeps) (respect_w_too g keeps)) in
    record {
      f = f;
      f_back = f_back;
      other = other;
      other_back = other_back;
      permutes = permutes;
      other_permutes = other_permutes;
      exchange = exchange;
      keep_f = keep_f;
      respect_s = respect_s;
      respect_w = respect_w;
      keep_other = keep_other;
      respect_t = respect_t;
      s_are = s_are;
      t_are = t_are;
    }
