-- The two smoothings of a crossing, with whatever leads back from their starts to their ends: on each component they have three circles
-- together, or two where the crossing is not.
use Rattle.std.proofs.Common.{◌≡◌, ◌≢◌, ℕ, ◌+◌, ◌<◌, ◌∙◌, List, ◌++◌, sym, ap, ap₂, subst}
use Rattle.std.specs.Prelude.{slice_index}
use Rattle.kh_types.specs.Bits.{one_if}
use Rattle.kh_types.specs.Classes.{classes_of, AreBelow}
use Rattle.kh_types.proofs.JoinedClasses.{classes_of-same}
use Rattle.kh_types.proofs.ClassLemmas.{Respects-append, Respects-first, Respects-second, AreBelow-append}
use Rattle.genus_laws.specs.Orbits.{is_in, parts_in, steps_of, orbits_of}
use Rattle.genus_laws.specs.Surfaces.{Lead, other_than}
use Rattle.genus_laws.specs.Saddles.{JoinTwo}
use Rattle.genus_laws.proofs.OrbitLemmas.{Respects-steps, Keeps-steps, orbit_steps-below}
use Rattle.genus_laws.proofs.LeadLemmas.{either, is_one}
use Rattle.genus_laws.proofs.ExchangeCounts.{exchange-counted}
use Rattle.genus_laws.proofs.SaddleExchanges.{saddle-exchanged}

pub saddle-counted : (n a b a_too b_too : ℕ) (s t w : List (ℕ × ℕ)) → a < n → b < n → a_too < n → b_too < n → a ≢ a_too → b ≢ b_too
    → AreBelow n s → AreBelow n t → JoinTwo s a b a_too b_too → JoinTwo t a b_too a_too b
    → Lead n (other_than (either (is_one a) (is_one a_too))) (other_than (either (is_one b) (is_one b_too))) w
    → (name : ℕ) → name < n → slice_index (classes_of n (s ++ (t ++ w))) name ≡ name
    → parts_in n (classes_of n (s ++ (t ++ w))) name (classes_of n (s ++ w))
    + parts_in n (classes_of n (s ++ (t ++ w))) name (classes_of n (t ++ w))
    ≡ 2 + one_if (is_in (classes_of n (s ++ (t ++ w))) name a)
saddle-counted n a b a_too b_too s t w a_below b_below a_too_below b_too_below a_apart b_apart s_below t_below s_two t_two outer
    name below own =
    let saddle = saddle-exchanged n a b a_too b_too s t w a_below b_below a_too_below b_too_below a_apart b_apart s_below t_below s_two t_two
    outer in
    let f = saddle.f in
    let other = saddle.other in
    let all_are : classes_of n (s ++ (t ++ w)) ≡ orbits_of n f other =
    classes_of-same n (s ++ (t ++ w)) (steps_of n f ++ steps_of n other)
    (AreBelow-append n s (t ++ w) s_below (AreBelow-append n t w t_below outer.below))
    (orbit_steps-below n f other saddle.permutes.below saddle.other_permutes.below)
    (λ g respects.
    let rest = Respects-second g s (t ++ w) respects in
    let last = Respects-second g t w rest in
    Respects-append g (steps_of n f) (steps_of n other)
    (Respects-steps n f g (saddle.keep_f g (Respects-first g s (t ++ w) respects) last))
    (Respects-steps n other g (saddle.keep_other g (Respects-first g t w rest) last)))
    (λ g respects.
    let keeps = Keeps-steps n f g (Respects-first g (steps_of n f) (steps_of n other) respects) in
    let other_keeps = Keeps-steps n other g (Respects-second g (steps_of n f) (steps_of n other) respects) in
    Respects-append g s (t ++ w) (saddle.respect_s g keeps) (Respects-append g t w (saddle.respect_t g other_keeps) (saddle.respect_w g keeps))) in
    subst (λ (cs : List ℕ).
    parts_in n cs name (classes_of n (s ++ w)) + parts_in n cs name (classes_of n (t ++ w)) ≡ 2 + one_if (is_in cs name a)) (sym all_are)
    (ap₂ (λ p q. parts_in n (orbits_of n f other) name p + parts_in n (orbits_of n f other) name q) saddle.s_are saddle.t_are
    ∙ exchange-counted n f saddle.f_back other saddle.other_back a a_too saddle.permutes saddle.other_permutes saddle.exchange name below
    (ap (λ cs. slice_index cs name) (sym all_are) ∙ own))
