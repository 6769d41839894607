-- What the smoothings of a crossing and its passes join, by its slots from one on; those of two crossings apart from all others.
-- An arc's name stands at two darts alone. For each slot of the four: the smoothing that closes there joins it with the next
-- slot, the other one joins the next two and the last with it, and passes join opposite slots; each is shown in both directions.
-- Then, a pair more whose name no other pair joins with anything makes one class fewer, and two such pairs two. At last, the
-- classes of all smoothings are those of any pairs that are respected by the same functions, with two crossings looked at apart;
-- and so where these are passed straight.
use Rattle.std.proofs.lemmas.Bool.Decides.{nat_tests}
use Rattle.std.proofs.Common.{◌≡◌, ◌≢◌, ℕ, ◌⊎◌, inl, inr, ◌+◌, ◌*◌, ◌%◌, ◌<◌, ◌≤◌, ◌∙◌, List, [], ◌∷◌, ◌++◌, sym, ap, subst, arith, refl, Bool, true, false, cond, ◌||◌, length, eq-eqb, eqb-true}
use Rattle.std.specs.Prelude.{nat_eq}
use Rattle.std.specs.List.{AllByRecursion}
use Rattle.std.proofs.lemmas.Bool.{cases_Bool, cases_eq, ne_eqb}
use Rattle.kh_types.specs.Classes.{classes_of, class_count, Respects, AreBelow}
use Rattle.kh_types.specs.Code.{arc_in, arc_count}
use Rattle.kh_types.specs.Components.{passes_of}
use Rattle.kh_types.specs.Circles.{smoothing_of, smoothings_of}
use Rattle.kh_types.specs.Darts.{HasArcsTwice, partner_at}
use Rattle.kh_types.proofs.ClassLemmas.{classes-finest}
use Rattle.kh_types.proofs.JoinedClasses.{classes_of-same, class_count-apart}
use Rattle.kh_types.proofs.Lists.{AllByRecursion-append}
use Rattle.code_passes.specs.Parts.{slots_in}
use Rattle.gluing_laws.specs.Arcs.{arc_by_place}
use Rattle.gluing_laws.specs.Codes.{arc_of_dart}
use Rattle.kink_and_finger_laws.specs.Pulls.{dart_in}
use Rattle.kink_and_finger_laws.proofs.Smoothed.{dart_in-below}
use Rattle.kink_and_finger_laws.proofs.OldDarts.{partner-named, arc_of_dart-in}
use Rattle.kink_and_finger_laws.specs.Drops.{straight_pairs, is_of_two}
use Rattle.kink_and_finger_laws.specs.DropCircles.{joined_at, outer_pairs, through_at, closing_at}
use Rattle.kink_and_finger_laws.proofs.KeptCodes.{all-gone, gone-all}
use Rattle.kink_and_finger_laws.proofs.SmoothingPairs.{smoothings-all, smoothings-each, outer-all, outer-each, joined-below, passes-low, all_first, all_second}

-- a test of two that fails
pub or-false : (a b : Bool) → (a || b) ≡ false → (a ≡ false) × (b ≡ false)
or-false a b fails = grind (arith, nat_tests)

-- what holds of the four darts' names at each crossing that stays holds of its smoothing
pub marked : (f : ℕ → ℕ) (b : ℕ) (slots : List ℕ) → ((slot : ℕ) → slot < 4 → f (arc_in slots slot) ≡ 0) → Respects f (smoothing_of b slots)
marked f b slots at = grind (arith, nat_tests)

-- a name stands at two darts alone
pub named-own : (crossings : List (List ℕ)) (s place slot : ℕ) → HasArcsTwice crossings → s < 4 * length crossings → place < length crossings
    → slot < 4 → arc_by_place crossings place slot ≡ arc_of_dart crossings s
    → (4 * place + slot ≡ s) ⊎ (4 * place + slot ≡ partner_at crossings s)
named-own crossings s place slot twice s_below below slot_below same =
    let z = dart_in place slot in
    let e : slot % 4 ≡ slot = omega (arith, slot_below) in
    let is : dart_in place slot ≡ 4 * place + slot = ap (λ r. 4 * place + r) e in
    elim (cases_eq (dart_in place slot) s) [
      | inl own ↦ inl (sym is ∙ own)
      | inr other ↦
          inr
          (sym is
          ∙ sym
          (partner-named crossings twice s (dart_in place slot) s_below (dart_in-below (length crossings) place slot below) other
          (arc_of_dart-in crossings place slot ∙ ap (arc_by_place crossings place) e ∙ same)))
    ]

-- what the smoothings of a crossing join, and its passes, by its slots from p on

pub closing-joined : (f : ℕ → ℕ) (slots : List ℕ) (p b : ℕ) → p < 4 → b ≡ closing_at p → Respects f (smoothing_of b slots)
    → (f (arc_in slots p) ≡ f (arc_in slots ((p + 1) % 4))) × (f (arc_in slots ((p + 2) % 4)) ≡ f (arc_in slots ((p + 3) % 4)))
closing-joined f slots p b below is respects = grind (arith, nat_tests)

pub joined-closing : (f : ℕ → ℕ) (slots : List ℕ) (p b : ℕ) → p < 4 → b ≡ closing_at p
    → f (arc_in slots p) ≡ f (arc_in slots ((p + 1) % 4)) → f (arc_in slots ((p + 2) % 4)) ≡ f (arc_in slots ((p + 3) % 4))
    → Respects f (smoothing_of b slots)
joined-closing f slots p b below is first second = grind (arith, nat_tests)

pub through-joined : (f : ℕ → ℕ) (slots : List ℕ) (p b : ℕ) → p < 4 → b ≡ through_at p → Respects f (smoothing_of b slots)
    → (f (arc_in slots ((p + 1) % 4)) ≡ f (arc_in slots ((p + 2) % 4))) × (f (arc_in slots ((p + 3) % 4)) ≡ f (arc_in slots p))
through-joined f slots p b below is respects = grind (arith, nat_tests)

pub joined-through : (f : ℕ → ℕ) (slots : List ℕ) (p b : ℕ) → p < 4 → b ≡ through_at p
    → f (arc_in slots ((p + 1) % 4)) ≡ f (arc_in slots ((p + 2) % 4)) → f (arc_in slots ((p + 3) % 4)) ≡ f (arc_in slots p)
    → Respects f (smoothing_of b slots)
joined-through f slots p b below is first second = grind (arith, nat_tests)

pub straight-pass : (f : ℕ → ℕ) (slots : List ℕ) (p : ℕ) → p < 4 → Respects f (passes_of slots)
    → (f (arc_in slots p) ≡ f (arc_in slots ((p + 2) % 4))) × (f (arc_in slots ((p + 1) % 4)) ≡ f (arc_in slots ((p + 3) % 4)))
straight-pass f slots p below respects = grind (arith, nat_tests)

pub pass-straight : (f : ℕ → ℕ) (slots : List ℕ) (p : ℕ) → p < 4 → f (arc_in slots p) ≡ f (arc_in slots ((p + 2) % 4))
    → f (arc_in slots ((p + 1) % 4)) ≡ f (arc_in slots ((p + 3) % 4)) → Respects f (passes_of slots)
pass-straight f slots p below first second = grind (arith, nat_tests)

-- lists of pairs with a few pairs at their end

pub packed : (P : ℕ × ℕ → Type 0) (outer : List (ℕ × ℕ)) (e1 e2 l1 l2 : ℕ × ℕ) → AllByRecursion P outer → P e1 → P e2 → P l1 → P l2
    → AllByRecursion P (((outer ++ e1 ∷ e2 ∷ []) ++ l1 ∷ []) ++ l2 ∷ [])
packed P outer e1 e2 l1 l2 holds one two three four = grind (arith, nat_tests, AllByRecursion-append)

pub record Unpacked (P : ℕ × ℕ → Type 0) (outer : List (ℕ × ℕ)) (e1 e2 l1 l2 : ℕ × ℕ) : Type 0 where
  pub outer_holds : AllByRecursion P outer
  pub one : P e1
  pub two : P e2
  pub three : P l1
  pub four : P l2

pub unpacked : (P : ℕ × ℕ → Type 0) (outer : List (ℕ × ℕ)) (e1 e2 l1 l2 : ℕ × ℕ)
    → AllByRecursion P (((outer ++ e1 ∷ e2 ∷ []) ++ l1 ∷ []) ++ l2 ∷ []) → Unpacked P outer e1 e2 l1 l2
unpacked P outer e1 e2 l1 l2 holds =
    let first = all_first P ((outer ++ e1 ∷ e2 ∷ []) ++ l1 ∷ []) (l2 ∷ []) holds in
    let last = all_second P ((outer ++ e1 ∷ e2 ∷ []) ++ l1 ∷ []) (l2 ∷ []) holds in
    let middle = all_first P (outer ++ e1 ∷ e2 ∷ []) (l1 ∷ []) first in
    let before = all_second P (outer ++ e1 ∷ e2 ∷ []) (l1 ∷ []) first in
    let ends = all_second P outer (e1 ∷ e2 ∷ []) middle in
    record {
      outer_holds = all_first P outer (e1 ∷ e2 ∷ []) middle;
      one = ends.0;
      two = ends.1.0;
      three = before.0;
      four = last.0;
    }

-- a name that no pair joins with another

abbrev pub mark : ℕ → ℕ → ℕ
mark v z = cond (nat_eq z v) 1 0

pub mark-off : (v z : ℕ) → z ≢ v → mark v z ≡ 0
mark-off v z apart = ap (λ t. cond t 1 0) (ne_eqb z v apart)

pub mark-own : (v : ℕ) → mark v v ≡ 1
mark-own v = ap (λ t. cond t 1 0) (eq-eqb v v refl)

pub count-leaf : (n : ℕ) (pairs : List (ℕ × ℕ)) (a b : ℕ) → AreBelow n pairs → Respects (λ z. mark a z) pairs → a < n → b < n → b ≢ a
    → class_count (classes_of n pairs) ≡ class_count (classes_of n (pairs ++ (a, b) ∷ [])) + 1
count-leaf n pairs a b below respects a_below b_below apart =
    grind (arith, nat_tests, class_count-apart, classes-finest, mark-own, mark-off)

-- two such names
pub count-leaves : (n : ℕ) (pairs : List (ℕ × ℕ)) (a s b t : ℕ) → AreBelow n pairs → Respects (λ z. mark a z) pairs
    → Respects (λ z. mark b z) pairs → a < n → s < n → b < n → t < n → s ≢ a → t ≢ b → a ≢ b → s ≢ b
    → class_count (classes_of n pairs) ≡ class_count (classes_of n ((pairs ++ (a, s) ∷ []) ++ (b, t) ∷ [])) + 2
count-leaves n pairs a s b t below a_free b_free a_below s_below b_below t_below s_a t_b a_b s_b =
    grind (arith, nat_tests, count-leaf, AllByRecursion-append, mark-off)

-- all smoothings, with those of two crossings apart

pub smoothed-as : (crossings : List (List ℕ)) (n state c d : ℕ) (whole : List (ℕ × ℕ)) → HasArcsTwice crossings
    → arc_count crossings + 1 ≤ n → c < length crossings → d < length crossings → AreBelow n whole
    → ((f : ℕ → ℕ) → Respects f (outer_pairs crossings (is_of_two c d) state) → Respects f (joined_at crossings state c)
    → Respects f (joined_at crossings state d) → Respects f whole)
    → ((f : ℕ → ℕ) → Respects f whole → Respects f (outer_pairs crossings (is_of_two c d) state)
    × Respects f (joined_at crossings state c) × Respects f (joined_at crossings state d))
    → classes_of n (smoothings_of crossings state) ≡ classes_of n whole
smoothed-as crossings n state c d whole twice large c_below d_below low onward back =
    classes_of-same n (smoothings_of crossings state) whole
    (smoothings-all (λ pair. (pair.0 < n) × (pair.1 < n)) crossings state
    (λ place below. joined-below crossings n state place twice large below)) low
    (λ f respects.
    onward f
    (outer-all (λ pair. f pair.0 ≡ f pair.1) crossings (is_of_two c d) state
    (λ place below stays. smoothings-each (λ pair. f pair.0 ≡ f pair.1) crossings state place respects below))
    (smoothings-each (λ pair. f pair.0 ≡ f pair.1) crossings state c respects c_below)
    (smoothings-each (λ pair. f pair.0 ≡ f pair.1) crossings state d respects d_below))
    (λ f respects.
    let parts = back f respects in
    smoothings-all (λ pair. f pair.0 ≡ f pair.1) crossings state
    (λ place below.
    elim (cases_Bool (nat_eq c place)) [
      | inl at_c ↦ subst (λ (k : ℕ). Respects f (joined_at crossings state k)) (eqb-true c place at_c) parts.1
      | inr not_c ↦ elim (cases_Bool (nat_eq d place)) [
        | inl at_d ↦ subst (λ (k : ℕ). Respects f (joined_at crossings state k)) (eqb-true d place at_d) parts.2
        | inr not_d ↦
            outer-each (λ pair. f pair.0 ≡ f pair.1) crossings (is_of_two c d) state place parts.0 below
            (ap (λ t. t || nat_eq d place) not_c ∙ not_d)
      ]
    ]))

pub straight-as : (crossings : List (List ℕ)) (n state c d : ℕ) (whole : List (ℕ × ℕ)) → HasArcsTwice crossings
    → arc_count crossings + 1 ≤ n → c < length crossings → d < length crossings → AreBelow n whole
    → ((f : ℕ → ℕ) → Respects f (outer_pairs crossings (is_of_two c d) state) → Respects f (passes_of (slots_in crossings c))
    → Respects f (passes_of (slots_in crossings d)) → Respects f whole)
    → ((f : ℕ → ℕ) → Respects f whole → Respects f (outer_pairs crossings (is_of_two c d) state)
    × Respects f (passes_of (slots_in crossings c)) × Respects f (passes_of (slots_in crossings d)))
    → classes_of n (straight_pairs crossings (is_of_two c d) ++ outer_pairs crossings (is_of_two c d) state) ≡ classes_of n whole
straight-as crossings n state c d whole twice large c_below d_below low onward back =
    let straight = straight_pairs crossings (is_of_two c d) in
    let outer = outer_pairs crossings (is_of_two c d) state in
    let c_gone : (nat_eq c c || nat_eq d c) ≡ true = ap (λ t. t || nat_eq d c) (eq-eqb c c refl) in
    let d_gone : (nat_eq c d || nat_eq d d) ≡ true = gone_second (nat_eq c d) (nat_eq d d) (eq-eqb d d refl) in
    classes_of-same n (straight_pairs crossings (is_of_two c d) ++ outer_pairs crossings (is_of_two c d) state) whole
    (AllByRecursion-append (λ pair. (pair.0 < n) × (pair.1 < n)) straight outer
    (all-gone (λ pair. (pair.0 < n) × (pair.1 < n)) (λ place. passes_of (slots_in crossings place)) (is_of_two c d) 0 (length crossings)
    (λ place from below gone_there. passes-low crossings n place twice large (omega (arith, below))))
    (outer-all (λ pair. (pair.0 < n) × (pair.1 < n)) crossings (is_of_two c d) state
    (λ place below stays. joined-below crossings n state place twice large below))) low
    (λ f respects.
    let front = all_first (λ pair. f pair.0 ≡ f pair.1) straight outer respects in
    let at : (place : ℕ) → place < length crossings → is_of_two c d place ≡ true → Respects f (passes_of (slots_in crossings place)) =
    λ place below gone_there.
    gone-all (λ pair. f pair.0 ≡ f pair.1) (λ place. passes_of (slots_in crossings place)) (is_of_two c d) 0 (length crossings) place
    front (omega arith) (omega (arith, below)) gone_there in
    onward f (all_second (λ pair. f pair.0 ≡ f pair.1) straight outer respects) (at c c_below c_gone) (at d d_below d_gone))
    (λ f respects.
    let parts = back f respects in
    AllByRecursion-append (λ pair. f pair.0 ≡ f pair.1) straight outer
    (all-gone (λ pair. f pair.0 ≡ f pair.1) (λ place. passes_of (slots_in crossings place)) (is_of_two c d) 0 (length crossings)
    (λ place from below gone_there.
    elim (cases_Bool (nat_eq c place)) [
      | inl at_c ↦ subst (λ (k : ℕ). Respects f (passes_of (slots_in crossings k))) (eqb-true c place at_c) parts.1
      | inr not_c ↦
          subst (λ (k : ℕ). Respects f (passes_of (slots_in crossings k)))
          (eqb-true d place (sym (ap (λ t. t || nat_eq d place) not_c) ∙ gone_there)) parts.2
    ])) parts.0)
  where
    gone_second : (a b : Bool) → b ≡ true → (a || b) ≡ true
    gone_second a b is = grind (arith, nat_tests)
