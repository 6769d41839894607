-- Codes whose crossings are those of another in another order: what is said of each crossing and of components.
--
-- Each crossing of the one list stands in the other, at another place, with the same arcs. So the passes are the same pairs in another
-- order, and the classes under them the same list. What a rule says of a crossing is said of the same one, whatever its place, and a rule
-- of two crossings is one of the same two.
use Rattle.std.proofs.Common.{◌≡◌, ◌≢◌, ℕ, zero, suc, ◌⊎◌, inl, inr, ◌+◌, ◌-◌, ◌*◌, ◌^◌, ◌<◌, ◌∙◌, List, [], ◌∷◌, ◌++◌, length, get_or, sym, ap, ap₂, subst, arith}
use Rattle.std.specs.List.{flat_map, filter, range_with_len}
use Rattle.std.proofs.lemmas.Bool.{cases_lt}
use Rattle.kh_types.specs.Accepted.{IsDirected, IsInterval}
use Rattle.kh_types.specs.Bits.{bit}
use Rattle.kh_types.specs.Classes.{Respects, classes_of, is_least}
use Rattle.kh_types.specs.Code.{IsArc, IsCrossing, arc_count, arc_in, place_of, slots_of}
use Rattle.kh_types.specs.Components.{arcs_in, component_count, component_of, components_of, next, next_in, passes_of}
use Rattle.order_laws.proofs.ClampedClasses.{classes_of-any}
use Rattle.order_laws.proofs.ExchangedBits.{bit-exchanged, element-moved, exchanged, exchanged-below, moved, moved-below, moved-twice}
use Rattle.order_laws.proofs.ExchangedCodes.{length-with}

-- the crossing at each place of a list stands at another place of a second one, and back; and a choice of bits goes with them
pub record IsShuffled (old new : List (List ℕ)) (to choices : ℕ → ℕ) : Type 0 where
  pub size : length new ≡ length old
  pub below : (l : ℕ) → l < length old → to l < length old
  pub twice : (l : ℕ) → to (to l) ≡ l
  pub slots : (l : ℕ) → get_or new (to l) [] ≡ get_or old l []
  pub choices_below : (s : ℕ) → s < 2 ^ length old → choices s < 2 ^ length old
  pub bits : (s l : ℕ) → bit (choices s) (to l) ≡ bit s l

pub IsShuffled-back : (old new : List (List ℕ)) (to choices : ℕ → ℕ) → IsShuffled old new to choices
    → ((s l : ℕ) → bit (choices s) (to l) ≡ bit s l) → IsShuffled new old to choices
IsShuffled-back old new to choices is bits =
    record {
      size = sym is.size;
      below = λ l below. omega (arith, is.below l (omega (arith, below, is.size)), is.size);
      twice = is.twice;
      slots = λ l. sym (is.slots (to l)) ∙ ap (λ m. get_or new m []) (is.twice l);
      choices_below = λ s below. subst (λ (n : ℕ). choices s < 2 ^ n) (sym is.size)
          (is.choices_below s (subst (λ (n : ℕ). s < 2 ^ n) is.size below));
      bits = bits;
    }

-- two neighbours exchanged
pub IsShuffled-exchanged : (front back : List (List ℕ)) (a b : List ℕ)
    → IsShuffled (front ++ a ∷ b ∷ back) (front ++ b ∷ a ∷ back) (moved (length front)) (exchanged (length front))
IsShuffled-exchanged front back a b =
    let k = length front in
    let n = length (front ++ a ∷ b ∷ back) in
    let whole : length (front ++ a ∷ b ∷ back) ≡ length front + (2 + length back) = length-with front back 0 a b in
    record {
      size = length-with front back 0 b a ∙ sym whole;
      below = λ l below. moved-below k l n (omega (arith, whole)) below;
      twice = moved-twice k;
      slots = element-moved front back a b [];
      choices_below = λ s below. subst (λ (m : ℕ). exchanged k s < 2 ^ m) (sym whole)
          (exchanged-below k (length back) s (subst (λ (m : ℕ). s < 2 ^ m) whole below));
      bits = bit-exchanged k;
    }

-- passes by places
passes-each : (g : ℕ → ℕ) (xs : List (List ℕ)) → Respects g (flat_map passes_of xs) → (l : ℕ) → l < length xs
    → (g (arc_in (get_or xs l []) 0) ≡ g (arc_in (get_or xs l []) 2)) × (g (arc_in (get_or xs l []) 1) ≡ g (arc_in (get_or xs l []) 3))
passes-each g [] respects l below = absurd (omega (arith, below))
passes-each g (x ∷ xs) respects zero below = (respects.0, respects.1.0)
passes-each g (x ∷ xs) respects (suc l) below = passes-each g xs respects.1.1 l (omega (arith, below))

each-passes : (g : ℕ → ℕ) (xs : List (List ℕ))
    → ((l : ℕ) → l < length xs
    → (g (arc_in (get_or xs l []) 0) ≡ g (arc_in (get_or xs l []) 2)) × (g (arc_in (get_or xs l []) 1) ≡ g (arc_in (get_or xs l []) 3)))
    → Respects g (flat_map passes_of xs)
each-passes g [] each = tt
each-passes g (x ∷ xs) each =
    let here = each 0 (omega arith) in
    (here.0, (here.1, each-passes g xs (λ l below. each (suc l) (omega (arith, below)))))

module _ (old new : List (List ℕ)) (to choices : ℕ → ℕ) (is : IsShuffled old new to choices) where
  passes-onward : (g : ℕ → ℕ) → Respects g (flat_map passes_of new) → Respects g (flat_map passes_of old)
  passes-onward g respects =
      each-passes g old (λ l below.
      subst (λ (slots : List ℕ). (g (arc_in slots 0) ≡ g (arc_in slots 2)) × (g (arc_in slots 1) ≡ g (arc_in slots 3))) (is.slots l)
      (passes-each g new respects (to l) (omega (arith, is.below l below, is.size))))

  -- the slots of a crossing, where it stands in the other list
  pub slots-at : (crossing : ℕ) → slots_of new (to (place_of crossing) + 1) ≡ slots_of old crossing
  slots-at crossing =
      ap (λ m. get_or new m []) (let e : to (place_of crossing) + 1 - 1 ≡ to (place_of crossing) = omega arith in e)
      ∙ is.slots (place_of crossing)

  pub IsCrossing-at : (crossing : ℕ) → IsCrossing old crossing → IsCrossing new (to (place_of crossing) + 1)
  IsCrossing-at crossing here = record {
    positive = omega arith;
    within = omega (arith, is.size, is.below (place_of crossing) (omega (arith, here.positive, here.within)));
  }

  pub IsArc-new : (arc : ℕ) → IsArc old arc → IsArc new arc
  IsArc-new arc here = record { positive = here.positive; within = omega (arith, here.within, is.size) }

pub components-shuffled : (old new : List (List ℕ)) (to choices : ℕ → ℕ) → IsShuffled old new to choices
    → components_of new ≡ components_of old
components-shuffled old new to choices is =
    ap (λ n. classes_of (2 * n + 1) (flat_map passes_of new)) is.size
    ∙ classes_of-any (arc_count old + 1) (flat_map passes_of new) (flat_map passes_of old) (omega arith)
    (passes-onward old new to choices is) (passes-onward new old to choices (IsShuffled-back old new to choices is is.bits))

pub component_count-shuffled : (old new : List (List ℕ)) (to choices : ℕ → ℕ) → IsShuffled old new to choices
    → component_count new ≡ component_count old
component_count-shuffled old new to choices is =
    ap₂ (λ (components : List ℕ) (n : ℕ). length (filter (is_least components) (range_with_len 1 (2 * n))))
    (components-shuffled old new to choices is) is.size

-- the rules of crossings and components, but for slots and arcs
module _ (old new : List (List ℕ)) (to choices : ℕ → ℕ) (is : IsShuffled old new to choices) (directed : IsDirected old) where
  abbrev home : IsShuffled new old to choices
  home = IsShuffled-back old new to choices is is.bits

  abbrev same : components_of new ≡ components_of old
  same = components-shuffled old new to choices is

  next-same : (arc : ℕ) → next old arc ≡ next new arc
  next-same arc = ap (λ components. next_in components arc) (sym same)

  -- the slots of a crossing, and of where it stood
  slots-home : (crossing : ℕ) → slots_of old (to (place_of crossing) + 1) ≡ slots_of new crossing
  slots-home = slots-at new old to choices home

  crossing-home : (crossing : ℕ) → IsCrossing new crossing → IsCrossing old (to (place_of crossing) + 1)
  crossing-home = IsCrossing-at new old to choices home

  pub intervals-shuffled : (arc : ℕ) → IsArc new arc → component_of (components_of new) arc ≡ arc → IsInterval (components_of new) arc
  intervals-shuffled arc is_arc own =
      subst (λ (components : List ℕ). IsInterval components arc) (sym same)
      (directed.intervals arc (IsArc-new new old to choices home arc is_arc)
      (ap (λ components. component_of components arc) (sym same) ∙ own))

  pub under-shuffled : (crossing : ℕ) → IsCrossing new crossing
      → arc_in (slots_of new crossing) 2 ≡ next new (arc_in (slots_of new crossing) 0)
  under-shuffled crossing here =
      ap (λ slots. arc_in slots 2) (sym (slots-home crossing))
      ∙ directed.under (to (place_of crossing) + 1) (crossing-home crossing here)
      ∙ ap (λ slots. next old (arc_in slots 0)) (slots-home crossing)
      ∙ next-same (arc_in (slots_of new crossing) 0)

  pub over-shuffled : (crossing : ℕ) → IsCrossing new crossing
      → (arc_in (slots_of new crossing) 3 ≡ next new (arc_in (slots_of new crossing) 1))
      ⊎ (arc_in (slots_of new crossing) 1 ≡ next new (arc_in (slots_of new crossing) 3))
  over-shuffled crossing here = elim (directed.over (to (place_of crossing) + 1) (crossing-home crossing here)) [
    | inl onward ↦ inl
        (ap (λ slots. arc_in slots 3) (sym (slots-home crossing)) ∙ onward
        ∙ ap (λ slots. next old (arc_in slots 1)) (slots-home crossing) ∙ next-same (arc_in (slots_of new crossing) 1))
    | inr back ↦ inr
        (ap (λ slots. arc_in slots 1) (sym (slots-home crossing)) ∙ back
        ∙ ap (λ slots. next old (arc_in slots 3)) (slots-home crossing) ∙ next-same (arc_in (slots_of new crossing) 3))
  ]

  -- how many arcs the component has that comes in under a crossing
  abbrev sized : List (List ℕ) → ℕ → ℕ
  sized crossings arc = arcs_in (components_of crossings) (component_of (components_of crossings) arc)

  size-same : (arc : ℕ) → sized old arc ≡ sized new arc
  size-same arc = ap (λ components. arcs_in components (component_of components arc)) (sym same)

  place-other : (earlier later : ℕ) → IsCrossing new earlier → earlier < later → to (place_of earlier) ≢ to (place_of later)
  place-other earlier later here less alike =
      omega (arith, here.positive, less, sym (is.twice (place_of earlier)) ∙ ap to alike ∙ is.twice (place_of later))

  pub two_arcs-shuffled : (earlier later : ℕ) → IsCrossing new earlier → IsCrossing new later → earlier < later
      → arc_in (slots_of new earlier) 0 ≡ arc_in (slots_of new later) 0
      → arcs_in (components_of new) (component_of (components_of new) (arc_in (slots_of new later) 0)) ≢ 2
  two_arcs-shuffled earlier later earlier_is later_is less alike two =
      let e = to (place_of earlier) + 1 in
      let l = to (place_of later) + 1 in
      let e_arc : arc_in (slots_of old e) 0 ≡ arc_in (slots_of new earlier) 0 = ap (λ slots. arc_in slots 0) (slots-home earlier) in
      let l_arc : arc_in (slots_of old l) 0 ≡ arc_in (slots_of new later) 0 = ap (λ slots. arc_in slots 0) (slots-home later) in
      let both : arc_in (slots_of old e) 0 ≡ arc_in (slots_of old l) 0 = e_arc ∙ alike ∙ sym l_arc in
      let l_two : sized old (arc_in (slots_of old l) 0) ≡ 2 =
      ap (sized old) l_arc ∙ size-same (arc_in (slots_of new later) 0) ∙ two in
      elim (cases_lt e l) [
        | inl before ↦ directed.two_arcs e l (crossing-home earlier earlier_is) (crossing-home later later_is) before both l_two
        | inr not_before ↦
            directed.two_arcs l e (crossing-home later later_is) (crossing-home earlier earlier_is)
            (omega (arith, not_before, place-other earlier later earlier_is less)) (sym both) (ap (sized old) both ∙ l_two)
      ]
