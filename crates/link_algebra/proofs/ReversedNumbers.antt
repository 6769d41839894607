-- The reversal goes over each component from its least arc on, the other way; so the reversal of the reversal is the code.
--
-- The reversal's passes go from next arc to arc, so the walk from a least arc goes to the last arc of its component and then down. The
-- blocks of the order are thus the components again (NumberedBlocks), each turned round behind its first arc. So the numbers keep
-- components, the reversal of the reversal is the code under these numbers, and KeptOrder says that it then has its own.
use Rattle.std.proofs.lemmas.Bool.Decides.{nat_tests}
use Rattle.std.proofs.Common.{◌≡◌, ◌≢◌, ℕ, zero, suc, inl, inr, ◌+◌, ◌-◌, ◌*◌, ◌%◌, ◌<◌, ◌≤◌, ◌∙◌, List, [], ◌∷◌, length, refl, sym, ap, subst, arith, Bool, true, false, not, cond, IsTrue}
use Rattle.std.specs.Prelude.{nat_eq, if◌then◌else◌, MatchBool, slice_index_or}
use Rattle.std.specs.List.{AllByRecursion, position_or_len}
use Rattle.std.proofs.lemmas.Bool.{cases_eq, cases_lt, eq-eqb}
use Rattle.std.proofs.lemmas.List.{length-map}
use Rattle.kh_types.specs.Acceptance.{accepted}
use Rattle.kh_types.specs.Accepted.{IsDirected}
use Rattle.kh_types.specs.Code.{Code, IsArc, IsCrossing, arc_in, slots_of}
use Rattle.kh_types.specs.Components.{next}
use Rattle.kh_types.specs.Directions.{HasNoSingleArcs, IsPass, is_positive}
use Rattle.kh_types.proofs.Heads.{HasNoSingleArcs-accepted, IsPass-over, IsPass-under}
use Rattle.kh_types.proofs.NextArcs.{HasPlace-directed, component}
use Rattle.code_passes.specs.ComponentLabels.{entering_label, label_at}
use Rattle.code_passes.specs.Passes.{Pass, is_over}
use Rattle.code_passes.proofs.CutArcs.{IsFirst, component-in, end-within, size, size-positive}
use Rattle.code_passes.proofs.LeastArcs.{IsFirstOf-directed}
use Rattle.orient_arcs.specs.OtherNames.{IsNamedBy, KeepsComponents}
use Rattle.code_passes.specs.Parts.{ArePaired, is_positive_at, over_pass, passes_at, passes_through, slots_in, under_pass}
use Rattle.orient_arcs.specs.Renumbered.{follows, label_entered, number_in, order_of, walk}
use Rattle.orient_arcs.proofs.KeptOrder.{own-crossings}
use Rattle.orient_arcs.proofs.Members.{IsIn}
use Rattle.orient_arcs.proofs.PairedPasses.{All-flat_map_range, entering-enters, entering-holds, heads_of, length-heads}
use Rattle.link_algebra.specs.Mirrors.{reversal_of, reversal_parts, reversal_slots, slots_from}
use Rattle.link_algebra.proofs.MirrorParts.{IsTurnOf-reversal, listed, own-sign, reversal-listed, reversal_size}
use Rattle.orient_arcs.proofs.NumberedBlocks.{GoesOver, placed-numbers}
use Rattle.link_algebra.proofs.TurnedCodes.{reversal-accepted, reversal-rotated, reversal-signs, reversal_name, reversal_number}
use Rattle.link_algebra.proofs.TurnedParts.{IsTurnOf, arc-head, head-arc, number-is, paired}

-- the numbers from first + n down to first + 1
abbrev down : ℕ → ℕ → List ℕ
down first zero = []
down first (suc n) = (first + suc n) ∷ down first n

length-down : (first n : ℕ) → length (down first n) ≡ n
length-down first zero = refl
length-down first (suc n) = let rest = length-down first n in omega (arith, rest)

down-in : (first n x : ℕ) → IsIn x (down first n) → (first < x) × (x ≤ first + n)
down-in first zero x is = absurd is
down-in first (suc n) x (inl same) = (omega (arith, same), omega (arith, same))
down-in first (suc n) x (inr later) = let rest = down-in first n x later in (rest.0, omega (arith, rest.1))

in-down : (first n x : ℕ) → first < x → x ≤ first + n → IsIn x (down first n)
in-down first zero x from within = absurd (omega (arith, from, within))
in-down first (suc n) x from within = elim (cases_eq x (first + suc n)) [
  | inl same ↦ inl same
  | inr other ↦ inr (in-down first n x from (omega (arith, within, other)))
]

-- the last step of a walk, and another
walk-last : (next : ℕ → ℕ) (first fuel x : ℕ) → next x ≡ first → walk next first (suc fuel) x ≡ x ∷ []
walk-last next first fuel x to = ap (λ b. x ∷ (if b then [] else walk next first fuel (next x))) (eq-eqb (next x) first to)

walk-on : (next : ℕ → ℕ) (first fuel x y : ℕ) → next x ≡ y → y ≢ first → walk next first (suc fuel) x ≡ x ∷ walk next first fuel y
walk-on next first fuel x y to on = grind (arith, nat_tests)

-- the reversal's passes leave on the arcs on which the code's enter
module _ (code : Code) (holds : IsTrue (accepted code)) where
  abbrev cs : List (List ℕ)
  cs = code.crossings

  abbrev directed : IsDirected code.crossings
  directed = (HasNoSingleArcs-accepted code holds).0

  abbrev moves : HasNoSingleArcs code.crossings
  moves = (HasNoSingleArcs-accepted code holds).1

  abbrev passes : List Pass
  passes = passes_through (reversal_parts code)

  abbrev turn : IsTurnOf (λ crossing. 2) code (reversal_parts code)
  turn = IsTurnOf-reversal code holds

  paired_parts : ArePaired (reversal_parts code)
  paired_parts = paired (λ crossing. 2) code holds (reversal_parts code) turn

  arc-there : (x : ℕ) → IsArc code.crossings x → IsIn x (heads_of (reversal_parts code) paired_parts)
  arc-there x is = arc-head (λ crossing. 2) code holds (reversal_parts code) turn x is

  there-arc : (x : ℕ) → IsIn x (heads_of (reversal_parts code) paired_parts) → IsArc code.crossings x
  there-arc x is = head-arc (λ crossing. 2) code holds (reversal_parts code) turn x is

  record IsReversed (pass : Pass) : Type 0 where
    pub arc : IsArc code.crossings pass.leaves
    pub onward : pass.enters ≡ next code.crossings pass.leaves
    pub label : pass.label ≡ entering_label code.crossings pass.leaves

  reversed-passes : AllByRecursion IsReversed passes
  reversed-passes =
      All-flat_map_range IsReversed (passes_at (reversal_parts code)) 0 (length (reversal_parts code).crossings)
      (λ place from below.
      let within : place < length code.crossings = omega (arith, below, turn.size) in
      let is : IsCrossing code.crossings (place + 1) = record { positive = omega arith; within = omega (arith, within) } in
      let arc : (slot : ℕ) → slot < 4 → IsArc code.crossings (arc_in (slots_of code.crossings (place + 1)) slot) =
      λ slot slot_below. directed.slots (record { crossing = place + 1; slot = slot }) (record { crossing = is; slot = slot_below }) in
      subst (λ (slots : List ℕ). AllByRecursion IsReversed
      (under_pass slots place ∷ over_pass slots (is_positive_at (reversal_parts code).positive place) place ∷ []))
      (sym (listed code (reversal_slots code.crossings) place within))
      (subst (λ (b : Bool). AllByRecursion IsReversed
      (under_pass (reversal_slots code.crossings (place + 1)) place ∷ over_pass (reversal_slots code.crossings (place + 1)) b place ∷ []))
      (sym (own-sign code place within))
      (by (is_positive code.crossings (place + 1)) place (arc 0 (omega arith)) (arc 1 (omega arith)) (arc 3 (omega arith))
      (IsPass-under code.crossings directed moves (place + 1) is) (IsPass-over code.crossings directed moves (place + 1) is))))
    where
      by : (d : Bool) (place : ℕ) → IsArc code.crossings (arc_in (slots_of code.crossings (place + 1)) 0)
          → IsArc code.crossings (arc_in (slots_of code.crossings (place + 1)) 1)
          → IsArc code.crossings (arc_in (slots_of code.crossings (place + 1)) 3) → IsPass code.crossings (place + 1) 0 2
          → MatchBool d (IsPass code.crossings (place + 1) 3 1) (IsPass code.crossings (place + 1) 1 3)
          → AllByRecursion IsReversed
          (under_pass (slots_from 2 (slots_of code.crossings (place + 1))) place
          ∷ over_pass (slots_from 2 (slots_of code.crossings (place + 1))) d place ∷ [])
      by true place zeroth first third under over = (
        record { arc = zeroth; onward = under.follows; label = ap label_at (sym under.head) },
        (record { arc = third; onward = over.follows; label = ap label_at (sym over.head) }, tt),
      )
      by false place zeroth first third under over = (
        record { arc = zeroth; onward = under.follows; label = ap label_at (sym under.head) },
        (record { arc = first; onward = over.follows; label = ap label_at (sym over.head) }, tt),
      )

  abbrev before : ℕ → ℕ
  before x = follows (passes_through (reversal_parts code)) x

  before-arc : (x : ℕ) → IsArc cs x → IsArc cs (before x)
  before-arc x is = (entering-holds (reversal_parts code) paired_parts IsReversed x reversed-passes (arc-there x is)).arc

  next-before : (x : ℕ) → IsArc cs x → next cs (before x) ≡ x
  next-before x is =
      sym (entering-holds (reversal_parts code) paired_parts IsReversed x reversed-passes (arc-there x is)).onward
      ∙ entering-enters (reversal_parts code) paired_parts x (arc-there x is)

  label-before : (x : ℕ) → IsArc cs x → label_entered (passes_through (reversal_parts code)) x ≡ entering_label cs (before x)
  label-before x is = (entering-holds (reversal_parts code) paired_parts IsReversed x reversed-passes (arc-there x is)).label

  -- the arc before an arc of a component
  before-later : (first i : ℕ) → IsFirst cs first → suc i < size cs first → before (first + suc i) ≡ first + i
  before-later first i is below =
      let end = end-within cs directed first is in
      let x_is : IsArc cs (first + suc i) = record { positive = omega arith; within = omega (arith, end, below) } in
      let y_is = before-arc (first + suc i) x_is in
      let there = next-before (first + suc i) x_is in
      let place = HasPlace-directed cs directed (before (first + suc i)) y_is in
      let x_in = component-in cs directed first (first + suc i) is (omega arith) (omega (arith, below)) in
      elim (cases_lt (before (first + suc i) + 1) (component cs (before (first + suc i)) + size cs (component cs (before (first + suc i))))) [
        | inl inside ↦ omega (arith, place.inside inside, there)
        | inr last ↦
            let least : component cs (before (first + suc i)) ≡ first + suc i = sym (place.last last) ∙ there in
            let own = (IsFirstOf-directed cs directed (before (first + suc i)) y_is).own in
            let same : component cs (first + suc i) ≡ first + suc i = ap (component cs) (sym least) ∙ own ∙ least in
            absurd (omega (arith, same, x_in))
      ]

  before-first : (first : ℕ) → IsFirst cs first → before first + 1 ≡ first + size cs first
  before-first first is =
      let y_is = before-arc first is.is_arc in
      let there = next-before first is.is_arc in
      let place = HasPlace-directed cs directed (before first) y_is in
      elim (cases_lt (before first + 1) (component cs (before first) + size cs (component cs (before first)))) [
        | inl inside ↦
            let up : before first + 1 ≡ first = sym (place.inside inside) ∙ there in
            let least_is : IsFirst cs (component cs (before first)) =
            record { is_arc = (IsFirstOf-directed cs directed (before first) y_is).is_arc; own = (IsFirstOf-directed cs directed (before first) y_is).own } in
            let together = component-in cs directed (component cs (before first)) (before first + 1) least_is (omega (arith, place.from)) inside in
            let own : component cs (before first + 1) ≡ first = ap (component cs) up ∙ is.own in
            absurd (omega (arith, together, own, up, place.from))
        | inr last ↦
            let least : component cs (before first) ≡ first = sym (place.last last) ∙ there in
            let long : size cs (component cs (before first)) ≡ size cs first = ap (size cs) least in
            omega (arith, last, place.below, least, long)
      ]

  -- so a walk goes from the least arc to the last, and down
  abbrev names_from : ℕ → List ℕ
  names_from first = first ∷ down first (size code.crossings first - 1)

  walk-down : (first : ℕ) → IsFirst cs first → (fuel i : ℕ) → suc i < size cs first → suc i ≤ fuel
      → walk (follows (passes_through (reversal_parts code))) first fuel (first + suc i) ≡ down first (suc i)
  walk-down first is zero i below enough = absurd (omega (arith, enough))
  walk-down first is (suc fuel) zero below enough = grind (arith, nat_tests, walk-last, before-later)
  walk-down first is (suc fuel) (suc i) below enough =
      grind (arith, nat_tests, walk-on, before-later, walk-down first is fuel i (omega (arith, below)) (omega (arith, enough)))

  long-enough : length (passes_through (reversal_parts code)) ≡ 2 * length cs
  long-enough =
      sym (length-map passes (λ (pass : Pass). pass.enters)) ∙ length-heads (reversal_parts code) paired_parts ∙ ap (λ n. 2 * n) turn.size

  walked : (first : ℕ) → IsFirst code.crossings first
      → walk (follows (passes_through (reversal_parts code))) first (length (passes_through (reversal_parts code))) first ≡ names_from first
  walked first is =
      let end = end-within cs directed first is in
      let some = size-positive cs directed first is in
      by (length passes) (size cs first) refl
      (omega (arith, long-enough, end, is.is_arc.positive)) some
    where
      by : (fuel s : ℕ) → size code.crossings first ≡ s → s ≤ fuel → 1 ≤ s
          → walk (follows (passes_through (reversal_parts code))) first fuel first ≡ first ∷ down first (s - 1)
      by zero s is_s enough some = absurd (omega (arith, enough, some))
      by (suc fuel) zero is_s enough some = absurd (omega (arith, some))
      by (suc fuel) (suc zero) is_s enough some = walk-last before first fuel first (omega (arith, before-first first is, is_s))
      by (suc fuel) (suc (suc i)) is_s enough some =
          let e : suc i ≡ suc (suc i) - 1 = omega arith in
          walk-on before first fuel first (first + suc i) (omega (arith, before-first first is, is_s)) (λ same. omega (arith, same))
          ∙ ap (λ ys. first ∷ ys) (walk-down first is fuel i (omega (arith, is_s)) (omega (arith, enough)))
          ∙ ap (λ n. first ∷ down first n) e

  rounds : (first : ℕ) → IsFirst code.crossings first → GoesOver code.crossings first (names_from first)
  rounds first is =
      let s = size cs first in
      let some = size-positive cs directed first is in
      let rest = length-down first (s - 1) in
      record {
        count = omega (arith, rest, some);
        inside = λ x here. elim here [
          | inl same ↦ (omega (arith, same), omega (arith, same, some))
          | inr later ↦ let within = down-in first (s - 1) x later in (omega (arith, within.0), omega (arith, within.1, some))
        ];
        all = λ x from below. elim (cases_eq x first) [
          | inl same ↦ inl same
          | inr other ↦ inr (in-down first (s - 1) x (omega (arith, from, other)) (omega (arith, below)))
        ];
        begins = ap (λ b. cond (not b) (1 + position_or_len (nat_eq first) (down first (s - 1))) 0 + 1) (eq-eqb first first refl);
        pair = λ two. ap (λ n. first ∷ down first (n - 1)) two;
      }

  -- the numbers of the reversal keep components
  abbrev order : List ℕ
  order = order_of (passes_through (reversal_parts code))

  abbrev f : ℕ → ℕ
  f = reversal_number code holds

  f-is : (x : ℕ) → IsArc cs x → f x ≡ number_in order x
  f-is x is = number-is (λ crossing. 2) code holds (reversal_parts code) turn x is

  keeps : KeepsComponents (reversal_number code holds) code.crossings
  keeps = record {
    apart = λ x y x_is y_is same.
        let names = (reversal-rotated code holds).names in
        sym (names.there x x_is.positive (omega (arith, x_is.within))) ∙ ap (reversal_name code holds) same
        ∙ names.there y y_is.positive (omega (arith, y_is.within));
    across = λ x y x_is y_is less.
        let placed = λ (z : ℕ) (z_is : IsArc cs z).
        placed-numbers code directed (reversal_parts code) paired_parts arc-there there-arc names_from walked rounds z z_is in
        let x_first = IsFirstOf-directed cs directed x x_is in
        let first_is : IsFirst cs (component cs x) = record { is_arc = x_first.is_arc; own = x_first.own } in
        let y_place = HasPlace-directed cs directed y y_is in
        let y_first = IsFirstOf-directed cs directed y y_is in
        let behind : component cs x + size cs (component cs x) ≤ component cs y = elim (cases_lt (component cs y) (component cs x + size cs (component cs x))) [
          | inr past ↦ past
          | inl inside ↦
              let together = component-in cs directed (component cs x) (component cs y) first_is (omega (arith, less)) inside in
              absurd (omega (arith, together, y_first.own, less))
        ] in
        omega (arith, f-is x x_is, f-is y y_is, (placed x x_is).below, (placed y y_is).from, behind);
    within = λ x x_is.
        let placed = placed-numbers code directed (reversal_parts code) paired_parts arc-there there-arc names_from walked rounds x x_is in
        let x_first = IsFirstOf-directed cs directed x x_is in
        elim (placed.least) [
          | inl low ↦ inl (omega (arith, f-is (component cs x) x_first.is_arc, f-is x x_is, low))
          | inr labels ↦ inr
              (let first = component cs x in
              let first_is : IsFirst cs first = record { is_arc = x_first.is_arc; own = x_first.own } in
              let end = end-within cs directed first first_is in
              let second_is : IsArc cs (first + 1) = record { positive = omega arith; within = omega (arith, end, labels.two) } in
              let last : before first ≡ first + 1 = omega (arith, before-first first first_is, labels.two) in
              let back : before (first + 1) ≡ first = before-later first 0 first_is (omega (arith, labels.two)) ∙ omega arith in
              record {
                two = labels.two;
                first_over = ap (λ y. is_over (entering_label cs y)) (sym back) ∙ ap is_over (sym (label-before (first + 1) second_is)) ∙ labels.second_over;
                second_over = ap (λ y. is_over (entering_label cs y)) (sym last) ∙ ap is_over (sym (label-before first first_is.is_arc)) ∙ labels.first_over;
              })
        ];
  }

  -- the parts of the second reversal are the code under these numbers
  named : IsNamedBy (reversal_number code holds) code (reversal_parts (reversal_of code))
  named = record {
    size = reversal_size (reversal_of code) ∙ (reversal-rotated code holds).size;
    names = λ place slot below slot_below.
        let e : place + 1 - 1 ≡ place = omega arith in
        let is : IsCrossing cs (place + 1) = record { positive = omega arith; within = omega (arith, below) } in
        let within : place < length (reversal_of code).crossings = omega (arith, below, (reversal-rotated code holds).size) in
        ap (λ (slots : List ℕ). arc_in slots slot) (reversal-listed (reversal_of code) place within)
        ∙ round (slots_in (reversal_of code).crossings place) slot slot_below
        ∙ ap (λ k. arc_in (slice_index_or (reversal_of code).crossings k []) ((slot + 2) % 4)) (sym e)
        ∙ (reversal-rotated code holds).arcs (place + 1) slot is slot_below
        ∙ ap (λ k. reversal_number code holds (arc_in (slice_index_or cs k []) slot)) e;
    signs = λ place below.
        own-sign (reversal_of code) place (omega (arith, below, (reversal-rotated code holds).size))
        ∙ reversal-signs code holds (place + 1) (record { positive = omega arith; within = omega (arith, below) });
  }
    where
      round : (slots : List ℕ) (slot : ℕ) → slot < 4 → arc_in (slots_from 2 slots) slot ≡ arc_in slots ((slot + 2) % 4)
      round slots zero below = refl
      round slots (suc zero) below = refl
      round slots (suc (suc zero)) below = refl
      round slots (suc (suc (suc zero))) below = refl
      round slots (suc (suc (suc (suc slot)))) below = absurd (omega (arith, below))

  pub reversal-twice : AllByRecursion (λ (slots : List ℕ). length slots ≡ 4) code.crossings → reversal_of (reversal_of code) ≡ code
  reversal-twice four =
      let reversal_is = reversal-accepted code holds in
      let made : List (List ℕ) → Code = λ crossings. record { crossings = crossings; loops = code.loops } in
      ap made
      (own-crossings code directed moves (reversal_parts (reversal_of code))
      (paired (λ crossing. 2) (reversal_of code) reversal_is (reversal_parts (reversal_of code)) (IsTurnOf-reversal (reversal_of code) reversal_is))
      (reversal_number code holds) named keeps four)
