-- The arcs of a directed code without single arcs are paired by its own directions: of all passes one enters on each arc and one
-- leaves on it, and no other name is the end of a pass. Each slot of a crossing is one end of one pass, so the passes that enter
-- on an arc and those that leave on it are together as many as its slots, which are two. The names at the ends of passes are
-- arcs. An arc has one dart where it enters a crossing and one where it leaves one, and each is the end of a pass; so at least
-- one pass enters and at least one leaves, and as there are two in all there is one of each.
use Rattle.std.proofs.lemmas.Bool.Decides.{nat_tests}
use Rattle.std.proofs.Common.{◌≡◌, ℕ, zero, suc, ◌⊎◌, inl, inr, ◌+◌, ◌-◌, ◌<◌, ◌≤◌, ◌∙◌, List, length, map, refl, sym, ap, subst, arith, Bool, true, false, cond, ◌||◌}
use Rattle.std.specs.Prelude.{nat_eq, if◌then◌else◌, IsTrue}
use Rattle.std.specs.List.{count_by, sum_by, flat_map, range_with_len, AllByRecursion}
use Rattle.std.proofs.lemmas.List.Sums.{sum_by-append, sum_by-cons}
use Rattle.std.proofs.lemmas.List.FromFn.{get_or-map-range_with_len}
use Rattle.kh_types.specs.Code.{Code, arc_in, slots_of, IsArc, IsCrossing}
use Rattle.kh_types.specs.Darts.{times, IsDart, arc_of}
use Rattle.kh_types.specs.Directions.{is_positive, head_of, tail_of, HasNoSingleArcs}
use Rattle.kh_types.specs.Accepted.{IsDirected}
use Rattle.kh_types.proofs.Heads.{HasEnds-directed}
use Rattle.kh_types.proofs.Lists.{AllByRecursion-weaker}
use Rattle.kh_types.specs.declared.dart.Dart.{Dart}
use Rattle.code_passes.specs.Passes.{Pass}
use Rattle.code_passes.proofs.DartCounts.{times_in, times-crossings}
use Rattle.code_passes.specs.Parts.{Parts, ArePaired, parts_of, passes_through, passes_at, slots_in, is_positive_at, head_count, tail_count}
use Rattle.orient_arcs.proofs.PairedPasses.{All-flat_map_range, flat_map_range-All, counted-in, in-counted, all-in, found-holds}
use Rattle.orient_arcs.proofs.Members.{IsIn}

-- each slot is one end of one pass
one-place : (parts : Parts) (x place : ℕ)
    → count_by (λ (pass : Pass). nat_eq pass.enters x) (passes_at parts place)
    + count_by (λ (pass : Pass). nat_eq pass.leaves x) (passes_at parts place)
    ≡ times_in (slots_in parts.crossings place) x
one-place parts x place = grind (arith, nat_tests)

all-places : (parts : Parts) (x a n : ℕ)
    → count_by (λ (pass : Pass). nat_eq pass.enters x) (flat_map (passes_at parts) (range_with_len a n))
    + count_by (λ (pass : Pass). nat_eq pass.leaves x) (flat_map (passes_at parts) (range_with_len a n))
    ≡ sum_by (λ place. times_in (slots_in parts.crossings place) x) (range_with_len a n)
all-places parts x a zero = refl
all-places parts x a (suc n) =
    let rest = flat_map (passes_at parts) (range_with_len (a + 1) n) in
    omega (
      arith,
      one-place parts x a,
      all-places parts x (a + 1) n,
      sum_by-append (λ (pass : Pass). cond (nat_eq pass.enters x) 1 0) (passes_at parts a) rest,
      sum_by-append (λ (pass : Pass). cond (nat_eq pass.leaves x) 1 0) (passes_at parts a) rest,
      sum_by-cons (λ place. times_in (slots_in parts.crossings place) x) a (range_with_len (a + 1) n),
    )

which-head : (slot : ℕ) (b : Bool) → IsTrue (nat_eq slot 0 || nat_eq slot (if b then 3 else 1))
    → (slot ≡ 0) ⊎ (slot ≡ (if b then 3 else 1))
which-head slot b head = grind (arith, nat_tests)

which-tail : (slot : ℕ) (b : Bool) → slot < 4 → (IsTrue (nat_eq slot 0 || nat_eq slot (if b then 3 else 1)) → ⊥)
    → (slot ≡ 2) ⊎ (slot ≡ (if b then 1 else 3))
which-tail slot b below head = grind (arith, nat_tests)

module _ (code : Code) (directed : IsDirected code.crossings) (moves : HasNoSingleArcs code.crossings) where
  abbrev parts : Parts
  parts = parts_of code

  abbrev crossings : List (List ℕ)
  crossings = code.crossings

  both : (x : ℕ) → head_count parts x + tail_count parts x ≡ times crossings x
  both x = all-places parts x 0 (length crossings) ∙ sym (times-crossings crossings x)

  pub positive-is : (place : ℕ) → place < length crossings → is_positive_at parts.positive place ≡ is_positive crossings (place + 1)
  positive-is place below =
      get_or-map-range_with_len (is_positive crossings) 1 (length crossings) place (place + 1) false below (omega arith)

  is-arc : (crossing slot : ℕ) → IsCrossing crossings crossing → slot < 4 → IsArc crossings (arc_in (slots_of crossings crossing) slot)
  is-arc crossing slot is below = directed.slots (record { crossing = crossing; slot = slot }) (record { crossing = is; slot = below })

  slot-arc : (place slot : ℕ) → place < length crossings → slot < 4 → IsArc crossings (arc_in (slots_in crossings place) slot)
  slot-arc place slot below slot_below =
      let e : place + 1 - 1 ≡ place = omega arith in
      subst (λ (k : ℕ). IsArc crossings (arc_in (slots_in crossings k) slot)) e
      (is-arc (place + 1) slot (record { positive = omega arith; within = omega (arith, below) }) slot_below)

  pub ends-arcs : AllByRecursion (λ (pass : Pass). IsArc crossings pass.enters × IsArc crossings pass.leaves) (passes_through parts)
  ends-arcs =
      All-flat_map_range (λ (pass : Pass). IsArc crossings pass.enters × IsArc crossings pass.leaves) (passes_at parts) 0 (length crossings)
      (λ place from below.
      let within : place < length crossings = omega (arith, below) in (
        (slot-arc place 0 within (omega arith), slot-arc place 2 within (omega arith)),
        (
          by (is_positive_at parts.positive place) (slots_in crossings place) (slot-arc place 1 within (omega arith))
              (slot-arc place 3 within (omega arith)),
          tt,
        ),
      ))
    where
      by : (b : Bool) (slots : List ℕ) → IsArc code.crossings (arc_in slots 1) → IsArc code.crossings (arc_in slots 3)
          → IsArc code.crossings (arc_in slots (if b then 3 else 1)) × IsArc code.crossings (arc_in slots (if b then 1 else 3))
      by true slots first third = (third, first)
      by false slots first third = (first, third)

  -- the name of an end is an arc
  pub arc-of : (f : Pass → ℕ) (x : ℕ) → AllByRecursion (λ (pass : Pass). IsArc crossings (f pass)) (passes_through parts)
      → 1 ≤ count_by (λ (pass : Pass). nat_eq (f pass) x) (passes_through parts) → IsArc crossings x
  arc-of f x all some =
      let holds = found-holds f (λ (pass : Pass). IsArc crossings (f pass)) (passes_through parts) x all (in-counted f (passes_through parts) x some) in
      subst (λ (y : ℕ). IsArc crossings y) holds.1 holds.0

  pub head-arc : (x : ℕ) → 1 ≤ head_count parts x → IsArc crossings x
  head-arc x =
      arc-of (λ (pass : Pass). pass.enters) x
      (AllByRecursion-weaker (λ (pass : Pass). IsArc crossings pass.enters × IsArc crossings pass.leaves)
      (λ (pass : Pass). IsArc crossings pass.enters) (passes_through parts) (λ pass ends. ends.0) ends-arcs)

  tail-arc : (x : ℕ) → 1 ≤ tail_count parts x → IsArc crossings x
  tail-arc x =
      arc-of (λ (pass : Pass). pass.leaves) x
      (AllByRecursion-weaker (λ (pass : Pass). IsArc crossings pass.enters × IsArc crossings pass.leaves)
      (λ (pass : Pass). IsArc crossings pass.leaves) (passes_through parts) (λ pass ends. ends.1) ends-arcs)

  -- the arc of a dart at one end of a pass is among the ends of passes
  abbrev names : (Pass → ℕ) → List ℕ
  names f = map f (passes_through parts)

  pass-counted : (f : Pass → ℕ) (place : ℕ) → place < length crossings
      → AllByRecursion (λ (pass : Pass). IsIn (f pass) (names f)) (passes_at parts place)
  pass-counted f place below =
      flat_map_range-All (λ (pass : Pass). IsIn (f pass) (names f)) (passes_at parts) 0 (length crossings)
      (all-in f (passes_through parts)) place (omega arith) (omega (arith, below))

  some-end : (f : Pass → ℕ) (under : ℕ) (over : Bool → ℕ)
      → ((place : ℕ) → place < length crossings → IsIn (arc_in (slots_in crossings place) under) (names f)
      × IsIn (arc_in (slots_in crossings place) (over (is_positive_at parts.positive place))) (names f))
      → (x : ℕ) (dart : Dart) → IsDart crossings dart → arc_of crossings dart ≡ x
      → (dart.slot ≡ under) ⊎ (dart.slot ≡ over (is_positive crossings dart.crossing))
      → 1 ≤ count_by (λ (pass : Pass). nat_eq (f pass) x) (passes_through parts)
  some-end f under over ends x dart within on_arc end =
      let place = dart.crossing - 1 in
      let below : place < length crossings = omega (arith, within.crossing.positive, within.crossing.within) in
      let e : place + 1 ≡ dart.crossing = omega (arith, within.crossing.positive) in
      let here = ends place below in
      let same = positive-is place below ∙ ap (is_positive crossings) e in
      counted-in f (passes_through parts) x
      (elim end [
        | inl is_under ↦
            subst (λ (y : ℕ). IsIn y (names f)) (ap (arc_in (slots_in crossings place)) (sym is_under) ∙ on_arc) here.0
        | inr is_over ↦
            subst (λ (y : ℕ). IsIn y (names f))
            (ap (λ b. arc_in (slots_in crossings place) (over b)) same ∙ ap (arc_in (slots_in crossings place)) (sym is_over) ∙ on_arc) here.1
      ])

  -- so an arc has a pass that enters on it, and one that leaves on it
  pub some-head : (x : ℕ) → IsArc crossings x → 1 ≤ head_count parts x
  some-head x is =
      let ends = HasEnds-directed crossings directed moves x is in
      some-end (λ (pass : Pass). pass.enters) 0 (λ b. if b then 3 else 1)
      (λ place below. let in_all = pass-counted (λ (pass : Pass). pass.enters) place below in (in_all.0, in_all.1.0)) x (head_of crossings x)
      ends.head.within ends.head.on_arc (which-head (head_of crossings x).slot (is_positive crossings (head_of crossings x).crossing) ends.enters)

  some-tail : (x : ℕ) → IsArc crossings x → 1 ≤ tail_count parts x
  some-tail x is =
      let ends = HasEnds-directed crossings directed moves x is in
      some-end (λ (pass : Pass). pass.leaves) 2 (λ b. if b then 1 else 3)
      (λ place below. let in_all = pass-counted (λ (pass : Pass). pass.leaves) place below in (in_all.0, in_all.1.0)) x (tail_of crossings x)
      ends.tail.within ends.tail.on_arc
      (which-tail (tail_of crossings x).slot (is_positive crossings (tail_of crossings x).crossing) ends.tail.within.slot ends.leaves)

  pub ArePaired-directed : ArePaired parts
  ArePaired-directed =
      let one : (x : ℕ) → IsArc crossings x
      → (1 ≤ head_count parts x) × (1 ≤ tail_count parts x) × (head_count parts x + tail_count parts x ≡ 2) =
      λ x is. (some-head x is, some-tail x is, both x ∙ directed.twice x is) in
      record {
        heads = λ x. elim (some_or_none (head_count parts x)) [
          | inl some ↦ let is = one x (head-arc x some) in omega (arith, is.0, is.1, is.2)
          | inr none ↦ omega (arith, none)
        ];
        tails = λ x. elim (some_or_none (head_count parts x)) [
          | inl some ↦ let is = one x (head-arc x some) in omega (arith, is.0, is.1, is.2)
          | inr none ↦ elim (some_or_none (tail_count parts x)) [
            | inl some ↦ let is = one x (tail-arc x some) in omega (arith, is.0, is.1, is.2)
            | inr no_tail ↦ no_tail ∙ sym none
          ]
        ];
      }
    where
      some_or_none : (n : ℕ) → (1 ≤ n) ⊎ (n ≡ 0)
      some_or_none n = grind arith
