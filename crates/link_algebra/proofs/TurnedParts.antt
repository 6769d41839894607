-- Crossings that are those of an accepted code, each turned by some slots: renumbering gives an accepted code with other numbers on the
-- arcs.
--
-- A turn keeps which arcs enter crossings, so that the passes go over the arcs of the code, each once (`arc-head`, `head-arc`). The new
-- number of an arc is its place in the order of the passes, and the way back reads the order at a place; loops keep theirs (`number`,
-- `name`). So what is renumbered is the code, turned and renamed (`IsRotated-turn`), and RotatedCodes says that it is accepted. A sign is
-- read off an over pass that has different ends; they are opposite slots of the code, which hold different arcs (`sign-turn`).
use Rattle.std.proofs.Common.{◌≡◌, ◌≢◌, ℕ, zero, suc, ◌⊎◌, inl, inr, ◌+◌, ◌-◌, ◌*◌, ◌%◌, ◌<◌, ◌≤◌, ◌∙◌, List, length, get_or, refl, sym, ap, subst, arith, cond, IsTrue}
use Rattle.std.specs.Prelude.{nat_le}
use Rattle.std.proofs.lemmas.Bool.{cases_lt}
use Rattle.std.proofs.lemmas.Bool.Decides.{nat_tests}
use Rattle.kh_types.specs.Acceptance.{accepted}
use Rattle.kh_types.specs.Accepted.{IsDirected}
use Rattle.kh_types.specs.Code.{Code, IsArc, IsCrossing, arc_count, arc_in, slots_of}
use Rattle.kh_types.specs.Directions.{HasNoSingleArcs, is_positive}
use Rattle.kh_types.specs.Edges.{arc_at_slot}
use Rattle.kh_types.proofs.EdgeNames.{IsArc-slot}
use Rattle.kh_types.proofs.Heads.{HasNoSingleArcs-accepted}
use Rattle.code_passes.specs.Passes.{Pass}
use Rattle.code_passes.specs.Parts.{ArePaired, Parts, head_count, is_positive_at, parts_of, passes_through, tail_count}
use Rattle.orient_arcs.specs.Renumbered.{number_in, order_of, renumber}
use Rattle.orient_arcs.proofs.AcceptedParts.{over-apart}
use Rattle.orient_arcs.proofs.Bridge.{IsDirected-renumbered, distinct-order, heads-order, length-order, length-renumbered, number-arc, order-heads, sign-kept, slot-renumbered}
use Rattle.orient_arcs.proofs.Members.{IsIn, IsIn-get, get-IsIn, position-get}
use Rattle.orient_arcs.proofs.PairedCodes.{ArePaired-directed, some-head, head-arc as own-arc}
use Rattle.orient_arcs.proofs.PairedPasses.{counted-in, heads_of, in-counted}
use Rattle.link_algebra.proofs.Renamings.{IsRenaming, IsRotated}
use Rattle.link_algebra.proofs.RotatedCodes.{accepted-rotated}

-- the crossings of a code, each turned by some slots; each arc enters one crossing, and leaves one
pub record IsTurnOf (by : ℕ → ℕ) (code : Code) (parts : Parts) : Type 0 where
  pub size : length parts.crossings ≡ length code.crossings
  pub loops : parts.loops ≡ code.loops
  pub few : (crossing : ℕ) → by crossing < 4
  pub arcs : (crossing slot : ℕ) → IsCrossing code.crossings crossing → slot < 4
      → arc_in (slots_of parts.crossings crossing) ((slot + by crossing) % 4) ≡ arc_in (slots_of code.crossings crossing) slot
  pub heads : (name : ℕ) → head_count parts name ≡ head_count (parts_of code) name
  pub tails : (name : ℕ) → tail_count parts name ≡ head_count (parts_of code) name

picked : (m x a b : ℕ) → x ≤ m → cond (nat_le x m) a b ≡ a
picked m x a b within = grind (arith, nat_tests)

passed : (m x a b : ℕ) → m < x → cond (nat_le x m) a b ≡ b
passed m x a b past = grind (arith, nat_tests)

module _ (by : ℕ → ℕ) (code : Code) (holds : IsTrue (accepted code)) (parts : Parts) (turn : IsTurnOf by code parts) where
  abbrev directed : IsDirected code.crossings
  directed = (HasNoSingleArcs-accepted code holds).0

  abbrev moves : HasNoSingleArcs code.crossings
  moves = (HasNoSingleArcs-accepted code holds).1

  abbrev order : List ℕ
  order = order_of (passes_through parts)

  pub paired : ArePaired parts
  paired =
      let own = ArePaired-directed code directed moves in
      record {
        heads = λ name. omega (arith, turn.heads name, own.heads name);
        tails = λ name. turn.tails name ∙ sym (turn.heads name);
      }

  -- the names are the arcs
  pub arc-head : (x : ℕ) → IsArc code.crossings x → IsIn x (heads_of parts paired)
  arc-head x is =
      in-counted (λ (pass : Pass). pass.enters) (passes_through parts) x
      (omega (arith, some-head code directed moves x is, turn.heads x))

  pub head-arc : (x : ℕ) → IsIn x (heads_of parts paired) → IsArc code.crossings x
  head-arc x is =
      own-arc code directed moves x (omega (arith, counted-in (λ (pass : Pass). pass.enters) (passes_through parts) x is, turn.heads x))

  -- the new numbers, and the way back
  pub number : ℕ → ℕ
  number x = cond (nat_le x (arc_count code.crossings)) (number_in (order_of (passes_through parts)) x) x

  pub name : ℕ → ℕ
  name y = cond (nat_le y (arc_count code.crossings)) (get_or (order_of (passes_through parts)) (y - 1) 0) y

  pub number-is : (x : ℕ) → IsArc code.crossings x → number x ≡ number_in order x
  unfolding number
  number-is x is = picked (arc_count code.crossings) x (number_in order x) x is.within

  number-loop : (x : ℕ) → arc_count code.crossings < x → number x ≡ x
  unfolding number
  number-loop x past = passed (arc_count code.crossings) x (number_in order x) x past

  name-is : (y : ℕ) → IsArc code.crossings y → name y ≡ get_or order (y - 1) 0
  unfolding name
  name-is y is = picked (arc_count code.crossings) y (get_or order (y - 1) 0) y is.within

  name-loop : (y : ℕ) → arc_count code.crossings < y → name y ≡ y
  unfolding name
  name-loop y past = passed (arc_count code.crossings) y (get_or order (y - 1) 0) y past

  long : length order ≡ arc_count code.crossings
  long = length-order parts paired ∙ ap (λ n. 2 * n) turn.size

  pub number-within : (x : ℕ) → IsArc code.crossings x → IsArc code.crossings (number_in order x)
  number-within x is =
      subst (λ (n : ℕ). (1 ≤ number_in order x) × (number_in order x ≤ 2 * n) → IsArc code.crossings (number_in order x)) (sym turn.size)
      (λ both. record { positive = both.0; within = omega (arith, both.1, turn.size) })
      ((number-arc parts paired x (arc-head x is)).positive, (number-arc parts paired x (arc-head x is)).within)

  name-there : (x : ℕ) → IsArc code.crossings x → get_or order (number_in order x - 1) 0 ≡ x
  name-there x is =
      let at = get-IsIn x order (heads-order parts paired x (arc-head x is)) in
      let place : number_in order x ≡ at.0 + 1 =
      ap (number_in order) (sym at.2) ∙ ap (λ k. k + 1) (position-get order at.0 (distinct-order parts paired) at.1) in
      let same : number_in order x - 1 ≡ at.0 = omega (arith, place) in
      ap (λ k. get_or order k 0) same ∙ at.2

  name-arc : (y : ℕ) → IsArc code.crossings y → IsArc code.crossings (get_or order (y - 1) 0)
  name-arc y is =
      head-arc (get_or order (y - 1) 0)
      (order-heads parts paired (get_or order (y - 1) 0) (IsIn-get order (y - 1) (omega (arith, long, is.positive, is.within))))

  number-here : (y : ℕ) → IsArc code.crossings y → number_in order (get_or order (y - 1) 0) ≡ y
  number-here y is = grind (arith, nat_tests, position-get, distinct-order, paired, long)

  IsRenaming-number : IsRenaming (arc_count code.crossings + code.loops) number name
  IsRenaming-number = record {
    positive = λ x from within. elim (arc_or_loop x from) [
      | inl is ↦ omega (arith, number-is x is, (number-within x is).positive)
      | inr past ↦ omega (arith, number-loop x past, from)
    ];
    within = λ x from within. elim (arc_or_loop x from) [
      | inl is ↦ omega (arith, number-is x is, (number-within x is).within)
      | inr past ↦ omega (arith, number-loop x past, within)
    ];
    back_positive = λ y from within. elim (arc_or_loop y from) [
      | inl is ↦ omega (arith, name-is y is, (name-arc y is).positive)
      | inr past ↦ omega (arith, name-loop y past, from)
    ];
    back_within = λ y from within. elim (arc_or_loop y from) [
      | inl is ↦ omega (arith, name-is y is, (name-arc y is).within)
      | inr past ↦ omega (arith, name-loop y past, within)
    ];
    there = λ x from within. elim (arc_or_loop x from) [
      | inl is ↦ ap name (number-is x is) ∙ name-is (number_in order x) (number-within x is) ∙ name-there x is
      | inr past ↦ ap name (number-loop x past) ∙ name-loop x past
    ];
    here = λ y from within. elim (arc_or_loop y from) [
      | inl is ↦ ap number (name-is y is) ∙ number-is (get_or order (y - 1) 0) (name-arc y is) ∙ number-here y is
      | inr past ↦ ap number (name-loop y past) ∙ number-loop y past
    ];
  }
    where
      arc_or_loop : (x : ℕ) → 1 ≤ x → IsArc code.crossings x ⊎ (arc_count code.crossings < x)
      arc_or_loop x from = grind (arith, nat_tests, cases_lt)

  pub name-within : (y : ℕ) → IsArc code.crossings y → IsArc code.crossings (name y)
  name-within y is = subst (λ (x : ℕ). IsArc code.crossings x) (sym (name-is y is)) (name-arc y is)

  -- what is renumbered is the code, turned and renamed; so it is accepted
  pub IsRotated-turn : IsRotated by number name code (renumber parts)
  IsRotated-turn = record {
    size = length-renumbered parts paired ∙ turn.size;
    loops = turn.loops;
    names = IsRenaming-number;
    few = turn.few;
    arcs = λ crossing slot is below.
        let here : IsCrossing parts.crossings crossing = record { positive = is.positive; within = omega (arith, is.within, turn.size) } in
        slot-renumbered parts crossing ((slot + by crossing) % 4) here (omega arith)
        ∙ ap (number_in order) (turn.arcs crossing slot is below)
        ∙ sym (number-is (arc_at_slot code crossing slot) (IsArc-slot code crossing slot holds is below));
  }

  pub accepted-turn : IsTrue (accepted (renumber parts))
  accepted-turn =
      accepted-rotated by number name code (renumber parts) holds (IsDirected-renumbered parts paired) IsRotated-turn

  -- each crossing has the sign that the parts give it
  opposite-apart : (crossing slot : ℕ) → IsCrossing code.crossings crossing → slot < 2
      → arc_in (slots_of code.crossings crossing) slot ≢ arc_in (slots_of code.crossings crossing) (slot + 2)
  opposite-apart crossing zero is below same =
      moves (arc_in (slots_of code.crossings crossing) 0) (IsArc-slot code crossing 0 holds is (omega arith))
      (sym (directed.under crossing is) ∙ sym same)
  opposite-apart crossing (suc zero) is below same = over-apart code.crossings directed moves crossing is same
  opposite-apart crossing (suc (suc slot)) is below same = absurd (omega (arith, below))

  pub sign-turn : (crossing : ℕ) → IsCrossing code.crossings crossing
      → is_positive (renumber parts).crossings crossing ≡ is_positive_at parts.positive (crossing - 1)
  sign-turn crossing is =
      let here : IsCrossing parts.crossings crossing = record { positive = is.positive; within = omega (arith, is.within, turn.size) } in
      let slots = slots_of parts.crossings crossing in
      let b = by crossing in
      let few = turn.few crossing in
      sign-kept parts paired crossing here (λ same. elim (way b few) [
        | inl zeroth ↦ opposite-apart crossing zeroth.0 is zeroth.1
            (sym (turn.arcs crossing zeroth.0 is (omega (arith, zeroth.1))) ∙ ap (arc_in slots) zeroth.2 ∙ same
            ∙ sym (ap (arc_in slots) zeroth.3) ∙ turn.arcs crossing (zeroth.0 + 2) is (omega (arith, zeroth.1)))
        | inr third ↦ opposite-apart crossing third.0 is third.1
            (sym (turn.arcs crossing third.0 is (omega (arith, third.1))) ∙ ap (arc_in slots) third.2 ∙ sym same
            ∙ sym (ap (arc_in slots) third.3) ∙ turn.arcs crossing (third.0 + 2) is (omega (arith, third.1)))
      ])
    where
      way : (b : ℕ) → b < 4
          → ((slot : ℕ) × (slot < 2) × ((slot + b) % 4 ≡ 1) × ((slot + 2 + b) % 4 ≡ 3))
          ⊎ ((slot : ℕ) × (slot < 2) × ((slot + b) % 4 ≡ 3) × ((slot + 2 + b) % 4 ≡ 1))
      way zero few = inl (1, omega arith, refl, refl)
      way (suc zero) few = inl (0, omega arith, refl, refl)
      way (suc (suc zero)) few = inr (1, omega arith, refl, refl)
      way (suc (suc (suc zero))) few = inr (0, omega arith, refl, refl)
      way (suc (suc (suc (suc b)))) few = absurd (omega (arith, few))
