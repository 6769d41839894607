-- Where drops are refused, and what they leave. A crossing has a kink, an arc at two slots in a row, exactly where one of its
-- passes leaves on the arc on which the other enters: two slots where arcs enter, or two where they leave, never have one arc,
-- and the rest is by cases on slots and sign. The faults are tested in order, and the first test that fails is the answer. So the
-- drop of a crossing is refused exactly where it has no kink, the drop of two where they meet in no bigon, and otherwise made;
-- where there is no such crossing, the fault names it, of two the first. What is left by a drop that is made is what the rule of
-- drops says, numbered anew.
use Rattle.std.proofs.Common.{◌≡◌, ◌↔◌, ℕ, ◌⊎◌, inl, inr, ◌+◌, ◌*◌, ◌%◌, ◌<◌, ◌∙◌, List, refl, sym, ap, arith, Bool, true, false, not, ◌&&◌, IsTrue, eq-eqb, eqb-true}
use Rattle.std.specs.Prelude.{nat_eq, Option, Some, None, Ok, Err, if◌then◌else◌}
use Rattle.std.specs.List.{list_any, range_with_len}
use Rattle.std.specs.Option.{option_or}
use Rattle.std.proofs.lemmas.Bool.{both_ways, cases_Bool}
use Rattle.std.proofs.lemmas.Bool.Decides.{nat_tests}
use Rattle.kh_types.specs.Acceptance.{accepted}
use Rattle.kh_types.specs.Code.{Code, IsCrossing, arc_in, place_of, slots_of}
use Rattle.kh_types.specs.Darts.{partner_at, IsDart}
use Rattle.kh_types.specs.Directions.{is_head, is_positive}
use Rattle.kh_types.specs.declared.dart.Dart.{Dart}
use Rattle.kh_types.proofs.AcceptedLemmas.{HasArcsTwice-accepted}
use Rattle.kh_types.proofs.Heads.{HasEnds-accepted}
use Rattle.kh_types.proofs.RangeCounts.{list_any-at}
use Rattle.code_passes.specs.Parts.{Parts}
use Rattle.gluing_laws.specs.Arcs.{enters}
use Rattle.kink_and_finger_laws.specs.Dropping.{HasBigonAt}
use Rattle.kink_and_finger_laws.specs.DropRule.{IsLeft}
use Rattle.kink_and_finger_laws.specs.Drops.{after, is_bigon, is_bigon_at, is_kink, is_kink_at, is_of_two, without_finger, without_kink}
use Rattle.kink_and_finger_laws.proofs.DropRules.{IsLeft-dropped}
use Rattle.kink_and_finger_laws.proofs.Sound.{HasBigonAt-found, HasKinkAt-found}
use Rattle.orient_arcs.specs.Renumbered.{renumber}
use Rattle.diagram_moves.specs.DropPasses.{HasKink}
use Rattle.diagram_moves.specs.MoveFaults.{finger_drop_fault, kink_drop_fault, no_bigon, no_crossing, no_kink, refused_where}
use Rattle.diagram_moves.specs.Moved.{answered, moved}
use Rattle.diagram_moves.specs.declared.change.Move.TheVariants.{FingerDrop, KinkDrop}
use Rattle.diagram_moves.specs.declared.fault.MoveFault.{MoveFault}
use Rattle.diagram_moves.specs.declared.fault.MoveFault.TheVariants.{NoBigon, NoCrossing, NoKink}

-- answers

result : (fault : Option MoveFault) (code new : Code) → answered fault code ≡ Ok new → new ≡ code
result fault code new is = grind (arith, nat_tests)

-- a crossing that there is
no_crossing-none : (code : Code) (c : ℕ) → IsCrossing code.crossings c → no_crossing code c ≡ None
no_crossing-none code c is = grind (arith, nat_tests)

-- and one that there is not
no_crossing-some : (code : Code) (c : ℕ) → ¬ IsCrossing code.crossings c → no_crossing code c ≡ Some (NoCrossing c)
no_crossing-some code c none = grind (arith, nat_tests)

-- the two arcs at slots where arcs enter, or at slots where they leave, differ
ends-apart : (code : Code) (c s t : ℕ) → IsTrue (accepted code) → IsCrossing code.crossings c → s < 4 → t < 4
    → arc_in (slots_of code.crossings c) s ≡ arc_in (slots_of code.crossings c) t
    → enters (is_positive code.crossings c) s ≡ enters (is_positive code.crossings c) t → s ≡ t
ends-apart code c s t holds is s_below t_below same alike =
    let twice = HasArcsTwice-accepted code holds in
    let here : Dart = record { crossing = c; slot = s } in
    let there : Dart = record { crossing = c; slot = t } in
    let within : IsDart code.crossings here = record { crossing = is; slot = s_below } in
    let ends = HasEnds-accepted code holds (arc_in (slots_of code.crossings c) s) (twice.slots here within) in
    elim (cases_Bool (enters (is_positive code.crossings c) s)) [
      | inl head ↦
          ap (λ (dart : Dart). dart.slot)
          (ends.one_head here (record { within = within; on_arc = refl }) head
          ∙ sym (ends.one_head there (record { within = record { crossing = is; slot = t_below }; on_arc = sym same }) (sym alike ∙ head)))
      | inr tail ↦
          ap (λ (dart : Dart). dart.slot)
          (ends.one_tail here (record { within = within; on_arc = refl }) (both_ways (is_head code.crossings here) tail)
          ∙ sym
          (ends.one_tail there (record { within = record { crossing = is; slot = t_below }; on_arc = sym same })
          (both_ways (is_head code.crossings there) (sym alike ∙ tail))))
    ]

-- a kink is one by passes
kink-passes : (slots : List ℕ) (b : Bool)
    → ((s t : ℕ) → s < 4 → t < 4 → arc_in slots s ≡ arc_in slots t → enters b s ≡ enters b t → s ≡ t)
    → (p : ℕ) → p < 4 → arc_in slots p ≡ arc_in slots (after p)
    → (arc_in slots 2 ≡ arc_in slots (if b then 3 else 1)) ⊎ (arc_in slots (if b then 1 else 3) ≡ arc_in slots 0)
kink-passes slots b apart p below same = grind (arith, nat_tests, apart p (after p) below (omega arith) same)

pub is_kink-at : (slots : List ℕ) (p : ℕ) → p < 4 → arc_in slots p ≡ arc_in slots (after p) → is_kink slots ≡ true
is_kink-at slots p below same = list_any-at (is_kink_at slots) 0 4 p (omega arith) (omega (arith, below)) (eq-eqb (arc_in slots p) (arc_in slots (after p)) same)

passes-kink : (slots : List ℕ) (b : Bool)
    → (arc_in slots 2 ≡ arc_in slots (if b then 3 else 1)) ⊎ (arc_in slots (if b then 1 else 3) ≡ arc_in slots 0) → is_kink slots ≡ true
passes-kink slots b has2 = grind (arith, nat_tests)

pub kink-made : (code : Code) (crossing : ℕ) → IsTrue (accepted code) → IsCrossing code.crossings crossing
    → (is_kink (slots_of code.crossings crossing) ≡ true) ↔ HasKink code.crossings crossing
kink-made code crossing holds is = (
  (λ kink.
      let found = HasKinkAt-found code.crossings (place_of crossing) (omega (arith, is.positive, is.within)) kink in
      kink-passes (slots_of code.crossings crossing) (is_positive code.crossings crossing)
      (λ s t s_below t_below same alike. ends-apart code crossing s t holds is s_below t_below same alike) found.0 found.1.slot found.1.same),
  passes-kink (slots_of code.crossings crossing) (is_positive code.crossings crossing),
)

-- a test that fails is a refusal, and where none fails there is none
refused-by : (b : Bool) (fault : MoveFault) (code : Code) → (answered (refused_where (not b) fault) code ≡ Err fault) ↔ (b ≡ false)
refused-by b fault code = grind (arith, nat_tests)

pub no_kink-refused : (code : Code) (crossing : ℕ) → IsTrue (accepted code) → IsCrossing code.crossings crossing
    → (moved code (KinkDrop crossing) ≡ Err (NoKink crossing)) ↔ ¬ HasKink code.crossings crossing
unfolding moved
no_kink-refused code crossing holds is =
    let result = renumber (without_kink code (place_of crossing)) in
    let kinks = kink-made code crossing holds is in
    let by = refused-by (is_kink (slots_of code.crossings crossing)) (NoKink crossing) (renumber (without_kink code (place_of crossing))) in
    let first : answered (kink_drop_fault code crossing) (renumber (without_kink code (place_of crossing)))
    ≡ answered (no_kink code crossing) (renumber (without_kink code (place_of crossing))) =
    ap (λ o. answered (option_or o (no_kink code crossing)) (renumber (without_kink code (place_of crossing)))) (no_crossing-none code crossing is) in (
      (λ refused has. both_ways (is_kink (slots_of code.crossings crossing)) (by.0 (sym first ∙ refused)) (kinks.1 has)),
      (λ none. elim (cases_Bool (is_kink (slots_of code.crossings crossing))) [
        | inl kink ↦ absurd (none (kinks.0 kink))
        | inr none_is ↦ first ∙ by.1 none_is
      ]),
    )

-- bigons

pub is_bigon-has : (crossings : List (List ℕ)) (c d p q : ℕ) → HasBigonAt crossings c d p q → is_bigon crossings c d ≡ true
is_bigon-has crossings c d p q bigon =
    let p_next : (p % 4 + 1) % 4 ≡ (p + 1) % 4 = omega arith in
    let q_next : (q % 4 + 1) % 4 ≡ (q + 1) % 4 = omega arith in
    let odd : (p % 4 + q % 4) % 2 ≡ 1 = omega (arith, bigon.odd) in
    let first : partner_at crossings (4 * c + p % 4) ≡ 4 * d + after (q % 4) = bigon.first_side ∙ ap (λ r. 4 * d + r) (sym q_next) in
    let second : partner_at crossings (4 * d + q % 4) ≡ 4 * c + after (p % 4) = bigon.second_side ∙ ap (λ r. 4 * c + r) (sym p_next) in
    let here : is_bigon_at crossings c d (p % 4) (q % 4) ≡ true =
    three (eq-eqb (partner_at crossings (4 * c + p % 4)) (4 * d + after (q % 4)) first)
    (eq-eqb (partner_at crossings (4 * d + q % 4)) (4 * c + after (p % 4)) second) (eq-eqb ((p % 4 + q % 4) % 2) 1 odd) in
    let row = list_any-at (is_bigon_at crossings c d (p % 4)) 0 4 (q % 4) (omega arith) (omega arith) here in
    let all = list_any-at (λ p. list_any (is_bigon_at crossings c d p) (range_with_len 0 4)) 0 4 (p % 4) (omega arith) (omega arith) row in
    two (differ (nat_eq c d) (λ same. bigon.apart (eqb-true c d same))) all
  where
    three : {x y z : Bool} → x ≡ true → y ≡ true → z ≡ true → (x && (y && z)) ≡ true
    three first_is second_is third_is = cc

    two : {x y : Bool} → x ≡ true → y ≡ true → (x && y) ≡ true
    two first_is second_is = cc

    differ : (b : Bool) → ¬ (b ≡ true) → not b ≡ true
    differ b apart = grind (arith, nat_tests)

pub no_bigon-refused : (code : Code) (first second : ℕ) → IsCrossing code.crossings first → IsCrossing code.crossings second
    → (moved code (FingerDrop first second) ≡ Err (NoBigon first second))
    ↔ ((p q : ℕ) → ¬ HasBigonAt code.crossings (place_of first) (place_of second) p q)
unfolding moved
no_bigon-refused code first second is other_is =
    let by = refused-by (is_bigon code.crossings (place_of first) (place_of second)) (NoBigon first second)
    (renumber (without_finger code (place_of first) (place_of second))) in
    let same : answered (finger_drop_fault code first second) (renumber (without_finger code (place_of first) (place_of second)))
    ≡ answered (no_bigon code first second) (renumber (without_finger code (place_of first) (place_of second))) =
    ap (λ o. answered (option_or o (option_or (no_crossing code second) (no_bigon code first second)))
    (renumber (without_finger code (place_of first) (place_of second)))) (no_crossing-none code first is)
    ∙ ap (λ o. answered (option_or o (no_bigon code first second)) (renumber (without_finger code (place_of first) (place_of second))))
    (no_crossing-none code second other_is) in (
      (λ refused p q has.
          both_ways (is_bigon code.crossings (place_of first) (place_of second)) (by.0 (sym same ∙ refused))
          (is_bigon-has code.crossings (place_of first) (place_of second) p q has)),
      (λ none. elim (cases_Bool (is_bigon code.crossings (place_of first) (place_of second))) [
        | inl bigon ↦
            let found = HasBigonAt-found code.crossings (place_of first) (place_of second) (omega (arith, is.positive, is.within))
            (omega (arith, other_is.positive, other_is.within)) bigon in
            absurd (none found.0 found.1 found.2)
        | inr none_is ↦ same ∙ by.1 none_is
      ]),
    )

-- drops that are made

pub kink-dropped : (code : Code) (crossing : ℕ) → IsTrue (accepted code) → IsCrossing code.crossings crossing
    → HasKink code.crossings crossing → (new : Code) × (moved code (KinkDrop crossing) ≡ Ok new)
unfolding moved
kink-dropped code crossing holds is has = (
  renumber (without_kink code (place_of crossing)),
  ap (λ o. answered (option_or o (no_kink code crossing)) (renumber (without_kink code (place_of crossing)))) (no_crossing-none code crossing is)
      ∙ ap (λ b. answered (refused_where (not b) (NoKink crossing)) (renumber (without_kink code (place_of crossing))))
      ((kink-made code crossing holds is).1 has),
)

pub bigon-dropped : (code : Code) (first second p q : ℕ) → IsCrossing code.crossings first → IsCrossing code.crossings second
    → HasBigonAt code.crossings (place_of first) (place_of second) p q → (new : Code) × (moved code (FingerDrop first second) ≡ Ok new)
unfolding moved
bigon-dropped code first second p q is other_is has = (
  renumber (without_finger code (place_of first) (place_of second)),
  ap (λ o. answered (option_or o (option_or (no_crossing code second) (no_bigon code first second)))
      (renumber (without_finger code (place_of first) (place_of second)))) (no_crossing-none code first is)
      ∙ ap (λ o. answered (option_or o (no_bigon code first second)) (renumber (without_finger code (place_of first) (place_of second))))
      (no_crossing-none code second other_is)
      ∙ ap (λ b. answered (refused_where (not b) (NoBigon first second)) (renumber (without_finger code (place_of first) (place_of second))))
      (is_bigon-has code.crossings (place_of first) (place_of second) p q has),
)

-- crossings that there are not

pub no_crossing-refused : (code : Code) (crossing : ℕ)
    → (moved code (KinkDrop crossing) ≡ Err (NoCrossing crossing)) ↔ ¬ IsCrossing code.crossings crossing
unfolding moved
no_crossing-refused code crossing = (
  (λ refused is. other (is_kink (slots_of code.crossings crossing)) crossing (renumber (without_kink code (place_of crossing)))
      (sym (ap (λ o. answered (option_or o (no_kink code crossing)) (renumber (without_kink code (place_of crossing)))) (no_crossing-none code crossing is)) ∙ refused)),
  (λ none. ap (λ o. answered (option_or o (no_kink code crossing)) (renumber (without_kink code (place_of crossing)))) (no_crossing-some code crossing none)),
)
  where
    other : (b : Bool) (c : ℕ) (code : Code) → ¬ (answered (refused_where (not b) (NoKink c)) code ≡ Err (NoCrossing c))
    other b c code same = grind (arith, nat_tests)

pub first-refused : (code : Code) (first second : ℕ) → ¬ IsCrossing code.crossings first
    → moved code (FingerDrop first second) ≡ Err (NoCrossing first)
unfolding moved
first-refused code first second none =
    ap (λ o. answered (option_or o (option_or (no_crossing code second) (no_bigon code first second)))
    (renumber (without_finger code (place_of first) (place_of second)))) (no_crossing-some code first none)

pub second-refused : (code : Code) (first second : ℕ) → IsCrossing code.crossings first → ¬ IsCrossing code.crossings second
    → moved code (FingerDrop first second) ≡ Err (NoCrossing second)
unfolding moved
second-refused code first second is none =
    ap (λ o. answered (option_or o (option_or (no_crossing code second) (no_bigon code first second)))
    (renumber (without_finger code (place_of first) (place_of second)))) (no_crossing-none code first is)
    ∙ ap (λ o. answered (option_or o (no_bigon code first second)) (renumber (without_finger code (place_of first) (place_of second))))
    (no_crossing-some code second none)

-- what is left

pub kink-left : (code new : Code) (crossing : ℕ) → IsTrue (accepted code) → moved code (KinkDrop crossing) ≡ Ok new
    → (parts : Parts) × IsLeft code (nat_eq (place_of crossing)) parts × (new ≡ renumber parts)
unfolding moved
kink-left code new crossing holds is = (
  without_kink code (place_of crossing),
  IsLeft-dropped code (nat_eq (place_of crossing)) (HasArcsTwice-accepted code holds),
  result (kink_drop_fault code crossing) (renumber (without_kink code (place_of crossing))) new is,
)

pub finger-left : (code new : Code) (first second : ℕ) → IsTrue (accepted code) → moved code (FingerDrop first second) ≡ Ok new
    → (parts : Parts) × IsLeft code (is_of_two (place_of first) (place_of second)) parts × (new ≡ renumber parts)
unfolding moved
finger-left code new first second holds is = (
  without_finger code (place_of first) (place_of second),
  IsLeft-dropped code (is_of_two (place_of first) (place_of second)) (HasArcsTwice-accepted code holds),
  result (finger_drop_fault code first second) (renumber (without_finger code (place_of first) (place_of second))) new is,
)
