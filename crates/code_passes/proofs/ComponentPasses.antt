-- The passes of components: each component has the numbers from its first arc on as its arcs, and each of them is entered once and
-- left once.
--
-- All facts go by recursion over the components: the passes of the first have the arcs from a first one on, those of the others the arcs
-- behind. So a function of arcs is defined by the same recursion (the first arc of its component, the arc that follows, the label entered),
-- and each pass of the whole list is shown to agree with it, first in one component then behind it.
use Rattle.std.proofs.Common.{◌≡◌, ◌≢◌, ℕ, zero, suc, inl, inr, ◌⊎◌, ◌+◌, ◌-◌, ◌<◌, ◌≤◌, ◌∙◌, List, [], ◌∷◌, length, map, refl, sym, ap, arith, Bool, ℤ, pos, min}
use Rattle.std.specs.Prelude.{nat_eq, nat_lt, if◌then◌else◌}
use Rattle.std.specs.List.{sum_by, range_with_len, AllByRecursion}
use Rattle.std.proofs.lemmas.Bool.{cases_eq, cases_lt}
use Rattle.std.proofs.lemmas.Bool.Decides.{nat_tests}
use Rattle.std.proofs.lemmas.List.{length-append}
use Rattle.std.proofs.lemmas.List.Elements.{All-from_recursion, All-get_or}
use Rattle.kh_types.proofs.Lists.{AllByRecursion-append, AllByRecursion-first, AllByRecursion-second, AllByRecursion-weaker}
use Rattle.code_passes.specs.Labels.{listed_number}
use Rattle.code_passes.specs.Passes.{Pass, turned_labels, pass_at, passes_from, all_passes, all_labels}

-- a turned component has the same labels

pub length-turned_labels : (labels : List ℤ) → length (turned_labels labels) ≡ length labels
length-turned_labels labels = grind (arith, nat_tests)

pub sum_by-turned_labels : (f : ℤ → ℕ) (labels : List ℤ) → sum_by f (turned_labels labels) ≡ sum_by f labels
sum_by-turned_labels f labels = grind (arith, nat_tests)

pub All-turned_labels : (P : ℤ → Type 0) (labels : List ℤ) → AllByRecursion P labels → AllByRecursion P (turned_labels labels)
All-turned_labels P labels all = grind (arith, nat_tests)

-- the first arc of the component of an arc, where the components have the arcs from a first one on; 0 behind the last of them
abbrev pub start_from : ℕ → List (List ℤ) → ℕ → ℕ
start_from first [] arc = 0
start_from first (labels ∷ more) arc =
    if nat_lt arc (first + length labels) then min first arc else start_from (first + length labels) more arc

-- the label of the pass that enters on an arc
abbrev pub label_from : ℕ → List (List ℤ) → ℕ → ℤ
label_from first [] arc = pos 0
label_from first (labels ∷ more) arc =
    if nat_lt arc (first + length labels) then listed_number (turned_labels labels) (arc - first) else label_from (first + length labels) more arc

pub then_if : {X : Type 0} (arc end : ℕ) (x y : X) → arc < end → (if nat_lt arc end then x else y) ≡ x
then_if arc end x y below = grind (arith, nat_tests)

pub else_if : {X : Type 0} (arc end : ℕ) (x y : X) → end ≤ arc → (if nat_lt arc end then x else y) ≡ y
else_if arc end x y past = grind (arith, nat_tests)

-- the arc that follows an arc of a component with a first arc: the arc plus 1, if that one is in the same component, else the first
abbrev pub after_arc : ℕ → ℕ → ℕ → ℕ
after_arc arc start start_of_next = if nat_eq start_of_next start then arc + 1 else start

-- what is known of a pass of components that have the arcs from a first one on
pub record IsPassOf (first : ℕ) (groups : List (List ℤ)) (pass : Pass) : Type 0 where
  pub from : first ≤ pass.enters
  pub below : pass.enters < first + length (all_labels groups)
  pub leaves_from : first ≤ pass.leaves
  pub leaves_below : pass.leaves < first + length (all_labels groups)
  pub label : pass.label ≡ label_from first groups pass.enters
  pub start : start_from first groups pass.leaves ≡ start_from first groups pass.enters
  pub next : pass.leaves
      ≡ after_arc pass.enters (start_from first groups pass.enters) (start_from first groups (pass.enters + 1))

pub length-labels_more : (labels : List ℤ) (more : List (List ℤ))
    → length (all_labels (labels ∷ more)) ≡ length labels + length (all_labels more)
length-labels_more labels more = length-append labels (all_labels more)

-- the first arcs of the components, by the arcs

pub start-here : (first : ℕ) (labels : List ℤ) (more : List (List ℤ)) (arc : ℕ) → first ≤ arc → arc < first + length labels
    → start_from first (labels ∷ more) arc ≡ first
start-here first labels more arc from below = grind (arith, nat_tests)

pub start-later : (first : ℕ) (labels : List ℤ) (more : List (List ℤ)) (arc : ℕ) → first + length labels ≤ arc
    → start_from first (labels ∷ more) arc ≡ start_from (first + length labels) more arc
start-later first labels more arc past = grind (arith, nat_tests)

-- the first arc of a component is at most each of its arcs
pub start-le : (first : ℕ) (groups : List (List ℤ)) (arc : ℕ) → start_from first groups arc ≤ arc
start-le first [] arc = omega arith
start-le first (labels ∷ more) arc = either (nat_lt arc (first + length labels)) (start-le (first + length labels) more arc)
  where
    either : (b : Bool) → start_from (first + length labels) more arc ≤ arc
        → (if b then min first arc else start_from (first + length labels) more arc) ≤ arc
    either b le = grind (arith, nat_tests)

-- it is not before the first arc of all, where it is an arc
pub start-from_first : (first : ℕ) (groups : List (List ℤ)) (arc : ℕ) → first ≤ arc
    → (start_from first groups arc ≡ 0) ⊎ (first ≤ start_from first groups arc)
start-from_first first [] arc from = inl refl
start-from_first first (labels ∷ more) arc from = elim (cases_lt arc (first + length labels)) [
  | inl below ↦ inr (omega (arith, start-here first labels more arc from below))
  | inr past ↦
      let is = start-later first labels more arc past in
      elim (start-from_first (first + length labels) more arc past) [
        | inl none ↦ inl (is ∙ none)
        | inr later ↦ inr (omega (arith, is, later))
      ]
]

-- what is known of the first arc of the component of an arc
pub record IsStart (first : ℕ) (groups : List (List ℤ)) (arc : ℕ) : Type 0 where
  pub from : first ≤ start_from first groups arc
  pub own : start_from first groups (start_from first groups arc) ≡ start_from first groups arc
  pub before : (earlier : ℕ) → start_from first groups arc ≤ earlier → earlier ≤ arc
      → start_from first groups earlier ≡ start_from first groups arc

pub IsStart-arc : (first : ℕ) (groups : List (List ℤ)) (arc : ℕ) → first ≤ arc → arc < first + length (all_labels groups)
    → IsStart first groups arc
IsStart-arc first [] arc from below = absurd (omega (arith, from, below))
IsStart-arc first (labels ∷ more) arc from below = elim (cases_lt arc (first + length labels)) [
  | inl here ↦
      let is = start-here first labels more arc from here in
      let same : (earlier : ℕ) → start_from first (labels ∷ more) arc ≤ earlier → earlier ≤ arc
      → start_from first (labels ∷ more) earlier ≡ start_from first (labels ∷ more) arc =
      λ earlier after within. start-here first labels more earlier (omega (arith, after, is)) (omega (arith, within, here)) ∙ sym is in
      record {
        from = omega (arith, is);
        own = same (start_from first (labels ∷ more) arc) (omega arith) (omega (arith, is, from));
        before = same;
      }
  | inr past ↦
      let is = start-later first labels more arc past in
      let later = IsStart-arc (first + length labels) more arc past (omega (arith, below, length-labels_more labels more)) in
      let same : (earlier : ℕ) → start_from first (labels ∷ more) arc ≤ earlier → earlier ≤ arc
      → start_from first (labels ∷ more) earlier ≡ start_from first (labels ∷ more) arc =
      λ earlier after within.
      start-later first labels more earlier (omega (arith, after, is, later.from))
      ∙ later.before earlier (omega (arith, after, is)) within ∙ sym is in
      record {
        from = omega (arith, is, later.from);
        own = same (start_from first (labels ∷ more) arc) (omega arith) (start-le first (labels ∷ more) arc);
        before = same;
      }
]

pub start-past : (first : ℕ) (groups : List (List ℤ)) (arc : ℕ) → first + length (all_labels groups) ≤ arc
    → start_from first groups arc ≡ 0
start-past first [] arc past = refl
start-past first (labels ∷ more) arc past =
    let size = length-labels_more labels more in
    start-later first labels more arc (omega (arith, past, size))
    ∙ start-past (first + length labels) more arc (omega (arith, past, size))

-- the passes of the first component

pub leaves-last : (first at size : ℕ) → at + 1 ≡ size → (if nat_eq (at + 1) size then first else first + at + 1) ≡ first
leaves-last first at size last = grind (arith, nat_tests)

pub leaves-inside : (first at size : ℕ) → at + 1 ≢ size → (if nat_eq (at + 1) size then first else first + at + 1) ≡ first + at + 1
leaves-inside first at size inside = grind (arith, nat_tests)

pub after_arc-inside : (arc start start_of_next : ℕ) → start_of_next ≡ start → after_arc arc start start_of_next ≡ arc + 1
after_arc-inside arc start start_of_next same = grind (arith, nat_tests)

after_arc-last : (arc start start_of_next : ℕ) → start_of_next ≢ start → after_arc arc start start_of_next ≡ start
after_arc-last arc start start_of_next other = grind (arith, nat_tests)

not_first : (first next_start past : ℕ) → 1 ≤ first → first < past → (next_start ≡ 0) ⊎ (past ≤ next_start) → next_start ≢ first
not_first first next_start past positive after has5 = omega arith

pass-here : (first : ℕ) (labels : List ℤ) (more : List (List ℤ)) (at : ℕ) → 1 ≤ first → at < length labels
    → IsPassOf first (labels ∷ more) (pass_at first (turned_labels labels) at)
pass-here first labels more at positive below =
    let pass = pass_at first (turned_labels labels) at in
    let size = length-turned_labels labels in
    let total = length-labels_more labels more in
    let back : first + at - first ≡ at = omega arith in
    let label = then_if (first + at) (first + length labels) (listed_number (turned_labels labels) (first + at - first))
    (label_from (first + length labels) more (first + at)) (omega (arith, below)) in
    let is = start-here first labels more (first + at) (omega arith) (omega (arith, below)) in
    elim (cases_eq (at + 1) (length (turned_labels labels))) [
      | inl last ↦
          let leaves : pass.leaves ≡ first = leaves-last first at (length (turned_labels labels)) last in
          let past : first + length labels ≤ first + at + 1 = omega (arith, last, size) in
          let next_is = start-later first labels more (first + at + 1) past in
          let later = start-from_first (first + length labels) more (first + at + 1) past in
          let differs = not_first first (start_from (first + length labels) more (first + at + 1)) (first + length labels) positive
          (omega (arith, below)) later in
          record {
            from = omega arith;
            below = omega (arith, below, total);
            leaves_from = omega (arith, leaves);
            leaves_below = omega (arith, leaves, below, total);
            label = ap (λ k. listed_number (turned_labels labels) k) (sym back) ∙ sym label;
            start = ap (λ arc. start_from first (labels ∷ more) arc) leaves
                ∙ start-here first labels more first (omega arith) (omega (arith, below)) ∙ sym is;
            next = leaves ∙ sym is
                ∙ sym (after_arc-last (first + at) (start_from first (labels ∷ more) (first + at))
                (start_from first (labels ∷ more) (first + at + 1)) (λ same. differs (sym next_is ∙ same ∙ is)));
          }
      | inr inside ↦
          let leaves : pass.leaves ≡ first + at + 1 = leaves-inside first at (length (turned_labels labels)) inside in
          let within : first + at + 1 < first + length labels = omega (arith, inside, size, below) in
          let next_is = start-here first labels more (first + at + 1) (omega arith) within in
          record {
            from = omega arith;
            below = omega (arith, below, total);
            leaves_from = omega (arith, leaves);
            leaves_below = omega (arith, leaves, within, total);
            label = ap (λ k. listed_number (turned_labels labels) k) (sym back) ∙ sym label;
            start = ap (λ arc. start_from first (labels ∷ more) arc) leaves ∙ next_is ∙ sym is;
            next = leaves
                ∙ sym (after_arc-inside (first + at) (start_from first (labels ∷ more) (first + at))
                (start_from first (labels ∷ more) (first + at + 1)) (next_is ∙ sym is));
          }
    ]

-- the passes of the components behind the first
pass-later : (first : ℕ) (labels : List ℤ) (more : List (List ℤ)) (pass : Pass) → IsPassOf (first + length labels) more pass
    → IsPassOf first (labels ∷ more) pass
pass-later first labels more pass is = grind (arith, nat_tests, length-labels_more, start-later, else_if)

All-map_range : {X : Type 0} (P : X → Type 0) (f : ℕ → X) (a n : ℕ) → ((k : ℕ) → a ≤ k → k < a + n → P (f k))
    → AllByRecursion P (map f (range_with_len a n))
All-map_range P f a zero each = tt
All-map_range P f a (suc n) each =
    grind (arith, nat_tests, All-map_range P f (a + 1) n (λ k from below. each k (omega (arith, from)) (omega (arith, below))))

pub IsPassOf-all : (first : ℕ) (groups : List (List ℤ)) → 1 ≤ first → AllByRecursion (IsPassOf first groups) (all_passes first groups)
IsPassOf-all first [] positive = tt
IsPassOf-all first (labels ∷ more) positive =
    AllByRecursion-append (IsPassOf first (labels ∷ more)) (passes_from first (turned_labels labels)) (all_passes (first + length labels) more)
    (All-map_range (IsPassOf first (labels ∷ more)) (pass_at first (turned_labels labels)) 0 (length (turned_labels labels))
    (λ at from below. pass-here first labels more at positive (omega (arith, below, length-turned_labels labels))))
    (AllByRecursion-weaker (IsPassOf (first + length labels) more) (IsPassOf first (labels ∷ more)) (all_passes (first + length labels) more)
    (pass-later first labels more)
    (IsPassOf-all (first + length labels) more (omega (arith, positive))))

-- the labels of the passes are those of the components

pub All-labels : (P : ℤ → Type 0) (first : ℕ) (groups : List (List ℤ)) → AllByRecursion P (all_labels groups)
    → AllByRecursion (λ pass. P pass.label) (all_passes first groups)
All-labels P first [] all = tt
All-labels P first (labels ∷ more) all =
    AllByRecursion-append (λ pass. P pass.label) (passes_from first (turned_labels labels)) (all_passes (first + length labels) more)
    (All-map_range (λ pass. P pass.label) (pass_at first (turned_labels labels)) 0 (length (turned_labels labels))
    (λ at from below.
    All-get_or P (turned_labels labels) at (pos 0) (omega (arith, below))
    (All-from_recursion P (turned_labels labels) (All-turned_labels P labels (AllByRecursion-first P labels (all_labels more) all)))))
    (All-labels P (first + length labels) more (AllByRecursion-second P labels (all_labels more) all))
