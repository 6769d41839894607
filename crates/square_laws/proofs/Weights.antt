-- A list of marked arcs as an element of the deformed cube: the product of one X for each of them.
--
-- On a circle without a mark it is v+, on one with m marks the product of m factors X, which is h to the power m - 1 times v-. So the list
-- is a power of h times the one generator that it shows, and the power is the number of marks less that of the labels v-. An edge that
-- merges keeps the list; one that splits adds a mark at one end of the under pass, or at the other, or none with the factor k.
use Rattle.std.proofs.lemmas.Bool.Decides.{nat_tests}
use Rattle.std.proofs.Common.{◌≡◌, ℕ, suc, ◌+◌, ◌-◌, ◌*◌, ◌^◌, ◌≤◌, ◌∙◌, inl, inr, List, ◌∷◌, length, refl, sym, ap, ap₂, arith, Bool, true, false, cond, ◌&&◌, IsTrue}
use Rattle.std.specs.Prelude.{nat_eq, min}
use Rattle.std.specs.List.{All}
use Rattle.std.proofs.lemmas.Nat.{pow-add}
use Rattle.kh_types.specs.Acceptance.{accepted}
use Rattle.kh_types.specs.Code.{Code}
use Rattle.kh_types.specs.CircleNumbers.{IsName}
use Rattle.kh_types.specs.Differential.{keeps_labels}
use Rattle.kh_types.specs.Edges.{arc_at_slot}
use Rattle.kh_types.specs.Generators.{Generator}
use Rattle.kh_types.specs.Residues.{Same}
use Rattle.kh_types.proofs.Residues.{same-equal}
use Rattle.square_laws.proofs.Merges.{IsMerge, IsSwitch}
use Rattle.square_laws.proofs.SquareKinds.{circle-on}
use Rattle.square_laws.proofs.Marks.{IsOff, hits, hits-circle, hits-off, hits-on, on_or_off}
use Rattle.square_laws.proofs.EdgeMarks.{IsEnd-first, IsEnd-third, hits-elsewhere, hits-there, label_at, label_of-circle, label_of-le}
use Rattle.square_laws.specs.Deformed.{label_number}
use Rattle.square_laws.proofs.EdgeNumbers.{keeps-merge, keeps-split, number-merge, number-split}
use Rattle.square_laws.proofs.Numbers.{merging, split-sum, splitting}
use Rattle.square_laws.proofs.OneLabels.{IsShown, is_shown, is_shown-decides, ones-joined, ones-shown, ones_of}

-- the coefficient of a generator in the product of marks
abbrev pub weight : ℕ → Code → Generator → List ℕ → ℕ
weight h code generator marked = cond (is_shown code generator marked) (h ^ (length marked - ones_of code generator)) 0

-- what is shown behind a merge
shown-merge : (code : Code) (two one : Generator) (crossing : ℕ) (marked : List ℕ) → IsTrue (accepted code)
    → IsMerge code two.state one.state crossing → IsShown code two marked
    → is_shown code one marked
    ≡ (keeps_labels code two one crossing
    && nat_eq (label_at code one crossing 0) (min 1 (label_at code two crossing 0 + label_at code two crossing 2)))
shown-merge code two one crossing marked is merge shown =
    let x = arc_at_slot code crossing 0 in
    let y = arc_at_slot code crossing 2 in
    let keeps = keeps-merge code two one crossing is merge in
    let both = hits-on code two.state one.state crossing marked x merge (inl refl) in
    let first = shown.at x merge.first in
    let third = shown.at y merge.third in
    same_from_tests (is_shown code one marked) (keeps_labels code two one crossing) (label_at code one crossing 0)
    (min 1 (label_at code two crossing 0 + label_at code two crossing 2))
    (λ passes.
    let next = (is_shown-decides code one marked).0 passes in (
      keeps.1 (record {
        at = λ arc name off. shown.at arc name
            ∙ ap (min 1) (sym (hits-off code two.state one.state crossing marked arc merge off)) ∙ sym (next.at arc name);
      }),
      omega (arith, next.at x merge.first, both, first, third),
    ))
    (λ kept sum. (is_shown-decides code one marked).1 (record {
      at = λ arc name. elim (on_or_off code two.state crossing arc) [
        | inl on ↦
            omega (
              arith,
              label_of-circle code one arc x (circle-on code two.state one.state crossing arc merge on),
              sum,
              first,
              third,
              hits-on code two.state one.state crossing marked arc merge on,
            )
        | inr off ↦
            sym ((keeps.0 kept).at arc name off) ∙ shown.at arc name
            ∙ ap (min 1) (sym (hits-off code two.state one.state crossing marked arc merge off))
      ];
    }))
  where
    same_from_tests : (f g : Bool) (m n : ℕ) → (f ≡ true → (g ≡ true) × (m ≡ n)) → (g ≡ true → m ≡ n → f ≡ true)
        → f ≡ (g && nat_eq m n)
    same_from_tests f g m n from back = grind (arith, nat_tests)

-- behind a split, by marks that are the same off its circles
shown-split : (code : Code) (two one : Generator) (crossing : ℕ) (marked longer : List ℕ) → IsTrue (accepted code)
    → IsMerge code two.state one.state crossing → IsShown code one marked
    → ((arc : ℕ) → IsOff code two.state crossing arc → hits code two.state longer arc ≡ hits code two.state marked arc)
    → is_shown code two longer
    ≡ (keeps_labels code one two crossing
    && (nat_eq (label_at code two crossing 0) (min 1 (hits code two.state longer (arc_at_slot code crossing 0)))
    && nat_eq (label_at code two crossing 2) (min 1 (hits code two.state longer (arc_at_slot code crossing 2)))))
shown-split code two one crossing marked longer is merge shown off_same =
    let x = arc_at_slot code crossing 0 in
    let y = arc_at_slot code crossing 2 in
    let keeps = keeps-split code one two crossing is merge in
    same_from_tests (is_shown code two longer) (keeps_labels code one two crossing) (label_at code two crossing 0)
    (min 1 (hits code two.state longer x)) (label_at code two crossing 2) (min 1 (hits code two.state longer y))
    (λ passes.
    let next = (is_shown-decides code two longer).0 passes in (
      keeps.1 (record {
        at = λ arc name off. next.at arc name
            ∙ ap (min 1) (off_same arc off ∙ sym (hits-off code two.state one.state crossing marked arc merge off))
            ∙ sym (shown.at arc name);
      }),
      next.at x merge.first,
      next.at y merge.third,
    ))
    (λ kept first third. (is_shown-decides code two longer).1 (record {
      at = λ arc name. elim (on_or_off code two.state crossing arc) [
        | inl (inl on) ↦
            label_of-circle code two arc x on ∙ first ∙ ap (min 1) (sym (hits-circle code two.state longer arc x on))
        | inl (inr on) ↦
            label_of-circle code two arc y on ∙ third ∙ ap (min 1) (sym (hits-circle code two.state longer arc y on))
        | inr off ↦
            (keeps.0 kept).at arc name off ∙ shown.at arc name
            ∙ ap (min 1) (hits-off code two.state one.state crossing marked arc merge off ∙ sym (off_same arc off))
      ];
    }))
  where
    same_from_tests : (f g : Bool) (m n s t : ℕ) → (f ≡ true → (g ≡ true) × (m ≡ n) × (s ≡ t))
        → (g ≡ true → m ≡ n → s ≡ t → f ≡ true) → f ≡ (g && (nat_eq m n && nat_eq s t))
    same_from_tests f g m n s t from back = grind (arith, nat_tests)

-- the marks behind an edge, as a sum of f over them
abbrev pub spread : Bool → ℕ → Code → ℕ → (List ℕ → ℕ) → List ℕ → ℕ
spread true k code crossing f marked = f marked
spread false k code crossing f marked =
    f (arc_at_slot code crossing 0 ∷ marked) + f (arc_at_slot code crossing 2 ∷ marked) + k * f marked

-- an edge takes marks to the marks behind it
pub edge-weights : (merges : Bool) (p h k : ℕ) (code : Code) (tail head : Generator) (crossing : ℕ) (marked : List ℕ)
    → Same p (h + k) 0 → IsTrue (accepted code) → IsSwitch merges code tail.state head.state crossing → All (IsName code) marked
    → IsShown code tail marked
    → Same p (label_number h k code tail head crossing * h ^ (length marked - ones_of code tail))
    (spread merges k code crossing (weight h code head) marked)
edge-weights true p h k code tail head crossing marked none is merge names shown =
    let x = arc_at_slot code crossing 0 in
    let y = arc_at_slot code crossing 2 in
    let sum = label_at code tail crossing 0 + label_at code tail crossing 2 in
    let keeps = keeps_labels code tail head crossing in
    same-equal p (label_number h k code tail head crossing * h ^ (length marked - ones_of code tail)) (weight h code head marked)
    (ap (λ n. n * h ^ (length marked - ones_of code tail)) (number-merge h k code tail head crossing is merge)
    ∙ merged_power h keeps sum (label_at code head crossing 0) (length marked) (ones_of code tail) (ones_of code head)
    (ones-shown code tail marked is names shown)
    (λ kept. ones-joined code tail head crossing is merge ((keeps-merge code tail head crossing is merge).0 kept))
    ∙ ap (λ b. cond b (h ^ (length marked - ones_of code head)) 0)
    (sym (shown-merge code tail head crossing marked is merge shown)))
  where
    powers : (h s r len t o : ℕ) → r ≡ min 1 s → t ≤ len → t + r ≡ o + s → h ^ (s - r) * h ^ (len - t) ≡ h ^ (len - o)
    powers h s r len t o is within total = sym (pow-add h (s - r) (len - t)) ∙ ap (λ n. h ^ n) (omega (arith, is, within, total))

    merged_power : (h : ℕ) (keeps : Bool) (s r len t o : ℕ) → t ≤ len → (keeps ≡ true → t + r ≡ o + s)
        → cond keeps (merging h s r) 0 * h ^ (len - t) ≡ cond (keeps && nat_eq r (min 1 s)) (h ^ (len - o)) 0
    merged_power h keeps s r len t o within total = grind (arith, nat_tests, powers)
edge-weights false p h k code tail head crossing marked none is merge names shown =
    let x = arc_at_slot code crossing 0 in
    let y = arc_at_slot code crossing 2 in
    let two = head.state in
    let keeps = keeps_labels code tail head crossing in
    let l = label_at code tail crossing 0 in
    let q = label_at code head crossing 0 in
    let r = label_at code head crossing 2 in
    let hx = hits code two marked x in
    let hy = hits code two marked y in
    let t = ones_of code tail in
    let o = ones_of code head in
    let n = length marked in
    let apart = merge.join.apart in
    let shows = shown-split code head tail crossing marked in
    let end_x = IsEnd-first code two tail.state crossing merge in
    let end_y = IsEnd-third code two tail.state crossing merge in
    let in_first : weight h code head (x ∷ marked) ≡ cond (keeps && (nat_eq q 1 && nat_eq r (min 1 hy))) (h ^ (suc n - o)) 0 =
    ap (λ b. cond b (h ^ (suc n - o)) 0) (shows (x ∷ marked) is merge shown (λ arc off. end_x.off arc marked off)
    ∙ ap₂ (λ u v. keeps && (nat_eq q u && nat_eq r (min 1 v)))
    (omega (arith, hits-there code two x marked x refl)) (hits-elsewhere code two x marked y apart)) in
    let in_third : weight h code head (y ∷ marked) ≡ cond (keeps && (nat_eq q (min 1 hx) && nat_eq r 1)) (h ^ (suc n - o)) 0 =
    ap (λ b. cond b (h ^ (suc n - o)) 0) (shows (y ∷ marked) is merge shown (λ arc off. end_y.off arc marked off)
    ∙ ap₂ (λ u v. keeps && (nat_eq q (min 1 u) && nat_eq r v))
    (hits-elsewhere code two y marked x (λ same. apart (sym same))) (omega (arith, hits-there code two y marked y refl))) in
    let in_none : weight h code head marked ≡ cond (keeps && (nat_eq q (min 1 hx) && nat_eq r (min 1 hy))) (h ^ (n - o)) 0 =
    ap (λ b. cond b (h ^ (n - o)) 0) (shows marked is merge shown (λ arc off. refl)) in
    same-equal p (label_number h k code tail head crossing * h ^ (n - t)) (cond keeps (splitting k l (q + r)) 0 * h ^ (n - t))
    (ap (λ m. m * h ^ (n - t)) (number-split h k code tail head crossing is merge))
    ∙ split-sum p h k keeps l q r hx hy n t o none
    (shown.at x merge.first ∙ ap (min 1) (hits-on code two tail.state crossing marked x merge (inl refl)))
    (label_of-le code head x) (label_of-le code head y) (ones-shown code tail marked is names shown)
    (λ kept. ones-joined code head tail crossing is merge ((keeps-split code tail head crossing is merge).0 kept))
    (λ passes. ones-shown code head marked is names
    ((is_shown-decides code head marked).0 (shows marked is merge shown (λ arc off. refl) ∙ passes)))
    ∙ same-equal p (cond (keeps && (nat_eq q 1 && nat_eq r (min 1 hy))) (h ^ (suc n - o)) 0
    + cond (keeps && (nat_eq q (min 1 hx) && nat_eq r 1)) (h ^ (suc n - o)) 0
    + k * cond (keeps && (nat_eq q (min 1 hx) && nat_eq r (min 1 hy))) (h ^ (n - o)) 0)
    (weight h code head (x ∷ marked) + weight h code head (y ∷ marked) + k * weight h code head marked)
    (ap₂ (λ u v. u + v) (ap₂ (λ u v. u + v) (sym in_first) (sym in_third)) (ap (λ u. k * u) (sym in_none)))
