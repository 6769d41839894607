-- Steps of inner states, as tests and as facts; lists of no circle and of one; and a multiple of the identity, by labels.
use Rattle.std.proofs.Common.{◌≡◌, ◌≢◌, ℕ, ◌⊎◌, inl, inr, ◌+◌, ◌*◌, ◌^◌, ◌<◌, ◌∙◌, List, [], ◌∷◌, length, refl, sym, subst, ap, arith, Bool, true, false}
use Rattle.std.specs.Prelude.{nat_eq, if◌then◌else◌}
use Rattle.std.proofs.lemmas.Bool.{and_from, and_parts, cases_Bool, cases_eq, eq-eqb, eqb-true, ne_eqb}
use Rattle.kh_types.specs.Bits.{bit, ones}
use Rattle.kh_types.proofs.ListSums.{sum_by-single}
use Rattle.kh_types.proofs.RangeCounts.{list_any-at}
use Rattle.kh_types.proofs.Ranges.{list_any-found}
use Rattle.kh_types.proofs.Residues.{same-equal}
use Rattle.cell_laws.specs.Layers.{IsTimesIdentity, Layers}
use Rattle.view_laws.specs.Views.{IsInnerStep, View}
use Rattle.view_laws.proofs.Steps.{IsOuterStep, one-place}
use Rattle.layer_laws.specs.Cuts.{IsTimes, is_change, is_step, ones_before, same_label}
use Rattle.layer_laws.proofs.Reorderings.{at_odds}

pub step-of-change : (t u i : ℕ) → is_change t u i ≡ true → IsOuterStep t u i
step-of-change t u i is =
    let parts = and_parts (nat_eq (bit t i) 0) (nat_eq u (t + 2 ^ i)) is in
    record { zero_there = eqb-true (bit t i) 0 parts.0; behind = eqb-true u (t + 2 ^ i) parts.1 }

pub change-of-step : (t u i : ℕ) → IsOuterStep t u i → is_change t u i ≡ true
change-of-step t u i step =
    and_from (nat_eq (bit t i) 0) (nat_eq u (t + 2 ^ i)) (eq-eqb (bit t i) 0 step.zero_there) (eq-eqb u (t + 2 ^ i) step.behind)

-- an edge of inner states has a place, whose lower bits are counted
pub record IsStepFound (view : View) (t u : ℕ) : Type 0 where
  pub place : ℕ
  pub step : IsInnerStep view t u place
  pub before : ones_before view.inner t u ≡ ones place t

pub step-found : (view : View) (t u : ℕ) → t < 2 ^ view.inner → is_step view.inner t u ≡ true → IsStepFound view t u
step-found view t u within is =
    let found = list_any-found (is_change t u) view.inner is in
    let i = found.0 in
    let step = step-of-change t u i found.2 in
    let term = λ (place : ℕ). let n : ℕ = if is_change t u place then ones place t else 0 in n in
    record {
      place = i;
      step = record { place = found.1; inside = within; zero_there = step.zero_there; behind = step.behind };
      before =
          sum_by-single term 0 view.inner i (omega arith) (omega (arith, found.1))
          (λ other from below differ. elim (cases_Bool (is_change t u other)) [
            | inl too ↦ absurd (differ (one-place t u other i (step-of-change t u other too) step))
            | inr none ↦ ap (λ (b : Bool). let n : ℕ = if b then ones other t else 0 in n) none
          ])
          ∙ ap (λ (b : Bool). let n : ℕ = if b then ones i t else 0 in n) found.2;
    }

pub no-step : (view : View) (t u : ℕ) → is_step view.inner t u ≡ false → (i : ℕ) → IsInnerStep view t u i → ⊥
no-step view t u none i step =
    at_odds (is_step view.inner t u)
    (list_any-at (is_change t u) 0 view.inner i (omega arith) (omega (arith, step.place))
    (change-of-step t u i (record { zero_there = step.zero_there; behind = step.behind })))
    none

-- lists of no circle and of one
pub none-of : {A : Type 0} (xs : List A) → length xs ≡ 0 → xs ≡ []
none-of [] none = refl
none-of (x ∷ xs) none = absurd (omega (arith, none))

pub one-of : {A : Type 0} (xs : List A) → length xs ≡ 1 → (x : A) × (xs ≡ x ∷ [])
one-of [] one = absurd (omega (arith, one))
one-of (x ∷ []) one = (x, refl)
one-of (x ∷ y ∷ xs) one = absurd (omega (arith, one))

-- a multiple of the identity, label by label
pub times-from : (p : ℕ) (layers : Layers) (x y n : ℕ) → IsTimesIdentity layers x y n → IsTimes p layers x y n same_label
times-from p layers x y n times =
    record {
      is = λ s label other below label_below other_below.
          same-equal p (layers.inner x y s label other) (n * same_label s label other)
          (by s label other below label_below (subst (λ (m : ℕ). other < m) (times.labels s below) other_below) (cases_eq label other));
    }
  where
    by : (s label other : ℕ) → s < layers.states → label < layers.labels x s → other < layers.labels x s
        → (label ≡ other) ⊎ (label ≢ other) → layers.inner x y s label other ≡ n * same_label s label other
    by s label other below label_below other_below (inl same) =
        ap (λ (m : ℕ). layers.inner x y s label m) (sym same) ∙ times.equal s label below label_below ∙ once n
        ∙ ap (λ (b : Bool). n * (let m : ℕ = if b then 1 else 0 in m)) (sym (eq-eqb label other same))
      where
        once : (n : ℕ) → n ≡ n * 1
        once n = omega arith
    by s label other below label_below other_below (inr differ) =
        times.others s label other below label_below other_below differ ∙ never n
        ∙ ap (λ (b : Bool). n * (let m : ℕ = if b then 1 else 0 in m)) (sym (ne_eqb label other differ))
      where
        never : (n : ℕ) → 0 ≡ n * 0
        never n = omega arith
