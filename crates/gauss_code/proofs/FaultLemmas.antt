-- A text that has no fault has no bad label and no bad sign, and as many signs as crossings.
use Rattle.std.proofs.Common.{◌≡◌, ℕ, inl, inr, ◌+◌, ◌/◌, ◌<◌, List, [], length, refl, sym, ◌∙◌, ap, arith, Bool, true, false, ℤ, pos, neg_ℤ}
use Rattle.std.specs.Prelude.{Option, Some, None, option_map, unwrap_or, is_none, nat_eq, nat_lt, not, ◌&&◌, ◌||◌, if◌then◌else◌}
use Rattle.std.specs.Option.{option_or}
use Rattle.std.specs.Ordering.{int_eq}
use Rattle.std.proofs.lemmas.Bool.{cases_Bool}
use Rattle.std.proofs.lemmas.Bool.Decides.{nat_tests, Decides-int_eq}
use Rattle.gauss_code.specs.declared.stop.GaussStop.{GaussStop}
use Rattle.gauss_code.specs.declared.stop.GaussStop.TheVariants.{NoSigns, SignCount}
use Rattle.gauss_code.specs.Listings.{Body, Listing, labels_of, crossing_count}
use Rattle.code_passes.specs.Labels.{listed_number, bad_label, is_bad_sign, bad_sign}
use Rattle.gauss_code.specs.Faults.{gauss_fault_if, crossing_limit, loop_limit, label_fault, no_signs, sign_count, sign_fault, signs_of, first_gauss_fault}
use Rattle.code_passes.proofs.LabelCounts.{find-none_at}

option_or-none : {X : Type 0} (a b : Option X) → option_or a b ≡ None → (a ≡ None) × (b ≡ None)
option_or-none None b none = (refl, none)
option_or-none (Some x) b none = absurd (cc)

option_map-none : {X Y : Type 0} (f : X → Y) (a : Option X) → option_map f a ≡ None → a ≡ None
option_map-none f None none = refl
option_map-none f (Some x) none = absurd (cc)

gauss_fault_if-none : (holds : Bool) (fault : GaussStop) → gauss_fault_if holds fault ≡ None → holds ≡ false
gauss_fault_if-none true fault none = absurd (cc)
gauss_fault_if-none false fault none = refl

-- none of the faults of labels and signs
record HasNoFault (listing : Listing) (places : List ℕ) : Type 0 where
  label : label_fault listing.body places ≡ None
  some : no_signs listing ≡ None
  count : sign_count listing ≡ None
  sign : sign_fault listing places ≡ None

no-fault : (listing : Listing) (places : List ℕ) → first_gauss_fault listing places ≡ None → HasNoFault listing places
no-fault listing places none =
    let from_sign = sign_fault listing places in
    let from_count = option_or (sign_count listing) from_sign in
    let from_some = option_or (no_signs listing) from_count in
    let from_label = option_or (label_fault listing.body places) from_some in
    let loops = option_or-none (crossing_limit listing.body) (option_or (loop_limit listing.body) from_label) none in
    let label = option_or-none (loop_limit listing.body) from_label loops.1 in
    let some = option_or-none (label_fault listing.body places) from_some label.1 in
    let count = option_or-none (no_signs listing) from_count some.1 in
    let sign = option_or-none (sign_count listing) from_sign count.1 in
    record { label = some.0; some = count.0; count = sign.0; sign = sign.1 }

-- no label is bad
pub bad_label-none : (listing : Listing) (places : List ℕ) → first_gauss_fault listing places ≡ None
    → bad_label (labels_of listing.body) ≡ None
bad_label-none listing places none =
    option_map-none _ (bad_label (labels_of listing.body)) (no-fault listing places none).label

-- and the sign of each crossing is there and good
good-sign : (body : Body) (signs : Option (List ℤ)) (places : List ℕ)
    → HasNoFault (record { body = body; signs = signs }) places → (place : ℕ) → place < crossing_count body
    → is_bad_sign (listed_number (unwrap_or signs []) place) ≡ false
good-sign body None places good place below =
    let fails = gauss_fault_if-none (nat_lt 0 (length (labels_of body)) && is_none {T = List ℤ} None) NoSigns good.some in
    absurd (no_labels (length (labels_of body)) fails below)
  where
    no_labels : (n : ℕ) → (nat_lt 0 n && true) ≡ false → place < n / 2 → ⊥
    no_labels n fails below = grind (arith, nat_tests)
good-sign body (Some signs) places good place below =
    let count = gauss_fault_if-none (not (nat_eq (length signs) (crossing_count body))) (SignCount (length signs) (crossing_count body))
    good.count in
    let bad = option_map-none _ (bad_sign signs) good.sign in
    find-none_at (λ at. is_bad_sign (listed_number signs at)) 0 (length signs) place bad (omega arith)
    (as_many (length signs) (crossing_count body) count below)
  where
    as_many : (n crossings : ℕ) → not (nat_eq n crossings) ≡ false → place < crossings → place < 0 + n
    as_many n crossings same below = grind (arith, nat_tests)

pub good-sign_of : (listing : Listing) (places : List ℕ) → first_gauss_fault listing places ≡ None → (place : ℕ)
    → place < crossing_count listing.body → is_bad_sign (listed_number (signs_of listing) place) ≡ false
good-sign_of listing places none = good-sign listing.body listing.signs places (no-fault listing places none)

-- a sign that is not bad is 1 or -1
pub sign-good : (sign : ℤ) → is_bad_sign sign ≡ false → (if int_eq sign (pos 1) then pos 1 else neg_ℤ (pos 1)) ≡ sign
sign-good sign good = elim (cases_Bool (int_eq sign (pos 1))) [
  | inl up ↦ ap (λ b. if b then pos 1 else neg_ℤ (pos 1)) up ∙ sym ((Decides-int_eq sign (pos 1)).0 up)
  | inr down ↦ ap (λ b. if b then pos 1 else neg_ℤ (pos 1)) down
      ∙ sym ((Decides-int_eq sign (neg_ℤ (pos 1))).0 (second (int_eq sign (pos 1)) (int_eq sign (neg_ℤ (pos 1))) down good))
]
  where
    second : (b c : Bool) → b ≡ false → not (b || c) ≡ false → c ≡ true
    second true c fails good = absurd (cc)
    second false true fails good = refl
    second false false fails good = absurd (cc)
