-- The coefficients of a view's layers within an outer state.
use Rattle.std.proofs.Common.{◌≡◌, ◌≢◌, ℕ, inl, inr, ◌+◌, ◌-◌, ◌*◌, ◌%◌, ◌^◌, ◌<◌, ◌∙◌, List, [], ◌∷◌, length, map, refl, sym, subst, ap, ap₂, arith, Bool, true, false, cond}
use Rattle.std.specs.Prelude.{nat_eq}
use Rattle.std.proofs.Math.Nat.{mod-eq_of_lt, zero-mod}
use Rattle.std.proofs.lemmas.Bool.{cases_eq, cases_lt, eq-eqb, ne_eqb}
use Rattle.std.proofs.lemmas.Nat.{pow_pos}
use Rattle.kh_types.specs.Bits.{bit, one_if, ones}
use Rattle.kh_types.specs.Code.{Code}
use Rattle.kh_types.proofs.EdgeBits.{set-within}
use Rattle.cell_laws.specs.Layers.{IsTimesIdentity, Layers}
use Rattle.cell_laws.specs.Signs.{sign_of_power}
use Rattle.square_laws.proofs.LabelNumbers.{number_from}
use Rattle.square_laws.specs.Deformed.{deformed_coefficient, label_number, opposite}
use Rattle.view_laws.specs.Partitions.{deformed_saddle_number, seen_count}
use Rattle.view_laws.specs.Views.{HasCircles, IsInnerStep, IsView, SeeAlike, View, closed_at, joint_state, together}
use Rattle.view_laws.specs.ViewLayers.{closed_of, inside_of, object_of, outer_count, seen_at, view_layers}
use Rattle.view_laws.proofs.Cells.{IsPart, made-parts, made_at, object-closed, object-inside, seen_label, state-below}
use Rattle.view_laws.proofs.Cut.{edge-changes}
use Rattle.kh_types.proofs.JointNumbers.{bit-inside, inside-below, joint-inside, ones-inside, parts-known, set-inside, set-outside}
use Rattle.view_laws.proofs.SameClosed.{Changes}
use Rattle.view_laws.proofs.Seen.{seen-alike}
use Rattle.view_laws.proofs.Shown.{lab}
use Rattle.cell_laws.proofs.DeformedAlong.{deformed-along, deformed-step}
use Rattle.view_laws.proofs.SeenNumbers.{number-seen}
use Rattle.view_laws.proofs.SmallNumbers.{number-merge, number-split}

pub sign-below : (p n : ℕ) → 1 < p → sign_of_power p n < p
sign-below p n above = by (nat_eq (n % 2) 0)
  where
    by : (b : Bool) → cond b 1 (p - 1) < p
    by true = above
    by false = omega (arith, above)

pub sign-some : (p n : ℕ) → 1 < p → sign_of_power p n ≢ 0
sign-some p n above = by (nat_eq (n % 2) 0)
  where
    by : (b : Bool) → cond b 1 (p - 1) ≢ 0
    by true none = omega (arith, none)
    by false none = omega (arith, none, above)

-- sizes of coefficients
signed : (p n : ℕ) (b : Bool) → n < p → n * one_if b % p ≡ cond b n 0
signed p n true below = ap (λ x. x % p) (once n) ∙ mod-eq_of_lt below
  where
    once : (n : ℕ) → n * 1 ≡ n
    once n = omega arith
signed p n false below = ap (λ x. x % p) (never n) ∙ zero-mod p
  where
    never : (n : ℕ) → n * 0 ≡ 0
    never n = omega arith

module _ (p h : ℕ) (code : Code) (plus minus : ℕ) (view : View) (is : IsView code view) (circles : HasCircles code) where
  abbrev layers_here : Layers
  layers_here = view_layers p h code plus minus view

  -- without a step the coefficient is 0
  pub inner-none : (first second s label other : ℕ)
      → ((i : ℕ) → IsInnerStep view (inside_of view first) (inside_of view second) i → ⊥)
      → layers_here.inner first second s label other ≡ 0
  inner-none first second s label other none =
      let t = inside_of view first in
      let u = inside_of view second in
      let x = made_at code view t (closed_of view first) s label in
      let y = made_at code view u (closed_of view second) s other in
      let t_below = inside-below view.inner first in
      let u_below = inside-below view.inner second in
      elim (cases_eq (deformed_coefficient p h code x y) 0) [
        | inl is_zero ↦ is_zero
        | inr some ↦
            let found = deformed-step p h code x y some in
            let place = found.0 in
            let step = found.1 in
            elim (cases_lt place view.inner) [
              | inl low ↦
                  let low_bit : bit t place ≡ 0 = sym (bit-inside view.inner t s place low) ∙ step.zero_there in
                  let more_below = set-within t place view.inner low t_below low_bit in
                  let there : u ≡ t + 2 ^ place =
                  (parts-known view.inner u s (t + 2 ^ place) s u_below more_below
                  (step.behind ∙ set-inside view.inner t s place)).0 in
                  absurd (none place (record { place = low; inside = t_below; zero_there = low_bit; behind = there }))
              | inr high ↦
                  let i = place - view.inner in
                  let e : place ≡ view.inner + i = omega (arith, high) in
                  let there : s ≡ s + 2 ^ i =
                  (parts-known view.inner u s t (s + 2 ^ i) u_below t_below
                  (step.behind ∙ ap (λ n. joint_state view t s + 2 ^ n) e ∙ set-outside view.inner t s i)).1 in
                  absurd (omega (arith, there, pow_pos i))
            ]
      ]

  -- along a step
  module _ (t u i : ℕ) (step : IsInnerStep view t u i) (s : ℕ) (s_below : s < 2 ^ outer_count code view) where
    u_below : u < 2 ^ view.inner
    u_below =
        subst (λ (n : ℕ). n < 2 ^ view.inner) (sym step.behind) (set-within t i view.inner step.place step.inside step.zero_there)

    before-below : joint_state view t s < 2 ^ length code.crossings
    before-below = state-below code view is t s step.inside s_below

    behind-below : joint_state view u s < 2 ^ length code.crossings
    behind-below = state-below code view is u s u_below s_below

    there : joint_state view u s ≡ joint_state view t s + 2 ^ i
    there = ap (λ n. joint_state view n s) step.behind ∙ sym (set-inside view.inner t s i)

    within : i < length code.crossings
    within = omega (arith, is.fits, step.place)

    bit-there : bit (joint_state view t s) i ≡ 0
    bit-there = bit-inside view.inner t s i step.place ∙ step.zero_there

    changes : Changes code (joint_state view t s) (joint_state view u s) (i + 1)
    changes =
        subst (λ (m : ℕ). Changes code (joint_state view t s) m (i + 1)) (sym there)
        (edge-changes code circles (joint_state view t s) i within bit-there)

    inner-along : (c d label other : ℕ)
        → layers_here.inner (object_of view t c) (object_of view u d) s label other
        ≡ sign_of_power p (ones i t)
        * label_number h (opposite p h) code (made_at code view t c s label) (made_at code view u d s other) (i + 1) % p
    inner-along c d label other =
        ap₂ (λ (a b : ℕ). deformed_coefficient p h code (made_at code view a b s label)
        (made_at code view (inside_of view (object_of view u d)) (closed_of view (object_of view u d)) s other))
        (object-inside view t c step.inside) (object-closed view t c step.inside)
        ∙ ap₂ (λ (a b : ℕ). deformed_coefficient p h code (made_at code view t c s label) (made_at code view a b s other))
        (object-inside view u d u_below) (object-closed view u d u_below)
        ∙ deformed-along p h code (made_at code view t c s label) (made_at code view u d s other) i
        (record { within = within; zero_there = bit-there; behind = there })
        ∙ ap (λ n. sign_of_power p n
        * label_number h (opposite p h) code (made_at code view t c s label) (made_at code view u d s other) (i + 1) % p)
        (ones-inside view.inner t s i (omega (arith, step.place)))

    closed-before : closed_at view (joint_state view t s) ≡ view.closed t
    closed-before = ap view.closed (joint-inside view.inner t s step.inside)

    closed-behind : closed_at view (joint_state view u s) ≡ view.closed u
    closed-behind = ap view.closed (joint-inside view.inner u s u_below)

    abbrev sees_before : ℕ
    sees_before = seen_count (together code view (joint_state view t s)) view.names

    abbrev sees_behind : ℕ
    sees_behind = seen_count (together code view (joint_state view u s)) view.names

    -- the parts of cells
    part-before : (c label : ℕ) → c < 2 ^ length (view.closed t) → label < 2 ^ sees_before → IsPart code view is circles t c s label
    part-before c label c_below label_below =
        record { inside = step.inside; closes = c_below; outside = s_below; sees = label_below }

    part-behind : (d other : ℕ) → d < 2 ^ length (view.closed u) → other < 2 ^ sees_behind → IsPart code view is circles u d s other
    part-behind d other d_below other_below =
        record { inside = u_below; closes = d_below; outside = s_below; sees = other_below }

    -- where nothing closes
    pub inner-saddle : view.closed t ≡ [] → view.closed u ≡ [] → (label other : ℕ) → label < 2 ^ sees_before → other < 2 ^ sees_behind
        → layers_here.inner (object_of view t 0) (object_of view u 0) s label other
        ≡ sign_of_power p (ones i t)
        * deformed_saddle_number h (opposite p h) (together code view (joint_state view t s)) (together code view (joint_state view u s))
        view.names label other % p
    inner-saddle none none_behind label other label_below other_below =
        let x = made_at code view t 0 s label in
        let y = made_at code view u 0 s other in
        let first = made-parts code view is circles t 0 s label
        (part-before 0 label (pow_pos (length (view.closed t))) label_below) in
        let second = made-parts code view is circles u 0 s other
        (part-behind 0 other (pow_pos (length (view.closed u))) other_below) in
        let r = together code view (joint_state view t s) in
        let q = together code view (joint_state view u s) in
        inner-along 0 0 label other
        ∙ ap (λ n. sign_of_power p (ones i t) * n % p)
        (number-seen code view is circles (joint_state view t s) (joint_state view u s) before-below behind-below
        (closed-behind ∙ none_behind ∙ sym none ∙ sym closed-before) x.label y.label h (opposite p h) (i + 1) changes
        ∙ ap₂ (λ (a b : ℕ). cond (nat_eq a b)
        (deformed_saddle_number h (opposite p h) r q view.names (seen_label code view x) (seen_label code view y)) 0)
        first.closes second.closes
        ∙ ap₂ (λ (a b : ℕ). deformed_saddle_number h (opposite p h) r q view.names a b) first.sees second.sees)

    -- where a circle closes before, which has the label v+
    pub inner-merge : (z : ℕ) → view.closed t ≡ z ∷ [] → view.closed u ≡ []
        → SeeAlike code view (joint_state view t s) code view (joint_state view u s)
        → 1 < p → (label other : ℕ) → label < 2 ^ sees_before → other < 2 ^ sees_behind
        → layers_here.inner (object_of view t 0) (object_of view u 0) s label other
        ≡ cond (nat_eq label other) (sign_of_power p (ones i t)) 0
    inner-merge z one none alike above label other label_below other_below =
        let x = made_at code view t 0 s label in
        let y = made_at code view u 0 s other in
        let first = made-parts code view is circles t 0 s label
        (part-before 0 label (pow_pos (length (view.closed t))) label_below) in
        let second = made-parts code view is circles u 0 s other
        (part-behind 0 other (pow_pos (length (view.closed u))) other_below) in
        let alone_closed = closed-before ∙ one in
        let f = lab code view is circles (joint_state view t s) before-below x.label in
        let value : number_from (map f (z ∷ [])) ≡ 0 =
        ap (λ (xs : List ℕ). number_from (map f xs)) (sym alone_closed) ∙ first.closes in
        inner-along 0 0 label other
        ∙ ap (λ n. sign_of_power p (ones i t) * n % p)
        (number-merge code view is circles (joint_state view t s) (joint_state view u s) before-below behind-below z alone_closed
        (closed-behind ∙ none) alike x.label y.label h (opposite p h) (i + 1) changes (omega (arith, value))
        ∙ ap₂ (λ a b. one_if (nat_eq a b)) first.sees second.sees)
        ∙ signed p (sign_of_power p (ones i t)) (nat_eq label other) (sign-below p (ones i t) above)

    -- where a circle closes behind, which has the label v-
    pub inner-split : (z : ℕ) → view.closed t ≡ [] → view.closed u ≡ z ∷ []
        → SeeAlike code view (joint_state view u s) code view (joint_state view t s)
        → 1 < p → (label other : ℕ) → label < 2 ^ sees_before → other < 2 ^ sees_behind
        → layers_here.inner (object_of view t 0) (object_of view u 1) s label other
        ≡ cond (nat_eq other label) (sign_of_power p (ones i t)) 0
    inner-split z none one alike above label other label_below other_below =
        let x = made_at code view t 0 s label in
        let y = made_at code view u 1 s other in
        let first = made-parts code view is circles t 0 s label
        (part-before 0 label (pow_pos (length (view.closed t))) label_below) in
        let second = made-parts code view is circles u 1 s other
        (part-behind 1 other (subst (λ (xs : List ℕ). 1 < 2 ^ length xs) (sym one) (omega arith)) other_below) in
        let alone_closed = closed-behind ∙ one in
        let f = lab code view is circles (joint_state view u s) behind-below y.label in
        let value : number_from (map f (z ∷ [])) ≡ 1 =
        ap (λ (xs : List ℕ). number_from (map f xs)) (sym alone_closed) ∙ second.closes in
        inner-along 0 1 label other
        ∙ ap (λ n. sign_of_power p (ones i t) * n % p)
        (number-split code view is circles (joint_state view u s) (joint_state view t s) behind-below before-below z alone_closed
        (closed-before ∙ none) alike y.label x.label h (opposite p h) (i + 1) changes (omega (arith, value))
        ∙ ap₂ (λ a b. one_if (nat_eq a b)) second.sees first.sees)
        ∙ signed p (sign_of_power p (ones i t)) (nat_eq other label) (sign-below p (ones i t) above)

  -- so the entries between objects there are a sign times the identity
  sees-same : (t u s : ℕ) → t < 2 ^ view.inner → u < 2 ^ view.inner → (c d : ℕ)
      → SeeAlike code view (joint_state view t s) code view (joint_state view u s)
      → seen_at code view (object_of view u d) s ≡ seen_at code view (object_of view t c) s
  sees-same t u s t_below u_below c d alike =
      ap (λ (a : ℕ). seen_count (together code view (joint_state view a s)) view.names) (object-inside view u d u_below)
      ∙ sym (ap (λ (xs : List ℕ). length xs)
      (seen-alike (together code view (joint_state view t s)) (together code view (joint_state view u s)) view.names alike))
      ∙ ap (λ (a : ℕ). seen_count (together code view (joint_state view a s)) view.names) (sym (object-inside view t c t_below))

  objects-differ : (t u i c d : ℕ) → IsInnerStep view t u i → object_of view t c ≢ object_of view u d
  objects-differ t u i c d step same =
      let u_below = subst (λ (n : ℕ). n < 2 ^ view.inner) (sym step.behind)
      (set-within t i view.inner step.place step.inside step.zero_there) in
      omega (arith, (parts-known view.inner t c u d step.inside u_below same).0, step.behind, pow_pos i)

  pub merge-identity : (t u i z : ℕ) → 1 < p → IsInnerStep view t u i → view.closed t ≡ z ∷ [] → view.closed u ≡ []
      → ((s : ℕ) → s < 2 ^ outer_count code view → SeeAlike code view (joint_state view t s) code view (joint_state view u s))
      → IsTimesIdentity (view_layers p h code plus minus view) (object_of view t 0) (object_of view u 0) (sign_of_power p (ones i t))
  merge-identity t u i z above step one none alike =
      let u_below = subst (λ (n : ℕ). n < 2 ^ view.inner) (sym step.behind)
      (set-within t i view.inner step.place step.inside step.zero_there) in
      let home = λ (s : ℕ). ap (λ (a : ℕ). seen_count (together code view (joint_state view a s)) view.names)
      (object-inside view t 0 step.inside) in
      let away = λ (s : ℕ) (below : s < 2 ^ outer_count code view).
      sym (ap (λ (xs : List ℕ). length xs)
      (seen-alike (together code view (joint_state view t s)) (together code view (joint_state view u s)) view.names (alike s below))) in
      record {
        objects_differ = objects-differ t u i 0 0 step;
        some = sign-some p (ones i t) above;
        labels = λ s below. ap (λ n. 2 ^ n) (sees-same t u s step.inside u_below 0 0 (alike s below));
        equal = λ s label below within.
            let label_below = subst (λ (n : ℕ). label < 2 ^ n) (home s) within in
            inner-merge t u i step s below z one none (alike s below) above label label label_below
            (subst (λ (n : ℕ). label < 2 ^ n) (sym (away s below)) label_below)
            ∙ ap (λ b. cond b (sign_of_power p (ones i t)) 0) (eq-eqb label label refl);
        others = λ s label other below within other_within differ.
            inner-merge t u i step s below z one none (alike s below) above label other (subst (λ (n : ℕ). label < 2 ^ n) (home s) within)
            (subst (λ (n : ℕ). other < 2 ^ n) (sym (away s below)) (subst (λ (n : ℕ). other < 2 ^ n) (home s) other_within))
            ∙ ap (λ b. cond b (sign_of_power p (ones i t)) 0) (ne_eqb label other differ);
      }

  pub split-identity : (t u i z : ℕ) → 1 < p → IsInnerStep view t u i → view.closed t ≡ [] → view.closed u ≡ z ∷ []
      → ((s : ℕ) → s < 2 ^ outer_count code view → SeeAlike code view (joint_state view u s) code view (joint_state view t s))
      → IsTimesIdentity (view_layers p h code plus minus view) (object_of view t 0) (object_of view u 1) (sign_of_power p (ones i t))
  split-identity t u i z above step none one alike =
      let u_below = subst (λ (n : ℕ). n < 2 ^ view.inner) (sym step.behind)
      (set-within t i view.inner step.place step.inside step.zero_there) in
      let home = λ (s : ℕ). ap (λ (a : ℕ). seen_count (together code view (joint_state view a s)) view.names)
      (object-inside view t 0 step.inside) in
      let away = λ (s : ℕ) (below : s < 2 ^ outer_count code view).
      ap (λ (xs : List ℕ). length xs)
      (seen-alike (together code view (joint_state view u s)) (together code view (joint_state view t s)) view.names (alike s below)) in
      record {
        objects_differ = objects-differ t u i 0 1 step;
        some = sign-some p (ones i t) above;
        labels = λ s below.
            ap (λ n. 2 ^ n)
            (ap (λ (a : ℕ). seen_count (together code view (joint_state view a s)) view.names) (object-inside view u 1 u_below)
            ∙ away s below ∙ sym (home s));
        equal = λ s label below within.
            let label_below = subst (λ (n : ℕ). label < 2 ^ n) (home s) within in
            inner-split t u i step s below z none one (alike s below) above label label label_below
            (subst (λ (n : ℕ). label < 2 ^ n) (sym (away s below)) label_below)
            ∙ ap (λ b. cond b (sign_of_power p (ones i t)) 0) (eq-eqb label label refl);
        others = λ s label other below within other_within differ.
            inner-split t u i step s below z none one (alike s below) above label other (subst (λ (n : ℕ). label < 2 ^ n) (home s) within)
            (subst (λ (n : ℕ). other < 2 ^ n) (sym (away s below)) (subst (λ (n : ℕ). other < 2 ^ n) (home s) other_within))
            ∙ ap (λ b. cond b (sign_of_power p (ones i t)) 0) (ne_eqb other label (λ same. differ (sym same)));
      }
