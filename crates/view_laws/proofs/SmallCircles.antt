-- Edges along which a circle that closes inside is merged with another, or split off: where all else is seen alike before and behind, the
-- labels of the rest stay where the small circle's label is v+ before a merge, or v- behind a split.
use Rattle.std.proofs.Common.{◌≡◌, ◌≢◌, ℕ, inl, inr, ◌+◌, ◌^◌, ◌<◌, ◌∙◌, List, [], ◌∷◌, ◌++◌, length, map, sym, subst, ap, ap₂, arith, Bool, true, ◌&&◌}
use Rattle.std.specs.Prelude.{nat_eq, nat_lt}
use Rattle.std.specs.List.{Contains, filter, sum_by}
use Rattle.std.proofs.lemmas.Bool.{and_from, and_parts, both_ways, cases_eq, eq-eqb, eqb-true, le-ltb, lt-ltb, ne_eqb}
use Rattle.std.proofs.lemmas.List.Elements.{Contains-append_cases, Contains-append_right}
use Rattle.std.proofs.lemmas.List.Sums.{sum_by-cons}
use Rattle.kh_types.specs.Bits.{one_if, ones}
use Rattle.kh_types.specs.Circles.{circle_count}
use Rattle.kh_types.specs.CircleNumbers.{IsName}
use Rattle.kh_types.specs.Code.{Code}
use Rattle.kh_types.specs.Edges.{is_other}
use Rattle.kh_types.specs.Generators.{generator_of}
use Rattle.kh_types.proofs.Lists.{Contains-map}
use Rattle.kh_types.proofs.Tests.{agree, other-differs, unless-forth}
use Rattle.cell_laws.proofs.Members.{Contains-cases, Contains-first, Contains-kept, Contains-made, sum_by-members}
use Rattle.square_laws.proofs.LabelNumbers.{number_from}
use Rattle.square_laws.proofs.TouchedCircles.{fits}
use Rattle.view_laws.specs.Partitions.{AgreeOn, is_kept, label_in, seen}
use Rattle.view_laws.specs.Views.{HasCircles, IsView, View, circle_at, closed_at, together}
use Rattle.view_laws.proofs.EdgePoints.{counts_all, fits-points, keeps_point, keeps_points, kept-back, kept-forth, same_at, unless-back}
use Rattle.view_laws.proofs.Seen.{label-alike, seen-alike, seen-apart, seen-from, seen-once}
use Rattle.view_laws.proofs.Shown.{all-ones, are-points, closed-name, count-parts, key, lab, label-in, seen-part, seen_part}
use Rattle.view_laws.proofs.SameClosed.{Changes}
use Rattle.view_laws.proofs.Tests.{all-at, all-from, map-agree, sum-taken}

-- at the state `alone` the circle of z closes inside, at the state `joined` nothing does; all names are together alike
module _ (code : Code) (view : View) (is : IsView code view) (circles : HasCircles code) (alone joined : ℕ)
    (alone_below : alone < 2 ^ length code.crossings) (joined_below : joined < 2 ^ length code.crossings) (z : ℕ)
    (alone_closed : closed_at view alone ≡ z ∷ []) (joined_closed : closed_at view joined ≡ [])
    (alike : AgreeOn view.names (together code view alone) (together code view joined)) where
  abbrev pub points : List ℕ
  points = (z ∷ []) ++ map view.arc view.names

  abbrev pub r : ℕ → ℕ → Bool
  r = together code view alone

  abbrev pub s : ℕ → ℕ → Bool
  s = together code view joined

  z-closed : Contains (closed_at view alone) z
  z-closed = subst (λ (xs : List ℕ). Contains xs z) (sym alone_closed) (Contains-first z [])

  z-name : IsName code z
  z-name = closed-name code view is circles alone alone_below z z-closed

  z-apart : (n : ℕ) → Contains view.names n → circle_at code alone z ≢ circle_at code alone (view.arc n)
  z-apart n has = is.apart alone z n alone_below z-closed has

  -- where z is on a circle that is seen, with a name
  record IsWith (n : ℕ) : Type 0 where
    has : Contains view.names n
    one : circle_at code joined (view.arc n) ≡ circle_at code joined z

  z-with : (n : ℕ) × IsWith n
  z-with = elim (is.shows joined z joined_below z-name) [
    | inl shows ↦ (shows.0, record { has = shows.1; one = shows.2 })
    | inr closes ↦ absurd (omega (arith, (subst (λ (xs : List ℕ). Contains xs closes.0) joined_closed closes.1).1))
  ]

  abbrev seen_alone : List ℕ
  seen_alone = seen r view.names

  same-seen : seen_alone ≡ seen s view.names
  same-seen = seen-alike r s view.names alike

  -- names on another circle are kept, and z is not
  name-kept : (n : ℕ) → Contains view.names n → circle_at code joined (view.arc n) ≢ circle_at code joined z
      → (y : ℕ) → Contains points y → same_at code alone (view.arc n) y ≡ same_at code joined (view.arc n) y
  name-kept n has other y has_y = elim (Contains-append_cases (z ∷ []) (map view.arc view.names) y has_y) [
    | inl in_z ↦ elim (Contains-cases z y [] in_z) [
      | inr none ↦ absurd (omega (arith, none.1))
      | inl here ↦
          ne_eqb (circle_at code alone (view.arc n)) (circle_at code alone y)
          (λ same. z-apart n has (ap (circle_at code alone) here ∙ sym same))
          ∙ sym (ne_eqb (circle_at code joined (view.arc n)) (circle_at code joined y)
          (λ same. other (same ∙ ap (circle_at code joined) (sym here))))
    ]
    | inr in_arcs ↦
        let made = Contains-made view.arc view.names y in_arcs in
        ap (same_at code alone (view.arc n)) (sym made.2) ∙ alike n made.0 has made.1 ∙ ap (same_at code joined (view.arc n)) made.2
  ]

  pub z-differs : ((y : ℕ) → Contains points y → same_at code alone z y ≡ same_at code joined z y) → ⊥
  z-differs same =
      let n = z-with.0 in
      let with_z = z-with.1 in
      both_ways (same_at code alone z (view.arc n))
      (ne_eqb (circle_at code alone z) (circle_at code alone (view.arc n)) (z-apart n with_z.has))
      (same (view.arc n)
      (Contains-append_right (z ∷ []) (map view.arc view.names) (view.arc n) (Contains-map view.arc view.names n with_z.has))
      ∙ eq-eqb (circle_at code joined z) (circle_at code joined (view.arc n)) (sym with_z.one))

  module _ (a j : ℕ) where
    abbrev pub u : ℕ → ℕ
    u n = lab code view is circles alone alone_below a (view.arc n)

    abbrev pub v : ℕ → ℕ
    v n = lab code view is circles joined joined_below j (view.arc n)

    abbrev pub l : ℕ
    l = seen_part code view is circles alone alone_below a

    abbrev pub m : ℕ
    m = seen_part code view is circles joined joined_below j

    abbrev pub z_label : ℕ
    z_label = lab code view is circles alone alone_below a z

    abbrev SameLabels : Type 0
    SameLabels = (n : ℕ) → Contains view.names n → u n ≡ v n

    -- labels of all names are the same where the numbers are
    labels-forth : l ≡ m → SameLabels
    labels-forth same n has =
        sym (label-in code view is circles alone alone_below a n has)
        ∙ label-alike r s view.names alike l n has
        ∙ ap (λ k. label_in s view.names k n) same
        ∙ label-in code view is circles joined joined_below j n has

    labels-back : ((n : ℕ) → Contains seen_alone n → u n ≡ v n) → l ≡ m
    labels-back same =
        seen-part code view is circles alone alone_below a
        ∙ ap number_from (map-agree u v seen_alone same)
        ∙ ap (λ (xs : List ℕ). number_from (map v xs)) same-seen
        ∙ sym (seen-part code view is circles joined joined_below j)

    -- as many labels are v- on what is seen, and labels are the same but maybe on the circle of z: then they are the same there too
    labels-all : ((n : ℕ) → Contains view.names n → circle_at code joined (view.arc n) ≢ circle_at code joined z → u n ≡ v n)
        → sum_by u seen_alone ≡ sum_by v seen_alone → (n : ℕ) → Contains seen_alone n → u n ≡ v n
    labels-all others sums n has =
        let named = λ (k : ℕ) (has_k : Contains seen_alone k).
        (seen-from (key code view is circles alone alone_below) view.names k has_k).0 in
        elim (cases_eq (circle_at code joined (view.arc n)) (circle_at code joined z)) [
          | inr other ↦ others n (named n has) other
          | inl one ↦
              let once = seen-once (key code view is circles alone alone_below) view.names is.once in
              let rest = filter (is_other n) seen_alone in
              let same_rest = sum_by-members u v rest
              (λ k has_k.
              let in_seen = Contains-kept (is_other n) seen_alone k has_k in
              others k (named k in_seen.0)
              (λ one_too. other-differs n k in_seen.1
              (seen-apart (key code view is circles joined joined_below) view.names k n
              (subst (λ (xs : List ℕ). Contains xs k) same-seen in_seen.0) (subst (λ (xs : List ℕ). Contains xs n) same-seen has)
              (one_too ∙ sym one)))) in
              omega (arith, sums, same_rest, sum-taken u seen_alone n once has, sum-taken v seen_alone n once has)
        ]

    -- how many labels are v-
    ones-alone : ones (circle_count code alone) a ≡ z_label + sum_by u seen_alone
    ones-alone =
        all-ones code view is circles alone alone_below a
        ∙ ap (λ n. n + sum_by u seen_alone)
        (ap (λ (xs : List ℕ). sum_by (lab code view is circles alone alone_below a) xs) alone_closed
        ∙ sum_by-cons (lab code view is circles alone alone_below a) z [] ∙ omega arith)

    ones-joined : ones (circle_count code joined) j ≡ sum_by v seen_alone
    ones-joined =
        all-ones code view is circles joined joined_below j
        ∙ ap₂ (λ (xs ys : List ℕ). sum_by (lab code view is circles joined joined_below j) xs + sum_by v ys) joined_closed (sym same-seen)
        ∙ nothing (sum_by v seen_alone)
      where
        nothing : (n : ℕ) → 0 + n ≡ n
        nothing n = omega arith

    pub more-alone : circle_count code alone ≡ circle_count code joined + 1
    more-alone =
        let first = count-parts code view is circles alone alone_below
        ∙ ap (λ (xs : List ℕ). length xs + length seen_alone) alone_closed in
        let second = count-parts code view is circles joined joined_below
        ∙ ap₂ (λ (xs ys : List ℕ). length xs + length ys) joined_closed (sym same-seen) in
        omega (arith, first, second)

    sums-same : SameLabels → sum_by u seen_alone ≡ sum_by v seen_alone
    sums-same same =
        sum_by-members u v seen_alone
        (λ n has. same n (seen-from (key code view is circles alone alone_below) view.names n has).0)

    -- the merge
    merge-forth : z_label ≡ 0 → keeps_points code points alone joined a j ≡ true → counts_all code alone joined a j ≡ true → l ≡ m
    merge-forth plus keeps counts =
        let fewer : one_if (nat_lt (circle_count code alone) (circle_count code joined)) ≡ 0 =
        ap one_if (le-ltb (circle_count code alone) (circle_count code joined) (omega (arith, more-alone))) in
        let total = eqb-true (ones (circle_count code joined) j)
        (ones (circle_count code alone) a + one_if (nat_lt (circle_count code alone) (circle_count code joined))) counts in
        labels-back (labels-all
        (λ n has other.
        eqb-true (u n) (v n)
        (unless-forth (is_kept (same_at code alone) (same_at code joined) points (view.arc n)) (nat_eq (u n) (v n))
        (all-at (keeps_point code points alone joined a j) points (view.arc n) keeps
        (Contains-append_right (z ∷ []) (map view.arc view.names) (view.arc n) (Contains-map view.arc view.names n has)))
        (kept-back (same_at code alone) (same_at code joined) points (view.arc n) (name-kept n has other))))
        (omega (arith, plus, fewer, total, ones-alone, ones-joined)))

    merge-back : z_label ≡ 0 → l ≡ m → (keeps_points code points alone joined a j && counts_all code alone joined a j) ≡ true
    merge-back plus same =
        let labels = labels-forth same in
        let fewer : one_if (nat_lt (circle_count code alone) (circle_count code joined)) ≡ 0 =
        ap one_if (le-ltb (circle_count code alone) (circle_count code joined) (omega (arith, more-alone))) in
        and_from (keeps_points code points alone joined a j) (counts_all code alone joined a j)
        (all-from (keeps_point code points alone joined a j) points
        (λ x has.
        unless-back (is_kept (same_at code alone) (same_at code joined) points x)
        (nat_eq (lab code view is circles alone alone_below a x) (lab code view is circles joined joined_below j x))
        (λ kept. elim (Contains-append_cases (z ∷ []) (map view.arc view.names) x has) [
          | inl in_z ↦ elim (Contains-cases z x [] in_z) [
            | inr none ↦ absurd (omega (arith, none.1))
            | inl here ↦
                absurd (z-differs (kept-forth (same_at code alone) (same_at code joined) points z
                (ap (is_kept (same_at code alone) (same_at code joined) points) here ∙ kept)))
          ]
          | inr in_arcs ↦
              let made = Contains-made view.arc view.names x in_arcs in
              eq-eqb (lab code view is circles alone alone_below a x) (lab code view is circles joined joined_below j x)
              (ap (lab code view is circles alone alone_below a) (sym made.2) ∙ labels made.0 made.1
              ∙ ap (lab code view is circles joined joined_below j) made.2)
        ])))
        (eq-eqb (ones (circle_count code joined) j)
        (ones (circle_count code alone) a + one_if (nat_lt (circle_count code alone) (circle_count code joined)))
        (omega (arith, plus, fewer, sums-same labels, ones-alone, ones-joined)))

    -- the split
    split-forth : z_label ≡ 1 → keeps_points code points joined alone j a ≡ true → counts_all code joined alone j a ≡ true → l ≡ m
    split-forth minus keeps counts =
        let more : one_if (nat_lt (circle_count code joined) (circle_count code alone)) ≡ 1 =
        ap one_if (lt-ltb (circle_count code joined) (circle_count code alone) (omega (arith, more-alone))) in
        let total = eqb-true (ones (circle_count code alone) a)
        (ones (circle_count code joined) j + one_if (nat_lt (circle_count code joined) (circle_count code alone))) counts in
        labels-back (labels-all
        (λ n has other.
        sym (eqb-true (v n) (u n)
        (unless-forth (is_kept (same_at code joined) (same_at code alone) points (view.arc n)) (nat_eq (v n) (u n))
        (all-at (keeps_point code points joined alone j a) points (view.arc n) keeps
        (Contains-append_right (z ∷ []) (map view.arc view.names) (view.arc n) (Contains-map view.arc view.names n has)))
        (kept-back (same_at code joined) (same_at code alone) points (view.arc n) (λ y has_y. sym (name-kept n has other y has_y))))))
        (omega (arith, minus, more, total, ones-alone, ones-joined)))

    split-back : z_label ≡ 1 → l ≡ m → (keeps_points code points joined alone j a && counts_all code joined alone j a) ≡ true
    split-back minus same =
        let labels = labels-forth same in
        let more : one_if (nat_lt (circle_count code joined) (circle_count code alone)) ≡ 1 =
        ap one_if (lt-ltb (circle_count code joined) (circle_count code alone) (omega (arith, more-alone))) in
        and_from (keeps_points code points joined alone j a) (counts_all code joined alone j a)
        (all-from (keeps_point code points joined alone j a) points
        (λ x has.
        unless-back (is_kept (same_at code joined) (same_at code alone) points x)
        (nat_eq (lab code view is circles joined joined_below j x) (lab code view is circles alone alone_below a x))
        (λ kept. elim (Contains-append_cases (z ∷ []) (map view.arc view.names) x has) [
          | inl in_z ↦ elim (Contains-cases z x [] in_z) [
            | inr none ↦ absurd (omega (arith, none.1))
            | inl here ↦
                absurd (z-differs (λ y has_y. sym (kept-forth (same_at code joined) (same_at code alone) points z
                (ap (is_kept (same_at code joined) (same_at code alone) points) here ∙ kept) y has_y)))
          ]
          | inr in_arcs ↦
              let made = Contains-made view.arc view.names x in_arcs in
              eq-eqb (lab code view is circles joined joined_below j x) (lab code view is circles alone alone_below a x)
              (ap (lab code view is circles joined joined_below j) (sym made.2) ∙ sym (labels made.0 made.1)
              ∙ ap (lab code view is circles alone alone_below a) made.2)
        ])))
        (eq-eqb (ones (circle_count code alone) a)
        (ones (circle_count code joined) j + one_if (nat_lt (circle_count code joined) (circle_count code alone)))
        (omega (arith, minus, more, sums-same labels, ones-alone, ones-joined)))

    pub among-alone : (y : ℕ) → Contains (closed_at view alone) y → Contains (z ∷ []) y
    among-alone y has = subst (λ (xs : List ℕ). Contains xs y) alone_closed has

    pub among-joined : (y : ℕ) → Contains (closed_at view joined) y → Contains (z ∷ []) y
    among-joined y has = absurd (omega (arith, (subst (λ (xs : List ℕ). Contains xs y) joined_closed has).1))

    pub only-z : (y : ℕ) → Contains (z ∷ []) y → IsName code y
    only-z y has = elim (Contains-cases z y [] has) [
      | inl here ↦ subst (λ (x : ℕ). IsName code x) here z-name
      | inr none ↦ absurd (omega (arith, none.1))
    ]

    pub fits-merge : (crossing : ℕ) → Changes code alone joined crossing → z_label ≡ 0
        → fits code (generator_of alone a) (generator_of joined j) crossing ≡ nat_eq l m
    fits-merge crossing changes plus =
        fits-points code alone joined crossing points a j circles changes
        (are-points code view is circles alone alone_below (z ∷ []) only-z among-alone)
        (are-points code view is circles joined joined_below (z ∷ []) only-z among-joined)
        ∙ agree (keeps_points code points alone joined a j && counts_all code alone joined a j) (nat_eq l m)
        (λ passes.
        let both = and_parts (keeps_points code points alone joined a j) (counts_all code alone joined a j) passes in
        eq-eqb l m (merge-forth plus both.0 both.1))
        (λ passes. merge-back plus (eqb-true l m passes))

    pub fits-split : (crossing : ℕ) → Changes code joined alone crossing → z_label ≡ 1
        → fits code (generator_of joined j) (generator_of alone a) crossing ≡ nat_eq l m
    fits-split crossing changes minus =
        fits-points code joined alone crossing points j a circles changes
        (are-points code view is circles joined joined_below (z ∷ []) only-z among-joined)
        (are-points code view is circles alone alone_below (z ∷ []) only-z among-alone)
        ∙ agree (keeps_points code points joined alone j a && counts_all code joined alone j a) (nat_eq l m)
        (λ passes.
        let both = and_parts (keeps_points code points joined alone j a) (counts_all code joined alone j a) passes in
        eq-eqb l m (split-forth minus both.0 both.1))
        (λ passes. split-back minus (eqb-true l m passes))
