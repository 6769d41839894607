-- Edges between states at which the same circles close inside: those keep their labels, and what is seen changes by its saddle's number.
use Rattle.std.proofs.Common.{◌≡◌, ◌≢◌, ℕ, zero, suc, ◌⊎◌, inl, inr, ◌+◌, ◌^◌, ◌<◌, ◌≤◌, ◌∙◌, List, [], ◌∷◌, ◌++◌, length, map, refl, sym, subst, ap, ap₂, arith, Bool, true, false, not, ◌&&◌, ◌||◌}
use Rattle.std.specs.Prelude.{nat_eq, nat_lt}
use Rattle.std.specs.List.{Contains, list_all, sum_by}
use Rattle.std.proofs.lemmas.Bool.{eq-eqb, eqb-true, lt-ltb, ltb-true, ne_eqb}
use Rattle.std.proofs.lemmas.List.Elements.{Contains-append_cases}
use Rattle.std.proofs.lemmas.List.Folds.{list_all-append, list_all-map}
use Rattle.kh_types.specs.Bits.{one_if, ones}
use Rattle.kh_types.specs.Circles.{circle_count}
use Rattle.kh_types.specs.CircleNumbers.{IsName}
use Rattle.kh_types.specs.Code.{Code}
use Rattle.kh_types.specs.Edges.{TwoBecomeOne}
use Rattle.kh_types.specs.Generators.{generator_of}
use Rattle.kh_types.proofs.Tests.{agree, nat_eq-plus}
use Rattle.cell_laws.proofs.Members.{Contains-made}
use Rattle.square_laws.proofs.LabelNumbers.{number_from}
use Rattle.square_laws.proofs.TouchedCircles.{fits}
use Rattle.view_laws.specs.Partitions.{counts_labels, is_kept, keeps_classes, label_in, seen_count}
use Rattle.view_laws.specs.Views.{HasCircles, IsView, View, circle_at, closed_at, together}
use Rattle.view_laws.proofs.CircleNames.{label-small}
use Rattle.view_laws.proofs.EdgePoints.{counts_all, fits-points, keeps_point, kept-back, same_at}
use Rattle.view_laws.proofs.Shown.{all-ones, are-points, closed-name, closed_part, count-parts, few-closed, lab, label-in, ones-closed, ones-seen, seen_part}
use Rattle.view_laws.proofs.Tests.{all-agree, all-from}
use Rattle.cell_laws.proofs.Labels.{bits-same}

-- along an edge two circles become one, or one becomes two
abbrev pub Changes : Code → ℕ → ℕ → ℕ → Type 0
Changes code before behind crossing =
    (kept : ℕ) × (gone : ℕ) × (TwoBecomeOne code before behind crossing kept gone ⊎ TwoBecomeOne code behind before crossing kept gone)

pub few-same : (xs : List ℕ) (x y : ℕ) → length xs ≤ 1 → Contains xs x → Contains xs y → x ≡ y
few-same [] x y few has has_too = absurd (omega (arith, has.1))
few-same (z ∷ []) x y few (zero, below, is) (zero, below_too, is_too) = sym is ∙ is_too
few-same (z ∷ []) x y few (suc k, below, is) has_too = absurd (omega (arith, below))
few-same (z ∷ []) x y few (zero, below, is) (suc k, below_too, is_too) = absurd (omega (arith, below_too))
few-same (z ∷ w ∷ xs) x y few has has_too = absurd (omega (arith, few))

pub lt-more : (a m n : ℕ) → nat_lt (a + m) (a + n) ≡ nat_lt m n
lt-more a m n =
    agree (nat_lt (a + m) (a + n)) (nat_lt m n) (λ passes. lt-ltb m n (omega (arith, ltb-true (a + m) (a + n) passes)))
    (λ passes. lt-ltb (a + m) (a + n) (omega (arith, ltb-true m n passes)))

module _ (code : Code) (view : View) (is : IsView code view) (circles : HasCircles code) (before behind : ℕ)
    (before_below : before < 2 ^ length code.crossings) (behind_below : behind < 2 ^ length code.crossings)
    (same_closed : closed_at view behind ≡ closed_at view before) where
  abbrev pub zs : List ℕ
  zs = closed_at view before

  abbrev pub points : List ℕ
  points = zs ++ map view.arc view.names

  abbrev pub r : ℕ → ℕ → Bool
  r = together code view before

  abbrev pub s : ℕ → ℕ → Bool
  s = together code view behind

  few : length zs ≤ 1
  few = few-closed code view is circles before before_below

  pub named : (z : ℕ) → Contains zs z → IsName code z
  named = closed-name code view is circles before before_below

  apart-before : (z n : ℕ) → Contains zs z → Contains view.names n → circle_at code before z ≢ circle_at code before (view.arc n)
  apart-before z n has has_n = is.apart before z n before_below has has_n

  apart-behind : (z n : ℕ) → Contains zs z → Contains view.names n → circle_at code behind z ≢ circle_at code behind (view.arc n)
  apart-behind z n has has_n =
      is.apart behind z n behind_below (subst (λ (xs : List ℕ). Contains xs z) (sym same_closed) has) has_n

  -- a circle that closes has the same points before and behind: only its own
  pub closed-kept : (z : ℕ) → Contains zs z → is_kept (same_at code before) (same_at code behind) points z ≡ true
  closed-kept z has =
      kept-back (same_at code before) (same_at code behind) points z
      (λ y has_y. elim (Contains-append_cases zs (map view.arc view.names) y has_y) [
        | inl in_zs ↦
            let one = few-same zs z y few has in_zs in
            eq-eqb (circle_at code before z) (circle_at code before y) (ap (circle_at code before) one)
            ∙ sym (eq-eqb (circle_at code behind z) (circle_at code behind y) (ap (circle_at code behind) one))
        | inr in_arcs ↦
            let made = Contains-made view.arc view.names y in_arcs in
            ne_eqb (circle_at code before z) (circle_at code before y)
            (λ same. apart-before z made.0 has made.1 (same ∙ ap (circle_at code before) (sym made.2)))
            ∙ sym (ne_eqb (circle_at code behind z) (circle_at code behind y)
            (λ same. apart-behind z made.0 has made.1 (same ∙ ap (circle_at code behind) (sym made.2))))
      ])

  -- and a name is kept among the points where it is kept among the names
  pub name-kept : (n : ℕ) → Contains view.names n
      → is_kept (same_at code before) (same_at code behind) points (view.arc n) ≡ is_kept r s view.names n
  name-kept n has =
      let test = λ (y : ℕ). nat_eq (one_if (same_at code before (view.arc n) y)) (one_if (same_at code behind (view.arc n) y)) in
      list_all-append test zs (map view.arc view.names)
      ∙ ap₂ (λ a b. a && b)
      (all-from test zs
      (λ z has_z.
      eq-eqb (one_if (same_at code before (view.arc n) z)) (one_if (same_at code behind (view.arc n) z))
      (ap one_if (ne_eqb (circle_at code before (view.arc n)) (circle_at code before z) (λ same. apart-before z n has_z has (sym same))
      ∙ sym (ne_eqb (circle_at code behind (view.arc n)) (circle_at code behind z) (λ same. apart-behind z n has_z has (sym same)))))))
      (list_all-map test view.arc view.names)

  module _ (label other : ℕ) where
    abbrev pub c : ℕ
    c = closed_part code view is circles before before_below label

    abbrev pub d : ℕ
    d = closed_part code view is circles behind behind_below other

    abbrev pub l : ℕ
    l = seen_part code view is circles before before_below label

    abbrev pub m : ℕ
    m = seen_part code view is circles behind behind_below other

    abbrev pub u : ℕ → ℕ
    u = lab code view is circles before before_below label

    abbrev pub v : ℕ → ℕ
    v = lab code view is circles behind behind_below other

    pub keeps-closed : list_all (keeps_point code points before behind label other) zs ≡ nat_eq c d
    keeps-closed =
        all-agree (keeps_point code points before behind label other) (λ z. nat_eq (u z) (v z)) zs
        (λ z has. ap (λ b. not b || nat_eq (u z) (v z)) (closed-kept z has))
        ∙ sym (ap (λ (xs : List ℕ). nat_eq c (number_from (map v xs))) same_closed
        ∙ bits-same u v zs (λ x. label-small code before label x) (λ x. label-small code behind other x))

    pub keeps-names : list_all (keeps_point code points before behind label other) (map view.arc view.names)
        ≡ keeps_classes r s view.names l m
    keeps-names =
        list_all-map (keeps_point code points before behind label other) view.arc view.names
        ∙ all-agree (λ n. keeps_point code points before behind label other (view.arc n))
        (λ n. not (is_kept r s view.names n) || nat_eq (label_in r view.names l n) (label_in s view.names m n)) view.names
        (λ n has.
        ap₂ (λ a b. not a || b) (name-kept n has)
        (ap₂ nat_eq (sym (label-in code view is circles before before_below label n has))
        (sym (label-in code view is circles behind behind_below other n has))))

    counts-seen : c ≡ d → counts_all code before behind label other ≡ counts_labels r s view.names l m
    counts-seen same =
        let a = length zs in
        let i = sum_by u zs in
        let j = sum_by v (closed_at view behind) in
        let same_ones : i ≡ j =
        sym (ones-closed code view is circles before before_below label) ∙ ap (λ n. ones a n) same
        ∙ ap (λ (xs : List ℕ). ones (length xs) d) (sym same_closed) ∙ ones-closed code view is circles behind behind_below other in
        let count_before : circle_count code before ≡ a + seen_count r view.names = count-parts code view is circles before before_below in
        let count_behind : circle_count code behind ≡ a + seen_count s view.names =
        count-parts code view is circles behind behind_below
        ∙ ap (λ (xs : List ℕ). length xs + seen_count s view.names) same_closed in
        let ones_before : ones (circle_count code before) label ≡ i + ones (seen_count r view.names) l =
        all-ones code view is circles before before_below label
        ∙ ap (λ n. i + n) (sym (ones-seen code view is circles before before_below label)) in
        let ones_behind : ones (circle_count code behind) other ≡ i + ones (seen_count s view.names) m =
        all-ones code view is circles behind behind_below other
        ∙ ap₂ (λ x y. x + y) (sym same_ones) (sym (ones-seen code view is circles behind behind_below other)) in
        let more : one_if (nat_lt (circle_count code before) (circle_count code behind))
        ≡ one_if (nat_lt (seen_count r view.names) (seen_count s view.names)) =
        ap one_if (ap₂ nat_lt count_before count_behind ∙ lt-more a (seen_count r view.names) (seen_count s view.names)) in
        ap₂ nat_eq ones_behind
        (ap₂ (λ x y. x + y) ones_before more
        ∙ grouped i (ones (seen_count r view.names) l) (one_if (nat_lt (seen_count r view.names) (seen_count s view.names))))
        ∙ nat_eq-plus i (ones (seen_count s view.names) m)
        (ones (seen_count r view.names) l + one_if (nat_lt (seen_count r view.names) (seen_count s view.names)))
      where
        grouped : (a b c : ℕ) → a + b + c ≡ a + (b + c)
        grouped a b c = omega arith

    pub fits-seen : (crossing : ℕ) → Changes code before behind crossing
        → fits code (generator_of before label) (generator_of behind other) crossing
        ≡ (nat_eq c d && (keeps_classes r s view.names l m && counts_labels r s view.names l m))
    fits-seen crossing changes =
        fits-points code before behind crossing points label other circles changes
        (are-points code view is circles before before_below zs named (λ z has. has))
        (are-points code view is circles behind behind_below zs named (λ z has. subst (λ (xs : List ℕ). Contains xs z) same_closed has))
        ∙ ap (λ b. b && counts_all code before behind label other)
        (list_all-append (keeps_point code points before behind label other) zs (map view.arc view.names)
        ∙ ap₂ (λ a b. a && b) keeps-closed keeps-names)
        ∙ nested (nat_eq c d) (keeps_classes r s view.names l m) (counts_all code before behind label other)
        (counts_labels r s view.names l m) (λ passes. counts-seen (eqb-true c d passes))
      where
        nested : (a b c d : Bool) → (a ≡ true → c ≡ d) → ((a && b) && c) ≡ (a && (b && d))
        nested true b c d same = ap (λ x. b && x) (same refl)
        nested false b c d same = refl
