-- Four moves keep what is known of open ends, that is of the labels of segments, the states of darts and the labels in the row.
-- First, the row is put in another order, and the list of darts too: only how often each label stands is asked. Second, a segment
-- begins at a dart that has met none; its label is the place of the dart, which no old segment has. Third, a cap begins two
-- joined segments under a label that nothing has, which then stands twice in the row. In both the old segments keep their labels.
-- Fourth, a dart that began a segment which was tied to an end meets that end itself: the last segment is left out, and the end
-- has the same label, as the two were tied.
use Rattle.std.proofs.Common.{◌≡◌, ◌≢◌, ℕ, ◌⊎◌, inl, inr, ◌+◌, ◌*◌, ◌<◌, ◌≤◌, ◌∙◌, List, [], ◌∷◌, ◌++◌, map, get_or, sym, ap, ap₂, subst, refl, arith, Bool, true, false, cond}
use Rattle.std.specs.Prelude.{◌||◌, nat_lt}
use Rattle.std.specs.List.{AllByRecursion}
use Rattle.std.proofs.lemmas.Bool.{both_ways, cases_eq, eq-eqb, ne_eqb, cases_lt}
use Rattle.std.proofs.lemmas.Bool.Decides.{nat_tests}
use Rattle.kh_types.specs.Classes.{AreBelow}
use Rattle.kh_types.proofs.ClassCounts.{AreBelow-wider}
use Rattle.kh_types.proofs.Lists.{AllByRecursion-append, AllByRecursion-first, AllByRecursion-second, AllByRecursion-weaker}
use Rattle.morse_drawing.specs.Sketches.{is_met, segment_met}
use Rattle.morse_drawing.proofs.EndTimes.{hit, hit-apart, hit-same, times}
use Rattle.morse_drawing.proofs.Ends.{DartEnd, Ends, SegmentEnd}
use Rattle.morse_drawing.proofs.Ends.DartEnd.{bare, opened, paired_with}
use Rattle.morse_drawing.proofs.Ends.SegmentEnd.{at_dart, in_row, on_loop}
use Rattle.morse_drawing.proofs.SketchParts.{respects-old}

DartEnd-same : (limit : ℕ) (met later : ℕ → Bool) (label new : ℕ → ℕ) (row moved others : List ℕ) (x : ℕ) → ((y : ℕ) → later y ≡ met y)
    → ((y : ℕ) → met y ≡ true → new y ≡ label y) → ((n : ℕ) → n < 4 * limit → met n ≡ true → times n moved ≡ times n row)
    → times x moved ≡ times x row → x < 4 * limit → DartEnd limit met label row others x → DartEnd limit later new moved others x
DartEnd-same limit met later label new row moved others x same_met same_label same_times same_x below is = elim is [
  | bare unmet none alone ↦ bare (same_met x ∙ unmet) (same_x ∙ none) alone
  | opened met_x at once alone ↦ opened (same_met x ∙ met_x) (same_label x met_x ∙ at) (same_x ∙ once) alone
  | paired_with y met_x met_y y_below differs there back none none_y same at ↦
      paired_with y (same_met x ∙ met_x) (same_met y ∙ met_y) y_below differs there back (same_x ∙ none)
      (same_times y y_below met_y ∙ none_y) (same_label x met_x ∙ same ∙ sym (same_label y met_y))
      (elim at [ inl e ↦ inl (same_label x met_x ∙ e) | inr e ↦ inr (same_label x met_x ∙ e) ])
]

-- the row in another order, and the darts in another
pub Ends-moved : (limit : ℕ) (name : ℕ → ℕ) (next : ℕ) (joins met later : List (ℕ × ℕ)) (segments moved others : List ℕ) (loops : ℕ)
    → Ends limit name next joins met segments others loops → ((y : ℕ) → is_met later y ≡ is_met met y)
    → ((y : ℕ) → is_met met y ≡ true → segment_met later y ≡ segment_met met y) → AllByRecursion (λ p. p < next) moved
    → ((n : ℕ) → times n (map name moved) ≡ times n (map name segments)) → Ends limit name next joins later moved others loops
Ends-moved limit name next joins met later segments moved others loops is same_met same_segment moved_below same = record {
  joins_below = is.joins_below;
  segments_below = moved_below;
  met_below = λ x met_x.
      let was = is.met_below x (sym (same_met x) ∙ met_x) in
      (subst (λ (p : ℕ). p < next) (sym (same_segment x (sym (same_met x) ∙ met_x))) was.0, was.1);
  respects = is.respects;
  apart = is.apart;
  size = is.size;
  darts = λ x below.
      DartEnd-same limit (is_met met) (is_met later) (λ z. name (segment_met met z)) (λ z. name (segment_met later z)) (map name segments)
      (map name moved) others x same_met (λ y met_y. ap name (same_segment y met_y)) (λ n n_below met_n. same n) (same x) below
      (is.darts x below);
  named = λ p below. elim (is.named p below) [
    | at_dart n_below met_n at ↦ at_dart n_below (same_met (name p) ∙ met_n) (ap name (same_segment (name p) met_n) ∙ at)
    | in_row from n_below stands ↦ in_row from n_below (omega (arith, stands, same (name p)))
    | on_loop from n_below ↦ on_loop from n_below
  ];
  twice = λ l from below. elim (is.twice l from below) [ inl none ↦ inl (same l ∙ none) | inr two ↦ inr (same l ∙ two) ];
  no_loops = λ l from. same l ∙ is.no_loops l from;
  looped = is.looped;
}

-- segments from a number on have a new name
abbrev pub fresh : ℕ → ℕ → (ℕ → ℕ) → ℕ → ℕ
fresh next new name p = cond (nat_lt p next) (name p) new

pub fresh-old : (next new : ℕ) (name : ℕ → ℕ) (p : ℕ) → p < next → fresh next new name p ≡ name p
fresh-old next new name p below = let test : nat_lt p next ≡ true = grind (arith, nat_tests) in ap (λ b. cond b (name p) new) test

pub fresh-new : (next new : ℕ) (name : ℕ → ℕ) (p : ℕ) → next ≤ p → fresh next new name p ≡ new
fresh-new next new name p from = let test : nat_lt p next ≡ false = grind (arith, nat_tests) in ap (λ b. cond b (name p) new) test

pub map-fresh : (next new : ℕ) (name : ℕ → ℕ) (segments : List ℕ) → AllByRecursion (λ p. p < next) segments
    → map (fresh next new name) segments ≡ map name segments
map-fresh next new name [] below = refl
map-fresh next new name (p ∷ ps) below = ap₂ (λ x xs. x ∷ xs) (fresh-old next new name p below.0) (map-fresh next new name ps below.1)

pub wider : (next more : ℕ) (segments : List ℕ) → next ≤ more → AllByRecursion (λ p. p < next) segments
    → AllByRecursion (λ p. p < more) segments
wider next more segments wide below =
    AllByRecursion-weaker (λ p. p < next) (λ p. p < more) segments (λ p p_below. omega (arith, p_below, wide)) below

met-one : (d p x : ℕ) (met : List (ℕ × ℕ)) → d ≡ x → is_met ((d, p) ∷ met) x ≡ true
met-one d p x met same = ap (λ b. b || is_met met x) (eq-eqb d x same)

pub met-rest : (d p x : ℕ) (met : List (ℕ × ℕ)) → d ≢ x → is_met ((d, p) ∷ met) x ≡ is_met met x
met-rest d p x met apart = ap (λ b. b || is_met met x) (ne_eqb d x apart)

segment-one : (d p x : ℕ) (met : List (ℕ × ℕ)) → d ≡ x → segment_met ((d, p) ∷ met) x ≡ p
segment-one d p x met same = ap (λ b. cond b p (segment_met met x)) (eq-eqb d x same)

segment-rest : (d p x : ℕ) (met : List (ℕ × ℕ)) → d ≢ x → segment_met ((d, p) ∷ met) x ≡ segment_met met x
segment-rest d p x met apart = ap (λ b. cond b p (segment_met met x)) (ne_eqb d x apart)

-- a segment begins at a dart
pub Ends-started : (limit : ℕ) (name : ℕ → ℕ) (next : ℕ) (joins met : List (ℕ × ℕ)) (segments others : List ℕ) (loops d : ℕ)
    → Ends limit name next joins met segments others loops → d < 4 * limit → is_met met d ≡ false
    → Ends limit (fresh next d name) (next + 1) joins ((d, next) ∷ met) (next ∷ segments) others loops
Ends-started limit name next joins met segments others loops d is d_below unmet = record {
  joins_below = AreBelow-wider next (next + 1) joins (omega arith) is.joins_below;
  segments_below = (omega arith, wider next (next + 1) segments (omega arith) is.segments_below);
  met_below = λ x met_x. elim (cases_eq d x) [
    | inl same ↦ (omega (arith, segment-one d next x met same), omega (arith, same, d_below))
    | inr other ↦
        let was = is.met_below x (sym (met-rest d next x met other) ∙ met_x) in
        (omega (arith, was.0, segment-rest d next x met other), was.1)
  ];
  respects = respects-old name (fresh next d name) next joins (λ x below. fresh-old next d name x below) is.joins_below is.respects;
  apart = λ f holds p q p_below q_below same. elim (cases_lt p next) [
    | inl p_old ↦ elim (cases_lt q next) [
      | inl q_old ↦ is.apart f holds p q p_old q_old (sym (fresh-old next d name p p_old) ∙ same ∙ fresh-old next d name q q_old)
      | inr q_new ↦ absurd (unnamed p p_old (sym (fresh-old next d name p p_old) ∙ same ∙ fresh-new next d name q q_new))
    ]
    | inr p_new ↦ elim (cases_lt q next) [
      | inl q_old ↦ absurd (unnamed q q_old (sym (fresh-old next d name q q_old) ∙ sym same ∙ fresh-new next d name p p_new))
      | inr q_new ↦ let one : p ≡ q = omega (arith, p_below, q_below, p_new, q_new) in ap f one
    ]
  ];
  size = is.size;
  darts = λ x below. elim (cases_eq d x) [
    | inl same ↦
        subst
        (λ (z : ℕ). DartEnd limit (is_met ((d, next) ∷ met)) (λ y. fresh next d name (segment_met ((d, next) ∷ met) y))
        (map (fresh next d name) (next ∷ segments)) others z) same
        (opened (met-one d next d met refl)
        (ap (fresh next d name) (segment-one d next d met refl) ∙ fresh-new next d name next (omega arith))
        (omega (arith, row-times d, hit-same d d refl, bare-times)) bare-others)
    | inr other ↦
        dart-other x below other (is.darts x below)
  ];
  named = λ p below. elim (cases_lt p next) [
    | inr new ↦
        subst
        (λ (n : ℕ). SegmentEnd limit (is_met ((d, next) ∷ met)) (λ y. fresh next d name (segment_met ((d, next) ∷ met) y))
        (map (fresh next d name) (next ∷ segments)) loops n) (sym (fresh-new next d name p new))
        (at_dart d_below (met-one d next d met refl)
        (ap (fresh next d name) (segment-one d next d met refl) ∙ fresh-new next d name next (omega arith)))
    | inl old ↦
        subst
        (λ (n : ℕ). SegmentEnd limit (is_met ((d, next) ∷ met)) (λ y. fresh next d name (segment_met ((d, next) ∷ met) y))
        (map (fresh next d name) (next ∷ segments)) loops n) (sym (fresh-old next d name p old))
        (elim (is.named p old) [
          | at_dart n_below met_n at ↦
              let other : d ≢ name p = λ same. both_ways (is_met met d) unmet (ap (is_met met) same ∙ met_n) in
              at_dart n_below (met-rest d next (name p) met other ∙ met_n) (label-other (name p) other met_n ∙ at)
          | in_row from n_below stands ↦ in_row from n_below (omega (arith, stands, row-times (name p)))
          | on_loop from n_below ↦ on_loop from n_below
        ])
  ];
  twice = λ l from below.
      let other : times l (map (fresh next d name) (next ∷ segments)) ≡ times l (map name segments) =
      omega (arith, row-times l, hit-apart d l (λ same. absurd (omega (arith, same, from, d_below)))) in
      elim (is.twice l from below) [ inl none ↦ inl (other ∙ none) | inr two ↦ inr (other ∙ two) ];
  no_loops = λ l from.
      omega (arith, row-times l, hit-apart d l (λ same. absurd (omega (arith, same, from, d_below))), is.no_loops l from);
  looped = λ loop below.
      let old = is.looped loop below in
      record { segment = old.segment; below = omega (arith, old.below); named = fresh-old next d name old.segment old.below ∙ old.named };
}
  where
    unnamed : (p : ℕ) → p < next → name p ≡ d → ⊥
    unnamed p below at_d = elim (is.named p below) [
      | at_dart n_below met_n at ↦ both_ways (is_met met d) unmet (sym (ap (is_met met) at_d) ∙ met_n)
      | in_row from n_below stands ↦ omega (arith, at_d, from, d_below)
      | on_loop from n_below ↦ omega (arith, at_d, from, d_below)
    ]

    row-times : (n : ℕ) → times n (map (fresh next d name) (next ∷ segments)) ≡ hit d n + times n (map name segments)
    row-times n =
        ap₂ (λ x xs. times n (x ∷ xs)) (fresh-new next d name next (omega arith)) (map-fresh next d name segments is.segments_below)

    bare-is : (times d (map name segments) ≡ 0) × (get_or others d 0 ≡ 4 * limit)
    bare-is = elim (is.darts d d_below) [
      | bare unmet_d none alone ↦ (none, alone)
      | opened met_d at once alone ↦ absurd (both_ways (is_met met d) unmet met_d)
      | paired_with y met_d met_y y_below differs there back none none_y same at ↦ absurd (both_ways (is_met met d) unmet met_d)
    ]

    bare-times : times d (map name segments) ≡ 0
    bare-times = bare-is.0

    bare-others : get_or others d 0 ≡ 4 * limit
    bare-others = bare-is.1

    label-other : (y : ℕ) → d ≢ y → is_met met y ≡ true → fresh next d name (segment_met ((d, next) ∷ met) y) ≡ name (segment_met met y)
    label-other y other met_y =
        ap (fresh next d name) (segment-rest d next y met other) ∙ fresh-old next d name (segment_met met y) (is.met_below y met_y).0

    dart-other : (x : ℕ) → x < 4 * limit → d ≢ x → DartEnd limit (is_met met) (λ z. name (segment_met met z)) (map name segments) others x
        → DartEnd limit (is_met ((d, next) ∷ met)) (λ y. fresh next d name (segment_met ((d, next) ∷ met) y))
        (map (fresh next d name) (next ∷ segments)) others x
    dart-other x below other dart = elim dart [
      | bare unmet_x none alone ↦
          bare (met-rest d next x met other ∙ unmet_x) (omega (arith, row-times x, none, hit-apart d x other)) alone
      | opened met_x at once alone ↦
          opened (met-rest d next x met other ∙ met_x) (label-other x other met_x ∙ at)
          (omega (arith, row-times x, once, hit-apart d x other)) alone
      | paired_with y met_x met_y y_below differs there back none none_y same at ↦
          let other_y : d ≢ y = λ is_d. both_ways (is_met met d) unmet (ap (is_met met) is_d ∙ met_y) in
          paired_with y (met-rest d next x met other ∙ met_x) (met-rest d next y met other_y ∙ met_y) y_below differs there back
          (omega (arith, row-times x, none, hit-apart d x other)) (omega (arith, row-times y, none_y, hit-apart d y other_y))
          (label-other x other met_x ∙ same ∙ sym (label-other y other_y met_y))
          (elim at [ inl e ↦ inl (label-other x other met_x ∙ e) | inr e ↦ inr (label-other x other met_x ∙ e) ])
    ]

-- two segments begin, joined, under a label that nothing has
pub Ends-capped : (limit : ℕ) (name : ℕ → ℕ) (next : ℕ) (joins met : List (ℕ × ℕ)) (segments others : List ℕ) (loops l : ℕ)
    → Ends limit name next joins met segments others loops → 4 * limit ≤ l → l < 4 * limit + 64 → times l (map name segments) ≡ 0
    → Ends limit (fresh next l name) (next + 2) (joins ++ (next, next + 1) ∷ []) met (next ∷ (next + 1) ∷ segments) others loops
Ends-capped limit name next joins met segments others loops l is from below none = record {
  joins_below = AllByRecursion-append (λ (pair : ℕ × ℕ). (pair.0 < next + 2) × (pair.1 < next + 2)) joins ((next, next + 1) ∷ [])
      (AreBelow-wider next (next + 2) joins (omega arith) is.joins_below) ((omega arith, omega arith), tt);
  segments_below = (omega arith, (omega arith, wider next (next + 2) segments (omega arith) is.segments_below));
  met_below = λ x met_x. let was = is.met_below x met_x in (omega (arith, was.0), was.1);
  respects = AllByRecursion-append (λ (pair : ℕ × ℕ). fresh next l name pair.0 ≡ fresh next l name pair.1) joins ((next, next + 1) ∷ [])
      (respects-old name (fresh next l name) next joins (λ x x_below. fresh-old next l name x x_below) is.joins_below is.respects)
      (fresh-new next l name next (omega arith) ∙ sym (fresh-new next l name (next + 1) (omega arith)), tt);
  apart = λ f holds p q p_below q_below same.
      let old_holds = AllByRecursion-first (λ (pair : ℕ × ℕ). f pair.0 ≡ f pair.1) joins ((next, next + 1) ∷ []) holds in
      let new_holds = (AllByRecursion-second (λ (pair : ℕ × ℕ). f pair.0 ≡ f pair.1) joins ((next, next + 1) ∷ []) holds).0 in
      elim (cases_lt p next) [
        | inl p_old ↦ elim (cases_lt q next) [
          | inl q_old ↦ is.apart f old_holds p q p_old q_old (sym (fresh-old next l name p p_old) ∙ same ∙ fresh-old next l name q q_old)
          | inr q_new ↦ absurd (unnamed p p_old (sym (fresh-old next l name p p_old) ∙ same ∙ fresh-new next l name q q_new))
        ]
        | inr p_new ↦ elim (cases_lt q next) [
          | inl q_old ↦ absurd (unnamed q q_old (sym (fresh-old next l name q q_old) ∙ sym same ∙ fresh-new next l name p p_new))
          | inr q_new ↦ both-new f new_holds p q p_new p_below q_new q_below
        ]
      ];
  size = is.size;
  darts = λ x x_below.
      DartEnd-same limit (is_met met) (is_met met) (λ z. name (segment_met met z)) (λ z. fresh next l name (segment_met met z))
      (map name segments) (map (fresh next l name) (next ∷ (next + 1) ∷ segments)) others x (λ y. refl)
      (λ y met_y. fresh-old next l name (segment_met met y) (is.met_below y met_y).0)
      (λ n n_below met_n. other-times n (λ same. absurd (omega (arith, same, n_below, from))))
      (other-times x (λ same. absurd (omega (arith, same, x_below, from)))) x_below (is.darts x x_below);
  named = λ p p_below. elim (cases_lt p next) [
    | inr new ↦
        subst
        (λ (n : ℕ). SegmentEnd limit (is_met met) (λ z. fresh next l name (segment_met met z))
        (map (fresh next l name) (next ∷ (next + 1) ∷ segments)) loops n) (sym (fresh-new next l name p new))
        (in_row from below (omega (arith, row-times l, hit-same l l refl)))
    | inl old ↦
        subst
        (λ (n : ℕ). SegmentEnd limit (is_met met) (λ z. fresh next l name (segment_met met z))
        (map (fresh next l name) (next ∷ (next + 1) ∷ segments)) loops n) (sym (fresh-old next l name p old))
        (elim (is.named p old) [
          | at_dart n_below met_n at ↦
              at_dart n_below met_n (fresh-old next l name (segment_met met (name p)) (is.met_below (name p) met_n).0 ∙ at)
          | in_row n_from n_below stands ↦ in_row n_from n_below (omega (arith, stands, row-times (name p)))
          | on_loop n_from n_below ↦ on_loop n_from n_below
        ])
  ];
  twice = λ k k_from k_below. elim (cases_eq k l) [
    | inl same ↦
        inr (ap (λ n. times n (map (fresh next l name) (next ∷ (next + 1) ∷ segments))) same
        ∙ omega (arith, row-times l, hit-same l l refl, none))
    | inr other ↦ elim (is.twice k k_from k_below) [
      | inl zero ↦ inl (other-times k other ∙ zero)
      | inr two ↦ inr (other-times k other ∙ two)
    ]
  ];
  no_loops = λ k k_from. other-times k (λ same. absurd (omega (arith, same, k_from, below))) ∙ is.no_loops k k_from;
  looped = λ loop loop_below.
      let old = is.looped loop loop_below in
      record { segment = old.segment; below = omega (arith, old.below); named = fresh-old next l name old.segment old.below ∙ old.named };
}
  where
    row-times : (n : ℕ) → times n (map (fresh next l name) (next ∷ (next + 1) ∷ segments)) ≡ hit l n + (hit l n + times n (map name segments))
    row-times n =
        ap (λ x. times n (x ∷ map (fresh next l name) ((next + 1) ∷ segments))) (fresh-new next l name next (omega arith))
        ∙ ap₂ (λ x xs. times n (l ∷ x ∷ xs)) (fresh-new next l name (next + 1) (omega arith)) (map-fresh next l name segments is.segments_below)

    other-times : (n : ℕ) → n ≢ l → times n (map (fresh next l name) (next ∷ (next + 1) ∷ segments)) ≡ times n (map name segments)
    other-times n other = omega (arith, row-times n, hit-apart l n (λ same. other (sym same)))

    unnamed : (p : ℕ) → p < next → name p ≡ l → ⊥
    unnamed p p_below at_l = elim (is.named p p_below) [
      | at_dart n_below met_n at ↦ omega (arith, at_l, from, n_below)
      | in_row n_from n_below stands ↦ omega (arith, stands, none, ap (λ n. times n (map name segments)) at_l)
      | on_loop n_from n_below ↦ omega (arith, at_l, n_from, below)
    ]

    both-new : (f : ℕ → ℕ) → f next ≡ f (next + 1) → (p q : ℕ) → next ≤ p → p < next + 2 → next ≤ q → q < next + 2 → f p ≡ f q
    both-new f one p q p_from p_below q_from q_below = at p p_from p_below ∙ sym (at q q_from q_below)
      where
        at : (k : ℕ) → next ≤ k → k < next + 2 → f k ≡ f next
        at k k_from k_below = grind (arith, nat_tests, cases_eq k next)

-- a dart that began a segment which was tied to an end meets that end
pub Ends-dropped : (limit : ℕ) (name : ℕ → ℕ) (next : ℕ) (joins met : List (ℕ × ℕ)) (segments others : List ℕ) (loops d a : ℕ)
    → Ends limit name (next + 1) (joins ++ (a, next) ∷ []) ((d, next) ∷ met) segments others loops → a < next → AreBelow next joins
    → AllByRecursion (λ p. p < next) segments → ((x : ℕ) → is_met met x ≡ true → segment_met met x < next)
    → Ends limit name next joins ((d, a) ∷ met) segments others loops
Ends-dropped limit name next joins met segments others loops d a is a_below joins_below segments_below met_below = record {
  joins_below = joins_below;
  segments_below = segments_below;
  met_below = λ x met_x. (segment-below x met_x (cases_eq d x), (is.met_below x met_x).1);
  respects = AllByRecursion-first (λ (pair : ℕ × ℕ). name pair.0 ≡ name pair.1) joins ((a, next) ∷ []) is.respects;
  apart = λ f holds p q p_below q_below same.
      sym (fresh-old next (f a) f p p_below)
      ∙ is.apart (fresh next (f a) f)
      (AllByRecursion-append (λ (pair : ℕ × ℕ). fresh next (f a) f pair.0 ≡ fresh next (f a) f pair.1) joins ((a, next) ∷ [])
      (respects-old f (fresh next (f a) f) next joins (λ x x_below. fresh-old next (f a) f x x_below) joins_below holds)
      (fresh-old next (f a) f a a_below ∙ sym (fresh-new next (f a) f next (omega arith)), tt)) p q (omega (arith, p_below))
      (omega (arith, q_below)) same
      ∙ fresh-old next (f a) f q q_below;
  size = is.size;
  darts = λ x below.
      DartEnd-same limit (is_met ((d, next) ∷ met)) (is_met ((d, a) ∷ met)) (λ z. name (segment_met ((d, next) ∷ met) z))
      (λ z. name (segment_met ((d, a) ∷ met) z)) (map name segments) (map name segments) others x (λ y. refl)
      (λ y met_y. same-label y (cases_eq d y)) (λ n n_below met_n. refl) refl below (is.darts x below);
  named = λ p below. elim (is.named p (omega (arith, below))) [
    | at_dart n_below met_n at ↦ at_dart n_below met_n (same-label (name p) (cases_eq d (name p)) ∙ at)
    | in_row from n_below stands ↦ in_row from n_below stands
    | on_loop from n_below ↦ on_loop from n_below
  ];
  twice = is.twice;
  no_loops = is.no_loops;
  looped = λ loop below.
      let old = is.looped loop below in
      elim (cases_lt old.segment next) [
        | inl early ↦ record { segment = old.segment; below = early; named = old.named }
        | inr late ↦
            let last : next ≡ old.segment = omega (arith, late, old.below) in
            record { segment = a; below = a_below; named = tied ∙ ap name last ∙ old.named }
      ];
}
  where
    tied : name a ≡ name next
    tied = (AllByRecursion-second (λ (pair : ℕ × ℕ). name pair.0 ≡ name pair.1) joins ((a, next) ∷ []) is.respects).0

    segment-below : (x : ℕ) → is_met ((d, a) ∷ met) x ≡ true → (d ≡ x) ⊎ (d ≢ x) → segment_met ((d, a) ∷ met) x < next
    segment-below x met_x (inl same) = omega (arith, segment-one d a x met same, a_below)
    segment-below x met_x (inr other) = grind (arith, nat_tests, segment-rest d a x met other, met-rest d a x met other)

    same-label : (y : ℕ) → (d ≡ y) ⊎ (d ≢ y) → name (segment_met ((d, a) ∷ met) y) ≡ name (segment_met ((d, next) ∷ met) y)
    same-label y (inl same) = ap name (segment-one d a y met same) ∙ tied ∙ sym (ap name (segment-one d next y met same))
    same-label y (inr other) = ap name (segment-rest d a y met other) ∙ sym (ap name (segment-rest d next y met other))
