-- The open ends of segments under labels. Two segments have one label exactly where they are joined, and a label is the place of
-- a dart, or behind these one of 64 that stand for lines in the row, or behind these the number of a loop. A dart is bare; or
-- open, and its place stands in the row once; or it has found another dart, and neither stands there. The label of a line stands
-- twice in the row or not at all, and that of a loop never. The lemma is on two ends that are tied: their segments are joined and
-- leave the row, and one label is renamed to another. All is kept, if it is so of these two labels, which the lemma asks for: any
-- other label stays as it is, stands in the row as often as before, and keeps its dart's state. Ways to tie that meet this are
-- found in other files.
use Rattle.std.proofs.lemmas.Bool.Decides.{nat_tests}
use Rattle.std.proofs.Common.{◌≡◌, ◌≢◌, ℕ, ◌⊎◌, inl, inr, ◌+◌, ◌*◌, ◌<◌, ◌≤◌, ◌∙◌, List, [], ◌∷◌, ◌++◌, length, map, get_or, sym, ap, subst, refl, arith, Bool, true, false}
use Rattle.std.specs.List.{AllByRecursion}
use Rattle.kh_types.specs.Classes.{AreBelow, Respects}
use Rattle.kh_types.proofs.Lists.{AllByRecursion-append, AllByRecursion-first, AllByRecursion-second}
use Rattle.morse_drawing.proofs.NumberedEnds.{relabelled}
use Rattle.morse_drawing.specs.Sketches.{is_met, segment_met}
use Rattle.morse_drawing.proofs.EndTimes.{hit-apart, relabelled-old, relabelled-other, relabelled-same, times, times-old, times-other}

-- the state of the dart at a place: its crossing is not drawn; it leads to the row, where its place is the label; or it leads to
-- another dart
pub data DartEnd (limit : ℕ) (met : ℕ → Bool) (label : ℕ → ℕ) (row others : List ℕ) (x : ℕ) : Type 0 where
  bare : met x ≡ false → times x row ≡ 0 → get_or others x 0 ≡ 4 * limit → DartEnd limit met label row others x
  opened : met x ≡ true → label x ≡ x → times x row ≡ 1 → get_or others x 0 ≡ 4 * limit → DartEnd limit met label row others x
  paired_with : (y : ℕ) → met x ≡ true → met y ≡ true → y < 4 * limit → y ≢ x → get_or others x 0 ≡ y → get_or others y 0 ≡ x
      → times x row ≡ 0 → times y row ≡ 0 → label x ≡ label y → (label x ≡ x) ⊎ (label x ≡ y) → DartEnd limit met label row others x

-- what the label of a segment says: the place of a dart, a label in the row, or the number of a loop
pub data SegmentEnd (limit : ℕ) (met : ℕ → Bool) (label : ℕ → ℕ) (row : List ℕ) (loops n : ℕ) : Type 0 where
  at_dart : n < 4 * limit → met n ≡ true → label n ≡ n → SegmentEnd limit met label row loops n
  in_row : 4 * limit ≤ n → n < 4 * limit + 64 → 1 ≤ times n row → SegmentEnd limit met label row loops n
  on_loop : 4 * limit + 64 ≤ n → n < 4 * limit + 64 + loops → SegmentEnd limit met label row loops n

-- the numbered loop has a segment
pub record HasLoop (limit : ℕ) (name : ℕ → ℕ) (next loop : ℕ) : Type 0 where
  pub segment : ℕ
  pub below : segment < next
  pub named : name segment ≡ 4 * limit + 64 + loop

pub record Ends (limit : ℕ) (name : ℕ → ℕ) (next : ℕ) (joins met : List (ℕ × ℕ)) (segments others : List ℕ) (loops : ℕ) : Type 0 where
  pub joins_below : AreBelow next joins
  pub segments_below : AllByRecursion (λ p. p < next) segments
  pub met_below : (x : ℕ) → is_met met x ≡ true → (segment_met met x < next) × (x < 4 * limit)
  pub respects : Respects name joins
  pub apart : (f : ℕ → ℕ) → Respects f joins → (p q : ℕ) → p < next → q < next → name p ≡ name q → f p ≡ f q
  pub size : length others ≡ 4 * limit
  pub darts : (x : ℕ) → x < 4 * limit → DartEnd limit (is_met met) (λ z. name (segment_met met z)) (map name segments) others x
  pub named : (p : ℕ) → p < next → SegmentEnd limit (is_met met) (λ z. name (segment_met met z)) (map name segments) loops (name p)
  pub twice : (l : ℕ) → 4 * limit ≤ l → l < 4 * limit + 64 → (times l (map name segments) ≡ 0) ⊎ (times l (map name segments) ≡ 2)
  pub no_loops : (l : ℕ) → 4 * limit + 64 ≤ l → times l (map name segments) ≡ 0
  pub looped : (loop : ℕ) → loop < loops → HasLoop limit name next loop

-- the names after a label is renamed
abbrev pub name_after : ℕ → ℕ → (ℕ → ℕ) → ℕ → ℕ
name_after old new name p = relabelled old new (name p)

pub map-after : (old new : ℕ) (name : ℕ → ℕ) (segments : List ℕ)
    → map (name_after old new name) segments ≡ map (relabelled old new) (map name segments)
map-after old new name [] = refl
map-after old new name (p ∷ ps) = ap (λ xs. relabelled old new (name p) ∷ xs) (map-after old new name ps)

-- what has to be known where two ends are tied and one label is renamed
pub record Ties (limit : ℕ) (name : ℕ → ℕ) (next : ℕ) (joins met : List (ℕ × ℕ)) (a b : ℕ) (rest others later : List ℕ) (loops more old new : ℕ)
    : Type 0 where
  pub renamed : old ≢ new
  pub pair : relabelled old new (name a) ≡ relabelled old new (name b)
  pub joined : (f : ℕ → ℕ) → f a ≡ f b → Respects f joins → (p q : ℕ) → p < next → q < next → name p ≡ old → name q ≡ new → f p ≡ f q
  pub first : (name a ≡ old) ⊎ (name a ≡ new)
  pub second : (name b ≡ old) ⊎ (name b ≡ new)
  pub none : (x : ℕ) → x < 4 * limit → times x (map name (a ∷ b ∷ rest)) ≡ 0 → (x ≢ old) × (x ≢ new)
  pub kept : (x : ℕ) → x < 4 * limit → x ≢ old → x ≢ new → get_or later x 0 ≡ get_or others x 0
  pub size : length later ≡ 4 * limit
  pub darts : (x : ℕ) → x < 4 * limit → (x ≡ old) ⊎ (x ≡ new)
      → DartEnd limit (is_met met) (λ z. name_after old new name (segment_met met z)) (map (name_after old new name) rest) later x
  pub target : SegmentEnd limit (is_met met) (λ z. name_after old new name (segment_met met z)) (map (name_after old new name) rest) more new
  pub twice : 4 * limit ≤ new → new < 4 * limit + 64 → (times new (map (name_after old new name) rest) ≡ 0)
      ⊎ (times new (map (name_after old new name) rest) ≡ 2)
  pub no_loops : 4 * limit + 64 ≤ new → times new (map (name_after old new name) rest) ≡ 0
  pub few : old < 4 * limit + 64
  pub more_loops : loops ≤ more
  pub looped : (loop : ℕ) → loops ≤ loop → loop < more → HasLoop limit (name_after old new name) next loop

either : (x old new : ℕ) → (x ≡ old) ⊎ ((x ≡ new) ⊎ ((x ≢ old) × (x ≢ new)))
either x old new = grind (arith, nat_tests)

pub Ends-tied : (limit : ℕ) (name : ℕ → ℕ) (next : ℕ) (joins met : List (ℕ × ℕ)) (a b : ℕ) (rest others later : List ℕ)
    (loops more old new : ℕ) → Ends limit name next joins met (a ∷ b ∷ rest) others loops
    → Ties limit name next joins met a b rest others later loops more old new
    → Ends limit (name_after old new name) next (joins ++ (a, b) ∷ []) met rest later more
Ends-tied limit name next joins met a b rest others later loops more old new is ties = record {
  joins_below = AllByRecursion-append (λ (pair : ℕ × ℕ). (pair.0 < next) × (pair.1 < next)) joins ((a, b) ∷ []) is.joins_below ((is.segments_below.0, is.segments_below.1.0), tt);
  segments_below = is.segments_below.1.1;
  met_below = is.met_below;
  respects = AllByRecursion-append (λ (pair : ℕ × ℕ). new_name pair.0 ≡ new_name pair.1) joins ((a, b) ∷ []) (respects-after joins is.respects) (ties.pair, tt);
  apart = λ f holds p q p_below q_below same.
      apart-after f (AllByRecursion-first (λ (pair : ℕ × ℕ). f pair.0 ≡ f pair.1) joins ((a, b) ∷ []) holds)
      (AllByRecursion-second (λ (pair : ℕ × ℕ). f pair.0 ≡ f pair.1) joins ((a, b) ∷ []) holds).0 p q p_below q_below same;
  size = ties.size;
  darts = λ x below. dart-after x below (either x old new);
  named = λ p below. named-after p below (either (name p) old new);
  twice = λ l from below. twice-after l from below (either l old new);
  no_loops = λ l from. none-after l from (either l old new);
  looped = λ loop below. looped-after loop below;
}
  where
    new_name : ℕ → ℕ
    new_name = name_after old new name

    respects-after : (pairs : List (ℕ × ℕ)) → Respects name pairs → Respects new_name pairs
    respects-after [] holds = tt
    respects-after (pair ∷ pairs) holds = (ap (relabelled old new) holds.0, respects-after pairs holds.1)

    -- how often a label that is not tied stands in the row
    same-times : (x : ℕ) → x ≢ old → x ≢ new → times x (map new_name rest) ≡ times x (map name (a ∷ b ∷ rest))
    same-times x one two =
        omega (
          arith,
          ap (times x) (map-after old new name rest),
          times-other old new x (map name rest) one two,
          hit-apart (name a) x (λ same. elim ties.first [ inl is ↦ one (sym same ∙ is) | inr is ↦ two (sym same ∙ is) ]),
          hit-apart (name b) x (λ same. elim ties.second [ inl is ↦ one (sym same ∙ is) | inr is ↦ two (sym same ∙ is) ]),
        )

    apart-after : (f : ℕ → ℕ) → Respects f joins → f a ≡ f b → (p q : ℕ) → p < next → q < next → new_name p ≡ new_name q → f p ≡ f q
    apart-after f holds one p q p_below q_below same = elim (relabelled-same old new (name p) (name q) same) [
      | inl alike ↦ is.apart f holds p q p_below q_below alike
      | inr either ↦ elim either [
        | inl is ↦ ties.joined f one holds p q p_below q_below is.0 is.1
        | inr is ↦ sym (ties.joined f one holds q p q_below p_below is.1 is.0)
      ]
    ]

    dart-after : (x : ℕ) → x < 4 * limit → (x ≡ old) ⊎ ((x ≡ new) ⊎ ((x ≢ old) × (x ≢ new)))
        → DartEnd limit (is_met met) (λ z. new_name (segment_met met z)) (map new_name rest) later x
    dart-after x below (inl one) = ties.darts x below (inl one)
    dart-after x below (inr (inl two)) = ties.darts x below (inr two)
    dart-after x below (inr (inr other)) = elim (is.darts x below) [
      | bare unmet none alone ↦
          bare unmet (same-times x other.0 other.1 ∙ none) (ties.kept x below other.0 other.1 ∙ alone)
      | opened met_x label once alone ↦
          opened met_x
          (relabelled-other old new (name (segment_met met x)) (λ was. other.0 (sym label ∙ was)) ∙ label)
          (same-times x other.0 other.1 ∙ once) (ties.kept x below other.0 other.1 ∙ alone)
      | paired_with y met_x met_y y_below differs there back none none_y label label_is ↦
          let other_y = ties.none y y_below none_y in
          let kept_label : (n : ℕ) → (n ≡ x) ⊎ (n ≡ y) → relabelled old new n ≡ n =
          λ n is_n. relabelled-other old new n (λ was. elim is_n [ inl e ↦ other.0 (sym e ∙ was) | inr e ↦ other_y.0 (sym e ∙ was) ]) in
          paired_with y met_x met_y y_below differs (ties.kept x below other.0 other.1 ∙ there)
          (ties.kept y y_below other_y.0 other_y.1 ∙ back) (same-times x other.0 other.1 ∙ none)
          (same-times y other_y.0 other_y.1 ∙ none_y) (ap (relabelled old new) label)
          (elim label_is [
            | inl e ↦ inl (kept_label (name (segment_met met x)) (inl e) ∙ e)
            | inr e ↦ inr (kept_label (name (segment_met met x)) (inr e) ∙ e)
          ])
    ]

    named-after : (p : ℕ) → p < next → (name p ≡ old) ⊎ ((name p ≡ new) ⊎ ((name p ≢ old) × (name p ≢ new)))
        → SegmentEnd limit (is_met met) (λ z. new_name (segment_met met z)) (map new_name rest) more (new_name p)
    named-after p below (inl one) =
        subst (λ (n : ℕ). SegmentEnd limit (is_met met) (λ z. new_name (segment_met met z)) (map new_name rest) more n) (sym (relabelled-old old new (name p) one)) ties.target
    named-after p below (inr (inl two)) =
        subst (λ (n : ℕ). SegmentEnd limit (is_met met) (λ z. new_name (segment_met met z)) (map new_name rest) more n)
        (sym (relabelled-other old new (name p) (λ was. ties.renamed (sym was ∙ two)) ∙ two)) ties.target
    named-after p below (inr (inr other)) =
        subst (λ (n : ℕ). SegmentEnd limit (is_met met) (λ z. new_name (segment_met met z)) (map new_name rest) more n) (sym (relabelled-other old new (name p) other.0))
        (elim (is.named p below) [
          | at_dart n_below met_n label ↦
              at_dart n_below met_n (ap (relabelled old new) label ∙ relabelled-other old new (name p) other.0)
          | in_row from n_below stands ↦ in_row from n_below (omega (arith, stands, same-times (name p) other.0 other.1))
          | on_loop from n_below ↦ on_loop from (omega (arith, n_below, ties.more_loops))
        ])

    twice-after : (l : ℕ) → 4 * limit ≤ l → l < 4 * limit + 64 → (l ≡ old) ⊎ ((l ≡ new) ⊎ ((l ≢ old) × (l ≢ new)))
        → (times l (map new_name rest) ≡ 0) ⊎ (times l (map new_name rest) ≡ 2)
    twice-after l from below (inl one) =
        inl (ap (λ n. times n (map new_name rest)) one ∙ ap (times old) (map-after old new name rest)
        ∙ times-old old new (map name rest) ties.renamed)
    twice-after l from below (inr (inl two)) =
        subst (λ (n : ℕ). (times n (map new_name rest) ≡ 0) ⊎ (times n (map new_name rest) ≡ 2)) (sym two)
        (ties.twice (omega (arith, from, two)) (omega (arith, below, two)))
    twice-after l from below (inr (inr other)) = grind (arith, nat_tests, same-times l other.0 other.1)

    none-after : (l : ℕ) → 4 * limit + 64 ≤ l → (l ≡ old) ⊎ ((l ≡ new) ⊎ ((l ≢ old) × (l ≢ new))) → times l (map new_name rest) ≡ 0
    none-after l from (inl one) = absurd (omega (arith, from, one, ties.few))
    none-after l from (inr (inl two)) = ap (λ n. times n (map new_name rest)) two ∙ ties.no_loops (omega (arith, from, two))
    none-after l from (inr (inr other)) = same-times l other.0 other.1 ∙ is.no_loops l from

    looped-after : (loop : ℕ) → loop < more → HasLoop limit new_name next loop
    looped-after loop below = elim (cases-below loop loops) [
      | inr from ↦ ties.looped loop from below
      | inl before ↦
          let loop_is = is.looped loop before in
          record {
            segment = loop_is.segment;
            below = loop_is.below;
            named = relabelled-other old new (name loop_is.segment) (λ was. absurd (omega (arith, was, loop_is.named, ties.few))) ∙ loop_is.named;
          }
    ]
      where
        cases-below : (x y : ℕ) → (x < y) ⊎ (y ≤ x)
        cases-below x y = grind (arith)
