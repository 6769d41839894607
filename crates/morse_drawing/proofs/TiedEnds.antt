-- Two ends of a row are tied: they close a loop, or one label gives way to the other, or two darts find each other. A label of
-- the row is the place of a dart and stands there once, or it is that of a line with both ends in the row and stands there twice.
-- Three cases give what has to be known for the invariant of open ends. Where both labels are the same, one line is closed and
-- gets the name of a new loop. Else, where the first is of no dart, it gives way to the second. Else the second gives way to the
-- first, and where it is of a dart too, each of the two darts is noted as the other's partner. All is shown by counting how often
-- both labels stand in the rest of the row. At the end: nothing is left in the row of a line that is closed, nor of the second
-- label where it is a dart's.
use Rattle.std.proofs.Common.{◌≡◌, ◌≢◌, ℕ, inl, inr, ◌+◌, ◌*◌, ◌<◌, ◌≤◌, ◌∙◌, List, ◌∷◌, length, map, get_or, set, sym, ap, subst, refl, arith, Bool, true, false, cond}
use Rattle.std.specs.Prelude.{nat_le}
use Rattle.std.proofs.lemmas.Bool.Decides.{nat_tests}
use Rattle.std.proofs.lemmas.List.{get_or-set_other, get_or-set_same, length-set}
use Rattle.morse_drawing.proofs.NumberedEnds.{relabelled}
use Rattle.morse_drawing.specs.Sketches.{is_met, segment_met}
use Rattle.morse_drawing.proofs.EndTimes.{hit-apart, hit-same, relabelled-old, relabelled-other, times, times-new, times-old}
use Rattle.morse_drawing.proofs.Ends.{DartEnd, Ends, Ties, map-after, name_after}
use Rattle.morse_drawing.proofs.Ends.DartEnd.{opened, paired_with}
use Rattle.morse_drawing.proofs.Ends.SegmentEnd.{at_dart, in_row, on_loop}

-- a label of the row is the place of a dart and stands there once, or stands there twice
data EndLabel (limit : ℕ) (met : ℕ → Bool) (label : ℕ → ℕ) (row others : List ℕ) (u : ℕ) : Type 0 where
  of_dart : u < 4 * limit → met u ≡ true → label u ≡ u → times u row ≡ 1 → get_or others u 0 ≡ 4 * limit
      → EndLabel limit met label row others u
  of_two : 4 * limit ≤ u → u < 4 * limit + 64 → times u row ≡ 2 → EndLabel limit met label row others u

-- what the two labels are, and how often they stand in the rest
pub record TwoEnds (limit : ℕ) (name : ℕ → ℕ) (next : ℕ) (joins met : List (ℕ × ℕ)) (a b : ℕ) (rest others : List ℕ) (loops : ℕ) : Type 0 where
  is : Ends limit name next joins met (a ∷ b ∷ rest) others loops
  a_below : a < next
  b_below : b < next
  of_a : EndLabel limit (is_met met) (λ z. name (segment_met met z)) (map name (a ∷ b ∷ rest)) others (name a)
  of_b : EndLabel limit (is_met met) (λ z. name (segment_met met z)) (map name (a ∷ b ∷ rest)) others (name b)
  none : (x : ℕ) → times x (map name (a ∷ b ∷ rest)) ≡ 0 → (x ≢ name a) × (x ≢ name b)

pub two-ends : (limit : ℕ) (name : ℕ → ℕ) (next : ℕ) (joins met : List (ℕ × ℕ)) (a b : ℕ) (rest others : List ℕ) (loops : ℕ)
    → Ends limit name next joins met (a ∷ b ∷ rest) others loops → TwoEnds limit name next joins met a b rest others loops
two-ends limit name next joins met a b rest others loops is = grind (arith, nat_tests)

-- one line is closed
pub tied-loop : (limit : ℕ) (name : ℕ → ℕ) (next : ℕ) (joins met : List (ℕ × ℕ)) (a b : ℕ) (rest others : List ℕ) (loops : ℕ)
    → TwoEnds limit name next joins met a b rest others loops → name a ≡ name b
    → Ties limit name next joins met a b rest others others loops (loops + 1) (name a) (4 * limit + 64 + loops)
tied-loop limit name next joins met a b rest others loops two same = elim two.of_a [
  | of_dart below met_u label once alone ↦
      absurd (omega (arith, once, hit-same (name a) (name a) refl, hit-same (name b) (name a) (sym same)))
  | of_two from below twice ↦
      let new = 4 * limit + 64 + loops in
      let apart : name a ≢ new = λ was. absurd (omega (arith, was, below)) in
      let none_left : times (name a) (map name rest) ≡ 0 =
      omega (arith, twice, hit-same (name a) (name a) refl, hit-same (name b) (name a) (sym same)) in
      record {
        renamed = apart;
        pair = ap (relabelled (name a) new) same;
        joined = λ f one holds p q p_below q_below was is_new. absurd (no_loop q q_below is_new);
        first = inl refl;
        second = inl (sym same);
        none = λ x x_below zero. ((two.none x zero).0, λ was. absurd (omega (arith, was, x_below)));
        kept = λ x x_below one other. refl;
        size = two.is.size;
        darts = λ x x_below either. absurd (elim either [
          | inl was ↦ omega (arith, was, x_below, from)
          | inr was ↦ omega (arith, was, x_below)
        ]);
        target = on_loop (omega arith) (omega arith);
        twice = λ new_from new_below. absurd (omega (arith, new_below));
        no_loops = λ new_from.
            omega (
              arith,
              ap (times new) (map-after (name a) new name rest),
              times-new (name a) new (map name rest) apart,
              none_left,
              two.is.no_loops new (omega arith),
            );
        few = below;
        more_loops = omega arith;
        looped = λ loop loop_from loop_below.
            let last : loop ≡ loops = omega (arith, loop_from, loop_below) in
            record {
              segment = a;
              below = two.a_below;
              named = relabelled-old (name a) new (name a) refl ∙ ap (λ k. 4 * limit + 64 + k) (sym last);
            };
      }
]
  where
    no_loop : (q : ℕ) → q < next → name q ≡ 4 * limit + 64 + loops → ⊥
    no_loop q q_below is_new = elim (two.is.named q q_below) [
      | at_dart n_below met_n at ↦ omega (arith, is_new, n_below)
      | in_row from n_below stands ↦ omega (arith, is_new, n_below)
      | on_loop from n_below ↦ omega (arith, is_new, n_below)
    ]

-- the first label gives way to the second
pub tied-first : (limit : ℕ) (name : ℕ → ℕ) (next : ℕ) (joins met : List (ℕ × ℕ)) (a b : ℕ) (rest others : List ℕ) (loops : ℕ)
    → TwoEnds limit name next joins met a b rest others loops → name a ≢ name b → 4 * limit ≤ name a
    → Ties limit name next joins met a b rest others others loops loops (name a) (name b)
tied-first limit name next joins met a b rest others loops two apart from_a = elim two.of_a [
  | of_dart below met_u label once alone ↦ absurd (omega (arith, below, from_a))
  | of_two from below twice ↦
      let u = name a in
      let v = name b in
      let one_left : times u (map name rest) ≡ 1 =
      omega (arith, twice, hit-same u u refl, hit-apart v u (λ same. apart (sym same))) in
      let later : times v (map (name_after u v name) rest) ≡ times v (map name rest) + 1 =
      omega (arith, ap (times v) (map-after u v name rest), times-new u v (map name rest) apart, one_left) in
      let in_all : times v (map name (a ∷ b ∷ rest)) ≡ 1 + times v (map name rest) =
      omega (arith, hit-apart u v apart, hit-same v v refl) in
      record {
        renamed = apart;
        pair = relabelled-old u v u refl ∙ sym (relabelled-other u v v (λ same. apart (sym same)));
        joined = λ f one holds p q p_below q_below was is_new.
            two.is.apart f holds p a p_below two.a_below was ∙ one ∙ two.is.apart f holds b q two.b_below q_below (sym is_new);
        first = inl refl;
        second = inr refl;
        none = λ x x_below zero. two.none x zero;
        kept = λ x x_below one other. refl;
        size = two.is.size;
        darts = λ x x_below either. elim either [
          | inl was ↦ absurd (omega (arith, was, x_below, from))
          | inr was ↦
              subst (λ (z : ℕ). DartEnd limit (is_met met) (λ y. name_after u v name (segment_met met y)) (map (name_after u v name) rest) others z)
              (sym was) (elim two.of_b [
                | of_two v_from v_below v_twice ↦ absurd (omega (arith, was, x_below, v_from))
                | of_dart v_below met_v label once alone ↦
                    opened met_v (ap (relabelled u v) label ∙ relabelled-other u v v (λ same. apart (sym same)))
                    (omega (arith, later, in_all, once)) alone
              ])
        ];
        target = elim two.of_b [
          | of_two v_from v_below v_twice ↦ in_row v_from v_below (omega (arith, later))
          | of_dart v_below met_v label once alone ↦
              at_dart v_below met_v (ap (relabelled u v) label ∙ relabelled-other u v v (λ same. apart (sym same)))
        ];
        twice = λ v_from v_below. elim two.of_b [
          | of_two from_v below_v v_twice ↦ inr (omega (arith, later, in_all, v_twice))
          | of_dart below_v met_v label once alone ↦ absurd (omega (arith, below_v, v_from))
        ];
        no_loops = λ v_from. absurd (elim two.of_b [
          | of_two from_v below_v v_twice ↦ omega (arith, below_v, v_from)
          | of_dart below_v met_v label once alone ↦ omega (arith, below_v, v_from)
        ]);
        few = below;
        more_loops = omega arith;
        looped = λ loop loop_from loop_below. absurd (omega (arith, loop_from, loop_below));
      }
]

-- the others after two darts have found each other, where the second is one
abbrev pub found : ℕ → ℕ → ℕ → List ℕ → List ℕ
found limit u v others = cond (nat_le (4 * limit) v) others (set (set others u v) v u)

-- the second label gives way to the first, which is the place of a dart
pub tied-second : (limit : ℕ) (name : ℕ → ℕ) (next : ℕ) (joins met : List (ℕ × ℕ)) (a b : ℕ) (rest others : List ℕ) (loops : ℕ)
    → TwoEnds limit name next joins met a b rest others loops → name a ≢ name b → name a < 4 * limit
    → Ties limit name next joins met a b rest others (found limit (name a) (name b) others) loops loops (name b) (name a)
tied-second limit name next joins met a b rest others loops two apart below_a = elim two.of_a [
  | of_two from below twice ↦ absurd (omega (arith, from, below_a))
  | of_dart u_below met_u label_u once_u alone_u ↦
      let u = name a in
      let v = name b in
      let back : v ≢ u = λ same. apart (sym same) in
      let none_left : times u (map name rest) ≡ 0 = omega (arith, once_u, hit-same u u refl) in
      let later : times u (map (name_after v u name) rest) ≡ times v (map name rest) =
      omega (arith, ap (times u) (map-after v u name rest), times-new v u (map name rest) back, none_left) in
      let in_all : times v (map name (a ∷ b ∷ rest)) ≡ 1 + times v (map name rest) =
      omega (arith, hit-apart u v apart, hit-same v v refl) in
      let label_is : name_after v u name (segment_met met u) ≡ u =
      ap (relabelled v u) label_u ∙ relabelled-other v u u apart in
      let same_found : 4 * limit ≤ v → found limit u v others ≡ others =
      λ from. let late : nat_le (4 * limit) v ≡ true = grind (arith, nat_tests) in
      ap (λ c. cond c others (set (set others u v) v u)) late in
      let new_found : v < 4 * limit → found limit u v others ≡ set (set others u v) v u =
      λ below. let early : nat_le (4 * limit) v ≡ false = grind (arith, nat_tests) in
      ap (λ c. cond c others (set (set others u v) v u)) early in
      let size_two : length (set (set others u v) v u) ≡ 4 * limit =
      length-set (set others u v) v u ∙ length-set others u v ∙ two.is.size in
      let at_u : v < 4 * limit → get_or (found limit u v others) u 0 ≡ v =
      λ below. ap (λ xs. get_or xs u 0) (new_found below) ∙ get_or-set_other (set others u v) v u u 0 apart
      ∙ get_or-set_same others u v 0 (omega (arith, u_below, two.is.size)) in
      let at_v : v < 4 * limit → get_or (found limit u v others) v 0 ≡ u =
      λ below. ap (λ xs. get_or xs v 0) (new_found below)
      ∙ get_or-set_same (set others u v) v u 0 (omega (arith, below, length-set others u v, two.is.size)) in
      record {
        renamed = back;
        pair = relabelled-other v u u apart ∙ sym (relabelled-old v u v refl);
        joined = λ f one holds p q p_below q_below was is_new.
            two.is.apart f holds p b p_below two.b_below was ∙ sym one ∙ two.is.apart f holds a q two.a_below q_below (sym is_new);
        first = inr refl;
        second = inl refl;
        none = λ x x_below zero. ((two.none x zero).1, (two.none x zero).0);
        kept = λ x x_below one other. elim two.of_b [
          | of_two v_from v_below v_twice ↦ ap (λ xs. get_or xs x 0) (same_found v_from)
          | of_dart v_below met_v label once alone ↦
              ap (λ xs. get_or xs x 0) (new_found v_below) ∙ get_or-set_other (set others u v) v x u 0 one
              ∙ get_or-set_other others u x v 0 other
        ];
        size = elim two.of_b [
          | of_two v_from v_below v_twice ↦ ap (λ xs. length xs) (same_found v_from) ∙ two.is.size
          | of_dart v_below met_v label once alone ↦ ap (λ xs. length xs) (new_found v_below) ∙ size_two
        ];
        darts = λ x x_below either. elim two.of_b [
          | of_two v_from v_below v_twice ↦ elim either [
            | inl was ↦ absurd (omega (arith, was, x_below, v_from))
            | inr was ↦
                subst (λ (z : ℕ). End z) (sym was)
                (opened met_u label_is (omega (arith, later, in_all, v_twice)) (ap (λ xs. get_or xs u 0) (same_found v_from) ∙ alone_u))
          ]
          | of_dart v_below met_v label_v once_v alone_v ↦
              let label_back : name_after v u name (segment_met met v) ≡ u =
              ap (relabelled v u) label_v ∙ relabelled-old v u v refl in
              let none_u : times u (map (name_after v u name) rest) ≡ 0 = omega (arith, later, in_all, once_v) in
              let none_v : times v (map (name_after v u name) rest) ≡ 0 =
              ap (times v) (map-after v u name rest) ∙ times-old v u (map name rest) back in
              elim either [
                | inl was ↦
                    subst (λ (z : ℕ). End z) (sym was)
                    (paired_with u met_v met_u u_below apart (at_v v_below) (at_u v_below) none_v none_u (label_back ∙ sym label_is)
                    (inr label_back))
                | inr was ↦
                    subst (λ (z : ℕ). End z) (sym was)
                    (paired_with v met_u met_v v_below back (at_u v_below) (at_v v_below) none_u none_v (label_is ∙ sym label_back)
                    (inl label_is))
              ]
        ];
        target = at_dart u_below met_u label_is;
        twice = λ from below. absurd (omega (arith, from, u_below));
        no_loops = λ from. absurd (omega (arith, from, u_below));
        few = elim two.of_b [
          | of_two v_from v_below v_twice ↦ v_below
          | of_dart v_below met_v label once alone ↦ omega (arith, v_below)
        ];
        more_loops = omega arith;
        looped = λ loop loop_from loop_below. absurd (omega (arith, loop_from, loop_below));
      }
]
  where
    End : ℕ → Type 0
    End x =
        DartEnd limit (is_met met) (λ y. name_after (name b) (name a) name (segment_met met y))
        (map (name_after (name b) (name a) name) rest)
        (found limit (name a) (name b) others) x

-- what is left in the row: nothing of a line that is closed, nor of a dart
pub loop-left : (limit : ℕ) (name : ℕ → ℕ) (next : ℕ) (joins met : List (ℕ × ℕ)) (a b : ℕ) (rest others : List ℕ) (loops : ℕ)
    → TwoEnds limit name next joins met a b rest others loops → name a ≡ name b → times (name a) (map name rest) ≡ 0
loop-left limit name next joins met a b rest others loops two same = grind (arith, nat_tests)

pub dart-left : (limit : ℕ) (name : ℕ → ℕ) (next : ℕ) (joins met : List (ℕ × ℕ)) (a b : ℕ) (rest others : List ℕ) (loops : ℕ)
    → TwoEnds limit name next joins met a b rest others loops → name b < 4 * limit → times (name b) (map name rest) ≡ 0
dart-left limit name next joins met a b rest others loops two below_b = grind (arith, nat_tests)
