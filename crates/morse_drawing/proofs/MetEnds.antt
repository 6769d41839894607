-- Two ends of different labels are tied, and an end meets a dart.
use Rattle.std.proofs.Common.{◌≡◌, ◌≢◌, ℕ, inl, inr, ◌+◌, ◌*◌, ◌<◌, ◌∙◌, List, [], ◌∷◌, ◌++◌, map, set, sym, ap, subst, refl, arith, Bool, false, cond, true}
use Rattle.std.specs.Prelude.{nat_le}
use Rattle.std.specs.List.{AllByRecursion}
use Rattle.std.proofs.lemmas.Bool.{cases_Bool}
use Rattle.std.proofs.lemmas.Bool.Decides.{nat_tests}
use Rattle.morse_drawing.proofs.NumberedEnds.{NumberedEnds, relabelled, tied}
use Rattle.morse_drawing.specs.Sketches.{is_met}
use Rattle.morse_drawing.proofs.EndMoves.{Ends-dropped, Ends-moved, Ends-started, fresh, fresh-new, fresh-old, map-fresh}
use Rattle.morse_drawing.proofs.EndTimes.{hit-same, map-relabelled_none, times}
use Rattle.morse_drawing.proofs.Ends.{Ends, Ends-tied, map-after, name_after}
use Rattle.morse_drawing.proofs.TiedEnds.{TwoEnds, found, tied-first, tied-second, two-ends}

-- of two labels, the one that gives way and the one that is kept, and the darts that have found each other
abbrev pub given_way : ℕ → ℕ → ℕ → ℕ
given_way limit u v = cond (nat_le (4 * limit) u) u v

abbrev pub kept_label : ℕ → ℕ → ℕ → ℕ
kept_label limit u v = cond (nat_le (4 * limit) u) v u

abbrev pub others_found : ℕ → ℕ → ℕ → List ℕ → List ℕ
others_found limit u v others = cond (nat_le (4 * limit) u) others (found limit u v others)

abbrev pub with_row : NumberedEnds → List ℕ → List ℕ → NumberedEnds
with_row s row others = record { row = row; others = others; drawn = s.drawn; loops = s.loops }

-- the row in which they are tied
pub tied-is : (limit : ℕ) (s : NumberedEnds) (u v : ℕ) → (u < 4 * limit → v < 4 * limit → times v s.row ≡ 0)
    → tied limit s u v ≡ with_row s (map (relabelled (given_way limit u v) (kept_label limit u v)) s.row) (others_found limit u v s.others)
tied-is limit s u v none =
    by_case (nat_le (4 * limit) u) (nat_le (4 * limit) v)
    (λ first second. map-relabelled_none v u s.row (none (le-false (4 * limit) u first) (le-false (4 * limit) v second)))
  where
    by_case : (a b : Bool) → (a ≡ false → b ≡ false → map (relabelled v u) s.row ≡ s.row)
        → cond a (with_row s (map (relabelled u v) s.row) s.others)
        (cond b (with_row s (map (relabelled v u) s.row) s.others) (with_row s s.row (set (set s.others u v) v u)))
        ≡ with_row s (map (relabelled (cond a u v) (cond a v u)) s.row) (cond a s.others (cond b s.others (set (set s.others u v) v u)))
    by_case true b same = refl
    by_case false true same = refl
    by_case false false same = ap (λ row. with_row s row (set (set s.others u v) v u)) (sym (same refl refl))

    le-false : (x y : ℕ) → nat_le x y ≡ false → y < x
    le-false x y fails = grind (arith, nat_tests)

-- two ends of different labels
pub Ends-two : (limit : ℕ) (name : ℕ → ℕ) (next : ℕ) (joins met : List (ℕ × ℕ)) (a b : ℕ) (rest others : List ℕ) (loops u v : ℕ)
    → Ends limit name next joins met (a ∷ b ∷ rest) others loops → name a ≡ u → name b ≡ v → u ≢ v
    → Ends limit (name_after (given_way limit u v) (kept_label limit u v) name) next (joins ++ (a, b) ∷ []) met rest
    (others_found limit u v others) loops
Ends-two limit name next joins met a b rest others loops u v is at_a at_b apart =
    subst (λ (x : ℕ). Goal x v) at_a (subst (λ (y : ℕ). Goal (name a) y) at_b (elim (cases_Bool (nat_le (4 * limit) (name a))) [
      | inl first ↦
          subst (λ (c : Bool). Part c) (sym first)
          (Ends-tied limit name next joins met a b rest others others loops loops (name a) (name b) is
          (tied-first limit name next joins met a b rest others loops two differ (grind (arith, nat_tests))))
      | inr second ↦
          subst (λ (c : Bool). Part c) (sym second)
          (Ends-tied limit name next joins met a b rest others (found limit (name a) (name b) others) loops loops (name b) (name a) is
          (tied-second limit name next joins met a b rest others loops two differ (grind (arith, nat_tests))))
    ]))
  where
    Goal : ℕ → ℕ → Type 0
    Goal x y =
        Ends limit (name_after (given_way limit x y) (kept_label limit x y) name) next (joins ++ (a, b) ∷ []) met rest
        (others_found limit x y others) loops

    Part : Bool → Type 0
    Part c =
        Ends limit (name_after (cond c (name a) (name b)) (cond c (name b) (name a)) name) next (joins ++ (a, b) ∷ []) met rest
        (cond c others (found limit (name a) (name b) others)) loops

    two : TwoEnds limit name next joins met a b rest others loops
    two = two-ends limit name next joins met a b rest others loops is

    differ : name a ≢ name b
    differ = λ same. apart (sym at_a ∙ same ∙ at_b)

-- the names after an end has met a dart
abbrev pub met_name : ℕ → (ℕ → ℕ) → ℕ → ℕ → ℕ → ℕ → ℕ
met_name limit name next a d p = name_after (given_way limit (name a) d) (kept_label limit (name a) d) (fresh next d name) p

pub map-met : (limit : ℕ) (name : ℕ → ℕ) (next a d : ℕ) (segments : List ℕ) → AllByRecursion (λ p. p < next) segments
    → map (met_name limit name next a d) segments
    ≡ map (relabelled (given_way limit (name a) d) (kept_label limit (name a) d)) (map name segments)
map-met limit name next a d segments below =
    map-after (given_way limit (name a) d) (kept_label limit (name a) d) (fresh next d name) segments
    ∙ ap (map (relabelled (given_way limit (name a) d) (kept_label limit (name a) d))) (map-fresh next d name segments below)

-- a dart of a crossing that is not drawn stands nowhere in the row
pub bare-none : (limit : ℕ) (name : ℕ → ℕ) (next : ℕ) (joins met : List (ℕ × ℕ)) (segments others : List ℕ) (loops d : ℕ)
    → Ends limit name next joins met segments others loops → d < 4 * limit → is_met met d ≡ false → times d (map name segments) ≡ 0
bare-none limit name next joins met segments others loops d is below unmet = grind (arith, nat_tests)

-- an end meets a dart
pub Ends-meets : (limit : ℕ) (name : ℕ → ℕ) (next : ℕ) (joins met : List (ℕ × ℕ)) (a : ℕ) (rest others : List ℕ) (loops d : ℕ)
    → Ends limit name next joins met (a ∷ rest) others loops → d < 4 * limit → is_met met d ≡ false
    → Ends limit (met_name limit name next a d) next joins ((d, a) ∷ met) rest (others_found limit (name a) d others) loops
Ends-meets limit name next joins met a rest others loops d is d_below unmet =
    let begun = Ends-started limit name next joins met (a ∷ rest) others loops d is d_below unmet in
    let moved = Ends-moved limit (fresh next d name) (next + 1) joins ((d, next) ∷ met) ((d, next) ∷ met) (next ∷ a ∷ rest)
    (a ∷ next ∷ rest) others loops begun (λ y. refl) (λ y met_y. refl)
    (begun.segments_below.1.0, (begun.segments_below.0, begun.segments_below.1.1)) (λ n. omega arith) in
    let none = bare-none limit name next joins met (a ∷ rest) others loops d is d_below unmet in
    let apart : name a ≢ d = λ same. absurd (omega (arith, none, hit-same (name a) d same)) in
    let joined = Ends-two limit (fresh next d name) (next + 1) joins ((d, next) ∷ met) a next rest others loops (name a) d moved
    (fresh-old next d name a is.segments_below.0) (fresh-new next d name next (omega arith)) apart in
    Ends-dropped limit (met_name limit name next a d) next joins met rest (others_found limit (name a) d others) loops d a joined
    is.segments_below.0 is.joins_below is.segments_below.1 (λ x met_x. (is.met_below x met_x).0)
