-- The saddle at a crossing of a code: the closed circles of its two smoothings with a pairing, and the discs of the new pairings.
--
-- The two smoothings of a crossing of an accepted code join its four slots in two ways, from the same starts to the two ends exchanged:
-- this is the exchange of SaddleCounts. So with a pairing the closed circles and the discs of the two new pairings differ by one, on the
-- component of the crossing, and the saddle between them has no genus.
use Rattle.std.proofs.Common.{◌≡◌, ℕ, inl, inr, ◌+◌, ◌*◌, ◌%◌, ◌<◌, ◌∙◌, List, [], ◌∷◌, ◌++◌, sym, ap, ap₂, subst, length, arith, Bool, true, false, not, ◌&&◌, ◌||◌}
use Rattle.std.specs.Prelude.{nat_eq, slice_index, slice_index_or}
use Rattle.std.proofs.Math.Path.{fun_ext}
use Rattle.std.proofs.lemmas.Bool.{or_left, or_right}
use Rattle.kh_types.specs.Bits.{one_if}
use Rattle.kh_types.specs.Code.{Code, arc_in}
use Rattle.kh_types.specs.Classes.{classes_of, Respects, AreBelow}
use Rattle.kh_types.specs.Circles.{smoothing_of}
use Rattle.kh_types.specs.Colours.{IsColoured}
use Rattle.kh_types.specs.CircleSteps.{arc_at}
use Rattle.kh_types.proofs.ClassLemmas.{classes-together, classes-finest, Respects-append, Respects-first, Respects-second, AreBelow-append}
use Rattle.kh_types.proofs.JoinedClasses.{classes_of-same, IsNamed-classes_of}
use Rattle.kh_types.proofs.JoinedSlots.{arc_at-slot}
use Rattle.kh_types.proofs.BitLemmas.{bit-cases}
use Rattle.genus_laws.specs.Orbits.{is_in, count_in, parts_in}
use Rattle.genus_laws.specs.Surfaces.{Lead, other_than, ends_or_starts, is_disc}
use Rattle.genus_laws.specs.CutCodes.{is_inside, ends_there, starts_there}
use Rattle.genus_laws.specs.Pairings.{JoinOpen, JoinOpenAlone, is_closed_circle}
use Rattle.genus_laws.specs.Saddles.{JoinTwo}
use Rattle.genus_laws.proofs.PartCounts.{AreFiner}
use Rattle.genus_laws.proofs.Paths.{Lead-turned}
use Rattle.genus_laws.proofs.LeadLemmas.{AreApart, either, Lead-append, Lead-none}
use Rattle.genus_laws.proofs.CutTests.{stays, rounds, rounds_ends, rounds_starts, stays_ends, stays_starts, before_after}
use Rattle.genus_laws.proofs.CutSteps.{IsNext, IsPairAt, IsPairAt-turned, IsPairAt-slots, pair-below, pair-apart, inside-more, new-outside, Lead-more}
use Rattle.genus_laws.proofs.CutSurfaces.{size_of, is_either, pairs_at, smoothing-at}
use Rattle.genus_laws.proofs.GluedCircles.{circles-glued}
use Rattle.genus_laws.proofs.SaddleCounts.{saddle-counted}

-- a pairing before, and one after turned round, lead from all that does not end at the crossing to all that does not start there
Lead-round : (code : Code) (choice k u v r t : ℕ) (m pairs : List (ℕ × ℕ)) → IsNext code choice k → IsPairAt choice k 1 u v
    → IsPairAt choice k 0 r t
    → Lead (size_of code) (ends_there code.crossings choice k) (starts_there code.crossings choice k) m
    → Lead (size_of code) (ends_there code.crossings choice (k + 1)) (starts_there code.crossings choice (k + 1)) pairs
    → Lead (size_of code) (other_than (is_either code u v)) (other_than (is_either code r t)) (m ++ pairs)
Lead-round code choice k u v r t m pairs next ends starts before after =
    let crossings = code.crossings in
    let n = size_of code in
    let in_end : ℕ → Bool = is_inside crossings choice k 1 in
    let in_start : ℕ → Bool = is_inside crossings choice k 0 in
    let then_end : ℕ → Bool = is_inside crossings choice (k + 1) 1 in
    let then_start : ℕ → Bool = is_inside crossings choice (k + 1) 0 in
    let heads = is_either code u v in
    let tails = is_either code r t in
    let old_ends = ends_there crossings choice k in
    let old_starts = starts_there crossings choice k in
    let new_ends = ends_there crossings choice (k + 1) in
    let new_starts = starts_there crossings choice (k + 1) in
    let stay : ℕ → Bool = λ x. stays (in_end x) (in_start x) (then_end x) (then_start x) in
    let end_more : (x : ℕ) → then_end x ≡ (in_end x || heads x) = λ x. inside-more code choice k 1 u v x next ends in
    let start_more : (x : ℕ) → then_start x ≡ (in_start x || tails x) = λ x. inside-more code choice k 0 r t x next starts in
    let head_out : (x : ℕ) → heads x ≡ true → in_end x ≡ false = λ x. new-outside code choice k 1 u v x next ends in
    let tail_out : (x : ℕ) → tails x ≡ true → in_start x ≡ false = λ x. new-outside code choice k 0 r t x next starts in
    let ends_apart : AreApart n old_ends new_starts =
    λ x below is. ap (λ b. then_start x && not b) (end_more x) ∙ before_after (in_end x) (in_start x) (heads x) (then_start x) is in
    let starts_apart : AreApart n old_starts new_ends =
    λ x below is. ap (λ b. then_end x && not b) (start_more x) ∙ before_after (in_start x) (in_end x) (tails x) (then_end x) is in
    let stay_was : (x : ℕ) → stay x ≡ stays (in_end x) (in_start x) (in_end x || heads x) (in_start x || tails x) =
    λ x. ap₂ (λ b c. stays (in_end x) (in_start x) b c) (end_more x) (start_more x) in
    let stay_ends : AreApart n stay (either old_ends new_starts) =
    λ x below is.
    ap₂ (λ b c. rounds (in_end x) (in_start x) b c) (end_more x) (start_more x)
    ∙ stays_ends (in_end x) (in_start x) (heads x) (tails x) (head_out x) (tail_out x) (sym (stay_was x) ∙ is) in
    let stay_starts : AreApart n stay (either old_starts new_ends) =
    λ x below is.
    ap₂ (λ b c. rounds (in_start x) (in_end x) b c) (start_more x) (end_more x)
    ∙ stays_starts (in_end x) (in_start x) (heads x) (tails x) (head_out x) (tail_out x) (sym (stay_was x) ∙ is) in
    let ends_are : other_than heads ≡ either stay (either old_ends new_starts) =
    fun_ext (λ x. rounds_ends (in_end x) (in_start x) (heads x) (tails x) (head_out x) (tail_out x)
    ∙ sym (ap₂ (λ b c. stays (in_end x) (in_start x) b c || rounds (in_end x) (in_start x) b c) (end_more x) (start_more x))) in
    let starts_are : other_than tails ≡ either stay (either old_starts new_ends) =
    fun_ext (λ x. rounds_starts (in_end x) (in_start x) (heads x) (tails x) (head_out x) (tail_out x)
    ∙ sym (ap₂ (λ b c. stays (in_end x) (in_start x) b c || rounds (in_start x) (in_end x) c b) (end_more x) (start_more x))) in
    subst (λ (kind : ℕ → Bool). Lead n kind (other_than tails) (m ++ pairs)) (sym ends_are)
    (subst (λ (kind : ℕ → Bool). Lead n (either stay (either old_ends new_starts)) kind (m ++ pairs)) (sym starts_are)
    (Lead-append n stay stay (either old_ends new_starts) (either old_starts new_ends) [] (m ++ pairs) stay_ends stay_starts
    (Lead-none n stay)
    (Lead-append n old_ends old_starts new_starts new_ends m pairs ends_apart starts_apart before
    (Lead-turned n new_ends new_starts pairs after))))

-- what leads joins open points alone
alone-lead : (n : ℕ) (ends starts : ℕ → Bool) (pairs : List (ℕ × ℕ)) → Lead n ends starts pairs
    → JoinOpenAlone n (ends_or_starts ends starts) pairs
alone-lead n ends starts pairs lead g same =
    lead.only g (λ x below end.
    let next = lead.next x in
    same x next below (lead.next_below x below end) (or_left (ends x) (starts x) end)
    (or_right (ends next) (starts next) (lead.next_to x below end))
    (lead.joins (λ z. slice_index (classes_of n pairs) z) (classes-together n pairs lead.below) x below end))

-- the count, for two smoothings s and t that join ends a and a' with starts b and b', and with these exchanged
saddle-joined : (code : Code) (choice k u v r q : ℕ) (s t m m0 m1 : List (ℕ × ℕ)) → IsNext code choice k → IsPairAt choice k 1 u v
    → IsPairAt choice k 0 r q → AreBelow (size_of code) s → AreBelow (size_of code) t
    → JoinTwo s (arc_at code.crossings u) (arc_at code.crossings r) (arc_at code.crossings v) (arc_at code.crossings q)
    → JoinTwo t (arc_at code.crossings u) (arc_at code.crossings q) (arc_at code.crossings v) (arc_at code.crossings r)
    → Lead (size_of code) (ends_there code.crossings choice k) (starts_there code.crossings choice k) m
    → Lead (size_of code) (ends_there code.crossings choice (k + 1)) (starts_there code.crossings choice (k + 1)) m1
    → JoinOpen (size_of code) (ends_or_starts (ends_there code.crossings choice (k + 1)) (starts_there code.crossings choice (k + 1)))
    (classes_of (size_of code) (m ++ s)) m0
    → JoinOpen (size_of code) (ends_or_starts (ends_there code.crossings choice (k + 1)) (starts_there code.crossings choice (k + 1)))
    (classes_of (size_of code) (m ++ t)) m1
    → (name : ℕ) → name < size_of code → slice_index (classes_of (size_of code) (m ++ (s ++ t))) name ≡ name
    → let n = size_of code in let all = classes_of n (m ++ (s ++ t)) in
    let ends = ends_there code.crossings choice (k + 1) in let starts = starts_there code.crossings choice (k + 1) in
    (count_in n all name (is_closed_circle n (ends_or_starts ends starts) (classes_of n (m ++ s)))
    + count_in n all name (is_disc ends starts (classes_of n (m0 ++ m1))))
    + (count_in n all name (is_closed_circle n (ends_or_starts ends starts) (classes_of n (m ++ t)))
    + count_in n all name (is_disc ends starts (classes_of n (m1 ++ m1))))
    ≡ 2 + one_if (is_in all name (arc_at code.crossings u))
saddle-joined code choice k u v r q s t m m0 m1 next ends starts s_below t_below s_two t_two before after first second name below own =
    let crossings = code.crossings in
    let n = size_of code in
    let opened : ℕ → Bool = ends_or_starts (ends_there crossings choice (k + 1)) (starts_there crossings choice (k + 1)) in
    let all = classes_of n (m ++ (s ++ t)) in
    let a = arc_at crossings u in
    let all_below = AreBelow-append n m (s ++ t) before.below (AreBelow-append n s t s_below t_below) in
    let ms_below = AreBelow-append n m s before.below s_below in
    let mt_below = AreBelow-append n m t before.below t_below in
    let outer_below = AreBelow-append n m m1 before.below after.below in
    let alone = alone-lead n (ends_there crossings choice (k + 1)) (starts_there crossings choice (k + 1)) m1 after in
    -- what respects the pairing and the second smoothing respects the new pairing
    let new_respects : (g : ℕ → ℕ) → Respects g m → Respects g t → Respects g m1 =
    λ g g_m g_t. second.only g (λ x y x_below y_below x_open y_open same.
    classes-finest g n (m ++ t) (Respects-append g m t g_m g_t) mt_below x y x_below y_below same) in
    let all_are : all ≡ classes_of n (s ++ (t ++ (m ++ m1))) =
    classes_of-same n (m ++ (s ++ t)) (s ++ (t ++ (m ++ m1))) all_below
    (AreBelow-append n s (t ++ (m ++ m1)) s_below (AreBelow-append n t (m ++ m1) t_below outer_below))
    (λ g respects.
    let g_m = Respects-first g m (s ++ t) respects in
    let rest = Respects-second g m (s ++ t) respects in
    let g_s = Respects-first g s t rest in
    let g_t = Respects-second g s t rest in
    Respects-append g s (t ++ (m ++ m1)) g_s
    (Respects-append g t (m ++ m1) g_t (Respects-append g m m1 g_m (new_respects g g_m g_t))))
    (λ g respects.
    let g_s = Respects-first g s (t ++ (m ++ m1)) respects in
    let rest = Respects-second g s (t ++ (m ++ m1)) respects in
    let g_t = Respects-first g t (m ++ m1) rest in
    let g_m = Respects-first g m m1 (Respects-second g t (m ++ m1) rest) in
    Respects-append g m (s ++ t) g_m (Respects-append g s t g_s g_t)) in
    let turned : (o : List (ℕ × ℕ)) → AreBelow n o → classes_of n ((m ++ o) ++ m1) ≡ classes_of n (o ++ (m ++ m1)) =
    λ o o_below.
    classes_of-same n ((m ++ o) ++ m1) (o ++ (m ++ m1))
    (AreBelow-append n (m ++ o) m1 (AreBelow-append n m o before.below o_below) after.below)
    (AreBelow-append n o (m ++ m1) o_below outer_below)
    (λ g respects.
    let front = Respects-first g (m ++ o) m1 respects in
    Respects-append g o (m ++ m1) (Respects-second g m o front)
    (Respects-append g m m1 (Respects-first g m o front) (Respects-second g (m ++ o) m1 respects)))
    (λ g respects.
    let rest = Respects-second g o (m ++ m1) respects in
    Respects-append g (m ++ o) m1 (Respects-append g m o (Respects-first g m m1 rest) (Respects-first g o (m ++ m1) respects))
    (Respects-second g m m1 rest)) in
    let class : ℕ → ℕ = λ x. slice_index all x in
    let all_respects = classes-together n (m ++ (s ++ t)) all_below in
    let all_m = Respects-first class m (s ++ t) all_respects in
    let all_rest = Respects-second class m (s ++ t) all_respects in
    let all_s = Respects-first class s t all_rest in
    let all_t = Respects-second class s t all_rest in
    let all_new = new_respects class all_m all_t in
    let finer : (o : List (ℕ × ℕ)) → AreBelow n o → Respects class o → AreFiner n (classes_of n ((m ++ o) ++ m1)) all =
    λ o o_below all_o x x_below.
    let pairs_below = AreBelow-append n (m ++ o) m1 (AreBelow-append n m o before.below o_below) after.below in
    let named = IsNamed-classes_of n ((m ++ o) ++ m1) pairs_below in
    classes-finest class n ((m ++ o) ++ m1) (Respects-append class (m ++ o) m1 (Respects-append class m o all_m all_o) all_new) pairs_below
    (slice_index (classes_of n ((m ++ o) ++ m1)) x) x (omega (arith, named.least x x_below, x_below)) x_below (named.own x x_below) in
    let count : parts_in n all name (classes_of n (s ++ (m ++ m1))) + parts_in n all name (classes_of n (t ++ (m ++ m1)))
    ≡ 2 + one_if (is_in all name a) =
    subst (λ (cs : List ℕ).
    parts_in n cs name (classes_of n (s ++ (m ++ m1))) + parts_in n cs name (classes_of n (t ++ (m ++ m1)))
    ≡ 2 + one_if (is_in cs name a)) (sym all_are)
    (saddle-counted n a (arc_at crossings r) (arc_at crossings v) (arc_at crossings q) s t (m ++ m1)
    (pair-below code choice k 1 u v next ends) (pair-below code choice k 0 r q next starts)
    (pair-below code choice k 1 v u next (IsPairAt-turned choice k 1 u v ends))
    (pair-below code choice k 0 q r next (IsPairAt-turned choice k 0 r q starts))
    (λ same. pair-apart code choice k 1 u v next ends (sym same)) (λ same. pair-apart code choice k 0 r q next starts (sym same))
    s_below t_below s_two t_two (Lead-round code choice k u v r q m m1 next ends starts before after) name below
    (ap (λ cs. slice_index cs name) (sym all_are) ∙ own)) in
    sym
    (ap₂ (λ x y. x + y)
    (ap (λ cs. parts_in n all name cs) (sym (turned s s_below))
    ∙ circles-glued n opened (m ++ s) m1 m0 all name ms_below after.below alone first (finer s s_below all_s))
    (ap (λ cs. parts_in n all name cs) (sym (turned t t_below))
    ∙ circles-glued n opened (m ++ t) m1 m1 all name mt_below after.below alone second (finer t t_below all_t)))
    ∙ count

-- the smoothings by slots

JoinTwo-pairs : (a b c d : ℕ) → JoinTwo ((a, b) ∷ (c, d) ∷ []) a b c d
JoinTwo-pairs a b c d = record { joins = λ g respects. (respects.0, respects.1.0); only = λ g one two. (one, (two, tt)) }

JoinTwo-turned : (a b c d : ℕ) → JoinTwo ((b, a) ∷ (d, c) ∷ []) a b c d
JoinTwo-turned a b c d = record { joins = λ g respects. (sym respects.0, sym respects.1.0); only = λ g one two. (sym one, (sym two, tt)) }

JoinTwo-crossed : (a b c d : ℕ) → JoinTwo ((d, c) ∷ (a, b) ∷ []) a b c d
JoinTwo-crossed a b c d = record { joins = λ g respects. (respects.1.0, sym respects.0); only = λ g one two. (sym two, (one, tt)) }

JoinTwo-crossed_too : (a b c d : ℕ) → JoinTwo ((a, b) ∷ (d, c) ∷ []) a b c d
JoinTwo-crossed_too a b c d = record { joins = λ g respects. (respects.0, sym respects.1.0); only = λ g one two. (one, (sym two, tt)) }

abbrev SaddleCount : Code → ℕ → ℕ → List (ℕ × ℕ) → List (ℕ × ℕ) → List (ℕ × ℕ) → List (ℕ × ℕ) → List (ℕ × ℕ) → ℕ → ℕ → Type 0
SaddleCount code choice k s t m m0 m1 name arc =
    let n = size_of code in let all = classes_of n (m ++ (s ++ t)) in
    let ends = ends_there code.crossings choice (k + 1) in let starts = starts_there code.crossings choice (k + 1) in
    (count_in n all name (is_closed_circle n (ends_or_starts ends starts) (classes_of n (m ++ s)))
    + count_in n all name (is_disc ends starts (classes_of n (m0 ++ m1))))
    + (count_in n all name (is_closed_circle n (ends_or_starts ends starts) (classes_of n (m ++ t)))
    + count_in n all name (is_disc ends starts (classes_of n (m1 ++ m1))))
    ≡ 2 + one_if (is_in all name arc)

saddle-at : (code : Code) (choice k : ℕ) (m m0 m1 : List (ℕ × ℕ)) → IsNext code choice k
    → Lead (size_of code) (ends_there code.crossings choice k) (starts_there code.crossings choice k) m
    → Lead (size_of code) (ends_there code.crossings choice (k + 1)) (starts_there code.crossings choice (k + 1)) m1
    → JoinOpen (size_of code) (ends_or_starts (ends_there code.crossings choice (k + 1)) (starts_there code.crossings choice (k + 1)))
    (classes_of (size_of code) (m ++ pairs_at true code k)) m0
    → JoinOpen (size_of code) (ends_or_starts (ends_there code.crossings choice (k + 1)) (starts_there code.crossings choice (k + 1)))
    (classes_of (size_of code) (m ++ pairs_at false code k)) m1
    → (name : ℕ) → name < size_of code
    → slice_index (classes_of (size_of code) (m ++ (pairs_at true code k ++ pairs_at false code k))) name ≡ name
    → SaddleCount code choice k (pairs_at true code k) (pairs_at false code k) m m0 m1 name (arc_at code.crossings (4 * k + 0))
saddle-at code choice k m m0 m1 next before after first second name below own =
    let n = size_of code in
    let s = pairs_at true code k in
    let t = pairs_at false code k in
    let arc : ℕ → ℕ = λ slot. arc_at code.crossings (4 * k + slot) in
    elim (bit-cases choice k) [
      | inr is ↦
          let ends = IsPairAt-slots choice k 1 0 (omega arith) (ap (λ b. (b + 0) % 2) is) in
          let starts = IsPairAt-slots choice k 0 1 (omega arith) (ap (λ b. (b + 1) % 2) is) in
          let p0 = pair-below code choice k 1 (4 * k + 0) (4 * k + 2) next ends in
          let p1 = pair-below code choice k 0 (4 * k + 1) (4 * k + 3) next starts in
          let p2 = pair-below code choice k 1 (4 * k + 2) (4 * k + 0) next (IsPairAt-turned choice k 1 (4 * k + 0) (4 * k + 2) ends) in
          let p3 = pair-below code choice k 0 (4 * k + 3) (4 * k + 1) next (IsPairAt-turned choice k 0 (4 * k + 1) (4 * k + 3) starts) in
          saddle-joined code choice k (4 * k + 0) (4 * k + 2) (4 * k + 1) (4 * k + 3) s t m m0 m1 next ends starts
          ((p0, p1), ((p2, p3), tt)) ((p0, p3), ((p1, p2), tt)) (JoinTwo-pairs (arc 0) (arc 1) (arc 2) (arc 3))
          (JoinTwo-crossed_too (arc 0) (arc 3) (arc 2) (arc 1)) before after first second name below own
      | inl is ↦
          let ends = IsPairAt-slots choice k 1 1 (omega arith) (ap (λ b. (b + 1) % 2) is) in
          let starts = IsPairAt-slots choice k 0 0 (omega arith) (ap (λ b. (b + 0) % 2) is) in
          let p1 = pair-below code choice k 1 (4 * k + 1) (4 * k + 3) next ends in
          let p0 = pair-below code choice k 0 (4 * k + 0) (4 * k + 2) next starts in
          let p3 = pair-below code choice k 1 (4 * k + 3) (4 * k + 1) next (IsPairAt-turned choice k 1 (4 * k + 1) (4 * k + 3) ends) in
          let p2 = pair-below code choice k 0 (4 * k + 2) (4 * k + 0) next (IsPairAt-turned choice k 0 (4 * k + 0) (4 * k + 2) starts) in
          let s_below : AreBelow n (pairs_at true code k) = ((p0, p1), ((p2, p3), tt)) in
          let t_below : AreBelow n (pairs_at false code k) = ((p0, p3), ((p1, p2), tt)) in
          let all_below : AreBelow n (m ++ (s ++ t)) =
          AreBelow-append n m (s ++ t) before.below (AreBelow-append n s t s_below t_below) in
          let class : ℕ → ℕ = λ x. slice_index (classes_of n (m ++ (s ++ t))) x in
          let one : class (arc 0) ≡ class (arc 1) =
          (Respects-first class s t (Respects-second class m (s ++ t) (classes-together n (m ++ (s ++ t)) all_below))).0 in
          saddle-joined code choice k (4 * k + 1) (4 * k + 3) (4 * k + 0) (4 * k + 2) s t m m0 m1 next ends starts
          s_below t_below (JoinTwo-turned (arc 1) (arc 0) (arc 3) (arc 2)) (JoinTwo-crossed (arc 1) (arc 2) (arc 3) (arc 0))
          before after first second name below own
          ∙ ap (λ c. 2 + one_if (nat_eq c name)) (sym one)
    ]

pub saddle-code : (code : Code) (choice k : ℕ) (m m0 m1 : List (ℕ × ℕ)) → IsColoured code.crossings choice
    → k < length code.crossings
    → Lead (size_of code) (ends_there code.crossings choice k) (starts_there code.crossings choice k) m
    → JoinOpen (size_of code) (ends_or_starts (ends_there code.crossings choice (k + 1)) (starts_there code.crossings choice (k + 1)))
    (classes_of (size_of code) (m ++ smoothing_of 0 (slice_index_or code.crossings k []))) m0
    → JoinOpen (size_of code) (ends_or_starts (ends_there code.crossings choice (k + 1)) (starts_there code.crossings choice (k + 1)))
    (classes_of (size_of code) (m ++ smoothing_of 1 (slice_index_or code.crossings k []))) m1
    → (name : ℕ) → name < size_of code
    → slice_index (classes_of (size_of code)
    (m ++ (smoothing_of 0 (slice_index_or code.crossings k []) ++ smoothing_of 1 (slice_index_or code.crossings k [])))) name ≡ name
    → SaddleCount code choice k (smoothing_of 0 (slice_index_or code.crossings k [])) (smoothing_of 1 (slice_index_or code.crossings k []))
    m m0 m1 name (arc_in (slice_index_or code.crossings k []) 0)
saddle-code code choice k m m0 m1 coloured within before first second name below own =
    let n = size_of code in
    let crossings = code.crossings in
    let slots = slice_index_or crossings k [] in
    let opened = ends_or_starts (ends_there crossings choice (k + 1)) (starts_there crossings choice (k + 1)) in
    let next : IsNext code choice k = record { coloured = coloured; within = within } in
    let s_is = smoothing-at code k 0 in
    let t_is = smoothing-at code k 1 in
    let after = Lead-more code choice k 1 m m1 coloured within before second in
    let found = saddle-at code choice k m m0 m1 next before after
    (subst (λ (s : List (ℕ × ℕ)). JoinOpen n opened (classes_of n (m ++ s)) m0) s_is first)
    (subst (λ (s : List (ℕ × ℕ)). JoinOpen n opened (classes_of n (m ++ s)) m1) t_is second) name below
    (ap₂ (λ s t. slice_index (classes_of n (m ++ (s ++ t))) name) (sym s_is) (sym t_is) ∙ own) in
    subst (λ (arc : ℕ). SaddleCount code choice k (smoothing_of 0 slots) (smoothing_of 1 slots) m m0 m1 name arc)
    (arc_at-slot crossings k 0 (omega arith))
    (subst (λ (s : List (ℕ × ℕ)).
    SaddleCount code choice k s (smoothing_of 1 slots) m m0 m1 name (arc_at crossings (4 * k + 0))) (sym s_is)
    (subst (λ (t : List (ℕ × ℕ)).
    SaddleCount code choice k (pairs_at true code k) t m m0 m1 name (arc_at crossings (4 * k + 0))) (sym t_is) found))
