-- What a smoothing of one crossing and a pairing of what is open after it join leads back from starts to ends.
--
-- A pairing inside leads from starts to ends, what is outside from ends to starts. One crossing is two pairs of the latter kind. Put
-- together, they lead from all ends to all starts, as each point is at the crossing, or open, or neither. So the discs between two pairings
-- with a crossing between are a surface (IsSurface) whose components Leading describes.
use Rattle.std.proofs.Common.{◌≡◌, ◌≢◌, ℕ, inl, inr, ◌+◌, ◌*◌, ◌%◌, ◌<◌, ◌≤◌, ◌∙◌, List, [], ◌∷◌, ◌++◌, sym, ap, ap₂, subst, length, arith, IsTrue, Bool, true, false, not, ◌&&◌, ◌||◌, cond}
use Rattle.std.specs.Prelude.{nat_eq, slice_index_or}
use Rattle.std.proofs.Math.Path.{fun_ext}
use Rattle.std.proofs.lemmas.Bool.{eqb-true, false_from_ne_true}
use Rattle.kh_types.specs.Acceptance.{accepted}
use Rattle.kh_types.specs.Code.{Code, arc_in, arc_count}
use Rattle.kh_types.specs.Circles.{smoothing_of}
use Rattle.kh_types.specs.Colours.{IsColoured}
use Rattle.kh_types.specs.CircleSteps.{arc_at}
use Rattle.kh_types.proofs.JoinedSlots.{arc_at-slot}
use Rattle.kh_types.proofs.BitLemmas.{bit-cases}
use Rattle.genus_laws.specs.Surfaces.{Lead, other_than, IsSurface}
use Rattle.genus_laws.specs.CutCodes.{is_inside, ends_there, starts_there, outer_smoothings}
use Rattle.genus_laws.proofs.Paths.{Lead-turned}
use Rattle.genus_laws.proofs.LeadLemmas.{AreApart, either, is_one, Lead-append, Lead-none, Lead-one, Lead-one_turned}
use Rattle.genus_laws.proofs.CutCodes.{Lead-outside, ends-starts}
use Rattle.genus_laws.proofs.CutTests.{stays, leads, closes_ends, closes_starts, kept_ends, kept_starts, at_behind}
use Rattle.genus_laws.proofs.CutSteps.{IsNext, IsPairAt, IsPairAt-turned, IsPairAt-slots, pair-below, pair-apart, inside-more, new-outside}

-- the numbers of arcs and loops of a code, and 0
abbrev pub size_of : Code → ℕ
size_of code = arc_count code.crossings + code.loops + 1

-- an arc that is one of two
abbrev pub is_either : Code → ℕ → ℕ → ℕ → Bool
is_either code u v = either (is_one (arc_at code.crossings u)) (is_one (arc_at code.crossings v))

-- two pairs of four different darts
pub are_apart : (n a b : ℕ) → b ≢ a → AreApart n (is_one a) (is_one b)
are_apart n a b apart x below is =
    false_from_ne_true (nat_eq x b) (λ same. apart (sym (eqb-true x b same) ∙ eqb-true x a is))

Lead-crossing : (first second : Bool) (code : Code) (choice k u v r t : ℕ) → IsNext code choice k → IsPairAt choice k 1 u v
    → IsPairAt choice k 0 r t
    → Lead (size_of code) (is_either code u v) (is_either code r t)
    (cond first (arc_at code.crossings r, arc_at code.crossings u) (arc_at code.crossings u, arc_at code.crossings r)
    ∷ cond second (arc_at code.crossings t, arc_at code.crossings v) (arc_at code.crossings v, arc_at code.crossings t) ∷ [])
Lead-crossing first second code choice k u v r t next ends starts =
    let crossings = code.crossings in
    let n = size_of code in
    let a = arc_at crossings u in
    let a_too = arc_at crossings v in
    let b = arc_at crossings r in
    let b_too = arc_at crossings t in
    Lead-append n (is_one a) (is_one b) (is_one a_too) (is_one b_too) (cond first (b, a) (a, b) ∷ [])
    (cond second (b_too, a_too) (a_too, b_too) ∷ []) (are_apart n a a_too (pair-apart code choice k 1 u v next ends))
    (are_apart n b b_too (pair-apart code choice k 0 r t next starts))
    (one first n a b (pair-below code choice k 1 u v next ends) (pair-below code choice k 0 r t next starts))
    (one second n a_too b_too (pair-below code choice k 1 v u next (IsPairAt-turned choice k 1 u v ends))
    (pair-below code choice k 0 t r next (IsPairAt-turned choice k 0 r t starts)))
  where
    one : (turned : Bool) (n a b : ℕ) → a < n → b < n → Lead n (is_one a) (is_one b) (cond turned (b, a) (a, b) ∷ [])
    one true n a b a_below b_below = Lead-one_turned n a b a_below b_below
    one false n a b a_below b_below = Lead-one n a b a_below b_below

-- with the pairs of what is open after it
Lead-closed : (code : Code) (choice k u v r t : ℕ) (s pairs : List (ℕ × ℕ)) → IsNext code choice k → IsPairAt choice k 1 u v
    → IsPairAt choice k 0 r t → Lead (size_of code) (is_either code u v) (is_either code r t) s
    → Lead (size_of code) (ends_there code.crossings choice (k + 1)) (starts_there code.crossings choice (k + 1)) pairs
    → Lead (size_of code) (other_than (ends_there code.crossings choice k)) (other_than (starts_there code.crossings choice k))
    (s ++ pairs)
Lead-closed code choice k u v r t s pairs next ends starts at_crossing behind =
    let crossings = code.crossings in
    let n = size_of code in
    let in_end : ℕ → Bool = is_inside crossings choice k 1 in
    let in_start : ℕ → Bool = is_inside crossings choice k 0 in
    let then_end : ℕ → Bool = is_inside crossings choice (k + 1) 1 in
    let then_start : ℕ → Bool = is_inside crossings choice (k + 1) 0 in
    let heads = is_either code u v in
    let tails = is_either code r t in
    let new_ends = ends_there crossings choice (k + 1) in
    let new_starts = starts_there crossings choice (k + 1) in
    let stay : ℕ → Bool = λ x. stays (in_end x) (in_start x) (then_end x) (then_start x) in
    let end_more : (x : ℕ) → then_end x ≡ (in_end x || heads x) = λ x. inside-more code choice k 1 u v x next ends in
    let start_more : (x : ℕ) → then_start x ≡ (in_start x || tails x) = λ x. inside-more code choice k 0 r t x next starts in
    let head_out : (x : ℕ) → heads x ≡ true → in_end x ≡ false = λ x. new-outside code choice k 1 u v x next ends in
    let tail_out : (x : ℕ) → tails x ≡ true → in_start x ≡ false = λ x. new-outside code choice k 0 r t x next starts in
    let heads_apart : AreApart n heads new_starts =
    λ x below is. ap (λ b. then_start x && not b) (end_more x) ∙ at_behind (in_end x) (heads x) (then_start x) is in
    let tails_apart : AreApart n tails new_ends =
    λ x below is. ap (λ b. then_end x && not b) (start_more x) ∙ at_behind (in_start x) (tails x) (then_end x) is in
    let stay_was : (x : ℕ) → stay x ≡ stays (in_end x) (in_start x) (in_end x || heads x) (in_start x || tails x) =
    λ x. ap₂ (λ b c. stays (in_end x) (in_start x) b c) (end_more x) (start_more x) in
    let stay_ends : AreApart n stay (either heads new_starts) =
    λ x below is.
    ap₂ (λ b c. leads (heads x) b c) (end_more x) (start_more x)
    ∙ kept_ends (in_end x) (in_start x) (heads x) (tails x) (head_out x) (tail_out x) (sym (stay_was x) ∙ is) in
    let stay_starts : AreApart n stay (either tails new_ends) =
    λ x below is.
    ap₂ (λ b c. leads (tails x) b c) (start_more x) (end_more x)
    ∙ kept_starts (in_end x) (in_start x) (heads x) (tails x) (head_out x) (tail_out x) (sym (stay_was x) ∙ is) in
    let ends_are : other_than (ends_there crossings choice k) ≡ either stay (either heads new_starts) =
    fun_ext (λ x. closes_ends (in_end x) (in_start x) (heads x) (tails x) (head_out x) (tail_out x)
    ∙ sym (ap₂ (λ b c. stays (in_end x) (in_start x) b c || leads (heads x) b c) (end_more x) (start_more x))) in
    let starts_are : other_than (starts_there crossings choice k) ≡ either stay (either tails new_ends) =
    fun_ext (λ x. closes_starts (in_end x) (in_start x) (heads x) (tails x) (head_out x) (tail_out x)
    ∙ sym (ap₂ (λ b c. stays (in_end x) (in_start x) b c || leads (tails x) c b) (end_more x) (start_more x))) in
    subst (λ (kind : ℕ → Bool). Lead n kind (other_than (starts_there crossings choice k)) (s ++ pairs)) (sym ends_are)
    (subst (λ (kind : ℕ → Bool). Lead n (either stay (either heads new_starts)) kind (s ++ pairs)) (sym starts_are)
    (Lead-append n stay stay (either heads new_starts) (either tails new_ends) [] (s ++ pairs) stay_ends stay_starts (Lead-none n stay)
    (Lead-append n heads tails new_starts new_ends s pairs heads_apart tails_apart at_crossing
    (Lead-turned n new_ends new_starts pairs behind))))

-- the pairs of a smoothing, by the places of their darts
abbrev pub pairs_at : Bool → Code → ℕ → List (ℕ × ℕ)
pairs_at is_zero code k =
    cond is_zero
    ((arc_at code.crossings (4 * k + 0), arc_at code.crossings (4 * k + 1))
    ∷ (arc_at code.crossings (4 * k + 2), arc_at code.crossings (4 * k + 3)) ∷ [])
    ((arc_at code.crossings (4 * k + 0), arc_at code.crossings (4 * k + 3))
    ∷ (arc_at code.crossings (4 * k + 1), arc_at code.crossings (4 * k + 2)) ∷ [])

abbrev pairs_of : Bool → ℕ → ℕ → ℕ → ℕ → List (ℕ × ℕ)
pairs_of is_zero a b c d = cond is_zero ((a, b) ∷ (c, d) ∷ []) ((a, d) ∷ (b, c) ∷ [])

pub smoothing-at : (code : Code) (k smoothing : ℕ)
    → smoothing_of smoothing (slice_index_or code.crossings k []) ≡ pairs_at (nat_eq smoothing 0) code k
smoothing-at code k smoothing =
    let slots = slice_index_or code.crossings k [] in
    let is_zero = nat_eq smoothing 0 in
    let at = λ (slot : ℕ) (below : slot < 4). sym (arc_at-slot code.crossings k slot below) in
    ap₂ (λ a b. pairs_of is_zero a b (arc_in slots 2) (arc_in slots 3)) (at 0 (omega arith)) (at 1 (omega arith))
    ∙ ap₂ (λ c d. pairs_of is_zero (arc_at code.crossings (4 * k + 0)) (arc_at code.crossings (4 * k + 1)) c d)
    (at 2 (omega arith)) (at 3 (omega arith))

-- slot 0 is a start
closed-start : (is_zero : Bool) (code : Code) (choice k : ℕ) (pairs : List (ℕ × ℕ)) → IsNext code choice k
    → IsPairAt choice k 1 (4 * k + 1) (4 * k + 3) → IsPairAt choice k 0 (4 * k + 0) (4 * k + 2)
    → Lead (size_of code) (ends_there code.crossings choice (k + 1)) (starts_there code.crossings choice (k + 1)) pairs
    → Lead (size_of code) (other_than (ends_there code.crossings choice k)) (other_than (starts_there code.crossings choice k))
    (pairs_at is_zero code k ++ pairs)
closed-start true code choice k pairs next ends starts behind =
    Lead-closed code choice k (4 * k + 1) (4 * k + 3) (4 * k + 0) (4 * k + 2) (pairs_at true code k) pairs next ends starts
    (Lead-crossing true true code choice k (4 * k + 1) (4 * k + 3) (4 * k + 0) (4 * k + 2) next ends starts) behind
closed-start false code choice k pairs next ends starts behind =
    let turned = IsPairAt-turned choice k 1 (4 * k + 1) (4 * k + 3) ends in
    Lead-closed code choice k (4 * k + 3) (4 * k + 1) (4 * k + 0) (4 * k + 2) (pairs_at false code k) pairs next turned starts
    (Lead-crossing true false code choice k (4 * k + 3) (4 * k + 1) (4 * k + 0) (4 * k + 2) next turned starts) behind

-- slot 0 is an end
closed-end : (is_zero : Bool) (code : Code) (choice k : ℕ) (pairs : List (ℕ × ℕ)) → IsNext code choice k
    → IsPairAt choice k 1 (4 * k + 0) (4 * k + 2) → IsPairAt choice k 0 (4 * k + 1) (4 * k + 3)
    → Lead (size_of code) (ends_there code.crossings choice (k + 1)) (starts_there code.crossings choice (k + 1)) pairs
    → Lead (size_of code) (other_than (ends_there code.crossings choice k)) (other_than (starts_there code.crossings choice k))
    (pairs_at is_zero code k ++ pairs)
closed-end true code choice k pairs next ends starts behind =
    Lead-closed code choice k (4 * k + 0) (4 * k + 2) (4 * k + 1) (4 * k + 3) (pairs_at true code k) pairs next ends starts
    (Lead-crossing false false code choice k (4 * k + 0) (4 * k + 2) (4 * k + 1) (4 * k + 3) next ends starts) behind
closed-end false code choice k pairs next ends starts behind =
    let turned = IsPairAt-turned choice k 0 (4 * k + 1) (4 * k + 3) starts in
    Lead-closed code choice k (4 * k + 0) (4 * k + 2) (4 * k + 3) (4 * k + 1) (pairs_at false code k) pairs next ends turned
    (Lead-crossing false true code choice k (4 * k + 0) (4 * k + 2) (4 * k + 3) (4 * k + 1) next ends turned) behind

pub Lead-through : (code : Code) (choice k smoothing : ℕ) (pairs : List (ℕ × ℕ)) → IsColoured code.crossings choice
    → k < length code.crossings
    → Lead (arc_count code.crossings + code.loops + 1) (ends_there code.crossings choice (k + 1))
    (starts_there code.crossings choice (k + 1)) pairs
    → Lead (arc_count code.crossings + code.loops + 1) (other_than (ends_there code.crossings choice k))
    (other_than (starts_there code.crossings choice k)) (smoothing_of smoothing (slice_index_or code.crossings k []) ++ pairs)
Lead-through code choice k smoothing pairs coloured within behind =
    let is_zero = nat_eq smoothing 0 in
    let next : IsNext code choice k = record { coloured = coloured; within = within } in
    subst (λ (s : List (ℕ × ℕ)).
    Lead (size_of code) (other_than (ends_there code.crossings choice k)) (other_than (starts_there code.crossings choice k)) (s ++ pairs))
    (sym (smoothing-at code k smoothing))
    (elim (bit-cases choice k) [
      | inl is ↦
          closed-start is_zero code choice k pairs next (IsPairAt-slots choice k 1 1 (omega arith) (ap (λ b. (b + 1) % 2) is))
          (IsPairAt-slots choice k 0 0 (omega arith) (ap (λ b. (b + 0) % 2) is)) behind
      | inr is ↦
          closed-end is_zero code choice k pairs next (IsPairAt-slots choice k 1 0 (omega arith) (ap (λ b. (b + 0) % 2) is))
          (IsPairAt-slots choice k 0 1 (omega arith) (ap (λ b. (b + 1) % 2) is)) behind
    ])

-- so the surfaces of the scan: of a term at an outer state, and of a term with one crossing more

pub IsSurface-cut : (code : Code) (choice k state : ℕ) (m l : List (ℕ × ℕ)) → IsTrue (accepted code)
    → IsColoured code.crossings choice → k ≤ length code.crossings
    → Lead (arc_count code.crossings + code.loops + 1) (ends_there code.crossings choice k) (starts_there code.crossings choice k) m
    → Lead (arc_count code.crossings + code.loops + 1) (ends_there code.crossings choice k) (starts_there code.crossings choice k) l
    → IsSurface (arc_count code.crossings + code.loops + 1) (ends_there code.crossings choice k) (starts_there code.crossings choice k)
    m l (outer_smoothings code.crossings state k)
IsSurface-cut code choice k state m l is coloured enough first second = record {
  apart = λ x below end. ends-starts code.crossings choice k x end;
  first = first;
  second = second;
  outer = Lead-outside code choice k state is coloured enough;
}

pub IsSurface-through : (code : Code) (choice k smoothing : ℕ) (m l pairs : List (ℕ × ℕ)) → IsColoured code.crossings choice
    → k < length code.crossings
    → Lead (arc_count code.crossings + code.loops + 1) (ends_there code.crossings choice k) (starts_there code.crossings choice k) m
    → Lead (arc_count code.crossings + code.loops + 1) (ends_there code.crossings choice k) (starts_there code.crossings choice k) l
    → Lead (arc_count code.crossings + code.loops + 1) (ends_there code.crossings choice (k + 1))
    (starts_there code.crossings choice (k + 1)) pairs
    → IsSurface (arc_count code.crossings + code.loops + 1) (ends_there code.crossings choice k) (starts_there code.crossings choice k)
    m l (smoothing_of smoothing (slice_index_or code.crossings k []) ++ pairs)
IsSurface-through code choice k smoothing m l pairs coloured within first second behind = record {
  apart = λ x below end. ends-starts code.crossings choice k x end;
  first = first;
  second = second;
  outer = Lead-through code choice k smoothing pairs coloured within behind;
}
