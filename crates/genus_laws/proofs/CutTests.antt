-- Which arcs are open before and after one crossing more, by tests: i and o say whether the end and the start are inside before, h
-- and t whether they are at the crossing.
use Rattle.std.proofs.Common.{◌≡◌, refl, Bool, true, false, not, ◌&&◌, ◌||◌}
use Rattle.kh_types.proofs.AcceptedLemmas.{second_fails}
use Rattle.genus_laws.proofs.Paths.{false_true}

true_false : true ≡ false → ⊥
true_false same = cc same

-- both ends are inside before, or both are at crossings still to come
abbrev pub stays : Bool → Bool → Bool → Bool → Bool
stays i o i_after o_after = (i && o) || (not i_after && not o_after)

-- one is at the crossing, or it is still to come and the other is not
abbrev pub leads : Bool → Bool → Bool → Bool
leads at after other_after = at || (other_after && not after)

-- an end is inside before, or at the crossing, or at neither, and so is a start: what holds of all nine places holds
by_places : (P : Bool → Bool → Bool → Bool → Type 0) → P true true false false → P true false false true → P true false false false
    → P false true true false → P false true false false → P false false true true → P false false true false → P false false false true
    → P false false false false → (i o h t : Bool) → (h ≡ true → i ≡ false) → (t ≡ true → o ≡ false) → P i o h t
by_places P a b c d e f g h k true o true t in_h out_t = absurd (true_false (in_h refl))
by_places P a b c d e f g h k i true at true in_h out_t = absurd (true_false (out_t refl))
by_places P a b c d e f g h k true true false false in_h out_t = a
by_places P a b c d e f g h k true false false true in_h out_t = b
by_places P a b c d e f g h k true false false false in_h out_t = c
by_places P a b c d e f g h k false true true false in_h out_t = d
by_places P a b c d e f g h k false true false false in_h out_t = e
by_places P a b c d e f g h k false false true true in_h out_t = f
by_places P a b c d e f g h k false false true false in_h out_t = g
by_places P a b c d e f g h k false false false true in_h out_t = h
by_places P a b c d e f g h k false false false false in_h out_t = k

pub closes_ends : (i o h t : Bool) → (h ≡ true → i ≡ false) → (t ≡ true → o ≡ false)
    → not (i && not o) ≡ (stays i o (i || h) (o || t) || leads h (i || h) (o || t))
closes_ends = by_places (λ i o h t. not (i && not o) ≡ (stays i o (i || h) (o || t) || leads h (i || h) (o || t))) refl refl refl refl refl refl refl refl refl

pub closes_starts : (i o h t : Bool) → (h ≡ true → i ≡ false) → (t ≡ true → o ≡ false)
    → not (o && not i) ≡ (stays i o (i || h) (o || t) || leads t (o || t) (i || h))
closes_starts = by_places (λ i o h t. not (o && not i) ≡ (stays i o (i || h) (o || t) || leads t (o || t) (i || h))) refl refl refl refl refl refl refl refl refl

pub kept_ends : (i o h t : Bool) → (h ≡ true → i ≡ false) → (t ≡ true → o ≡ false) → stays i o (i || h) (o || t) ≡ true
    → leads h (i || h) (o || t) ≡ false
kept_ends i o h t in_h out_t =
    second_fails (stays i o (i || h) (o || t)) (leads h (i || h) (o || t))
    (by_places (λ i o h t. (stays i o (i || h) (o || t) && leads h (i || h) (o || t)) ≡ false) refl refl refl refl refl refl refl refl refl
    i o h t in_h out_t)

pub kept_starts : (i o h t : Bool) → (h ≡ true → i ≡ false) → (t ≡ true → o ≡ false) → stays i o (i || h) (o || t) ≡ true
    → leads t (o || t) (i || h) ≡ false
kept_starts i o h t in_h out_t =
    second_fails (stays i o (i || h) (o || t)) (leads t (o || t) (i || h))
    (by_places (λ i o h t. (stays i o (i || h) (o || t) && leads t (o || t) (i || h)) ≡ false) refl refl refl refl refl refl refl refl refl
    i o h t in_h out_t)

pub at_behind : (i h o_after : Bool) → h ≡ true → (o_after && not (i || h)) ≡ false
at_behind i false o_after at = absurd (false_true at)
at_behind true true true at = refl
at_behind true true false at = refl
at_behind false true true at = refl
at_behind false true false at = refl

-- an arc that is open before with its end inside, or after with its start inside
abbrev pub rounds : Bool → Bool → Bool → Bool → Bool
rounds i o i_after o_after = (i && not o) || (o_after && not i_after)

pub rounds_ends : (i o h t : Bool) → (h ≡ true → i ≡ false) → (t ≡ true → o ≡ false)
    → not h ≡ (stays i o (i || h) (o || t) || rounds i o (i || h) (o || t))
rounds_ends = by_places (λ i o h t. not h ≡ (stays i o (i || h) (o || t) || rounds i o (i || h) (o || t))) refl refl refl refl refl refl refl refl refl

pub rounds_starts : (i o h t : Bool) → (h ≡ true → i ≡ false) → (t ≡ true → o ≡ false)
    → not t ≡ (stays i o (i || h) (o || t) || rounds o i (o || t) (i || h))
rounds_starts = by_places (λ i o h t. not t ≡ (stays i o (i || h) (o || t) || rounds o i (o || t) (i || h))) refl refl refl refl refl refl refl refl refl

pub stays_ends : (i o h t : Bool) → (h ≡ true → i ≡ false) → (t ≡ true → o ≡ false) → stays i o (i || h) (o || t) ≡ true
    → rounds i o (i || h) (o || t) ≡ false
stays_ends i o h t in_h out_t =
    second_fails (stays i o (i || h) (o || t)) (rounds i o (i || h) (o || t))
    (by_places (λ i o h t. (stays i o (i || h) (o || t) && rounds i o (i || h) (o || t)) ≡ false) refl refl refl refl refl refl refl refl refl
    i o h t in_h out_t)

pub stays_starts : (i o h t : Bool) → (h ≡ true → i ≡ false) → (t ≡ true → o ≡ false) → stays i o (i || h) (o || t) ≡ true
    → rounds o i (o || t) (i || h) ≡ false
stays_starts i o h t in_h out_t =
    second_fails (stays i o (i || h) (o || t)) (rounds o i (o || t) (i || h))
    (by_places (λ i o h t. (stays i o (i || h) (o || t) && rounds o i (o || t) (i || h)) ≡ false) refl refl refl refl refl refl refl refl refl
    i o h t in_h out_t)

pub before_after : (i o h o_after : Bool) → (i && not o) ≡ true → (o_after && not (i || h)) ≡ false
before_after false o h o_after is = absurd (false_true is)
before_after true true h o_after is = absurd (false_true is)
before_after true false h true is = refl
before_after true false h false is = refl
