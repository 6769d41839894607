-- The order of the arcs of parts is made of blocks, one for each component, by ascending least arcs: what holds of no arc, and behind each
-- block more, holds of the whole order.
--
-- The order goes over the numbers k from 0 on, and walks from each that is a name and new. Where the names are the arcs of a directed code,
-- and the walk from a least arc goes over its component, the new numbers are exactly the least arcs: for when the order has come to `last`,
-- the numbers up to `last` are in it and no others (`low`, `all`), and `last + 1` is the least arc of the next component. So all that is said
-- of such an order is a fact about the arcs up to `last` that one more block keeps (`IsSoFar`, `more`).
use Rattle.std.proofs.Common.{◌≡◌, ℕ, zero, suc, ◌⊎◌, inl, inr, ◌+◌, ◌*◌, ◌<◌, ◌≤◌, ◌∙◌, List, [], ◌++◌, length, sym, ap, subst, arith, Bool, true, false, not, ◌&&◌, refl}
use Rattle.std.proofs.lemmas.Bool.{cases_eq, cases_lt, and_from}
use Rattle.kh_types.specs.Code.{Code, IsArc}
use Rattle.kh_types.specs.Accepted.{IsDirected}
use Rattle.kh_types.proofs.NextArcs.{HasPlace-directed}
use Rattle.code_passes.proofs.CutArcs.{IsFirst, IsFirst-next, size, end-within, size-positive}
use Rattle.code_passes.proofs.LeastArcs.{IsFirstOf-directed}
use Rattle.code_passes.specs.Parts.{Parts, ArePaired, passes_through}
use Rattle.orient_arcs.specs.Renumbered.{follows, label_entered, walk, turned_names, is_in, bound_of, order_of}
use Rattle.orient_arcs.specs.Steps.{order_below, is_new}
use Rattle.orient_arcs.proofs.Members.{IsIn, is_in-true, is_in-false}
use Rattle.orient_arcs.proofs.PairedPasses.{heads_of}
use Rattle.orient_arcs.proofs.Bridge.{below-bound}
use Rattle.orient_arcs.proofs.ComponentSteps.{order-same, order-turned}

module _ (code : Code) (directed : IsDirected code.crossings) (parts : Parts) (paired : ArePaired parts)
    (heads : (x : ℕ) → IsArc code.crossings x → IsIn x (heads_of parts paired))
    (arcs : (x : ℕ) → IsIn x (heads_of parts paired) → IsArc code.crossings x)
    (names_from : ℕ → List ℕ)
    (walked : (first : ℕ) → IsFirst code.crossings first
    → walk (follows (passes_through parts)) first (length (passes_through parts)) first ≡ names_from first)
    (IsSoFar : ℕ → List ℕ → Type 0) (none : IsSoFar 0 [])
    (low : (last : ℕ) (front : List ℕ) → IsSoFar last front → (x : ℕ) → IsIn x front → x ≤ last)
    (all : (last : ℕ) (front : List ℕ) → IsSoFar last front → (x : ℕ) → IsArc code.crossings x → x ≤ last → IsIn x front)
    (more : (last : ℕ) (front : List ℕ) → IsFirst code.crossings (last + 1) → IsSoFar last front
    → IsSoFar (last + size code.crossings (last + 1)) (front ++ turned_names (label_entered (passes_through parts)) (names_from (last + 1))))
  where
    -- how far the order has come
    record IsUpTo (k : ℕ) : Type 0 where
      pub last : ℕ
      pub so_far : IsSoFar last (order_below (passes_through parts) k)
      pub within : last ≤ 2 * length code.crossings
      pub first : last < 2 * length code.crossings → IsFirst code.crossings (last + 1)
      pub reached : (k ≤ last + 1) ⊎ (last ≡ 2 * length code.crossings)

    -- a number that is no name, or an old one, adds nothing
    same : (k : ℕ) (up : IsUpTo k) → is_new (passes_through parts) (order_below (passes_through parts) k) k ≡ false
        → (k + 1 ≤ up.last + 1) ⊎ (up.last ≡ 2 * length code.crossings) → IsUpTo (k + 1)
    same k up old reached = record {
      last = up.last;
      so_far = subst (λ (order : List ℕ). IsSoFar up.last order) (order-same parts paired k old) up.so_far;
      within = up.within;
      first = up.first;
      reached = reached;
    }

    -- a least arc adds its component
    added : (k : ℕ) (up : IsUpTo k) → up.last < 2 * length code.crossings → k ≡ up.last + 1 → IsUpTo (k + 1)
    added k up left k_is =
        let order = order_below (passes_through parts) k in
        let is : IsFirst code.crossings k = subst (λ (x : ℕ). IsFirst code.crossings x) (sym k_is) (up.first left) in
        let some = size-positive code.crossings directed k is in
        let end = end-within code.crossings directed k is in
        let new : is_new (passes_through parts) (order_below (passes_through parts) k) k ≡ true =
        and_from (is_in (heads_of parts paired) k) (not (is_in (order_below (passes_through parts) k) k))
        (is_in-true k (heads_of parts paired) (heads k is.is_arc))
        (ap not (is_in-false k (order_below (passes_through parts) k)
        (λ here. absurd (omega (arith, k_is, low up.last order up.so_far k here))))) in
        let made : order_below (passes_through parts) (k + 1)
        ≡ order_below (passes_through parts) k ++ turned_names (label_entered (passes_through parts)) (names_from k) =
        sym (order-turned parts paired k new)
        ∙ ap (λ ns. order_below (passes_through parts) k ++ turned_names (label_entered (passes_through parts)) ns) (walked k is) in
        record {
          last = up.last + size code.crossings k;
          so_far = subst (λ (os : List ℕ). IsSoFar (up.last + size code.crossings k) os) (sym made)
              (subst (λ (m : ℕ). IsSoFar (up.last + size code.crossings m)
              (order_below (passes_through parts) k ++ turned_names (label_entered (passes_through parts)) (names_from m))) (sym k_is)
              (more up.last order (up.first left) up.so_far));
          within = omega (arith, end, k_is);
          first = λ behind.
              let e : k + size code.crossings k ≡ up.last + size code.crossings k + 1 = omega (arith, k_is) in
              subst (λ (x : ℕ). IsFirst code.crossings x) e (IsFirst-next code.crossings directed k is (omega (arith, behind, k_is)));
          reached = inl (omega (arith, k_is, some));
        }

    up-to-more : (k : ℕ) → IsUpTo k → IsUpTo (k + 1)
    up-to-more k up =
        let order = order_below (passes_through parts) k in
        elim (cases_lt k (up.last + 1)) [
          | inl early ↦
              same k up
              (elim (cases_eq k 0) [
                | inl zero_is ↦
                    ap (λ b. b && not (is_in (order_below (passes_through parts) k) k))
                    (is_in-false k (heads_of parts paired) (λ here. absurd (omega (arith, zero_is, (arcs k here).positive))))
                | inr some ↦
                    let is : IsArc code.crossings k = record { positive = omega (arith, some); within = omega (arith, early, up.within) } in
                    and_not (is_in (heads_of parts paired) k) (is_in (order_below (passes_through parts) k) k)
                    (is_in-true k (order_below (passes_through parts) k) (all up.last order up.so_far k is (omega (arith, early))))
              ])
              (inl (omega (arith, early)))
          | inr late ↦ elim (cases_lt up.last (2 * length code.crossings)) [
            | inr done ↦
                same k up
                (ap (λ b. b && not (is_in (order_below (passes_through parts) k) k))
                (is_in-false k (heads_of parts paired) (λ here. absurd (omega (arith, late, done, (arcs k here).within)))))
                (inr (omega (arith, done, up.within)))
            | inl left ↦
                added k up left (elim up.reached [
                  | inl early ↦ omega (arith, early, late)
                  | inr full ↦ absurd (omega (arith, full, left))
                ])
          ]
        ]
      where
        and_not : (b c : Bool) → c ≡ true → (b && not c) ≡ false
        and_not true true holds = refl
        and_not false true holds = refl
        and_not true false holds = absurd (cc)
        and_not false false holds = refl

    up-to : (k : ℕ) → IsUpTo k
    up-to zero = record {
      last = 0;
      so_far = none;
      within = omega arith;
      first = λ some.
          let is : IsArc code.crossings 1 = record { positive = omega arith; within = omega (arith, some) } in
          let least = (HasPlace-directed code.crossings directed 1 is).from in
          let positive = (IsFirstOf-directed code.crossings directed 1 is).is_arc.positive in
          record { is_arc = is; own = omega (arith, least, positive) };
      reached = inl (omega arith);
    }
    up-to (suc k) = let e : k + 1 ≡ suc k = omega arith in subst (λ (j : ℕ). IsUpTo j) e (up-to-more k (up-to k))

    pub order-by_blocks : IsSoFar (2 * length code.crossings) (order_of (passes_through parts))
    order-by_blocks =
        let up = up-to (bound_of (passes_through parts)) in
        let whole : up.last ≡ 2 * length code.crossings = elim up.reached [
          | inr full ↦ full
          | inl reached ↦ elim (cases_lt up.last (2 * length code.crossings)) [
            | inr done ↦ omega (arith, done, up.within)
            | inl left ↦
                let last_arc : IsArc code.crossings (2 * length code.crossings) = record { positive = omega (arith, left); within = omega arith } in
                let below = below-bound (passes_through parts) (2 * length code.crossings) (heads (2 * length code.crossings) last_arc) in
                absurd (omega (arith, below, reached, left))
          ]
        ] in
        subst (λ (last : ℕ). IsSoFar last (order_of (passes_through parts))) whole up.so_far
