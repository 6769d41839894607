-- One test of all that two pairs of objects have to be: it computes.
use Rattle.std.proofs.Common.{◌≡◌, ◌≢◌, ℕ, ◌+◌, ◌^◌, ◌<◌, ◌∷◌, arith, Bool, true, not, ◌&&◌, ◌||◌}
use Rattle.std.specs.Prelude.{nat_eq, nat_lt}
use Rattle.std.specs.List.{list_all, range_with_len}
use Rattle.std.proofs.lemmas.Bool.{and_parts, eq-eqb, eqb-true, ltb-true, not-true, or_left, or_right}
use Rattle.kh_types.proofs.RangeCounts.{list_all-at}
use Rattle.layer_laws.specs.Cuts.{cut_objects, is_step}
use Rattle.layer_laws.specs.Slid.{is_left, left_objects}
use Rattle.layer_laws.proofs.Reorderings.{is_in, is_reordered, at_odds}
use Rattle.layer_laws.proofs.TwoPairs.{ArePairs, behind_first, is_alone}
use Rattle.kh_types.proofs.Tests.{unless-forth}

abbrev pub is_alone_left : ℕ → ℕ → ℕ → ℕ → ℕ → ℕ → Bool
is_alone_left k closing above below x y =
    not (is_left closing above below x) || (not (is_left closing above below y) || is_alone k closing above below x y)

-- the three states and their edges
abbrev pub are_steps : ℕ → ℕ → ℕ → ℕ → Bool
are_steps k closing above below =
    (nat_lt closing (2 ^ k) && (nat_lt above (2 ^ k) && nat_lt below (2 ^ k)))
    && ((is_step k closing above && is_step k below closing)
    && ((not (is_step k below above) && not (is_step k closing closing))
    && (not (nat_eq closing above) && not (nat_eq closing below))))

-- the lists of objects
abbrev pub are_listed : ℕ → ℕ → ℕ → ℕ → Bool
are_listed k closing above below =
    is_reordered (cut_objects k closing) (closing ∷ above ∷ behind_first k closing above below)
    && ((not (is_in closing (behind_first k closing above below)) && not (is_in above (behind_first k closing above below)))
    && (not (is_in below (left_objects k closing above below))
    && not (is_in (closing + 2 ^ k) (left_objects k closing above below))))

-- the ways between those that are left
abbrev pub are_alone : ℕ → ℕ → ℕ → ℕ → Bool
are_alone k closing above below =
    list_all (λ x. list_all (is_alone_left k closing above below x) (range_with_len 0 (2 ^ k))) (range_with_len 0 (2 ^ k))

abbrev pub are_pairs : ℕ → ℕ → ℕ → ℕ → Bool
are_pairs k closing above below =
    are_steps k closing above below && (are_listed k closing above below && are_alone k closing above below)

pub same-if : (a : Bool) (x y : ℕ) → a ≡ true → (not a || nat_eq x y) ≡ true → x ≡ y
same-if a x y is either = eqb-true x y (unless-forth a (nat_eq x y) either is)

unequal : (x y : ℕ) → not (nat_eq x y) ≡ true → x ≢ y
unequal x y is same = at_odds (nat_eq x y) (eq-eqb x y same) (not-true (nat_eq x y) is)

module _ (k closing above below : ℕ) (kind : ℕ → ℕ) (are : are_pairs k closing above below ≡ true)
    (near : (t : ℕ) → t < 2 ^ k → (is_step k t closing || is_step k closing t) ≡ true → kind t ≡ kind closing) where
  pub pairs-from : ArePairs k closing above below kind
  pairs-from =
      let parts = and_parts (are_steps k closing above below) (are_listed k closing above below && are_alone k closing above below) are in
      let more_parts = and_parts (are_listed k closing above below) (are_alone k closing above below) parts.1 in
      let within = nat_lt closing (2 ^ k) && (nat_lt above (2 ^ k) && nat_lt below (2 ^ k)) in
      let edges = is_step k closing above && is_step k below closing in
      let no_edges = not (is_step k below above) && not (is_step k closing closing) in
      let differ = not (nat_eq closing above) && not (nat_eq closing below) in
      let first = and_parts within (edges && (no_edges && differ)) parts.0 in
      let bounds = and_parts (nat_lt closing (2 ^ k)) (nat_lt above (2 ^ k) && nat_lt below (2 ^ k)) first.0 in
      let more_bounds = and_parts (nat_lt above (2 ^ k)) (nat_lt below (2 ^ k)) bounds.1 in
      let second = and_parts edges (no_edges && differ) first.1 in
      let has_edges = and_parts (is_step k closing above) (is_step k below closing) second.0 in
      let third = and_parts no_edges differ second.1 in
      let has_none = and_parts (not (is_step k below above)) (not (is_step k closing closing)) third.0 in
      let are_other = and_parts (not (nat_eq closing above)) (not (nat_eq closing below)) third.1 in
      let behind = behind_first k closing above below in
      let others = left_objects k closing above below in
      let in_first = not (is_in closing behind) && not (is_in above behind) in
      let in_second = not (is_in below others) && not (is_in (closing + 2 ^ k) others) in
      let order = and_parts (is_reordered (cut_objects k closing) (closing ∷ above ∷ behind)) (in_first && in_second) more_parts.0 in
      let gone = and_parts in_first in_second order.1 in
      let gone_first = and_parts (not (is_in closing behind)) (not (is_in above behind)) gone.0 in
      let gone_second = and_parts (not (is_in below others)) (not (is_in (closing + 2 ^ k) others)) gone.1 in
      record {
        closing_within = ltb-true closing (2 ^ k) bounds.0;
        above_within = ltb-true above (2 ^ k) more_bounds.0;
        below_within = ltb-true below (2 ^ k) more_bounds.1;
        up = has_edges.0;
        down = has_edges.1;
        not_through = not-true (is_step k below above) has_none.0;
        not_itself = not-true (is_step k closing closing) has_none.1;
        closing_above = unequal closing above are_other.0;
        closing_below = unequal closing below are_other.1;
        near_above = λ t t_within edge. near t t_within (or_right (is_step k t closing) (is_step k closing t) edge);
        near_below = λ t t_within edge. near t t_within (or_left (is_step k t closing) (is_step k closing t) edge);
        listed = order.0;
        no_tail = not-true (is_in closing behind) gone_first.0;
        no_head = not-true (is_in above behind) gone_first.1;
        no_second_tail = not-true (is_in below others) gone_second.0;
        no_second_head = not-true (is_in (closing + 2 ^ k) others) gone_second.1;
        alone = λ x y x_within y_within x_left y_left.
            unless-forth (is_left closing above below y) (is_alone k closing above below x y)
            (unless-forth (is_left closing above below x)
            (not (is_left closing above below y) || is_alone k closing above below x y)
            (list_all-at (is_alone_left k closing above below x) 0 (2 ^ k) y
            (list_all-at (λ x. list_all (is_alone_left k closing above below x) (range_with_len 0 (2 ^ k))) 0 (2 ^ k) x more_parts.1
            (omega arith) (omega (arith, x_within)))
            (omega arith) (omega (arith, y_within)))
            x_left)
            y_left;
      }
