-- The arcs that have a partner after a crossing are those that are open there.
use Rattle.std.proofs.Common.{◌≡◌, ◌≢◌, ℕ, inl, inr, ◌+◌, ◌-◌, ◌<◌, ◌≤◌, ◌∙◌, List, [], ◌++◌, sym, subst, ap, arith, Bool, true, false, not}
use Rattle.std.specs.Prelude.{nat_eq, slice_index}
use Rattle.std.specs.List.{filter, range_with_len, Contains}
use Rattle.std.proofs.lemmas.Bool.{cases_Bool, both_ways, eq-eqb}
use Rattle.std.proofs.lemmas.Bool.Decides.{nat_tests}
use Rattle.std.proofs.lemmas.List.Elements.{filter-append}
use Rattle.kh_types.specs.Circles.{smoothing_of}
use Rattle.kh_types.specs.Classes.{classes_of}
use Rattle.kh_types.specs.Code.{Code, arc_count}
use Rattle.kh_types.proofs.Lists.{filter-range_agree}
use Rattle.kh_types.proofs.Ranges.{range-append}
use Rattle.surface_laws.proofs.Components.{AllByRecursion-at}
use Rattle.added_crossing_laws.specs.Pairings.{IsPairingOf}
use Rattle.added_crossing_laws.specs.Steps.{pairs_among, those}
use Rattle.added_crossing_laws.specs.Codes.{is_open, pairing_behind, points_at}
use Rattle.added_crossing_laws.proofs.Members.{All-contained, are-those, range-within, those-are}
use Rattle.added_crossing_laws.proofs.NewPairing.{IsPair, pairs-are}
use Rattle.added_crossing_laws.proofs.Pairs.{IsPairingOf-behind, end_count-none}
use Rattle.tangle_maps.specs.declared.pairing.TheConstants.{POINTS}
use Rattle.tangle_maps.specs.Pairings.{IsOpened, is_paired, paired_arcs}
use Rattle.crossing_maps.specs.Sites.{IsPlace, IsSite}
use Rattle.crossing_maps.proofs.AllArcs.{pairs-serve}
use Rattle.crossing_maps.proofs.Loopless.{append-none, filter-none, open-are}
use Rattle.crossing_maps.proofs.PairedUp.{ended, made-own, made_of, stays}
use Rattle.kh_types.proofs.JoinedClasses.{slice_index-range}

pub filter-within : (p q : ℕ → Bool) (count n : ℕ) → count + 1 ≤ n → p 0 ≡ false
    → ((x : ℕ) → 1 ≤ x → x < 1 + count → p x ≡ q x) → ((x : ℕ) → count < x → x < n → p x ≡ false)
    → filter p (range_with_len 0 n) ≡ filter q (range_with_len 1 count)
filter-within p q count n within none alike later =
    let rest = n - 1 - count in
    let size : n ≡ 1 + (count + rest) = omega (arith, within) in
    let front : filter p (range_with_len 0 1) ≡ [] = filter-none p (range_with_len 0 1) (none, tt) in
    let back : filter p (range_with_len (1 + count) rest) ≡ [] =
    filter-none p (range_with_len (1 + count) rest)
    (All-contained (λ x. p x ≡ false) (range_with_len (1 + count) rest)
    (λ x has.
    let is = range-within (1 + count) rest x has in
    later x (omega (arith, is.above)) (omega (arith, is.below, within)))) in
    ap (λ k. filter p (range_with_len 0 k)) size
    ∙ ap (filter p) (range-append 0 1 (count + rest))
    ∙ filter-append p (range_with_len 0 1) (range_with_len 1 (count + rest))
    ∙ ap (λ xs. xs ++ filter p (range_with_len 1 (count + rest))) front
    ∙ ap (filter p) (range-append 1 count rest)
    ∙ filter-append p (range_with_len 1 count) (range_with_len (1 + count) rest)
    ∙ ap (λ xs. filter p (range_with_len 1 count) ++ xs) back
    ∙ append-none (filter p (range_with_len 1 count))
    ∙ filter-range_agree p q 1 count alike

apart-true : (x y : ℕ) → x ≢ y → not (nat_eq x y) ≡ true
apart-true x y apart = grind (arith, nat_tests)

same-false : (x y : ℕ) → x ≡ y → not (nat_eq x y) ≡ false
same-false x y same = ap not (eq-eqb x y same)

-- who has a partner
with-partner : (points classes : List ℕ) (x : ℕ) → IsOpened points → IsPairingOf points (pairs_among points classes) → Contains points x
    → is_paired (made_of points classes) x ≡ true
with-partner points classes x opened paired has =
    let pairs = pairs_among points classes in
    let found = ended pairs x (paired.once x has) in
    let is : IsPair points classes found.pair = AllByRecursion-at (IsPair points classes) pairs found.pair (pairs-are points classes) found.has in
    let partners = made-own points classes found.pair.0 found.pair.1 opened paired found.has is in
    apart-true x (slice_index (made_of points classes) x)
    (elim found.end [
      | inl first ↦
          let partner : slice_index (made_of points classes) x ≡ found.pair.1 = ap (slice_index (made_of points classes)) first ∙ partners.first in
          λ same. omega (arith, same, partner, first, is.rises)
      | inr second ↦
          let partner : slice_index (made_of points classes) x ≡ found.pair.0 = ap (slice_index (made_of points classes)) second ∙ partners.second in
          λ same. omega (arith, same, partner, second, is.rises)
    ])

without-partner : (points classes : List ℕ) (x : ℕ) → IsPairingOf points (pairs_among points classes) → (Contains points x → ⊥) → x < POINTS
    → is_paired (made_of points classes) x ≡ false
without-partner points classes x paired not_has below =
    same-false x (slice_index (made_of points classes) x)
    (sym (stays (range_with_len 0 POINTS) (pairs_among points classes) x
    (end_count-none points (pairs_among points classes) x paired.among not_has)
    ∙ slice_index-range POINTS x below))

pub arcs-made : (count : ℕ) (test : ℕ → Bool) (classes : List ℕ) → count + 1 ≤ POINTS → IsOpened (those count test)
    → IsPairingOf (those count test) (pairs_among (those count test) classes)
    → paired_arcs (made_of (those count test) classes) ≡ those count test
arcs-made count test classes within opened paired =
    let points = those count test in
    filter-within (is_paired (made_of points classes)) test count POINTS within
    (without-partner points classes 0 paired (λ has. omega (arith, (those-are count test 0 has).above)) (omega (arith, within)))
    (λ x above below. elim (cases_Bool (test x)) [
      | inl passes ↦ with-partner points classes x opened paired (are-those count test x above below passes) ∙ sym passes
      | inr fails ↦
          without-partner points classes x paired (λ has. both_ways (test x) fails (those-are count test x has).passes)
          (omega (arith, below, within))
          ∙ sym fails
    ])
    (λ x past below. without-partner points classes x paired (λ has. omega (arith, past, (those-are count test x has).below)) below)

pub split-arcs : (code : Code) (k smoothing : ℕ) (m : List (ℕ × ℕ)) (partners classes opened around next slots : List ℕ) → IsPlace code k
    → IsSite code k opened around next slots → IsPairingOf (points_at code k).opened m
    → classes ≡ classes_of POINTS (m ++ smoothing_of smoothing slots) → partners ≡ made_of next classes → IsOpened next
    → next ≡ paired_arcs partners
split-arcs code k smoothing m partners classes opened around next slots place site paired are made small =
    let count = arc_count code.crossings in
    let is : next ≡ those count (is_open code (k + 1)) = site.behind ∙ open-are code (k + 1) place.twice in
    let same : pairs_among (points_at code (k + 1)).opened classes ≡ pairing_behind code k smoothing m =
    ap (pairs_among (points_at code (k + 1)).opened) (are ∙ ap (λ s. classes_of POINTS (m ++ smoothing_of smoothing s)) site.crossing)
    ∙ pairs-serve code k smoothing m place paired.among in
    let behind = IsPairingOf-behind code k smoothing m place.twice place.crossing paired in
    is
    ∙ sym (arcs-made count (is_open code (k + 1)) classes place.fits (subst (λ xs. IsOpened xs) is small)
    (subst (λ xs. IsPairingOf xs (pairs_among xs classes)) (open-are code (k + 1) place.twice)
    (subst (λ pairs. IsPairingOf (points_at code (k + 1)).opened pairs) (sym same) behind)))
    ∙ ap paired_arcs (ap (λ xs. made_of xs classes) (sym is) ∙ sym made)
