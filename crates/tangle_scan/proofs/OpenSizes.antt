-- Discs and compositions over all numbers of a program are those over the numbers of a code: the arcs that are open are below both.
use Rattle.std.proofs.Common.{◌≡◌, ℕ, zero, suc, inl, inr, ◌+◌, ◌*◌, ◌%◌, ◌^◌, ◌<◌, ◌≤◌, ◌∙◌, List, [], ◌∷◌, ◌++◌, length, sym, subst, ap, arith, cond}
use Rattle.std.specs.Prelude.{nat_eq, All}
use Rattle.std.specs.List.{AllByRecursion, sum_by}
use Rattle.std.proofs.lemmas.Bool.{both_ways, cases_lt, eqb-true, false_from_ne_true}
use Rattle.std.proofs.lemmas.List.Elements.{All-head, All-tail}
use Rattle.kh_types.specs.CircleSteps.{arc_at}
use Rattle.kh_types.specs.Code.{Code, arc_count}
use Rattle.kh_types.specs.Darts.{HasArcsTwice, dart_at}
use Rattle.kh_types.specs.Rank.{inverse}
use Rattle.kh_types.specs.Residues.{Same}
use Rattle.kh_types.proofs.DartPairs.{IsDart-at}
use Rattle.kh_types.proofs.ListSums.{sum_by-alike, sum_by-none}
use Rattle.surface_laws.specs.Points.{AreAmong, ArePlaced, IsOpenPairing, discs, least_points}
use Rattle.dotted_maps.specs.Composition.{composed}
use Rattle.dotted_maps.specs.Maps.{AreDotted, coefficient_in, composed_in}
use Rattle.dotted_maps.specs.declared.term.Term.{Term}
use Rattle.dotted_maps.proofs.LeastPoints.{AreAmong-append, AreBelow-among, all-themselves}
use Rattle.added_crossing_laws.specs.Codes.{ends_before, is_open, points_at}
use Rattle.added_crossing_laws.proofs.Members.{All-contained, those-are}
use Rattle.tangle_maps.specs.declared.pairing.TheConstants.{POINTS}
use Rattle.tangle_maps.specs.Pairings.{ArePartners, joins_of, numbered, opened_points, paired_arcs}
use Rattle.tangle_maps.proofs.PairedLemmas.{paired, paired-among}
use Rattle.tangle_maps.proofs.PartSizes.{composed-size}
use Rattle.tangle_maps.proofs.SizeLemmas.{least_points-size}
use Rattle.tangle_scan.specs.declared.complex.Object.{Object}
use Rattle.tangle_scan.specs.Held.{IsOpenAt, partners_at}
use Rattle.tangle_scan.specs.Eliminations.{IsLessOver}

-- past the arcs of a code there is no end
no-ends : (crossings : List (List ℕ)) (k x : ℕ) → HasArcsTwice crossings → k ≤ length crossings → arc_count crossings < x
    → ends_before crossings k x ≡ 0
no-ends crossings k x twice within past =
    sum_by-none (λ place. cond (nat_eq (arc_at crossings place) x) 1 0) 0 (4 * k)
    (λ place above below.
    ap (λ b. cond b 1 0)
    (false_from_ne_true (nat_eq (arc_at crossings place) x)
    (λ is.
    let arc = twice.slots (dart_at place) (IsDart-at crossings place (omega (arith, below, within))) in
    omega (arith, arc.within, past, eqb-true (arc_at crossings place) x is))))

open-below : (code : Code) (k : ℕ) → HasArcsTwice code.crossings → k ≤ length code.crossings
    → AllByRecursion (λ x. x < arc_count code.crossings + 1) (points_at code k).opened
open-below code k twice within =
    All-contained (λ x. x < arc_count code.crossings + 1) (points_at code k).opened
    (λ x has.
    let is = those-are (arc_count code.crossings + code.loops) (is_open code k) x has in
    elim (cases_lt (arc_count code.crossings) x) [
      | inl past ↦
          absurd (both_ways (is_open code k x) (ap (λ n. nat_eq n 1) (no-ends code.crossings k x twice within past)) is.passes)
      | inr below ↦ omega (arith, below)
    ])

-- pairs of open arcs, by partners
pub record ArePairs (opened partners : List ℕ) : Type 0 where
  pub among : AreAmong opened (joins_of partners opened)
  pub pairing : IsOpenPairing (opened_points opened) (joins_of partners opened)

pairs-of : (opened partners : List ℕ) → ArePartners partners → opened ≡ paired_arcs partners → ArePairs opened partners
pairs-of opened partners are is =
    subst (λ (xs : List ℕ). ArePairs xs partners) (sym is)
    (record { among = paired-among partners are; pairing = paired partners are })

pub pairs-at : (opened : List ℕ) (objects : List Object) (x : ℕ)
    → All (λ (object : Object). opened ≡ paired_arcs object.pairing.partners) objects → x < length objects
    → ArePairs opened (partners_at objects x)
pairs-at opened [] x all within = absurd (omega (arith, within))
pairs-at opened (object ∷ objects) zero all within =
    pairs-of opened object.pairing.partners object.pairing.paired
    (All-head (λ (o : Object). opened ≡ paired_arcs o.pairing.partners) object objects all)
pairs-at opened (object ∷ objects) (suc x) all within =
    pairs-at opened objects x (All-tail (λ (o : Object). opened ≡ paired_arcs o.pairing.partners) object objects all)
    (omega (arith, within))

module _ (code : Code) (k : ℕ) (opened : List ℕ) (is : IsOpenAt code k opened) where
  abbrev few : ℕ
  few = arc_count code.crossings + 1

  abbrev size : ℕ
  size = arc_count code.crossings + code.loops + 1

  below : AllByRecursion (λ x. x < few) opened
  below = subst (λ (xs : List ℕ). AllByRecursion (λ x. x < few) xs) (sym is.open_arcs) (open-below code k is.twice is.within)

  small : few ≤ size
  small = omega arith

  pub discs-open : (m o : List (ℕ × ℕ)) → AreAmong opened m → AreAmong opened o
      → discs (opened_points opened) m o ≡ discs (points_at code k) m o
  discs-open m o first third =
      let joins = AreBelow-among few opened (m ++ o) below (AreAmong-append opened m o first third) in
      least_points-size few POINTS opened (m ++ o) is.fits below joins
      ∙ sym (least_points-size few size opened (m ++ o) small below joins)
      ∙ ap (λ (xs : List ℕ). least_points size xs (m ++ o)) is.open_arcs

  composed-open : (m c o : List (ℕ × ℕ)) (dots others kept : ℕ) → AreAmong opened m → AreAmong opened c → AreAmong opened o
      → IsOpenPairing (opened_points opened) m
      → composed 0 0 (opened_points opened) m c o dots others kept ≡ composed 0 0 (points_at code k) m c o dots others kept
  composed-open m c o dots others kept first second third pairing =
      let placed : ArePlaced (numbered few opened) = record { alive = below; opened = all-themselves opened } in
      let pairs : IsOpenPairing (numbered few opened) m = record { ends = pairing.ends; once = pairing.once } in
      composed-size 0 0 few POINTS opened m c o dots others kept is.fits placed pairs first second third
      ∙ sym (composed-size 0 0 few size opened m c o dots others kept small placed pairs first second third)
      ∙ ap (λ (xs : List ℕ). composed 0 0 (numbered size xs) m c o dots others kept) is.open_arcs

  composed_in-open : (m c o : List (ℕ × ℕ)) (first second : List Term) (kept : ℕ) → AreAmong opened m → AreAmong opened c
      → AreAmong opened o → IsOpenPairing (opened_points opened) m
      → composed_in 0 0 (opened_points opened) m c o first second kept ≡ composed_in 0 0 (points_at code k) m c o first second kept
  composed_in-open m c o first second kept m_among c_among o_among pairing =
      let wide = composed 0 0 (opened_points opened) m c o in
      let here = composed 0 0 (points_at code k) m c o in
      sum_by-alike
      (λ (term : Term). sum_by (λ (other : Term). term.coefficient * other.coefficient * wide term.dots other.dots kept) second)
      (λ (term : Term). sum_by (λ (other : Term). term.coefficient * other.coefficient * here term.dots other.dots kept) second)
      (λ term.
      sum_by-alike
      (λ (other : Term). term.coefficient * other.coefficient * wide term.dots other.dots kept)
      (λ (other : Term). term.coefficient * other.coefficient * here term.dots other.dots kept)
      (λ other.
      ap (λ n. term.coefficient * other.coefficient * n)
      (composed-open m c o term.dots other.dots kept m_among c_among o_among pairing))
      second)
      first

  -- three pairings by partners
  pub less-open : (p c : ℕ) (from over to : List ℕ) (first second old new : List Term) → ArePairs opened from → ArePairs opened over
      → ArePairs opened to → IsLessOver p c opened from over to first second old new → (kept : ℕ)
      → kept < 2 ^ length (discs (points_at code k) (joins_of from opened) (joins_of to opened))
      → Same p
      (coefficient_in new kept
      + inverse p c
      * composed_in 0 0 (points_at code k) (joins_of from opened) (joins_of over opened) (joins_of to opened) first second kept)
      (coefficient_in old kept)
  less-open p c from over to first second old new pairs_from pairs_over pairs_to less kept kept_below =
      let m = joins_of from opened in
      let h = joins_of over opened in
      let o = joins_of to opened in
      let sets = ap (λ (xs : List ℕ). 2 ^ length xs) (discs-open m o pairs_from.among pairs_to.among) in
      ap (λ n. (coefficient_in new kept + inverse p c * n) % p)
      (sym (composed_in-open m h o first second kept pairs_from.among pairs_over.among pairs_to.among pairs_from.pairing))
      ∙ less.coefficients kept (omega (arith, kept_below, sets))

  pub dotted-open : (p c : ℕ) (from over to : List ℕ) (first second old new : List Term) → ArePairs opened from → ArePairs opened to
      → IsLessOver p c opened from over to first second old new
      → AreDotted (points_at code k) (joins_of from opened) (joins_of to opened) old
      → AreDotted (points_at code k) (joins_of from opened) (joins_of to opened) new
  dotted-open p c from over to first second old new pairs_from pairs_to less dotted =
      let sets = discs-open (joins_of from opened) (joins_of to opened) pairs_from.among pairs_to.among in
      let by = λ (terms : List Term) (xs : List ℕ). AllByRecursion (λ (term : Term). term.dots < 2 ^ length xs) terms in
      subst (by new) sets (less.dots (subst (by old) (sym sets) dotted))
