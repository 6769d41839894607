-- What a place of a code tells of arcs, and that crossings can be added there.
use Rattle.std.proofs.Common.{ℕ, ◌+◌, ◌<◌, ◌≤◌, List, [], ◌++◌, length, sym, subst, ap, arith, Bool}
use Rattle.std.specs.Prelude.{slice_index_or}
use Rattle.std.specs.List.{filter, range_with_len, AllByRecursion, Contains}
use Rattle.std.proofs.lemmas.List.FromFn.{length-range_with_len}
use Rattle.kh_types.specs.Classes.{classes_of, is_least}
use Rattle.kh_types.specs.Code.{Code, arc_count, arc_in}
use Rattle.surface_laws.specs.Points.{AreAmong}
use Rattle.added_crossing_laws.specs.Codes.{closed_at, is_open, points_at, smoothing_at, step_at}
use Rattle.added_crossing_laws.specs.Steps.{is_near, is_none_in, near, those}
use Rattle.added_crossing_laws.proofs.CodeSteps.{slot-near}
use Rattle.added_crossing_laws.proofs.Members.{All-contained, those-are}
use Rattle.tangle_maps.specs.declared.pairing.TheConstants.{POINTS}
use Rattle.crossing_maps.specs.ListedPlaces.{IsArcs}
use Rattle.crossing_maps.specs.Partners.{HasArcsBelow}
use Rattle.crossing_maps.specs.Sides.{CanAdd, IsAround, IsSideAt, IsSiteAt, pairs_before}
use Rattle.crossing_maps.specs.Sites.{IsPlace}
use Rattle.crossing_maps.specs.declared.between.Side.{Side}
use Rattle.crossing_maps.specs.declared.splitting.Site.{Site}
use Rattle.crossing_maps.proofs.Loopless.{near-are, near-few, open-are}
use Rattle.crossing_maps.proofs.FewClosed.{few-closed}
use Rattle.crossing_maps.proofs.Placed.{next-near, opened-near}
use Rattle.crossing_maps.proofs.SeamPlaces.{arcs-filtered, filter-shorter}

those-arcs : (count : ℕ) (test : ℕ → Bool) → count + 1 ≤ POINTS → IsArcs POINTS (those count test)
those-arcs count test fits = record {
  below = All-contained (λ x. x < POINTS) (those count test) (λ x has. omega (arith, fits, (those-are count test x has).below));
  fits = omega (arith, fits, filter-shorter test (range_with_len 1 count), length-range_with_len 1 count);
}

pub slots-below : (code : Code) (k : ℕ) → IsPlace code k → HasArcsBelow POINTS (slice_index_or code.crossings k [])
slots-below code k place slot below =
    omega (
      arith,
      place.fits,
      near-few code k (arc_in (slice_index_or code.crossings k []) slot) place.twice (slot-near code k slot place.twice place.crossing below),
    )

pub opened-arcs : (code : Code) (k j : ℕ) → IsPlace code k → IsArcs POINTS (points_at code j).opened
opened-arcs code k j place =
    subst (λ xs. IsArcs POINTS xs) (sym (open-are code j place.twice)) (those-arcs (arc_count code.crossings) (is_open code j) place.fits)

pub near-arcs : (code : Code) (k : ℕ) → IsPlace code k → IsArcs POINTS (near (step_at code k))
near-arcs code k place =
    subst (λ xs. IsArcs POINTS xs) (sym (near-are code k place.twice))
    (those-arcs (arc_count code.crossings) (is_near (step_at code k)) place.fits)

pub closed-arcs : (code : Code) (k smoothing : ℕ) (m : List (ℕ × ℕ)) → IsPlace code k → IsArcs POINTS (closed_at code k smoothing m)
closed-arcs code k smoothing m place =
    let classes = classes_of (arc_count code.crossings + code.loops + 1) (m ++ smoothing_at code k smoothing) in
    arcs-filtered POINTS (is_none_in (points_at code (k + 1)).opened classes) (filter (is_least classes) (near (step_at code k)))
    (arcs-filtered POINTS (is_least classes) (near (step_at code k)) (near-arcs code k place))

-- what a program keeps of a place of a code
pub around-there : (code : Code) (k : ℕ) (site : Site) → IsPlace code k → IsSiteAt code k site → IsAround site
around-there code k site place is =
    let around = near (step_at code k) in
    let Near : ℕ → Type 0 = λ x. Contains around x in
    let before : AllByRecursion Near (points_at code k).opened =
    All-contained Near (points_at code k).opened (λ x has. opened-near code k x has) in
    let behind : AllByRecursion Near (points_at code (k + 1)).opened =
    All-contained Near (points_at code (k + 1)).opened (λ x has. next-near code k x place has) in
    record {
      opened = subst (λ xs. IsArcs POINTS xs) (sym is.before) (opened-arcs code k k place);
      around = subst (λ xs. IsArcs POINTS xs) (sym is.here) (near-arcs code k place);
      next = subst (λ xs. IsArcs POINTS xs) (sym is.behind) (opened-arcs code k (k + 1) place);
      before = subst (λ xs. AllByRecursion (λ x. Contains xs x) site.opened.now) (sym is.here)
          (subst (λ xs. AllByRecursion Near xs) (sym is.before) before);
      behind = subst (λ xs. AllByRecursion (λ x. Contains xs x) site.next.now) (sym is.here)
          (subst (λ xs. AllByRecursion Near xs) (sym is.behind) behind);
      slots = λ slot below.
          subst (λ xs. Contains xs (arc_in site.crossing.now slot)) (sym is.here)
          (subst (λ slots. Contains around (arc_in slots slot)) (sym is.crossing)
          (slot-near code k slot place.twice place.crossing below));
    }

pub can-add : (code : Code) (k : ℕ) (site : Site) (from to : Side) → IsPlace code k → IsSiteAt code k site → IsSideAt code k site from
    → IsSideAt code k site to → CanAdd site from to
can-add code k site from to place is first second = record {
  around = around-there code k site place is;
  first = subst (λ xs. AreAmong xs (pairs_before site from)) (sym is.before) first.among;
  second = subst (λ xs. AreAmong xs (pairs_before site to)) (sym is.before) second.among;
  closed = subst (λ xs. IsArcs POINTS xs) (sym first.circles) (closed-arcs code k from.smoothing (pairs_before site from) place);
  others = subst (λ xs. IsArcs POINTS xs) (sym second.circles) (closed-arcs code k to.smoothing (pairs_before site to) place);
  both = omega (
    arith,
    few-closed code k from.smoothing (pairs_before site from) place first.among,
    few-closed code k to.smoothing (pairs_before site to) place second.among,
    ap (λ (xs : List ℕ). length xs) first.circles,
    ap (λ (xs : List ℕ). length xs) second.circles,
  );
}
