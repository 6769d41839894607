-- A crossing and a saddle of a code as surfaces laid over one another.
--
-- Old pairing and smoothing join arcs near the crossing, and a state joins what is alive after it: a cut, on either side (`IsCut-at`).
-- With one smoothing for two pairings the surface between the pairings is laid so (`IsLaid-both`), and with both smoothings for one pairing
-- the saddle (`IsLaid-saddle`). The sums over the dots are two instances of one lemma (`sum-added`).
use Rattle.std.proofs.Common.{◌≡◌, ℕ, ◌+◌, ◌%◌, ◌<◌, ◌∙◌, List, [], ◌++◌, length, map, sym, ap, ap₂, subst, arith, append_assoc}
use Rattle.std.specs.List.{AllByRecursion, Contains}
use Rattle.std.proofs.lemmas.Bool.{or_left}
use Rattle.kh_types.specs.Bits.{bit}
use Rattle.kh_types.specs.Code.{Code, arc_count}
use Rattle.kh_types.specs.Classes.{classes_of, is_least, Respects}
use Rattle.kh_types.specs.Darts.{HasArcsTwice}
use Rattle.kh_types.proofs.Lists.{AllByRecursion-weaker}
use Rattle.kh_types.proofs.ClassLemmas.{Respects-append, Respects-first, Respects-second}
use Rattle.kh_types.specs.Residues.{Same}
use Rattle.surface_laws.specs.Surfaces.{Surface, value}
use Rattle.surface_laws.proofs.TwoSides.{AllByRecursion-map}
use Rattle.surface_laws.specs.Points.{AreAmong, least_points, discs}
use Rattle.genus_laws.specs.CutCodes.{outer_smoothings}
use Rattle.added_crossing_laws.specs.Pairings.{marked_by}
use Rattle.added_crossing_laws.specs.Steps.{is_near, near}
use Rattle.added_crossing_laws.specs.Codes.{is_open, points_at, step_at, smoothing_at, pairing_behind, sheet_at, outside_at, added_at, disc_of, saddle_strips, saddle_sheet, saddle_added, AreLabelled, IsLabelled, discs_behind, AreClosed, sum_over_dots}
use Rattle.added_crossing_laws.proofs.Members.{filter-kept, those-are, are-those, All-contained}
use Rattle.added_crossing_laws.proofs.Classes.{AreAmong-wider, AreAmong-append}
use Rattle.added_crossing_laws.proofs.CutJoins.{IsCut, near-has, next-has}
use Rattle.added_crossing_laws.proofs.Overlay.{IsLaid, LiesNear, all_of, marked-among}
use Rattle.added_crossing_laws.proofs.Whole.{sum-added}
use Rattle.added_crossing_laws.proofs.CodeSteps.{IsStep-at, slot-near, smoothing-among, outer-among, outer-split}
use Rattle.added_crossing_laws.proofs.NewPairing.{IsNewPairing-made}

opened-near : (code : Code) (k x : ℕ) → Contains (points_at code k).opened x → Contains (near (step_at code k)) x
opened-near code k x has =
    let is = those-are (arc_count code.crossings + code.loops) (is_open code k) x has in
    are-those (arc_count code.crossings + code.loops) (is_near (step_at code k)) x is.above is.below
    (or_left (is_open code k x) ((step_at code k).at_crossing x) is.passes)

pub joins-near : (code : Code) (k smoothing : ℕ) (m : List (ℕ × ℕ)) → HasArcsTwice code.crossings → k < length code.crossings
    → AreAmong (points_at code k).opened m → AreAmong (near (step_at code k)) (m ++ smoothing_at code k smoothing)
joins-near code k smoothing m twice below among =
    AreAmong-append (near (step_at code k)) m (smoothing_at code k smoothing)
    (AreAmong-wider (points_at code k).opened (near (step_at code k)) m (opened-near code k) among)
    (smoothing-among code k smoothing twice below)

pub IsCut-at : (code : Code) (k smoothing state : ℕ) (m : List (ℕ × ℕ)) → HasArcsTwice code.crossings → k < length code.crossings
    → AreAmong (points_at code k).opened m
    → IsCut (step_at code k) (m ++ smoothing_at code k smoothing) (pairing_behind code k smoothing m)
    (outer_smoothings code.crossings state (k + 1))
IsCut-at code k smoothing state m twice below among =
    let step_is = IsStep-at code k twice below in
    let inside = joins-near code k smoothing m twice below among in
    record {
      step_is = step_is;
      inside = inside;
      made = IsNewPairing-made (step_at code k) (m ++ smoothing_at code k smoothing) step_is inside;
      outside = outer-among code state (k + 1) twice;
    }

discs-near : (code : Code) (k : ℕ) (m n : List (ℕ × ℕ)) (marks : ℕ → ℕ)
    → AllByRecursion (λ face. Contains (near (step_at code k)) face.0) (marked_by marks (discs (points_at code k) m n))
discs-near code k m n marks =
    marked-among (discs (points_at code k) m n) (near (step_at code k)) marks
    (λ x has.
    opened-near code k x
    (filter-kept (is_least (classes_of (points_at code k).size (m ++ n))) (points_at code k).opened x has).has)

opened-all-near : (code : Code) (k : ℕ) → AllByRecursion (λ x. Contains (near (step_at code k)) x) (points_at code k).opened
opened-all-near code k =
    All-contained (λ x. Contains (near (step_at code k)) x) (points_at code k).opened (opened-near code k)

wider : (code : Code) (k : ℕ) (joins : List (ℕ × ℕ)) → HasArcsTwice code.crossings → k < length code.crossings
    → AreAmong (near (step_at code k)) joins → AreAmong (points_at code k).alive joins
wider code k joins twice below =
    AreAmong-wider (near (step_at code k)) (points_at code k).alive joins
    (λ x has. near-has (step_at code k) x (IsStep-at code k twice below) has)

outer-wider : (code : Code) (state k : ℕ) → HasArcsTwice code.crossings → k < length code.crossings
    → AreAmong (points_at code k).alive (outer_smoothings code.crossings state (k + 1))
outer-wider code state k twice below =
    AreAmong-wider (points_at code (k + 1)).alive (points_at code k).alive (outer_smoothings code.crossings state (k + 1))
    (λ x has. next-has (step_at code k) x (IsStep-at code k twice below) has) (outer-among code state (k + 1) twice)

-- one smoothing for both pairings

both-onward : (f : ℕ → ℕ) (m n s w : List (ℕ × ℕ)) → Respects f (m ++ (n ++ (s ++ w))) → Respects f ((m ++ s) ++ ((n ++ s) ++ w))
both-onward f m n s w respects =
    let at_m = Respects-first f m (n ++ (s ++ w)) respects in
    let later = Respects-second f m (n ++ (s ++ w)) respects in
    let at_n = Respects-first f n (s ++ w) later in
    let last = Respects-second f n (s ++ w) later in
    let at_s = Respects-first f s w last in
    Respects-append f (m ++ s) ((n ++ s) ++ w) (Respects-append f m s at_m at_s)
    (Respects-append f (n ++ s) w (Respects-append f n s at_n at_s) (Respects-second f s w last))

both-back : (f : ℕ → ℕ) (m n s w : List (ℕ × ℕ)) → Respects f ((m ++ s) ++ ((n ++ s) ++ w)) → Respects f (m ++ (n ++ (s ++ w)))
both-back f m n s w respects =
    let first = Respects-first f (m ++ s) ((n ++ s) ++ w) respects in
    let later = Respects-second f (m ++ s) ((n ++ s) ++ w) respects in
    let second = Respects-first f (n ++ s) w later in
    Respects-append f m (n ++ (s ++ w)) (Respects-first f m s first)
    (Respects-append f n (s ++ w) (Respects-first f n s second)
    (Respects-append f s w (Respects-second f m s first) (Respects-second f (n ++ s) w later)))

IsLaid-both : (code : Code) (k state smoothing : ℕ) (m n : List (ℕ × ℕ)) → HasArcsTwice code.crossings
    → k < length code.crossings → AreAmong (points_at code k).opened m → AreAmong (points_at code k).opened n
    → IsLaid (step_at code k) (m ++ smoothing_at code k smoothing) (n ++ smoothing_at code k smoothing)
    (pairing_behind code k smoothing m) (pairing_behind code k smoothing n) (outer_smoothings code.crossings state (k + 1))
    (m ++ (n ++ (smoothing_at code k smoothing ++ outer_smoothings code.crossings state (k + 1))))
IsLaid-both code k state smoothing m n twice below first second =
    let s = smoothing_at code k smoothing in
    let w = outer_smoothings code.crossings state (k + 1) in
    let alive = (points_at code k).alive in
    let m_alive = wider code k m twice below
    (AreAmong-wider (points_at code k).opened (near (step_at code k)) m (opened-near code k) first) in
    let n_alive = wider code k n twice below
    (AreAmong-wider (points_at code k).opened (near (step_at code k)) n (opened-near code k) second) in
    record {
      first = IsCut-at code k smoothing state m twice below first;
      second = IsCut-at code k smoothing state n twice below second;
      onward = λ f respects. both-onward f m n s w respects;
      back = λ f respects. both-back f m n s w respects;
      among = AreAmong-append alive m (n ++ (s ++ w)) m_alive
          (AreAmong-append alive n (s ++ w) n_alive
          (AreAmong-append alive s w (wider code k s twice below (smoothing-among code k smoothing twice below))
          (outer-wider code state k twice below)));
    }

-- a surface by the lists of joins that its circles come from
abbrev by_joins : Code → ℕ → List (ℕ × ℕ) → List (ℕ × ℕ) → (ℕ → ℕ) → (ℕ → ℕ) → (ℕ → ℕ) → List (ℕ × ℕ) → List (ℕ × ℕ) → List (ℕ × ℕ)
    → Surface
by_joins code k m n dots label other_label w first second = record {
  size = (points_at code k).size;
  places = (points_at code k).alive;
  joins = m ++ (n ++ w);
  faces = marked_by dots (discs (points_at code k) m n)
      ++ (marked_by label (least_points (points_at code k).size (points_at code k).alive first)
      ++ marked_by other_label (least_points (points_at code k).size (points_at code k).alive second));
  lowers = (points_at code k).opened;
  raises = [];
}

same-sheet : (code : Code) (k state : ℕ) (m n : List (ℕ × ℕ)) (dots label other_label : ℕ → ℕ) → k < length code.crossings
    → all_of (step_at code k) (m ++ (n ++ (smoothing_at code k (bit state k) ++ outer_smoothings code.crossings state (k + 1))))
    (m ++ smoothing_at code k (bit state k)) (n ++ smoothing_at code k (bit state k)) (outer_smoothings code.crossings state (k + 1))
    (marked_by dots (discs (points_at code k) m n)) (points_at code k).opened label other_label
    ≡ sheet_at code k state m n dots label other_label
same-sheet code k state m n dots label other_label below =
    let s = smoothing_at code k (bit state k) in
    let w = outer_smoothings code.crossings state (k + 1) in
    ap₂ (λ (first second : List (ℕ × ℕ)). by_joins code k m n dots label other_label (s ++ w) first second) (append_assoc m s w)
    (append_assoc n s w)
    ∙ ap (λ (all : List (ℕ × ℕ)). by_joins code k m n dots label other_label all (m ++ all) (n ++ all))
    (sym (outer-split code state k below))

label-split : (code : Code) (k state : ℕ) (m : List (ℕ × ℕ)) (label : ℕ → ℕ) → k < length code.crossings
    → Respects label (m ++ outer_smoothings code.crossings state k)
    → Respects label ((m ++ smoothing_at code k (bit state k)) ++ outer_smoothings code.crossings state (k + 1))
label-split code k state m label below respects =
    let s = smoothing_at code k (bit state k) in
    let w = outer_smoothings code.crossings state (k + 1) in
    subst (λ (pairs : List (ℕ × ℕ)). Respects label pairs) (sym (append_assoc m s w))
    (subst (λ (pairs : List (ℕ × ℕ)). Respects label (m ++ pairs)) (outer-split code state k below) respects)

lies-near : (code : Code) (k : ℕ) (m n : List (ℕ × ℕ)) (dots : ℕ → ℕ)
    → LiesNear (step_at code k) (marked_by dots (discs (points_at code k) m n)) (points_at code k).opened
lies-near code k m n dots = record { faces_near = discs-near code k m n dots; lowers_near = opened-all-near code k }

pub sum-crossing : (p h minus : ℕ) (code : Code) (k state : ℕ) (m n : List (ℕ × ℕ)) (dots label other_label : ℕ → ℕ)
    → Same p (h + minus) 0 → AreLabelled code k state m n label other_label
    → AreClosed
    (outside_at code k state (pairing_behind code k (bit state k) m) (pairing_behind code k (bit state k) n) label other_label)
    (added_at code k (bit state k) m n dots label other_label) (discs_behind code k (bit state k) (bit state k) m n)
    → Same p
    (sum_over_dots h minus
    (outside_at code k state (pairing_behind code k (bit state k) m) (pairing_behind code k (bit state k) n) label other_label)
    (added_at code k (bit state k) m n dots label other_label) (discs_behind code k (bit state k) (bit state k) m n))
    (value h minus (sheet_at code k state m n dots label other_label))
sum-crossing p h minus code k state m n dots label other_label cancels labelled closed =
    let e = bit state k in
    let s = smoothing_at code k e in
    let w = outer_smoothings code.crossings state (k + 1) in
    sum-added p h minus (step_at code k) (m ++ s) (n ++ s) (pairing_behind code k e m) (pairing_behind code k e n) w (m ++ (n ++ (s ++ w)))
    (marked_by dots (discs (points_at code k) m n)) (points_at code k).opened label other_label cancels
    (IsLaid-both code k state e m n labelled.twice labelled.crossing labelled.first labelled.second) (lies-near code k m n dots)
    record {
      first = label-split code k state m label labelled.crossing labelled.first_label;
      second = label-split code k state n other_label labelled.crossing labelled.second_label;
    }
    record { far = closed.first_closed; close = closed.second_closed }
    ∙ ap (λ (surface : Surface). value h minus surface % p) (same-sheet code k state m n dots label other_label labelled.crossing)

-- both smoothings for one pairing

saddle-onward : (f : ℕ → ℕ) (m s t w : List (ℕ × ℕ)) → Respects f (m ++ (s ++ (t ++ w))) → Respects f ((m ++ s) ++ ((m ++ t) ++ w))
saddle-onward f m s t w respects =
    let at_m = Respects-first f m (s ++ (t ++ w)) respects in
    let later = Respects-second f m (s ++ (t ++ w)) respects in
    let at_s = Respects-first f s (t ++ w) later in
    let last = Respects-second f s (t ++ w) later in
    Respects-append f (m ++ s) ((m ++ t) ++ w) (Respects-append f m s at_m at_s)
    (Respects-append f (m ++ t) w (Respects-append f m t at_m (Respects-first f t w last)) (Respects-second f t w last))

saddle-back : (f : ℕ → ℕ) (m s t w : List (ℕ × ℕ)) → Respects f ((m ++ s) ++ ((m ++ t) ++ w)) → Respects f (m ++ (s ++ (t ++ w)))
saddle-back f m s t w respects =
    let first = Respects-first f (m ++ s) ((m ++ t) ++ w) respects in
    let later = Respects-second f (m ++ s) ((m ++ t) ++ w) respects in
    let second = Respects-first f (m ++ t) w later in
    Respects-append f m (s ++ (t ++ w)) (Respects-first f m s first)
    (Respects-append f s (t ++ w) (Respects-second f m s first)
    (Respects-append f t w (Respects-second f m t second) (Respects-second f (m ++ t) w later)))

pub IsLaid-saddle : (code : Code) (k state : ℕ) (m : List (ℕ × ℕ)) → HasArcsTwice code.crossings
    → k < length code.crossings → AreAmong (points_at code k).opened m
    → IsLaid (step_at code k) (m ++ smoothing_at code k 0) (m ++ smoothing_at code k 1)
    (pairing_behind code k 0 m) (pairing_behind code k 1 m) (outer_smoothings code.crossings state (k + 1))
    (m ++ (smoothing_at code k 0 ++ (smoothing_at code k 1 ++ outer_smoothings code.crossings state (k + 1))))
IsLaid-saddle code k state m twice below among =
    let s = smoothing_at code k 0 in
    let t = smoothing_at code k 1 in
    let w = outer_smoothings code.crossings state (k + 1) in
    let alive = (points_at code k).alive in
    let m_alive = wider code k m twice below
    (AreAmong-wider (points_at code k).opened (near (step_at code k)) m (opened-near code k) among) in
    record {
      first = IsCut-at code k 0 state m twice below among;
      second = IsCut-at code k 1 state m twice below among;
      onward = λ f respects. saddle-onward f m s t w respects;
      back = λ f respects. saddle-back f m s t w respects;
      among = AreAmong-append alive m (s ++ (t ++ w)) m_alive
          (AreAmong-append alive s (t ++ w) (wider code k s twice below (smoothing-among code k 0 twice below))
          (AreAmong-append alive t w (wider code k t twice below (smoothing-among code k 1 twice below))
          (outer-wider code state k twice below)));
    }

pairs-near : (code : Code) (k : ℕ) (m : List (ℕ × ℕ)) → AreAmong (points_at code k).opened m
    → AllByRecursion (λ face. Contains (near (step_at code k)) face.0) (map disc_of m)
pairs-near code k m among =
    AllByRecursion-map (λ face. Contains (near (step_at code k)) face.0) disc_of m
    (AllByRecursion-weaker (λ pair. Contains (points_at code k).opened pair.0 × Contains (points_at code k).opened pair.1)
    (λ pair. Contains (near (step_at code k)) pair.0) m (λ pair has. opened-near code k pair.0 has.0) among)

saddle-near : (code : Code) (k : ℕ) (m : List (ℕ × ℕ)) → HasArcsTwice code.crossings → k < length code.crossings
    → AreAmong (points_at code k).opened m → LiesNear (step_at code k) (map disc_of m) (saddle_strips code k)
saddle-near code k m twice below among =
    let there = slot-near code k 0 twice below (omega arith) in
    record { faces_near = pairs-near code k m among; lowers_near = (there, (there, opened-all-near code k)) }

pub sum-saddle : (p h minus : ℕ) (code : Code) (k state : ℕ) (m : List (ℕ × ℕ)) (label other_label : ℕ → ℕ)
    → Same p (h + minus) 0 → IsLabelled code k state m label other_label
    → AreClosed (outside_at code k state (pairing_behind code k 0 m) (pairing_behind code k 1 m) label other_label)
    (saddle_added code k m label other_label) (discs_behind code k 0 1 m m)
    → Same p
    (sum_over_dots h minus (outside_at code k state (pairing_behind code k 0 m) (pairing_behind code k 1 m) label other_label)
    (saddle_added code k m label other_label) (discs_behind code k 0 1 m m))
    (value h minus (saddle_sheet code k state m label other_label))
sum-saddle p h minus code k state m label other_label cancels labelled closed =
    let s = smoothing_at code k 0 in
    let t = smoothing_at code k 1 in
    let w = outer_smoothings code.crossings state (k + 1) in
    sum-added p h minus (step_at code k) (m ++ s) (m ++ t) (pairing_behind code k 0 m) (pairing_behind code k 1 m) w (m ++ (s ++ (t ++ w)))
    (map disc_of m) (saddle_strips code k) label other_label cancels
    (IsLaid-saddle code k state m labelled.twice labelled.crossing labelled.pairing)
    (saddle-near code k m labelled.twice labelled.crossing labelled.pairing)
    record { first = labelled.first_label; second = labelled.second_label }
    record { far = closed.first_closed; close = closed.second_closed }

pub AreAmong-behind : (code : Code) (k smoothing : ℕ) (m : List (ℕ × ℕ)) → HasArcsTwice code.crossings → k < length code.crossings
    → AreAmong (points_at code k).opened m → AreAmong (points_at code (k + 1)).opened (pairing_behind code k smoothing m)
AreAmong-behind code k smoothing m twice below among =
    (IsNewPairing-made (step_at code k) (m ++ smoothing_at code k smoothing) (IsStep-at code k twice below)
    (joins-near code k smoothing m twice below among)).among
