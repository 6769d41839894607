-- An arc that is hooked on two open neighbours at a crossing: it is cut, and its two ends get arcs to these. Crossings stay planar
-- where the side of the arc that is hooked is on the face of the neighbours, or the arc is in another piece; and what is planar was
-- so before, wherever the arc was hooked. First an arc between the two neighbours is added: it splits their face, and the second of
-- them is alone on a face. Then two exchanges of images of the face step make this arc and the other into the two new ones. The
-- first joins the face of one dart to that at the other side of the arc. The second splits a face, where the side and the
-- neighbours are of one face, and else joins two. Pieces are as before, but for that of the arc, which becomes one with that of the
-- crossing.
use Rattle.std.proofs.Common.{◌≡◌, ◌≢◌, ℕ, ◌⊎◌, inl, inr, ◌+◌, ◌*◌, ◌/◌, ◌<◌, ◌∙◌, List, [], ◌∷◌, ◌++◌, sym, ap, map, arith}
use Rattle.std.specs.Prelude.{nat_eq, slice_index, if◌then◌else◌}
use Rattle.std.specs.List.{range_with_len}
use Rattle.std.proofs.lemmas.Bool.{cases_eq}
use Rattle.std.proofs.lemmas.Bool.Decides.{nat_tests}
use Rattle.kh_types.specs.Classes.{class_count, joined, merged}
use Rattle.kh_types.specs.Darts.{IsPairing, turned, face_step}
use Rattle.kh_types.specs.Faces.{open_faces, open_pieces, piece_pair}
use Rattle.kh_types.specs.Permutations.{AreJoined, IsExchange, cycles_of}
use Rattle.kh_types.proofs.ClassLemmas.{AreBelow-append, Respects-append, Respects-first, Respects-second, slice_index-joined}
use Rattle.kh_types.proofs.ExchangedCycles.{AreJoined-apart, AreJoined-count, IsPermutation-exchange, exchange_back, class_count-exchange_apart, class_count-exchange_together}
use Rattle.kh_types.proofs.JoinedClasses.{classes_of-same, classes_of-more, class_count-joined, class_count-joined_together}
use Rattle.kh_types.proofs.RangeCounts.{count_by-alike}
use Rattle.kh_types.proofs.WalkLemmas.{AreCycles}
use Rattle.face_walk.specs.AddedArcs.{IsPlanar, HasArcMore, is_open, open_dart_count, open_face_count, open_piece_count, with_arc}
use Rattle.face_walk.proofs.AddedArcs.{HasArcMore-with_arc, IsPairing-more, StaysInPiece-together, open_dart_count-more, open_faces-split}
use Rattle.face_walk.proofs.OpenFaces.{AreCycles-open_faces, IsNamed-open_pieces, IsPermutation-face_step, crossing-below, face_back, open_faces-in_pieces, piece_pairs-below}
use Rattle.face_walk.proofs.PartArcs.{planar-bound}
use Rattle.kink_and_finger_laws.proofs.CrossedSides.{exchanged}
use Rattle.kink_and_finger_laws.proofs.Steps.{all_of, all_on}
use Rattle.kh_types.proofs.DartLemmas.{turned-crossing}

-- the arc at x is cut, and x gets an arc to t, the other end one to s
abbrev pub hooked : (ℕ → ℕ) → ℕ → ℕ → ℕ → ℕ → ℕ
hooked partner x s t z =
    if nat_eq z x then t else if nat_eq z t then x else if nat_eq z s then partner x else if nat_eq z (partner x) then s else partner z

-- the arc at x can be hooked on s and t: these are open, and t comes next to s
pub record IsHook (m : ℕ) (partner : ℕ → ℕ) (x s t : ℕ) : Type 0 where
  pub x_below : x < m
  pub s_below : s < m
  pub t_below : t < m
  pub held : partner x ≢ x
  pub s_open : partner s ≡ s
  pub t_open : partner t ≡ t
  pub beside : turned s ≡ t

turned-apart : (s : ℕ) → turned s ≢ s
turned-apart s = omega arith

-- what the partners are then
pub record AreHooked (m : ℕ) (before after : ℕ → ℕ) (x s t : ℕ) : Type 0 where
  pub at_x : after x ≡ t
  pub at_t : after t ≡ x
  pub at_s : after s ≡ before x
  pub at_y : after (before x) ≡ s
  pub others : (z : ℕ) → z ≢ x → z ≢ before x → z ≢ s → z ≢ t → after z ≡ before z
  pub y_below : before x < m
  pub back : before (before x) ≡ x
  pub x_s : x ≢ s
  pub x_t : x ≢ t
  pub y_s : before x ≢ s
  pub y_t : before x ≢ t
  pub s_t : s ≢ t

pub AreHooked-hooked : (m : ℕ) (partner : ℕ → ℕ) (x s t : ℕ) → IsPairing m partner → IsHook m partner x s t
    → AreHooked m partner (hooked partner x s t) x s t
AreHooked-hooked m partner x s t pairing hook = grind (arith, nat_tests, turned-apart s)

pub IsPairing-hooked : (m : ℕ) (partner : ℕ → ℕ) (x s t : ℕ) → IsPairing m partner → IsHook m partner x s t
    → IsPairing m (hooked partner x s t)
IsPairing-hooked m partner x s t pairing hook = grind (arith, nat_tests, AreHooked-hooked m partner x s t pairing hook)

-- an arc between two open neighbours splits their face

neighbours-split : (n : ℕ) (p one : ℕ → ℕ) (s t : ℕ) → IsPairing (4 * n) p → HasArcMore (4 * n) p one s t → turned s ≡ t
    → AreJoined (open_faces n one) (open_faces n p) s t
neighbours-split n p one s t pairing more beside =
    open_faces-split n p one s t pairing more
    (sym ((AreCycles-open_faces n p pairing).step s more.dart_below)
    ∙ ap (λ z. slice_index (open_faces n p) z) (ap turned more.dart_open ∙ beside))

pub IsPlanar-beside : (n : ℕ) (p one : ℕ → ℕ) (s t : ℕ) → IsPairing (4 * n) p → HasArcMore (4 * n) p one s t → turned s ≡ t
    → IsPlanar n p → IsPlanar n one
IsPlanar-beside n p one s t pairing more beside planar =
    let same_piece = ap (λ k. slice_index (open_pieces n p) k) (sym (turned-crossing s) ∙ ap (λ z. z / 4) beside) in
    omega (
      arith,
      planar,
      open_dart_count-more n p one s t more,
      ap class_count (StaysInPiece-together n p one s t pairing more same_piece).pieces,
      AreJoined-count (4 * n) (open_faces n one) (open_faces n p) s t
          (AreCycles-open_faces n one (IsPairing-more (4 * n) p one s t pairing more)).named more.dart_below more.other_below
          (neighbours-split n p one s t pairing more beside),
    )

-- what is its own image is alone on its cycle
abbrev marked : ℕ → ℕ → ℕ
marked t z = if nat_eq z t then 1 else 0

alone_on_cycle : {m : ℕ} {f back : ℕ → ℕ} {cycles : List ℕ} (t z : ℕ) → AreCycles m f back cycles → t < m → f t ≡ t → z < m
    → slice_index cycles z ≡ slice_index cycles t → z ≡ t
alone_on_cycle {m} {f} {back} t z are t_below own z_below same =
    is_one z t
    (are.finest (marked t)
    (λ w below. kept w (f w) t (λ is. ap f is ∙ own) (λ is. sym (are.back_f w below) ∙ ap back (is ∙ sym own) ∙ are.back_f t t_below)) z t
    z_below t_below same)
  where
    kept : (w image t : ℕ) → (w ≡ t → image ≡ t) → (image ≡ t → w ≡ t) → marked t w ≡ marked t image
    kept w image t onward backward = grind (arith, nat_tests)

    is_one : (z t : ℕ) → marked t z ≡ marked t t → z ≡ t
    is_one z t same = grind (arith, nat_tests)

pub merged-same : (a b c d : ℕ) → merged a b c ≡ merged a b d → c ≢ b → d ≢ b → c ≡ d
merged-same a b c d same c_other d_other = grind (arith, nat_tests)

IsExchange-exchanged : (m : ℕ) (f : ℕ → ℕ) (x y : ℕ) → x < m → y < m → x ≢ y → IsExchange m f (exchanged f x y) x y
IsExchange-exchanged m f x y x_below y_below apart = grind (arith, nat_tests)

-- the second exchange
IsExchange-hooked : (m : ℕ) (p : ℕ → ℕ) (x s t : ℕ) → IsPairing m p → IsHook m p x s t
    → IsExchange m (exchanged (face_step (with_arc p s t)) (p x) t) (face_step (hooked p x s t)) x s
IsExchange-hooked m p x s t pairing hook = grind (arith, nat_tests, AreHooked-hooked m p x s t pairing hook, turned-apart s)

-- there is a face more where the side and the neighbours are on one face, and else one fewer
faces-hooked : (n : ℕ) (p : ℕ → ℕ) (x s t : ℕ) → IsPairing (4 * n) p → IsHook (4 * n) p x s t
    → ((slice_index (open_faces n p) x ≡ slice_index (open_faces n p) s) × (open_face_count n (hooked p x s t) ≡ open_face_count n p + 1))
    ⊎ ((slice_index (open_faces n p) x ≢ slice_index (open_faces n p) s) × (open_face_count n p ≡ open_face_count n (hooked p x s t) + 1))
faces-hooked n p x s t pairing hook =
    let m = 4 * n in
    let are = AreHooked-hooked m p x s t pairing hook in
    let one = with_arc p s t in
    let more = HasArcMore-with_arc m p s t hook.s_below hook.t_below are.s_t hook.s_open hook.t_open in
    let one_pairing = IsPairing-more m p one s t pairing more in
    let one_cycles = AreCycles-open_faces n one one_pairing in
    let split = neighbours-split n p one s t pairing more hook.beside in
    let first = AreJoined-count m (open_faces n one) (open_faces n p) s t one_cycles.named hook.s_below hook.t_below split in
    let own : face_step one t ≡ t = ap turned more.other_after ∙ hook.beside in
    let alone : (z : ℕ) → z < m → slice_index (open_faces n one) z ≡ slice_index (open_faces n one) t → z ≡ t =
    λ z below same. alone_on_cycle t z one_cycles hook.t_below own below same in
    let permutes = IsPermutation-face_step n one one_pairing in
    let exchange = IsExchange-exchanged m (face_step one) (p x) t are.y_below hook.t_below are.y_t in
    let joins = AreJoined-apart m (face_step one) (face_back one) (exchanged (face_step one) (p x) t) (p x) t permutes exchange
    (λ same. are.y_t (alone (p x) are.y_below same)) in
    let second = AreJoined-count m (open_faces n one) (cycles_of m (exchanged (face_step one) (p x) t)) (p x) t one_cycles.named are.y_below
    hook.t_below joins in
    let middle_permutes = IsPermutation-exchange m (face_step one) (face_back one) (exchanged (face_step one) (p x) t) (p x) t permutes exchange in
    let back = exchange_back (face_step one) (face_back one) (p x) t in
    let middle = exchanged (face_step one) (p x) t in
    let last = IsExchange-hooked m p x s t pairing hook in
    let at : (z : ℕ) → z < m → slice_index (open_faces n p) z
    ≡ merged (slice_index (open_faces n one) s) (slice_index (open_faces n one) t) (slice_index (open_faces n one) z) =
    λ z below. ap (λ (l : List ℕ). slice_index l z) split.one
    ∙ slice_index-joined (open_faces n one) (s, t) z (omega (arith, one_cycles.named.size, below)) in
    let middle_at : (z : ℕ) → z < m → slice_index (cycles_of m middle) z
    ≡ merged (slice_index (open_faces n one) (p x)) (slice_index (open_faces n one) t) (slice_index (open_faces n one) z) =
    λ z below. ap (λ (l : List ℕ). slice_index l z) joins.one
    ∙ slice_index-joined (open_faces n one) (p x, t) z (omega (arith, one_cycles.named.size, below)) in
    let class : ℕ → ℕ = λ z. slice_index (open_faces n one) z in
    let as_one : (a : ℕ) → merged a (class t) (class x) ≡ merged a (class t) (class s) → class x ≡ class s =
    λ a same. merged-same a (class t) (class x) (class s) same (λ is. are.x_t (alone x hook.x_below is))
    (λ is. are.s_t (alone s hook.s_below is)) in
    elim (cases_eq (class x) (class s)) [
      | inl same ↦
          let alike = middle_at x hook.x_below ∙ ap (merged (class (p x)) (class t)) same ∙ sym (middle_at s hook.s_below) in
          inl (
            at x hook.x_below ∙ ap (merged (class s) (class t)) same ∙ sym (at s hook.s_below),
            omega (arith, first, second, class_count-exchange_together m middle back (face_step (hooked p x s t)) x s middle_permutes last alike),
          )
      | inr differ ↦
          let apart = class_count-exchange_apart m middle back (face_step (hooked p x s t)) x s middle_permutes last
          (λ alike. differ (as_one (class (p x)) (sym (middle_at x hook.x_below) ∙ alike ∙ middle_at s hook.s_below))) in
          inr (λ together. differ (as_one (class s) (sym (at x hook.x_below) ∙ together ∙ at s hook.s_below)), omega (arith, first, second, apart))
    ]

-- the piece of the arc and that of the crossing become one
pub open_pieces-hooked : (n : ℕ) (p : ℕ → ℕ) (x s t : ℕ) → IsPairing (4 * n) p → IsHook (4 * n) p x s t
    → open_pieces n (hooked p x s t) ≡ joined (open_pieces n p) (x / 4, s / 4)
open_pieces-hooked n p x s t pairing hook =
    let m = 4 * n in
    let are = AreHooked-hooked m p x s t pairing hook in
    let q = hooked p x s t in
    let old = map (piece_pair p) (range_with_len 0 m) in
    let arc : ℕ × ℕ = (x / 4, s / 4) in
    classes_of-same n (map (piece_pair q) (range_with_len 0 m)) (old ++ arc ∷ []) (piece_pairs-below n q (IsPairing-hooked m p x s t pairing hook))
    (AreBelow-append n old (arc ∷ []) (piece_pairs-below n p pairing) ((crossing-below n x hook.x_below, crossing-below n s hook.s_below), tt))
    (λ h holds.
    let at : (z : ℕ) → z < m → h (z / 4) ≡ h (q z / 4) =
    λ z below. all_on (λ pair. h pair.0 ≡ h pair.1) (piece_pair q) 0 m holds z (omega arith) (omega (arith, below)) in
    let x_s = at x hook.x_below ∙ ap (λ z. h (z / 4)) (are.at_x ∙ sym hook.beside) ∙ ap h (turned-crossing s) in
    Respects-append h old (arc ∷ [])
    (all_of (λ pair. h pair.0 ≡ h pair.1) (piece_pair p) 0 m
    (λ z from below.
    before h m p q x s t z are hook x_s (at s hook.s_below) (at z (omega (arith, below)))))
    (x_s, tt))
    (λ h holds.
    let of_old = Respects-first h old (arc ∷ []) holds in
    let x_s = (Respects-second h old (arc ∷ []) holds).0 in
    let at : (z : ℕ) → z < m → h (z / 4) ≡ h (p z / 4) =
    λ z below. all_on (λ pair. h pair.0 ≡ h pair.1) (piece_pair p) 0 m of_old z (omega arith) (omega (arith, below)) in
    all_of (λ pair. h pair.0 ≡ h pair.1) (piece_pair q) 0 m
    (λ z from below. afterwards h m p q x s t z are hook (x_s ∙ ap h (sym (turned-crossing s)) ∙ ap (λ w. h (w / 4)) hook.beside) x_s
    (at x hook.x_below) (at z (omega (arith, below)))))
    ∙ classes_of-more n old arc
  where
    before : (h : ℕ → ℕ) (m : ℕ) (p q : ℕ → ℕ) (x s t z : ℕ) → AreHooked m p q x s t → IsHook m p x s t → h (x / 4) ≡ h (s / 4)
        → h (s / 4) ≡ h (q s / 4) → h (z / 4) ≡ h (q z / 4) → h (z / 4) ≡ h (p z / 4)
    before h m p q x s t z are hook x_s at_s at_z = grind (arith, nat_tests)

    afterwards : (h : ℕ → ℕ) (m : ℕ) (p q : ℕ → ℕ) (x s t z : ℕ) → AreHooked m p q x s t → IsHook m p x s t → h (x / 4) ≡ h (t / 4)
        → h (x / 4) ≡ h (s / 4) → h (x / 4) ≡ h (p x / 4) → h (z / 4) ≡ h (p z / 4) → h (z / 4) ≡ h (q z / 4)
    afterwards h m p q x s t z are hook x_t x_s at_x at_z = grind (arith, nat_tests)

pieces-hooked : (n : ℕ) (p : ℕ → ℕ) (x s t : ℕ) → IsPairing (4 * n) p → IsHook (4 * n) p x s t
    → (slice_index (open_pieces n p) (x / 4) ≡ slice_index (open_pieces n p) (s / 4)
    → open_piece_count n (hooked p x s t) ≡ open_piece_count n p)
    × (slice_index (open_pieces n p) (x / 4) ≢ slice_index (open_pieces n p) (s / 4)
    → open_piece_count n p ≡ open_piece_count n (hooked p x s t) + 1)
pieces-hooked n p x s t pairing hook =
    let pieces = ap class_count (open_pieces-hooked n p x s t pairing hook) in (
      λ same. pieces ∙ class_count-joined_together (open_pieces n p) (x / 4, s / 4) same,
      λ apart. omega (
        arith,
        pieces,
        class_count-joined n (open_pieces n p) (x / 4, s / 4) (IsNamed-open_pieces n p pairing) (crossing-below n x hook.x_below)
            (crossing-below n s hook.s_below) apart,
      ),
    )

-- there are two open darts fewer
open_dart_count-hooked : (n : ℕ) (p : ℕ → ℕ) (x s t : ℕ) → IsPairing (4 * n) p → IsHook (4 * n) p x s t
    → open_dart_count n p ≡ open_dart_count n (hooked p x s t) + 2
open_dart_count-hooked n p x s t pairing hook =
    let are = AreHooked-hooked (4 * n) p x s t pairing hook in
    let more = HasArcMore-with_arc (4 * n) p s t hook.s_below hook.t_below are.s_t hook.s_open hook.t_open in
    open_dart_count-more n p (with_arc p s t) s t more
    ∙ ap (λ k. k + 2)
    (count_by-alike (is_open (with_arc p s t)) (is_open (hooked p x s t)) 0 (4 * n)
    (λ z from below. open_alike (4 * n) p (with_arc p s t) (hooked p x s t) x s t z (omega (arith, below)) are more hook))
  where
    open_alike : (m : ℕ) (p one q : ℕ → ℕ) (x s t z : ℕ) → z < m → AreHooked m p q x s t → HasArcMore m p one s t → IsHook m p x s t
        → nat_eq (one z) z ≡ nat_eq (q z) z
    open_alike m p one q x s t z below are more hook = grind (arith, nat_tests)

-- so crossings stay planar where the side is on the face of the neighbours or the arc in another piece
pub IsPlanar-hooked : (n : ℕ) (p : ℕ → ℕ) (x s t : ℕ) → IsPairing (4 * n) p → IsHook (4 * n) p x s t
    → (slice_index (open_faces n p) x ≡ slice_index (open_faces n p) s)
    ⊎ (slice_index (open_pieces n p) (x / 4) ≢ slice_index (open_pieces n p) (s / 4))
    → IsPlanar n p → IsPlanar n (hooked p x s t)
IsPlanar-hooked n p x s t pairing hook places planar =
    let darts = open_dart_count-hooked n p x s t pairing hook in
    let pieces = pieces-hooked n p x s t pairing hook in
    elim (faces-hooked n p x s t pairing hook) [
      | inl more ↦
          omega (arith, planar, more.1, darts, pieces.0 (open_faces-in_pieces n p x s pairing hook.x_below hook.s_below more.0))
      | inr fewer ↦ elim places [
        | inl together ↦ absurd (fewer.0 together)
        | inr apart ↦ omega (arith, planar, fewer.1, darts, pieces.1 apart)
      ]
    ]

-- and what is planar was so before an arc was hooked, wherever
pub IsPlanar-unhooked : (n : ℕ) (p : ℕ → ℕ) (x s t : ℕ) → IsPairing (4 * n) p → IsHook (4 * n) p x s t
    → IsPlanar n (hooked p x s t) → IsPlanar n p
IsPlanar-unhooked n p x s t pairing hook planar =
    let darts = open_dart_count-hooked n p x s t pairing hook in
    let pieces = pieces-hooked n p x s t pairing hook in
    let most = planar-bound n p pairing in
    elim (faces-hooked n p x s t pairing hook) [
      | inl more ↦
          omega (arith, planar, more.1, darts, pieces.0 (open_faces-in_pieces n p x s pairing hook.x_below hook.s_below more.0))
      | inr fewer ↦ elim (cases_eq (slice_index (open_pieces n p) (x / 4)) (slice_index (open_pieces n p) (s / 4))) [
        | inl same ↦ omega (arith, planar, fewer.1, darts, most, pieces.0 same)
        | inr apart ↦ omega (arith, planar, fewer.1, darts, pieces.1 apart)
      ]
    ]
