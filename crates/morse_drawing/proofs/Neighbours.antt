-- In a row that holds the partners of all its darts, two neighbours are partners. The proof is by induction over the length of
-- the row. The partner of the first dart stands behind it. If it comes next, the two are found. Else the arc between both is
-- added: it splits their face, and the darts between them are a shorter row, of one of the two new faces. This row holds the
-- partners of its own darts too: a partner behind the arc's other end would be in the same piece, but on the other of the two
-- faces, and in planar crossings partners that are in one piece are on one face. So two neighbours are partners in the shorter
-- row, and they are neighbours in the whole row. Lists in which a number stands come first.
use Rattle.std.proofs.lemmas.Bool.Decides.{nat_tests}
use Rattle.std.proofs.Common.{◌≡◌, ◌≢◌, ℕ, zero, suc, ◌⊎◌, inl, inr, ◌*◌, ◌/◌, ◌<◌, ◌∙◌, List, [], ◌∷◌, ◌++◌, refl, sym, ap, subst, length, arith}
use Rattle.std.specs.Prelude.{slice_index}
use Rattle.std.specs.List.{AllByRecursion}
use Rattle.std.proofs.lemmas.List.{length-append}
use Rattle.kh_types.specs.Darts.{IsPairing, turned}
use Rattle.kh_types.specs.Faces.{open_faces, open_pieces}
use Rattle.face_walk.specs.AddedArcs.{IsPart, IsPlanar, with_arc}
use Rattle.morse_drawing.specs.DartRows.{AreLinked, AreDifferent, IsIn, IsDartRow}
use Rattle.morse_drawing.proofs.RowPlaces.{HasNeighbours}
use Rattle.face_walk.proofs.OpenFaces.{open_faces-in_pieces}
use Rattle.face_walk.proofs.AddedArcs.{HasArcMore-with_arc, IsPairing-more}
use Rattle.face_walk.proofs.PartArcs.{planar-together, planar-split, IsPart-more}
use Rattle.morse_drawing.proofs.Helpers.{open_faces-step, open_pieces-inside}
use Rattle.kh_types.proofs.Lists.{AllByRecursion-first, AllByRecursion-second, AllByRecursion-weaker}
use Rattle.morse_drawing.proofs.RowMoves.{beside_two, open_after}
use Rattle.morse_drawing.proofs.Links.{AreLinked-cut, AreLinked-from, AreLinked-moved, AreLinked-keeps}

-- where a number stands in a list
record Stands (y : ℕ) (xs : List ℕ) : Type 0 where
  front : List ℕ
  back : List ℕ
  is : xs ≡ front ++ y ∷ back

stands : (y : ℕ) (xs : List ℕ) → IsIn y xs → Stands y xs
stands y [] is_in = absurd is_in
stands y (x ∷ xs) is_in = elim is_in [
  | inl same ↦ record { front = []; back = xs; is = ap (λ z. z ∷ xs) (sym same) }
  | inr later ↦
      let rest = stands y xs later in
      record { front = x ∷ rest.front; back = rest.back; is = ap (λ zs. x ∷ zs) rest.is }
]

pub in_either : (y x : ℕ) (bs cs : List ℕ) → IsIn y (bs ++ x ∷ cs) → IsIn y bs ⊎ ((y ≡ x) ⊎ IsIn y cs)
in_either y x [] cs is_in = inr is_in
in_either y x (b ∷ bs) cs is_in = elim is_in [
  | inl same ↦ inl (inl same)
  | inr later ↦ elim (in_either y x bs cs later) [ inl front ↦ inl (inr front) | inr back ↦ inr back ]
]

pub all_in : (P : ℕ → Type 0) (xs : List ℕ) (y : ℕ) → AllByRecursion P xs → IsIn y xs → P y
all_in P [] y holds is_in = absurd is_in
all_in P (x ∷ xs) y holds is_in = elim is_in [
  | inl same ↦ subst (λ (z : ℕ). P z) (sym same) holds.0
  | inr later ↦ all_in P xs y holds.1 later
]

pub all_by_in : (P : ℕ → Type 0) (xs : List ℕ) → ((y : ℕ) → IsIn y xs → P y) → AllByRecursion P xs
all_by_in P [] holds = tt
all_by_in P (x ∷ xs) holds = (holds x (inl refl), all_by_in P xs (λ y is_in. holds y (inr is_in)))

pub in_front : (y : ℕ) (bs cs : List ℕ) → IsIn y bs → IsIn y (bs ++ cs)
in_front y [] cs is_in = absurd is_in
in_front y (b ∷ bs) cs is_in = elim is_in [ inl same ↦ inl same | inr later ↦ inr (in_front y bs cs later) ]

different_front : (bs cs : List ℕ) → AreDifferent (bs ++ cs) → AreDifferent bs
different_front [] cs once = tt
different_front (b ∷ bs) cs once = (AllByRecursion-first (λ z. z ≢ b) bs cs once.0, different_front bs cs once.1)

-- those before a number are not that number, nor those behind it
different_before : (x : ℕ) (bs cs : List ℕ) → AreDifferent (bs ++ x ∷ cs) → AllByRecursion (λ z. z ≢ x) bs
different_before x [] cs once = tt
different_before x (b ∷ bs) cs once =
    grind (arith, nat_tests, AllByRecursion-second (λ z. z ≢ b) bs (x ∷ cs) once.0, different_before x bs cs once.1)

different_behind : (x : ℕ) (bs cs : List ℕ) → AreDifferent (bs ++ x ∷ cs) → AllByRecursion (λ z. z ≢ x) cs
different_behind x [] cs once = once.0
different_behind x (b ∷ bs) cs once = different_behind x bs cs once.1

-- an arc between the first dart of a row and another, which leaves the darts between them as a row
record Cut (n : ℕ) (whole : ℕ → ℕ) (between : List ℕ) : Type 0 where
  after : ℕ → ℕ
  is_partner : IsPairing (4 * n) after
  is_part : IsPart (4 * n) after whole
  is_row : IsDartRow n after between
  holds : AllByRecursion (λ z. IsIn (whole z) between) between

cut : (n : ℕ) (part whole : ℕ → ℕ) (dart other b : ℕ) (bs cs : List ℕ) → IsPairing (4 * n) part → IsPairing (4 * n) whole
    → IsPart (4 * n) part whole → IsPlanar n whole → ((x : ℕ) → x < 4 * n → whole x ≢ x)
    → IsDartRow n part (dart ∷ (b ∷ bs) ++ other ∷ cs) → whole dart ≡ other
    → AllByRecursion (λ z. IsIn (whole z) (dart ∷ (b ∷ bs) ++ other ∷ cs)) (b ∷ bs)
    → Cut n whole (b ∷ bs)
cut n part whole dart other b bs cs is_partner whole_partner is_part planar full row is_arc holds =
    let between : List ℕ = b ∷ bs in
    let darts : List ℕ = between ++ other ∷ cs in
    let open_rest = row.are_open.1 in
    let open_between = AllByRecursion-first (λ z. (z < 4 * n) × (part z ≡ z)) between (other ∷ cs) open_rest in
    let open_behind = AllByRecursion-second (λ z. (z < 4 * n) × (part z ≡ z)) between (other ∷ cs) open_rest in
    let not_dart = AllByRecursion-first (λ z. z ≢ dart) between (other ∷ cs) row.once.0 in
    let not_dart_behind = AllByRecursion-second (λ z. z ≢ dart) between (other ∷ cs) row.once.0 in
    let not_other = different_before other between cs row.once.1 in
    let not_other_behind = different_behind other between cs row.once.1 in
    let below = row.are_open.0.0 in
    let other_below = open_behind.0.0 in
    let apart : dart ≢ other = λ same. not_dart_behind.0 (sym same) in
    let after = with_arc part dart other in
    let more = HasArcMore-with_arc (4 * n) part dart other below other_below apart row.are_open.0.1 open_behind.0.1 in
    let after_partner = IsPairing-more (4 * n) part after dart other is_partner more in
    let after_part = IsPart-more (4 * n) part after whole dart other whole_partner is_part more is_arc in
    let back : whole other ≡ dart = ap whole (sym is_arc) ∙ whole_partner.back dart below in
    let beside = beside_two n part dart other between open_between not_dart not_other in
    let beside_behind = beside_two n part dart other cs open_behind.1 not_dart_behind.1 not_other_behind in
    let links = AreLinked-cut n part dart other dart between cs row.round in
    let links_between : AreLinked n after dart between dart =
    AreLinked-moved n part after dart other dart other dart between more (ap turned (more.dart_after ∙ sym open_behind.0.1)) beside links.0 in
    let links_behind : AreLinked n after other cs other =
    AreLinked-moved n part after dart other other dart other cs more (ap turned (more.other_after ∙ sym row.are_open.0.1)) beside_behind links.1 in
    let small_of : (xs : List ℕ) → AllByRecursion (λ z. (z < 4 * n) × (part z ≡ z)) xs → AllByRecursion (λ z. z < 4 * n) xs =
    λ xs is_open. AllByRecursion-weaker (λ z. (z < 4 * n) × (part z ≡ z)) (λ z. z < 4 * n) xs (λ z all. all.0) is_open in
    let face : ℕ → ℕ = λ z. slice_index (open_faces n part) z in
    let face_after : ℕ → ℕ = λ z. slice_index (open_faces n after) z in
    let in_face = AreLinked-keeps face n part dart dart darts (λ z z_below. open_faces-step n part z is_partner z_below) below
    (small_of darts open_rest) row.round in
    let in_between = AreLinked-keeps face_after n after dart dart between (λ z z_below. open_faces-step n after z after_partner z_below) below
    (small_of between open_between) links_between in
    let in_behind = AreLinked-keeps face_after n after other other cs (λ z z_below. open_faces-step n after z after_partner z_below)
    other_below (small_of cs open_behind.1) links_behind in
    let face_of : (z : ℕ) → IsIn z darts → face z ≡ face dart = λ z is_in. all_in (λ z. face z ≡ face dart) darts z in_face.0 is_in in
    let other_in : face other ≡ face dart = (AllByRecursion-second (λ z. face z ≡ face dart) between (other ∷ cs) in_face.0).0 in
    let piece_together = open_faces-in_pieces n part dart other is_partner below other_below (sym other_in) in
    let merge = planar-split n part after whole dart other is_partner whole_partner is_part planar more is_arc piece_together in
    let pieces = open_pieces-inside n part after dart other is_partner more piece_together in
    let is_after : (z : ℕ) → (z < 4 * n) × ((z ≢ dart) × (z ≢ other)) → after z ≡ part z =
    λ z all. more.others z all.0 all.1.0 all.1.1 in
    record {
      after = after;
      is_partner = after_partner;
      is_part = after_part;
      is_row = record {
        round = AreLinked-from n after b dart b bs below (λ same. apart (sym same ∙ more.dart_after)) links_between.0 links_between.1;
        are_open = open_after n part after dart other between more open_between beside;
        once = different_front between (other ∷ cs) row.once.1;
      };
      holds = all_by_in (λ z. IsIn (whole z) between) between
          (λ z z_in.
          let z_beside = all_in (λ z. (z < 4 * n) × ((z ≢ dart) × (z ≢ other))) between z beside z_in in
          let z_open = all_in (λ z. (z < 4 * n) × (part z ≡ z)) between z open_between z_in in
          let z_back = whole_partner.back z z_open.0 in
          let partner_in = all_in (λ z. IsIn (whole z) (dart ∷ between ++ other ∷ cs)) between z holds z_in in
          elim partner_in [
            | inl is_dart ↦ absurd (z_beside.1.1 (sym z_back ∙ ap whole is_dart ∙ is_arc))
            | inr in_rest ↦ elim (in_either (whole z) other between cs in_rest) [
              | inl found ↦ found
              | inr elsewhere ↦ elim elsewhere [
                | inl is_other ↦ absurd (z_beside.1.0 (sym z_back ∙ ap whole is_other ∙ back))
                | inr is_behind ↦
                    let y_below = whole_partner.below z z_open.0 in
                    let same_piece : slice_index (open_pieces n part) (z / 4) ≡ slice_index (open_pieces n part) (whole z / 4) =
                    open_faces-in_pieces n part z (whole z) is_partner z_open.0 y_below
                    (face_of z (in_front z between (other ∷ cs) z_in) ∙ sym (face_of (whole z) in_rest)) in
                    let same_face = planar-together n after whole z after_partner whole_partner after_part planar z_open.0
                    (λ same. full z z_open.0 (sym same ∙ is_after z z_beside ∙ z_open.1))
                    (subst (λ (ps : List ℕ). slice_index ps (z / 4) ≡ slice_index ps (whole z / 4)) (sym pieces) same_piece) in
                    absurd (merge.apart
                    (sym (all_in (λ z. face_after z ≡ face_after dart) between z in_between.0 z_in) ∙ same_face
                    ∙ all_in (λ z. face_after z ≡ face_after other) cs (whole z) in_behind.0 is_behind))
              ]
            ]
          ]);
    }

-- two numbers and what is behind them, in a list that goes on
append-assoc_two : (front : List ℕ) (x y : ℕ) (back later : List ℕ)
    → (front ++ x ∷ y ∷ back) ++ later ≡ front ++ x ∷ y ∷ (back ++ later)
append-assoc_two [] x y back later = refl
append-assoc_two (z ∷ zs) x y back later = ap (λ ws. z ∷ ws) (append-assoc_two zs x y back later)

-- the same, where that list stands between a first number and a later one
row_around : (dart other x y : ℕ) (darts between back front rest : List ℕ) → darts ≡ between ++ other ∷ back
    → between ≡ front ++ x ∷ y ∷ rest → dart ∷ darts ≡ (dart ∷ front) ++ x ∷ y ∷ (rest ++ other ∷ back)
row_around dart other x y darts between back front rest is is_between =
    grind (arith, nat_tests, append-assoc_two front x y rest (other ∷ back))

-- two neighbours are partners in each row of fewer darts
abbrev AreNeighbours : ℕ → ℕ → (ℕ → ℕ) → Type 0
AreNeighbours size n whole =
    (part : ℕ → ℕ) (dart : ℕ) (darts : List ℕ) → length darts < size → IsPairing (4 * n) part → IsPart (4 * n) part whole
    → IsDartRow n part (dart ∷ darts) → AllByRecursion (λ z. IsIn (whole z) (dart ∷ darts)) (dart ∷ darts) → HasNeighbours whole (dart ∷ darts)

-- the first dart and its partner are neighbours, or there are neighbours between them
neighbours_between : (size n : ℕ) (part whole : ℕ → ℕ) (dart : ℕ) (darts front back : List ℕ) → length darts < suc size
    → IsPairing (4 * n) part → IsPairing (4 * n) whole → IsPart (4 * n) part whole → IsPlanar n whole
    → ((x : ℕ) → x < 4 * n → whole x ≢ x) → IsDartRow n part (dart ∷ darts)
    → AllByRecursion (λ z. IsIn (whole z) (dart ∷ darts)) (dart ∷ darts) → darts ≡ front ++ whole dart ∷ back
    → AreNeighbours size n whole → HasNeighbours whole (dart ∷ darts)
neighbours_between size n part whole dart darts [] back few is_partner whole_partner is_part planar full row holds is again = record {
  front = [];
  dart = dart;
  other = whole dart;
  back = back;
  is_row = ap (λ zs. dart ∷ zs) is;
  are_partners = refl;
}
neighbours_between size n part whole dart darts (b ∷ bs) back few is_partner whole_partner is_part planar full row holds is again =
    let is_all : dart ∷ darts ≡ dart ∷ (b ∷ bs) ++ whole dart ∷ back = ap (λ zs. dart ∷ zs) is in
    let row_all = subst (λ (zs : List ℕ). IsDartRow n part zs) is_all row in
    let holds_all : AllByRecursion (λ z. IsIn (whole z) (dart ∷ (b ∷ bs) ++ whole dart ∷ back)) (dart ∷ (b ∷ bs) ++ whole dart ∷ back) =
    subst (λ (zs : List ℕ). AllByRecursion (λ z. IsIn (whole z) zs) zs) is_all holds in
    let here = cut n part whole dart (whole dart) b bs back is_partner whole_partner is_part planar full row_all refl
    (AllByRecursion-first (λ z. IsIn (whole z) (dart ∷ (b ∷ bs) ++ whole dart ∷ back)) (b ∷ bs) (whole dart ∷ back) holds_all.1) in
    let shorter : length bs < size = omega (arith, few, ap length is, length-append (b ∷ bs) (whole dart ∷ back)) in
    let found = again here.after b bs shorter here.is_partner here.is_part here.is_row here.holds in
    record {
      front = dart ∷ found.front;
      dart = found.dart;
      other = found.other;
      back = found.back ++ whole dart ∷ back;
      is_row = row_around dart (whole dart) found.dart found.other darts (b ∷ bs) back found.front found.back is found.is_row;
      are_partners = found.are_partners;
    }

neighbours_within : (size n : ℕ) (whole : ℕ → ℕ) → IsPairing (4 * n) whole → IsPlanar n whole → ((x : ℕ) → x < 4 * n → whole x ≢ x)
    → AreNeighbours size n whole
neighbours_within zero n whole whole_partner planar full part dart darts few is_partner is_part row holds = absurd (omega (arith, few))
neighbours_within (suc size) n whole whole_partner planar full part dart darts few is_partner is_part row holds =
    let other_in : IsIn (whole dart) darts =
    elim holds.0 [ inl same ↦ absurd (full dart row.are_open.0.0 same) | inr later ↦ later ] in
    let at = stands (whole dart) darts other_in in
    neighbours_between size n part whole dart darts at.front at.back few is_partner whole_partner is_part planar full row holds at.is
    (neighbours_within size n whole whole_partner planar full)

-- in a row that holds the partners of all its darts, two neighbours are partners
pub HasNeighbours-row : (n : ℕ) (part whole : ℕ → ℕ) (dart : ℕ) (darts : List ℕ) → IsPairing (4 * n) part
    → IsPairing (4 * n) whole → IsPart (4 * n) part whole → IsPlanar n whole → ((x : ℕ) → x < 4 * n → whole x ≢ x)
    → IsDartRow n part (dart ∷ darts) → AllByRecursion (λ z. IsIn (whole z) (dart ∷ darts)) (dart ∷ darts) → HasNeighbours whole (dart ∷ darts)
HasNeighbours-row n part whole dart darts is_partner whole_partner is_part planar full row holds =
    neighbours_within (suc (length darts)) n whole whole_partner planar full part dart darts (omega arith) is_partner is_part row holds
