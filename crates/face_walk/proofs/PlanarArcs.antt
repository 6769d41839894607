-- How near to the sphere one more arc leaves crossings.
use Rattle.std.proofs.lemmas.Bool.Decides.{nat_tests}
use Rattle.std.proofs.Common.{◌≡◌, ℕ, inl, inr, ◌+◌, ◌*◌, ◌/◌, ◌<◌, ◌≤◌, ap, arith}
use Rattle.std.specs.Prelude.{slice_index}
use Rattle.std.proofs.lemmas.Bool.{cases_eq}
use Rattle.kh_types.specs.Classes.{class_count}
use Rattle.kh_types.specs.Darts.{IsPairing}
use Rattle.kh_types.specs.Faces.{open_faces, open_pieces}
use Rattle.kh_types.specs.Permutations.{AreJoined}
use Rattle.face_walk.specs.AddedArcs.{open_dart_count, open_face_count, open_piece_count, HasArcMore}
use Rattle.kh_types.proofs.ExchangedCycles.{AreJoined-count}
use Rattle.face_walk.proofs.OpenFaces.{crossing-below, AreCycles-open_faces, IsNamed-open_pieces}
use Rattle.face_walk.proofs.AddedArcs.{IsPairing-more, open_dart_count-more, open_faces-join, JoinsPieces-apart, StaysInPiece-together}

-- crossings are no nearer to the sphere after than before: they lack at least as many faces
abbrev pub IsNoNearer : ℕ → (ℕ → ℕ) → (ℕ → ℕ) → Type 0
IsNoNearer n before after =
    2 * open_face_count n after + open_dart_count n after + 4 * open_piece_count n before
    ≤ 2 * open_face_count n before + open_dart_count n before + 4 * open_piece_count n after

-- where two faces, or two pieces, become one, there is one fewer

open_face_count-merge : (n : ℕ) (partner other : ℕ → ℕ) (dart mate : ℕ) → IsPairing (4 * n) partner → dart < 4 * n → mate < 4 * n
    → AreJoined (open_faces n partner) (open_faces n other) dart mate → open_face_count n partner ≡ open_face_count n other + 1
open_face_count-merge n partner other dart mate pairing dart_below mate_below merge =
    AreJoined-count (4 * n) (open_faces n partner) (open_faces n other) dart mate (AreCycles-open_faces n partner pairing).named
    dart_below mate_below merge

open_piece_count-merge : (n : ℕ) (partner other : ℕ → ℕ) (dart mate : ℕ) → IsPairing (4 * n) partner → dart < 4 * n → mate < 4 * n
    → AreJoined (open_pieces n partner) (open_pieces n other) (dart / 4) (mate / 4)
    → open_piece_count n partner ≡ open_piece_count n other + 1
open_piece_count-merge n partner other dart mate pairing dart_below mate_below merge =
    grind (arith, nat_tests, AreJoined-count, IsNamed-open_pieces, crossing-below)

-- one more arc never brings crossings nearer to the sphere
pub IsNoNearer-more : (n : ℕ) (before after : ℕ → ℕ) (dart other : ℕ) → IsPairing (4 * n) before
    → HasArcMore (4 * n) before after dart other → IsNoNearer n before after
IsNoNearer-more n before after dart other pairing more =
    let darts = open_dart_count-more n before after dart other more in
    elim (cases_eq (slice_index (open_pieces n before) (dart / 4)) (slice_index (open_pieces n before) (other / 4))) [
      | inr apart ↦
          let joins = JoinsPieces-apart n before after dart other pairing more apart in
          omega (
            arith,
            darts,
            open_face_count-merge n before after dart other pairing more.dart_below more.other_below joins.faces,
            open_piece_count-merge n before after dart other pairing more.dart_below more.other_below joins.pieces,
          )
      | inl together ↦
          let stays = StaysInPiece-together n before after dart other pairing more together in
          let pieces = ap class_count stays.pieces in
          elim stays.faces [
            | inl merge ↦
                omega (arith, darts, pieces, open_face_count-merge n before after dart other pairing more.dart_below more.other_below merge)
            | inr split ↦
                let after_pairing = IsPairing-more (4 * n) before after dart other pairing more in
                let faces = open_face_count-merge n after before dart other after_pairing more.dart_below more.other_below split in
                omega (arith, darts, pieces, faces)
          ]
    ]

-- and where they stay as near, an arc inside a piece joins two darts of one face
pub open_faces-together : (n : ℕ) (before after : ℕ → ℕ) (dart other : ℕ) → IsPairing (4 * n) before
    → HasArcMore (4 * n) before after dart other
    → slice_index (open_pieces n before) (dart / 4) ≡ slice_index (open_pieces n before) (other / 4)
    → IsNoNearer n after before
    → slice_index (open_faces n before) dart ≡ slice_index (open_faces n before) other
open_faces-together n before after dart other pairing more together near =
    elim (cases_eq (slice_index (open_faces n before) dart) (slice_index (open_faces n before) other)) [
      | inl same ↦ same
      | inr apart ↦
          let darts = open_dart_count-more n before after dart other more in
          let pieces = ap class_count (StaysInPiece-together n before after dart other pairing more together).pieces in
          let faces = open_face_count-merge n before after dart other pairing more.dart_below more.other_below
          (open_faces-join n before after dart other pairing more apart) in
          absurd (omega (arith, darts, pieces, faces, near))
    ]
