-- Walks round the faces of an accepted code.
use Rattle.std.proofs.lemmas.Bool.Decides.{nat_tests}
use Rattle.std.proofs.Common.{arith}
use Rattle.std.proofs.Common.{◌≡◌, ◌≢◌, ℕ, ◌+◌, ◌*◌, ◌<◌, ◌∙◌, List, length, sym, ap, subst}
use Rattle.std.specs.Prelude.{IsTrue, slice_index}
use Rattle.std.specs.List.{range_with_len}
use Rattle.std.proofs.Math.ListN.{set}
use Rattle.kh_types.specs.Acceptance.{accepted}
use Rattle.kh_types.specs.Code.{Code}
use Rattle.kh_types.specs.Darts.{face_step, partner_at}
use Rattle.kh_types.specs.Faces.{faces_of}
use Rattle.kh_types.specs.Walks.{IsWalked}
use Rattle.face_walk.proofs.FaceLemmas.{AreCycles-faces, IsNamed-faces_of}
use Rattle.face_walk.proofs.OpenFaces.{face_back}
use Rattle.kh_types.proofs.WalkLemmas.{IsOnWalk, IsOnWalk-first, IsOnWalk-more, IsWalked-more, IsWalked-skip, IsWalked-none, walked-all}

-- a walk round a face of a code
abbrev pub IsOnFace : Code → List ℕ → List ℕ → ℕ → ℕ → Type 0
IsOnFace code initial classes least place =
    IsOnWalk (4 * length code.crossings) (face_step (partner_at code.crossings)) (face_back (partner_at code.crossings))
    (faces_of code.crossings) initial classes least place

pub IsOnFace-first : (code : Code) (classes : List ℕ) (least next : ℕ) → IsTrue (accepted code) → least < 4 * length code.crossings
    → IsWalked (faces_of code.crossings) classes least → slice_index classes least ≡ least
    → next ≡ face_step (partner_at code.crossings) least → IsOnFace code classes classes least next
IsOnFace-first code classes least next is below walked own is_next =
    subst (λ (place : ℕ). IsOnFace code classes classes least place) (sym is_next)
    (IsOnWalk-first (4 * length code.crossings) (face_step (partner_at code.crossings)) (face_back (partner_at code.crossings))
    (faces_of code.crossings) classes least (AreCycles-faces code is) below walked own)

pub IsOnFace-more : (code : Code) (initial classes : List ℕ) (least place next : ℕ) → IsTrue (accepted code)
    → least < 4 * length code.crossings → place ≢ least → IsOnFace code initial classes least place
    → next ≡ face_step (partner_at code.crossings) place → IsOnFace code initial (set classes place least) least next
IsOnFace-more code initial classes least place next is below apart on is_next =
    subst (λ (x : ℕ). IsOnFace code initial (set classes place least) least x) (sym is_next)
    (IsOnWalk-more (4 * length code.crossings) (face_step (partner_at code.crossings)) (face_back (partner_at code.crossings))
    (faces_of code.crossings) initial classes least place (AreCycles-faces code is) below apart on)

pub IsOnFace-last : (code : Code) (initial classes : List ℕ) (least place : ℕ) → IsTrue (accepted code)
    → IsWalked (faces_of code.crossings) initial least → IsOnFace code initial classes least place → place ≡ least
    → IsWalked (faces_of code.crossings) classes (least + 1)
IsOnFace-last code initial classes least place is walked on back =
    IsWalked-more (4 * length code.crossings) (face_step (partner_at code.crossings)) (face_back (partner_at code.crossings))
    (faces_of code.crossings) initial classes least (AreCycles-faces code is) walked
    (subst (λ (x : ℕ). IsOnFace code initial classes least x) back on)

pub faces_skipped : (code : Code) (classes : List ℕ) (place : ℕ) → IsTrue (accepted code) → place < 4 * length code.crossings
    → IsWalked (faces_of code.crossings) classes place → slice_index classes place ≢ place
    → IsWalked (faces_of code.crossings) classes (place + 1)
faces_skipped code classes place is below walked other = grind (arith, nat_tests, IsWalked-skip, IsNamed-faces_of)

pub faces_unwalked : (code : Code) (classes : List ℕ) (count : ℕ) → IsTrue (accepted code) → count ≡ 4 * length code.crossings
    → classes ≡ range_with_len 0 count → IsWalked (faces_of code.crossings) classes 0
faces_unwalked code classes count is is_count alone =
    subst (λ (xs : List ℕ). IsWalked (faces_of code.crossings) xs 0) (sym (alone ∙ ap (λ n. range_with_len 0 n) is_count))
    (IsWalked-none (4 * length code.crossings) (faces_of code.crossings) (IsNamed-faces_of code is))

pub faces_walked : (code : Code) (classes : List ℕ) (count : ℕ) → IsTrue (accepted code) → count ≡ 4 * length code.crossings
    → IsWalked (faces_of code.crossings) classes count → classes ≡ faces_of code.crossings
faces_walked code classes count is is_count walked = grind (arith, nat_tests, walked-all, IsNamed-faces_of)

pub ruleset walks = (faces_skipped, faces_unwalked, faces_walked)
