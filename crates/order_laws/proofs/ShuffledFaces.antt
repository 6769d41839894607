-- Faces and pieces of codes whose crossings are those of another in another order are as many.
use Rattle.std.proofs.Common.{◌≡◌, ℕ, ◌+◌, ◌*◌, ◌/◌, ◌%◌, ◌<◌, ◌∙◌, List, length, map, refl, sym, subst, ap, ap₂, arith}
use Rattle.std.specs.List.{range_with_len}
use Rattle.kh_types.specs.Classes.{AreBelow, Respects, class_count, classes_of}
use Rattle.kh_types.specs.Darts.{HasArcsTwice, partner_at, turned}
use Rattle.kh_types.specs.Faces.{face_count, face_pair, piece_count, piece_pair, planar_face_count}
use Rattle.kh_types.proofs.DartPairs.{IsOtherPlace-partner_at}
use Rattle.kh_types.proofs.CountedClasses.{at-respects, below-range, respects-at}
use Rattle.order_laws.proofs.ClassNumbers.{class_count-renamed}
use Rattle.order_laws.proofs.Shuffled.{IsShuffled, IsShuffled-back}
use Rattle.order_laws.proofs.ShuffledDarts.{HasArcsTwice-shuffled, carried, carried-below, carried-twice, partner-carried}

abbrev faces : List (List ℕ) → ℕ → List (ℕ × ℕ)
faces crossings m = map (face_pair (partner_at crossings)) (range_with_len 0 m)

abbrev pieces : List (List ℕ) → ℕ → List (ℕ × ℕ)
pieces crossings m = map (piece_pair (partner_at crossings)) (range_with_len 0 m)

turned-carried : (to : ℕ → ℕ) (q : ℕ) → turned (carried to q) ≡ carried to (turned q)
turned-carried to q =
    let l : (4 * to (q / 4) + q % 4) / 4 ≡ to (q / 4) = omega arith in
    let u : (4 * to (q / 4) + q % 4) % 4 ≡ q % 4 = omega arith in
    let v : q / 4 ≡ (4 * (q / 4) + (q % 4 + 3) % 4) / 4 = omega arith in
    let w : (q % 4 + 3) % 4 ≡ (4 * (q / 4) + (q % 4 + 3) % 4) % 4 = omega arith in
    ap₂ (λ a b. 4 * a + (b + 3) % 4) l u ∙ ap₂ (λ a b. 4 * to a + b) v w

turned-below : (q n : ℕ) → q < 4 * n → turned q < 4 * n
turned-below q n below = omega (arith, below)

faces-below : (crossings : List (List ℕ)) → HasArcsTwice crossings → AreBelow (4 * length crossings) (faces crossings (4 * length crossings))
faces-below crossings twice =
    let n = length crossings in
    below-range (face_pair (partner_at crossings)) (4 * n) 0 (4 * n)
    (λ q from below. (
      omega (arith, below),
      turned-below (partner_at crossings q) n (IsOtherPlace-partner_at crossings q twice (omega (arith, below))).below,
    ))

pieces-below : (crossings : List (List ℕ)) → HasArcsTwice crossings → AreBelow (length crossings) (pieces crossings (4 * length crossings))
pieces-below crossings twice =
    let n = length crossings in
    below-range (piece_pair (partner_at crossings)) n 0 (4 * n)
    (λ q from below.
    (omega (arith, below), omega (arith, (IsOtherPlace-partner_at crossings q twice (omega (arith, below))).below)))

module _ (old new : List (List ℕ)) (to choices : ℕ → ℕ) (is : IsShuffled old new to choices) (twice : HasArcsTwice old) where
  faces-onward : (m : ℕ) → m ≡ 4 * length old → (g : ℕ → ℕ) → Respects g (faces new m) → Respects (λ x. g (carried to x)) (faces old m)
  faces-onward m is_m g respects =
      at-respects (λ x. g (carried to x)) (face_pair (partner_at old)) 0 m
      (λ q from below.
      let inside : q < 4 * length old = omega (arith, below, is_m) in
      respects-at g (face_pair (partner_at new)) 0 m respects (carried to q) (omega arith)
      (omega (arith, is_m, carried-below old new to choices is q inside))
      ∙ ap g (ap turned (partner-carried old new to choices is twice q inside) ∙ turned-carried to (partner_at old q)))

  pieces-onward : (m : ℕ) → m ≡ 4 * length old → (g : ℕ → ℕ) → Respects g (pieces new m) → Respects (λ x. g (to x)) (pieces old m)
  pieces-onward m is_m g respects =
      at-respects (λ x. g (to x)) (piece_pair (partner_at old)) 0 m
      (λ q from below.
      let inside : q < 4 * length old = omega (arith, below, is_m) in
      let l : to (q / 4) ≡ carried to q / 4 = whole (to (q / 4)) (q % 4) (omega arith) in
      let o = partner_at old q in
      let k : carried to o / 4 ≡ to (o / 4) = sym (whole (to (o / 4)) (o % 4) (omega arith)) in
      ap g l
      ∙ respects-at g (piece_pair (partner_at new)) 0 m respects (carried to q) (omega arith)
      (omega (arith, is_m, carried-below old new to choices is q inside))
      ∙ ap g (ap (λ x. x / 4) (partner-carried old new to choices is twice q inside) ∙ k))
    where
      whole : (a b : ℕ) → b < 4 → a ≡ (4 * a + b) / 4
      whole a b below = omega (arith, below)

module _ (old new : List (List ℕ)) (to choices : ℕ → ℕ) (is : IsShuffled old new to choices) (twice : HasArcsTwice old) where
  abbrev home : IsShuffled new old to choices
  home = IsShuffled-back old new to choices is is.bits

  abbrev new_twice : HasArcsTwice new
  new_twice = HasArcsTwice-shuffled old new to choices is twice

  pub face_count-shuffled : face_count new ≡ face_count old
  face_count-shuffled =
      let n = length old in
      ap (λ k. class_count (classes_of (4 * k) (faces new (4 * k)))) is.size
      ∙ sym (class_count-renamed (4 * n) (carried to) (faces old (4 * n)) (faces new (4 * n))
      (record { below = carried-below old new to choices is; twice = carried-twice old new to choices is })
      (faces-below old twice)
      (subst (λ (k : ℕ). AreBelow (4 * k) (faces new (4 * k))) is.size (faces-below new new_twice))
      (faces-onward old new to choices is twice (4 * n) refl)
      (faces-onward new old to choices home new_twice (4 * n) (ap (λ k. 4 * k) (sym is.size))))

  pub piece_count-shuffled : piece_count new ≡ piece_count old
  piece_count-shuffled =
      let n = length old in
      ap (λ k. class_count (classes_of k (pieces new (4 * k)))) is.size
      ∙ sym (class_count-renamed n to (pieces old (4 * n)) (pieces new (4 * n))
      (record { below = is.below; twice = is.twice })
      (pieces-below old twice)
      (subst (λ (k : ℕ). AreBelow k (pieces new (4 * k))) is.size (pieces-below new new_twice))
      (pieces-onward old new to choices is twice (4 * n) refl)
      (pieces-onward new old to choices home new_twice (4 * n) (ap (λ k. 4 * k) (sym is.size))))

  pub planar-shuffled : planar_face_count new ≡ planar_face_count old
  planar-shuffled = ap₂ (λ n k. n + 2 * k) is.size piece_count-shuffled
