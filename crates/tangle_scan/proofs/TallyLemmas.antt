-- One object more in tallies, and what the objects of a scan count by theirs.
use Rattle.std.proofs.Common.{◌≡◌, ℕ, ◌+◌, ◌*◌, ◌<◌, ◌≤◌, ◌∙◌, List, [], ◌∷◌, ◌++◌, ℤ, pos, length, get_or, refl, sym, ap, ap₂, arith, Bool, true, false, cond}
use Rattle.std.specs.Prelude.{slice_set}
use Rattle.std.specs.List.{range_with_len, sum_by}
use Rattle.std.proofs.lemmas.Bool.{and_parts, eqb-true}
use Rattle.std.proofs.lemmas.Bool.Decides.{Decides-int_eq}
use Rattle.std.proofs.lemmas.List.{get_or-map}
use Rattle.std.proofs.lemmas.List.Sums.{sum_by-cons, sum_by-set, sum_by_push}
use Rattle.kh_types.proofs.ListSums.{sum_by-filter, sum_by-places, sum_by-range_alike}
use Rattle.scan_laws.specs.Scans.{first_object}
use Rattle.scan_laws.specs.Scans as scans
use Rattle.tangle_scan.specs.declared.complex.Object.{Object}
use Rattle.tangle_scan.specs.declared.finished.counting.Tally.{Tally}
use Rattle.tangle_scan.specs.Held.{alive_places, is_alive_at, object_at, object_of}
use Rattle.tangle_scan.specs.Tallies.{AreTallies, IsTallied, count_at, is_tally_of, object_value, once, raised, tallied, tally_of, tally_value}

-- a tally with another degree and shift than any that is counted
abbrev pub no_tally : Tally
no_tally = tally_of 0 (pos 0) 0

pub tallied-new : (degree : ℕ) (shift : ℤ) (tallies : List Tally)
    → IsTallied degree shift tallies (tallies ++ tally_of degree shift 1 ∷ [])
tallied-new degree shift tallies value =
    sum_by_push (tally_value value) tallies (tally_of degree shift 1)
    ∙ ap (λ n. tallied value tallies + n) (alone (value degree shift))
  where
    alone : (n : ℕ) → 1 * n ≡ n
    alone n = omega arith

pub tallied-raised : (degree : ℕ) (shift : ℤ) (tallies : List Tally) (place : ℕ) → place < length tallies
    → is_tally_of degree shift (get_or tallies place no_tally) ≡ true
    → IsTallied degree shift tallies (slice_set tallies place (raised (get_or tallies place no_tally)))
tallied-raised degree shift tallies place below is value =
    let tally = get_or tallies place no_tally in
    let parts = and_parts _ _ is in
    let same : value tally.degree tally.shift ≡ value degree shift =
    ap₂ value (eqb-true tally.degree degree parts.0) ((Decides-int_eq tally.shift shift).0 parts.1) in
    more (tallied value (slice_set tallies place (raised tally))) (tallied value tallies) tally.count (value tally.degree tally.shift)
    (value degree shift) (sum_by-set (tally_value value) tallies place (raised tally) no_tally below) same
  where
    more : (after before count n m : ℕ) → after + count * n ≡ before + (count + 1) * n → n ≡ m → after ≡ before + m
    more after before count n m sums same = omega (arith, sums, same)

-- there are no more than objects
value-once : (object : Object) → object_value once object ≤ 1
value-once object = elim object.is_alive as (λ b. cond b 1 0 ≤ 1) [ true ↦ omega arith | false ↦ omega arith ]

few-objects : (objects : List Object) → sum_by (object_value once) objects ≤ length objects
few-objects [] = omega arith
few-objects (object ∷ objects) =
    omega (arith, sum_by-cons (object_value once) object objects, value-once object, few-objects objects)

pub tallied-few : (objects : List Object) (tallies : List Tally) → AreTallies objects tallies → tallied once tallies ≤ length objects
tallied-few objects tallies are = omega (arith, are once, few-objects objects)

-- what the objects that are there count
module _ (loops plus minus : ℕ) (opened : List ℕ) (i j : ℤ) where
  abbrev value : ℕ → ℤ → ℕ
  value = count_at loops plus minus i j

  abbrev value_of : scans.Object → ℕ
  value_of object = value object.degree object.shift

  alike : (objects : List Object) (d : Object) (x : ℕ) → x < length objects
      → cond (is_alive_at objects x) (value_of (object_at opened objects x)) 0 ≡ object_value value (get_or objects x d)
  alike objects d x below =
      ap₂ (λ (alive : Bool) (object : scans.Object). cond alive (value_of object) 0)
      (get_or-map (λ (object : Object). object.is_alive) objects x d false below)
      (get_or-map (object_of opened) objects x d first_object below)

  pub counted-tallied : (objects : List Object)
      → sum_by (λ x. value_of (object_at opened objects x)) (alive_places objects) ≡ sum_by (object_value value) objects
  counted-tallied [] = refl
  counted-tallied (first ∷ objects) =
      let all = first ∷ objects in
      sum_by-filter (λ x. value_of (object_at opened all x)) (is_alive_at all) (range_with_len 0 (length all))
      ∙ sum_by-range_alike (λ x. cond (is_alive_at all x) (value_of (object_at opened all x)) 0)
      (λ x. object_value value (get_or all x first)) 0 (length all) (λ x from below. alike all first x (omega (arith, below)))
      ∙ sym (sum_by-places (object_value value) all first)
