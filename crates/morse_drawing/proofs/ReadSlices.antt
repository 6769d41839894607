-- What is read of the slices before a place, and what the rest answers.
use Rattle.std.proofs.Common.{◌≡◌, ℕ, ◌+◌, ◌*◌, ◌<◌, ◌≤◌, ◌∙◌, List, length, map, get_or, drop, sym, ap, subst, arith}
use Rattle.std.specs.Prelude.{slice_index_or, Option, Some, None, Err}
use Rattle.std.proofs.lemmas.List.{length-map}
use Rattle.kh_types.specs.declared.limits.TheConstants.{CROSSINGS}
use Rattle.morse_drawing.specs.Joins.{joined_by}
use Rattle.morse_drawing.specs.OpenEnds.{ArePaired, OpenEnds, after_slice, no_strands, other_of, strands_ends, strands_fault}
use Rattle.morse_drawing.proofs.JoinedBySteps.{joins_from, joins_go}
use Rattle.morse_drawing.specs.Sketches.{Sketch, no_sketch, sketched}
use Rattle.morse_drawing.specs.declared.fault.SliceFault.{SliceFault}
use Rattle.morse_drawing.specs.declared.slice.Slice.{Slice}
use Rattle.morse_drawing.proofs.Ends.DartEnd.{bare, opened, paired_with}
use Rattle.morse_drawing.proofs.EndNumbers.{IsOther, all_at, known-same, other_number}
use Rattle.morse_drawing.proofs.JoinedEnds.{Held-none, IsHeldBy, fault-same, held-next, joined-ends}
use Rattle.morse_drawing.proofs.TextLemmas.{drop-all, next-slice}

-- the ends are those of some slices, and what the rest answers is what all slices join
pub record IsRead (slices : List Slice) (place : ℕ) (ends : OpenEnds) : Type 0 where
  pub sketch : Sketch
  pub held : IsHeldBy CROSSINGS sketch ends
  pub rest : joins_from CROSSINGS ends (place + 1) (drop place slices) ≡ joined_by slices

pub read_none : (slices : List Slice) (ends : OpenEnds) → ends ≡ no_strands CROSSINGS → IsRead slices 0 ends
read_none slices ends none =
    subst (λ (s : OpenEnds). IsRead slices 0 s) (sym none)
    (record { sketch = no_sketch; held = Held-none CROSSINGS; rest = joined-ends CROSSINGS slices })

unfolded : (slices : List Slice) (place : ℕ) (ends : OpenEnds) (other : Slice) → IsRead slices place ends → place < length slices
    → joins_go (strands_fault CROSSINGS ends (place + 1) (slice_index_or slices place other))
    (joins_from CROSSINGS (after_slice ends (slice_index_or slices place other)) (place + 2) (drop (place + 1) slices))
    ≡ joined_by slices
unfolded slices place ends other is below =
    let slice = slice_index_or slices place other in
    let e : place + 2 ≡ place + 1 + 1 = omega arith in
    ap (λ k. joins_go (strands_fault CROSSINGS ends (place + 1) slice)
    (joins_from CROSSINGS (after_slice ends slice) k (drop (place + 1) slices))) e
    ∙ sym (ap (λ xs. joins_from CROSSINGS ends (place + 1) xs) (next-slice slices place other below)) ∙ is.rest

pub read_more : (slices : List Slice) (place : ℕ) (ends next : OpenEnds) (other : Slice) → IsRead slices place ends → place < length slices
    → strands_fault CROSSINGS ends (place + 1) (slice_index_or slices place other) ≡ None
    → next ≡ after_slice ends (slice_index_or slices place other) → IsRead slices (place + 1) next
read_more slices place ends next other is below none now =
    let slice = slice_index_or slices place other in
    let e : place + 1 + 1 ≡ place + 2 = omega arith in
    subst (λ (s : OpenEnds). IsRead slices (place + 1) s) (sym now)
    (record {
      sketch = sketched is.sketch slice;
      held = held-next CROSSINGS is.sketch ends (place + 1) slice is.held
          (sym (fault-same CROSSINGS is.sketch ends (place + 1) slice is.held) ∙ none);
      rest = ap (λ k. joins_from CROSSINGS (after_slice ends slice) k (drop (place + 1) slices)) e
          ∙ sym (ap (λ o. joins_go o (joins_from CROSSINGS (after_slice ends slice) (place + 2) (drop (place + 1) slices))) none)
          ∙ unfolded slices place ends other is below;
    })

pub read_fault : (slices : List Slice) (place : ℕ) (ends : OpenEnds) (other : Slice) (fault : SliceFault) → IsRead slices place ends
    → place < length slices → Some fault ≡ strands_fault CROSSINGS ends (place + 1) (slice_index_or slices place other)
    → Err fault ≡ joined_by slices
read_fault slices place ends other fault is below some =
    ap (λ o. joins_go o (joins_from CROSSINGS (after_slice ends (slice_index_or slices place other)) (place + 2) (drop (place + 1) slices)))
    some
    ∙ unfolded slices place ends other is below

pub read_all : (slices : List Slice) (place : ℕ) (ends : OpenEnds) → IsRead slices place ends → length slices ≤ place
    → strands_ends CROSSINGS ends ≡ joined_by slices
read_all slices place ends is all =
    sym (ap (λ xs. joins_from CROSSINGS ends (place + 1) xs) (drop-all slices place all)) ∙ is.rest

-- a dart and the one that it has found
pub read_paired : (slices : List Slice) (place : ℕ) (ends : OpenEnds) → IsRead slices place ends → ArePaired CROSSINGS ends.others
read_paired slices place ends is x y below some = elim (is.held.held.ends.darts x below) [
  | bare unmet none alone ↦ absurd (omega (arith, alone, there, y_below))
  | opened met at once alone ↦ absurd (omega (arith, alone, there, y_below))
  | paired_with z met met_z z_below differs to back none none_z one at ↦
      let same : z ≡ y = sym to ∙ there in
      (y_below, found y x below (ap (λ k. get_or (map (other_number CROSSINGS) ends.others) k 0) (sym same) ∙ back) y_below)
]
  where
    size : length ends.others ≡ 4 * CROSSINGS
    size = sym (length-map ends.others (other_number CROSSINGS)) ∙ is.held.held.ends.size

    y_below : y < 4 * CROSSINGS
    y_below =
        subst (λ (o : Option ℕ). IsOther CROSSINGS o) some
        (all_at (IsOther CROSSINGS) x None ends.others (omega (arith, below, size)) is.held.are.others)

    there : get_or (map (other_number CROSSINGS) ends.others) x 0 ≡ y
    there = known-same CROSSINGS ends.others x (omega (arith, below, size)) ∙ ap (other_number CROSSINGS) some

    found : (u v : ℕ) → v < 4 * CROSSINGS → get_or (map (other_number CROSSINGS) ends.others) u 0 ≡ v → u < 4 * CROSSINGS
        → other_of ends.others u ≡ Some v
    found u v v_below is_v u_below =
        by_case (other_of ends.others u) (sym (known-same CROSSINGS ends.others u (omega (arith, u_below, size))) ∙ is_v)
      where
        by_case : (o : Option ℕ) → other_number CROSSINGS o ≡ v → o ≡ Some v
        by_case None e = absurd (omega (arith, e, v_below))
        by_case (Some w) e = ap Some e
