-- What slices join. The segments of strands are numbered as they begin. A cap joins the two that it begins, a cup the two that it ends; a
-- crossing ends two and begins two, and each of its darts meets one.
use Rattle.std.specs.Prelude.{◌≡◌, ℕ, ◌+◌, ◌-◌, ◌*◌, ◌/◌, ◌%◌, ◌<◌, min, List, [], ◌∷◌, ◌++◌, get_or, map, take, drop, nat_eq, if◌then◌else◌, Bool, true}
use Rattle.std.specs.List.{AllByRecursion, fold, list_any}
use Rattle.kh_types.specs.Classes.{AreBelow, Respects}
use Rattle.morse_drawing.specs.DartRows.{IsIn}
use Rattle.morse_drawing.specs.declared.slice.Slice.{Slice}
use Rattle.morse_drawing.specs.declared.slice.Slice.TheVariants.{Cap, Cup, Cross}

-- slices being read: the segments in the row, the number of the next segment, the segments that are joined, and the darts with the
-- segments that they meet
pub record Sketch : Type 0 where
  pub row : List ℕ
  pub next : ℕ
  pub joins : List (ℕ × ℕ)
  pub met : List (ℕ × ℕ)

-- the place of the dart at a crossing, some slots after one
abbrev pub dart_after : ℕ → ℕ → ℕ → ℕ
dart_after crossing slot more = 4 * (crossing - 1) + (slot + more) % 4

-- a cap: one segment more, with both ends in the row
abbrev pub with_cap : Sketch → ℕ → Sketch
with_cap r place = record {
  row = take place r.row ++ r.next ∷ (r.next + 1) ∷ drop place r.row;
  next = r.next + 2;
  joins = r.joins ++ (r.next, r.next + 1) ∷ [];
  met = r.met;
}

-- a cup: two segments are joined, and leave the row
abbrev pub with_cup : Sketch → ℕ → Sketch
with_cup r place = record {
  row = take place r.row ++ drop (place + 2) r.row;
  next = r.next;
  joins = r.joins ++ (get_or r.row place 0, get_or r.row (place + 1) 0) ∷ [];
  met = r.met;
}

-- a crossing: two segments meet two of its darts, and two new ones come from the others
abbrev pub with_cross : Sketch → ℕ → ℕ → ℕ → Sketch
with_cross r place crossing slot = record {
  row = take place r.row ++ r.next ∷ (r.next + 1) ∷ drop (place + 2) r.row;
  next = r.next + 2;
  joins = r.joins;
  met = (dart_after crossing slot 0, get_or r.row place 0) ∷ (dart_after crossing slot 1, r.next)
      ∷ (dart_after crossing slot 2, r.next + 1) ∷ (dart_after crossing slot 3, get_or r.row (place + 1) 0) ∷ r.met;
}

-- a slice more
abbrev pub sketched : Sketch → Slice → Sketch
sketched r (Cap at) = with_cap r (at - 1)
sketched r (Cup at) = with_cup r (at - 1)
sketched r (Cross at crossing slot) = with_cross r (at - 1) crossing slot

-- no slices
abbrev pub no_sketch : Sketch
no_sketch = record { row = []; next = 0; joins = []; met = [] }

-- slices, from the first to the last
abbrev pub sketch_of : List Slice → Sketch
sketch_of slices = fold sketched no_sketch slices

-- the segment that a dart meets
abbrev pub segment_met : List (ℕ × ℕ) → ℕ → ℕ
segment_met [] dart = 0
segment_met (first ∷ rest) dart = if nat_eq first.0 dart then first.1 else segment_met rest dart

-- whether a dart meets a segment: its crossing is drawn
abbrev pub is_met : List (ℕ × ℕ) → ℕ → Bool
is_met met dart = list_any (λ (e : ℕ × ℕ). nat_eq e.0 dart) met

-- a segment is of the class of one that a dart of a drawn crossing meets
pub record IsReached (n : ℕ) (drawn : List ℕ) (r : Sketch) (segment : ℕ) : Type 0 where
  pub dart : ℕ
  pub below : dart < 4 * n
  pub is_drawn : IsIn (dart / 4) drawn
  pub same : (f : ℕ → ℕ) → Respects f r.joins → f segment ≡ f (segment_met r.met dart)

-- what is read of a drawing under way: each segment of the row is joined with the one that the row's dart meets, the two darts of a closed
-- arc meet joined segments, and segments of different arcs are not joined
pub record IsSketched (n : ℕ) (part whole : ℕ → ℕ) (drawn row : List ℕ) (r : Sketch) : Type 0 where
  pub zipped : List (ℕ × ℕ)
  pub segments : map (λ (e : ℕ × ℕ). e.0) zipped ≡ r.row
  pub darts : map (λ (e : ℕ × ℕ). e.1) zipped ≡ row
  pub joins_below : AreBelow r.next r.joins
  pub segments_below : AllByRecursion (λ (e : ℕ × ℕ). e.0 < r.next) zipped
  pub met_below : (x : ℕ) → x < 4 * n → IsIn (x / 4) drawn → segment_met r.met x < r.next
  pub along : (f : ℕ → ℕ) → Respects f r.joins → AllByRecursion (λ (e : ℕ × ℕ). f e.0 ≡ f (segment_met r.met e.1)) zipped
  pub closed : (f : ℕ → ℕ) → Respects f r.joins → (x : ℕ) → x < 4 * n → IsIn (x / 4) drawn
      → f (segment_met r.met x) ≡ f (segment_met r.met (part x))
  pub known : (x : ℕ) → is_met r.met x ≡ true → (x < 4 * n) × IsIn (x / 4) drawn
  pub all_met : (x : ℕ) → x < 4 * n → IsIn (x / 4) drawn → is_met r.met x ≡ true
  pub reached : (segment : ℕ) → segment < r.next → IsReached n drawn r segment
  pub colour : ℕ → ℕ
  pub respects : Respects colour r.joins
  pub named : (x : ℕ) → x < 4 * n → IsIn (x / 4) drawn → colour (segment_met r.met x) ≡ min x (whole x)
