-- What the eight states of a triangle do, as a test.
use Rattle.std.specs.Prelude.{ℕ, List, nat_eq, nat_lt, Bool, not, ◌&&◌, ◌||◌, slice_index}
use Rattle.std.specs.List.{list_all, range_with_len}
use Rattle.std.specs.Str.{bytes_eq}
use Rattle.kh_types.specs.Circles.{smoothings_of}
use Rattle.gluing_laws.specs.Slides.{triangle_before, triangle_after, ends_joined, inside_classes, is_slidable}
use Rattle.gluing_laws.proofs.Ties.{are_below}
use Rattle.layer_laws.specs.Slid.{kind_before, kind_after}
use Rattle.slide_view_laws.specs.Triangles.{closing, across, changed_at}

-- the pairs of a state are of inside numbers
abbrev pub is_inside_at : List (List ℕ) → ℕ → Bool
is_inside_at crossings state = are_below 10 (smoothings_of crossings state)

-- the sides are a class of their own
abbrev pub closes_at : List (List ℕ) → ℕ → Bool
closes_at crossings state =
    list_all (λ side. nat_eq (slice_index (inside_classes crossings state) side) 7) (range_with_len 7 3)

-- each side is in the class of an end
abbrev pub shows_at : List (List ℕ) → ℕ → Bool
shows_at crossings state =
    list_all
    (λ side. nat_lt 0 (slice_index (inside_classes crossings state) side) && nat_lt (slice_index (inside_classes crossings state) side) 7)
    (range_with_len 7 3)

-- the two triangles are joined alike, each at a state
abbrev pub join_alike : List (List ℕ) → ℕ → List (List ℕ) → ℕ → Bool
join_alike crossings state others other = bytes_eq (ends_joined crossings state) (ends_joined others other)

-- a triangle with its closing state: the sides close there and at no other state; and its three neighbours join the ends as it does
abbrev pub is_closed_by : List (List ℕ) → ℕ → Bool
is_closed_by crossings closed =
    closes_at crossings closed
    && (list_all (λ state. is_inside_at crossings state && (nat_eq state closed || shows_at crossings state)) (range_with_len 0 8)
    && list_all (λ place. join_alike crossings (changed_at place closed) crossings closed) (range_with_len 0 3))

-- what slides do: the closing state is one in both triangles, and across it one joins the ends as the other does when the sides close; the
-- three neighbours of the state across join them alike; and where a slide can be made the closing state has a bit 1 and a bit 0
abbrev pub slide_turns : ℕ → ℕ → ℕ → Bool
slide_turns p q r =
    let before = triangle_before p q r in
    let after = triangle_after p q r in
    let closed = closing p q r in
    let opposite = across p q r in
    (not (is_slidable p q r) || (nat_lt 0 closed && nat_lt closed 7))
    && (is_closed_by before closed
    && (is_closed_by after closed
    && (join_alike before opposite after closed
    && (join_alike after opposite before closed
    && list_all (λ place. join_alike before (changed_at place opposite) after (changed_at place opposite)) (range_with_len 0 3)))))

-- the kind of a state tells how it joins the ends: as the first triangle does at the state that is its kind, before and after
abbrev pub has_kinds_at : ℕ → ℕ → ℕ → ℕ → Bool
has_kinds_at p q r state =
    join_alike (triangle_before p q r) state (triangle_before p q r) (kind_before (closing p q r) state)
    && (join_alike (triangle_before p q r) (kind_after (closing p q r) state) (triangle_after p q r) state
    && (nat_lt (kind_before (closing p q r) state) 8 && nat_lt (kind_after (closing p q r) state) 8))

abbrev pub has_kinds : ℕ → ℕ → ℕ → Bool
has_kinds p q r = list_all (has_kinds_at p q r) (range_with_len 0 8)
