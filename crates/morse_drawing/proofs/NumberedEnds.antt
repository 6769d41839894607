-- The row of open ends by numbers alone, for proofs. A strand that leads back to a dart has that dart's place as its label, and the two
-- strands that are ends of one line have one label behind all places; a dart whose other is not known has the number of all darts.
use Rattle.std.specs.Prelude.{ℕ, ◌+◌, ◌-◌, ◌*◌, List, map, get_or, set, nat_eq, nat_lt, nat_le, Bool, true, not, ◌&&◌, if◌then◌else◌, unwrap_or}
use Rattle.std.specs.List.{find, insert, range_with_len, remove}
use Rattle.morse_drawing.specs.Pages.{is_in}
use Rattle.morse_drawing.specs.Sketches.{dart_after}
use Rattle.morse_drawing.specs.declared.slice.Slice.{Slice}
use Rattle.morse_drawing.specs.declared.slice.Slice.TheVariants.{Cap, Cup, Cross}

-- the labels of the row, the other dart of each dart's line (or the number of all darts, where it is not known), whether a crossing is
-- drawn, and the number of loops
pub record NumberedEnds : Type 0 where
  pub row : List ℕ
  pub others : List ℕ
  pub drawn : List Bool
  pub loops : ℕ

-- a label that no strand has, after all places of darts
abbrev pub unused : ℕ → List ℕ → ℕ
unused limit row = 4 * limit + unwrap_or (find (λ line. not (is_in row (4 * limit + line))) (range_with_len 0 64)) 0

-- a label, or the new one where it is the old
abbrev pub relabelled : ℕ → ℕ → ℕ → ℕ
relabelled old new label = if nat_eq label old then new else label

-- the ends of two lines are joined: a label that is no dart's gives way, and two darts have found each other
abbrev pub tied : ℕ → NumberedEnds → ℕ → ℕ → NumberedEnds
tied limit s first second =
    if nat_le (4 * limit) first
    then (record { row = map (relabelled first second) s.row; others = s.others; drawn = s.drawn; loops = s.loops })
    else (if nat_le (4 * limit) second
    then (record { row = map (relabelled second first) s.row; others = s.others; drawn = s.drawn; loops = s.loops })
    else (record { row = s.row; others = set (set s.others first second) second first; drawn = s.drawn; loops = s.loops }))

-- two neighbours leave the row
abbrev pub without_two : NumberedEnds → ℕ → NumberedEnds
without_two s place =
    record { row = remove (remove s.row place) place; others = s.others; drawn = s.drawn; loops = s.loops }

-- a line is closed to a loop
abbrev pub one_loop_more : NumberedEnds → NumberedEnds
one_loop_more s = record { row = s.row; others = s.others; drawn = s.drawn; loops = s.loops + 1 }

-- two strands that are ends of one line close it, and ends of two lines join these
abbrev pub cup_tied : ℕ → NumberedEnds → ℕ → ℕ → NumberedEnds
cup_tied limit s first second = if nat_eq first second then one_loop_more s else tied limit s first second

-- the two strands from a place on are joined below
abbrev pub after_cup : ℕ → NumberedEnds → ℕ → NumberedEnds
after_cup limit s place = cup_tied limit (without_two s place) (get_or s.row place 0) (get_or s.row (place + 1) 0)

-- two strands of a new line come at a place
abbrev pub after_cap : ℕ → NumberedEnds → ℕ → NumberedEnds
after_cap limit s place =
    let label = unused limit s.row in
    record { row = insert (insert s.row place label) place label; others = s.others; drawn = s.drawn; loops = s.loops }

-- two neighbours give way to two darts of a crossing
abbrev pub with_two : NumberedEnds → ℕ → ℕ → ℕ → ℕ → NumberedEnds
with_two s place crossing first second = record {
  row = set (set s.row place first) (place + 1) second;
  others = s.others;
  drawn = set s.drawn (crossing - 1) true;
  loops = s.loops;
}

-- two strands lead into a crossing, and its other two darts lead out of it
abbrev pub after_cross : ℕ → NumberedEnds → ℕ → ℕ → ℕ → NumberedEnds
after_cross limit s place crossing slot =
    let left = tied limit s (get_or s.row place 0) (dart_after crossing slot 0) in
    let both = tied limit left (get_or left.row (place + 1) 0) (dart_after crossing slot 3) in
    with_two both place crossing (dart_after crossing slot 1) (dart_after crossing slot 2)

-- behind one more slice
abbrev pub after_slice : ℕ → NumberedEnds → Slice → NumberedEnds
after_slice limit s (Cap at) = after_cap limit s (at - 1)
after_slice limit s (Cup at) = after_cup limit s (at - 1)
after_slice limit s (Cross at crossing slot) = after_cross limit s (at - 1) crossing slot

-- a dart has found another, which comes later
abbrev pub has_later : ℕ → List ℕ → ℕ → Bool
has_later limit others dart = nat_lt dart (get_or others dart 0) && nat_lt (get_or others dart 0) (4 * limit)

-- the places of a dart and of the other dart of its line
abbrev pub found_pair : List ℕ → ℕ → ℕ × ℕ
found_pair others dart = (dart, get_or others dart 0)
