-- The same by one row of open ends. A strand of the row that leads back to a dart is an end at that dart; the two strands that are ends of
-- one line without darts have the number of that line, which no other strand has.
use Rattle.std.specs.Prelude.{◌≡◌, ℕ, ◌+◌, ◌-◌, ◌*◌, ◌<◌, List, [], length, map, get_or, set, replicate, nat_eq, nat_lt, Bool, true, false, not, ◌||◌, Option, Some, None, Result, if◌then◌else◌, unwrap_or}
use Rattle.std.specs.List.{filter, find, insert, list_any, range_with_len, remove}
use Rattle.std.specs.Option.{option_or}
use Rattle.kh_types.specs.declared.dart.Dart.{Dart}
use Rattle.morse_drawing.specs.Sketches.{dart_after}
use Rattle.morse_drawing.specs.declared.end.End.{End}
use Rattle.morse_drawing.specs.declared.end.End.TheVariants.{AtDart, OnLine}
use Rattle.morse_drawing.specs.declared.fault.SliceFault.{SliceFault}
use Rattle.morse_drawing.specs.Joins.{JoinedDarts, answer_by, ends_of, fault_where, is_outside}
use Rattle.morse_drawing.specs.declared.fault.SliceFault.TheVariants.{Ends, Label, Loops, Place}
use Rattle.morse_drawing.specs.declared.limits.TheConstants.{CAP_STRANDS, JOINED_LOOPS, ROW_STRANDS}
use Rattle.morse_drawing.specs.declared.slice.Slice.{Slice}
use Rattle.morse_drawing.specs.declared.slice.Slice.TheVariants.{Cap, Cup, Cross}

-- the ends of the row, the other dart of each dart's line where it is known, whether a crossing is drawn, and the number of loops
pub record OpenEnds : Type 0 where
  pub row : List End
  pub others : List (Option ℕ)
  pub drawn : List Bool
  pub loops : ℕ

-- before the first slice
abbrev pub no_strands : ℕ → OpenEnds
no_strands limit = record { row = []; others = replicate (4 * limit) None; drawn = replicate limit false; loops = 0 }

-- two ends are of one dart, or of one line
abbrev pub is_same_end : End → End → Bool
is_same_end (AtDart dart) (AtDart other) = nat_eq dart other
is_same_end (AtDart dart) (OnLine line) = false
is_same_end (OnLine line) (AtDart dart) = false
is_same_end (OnLine line) (OnLine other) = nat_eq line other

-- an end is one of a line
abbrev pub is_end_of : End → ℕ → Bool
is_end_of end line = is_same_end (OnLine line) end

-- a strand of the row is an end of a line
abbrev pub has_line : List End → ℕ → Bool
has_line row line = list_any (λ end. is_end_of end line) row

-- no strand is an end of a line
abbrev pub is_free : List End → ℕ → Bool
is_free row line = not (has_line row line)

-- the least line of which no strand is an end
abbrev pub unused : List End → ℕ
unused row = unwrap_or (find (is_free row) (range_with_len 0 ROW_STRANDS)) 0

-- an end, or the new one where it is the old
abbrev pub renamed : End → End → End → End
renamed old new end = if is_same_end end old then new else end

-- in the row an end is renamed
abbrev pub with_renamed : OpenEnds → End → End → OpenEnds
with_renamed s old new = record { row = map (renamed old new) s.row; others = s.others; drawn = s.drawn; loops = s.loops }

-- two darts have found each other
abbrev pub with_pair : OpenEnds → ℕ → ℕ → OpenEnds
with_pair s dart other =
    record { row = s.row; others = set (set s.others dart (Some other)) other (Some dart); drawn = s.drawn; loops = s.loops }

-- the ends of two lines are joined: the number of a line without darts gives way, and two darts have found each other
abbrev pub tied : OpenEnds → End → End → OpenEnds
tied s (OnLine line) second = with_renamed s (OnLine line) second
tied s (AtDart dart) (OnLine line) = with_renamed s (OnLine line) (AtDart dart)
tied s (AtDart dart) (AtDart other) = with_pair s dart other

-- two neighbours leave the row
abbrev pub without_two : OpenEnds → ℕ → OpenEnds
without_two s place =
    record { row = remove (remove s.row place) place; others = s.others; drawn = s.drawn; loops = s.loops }

-- a line is closed to a loop
abbrev pub one_loop_more : OpenEnds → OpenEnds
one_loop_more s = record { row = s.row; others = s.others; drawn = s.drawn; loops = s.loops + 1 }

-- two strands that are ends of one line close it, and ends of two lines join these
abbrev pub cup_tied : OpenEnds → End → End → OpenEnds
cup_tied s first second = if is_same_end first second then one_loop_more s else tied s first second

-- the end at a place of the row
abbrev pub end_at : List End → ℕ → End
end_at row place = get_or row place (AtDart 0)

-- the two strands from a place on are joined below
abbrev pub after_cup : OpenEnds → ℕ → OpenEnds
after_cup s place = cup_tied (without_two s place) (end_at s.row place) (end_at s.row (place + 1))

-- the two ends of a new line come at a place
abbrev pub after_cap : OpenEnds → ℕ → OpenEnds
after_cap s place =
    let line = OnLine (unused s.row) in
    record { row = insert (insert s.row place line) place line; others = s.others; drawn = s.drawn; loops = s.loops }

-- two neighbours give way to two darts of a crossing
abbrev pub with_two : OpenEnds → ℕ → ℕ → ℕ → ℕ → OpenEnds
with_two s place crossing first second = record {
  row = set (set s.row place (AtDart first)) (place + 1) (AtDart second);
  others = s.others;
  drawn = set s.drawn (crossing - 1) true;
  loops = s.loops;
}

-- two strands lead into a crossing, and its other two darts lead out of it
abbrev pub after_cross : OpenEnds → ℕ → ℕ → ℕ → OpenEnds
after_cross s place crossing slot =
    let left = tied s (end_at s.row place) (AtDart (dart_after crossing slot 0)) in
    let both = tied left (end_at left.row (place + 1)) (AtDart (dart_after crossing slot 3)) in
    with_two both place crossing (dart_after crossing slot 1) (dart_after crossing slot 2)

-- behind one more slice
abbrev pub after_slice : OpenEnds → Slice → OpenEnds
after_slice s (Cap at) = after_cap s (at - 1)
after_slice s (Cup at) = after_cup s (at - 1)
after_slice s (Cross at crossing slot) = after_cross s (at - 1) crossing slot

-- a crossing is drawn
abbrev pub is_drawn : OpenEnds → ℕ → Bool
is_drawn s crossing = get_or s.drawn (crossing - 1) false

-- what is wrong with a slice, as it is seen in the row
abbrev pub strands_fault : ℕ → OpenEnds → ℕ → Slice → Option SliceFault
strands_fault limit s number (Cap at) = fault_where (is_outside (length s.row + 1) at || nat_lt CAP_STRANDS (length s.row)) (Place number)
strands_fault limit s number (Cup at) =
    option_or (fault_where (is_outside (length s.row - 1) at) (Place number))
    (fault_where (nat_lt JOINED_LOOPS (after_slice s (Cup at)).loops) (Loops number))
strands_fault limit s number (Cross at crossing slot) =
    option_or (fault_where (is_outside (length s.row - 1) at) (Place number))
    (fault_where (is_outside limit crossing || (is_drawn s crossing || nat_lt 3 slot)) (Label number))

-- the other dart of a dart's line, where it is known
abbrev pub other_of : List (Option ℕ) → ℕ → Option ℕ
other_of others dart = get_or others dart None

-- it is known, and comes later
abbrev pub is_later : ℕ → Option ℕ → Bool
is_later dart None = false
is_later dart (Some other) = nat_lt dart other

-- a dart has found another, which comes later
abbrev pub has_later : List (Option ℕ) → ℕ → Bool
has_later others dart = is_later dart (other_of others dart)

-- the places of a dart and of the other dart of its line
abbrev pub found_pair : List (Option ℕ) → ℕ → ℕ × ℕ
found_pair others dart = (dart, unwrap_or (other_of others dart) 0)

-- these two darts
abbrev pub found_ends : List (Option ℕ) → ℕ → List Dart
found_ends others dart = ends_of (found_pair others dart)

-- the pairs of darts that have found each other, by their first darts: those whose first dart is before a place
abbrev pub pairs_before : List (Option ℕ) → ℕ → List (List Dart)
pairs_before others place = map (found_ends others) (filter (has_later others) (range_with_len 0 place))

-- all pairs that are found, and the loops
abbrev pub found_joins : ℕ → OpenEnds → JoinedDarts
found_joins limit s = record { pairs = pairs_before s.others (4 * limit); loops = s.loops }

-- where a dart has found another, that one is a dart, and has found it
abbrev pub ArePaired : ℕ → List (Option ℕ) → Type 0
ArePaired limit others =
    (x y : ℕ) → x < 4 * limit → other_of others x ≡ Some y → (y < 4 * limit) × (other_of others y ≡ Some x)

-- what is joined behind the last slice, where no strand is left
abbrev pub strands_ends : ℕ → OpenEnds → Result JoinedDarts SliceFault
strands_ends limit s = answer_by (fault_where (nat_lt 0 (length s.row)) (Ends (length s.row))) (found_joins limit s)
