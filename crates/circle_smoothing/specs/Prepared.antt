-- What a prepared diagram keeps.
use Rattle.std.specs.Prelude.{◌≡◌, ◌≤◌, ◌<◌, ◌+◌, ℕ, List, length, map, nat_eq, slice_index, IsTrue}
use Rattle.std.specs.List.{position_or_len, range_with_len}
use Rattle.kh_types.specs.Acceptance.{accepted}
use Rattle.kh_types.specs.Code.{Code, IsArc, arc_count}
use Rattle.kh_types.specs.CircleSteps.{arc_at}
use Rattle.kh_types.specs.Darts.{dart_count, partner_at}
use Rattle.kh_types.specs.declared.limits.TheConstants.{CROSSINGS}
use Rattle.circle_smoothing.specs.declared.prepared.Smoothings.TheInside.{Inside}

-- the arcs of all darts, in order
abbrev pub arcs_at : List (List ℕ) → List ℕ
arcs_at crossings = map (arc_at crossings) (range_with_len 0 (dart_count crossings))

-- the places of the partners of all darts, in order
abbrev pub partners_at : List (List ℕ) → List ℕ
partners_at crossings = map (partner_at crossings) (range_with_len 0 (dart_count crossings))

-- the first place of a number in a list; the list's length where it is not in it
abbrev pub start_in : List ℕ → ℕ → ℕ
start_in arcs arc = position_or_len (λ x. nat_eq x arc) arcs

-- a list has the place of a dart on each arc, after an entry for the number 0
pub record HasStarts (crossings : List (List ℕ)) (starts : List ℕ) : Type 0 where
  pub size : length starts ≡ arc_count crossings + 1
  pub below : (arc : ℕ) → IsArc crossings arc → slice_index starts arc < dart_count crossings
  pub on_arc : (arc : ℕ) → IsArc crossings arc → arc_at crossings (slice_index starts arc) ≡ arc

-- contracts see the code of the diagram
abbrev pub code_of_smoothings : Inside → Code
code_of_smoothings smoothings = smoothings.diagram

-- the diagram's code is accepted and within the limits; for each dart its arc and its partner are kept, and for each arc a dart
pub record ArePrepared (smoothings : Inside) : Type 0 where
  pub code : IsTrue (accepted smoothings.diagram)
  pub few : length smoothings.diagram.crossings ≤ CROSSINGS
  pub arcs : smoothings.arcs.items ≡ arcs_at smoothings.diagram.crossings
  pub partners : smoothings.partners.items ≡ partners_at smoothings.diagram.crossings
  pub starts : HasStarts smoothings.diagram.crossings smoothings.starts.items
