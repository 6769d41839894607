-- The names of the arcs of a closed braid tell them apart.
use Rattle.std.proofs.Common.{◌≡◌, ℕ, zero, suc, inl, inr, ◌+◌, ◌-◌, ◌*◌, ◌/◌, ◌%◌, ◌<◌, ◌≤◌, ◌∙◌, List, [], length, get_or, refl, sym, ap, map, arith, Bool, true, cond}
use Rattle.std.specs.Prelude.{nat_eq, Some, None, unwrap_or}
use Rattle.std.specs.List.{find, list_any, range_with_len}
use Rattle.std.proofs.lemmas.Bool.{cases_Bool, and_parts, eqb-true}
use Rattle.std.proofs.lemmas.List.{get_or-map, length-map}
use Rattle.kh_types.specs.Code.{arc_in}
use Rattle.kh_types.specs.Darts.{arc_of, dart_at}
use Rattle.kh_types.proofs.DartPairs.{IsDart-at}
use Rattle.kh_types.proofs.Searches.{Search-is}
use Rattle.kh_types.proofs.Searches.Search.{missing, some}
use Rattle.gluing_laws.specs.Alike.{AreAlike}
use Rattle.braid_maker.specs.Words.{closed_crossings, touches}
use Rattle.orient_arcs.specs.Renumbered.{renamed_crossing}
use Rattle.orient_arcs.proofs.Bridge.{renamed-slot}
use Rattle.braid_maker.specs.Closures.{bottom_arc, is_bottom, arc_name, named_parts}
use Rattle.braid_maker.proofs.Partners.{HasArcsTwice-braid}

-- an arc's name is a position, through whose bottom the arc goes, or greater than all positions
pub data Named (n : ℕ) (left : ℕ → ℕ) (strands arc : ℕ) : Type 0 where
  position : (q : ℕ) → q ≤ strands → bottom_arc n left q ≡ arc → arc_name n left strands arc ≡ q → Named n left strands arc
  greater : arc_name n left strands arc ≡ strands + arc → Named n left strands arc

pub Named-is : (n : ℕ) (left : ℕ → ℕ) (strands arc : ℕ) → Named n left strands arc
Named-is n left strands arc = elim (Search-is (is_bottom n left arc) 1 strands) [
  | some q from below passes is ↦
      let parts = and_parts (list_any (touches left q) (range_with_len 0 n)) (nat_eq (bottom_arc n left q) arc) passes in
      position q (omega (arith, below)) (eqb-true (bottom_arc n left q) arc parts.1) (ap (λ o. unwrap_or o (strands + arc)) is)
  | missing fails is ↦ greater (ap (λ o. unwrap_or o (strands + arc)) is)
]

name-apart : (n : ℕ) (left : ℕ → ℕ) (strands arc other : ℕ) → 1 ≤ arc → 1 ≤ other
    → arc_name n left strands arc ≡ arc_name n left strands other → arc ≡ other
name-apart n left strands arc other positive other_positive same = elim (Named-is n left strands arc) [
  | position q few at is ↦ elim (Named-is n left strands other) [
    | position q' few' at' is' ↦
        let e : q ≡ q' = omega (arith, is, is', same) in sym at ∙ ap (bottom_arc n left) e ∙ at'
    | greater is' ↦ absurd (omega (arith, is, is', same, few, other_positive))
  ]
  | greater is ↦ elim (Named-is n left strands other) [
    | position q' few' at' is' ↦ absurd (omega (arith, is, is', same, few', positive))
    | greater is' ↦ omega (arith, is, is', same)
  ]
]

pub arc_of-renamed : (f : ℕ → ℕ) (crossings : List (List ℕ)) (dart : ℕ) → dart < 4 * length crossings
    → arc_of (map (renamed_crossing f) crossings) (dart_at dart) ≡ f (arc_of crossings (dart_at dart))
arc_of-renamed f crossings dart below =
    ap (λ slots. arc_in slots (dart % 4)) (get_or-map (renamed_crossing f) crossings (dart / 4 + 1 - 1) [] [] (omega (arith, below)))
    ∙ renamed-slot f (get_or crossings (dart / 4 + 1 - 1) []) (dart % 4) (omega arith)

pub AreAlike-named : (strands n : ℕ) (left : ℕ → ℕ) (is_over : ℕ → Bool) (loops : ℕ)
    → AreAlike (closed_crossings n left is_over) (named_parts strands n left is_over loops).crossings
AreAlike-named strands n left is_over loops =
    let crossings = closed_crossings n left is_over in
    let f : ℕ → ℕ = arc_name n left strands in
    let arcs = (HasArcsTwice-braid n left is_over).slots in
    record {
      size = length-map crossings (renamed_crossing f);
      onward = λ place other below other_below same.
          arc_of-renamed f crossings place below ∙ ap f same ∙ sym (arc_of-renamed f crossings other other_below);
      back = λ place other below other_below same.
          name-apart n left strands (arc_of crossings (dart_at place)) (arc_of crossings (dart_at other))
          (arcs (dart_at place) (IsDart-at crossings place below)).positive
          (arcs (dart_at other) (IsDart-at crossings other other_below)).positive
          (sym (arc_of-renamed f crossings place below) ∙ same ∙ arc_of-renamed f crossings other other_below);
    }
