-- The list of components, and its least arcs.
use Rattle.std.proofs.lemmas.Bool.Decides.{nat_tests}
use Rattle.std.proofs.Common.{◌≡◌, ℕ, ◌+◌, List, [], ◌∷◌, length, refl, sym, arith}
use Rattle.std.specs.Prelude.{min}
use Rattle.std.specs.List.{fold, flat_map}
use Rattle.std.proofs.lemmas.List.FromFn.{length-range_with_len}
use Rattle.kh_types.specs.Code.{arc_count, IsArc}
use Rattle.kh_types.specs.Classes.{joined}
use Rattle.kh_types.specs.Components.{passes_of, components_of, component_of}
use Rattle.kh_types.specs.Accepted.{IsDirected}
use Rattle.kh_types.proofs.ClassLemmas.{length-joined, classes-finest}
use Rattle.kh_types.proofs.PassPairs.{passes-below, passes-positive}
use Rattle.kh_types.proofs.NextArcs.{IsNamed-components_of}

length-fold_joined : (classes : List ℕ) (pairs : List (ℕ × ℕ)) → length (fold joined classes pairs) ≡ length classes
length-fold_joined classes [] = refl
length-fold_joined classes (pair ∷ pairs) = grind (arith, nat_tests, length-joined, length-fold_joined (joined classes pair) pairs)

-- the list has an entry for each arc, and one for the number 0
pub components_size : (crossings : List (List ℕ)) → length (components_of crossings) ≡ arc_count crossings + 1
components_size crossings = grind (arith, nat_tests, length-fold_joined, length-range_with_len)

-- the least arc of the component of an arc
pub record IsFirstOf (crossings : List (List ℕ)) (arc : ℕ) : Type 0 where
  pub is_arc : IsArc crossings (component_of (components_of crossings) arc)
  pub own : component_of (components_of crossings) (component_of (components_of crossings) arc)
      ≡ component_of (components_of crossings) arc

pub IsFirstOf-directed : (crossings : List (List ℕ)) → IsDirected crossings → (arc : ℕ) → IsArc crossings arc → IsFirstOf crossings arc
IsFirstOf-directed crossings directed arc is =
    let named = IsNamed-components_of crossings directed in
    let least = named.least arc (omega (arith, is.within)) in
    let own = named.own arc (omega (arith, is.within)) in
    let same = classes-finest (λ z. min z 1) (arc_count crossings + 1) (flat_map passes_of crossings)
    (passes-positive crossings directed) (passes-below crossings directed) arc (component_of (components_of crossings) arc)
    (omega (arith, is.within)) (omega (arith, is.within, least)) (sym own) in
    record {
      is_arc = record { positive = omega (arith, same, is.positive); within = omega (arith, least, is.within) };
      own = own;
    }
