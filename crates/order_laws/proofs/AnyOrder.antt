-- A code with its crossings in another order is accepted where the code is.
use Rattle.std.proofs.Common.{ℕ, ◌+◌, ◌≤◌, ◌∙◌, List, [], ◌∷◌, ◌++◌, sym, subst, length, IsTrue}
use Rattle.kh_types.specs.Acceptance.{accepted}
use Rattle.kh_types.specs.Accepted.{IsAccepted, IsDirected}
use Rattle.kh_types.specs.Code.{Code}
use Rattle.kh_types.specs.declared.limits.TheConstants.{COMPONENTS}
use Rattle.kh_types.proofs.AcceptedLemmas.{HasArcsTwice-directed, IsAccepted-is}
use Rattle.order_laws.specs.Orders.{IsReordered}
use Rattle.order_laws.proofs.ExchangedBits.{exchanged, moved}
use Rattle.order_laws.proofs.Shuffled.{IsShuffled, IsShuffled-exchanged, component_count-shuffled, intervals-shuffled, over-shuffled, two_arcs-shuffled, under-shuffled}
use Rattle.order_laws.proofs.ShuffledDarts.{HasArcsTwice-shuffled, IsCheckerboard-shuffled}
use Rattle.order_laws.proofs.Orders.{reordered}
use Rattle.order_laws.proofs.ShuffledFaces.{face_count-shuffled, planar-shuffled}

IsDirected-shuffled : (old new : List (List ℕ)) (to choices : ℕ → ℕ) → IsShuffled old new to choices → IsDirected old → IsDirected new
IsDirected-shuffled old new to choices is directed =
    let twice = HasArcsTwice-shuffled old new to choices is (HasArcsTwice-directed old directed) in
    record {
      slots = twice.slots;
      twice = twice.twice;
      intervals = intervals-shuffled old new to choices is directed;
      under = under-shuffled old new to choices is directed;
      over = over-shuffled old new to choices is directed;
      two_arcs = two_arcs-shuffled old new to choices is directed;
    }

abbrev listed : ℕ → List (List ℕ) → Code
listed loops crossings = record { crossings = crossings; loops = loops }

IsAccepted-shuffled : (loops : ℕ) (old new : List (List ℕ)) (to choices : ℕ → ℕ) → IsShuffled old new to choices
    → IsAccepted (listed loops old) → IsAccepted (listed loops new)
IsAccepted-shuffled loops old new to choices is holds =
    let twice = HasArcsTwice-directed old holds.directed in
    record {
      directed = IsDirected-shuffled old new to choices is holds.directed;
      checkerboard = IsCheckerboard-shuffled old new to choices is twice holds.checkerboard;
      faces = face_count-shuffled old new to choices is twice ∙ holds.faces ∙ sym (planar-shuffled old new to choices is twice);
      components = subst (λ (count : ℕ). count + loops ≤ COMPONENTS) (sym (component_count-shuffled old new to choices is))
          holds.components;
    }

accepted-exchanged : (loops : ℕ) (front back : List (List ℕ)) (a b : List ℕ)
    → IsTrue (accepted (listed loops (front ++ a ∷ b ∷ back))) → IsTrue (accepted (listed loops (front ++ b ∷ a ∷ back)))
accepted-exchanged loops front back a b holds =
    (IsAccepted-is (listed loops (front ++ b ∷ a ∷ back))).1
    (IsAccepted-shuffled loops (front ++ a ∷ b ∷ back) (front ++ b ∷ a ∷ back) (moved (length front)) (exchanged (length front))
    (IsShuffled-exchanged front back a b) ((IsAccepted-is (listed loops (front ++ a ∷ b ∷ back))).0 holds))

pub accepted-reordered : (loops : ℕ) (xs ys : List (List ℕ)) → IsReordered xs ys → IsTrue (accepted (listed loops xs))
    → IsTrue (accepted (listed loops ys))
accepted-reordered loops xs ys order holds =
    reordered (λ zs. IsTrue (accepted (listed loops zs)))
    (λ front back a b here. accepted-exchanged loops front back a b here) [] xs ys order holds

pub reordered-accepted : (loops : ℕ) (xs ys : List (List ℕ)) → IsReordered xs ys → IsTrue (accepted (listed loops ys))
    → IsTrue (accepted (listed loops xs))
reordered-accepted loops xs ys order =
    reordered (λ zs. IsTrue (accepted (listed loops zs)) → IsTrue (accepted (listed loops xs)))
    (λ front back a b here holds. here (accepted-exchanged loops front back b a holds)) [] xs ys order (λ holds. holds)
