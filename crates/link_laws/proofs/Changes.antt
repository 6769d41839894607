-- One change of a diagram that leaves its link keeps the survivors, and the state sum.
use Rattle.std.proofs.Common.{◌≡◌, ℕ, ◌-◌, ◌∙◌, ℤ, length, subst, ap, ap₂, arith, IsTrue}
use Rattle.std.specs.List.{count_by, range_with_len}
use Rattle.std.specs.Prelude.{IfOk, Ok, Result}
use Rattle.kh_types.specs.Acceptance.{accepted}
use Rattle.kh_types.specs.Code.{Code, place_of}
use Rattle.kh_types.specs.Directions.{is_positive, minus_count, plus_count}
use Rattle.kh_types.specs.Residues.{HasInverses}
use Rattle.kh_types.specs.StateSum.{state_sum, sum_with}
use Rattle.kh_types.proofs.AcceptedLemmas.{HasArcsTwice-accepted}
use Rattle.kh_types.proofs.RangeCounts.{count_by-alike}
use Rattle.gluing_laws.proofs.Renumbered.{sum_with-renumbered}
use Rattle.slide_laws.proofs.SlidTriangle.{HoldsArcs-twice}
use Rattle.diagram_moves.specs.Moved.{moved}
use Rattle.diagram_moves.specs.declared.change.Move.{Move}
use Rattle.diagram_moves.specs.declared.change.Move.TheVariants.{FingerDrop, KinkDrop, Slide}
use Rattle.diagram_moves.specs.declared.fault.MoveFault.{MoveFault}
use Rattle.diagram_moves.proofs.ApplyLemmas.{moves_keep_the_state_sum}
use Rattle.link_algebra.proofs.TurnedCodes.{reversal-sum}
use Rattle.drop_view_laws.proofs.DroppedMoves.{IsFingerDrop-moved, IsKinkDrop-moved}
use Rattle.slide_view_laws.proofs.SeenSlides.{HasSeenSlide-moved}
use Rattle.link_laws.specs.CodeSurvivors.{code_survivors}
use Rattle.link_laws.specs.Links.{HasOtherNumbers, HasOtherOrder, IsLinkChange, all_reversed, arcs_renumbered, bigon_dropped, crossings_reordered, kink_dropped, strand_slid}
use Rattle.link_laws.proofs.DroppedBigons.{survivors-dropped_bigon}
use Rattle.link_laws.proofs.DroppedKinks.{survivors-dropped_kink}
use Rattle.link_laws.proofs.ExchangedSums.{sum-reordered}
use Rattle.link_laws.proofs.OtherOrders.{survivors-same_signs}
use Rattle.view_laws.proofs.Renumbered.{survivors-renumbered_code}
use Rattle.link_laws.proofs.Reversed.{survivors-reversed}
use Rattle.link_laws.proofs.SignedCrossings.{order-minus, order-plus, order-slots}
use Rattle.link_laws.proofs.SlidMoves.{survivors-slid}

pub numbers-plus : (old new : Code) → HasOtherNumbers old new → plus_count new.crossings ≡ plus_count old.crossings
numbers-plus old new other =
    ap (λ (n : ℕ). count_by (is_positive new.crossings) (range_with_len 1 n)) other.renumbered.size
    ∙ count_by-alike (is_positive new.crossings) (is_positive old.crossings) 1 (length old.crossings)
    (λ k from below. other.signs k (record { positive = from; within = omega (arith, below) }))

pub numbers-minus : (old new : Code) → HasOtherNumbers old new → minus_count new.crossings ≡ minus_count old.crossings
numbers-minus old new other = ap₂ (λ (n k : ℕ). n - k) other.renumbered.size (numbers-plus old new other)

-- survivors
pub survivors-numbers : (p h : ℕ) (old new : Code) → HasInverses p → IsTrue (accepted old) → IsTrue (accepted new)
    → HasOtherNumbers old new → (i t : ℤ) → code_survivors p h new i t ≡ code_survivors p h old i t
survivors-numbers p h old new field holds new_holds other i t =
    survivors-renumbered_code p h other.number old new field holds new_holds other.renumbered (numbers-plus old new other)
    (numbers-minus old new other) i t

pub survivors-order : (p h : ℕ) (old new : Code) → HasInverses p → HasOtherOrder old new → (i t : ℤ)
    → code_survivors p h new i t ≡ code_survivors p h old i t
survivors-order p h old new field other i t =
    survivors-same_signs p h old new field (order-slots old new other) other.loops (order-plus old new other) (order-minus old new other)
    i t

-- one change of a diagram
pub survivors-change : (p h : ℕ) → HasInverses p → (i t : ℤ) (old new : Code) → IsTrue (accepted old) → IsTrue (accepted new)
    → IsLinkChange old new → code_survivors p h new i t ≡ code_survivors p h old i t
survivors-change p h field i t old new holds new_holds (kink_dropped crossing is) =
    let drop = IsKinkDrop-moved old new crossing holds is in
    survivors-dropped_kink p h old new (place_of crossing) drop.slot field holds drop.cut drop.signs i t
survivors-change p h field i t old new holds new_holds (bigon_dropped first second is) =
    let drop = IsFingerDrop-moved old new first second holds is in
    survivors-dropped_bigon p h old new (place_of first) (place_of second) drop.slot drop.other_slot field holds drop.cut drop.signs i t
survivors-change p h field i t old new holds new_holds (strand_slid first second third is) =
    survivors-slid p h old new field (HasSeenSlide-moved old new first second third holds is) i t
survivors-change p h field i t old new holds new_holds (arcs_renumbered other) =
    survivors-numbers p h old new field holds new_holds other i t
survivors-change p h field i t old new holds new_holds (crossings_reordered other) = survivors-order p h old new field other i t
survivors-change p h field i t old new holds new_holds (all_reversed is) =
    ap (λ (code : Code). code_survivors p h code i t) is ∙ survivors-reversed old holds p h field i t

-- state sums
sum-move : (e : ℤ) (code new : Code) (change : Move) → IsTrue (accepted code) → moved code change ≡ Ok new
    → state_sum new e ≡ state_sum code e
sum-move e code new change holds is =
    subst (λ (result : Result Code MoveFault). IfOk result (λ left. (exponent : ℤ) → state_sum left exponent ≡ state_sum code exponent)) is
    (moves_keep_the_state_sum code change holds) e

sum-numbers : (e : ℤ) (old new : Code) → IsTrue (accepted old) → IsTrue (accepted new) → HasOtherNumbers old new
    → state_sum new e ≡ state_sum old e
sum-numbers e old new holds new_holds other =
    ap₂ (λ (m n : ℕ). sum_with m n new e) (numbers-plus old new other) (numbers-minus old new other)
    ∙ sum_with-renumbered other.number old new (plus_count old.crossings) (minus_count old.crossings) other.renumbered
    (HoldsArcs-twice old (HasArcsTwice-accepted old holds)) (HoldsArcs-twice new (HasArcsTwice-accepted new new_holds)) e

sum-order : (e : ℤ) (old new : Code) → HasOtherOrder old new → state_sum new e ≡ state_sum old e
sum-order e old new other =
    let plus = plus_count old.crossings in
    let minus = minus_count old.crossings in
    ap₂ (λ (m n : ℕ). sum_with m n new e) (order-plus old new other) (order-minus old new other)
    ∙ ap (λ (l : ℕ). sum_with plus minus (record { crossings = new.crossings; loops = l }) e) other.loops
    ∙ sum-reordered old.loops plus minus e old.crossings new.crossings (order-slots old new other)

pub sum-change : (e : ℤ) (old new : Code) → IsTrue (accepted old) → IsTrue (accepted new) → IsLinkChange old new
    → state_sum new e ≡ state_sum old e
sum-change e old new holds new_holds (kink_dropped crossing is) = sum-move e old new (KinkDrop crossing) holds is
sum-change e old new holds new_holds (bigon_dropped first second is) = sum-move e old new (FingerDrop first second) holds is
sum-change e old new holds new_holds (strand_slid first second third is) = sum-move e old new (Slide first second third) holds is
sum-change e old new holds new_holds (arcs_renumbered other) = sum-numbers e old new holds new_holds other
sum-change e old new holds new_holds (crossings_reordered other) = sum-order e old new other
sum-change e old new holds new_holds (all_reversed is) = ap (λ (code : Code). state_sum code e) is ∙ reversal-sum old holds e
