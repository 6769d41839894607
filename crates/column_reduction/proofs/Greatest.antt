-- One list of the pivots of all degrees, those of the greatest first: with one degree more, and as one list after another is put behind.
use Rattle.std.proofs.Common.{◌≡◌, ◌∙◌, List, [], ◌∷◌, ◌++◌, ap, sym, append-nil, append_assoc}
use Rattle.std.specs.Global.{Vec}
use Rattle.std.proofs.lemmas.List.{map-append}
use Rattle.kh_types.specs.Complex.{Pivot}
use Rattle.column_reduction.specs.StoredColumns.{from_greatest, pivots_in}

pub from_greatest-push : (degrees : List (List Pivot)) (greatest : List Pivot)
    → from_greatest (degrees ++ greatest ∷ []) ≡ greatest ++ from_greatest degrees
from_greatest-push [] greatest = sym (append-nil greatest)
from_greatest-push (degree ∷ degrees) greatest =
    ap (λ (pivots : List Pivot). pivots ++ degree) (from_greatest-push degrees greatest)
    ∙ append_assoc greatest (from_greatest degrees) degree

pub greatest-moved : (all made : List Pivot) (rest front : List (Vec Pivot)) (degree : Vec Pivot)
    → made ++ from_greatest (pivots_in rest) ≡ all → rest ≡ front ++ degree ∷ []
    → (made ++ degree.items) ++ from_greatest (pivots_in front) ≡ all
greatest-moved all made rest front degree whole last =
    append_assoc made degree.items (from_greatest (pivots_in front))
    ∙ ap (λ (pivots : List Pivot). made ++ pivots)
    (sym (ap (λ (lists : List (Vec Pivot)). from_greatest (pivots_in lists)) last
    ∙ ap from_greatest (map-append (λ (degree : Vec Pivot). degree.items) front (degree ∷ []))
    ∙ from_greatest-push (pivots_in front) degree.items))
    ∙ whole
