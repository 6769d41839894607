-- Marks that give labels behind an edge were at most one on each circle before it.
use Rattle.std.proofs.Common.{◌≡◌, ℕ, ◌≤◌, ◌⊎◌, inl, inr, List, ◌∷◌, ap, arith, Bool, true, false}
use Rattle.std.specs.List.{sum_by}
use Rattle.std.proofs.lemmas.Bool.{cases_Bool}
use Rattle.kh_types.specs.Code.{Code}
use Rattle.kh_types.specs.Generators.{Generator}
use Rattle.kh_types.specs.CircleNumbers.{IsName}
use Rattle.kh_types.specs.Edges.{arc_at_slot}
use Rattle.square_laws.proofs.Merges.{IsMerge, IsSwitch}
use Rattle.square_laws.proofs.Marks.{hits, hits-circle, hits-off, hits-on, on_or_off}
use Rattle.kh_types.specs.Bits.{one_if}
use Rattle.square_laws.proofs.EdgeMarks.{IsEnd, IsEnd-first, IsEnd-third, IsMarked, grown, is_marked, is_marked-decides, label_of-le}

-- behind a merge
hits-merge_le : (code : Code) (one : Generator) (before crossing : ℕ) (marked : List ℕ) → IsMerge code before one.state crossing
    → IsMarked code one marked → (arc : ℕ) → IsName code arc → hits code before marked arc ≤ 1
hits-merge_le code one before crossing marked merge marks arc name =
    let x = arc_at_slot code crossing 0 in
    let y = arc_at_slot code crossing 2 in
    elim (on_or_off code before crossing arc) [
      | inl on ↦
          let both = hits-on code before one.state crossing marked arc merge on in
          elim on [
            | inl on_x ↦ omega (arith, hits-circle code before marked arc x on_x, both, marks.at arc name, label_of-le code one arc)
            | inr on_y ↦ omega (arith, hits-circle code before marked arc y on_y, both, marks.at arc name, label_of-le code one arc)
          ]
      | inr off ↦
          omega (arith, hits-off code before one.state crossing marked arc merge off, marks.at arc name, label_of-le code one arc)
    ]

-- behind a split
hits-split_le : (code : Code) (two : Generator) (before crossing mark : ℕ) (marked : List ℕ) → IsMerge code two.state before crossing
    → IsEnd code two.state crossing mark → IsMarked code two (mark ∷ marked) → (arc : ℕ) → IsName code arc
    → hits code before marked arc ≤ 1
hits-split_le code two before crossing mark marked merge end marks arc name =
    let x = arc_at_slot code crossing 0 in
    let y = arc_at_slot code crossing 2 in
    elim (on_or_off code two.state crossing arc) [
      | inl on ↦
          omega (
            arith,
            hits-on code two.state before crossing marked arc merge on,
            end.sum marked,
            marks.at x merge.first,
            marks.at y merge.third,
            label_of-le code two x,
            label_of-le code two y,
          )
      | inr off ↦
          omega (
            arith,
            hits-off code two.state before crossing marked arc merge off,
            end.off arc marked off,
            marks.at arc name,
            label_of-le code two arc,
          )
    ]

-- behind either
pub hits-grown_le : (merges : Bool) (code : Code) (before crossing : ℕ) (head : Generator) (marked : List ℕ)
    → IsSwitch merges code before head.state crossing
    → (sum_by (λ list. one_if (is_marked code head list)) (grown merges code crossing marked) ≡ 0)
    ⊎ ((arc : ℕ) → IsName code arc → hits code before marked arc ≤ 1)
hits-grown_le true code before crossing head marked merge = elim (cases_Bool (is_marked code head marked)) [
  | inl gives ↦ inr (hits-merge_le code head before crossing marked merge ((is_marked-decides code head marked).0 gives))
  | inr fails ↦ inl (omega (arith, ap one_if fails))
]
hits-grown_le false code before crossing head marked merge =
    let x = arc_at_slot code crossing 0 in
    let y = arc_at_slot code crossing 2 in
    elim (cases_Bool (is_marked code head (x ∷ marked))) [
      | inl gives ↦ inr (hits-split_le code head before crossing x marked merge
          (IsEnd-first code head.state before crossing merge) ((is_marked-decides code head (x ∷ marked)).0 gives))
      | inr not_first ↦ elim (cases_Bool (is_marked code head (y ∷ marked))) [
        | inl gives ↦ inr (hits-split_le code head before crossing y marked merge
            (IsEnd-third code head.state before crossing merge) ((is_marked-decides code head (y ∷ marked)).0 gives))
        | inr not_third ↦ inl (omega (arith, ap one_if not_first, ap one_if not_third))
      ]
    ]
