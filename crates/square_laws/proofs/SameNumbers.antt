-- Deformed coefficients depend on h modulo p alone.
use Rattle.std.proofs.Common.{◌≡◌, ℕ, ◌+◌, ◌-◌, ◌%◌, List, [], ◌∷◌, map, refl, ap, Bool, true, false, cond, ◌&&◌}
use Rattle.std.specs.Str.{bytes_eq}
use Rattle.kh_types.specs.Bits.{one_if}
use Rattle.kh_types.specs.Code.{Code, crossing_numbers}
use Rattle.kh_types.specs.Differential.{edge_sign, is_edge, is_merge, is_split, keeps_labels, label_of, touched}
use Rattle.kh_types.specs.Generators.{Generator}
use Rattle.kh_types.specs.Residues.{Same}
use Rattle.kh_types.proofs.ListSums.{sum_by-alike}
use Rattle.kh_types.proofs.Residues.{same-add, same-scaled}
use Rattle.square_laws.specs.Deformed.{deformed_at, deformed_coefficient, label_number, merge_number, opposite, row_number, split_number}

either-same : (p x y z : ℕ) (b : Bool) → Same p x y → Same p (cond b x z) (cond b y z)
either-same p x y z true same = same
either-same p x y z false same = refl

row-same : (p h g k l : ℕ) (before after : List ℕ) → Same p h g → Same p k l
    → Same p (row_number h k before after) (row_number g l before after)
row-same p h g k l before after same_h same_k =
    same-add p (merge_number h before after) (merge_number g before after) (split_number k before after) (split_number l before after)
    (either-same p h g (one_if (is_merge before after)) (bytes_eq before (1 ∷ 1 ∷ []) && bytes_eq after (1 ∷ [])) same_h)
    (either-same p k l (one_if (is_split before after)) (bytes_eq before (0 ∷ []) && bytes_eq after (0 ∷ 0 ∷ [])) same_k)

opposite-same : (p h g : ℕ) → Same p h g → opposite p h ≡ opposite p g
opposite-same p h g same = ap (λ x. (0 + (p - x)) % p) same

at-same : (p h g : ℕ) (code : Code) (tail head : Generator) → Same p h g → (crossing : ℕ)
    → deformed_at p h code tail head crossing ≡ deformed_at p g code tail head crossing
at-same p h g code tail head same crossing =
    let before = map (label_of code tail) (touched code tail.state crossing) in
    let after = map (label_of code head) (touched code head.state crossing) in
    let k = opposite p h in
    let l = opposite p g in
    ap (λ x. cond (is_edge tail head crossing) x 0)
    (same-scaled p (edge_sign p tail.state crossing) (label_number h k code tail head crossing) (label_number g l code tail head crossing)
    (either-same p (row_number h k before after) (row_number g l before after) 0 (keeps_labels code tail head crossing)
    (row-same p h g k l before after same (ap (λ x. x % p) (opposite-same p h g same)))))

pub deformed-same : (p h g : ℕ) (code : Code) (tail head : Generator) → Same p h g
    → deformed_coefficient p h code tail head ≡ deformed_coefficient p g code tail head
deformed-same p h g code tail head same =
    sum_by-alike (deformed_at p h code tail head) (deformed_at p g code tail head) (at-same p h g code tail head same)
    (crossing_numbers code.crossings)
