use Rattle.std.proofs.Common.{◌≡◌, ◌∙◌, arith, ap, sym, subst, to_z, of_z, ℤ, ℕ, nat_abs}
use Rattle.std.specs.Prelude.{Some}
use Rattle.std.proofs.lemmas.Int.{ints}
use mir.Syntax.{w16, w32}
use Rattle.kh_types.specs.declared.limits.TheConstants.{CROSSINGS, EXPONENT}
use Rattle.kh_types.specs.Table.{IsWithin, Row}
use Rattle.table_text.specs.Versions.{far, wide}
use Rattle.table_text.proofs.LineTexts.{IsWithin-bounds, bounds-IsWithin}
use Rattle.table_text.proofs.lines.row_within.Goals as goal
use Rattle.table_text.proofs.lines.row_within.Goals.{else-far-j-via-then-far-j+then-j-far+then-wide-i+then-i-wide+then-dim-ge1+else-dim-most, else-far-j-via-then-far-j+then-j-far+then-wide-i+then-i-wide+else-dim-ge1, else-far-j-via-then-far-j+then-j-far+then-wide-i+else-i-wide, else-far-j-via-then-far-j+then-j-far+else-wide-i, else-far-j-via-then-far-j+else-j-far, else-far-j-via-else-far-j}

abbrev made : ℤ → ℤ → ℕ → Row
made j i dim = record { j = j; i = i; dim = dim }

pub returns-then-dim-most-clause-within : goal.returns-then-dim-most-clause-within
returns-then-dim-most-clause-within c =
    let size = c.far.ensures.most in
    let width = c.wide.ensures.most in
    let j : to_z w16 (of_z w16 (to_z w32 (of_z w32 c.args.j))) ≡ c.args.j = omega (arith, ints) in
    let i : to_z w16 (of_z w16 (to_z w32 (of_z w32 c.args.i))) ≡ c.args.i = omega (arith, ints) in
    let far_j : IsWithin c.far.result c.args.j =
    bounds-IsWithin c.far.result c.args.j (omega (arith, ints)) (omega (arith, ints)) in
    let wide_i : IsWithin c.wide.result c.args.i =
    bounds-IsWithin c.wide.result c.args.i (omega (arith, ints)) (omega (arith, ints)) in
    record {
      row = record {
        j = subst (IsWithin EXPONENT) (sym j)
            (bounds-IsWithin EXPONENT c.args.j (omega (arith, ints, size)) (omega (arith, ints, size)));
        i = subst (IsWithin CROSSINGS) (sym i)
            (bounds-IsWithin CROSSINGS c.args.i (omega (arith, ints, width)) (omega (arith, ints, width)));
        some = omega (arith, ints);
        few = omega (arith, ints);
      };
      j = subst (IsWithin (far c.args.version)) (sym j) (subst (λ (n : ℕ). IsWithin n c.args.j) c.far.ensures.size far_j);
      i = subst (IsWithin (wide c.args.version)) (sym i) (subst (λ (n : ℕ). IsWithin n c.args.i) c.wide.ensures.size wide_i);
    }

pub returns-then-dim-most-clause-only : goal.returns-then-dim-most-clause-only
returns-then-dim-most-clause-only c row within j i dim =
    let degree : to_z w16 (of_z w16 (to_z w32 (of_z w32 c.args.j))) ≡ row.j = omega (arith, ints, j) in
    let height : to_z w16 (of_z w16 (to_z w32 (of_z w32 c.args.i))) ≡ row.i = omega (arith, ints, i) in
    let count : nat_abs (to_z w32 (of_z w32 c.args.dim)) ≡ row.dim = omega (arith, ints, dim) in
    ap (λ (z : ℤ). Some (made z (to_z w16 (of_z w16 (to_z w32 (of_z w32 c.args.i)))) (nat_abs (to_z w32 (of_z w32 c.args.dim))))) degree
    ∙ ap (λ (z : ℤ). Some (made row.j z (nat_abs (to_z w32 (of_z w32 c.args.dim))))) height
    ∙ ap (λ (n : ℕ). Some (made row.j row.i n)) count

pub returns-else-far-j-clause-only : goal.returns-else-far-j-clause-only
returns-else-far-j-clause-only c row within j i dim =
    let reach = IsWithin-bounds (far c.args.version) row.j within.j in
    let span = IsWithin-bounds (wide c.args.version) row.i within.i in
    let size = c.far.ensures.size in
    let width = c.wide.ensures.size in
    let some = within.row.some in
    let few = within.row.few in
    absurd (elim c.else-far-j.branch [
      | else-far-j-via-then-far-j+then-j-far+then-wide-i+then-i-wide+then-dim-ge1+else-dim-most w ↦ omega (arith, ints)
      | else-far-j-via-then-far-j+then-j-far+then-wide-i+then-i-wide+else-dim-ge1 w ↦ omega (arith, ints)
      | else-far-j-via-then-far-j+then-j-far+then-wide-i+else-i-wide w ↦ omega (arith, ints)
      | else-far-j-via-then-far-j+then-j-far+else-wide-i w ↦ omega (arith, ints)
      | else-far-j-via-then-far-j+else-j-far w ↦ omega (arith, ints)
      | else-far-j-via-else-far-j w ↦ omega (arith, ints)
    ])
