-- The places alive of a reduced block that is cancelled to zero give the rows of its quantum degree.
use Rattle.std.proofs.Common.{◌≡◌, ℕ, ◌∙◌, ℤ, length, ap, subst, true, IsTrue}
use Rattle.std.proofs.Math.Path.{fun_ext}
use Rattle.kh_types.specs.Acceptance.{accepted}
use Rattle.kh_types.specs.CircleNumbers.{IsName}
use Rattle.kh_types.specs.Code.{Code}
use Rattle.kh_types.specs.Complex.{Complex, alive_count, is_zero}
use Rattle.prime_field.specs.Residues.{IsField}
use Rattle.sparse_block.specs.Complexes.{NamedComplex}
use Rattle.sparse_block.specs.Histories.{ComesByCancelling}
use Rattle.homology_tables.specs.DegreeRows.{rows_with}
use Rattle.reduced_cube.specs.Reduced.{reduced_block, reduced_rows}
use Rattle.reduced_cube.proofs.ReducedBlocks.{alive_count-finished}

pub rows-finished : (p : ℕ) (code : Code) (mark : ℕ) (j : ℤ) (n : ℕ) (before after : NamedComplex) → IsField p
    → IsTrue (accepted code) → IsName code mark → before ≡ reduced_block p code mark j
    → ComesByCancelling p before.complex after.complex → is_zero after.complex ≡ true → n ≡ length code.crossings
    → rows_with n j (alive_count after.complex) ≡ reduced_rows p code mark j
rows-finished p code mark j n before after field is name are comes zero is_n =
    let whole : ComesByCancelling p (reduced_block p code mark j).complex after.complex =
    subst (λ (block : NamedComplex). ComesByCancelling p block.complex after.complex) are comes in
    ap (λ (n : ℕ). rows_with n j (alive_count after.complex)) is_n
    ∙ ap (rows_with (length code.crossings) j)
    (fun_ext (λ i.
    ap (λ (complex : Complex). alive_count complex i) whole.replayed
    ∙ alive_count-finished p code mark j i whole.history field is name whole.legal
    (subst (λ (complex : Complex). is_zero complex ≡ true) whole.replayed zero)))
