-- The places alive of a block that is cancelled to zero give the rows of its quantum degree.
use Rattle.std.proofs.Common.{◌≡◌, ℕ, ◌∙◌, ℤ, length, ap, IsTrue}
use Rattle.std.proofs.Math.Path.{fun_ext}
use Rattle.kh_types.specs.Acceptance.{accepted}
use Rattle.kh_types.specs.Complex.{Complex, alive_count}
use Rattle.kh_types.specs.Table.{rows_at}
use Rattle.prime_field.specs.Residues.{IsField}
use Rattle.homology_tables.specs.DegreeRows.{rows_with}
use Rattle.shared_block.specs.AllBlocks.{IsFinished}
use Rattle.shared_block.specs.BlockHistories.{BlockHistory, HasLegalHistory, complex_of}
use Rattle.shared_block.proofs.BlockDimensions.{alive_count-finished}

pub rows-finished : (p : ℕ) (held : BlockHistory) (complex : Complex) (n : ℕ) (j : ℤ) → IsField p → IsTrue (accepted held.diagram)
    → HasLegalHistory p held → IsFinished p held → complex ≡ complex_of p held → n ≡ length held.diagram.crossings → j ≡ held.degree
    → rows_with n j (alive_count complex) ≡ rows_at p held.diagram held.degree
rows-finished p held complex n j field is legal zero same is_n is_j =
    ap (λ (n : ℕ). rows_with n j (alive_count complex)) is_n
    ∙ ap (λ (j : ℤ). rows_with (length held.diagram.crossings) j (alive_count complex)) is_j
    ∙ ap (rows_with (length held.diagram.crossings) held.degree)
    (fun_ext (λ i.
    ap (λ (complex : Complex). alive_count complex i) same
    ∙ alive_count-finished p held.diagram held.degree i held.history field is legal zero))
