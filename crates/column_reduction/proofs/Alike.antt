-- A complex is known by its least degree, how many degrees and places it has, which places are alive, and its entries.
use Rattle.std.proofs.Common.{◌≡◌, ℕ, ◌+◌, ◌<◌, ◌∙◌, List, [], ℤ, pos, ◌+ℤ◌, length, ap, ap₂, sym, arith, Bool, false}
use Rattle.std.specs.Prelude.{slice_index_or}
use Rattle.std.proofs.lemmas.List.{ext_get_or}
use Rattle.kh_types.specs.Complex.{Complex, Degree, IsComplex, degree_number, degree_of, empty_degree, entry_in, entry_of}
use Rattle.kh_types.proofs.ComplexLemmas.{degree_of-number}
use Rattle.sparse_block.specs.Complexes.{place_count}
use Rattle.column_reduction.specs.Reductions.{is_place_alive}

module _ (p q : ℕ) (first second : Complex) (is_first : IsComplex p first) (is_second : IsComplex q second)
    (low : first.low ≡ second.low) (degrees : length first.degrees ≡ length second.degrees)
    (places : (i : ℤ) → place_count first i ≡ place_count second i)
    (alive : (i : ℤ) (place : ℕ) → is_place_alive first i place ≡ is_place_alive second i place)
    (entries : (i : ℤ) (row column : ℕ) → entry_of first i row column ≡ entry_of second i row column) where
  -- what the two have alike in each degree they have alike in each degree by its number
  by_number : {X : Type 0} (part : Degree → X) → ((i : ℤ) → part (degree_of first i) ≡ part (degree_of second i)) → (k : ℕ)
      → part (degree_number first k) ≡ part (degree_number second k)
  by_number part same k =
      ap part (sym (degree_of-number first k)) ∙ same (first.low +ℤ pos k)
      ∙ ap (λ (low : ℤ). part (degree_of second (low +ℤ pos k))) low ∙ ap part (degree_of-number second k)

  size-alike : (k : ℕ) → length (degree_number first k).alive ≡ length (degree_number second k).alive
  size-alike = by_number (λ (degree : Degree). length degree.alive) places

  alive-alike : (k : ℕ) → (degree_number first k).alive ≡ (degree_number second k).alive
  alive-alike k =
      ext_get_or false (degree_number first k).alive (degree_number second k).alive (size-alike k)
      (λ place within. by_number (λ (degree : Degree). slice_index_or degree.alive place false) (λ i. alive i place) k)

  matrix-alike : (k : ℕ) → k < length first.degrees → (degree_number first k).matrix ≡ (degree_number second k).matrix
  matrix-alike k within =
      let one = (degree_number first k).matrix in
      let two = (degree_number second k).matrix in
      let heights : length one ≡ length two =
      is_first.rows k within ∙ size-alike (k + 1) ∙ sym (is_second.rows k (omega (arith, within, degrees))) in
      ext_get_or [] one two heights
      (λ row row_within.
      ext_get_or 0 (slice_index_or one row []) (slice_index_or two row [])
      (is_first.columns k row row_within ∙ size-alike k
      ∙ sym (is_second.columns k row (omega (arith, row_within, heights))))
      (λ column column_within.
      by_number (λ (degree : Degree). entry_in degree.matrix row column) (λ i. entries i row column) k))

  degree-alike : (k : ℕ) → k < length first.degrees → degree_number first k ≡ degree_number second k
  degree-alike k within =
      ap₂ (λ (alive : List Bool) (matrix : List (List ℕ)). record { alive = alive; matrix = matrix }) (alive-alike k)
      (matrix-alike k within)

  pub complex-alike : first ≡ second
  complex-alike =
      ap₂ (λ (low : ℤ) (degrees : List Degree). record { low = low; degrees = degrees }) low
      (ext_get_or empty_degree first.degrees second.degrees degrees degree-alike)
