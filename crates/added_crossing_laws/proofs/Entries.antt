-- Entries after a crossing, by numbers.
--
-- The bits of a number are a function of arcs that has one value on each circle, so an entry is the number of `sheet_at`, and its sum over
-- dots is there (`sum-crossing`). In that sum the labels are turned back into numbers: those of the closed circles and those of the circles
-- after it; and the sets of dots are the numbers below a power of two (`sum-by_dots`). The saddle's sum is turned likewise.
use Rattle.std.proofs.Common.{◌≡◌, ℕ, ◌+◌, ◌-◌, ◌*◌, ◌^◌, ◌<◌, ◌∙◌, List, [], ◌∷◌, ◌++◌, map, length, sym, ap, ap₂, subst, append_assoc}
use Rattle.kh_types.specs.Bits.{bit}
use Rattle.kh_types.specs.Classes.{Respects}
use Rattle.kh_types.specs.Code.{Code}
use Rattle.kh_types.specs.Products.{sum_below}
use Rattle.kh_types.specs.Residues.{Same}
use Rattle.kh_types.proofs.Residues.{same-equal}
use Rattle.kh_types.proofs.Sums.{sum_below-equal}
use Rattle.surface_laws.specs.Surfaces.{Surface, IsClosed, value}
use Rattle.surface_laws.specs.Cuts.{with_faces}
use Rattle.surface_laws.specs.Points.{discs, circles}
use Rattle.genus_laws.specs.CutCodes.{outer_smoothings}
use Rattle.added_crossing_laws.specs.Pairings.{marked_by}
use Rattle.surface_laws.specs.Sheets.{sheet, marked, marked_else}
use Rattle.added_crossing_laws.specs.Steps.{near}
use Rattle.added_crossing_laws.specs.Codes.{is_open, is_alive, points_at, step_at, smoothing_at, pairing_behind, circles_behind, closed_at, discs_behind, sheet_at, outside_at, added_at, saddle_added, saddle_sheet, disc_of, saddle_strips, AreLabelled, IsLabelled, sum_over_dots}
use Rattle.added_crossing_laws.specs.Saddles.{edge_with, MergesOrSplitsAt, IsPairedAt, opposite}
use Rattle.added_crossing_laws.specs.Labels.{label_at, number_of}
use Rattle.added_crossing_laws.specs.Entries.{entry_sheet, entry_at, coefficient_sheet, added_surface, saddle_surface, label_before, closed_label, label_behind, ArePairedAt, AreEntriesClosed}
use Rattle.added_crossing_laws.proofs.CodeSteps.{outer-split, count_of}
use Rattle.added_crossing_laws.proofs.CodeSums.{IsCut-at, sum-crossing, sum-saddle}
use Rattle.added_crossing_laws.proofs.CutJoins.{whole-among}
use Rattle.added_crossing_laws.proofs.Labels.{marked-labels, marked_else-labels, Respects-label, marked-number_of}
use Rattle.added_crossing_laws.proofs.SaddleValues.{value-saddle}
use Rattle.added_crossing_laws.proofs.NumberedLabels.{marked_else-number_of, sum-by_dots, caps-first, caps-second}
use Rattle.kh_types.proofs.BitLemmas.{bit-below}

-- a surface by its faces
abbrev far_of : Code → ℕ → ℕ → List (ℕ × ℕ) → List (ℕ × ℕ) → List (ℕ × ℕ) → List (ℕ × ℕ) → List (ℕ × ℕ) → Surface
far_of code k state m n dots first second =
    sheet (points_at code k) m n (outer_smoothings code.crossings state k) (dots ++ (first ++ second))

abbrev close_of : Code → ℕ → ℕ → ℕ → List (ℕ × ℕ) → List (ℕ × ℕ) → List (ℕ × ℕ) → List ℕ → List (ℕ × ℕ) → List (ℕ × ℕ) → List (ℕ × ℕ)
    → Surface
close_of code k first second m n faces lowers dots closed other_closed = record {
  size = (points_at code k).size;
  places = near (step_at code k);
  joins = (m ++ smoothing_at code k first) ++ (n ++ smoothing_at code k second);
  faces = dots ++ (faces ++ (closed ++ other_closed));
  lowers = lowers;
  raises = (points_at code (k + 1)).opened;
}

-- the entry, with labels as functions
same-entry : (code : Code) (k state : ℕ) (m n : List (ℕ × ℕ)) (dots label other : ℕ)
    → entry_sheet code k state m n dots label other
    ≡ sheet_at code k state m n (label_at (points_at code k).size (points_at code k).opened (m ++ n) dots)
    (label_at (points_at code k).size (points_at code k).alive (m ++ outer_smoothings code.crossings state k) label)
    (opposite (label_at (points_at code k).size (points_at code k).alive (n ++ outer_smoothings code.crossings state k) other))
same-entry code k state m n dots label other =
    let count = count_of code in
    let w = outer_smoothings code.crossings state k in
    let points = points_at code k in
    ap (λ (faces : List (ℕ × ℕ)). far_of code k state m n faces (marked label (circles points m w))
    (marked_else other (circles points n w)))
    (marked-labels count (is_open code k) (m ++ n) dots)
    ∙ ap₂ (λ (first second : List (ℕ × ℕ)).
    far_of code k state m n (marked_by (label_at points.size points.opened (m ++ n) dots) (discs points m n)) first second)
    (marked-labels count (is_alive code k) (m ++ w) label) (marked_else-labels count (is_alive code k) (n ++ w) other)

-- the parts, with labels as numbers
same-far : (code : Code) (k state first second : ℕ) (m n : List (ℕ × ℕ)) (f g : ℕ → ℕ) (kept : ℕ) → ((x : ℕ) → f x < 2)
    → ((x : ℕ) → g x < 2)
    → with_faces (outside_at code k state (pairing_behind code k first m) (pairing_behind code k second n) f (opposite g))
    (marked kept (discs_behind code k first second m n))
    ≡ entry_sheet code (k + 1) state (pairing_behind code k first m) (pairing_behind code k second n) kept
    (number_of f (circles_behind code k first state m)) (number_of g (circles_behind code k second state n))
same-far code k state first second m n f g kept f_bits g_bits =
    ap₂ (λ (ins outs : List (ℕ × ℕ)).
    far_of code (k + 1) state (pairing_behind code k first m) (pairing_behind code k second n)
    (marked kept (discs_behind code k first second m n)) ins outs)
    (sym (marked-number_of f (circles_behind code k first state m) f_bits))
    (sym (marked_else-number_of g (circles_behind code k second state n) g_bits))

same-close : (code : Code) (k first second : ℕ) (m n faces : List (ℕ × ℕ)) (lowers : List ℕ) (f g : ℕ → ℕ) (kept : ℕ)
    → ((x : ℕ) → f x < 2) → ((x : ℕ) → g x < 2)
    → close_of code k first second m n faces lowers (marked_else kept (discs_behind code k first second m n))
    (marked_by f (closed_at code k first m)) (marked_by (opposite g) (closed_at code k second n))
    ≡ coefficient_sheet code k first second m n faces lowers (number_of f (closed_at code k first m))
    (number_of g (closed_at code k second n)) kept
same-close code k first second m n faces lowers f g kept f_bits g_bits =
    ap₂ (λ (ins outs : List (ℕ × ℕ)).
    close_of code k first second m n faces lowers (marked_else kept (discs_behind code k first second m n)) ins outs)
    (sym (marked-number_of f (closed_at code k first m) f_bits)) (sym (marked_else-number_of g (closed_at code k second n) g_bits))

split-joins : (code : Code) (k state : ℕ) (m : List (ℕ × ℕ)) → k < length code.crossings
    → m ++ outer_smoothings code.crossings state k ≡ (m ++ smoothing_at code k (bit state k)) ++ outer_smoothings code.crossings state (k + 1)
split-joins code k state m below =
    ap (λ (pairs : List (ℕ × ℕ)). m ++ pairs) (outer-split code state k below)
    ∙ sym (append_assoc m (smoothing_at code k (bit state k)) (outer_smoothings code.crossings state (k + 1)))

label-respects : (code : Code) (k state smoothing number : ℕ) (m n : List (ℕ × ℕ)) → ArePairedAt code k m n
    → Respects (label_before code k smoothing state m number)
    ((m ++ smoothing_at code k smoothing) ++ outer_smoothings code.crossings state (k + 1))
label-respects code k state smoothing number m n at =
    Respects-label (count_of code) (is_alive code k) ((m ++ smoothing_at code k smoothing) ++ outer_smoothings code.crossings state (k + 1)) number
    (whole-among (step_at code k) (m ++ smoothing_at code k smoothing) (pairing_behind code k smoothing m)
    (outer_smoothings code.crossings state (k + 1)) (IsCut-at code k smoothing state m at.twice at.crossing at.first))

turned-pair : (code : Code) (k : ℕ) (m n : List (ℕ × ℕ)) → ArePairedAt code k m n → ArePairedAt code k n m
turned-pair code k m n at = record { twice = at.twice; crossing = at.crossing; first = at.second; second = at.first }

opposite-respects : (f : ℕ → ℕ) (pairs : List (ℕ × ℕ)) → Respects f pairs → Respects (opposite f) pairs
opposite-respects f [] respects = tt
opposite-respects f (pair ∷ pairs) respects = (ap (λ b. 2 * (1 - b)) respects.0, opposite-respects f pairs respects.1)

pub entries-add_up : (p h minus : ℕ) (code : Code) (k state : ℕ) (m n : List (ℕ × ℕ)) (dots label other : ℕ)
    → Same p (h + minus) 0 → ArePairedAt code k m n
    → AreEntriesClosed
    (entry_sheet code (k + 1) state (pairing_behind code k (bit state k) m) (pairing_behind code k (bit state k) n) 0
    (label_behind code k (bit state k) state m label) (label_behind code k (bit state k) state n other))
    (added_surface code k (bit state k) m n dots (closed_label code k (bit state k) state m label)
    (closed_label code k (bit state k) state n other) 0)
    → Same p (entry_at h minus code k state m n dots label other)
    (sum_below (2 ^ length (discs_behind code k (bit state k) (bit state k) m n))
    (λ kept.
    value h minus (added_surface code k (bit state k) m n dots (closed_label code k (bit state k) state m label)
    (closed_label code k (bit state k) state n other) kept)
    * entry_at h minus code (k + 1) state (pairing_behind code k (bit state k) m) (pairing_behind code k (bit state k) n) kept
    (label_behind code k (bit state k) state m label) (label_behind code k (bit state k) state n other)))
entries-add_up p h minus code k state m n dots label other cancels at closed =
    let e = bit state k in
    let points = points_at code k in
    let f : ℕ → ℕ = label_before code k e state m label in
    let g : ℕ → ℕ = label_before code k e state n other in
    let d : ℕ → ℕ = label_at points.size points.opened (m ++ n) dots in
    let f_old : ℕ → ℕ = label_at points.size points.alive (m ++ outer_smoothings code.crossings state k) label in
    let g_old : ℕ → ℕ = label_at points.size points.alive (n ++ outer_smoothings code.crossings state k) other in
    let f_same : f_old ≡ f = ap (λ (js : List (ℕ × ℕ)). label_at points.size points.alive js label)
    (split-joins code k state m at.crossing) in
    let g_same : g_old ≡ g = ap (λ (js : List (ℕ × ℕ)). label_at points.size points.alive js other)
    (split-joins code k state n at.crossing) in
    let f_bits : (x : ℕ) → f x < 2 = λ x. bit-below label _ in
    let g_bits : (x : ℕ) → g x < 2 = λ x. bit-below other _ in
    let discs_new = discs_behind code k e e m n in
    let far = outside_at code k state (pairing_behind code k e m) (pairing_behind code k e n) f (opposite g) in
    let close = added_at code k e m n d f (opposite g) in
    let faces = marked_by d (discs points m n) in
    let dots_same : faces ≡ marked dots (discs points m n) = sym (marked-labels (count_of code) (is_open code k) (m ++ n) dots) in
    let close_same : (kept : ℕ) → with_faces close (marked_else kept discs_new)
    ≡ added_surface code k e m n dots (closed_label code k e state m label) (closed_label code k e state n other) kept =
    λ kept.
    same-close code k e e m n faces points.opened f g kept f_bits g_bits
    ∙ ap (λ (fs : List (ℕ × ℕ)). coefficient_sheet code k e e m n fs points.opened (closed_label code k e state m label)
    (closed_label code k e state n other) kept) dots_same in
    let labelled : AreLabelled code k state m n f (opposite g) = record {
      twice = at.twice;
      crossing = at.crossing;
      first = at.first;
      second = at.second;
      first_label = subst (λ (js : List (ℕ × ℕ)). Respects f js) (sym (split-joins code k state m at.crossing))
          (label-respects code k state e label m n at);
      second_label = subst (λ (js : List (ℕ × ℕ)). Respects (opposite g) js) (sym (split-joins code k state n at.crossing))
          (opposite-respects g ((n ++ smoothing_at code k e) ++ outer_smoothings code.crossings state (k + 1))
          (label-respects code k state e other n m (turned-pair code k m n at)));
    } in
    same-equal p (entry_at h minus code k state m n dots label other) (value h minus (sheet_at code k state m n d f (opposite g)))
    (ap (value h minus) (same-entry code k state m n dots label other)
    ∙ ap₂ (λ (first second : ℕ → ℕ). value h minus (sheet_at code k state m n d first (opposite second))) f_same g_same)
    ∙ sym (sum-crossing p h minus code k state m n d f (opposite g) cancels labelled
    record {
      first_closed = subst IsClosed
          (sym (ap (λ (fs : List (ℕ × ℕ)). with_faces far fs) (caps-first 0 0 discs_new)
          ∙ same-far code k state e e m n f g 0 f_bits g_bits))
          closed.far_closed;
      second_closed = subst IsClosed
          (sym (ap (λ (fs : List (ℕ × ℕ)). with_faces close fs) (caps-second 0 0 discs_new) ∙ close_same 0)) closed.close_closed;
    })
    ∙ same-equal p (sum_over_dots h minus far close discs_new)
    (sum_below (2 ^ length discs_new)
    (λ kept.
    value h minus (added_surface code k e m n dots (closed_label code k e state m label) (closed_label code k e state n other) kept)
    * entry_at h minus code (k + 1) state (pairing_behind code k e m) (pairing_behind code k e n) kept
    (label_behind code k e state m label) (label_behind code k e state n other)))
    (sum-by_dots h minus far close discs_new
    ∙ sum_below-equal (2 ^ length discs_new)
    (λ kept. value h minus (with_faces close (marked_else kept discs_new)) * value h minus (with_faces far (marked kept discs_new)))
    (λ kept.
    value h minus (added_surface code k e m n dots (closed_label code k e state m label) (closed_label code k e state n other) kept)
    * entry_at h minus code (k + 1) state (pairing_behind code k e m) (pairing_behind code k e n) kept
    (label_behind code k e state m label) (label_behind code k e state n other))
    (λ kept.
    ap₂ (λ (first second : Surface). value h minus first * value h minus second) (close_same kept)
    (same-far code k state e e m n f g kept f_bits g_bits)))

pub saddle-adds_up : (p h minus : ℕ) (code : Code) (k state : ℕ) (m : List (ℕ × ℕ)) (label other : ℕ) → Same p (h + minus) 0
    → IsPairedAt code k m
    → MergesOrSplitsAt code k state m
    → AreEntriesClosed
    (entry_sheet code (k + 1) state (pairing_behind code k 0 m) (pairing_behind code k 1 m) 0 (label_behind code k 0 state m label)
    (label_behind code k 1 state m other))
    (saddle_surface code k m (closed_label code k 0 state m label) (closed_label code k 1 state m other) 0)
    → Same p (edge_with h minus code k state m (label_before code k 0 state m label) (label_before code k 1 state m other))
    (sum_below (2 ^ length (discs_behind code k 0 1 m m))
    (λ kept.
    value h minus (saddle_surface code k m (closed_label code k 0 state m label) (closed_label code k 1 state m other) kept)
    * entry_at h minus code (k + 1) state (pairing_behind code k 0 m) (pairing_behind code k 1 m) kept (label_behind code k 0 state m label)
    (label_behind code k 1 state m other)))
saddle-adds_up p h minus code k state m label other cancels at edge closed =
    let f : ℕ → ℕ = label_before code k 0 state m label in
    let g : ℕ → ℕ = label_before code k 1 state m other in
    let f_bits : (x : ℕ) → f x < 2 = λ x. bit-below label _ in
    let g_bits : (x : ℕ) → g x < 2 = λ x. bit-below other _ in
    let discs_new = discs_behind code k 0 1 m m in
    let far = outside_at code k state (pairing_behind code k 0 m) (pairing_behind code k 1 m) f (opposite g) in
    let close = saddle_added code k m f (opposite g) in
    let paired : ArePairedAt code k m m =
    record { twice = at.twice; crossing = at.crossing; first = at.paired.among; second = at.paired.among } in
    let close_same : (kept : ℕ) → with_faces close (marked_else kept discs_new)
    ≡ saddle_surface code k m (closed_label code k 0 state m label) (closed_label code k 1 state m other) kept =
    λ kept. same-close code k 0 1 m m (map disc_of m) (saddle_strips code k) f g kept f_bits g_bits in
    let labelled : IsLabelled code k state m f (opposite g) = record {
      twice = at.twice;
      crossing = at.crossing;
      pairing = at.paired.among;
      first_label = label-respects code k state 0 label m m paired;
      second_label = opposite-respects g ((m ++ smoothing_at code k 1) ++ outer_smoothings code.crossings state (k + 1))
          (label-respects code k state 1 other m m paired);
    } in
    same-equal p (edge_with h minus code k state m f g) (value h minus (saddle_sheet code k state m f (opposite g)))
    (sym (value-saddle h minus code k state m f g at record { first_bit = f_bits; second_bit = g_bits } edge))
    ∙ sym (sum-saddle p h minus code k state m f (opposite g) cancels labelled
    record {
      first_closed = subst IsClosed
          (sym (ap (λ (fs : List (ℕ × ℕ)). with_faces far fs) (caps-first 0 0 discs_new)
          ∙ same-far code k state 0 1 m m f g 0 f_bits g_bits))
          closed.far_closed;
      second_closed = subst IsClosed
          (sym (ap (λ (fs : List (ℕ × ℕ)). with_faces close fs) (caps-second 0 0 discs_new) ∙ close_same 0)) closed.close_closed;
    })
    ∙ same-equal p (sum_over_dots h minus far close discs_new)
    (sum_below (2 ^ length discs_new)
    (λ kept.
    value h minus (saddle_surface code k m (closed_label code k 0 state m label) (closed_label code k 1 state m other) kept)
    * entry_at h minus code (k + 1) state (pairing_behind code k 0 m) (pairing_behind code k 1 m) kept
    (label_behind code k 0 state m label) (label_behind code k 1 state m other)))
    (sum-by_dots h minus far close discs_new
    ∙ sum_below-equal (2 ^ length discs_new)
    (λ kept. value h minus (with_faces close (marked_else kept discs_new)) * value h minus (with_faces far (marked kept discs_new)))
    (λ kept.
    value h minus (saddle_surface code k m (closed_label code k 0 state m label) (closed_label code k 1 state m other) kept)
    * entry_at h minus code (k + 1) state (pairing_behind code k 0 m) (pairing_behind code k 1 m) kept
    (label_behind code k 0 state m label) (label_behind code k 1 state m other))
    (λ kept.
    ap₂ (λ (first second : Surface). value h minus first * value h minus second) (close_same kept)
    (same-far code k state 0 1 m m f g kept f_bits g_bits)))
