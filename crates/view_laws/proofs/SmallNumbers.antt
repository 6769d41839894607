-- Where the circle that closes inside is merged from v+, or split off to v-, no raised row counts: the number is that of the plain theory.
use Rattle.std.proofs.Common.{◌≡◌, ◌≢◌, ℕ, inl, inr, ◌+◌, ◌^◌, ◌<◌, ◌∙◌, List, [], ◌∷◌, length, map, sym, ap₂, arith, Bool, true, false, cond, ◌&&◌}
use Rattle.std.specs.Prelude.{nat_eq}
use Rattle.std.specs.List.{Contains}
use Rattle.std.proofs.lemmas.Bool.{and_parts, eqb-true, false_from_ne_true, le-ltb, lt-ltb, or_cases}
use Rattle.std.proofs.lemmas.List.Elements.{Contains-append_left}
use Rattle.kh_types.specs.Bits.{one_if}
use Rattle.kh_types.specs.Circles.{circle_count}
use Rattle.kh_types.specs.Code.{Code}
use Rattle.kh_types.specs.Generators.{generator_of}
use Rattle.cell_laws.proofs.Members.{Contains-first}
use Rattle.view_laws.specs.Partitions.{AgreeOn, is_kept}
use Rattle.view_laws.specs.Views.{HasCircles, IsView, View, closed_at, together}
use Rattle.view_laws.proofs.EdgePoints.{has_point, has_points, keeps_points, kept-forth, same_at}
use Rattle.view_laws.proofs.SameClosed.{Changes}
use Rattle.view_laws.proofs.Shown.{are-points, lab}
use Rattle.view_laws.proofs.SmallCircles.{among-alone, among-joined, fits-merge, fits-split, l, m, more-alone, only-z, points, z-differs, z_label}
use Rattle.view_laws.proofs.Tests.{all-at}
use Rattle.square_laws.specs.Deformed.{label_number}
use Rattle.view_laws.proofs.EdgeRows.{number-points}

module _ (code : Code) (view : View) (is : IsView code view) (circles : HasCircles code) (alone joined : ℕ)
    (alone_below : alone < 2 ^ length code.crossings) (joined_below : joined < 2 ^ length code.crossings) (z : ℕ)
    (alone_closed : closed_at view alone ≡ z ∷ []) (joined_closed : closed_at view joined ≡ [])
    (alike : AgreeOn view.names (together code view alone) (together code view joined)) (a j : ℕ) where
  abbrev all_points : List ℕ
  all_points = points code view is circles alone joined alone_below joined_below z alone_closed joined_closed alike

  abbrev label_z : ℕ
  label_z = z_label code view is circles alone joined alone_below joined_below z alone_closed joined_closed alike a j

  abbrev seen_alone : ℕ
  seen_alone = l code view is circles alone joined alone_below joined_below z alone_closed joined_closed alike a j

  abbrev seen_joined : ℕ
  seen_joined = m code view is circles alone joined alone_below joined_below z alone_closed joined_closed alike a j

  z-in : Contains all_points z
  z-in = Contains-append_left (z ∷ []) (map view.arc view.names) z (Contains-first z [])

  -- z is not kept, so where all that changes has a label it has it
  merge-has : (n : ℕ) → label_z ≢ n → has_points code all_points alone joined a j n ≡ false
  merge-has n other =
      let test = is_kept (same_at code alone) (same_at code joined) all_points z in
      let there = nat_eq label_z n && nat_eq (lab code view is circles joined joined_below j z) n in
      false_from_ne_true (has_points code all_points alone joined a j n)
      (λ passes. elim (or_cases test there (all-at (has_point code all_points alone joined a j n) all_points z passes z-in)) [
        | inl kept ↦
            z-differs code view is circles alone joined alone_below joined_below z alone_closed joined_closed alike
            (kept-forth (same_at code alone) (same_at code joined) all_points z kept)
        | inr has ↦
            other (eqb-true label_z n (and_parts (nat_eq label_z n) (nat_eq (lab code view is circles joined joined_below j z) n) has).0)
      ])

  split-has : (n : ℕ) → label_z ≢ n → has_points code all_points joined alone j a n ≡ false
  split-has n other =
      let test = is_kept (same_at code joined) (same_at code alone) all_points z in
      let there = nat_eq (lab code view is circles joined joined_below j z) n && nat_eq label_z n in
      false_from_ne_true (has_points code all_points joined alone j a n)
      (λ passes. elim (or_cases test there (all-at (has_point code all_points joined alone j a n) all_points z passes z-in)) [
        | inl kept ↦
            z-differs code view is circles alone joined alone_below joined_below z alone_closed joined_closed alike
            (λ y has_y. sym (kept-forth (same_at code joined) (same_at code alone) all_points z kept y has_y))
        | inr has ↦
            other (eqb-true label_z n (and_parts (nat_eq (lab code view is circles joined joined_below j z) n) (nat_eq label_z n) has).1)
      ])

  no-more : (keeps : Bool) → cond keeps 0 0 ≡ (let n : ℕ = 0 in n)
  no-more true = omega arith
  no-more false = omega arith

  pub number-merge : (h k crossing : ℕ) → Changes code alone joined crossing → label_z ≡ 0
      → label_number h k code (generator_of alone a) (generator_of joined j) crossing ≡ one_if (nat_eq seen_alone seen_joined)
  number-merge h k crossing changes plus =
      let more = more-alone code view is circles alone joined alone_below joined_below z alone_closed joined_closed alike a j in
      number-points h k code alone joined crossing all_points a j circles changes
      (are-points code view is circles alone alone_below (z ∷ [])
      (only-z code view is circles alone joined alone_below joined_below z alone_closed joined_closed alike a j)
      (among-alone code view is circles alone joined alone_below joined_below z alone_closed joined_closed alike a j))
      (are-points code view is circles joined joined_below (z ∷ [])
      (only-z code view is circles alone joined alone_below joined_below z alone_closed joined_closed alike a j)
      (among-joined code view is circles alone joined alone_below joined_below z alone_closed joined_closed alike a j))
      ∙ ap₂ (λ (t : Bool) (n : ℕ). one_if t + n)
      (fits-merge code view is circles alone joined alone_below joined_below z alone_closed joined_closed alike a j crossing changes plus)
      (ap₂ (λ (t u : Bool). cond (keeps_points code all_points alone joined a j)
      (cond t (cond (has_points code all_points alone joined a j 0) k 0) (cond u h 0)) 0)
      (le-ltb (circle_count code alone) (circle_count code joined) (omega (arith, more)))
      (merge-has 1 (λ one. omega (arith, one, plus)))
      ∙ no-more (keeps_points code all_points alone joined a j))
      ∙ omega arith

  pub number-split : (h k crossing : ℕ) → Changes code joined alone crossing → label_z ≡ 1
      → label_number h k code (generator_of joined j) (generator_of alone a) crossing ≡ one_if (nat_eq seen_alone seen_joined)
  number-split h k crossing changes minus =
      let more = more-alone code view is circles alone joined alone_below joined_below z alone_closed joined_closed alike a j in
      number-points h k code joined alone crossing all_points j a circles changes
      (are-points code view is circles joined joined_below (z ∷ [])
      (only-z code view is circles alone joined alone_below joined_below z alone_closed joined_closed alike a j)
      (among-joined code view is circles alone joined alone_below joined_below z alone_closed joined_closed alike a j))
      (are-points code view is circles alone alone_below (z ∷ [])
      (only-z code view is circles alone joined alone_below joined_below z alone_closed joined_closed alike a j)
      (among-alone code view is circles alone joined alone_below joined_below z alone_closed joined_closed alike a j))
      ∙ ap₂ (λ (t : Bool) (n : ℕ). one_if t + n)
      (fits-split code view is circles alone joined alone_below joined_below z alone_closed joined_closed alike a j crossing changes minus)
      (ap₂ (λ (t u : Bool). cond (keeps_points code all_points joined alone j a)
      (cond t (cond u k 0) (cond (has_points code all_points joined alone j a 1) h 0)) 0)
      (lt-ltb (circle_count code joined) (circle_count code alone) (omega (arith, more)))
      (split-has 0 (λ none. omega (arith, none, minus)))
      ∙ no-more (keeps_points code all_points joined alone j a))
      ∙ omega arith
