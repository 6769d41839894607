-- Edges between states at which the same circles close inside: those keep their labels, and what is seen changes by its deformed saddle's
-- number.
use Rattle.std.proofs.Common.{◌≡◌, ℕ, ◌+◌, ◌^◌, ◌<◌, ◌∙◌, List, length, map, sym, subst, ap, ap₂, arith, Bool, true, false, cond, ◌&&◌, ◌||◌}
use Rattle.std.specs.Prelude.{nat_eq, nat_lt}
use Rattle.std.specs.List.{Contains}
use Rattle.std.proofs.lemmas.Bool.{or_left}
use Rattle.std.proofs.lemmas.List.Folds.{list_all-append, list_all-map}
use Rattle.kh_types.specs.Bits.{one_if}
use Rattle.kh_types.specs.Circles.{circle_count}
use Rattle.kh_types.specs.Code.{Code}
use Rattle.kh_types.specs.Generators.{generator_of}
use Rattle.view_laws.specs.Partitions.{counts_labels, is_kept, keeps_classes, label_in, seen_count}
use Rattle.view_laws.specs.Views.{HasCircles, IsView, View, closed_at, together}
use Rattle.view_laws.proofs.EdgePoints.{has_point, has_points, keeps_point, keeps_points, same_at}
use Rattle.view_laws.proofs.SameClosed.{Changes, c, closed-kept, d, fits-seen, keeps-closed, keeps-names, l, lt-more, m, name-kept, named, points, u, v, zs}
use Rattle.view_laws.proofs.Shown.{are-points, count-parts, label-in}
use Rattle.view_laws.proofs.Tests.{all-agree, all-from}
use Rattle.square_laws.specs.Deformed.{label_number}
use Rattle.view_laws.specs.Partitions.{changes_have, deformed_saddle_number}
use Rattle.view_laws.proofs.EdgeRows.{number-points}

module _ (code : Code) (view : View) (is : IsView code view) (circles : HasCircles code) (before behind : ℕ)
    (before_below : before < 2 ^ length code.crossings) (behind_below : behind < 2 ^ length code.crossings)
    (same_closed : closed_at view behind ≡ closed_at view before) (label other : ℕ) where
  abbrev all_points : List ℕ
  all_points = points code view is circles before behind before_below behind_below same_closed

  abbrev closing : List ℕ
  closing = zs code view is circles before behind before_below behind_below same_closed

  abbrev r : ℕ → ℕ → Bool
  r = together code view before

  abbrev s : ℕ → ℕ → Bool
  s = together code view behind

  abbrev closed_before : ℕ
  closed_before = c code view is circles before behind before_below behind_below same_closed label other

  abbrev closed_behind : ℕ
  closed_behind = d code view is circles before behind before_below behind_below same_closed label other

  abbrev seen_before : ℕ
  seen_before = l code view is circles before behind before_below behind_below same_closed label other

  abbrev seen_behind : ℕ
  seen_behind = m code view is circles before behind before_below behind_below same_closed label other

  keeps-seen : keeps_points code all_points before behind label other
      ≡ (nat_eq closed_before closed_behind && keeps_classes r s view.names seen_before seen_behind)
  keeps-seen =
      list_all-append (keeps_point code all_points before behind label other) closing (map view.arc view.names)
      ∙ ap₂ (λ a b. a && b)
      (keeps-closed code view is circles before behind before_below behind_below same_closed label other)
      (keeps-names code view is circles before behind before_below behind_below same_closed label other)

  have-seen : (n : ℕ) → has_points code all_points before behind label other n
      ≡ changes_have r s view.names seen_before seen_behind n
  have-seen n =
      let first = u code view is circles before behind before_below behind_below same_closed label other in
      let second = v code view is circles before behind before_below behind_below same_closed label other in
      list_all-append (has_point code all_points before behind label other n) closing (map view.arc view.names)
      ∙ ap₂ (λ a b. a && b)
      (all-from (has_point code all_points before behind label other n) closing
      (λ z has.
      or_left (is_kept (same_at code before) (same_at code behind) all_points z) (nat_eq (first z) n && nat_eq (second z) n)
      (closed-kept code view is circles before behind before_below behind_below same_closed z has)))
      (list_all-map (has_point code all_points before behind label other n) view.arc view.names
      ∙ all-agree (λ x. has_point code all_points before behind label other n (view.arc x))
      (λ x. is_kept r s view.names x
      || (nat_eq (label_in r view.names seen_before x) n && nat_eq (label_in s view.names seen_behind x) n)) view.names
      (λ x has.
      ap₂ (λ a b. a || b) (name-kept code view is circles before behind before_below behind_below same_closed x has)
      (ap₂ (λ i j. nat_eq i n && nat_eq j n) (sym (label-in code view is circles before before_below label x has))
      (sym (label-in code view is circles behind behind_below other x has)))))

  more-seen : nat_lt (circle_count code before) (circle_count code behind) ≡ nat_lt (seen_count r view.names) (seen_count s view.names)
  more-seen =
      ap₂ nat_lt (count-parts code view is circles before before_below)
      (count-parts code view is circles behind behind_below
      ∙ ap (λ (xs : List ℕ). length xs + seen_count s view.names) same_closed)
      ∙ lt-more (length closing) (seen_count r view.names) (seen_count s view.names)

  pub number-seen : (h k crossing : ℕ) → Changes code before behind crossing
      → label_number h k code (generator_of before label) (generator_of behind other) crossing
      ≡ cond (nat_eq closed_before closed_behind) (deformed_saddle_number h k r s view.names seen_before seen_behind) 0
  number-seen h k crossing changes =
      let closes = nat_eq closed_before closed_behind in
      let keeps = keeps_classes r s view.names seen_before seen_behind in
      let counts = counts_labels r s view.names seen_before seen_behind in
      number-points h k code before behind crossing all_points label other circles changes
      (are-points code view is circles before before_below closing
      (named code view is circles before behind before_below behind_below same_closed) (λ z has. has))
      (are-points code view is circles behind behind_below closing
      (named code view is circles before behind before_below behind_below same_closed)
      (λ z has. subst (λ (xs : List ℕ). Contains xs z) same_closed has))
      ∙ ap₂ (λ (t : Bool) (n : ℕ). one_if t + n)
      (fits-seen code view is circles before behind before_below behind_below same_closed label other crossing changes)
      (ap₂ (λ (t more : Bool). cond t (cond more (cond (has_points code all_points before behind label other 0) k 0)
      (cond (has_points code all_points before behind label other 1) h 0)) 0) keeps-seen more-seen
      ∙ ap₂ (λ (t u : Bool). cond (closes && keeps) (cond (nat_lt (seen_count r view.names) (seen_count s view.names))
      (cond t k 0) (cond u h 0)) 0) (have-seen 0) (have-seen 1))
      ∙ nested closes keeps counts
      (cond (nat_lt (seen_count r view.names) (seen_count s view.names))
      (cond (changes_have r s view.names seen_before seen_behind 0) k 0)
      (cond (changes_have r s view.names seen_before seen_behind 1) h 0))
    where
      nested : (a b c : Bool) (n : ℕ) → one_if (a && (b && c)) + cond (a && b) n 0 ≡ cond a (one_if (b && c) + cond b n 0) 0
      nested true b c n = omega arith
      nested false b c n = omega arith
