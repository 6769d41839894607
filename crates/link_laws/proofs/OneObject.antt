-- One object of a view's deformed layers is like the layers of a plain view of another code, where both see the same.
use Rattle.std.proofs.Common.{◌≡◌, ◌≢◌, ℕ, ◌⊎◌, inl, inr, ◌+◌, ◌-◌, ◌*◌, ◌%◌, ◌^◌, ◌<◌, ◌∙◌, ℤ, pos, ◌+ℤ◌, ◌-ℤ◌, List, length, refl, sym, subst, ap, ap₂, arith, Bool, true, false, ◌&&◌}
use Rattle.std.specs.List.{range_with_len, sum_by}
use Rattle.std.specs.Prelude.{nat_eq, if◌then◌else◌}
use Rattle.std.proofs.Math.Nat.{mod-mod}
use Rattle.std.proofs.lemmas.Bool.{cases_eq}
use Rattle.std.proofs.lemmas.Int.{ints}
use Rattle.kh_types.specs.Bits.{bit, ones}
use Rattle.kh_types.specs.Code.{Code}
use Rattle.kh_types.specs.Residues.{Same}
use Rattle.kh_types.proofs.ListSums.{sum_by-times}
use Rattle.kh_types.proofs.Residues.{same-equal, same-mul, same-scaled}
use Rattle.square_laws.specs.Deformed.{opposite}
use Rattle.square_laws.proofs.Signs.{ones-set_below}
use Rattle.cell_laws.specs.Filtered.{AreFiltered}
use Rattle.cell_laws.specs.Layers.{Layers, cells_of}
use Rattle.cell_laws.specs.Signs.{sign_of_power}
use Rattle.cell_laws.proofs.Members.{sum_by-same}
use Rattle.view_laws.specs.ViewLayers.{view_layers, outer_number, outer_along}
use Rattle.view_laws.specs.Partitions.{deformed_saddle_number}
use Rattle.view_laws.specs.ViewLayers.{closed_of, degree_of_labels, inside_of, object_of, outer_count, relation_of, seen_at}
use Rattle.view_laws.specs.Views.{HasCircles, IsView, SeeAlike, View, joint_state, plain_view}
use Rattle.view_laws.proofs.Cells.{object-closed, object-inside}
use Rattle.view_laws.proofs.Steps.{outer-alike}
use Rattle.view_laws.proofs.InnerEdges.{inner-none}
use Rattle.view_laws.proofs.Steps.{outer-some}
use Rattle.view_laws.proofs.Seen.{seen-alike}
use Rattle.layer_laws.specs.Cuts.{IsLikeOne}
use Rattle.layer_laws.specs.FilteredCuts.{IsFilteredLike, unfiltered_layers}
use Rattle.layer_laws.proofs.LevelEntries.{complex-unfiltered_layers}
use Rattle.layer_laws.proofs.Signs.{sign-sum}

-- ones inside turn the sign of all numbers along outer steps
outer-turned : (p h count r : ℕ) (relation : ℕ → ℕ → ℕ → Bool) (names : List ℕ) (s t label other : ℕ) → 0 < p
    → Same p (outer_number p h count r relation names s t label other)
    (sign_of_power p r * outer_number p h count 0 relation names s t label other)
outer-turned p h count r relation names s t label other positive =
    sum_by-same p (outer_along p h r relation names s t label other)
    (λ place. sign_of_power p r * outer_along p h 0 relation names s t label other place)
    (range_with_len 0 count)
    (λ place has. by place (nat_eq (bit s place) 0 && nat_eq t (s + 2 ^ place)))
    ∙ same-equal p (sum_by (λ place. sign_of_power p r * outer_along p h 0 relation names s t label other place)
    (range_with_len 0 count))
    (sign_of_power p r * outer_number p h count 0 relation names s t label other)
    (sum_by-times (outer_along p h 0 relation names s t label other) (sign_of_power p r) (range_with_len 0 count))
  where
    zero-sum : (n : ℕ) → 0 + n ≡ n
    zero-sum n = omega arith

    by : (place : ℕ) (b : Bool)
        → Same p (if b then sign_of_power p (r + ones place s)
        * deformed_saddle_number h (opposite p h) (relation s) (relation t) names label other % p else 0)
        (sign_of_power p r * (if b then sign_of_power p (0 + ones place s)
        * deformed_saddle_number h (opposite p h) (relation s) (relation t) names label other % p else 0))
    by place true =
        let d = deformed_saddle_number h (opposite p h) (relation s) (relation t) names label other in
        let a = sign_of_power p r in
        let b = sign_of_power p (ones place s) in
        mod-mod (sign_of_power p (r + ones place s) * d) p
        ∙ same-mul p (sign_of_power p (r + ones place s)) (a * b) d d (sym (sign-sum p r (ones place s) positive)) refl
        ∙ same-equal p (a * b * d) (a * (sign_of_power p (0 + ones place s) * d))
        (regrouped a b d ∙ ap (λ (n : ℕ). a * (sign_of_power p n * d)) (sym (zero-sum (ones place s))))
        ∙ sym (same-scaled p a (sign_of_power p (0 + ones place s) * d % p) (sign_of_power p (0 + ones place s) * d)
        (mod-mod (sign_of_power p (0 + ones place s) * d) p))
      where
        regrouped : (a b d : ℕ) → a * b * d ≡ a * (b * d)
        regrouped a b d = omega arith
    by place false = same-equal p 0 (sign_of_power p r * 0) (never (sign_of_power p r))
      where
        never : (a : ℕ) → 0 ≡ a * 0
        never a = omega arith

module _ (p h : ℕ) (code new : Code) (plus minus new_plus new_minus : ℕ) (view : View) (arc : ℕ → ℕ) (t c : ℕ)
    (t_within : t < 2 ^ view.inner) (positive : 0 < p) (new_is : IsView new (plain_view view.names arc)) (new_circles : HasCircles new)
    (filtered : AreFiltered p (cells_of (view_layers p h new new_plus new_minus (plain_view view.names arc))))
    (size : outer_count code view ≡ length new.crossings)
    (alike : (s : ℕ) → s < 2 ^ length new.crossings
    → SeeAlike code view (joint_state view t s) new (plain_view view.names arc) (joint_state (plain_view view.names arc) 0 s))
    (minus_is : minus ≡ new_minus + ones view.inner t)
    (shift : degree_of_labels (length (view.closed t)) c +ℤ (pos (ones view.inner t + plus) -ℤ pos (2 * minus))
    ≡ pos new_plus -ℤ pos (2 * new_minus)) where
  abbrev plain : View
  plain = plain_view view.names arc

  abbrev layers : Layers
  layers = view_layers p h code plus minus view

  abbrev single : Layers
  single = view_layers p h new new_plus new_minus plain

  abbrev object : ℕ
  object = object_of view t c

  abbrev n : ℕ
  n = length new.crossings

  all-outer : outer_count new plain ≡ n
  all-outer = less n
    where
      less : (n : ℕ) → n - 0 ≡ n
      less n = omega arith

  same-count : outer_count new plain ≡ outer_count code view
  same-count = all-outer ∙ sym size

  inside : inside_of view object ≡ t
  inside = object-inside view t c t_within

  shuts : closed_of view object ≡ c
  shuts = object-closed view t c t_within

  see : (s : ℕ) → s < 2 ^ outer_count code view
      → SeeAlike code view (joint_state view (inside_of view object) s) new plain (joint_state plain 0 s)
  see s below =
      subst (λ (a : ℕ). SeeAlike code view (joint_state view a s) new plain (joint_state plain 0 s)) (sym inside)
      (alike s (subst (λ (m : ℕ). s < 2 ^ m) size below))

  counts : (s : ℕ) → s < 2 ^ outer_count code view → seen_at code view object s ≡ seen_at new plain 0 s
  counts s below =
      ap (λ (xs : List ℕ). length xs)
      (seen-alike (relation_of code view object s) (relation_of new plain 0 s) view.names (see s below))

  level-like : IsLikeOne p object (ones view.inner t) (ones n) (unfiltered_layers layers) (unfiltered_layers single)
  level-like =
      record {
        complex = complex-unfiltered_layers p single filtered;
        objects = refl;
        states = ap (λ (m : ℕ). 2 ^ m) same-count;
        labels = λ s below. ap (λ (m : ℕ). 2 ^ m) (sym (counts s below));
        homological = λ s label below label_below.
            heights (ones (outer_count new plain) s) (ones (outer_count code view) s) (ones view.inner (inside_of view object))
            (ones view.inner t)
            (ap (λ (m : ℕ). ones m s) same-count) (ap (ones view.inner) inside) minus_is;
        quantum = λ s label below label_below. refl;
        inner = record {
          none = λ s label other below label_below other_below.
              same-equal p (single.inner 0 0 s label other) 0
              (inner-none p h new new_plus new_minus plain new_is new_circles 0 0 s label other (λ i step. nothing-below i step.place));
        };
        outer = λ s next label other below next_below differ label_below other_below.
            same-equal p (layers.outer object s next label other)
            (outer_number p h (outer_count new plain) (ones view.inner t) (relation_of new plain 0) view.names s next label other)
            (outer-alike p h (outer_count code view) (ones view.inner (inside_of view object)) (ones view.inner t)
            (relation_of code view object)
            (relation_of new plain 0) view.names s next label other (ap (λ (a : ℕ). ones view.inner a % 2) inside) (see s below)
            (see next next_below)
            ∙ ap (λ (m : ℕ). outer_number p h m (ones view.inner t) (relation_of new plain 0) view.names s next label other)
            (sym same-count))
            ∙ outer-turned p h (outer_count new plain) (ones view.inner t) (relation_of new plain 0) view.names s next label other positive;
        steps = λ s next label other below next_below differ label_below other_below.
            up s next label other (cases_eq (single.outer 0 s next label other) 0);
      }
    where
      heights : (a b x y : ℕ) → a ≡ b → x ≡ y → minus ≡ new_minus + y → pos (0 + a) -ℤ pos new_minus ≡ pos (x + b) -ℤ pos minus
      heights a b x y same_outer same_inner is = omega (arith, ints, same_outer, same_inner, is)

      nothing-below : (i : ℕ) → i < 0 → ⊥
      nothing-below i below = omega (arith, below)

      up : (s next label other : ℕ) → (single.outer 0 s next label other ≡ 0) ⊎ (single.outer 0 s next label other ≢ 0)
          → Same p (single.outer 0 s next label other) 0 ⊎ (ones n next ≡ ones n s + 1)
      up s next label other (inl none) = inl (same-equal p (single.outer 0 s next label other) 0 none)
      up s next label other (inr some) =
          let found = outer-some p h (outer_count new plain) 0 (relation_of new plain 0) view.names s next label other some in
          inr (ap (ones n) found.2.behind
          ∙ ones-set_below s found.0 n found.2.zero_there (subst (λ (m : ℕ). found.0 < m) all-outer found.1))

  pub like-one : IsFilteredLike p object (ones view.inner t) (ones n) layers single
  like-one =
      record {
        filtered = filtered;
        like = level-like;
        quantum = λ s label below label_below.
            weights (degree_of_labels (seen_at new plain 0 s) label) (degree_of_labels (seen_at code view object s) label)
            (degree_of_labels (length (view.closed (inside_of view object))) (closed_of view object))
            (degree_of_labels (length (view.closed t)) c)
            (ones (outer_count new plain) s) (ones (outer_count code view) s) (ones view.inner (inside_of view object)) (ones view.inner t)
            (ap (λ (m : ℕ). degree_of_labels m label) (sym (counts s below)))
            (ap₂ (λ (a b : ℕ). degree_of_labels (length (view.closed a)) b) inside shuts)
            (ap (λ (m : ℕ). ones m s) same-count) (ap (ones view.inner) inside) shift;
      }
    where
      weights : (d e f g : ℤ) (a b x y : ℕ) → d ≡ e → f ≡ g → a ≡ b → x ≡ y
          → g +ℤ (pos (y + plus) -ℤ pos (2 * minus)) ≡ pos new_plus -ℤ pos (2 * new_minus)
          → (degree_of_labels 0 0 +ℤ d) +ℤ (pos (0 + a + new_plus) -ℤ pos (2 * new_minus))
          ≡ (f +ℤ e) +ℤ (pos (x + b + plus) -ℤ pos (2 * minus))
      weights d e f g a b x y same_labels same_closed same_outer same_inner is =
          omega (arith, ints, same_labels, same_closed, same_outer, same_inner, is)
