-- The deformed layers of a view are cut, where one circle closes at one inner state and what is seen is known by kinds.
use Rattle.std.proofs.Common.{◌≡◌, ◌≢◌, ℕ, ◌⊎◌, inl, inr, ◌+◌, ◌*◌, ◌%◌, ◌^◌, ◌<◌, ◌∙◌, ℤ, pos, ◌+ℤ◌, ◌-ℤ◌, List, [], ◌∷◌, length, map, refl, sym, subst, ap, ap₂, arith, Bool, true, false}
use Rattle.std.specs.List.{range_with_len}
use Rattle.std.specs.Prelude.{nat_eq, if◌then◌else◌}
use Rattle.std.proofs.Math.Nat.{mod-eq_of_lt, mod-mod}
use Rattle.std.proofs.lemmas.Bool.{cases_Bool, cases_eq, eq-eqb, ne_eqb, or_left, or_right}
use Rattle.std.proofs.lemmas.Int.{ints}
use Rattle.std.proofs.lemmas.Nat.{pow_pos}
use Rattle.kh_types.specs.Bits.{ones}
use Rattle.kh_types.specs.Code.{Code}
use Rattle.kh_types.proofs.Residues.{same-equal}
use Rattle.square_laws.specs.Deformed.{opposite}
use Rattle.square_laws.proofs.Signs.{ones-set_below}
use Rattle.cell_laws.specs.Filtered.{AreFiltered}
use Rattle.cell_laws.specs.Layers.{Layers, cells_of, layer_of}
use Rattle.cell_laws.specs.Signs.{sign_of_power}
use Rattle.cell_laws.proofs.NoDoubles.{flat_map-range}
use Rattle.view_laws.specs.ViewLayers.{view_layers}
use Rattle.view_laws.specs.Partitions.{deformed_saddle_number}
use Rattle.view_laws.specs.Partitions.{AgreeOn, seen_count}
use Rattle.view_laws.specs.ViewLayers.{closed_of, degree_of_labels, inside_of, object_of, objects_at, outer_count, relation_of, seen_at, view_objects}
use Rattle.view_laws.specs.Views.{HasCircles, IsInnerStep, SeeAlike, View, joint_state, together}
use Rattle.view_laws.proofs.Cells.{object-closed, object-inside}
use Rattle.view_laws.proofs.Seen.{saddle-alike}
use Rattle.view_laws.proofs.InnerEdges.{inner-none, inner-saddle, merge-identity, split-identity}
use Rattle.view_laws.proofs.Seen.{seen-alike}
use Rattle.layer_laws.specs.Cuts.{IsCut, IsNothing, IsTimes, cut_objects, is_step, same_label, step_sign}
use Rattle.layer_laws.specs.FilteredCuts.{IsFilteredCut, unfiltered_layers}
use Rattle.layer_laws.proofs.LevelEntries.{complex-unfiltered_layers}
use Rattle.link_laws.specs.SeenBy.{IsSeenBy}
use Rattle.link_laws.proofs.Steps.{IsStepFound, no-step, none-of, one-of, step-found, times-from}

-- what the layers are by kinds
abbrev pub count_by : (ℕ → ℕ → ℕ → ℕ → Bool) → List ℕ → ℕ → ℕ → ℕ
count_by relation names i s = 2 ^ seen_count (relation i s) names

abbrev pub saddle_by : ℕ → ℕ → (ℕ → ℕ → ℕ → ℕ → Bool) → List ℕ → ℕ → ℕ → ℕ → ℕ → ℕ → ℕ
saddle_by p h relation names i j s label other =
    deformed_saddle_number h (opposite p h) (relation i s) (relation j s) names label other

module _ (p h : ℕ) (code : Code) (plus minus : ℕ) (view : View) (closing : ℕ) (kind : ℕ → ℕ) (relation : ℕ → ℕ → ℕ → ℕ → Bool)
    (seen : IsSeenBy code view closing kind relation) (circles : HasCircles code) (above : 1 < p)
    (filtered : AreFiltered p (cells_of (view_layers p h code plus minus view))) where
  abbrev layers : Layers
  layers = view_layers p h code plus minus view

  abbrev k : ℕ
  k = view.inner

  pub object-open : (t : ℕ) → object_of view t 0 ≡ t
  object-open t = plain t (2 ^ k)
    where
      plain : (t n : ℕ) → t + n * 0 ≡ t
      plain t n = omega arith

  pub object-shut : (t : ℕ) → object_of view t 1 ≡ t + 2 ^ k
  object-shut t = plain t (2 ^ k)
    where
      plain : (t n : ℕ) → t + n * 1 ≡ t + n
      plain t n = omega arith

  pub inside-open : (t : ℕ) → t < 2 ^ k → inside_of view t ≡ t
  inside-open t within = mod-eq_of_lt within

  pub inside-shut : inside_of view (closing + 2 ^ k) ≡ closing
  inside-shut = ap (inside_of view) (sym (object-shut closing)) ∙ object-inside view closing 1 seen.within

  pub closed-open : (t : ℕ) → t < 2 ^ k → closed_of view t ≡ 0
  closed-open t within = ap (closed_of view) (sym (object-open t)) ∙ object-closed view t 0 within

  pub open-none : (t : ℕ) → t < 2 ^ k → t ≢ closing → view.closed t ≡ []
  open-none t within differ = none-of (view.closed t) (seen.others t within differ)

  -- what is seen
  pub seen-inside : (object t s : ℕ) → inside_of view object ≡ t → t < 2 ^ k → s < 2 ^ outer_count code view
      → AgreeOn view.names (relation_of code view object s) (relation (kind t) s)
  seen-inside object t s inside within below =
      subst (λ (a : ℕ). AgreeOn view.names (together code view (joint_state view a s)) (relation (kind t) s)) (sym inside)
      (seen.seen t s within below)

  pub count-inside : (object t s : ℕ) → inside_of view object ≡ t → t < 2 ^ k → s < 2 ^ outer_count code view
      → seen_at code view object s ≡ seen_count (relation (kind t) s) view.names
  count-inside object t s inside within below =
      ap (λ (xs : List ℕ). length xs)
      (seen-alike (relation_of code view object s) (relation (kind t) s) view.names (seen-inside object t s inside within below))

  pub both-seen : (t u s : ℕ) → t < 2 ^ k → u < 2 ^ k → s < 2 ^ outer_count code view → kind t ≡ kind u
      → SeeAlike code view (joint_state view t s) code view (joint_state view u s)
  both-seen t u s t_within u_within below same =
      λ x y has_x has_y.
      seen.seen t s t_within below x y has_x has_y ∙ ap (λ (i : ℕ). relation i s x y) same
      ∙ sym (seen.seen u s u_within below x y has_x has_y)

  -- no steps
  nothing-there : (x y t u : ℕ) → inside_of view x ≡ t → inside_of view y ≡ u → is_step k t u ≡ false → IsNothing p layers x y
  nothing-there x y t u x_inside y_inside none =
      record {
        none = λ s label other below label_below other_below.
            same-equal p (layers.inner x y s label other) 0
            (inner-none p h code plus minus view seen.is circles x y s label other
            (λ i step. no-step view t u none i
            (subst (λ (b : ℕ). IsInnerStep view t b i) y_inside
            (subst (λ (a : ℕ). IsInnerStep view a (inside_of view y) i) x_inside step))));
      }

  -- steps
  pub sign-found : (t u : ℕ) (found : IsStepFound view t u) → sign_of_power p (ones found.place t) ≡ step_sign p k t u
  sign-found t u found = ap (λ (n : ℕ). sign_of_power p n) (sym found.before)

  pub differs : (a b : ℕ) → IsStepFound view a b → b ≡ a → ⊥
  differs a b found same = omega (arith, found.step.behind, same, pow_pos found.place)

  merged-there : (t : ℕ) → t < 2 ^ k → is_step k closing t ≡ true → IsTimes p layers closing t (step_sign p k closing t) same_label
  merged-there t within is =
      let found = step-found view closing t seen.within is in
      let one = one-of (view.closed closing) seen.closes in
      subst (λ (n : ℕ). IsTimes p layers closing t n same_label) (sign-found closing t found)
      (subst (λ (o : ℕ). IsTimes p layers closing o (sign_of_power p (ones found.place closing)) same_label) (object-open t)
      (subst (λ (o : ℕ). IsTimes p layers o (object_of view t 0) (sign_of_power p (ones found.place closing)) same_label)
      (object-open closing)
      (times-from p layers (object_of view closing 0) (object_of view t 0) (sign_of_power p (ones found.place closing))
      (merge-identity p h code plus minus view seen.is circles closing t found.place one.0 above found.step one.1
      (open-none t within (λ same. differs closing t found same))
      (λ s below. both-seen closing t s seen.within within below
      (sym (seen.near t within (or_right (is_step k t closing) (is_step k closing t) is))))))))

  split-there : (t : ℕ) → t < 2 ^ k → is_step k t closing ≡ true
      → IsTimes p layers t (closing + 2 ^ k) (step_sign p k t closing) same_label
  split-there t within is =
      let found = step-found view t closing within is in
      let one = one-of (view.closed closing) seen.closes in
      subst (λ (n : ℕ). IsTimes p layers t (closing + 2 ^ k) n same_label) (sign-found t closing found)
      (subst (λ (o : ℕ). IsTimes p layers t o (sign_of_power p (ones found.place t)) same_label) (object-shut closing)
      (subst (λ (o : ℕ). IsTimes p layers o (object_of view closing 1) (sign_of_power p (ones found.place t)) same_label)
      (object-open t)
      (times-from p layers (object_of view t 0) (object_of view closing 1) (sign_of_power p (ones found.place t))
      (split-identity p h code plus minus view seen.is circles t closing found.place one.0 above found.step
      (open-none t within (λ same. differs t closing found (sym same))) one.1
      (λ s below. both-seen closing t s seen.within within below
      (sym (seen.near t within (or_left (is_step k t closing) (is_step k closing t) is))))))))

  saddle-there : (t u : ℕ) → t < 2 ^ k → u < 2 ^ k → t ≢ closing → u ≢ closing → is_step k t u ≡ true
      → IsTimes p layers t u (step_sign p k t u) (saddle_by p h relation view.names (kind t) (kind u))
  saddle-there t u t_within u_within t_other u_other is =
      let found = step-found view t u t_within is in
      record {
        is = λ s label other below label_below other_below.
            let sign = sign_of_power p (ones found.place t) in
            let d = deformed_saddle_number h (opposite p h) (together code view (joint_state view t s))
            (together code view (joint_state view u s)) view.names label other in
            same-equal p (layers.inner t u s label other) (sign * d % p)
            (ap₂ (λ (a b : ℕ). layers.inner a b s label other) (sym (object-open t)) (sym (object-open u))
            ∙ inner-saddle p h code plus minus view seen.is circles t u found.place found.step s below (open-none t t_within t_other)
            (open-none u u_within u_other) label other
            (subst (λ (a : ℕ). label < 2 ^ seen_count (together code view (joint_state view a s)) view.names) (inside-open t t_within)
            label_below)
            (subst (λ (a : ℕ). other < 2 ^ seen_count (together code view (joint_state view a s)) view.names) (inside-open u u_within)
            other_below))
            ∙ mod-mod (sign * d) p
            ∙ same-equal p (sign * d) (step_sign p k t u * saddle_by p h relation view.names (kind t) (kind u) s label other)
            (ap₂ (λ (m e : ℕ). m * e) (sign-found t u found)
            (saddle-alike (together code view (joint_state view t s)) (together code view (joint_state view u s)) (relation (kind t) s)
            (relation (kind u) s) view.names label other (seen.seen t s t_within below) (seen.seen u s u_within below) h (opposite p h)));
      }

  -- the objects
  pub objects-there : view_objects view ≡ cut_objects k closing
  objects-there =
      flat_map-range (objects_at view) (λ t. if nat_eq t closing then t ∷ (t + 2 ^ k) ∷ [] else t ∷ []) 0 (2 ^ k)
      (λ t below. by t (omega (arith, below)) (cases_eq t closing))
    where
      by : (t : ℕ) → t < 2 ^ k → (t ≡ closing) ⊎ (t ≢ closing)
          → objects_at view t ≡ (if nat_eq t closing then t ∷ (t + 2 ^ k) ∷ [] else t ∷ [])
      by t within (inl same) =
          ap (λ (n : ℕ). map (object_of view t) (range_with_len 0 (2 ^ n))) (ap (λ (a : ℕ). length (view.closed a)) same ∙ seen.closes)
          ∙ ap₂ (λ (a b : ℕ). a ∷ b ∷ []) (object-open t) (object-shut t)
          ∙ ap (λ (b : Bool). if b then t ∷ (t + 2 ^ k) ∷ [] else t ∷ []) (sym (eq-eqb t closing same))
      by t within (inr differ) =
          ap (λ (n : ℕ). map (object_of view t) (range_with_len 0 (2 ^ n))) (seen.others t within differ)
          ∙ ap (λ (a : ℕ). a ∷ []) (object-open t)
          ∙ ap (λ (b : Bool). if b then t ∷ (t + 2 ^ k) ∷ [] else t ∷ []) (sym (ne_eqb t closing differ))

  pub no-step-to_itself : is_step k closing closing ≡ false
  no-step-to_itself = elim (cases_Bool (is_step k closing closing)) [
    | inl is ↦ absurd (differs closing closing (step-found view closing closing seen.within is) refl)
    | inr none ↦ none
  ]

  cut-unfiltered : IsCut p k closing kind (count_by relation view.names) (saddle_by p h relation view.names)
      (unfiltered_layers layers)
  cut-unfiltered =
      record {
        complex = complex-unfiltered_layers p layers filtered;
        objects = objects-there;
        labels = λ t s within below. ap (λ (n : ℕ). 2 ^ n) (count-inside t t s (inside-open t within) within below);
        closed_labels = λ s below.
            ap (λ (n : ℕ). 2 ^ n) (count-inside (closing + 2 ^ k) closing s inside-shut seen.within below);
        apart = λ t u t_within u_within none.
            nothing-unfiltered t u (nothing-there t u t u (inside-open t t_within) (inside-open u u_within) none);
        apart_closed = λ t within none.
            nothing-unfiltered t (closing + 2 ^ k)
            (nothing-there t (closing + 2 ^ k) t closing (inside-open t within) inside-shut none);
        apart_within = nothing-unfiltered (closing + 2 ^ k) (closing + 2 ^ k)
            (nothing-there (closing + 2 ^ k) (closing + 2 ^ k) closing closing inside-shut inside-shut no-step-to_itself);
        split_off = λ t within is. times-unfiltered t (closing + 2 ^ k) (step_sign p k t closing) same_label (split-there t within is);
        merged = λ t within is. times-unfiltered closing t (step_sign p k closing t) same_label (merged-there t within is);
        saddles = λ t u t_within u_within t_other u_other is.
            times-unfiltered t u (step_sign p k t u) (saddle_by p h relation view.names (kind t) (kind u))
            (saddle-there t u t_within u_within t_other u_other is);
      }
    where
      nothing-unfiltered : (x y : ℕ) → IsNothing p layers x y → IsNothing p (unfiltered_layers layers) x y
      nothing-unfiltered x y nothing = record { none = nothing.none }

      times-unfiltered : (x y n : ℕ) (given : ℕ → ℕ → ℕ → ℕ) → IsTimes p layers x y n given
          → IsTimes p (unfiltered_layers layers) x y n given
      times-unfiltered x y n given times = record { is = times.is }

  -- quantum degrees by inner states: of an object where nothing closes, and of the closing one with either label
  abbrev degree_by : ℕ → ℕ → ℕ → ℕ → ℕ → ℕ → ℤ
  degree_by size c t i s label =
      (degree_of_labels size c +ℤ degree_of_labels (seen_count (relation i s) view.names) label)
      +ℤ (pos (ones k t + ones (outer_count code view) s + plus) -ℤ pos (2 * minus))

  degree-there : (object size c t s label : ℕ) → inside_of view object ≡ t → closed_of view object ≡ c → length (view.closed t) ≡ size
      → t < 2 ^ k → s < 2 ^ outer_count code view → layers.quantum (layer_of object s label) ≡ degree_by size c t (kind t) s label
  degree-there object size c t s label inside shuts closes within below =
      ap₂ (λ (a b : ℕ). (degree_of_labels (length (view.closed a)) b +ℤ degree_of_labels (seen_at code view object s) label)
      +ℤ (pos (ones k (inside_of view object) + ones (outer_count code view) s + plus) -ℤ pos (2 * minus))) inside shuts
      ∙ ap₂ (λ (a b : ℕ). (degree_of_labels a c +ℤ degree_of_labels b label)
      +ℤ (pos (ones k (inside_of view object) + ones (outer_count code view) s + plus) -ℤ pos (2 * minus))) closes
      (count-inside object t s inside within below)
      ∙ ap (λ (a : ℕ). (degree_of_labels size c +ℤ degree_of_labels (seen_count (relation (kind t) s) view.names) label)
      +ℤ (pos (ones k a + ones (outer_count code view) s + plus) -ℤ pos (2 * minus))) inside

  level-up : (a b c : ℕ) (d : ℤ) → b ≡ a + 1
      → (degree_of_labels 0 0 +ℤ d) +ℤ (pos (b + c + plus) -ℤ pos (2 * minus))
      ≡ (degree_of_labels 1 0 +ℤ d) +ℤ (pos (a + c + plus) -ℤ pos (2 * minus))
  level-up a b c d next = omega (arith, ints, next)

  level-down : (a b c : ℕ) (d : ℤ) → b ≡ a + 1
      → (degree_of_labels 1 1 +ℤ d) +ℤ (pos (b + c + plus) -ℤ pos (2 * minus))
      ≡ (degree_of_labels 0 0 +ℤ d) +ℤ (pos (a + c + plus) -ℤ pos (2 * minus))
  level-down a b c d next = omega (arith, ints, next)

  ones-up : (t u : ℕ) (found : IsStepFound view t u) → ones k u ≡ ones k t + 1
  ones-up t u found =
      ap (ones k) found.step.behind ∙ ones-set_below t found.place k found.step.zero_there found.step.place

  merged-level : (t s label : ℕ) → t < 2 ^ k → is_step k closing t ≡ true → s < 2 ^ outer_count code view
      → layers.quantum (layer_of t s label) ≡ layers.quantum (layer_of closing s label)
  merged-level t s label within is below =
      let found = step-found view closing t seen.within is in
      degree-there t 0 0 t s label (inside-open t within) (closed-open t within)
      (seen.others t within (λ same. differs closing t found same)) within below
      ∙ level-up (ones k closing) (ones k t) (ones (outer_count code view) s)
      (degree_of_labels (seen_count (relation (kind t) s) view.names) label) (ones-up closing t found)
      ∙ ap (λ (i : ℕ). degree_by 1 0 closing i s label) (seen.near t within (or_right (is_step k t closing) (is_step k closing t) is))
      ∙ sym (degree-there closing 1 0 closing s label (inside-open closing seen.within) (closed-open closing seen.within) seen.closes
      seen.within below)

  split-level : (t s label : ℕ) → t < 2 ^ k → is_step k t closing ≡ true → s < 2 ^ outer_count code view
      → layers.quantum (layer_of (closing + 2 ^ k) s label) ≡ layers.quantum (layer_of t s label)
  split-level t s label within is below =
      let found = step-found view t closing within is in
      degree-there (closing + 2 ^ k) 1 1 closing s label inside-shut
      (ap (closed_of view) (sym (object-shut closing)) ∙ object-closed view closing 1 seen.within) seen.closes seen.within below
      ∙ level-down (ones k t) (ones k closing) (ones (outer_count code view) s)
      (degree_of_labels (seen_count (relation (kind closing) s) view.names) label) (ones-up t closing found)
      ∙ ap (λ (i : ℕ). degree_by 0 0 t i s label)
      (sym (seen.near t within (or_left (is_step k t closing) (is_step k closing t) is)))
      ∙ sym (degree-there t 0 0 t s label (inside-open t within) (closed-open t within)
      (seen.others t within (λ same. differs t closing found (sym same))) within below)

  pub cut-view : IsFilteredCut p k closing kind (count_by relation view.names) (saddle_by p h relation view.names) layers
  cut-view =
      record {
        filtered = filtered;
        cut = cut-unfiltered;
        merged = λ t s label within is below label_below. merged-level t s label within is below;
        split_off = λ t s label within is below label_below. split-level t s label within is below;
      }
