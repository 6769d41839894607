-- A view of a code is a view of the code under other numbers, and sees the same.
use Rattle.std.proofs.Common.{◌≡◌, ◌≢◌, ℕ, inl, inr, ◌%◌, ◌^◌, ◌<◌, ◌≤◌, ◌∙◌, length, sym, ap, subst, arith}
use Rattle.std.proofs.lemmas.List.{length-map}
use Rattle.std.proofs.lemmas.Nat.{mod_below, pow_pos}
use Rattle.kh_types.specs.Code.{Code}
use Rattle.kh_types.specs.CircleNumbers.{IsName}
use Rattle.kh_types.proofs.Lists.{Contains-map}
use Rattle.kh_types.proofs.Tests.{nat_eq-iff}
use Rattle.cell_laws.proofs.Members.{Contains-made}
use Rattle.gluing_laws.specs.Codes.{name_count}
use Rattle.view_laws.specs.Views.{View, IsView, SeeAlike, circle_at, closed_at, AreTogether}
use Rattle.slide_view_laws.specs.RenamedViews.{renamed_view, IsRenumberedOnto}
use Rattle.view_laws.proofs.Renumbered.{circles-back, circles-forth, onto}

module _ (f : ℕ → ℕ) (old new : Code) (view : View) (is : IsRenumberedOnto f old new) where
  abbrev after : View
  after = renamed_view f view

  size : length new.crossings ≡ length old.crossings
  size = is.renumbered.size

  loops : new.loops ≡ old.loops
  loops = is.renumbered.loops

  name-below : (x : ℕ) → IsName old x → x < name_count old
  name-below x here = omega (arith, here.within)

  onward : (state x y : ℕ) → IsName old x → IsName old y → AreTogether old state x y → AreTogether new state (f x) (f y)
  onward state x y x_is y_is = circles-forth f old new is.renumbered is.holds state x y (name-below x x_is) (name-below y y_is)

  back : (state x y : ℕ) → IsName old x → IsName old y → AreTogether new state (f x) (f y) → AreTogether old state x y
  back state x y x_is y_is = circles-back f old new is.renumbered is.holds state x y (name-below x x_is) (name-below y y_is)

  new-name : (x : ℕ) → IsName old x → IsName new (f x)
  new-name x here =
      let within = is.renumbered.below x (name-below x here) in
      let zero = is.zero_kept in
      record {
        positive = positive (f x)
            (λ none. absurd (omega (arith, here.positive, is.renumbered.apart x 0 (name-below x here) (omega arith) (none ∙ sym zero))));
        within = omega (arith, within, size, loops);
      }
    where
      positive : (n : ℕ) → n ≢ 0 → 1 ≤ n
      positive n some = grind (arith, some)

  pub IsView-renamed : IsView old view → IsView new (renamed_view f view)
  IsView-renamed is_view = record {
    fits = omega (arith, is_view.fits, size);
    once = is_view.once;
    arcs = λ x has. new-name (view.arc x) (is_view.arcs x has);
    closed_arcs = λ inside z below has.
        let made = Contains-made f (view.closed inside) z has in
        subst (λ (k : ℕ). IsName new k) made.2 (new-name made.0 (is_view.closed_arcs inside made.0 below made.1));
    few = λ inside below. subst (λ (k : ℕ). k ≤ 1) (sym (length-map (view.closed inside) f)) (is_view.few inside below);
    shows = λ state arc below here.
        let found = onto (name_count old) f is.renumbered.below is.renumbered.apart arc (omega (arith, here.within, size, loops)) in
        let x = found.0 in
        let whole = found.2 in
        let some : found.0 ≢ 0 = λ none. omega (arith, here.positive, sym found.2 ∙ ap f none ∙ is.zero_kept) in
        let x_is : IsName old found.0 = record { positive = omega (arith, some); within = omega (arith, found.1) } in
        let old_below : state < 2 ^ length old.crossings = subst (λ (n : ℕ). state < 2 ^ n) size below in
        elim (is_view.shows state x old_below x_is) [
          | inl (name, has, same) ↦ inl
              (name, has, onward state (view.arc name) x (is_view.arcs name has) x_is same ∙ ap (circle_at new state) whole)
          | inr (z, has, same) ↦ inr (
            f z,
            Contains-map f (closed_at view state) z has,
            onward state z x (is_view.closed_arcs (state % 2 ^ view.inner) z (inner-below state) has) x_is same
                ∙ ap (circle_at new state) whole,
          )
        ];
    apart = λ state z x below has has_x same.
        let old_below : state < 2 ^ length old.crossings = subst (λ (n : ℕ). state < 2 ^ n) size below in
        let made = Contains-made f (closed_at view state) z has in
        is_view.apart state made.0 x old_below made.1 has_x
        (back state made.0 (view.arc x) (is_view.closed_arcs (state % 2 ^ view.inner) made.0 (inner-below state) made.1)
        (is_view.arcs x has_x) (ap (circle_at new state) made.2 ∙ same));
  }
    where
      inner-below : (state : ℕ) → state % 2 ^ view.inner < 2 ^ view.inner
      inner-below state = mod_below state (2 ^ view.inner) (pow_pos view.inner)

  pub SeeAlike-renamed : IsView old view → (state : ℕ) → SeeAlike old view state new (renamed_view f view) state
  SeeAlike-renamed is_view state x y has_x has_y =
      nat_eq-iff (circle_at old state (view.arc x)) (circle_at old state (view.arc y)) (circle_at new state (f (view.arc x)))
      (circle_at new state (f (view.arc y)))
      (onward state (view.arc x) (view.arc y) (is_view.arcs x has_x) (is_view.arcs y has_y))
      (back state (view.arc x) (view.arc y) (is_view.arcs x has_x) (is_view.arcs y has_y))
