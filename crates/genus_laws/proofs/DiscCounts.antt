-- The discs of two pairings are the cycles of the one and the other's way back, at ends.
--
-- Two pairings with what leads back give two permutations of points. Where the one leads from an end to a start and the other leads back to
-- an end, their composition goes from end to end, and the disc of the two is its cycle. So discs are counted by cycles of one permutation
-- and the way back of the other, which is what Euler's formula counts (OrbitGenus).
use Rattle.std.proofs.Common.{◌≡◌, ℕ, ◌⊎◌, inl, inr, ◌<◌, ◌∙◌, List, ◌++◌, refl, sym, ap, ap₂, subst, arith, Bool, true, false, ◌&&◌, cond, eq-eqb}
use Rattle.std.specs.Prelude.{nat_eq, slice_index}
use Rattle.std.proofs.lemmas.Bool.{cases_Bool, eqb-true, or_left, or_right}
use Rattle.kh_types.specs.Classes.{classes_of, is_least, Respects, IsNamed}
use Rattle.kh_types.specs.Permutations.{IsPermutation, cycles_of}
use Rattle.kh_types.proofs.ClassLemmas.{classes-together, classes-finest, Respects-append, Respects-first, Respects-second, AreBelow-append}
use Rattle.kh_types.proofs.JoinedClasses.{IsNamed-classes_of}
use Rattle.kh_types.proofs.Cycles.{AreCycles-cycles_of, IsNamed-cycles_of}
use Rattle.kh_types.proofs.RangeCounts.{counted}
use Rattle.genus_laws.specs.Orbits.{is_in, count_in, between}
use Rattle.genus_laws.specs.Surfaces.{IsSurface, surface_components, ends_or_starts, is_disc}
use Rattle.genus_laws.proofs.Counts.{count_by-matched, counted-same}
use Rattle.genus_laws.proofs.PartCounts.{AreFiner}
use Rattle.genus_laws.proofs.OrbitLemmas.{Keeps, AreFiner-cycles, IsPermutation-between, Keeps-between}
use Rattle.genus_laws.proofs.Leading.{led-inside, led-outside, IsPermutation-led, Keeps-led, first_next, first_back, second_next, second_back, surface_components-below}
use Rattle.genus_laws.proofs.Paths.{or_else}

-- tests that pass together
pub all_three : (s t u : Bool) → (s && (t && u)) ≡ true → (s ≡ true) × (t ≡ true) × (u ≡ true)
all_three true true true is = (refl, refl, refl)
all_three true true false is = (refl, refl, is)
all_three true false u is = (refl, is, absurd (no is))
  where
    no : false ≡ true → ⊥
    no is = cc is
all_three false t u is = (is, absurd (no is), absurd (no is))
  where
    no : false ≡ true → ⊥
    no is = cc is

pub both_pass : (s t u : Bool) → s ≡ true → t ≡ true → u ≡ true → (s && (t && u)) ≡ true
both_pass s t u is_s is_t is_u = ap₂ (λ a b. a && b) is_s (ap₂ (λ a b. a && b) is_t is_u)

not_both : (b : Bool) → b ≡ true → b ≡ false → ⊥
not_both b is other = false_true (sym other ∙ is)
  where
    false_true : false ≡ true → ⊥
    false_true same = cc same

-- a start is no end
start_no_end : (n : ℕ) (ends starts : ℕ → Bool) (m k w : List (ℕ × ℕ)) → IsSurface n ends starts m k w
    → (x : ℕ) → x < n → starts x ≡ true → ends x ≡ false
start_no_end n ends starts m k w is x below start = elim (cases_Bool (ends x)) [
  | inl end ↦ absurd (not_both (starts x) start (is.apart x below end))
  | inr other ↦ other
]

-- what is known of a surface, by its two permutations f and g: the discs, the cycles of h, one value on each of these, and how each
-- open point is led to an end
pub record AreDiscs (n : ℕ) (ends starts : ℕ → Bool) (all discs cycles : List ℕ) (end_of : ℕ → ℕ) : Type 0 where
  pub discs_named : IsNamed n discs
  pub cycles_named : IsNamed n cycles
  pub discs_finer : AreFiner n discs all
  pub cycles_finer : AreFiner n cycles all
  pub end_below : (x : ℕ) → x < n → end_of x < n
  pub end_in : (x : ℕ) → x < n → ends_or_starts ends starts x ≡ true → slice_index all (end_of x) ≡ slice_index all x
  pub end_is : (x : ℕ) → x < n → ends_or_starts ends starts x ≡ true → ends (end_of x) ≡ true
  pub end_own : (x : ℕ) → ends x ≡ true → end_of x ≡ x
  pub end_disc : (x : ℕ) → x < n → ends_or_starts ends starts x ≡ true → slice_index discs (end_of x) ≡ slice_index discs x
  pub disc_open : (x : ℕ) → x < n → ends_or_starts ends starts (slice_index discs x) ≡ ends_or_starts ends starts x
  pub cycle_ends : (x : ℕ) → x < n → ends (slice_index cycles x) ≡ ends x
  pub onward : (x y : ℕ) → x < n → y < n → slice_index discs x ≡ slice_index discs y
      → slice_index cycles (end_of x) ≡ slice_index cycles (end_of y)
  pub back : (x y : ℕ) → x < n → y < n → slice_index cycles x ≡ slice_index cycles y → slice_index discs x ≡ slice_index discs y

-- then there are as many discs as cycles of ends, in each component
discs-counted : (n : ℕ) (ends starts : ℕ → Bool) (all discs cycles : List ℕ) (end_of : ℕ → ℕ) (name : ℕ)
    → AreDiscs n ends starts all discs cycles end_of
    → count_in n all name (λ x. ends x && is_least cycles x) ≡ count_in n all name (is_disc ends starts discs)
discs-counted n ends starts all discs cycles end_of name are =
    let p : ℕ → Bool = λ x. is_in all name x && (ends x && is_least cycles x) in
    let q : ℕ → Bool = λ x. is_in all name x && (ends_or_starts ends starts x && is_least discs x) in
    let p_each = λ (x : ℕ) (holds : p x ≡ true). all_three (is_in all name x) (ends x) (is_least cycles x) holds in
    let q_each = λ (x : ℕ) (holds : q x ≡ true). all_three (is_in all name x) (ends_or_starts ends starts x) (is_least discs x) holds in
    count_by-matched p q (λ x. slice_index discs x) (λ x. slice_index cycles (end_of x)) n
    (λ x below holds.
    let passes = p_each x holds in (
      omega (arith, are.discs_named.least x below, below),
      both_pass (is_in all name (slice_index discs x)) (ends_or_starts ends starts (slice_index discs x))
          (is_least discs (slice_index discs x)) (ap (λ c. nat_eq c name) (are.discs_finer x below) ∙ passes.0)
          (are.disc_open x below ∙ or_left (ends x) (starts x) passes.1)
          (eq-eqb (slice_index discs (slice_index discs x)) (slice_index discs x) (are.discs_named.own x below)),
    ))
    (λ x y x_below y_below x_holds y_holds same.
    let x_passes = p_each x x_holds in
    let y_passes = p_each y y_holds in
    sym (eqb-true (slice_index cycles x) x x_passes.2) ∙ ap (λ z. slice_index cycles z) (sym (are.end_own x x_passes.1))
    ∙ are.onward x y x_below y_below same ∙ ap (λ z. slice_index cycles z) (are.end_own y y_passes.1)
    ∙ eqb-true (slice_index cycles y) y y_passes.2)
    (λ x below holds.
    let passes = q_each x holds in
    let end = end_of x in
    let end_below = are.end_below x below in
    let cycle = slice_index cycles end in (
      omega (arith, are.cycles_named.least end end_below, end_below),
      both_pass (is_in all name cycle) (ends cycle) (is_least cycles cycle)
          (ap (λ c. nat_eq c name) (are.cycles_finer end end_below ∙ are.end_in x below passes.1) ∙ passes.0)
          (are.cycle_ends end end_below ∙ are.end_is x below passes.1)
          (eq-eqb (slice_index cycles cycle) cycle (are.cycles_named.own end end_below)),
    ))
    (λ x y x_below y_below x_holds y_holds same.
    let x_passes = q_each x x_holds in
    let y_passes = q_each y y_holds in
    sym (eqb-true (slice_index discs x) x x_passes.2) ∙ sym (are.end_disc x x_below x_passes.1)
    ∙ are.back (end_of x) (end_of y) (are.end_below x x_below) (are.end_below y y_below) same
    ∙ are.end_disc y y_below y_passes.1 ∙ eqb-true (slice_index discs y) y y_passes.2)

-- the end that the first pairing leads to an open point
abbrev pub end_by : (ℕ → Bool) → (ℕ → ℕ) → ℕ → ℕ
end_by ends back x = cond (ends x) x (back x)

end_by-own : (ends : ℕ → Bool) (back : ℕ → ℕ) (x : ℕ) → ends x ≡ true → end_by ends back x ≡ x
end_by-own ends back x is = ap (λ b. cond b x (back x)) is

end_by-back : (ends : ℕ → Bool) (back : ℕ → ℕ) (x : ℕ) → ends x ≡ false → end_by ends back x ≡ back x
end_by-back ends back x other = ap (λ b. cond b x (back x)) other

pub AreDiscs-surface : (n : ℕ) (ends starts : ℕ → Bool) (m k w : List (ℕ × ℕ)) (is : IsSurface n ends starts m k w)
    → AreDiscs n ends starts (surface_components n m k w) (classes_of n (m ++ k))
    (cycles_of n (between (first_back n ends starts m k w is) (second_next n ends starts m k w is)))
    (end_by ends (first_back n ends starts m k w is))
AreDiscs-surface n ends starts m k w is =
    let f = first_next n ends starts m k w is in
    let f_back = first_back n ends starts m k w is in
    let g = second_next n ends starts m k w is in
    let g_back = second_back n ends starts m k w is in
    let h = between f_back g in
    let all = surface_components n m k w in
    let discs = classes_of n (m ++ k) in
    let cycles = cycles_of n h in
    let end_of = end_by ends f_back in
    let f_permutes : IsPermutation n f f_back = IsPermutation-led n ends starts m w is.first is.outer in
    let g_permutes : IsPermutation n g g_back = IsPermutation-led n ends starts k w is.second is.outer in
    let h_permutes = IsPermutation-between n f f_back g g_back f_permutes g_permutes in
    let pairs_below = AreBelow-append n m k is.first.below is.second.below in
    let discs_named = IsNamed-classes_of n (m ++ k) pairs_below in
    let cycles_named = IsNamed-cycles_of n h h_permutes.below in
    let class : ℕ → ℕ = λ x. slice_index all x in
    let disc : ℕ → ℕ = λ x. slice_index discs x in
    let cycle : ℕ → ℕ = λ x. slice_index cycles x in
    let all_respects = classes-together n (m ++ (k ++ w)) (surface_components-below n ends starts m k w is) in
    let all_m = Respects-first class m (k ++ w) all_respects in
    let all_rest = Respects-second class m (k ++ w) all_respects in
    let all_k = Respects-first class k w all_rest in
    let all_w = Respects-second class k w all_rest in
    let f_keeps = Keeps-led n ends starts m w is.first is.outer class all_m all_w in
    let g_keeps = Keeps-led n ends starts k w is.second is.outer class all_k all_w in
    let h_keeps = Keeps-between n f f_back g class g_permutes.below f_permutes.back_below f_permutes.f_back f_keeps g_keeps in
    let discs_respect = classes-together n (m ++ k) pairs_below in
    let disc_m = Respects-first disc m k discs_respect in
    let disc_k = Respects-second disc m k discs_respect in
    let f_end = λ (x : ℕ) (end : ends x ≡ true). led-inside ends is.first.next is.outer.next x end in
    let g_end = λ (x : ℕ) (end : ends x ≡ true). led-inside ends is.second.next is.outer.next x end in
    let back_start = λ (x : ℕ) (start : starts x ≡ true). led-inside starts is.first.back is.outer.back x start in
    let no_end = start_no_end n ends starts m k w is in
    -- h leads from an end to an end, and leaves all else
    let h_end : (x : ℕ) → x < n → ends x ≡ true → ends (h x) ≡ true =
    λ x below end.
    let start : starts (g x) ≡ true = ap starts (g_end x end) ∙ is.second.next_to x below end in
    ap ends (back_start (g x) start) ∙ is.first.back_from (g x) (g_permutes.below x below) start in
    let h_other : (x : ℕ) → x < n → ends x ≡ false → h x ≡ x =
    λ x below other.
    ap f_back (led-outside ends is.second.next is.outer.next x other ∙ sym (led-outside ends is.first.next is.outer.next x other))
    ∙ f_permutes.back_f x below in
    let disc_h : Keeps n h disc =
    λ x below. elim (cases_Bool (ends x)) [
      | inr other ↦ ap disc (sym (h_other x below other))
      | inl end ↦
          let there = h_end x below end in
          is.second.joins disc disc_k x below end ∙ ap disc (sym (g_end x end))
          ∙ ap disc (sym (f_permutes.f_back (g x) (g_permutes.below x below))) ∙ ap disc (f_end (h x) there)
          ∙ sym (is.first.joins disc disc_m (h x) (h_permutes.below x below) there)
    ] in
    let ends_h : Keeps n h (λ x. counted (ends x)) =
    λ x below. elim (cases_Bool (ends x)) [
      | inr other ↦ ap (λ z. counted (ends z)) (sym (h_other x below other))
      | inl end ↦ ap counted (end ∙ sym (h_end x below end))
    ] in
    let are = AreCycles-cycles_of n h (between g_back f) h_permutes in
    -- the end of an open point has its cycle on the whole disc
    let end_start : (x : ℕ) → x < n → starts x ≡ true → end_of x ≡ f_back x =
    λ x below start. end_by-back ends f_back x (no_end x below start) in
    let cycle_m : Respects (λ x. cycle (end_of x)) m =
    is.first.only (λ x. cycle (end_of x)) (λ x below end.
    let next = is.first.next x in
    ap cycle
    (end_by-own ends f_back x end
    ∙ sym (end_start next (is.first.next_below x below end) (is.first.next_to x below end)
    ∙ back_start next (is.first.next_to x below end) ∙ is.first.back_next x below end))) in
    let cycle_k : Respects (λ x. cycle (end_of x)) k =
    is.second.only (λ x. cycle (end_of x)) (λ x below end.
    let next = is.second.next x in
    ap cycle (end_by-own ends f_back x end) ∙ sym (are.step x below)
    ∙ ap cycle (ap f_back (g_end x end) ∙ sym (end_start next (is.second.next_below x below end) (is.second.next_to x below end)))) in
    let opened : ℕ → ℕ = λ x. counted (ends_or_starts ends starts x) in
    let open_end = λ (x : ℕ) (end : ends x ≡ true). or_left (ends x) (starts x) end in
    let open_m : Respects opened m =
    is.first.only opened (λ x below end.
    ap counted (open_end x end ∙ sym (or_right (ends (is.first.next x)) (starts (is.first.next x)) (is.first.next_to x below end)))) in
    let open_k : Respects opened k =
    is.second.only opened (λ x below end.
    ap counted (open_end x end ∙ sym (or_right (ends (is.second.next x)) (starts (is.second.next x)) (is.second.next_to x below end)))) in
    let to_end : (x : ℕ) → x < n → ends_or_starts ends starts x ≡ true
    → (ends x ≡ true) ⊎ ((ends x ≡ false) × (starts x ≡ true)) =
    λ x below open_x. elim (cases_Bool (ends x)) [
      | inl end ↦ inl end
      | inr other ↦ inr (other, or_else (ends x) (starts x) open_x other)
    ] in
    let disc_below : (x : ℕ) → x < n → disc x < n = λ x below. omega (arith, discs_named.least x below, below) in
    let cycle_below : (x : ℕ) → x < n → cycle x < n = λ x below. omega (arith, cycles_named.least x below, below) in
    record {
      discs_named = discs_named;
      cycles_named = cycles_named;
      discs_finer = λ x below.
          classes-finest class n (m ++ k) (Respects-append class m k all_m all_k) pairs_below (disc x) x (disc_below x below) below
          (discs_named.own x below);
      cycles_finer = AreFiner-cycles n h (between g_back f) all h_permutes h_keeps;
      end_below = λ x below. elim (cases_Bool (ends x)) [
        | inl end ↦ subst (λ (z : ℕ). z < n) (sym (end_by-own ends f_back x end)) below
        | inr other ↦ subst (λ (z : ℕ). z < n) (sym (end_by-back ends f_back x other)) (f_permutes.back_below x below)
      ];
      end_in = λ x below open_x. elim (to_end x below open_x) [
        | inl end ↦ ap class (end_by-own ends f_back x end)
        | inr start ↦
            ap class (end_by-back ends f_back x start.0) ∙ f_keeps (f_back x) (f_permutes.back_below x below)
            ∙ ap class (f_permutes.f_back x below)
      ];
      end_is = λ x below open_x. elim (to_end x below open_x) [
        | inl end ↦ ap ends (end_by-own ends f_back x end) ∙ end
        | inr start ↦
            ap ends (end_by-back ends f_back x start.0 ∙ back_start x start.1) ∙ is.first.back_from x below start.1
      ];
      end_own = λ x end. end_by-own ends f_back x end;
      end_disc = λ x below open_x. elim (to_end x below open_x) [
        | inl end ↦ ap disc (end_by-own ends f_back x end)
        | inr start ↦
            ap disc (end_by-back ends f_back x start.0 ∙ back_start x start.1)
            ∙ is.first.joins disc disc_m (is.first.back x) (is.first.back_below x below start.1) (is.first.back_from x below start.1)
            ∙ ap disc (is.first.next_back x below start.1)
      ];
      disc_open = λ x below.
          counted-same (ends_or_starts ends starts (disc x)) (ends_or_starts ends starts x)
          (classes-finest opened n (m ++ k) (Respects-append opened m k open_m open_k) pairs_below (disc x) x (disc_below x below) below
          (discs_named.own x below));
      cycle_ends = λ x below.
          counted-same (ends (cycle x)) (ends x)
          (are.finest (λ z. counted (ends z)) ends_h (cycle x) x (cycle_below x below) below (cycles_named.own x below));
      onward = λ x y x_below y_below same.
          classes-finest (λ z. cycle (end_of z)) n (m ++ k) (Respects-append (λ z. cycle (end_of z)) m k cycle_m cycle_k) pairs_below
          x y x_below y_below same;
      back = λ x y x_below y_below same. are.finest disc disc_h x y x_below y_below same;
    }

pub discs-cycles : (n : ℕ) (ends starts : ℕ → Bool) (m k w : List (ℕ × ℕ)) (is : IsSurface n ends starts m k w) (name : ℕ)
    → count_in n (surface_components n m k w) name
    (λ x. ends x && is_least (cycles_of n (between (first_back n ends starts m k w is) (second_next n ends starts m k w is))) x)
    ≡ count_in n (surface_components n m k w) name (is_disc ends starts (classes_of n (m ++ k)))
discs-cycles n ends starts m k w is name =
    discs-counted n ends starts (surface_components n m k w) (classes_of n (m ++ k))
    (cycles_of n (between (first_back n ends starts m k w is) (second_next n ends starts m k w is)))
    (end_by ends (first_back n ends starts m k w is)) name (AreDiscs-surface n ends starts m k w is)
