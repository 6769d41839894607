-- The circles of a state, as those that close inside and those that are seen in a view; and labels in these two parts.
use Rattle.std.proofs.Common.{◌≡◌, ℕ, suc, inl, inr, ◌+◌, ◌%◌, ◌^◌, ◌<◌, ◌≤◌, ◌∙◌, List, [], ◌∷◌, ◌++◌, length, map, refl, sym, subst, ap, ap₂, arith}
use Rattle.std.specs.List.{Contains, sum_by}
use Rattle.std.proofs.lemmas.List.{length-map, map-append}
use Rattle.std.proofs.lemmas.List.Elements.{Contains-append_left, Contains-append_right, Contains-append_cases}
use Rattle.std.proofs.lemmas.List.Sums.{sum_by-append}
use Rattle.kh_types.specs.Bits.{ones}
use Rattle.kh_types.specs.Circles.{circle_count, circle_names}
use Rattle.kh_types.specs.CircleNumbers.{IsName}
use Rattle.kh_types.specs.Code.{Code}
use Rattle.kh_types.specs.Differential.{label_of}
use Rattle.kh_types.specs.Generators.{generator_of}
use Rattle.kh_types.proofs.Lists.{Contains-map}
use Rattle.kh_types.proofs.ListSums.{sum_by-map}
use Rattle.cell_laws.specs.Alike.{HasNoDoubles}
use Rattle.cell_laws.proofs.Matched.{AreListed-matched}
use Rattle.cell_laws.proofs.Members.{Contains-made, sum_by-members}
use Rattle.cell_laws.proofs.NoDoubles.{first-new, map-map, once-append, once-first, once-later}
use Rattle.square_laws.proofs.LabelNumbers.{number_from}
use Rattle.view_laws.specs.Partitions.{label_in, seen}
use Rattle.view_laws.specs.Views.{HasCircles, IsView, View, circle_at, closed_at, together}
use Rattle.view_laws.proofs.CircleNames.{circle-name, label-circle, label-small, name-from, name-of, names-once, ones-labels}
use Rattle.view_laws.proofs.EdgePoints.{ArePoints}
use Rattle.kh_types.proofs.JointNumbers.{inside-below}
use Rattle.cell_laws.proofs.Labels.{ones-map}
use Rattle.view_laws.proofs.Seen.{first, first-key, label-seen, seen-apart, seen-from, seen-of, seen-once}
use Rattle.cell_laws.proofs.SplitLabels.{AreParts, counts, part}

pub once-few : (xs : List ℕ) → length xs ≤ 1 → HasNoDoubles xs
once-few xs few k l d less within same = omega (arith, few, less, within)

pub once-map_on : (f : ℕ → ℕ) (xs : List ℕ) → ((x y : ℕ) → Contains xs x → Contains xs y → f x ≡ f y → x ≡ y) → HasNoDoubles xs
    → HasNoDoubles (map f xs)
once-map_on f [] apart once = once
once-map_on f (x ∷ xs) apart once =
    once-first (f x) (map f xs)
    (λ has.
    let made = Contains-made f xs (f x) has in
    first-new x xs once
    (subst (λ (z : ℕ). Contains xs z) (apart made.0 x (later made.0 made.1) (0, omega arith, refl) made.2) made.1))
    (once-map_on f xs (λ y z has_y has_z. apart y z (later y has_y) (later z has_z)) (once-later x xs once))
  where
    later : (y : ℕ) → Contains xs y → Contains (x ∷ xs) y
    later y (k, below, is) = (suc k, omega (arith, below), is)

module _ (code : Code) (view : View) (is : IsView code view) (circles : HasCircles code) (state : ℕ)
    (below : state < 2 ^ length code.crossings) where
  abbrev pub class : ℕ → ℕ
  class = circle_at code state

  abbrev pub key : ℕ → ℕ
  key x = circle_at code state (view.arc x)

  abbrev pub closed : List ℕ
  closed = closed_at view state

  abbrev pub shown : List ℕ
  shown = seen (together code view state) view.names

  abbrev pub arcs : List ℕ
  arcs = map view.arc shown

  abbrev all : List ℕ
  all = map class (closed ++ arcs)

  pub few-closed : length closed ≤ 1
  few-closed = is.few (state % 2 ^ view.inner) (inside-below view.inner state)

  pub closed-name : (z : ℕ) → Contains closed z → IsName code z
  closed-name z has = is.closed_arcs (state % 2 ^ view.inner) z (inside-below view.inner state) has

  all-once : HasNoDoubles all
  all-once =
      subst (λ (xs : List ℕ). HasNoDoubles xs)
      (sym (map-append class closed arcs ∙ ap (λ (xs : List ℕ). map class closed ++ xs) (map-map class view.arc shown)))
      (once-append (map class closed) (map key shown)
      (once-few (map class closed) (omega (arith, few-closed, length-map closed class)))
      (once-map_on key shown (seen-apart key view.names) (seen-once key view.names is.once))
      (λ c has_closed has_seen.
      let z = Contains-made class closed c has_closed in
      let n = Contains-made key shown c has_seen in
      is.apart state z.0 n.0 below z.1 (seen-from key view.names n.0 n.1).0 (z.2 ∙ sym n.2)))

  all-names : (c : ℕ) → Contains all c → Contains (circle_names code state) c
  all-names c has =
      let made = Contains-made class (closed ++ arcs) c has in
      let name : IsName code made.0 = elim (Contains-append_cases closed arcs made.0 made.1) [
        | inl in_closed ↦ closed-name made.0 in_closed
        | inr in_arcs ↦
            let n = Contains-made view.arc shown made.0 in_arcs in
            subst (λ (z : ℕ). IsName code z) n.2 (is.arcs n.0 (seen-from key view.names n.0 n.1).0)
      ] in
      subst (λ (z : ℕ). Contains (circle_names code state) z) made.2
      (name-of code state (class made.0) (circle-name code state made.0 circles name))

  names-all : (c : ℕ) → Contains (circle_names code state) c → Contains all c
  names-all c has =
      let name = name-from code state c has in
      elim (is.shows state c below name.name) [
        | inl shows ↦
            let n = shows.0 in
            let there = seen-of key view.names n shows.1 in
            let f = first key view.names n in
            subst (λ (z : ℕ). Contains all z) (first-key key view.names n shows.1 ∙ shows.2 ∙ name.own)
            (Contains-map class (closed ++ arcs) (view.arc f)
            (Contains-append_right closed arcs (view.arc f) (Contains-map view.arc shown f there)))
        | inr closes ↦
            subst (λ (z : ℕ). Contains all z) (closes.2 ∙ name.own)
            (Contains-map class (closed ++ arcs) closes.0 (Contains-append_left closed arcs closes.0 closes.1))
      ]

  pub parts : AreParts (circle_names code state) class closed arcs
  parts =
      let listed = AreListed-matched (λ (x : ℕ). x) (λ (x : ℕ). x) all (circle_names code state)
      (record {
        first_once = all-once;
        second_once = names-once code state;
        there = all-names;
        back_there = names-all;
        to_back = λ y has. refl;
        back_to = λ x has. refl;
      }) in
      record {
        once = names-once code state;
        sums = λ h.
            turned (sum_by (λ x. h (class x)) arcs) (sum_by (λ x. h (class x)) closed)
            ∙ sym (listed.sums h ∙ sum_by-map h class (closed ++ arcs) ∙ sum_by-append (λ x. h (class x)) closed arcs);
      }
    where
      turned : (a b : ℕ) → a + b ≡ b + a
      turned a b = omega arith

  -- labels of circles in two parts
  abbrev pub lab : ℕ → ℕ → ℕ
  lab label = label_of code (generator_of state label)

  abbrev pub seen_part : ℕ → ℕ
  seen_part label = part (circle_names code state) class arcs label

  abbrev pub closed_part : ℕ → ℕ
  closed_part label = part (circle_names code state) class closed label

  pub seen-part : (label : ℕ) → seen_part label ≡ number_from (map (λ n. lab label (view.arc n)) shown)
  seen-part label = ap number_from (map-map (lab label) view.arc shown)

  pub label-in : (label n : ℕ) → Contains view.names n
      → label_in (together code view state) view.names (seen_part label) n ≡ lab label (view.arc n)
  label-in label n has =
      ap (λ l. label_in (together code view state) view.names l n) (seen-part label)
      ∙ label-seen key view.names (λ m. lab label (view.arc m)) (λ m. label-small code state label (view.arc m))
      (λ m o same. label-circle code state label (view.arc m) (view.arc o) same) n has

  pub count-parts : circle_count code state ≡ length closed + length shown
  count-parts = sym (counts parts) ∙ ap (λ n. length closed + n) (length-map shown view.arc)

  pub all-ones : (label : ℕ)
      → ones (circle_count code state) label ≡ sum_by (lab label) closed + sum_by (λ n. lab label (view.arc n)) shown
  all-ones label =
      ones-labels code state label
      ∙ sym (parts.sums (lab label))
      ∙ turned (sum_by (λ x. lab label (class x)) arcs) (sum_by (λ x. lab label (class x)) closed)
      ∙ ap₂ (λ a b. a + b)
      (sum_by-members (λ x. lab label (class x)) (lab label) closed (λ z has. own z (closed-name z has)))
      (sum_by-map (λ x. lab label (class x)) view.arc shown
      ∙ sum_by-members (λ n. lab label (class (view.arc n))) (λ n. lab label (view.arc n)) shown
      (λ n has. own (view.arc n) (is.arcs n (seen-from key view.names n has).0)))
    where
      turned : (a b : ℕ) → a + b ≡ b + a
      turned a b = omega arith

      own : (x : ℕ) → IsName code x → lab label (class x) ≡ lab label x
      own x name = label-circle code state label (class x) x (circles.own state x name)

  pub ones-seen : (label : ℕ) → ones (length shown) (seen_part label) ≡ sum_by (λ n. lab label (view.arc n)) shown
  ones-seen label =
      ap (λ l. ones (length shown) l) (seen-part label)
      ∙ ones-map (λ n. lab label (view.arc n)) shown (λ n. label-small code state label (view.arc n))

  pub ones-closed : (label : ℕ) → ones (length closed) (closed_part label) ≡ sum_by (lab label) closed
  ones-closed label = ones-map (lab label) closed (λ z. label-small code state label z)

  -- points: some arcs and loops, of which those are that close, and the names
  pub are-points : (zs : List ℕ) → ((z : ℕ) → Contains zs z → IsName code z) → ((z : ℕ) → Contains closed z → Contains zs z)
      → ArePoints code (zs ++ map view.arc view.names) state
  are-points zs named among =
      record {
        named = λ x has. elim (Contains-append_cases zs (map view.arc view.names) x has) [
          | inl in_zs ↦ named x in_zs
          | inr in_arcs ↦
              let made = Contains-made view.arc view.names x in_arcs in subst (λ (y : ℕ). IsName code y) made.2 (is.arcs made.0 made.1)
        ];
        shows = λ arc name. elim (is.shows state arc below name) [
          | inl shows ↦ (
            view.arc shows.0,
            Contains-append_right zs (map view.arc view.names) (view.arc shows.0) (Contains-map view.arc view.names shows.0 shows.1),
            shows.2,
          )
          | inr closes ↦ (
            closes.0,
            Contains-append_left zs (map view.arc view.names) closes.0 (among closes.0 closes.1),
            closes.2,
          )
        ];
      }
