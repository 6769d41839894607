-- Parts whose names are the arcs of a code, and which go over each component from its least arc on, in whatever order: each component
-- keeps its numbers together, and its least arc has the least, unless it is turned.
--
-- The order is made of blocks (Blocks), of which each is a component: in front of it stand the numbers below its least arc, so that its own
-- are those from there on (`block`). A block is turned where it has two arcs that are both over; then its least arc comes second, and that
-- is the one way in which a least arc is not the first of its component (`HasOverLabels`).
use Rattle.std.proofs.lemmas.Bool.Decides.{nat_tests}
use Rattle.std.proofs.Common.{ℤ, ◌≡◌, ◌≢◌, ℕ, ◌⊎◌, inl, inr, ◌+◌, ◌<◌, ◌≤◌, ◌∙◌, List, [], ◌∷◌, ◌++◌, length, get_or, refl, sym, ap, ap₂, subst, arith, true, not, ◌&&◌, cond, length-append}
use Rattle.std.specs.Prelude.{nat_eq, int_lt}
use Rattle.std.specs.List.{position_or_len}
use Rattle.std.proofs.lemmas.Bool.{cases_eq, cases_lt, eq-eqb, ne_eqb}
use Rattle.kh_types.specs.Code.{Code, IsArc}
use Rattle.kh_types.specs.Accepted.{IsDirected}
use Rattle.kh_types.proofs.NextArcs.{component, HasPlace-directed}
use Rattle.code_passes.specs.Passes.{Pass, is_over}
use Rattle.code_passes.proofs.CutArcs.{IsFirst, size, component-in, size-positive}
use Rattle.code_passes.proofs.LeastArcs.{IsFirstOf-directed}
use Rattle.code_passes.specs.Parts.{Parts, ArePaired, passes_through}
use Rattle.orient_arcs.specs.Renumbered.{follows, label_entered, walk, turned_names, order_of, number_in}
use Rattle.orient_arcs.proofs.Members.{IsIn, IsIn-left, IsIn-right, IsIn-parts}
use Rattle.orient_arcs.proofs.PairedPasses.{heads_of}
use Rattle.orient_arcs.proofs.Labels.{turned-cases}
use Rattle.orient_arcs.proofs.Blocks.{order-by_blocks}

-- numbers in lists that are put together

pub number-left : (xs ys : List ℕ) (x : ℕ) → IsIn x xs → number_in (xs ++ ys) x ≡ number_in xs x
number-left xs ys x is = ap (λ p. p + 1) (by xs is)
  where
    by : (xs : List ℕ) → IsIn x xs → position_or_len (nat_eq x) (xs ++ ys) ≡ position_or_len (nat_eq x) xs
    by [] is = absurd is
    by (z ∷ zs) is = elim (cases_eq x z) [
      | inl same ↦
          ap (λ b. cond (not b) (1 + position_or_len (nat_eq x) (zs ++ ys)) 0) (eq-eqb x z same)
          ∙ sym (ap (λ b. cond (not b) (1 + position_or_len (nat_eq x) zs) 0) (eq-eqb x z same))
      | inr other ↦
          let later : IsIn x zs = elim is [ inl same ↦ absurd (other same) | inr there ↦ there ] in
          ap (λ k. cond (not (nat_eq x z)) (1 + k) 0) (by zs later)
    ]

pub number-right : (xs ys : List ℕ) (x : ℕ) → (IsIn x xs → ⊥) → number_in (xs ++ ys) x ≡ length xs + number_in ys x
number-right xs ys x out = let p = by xs out in omega (arith, p)
  where
    by : (xs : List ℕ) → (IsIn x xs → ⊥) → position_or_len (nat_eq x) (xs ++ ys) ≡ length xs + position_or_len (nat_eq x) ys
    by [] out = omega arith
    by (z ∷ zs) out = grind (arith, nat_tests, ne_eqb, by zs (λ there. out (inr there)))

number-le : (xs : List ℕ) (x : ℕ) → IsIn x xs → number_in xs x ≤ length xs
number-le xs x is = by xs is
  where
    by : (xs : List ℕ) → IsIn x xs → position_or_len (nat_eq x) xs + 1 ≤ length xs
    by [] is = absurd is
    by (z ∷ zs) is = elim (cases_eq x z) [
      | inl same ↦
          let here = ap (λ b. cond (not b) (1 + position_or_len (nat_eq x) zs) 0) (eq-eqb x z same) in omega (arith, here)
      | inr other ↦
          let later : IsIn x zs = elim is [ inl same ↦ absurd (other same) | inr there ↦ there ] in
          let rest = by zs later in
          let here = ap (λ b. cond (not b) (1 + position_or_len (nat_eq x) zs) 0) (ne_eqb x z other) in omega (arith, rest, here)
    ]

pub number-first : (a b : ℕ) → number_in (b ∷ a ∷ []) b ≡ 1
number-first a b = ap (λ t. cond (not t) (1 + position_or_len (nat_eq b) (a ∷ [])) 0 + 1) (eq-eqb b b refl)

pub number-second : (a b : ℕ) → a ≢ b → number_in (b ∷ a ∷ []) a ≡ 2
number-second a b apart = grind (arith, nat_tests)

-- names that are turned are both over, and the second enters the first listed crossing
pub turned-test : (label : ℕ → ℤ) (a b : ℕ) → a ≢ b → turned_names label (a ∷ b ∷ []) ≡ b ∷ a ∷ []
    → ((is_over (label a) && is_over (label b)) && int_lt (label b) (label a)) ≡ true
turned-test label a b apart is = grind (arith, nat_tests)

pub turned-over : (label : ℕ → ℤ) (a b : ℕ) → a ≢ b → turned_names label (a ∷ b ∷ []) ≡ b ∷ a ∷ []
    → (is_over (label a) ≡ true) × (is_over (label b) ≡ true)
turned-over label a b apart is = grind (arith, nat_tests)

-- names that go over the component of a least arc, and begin with it
pub record GoesOver (crossings : List (List ℕ)) (first : ℕ) (names : List ℕ) : Type 0 where
  pub count : length names ≡ size crossings first
  pub inside : (x : ℕ) → IsIn x names → (first ≤ x) × (x < first + size crossings first)
  pub all : (x : ℕ) → first ≤ x → x < first + size crossings first → IsIn x names
  pub begins : number_in names first ≡ 1
  pub pair : size crossings first ≡ 2 → names ≡ first ∷ (first + 1) ∷ []

-- the component of a least arc has two arcs, and is over at both its crossings in the parts
pub record HasOverLabels (crossings : List (List ℕ)) (passes : List Pass) (first : ℕ) : Type 0 where
  pub two : size crossings first ≡ 2
  pub first_over : is_over (label_entered passes first) ≡ true
  pub second_over : is_over (label_entered passes (first + 1)) ≡ true

-- the number of an arc in an order is one of its component
pub record IsPlaced (crossings : List (List ℕ)) (passes : List Pass) (order : List ℕ) (x : ℕ) : Type 0 where
  pub here : IsIn x order
  pub from : component crossings x ≤ number_in order x
  pub below : number_in order x < component crossings x + size crossings (component crossings x)
  pub least : (number_in order (component crossings x) ≤ number_in order x) ⊎ HasOverLabels crossings passes (component crossings x)

module _ (code : Code) (directed : IsDirected code.crossings) (parts : Parts) (paired : ArePaired parts)
    (heads : (x : ℕ) → IsArc code.crossings x → IsIn x (heads_of parts paired))
    (arcs : (x : ℕ) → IsIn x (heads_of parts paired) → IsArc code.crossings x)
    (names_from : ℕ → List ℕ)
    (walked : (first : ℕ) → IsFirst code.crossings first
    → walk (follows (passes_through parts)) first (length (passes_through parts)) first ≡ names_from first)
    (rounds : (first : ℕ) → IsFirst code.crossings first → GoesOver code.crossings first (names_from first)) where
  abbrev passes : List Pass
  passes = passes_through parts

  -- the order of the arcs up to one that is the last of its component
  record IsPlacedTo (last : ℕ) (order : List ℕ) : Type 0 where
    count : length order ≡ last
    low : (x : ℕ) → IsIn x order → x ≤ last
    placed : (x : ℕ) → IsArc code.crossings x → x ≤ last → IsPlaced code.crossings passes order x

  -- the numbers of a component that is put behind others
  record IsBlock (front names : List ℕ) (first : ℕ) : Type 0 where
    pub count : length names ≡ size code.crossings first
    pub low : (x : ℕ) → IsIn x names → x < first + size code.crossings first
    pub placed : (x : ℕ) → first ≤ x → x < first + size code.crossings first → IsPlaced code.crossings passes (front ++ names) x

  block : (front : List ℕ) (first : ℕ) → IsFirst code.crossings first → length front + 1 ≡ first → ((x : ℕ) → IsIn x front → x < first)
      → IsBlock front (turned_names (label_entered (passes_through parts)) (names_from first)) first
  block front first is begins before =
      let label = label_entered (passes_through parts) in
      let s = size code.crossings first in
      let inside : (x : ℕ) → first ≤ x → x < first + size code.crossings first → component code.crossings x ≡ first =
      λ x from below. component-in code.crossings directed first x is from below in
      let alike : (x : ℕ) → first ≤ x → x < first + size code.crossings first
      → size code.crossings (component code.crossings x) ≡ size code.crossings first =
      λ x from below. ap (size code.crossings) (inside x from below) in
      let out : (x : ℕ) → first ≤ x → IsIn x front → ⊥ = λ x from there. absurd (omega (arith, from, before x there)) in
      let some = size-positive code.crossings directed first is in
      let over = rounds first is in
      elim (turned-cases (label_entered (passes_through parts)) (names_from first)) [
        | inl same ↦
            subst (λ (names : List ℕ). IsBlock front names first) (sym same)
            (record {
              count = over.count;
              low = λ x there. (over.inside x there).1;
              placed = λ x from below.
                  let here = over.all x from below in
                  let right = number-right front (names_from first) x (out x from) in
                  let within = number-le (names_from first) x here in
                  record {
                    here = IsIn-right x front (names_from first) here;
                    from = omega (arith, right, begins, inside x from below);
                    below = omega (arith, right, begins, within, over.count, inside x from below, alike x from below);
                    least = inl (
                        let least_is = ap (number_in (front ++ names_from first)) (inside x from below) in
                        let at_first = number-right front (names_from first) first (out first (omega arith)) in
                        omega (arith, least_is, right, at_first, over.begins));
                  };
            })
        | inr two ↦
            let a = two.0 in
            let b = two.1 in
            let long : size code.crossings first ≡ 2 = sym over.count ∙ ap length two.2 in
            let pair : names_from first ≡ first ∷ (first + 1) ∷ [] = over.pair long in
            let a_is : two.0 ≡ first = ap (λ xs. get_or xs 0 0) (sym two.2 ∙ pair) in
            let b_is : two.1 ≡ first + 1 = ap (λ xs. get_or xs 1 0) (sym two.2 ∙ pair) in
            let turned : turned_names (label_entered (passes_through parts)) (names_from first)
            ≡ (first + 1) ∷ first ∷ [] = two.3 ∙ ap₂ (λ x y. x ∷ y ∷ []) b_is a_is in
            let apart : first ≢ first + 1 = λ same. absurd (omega (arith, same)) in
            let both_over = turned-over (label_entered (passes_through parts)) first (first + 1) apart
            (ap (turned_names (label_entered (passes_through parts))) (sym pair) ∙ turned) in
            let labels : HasOverLabels code.crossings passes first = record { two = long; first_over = both_over.0; second_over = both_over.1 } in
            subst (λ (names : List ℕ). IsBlock front names first) (sym turned)
            (let number_second : number_in (front ++ ((first + 1) ∷ first ∷ [])) (first + 1) ≡ first =
            (let right = number-right front ((first + 1) ∷ first ∷ []) (first + 1) (out (first + 1) (omega arith)) in
            let own = number-first first (first + 1) in omega (arith, right, own, begins)) in
            let number_least : number_in (front ++ ((first + 1) ∷ first ∷ [])) first ≡ first + 1 =
            (let right = number-right front ((first + 1) ∷ first ∷ []) first (out first (omega arith)) in
            let own = number-second first (first + 1) apart in omega (arith, right, own, begins)) in
            let number : (x : ℕ) → first ≤ x → x < first + size code.crossings first
            → (first ≤ number_in (front ++ ((first + 1) ∷ first ∷ [])) x) × (number_in (front ++ ((first + 1) ∷ first ∷ [])) x < first + 2)
            × IsIn x ((first + 1) ∷ first ∷ []) =
            λ x from below. elim (cases_eq x first) [
              | inl same ↦
                  let at = ap (number_in (front ++ ((first + 1) ∷ first ∷ []))) same in
                  (omega (arith, at, number_least), omega (arith, at, number_least), inr (inl same))
              | inr other ↦
                  let second : x ≡ first + 1 = omega (arith, other, from, below, long) in
                  let at = ap (number_in (front ++ ((first + 1) ∷ first ∷ []))) second in
                  (omega (arith, at, number_second), omega (arith, at, number_second), inl second)
            ] in
            record {
              count = sym long;
              low = λ x there. elim there [
                | inl same ↦ omega (arith, same, long)
                | inr later ↦ elim later [ inl same ↦ omega (arith, same, long) | inr none ↦ absurd none ]
              ];
              placed = λ x from below. record {
                here = IsIn-right x front ((first + 1) ∷ first ∷ []) (number x from below).2;
                from = omega (arith, (number x from below).0, inside x from below);
                below = omega (arith, (number x from below).1, inside x from below, alike x from below, long);
                least = inr (subst (λ (y : ℕ). HasOverLabels code.crossings passes y) (sym (inside x from below)) labels);
              };
            })
      ]

  IsPlaced-left : (front names : List ℕ) (x : ℕ) → IsPlaced code.crossings passes front x → IsIn (component code.crossings x) front → IsPlaced code.crossings passes (front ++ names) x
  IsPlaced-left front names x placed first_in =
      let own = number-left front names x placed.here in
      let first = number-left front names (component code.crossings x) first_in in
      let from = placed.from in
      let below = placed.below in
      record {
        here = IsIn-left x front names placed.here;
        from = omega (arith, own, from);
        below = omega (arith, own, below);
        least = elim (placed.least) [
          | inl low ↦ inl (omega (arith, own, first, low))
          | inr labels ↦ inr labels
        ];
      }

  placed-more : (last : ℕ) (order : List ℕ) → IsFirst code.crossings (last + 1) → IsPlacedTo last order
      → IsPlacedTo (last + size code.crossings (last + 1)) (order ++ turned_names (label_entered (passes_through parts)) (names_from (last + 1)))
  placed-more last order is to =
      let names = turned_names (label_entered (passes_through parts)) (names_from (last + 1)) in
      let blocked = block order (last + 1) is (omega (arith, to.count)) (λ x there. omega (arith, to.low x there)) in
      record {
        count = length-append order names ∙ omega (arith, to.count, blocked.count);
        low = λ x there. elim (IsIn-parts x order names there) [
          | inl front ↦ omega (arith, to.low x front)
          | inr back ↦ omega (arith, blocked.low x back)
        ];
        placed = λ x x_is within. elim (cases_lt last x) [
          | inr before ↦
              let place = HasPlace-directed code.crossings directed x x_is in
              let first_is : IsArc code.crossings (component code.crossings x) = (IsFirstOf-directed code.crossings directed x x_is).is_arc in
              IsPlaced-left order names x (to.placed x x_is before)
              (to.placed (component code.crossings x) first_is (omega (arith, place.from, before))).here
          | inl after ↦ blocked.placed x (omega (arith, after)) (omega (arith, within))
        ];
      }

  pub placed-numbers : (x : ℕ) → IsArc code.crossings x → IsPlaced code.crossings (passes_through parts) (order_of (passes_through parts)) x
  placed-numbers x is =
      let whole = order-by_blocks code directed parts paired heads arcs names_from walked IsPlacedTo
      (record { count = refl; low = λ x none. absurd none; placed = λ x is within. absurd (omega (arith, is.positive, within)) })
      (λ last order to. to.low) (λ last order to y y_is within. (to.placed y y_is within).here) placed-more in
      whole.placed x is is.within
