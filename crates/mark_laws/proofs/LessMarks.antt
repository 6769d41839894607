-- Turns by marks: one mark less.
--
-- Where marks give the labels of a generator, its turns are the lists with one mark left out. So for any list of marks we count the ways to
-- leave one out that give the labels of a generator; circle by circle this is the number of its marks, where the labels are lowered there.
use Rattle.std.proofs.lemmas.Bool.Decides.{nat_tests}
use Rattle.std.proofs.Common.{◌≡◌, ◌≢◌, ℕ, zero, suc, inl, inr, ◌+◌, ◌*◌, ◌^◌, ◌≤◌, ◌∙◌, List, [], ◌∷◌, map, refl, sym, ap, ap₂, arith, Bool, true, cond, IsTrue}
use Rattle.std.specs.Prelude.{nat_eq, slice_index}
use Rattle.std.specs.Bool.{Decides}
use Rattle.std.specs.List.{All, Contains, range_with_len, sum_by}
use Rattle.std.proofs.lemmas.Bool.{cases_eq, cases_Bool, eq-eqb, eqb-true, ne_eqb}
use Rattle.std.proofs.lemmas.Bool.Decides.{same_from_decides}
use Rattle.std.proofs.lemmas.List.Elements.{All-contains, All-head, All-tail}
use Rattle.std.proofs.lemmas.List.Sums.{sum_by-cons}
use Rattle.kh_types.specs.Acceptance.{accepted}
use Rattle.kh_types.specs.Bits.{one_if}
use Rattle.kh_types.specs.Circles.{circle_count, circle_names, circles_of}
use Rattle.kh_types.specs.CircleNumbers.{IsName}
use Rattle.kh_types.specs.Classes.{is_least}
use Rattle.kh_types.specs.Code.{Code, arc_count, arcs_and_loops}
use Rattle.kh_types.specs.Differential.{label_of}
use Rattle.kh_types.specs.Generators.{Generator, generator_of}
use Rattle.kh_types.specs.Residues.{Same}
use Rattle.kh_types.proofs.CircleNumbers.{IsCircle-of}
use Rattle.kh_types.proofs.ListSums.{sum_by-alike, sum_by-map, sum_by-none, sum_by-plus, sum_by-zeros}
use Rattle.kh_types.proofs.RangeCounts.{list_all-at, list_all-each}
use Rattle.kh_types.proofs.Residues.{same-equal}
use Rattle.cell_laws.proofs.Members.{Contains-kept, sum_by-members, sum_by-nothing, sum_by-term}
use Rattle.square_laws.proofs.EdgeMarks.{IsMarked, is_marked, is_marked-decides, label_of-le}
use Rattle.square_laws.proofs.LabelNumbers.{IsName-names, sum_by-names}
use Rattle.square_laws.proofs.Marks.{hits, hits-circle, hits-cons, hits-exchanged, hits-sum}
use Rattle.square_laws.proofs.Merges.{circle_in}
use Rattle.mark_laws.specs.Turns.{is_lowered, turn_count}
use Rattle.square_laws.proofs.MarkSums.{term-marked, marks-sum}

-- the labels of a generator but for one circle, where they are 1 more
pub record IsLowered (code : Code) (labels : ℕ → ℕ) (generator : Generator) (circle : ℕ) : Type 0 where
  pub at : (arc : ℕ) → IsName code arc
      → labels arc ≡ label_of code generator arc + one_if (nat_eq circle (circle_in code generator.state arc))

pub lowered-decides : (code : Code) (labels : ℕ → ℕ) (generator : Generator) (circle : ℕ)
    → Decides (is_lowered code labels generator circle) (IsLowered code labels generator circle)
lowered-decides code labels generator circle =
    let value = λ (arc : ℕ). label_of code generator arc + one_if (nat_eq circle (circle_in code generator.state arc)) in
    let test = λ (arc : ℕ). nat_eq (labels arc) (value arc) in
    let most = arc_count code.crossings + code.loops in (
      λ passes. record {
        at = λ arc name. eqb-true (labels arc) (value arc)
            (list_all-at test 1 most arc passes name.positive (omega (arith, name.within)));
      },
      λ is. list_all-each test 1 most (λ arc from below. eq-eqb (labels arc) (value arc)
          (is.at arc (record { positive = from; within = omega (arith, below) }))),
    )

-- the lists with one mark left out
abbrev pub lists_less : List ℕ → List (List ℕ)
lists_less [] = []
lists_less (mark ∷ marked) = marked ∷ map (λ less. mark ∷ less) (lists_less marked)

-- how many of them give the labels of a generator
abbrev pub less_count : Code → Generator → List ℕ → ℕ
less_count code generator marked = sum_by (λ less. one_if (is_marked code generator less)) (lists_less marked)

-- a sum over these lists by the marks that are left out
less-sum : (code : Code) (state : ℕ) (marked : List ℕ) (f : List ℕ → ℕ) (g : ℕ → ℕ)
    → ((mark : ℕ) (less : List ℕ) → ((arc : ℕ) → hits code state (mark ∷ less) arc ≡ hits code state marked arc) → f less ≡ g mark)
    → sum_by f (lists_less marked) ≡ sum_by g marked
less-sum code state [] f g same = refl
less-sum code state (first ∷ marked) f g same =
    sum_by-cons f marked (map (λ less. first ∷ less) (lists_less marked))
    ∙ ap₂ (λ m n. m + n) (same first marked (λ arc. refl))
    (sum_by-map f (λ less. first ∷ less) (lists_less marked)
    ∙ less-sum code state marked (λ less. f (first ∷ less)) g
    (λ mark less is.
    same mark (first ∷ less)
    (λ arc.
    hits-exchanged code state mark first less arc
    ∙ hits-cons code state first (mark ∷ less) arc
    ∙ ap (λ n. one_if (nat_eq (circle_in code state first) (circle_in code state arc)) + n) (is arc)
    ∙ sym (hits-cons code state first marked arc))))
    ∙ sym (sum_by-cons g first marked)

less-marks : (code : Code) (generator : Generator) (marked : List ℕ)
    → less_count code generator marked
    ≡ sum_by (λ mark. one_if (is_lowered code (hits code generator.state marked) generator (circle_in code generator.state mark))) marked
less-marks code generator marked =
    let state = generator.state in
    less-sum code state marked (λ less. one_if (is_marked code generator less))
    (λ mark. one_if (is_lowered code (hits code state marked) generator (circle_in code state mark)))
    (λ mark less is.
    ap one_if (same_from_decides (is_marked code generator less)
    (is_lowered code (hits code state marked) generator (circle_in code state mark))
    (is_marked-decides code generator less) (
      λ passes.
          let marks = (lowered-decides code (hits code state marked) generator (circle_in code state mark)).0 passes in
          let on = λ (arc : ℕ). one_if (nat_eq (circle_in code state mark) (circle_in code state arc)) in
          record {
            at = λ arc name.
                rest (on arc) (hits code state less arc) (label_of code generator arc)
                (sym (hits-cons code state mark less arc) ∙ is arc ∙ marks.at arc name);
          },
      λ marks.
          let on = λ (arc : ℕ). one_if (nat_eq (circle_in code state mark) (circle_in code state arc)) in
          (lowered-decides code (hits code state marked) generator (circle_in code state mark)).1
          (record {
            at = λ arc name.
                sym (is arc) ∙ hits-cons code state mark less arc ∙ ap (λ n. on arc + n) (marks.at arc name)
                ∙ turned (on arc) (label_of code generator arc);
          }),
    )))
  where
    rest : (a b c : ℕ) → a + b ≡ c + a → b ≡ c
    rest a b c is = omega (arith, is)

    turned : (a b : ℕ) → a + b ≡ b + a
    turned a b = omega arith

-- a sum over marks by their circles
by-circles : (code : Code) (state : ℕ) (marked : List ℕ) (value : ℕ → ℕ) → IsTrue (accepted code) → All (IsName code) marked
    → sum_by (λ mark. value (circle_in code state mark)) marked
    ≡ sum_by (λ circle. hits code state marked circle * value circle) (circle_names code state)
by-circles code state [] value is names =
    sym (sum_by-zeros (λ circle. hits code state [] circle * value circle) (circle_names code state)
    (λ circle. none circle))
  where
    none : (circle : ℕ) → hits code state [] circle * value circle ≡ 0
    none circle = ap (λ n. n * value circle) (hits-sum code state [] circle) ∙ omega arith
by-circles code state (mark ∷ marked) value is names =
    let c = circle_in code state mark in
    let is_c = IsCircle-of code state mark is (All-head (IsName code) mark marked names) in
    let on = λ (circle : ℕ). one_if (nat_eq c (circle_in code state circle)) * value circle in
    let here : sum_by on (circle_names code state) ≡ value c =
    sum_by-names code state on c is_c
    (λ x own other. elsewhere c (circle_in code state x) (value x) (λ same. other (sym own ∙ sym same)))
    ∙ there c (circle_in code state c) (value c) (sym is_c.own) in
    sum_by-cons (λ m. value (circle_in code state m)) mark marked
    ∙ ap₂ (λ m n. m + n) (sym here) (by-circles code state marked value is (All-tail (IsName code) mark marked names))
    ∙ sym (sum_by-plus on (λ circle. hits code state marked circle * value circle) (circle_names code state))
    ∙ sum_by-alike (λ circle. on circle + hits code state marked circle * value circle)
    (λ circle. hits code state (mark ∷ marked) circle * value circle)
    (λ circle.
    factored (one_if (nat_eq c (circle_in code state circle))) (hits code state marked circle) (value circle)
    ∙ ap (λ n. n * value circle) (sym (hits-cons code state mark marked circle)))
    (circle_names code state)
  where
    elsewhere : (c d v : ℕ) → c ≢ d → one_if (nat_eq c d) * v ≡ 0
    elsewhere c d v other = ap (λ b. one_if b * v) (ne_eqb c d other) ∙ omega arith

    there : (c d v : ℕ) → c ≡ d → one_if (nat_eq c d) * v ≡ v
    there c d v same = ap (λ b. one_if b * v) (eq-eqb c d same) ∙ omega arith

    factored : (a b v : ℕ) → a * v + b * v ≡ (a + b) * v
    factored a b v = omega arith

-- so they are counted circle by circle
abbrev lowered_there : Code → Generator → List ℕ → ℕ → ℕ
lowered_there code generator marked circle = one_if (is_lowered code (hits code generator.state marked) generator circle)

less-circles : (code : Code) (generator : Generator) (marked : List ℕ) → IsTrue (accepted code) → All (IsName code) marked
    → less_count code generator marked
    ≡ sum_by (λ circle. hits code generator.state marked circle * lowered_there code generator marked circle)
    (circle_names code generator.state)
less-circles code generator marked is names =
    less-marks code generator marked
    ∙ by-circles code generator.state marked (lowered_there code generator marked) is names

-- a sum of numbers that is 0 has no other term
pub term-zero : {A : Type 0} (f : A → ℕ) (xs : List A) (x : A) → Contains xs x → sum_by f xs ≡ 0 → f x ≡ 0
term-zero f [] x has zeros = absurd (omega (arith, has.1))
term-zero f (y ∷ xs) x (zero, within, same) zeros = ap f (sym same) ∙ omega (arith, sum_by-cons f y xs, zeros)
term-zero f (y ∷ xs) x (suc k, within, same) zeros =
    term-zero f xs x (k, omega (arith, within), same) (omega (arith, sum_by-cons f y xs, zeros))

-- a name of a circle
pub record IsOwn (code : Code) (state circle : ℕ) : Type 0 where
  pub name : IsName code circle
  pub own : circle_in code state circle ≡ circle

pub own-name : (code : Code) (state circle : ℕ) → Contains (circle_names code state) circle → IsOwn code state circle
own-name code state circle has =
    record {
      name = All-contains (IsName code) (circle_names code state) circle (IsName-names code state) has;
      own = eqb-true (slice_index (circles_of code state) circle) circle
          (Contains-kept (is_least (circles_of code state)) (arcs_and_loops code) circle has).1;
    }

-- where labels are lowered, they are 1 more than that of the generator
lowered-more : (code : Code) (labels : ℕ → ℕ) (generator : Generator) (circle : ℕ) → IsOwn code generator.state circle
    → is_lowered code labels generator circle ≡ true → labels circle ≡ label_of code generator circle + 1
lowered-more code labels generator circle is passes =
    ((lowered-decides code labels generator circle).0 passes).at circle is.name
    ∙ ap (λ b. label_of code generator circle + one_if b) (eq-eqb circle (circle_in code generator.state circle) (sym is.own))

-- marks that give the labels of a generator count its turns
pub less-turns : (code : Code) (state first second : ℕ) (marked : List ℕ) → IsTrue (accepted code) → All (IsName code) marked
    → IsMarked code (generator_of state first) marked
    → less_count code (generator_of state second) marked ≡ turn_count code (generator_of state first) (generator_of state second)
less-turns code state first second marked is names marks =
    let x = generator_of state first in
    let z = generator_of state second in
    let labels = label_of code x in
    less-circles code z marked is names
    ∙ sum_by-members (λ circle. hits code state marked circle * lowered_there code z marked circle)
    (λ circle. one_if (is_lowered code labels z circle)) (circle_names code state)
    (λ circle has.
    let own = own-name code state circle has in
    ap (λ b. hits code state marked circle * one_if b)
    (same_from_decides (is_lowered code (hits code state marked) z circle) (is_lowered code labels z circle)
    (lowered-decides code (hits code state marked) z circle) (
      λ passes. record {
        at = λ arc name. marks.at arc name ∙ ((lowered-decides code labels z circle).0 passes).at arc name;
      },
      λ lowered. (lowered-decides code labels z circle).1 (record {
        at = λ arc name. sym (marks.at arc name) ∙ lowered.at arc name;
      }),
    ))
    ∙ ap (λ n. n * one_if (is_lowered code labels z circle)) (marks.at circle own.name)
    ∙ (elim (cases_Bool (is_lowered code labels z circle)) [
      | inr fails ↦ ap (λ b. labels circle * one_if b) fails ∙ zero_right (labels circle) ∙ sym (ap one_if fails)
      | inl passes ↦
          ap (λ b. labels circle * one_if b) passes
          ∙ one_left (labels circle) (label_of code z circle) (label_of-le code x circle) (lowered-more code labels z circle own passes)
          ∙ sym (ap one_if passes)
    ]))
    ∙ sym (ap (λ b. cond b (sum_by (λ circle. one_if (is_lowered code labels z circle)) (circle_names code state)) 0)
    (eq-eqb state state refl))
  where
    zero_right : (n : ℕ) → n * 0 ≡ 0
    zero_right n = omega arith

    one_left : (n l : ℕ) → n ≤ 1 → n ≡ l + 1 → n * 1 ≡ 1
    one_left n l small is = omega (arith, small, is)

-- the turns of all generators that marks give, one or none, are as many modulo 2 as the lists with one mark less: where a circle has two
-- marks, there are two such lists or none
pub turns-marked : (code : Code) (state second : ℕ) (marked : List ℕ) → IsTrue (accepted code) → All (IsName code) marked
    → Same 2
    (sum_by (λ number. turn_count code (generator_of state number) (generator_of state second)
    * one_if (is_marked code (generator_of state number) marked)) (range_with_len 0 (2 ^ circle_count code state)))
    (less_count code (generator_of state second) marked)
turns-marked code state second marked is names = elim (cases_eq (sum_by single circles) 0) [
  | inr some ↦
      let found = sum_by-term single circles some in
      let own = own-name code state found.0 found.1 in
      let both = parts (hits code state marked found.0) (is_lowered code (hits code state marked) z found.0) found.2 in
      same-equal 2 whole (less_count code z marked)
      (marks-sum code state marked (λ number. turn_count code (generator_of state number) z) (less_count code z marked) is
      (λ number marks. sym (less-turns code state number second marked is names marks))
      (inr (λ arc name. few found.0 own both.0 both.1 arc name)))
  | inl zeros ↦
      same-equal 2 whole 0
      (sum_by-none (λ number. turn_count code (generator_of state number) z * one_if (is_marked code (generator_of state number) marked)) 0
      (2 ^ circle_count code state)
      (λ number from below.
      term-marked code (generator_of state number) marked (turn_count code (generator_of state number) z)
      (λ marks. sym (less-turns code state number second marked is names marks) ∙ less-circles code z marked is names
      ∙ sum_by-members (λ circle. hits code state marked circle * lowered_there code z marked circle) (λ circle. 0) circles
      (λ circle has.
      let own = own-name code state circle has in
      elim (cases_Bool (is_lowered code (hits code state marked) z circle)) [
        | inr fails ↦ ap (λ b. hits code state marked circle * one_if b) fails ∙ zero_right (hits code state marked circle)
        | inl passes ↦
            absurd (never (hits code state marked circle) (label_of code z circle)
            (is_lowered code (hits code state marked) z circle) passes (single-none circle has zeros)
            (lowered-more code (hits code state marked) z circle own passes)
            (omega (arith, marks.at circle own.name, label_of-le code (generator_of state number) circle)))
      ])
      ∙ sum_by-zeros (λ circle. 0) circles (λ circle. refl))))
      ∙ sym (same-equal 2 (less_count code z marked)
      (sum_by (λ circle. hits code state marked circle * lowered_there code z marked circle) circles) (less-circles code z marked is names)
      ∙ sum_by-nothing 2 (λ circle. hits code state marked circle * lowered_there code z marked circle) circles
      (λ circle has.
      let own = own-name code state circle has in
      elim (cases_Bool (is_lowered code (hits code state marked) z circle)) [
        | inr fails ↦
            same-equal 2 (hits code state marked circle * lowered_there code z marked circle) 0
            (ap (λ b. hits code state marked circle * one_if b) fails ∙ zero_right (hits code state marked circle))
        | inl passes ↦
            same-equal 2 (hits code state marked circle * lowered_there code z marked circle) 2
            (ap (λ b. hits code state marked circle * one_if b) passes
            ∙ two (hits code state marked circle) (label_of code z circle)
            (is_lowered code (hits code state marked) z circle) passes (single-none circle has zeros)
            (lowered-more code (hits code state marked) z circle own passes) (label_of-le code z circle))
      ]))
]
  where
    z : Generator
    z = generator_of state second

    circles : List ℕ
    circles = circle_names code state

    single : ℕ → ℕ
    single circle = one_if (nat_eq (hits code state marked circle) 1) * lowered_there code (generator_of state second) marked circle

    whole : ℕ
    whole =
        sum_by (λ number. turn_count code (generator_of state number) (generator_of state second)
        * one_if (is_marked code (generator_of state number) marked)) (range_with_len 0 (2 ^ circle_count code state))

    zero_right : (n : ℕ) → n * 0 ≡ 0
    zero_right n = omega arith

    parts : (h : ℕ) (b : Bool) → one_if (nat_eq h 1) * one_if b ≢ 0 → (h ≡ 1) × (b ≡ true)
    parts h b some = grind (arith, nat_tests)

    never : (h l : ℕ) (b : Bool) → b ≡ true → one_if (nat_eq h 1) * one_if b ≡ 0 → h ≡ l + 1 → h ≤ 1 → ⊥
    never h l b passes none is small = grind (arith, nat_tests)

    two : (h l : ℕ) (b : Bool) → b ≡ true → one_if (nat_eq h 1) * one_if b ≡ 0 → h ≡ l + 1 → l ≤ 1 → h * 1 ≡ 2
    two h l b passes none is small = grind (arith, nat_tests)

    single-none : (circle : ℕ) → Contains circles circle → sum_by single circles ≡ 0 → single circle ≡ 0
    single-none circle has zeros = term-zero single circles circle has zeros

    few : (circle : ℕ) → IsOwn code state circle → hits code state marked circle ≡ 1
        → is_lowered code (hits code state marked) (generator_of state second) circle ≡ true → (arc : ℕ) → IsName code arc
        → hits code state marked arc ≤ 1
    few circle own is_one passes arc name =
        let lowered = (lowered-decides code (hits code state marked) (generator_of state second) circle).0 passes in
        let above = lowered-more code (hits code state marked) (generator_of state second) circle own passes in
        elim (cases_eq circle (circle_in code state arc)) [
          | inl same ↦
              omega (arith, is_one, hits-circle code state marked arc circle (sym same ∙ sym own.own))
          | inr other ↦
              omega (
                arith,
                lowered.at arc name,
                ap one_if (ne_eqb circle (circle_in code state arc) other),
                label_of-le code (generator_of state second) arc,
              )
        ]
