-- The arcs of crossings that share none with the others are paired: each has one head and one tail among them, or none.
--
-- The passes of some crossings of a code that enter on an arc are counted over their places, and those of all crossings are these and
-- those of the others (`ends-both`). An arc of which an end is at a crossing that is kept has both of them at such crossings
-- (`whole-or-none`).
use Rattle.std.proofs.Common.{◌≡◌, ◌≢◌, ℕ, inl, inr, ◌⊎◌, ◌+◌, ◌<◌, ◌≤◌, ◌∙◌, List, [], ◌∷◌, length, get_or, refl, sym, ap, ap₂, arith, Bool, true, false, cond, not, IsTrue}
use Rattle.std.specs.Prelude.{nat_eq}
use Rattle.std.specs.List.{count_by, range_with_len, sum_by}
use Rattle.std.proofs.lemmas.Bool.{cases_eq}
use Rattle.std.proofs.lemmas.Bool.Decides.{nat_tests}
use Rattle.std.proofs.lemmas.List.{get_or-map, length-map}
use Rattle.std.proofs.lemmas.List.FromFn.{get_or-map-range_with_len}
use Rattle.kh_types.specs.Acceptance.{accepted}
use Rattle.kh_types.specs.Code.{Code, arc_in}
use Rattle.kh_types.specs.Directions.{is_positive}
use Rattle.kh_types.proofs.Heads.{HasNoSingleArcs-accepted}
use Rattle.kh_types.proofs.ListSums.{sum_by-filter, sum_by-flat_map, sum_by-places, sum_by-plus, sum_by-range_alike, sum_by-some}
use Rattle.gluing_laws.specs.Arcs.{arc_by_place}
use Rattle.code_passes.specs.Passes.{Pass}
use Rattle.code_passes.specs.Parts.{ArePaired, Parts, head_count, is_positive_at, over_pass, parts_of, passes_at, passes_through, slots_in, tail_count, under_pass}
use Rattle.orient_arcs.proofs.PairedCodes.{ArePaired-directed}
use Rattle.union_laws.specs.Pieces.{IsCut, kept_parts, kept_places}

-- the crossings that are not kept share no arc with those that are
pub IsCut-rest : (keep : ℕ → Bool) (crossings : List (List ℕ)) → IsCut keep crossings → IsCut (λ place. not (keep place)) crossings
IsCut-rest keep crossings cut place other slot other_slot below other_below slot_below other_slot_below same =
    ap not (cut place other slot other_slot below other_below slot_below other_slot_below same)

-- how often the passes of a crossing enter, or leave, on a name
abbrev ends_at : (Pass → ℕ) → List ℕ → Bool → ℕ → ℕ → ℕ
ends_at end slots positive place name =
    count_by (λ (pass : Pass). nat_eq (end pass) name) (under_pass slots place ∷ over_pass slots positive place ∷ [])

-- what is read off a pass without its label
pub record HasNoLabels (end : Pass → ℕ) : Type 0 where
  pub same : (slots : List ℕ) (positive : Bool) (place other name : ℕ)
      → ends_at end slots positive place name ≡ ends_at end slots positive other name

pub enters-same : HasNoLabels (λ pass. pass.enters)
enters-same = record { same = λ slots positive place other name. refl }

pub leaves-same : HasNoLabels (λ pass. pass.leaves)
leaves-same = record { same = λ slots positive place other name. refl }

-- how often the passes of the crossing at a place of a code do
abbrev pub ends_in : (Pass → ℕ) → Code → ℕ → ℕ → ℕ
ends_in end code name place = ends_at end (slots_in code.crossings place) (is_positive code.crossings (place + 1)) 0 name

-- and those of all crossings of some parts
abbrev pub ends_of : (Pass → ℕ) → Parts → ℕ → ℕ
ends_of end parts name = count_by (λ (pass : Pass). nat_eq (end pass) name) (passes_through parts)

-- an end of a pass is at a slot
touched : (slots : List ℕ) (positive : Bool) (name : ℕ)
    → ends_at (λ pass. pass.enters) slots positive 0 name + ends_at (λ pass. pass.leaves) slots positive 0 name ≢ 0
    → (slot : ℕ) × (slot < 4) × (arc_in slots slot ≡ name)
touched slots positive name some = elim (cases_eq (arc_in slots 0) name) [
  | inl zeroth ↦ (0, omega arith, zeroth)
  | inr not_zeroth ↦ elim (cases_eq (arc_in slots 1) name) [
    | inl first ↦ (1, omega arith, first)
    | inr not_first ↦ elim (cases_eq (arc_in slots 2) name) [
      | inl second ↦ (2, omega arith, second)
      | inr not_second ↦ elim (cases_eq (arc_in slots 3) name) [
        | inl third ↦ (3, omega arith, third)
        | inr not_third ↦ absurd (some (none positive not_zeroth not_first not_second not_third))
      ]
    ]
  ]
]
  where
    none : (b : Bool) → arc_in slots 0 ≢ name → arc_in slots 1 ≢ name → arc_in slots 2 ≢ name → arc_in slots 3 ≢ name
        → ends_at (λ pass. pass.enters) slots b 0 name + ends_at (λ pass. pass.leaves) slots b 0 name ≡ 0
    none true zeroth first second third = grind (arith, nat_tests)
    none false zeroth first second third = grind (arith, nat_tests)

module _ (end : Pass → ℕ) (no_labels : HasNoLabels end) where
  -- counted over places
  ends-places : (parts : Parts) (name : ℕ)
      → ends_of end parts name
      ≡ sum_by (λ k. ends_at end (slots_in parts.crossings k) (is_positive_at parts.positive k) 0 name)
      (range_with_len 0 (length parts.crossings))
  ends-places parts name =
      sum_by-flat_map (λ (pass : Pass). cond (nat_eq (end pass) name) 1 0) (passes_at parts) (range_with_len 0 (length parts.crossings))
      ∙ sum_by-range_alike (λ k. ends_at end (slots_in parts.crossings k) (is_positive_at parts.positive k) k name)
      (λ k. ends_at end (slots_in parts.crossings k) (is_positive_at parts.positive k) 0 name) 0 (length parts.crossings)
      (λ k from below. no_labels.same (slots_in parts.crossings k) (is_positive_at parts.positive k) k 0 name)

  ends-code : (code : Code) (name : ℕ)
      → ends_of end (parts_of code) name ≡ sum_by (ends_in end code name) (range_with_len 0 (length code.crossings))
  ends-code code name =
      let n = length code.crossings in
      ends-places (parts_of code) name
      ∙ sum_by-range_alike (λ k. ends_at end (slots_in code.crossings k) (is_positive_at (parts_of code).positive k) 0 name)
      (ends_in end code name) 0 n
      (λ k from below.
      ap (λ b. ends_at end (slots_in code.crossings k) b 0 name)
      (get_or-map-range_with_len (is_positive code.crossings) 1 n k (k + 1) false (omega (arith, below)) (omega arith)))

  ends-kept : (keep : ℕ → Bool) (code : Code) (loops name : ℕ)
      → ends_of end (kept_parts keep code loops) name
      ≡ sum_by (λ place. cond (keep place) (ends_in end code name place) 0) (range_with_len 0 (length code.crossings))
  ends-kept keep code loops name =
      let parts = kept_parts keep code loops in
      let places = kept_places keep code.crossings in
      let of_part = λ (k : ℕ). ends_at end (slots_in parts.crossings k) (is_positive_at parts.positive k) 0 name in
      ends-places parts name
      ∙ ap (λ (n : ℕ). sum_by of_part (range_with_len 0 n)) (length-map places (slots_in code.crossings))
      ∙ sum_by-range_alike of_part (λ k. ends_in end code name (get_or places k 0)) 0 (length places)
      (λ k from below.
      ap₂ (λ slots b. ends_at end slots b 0 name) (get_or-map (slots_in code.crossings) places k 0 [] (omega (arith, below)))
      (get_or-map (λ place. is_positive code.crossings (place + 1)) places k 0 false (omega (arith, below))))
      ∙ sym (sum_by-places (ends_in end code name) places 0)
      ∙ sum_by-filter (ends_in end code name) keep (range_with_len 0 (length code.crossings))

  -- the ends at crossings that are kept, and the others, are all
  pub ends-both : (keep : ℕ → Bool) (code : Code) (loops other_loops name : ℕ)
      → ends_of end (kept_parts keep code loops) name + ends_of end (kept_parts (λ place. not (keep place)) code other_loops) name
      ≡ ends_of end (parts_of code) name
  ends-both keep code loops other_loops name =
      let all = range_with_len 0 (length code.crossings) in
      let one = λ (place : ℕ). cond (keep place) (ends_in end code name place) 0 in
      let other = λ (place : ℕ). cond (not (keep place)) (ends_in end code name place) 0 in
      ap₂ (λ (x y : ℕ). x + y) (ends-kept keep code loops name) (ends-kept (λ place. not (keep place)) code other_loops name)
      ∙ sym (sum_by-plus one other all)
      ∙ sum_by-range_alike (λ place. one place + other place) (ends_in end code name) 0 (length code.crossings)
      (λ place from below. parted (keep place) (ends_in end code name place))
      ∙ sym (ends-code code name)
    where
      parted : (b : Bool) (n : ℕ) → cond b n 0 + cond (not b) n 0 ≡ n
      parted true n = omega arith
      parted false n = omega arith

  -- where all places at which a name ends are kept, its ends there are all
  ends-whole : (keep : ℕ → Bool) (code : Code) (loops name : ℕ)
      → ((place : ℕ) → place < length code.crossings → keep place ≡ false → ends_in end code name place ≡ 0)
      → ends_of end (kept_parts keep code loops) name ≡ ends_of end (parts_of code) name
  ends-whole keep code loops name none =
      ends-kept keep code loops name
      ∙ sum_by-range_alike (λ place. cond (keep place) (ends_in end code name place) 0) (ends_in end code name) 0 (length code.crossings)
      (λ place from below. by (keep place) (ends_in end code name place) (λ fails. none place (omega (arith, below)) fails))
      ∙ sym (ends-code code name)
    where
      by : (b : Bool) (n : ℕ) → (b ≡ false → n ≡ 0) → cond b n 0 ≡ n
      by true n none = refl
      by false n none = sym (none refl)

module _ (keep : ℕ → Bool) (code : Code) (loops : ℕ) (cut : IsCut keep code.crossings) where
  abbrev parts : Parts
  parts = kept_parts keep code loops

  abbrev heads : ℕ → ℕ → ℕ
  heads = ends_in (λ pass. pass.enters) code

  abbrev tails : ℕ → ℕ → ℕ
  tails = ends_in (λ pass. pass.leaves) code

  -- the ends of a name are all at crossings that are kept, or none is
  whole-or-none : (name : ℕ)
      → ((head_count parts name ≡ head_count (parts_of code) name) × (tail_count parts name ≡ tail_count (parts_of code) name))
      ⊎ ((head_count parts name ≡ 0) × (tail_count parts name ≡ 0))
  whole-or-none name =
      let all = range_with_len 0 (length code.crossings) in
      let kept_heads = λ (place : ℕ). cond (keep place) (heads name place) 0 in
      let kept_tails = λ (place : ℕ). cond (keep place) (tails name place) 0 in
      let sum = sum_by-plus kept_heads kept_tails all in
      let heads_are = ends-kept (λ pass. pass.enters) enters-same keep code loops name in
      let tails_are = ends-kept (λ pass. pass.leaves) leaves-same keep code loops name in
      elim (cases_eq (sum_by (λ place. kept_heads place + kept_tails place) all) 0) [
        | inl none ↦ inr (omega (arith, none, sum, heads_are), omega (arith, none, sum, tails_are))
        | inr some ↦
            let found = sum_by-some (λ place. kept_heads place + kept_tails place) 0 (length code.crossings) some in
            let at = kept_there (keep found.0) (heads name found.0) (tails name found.0) found.3 in
            let here = touched (slots_in code.crossings found.0) (is_positive code.crossings (found.0 + 1)) name at.1 in
            let nothing = λ (place : ℕ) (below : place < length code.crossings) (fails : keep place ≡ false).
            no_other found.0 place here.0 (omega (arith, found.2)) below here.1 at.0 fails here.2 in
            inl (
              ends-whole (λ pass. pass.enters) enters-same keep code loops name
                  (λ place below fails. omega (arith, nothing place below fails)),
              ends-whole (λ pass. pass.leaves) leaves-same keep code loops name
                  (λ place below fails. omega (arith, nothing place below fails)),
            )
      ]
    where
      kept_there : (b : Bool) (m n : ℕ) → cond b m 0 + cond b n 0 ≢ 0 → (b ≡ true) × (m + n ≢ 0)
      kept_there true m n some = (refl, some)
      kept_there false m n some = absurd (some refl)

      no_other : (place other slot : ℕ) → place < length code.crossings → other < length code.crossings → slot < 4 → keep place ≡ true
          → keep other ≡ false → arc_by_place code.crossings place slot ≡ name → heads name other + tails name other ≡ 0
      no_other place other slot below other_below slot_below is fails there = elim (cases_eq (heads name other + tails name other) 0) [
        | inl none ↦ none
        | inr some ↦
            let also = touched (slots_in code.crossings other) (is_positive code.crossings (other + 1)) name some in
            let same = cut place other slot also.0 below other_below slot_below also.1 (there ∙ sym also.2) in
            absurd (differ (keep place) (keep other) is fails same)
      ]
        where
          differ : (b c : Bool) → b ≡ true → c ≡ false → b ≡ c → ⊥
          differ b c is fails same = absurd (cc)

  -- so the parts of an accepted code are paired
  pub ArePaired-kept : IsTrue (accepted code) → ArePaired parts
  ArePaired-kept holds =
      let is = HasNoSingleArcs-accepted code holds in
      let paired = ArePaired-directed code is.0 is.1 in
      record {
        heads = λ name. elim (whole-or-none name) [
          | inl whole ↦ omega (arith, whole.0, paired.heads name)
          | inr none ↦ omega (arith, none.0)
        ];
        tails = λ name. elim (whole-or-none name) [
          | inl whole ↦ omega (arith, whole.0, whole.1, paired.tails name)
          | inr none ↦ omega (arith, none.0, none.1)
        ];
      }

-- where a name has its head among crossings that are kept, one of these has the name at a slot
pub head-place : (keep : ℕ → Bool) (code : Code) (loops name : ℕ) → 1 ≤ head_count (kept_parts keep code loops) name
    → (place : ℕ) × (place < length code.crossings) × (keep place ≡ true)
    × ((slot : ℕ) × (slot < 4) × (arc_by_place code.crossings place slot ≡ name))
head-place keep code loops name some =
    let heads = λ (place : ℕ). cond (keep place) (ends_in (λ pass. pass.enters) code name place) 0 in
    let are = ends-kept (λ pass. pass.enters) enters-same keep code loops name in
    let found = sum_by-some heads 0 (length code.crossings) (λ none. omega (arith, some, are, none)) in
    let here = there (keep found.0) (ends_in (λ pass. pass.enters) code name found.0)
    (ends_in (λ pass. pass.leaves) code name found.0) found.3 in (
      found.0,
      omega (arith, found.2),
      here.0,
      touched (slots_in code.crossings found.0) (is_positive code.crossings (found.0 + 1)) name here.1,
    )
  where
    there : (b : Bool) (m n : ℕ) → cond b m 0 ≢ 0 → (b ≡ true) × (m + n ≢ 0)
    there true m n some = (refl, λ none. some (omega (arith, none)))
    there false m n some = absurd (some refl)
