-- The entries of a line of numbers, and the numbers at places that entries denote. The number at a place is the value of the
-- first entry there; it is 0 before the first entry, and below p. A number 0 of a line gives no entry, and each other number
-- gives one; a number at the end of the line gives one more at the end. The two ways are inverse, by induction along the line:
-- entries that ascend are those of the line that they denote, and the entries of a line ascend and denote it. A line has no
-- entries exactly where all its numbers are 0. Last, entries taken one by one: the next one changes the number at its own place,
-- from 0 to its value, and at no other.
use Rattle.std.proofs.lemmas.Bool.Decides.{nat_tests}
use Rattle.std.proofs.Common.{◌≡◌, ◌≢◌, ℕ, zero, suc, ◌+◌, ◌<◌, ◌≤◌, ◌∙◌, inl, inr, List, [], ◌∷◌, ◌++◌, length, map, get_or, take, refl, ap, sym, subst, arith, Bool, false, ◌&&◌}
use Rattle.std.specs.Prelude.{Option, slice_index, nat_eq, All}
use Rattle.std.specs.List.{list_all, range_with_len}
use Rattle.std.specs.Option.{option_map_or}
use Rattle.std.proofs.lemmas.List.{map-append}
use Rattle.std.proofs.lemmas.List.Elements.{filter-append, All-head, All-tail}
use Rattle.std.proofs.lemmas.Bool.Decides.{eqb_tells}
use Rattle.kh_types.proofs.Lists.{enumerate_from-push}
use Rattle.sparse_block.specs.Entries.{Entry, entry_at, entries_from, entries_of, value_at, line_of, AreEntries}
use Rattle.sparse_block.proofs.AscendingLemmas.{Ascend, entries-ascend, entries-from_ascend, ascend-earlier, ascend-place}

-- the number at a place, by the first entry

abbrev value_in : Option Entry → ℕ
value_in found = option_map_or (λ (e : Entry). e.value) found 0

pub value_at-here : (e : Entry) (es : List Entry) (place : ℕ) → e.place ≡ place → value_at (e ∷ es) place ≡ e.value
value_at-here e es place same = grind (arith, nat_tests)

pub value_at-later : (e : Entry) (es : List Entry) (place : ℕ) → e.place ≢ place → value_at (e ∷ es) place ≡ value_at es place
value_at-later e es place differs = grind (arith, nat_tests)

-- before the first entry it is 0
pub value_at-before : (p a b place : ℕ) (es : List Entry) → Ascend p a b es → place < a → value_at es place ≡ 0
value_at-before p a b place [] ascend before = refl
value_at-before p a b place (e ∷ es) ascend before =
    grind (arith, nat_tests, value_at-later, value_at-before p (e.place + 1) b place es ascend.4 (omega (arith, ascend.0)))

pub value_at-below : (p a b place : ℕ) (es : List Entry) → 0 < p → Ascend p a b es → value_at es place < p
value_at-below p a b place [] positive ascend = positive
value_at-below p a b place (e ∷ es) positive ascend =
    grind (arith, nat_tests, eqb_tells, value_at-here, value_at-later, value_at-below p (e.place + 1) b place es positive ascend.4)

-- the entries of a line, by its first number

pub entries_from-zero : (a v : ℕ) (line : List ℕ) → v ≡ 0 → entries_from a (v ∷ line) ≡ entries_from (a + 1) line
entries_from-zero a v line is_zero = ap (λ (v : ℕ). entries_from a (v ∷ line)) is_zero

pub entries_from-other : (a v : ℕ) (line : List ℕ) → 0 < v
    → entries_from a (v ∷ line) ≡ entry_at (a, v) ∷ entries_from (a + 1) line
entries_from-other a v line other = grind (arith, nat_tests)

-- the entries of a longer line
pub entries_from-push : (a v : ℕ) (line : List ℕ)
    → entries_from a (line ++ v ∷ []) ≡ entries_from a line ++ entries_from (a + length line) (v ∷ [])
entries_from-push a v line = grind (arith, nat_tests, enumerate_from-push, filter-append, map-append)

-- entries that ascend are those of the line that they denote

pub map-range_agree : {X : Type 0} (f g : ℕ → X) (a n : ℕ) → ((x : ℕ) → a ≤ x → f x ≡ g x)
    → map f (range_with_len a n) ≡ map g (range_with_len a n)
map-range_agree f g a zero same = refl
map-range_agree {X} f g a (suc n) same = grind (arith, nat_tests, map-range_agree f g (a + 1) n (λ x from. same x (omega arith)))

entries_from-line : (p a n b : ℕ) (es : List Entry) → a + n ≡ b → Ascend p a b es
    → entries_from a (map (value_at es) (range_with_len a n)) ≡ es
entries_from-line p a zero b [] ends ascend = refl
entries_from-line p a zero b (e ∷ es) ends ascend = absurd (omega (arith, ascend.0, ascend.1))
entries_from-line p a (suc n) b [] ends ascend = entries_from-line p (a + 1) n b [] (omega arith) tt
entries_from-line p a (suc n) b (e ∷ es) ends ascend =
    let line : List Entry → List ℕ = λ es. map (value_at es) (range_with_len (a + 1) n) in
    elim (eqb_tells e.place a) [
      | inl here ↦
          let rest : Ascend p (a + 1) b es = subst (λ (place : ℕ). Ascend p (place + 1) b es) here.1 ascend.4 in
          ap (λ (v : ℕ). entries_from a (v ∷ line (e ∷ es))) (value_at-here e es a here.1)
          ∙ entries_from-other a e.value (line (e ∷ es)) ascend.2
          ∙ ap (λ (xs : List ℕ). entry_at (a, e.value) ∷ entries_from (a + 1) xs)
          (map-range_agree (value_at (e ∷ es)) (value_at es) (a + 1) n
          (λ x from. value_at-later e es x (λ same. omega (arith, here.1))))
          ∙ ap (λ (xs : List Entry). entry_at (a, e.value) ∷ xs) (entries_from-line p (a + 1) n b es (omega arith) rest)
          ∙ ap (λ (place : ℕ). entry_at (place, e.value) ∷ es) (sym here.1)
      | inr other ↦
          let later : Ascend p (a + 1) b (e ∷ es) =
          (omega (arith, ascend.0, other.1), ascend.1, ascend.2, ascend.3, ascend.4) in
          entries_from-zero a (value_at (e ∷ es) a) (line (e ∷ es))
          (value_at-before p (a + 1) b a (e ∷ es) later (omega arith))
          ∙ entries_from-line p (a + 1) n b (e ∷ es) (omega arith) later
    ]

pub entries_of-line_of : (p size : ℕ) (es : List Entry) → AreEntries p size es → entries_of (line_of size es) ≡ es
entries_of-line_of p size es are = entries_from-line p 0 size size es (omega arith) (entries-ascend p size es are)

-- the entries of a line ascend, and denote it

ascend-entries_from : (p a b : ℕ) (line : List ℕ) → a + length line ≡ b → All (λ x. x < p) line
    → Ascend p a b (entries_from a line)
ascend-entries_from p a b [] ends below = tt
ascend-entries_from p a b (zero ∷ line) ends below =
    grind (arith, nat_tests, ascend-earlier, All-tail, ascend-entries_from p (a + 1) b line (omega (arith, ends)) (All-tail (λ (x : ℕ). x < p) zero line below))
ascend-entries_from p a b (suc v ∷ line) ends below =
    grind (arith, nat_tests, Ascend, entries_from-other, All-head, All-tail, ascend-entries_from p (a + 1) b line (omega (arith, ends)) (All-tail (λ (x : ℕ). x < p) (suc v) line below))

pub entries-entries_of : (p : ℕ) (line : List ℕ) → All (λ x. x < p) line → AreEntries p (length line) (entries_of line)
entries-entries_of p line below =
    entries-from_ascend p 0 (length line) (entries_of line) (ascend-entries_from p 0 (length line) line (omega arith) below)

value_at-entries_before : (a place : ℕ) (line : List ℕ) → place < a → value_at (entries_from a line) place ≡ 0
value_at-entries_before a place [] before = refl
value_at-entries_before a place (zero ∷ line) before = value_at-entries_before (a + 1) place line (omega arith)
value_at-entries_before a place (suc v ∷ line) before =
    grind (arith, nat_tests, entries_from-other, value_at-later, value_at-entries_before (a + 1) place line (omega arith))

value_at-entries_from : (a k place : ℕ) (line : List ℕ) → a + k ≡ place
    → value_at (entries_from a line) place ≡ slice_index line k
value_at-entries_from a k place [] is_place = refl
value_at-entries_from a zero place (zero ∷ line) is_place = value_at-entries_before (a + 1) place line (omega (arith, is_place))
value_at-entries_from a (suc k) place (zero ∷ line) is_place =
    value_at-entries_from (a + 1) k place line (omega (arith, is_place))
value_at-entries_from a zero place (suc v ∷ line) is_place = grind (arith, nat_tests, entries_from-other, value_at-here)
value_at-entries_from a (suc k) place (suc v ∷ line) is_place =
    grind (arith, nat_tests, entries_from-other, value_at-later, value_at-entries_from (a + 1) k place line (omega (arith, is_place)))

pub value_at-entries_of : (line : List ℕ) (place : ℕ) → value_at (entries_of line) place ≡ slice_index line place
value_at-entries_of line place = value_at-entries_from 0 place place line (omega arith)

-- a line has no entries where all its numbers are 0

length-entries_from : (a : ℕ) (line : List ℕ) → nat_eq (length (entries_from a line)) 0 ≡ list_all (nat_eq 0) line
length-entries_from a [] = refl
length-entries_from a (zero ∷ line) = length-entries_from (a + 1) line
length-entries_from a (suc v ∷ line) =
    let some : nat_eq (length (entries_from a (suc v ∷ line))) 0 ≡ false =
    ap (λ (es : List Entry). nat_eq (length es) 0) (entries_from-other a (suc v) line (omega arith))
    ∙ not_same (suc (length (entries_from (a + 1) line))) 0 (λ same. omega (arith, same)) in
    some ∙ sym (ap (λ (b : Bool). b && list_all (nat_eq 0) line) (not_same 0 (suc v) (λ same. omega (arith, same))))
  where
    not_same : (x y : ℕ) → x ≢ y → nat_eq x y ≡ false
    not_same x y differ = elim (eqb_tells x y) [ inl same ↦ absurd (differ same.1) | inr other ↦ other.0 ]

pub length-entries_of : (line : List ℕ) → nat_eq (length (entries_of line)) 0 ≡ list_all (nat_eq 0) line
length-entries_of line = length-entries_from 0 line

-- the number at a place, after one entry more

pub value_at-more : (k place : ℕ) (es : List Entry) (e d : Entry) → k < length es → e ≡ get_or es k d → e.place ≢ place
    → value_at (take (suc k) es) place ≡ value_at (take k es) place
value_at-more k place [] e d within is_next differs = absurd (omega arith)
value_at-more zero place (f ∷ es) e d within is_next differs = grind (arith, nat_tests, value_at-later)
value_at-more (suc k) place (f ∷ es) e d within is_next differs =
    grind (arith, nat_tests, eqb_tells, value_at-here, value_at-later, value_at-more k place es e d (omega (arith, within)) is_next differs)

-- at the place of the new entry it was 0, and is its value
pub record IsNew (k : ℕ) (es : List Entry) (e : Entry) : Type 0 where
  pub before : value_at (take k es) e.place ≡ 0
  pub after : value_at (take (suc k) es) e.place ≡ e.value

pub value_at-new : (p a b k : ℕ) (es : List Entry) (e d : Entry) → Ascend p a b es → k < length es → e ≡ get_or es k d
    → IsNew k es e
value_at-new p a b k [] e d ascend within is_next = absurd (omega arith)
value_at-new p a b zero (f ∷ es) e d ascend within is_next =
    record {
      before = refl;
      after =
          value_at-here f [] e.place (ap (λ (e : Entry). e.place) (sym is_next)) ∙ ap (λ (e : Entry). e.value) (sym is_next);
    }
value_at-new p a b (suc k) (f ∷ es) e d ascend within is_next =
    let k_within : k < length es = omega (arith, within) in
    let rest = value_at-new p (f.place + 1) b k es e d ascend.4 k_within is_next in
    let differs : f.place ≢ e.place =
    λ same.
    omega (
      arith,
      same,
      ascend-place p (f.place + 1) b k es d ascend.4 k_within,
      ap (λ (e : Entry). e.place) is_next,
    ) in
    record {
      before = value_at-later f (take k es) e.place differs ∙ rest.before;
      after = value_at-later f (take (suc k) es) e.place differs ∙ rest.after;
    }
