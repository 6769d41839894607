-- Lists of entries by the values that they have at places.
use Rattle.std.proofs.lemmas.Bool.Decides.{nat_tests, eqb_tells}
use Rattle.std.proofs.Common.{◌≡◌, ◌≢◌, ℕ, zero, suc, ◌+◌, ◌<◌, ◌≤◌, ◌∙◌, inl, inr, List, [], ◌∷◌, length, get_or, refl, ap, sym, arith}
use Rattle.std.specs.Prelude.{slice_index}
use Rattle.prime_field.specs.Residues.{IsField}
use Rattle.sparse_block.specs.Entries.{Entry, AreEntries, entries_from, entries_of, value_at}
use Rattle.sparse_block.proofs.AscendingLemmas.{Ascend, entries-ascend, ascend-place}
use Rattle.sparse_block.proofs.EntryLemmas.{value_at-below, value_at-entries_of, value_at-here, value_at-later}
use Rattle.sparse_block.proofs.PastLemmas.{entries_from-zeros}

-- lines with the same numbers, 0 past their ends, have the same entries

entries_from-cons : (a v : ℕ) (xs ys : List ℕ) → entries_from (a + 1) xs ≡ entries_from (a + 1) ys
    → entries_from a (v ∷ xs) ≡ entries_from a (v ∷ ys)
entries_from-cons a v xs ys rest = grind (arith, nat_tests)

entries_from-agree : (a : ℕ) (xs ys : List ℕ) → ((k : ℕ) → slice_index xs k ≡ slice_index ys k)
    → entries_from a xs ≡ entries_from a ys
entries_from-agree a [] ys same = sym (entries_from-zeros a ys (λ k. sym (same k)))
entries_from-agree a (x ∷ xs) [] same = entries_from-zeros a (x ∷ xs) same
entries_from-agree a (x ∷ xs) (y ∷ ys) same =
    ap (λ (v : ℕ). entries_from a (v ∷ xs)) (same 0)
    ∙ entries_from-cons a y xs ys (entries_from-agree (a + 1) xs ys (λ k. same (suc k)))

pub entries-agree : (xs ys : List ℕ) → ((k : ℕ) → slice_index xs k ≡ slice_index ys k) → entries_of xs ≡ entries_of ys
entries-agree xs ys same = entries_from-agree 0 xs ys same

-- and back
pub numbers-agree : (xs ys : List ℕ) (k : ℕ) → entries_of xs ≡ entries_of ys → slice_index xs k ≡ slice_index ys k
numbers-agree xs ys k same =
    sym (value_at-entries_of xs k) ∙ ap (λ (es : List Entry). value_at es k) same ∙ value_at-entries_of ys k

pub number-none : (xs : List ℕ) (k : ℕ) → entries_of xs ≡ [] → slice_index xs k ≡ 0
number-none xs k none = sym (value_at-entries_of xs k) ∙ ap (λ (es : List Entry). value_at es k) none

-- entries have their values at their places

pub value_at-place : (p a b k : ℕ) (es : List Entry) (d : Entry) → Ascend p a b es → k < length es
    → value_at es (get_or es k d).place ≡ (get_or es k d).value
value_at-place p a b k [] d ascend within = absurd (omega arith)
value_at-place p a b zero (e ∷ es) d ascend within = value_at-here e es e.place refl
value_at-place p a b (suc k) (e ∷ es) d ascend within =
    let k_within : k < length es = omega arith in
    let later = ascend-place p (e.place + 1) b k es d ascend.4 k_within in
    let differs : e.place ≢ (get_or es k d).place = λ same. omega arith in
    value_at-later e es (get_or es k d).place differs ∙ value_at-place p (e.place + 1) b k es d ascend.4 k_within

pub record IsEntryOf (line : List ℕ) (e : Entry) : Type 0 where
  pub value : slice_index line e.place ≡ e.value
  pub other : e.value ≢ 0

pub entry-of_line : (p size k : ℕ) (line : List ℕ) (d : Entry) → AreEntries p size (entries_of line)
    → k < length (entries_of line) → IsEntryOf line (get_or (entries_of line) k d)
entry-of_line p size k line d are within =
    record {
      value = sym (value_at-entries_of line (get_or (entries_of line) k d).place)
          ∙ value_at-place p 0 size k (entries_of line) d (entries-ascend p size (entries_of line) are) within;
      other = λ same. omega (arith, (are.values k d within).0, same);
    }

-- a number other than 0 has an entry

pub record HasEntry (es : List Entry) (place : ℕ) (d : Entry) : Type 0 where
  pub at : ℕ
  pub within : at < length es
  pub is_place : (get_or es at d).place ≡ place

value_at-entry : (es : List Entry) (place : ℕ) (d : Entry) → value_at es place ≢ 0 → HasEntry es place d
value_at-entry [] place d other = absurd (other refl)
value_at-entry (e ∷ es) place d other =
    elim (eqb_tells e.place place) [
      | inl here ↦ record { at = 0; within = omega arith; is_place = here.1 }
      | inr differs ↦
          let found = value_at-entry es place d (λ none. other (value_at-later e es place differs.1 ∙ none)) in
          record { at = suc found.at; within = omega (arith, found.within); is_place = found.is_place }
    ]

pub entry-at_number : (line : List ℕ) (place : ℕ) (d : Entry) → slice_index line place ≢ 0 → HasEntry (entries_of line) place d
entry-at_number line place d other = grind (arith, nat_tests, value_at-entry, value_at-entries_of)

-- past the size all values are 0
pub value_at-past : (p a size place : ℕ) (es : List Entry) → Ascend p a size es → size ≤ place → value_at es place ≡ 0
value_at-past p a size place [] ascend past = refl
value_at-past p a size place (e ∷ es) ascend past =
    let differs : e.place ≢ place = λ same. omega (arith, ascend.1, same) in
    value_at-later e es place differs ∙ value_at-past p (e.place + 1) size place es ascend.4 past

-- numbers of entries are below p
pub value-below : (p size place : ℕ) (es : List Entry) → IsField p → AreEntries p size es → value_at es place < p
value-below p size place es field are =
    value_at-below p 0 size place es (omega (arith, field.above_one)) (entries-ascend p size es are)
