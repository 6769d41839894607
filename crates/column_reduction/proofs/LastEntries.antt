-- Where a line that is stored as a list of entries ends.
use Rattle.std.proofs.Common.{◌≡◌, ◌≢◌, ℕ, zero, suc, ◌+◌, ◌<◌, ◌≤◌, ◌∙◌, inl, inr, List, [], ◌∷◌, length, get_or, refl, ap, sym, arith}
use Rattle.std.proofs.lemmas.Bool.Decides.{eqb_tells, leb_tells}
use Rattle.sparse_block.specs.Entries.{Entry, AreEntries, value_at}
use Rattle.sparse_block.proofs.AscendingLemmas.{Ascend, ascend-place, entries-ascend}
use Rattle.sparse_block.proofs.EntryLemmas.{value_at-here, value_at-later}
use Rattle.column_reduction.specs.Reductions.{EndsAt}
use Rattle.column_reduction.specs.StoredColumns.{end_of, last_place}
use Rattle.column_reduction.proofs.Stored.{stored-ends}

-- a line with an entry ends at its last one
pub ends-last_place : (p size : ℕ) (es : List Entry) → AreEntries p size es → es ≢ [] → EndsAt (last_place es) (value_at es)
ends-last_place p size [] are some = absurd (some refl)
ends-last_place p size (e ∷ es) are some = stored-ends p size (length es) (e ∷ es) e are (omega arith)

pub last_place-within : (p size : ℕ) (es : List Entry) → AreEntries p size es → es ≢ [] → last_place es < size
last_place-within p size [] are some = absurd (some refl)
last_place-within p size (e ∷ es) are some = are.places (length es) e (omega arith)

-- and nowhere else
pub ends-once : (a b : ℕ) (values : ℕ → ℕ) → EndsAt a values → EndsAt b values → a ≡ b
ends-once a b values one two =
    elim (leb_tells a b) [
      | inl within ↦
          elim (eqb_tells a b) [
            | inl same ↦ same.1
            | inr other ↦ absurd (two.other (one.zeros b (omega (arith, within.1, other.1))))
          ]
      | inr later ↦ absurd (one.other (two.zeros a (omega (arith, later.1))))
    ]

-- a line that ends has an entry
pub some-ends : (row : ℕ) (es : List Entry) → EndsAt row (value_at es) → es ≢ []
some-ends row es ends none = ends.other (ap (λ (es : List Entry). value_at es row) none)

pub last_place-ends : (p size row : ℕ) (es : List Entry) → AreEntries p size es → EndsAt row (value_at es) → last_place es ≡ row
last_place-ends p size row es are ends =
    ends-once (last_place es) row (value_at es) (ends-last_place p size es are (some-ends row es ends)) ends

-- the value of the last entry is the number there
last-value : (p a b k : ℕ) (es : List Entry) (d : Entry) → Ascend p a b es → k + 1 ≡ length es
    → value_at es (get_or es k d).place ≡ (get_or es k d).value
last-value p a b k [] d ascend last = absurd (omega arith)
last-value p a b zero (e ∷ es) d ascend last = value_at-here e es e.place refl
last-value p a b (suc k) (e ∷ es) d ascend last =
    let place = (get_or es k d).place in
    let later : e.place + 1 ≤ place = ascend-place p (e.place + 1) b k es d ascend.4 (omega (arith, last)) in
    value_at-later e es place (λ same. omega (arith, later, same))
    ∙ last-value p (e.place + 1) b k es d ascend.4 (omega (arith, last))

pub value-last_entry : (p size k row : ℕ) (es : List Entry) (d : Entry) → AreEntries p size es → k + 1 ≡ length es
    → EndsAt row (value_at es) → (get_or es k d).value ≡ value_at es row
value-last_entry p size k row es d are last ends =
    sym (last-value p 0 size k es d (entries-ascend p size es are) last)
    ∙ ap (value_at es) (ends-once (get_or es k d).place row (value_at es) (stored-ends p size k es d are last) ends)

-- a line that ends at a row, and one that is 0 from there on
pub end_of-ends : (p size row : ℕ) (es : List Entry) → AreEntries p size es → EndsAt row (value_at es) → end_of es ≡ row + 1
end_of-ends p size row [] are ends = absurd (ends.other refl)
end_of-ends p size row (e ∷ es) are ends = ap (λ (n : ℕ). n + 1) (last_place-ends p size row (e ∷ es) are ends)

pub end_of-zeros : (p size row : ℕ) (es : List Entry) → AreEntries p size es → ((at : ℕ) → row ≤ at → value_at es at ≡ 0)
    → end_of es ≤ row
end_of-zeros p size row [] are zeros = omega arith
end_of-zeros p size row (e ∷ es) are zeros =
    let ends = stored-ends p size (length es) (e ∷ es) e are (omega arith) in
    elim (leb_tells row (last_place (e ∷ es))) [
      | inl later ↦ absurd (ends.other (zeros (last_place (e ∷ es)) later.1))
      | inr before ↦ let fact : last_place (e ∷ es) < row = omega (arith, before.1) in omega (arith, fact)
    ]
