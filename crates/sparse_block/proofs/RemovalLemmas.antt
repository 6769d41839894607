-- Entries are determined by their numbers, and a line without its entry at a place.
use Rattle.std.proofs.lemmas.Bool.Decides.{nat_tests}
use Rattle.std.proofs.Common.{◌≡◌, ◌≢◌, ℕ, zero, suc, ◌+◌, ◌<◌, ◌∙◌, inl, inr, List, [], ◌∷◌, length, get_or, refl, ap, sym, arith, Bool, cond, not, unwrap_or}
use Rattle.std.specs.Prelude.{Option, Some, None, nat_eq}
use Rattle.std.specs.List.{remove, position, position_or_len}
use Rattle.std.proofs.lemmas.Bool.{eqb-true}
use Rattle.std.proofs.lemmas.Bool.Decides.{eqb_tells}
use Rattle.std.proofs.lemmas.List.Quantifiers.{position-Some}
use Rattle.kh_types.proofs.Lists.{unwrap_or-position}
use Rattle.sparse_block.specs.Entries.{Entry, entries_of, value_at, AreEntries}
use Rattle.sparse_block.specs.Clearing.{without}
use Rattle.sparse_block.proofs.AscendingLemmas.{Ascend, entries-ascend, entries-from_ascend, ascend-earlier, ascend-place}
use Rattle.sparse_block.proofs.EntryLemmas.{value_at-here, value_at-later, entries_of-line_of, map-range_agree}

-- entries that ascend are the same where their numbers are
pub entries-same : (p size : ℕ) (es fs : List Entry) → AreEntries p size es → AreEntries p size fs
    → ((place : ℕ) → value_at es place ≡ value_at fs place) → es ≡ fs
entries-same p size es fs are_es are_fs same =
    sym (entries_of-line_of p size es are_es)
    ∙ ap entries_of (map-range_agree (value_at es) (value_at fs) 0 size (λ place from. same place))
    ∙ entries_of-line_of p size fs are_fs

-- the first entry goes, or it stays

without-here : (place : ℕ) (e : Entry) (es : List Entry) → e.place ≡ place → without place (e ∷ es) ≡ without place es
without-here place e es same = grind (arith, nat_tests)

without-later : (place : ℕ) (e : Entry) (es : List Entry) → e.place ≢ place → without place (e ∷ es) ≡ e ∷ without place es
without-later place e es differs = grind (arith, nat_tests)

-- the numbers of a line without a place: 0 there, and the others as they were

pub value_at-without : (place : ℕ) (es : List Entry) → value_at (without place es) place ≡ 0
value_at-without place [] = refl
value_at-without place (e ∷ es) =
    elim (eqb_tells e.place place) [
      | inl here ↦ ap (λ (es : List Entry). value_at es place) (without-here place e es here.1) ∙ value_at-without place es
      | inr other ↦
          ap (λ (es : List Entry). value_at es place) (without-later place e es other.1)
          ∙ value_at-later e (without place es) place other.1 ∙ value_at-without place es
    ]

pub value_at-without_other : (place at : ℕ) (es : List Entry) → at ≢ place → value_at (without place es) at ≡ value_at es at
value_at-without_other place at [] differs = refl
value_at-without_other place at (e ∷ es) differs =
    grind (arith, nat_tests, eqb_tells, without-here, value_at-later, without-later, value_at-here, value_at-without_other place at es differs)

-- it ascends still

ascend-without : (p a b place : ℕ) (es : List Entry) → Ascend p a b es → Ascend p a b (without place es)
ascend-without p a b place [] ascend = tt
ascend-without p a b place (e ∷ es) ascend =
    grind (arith, nat_tests, Ascend, ascend-earlier, ascend-without p (e.place + 1) b place es ascend.4)

pub entries-without : (p size place : ℕ) (es : List Entry) → AreEntries p size es → AreEntries p size (without place es)
entries-without p size place es are =
    entries-from_ascend p 0 size (without place es) (ascend-without p 0 size place es (entries-ascend p size es are))

-- a line that has 0 there has no entry to lose
pub without-none : (p size place : ℕ) (es : List Entry) → AreEntries p size es → value_at es place ≡ 0 → without place es ≡ es
without-none p size place es are none =
    entries-same p size (without place es) es (entries-without p size place es are) are
    (λ at.
    elim (eqb_tells at place) [
      | inl here ↦
          ap (value_at (without place es)) here.1 ∙ value_at-without place es ∙ sym none ∙ ap (value_at es) (sym here.1)
      | inr other ↦ value_at-without_other place at es other.1
    ])

-- the first entry at the place is the only one

without-before : (p a b place : ℕ) (es : List Entry) → Ascend p a b es → place < a → without place es ≡ es
without-before p a b place [] ascend before = refl
without-before p a b place (e ∷ es) ascend before =
    grind (arith, nat_tests, without-later, without-before p (e.place + 1) b place es ascend.4 (omega (arith, ascend.0)))

remove-at : (p a b place k : ℕ) (es : List Entry) (d : Entry) → Ascend p a b es → k < length es
    → (get_or es k d).place ≡ place → remove es k ≡ without place es
remove-at p a b place k [] d ascend within is_there = absurd (omega arith)
remove-at p a b place zero (e ∷ es) d ascend within is_there = grind (arith, nat_tests, without-here, without-before)
remove-at p a b place (suc k) (e ∷ es) d ascend within is_there =
    grind (arith, nat_tests, ascend-place, without-later, remove-at p (e.place + 1) b place k es d ascend.4 (omega (arith, within)) is_there)

pub remove-found : (p size place k : ℕ) (es : List Entry) (d : Entry) → AreEntries p size es → k < length es
    → (get_or es k d).place ≡ place → remove es k ≡ without place es
remove-found p size place k es d are = remove-at p 0 size place k es d (entries-ascend p size es are)

-- no entry is at the place
pub without-not_found : (place : ℕ) (es : List Entry) → position_or_len (λ e. nat_eq e.place place) es ≡ length es
    → es ≡ without place es
without-not_found place [] past = refl
without-not_found place (e ∷ es) past =
    let rest : ℕ = position_or_len (λ (e : Entry). nat_eq e.place place) es in
    elim (eqb_tells e.place place) [
      | inl here ↦ absurd (omega (arith, past, ap (λ (b : Bool). cond (not b) (1 + rest) 0) here.0))
      | inr other ↦
          ap (λ (es : List Entry). e ∷ es)
          (without-not_found place es (omega (arith, past, ap (λ (b : Bool). cond (not b) (1 + rest) 0) other.0)))
          ∙ sym (without-later place e es other.1)
    ]

-- what a search for the place finds

abbrev pub blank : Entry
blank = record { place = 0; value = 0 }

pub remove-position : (p size place k : ℕ) (entries line : List Entry) → entries ≡ line → AreEntries p size line
    → Some k ≡ position (λ entry. nat_eq entry.place place) entries → remove line k ≡ without place line
remove-position p size place k entries line same are is_found =
    let found = position-Some (λ (e : Entry). nat_eq e.place place) entries k blank (sym is_found) in
    remove-found p size place k line blank are (omega (arith, found.0, ap length same))
    (ap (λ (es : List Entry). (get_or es k blank).place) (sym same) ∙ eqb-true (get_or entries k blank).place place found.1)

pub without-no_position : (place : ℕ) (entries line : List Entry) → entries ≡ line
    → None ≡ position (λ entry. nat_eq entry.place place) entries → line ≡ without place line
without-no_position place entries line same is_none =
    let past : position_or_len (λ (e : Entry). nat_eq e.place place) entries ≡ length entries =
    sym (unwrap_or-position (λ (e : Entry). nat_eq e.place place) entries)
    ∙ ap (λ (at : Option ℕ). unwrap_or at (length entries)) (sym is_none) in
    sym same ∙ without-not_found place entries past ∙ ap (without place) same
