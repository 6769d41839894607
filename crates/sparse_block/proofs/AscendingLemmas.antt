-- Lists of entries that ascend, by recursion on the list.
use Rattle.std.proofs.lemmas.Bool.Decides.{nat_tests}
use Rattle.std.proofs.Common.{◌≡◌, ℕ, zero, suc, ◌+◌, ◌<◌, ◌≤◌, List, [], ◌∷◌, length, map, get_or, subst, arith}
use Rattle.std.specs.Prelude.{slice_index}
use Rattle.std.specs.List.Sorted.{IsStrictlyIncreasing}
use Rattle.std.proofs.lemmas.List.Elements.{All-nil, All-cons, All-head, All-tail}
use Rattle.sparse_block.specs.Entries.{Entry, AreEntries}

-- the entries ascend within the places from a up to b, and their values are from 1 to p - 1
abbrev pub Ascend : ℕ → ℕ → ℕ → List Entry → Type 0
Ascend p a b [] = Unit {0}
Ascend p a b (e ∷ es) = (a ≤ e.place) × (e.place < b) × (0 < e.value) × (e.value < p) × Ascend p (e.place + 1) b es

-- the first entry, if any, is not before a
abbrev Begin : ℕ → List Entry → Type 0
Begin a [] = Unit {0}
Begin a (e ∷ es) = a ≤ e.place

abbrev places : List Entry → List ℕ
places es = map (λ e. e.place) es

pub increasing-tail : (x : ℕ) (xs : List ℕ) → IsStrictlyIncreasing (x ∷ xs) → IsStrictlyIncreasing xs
increasing-tail x xs ascending k within =
    let next : suc k + 1 ≡ suc (k + 1) = omega arith in
    subst (λ (n : ℕ). slice_index xs k < slice_index (x ∷ xs) n) next (ascending (suc k) (omega arith))

begin-next : (e : Entry) (es : List Entry) → IsStrictlyIncreasing (places (e ∷ es)) → Begin (e.place + 1) es
begin-next e es ascending = grind (arith, nat_tests)

entries-tail : (p size : ℕ) (e : Entry) (es : List Entry) → AreEntries p size (e ∷ es) → AreEntries p size es
entries-tail p size e es are =
    record {
      ascending = increasing-tail e.place (places es) are.ascending;
      places = All-tail (λ (e : Entry). e.place < size) e es are.places;
      values = All-tail (λ (e : Entry). (0 < e.value) × (e.value < p)) e es are.values;
    }

pub ascend-from_entries : (p a size : ℕ) (es : List Entry) → Begin a es → AreEntries p size es → Ascend p a size es
ascend-from_entries p a size [] begin are = tt
ascend-from_entries p a size (e ∷ es) begin are =
    grind (arith, nat_tests, All-head, begin-next, entries-tail, ascend-from_entries p (e.place + 1) size es (begin-next e es are.ascending) (entries-tail p size e es are))

begin-zero : (es : List Entry) → Begin 0 es
begin-zero es = grind (arith, nat_tests)

pub entries-ascend : (p size : ℕ) (es : List Entry) → AreEntries p size es → Ascend p 0 size es
entries-ascend p size es are = ascend-from_entries p 0 size es (begin-zero es) are

-- and back

begin-from_ascend : (p a b : ℕ) (es : List Entry) → Ascend p a b es → Begin a es
begin-from_ascend p a b es ascend = grind (arith, nat_tests)

increasing-cons : (e : Entry) (es : List Entry) → Begin (e.place + 1) es → IsStrictlyIncreasing (places es)
    → IsStrictlyIncreasing (places (e ∷ es))
increasing-cons e es begin ascending = grind (arith, nat_tests)

pub entries-from_ascend : (p a size : ℕ) (es : List Entry) → Ascend p a size es → AreEntries p size es
entries-from_ascend p a size [] ascend = grind (arith, nat_tests, All-nil)
entries-from_ascend p a size (e ∷ es) ascend =
    grind (arith, nat_tests, increasing-cons, begin-from_ascend, All-cons, entries-from_ascend p (e.place + 1) size es ascend.4)

-- entries that begin later also begin at an earlier place
pub ascend-earlier : (p a c b : ℕ) (es : List Entry) → a ≤ c → Ascend p c b es → Ascend p a b es
ascend-earlier p a c b [] earlier ascend = tt
ascend-earlier p a c b (e ∷ es) earlier ascend = grind (arith, nat_tests)

-- each place is at least the first
pub ascend-place : (p a b k : ℕ) (es : List Entry) (d : Entry) → Ascend p a b es → k < length es → a ≤ (get_or es k d).place
ascend-place p a b k [] d ascend within = absurd (omega arith)
ascend-place p a b zero (e ∷ es) d ascend within = ascend.0
ascend-place p a b (suc k) (e ∷ es) d ascend within =
    grind (arith, nat_tests, ascend-place p (e.place + 1) b k es d ascend.4 (omega (arith, within)))
