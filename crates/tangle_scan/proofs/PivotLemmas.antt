-- Pivots as a search among the entries of a column finds them.
use Rattle.std.proofs.Common.{◌≡◌, ℕ, ◌⊎◌, zero, suc, inl, inr, ◌+◌, ◌<◌, ◌∙◌, List, [], ◌∷◌, ◌++◌, get_or, take, length, refl, sym, subst, ap, arith, true, None, Some, Option}
use Rattle.std.specs.Prelude.{All, Any, IfSome}
use Rattle.std.proofs.lemmas.Bool.{cases_eq}
use Rattle.std.specs.Global.{Vec}
use Rattle.std.proofs.lemmas.List.{get_or_append_left, get_or-map, length-append, take_more}
use Rattle.std.proofs.lemmas.List.Elements.{All-head, All-more, All-tail}
use Rattle.std.proofs.lemmas.List.Quantifiers.{Any-push}
use Rattle.tangle_maps.specs.Sums.{number_in}
use Rattle.tangle_scan.specs.declared.complex.Entry.{Entry}
use Rattle.tangle_scan.specs.declared.complex.TangleComplex.{TangleComplex}
use Rattle.tangle_scan.specs.declared.complex.Object.{Object}
use Rattle.tangle_scan.specs.declared.clearing.pivots.Candidate.{Candidate}
use Rattle.tangle_scan.specs.Held.{IsPivot, column_at, is_alive_at, terms_to}
use Rattle.tangle_scan.specs.Eliminations.{HasOneEach, IsCandidate, column_in, head_at}
use Rattle.tangle_scan.proofs.Columns.{terms-at, terms-first, terms-later}

-- a candidate among the entries is a pivot
pub pivot-found : (complex : TangleComplex) (tail head number : ℕ) → is_alive_at complex.objects.items tail ≡ true
    → HasOneEach (column_at complex tail)
    → Any (λ (entry : Entry). IsCandidate complex.objects.items tail entry head number) (column_at complex tail)
    → IsPivot complex tail head number
pivot-found complex tail head number alive once (k, entry, within, is, candidate) =
    let column = column_at complex tail in
    let there : head_at column k ≡ head =
    get_or-map (λ (e : Entry). e.head) column k entry 0 within ∙ ap (λ (e : Entry). e.head) is ∙ candidate.is_head in
    let terms : terms_to column head ≡ entry.terms.items =
    ap (terms_to column) (sym there) ∙ terms-at column k entry within once ∙ ap (λ (e : Entry). e.terms.items) is in
    record {
      is_there = alive;
      leads_there = candidate.alive;
      partners = candidate.partners;
      told = ap number_in terms ∙ candidate.told;
    }

-- an entry whose terms tell a number
record Tells (y number : ℕ) (entry : Entry) : Type 0 where
  to : entry.head ≡ y
  told : number_in entry.terms.items ≡ Some number

telling : (column : List Entry) (y number : ℕ) → number_in (terms_to column y) ≡ Some number → Any (Tells y number) column
telling [] y number told = absurd (no told)
  where
    no : None ≡ Some number → ⊥
    no same = cc
telling (e ∷ column) y number told = elim (cases_eq e.head y) [
  | inl same ↦ (0, e, omega arith, refl, record { to = same; told = ap number_in (sym (terms-first e column y same)) ∙ told })
  | inr other ↦
      let later = telling column y number (ap number_in (sym (terms-later e column y other)) ∙ told) in
      (suc later.0, later.1, omega (arith, later.2), later.3, later.4)
]

pub no-pivot : (complex : TangleComplex) (tail : ℕ)
    → All (λ (entry : Entry). (head number : ℕ) → IsCandidate complex.objects.items tail entry head number → ⊥) (column_at complex tail)
    → (head number : ℕ) → IsPivot complex tail head number → ⊥
no-pivot complex tail none head number pivot =
    let (k, entry, within, is, tells) = telling (column_at complex tail) head number pivot.told in
    none k entry within head number
    (subst (λ (e : Entry). IsCandidate complex.objects.items tail e head number) (sym is)
    (record { is_head = tells.to; alive = pivot.leads_there; partners = pivot.partners; told = tells.told }))

-- the best candidate of the first entries, and of one more

any-more : (P : Entry → Type 0) (column : List Entry) (k : ℕ) (entry : Entry) → k < length column → entry ≡ get_or column k entry
    → Any P (take k column) → Any P (take (k + 1) column)
any-more P column k entry within is (j, x, below, read, holds) =
    subst (λ (es : List Entry). Any P es)
    (sym (take_more column k entry within ∙ ap (λ (e : Entry). take k column ++ e ∷ []) (sym is))) (
      j,
      x,
      omega (arith, below, length-append (take k column) (entry ∷ [])),
      get_or_append_left (take k column) (entry ∷ []) x j below ∙ read,
      holds,
    )

any-here : (P : Entry → Type 0) (column : List Entry) (k : ℕ) (entry : Entry) → k < length column → entry ≡ get_or column k entry
    → P entry → Any P (take (k + 1) column)
any-here P column k entry within is holds =
    subst (λ (es : List Entry). Any P es)
    (sym (take_more column k entry within ∙ ap (λ (e : Entry). take k column ++ e ∷ []) (sym is)))
    (Any-push P (take k column) entry holds)

abbrev pub IsBest : List Object → ℕ → List Entry → Option Candidate → Type 0
IsBest objects tail entries best =
    IfSome best (λ found. Any (λ (entry : Entry). IsCandidate objects tail entry found.head found.number) entries)

at-some : (P : Candidate → Type 0) (o : Option Candidate) (x : Candidate) → o ≡ Some x → IfSome o P → P x
at-some P o x is holds = subst (λ (r : Option Candidate). IfSome r P) is holds

pub best-more : (objects : List Object) (tail : ℕ) (column : List Entry) (k : ℕ) (entry : Entry) (best found new : Option Candidate)
    → k < length column → entry ≡ get_or column k entry → IsBest objects tail (take k column) best
    → IfSome found (λ c. IsCandidate objects tail entry c.head c.number)
    → IfSome new (λ c. (best ≡ Some c) ⊎ (found ≡ Some c)) → IsBest objects tail (take (k + 1) column) new
best-more objects tail column k entry best found None within is best_is found_is new_is = tt
best-more objects tail column k entry best found (Some c) within is best_is found_is new_is = elim new_is [
  | inl same ↦
      any-more (λ (e : Entry). IsCandidate objects tail e c.head c.number) column k entry within is
      (at-some (λ d. Any (λ (e : Entry). IsCandidate objects tail e d.head d.number) (take k column)) best c same best_is)
  | inr same ↦
      any-here (λ (e : Entry). IsCandidate objects tail e c.head c.number) column k entry within is
      (at-some (λ d. IsCandidate objects tail entry d.head d.number) found c same found_is)
]

abbrev pub AreNone : List Object → ℕ → List Entry → Type 0
AreNone objects tail entries =
    All (λ (entry : Entry). (head number : ℕ) → IsCandidate objects tail entry head number → ⊥) entries

pub none-more : (objects : List Object) (tail : ℕ) (column : List Entry) (k : ℕ) (entry : Entry) → k < length column
    → entry ≡ get_or column k entry → AreNone objects tail (take k column)
    → ((head number : ℕ) → IsCandidate objects tail entry head number → ⊥) → AreNone objects tail (take (k + 1) column)
none-more objects tail column k entry within is none here =
    All-more (λ (e : Entry). (head number : ℕ) → IsCandidate objects tail e head number → ⊥) column k entry within none
    (subst (λ (e : Entry). (head number : ℕ) → IsCandidate objects tail e head number → ⊥) is here)

-- a column with its place
pub once-at : (columns : List (Vec Entry)) (x : ℕ) → All (λ (c : Vec Entry). HasOneEach c.items) columns → x < length columns
    → HasOneEach (column_in columns x)
once-at [] x all within = absurd (omega (arith, within))
once-at (column ∷ columns) zero all within = All-head (λ (c : Vec Entry). HasOneEach c.items) column columns all
once-at (column ∷ columns) (suc x) all within =
    once-at columns x (All-tail (λ (c : Vec Entry). HasOneEach c.items) column columns all) (omega (arith, within))
