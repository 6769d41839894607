-- Where two images of a permutation are exchanged, two cycles become one or one becomes two, and what that does to their number.
use Rattle.std.proofs.Common.{◌≡◌, ◌≢◌, ℕ, ◌⊎◌, inl, inr, ◌+◌, ◌<◌, ◌∙◌, List, sym, ap, arith, cond}
use Rattle.std.specs.Prelude.{nat_eq, slice_index}
use Rattle.std.proofs.lemmas.Bool.Decides.{nat_tests}
use Rattle.kh_types.specs.Classes.{class_count, IsNamed}
use Rattle.kh_types.specs.Permutations.{IsPermutation, IsExchange, AreJoined, cycles_of}
use Rattle.kh_types.proofs.ClassLemmas.{slice_index-joined, merged-both}
use Rattle.kh_types.proofs.JoinedClasses.{class_count-joined}
use Rattle.kh_types.proofs.Cycles.{AreCycles-cycles_of, IsNamed-cycles_of}
use Rattle.kh_types.proofs.Exchanges.{AreJoined-exchanged}

-- what has two images exchanged stays below n
exchange-below : (n : ℕ) (f other : ℕ → ℕ) (x y : ℕ) → ((z : ℕ) → z < n → f z < n) → IsExchange n f other x y
    → (z : ℕ) → z < n → other z < n
exchange-below n f other x y below exchange z z_below = grind (arith, nat_tests)

-- the way back after the exchange
abbrev pub exchange_back : (ℕ → ℕ) → (ℕ → ℕ) → ℕ → ℕ → ℕ → ℕ
exchange_back f back x y z = cond (nat_eq z (f x)) y (cond (nat_eq z (f y)) x (back z))

-- what has two images exchanged is a permutation too
pub IsPermutation-exchange : (n : ℕ) (f back other : ℕ → ℕ) (x y : ℕ) → IsPermutation n f back → IsExchange n f other x y
    → IsPermutation n other (exchange_back f back x y)
IsPermutation-exchange n f back other x y permutes exchange = grind (arith, nat_tests)

-- where two images are exchanged, the two cycles of the two numbers become one, or one cycle becomes the two
AreJoined-exchange : (n : ℕ) (f back other : ℕ → ℕ) (x y : ℕ) → IsPermutation n f back → IsExchange n f other x y
    → AreJoined (cycles_of n f) (cycles_of n other) x y ⊎ AreJoined (cycles_of n other) (cycles_of n f) x y
AreJoined-exchange n f back other x y permutes exchange =
    let other_back = exchange_back f back x y in
    AreJoined-exchanged n f back other other_back (cycles_of n f) (cycles_of n other) x y (AreCycles-cycles_of n f back permutes)
    (AreCycles-cycles_of n other other_back (IsPermutation-exchange n f back other x y permutes exchange)) exchange

-- after two classes became one, the two numbers are in it, and there is one class fewer

pub AreJoined-together : (n : ℕ) (before after : List ℕ) (x y : ℕ) → IsNamed n before → x < n → y < n → AreJoined before after x y
    → slice_index after x ≡ slice_index after y
AreJoined-together n before after x y named x_below y_below merge =
    let size = named.size in
    ap (λ cs. slice_index cs x) merge.one ∙ slice_index-joined before (x, y) x (omega (arith, size, x_below))
    ∙ merged-both (slice_index before x) (slice_index before y)
    ∙ sym (slice_index-joined before (x, y) y (omega (arith, size, y_below))) ∙ ap (λ cs. slice_index cs y) (sym merge.one)

pub AreJoined-count : (n : ℕ) (before after : List ℕ) (x y : ℕ) → IsNamed n before → x < n → y < n → AreJoined before after x y
    → class_count before ≡ class_count after + 1
AreJoined-count n before after x y named x_below y_below merge =
    class_count-joined n before (x, y) named x_below y_below merge.apart ∙ ap (λ cs. class_count cs + 1) (sym merge.one)

-- two cycles become one exactly where the two numbers were on two

pub AreJoined-apart : (n : ℕ) (f back other : ℕ → ℕ) (x y : ℕ) → IsPermutation n f back → IsExchange n f other x y
    → slice_index (cycles_of n f) x ≢ slice_index (cycles_of n f) y → AreJoined (cycles_of n f) (cycles_of n other) x y
AreJoined-apart n f back other x y permutes exchange apart = elim (AreJoined-exchange n f back other x y permutes exchange) [
  | inl merge ↦ merge
  | inr split ↦
      absurd (apart
      (AreJoined-together n (cycles_of n other) (cycles_of n f) x y
      (IsNamed-cycles_of n other (exchange-below n f other x y permutes.below exchange)) exchange.x_below exchange.y_below split))
]

pub AreJoined-split : (n : ℕ) (f back other : ℕ → ℕ) (x y : ℕ) → IsPermutation n f back → IsExchange n f other x y
    → slice_index (cycles_of n f) x ≡ slice_index (cycles_of n f) y → AreJoined (cycles_of n other) (cycles_of n f) x y
AreJoined-split n f back other x y permutes exchange together = grind (arith, nat_tests, AreJoined-exchange)

pub class_count-exchange_apart : (n : ℕ) (f back other : ℕ → ℕ) (x y : ℕ) → IsPermutation n f back → IsExchange n f other x y
    → slice_index (cycles_of n f) x ≢ slice_index (cycles_of n f) y → class_count (cycles_of n f) ≡ class_count (cycles_of n other) + 1
class_count-exchange_apart n f back other x y permutes exchange apart =
    grind (arith, nat_tests, AreJoined-count, IsNamed-cycles_of, AreJoined-apart)

pub class_count-exchange_together : (n : ℕ) (f back other : ℕ → ℕ) (x y : ℕ) → IsPermutation n f back → IsExchange n f other x y
    → slice_index (cycles_of n f) x ≡ slice_index (cycles_of n f) y → class_count (cycles_of n other) ≡ class_count (cycles_of n f) + 1
class_count-exchange_together n f back other x y permutes exchange together =
    AreJoined-count n (cycles_of n other) (cycles_of n f) x y
    (IsNamed-cycles_of n other (exchange-below n f other x y permutes.below exchange)) exchange.x_below exchange.y_below
    (AreJoined-split n f back other x y permutes exchange together)
