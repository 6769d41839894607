-- The numbers of old arcs after crossings were added on some of them: the arc x has become the numbers from rise x to end x, of which
-- low says whose they are.
use Rattle.std.proofs.lemmas.Bool.Decides.{nat_tests}
use Rattle.std.proofs.Common.{◌≡◌, ℕ, zero, suc, inl, inr, ◌+◌, ◌-◌, ◌<◌, ◌≤◌, ◌∙◌, sym, ap, arith}
use Rattle.std.proofs.lemmas.Bool.{cases_lt}

pub record AreRisen (rise end low : ℕ → ℕ) : Type 0 where
  pub zero : end 0 ≡ 0
  pub next : (x : ℕ) → rise (x + 1) ≡ end x + 1
  pub from : (y : ℕ) → rise (low y) ≤ y
  pub to : (y : ℕ) → y ≤ end (low y)
  pub low_rise : (x : ℕ) → low (rise x) ≡ x
  pub low_end : (x : ℕ) → low (end x) ≡ x

module _ {rise end low : ℕ → ℕ} (are : AreRisen rise end low) where
  pub rise-le_end : (x : ℕ) → rise x ≤ end x
  rise-le_end x = omega (arith, are.to (rise x), ap end (are.low_rise x))

  end-less_later : (x k : ℕ) → end x < rise (x + 1 + k)
  end-less_later x zero = let e : x + 1 + 0 ≡ x + 1 = omega arith in omega (arith, ap rise e, are.next x)
  end-less_later x (suc k) = grind (arith, nat_tests, rise-le_end (x + 1 + k), end-less_later x k)

  pub end-less : (x y : ℕ) → x < y → end x < rise y
  end-less x y less = grind (arith, nat_tests, end-less_later x (y - (x + 1)))

  pub rise-less : (x y : ℕ) → x < y → rise x < rise y
  rise-less x y less = omega (arith, end-less x y less, rise-le_end x)

  pub rise-le : (x y : ℕ) → x ≤ y → rise x ≤ rise y
  rise-le x y le = elim (cases_lt x y) [
    | inl less ↦ omega (arith, rise-less x y less)
    | inr from ↦ let e : x ≡ y = omega (arith, le, from) in omega (arith, ap rise e)
  ]

  pub end-le : (x y : ℕ) → x ≤ y → end x ≤ end y
  end-le x y le = elim (cases_lt x y) [
    | inl less ↦ omega (arith, end-less x y less, rise-le_end y)
    | inr from ↦ let e : x ≡ y = omega (arith, le, from) in omega (arith, ap end e)
  ]

  pub rise-injective : (x y : ℕ) → rise x ≡ rise y → x ≡ y
  rise-injective x y same = sym (are.low_rise x) ∙ ap low same ∙ are.low_rise y

  -- whose a number is
  pub low-past : (m y : ℕ) → end m < y → m < low y
  low-past m y past = elim (cases_lt m (low y)) [
    | inl less ↦ less
    | inr from ↦ absurd (omega (arith, past, are.to y, end-le (low y) m from))
  ]

  pub low-within : (m y : ℕ) → y ≤ end m → low y ≤ m
  low-within m y within = elim (cases_lt m (low y)) [
    | inl less ↦ absurd (omega (arith, within, are.from y, end-less m (low y) less))
    | inr from ↦ from
  ]

  pub low-positive : (y : ℕ) → 1 ≤ y → 1 ≤ low y
  low-positive y positive = omega (arith, low-past 0 y (omega (arith, positive, are.zero)))

  pub low-between : (x y : ℕ) → rise x ≤ y → y ≤ end x → low y ≡ x
  low-between x y from to = elim (cases_lt (low y) x) [
    | inl less ↦ absurd (omega (arith, from, are.to y, end-less (low y) x less))
    | inr later ↦ omega (arith, later, low-within x y to)
  ]

  pub rise-zero : rise 0 ≡ 0
  rise-zero = omega (arith, rise-le_end 0, are.zero)

  pub rise-positive : (x : ℕ) → 1 ≤ x → 1 ≤ rise x
  rise-positive x positive = omega (arith, end-less 0 x (omega (arith, positive)))
