-- The slots of an accepted code hold arcs that are bytes.
use Rattle.std.proofs.Common.{◌≡◌, ◌∙◌, ℕ, ◌+◌, ◌-◌, ◌<◌, ◌≤◌, ◌⊎◌, inl, inr, List, [], length, get_or, IsTrue, ap, arith}
use Rattle.std.specs.Prelude.{All}
use Rattle.std.proofs.lemmas.Bool.{cases_lt}
use Rattle.std.proofs.lemmas.List.{get_or_default, get_or_past}
use Rattle.kh_types.specs.Acceptance.{accepted}
use Rattle.kh_types.specs.Code.{Code, arc_in}
use Rattle.kh_types.specs.declared.limits.TheConstants.{CROSSINGS, GREATEST_ARC}
use Rattle.kh_types.proofs.AcceptedCodes.{accepted_arcs}
use Rattle.pd_code.specs.Printing.{HasFourSlots}

-- four slots with bytes, and nothing behind them
four-bytes : (slots : List ℕ) → length slots ≡ 4 → ((slot : ℕ) → slot < 4 → arc_in slots slot ≤ GREATEST_ARC) → HasFourSlots slots
four-bytes slots four each = record { four = four; bytes = λ slot. go slot (cases_lt slot 4) }
  where
    go : (slot : ℕ) → (slot < 4) ⊎ (4 ≤ slot) → arc_in slots slot ≤ GREATEST_ARC
    go slot (inl below) = each slot below
    go slot (inr past) = omega (arith, get_or_past slots slot 0 (omega (arith, four, past)))

pub HasFourSlots-accepted : (code : Code) → IsTrue (accepted code) → length code.crossings ≤ CROSSINGS
    → All (λ slots. length slots ≡ 4) code.crossings → All HasFourSlots code.crossings
HasFourSlots-accepted code is few four = λ k d below.
    let slots = get_or code.crossings k d in
    let same : get_or code.crossings (k + 1 - 1) [] ≡ slots =
    ap (λ (n : ℕ). get_or code.crossings n []) (omega arith) ∙ get_or_default code.crossings k [] d below in
    four-bytes slots (four k d below)
    (λ slot within.
    let arc = accepted_arcs code (record { crossing = k + 1; slot = slot }) is
    (record { crossing = record { positive = omega arith; within = omega (arith, below) }; slot = within }) in
    omega (arith, arc.within, few, ap (λ (s : List ℕ). arc_in s slot) same))
