-- Scans that follow one another by steps of any kind: what each step keeps is kept, and where each scan that is no last one leads to a
-- smaller one there is an end.
use Rattle.std.proofs.Common.{◌≡◌, ℕ, zero, suc, ◌⊎◌, inl, inr, ◌<◌, ◌≤◌, List, [], ◌∷◌, ◌++◌, refl, sym, subst, arith}
use Rattle.scan_laws.specs.Scans.{Scan}
use Rattle.scan_laws.specs.Steps.{Follow, Leads, last_of}

-- steps lead from a scan to a last one
pub record HasEnd (Step : Scan → Scan → Type 0) (Last : Scan → Type 0) (scan : Scan) : Type 0 where
  pub end : Scan
  pub leads : Leads Step scan end
  pub last : Last end

-- a step leads to a smaller scan
pub record IsSmaller (Step : Scan → Scan → Type 0) (P : Scan → Type 0) (size : Scan → ℕ) (scan : Scan) : Type 0 where
  pub next : Scan
  pub step : Step scan next
  pub holds : P next
  pub fewer : size next < size scan

pub leads-none : (Step : Scan → Scan → Type 0) (scan : Scan) → Leads Step scan scan
leads-none Step scan = record { later = []; steps = tt; last = refl }

-- one step more
more-steps : (Step : Scan → Scan → Type 0) (scan : Scan) (later : List Scan) (middle next : Scan) → Follow Step scan later
    → last_of scan later ≡ middle → Step middle next
    → Follow Step scan (later ++ (next ∷ [])) × (last_of scan (later ++ (next ∷ [])) ≡ next)
more-steps Step scan [] middle next steps last step = ((subst (λ (s : Scan). Step s next) (sym last) step, tt), refl)
more-steps Step scan (first ∷ later) middle next steps last step =
    let rest = more-steps Step first later middle next steps.1 last step in ((steps.0, rest.0), rest.1)

pub leads-more : (Step : Scan → Scan → Type 0) (scan middle next : Scan) → Leads Step scan middle → Step middle next → Leads Step scan next
leads-more Step scan middle next leads step =
    let more = more-steps Step scan leads.later middle next leads.steps leads.last step in
    record { later = leads.later ++ (next ∷ []); steps = more.0; last = more.1 }

-- what each step keeps
module _ (Step : Scan → Scan → Type 0) (P : Scan → Type 0) (kept : (scan next : Scan) → P scan → Step scan next → P next) where
  kept-later : (scan : Scan) (later : List Scan) → P scan → Follow Step scan later → P (last_of scan later)
  kept-later scan [] holds steps = holds
  kept-later scan (next ∷ later) holds steps = kept-later next later (kept scan next holds steps.0) steps.1

  pub leads-kept : (scan other : Scan) → P scan → Leads Step scan other → P other
  leads-kept scan other holds leads = subst P leads.last (kept-later scan leads.later holds leads.steps)

pub leads-both : (Step : Scan → Scan → Type 0) (scan middle other : Scan) → Leads Step scan middle → Leads Step middle other
    → Leads Step scan other
leads-both Step scan middle other first second =
    leads-kept Step (Leads Step scan) (λ at next leads step. leads-more Step scan at next leads step) middle other first second

-- steps to smaller scans come to an end
module _ (Step : Scan → Scan → Type 0) (P Last : Scan → Type 0) (size : Scan → ℕ)
    (smaller : (scan : Scan) → P scan → Last scan ⊎ IsSmaller Step P size scan) where
  ending : (fuel : ℕ) (scan : Scan) → size scan ≤ fuel → P scan → HasEnd Step Last scan
  ending zero scan few holds = elim (smaller scan holds) [
    | inl last ↦ record { end = scan; leads = leads-none Step scan; last = last }
    | inr less ↦ absurd (omega (arith, few, less.fewer))
  ]
  ending (suc fuel) scan few holds = elim (smaller scan holds) [
    | inl last ↦ record { end = scan; leads = leads-none Step scan; last = last }
    | inr less ↦
        let has = ending fuel less.next (omega (arith, few, less.fewer)) less.holds in
        record {
          end = has.end;
          leads = record { later = less.next ∷ has.leads.later; steps = (less.step, has.leads.steps); last = has.leads.last };
          last = has.last;
        }
  ]

  pub leads-end : (scan : Scan) → P scan → HasEnd Step Last scan
  leads-end scan holds = ending (size scan) scan (omega arith) holds
