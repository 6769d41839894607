-- A walk along the next arcs goes over a component.
use Rattle.std.proofs.Common.{◌≡◌, ℕ, zero, suc, inl, inr, ◌+◌, ◌-◌, ◌*◌, ◌<◌, ◌≤◌, ◌∙◌, List, [], ◌∷◌, length, sym, ap, ap₂, arith}
use Rattle.std.specs.Prelude.{nat_eq, if◌then◌else◌}
use Rattle.std.specs.List.{range_with_len}
use Rattle.std.proofs.lemmas.Bool.{cases_lt, eq-eqb, ne_eqb}
use Rattle.std.proofs.lemmas.List.{length-map}
use Rattle.kh_types.specs.Code.{Code, IsArc}
use Rattle.kh_types.specs.Components.{next}
use Rattle.kh_types.specs.Accepted.{IsDirected}
use Rattle.kh_types.proofs.NextArcs.{component, HasPlace-directed}
use Rattle.code_passes.specs.Passes.{Pass}
use Rattle.code_passes.specs.Parts.{Parts, ArePaired, passes_through}
use Rattle.code_passes.proofs.CutArcs.{IsFirst, size, component-in, end-within, size-positive}
use Rattle.orient_arcs.specs.Renumbered.{follows, walk}
use Rattle.orient_arcs.proofs.PairedPasses.{length-heads}

pub walk-arcs : (cs : List (List ℕ)) → IsDirected cs → (goes_on : ℕ → ℕ) → ((x : ℕ) → IsArc cs x → goes_on x ≡ next cs x)
    → (first : ℕ) → IsFirst cs first → (fuel i : ℕ) → i < size cs first → size cs first ≤ fuel + i
    → walk goes_on first fuel (first + i) ≡ range_with_len (first + i) (size cs first - i)
walk-arcs cs directed goes_on nexts first is zero i below enough = absurd (omega (arith, below, enough))
walk-arcs cs directed goes_on nexts first is (suc fuel) i below enough =
    let x = first + i in
    let end = end-within cs directed first is in
    let is_arc : IsArc cs x = record { positive = omega (arith, is.is_arc.positive); within = omega (arith, end, below) } in
    let place = HasPlace-directed cs directed x is_arc in
    let inside = component-in cs directed first x is (omega arith) (omega (arith, below)) in
    let alike : size cs (component cs x) ≡ size cs first = ap (size cs) inside in
    let goes = nexts x is_arc in
    elim (cases_lt (i + 1) (size cs first)) [
      | inl more ↦
          let to : goes_on x ≡ first + (i + 1) = goes ∙ place.inside (omega (arith, more, inside, alike)) ∙ omega arith in
          let e : size cs first - i ≡ suc (size cs first - (i + 1)) = omega (arith, more) in
          let f : first + i + 1 ≡ first + (i + 1) = omega arith in
          ap (λ y. x ∷ (if nat_eq y first then [] else walk goes_on first fuel y)) to
          ∙ ap (λ b. x ∷ (if b then [] else walk goes_on first fuel (first + (i + 1))))
          (ne_eqb (first + (i + 1)) first (λ same. absurd (omega (arith, same))))
          ∙ ap (λ ys. x ∷ ys)
          (walk-arcs cs directed goes_on nexts first is fuel (i + 1) more (omega (arith, enough))
          ∙ ap (λ k. range_with_len k (size cs first - (i + 1))) (sym f))
          ∙ ap (λ k. range_with_len x k) (sym e)
      | inr last ↦
          let to : goes_on x ≡ first = goes ∙ place.last (omega (arith, last, inside, alike)) ∙ inside in
          let e : size cs first - i ≡ suc zero = omega (arith, last, below) in
          ap (λ b. x ∷ (if b then [] else walk goes_on first fuel (goes_on x))) (eq-eqb (goes_on x) first to)
          ∙ ap (λ k. range_with_len x k) (sym e)
    ]

-- so in parts whose passes go from arc to next arc, the walk from a least arc goes over the numbers of its component
pub walk-first : (code : Code) → IsDirected code.crossings → (parts : Parts) → ArePaired parts → length parts.crossings ≡ length code.crossings
    → ((x : ℕ) → IsArc code.crossings x → follows (passes_through parts) x ≡ next code.crossings x)
    → (first : ℕ) → IsFirst code.crossings first
    → walk (follows (passes_through parts)) first (length (passes_through parts)) first ≡ range_with_len first (size code.crossings first)
walk-first code directed parts paired same_size nexts first is =
    let some = size-positive code.crossings directed first is in
    let end = end-within code.crossings directed first is in
    let zero_more : first ≡ first + 0 = omega arith in
    let long : length (passes_through parts) ≡ 2 * length code.crossings =
    sym (length-map (passes_through parts) (λ (pass : Pass). pass.enters)) ∙ length-heads parts paired ∙ ap (λ n. 2 * n) same_size in
    ap (λ x. walk (follows (passes_through parts)) first (length (passes_through parts)) x) zero_more
    ∙ walk-arcs code.crossings directed (follows (passes_through parts)) nexts first is (length (passes_through parts)) 0 (omega (arith, some))
    (omega (arith, long, end, is.is_arc.positive))
    ∙ ap₂ (λ x n. range_with_len x n) (sym zero_more) (omega arith)
