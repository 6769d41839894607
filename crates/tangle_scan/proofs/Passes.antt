-- Eliminations one after another: steps that lead on, and objects that get fewer.
use Rattle.std.proofs.Common.{◌≡◌, ℕ, ◌<◌, ◌∙◌, List, [], ◌∷◌, ◌++◌, length, refl, sym, subst, ap, arith, Result, Ok, Err}
use Rattle.std.specs.Prelude.{All, IfOk}
use Rattle.std.specs.List.{sum_by}
use Rattle.std.specs.Global.{Vec}
use Rattle.std.proofs.lemmas.List.Elements.{All-weaker}
use Rattle.std.proofs.lemmas.List.Sums.{sum_by-cons}
use Rattle.kh_types.specs.Code.{Code}
use Rattle.scan_laws.specs.Scans.{Scan}
use Rattle.scan_laws.specs.Eliminating.{IsEliminating}
use Rattle.scan_laws.specs.Steps.{AreSteps, LeadsTo, eliminated, last_of}
use Rattle.tangle_scan.specs.declared.complex.Entry.{Entry}
use Rattle.tangle_scan.specs.declared.complex.TangleComplex.{TangleComplex}
use Rattle.tangle_scan.specs.declared.complex.Front.{Front}
use Rattle.tangle_scan.specs.declared.clearing.pivots.Pivot.{Pivot}
use Rattle.tangle_scan.specs.declared.clearing.rows.Rowed.{Rowed}
use Rattle.tangle_scan.specs.Held.{IsColumn, IsComplexAt, alive_places, scan_at}
use Rattle.tangle_scan.specs.Clearings.{HasEliminated}
use Rattle.tangle_scan.specs.Eliminations.{HasOneEach, IsIndexed, IsRowed, IsRowedFrom}

steps-both : (p : ℕ) (code : Code) (scan : Scan) (first second : List Scan) → AreSteps p 0 0 code scan first
    → AreSteps p 0 0 code (last_of scan first) second → AreSteps p 0 0 code scan (first ++ second)
steps-both p code scan [] second none rest = rest
steps-both p code scan (next ∷ first) second (step, later) rest = (step, steps-both p code next first second later rest)

last-both : (scan : Scan) (first second : List Scan) → last_of scan (first ++ second) ≡ last_of (last_of scan first) second
last-both scan [] second = refl
last-both scan (next ∷ first) second = last-both next first second

pub leads-both : (p : ℕ) (code : Code) (scan middle next : Scan) → LeadsTo p 0 0 code scan middle → LeadsTo p 0 0 code middle next
    → LeadsTo p 0 0 code scan next
leads-both p code scan middle next first second =
    record {
      later = first.later ++ second.later;
      steps = steps-both p code scan first.later second.later first.steps
          (subst (λ (at : Scan). AreSteps p 0 0 code at second.later) (sym first.last) second.steps);
      last = last-both scan first.later second.later ∙ ap (λ (at : Scan). last_of at second.later) first.last ∙ second.last;
    }

pub from-none : (p : ℕ) (front : Front) (rowed : Rowed) → IsRowed p front rowed → IsRowedFrom p front rowed.complex rowed
from-none p front rowed is = record { is = is; leads = record { later = []; steps = tt; last = refl } }

pub from-step : (p : ℕ) (front : Front) (rowed next : Rowed) (pivot : Pivot) → HasEliminated p front rowed pivot next
    → IsRowedFrom p front rowed.complex next
from-step p front rowed next pivot is =
    record {
      is = is.rowed_is;
      leads = record { later = scan_at front next.complex ∷ []; steps = (eliminated is.step, tt); last = refl };
    }

pub from-both : (p : ℕ) (front : Front) (start : TangleComplex) (rowed next : Rowed) → IsRowedFrom p front start rowed
    → IsRowedFrom p front rowed.complex next → IsRowedFrom p front start next
from-both p front start rowed next first second =
    record {
      is = second.is;
      leads = leads-both p front.diagram (scan_at front start) (scan_at front rowed.complex) (scan_at front next.complex) first.leads
          second.leads;
    }

-- how many objects are there
abbrev pub alive_count : TangleComplex → ℕ
alive_count complex = sum_by (λ (x : ℕ). 1) (alive_places complex.objects.items)

pub fewer : (p : ℕ) (front : Front) (before after : TangleComplex)
    → IsEliminating p 0 0 front.diagram (scan_at front before) (scan_at front after) → alive_count after < alive_count before
fewer p front before after step =
    let one : ℕ → ℕ = λ x. 1 in
    let left = alive_places after.objects.items in
    omega (
      arith,
      step.listed.sums one,
      sum_by-cons one step.tail (step.head ∷ left),
      sum_by-cons one step.head left,
    )

-- what a search needs
pub indexed : (p : ℕ) (front : Front) (rowed : Rowed) → IsRowed p front rowed → IsIndexed rowed
indexed p front rowed is =
    let n = length rowed.complex.objects.items in
    let columns = rowed.complex.columns.items in
    record {
      columns = is.complex.size;
      rows = is.rows.size;
      heads = All-weaker (λ (c : Vec Entry). IsColumn p n c.items) (λ (c : Vec Entry). All (λ (e : Entry). e.head < n) c.items)
          (λ c column. column.heads) columns is.complex.columns;
      once = All-weaker (λ (c : Vec Entry). IsColumn p n c.items) (λ (c : Vec Entry). HasOneEach c.items)
          (λ c column. column.once) columns is.complex.columns;
    }

-- the heads of columns that were read
pub heads-read : (p : ℕ) (front : Front) (complex : TangleComplex) (seen : List (Vec Entry)) → IsComplexAt p front complex
    → seen ≡ complex.columns.items → All (λ (c : Vec Entry). All (λ (e : Entry). e.head < length seen) c.items) seen
heads-read p front complex seen is read =
    subst (λ (n : ℕ). All (λ (c : Vec Entry). All (λ (e : Entry). e.head < n) c.items) seen)
    (sym (ap length read ∙ is.size))
    (subst (λ (columns : List (Vec Entry)). All (λ (c : Vec Entry). All (λ (e : Entry). e.head < length complex.objects.items) c.items) columns)
    (sym read)
    (All-weaker (λ (c : Vec Entry). IsColumn p (length complex.objects.items) c.items)
    (λ (c : Vec Entry). All (λ (e : Entry). e.head < length complex.objects.items) c.items) (λ c column. column.heads)
    complex.columns.items is.columns))

-- what an elimination gives, unless memory runs out
pub from-eliminated : {E : Type 0} (p : ℕ) (front : Front) (rowed : Rowed) (pivot : Pivot) (result : Result Rowed E)
    → IfOk result (HasEliminated p front rowed pivot) → IfOk result (IsRowedFrom p front rowed.complex)
from-eliminated p front rowed pivot (Ok next) is = from-step p front rowed next pivot is
from-eliminated p front rowed pivot (Err e) is = tt
