use Rattle.std.proofs.Common.{◌≡◌, ℕ, None, take}
use Rattle.std.specs.Prelude.{All, Any, IfSome}
use Rattle.tangle_scan.specs.Eliminations.{IsCandidate}
use Rattle.tangle_scan.proofs.clearing.pivots.best_of.Given as goal

abbrev pub invariant-entries : goal.invariant-entries
invariant-entries l =
    record {
      found : IfSome l.best
          (λ best. Any (λ entry. IsCandidate l.objects l.tail entry best.head best.number) (take l.entry-index l.column));
      none : l.best ≡ None
          → All (λ entry. (head number : ℕ) → IsCandidate l.objects l.tail entry head number → ⊥) (take l.entry-index l.column);
    }
