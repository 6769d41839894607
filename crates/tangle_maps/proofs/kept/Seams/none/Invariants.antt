use Rattle.std.proofs.Common.{◌≡◌, length}
use Rattle.std.specs.Prelude.{All}
use Rattle.tangle_maps.specs.KeptSeams.{AreKeptSeams}
use Rattle.tangle_maps.proofs.kept.Seams.none.Given as goal

abbrev pub invariant-numbers : goal.invariant-numbers
invariant-numbers l = record {
  many : length l.lists.items ≡ l.counter;
  each : All (λ list. AreKeptSeams list.items) l.lists.items;
}
