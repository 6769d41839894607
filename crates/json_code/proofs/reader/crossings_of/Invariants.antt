use Rattle.std.proofs.Common.{◌≡◌, ◌+◌, length, map, drop}
use Rattle.serde_json.specs.View.{view}
use Rattle.json_code.specs.Steps.{crossings_from, after_crossings}
use Rattle.json_code.proofs.reader.crossings_of.Given as goal

-- the crossings so far are those of as many elements, and what the other elements give comes behind them
abbrev pub invariant-loop-element : goal.invariant-loop-element
invariant-loop-element l = record {
  counted : length l.crossings.items ≡ l.element-index;
  rest : crossings_from 1 (map view l.elements)
      ≡ after_crossings l.crossings.items (crossings_from (l.element-index + 1) (map view (drop l.element-index l.elements)));
}
