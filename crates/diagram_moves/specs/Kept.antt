-- What a move keeps.
use Rattle.std.specs.Prelude.{◌≡◌, ℕ, ◌+◌, ◌<◌, ℤ, IsTrue, length, map}
use Rattle.std.specs.List.{range_with_len}
use Rattle.kh_types.specs.Code.{Code}
use Rattle.kh_types.specs.Acceptance.{accepted}
use Rattle.kh_types.specs.Components.{component_count}
use Rattle.kh_types.specs.Directions.{is_positive, positive_at}
use Rattle.kh_types.specs.StateSum.{state_sum}
use Rattle.code_passes.specs.Parts.{Parts}
use Rattle.slide_laws.specs.Slid.{slid}

-- a code whose crossings are those at some places of another, in that order, is accepted, with its components and loops together, their
-- signs, and its state sum
pub record IsKeptCode (old new : Code) (kept : ℕ → ℕ) (k : ℕ) : Type 0 where
  pub accepted_too : IsTrue (accepted new)
  pub size : length new.crossings ≡ k
  pub components : component_count new.crossings + new.loops ≡ component_count old.crossings + old.loops
  pub signs : (place : ℕ) → place < k → is_positive new.crossings (place + 1) ≡ is_positive old.crossings (kept place + 1)
  pub sums : (exponent : ℤ) → state_sum new exponent ≡ state_sum old exponent

-- the crossings after a slide, with the signs of before
abbrev pub slid_parts : Code → ℕ → ℕ → ℕ → Parts
slid_parts code x y z = record {
  crossings = slid code.crossings x y z;
  positive = map (positive_at code.crossings) (range_with_len 0 (length code.crossings));
  loops = code.loops;
}
