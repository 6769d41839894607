-- Complexes that cancellations lead to.
use Rattle.std.specs.Prelude.{◌≡◌, ℕ, List}
use Rattle.kh_types.specs.Complex.{Complex, Pivot}
use Rattle.kh_types.specs.History.{IsLegal, replay}

-- a complex has come from another by cancellations: it is the end of a legal history of it
pub record ComesByCancelling (p : ℕ) (before after : Complex) : Type 0 where
  pub history : List Pivot
  pub legal : IsLegal p before history
  pub replayed : after ≡ replay p before history
