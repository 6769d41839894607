-- Views by which one circle closes at one inner state, and whose inner states have kinds: what is seen depends on the kind.
use Rattle.std.specs.Prelude.{◌≡◌, ◌≢◌, ℕ, ◌^◌, ◌<◌, Bool, true, ◌||◌, length}
use Rattle.kh_types.specs.Code.{Code}
use Rattle.layer_laws.specs.Cuts.{is_step}
use Rattle.view_laws.specs.Partitions.{AgreeOn}
use Rattle.view_laws.specs.Views.{IsView, View, joint_state, together}
use Rattle.view_laws.specs.ViewLayers.{outer_count}

-- at one inner state one circle closes, and at no other any; the inner states next to it have its kind; and at each inner and outer state
-- the view sees a relation that is known by the kind and the outer state
pub record IsSeenBy (code : Code) (view : View) (closing : ℕ) (kind : ℕ → ℕ) (relation : ℕ → ℕ → ℕ → ℕ → Bool) : Type 0 where
  pub is : IsView code view
  pub within : closing < 2 ^ view.inner
  pub closes : length (view.closed closing) ≡ 1
  pub others : (t : ℕ) → t < 2 ^ view.inner → t ≢ closing → length (view.closed t) ≡ 0
  pub near : (t : ℕ) → t < 2 ^ view.inner → (is_step view.inner t closing || is_step view.inner closing t) ≡ true → kind t ≡ kind closing
  pub seen : (t s : ℕ) → t < 2 ^ view.inner → s < 2 ^ outer_count code view
      → AgreeOn view.names (together code view (joint_state view t s)) (relation (kind t) s)
