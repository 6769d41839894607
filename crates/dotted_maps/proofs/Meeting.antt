-- Two surfaces that share some points and what is joined among them meet along the classes of these.
use Rattle.std.proofs.Common.{◌≡◌, ℕ, List}
use Rattle.std.specs.Prelude.{slice_index}
use Rattle.std.specs.List.{Contains}
use Rattle.kh_types.specs.Classes.{classes_of, Respects}
use Rattle.surface_laws.specs.Surfaces.{Surface, component_of, IsPlaced}
use Rattle.surface_laws.proofs.Overlaid.{AreLaid}
use Rattle.surface_laws.proofs.Components.{AllByRecursion-weaker}
use Rattle.surface_laws.specs.Points.{AreAmong, least_points}
use Rattle.dotted_maps.proofs.LeastPoints.{AreJoins, class-named, class-respected, least-contained}

pub record Share (first second : Surface) (points : List ℕ) (common : List (ℕ × ℕ)) : Type 0 where
  pub size : second.size ≡ first.size
  pub placed : IsPlaced first
  pub other : IsPlaced second
  pub joins : AreAmong first.places first.joins
  pub other_joins : AreAmong second.places second.joins
  pub in_first : (x : ℕ) → Contains points x → Contains first.places x
  pub in_second : (x : ℕ) → Contains points x → Contains second.places x
  pub meet : (x : ℕ) → Contains first.places x → Contains second.places x → Contains points x
  pub shared : AreJoins first.size points common
  pub tied : Respects (λ x. component_of first x) common
  pub other_tied : Respects (λ x. component_of second x) common

pub AreLaid-shared : (first second : Surface) (points : List ℕ) (joins : List (ℕ × ℕ)) → Share first second points joins
    → AreLaid first second (least_points first.size points joins)
AreLaid-shared first second points joins share = record {
  placed = share.placed;
  other = share.other;
  along = record {
    size = share.size;
    joins = share.joins;
    other_joins = share.other_joins;
    on = AllByRecursion-weaker (λ x. Contains points x) (λ x. Contains first.places x × Contains second.places x)
        (least_points first.size points joins) (λ x has. (share.in_first x has, share.in_second x has))
        (least-contained first.size points joins);
    meet = λ x in_first in_second.
        let has = share.meet x in_first in_second in (
          slice_index (classes_of first.size joins) x,
          class-named first.size points joins x share.shared has,
          class-respected (λ y. component_of first y) first.size points joins x share.shared has share.tied,
          class-respected (λ y. component_of second y) first.size points joins x share.shared has share.other_tied,
        );
  };
}
