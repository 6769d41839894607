-- The bridges of new maps are those between the objects.
use Rattle.std.proofs.Common.{◌≡◌, ℕ, ◌<◌, ◌∙◌, List, [], ◌∷◌, ◌++◌, get_or, length, set, sym, subst, subst₂, ap, arith, Result, Ok, Err}
use Rattle.std.proofs.lemmas.List.{get_or_push, length_push}
use Rattle.std.proofs.lemmas.List.Elements.{All-push, All-set}
use Rattle.std.specs.Prelude.{OnOk}
use Rattle.kh_types.specs.Code.{Code}
use Rattle.tangle_maps.specs.Pairings.{joins_of}
use Rattle.crossing_maps.specs.AddedSeams.{ArePairs}
use Rattle.crossing_maps.specs.Bridges.{CanLabel, IsAddedBridge, IsSaddleBridge}
use Rattle.crossing_maps.specs.Sides.{CanAdd, IsSideAt, IsSiteAt, IsSplit, closed_on, pairs_after, pairs_before}
use Rattle.crossing_maps.specs.Sites.{IsPlace}
use Rattle.crossing_maps.specs.declared.between.Side.{Side}
use Rattle.crossing_maps.specs.declared.bridges.Bridge.{Bridge}
use Rattle.crossing_maps.proofs.PlaceLaws.{can-add}
use Rattle.scan_laws.specs.Scans.{pairs_of}
use Rattle.tangle_scan.specs.declared.adding.Adding.{Adding}
use Rattle.tangle_scan.specs.declared.adding.bridges.BridgeTo.{BridgeTo}
use Rattle.tangle_scan.specs.declared.adding.bridges.BridgesOf.{BridgesOf}
use Rattle.tangle_scan.specs.AddedBridges.{AreAllBridges, AreBridgesFrom, AreBridgesOf, HasBridgeAt, HasBridgesAt, IsBridgeFrom, IsBridgeIn, IsBridgeOver, IsSaddleIn, IsSaddleOf, LeadFrom, pairs_in}
use Rattle.tangle_scan.specs.Additions.{IsReady, IsSideOf, code_in, done_in, scan_in}

pub on-ok : {T E P : Type 0} (result : Result T E) → P → OnOk result P
on-ok (Ok x) is = is
on-ok (Err e) is = tt

module _ (adding : Adding) where
  abbrev pairs : ℕ → List (ℕ × ℕ)
  pairs place = pairs_of (scan_in adding) place

  -- a side of the surface that the crossing adds
  side-there : (place : ℕ) (side : Side) → IsSideOf adding place side → IsSideAt (code_in adding) (done_in adding) adding.site side
  side-there place side is =
      subst
      (λ (m : List (ℕ × ℕ)). IsSplit (code_in adding) (done_in adding) side.smoothing m (pairs_after adding.site side) (closed_on side))
      (sym is.pairs) is.split.made

  pub sides-add : (tail head : ℕ) (from to : Side) → IsReady adding → IsSideOf adding tail from → IsSideOf adding head to
      → CanAdd adding.site from to
  sides-add tail head from to ready first second =
      can-add (code_in adding) (done_in adding) adding.site from to ready.place ready.site (side-there tail from first)
      (side-there head to second)

  are-pairs : (tail head : ℕ) (from to : Side) → IsReady adding → IsSideOf adding tail from → IsSideOf adding head to
      → ArePairs (code_in adding) (done_in adding) (pairs tail) (pairs head)
  are-pairs tail head from to ready first second =
      record { place = ready.place; first = first.split.made.among; second = second.split.made.among }

  -- a bridge that is made to a side of an object
  pub bridge-made : (tail head e : ℕ) (from to : Side) (bridge : Bridge) → IsReady adding → IsSideOf adding tail from
      → IsSideOf adding head to → from.smoothing ≡ e → to.smoothing ≡ e → CanLabel bridge
      → ((code : Code) (k : ℕ) → IsPlace code k → IsSiteAt code k adding.site → IsSideAt code k adding.site from
      → IsSideAt code k adding.site to
      → IsAddedBridge code k from.smoothing to.smoothing (pairs_before adding.site from) (pairs_before adding.site to) bridge)
      → IsBridgeOver adding e tail head bridge
  bridge-made tail head e from to bridge ready first second same_from same_to labels is =
      let code = code_in adding in
      let k = done_in adding in
      record {
        labels = labels;
        pairs = are-pairs tail head from to ready first second;
        added = subst₂ (λ m n. IsAddedBridge code k e e m n bridge) first.pairs second.pairs
            (subst₂ (λ s t. IsAddedBridge code k s t (pairs_before adding.site from) (pairs_before adding.site to) bridge) same_from same_to
            (is code k ready.place ready.site (side-there tail from first) (side-there head to second)));
      }

  -- and to its pairing
  bridge-from : (tail head e : ℕ) (to : BridgeTo) → joins_of to.pairing.partners adding.site.opened.now ≡ pairs head
      → IsBridgeOver adding e tail head to.bridge → IsBridgeFrom adding e (pairs tail) to
  bridge-from tail head e to same is = subst (λ n. IsBridgeIn adding e (pairs tail) n to.bridge) (sym same) is

  pub bridges-pushed : (tail head e : ℕ) (to : BridgeTo) (old new : List BridgeTo)
      → joins_of to.pairing.partners adding.site.opened.now ≡ pairs head → IsBridgeOver adding e tail head to.bridge
      → new ≡ old ++ to ∷ [] → AreBridgesFrom adding e tail old → AreBridgesFrom adding e tail new
  bridges-pushed tail head e to old new same is pushed are =
      subst (λ (xs : List BridgeTo). AreBridgesFrom adding e tail xs) (sym pushed)
      (All-push (IsBridgeFrom adding e (pairs tail)) old to are (bridge-from tail head e to same is))

  pub bridge-pushed : (tail head e place : ℕ) (to : BridgeTo) (old new : List BridgeTo) → IsBridgeOver adding e tail head to.bridge
      → new ≡ old ++ to ∷ [] → place ≡ length old → HasBridgeAt adding e tail head new place
  bridge-pushed tail head e place to old new is pushed here =
      subst (λ (xs : List BridgeTo). HasBridgeAt adding e tail head xs place) (sym pushed)
      (record {
        within = omega (arith, here, length_push old to);
        over = λ d. subst (λ (b : BridgeTo). IsBridgeOver adding e tail head b.bridge) (sym (get_or_push old to d place (sym here))) is;
      })

  -- a bridge that was made to the pairing of an object
  pub bridge-found : (tail head e place : ℕ) (partners : List ℕ) (bridges : List BridgeTo) → AreBridgesFrom adding e tail bridges
      → place < length bridges → ((d : BridgeTo) → (get_or bridges place d).pairing.partners ≡ partners)
      → joins_of partners adding.site.opened.now ≡ pairs head → HasBridgeAt adding e tail head bridges place
  bridge-found tail head e place partners bridges are within alike same = record {
    within = within;
    over = λ d. subst (λ n. IsBridgeIn adding e (pairs tail) n (get_or bridges place d).bridge)
        (ap (λ xs. joins_of xs adding.site.opened.now) (alike d) ∙ same) (are place d within);
  }

  -- a bridge that was used, among the others
  pub bridges-kept : (tail e place : ℕ) (to : BridgeTo) (bridge : Bridge) (old : List BridgeTo) → place < length old
      → to ≡ get_or old place to → bridge ≡ to.bridge → AreBridgesFrom adding e tail old
      → AreBridgesFrom adding e tail (set old place (record { pairing = to.pairing; bridge = bridge }))
  bridges-kept tail e place to bridge old within there same are =
      let made : BridgeTo = record { pairing = to.pairing; bridge = bridge } in
      All-set (IsBridgeFrom adding e (pairs tail)) old place made
      (subst (λ (b : Bridge). IsBridgeIn adding e (pairs tail) (joins_of to.pairing.partners adding.site.opened.now) b) (sym same)
      (subst (IsBridgeFrom adding e (pairs tail)) (sym there) (are place to within)))
      are

  pub saddle-made : (place : ℕ) (from to : Side) (bridge : Bridge) → IsReady adding → IsSideOf adding place from → IsSideOf adding place to
      → CanLabel bridge
      → ((code : Code) (k : ℕ) → IsPlace code k → IsSiteAt code k adding.site → IsSideAt code k adding.site from
      → IsSideAt code k adding.site to → IsSaddleBridge code k (pairs_before adding.site from) bridge)
      → IsSaddleOf adding place bridge
  saddle-made place from to bridge ready first second labels is = record {
    labels = labels;
    pairs = are-pairs place place from to ready first second;
    saddle = subst (λ m. IsSaddleBridge (code_in adding) (done_in adding) m bridge) first.pairs
        (is (code_in adding) (done_in adding) ready.place ready.site (side-there place from first) (side-there place to second));
  }

  -- bridges of a pairing, before any is made, and with the saddle's
  pub bridges-begun : (tail : ℕ) (bridges : BridgesOf) → pairs_in adding bridges ≡ pairs tail → bridges.zero.items ≡ []
      → bridges.one.items ≡ [] → IsSaddleOf adding tail bridges.saddle → AreBridgesOf adding bridges
  bridges-begun tail bridges same zero one saddle = record {
    zero = subst (λ (xs : List BridgeTo). LeadFrom adding 0 (pairs_in adding bridges) xs) (sym zero) (nothing 0);
    one = subst (λ (xs : List BridgeTo). LeadFrom adding 1 (pairs_in adding bridges) xs) (sym one) (nothing 1);
    saddle = subst (λ m. IsSaddleIn adding m bridges.saddle) (sym same) saddle;
  }
    where
      nothing : (e : ℕ) → LeadFrom adding e (pairs_in adding bridges) []
      nothing e place d within = absurd (omega (arith, within))

  pub all-pushed : (bridges : BridgesOf) (old new : List BridgesOf) → AreBridgesOf adding bridges → new ≡ old ++ bridges ∷ []
      → AreAllBridges adding old → AreAllBridges adding new
  all-pushed bridges old new is pushed are =
      subst (λ (xs : List BridgesOf). AreAllBridges adding xs) (sym pushed) (All-push (AreBridgesOf adding) old bridges are is)

  pub place-pushed : (tail place : ℕ) (bridges : BridgesOf) (old new : List BridgesOf) → pairs_in adding bridges ≡ pairs tail
      → new ≡ old ++ bridges ∷ [] → place ≡ length old → HasBridgesAt adding tail new place
  place-pushed tail place bridges old new same pushed here =
      subst (λ (xs : List BridgesOf). HasBridgesAt adding tail xs place) (sym pushed)
      (record {
        within = omega (arith, here, length_push old bridges);
        pairs = λ d. ap (λ (b : BridgesOf). pairs_in adding b) (get_or_push old bridges d place (sym here)) ∙ same;
      })
