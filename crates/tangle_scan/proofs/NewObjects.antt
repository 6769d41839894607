-- The new objects are those of their origins, and small.
-- An object in memory is one of the scan by its pairs, degree and shift. What `split_at` says of its pairing is what the theorem calls the
-- pairing after it and the closed circles; a closed circle changes the shift by one, and there are two at most. The objects at one place more
-- are those so far and, if the object there is alive, its copies with either smoothing.
use Rattle.std.proofs.Common.{◌≡◌, ℕ, ◌+◌, ◌*◌, ◌^◌, ◌<◌, ◌≤◌, ◌∙◌, ℤ, pos, ◌+ℤ◌, ◌≤ℤ◌, List, [], ◌∷◌, ◌++◌, get_or, length, map, refl, sym, subst, ap, ap₂, arith, true, false}
use Rattle.std.specs.Prelude.{Option, None, Some}
use Rattle.std.specs.List.{AllZip, range_with_len}
use Rattle.std.proofs.lemmas.Int.{ints}
use Rattle.std.proofs.lemmas.List.{get_or-map, length-append}
use Rattle.std.proofs.lemmas.List.FromFn.{length-map-range_with_len}
use Rattle.kh_types.specs.Bits.{ones}
use Rattle.kh_types.specs.Code.{Code}
use Rattle.kh_types.proofs.Ranges.{range_more}
use Rattle.added_crossing_laws.specs.Codes.{closed_at, pairing_behind, points_at}
use Rattle.added_crossing_laws.specs.Pairings.{IsPairingOf}
use Rattle.tangle_maps.specs.Pairings.{joins_of, paired_arcs}
use Rattle.crossing_maps.specs.Sides.{IsSiteAt, IsSplit}
use Rattle.crossing_maps.specs.Sites.{IsPlace}
use Rattle.crossing_maps.specs.declared.splitting.Split.{Split}
use Rattle.crossing_maps.proofs.FewClosed.{few-closed}
use Rattle.crossing_maps.proofs.PairedPartners.{partners-paired}
use Rattle.scan_laws.specs.Scans as scans
use Rattle.scan_laws.specs.Scans.{first_object, pairs_of}
use Rattle.scan_laws.specs.Complexes.{degree_of_labels}
use Rattle.scan_laws.specs.Adding.{origin_of, origins_with}
use Rattle.tangle_scan.specs.declared.adding.Adding.{Adding}
use Rattle.tangle_scan.specs.declared.adding.Layer.{Layer}
use Rattle.tangle_scan.specs.declared.adding.Successors.{Successors}
use Rattle.tangle_scan.specs.declared.complex.Object.{Object}
use Rattle.tangle_scan.specs.Additions.{AreObjectsFrom, HasSuccessors, IsLayerTo, IsObjectFrom, IsReady, IsSplitAt, MaySucceed, SucceedTo, code_in, copies, copy, done_in, objects_in, origins_to, scan_in}
use Rattle.tangle_scan.specs.Held.{AreObjects, is_alive_at, object_of}
use Rattle.tangle_scan.proofs.ZippedLists.{zip-append, zip-length, zip-made, zip-push}
use Rattle.tangle_scan.proofs.ChildPlaces.{labels-more, origins-alive, origins-dead, succeeded}
use Rattle.kh_types.proofs.QuantumDegrees.{ones-le}

abbrev object_with : List (ℕ × ℕ) → ℕ → ℤ → scans.Object
object_with pairs degree shift = record { pairs = pairs; degree = degree; shift = shift }

-- what an object is in the scan
pub scan-object : (adding : Adding) (place : ℕ) (old : Object) → place < length (objects_in adding) → get_or (objects_in adding) place old ≡ old
    → (scan_in adding).object place ≡ object_of adding.front.now.opened.items old
scan-object adding place old within is =
    get_or-map (object_of adding.front.now.opened.items) (objects_in adding) place old first_object within
    ∙ ap (object_of adding.front.now.opened.items) is

pub copies-more : (f : ℕ → Object) (initial objects more : List Object) (k : ℕ) (x : Object)
    → objects ≡ initial ++ map f (range_with_len 0 k) → more ≡ objects ++ x ∷ [] → x ≡ f k
    → more ≡ initial ++ map f (range_with_len 0 (k + 1))
copies-more f initial objects more k x before pushed is =
    pushed ∙ ap₂ (λ (xs : List Object) (y : Object). xs ++ y ∷ []) before is ∙ labels-more f initial k

-- few labels change the shift by two at most
pub few-labels : (count label : ℕ) → count ≤ 2 → ones count label ≤ count
    → (pos 0 ≤ℤ (degree_of_labels count label +ℤ pos 2)) × (degree_of_labels count label ≤ℤ pos 2)
few-labels count label few some = (omega (arith, ints, few, some), omega (arith, ints, few, some))

pub record IsSmall (done : ℕ) (opened : List ℕ) (old : Object) : Type 0 where
  pub pairs : opened ≡ paired_arcs old.pairing.partners
  pub degree : old.degree ≤ done
  pub least : pos 0 ≤ℤ (old.shift +ℤ pos (2 * done))
  pub most : old.shift ≤ℤ pos (2 * done)

pub record IsFew (old : Object) : Type 0 where
  pub degree : old.degree < 100
  pub least : pos 0 ≤ℤ (old.shift +ℤ pos 100)
  pub most : old.shift ≤ℤ pos 100

pub small-at : (done : ℕ) (opened : List ℕ) (objects : List Object) (place : ℕ) (old : Object) → AreObjects done opened objects
    → place < length objects → get_or objects place old ≡ old → IsSmall done opened old
small-at done opened objects place old are within is =
    subst (λ (o : Object). IsSmall done opened o) is
    (record {
      pairs = are.pairs place old within;
      degree = are.degrees place old within;
      least = are.least place old within;
      most = are.most place old within;
    })

module _ (adding : Adding) where
  abbrev opened : List ℕ
  opened = adding.front.now.opened.items

  abbrev next : List ℕ
  next = adding.site.next.now

  pub child-pairs : (place : ℕ) (old : Object) → IsReady adding → place < length (objects_in adding) → get_or (objects_in adding) place old ≡ old
      → joins_of old.pairing.partners adding.site.opened.now ≡ pairs_of (scan_in adding) place
  child-pairs place old ready within is =
      ap (λ (xs : List ℕ). joins_of old.pairing.partners xs) ready.opened
      ∙ sym (ap (λ (o : scans.Object). o.pairs) (scan-object adding place old within is))

  -- what the code makes of an object by a smoothing
  pub split-made : (place smoothing : ℕ) (old : Object) (split : Split) → IsReady adding → place < length (objects_in adding)
      → get_or (objects_in adding) place old ≡ old
      → ((code : Code) (k : ℕ) → IsPlace code k → IsSiteAt code k adding.site
      → IsPairingOf (points_at code k).opened (joins_of old.pairing.partners adding.site.opened.now)
      → joins_of split.pairing.partners next ≡ pairing_behind code k smoothing (joins_of old.pairing.partners adding.site.opened.now))
      → ((code : Code) (k : ℕ) → IsPlace code k → IsSiteAt code k adding.site
      → IsPairingOf (points_at code k).opened (joins_of old.pairing.partners adding.site.opened.now)
      → next ≡ paired_arcs split.pairing.partners)
      → ((code : Code) (k : ℕ) → IsPlace code k → IsSiteAt code k adding.site
      → IsPairingOf (points_at code k).opened (joins_of old.pairing.partners adding.site.opened.now)
      → split.closed.items ≡ closed_at code k smoothing (joins_of old.pairing.partners adding.site.opened.now))
      → IsSplitAt adding place smoothing split
  split-made place smoothing old split ready within is pairs arcs closed =
      let code = code_in adding in
      let k = done_in adding in
      let small = small-at k opened (objects_in adding) place old ready.objects within is in
      let m = joins_of old.pairing.partners adding.site.opened.now in
      let paired : IsPairingOf (points_at code k).opened m =
      subst (λ (xs : List ℕ). IsPairingOf xs m) ready.site.before
      (partners-paired old.pairing.partners adding.site.opened.now (ready.opened ∙ small.pairs) old.pairing.paired) in
      let same : m ≡ pairs_of (scan_in adding) place =
      ap (λ (xs : List ℕ). joins_of old.pairing.partners xs) ready.opened
      ∙ sym (ap (λ (o : scans.Object). o.pairs) (scan-object adding place old within is)) in
      let made : IsSplit code k smoothing m (joins_of split.pairing.partners next) split.closed.items =
      record {
        among = paired.among;
        pairs = pairs code k ready.place ready.site paired;
        circles = closed code k ready.place ready.site paired;
      } in
      record {
        made = subst (λ (n : List (ℕ × ℕ)). IsSplit code k smoothing n (joins_of split.pairing.partners next) split.closed.items) same made;
        arcs = arcs code k ready.place ready.site paired;
        few = omega (arith, ap (λ (xs : List ℕ). length xs) made.circles, few-closed code k smoothing m ready.place paired.among);
      }

  -- a copy is the object of its origin
  copied : (place smoothing label : ℕ) (old : Object) (split : Split) → place < length (objects_in adding)
      → get_or (objects_in adding) place old ≡ old → IsSmall (done_in adding) opened old → IsSplitAt adding place smoothing split
      → smoothing < 2 → ones (length split.closed.items) label ≤ length split.closed.items
      → IsObjectFrom adding (origin_of place smoothing label) (copy old split smoothing label)
  copied place smoothing label old split within is small at below some =
      let code = code_in adding in
      let scan = scan_in adding in
      let same = scan-object adding place old within is in
      let circles : length split.closed.items ≡ length (closed_at code (done_in adding) smoothing (pairs_of scan place)) =
      ap (λ (xs : List ℕ). length xs) at.made.circles in
      let shifts = few-labels (length split.closed.items) label at.few some in
      record {
        alive = refl;
        same = made (joins_of split.pairing.partners next) (pairing_behind code (done_in adding) smoothing (pairs_of scan place))
            (old.degree + smoothing) ((scan.object place).degree + smoothing)
            (old.shift +ℤ degree_of_labels (length split.closed.items) label)
            ((scan.object place).shift
            +ℤ degree_of_labels (length (closed_at code (done_in adding) smoothing (pairs_of scan place))) label)
            at.made.pairs (ap (λ (o : scans.Object). o.degree + smoothing) (sym same))
            (ap₂ (λ (q : ℤ) (n : ℕ). q +ℤ degree_of_labels n label) (ap (λ (o : scans.Object). o.shift) (sym same)) circles);
        pairs = at.arcs;
        degree = omega (arith, small.degree, below);
        least = omega (arith, ints, small.least, shifts.0);
        most = omega (arith, ints, small.most, shifts.1);
      }
    where
      made : (m n : List (ℕ × ℕ)) (d e : ℕ) (q r : ℤ) → m ≡ n → d ≡ e → q ≡ r → object_with m d q ≡ object_with n e r
      made m n d e q r same_pairs same_degree same_shift = λ i. object_with (same_pairs i) (same_degree i) (same_shift i)

  pub all-copied : (place smoothing : ℕ) (old : Object) (split : Split) → place < length (objects_in adding)
      → get_or (objects_in adding) place old ≡ old → IsReady adding → IsSplitAt adding place smoothing split → smoothing < 2
      → AreObjectsFrom adding (origins_with (code_in adding) (scan_in adding) place smoothing) (copies old split smoothing)
  all-copied place smoothing old split within is ready at below =
      let small = small-at (done_in adding) opened (objects_in adding) place old ready.objects within is in
      subst
      (λ n. AreObjectsFrom adding (map (origin_of place smoothing) (range_with_len 0 (2 ^ n))) (copies old split smoothing))
      (ap (λ (xs : List ℕ). length xs) at.made.circles)
      (zip-made (IsObjectFrom adding) (origin_of place smoothing) (copy old split smoothing) (range_with_len 0 (2 ^ length split.closed.items))
      (λ label has. copied place smoothing label old split within is small at below (ones-le (length split.closed.items) label)))

  -- an object more, and its successors
  pub succeed-more : (place : ℕ) (list : List (Option Successors)) (one : Option Successors) → SucceedTo adding place list
      → MaySucceed adding place one → SucceedTo adding (place + 1) (list ++ one ∷ [])
  succeed-more place list one all is =
      subst (λ xs. AllZip (MaySucceed adding) xs (list ++ one ∷ [])) (sym (range_more 0 place place (omega arith)))
      (zip-push (MaySucceed adding) (range_with_len 0 place) place list one all is)

  pub objects-more : (place : ℕ) (made zeros ones : List Object) → is_alive_at (objects_in adding) place ≡ true
      → AreObjectsFrom adding (origins_to adding place) made
      → AreObjectsFrom adding (origins_with (code_in adding) (scan_in adding) place 0) zeros
      → AreObjectsFrom adding (origins_with (code_in adding) (scan_in adding) place 1) ones
      → AreObjectsFrom adding (origins_to adding (place + 1)) ((made ++ zeros) ++ ones)
  objects-more place made zeros ones alive all first second =
      let code = code_in adding in
      let scan = scan_in adding in
      subst (λ from. AreObjectsFrom adding from ((made ++ zeros) ++ ones)) (sym (origins-alive adding place alive))
      (zip-append (IsObjectFrom adding) (origins_to adding place ++ origins_with code scan place 0) (origins_with code scan place 1)
      (made ++ zeros) ones
      (zip-append (IsObjectFrom adding) (origins_to adding place) (origins_with code scan place 0) made zeros all first) second)

  -- an object is small enough for machine numbers
  pub few-at : (place : ℕ) (old : Object) → IsReady adding → place < length (objects_in adding) → get_or (objects_in adding) place old ≡ old
      → IsFew old
  few-at place old ready within is =
      let small = small-at (done_in adding) opened (objects_in adding) place old ready.objects within is in
      record {
        degree = omega (arith, small.degree, ready.place.crossing, ready.place.fits);
        least = omega (arith, ints, small.least, ready.place.crossing, ready.place.fits);
        most = omega (arith, ints, small.most, ready.place.crossing, ready.place.fits);
      }

  pub parent-none : (place : ℕ) (list : List (Option Successors)) (found : Option Successors) → place < length (objects_in adding)
      → SucceedTo adding (length (objects_in adding)) list → found ≡ get_or list place found → found ≡ None
      → is_alive_at (objects_in adding) place ≡ false
  parent-none place list found within all is none =
      subst (λ (o : Option Successors). MaySucceed adding place o) (sym is ∙ none) (succeeded adding place list found within all)

  pub parent-some : (place : ℕ) (list : List (Option Successors)) (found : Option Successors) (s : Successors)
      → place < length (objects_in adding) → SucceedTo adding (length (objects_in adding)) list → found ≡ get_or list place found
      → found ≡ Some s → HasSuccessors adding place s
  parent-some place list found s within all is some =
      subst (λ (o : Option Successors). MaySucceed adding place o) (sym is ∙ some) (succeeded adding place list found within all)

  -- the objects and successors at one place more
  pub layer-dead : (place : ℕ) (old new : Layer) → is_alive_at (objects_in adding) place ≡ false → IsLayerTo adding place old
      → new.objects.items ≡ old.objects.items → new.successors.items ≡ old.successors.items ++ None ∷ [] → IsLayerTo adding (place + 1) new
  layer-dead place old new dead is objects successors = record {
    objects = subst (λ from. AreObjectsFrom adding from new.objects.items) (sym (origins-dead adding place dead))
        (subst (λ os. AreObjectsFrom adding (origins_to adding place) os) (sym objects) is.objects);
    successors = subst (λ list. SucceedTo adding (place + 1) list) (sym successors)
        (succeed-more place old.successors.items None is.successors dead);
  }

  pub layer-alive : (place : ℕ) (old new : Layer) (object : Object) (s : Successors) → IsReady adding
      → is_alive_at (objects_in adding) place ≡ true → place < length (objects_in adding) → get_or (objects_in adding) place object ≡ object
      → IsLayerTo adding place old → IsSplitAt adding place 0 s.zero → IsSplitAt adding place 1 s.one
      → s.first ≡ length old.objects.items → s.second ≡ length (old.objects.items ++ copies object s.zero 0)
      → new.objects.items ≡ (old.objects.items ++ copies object s.zero 0) ++ copies object s.one 1
      → new.successors.items ≡ old.successors.items ++ Some s ∷ [] → IsLayerTo adding (place + 1) new
  layer-alive place old new object s ready alive within is_object is zeros ones first second objects successors = record {
    objects = subst (λ os. AreObjectsFrom adding (origins_to adding (place + 1)) os) (sym objects)
        (objects-more place old.objects.items (copies object s.zero 0) (copies object s.one 1) alive is.objects
        (all-copied place 0 object s.zero within is_object ready zeros (omega arith))
        (all-copied place 1 object s.one within is_object ready ones (omega arith)));
    successors = subst (λ list. SucceedTo adding (place + 1) list) (sym successors)
        (succeed-more place old.successors.items (Some s) is.successors
        (record {
          alive = alive;
          zero = zeros;
          one = ones;
          first = first ∙ zip-length (IsObjectFrom adding) (origins_to adding place) old.objects.items is.objects;
          second = second ∙ length-append old.objects.items (copies object s.zero 0)
              ∙ ap₂ (λ m n. m + n) (sym first) (length-map-range_with_len (copy object s.zero 0) 0 (2 ^ length s.zero.closed.items));
        }));
  }
