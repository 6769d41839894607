-- One crossing more, as the program adds it: what it knows, and which objects and entries it makes for which origins.
use Rattle.std.specs.Prelude.{◌≡◌, ℕ, ◌+◌, ◌*◌, ◌^◌, ◌<◌, ◌≤◌, pos, ◌+ℤ◌, ◌≤ℤ◌, List, [], ◌++◌, length, map, nat_eq, slice_index_or, Bool, true, false, not, Option, Some, None, if◌then◌else◌}
use Rattle.std.specs.Global.{Vec}
use Rattle.std.specs.List.{AllZip, filter, flat_map, range_with_len}
use Rattle.kh_types.specs.Code.{Code}
use Rattle.kh_types.specs.Residues.{Same}
use Rattle.dotted_maps.specs.Maps.{coefficient_in}
use Rattle.tangle_maps.specs.Pairings.{joins_of, paired_arcs}
use Rattle.tangle_maps.specs.Sums.{AreReduced, HaveDotsBelow}
use Rattle.tangle_maps.specs.declared.pairing.TheConstants.{POINTS}
use Rattle.crossing_maps.specs.ListedPlaces.{IsArcs}
use Rattle.crossing_maps.specs.NewTerms.{sets_behind}
use Rattle.crossing_maps.specs.Partners.{HasArcsBelow}
use Rattle.crossing_maps.specs.Sides.{IsSplit}
use Rattle.crossing_maps.specs.Sites.{IsPlace, IsSite}
use Rattle.crossing_maps.specs.declared.between.Side.{Side}
use Rattle.crossing_maps.specs.declared.splitting.Site.{Site}
use Rattle.crossing_maps.specs.declared.splitting.Split.{Split}
use Rattle.scan_laws.specs.Scans.{Scan, pairs_of}
use Rattle.scan_laws.specs.Complexes.{degree_of_labels}
use Rattle.scan_laws.specs.Adding.{Origin, new_coefficient, object_from, origin_of, origins, origins_of, origins_with}
use Rattle.tangle_scan.specs.declared.adding.Adding.{Adding}
use Rattle.tangle_scan.specs.declared.adding.children.Child.{Child}
use Rattle.tangle_scan.specs.declared.adding.children.Links.{Links}
use Rattle.tangle_scan.specs.declared.adding.children.Parent.{Parent}
use Rattle.tangle_scan.specs.declared.adding.Layer.{Layer}
use Rattle.tangle_scan.specs.declared.adding.Successors.{Successors}
use Rattle.tangle_scan.specs.declared.complex.Entry.{Entry}
use Rattle.tangle_scan.specs.declared.complex.Front.{Front}
use Rattle.tangle_scan.specs.declared.complex.Object.{Object}
use Rattle.tangle_scan.specs.Held.{AreObjects, IsComplexAt, IsFront, column_at, is_alive_at, object_of, scan_at}

-- a front is another after one crossing more
pub record IsNextFront (front next : Front) : Type 0 where
  pub there : IsFront next
  pub diagram : next.diagram ≡ front.diagram
  pub done : next.done ≡ front.done + 1

-- the code to which a crossing is added, how many crossings are done, and the scan of them
abbrev pub code_in : Adding → Code
code_in adding = adding.front.now.diagram

abbrev pub done_in : Adding → ℕ
done_in adding = adding.front.now.done

abbrev pub scan_in : Adding → Scan
scan_in adding = scan_at adding.front.now adding.complex.now

abbrev pub objects_in : Adding → List Object
objects_in adding = adding.complex.now.objects.items

-- the arcs of a site are such as a program can number
pub record HasArcs (site : Site) : Type 0 where
  pub opened : IsArcs POINTS site.opened.now
  pub near : IsArcs POINTS site.near.now
  pub next : IsArcs POINTS site.next.now
  pub crossing : HasArcsBelow POINTS site.crossing.now

-- a crossing is added to objects at a front: its site is that of the front's next crossing
pub record IsReady (adding : Adding) : Type 0 where
  pub front : IsFront adding.front.now
  pub objects : AreObjects (done_in adding) adding.front.now.opened.items (objects_in adding)
  pub place : IsPlace (code_in adding) (done_in adding)
  pub site : IsSite (code_in adding) (done_in adding) adding.site.opened.now adding.site.near.now adding.site.next.now
      adding.site.crossing.now
  pub opened : adding.site.opened.now ≡ adding.front.now.opened.items
  pub arcs : HasArcs adding.site

-- the origins of the new objects that come from the objects at the first so many places
abbrev pub origins_to : Adding → ℕ → List Origin
origins_to adding count =
    flat_map (origins_of (code_in adding) (scan_in adding)) (filter (is_alive_at (objects_in adding)) (range_with_len 0 count))

-- all of them, each at the place of its object
abbrev pub all_origins : Adding → List Origin
all_origins adding = origins (code_in adding) (scan_in adding)

pub record StandsAt (adding : Adding) (origin : Origin) (place : ℕ) : Type 0 where
  pub within : place < length (all_origins adding)
  pub there : slice_index_or (all_origins adding) place (origin_of 0 0 0) ≡ origin

-- what a smoothing makes of the object at a place: it closes two circles at most
pub record IsSplitAt (adding : Adding) (place smoothing : ℕ) (split : Split) : Type 0 where
  pub made : IsSplit (code_in adding) (done_in adding) smoothing (pairs_of (scan_in adding) place)
      (joins_of split.pairing.partners adding.site.next.now) split.closed.items
  pub arcs : adding.site.next.now ≡ paired_arcs split.pairing.partners
  pub few : length split.closed.items ≤ 2

-- the successors of the object at a place, which is there
pub record HasSuccessors (adding : Adding) (place : ℕ) (successors : Successors) : Type 0 where
  pub alive : is_alive_at (objects_in adding) place ≡ true
  pub zero : IsSplitAt adding place 0 successors.zero
  pub one : IsSplitAt adding place 1 successors.one
  pub first : successors.first ≡ length (origins_to adding place)
  pub second : successors.second ≡ successors.first + 2 ^ length successors.zero.closed.items

-- the successors of the object at a place, if it is there
abbrev pub MaySucceed : Adding → ℕ → Option Successors → Type 0
MaySucceed adding place None = is_alive_at (objects_in adding) place ≡ false
MaySucceed adding place (Some successors) = HasSuccessors adding place successors

-- those of the objects at the first so many places
abbrev pub SucceedTo : Adding → ℕ → List (Option Successors) → Type 0
SucceedTo adding count list = AllZip (MaySucceed adding) (range_with_len 0 count) list

-- the object with a smoothing and labels of the circles that this closes
abbrev pub copy : Object → Split → ℕ → ℕ → Object
copy old split smoothing label = record {
  pairing = split.pairing;
  degree = old.degree + smoothing;
  shift = old.shift +ℤ degree_of_labels (length split.closed.items) label;
  smoothing = smoothing;
  is_alive = true;
}

-- with all labels
abbrev pub copies : Object → Split → ℕ → List Object
copies old split smoothing = map (copy old split smoothing) (range_with_len 0 (2 ^ length split.closed.items))

-- a new object is the one that comes from an origin
pub record IsObjectFrom (adding : Adding) (origin : Origin) (object : Object) : Type 0 where
  pub alive : object.is_alive ≡ true
  pub same : object_of adding.site.next.now object ≡ object_from (code_in adding) (scan_in adding) origin
  pub pairs : adding.site.next.now ≡ paired_arcs object.pairing.partners
  pub degree : object.degree ≤ done_in adding + 1
  pub least : pos 0 ≤ℤ (object.shift +ℤ pos (2 * (done_in adding + 1)))
  pub most : object.shift ≤ℤ pos (2 * (done_in adding + 1))

abbrev pub AreObjectsFrom : Adding → List Origin → List Object → Type 0
AreObjectsFrom adding from objects = AllZip (IsObjectFrom adding) from objects

-- a side has the pairing of the object at a place, and what its smoothing makes of it
pub record IsSideOf (adding : Adding) (place : ℕ) (side : Side) : Type 0 where
  pub pairs : joins_of side.pairing.now.partners adding.site.opened.now ≡ pairs_of (scan_in adding) place
  pub split : IsSplitAt adding place side.smoothing side.split.now
  pub smoothing : side.smoothing < 2

-- the origin of a new object
abbrev pub origin_in : Child → Origin
origin_in child = origin_of child.parent child.side.smoothing child.label

-- a new object is known: it stands at the place of its origin, and its side is that of its parent
pub record IsChild (adding : Adding) (child : Child) : Type 0 where
  pub stands : StandsAt adding (origin_in child) child.place
  pub side : IsSideOf adding child.parent child.side

-- an object that is there, with its successors
pub record IsParent (adding : Adding) (parent : Parent) : Type 0 where
  pub within : parent.place < length (objects_in adding)
  pub successors : HasSuccessors adding parent.place parent.successors.now

-- the objects and the successors that are made for the objects at the first so many places
pub record IsLayerTo (adding : Adding) (count : ℕ) (layer : Layer) : Type 0 where
  pub objects : AreObjectsFrom adding (origins_to adding count) layer.objects.items
  pub successors : SucceedTo adding count layer.successors.items

-- how many dot sets there are between the objects from two origins
abbrev pub sets_from : Adding → Origin → Origin → ℕ
sets_from adding from to =
    sets_behind (code_in adding) (done_in adding) from.smoothing to.smoothing (pairs_of (scan_in adding) from.object)
    (pairs_of (scan_in adding) to.object)

-- an entry leads from the object that comes from one origin to that from another, with the new coefficients
pub record IsEntryTo (p : ℕ) (adding : Adding) (from to : Origin) (entry : Entry) : Type 0 where
  pub head : StandsAt adding to entry.head
  pub reduced : AreReduced p entry.terms.items
  pub dots : HaveDotsBelow (sets_from adding from to) entry.terms.items
  pub terms : (kept : ℕ) → kept < sets_from adding from to
      → Same p (coefficient_in entry.terms.items kept) (new_coefficient p 0 0 (code_in adding) (scan_in adding) from to kept)

abbrev pub has_terms : Entry → Bool
has_terms entry = not (nat_eq (length entry.terms.items) 0)

-- a column has the entries from one origin to some others, in their order, but for those without terms
pub record HasEntriesTo (p : ℕ) (adding : Adding) (from : Origin) (targets : List Origin) (column : List Entry) : Type 0 where
  pub all : List Entry
  pub each : AllZip (IsEntryTo p adding from) targets all
  pub kept : column ≡ filter has_terms all

-- where an entry to the object at a place leads with a smoothing: to its successors there, if it is there
abbrev pub targets_along : Adding → ℕ → ℕ → List Origin
targets_along adding smoothing head =
    if is_alive_at (objects_in adding) head then origins_with (code_in adding) (scan_in adding) head smoothing else []

-- where the saddle of an object leads, from its 0-smoothing
abbrev pub saddle_targets : Adding → Origin → List Origin
saddle_targets adding from =
    if nat_eq from.smoothing 0 then origins_with (code_in adding) (scan_in adding) from.object 1 else []

abbrev pub head_of : Entry → ℕ
head_of entry = entry.head

-- where the maps lead out of the object that comes from an origin
abbrev pub targets_of : Adding → Origin → List Origin
targets_of adding from =
    flat_map (targets_along adding from.smoothing) (map head_of (column_at adding.complex.now from.object)) ++ saddle_targets adding from

-- a column is that of the object which comes from an origin
abbrev pub IsColumnFrom : ℕ → Adding → Origin → List Entry → Type 0
IsColumnFrom p adding from column = HasEntriesTo p adding from (targets_of adding from) column

abbrev pub AreColumnsFrom : ℕ → Adding → List Origin → List (Vec Entry) → Type 0
AreColumnsFrom p adding from columns = AllZip (λ origin column. IsColumnFrom p adding origin column.items) from columns

-- what the new maps are made of: the old complex, and the successors of its objects, which are so many
pub record AreLinks (p : ℕ) (links : Links) : Type 0 where
  pub ready : IsReady links.adding.now
  pub complex : IsComplexAt p links.adding.now.front.now links.adding.now.complex.now
  pub successors : SucceedTo links.adding.now (length (objects_in links.adding.now)) links.successors.now
  pub count : links.count ≡ length (all_origins links.adding.now)
  pub fits : links.count < 2 ^ 64
  pub many : length links.successors.now ≡ length (objects_in links.adding.now)
