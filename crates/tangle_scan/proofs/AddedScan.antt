-- What is made is a complex after one crossing more, and its scan comes from the old one by adding the crossing.
-- All new objects are alive, so their numbers are the places from 0 on, and the origin of each stands at its place in the list of all
-- origins. What has been shown of one column then holds of the column at each place.
use Rattle.std.proofs.Common.{◌≡◌, ℕ, ◌+◌, ◌^◌, ◌<◌, ◌≤◌, ◌*◌, ◌∙◌, pos, ◌+ℤ◌, ◌≤ℤ◌, List, [], get_or, length, map, refl, sym, subst, ap, ap₂, arith, Bool, true, false}
use Rattle.std.specs.Global.{Vec}
use Rattle.std.specs.List.{Contains, filter, range_with_len}
use Rattle.std.proofs.lemmas.List.{get_or-map, length-map}
use Rattle.std.proofs.lemmas.List.Elements.{All-get_or, All-map, Contains-get_or}
use Rattle.kh_types.specs.Code.{Code}
use Rattle.kh_types.proofs.Lists.{filter-range_all, range-contains}
use Rattle.surface_laws.specs.Points.{discs}
use Rattle.added_crossing_laws.specs.Codes.{points_at}
use Rattle.cell_laws.specs.Alike.{AreMatched, HasNoDoubles}
use Rattle.cell_laws.proofs.Members.{Contains-kept}
use Rattle.tangle_maps.specs.Pairings.{paired_arcs}
use Rattle.tangle_maps.specs.Sums.{HaveDotsBelow}
use Rattle.scan_laws.specs.Scans as scans
use Rattle.scan_laws.specs.Scans.{IsScanOf, Scan, dot_sets, first_object, pairs_of}
use Rattle.scan_laws.specs.Adding.{IsAdding, Origin, object_from}
use Rattle.scan_laws.proofs.Origins.{IsOrigin, origin-from, origins-once}
use Rattle.scan_laws.proofs.Possible.{no_origin, number_in, origin_in, origins-matched}
use Rattle.tangle_scan.specs.declared.adding.Adding.{Adding}
use Rattle.tangle_scan.specs.declared.complex.Entry.{Entry}
use Rattle.tangle_scan.specs.declared.complex.TangleComplex.{TangleComplex}
use Rattle.tangle_scan.specs.declared.complex.Object.{Object}
use Rattle.tangle_scan.specs.Additions.{AreColumnsFrom, AreObjectsFrom, IsColumnFrom, IsObjectFrom, IsReady, StandsAt, all_origins, code_in, done_in, objects_in, scan_in, sets_from, targets_of}
use Rattle.tangle_scan.specs.Held.{IsColumn, IsComplexAt, IsComplexBehind, RaisesDegree, alive_places, column_at, degree_at, is_alive_at, object_at, object_of, scan_behind, terms_between}
use Rattle.tangle_scan.proofs.ZippedLists.{zip-all, zip-at, zip-equal, zip-length, zip-map}
use Rattle.tangle_scan.proofs.NewColumns.{column-dots, column-right, entry-right}
use Rattle.tangle_scan.proofs.ColumnTargets.{column-once, degree-same, degree_from, targets-raise}

-- what has been made for all origins
pub record AreAllMade (p : ℕ) (adding : Adding) (made : TangleComplex) : Type 0 where
  pub ready : IsReady adding
  pub complex : IsComplexAt p adding.front.now adding.complex.now
  pub of : IsScanOf (code_in adding) (scan_in adding)
  pub objects : AreObjectsFrom adding (all_origins adding) made.objects.items
  pub columns : AreColumnsFrom p adding (all_origins adding) made.columns.items

module _ (p : ℕ) (adding : Adding) (made : TangleComplex) (all : AreAllMade p adding made) where
  abbrev code_here : Code
  code_here = code_in adding

  abbrev scan_here : Scan
  scan_here = scan_in adding

  abbrev next : List ℕ
  next = adding.site.next.now

  abbrev objects : List Object
  objects = made.objects.items

  abbrev count : ℕ
  count = length (all_origins adding)

  abbrev there : ℕ → Origin
  there x = origin_in code_here scan_here x

  count-objects : length objects ≡ count
  count-objects = zip-length (IsObjectFrom adding) (all_origins adding) objects all.objects

  object-there : (x : ℕ) → x < count → object_at next objects x ≡ object_from code_here scan_here (there x)
  object-there x below =
      ap (λ (os : List scans.Object). get_or os x first_object)
      (zip-equal (IsObjectFrom adding) (object_from code_here scan_here) (object_of next) (λ w o is. is.same) (all_origins adding) objects
      all.objects)
      ∙ get_or-map (object_from code_here scan_here) (all_origins adding) x no_origin first_object below

  alive-there : (x : ℕ) → x < count → is_alive_at objects x ≡ true
  alive-there x below =
      ap (λ (bs : List Bool). get_or bs x false)
      (zip-equal (IsObjectFrom adding) (λ w. true) (λ (o : Object). o.is_alive) (λ w o is. is.alive) (all_origins adding) objects
      all.objects)
      ∙ get_or-map (λ (w : Origin). true) (all_origins adding) x no_origin false below

  numbers-there : alive_places objects ≡ range_with_len 0 count
  numbers-there =
      ap (λ n. filter (is_alive_at objects) (range_with_len 0 n)) count-objects
      ∙ filter-range_all (is_alive_at objects) 0 count (λ x above below. alive-there x (omega (arith, below)))

  degree-there : (x : ℕ) → x < count → degree_at objects x ≡ degree_from adding (there x)
  degree-there x below = degree-same next objects x ∙ ap (λ (o : scans.Object). o.degree) (object-there x below)

  stands-there : (x : ℕ) → x < count → StandsAt adding (there x) x
  stands-there x below = record { within = below; there = refl }

  origin-there : (x : ℕ) → x < count → IsOrigin code_here scan_here (there x)
  origin-there x below =
      origin-from code_here scan_here (there x) (Contains-get_or (all_origins adding) x no_origin below)

  -- the old object of an origin, and its column
  old-within : (w : Origin) → IsOrigin code_here scan_here w → w.object < length (objects_in adding)
  old-within w is =
      range-contains (length (objects_in adding)) w.object
      (Contains-kept (is_alive_at (objects_in adding)) (range_with_len 0 (length (objects_in adding))) w.object is.object).0

  old-column : (w : Origin) → IsOrigin code_here scan_here w
      → IsColumn p (length (objects_in adding)) (column_at adding.complex.now w.object)
  old-column w is =
      let columns = adding.complex.now.columns.items in
      let items = λ (column : Vec Entry). column.items in
      All-get_or (IsColumn p (length (objects_in adding))) (map items columns) w.object []
      (omega (arith, old-within w is, all.complex.size, length-map columns items))
      (All-map (IsColumn p (length (objects_in adding))) items columns all.complex.columns)

  -- the columns
  is-column : (w : Origin) (column : List Entry) → Contains (all_origins adding) w → IsColumnFrom p adding w column
      → IsColumn p (length objects) column
  is-column w column has is = record {
    heads = λ k d below.
        omega (
          arith,
          count-objects,
          (entry-right p adding w (targets_of adding w) column (get_or column k d) is (Contains-get_or column k d below)).2.head.within,
        );
    once = λ y. column-once adding p w column y (old-column w (origin-from code_here scan_here w has)) is;
    reduced = λ k d below.
        (entry-right p adding w (targets_of adding w) column (get_or column k d) is (Contains-get_or column k d below)).2.reduced;
  }

  column-there : (x : ℕ) → x < count → IsColumnFrom p adding (there x) (column_at made x)
  column-there x below =
      zip-at (IsColumnFrom p adding) (all_origins adding) (map (λ (column : Vec Entry). column.items) made.columns.items) x no_origin []
      (zip-map (IsColumnFrom p adding) (λ (column : Vec Entry). column.items) (all_origins adding) made.columns.items all.columns) below

  raises-there : (x : ℕ) → x < count → RaisesDegree made x
  raises-there x below = λ k d within.
      let entry = get_or (column_at made x) k d in
      let right = entry-right p adding (there x) (targets_of adding (there x)) (column_at made x) entry (column-there x below)
      (Contains-get_or (column_at made x) k d within) in
      let from = origin-there x below in
      degree-there entry.head right.2.head.within ∙ ap (degree_from adding) right.2.head.there
      ∙ targets-raise adding (there x) right.0 (all.complex.raises (there x).object (old-within (there x) from)) right.1
      ∙ ap (λ n. n + 1) (sym (degree-there x below))

  pub complex-made : IsComplexBehind p (done_in adding + 1) next made
  complex-made = record {
    objects = record {
      pairs = zip-all (IsObjectFrom adding) (λ o. next ≡ paired_arcs o.pairing.partners) (all_origins adding) objects
          (λ w o has is. is.pairs) all.objects;
      degrees = zip-all (IsObjectFrom adding) (λ o. o.degree ≤ done_in adding + 1) (all_origins adding) objects
          (λ w o has is. is.degree) all.objects;
      least = zip-all (IsObjectFrom adding) (λ o. pos 0 ≤ℤ (o.shift +ℤ pos (2 * (done_in adding + 1)))) (all_origins adding) objects
          (λ w o has is. is.least) all.objects;
      most = zip-all (IsObjectFrom adding) (λ o. o.shift ≤ℤ pos (2 * (done_in adding + 1))) (all_origins adding) objects
          (λ w o has is. is.most) all.objects;
    };
    size = zip-length (λ w column. IsColumnFrom p adding w column.items) (all_origins adding) made.columns.items all.columns
        ∙ sym count-objects;
    columns = zip-all (λ w column. IsColumnFrom p adding w column.items) (λ column. IsColumn p (length objects) column.items)
        (all_origins adding) made.columns.items (λ w column has is. is-column w column.items has is) all.columns;
    raises = λ x below. raises-there x (omega (arith, below, count-objects));
  }

  -- the scan
  abbrev scan_made : Scan
  scan_made = scan_behind (done_in adding + 1) next made

  below-there : (x : ℕ) → Contains (alive_places objects) x → x < count
  below-there x has = range-contains count x (subst (λ xs. Contains xs x) numbers-there has)

  sets-there : (x y : ℕ) → x < count → y < count → dot_sets code_here scan_made x y ≡ sets_from adding (there x) (there y)
  sets-there x y x_below y_below =
      ap₂ (λ (a b : scans.Object). 2 ^ length (discs (points_at code_here (done_in adding + 1)) a.pairs b.pairs))
      (object-there x x_below) (object-there y y_below)

  origins-are-once : HasNoDoubles (all_origins adding)
  origins-are-once = origins-once code_here scan_here all.of.once

  pub scan-made : IsAdding p 0 0 code_here scan_here scan_made
  scan-made = record {
    within = all.ready.place.crossing;
    done = refl;
    origin = origin_in code_here scan_here;
    number = number_in code_here scan_here;
    matched = subst (λ xs. AreMatched (origin_in code_here scan_here) (number_in code_here scan_here) xs (all_origins adding))
        (sym numbers-there) (origins-matched code_here scan_here all.of.once);
    object = λ x has. object-there x (below-there x has);
    dots = λ x y has_x has_y.
        let x_below = below-there x has_x in
        let y_below = below-there y has_y in
        subst (λ n. HaveDotsBelow n (terms_between made x y)) (sym (sets-there x y x_below y_below))
        (column-dots p adding (there x) (there y) (column_at made x) y (column-there x x_below) (stands-there y y_below));
    terms = λ x y kept has_x has_y below.
        let x_below = below-there x has_x in
        let y_below = below-there y has_y in
        column-right p adding (there x) (there y) (column_at made x) y kept (column-there x x_below) origins-are-once
        (origin-there y y_below) (stands-there y y_below)
        (subst (λ n. kept < n) (sets-there x y x_below y_below) below);
  }
