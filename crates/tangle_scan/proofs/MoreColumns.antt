-- New columns, one after the other, and what is known of the old ones.
use Rattle.std.proofs.Common.{◌≡◌, ℕ, ◌+◌, ◌^◌, ◌<◌, ◌∙◌, List, [], ◌∷◌, ◌++◌, get_or, length, map, sym, subst, ap, arith, true, false}
use Rattle.std.specs.Prelude.{OnOk, Result}
use Rattle.std.specs.Global.{Vec}
use Rattle.std.specs.List.{range_with_len}
use Rattle.std.proofs.lemmas.List.{get_or-map, length-map}
use Rattle.std.proofs.lemmas.List.Elements.{All-get_or, All-map, Contains-get_or}
use Rattle.tangle_maps.specs.Sums.{AreReduced}
use Rattle.crossing_maps.specs.declared.splitting.Split.{Split}
use Rattle.scan_laws.specs.Adding.{Origin, origin_of, origins_with}
use Rattle.tangle_scan.specs.declared.adding.Adding.{Adding}
use Rattle.tangle_scan.specs.declared.adding.children.Child.{Child}
use Rattle.tangle_scan.specs.declared.complex.Entry.{Entry}
use Rattle.tangle_scan.specs.Additions.{AreColumnsFrom, IsColumnFrom, IsSplitAt, code_in, objects_in, origin_in, origins_to, scan_in}
use Rattle.tangle_scan.specs.Held.{IsColumn, IsComplexAt, column_at, is_alive_at, terms_to}
use Rattle.tangle_scan.proofs.ZippedLists.{zip-push}
use Rattle.tangle_scan.proofs.ChildPlaces.{labels-more, origin-same, origins-alive, origins-dead, origins-split}
use Rattle.tangle_scan.proofs.NewColumns.{own-terms}

module _ (p : ℕ) (adding : Adding) where
  -- labels one after the other
  pub columns-more : (from : List Origin) (object smoothing label : ℕ) (child : Child) (made more : List (Vec Entry)) (column : Vec Entry)
      → child.parent ≡ object → child.side.smoothing ≡ smoothing → child.label ≡ label
      → AreColumnsFrom p adding (from ++ map (origin_of object smoothing) (range_with_len 0 label)) made
      → IsColumnFrom p adding (origin_in child) column.items → more ≡ made ++ column ∷ []
      → AreColumnsFrom p adding (from ++ map (origin_of object smoothing) (range_with_len 0 (label + 1))) more
  columns-more from object smoothing label child made more column same_object same_smoothing same_label all is pushed =
      let before = from ++ map (origin_of object smoothing) (range_with_len 0 label) in
      subst (λ xs. AreColumnsFrom p adding xs more) (labels-more (origin_of object smoothing) from label)
      (subst (λ w. AreColumnsFrom p adding (before ++ w ∷ []) more)
      (origin-same child object smoothing label same_object same_smoothing same_label)
      (subst (λ (columns : List (Vec Entry)). AreColumnsFrom p adding (before ++ origin_in child ∷ []) columns) (sym pushed)
      (zip-push (λ origin column. IsColumnFrom p adding origin column.items) before (origin_in child) made column all is)))

  pub columns-all : (from : List Origin) (object smoothing label : ℕ) (split : Split) (made : List (Vec Entry))
      → IsSplitAt adding object smoothing split → label ≡ 2 ^ length split.closed.items
      → AreColumnsFrom p adding (from ++ map (origin_of object smoothing) (range_with_len 0 label)) made
      → AreColumnsFrom p adding (from ++ origins_with (code_in adding) (scan_in adding) object smoothing) made
  columns-all from object smoothing label split made at all has =
      subst (λ xs. AreColumnsFrom p adding (from ++ xs) made) (origins-split adding object smoothing split at)
      (subst (λ n. AreColumnsFrom p adding (from ++ map (origin_of object smoothing) (range_with_len 0 n)) made) all has)

  pub columns-both : {T E : Type 0} (r : Result T E) (place : ℕ) (made : List (Vec Entry)) → is_alive_at (objects_in adding) place ≡ true
      → OnOk r (AreColumnsFrom p adding
      ((origins_to adding place ++ origins_with (code_in adding) (scan_in adding) place 0)
      ++ origins_with (code_in adding) (scan_in adding) place 1) made)
      → OnOk r (AreColumnsFrom p adding (origins_to adding (place + 1)) made)
  columns-both r place made is has = subst (λ xs. OnOk r (AreColumnsFrom p adding xs made)) (sym (origins-alive adding place is)) has

  pub columns-dead : (place : ℕ) (made : List (Vec Entry)) → is_alive_at (objects_in adding) place ≡ false
      → AreColumnsFrom p adding (origins_to adding place) made → AreColumnsFrom p adding (origins_to adding (place + 1)) made
  columns-dead place made is has = subst (λ xs. AreColumnsFrom p adding xs made) (sym (origins-dead adding place is)) has

  -- an old column
  pub column-known : (place : ℕ) → IsComplexAt p adding.front.now adding.complex.now → place < length (objects_in adding)
      → IsColumn p (length (objects_in adding)) (column_at adding.complex.now place)
  column-known place complex within =
      let columns = adding.complex.now.columns.items in
      let items = λ (column : Vec Entry). column.items in
      All-get_or (IsColumn p (length (objects_in adding))) (map items columns) place []
      (omega (arith, within, complex.size, length-map columns items))
      (All-map (IsColumn p (length (objects_in adding))) items columns complex.columns)

  pub column-read : (place : ℕ) (column : Vec Entry) → IsComplexAt p adding.front.now adding.complex.now
      → place < length (objects_in adding) → column ≡ get_or adding.complex.now.columns.items place column
      → column.items ≡ column_at adding.complex.now place
  column-read place column complex within is =
      let items = λ (v : Vec Entry). v.items in
      ap items is
      ∙ sym (get_or-map items adding.complex.now.columns.items place column [] (omega (arith, within, complex.size)))

-- an entry of a column
pub record IsItem (p n : ℕ) (column : List Entry) (entry : Entry) : Type 0 where
  pub head : entry.head < n
  pub reduced : AreReduced p entry.terms.items
  pub terms : entry.terms.items ≡ terms_to column entry.head

pub item-known : (p n : ℕ) (column : List Entry) (k : ℕ) (entry : Entry) → IsColumn p n column → k < length column
    → entry ≡ get_or column k entry → IsItem p n column entry
item-known p n column k entry is within there =
    subst (λ (e : Entry). IsItem p n column e) (sym there)
    (record {
      head = is.heads k entry within;
      reduced = is.reduced k entry within;
      terms = sym (own-terms column (get_or column k entry) (Contains-get_or column k entry within) (is.once (get_or column k entry).head));
    })

pub item-at : (p : ℕ) (adding : Adding) (place : ℕ) (entries : List Entry) (k : ℕ) (entry : Entry)
    → IsComplexAt p adding.front.now adding.complex.now → place < length (objects_in adding)
    → entries ≡ column_at adding.complex.now place → k < length entries → entry ≡ get_or entries k entry
    → IsItem p (length (objects_in adding)) (column_at adding.complex.now place) entry
item-at p adding place entries k entry complex within are below is =
    subst (λ (xs : List Entry). IsItem p (length (objects_in adding)) xs entry) are
    (item-known p (length (objects_in adding)) entries k entry
    (subst (λ (xs : List Entry). IsColumn p (length (objects_in adding)) xs) (sym are) (column-known p adding place complex within)) below
    is)
